-- What goes the short way in arrives.
use Rattle.std.proofs.Common.{◌≡◌, ℕ, Bool, true, false, ◌&&◌, ◌||◌, not, List, Option, Some, None, refl, sym, ap, ◌∙◌, subst}
use Rattle.std.specs.Prelude.{if◌then◌else◌}
use Rattle.std.proofs.lemmas.Bool.{and_parts}
use Rattle.std.specs.List.{list_any}
use Rattle.net_base.specs.Capabilities.{verifies}
use Rattle.ip_wire.specs.AddressTests.{is_loopback_v4}
use Rattle.ip_wire.specs.declared.ethernet.repr.EthernetRepr.{EthernetRepr}
use Rattle.ip_wire.specs.EthernetAddress.{EthernetAddress}
use Rattle.ip_wire.specs.HardwareAddress.{HardwareAddress}
use Rattle.ip_wire.specs.HardwareAddress.TheVariants as Hardware
use Rattle.ip_wire.specs.IpAddress.TheVariants as Address
use Rattle.ip_wire.specs.IpRepr.TheVariants as Ip
use Rattle.ip_wire.specs.Ipv4 as Ipv4
use Rattle.ip_wire.specs.Ipv4Address.{Ipv4Address}
use Rattle.ip_wire.specs.Ipv4Fragment.{Ipv4Fragment}
use Rattle.ip_wire.specs.Ipv4Repr.{Ipv4Repr}
use Rattle.iface_tables.specs.Inner.{InnerValue, is_local, is_member_of, is_local_broadcast, is_loopback_in, is_loopback_of, is_for_us, never_comes}
use Rattle.iface_ingress.specs.Arrives.{Arrived, Arrives, ArrivesAs, ArrivesV4, Brings, Hands, renewed, assemblers_after, whole_after, whole_arrived}
use Rattle.iface_ingress.specs.Delivered.{Slots, is_taken_raw, packet_delivered}
use Rattle.iface_ingress.specs.Incoming.{IncomingValue, Ip4, IsContent, IsPacketV4}
use Rattle.iface_ingress.specs.Reassembled.{Assemblers, passes_filter, is_group_frame, is_misframed, is_sender, is_fragment, is_taken_in, taken_in, part_of, part_v4, with_room}
use Rattle.iface_ingress.specs.Replies.{is_one_host}
use Rattle.iface_ingress.specs.FastPath.{StandsFollowing, StandsIn, is_plain, is_fast, TakesPacket}
use Rattle.iface_ingress.proofs.FragmentAssemblers.{assemblers_stay, whole_stays}
use Rattle.iface_ingress.proofs.Roomed.{room_for_none}

record IsPlain (l m s o n : Bool) : Type 0 where
  from : l ≡ false
  loopback : m ≡ false
  sender : s ≡ true
  local : o ≡ true
  seen : n ≡ false

plain_by : (l m s o n : Bool) → (not (l || m) && s && o && not n) ≡ true → IsPlain l m s o n
plain_by false false true true false is = record { from = refl; loopback = refl; sender = refl; local = refl; seen = refl }
plain_by true m s o n is = absurd cc
plain_by false true s o n is = absurd cc
plain_by false false false o n is = absurd cc
plain_by false false true false n is = absurd cc
plain_by false false true true true is = absurd cc

in_by : (h s l x m y n f : Bool) → h ≡ true → s ≡ true → l ≡ false → m ≡ false → n ≡ false → f ≡ false
    → (h && s && not ((l && x) || ((m && y) || n)) && not f) ≡ true
in_by true true false x false y false false _ _ _ _ _ _ = refl
in_by true true false x false y false true _ _ _ _ _ is = absurd cc
in_by true true false x false y true f _ _ _ _ is _ = absurd cc
in_by false s l x m y n f is _ _ _ _ _ = absurd cc
in_by true false l x m y n f _ is _ _ _ _ = absurd cc
in_by true true true x m y n f _ _ is _ _ _ = absurd cc
in_by true true false x true y n f _ _ _ is _ _ = absurd cc

ungrouped : (group one : Bool) → not group ≡ true → (group && one) ≡ false
ungrouped false one is = refl
ungrouped true one is = absurd cc

us_by : (o b c d : Bool) → o ≡ true → (o || b || c || d) ≡ true
us_by true b c d is = refl
us_by false b c d is = absurd cc

whole_by : (c p : Bool) → (not c && p) ≡ true → (c ≡ false) × (p ≡ true)
whole_by false true is = (refl, refl)
whole_by true p is = absurd cc
whole_by false false is = absurd cc

arrives : (i : InnerValue) (timeout : ℕ) (assemblers : Assemblers) (slots : Slots) (link : Option EthernetRepr) (header : Ipv4Repr) (fragment : Ipv4Fragment)
    (payload : List ℕ) (a : Arrived) → passes_filter i link ≡ true → is_misframed i link header.dst_addr ≡ false → is_fragment fragment ≡ false →
    is_plain i header ≡ true →
    Hands (renewed i link (Ip.Ipv4 header)) (packet_delivered (Ip.Ipv4 header) payload slots) (Ip.Ipv4 header) payload
    (is_taken_raw (Ip.Ipv4 header) slots) a →
    ArrivesAs i timeout assemblers slots (Some (Ip4 link header fragment payload)) assemblers a
arrives i timeout assemblers slots link header fragment payload a heard framed uncut is hands =
    let content : Option IncomingValue = Some (Ip4 link header fragment payload) in
    let plain =
    plain_by (is_loopback_v4 header.src_addr) (is_loopback_v4 header.dst_addr) (is_sender i header.src_addr) (is_local i (Address.Ipv4 header.dst_addr))
    (never_comes i (Address.Ipv4 header.src_addr) (Address.Ipv4 header.dst_addr)) is in
    let let_in : is_taken_in i (Ip4 link header fragment payload) ≡ true =
    in_by (passes_filter i link) (is_sender i header.src_addr) (is_loopback_v4 header.src_addr)
    (not (list_any (is_loopback_of (Address.Ipv4 header.src_addr)) i.addresses)) (is_loopback_v4 header.dst_addr)
    (not (list_any (is_loopback_of (Address.Ipv4 header.dst_addr)) i.addresses))
    (never_comes i (Address.Ipv4 header.src_addr) (Address.Ipv4 header.dst_addr)) (is_misframed i link header.dst_addr) heard plain.sender plain.from
    plain.loopback plain.seen framed in
    let taken : taken_in i content ≡ content = ap (λ (b : Bool). if b then content else None) let_in in
    let none : part_of content ≡ None = ap (λ (b : Bool). if b then Some (part_v4 header fragment payload) else None) uncut in
    let us : is_for_us i (Address.Ipv4 header.dst_addr) ≡ true =
    us_by (is_local i (Address.Ipv4 header.dst_addr)) (is_member_of i (Address.Ipv4 header.dst_addr)) (is_local_broadcast i (Address.Ipv4 header.dst_addr))
    (is_loopback_in (Address.Ipv4 header.dst_addr)) plain.local in
    let brings : Brings i slots content a = subst (λ (b : Bool). ArrivesV4 b i slots link (Ip.Ipv4 header) payload a) (sym us) hands in
    let room : with_room i assemblers (taken_in i content) ≡ assemblers =
    ap (with_room i assemblers) taken ∙ room_for_none i assemblers content none in
    let same : whole_arrived i timeout assemblers content ≡ content =
    ap (λ (s : Assemblers). whole_after i timeout s (taken_in i content)) room ∙ ap (whole_after i timeout assemblers) taken
    ∙ whole_stays i timeout assemblers content none in (
      sym (ap (λ (s : Assemblers). assemblers_after i timeout s (taken_in i content)) room ∙ ap (assemblers_after i timeout assemblers) taken
          ∙ assemblers_stay i timeout assemblers content none),
      subst (λ (o : Option IncomingValue). Brings i slots o a) (sym same) brings,
    )

-- BOTH MEDIA

-- a packet that is the content of a frame, and in a frame that is received
content_arrives : (hardware : HardwareAddress) (i : InnerValue) (timeout : ℕ) (assemblers : Assemblers) (slots : Slots) (frame : List ℕ) (link : Option EthernetRepr)
    (bytes : List ℕ) (a : Arrived) → i.hardware ≡ hardware → passes_filter i link ≡ true →
    ((destination : Ipv4Address) → is_misframed i link destination ≡ false) → (takes : TakesPacket i slots link bytes a) →
    IsContent hardware i.checksums frame (Some (Ip4 link takes.0 takes.1 takes.2)) → Arrives i timeout assemblers slots frame assemblers a
content_arrives hardware i timeout assemblers slots frame link bytes a medium heard framed takes is =
    let content : Option IncomingValue = Some (Ip4 link takes.0 takes.1 takes.2) in
    let whole = whole_by (is_fragment takes.1) (is_plain i takes.0) takes.4 in (
      content,
      subst (λ (h : HardwareAddress). IsContent h i.checksums frame content) (sym medium) is,
      arrives i timeout assemblers slots link takes.0 takes.1 takes.2 a heard (framed takes.0.dst_addr) whole.0 whole.1 takes.5,
    )

bare_arrives : (i : InnerValue) (timeout : ℕ) (assemblers : Assemblers) (slots : Slots) (frame : List ℕ) (link : Option EthernetRepr) (bytes : List ℕ)
    (a : Arrived) → i.hardware ≡ Hardware.Ip → link ≡ None → bytes ≡ frame → TakesPacket i slots link bytes a → Arrives i timeout assemblers slots frame assemblers a
bare_arrives i timeout assemblers slots frame (Some link) bytes a medium none same takes = absurd (let e = none in cc e)
bare_arrives i timeout assemblers slots frame None bytes a medium none same takes =
    content_arrives Hardware.Ip i timeout assemblers slots frame None bytes a medium refl (λ destination. refl) takes
    (subst (λ (b : List ℕ). IsPacketV4 i.checksums b takes.0 takes.1 takes.2) same takes.3)

framed_arrives : (local : EthernetAddress) (i : InnerValue) (timeout : ℕ) (assemblers : Assemblers) (slots : Slots) (frame : List ℕ) (link : Option EthernetRepr)
    (bytes : List ℕ) (a : Arrived) → i.hardware ≡ Hardware.Ethernet local → StandsFollowing i frame link bytes → TakesPacket i slots link bytes a →
    Arrives i timeout assemblers slots frame assemblers a
framed_arrives local i timeout assemblers slots frame None bytes a medium stands takes = absurd stands
framed_arrives local i timeout assemblers slots frame (Some link) bytes a medium stands takes =
    let is = and_parts (passes_filter i (Some link)) (not (is_group_frame i link.dst_addr)) stands.1 in
    content_arrives (Hardware.Ethernet local) i timeout assemblers slots frame (Some link) bytes a medium is.0
    (λ destination. ungrouped (is_group_frame i link.dst_addr) (is_one_host i destination) is.1) takes
    (stands.0, subst (λ (b : List ℕ). IsPacketV4 i.checksums b takes.0 takes.1 takes.2) stands.2 takes.3)

pub packet_arrives : (hardware : HardwareAddress) (i : InnerValue) (timeout : ℕ) (assemblers : Assemblers) (slots : Slots) (frame : List ℕ) (link : Option EthernetRepr)
    (bytes : List ℕ) (a : Arrived) → i.hardware ≡ hardware → StandsIn hardware i frame link bytes → TakesPacket i slots link bytes a →
    Arrives i timeout assemblers slots frame assemblers a
packet_arrives Hardware.Ip i timeout assemblers slots frame link bytes a medium stands takes =
    bare_arrives i timeout assemblers slots frame link bytes a medium stands.0 stands.1 takes
packet_arrives (Hardware.Ethernet local) i timeout assemblers slots frame link bytes a medium stands takes =
    framed_arrives local i timeout assemblers slots frame link bytes a medium stands takes

pub taken : (i : InnerValue) (slots : Slots) (link : Option EthernetRepr) (bytes : List ℕ) (header : Ipv4Repr) (fragment : Ipv4Fragment) (payload : List ℕ)
    (a : Arrived) → Ipv4.IsIpv4 (verifies i.checksums.ipv4) bytes header → fragment ≡ Ipv4.fragment_of bytes → payload ≡ Ipv4.payload_of bytes →
    is_fast i header fragment ≡ true →
    Hands (renewed i link (Ip.Ipv4 header)) (packet_delivered (Ip.Ipv4 header) payload slots) (Ip.Ipv4 header) payload
    (is_taken_raw (Ip.Ipv4 header) slots) a →
    TakesPacket i slots link bytes a
taken i slots link bytes header fragment payload a is fragment_is payload_is short hands =
    (header, fragment, payload, record { format = is; fragment_is = fragment_is; payload_is = payload_is }, short, hands)
