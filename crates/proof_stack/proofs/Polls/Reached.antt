-- What a packet in a frame carries is handed to the sockets, and a datagram reaches the socket that it is for.
use Rattle.std.proofs.Common.{◌≡◌, ℕ, ◌+◌, Bool, true, false, not, if◌then◌else◌, cond, ℤ, List, [], ◌∷◌, ◌++◌, length, map, Option, Some, None, refl, sym, ap, ◌∙◌}
use Rattle.std.proofs.Common.{subst}
use Rattle.std.specs.Prelude.{zero, suc, slice_get, slice_set, position, nat_lt}
use Rattle.std.specs.List.{prefix_len, position_or_len}
use Rattle.std.proofs.lemmas.Bool.{cond_both}
use Rattle.net_base.specs.Device.{Move, Took}
use Rattle.net_base.specs.Packets.{contents, is_full_for, appended}
use Rattle.base_buffer.proofs.PacketLaws.{contents-appended}
use Rattle.net_base.specs.ChecksumCapabilities.{ChecksumCapabilities}
use Rattle.wire_address.specs.declared.hardware.HardwareAddress.{HardwareAddress}
use Rattle.wire_address.specs.declared.ip.IpAddress.{IpAddress}
use Rattle.wire_address.specs.declared.ip.IpProtocol.{IpProtocol}
use Rattle.wire_address.specs.declared.ip.IpProtocol.TheVariants as Protocol
use Rattle.wire_ip.specs.Ip.{carried_in, destination_of}
use Rattle.wire_ip.specs.declared.ip.repr.IpRepr.{IpRepr}
use Rattle.wire_ip.specs.declared.ip.repr.IpRepr.TheVariants as Ip
use Rattle.wire_ip.specs.declared.udp.repr.UdpRepr.{UdpRepr}
use Rattle.ip_wire.specs.TcpHeader.{TcpHeader}
use Rattle.ip_wire.specs.declared.ethernet.repr.EthernetRepr.{EthernetRepr}
use Rattle.socket_datagram.specs.Raw as Raws
use Rattle.socket_datagram.specs.Raw.{RawValue}
use Rattle.socket_datagram.specs.Udp.{UdpValue, process_after, metadata_of}
use Rattle.sockets.specs.Socket.{accepts_packet, accepts_datagram, accepts_segment}
use Rattle.iface_ingress.specs.Context.{ContextValue}
use Rattle.iface_ingress.specs.Packet.{PayloadValue, Datagram}
use Rattle.iface_ingress.specs.Socket.{Socket}
use Rattle.iface_ingress.specs.Socket.TheVariants as Kind
use Rattle.iface_ingress.specs.Arrives.{Arrived, Brings, Hands, renewed, renewed_by, is_direct, sender_of, whole_after}
use Rattle.iface_ingress.specs.UpperLayer.{IsCarriedContent}
use Rattle.iface_ingress.specs.Datagrams.{GivenIn, GivenAt}
use Rattle.iface_ingress.specs.Delivered.{with_change, given, passes, passes_in, packet_delivered, with_packet, is_taken_raw, datagram_slot}
use Rattle.iface_ingress.specs.Delivered.{first_slot, is_connected, segment_slot}
use Rattle.iface_ingress.specs.Processed.{HandsTo, names_no_endpoint}
use Rattle.iface_ingress.specs.Following.{Following}
use Rattle.iface_ingress.specs.Following.TheVariants as End
use Rattle.iface_ingress.specs.Headers as Headers
use Rattle.iface_ingress.specs.Headers.{upper_of}
use Rattle.iface_ingress.specs.Incoming.{IncomingValue, Ip6, IsContent}
use Rattle.iface_ingress.specs.Reassembled.{Assemblers, following_headers, is_taken_in, slot_in, kept, bytes_at, reassembled_v6, with_room}
use Rattle.iface_ingress.specs.Sent.{uncut}
use Rattle.iface_ingress.specs.Upper.{IsBrought, upper_header, upper_payload}
use Rattle.iface_ingress.proofs.OneContent.{one-content, one-carried-content}
use Rattle.iface_tables.specs.Inner.{InnerValue, at_instant, context_of, is_for_us, with_renewal}
use Rattle.iface_tables.specs.Reassembly.{or_else}
use Rattle.iface_egress.specs.declared.socket_meta.Meta.{Meta}
use Rattle.iface_egress.specs.declared.socket_set.Item.{Item}
use Rattle.iface_egress.specs.declared.socket_set.SocketStorage.{SocketStorage}
use Rattle.interface.specs.Host.{maintained}
use Rattle.interface.specs.Ingress.{IngressStep, Reads, Receives}
use Rattle.interface.specs.State.{State, state, at_device}
use Rattle.proof_stack.specs.Progress.Reached.{IsFor, udp_slot}

abbrev Slots : Type 0
Slots = List (SocketStorage Socket)

abbrev slot_with : Option (Item Socket) → SocketStorage Socket
slot_with o = record { inner = o }

abbrev no_slot : Option (SocketStorage Socket)
no_slot = None

-- LISTS OF PLACES

get_map : (f : SocketStorage Socket → SocketStorage Socket) (ps : Slots) (n : ℕ) (p : SocketStorage Socket) → slice_get ps n ≡ Some p
    → slice_get (map f ps) n ≡ Some (f p)
get_map f [] n p is = absurd (let never : no_slot ≡ Some p = is in cc)
get_map f (q ∷ ps) zero p is = ap (λ (x : SocketStorage Socket). Some (f x)) (let same : Some q ≡ Some p = is in let at : q ≡ p = cc in at)
get_map f (q ∷ ps) (suc n) p is = get_map f ps n p is

pub get_set : (ps : Slots) (n : ℕ) (p q : SocketStorage Socket) → slice_get ps n ≡ Some p → slice_get (slice_set ps n q) n ≡ Some q
get_set [] n p q is = absurd (let never : no_slot ≡ Some p = is in cc)
get_set (x ∷ ps) zero p q is = refl
get_set (x ∷ ps) (suc n) p q is = get_set ps n p q is

module _ (test : SocketStorage Socket → Bool) (f : SocketStorage Socket → SocketStorage Socket) (same : (p : SocketStorage Socket) → test (f p) ≡ test p) where
  same_prefix : (ps : Slots) → prefix_len (λ p. not (test p)) (map f ps) ≡ prefix_len (λ p. not (test p)) ps
  same_prefix [] = refl
  same_prefix (p ∷ ps) =
      ap (λ (b : Bool). cond (not b) (1 + prefix_len (λ p. not (test p)) (map f ps)) 0) (same p)
      ∙ ap (λ (n : ℕ). cond (not (test p)) (1 + n) 0) (same_prefix ps)

  same_length : (ps : Slots) → length (map f ps) ≡ length ps
  same_length [] = refl
  same_length (p ∷ ps) = ap suc (same_length ps)

  same_position : (ps : Slots) → position test (map f ps) ≡ position test ps
  same_position ps =
      ap (λ (n : ℕ). cond (nat_lt n (length (map f ps))) (Some n) None) (same_prefix ps)
      ∙ ap (λ (n : ℕ). cond (nat_lt (position_or_len test ps) n) (Some (position_or_len test ps)) None) (same_length ps)

-- RAW SOCKETS GET THE PACKET FIRST, which is no matter to the others

module _ (ip : IpRepr) (payload : List ℕ) (takes : Socket → Bool) (raws : (v v' : RawValue) → takes (Kind.Raw v) ≡ takes (Kind.Raw v')) where
  abbrev raw : SocketStorage Socket → SocketStorage Socket
  raw slot = with_change (given (λ s. accepts_packet s ip) (with_packet ip payload)) slot

  socket_takes : (s : Socket) → takes (given (λ x. accepts_packet x ip) (with_packet ip payload) s) ≡ takes s
  socket_takes (Kind.Raw v) =
      cond_both (accepts_packet (Kind.Raw v) ip) (with_packet ip payload (Kind.Raw v)) (Kind.Raw v) (λ (x : Socket). takes x ≡ takes (Kind.Raw v))
      (λ _. raws (Raws.process_after v ip payload) v) (λ _. refl)
  socket_takes (Kind.Icmp v) = refl
  socket_takes (Kind.Udp v) = refl
  socket_takes (Kind.Tcp v) = refl
  socket_takes (Kind.Dhcpv4 v) = refl
  socket_takes (Kind.Dns v) = refl

  slot_takes : (slot : SocketStorage Socket) → passes takes (raw slot) ≡ passes takes slot
  slot_takes slot = by slot.inner where
    by : (o : Option (Item Socket)) → passes_in takes (raw (slot_with o)).inner ≡ passes_in takes o
    by None = refl
    by (Some item) = socket_takes item.socket

  same_first : (slots : Slots) → first_slot takes (packet_delivered ip payload slots) ≡ first_slot takes slots
  same_first slots = same_position (passes takes) raw slot_takes slots

-- so one that isn't raw stays as it is
pub stands_still : (ip : IpRepr) (payload : List ℕ) (slots : Slots) (m : ℕ) (meta : Meta) (s : Socket)
    → ((v : RawValue) → s ≡ Kind.Raw v → ⊥) → slice_get slots m ≡ Some (record { inner = Some (record { meta = meta; socket = s }) })
    → slice_get (packet_delivered ip payload slots) m ≡ Some (record { inner = Some (record { meta = meta; socket = s }) })
stands_still ip payload slots m meta s other stands =
    get_map (with_change (given (λ x. accepts_packet x ip) (with_packet ip payload))) slots m (record { inner = Some (record { meta = meta; socket = s }) }) stands
    ∙ ap (λ (x : Socket). Some (slot_with (Some (record { meta = meta; socket = x })))) (same s other)
  where
    same : (x : Socket) → ((v : RawValue) → x ≡ Kind.Raw v → ⊥) → given (λ y. accepts_packet y ip) (with_packet ip payload) x ≡ x
    same (Kind.Raw v) other = absurd (other v refl)
    same (Kind.Icmp v) other = refl
    same (Kind.Udp v) other = refl
    same (Kind.Tcp v) other = refl
    same (Kind.Dhcpv4 v) other = refl
    same (Kind.Dns v) other = refl

pub same_connected : (ip' : IpRepr) (payload : List ℕ) (ip : IpRepr) (header : TcpHeader) (slots : Slots)
    → first_slot (λ s. is_connected s ip header) (packet_delivered ip' payload slots) ≡ first_slot (λ s. is_connected s ip header) slots
same_connected ip' payload ip header slots = same_first ip' payload (λ s. is_connected s ip header) (λ v v'. refl) slots

pub same_segment_slot : (ip : IpRepr) (payload : List ℕ) (header : TcpHeader) (slots : Slots)
    → segment_slot ip header (packet_delivered ip payload slots) ≡ segment_slot ip header slots
same_segment_slot ip payload header slots =
    ap (λ (o : Option ℕ). or_else o (first_slot (λ s. accepts_segment s ip header) (packet_delivered ip payload slots)))
    (same_connected ip payload ip header slots)
    ∙ ap (λ (o : Option ℕ). or_else (first_slot (λ s. is_connected s ip header) slots) o)
    (same_first ip payload (λ s. accepts_segment s ip header) (λ v v'. refl) slots)

-- THE HOST THAT TAKES THE FRAME

renewed_keeps : (P : InnerValue → Type 0) (i : InnerValue) (link : Option EthernetRepr) (ip : IpRepr) → P i
    → ((sender : IpAddress) (hardware : HardwareAddress) → P (with_renewal i sender hardware)) → P (renewed i link ip)
renewed_keeps P i link ip same more =
    cond_both (is_direct i ip) (renewed_by i link (sender_of ip)) i P (λ _. by link) (λ _. same) where
      by : (l : Option EthernetRepr) → P (renewed_by i l (sender_of ip))
      by None = same
      by (Some l) = more (sender_of ip) (Rattle.wire_address.specs.declared.hardware.HardwareAddress.TheVariants.Ethernet l.src_addr)

pub same_context : (i : InnerValue) (link : Option EthernetRepr) (ip : IpRepr) → context_of (renewed i link ip) ≡ context_of i
same_context i link ip = renewed_keeps (λ (x : InnerValue). context_of x ≡ context_of i) i link ip refl (λ sender hardware. refl)

-- a host that learns a sender's address again is for nobody else
pub same_names : (i : InnerValue) (link : Option EthernetRepr) (ip : IpRepr) → names_no_endpoint (renewed i link ip) ip ≡ names_no_endpoint i ip
same_names i link ip = renewed_keeps (λ (x : InnerValue). names_no_endpoint x ip ≡ names_no_endpoint i ip) i link ip refl (λ sender hardware. by sender hardware ip) where
  by : (sender : IpAddress) (hardware : HardwareAddress) (h : IpRepr) → names_no_endpoint (with_renewal i sender hardware) h ≡ names_no_endpoint i h
  by sender hardware (Ip.Ipv4 v) = refl
  by sender hardware (Ip.Ipv6 v) = refl

-- no fragment of a datagram
abbrev pub IsNoFragment : IpRepr → List ℕ → Type 0
IsNoFragment (Ip.Ipv4 header) payload = Unit {0}
IsNoFragment (Ip.Ipv6 header) payload = Headers.is_fragment (following_headers header payload) ≡ false

-- it is none where this protocol is after its headers
not_cut : (following : Following) (protocol : IpProtocol) → upper_of following ≡ protocol → (protocol ≡ Protocol.Ipv6NoNxt → ⊥) → Headers.is_fragment following ≡ false
not_cut (End.FragmentPart at) protocol is other = absurd (other (sym is))
not_cut (End.Upper carried at) protocol is other = refl
not_cut (End.Problem problem pointer) protocol is other = refl
not_cut End.Nothing protocol is other = refl

pub no_fragment : (ip : IpRepr) (payload : List ℕ) (protocol : IpProtocol) → carried_in (upper_header ip payload) ≡ protocol
    → (protocol ≡ Protocol.Ipv6NoNxt → ⊥) → IsNoFragment ip payload
no_fragment (Ip.Ipv4 header) payload protocol is other = tt
no_fragment (Ip.Ipv6 header) payload protocol is other = not_cut (following_headers header payload) protocol is other

-- A whole packet after this link header brings this to the host, which takes it in.
module _ (i : InnerValue) (slots : Slots) (link : Option EthernetRepr) (ip : IpRepr) (payload : List ℕ) (x : PayloadValue)
    (carries : IsBrought i.checksums ip payload (Some x)) where
  abbrev then_host : InnerValue
  then_host = renewed i link ip

  abbrev then_slots : Slots
  then_slots = packet_delivered ip payload slots

  abbrev Handed : Slots → Type 0
  Handed slots' = HandsTo then_host then_slots ip (Some x) slots'

  same_checksums : then_host.checksums ≡ i.checksums
  same_checksums = renewed_keeps (λ (y : InnerValue). y.checksums ≡ i.checksums) i link ip refl (λ sender hardware. refl)

  handed : (a : Arrived) → Hands then_host then_slots ip payload (is_taken_raw ip slots) a → Handed a.slots
  handed a hands =
      let carried : Option PayloadValue = hands.0 in
      let ours : IsCarriedContent i.checksums (upper_header ip payload) (upper_payload ip payload) carried =
      subst (λ (caps : ChecksumCapabilities). IsCarriedContent caps (upper_header ip payload) (upper_payload ip payload) carried) same_checksums hands.1 in
      let same : carried ≡ Some x = one-carried-content i.checksums (upper_header ip payload) (upper_payload ip payload) carried (Some x) ours carries in
      subst (λ (y : Option PayloadValue). HandsTo then_host then_slots ip y a.slots) same hands.2.slots_are

brought : (i : InnerValue) (slots : Slots) (link : Option EthernetRepr) (ip : IpRepr) (payload : List ℕ) (x : PayloadValue)
    (carries : IsBrought i.checksums ip payload (Some x)) → IsNoFragment ip payload → is_for_us i (destination_of ip) ≡ true
    → (timeout : ℕ) (assemblers : Assemblers) (a : Arrived) → Brings i slots (whole_after i timeout assemblers (Some (uncut link ip payload))) a
    → Handed i slots link ip payload x carries a.slots
brought i slots link (Ip.Ipv4 header) payload x carries whole ours timeout assemblers a goes =
    handed i slots link (Ip.Ipv4 header) payload x carries a
    (subst (λ (b : Bool). Rattle.iface_ingress.specs.Arrives.ArrivesV4 b i slots link (Ip.Ipv4 header) payload a) ours goes)
brought i slots link (Ip.Ipv6 header) payload x carries whole ours timeout assemblers a goes =
    let content : Option IncomingValue = Some (Ip6 link header payload) in
    let arrives : Brings i slots content a =
    subst (λ (fragment : Bool). Brings i slots
    (if fragment then reassembled_v6 link header (bytes_at (slot_in assemblers content) (kept i timeout assemblers content)) else content) a)
    whole goes in
    handed i slots link (Ip.Ipv6 header) payload x carries a
    (subst (λ (b : Bool). Rattle.iface_ingress.specs.Arrives.ArrivesV6 b i slots link (Ip.Ipv6 header) payload a) ours arrives)

-- a step of the ingress path hands it to the sockets
pub hands_over : {D : Type 0} (moves : D → Move → D → Type 0) (t : ℤ) (s s' : State D) (frame : List ℕ) (link : Option EthernetRepr) (ip : IpRepr)
    (payload : List ℕ) (x : PayloadValue) (carries : IsBrought (at_instant t s.host.inner).checksums ip payload (Some x))
    → ((other : List ℕ) (d : D) → moves s.device (Took t other) d → other ≡ frame)
    → IsContent s.host.inner.hardware s.host.inner.checksums frame (Some (uncut link ip payload))
    → IsNoFragment ip payload → is_taken_in (at_instant t s.host.inner) (uncut link ip payload) ≡ true
    → is_for_us (at_instant t s.host.inner) (destination_of ip) ≡ true → IngressStep moves t s (Some true) s'
    → Handed (at_instant t s.host.inner) s.slots link ip payload x carries s'.slots
hands_over {D} moves t s s' frame link ip payload x carries only content whole listens ours step =
    let i : InnerValue = at_instant t s.host.inner in
    let reads : Reads moves frame (at_device (state s.device (maintained t s.host) s.slots) step.1) s' =
    subst (λ (f : List ℕ). Reads moves f (at_device (state s.device (maintained t s.host) s.slots) step.1) s') (only step.0 step.1 step.2) step.4 in
    let same : reads.0 ≡ Some (uncut link ip payload) =
    one-content i.hardware i.checksums frame reads.0 (Some (uncut link ip payload)) reads.1 content in
    let receives : Receives moves (Some (uncut link ip payload)) (at_device (state s.device (maintained t s.host) s.slots) step.1) s' =
    subst (λ (v : Option IncomingValue). Receives moves v (at_device (state s.device (maintained t s.host) s.slots) step.1) s') same reads.2 in
    let a : Arrived = receives.0 in
    let room : Option IncomingValue → Assemblers = λ o. with_room i (maintained t s.host).assemblers o in
    let brings : Brings i s.slots (whole_after i s.host.timeout (room (Some (uncut link ip payload))) (Some (uncut link ip payload))) a =
    subst (λ (b : Bool). Brings i s.slots (whole_after i s.host.timeout (room (if b then Some (uncut link ip payload) else None))
    (if b then Some (uncut link ip payload) else None)) a) listens receives.1.1 in
    subst (λ (ps : Slots). Handed i s.slots link ip payload x carries ps) (sym receives.2)
    (brought i s.slots link ip payload x carries whole ours s.host.timeout (room (Some (uncut link ip payload))) a brings)

-- A DATAGRAM

module _ (i : InnerValue) (slots : Slots) (link : Option EthernetRepr) (ip : IpRepr) (payload : List ℕ) (udp : UdpRepr) (bytes : List ℕ) (m : ℕ) (meta : Meta)
    (w : UdpValue) (is : IsFor i slots link ip payload udp bytes m meta w) where
  abbrev queued : SocketStorage Socket
  queued = udp_slot meta (process_after w ip udp bytes)

  stands_then : slice_get (packet_delivered ip payload slots) m ≡ Some (udp_slot meta w)
  stands_then = stands_still ip payload slots m meta (Kind.Udp w) (λ v same. cc) is.stands

  given_to : (cx : ContextValue) (slots' : Slots) → GivenIn cx ip udp bytes m (Some (udp_slot meta w)) (packet_delivered ip payload slots) slots'
      → slice_get slots' m ≡ Some queued
  given_to cx slots' goes =
      let slot : SocketStorage Socket = goes.0 in
      let became : slot ≡ queued =
      ap slot_with goes.1.2 ∙ ap (λ (s : Socket). slot_with (Some (record { meta = meta; socket = s }))) goes.1.1 in
      ap (λ (ps : Slots). slice_get ps m) goes.2 ∙ get_set (packet_delivered ip payload slots) m (udp_slot meta w) slot stands_then
      ∙ ap (λ (x : SocketStorage Socket). Some x) became

  gets : (slots' : Slots) → Handed i slots link ip payload (Datagram udp bytes) is.carries slots' → slice_get slots' m ≡ Some queued
  gets slots' handed_so =
      let at : datagram_slot (context_of (renewed i link ip)) ip udp (packet_delivered ip payload slots) ≡ Some m =
      ap (λ (cx : ContextValue). datagram_slot cx ip udp (packet_delivered ip payload slots)) (same_context i link ip)
      ∙ same_first ip payload (λ s. accepts_datagram (context_of i) s ip udp) (λ v v'. refl) slots ∙ is.slot in
      let here : GivenAt (context_of (renewed i link ip)) ip udp bytes (Some m) (packet_delivered ip payload slots) slots' =
      subst (λ (o : Option ℕ). GivenAt (context_of (renewed i link ip)) ip udp bytes o (packet_delivered ip payload slots) slots') at handed_so in
      given_to (context_of (renewed i link ip)) slots'
      (subst (λ (o : Option (SocketStorage Socket)). GivenIn (context_of (renewed i link ip)) ip udp bytes m o (packet_delivered ip payload slots) slots')
      stands_then here)

pub reached : {D : Type 0} (moves : D → Move → D → Type 0) (t : ℤ) (s s' : State D) (frame : List ℕ) (link : Option EthernetRepr) (ip : IpRepr)
    (payload : List ℕ)
    (udp : UdpRepr) (bytes : List ℕ) (m : ℕ) (meta : Meta) (w : UdpValue)
    → ((other : List ℕ) (d : D) → moves s.device (Took t other) d → other ≡ frame)
    → IsContent s.host.inner.hardware s.host.inner.checksums frame (Some (uncut link ip payload))
    → IsFor (at_instant t s.host.inner) s.slots link ip payload udp bytes m meta w
    → IngressStep moves t s (Some true) s'
    → slice_get s'.slots m ≡ Some (udp_slot meta (process_after w ip udp bytes))
reached {D} moves t s s' frame link ip payload udp bytes m meta w only content is step =
    gets (at_instant t s.host.inner) s.slots link ip payload udp bytes m meta w is s'.slots
    (hands_over moves t s s' frame link ip payload (Datagram udp bytes) is.carries only content
    (no_fragment ip payload Protocol.Udp is.carries.protocol (λ same. cc)) is.listens is.ours step)

-- THE QUEUE

pub waits_following : (w : UdpValue) (ip : IpRepr) (udp : UdpRepr) (bytes : List ℕ) → is_full_for w.received (length bytes) ≡ false
    → contents (process_after w ip udp bytes).received ≡ contents w.received ++ (metadata_of ip udp, bytes) ∷ []
waits_following w ip udp bytes room =
    ap (λ (full : Bool). contents (if full then w.received else appended w.received (length bytes) (metadata_of ip udp) bytes)) room
    ∙ contents-appended w.received (length bytes) (metadata_of ip udp) bytes
