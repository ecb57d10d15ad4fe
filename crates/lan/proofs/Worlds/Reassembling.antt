-- What a host reassembles, the other host made and sent; and no damage did harm.
use Rattle.std.proofs.Common.{◌≡◌, inl, inr, ℕ, zero, suc, ◌-◌, ◌^◌, if◌then◌else◌, Bool, true, false, cond, List, [], ◌∷◌, length, take, drop}
use Rattle.std.proofs.Common.{Option, Some, None, refl, sym, ◌∙◌, ap, subst, arith}
use Rattle.std.specs.Prelude.{nat_lt}
use Rattle.std.specs.List.{AllByRecursion}
use Rattle.sim_link.specs.ChecksumCapabilities.{ChecksumCapabilities}
use Rattle.sim_link.specs.Medium.{Medium}
use Rattle.wire_address.specs.declared.ipv4.Ipv4FragKey.{Ipv4FragKey}
use Rattle.interface.specs.Ip as Ips
use Rattle.interface.specs.Ip.{carried_in, source_of, destination_of}
use Rattle.interface.specs.IpRepr.{IpRepr}
use Rattle.interface.specs.Ipv4Repr.{Ipv4Repr}
use Rattle.interface.specs.Ipv6 as Ipv6
use Rattle.interface.specs.Ipv6Repr.{Ipv6Repr}
use Rattle.iface_ingress.specs.EthernetRepr.{EthernetRepr}
use Rattle.iface_ingress.specs.Headers.{go_through, upper_of}
use Rattle.iface_ingress.specs.IpProtocol.{IpProtocol}
use Rattle.iface_ingress.specs.IpProtocol.TheVariants as Protocol
use Rattle.iface_ingress.specs.Incoming.{IncomingValue, Arp, Ip4, Ip6, IsIncoming}
use Rattle.iface_ingress.specs.Reassembled.{Assemblers, FragmentValue, is_fragment, is_fragment_v6, part_v4, part_in, following_headers, slot_in, kept, bytes_at}
use Rattle.iface_ingress.specs.Reassembled.{reassembled, reassembled_v6, uncut, whole_of}
use Rattle.iface_ingress.specs.Sent.{CanBeRead, normal_payload}
use Rattle.iface_ingress.specs.Upper.{upper_header}
use Rattle.interface.specs.Delivered.{NamesNoPorts}
use Rattle.iface_tables.specs.declared.key.FragKey.{FragKey}
use Rattle.iface_tables.specs.declared.key.FragKey.TheVariants as Keys
use Rattle.iface_tables.specs.declared.key.Ipv6FragKey.{Ipv6FragKey}
use Rattle.sockets.specs.Packet.{PacketValue, PayloadValue, ControlV4, ControlV6, Bytes, Datagram, Segment}
use Rattle.lan.specs.Worlds.AtLink.History.{Entry}
use Rattle.lan.specs.Worlds.AtLink.Kinds.{other, kind_of}
use Rattle.lan.specs.Worlds.AtLink.Side.{Side}
use Rattle.lan.specs.Worlds.AtLink.Side.TheVariants.{A, B}
use Rattle.lan.specs.Worlds.AtLink.Parties.{Party, party}
use Rattle.lan.specs.Worlds.AtLink.Initial.{IsInitialWorld}
use Rattle.lan.specs.Worlds.AtLink.Origins.{medium_of, own_frames, sent_before, is_cut_of}
use Rattle.lan.specs.Worlds.AtLink.Runs.{Starts, unused_both, WorldRun}
use Rattle.lan.specs.Worlds.AtLink.Node.{NodeValue, Nodes, node}
use Rattle.lan.specs.Worlds.Hosts.HostRuns.{IsHostRun, frames_sent}
use Rattle.lan.specs.Worlds.Hosts.Machine.{Turn}
use Rattle.lan.specs.Worlds.Moves.Made.{MadeBy}
use Rattle.lan.specs.Worlds.Link.Made.{sealed, bytes_of}
use Rattle.lan.specs.Worlds.Link.Frames.{Outgoing, IsAmong, IsDatagramV4, IsDatagramV6, IsDatagram, IsFragmentOf, BringsFrom, following_fragment}
use Rattle.lan.specs.Worlds.Link.StoredFragments.{IsForeignKey}
use Rattle.lan.specs.Worlds.Link.Numbers.{AreFew}
use Rattle.lan.specs.Worlds.Link.Sides.{AreSent, IsHostFrame, IsReceiver}
use Rattle.lan.specs.Worlds.Events.{AreTyped}
use Rattle.lan.specs.Worlds.Joins.{Receives}
use Rattle.lan.specs.Worlds.ReassembledDatagram.{IsTcpOrUdp, NamesPorts, following_header, Rebuilds, HasMade, IsOfMade, ReassembledWasMade}
use Rattle.lan.specs.Worlds.FragmentFacts.{Fact, IsOf, Says, Carries, IsSaid, AreFramesOf, by_side, ReassembledWasSent}
use Rattle.lan.specs.Worlds.Hosts.Damage.{DamageIsHarmless}
use Rattle.lan.proofs.Worlds.AlongPolls.{IsLasting, polled_so_far}
use Rattle.lan.proofs.Worlds.Beginnings.{firsts}
use Rattle.lan.proofs.Worlds.Damages.{damage_along}
use Rattle.lan.proofs.Worlds.Link.Contents.{slice_part_of, fragment6_parts}
use Rattle.lan.proofs.Worlds.Link.Fragments.{upper_named, bare_so, fragment_so}
use Rattle.lan.proofs.Worlds.Link.Hands.{no_part, whole_sent}
use Rattle.lan.proofs.Worlds.Link.ReassembledDatagram.{IsReassembledOf}
use Rattle.lan.proofs.Worlds.Link.SaidFrames.{IsSliceFrame, TakenSo, slice_frame, slice_key, slice_part, whole6_frame, fragment6_frame, carries_slice}
use Rattle.lan.proofs.Worlds.Link.SaidFrames.{carries_fragment, carries_none, fragment_is_of}
use Rattle.lan.proofs.Worlds.Link.AssemblerFacts.{ContentSo, rebuilds_so}
use Rattle.lan.proofs.Worlds.Link.Assemblers.{all_at, one_key}
use Rattle.lan.proofs.Worlds.Link.Taken.{expired_receiver, key_v6_is, part_cut, receiver_same, skipped_keeps, taken_keeps, taken_rebuilds}
use Rattle.lan.proofs.Worlds.Moves.Named.{told, not_icmp, not_icmpv6}
use Rattle.lan.proofs.Worlds.Runs.{AreWell, has_come}
use Rattle.lan.proofs.Worlds.SaidPolls.{takes_so_far}
use Rattle.lan.proofs.Worlds.SaidRuns.{all_both, said, medium, host_on, port_on, has_said}

not_both : (protocol : IpProtocol) → NamesNoPorts protocol → IsTcpOrUdp protocol → ⊥
not_both protocol none (inl tcp) = none.0 tcp
not_both protocol none (inr udp) = none.1 udp

either_is : (a b : IpProtocol) → a ≡ b → IsTcpOrUdp b → IsTcpOrUdp a
either_is a b same (inl tcp) = inl (same ∙ tcp)
either_is a b same (inr udp) = inr (same ∙ udp)

-- a control message isn't named so, and bytes alone aren't named
has_made : (q : Party) (header : IpRepr) (x : PayloadValue) → CanBeRead header x → IsTcpOrUdp (told (carried_in header)) →
    MadeBy q (source_of header) (destination_of header) (normal_payload x) → HasMade q header (normal_payload x)
has_made q header (ControlV4 message bytes) named ports made = absurd (not_icmp (carried_in header) named.0 ports)
has_made q header (ControlV6 message bytes) named ports made = absurd (not_icmpv6 (carried_in header) named.0 ports)
has_made q header (Bytes bytes) named ports made = absurd named
has_made q header (Datagram udp bytes) named ports made = made
has_made q header (Segment header' bytes) named ports made = made

-- WHAT A PIECE COMPLETES

-- the whole of a datagram of which this is a fragment, with these bytes after its IP header
abbrev pub Shape : IncomingValue → List ℕ → IncomingValue → Type 0
Shape (Arp link packet) bytes datagram = ⊥
Shape (Ip4 link h p x) bytes datagram = datagram ≡ Ip4 link (record h { payload_len = length bytes }) uncut bytes
Shape (Ip6 link h x) bytes datagram = datagram ≡ Ip6 link (record h { next_header = Protocol.Ipv6Frag; payload_len = length bytes }) bytes

pub record IsDone (assemblers : Assemblers) (at : Option ℕ) (content datagram : IncomingValue) : Type 0 where
  pub bytes : List ℕ
  pub there : bytes_at at assemblers ≡ Some bytes
  pub shape : Shape content bytes datagram

some_if : (b : Bool) (v d : IncomingValue) → cond b (Some v) None ≡ Some d → d ≡ v
some_if true v d is = cc
some_if false v d is = absurd cc

done4 : (link : Option EthernetRepr) (h : Ipv4Repr) (o : Option (List ℕ)) (d : IncomingValue) → reassembled link h o ≡ Some d →
    (bytes : List ℕ) × (o ≡ Some bytes) × (d ≡ Ip4 link (record h { payload_len = length bytes }) uncut bytes)
done4 link h None d is = absurd cc
done4 link h (Some found) d is = (found, refl, some_if (nat_lt (length found) (2 ^ 16 - 20)) _ d is)

done6 : (link : Option EthernetRepr) (h : Ipv6Repr) (o : Option (List ℕ)) (d : IncomingValue) → reassembled_v6 link h o ≡ Some d →
    (bytes : List ℕ) × (o ≡ Some bytes) × (d ≡ Ip6 link (record h { next_header = Protocol.Ipv6Frag; payload_len = length bytes }) bytes)
done6 link h None d is = absurd cc
done6 link h (Some found) d is = (found, refl, some_if (nat_lt (length found) (2 ^ 16)) _ d is)

cut_v6 : (link : Option EthernetRepr) (h : Ipv6Repr) (x : List ℕ) (p : FragmentValue) (b : Bool) → is_fragment_v6 h x ≡ b → part_in (Ip6 link h x) ≡ Some p →
    is_fragment_v6 h x ≡ true
cut_v6 link h x p true is part = is
cut_v6 link h x p false is part = absurd (no_part h x (following_headers h x) p is part)

by_cut : (b : Bool) (v w : Option IncomingValue) (d : IncomingValue) → b ≡ true → cond b v w ≡ Some d → v ≡ Some d
by_cut true v w d cut is = is
by_cut false v w d cut is = absurd cc

done : (assemblers : Assemblers) (at : Option ℕ) (content datagram : IncomingValue) (p : FragmentValue) → part_in content ≡ Some p →
    whole_of assemblers at (Some content) ≡ Some datagram → IsDone assemblers at content datagram
done assemblers at (Arp link packet) datagram p part whole = absurd cc
done assemblers at (Ip4 link h q x) datagram p part whole =
    let cut = part_cut (is_fragment q) (part_v4 h q x) p part in
    let d = done4 link h (bytes_at at assemblers) datagram (by_cut (is_fragment q) (reassembled link h (bytes_at at assemblers)) (Some (Ip4 link h q x)) datagram cut.0 whole) in
    record { bytes = d.0; there = d.1; shape = d.2 }
done assemblers at (Ip6 link h x) datagram p part whole =
    let cut = cut_v6 link h x p (is_fragment_v6 h x) refl part in
    let d = done6 link h (bytes_at at assemblers) datagram (by_cut (is_fragment_v6 h x) (reassembled_v6 link h (bytes_at at assemblers)) (Some (Ip6 link h x)) datagram cut whole) in
    record { bytes = d.0; there = d.1; shape = d.2 }

following : (content datagram : IncomingValue) (bytes : List ℕ) → Shape content bytes datagram → following_header datagram ≡ bytes
following (Arp link packet) datagram bytes shape = absurd shape
following (Ip4 link h p x) datagram bytes shape = ap following_header shape
following (Ip6 link h x) datagram bytes shape = ap following_header shape

-- a datagram of TCP or UDP by its key and its bytes
abbrev pub PortsOf : FragKey → List ℕ → Type 0
PortsOf (Keys.Ipv4 key) bytes = IsTcpOrUdp key.protocol
PortsOf (Keys.Ipv6 key) bytes = IsTcpOrUdp (upper_of (go_through Protocol.Ipv6Frag bytes))

ports_of : (content datagram : IncomingValue) (p : FragmentValue) (bytes : List ℕ) → part_in content ≡ Some p → Shape content bytes datagram →
    NamesPorts datagram → PortsOf p.key bytes
ports_of (Arp link packet) datagram p bytes part shape ports = absurd shape
ports_of (Ip4 link h q x) datagram p bytes part shape ports =
    let cut = part_cut (is_fragment q) (part_v4 h q x) p part in
    subst (λ (r : FragmentValue). PortsOf r.key bytes) cut.1 (subst NamesPorts shape ports)
ports_of (Ip6 link h x) datagram p bytes part shape ports =
    let key = key_v6_is h x (following_headers h x) p part in
    subst (λ (k : FragKey). PortsOf k bytes) (sym key.1) (subst NamesPorts shape ports)

not_foreign : (key : FragKey) (bytes : List ℕ) → IsForeignKey key → PortsOf key bytes → ⊥
not_foreign (Keys.Ipv4 key) bytes none ports = not_both key.protocol none ports
not_foreign (Keys.Ipv6 key) bytes none ports = none

other_upper : IsTcpOrUdp Protocol.Ipv6NoNxt → ⊥
other_upper (inl is) = cc
other_upper (inr is) = cc

-- of a protocol that is no extension header
upper_is : (p : IpProtocol) → IsTcpOrUdp (upper_named p) → IsTcpOrUdp p
upper_is Protocol.HopByHop ports = absurd (other_upper ports)
upper_is Protocol.Icmp ports = absurd (other_upper ports)
upper_is Protocol.Igmp ports = absurd (other_upper ports)
upper_is Protocol.Tcp ports = ports
upper_is Protocol.Udp ports = ports
upper_is Protocol.Ipv6Route ports = absurd (other_upper ports)
upper_is Protocol.Ipv6Frag ports = absurd (other_upper ports)
upper_is Protocol.IpSecEsp ports = absurd (other_upper ports)
upper_is Protocol.IpSecAh ports = absurd (other_upper ports)
upper_is Protocol.Icmpv6 ports = ports
upper_is Protocol.Ipv6NoNxt ports = ports
upper_is Protocol.Ipv6Opts ports = absurd (other_upper ports)
upper_is (Protocol.Unknown n) ports = absurd (other_upper ports)

module _ (q : Party) (first next : ℕ) (out : List Outgoing) (sent : AreSent (MadeBy q) first next out) where
  -- a packet that carries TCP or UDP was made
  made_by : (p : PacketValue) → IsAmong p out → IsTcpOrUdp (carried_in (upper_header (Ips.normal p.header) (bytes_of p))) →
      IsTcpOrUdp (told (carried_in p.header)) → CanBeRead p.header p.payload × HasMade q p.header (normal_payload p.payload)
  made_by p among ports known = elim (sent.packets p among).going.carries [
    | inl none ↦ absurd (not_both (carried_in (upper_header (Ips.normal p.header) (bytes_of p))) none.0 ports)
    | inr reads ↦ (reads.0, has_made q p.header p.payload reads.0 known reads.1)
  ]

  of_made4 : (key : Ipv4FragKey) (bytes : List ℕ) → IsDatagramV4 out key bytes → IsTcpOrUdp key.protocol → IsOfMade q (Keys.Ipv4 key) bytes
  of_made4 key bytes o ports =
      let same : key.protocol ≡ told o.header.next_header = ap (λ (k : Ipv4FragKey). k.protocol) o.key_is in
      let carried : carried_in (upper_header (Ips.normal o.sent.packet.header) (bytes_of o.sent.packet)) ≡ key.protocol =
      ap (λ (x : IpRepr). carried_in (upper_header (Ips.normal x) (bytes_of o.sent.packet))) o.sent.header ∙ sym same in
      let named : told (carried_in o.sent.packet.header) ≡ key.protocol = ap (λ (x : IpRepr). told (carried_in x)) o.sent.header ∙ sym same in
      let one = made_by o.sent.packet o.sent.among (either_is _ key.protocol carried ports) (either_is _ key.protocol named ports) in
      record {
        packet = o.sent.packet;
        header = o.header;
        header_is = o.sent.header;
        key_is = o.key_is;
        bytes_are = o.sent.bytes_are;
        named = one.0;
        made = one.1;
      }

  of_made6 : (key : Ipv6FragKey) (bytes : List ℕ) → IsDatagramV6 out key bytes → IsTcpOrUdp (upper_of (go_through Protocol.Ipv6Frag bytes)) →
      IsOfMade q (Keys.Ipv6 key) bytes
  of_made6 key bytes o ports =
      let v : Ipv6Repr = o.header in
      let s = o.cut.sent in
      let whole = fragment_so v.next_header key.id o.payload o.cut.bare in
      let direct = bare_so (Ipv6.normal v).next_header o.payload o.cut.bare in
      let upper : upper_of (go_through Protocol.Ipv6Frag bytes) ≡ upper_named (Ipv6.normal v).next_header =
      ap (λ (b : List ℕ). upper_of (go_through Protocol.Ipv6Frag b)) o.bytes_are ∙ whole.upper in
      let there : IsTcpOrUdp (upper_named (Ipv6.normal v).next_header) = either_is _ _ (sym upper) ports in
      let carried : carried_in (upper_header (Ips.normal s.packet.header) (bytes_of s.packet)) ≡ upper_named (Ipv6.normal v).next_header =
      ap (λ (x : IpRepr). carried_in (upper_header (Ips.normal x) (bytes_of s.packet))) s.header
      ∙ ap (λ (b : List ℕ). upper_of (go_through (Ipv6.normal v).next_header b)) (sym s.bytes_are) ∙ direct.upper in
      let named : told (carried_in s.packet.header) ≡ (Ipv6.normal v).next_header = ap (λ (x : IpRepr). told (carried_in x)) s.header in
      let one = made_by s.packet s.among (either_is _ _ carried there) (either_is _ _ named (upper_is (Ipv6.normal v).next_header there)) in
      record {
        packet = s.packet;
        header = v;
        header_is = s.header;
        source = o.source;
        destination = o.destination;
        bytes_are = o.bytes_are ∙ ap (following_fragment v.next_header key.id) s.bytes_are;
        named = one.0;
        made = one.1;
      }

  of_made : (key : FragKey) (bytes : List ℕ) → IsDatagram out key bytes → PortsOf key bytes → IsOfMade q key bytes
  of_made (Keys.Ipv4 key) bytes o ports = of_made4 key bytes o ports
  of_made (Keys.Ipv6 key) bytes o ports = of_made6 key bytes o ports

  -- WHAT A HOST REBUILDS

  -- what waits for a host and what it holds stays of the other's packets along a poll
  lasts : AreFew out → IsLasting (IsReceiver (MadeBy q) out)
  lasts few = record {
    same = receiver_same (MadeBy q) out;
    expired = expired_receiver (MadeBy q) out;
    skips = skipped_keeps (MadeBy q) out;
    takes = taken_keeps (MadeBy q) first out next sent few;
  }

  module _ (few : AreFew out) (s : NodeValue) (receives : Receives q out s) (key : FragKey) (bytes : List ℕ) (r : Rebuilds s key bytes) where
    receives_now : Receives q out r.now
    receives_now = polled_so_far (IsReceiver (MadeBy q) out) (lasts few) s r.now r.polled receives

    abbrev pub slot : Option ℕ
    slot = slot_in r.now.host.assemblers (Some r.content)

    abbrev pub kept_so : Assemblers
    kept_so = kept r.now.host.inner r.now.host.timeout r.now.host.assemblers (Some r.content)

    pub is_done : IsDone kept_so slot r.content r.datagram
    is_done = done kept_so slot r.content r.datagram r.fragment r.cut r.whole

    pub same_bytes : is_done.bytes ≡ bytes
    same_bytes = sym (following r.content r.datagram is_done.bytes is_done.shape) ∙ sym r.bytes_are

    pub complete_there : bytes_at slot kept_so ≡ Some bytes
    complete_there = is_done.there ∙ ap Some same_bytes

    pub ports_there : PortsOf key bytes
    ports_there =
        subst (PortsOf key) same_bytes
        (subst (λ (k : FragKey). PortsOf k is_done.bytes) r.key_is (ports_of r.content r.datagram r.fragment is_done.bytes r.cut is_done.shape r.ports))

    -- it is the whole of one datagram
    reassembled_by : IsReassembledOf out key bytes
    reassembled_by =
        subst (λ (k : FragKey). IsReassembledOf out k bytes) r.key_is
        (taken_rebuilds (MadeBy q) first out next sent few r.now.host.inner r.now.host.timeout r.now.host.assemblers r.frame [] r.content r.fragment bytes
        (record {
          checksums = receives_now.checksums;
          assemblers_are = receives_now.assemblers_are;
          waits =
              (all_at (BringsFrom (MadeBy q) out r.now.host.inner.hardware) r.now.link.waiting r.slot r.frame receives_now.waits r.waits, tt);
        })
        r.read r.cut complete_there)

    sent_by : IsReassembledOf out key bytes → IsDatagram out key bytes
    sent_by (inl none) = absurd (not_foreign key bytes none ports_there)
    sent_by (inr o) = o

    pub reassembled_is : IsDatagram out key bytes
    reassembled_is = sent_by reassembled_by

    pub reassembled_of : IsOfMade q key bytes
    reassembled_of = of_made key bytes reassembled_is ports_there

  -- all that a frame of its number says is that datagram's
  module _ (few : AreFew out) (key : FragKey) (bytes : List ℕ) (o : IsDatagram out key bytes) where
    fragment_says : (p : FragmentValue) → p.key ≡ key → IsFragmentOf out p → (fact : Fact) → Says p fact → IsOf bytes fact
    fragment_says p same fragment fact says =
        let here : IsDatagram out key fragment.bytes = subst (λ (k : FragKey). IsDatagram out k fragment.bytes) same fragment.sent in
        let all : fragment.bytes ≡ bytes = one_key first out next sent.numbered few key fragment.bytes bytes here o in
        subst (λ (b : List ℕ). IsOf b fact) all (fragment_is_of fragment.bytes p fragment.slice fact says)

    said_is : (m : Medium) (frame : List ℕ) (fact : Fact) → IsHostFrame m out frame → Carries m frame key fact → IsOf bytes fact
    said_is m frame fact (inl f) c =
        let g : IsSliceFrame m frame = slice_frame out m frame f in
        let says = carries_slice m frame g key fact c in
        fragment_says (slice_part (slice_key m frame g) f.bytes f.slice) says.0 (slice_part_of m out frame f) fact says.1
    said_is m frame fact (inr (inl f)) c =
        let says = carries_fragment m frame (whole6_frame out m frame f) key fact c in
        absurd (no_part (Ipv6.normal f.header) f.bytes (following_headers (Ipv6.normal f.header) f.bytes) says.0
        (whole_sent (MadeBy q) out f.header f.bytes sent.packets f.sent) says.1)
    said_is m frame fact (inr (inr (inl f))) c =
        let says = carries_fragment m frame (fragment6_frame out m frame f) key fact c in
        fragment_says says.0 says.2 (fragment6_parts m out frame f says.0 says.1) fact says.3
    said_is m frame fact (inr (inr (inr f))) c = absurd (carries_none m frame f key fact c)

pub reassembled_made : (starts : Starts) → IsInitialWorld starts → (history : List Entry) (hosts : Nodes) → AreTyped history →
    WorldRun history (unused_both starts) hosts
    → ReassembledWasMade (record { hosts = hosts; starts = starts; history = history })
reassembled_made starts initial history hosts typed ran =
    let came = has_come starts history hosts initial typed ran in
    let w = came.joined in
    record {
      net = came.net;
      steps = came.steps;
      may = came.may;
      ends = came.ends;
      of = came.of;
      reassembled = λ side key bytes r.
          let few : AreFew (w.joined.out (other side)) = (let a = w.joined.counted (other side) in let b = w.few (other side) in omega (arith, a, b)) in
          reassembled_of (party came.net (other side)) _ _ (w.joined.out (other side)) (w.joined.sends (other side)).are_sent few (node hosts side)
          (w.joined.receives side) key bytes r;
    }

-- IT WAS SENT

module _ {X : Type 0} (Q : X → Type 0) where
  all_front : (n : ℕ) (xs : List X) → AllByRecursion Q xs → AllByRecursion Q (take n xs)
  all_front zero xs all = tt
  all_front (suc n) [] all = tt
  all_front (suc n) (x ∷ xs) all = (all.0, all_front n xs all.1)

  all_back : (n : ℕ) (xs : List X) → AllByRecursion Q xs → AllByRecursion Q (drop n xs)
  all_back zero xs all = all
  all_back (suc n) [] all = tt
  all_back (suc n) (x ∷ xs) all = all_back n xs all.1

-- what holds of all that were sent holds of a host's own
all_own : (Q : List ℕ → Type 0) (side : Side) (history : List Entry) (frames : List (List ℕ)) → AllByRecursion Q frames →
    AllByRecursion Q (own_frames side history frames)
all_own Q side [] frames all = all
all_own Q side (e ∷ past) frames all =
    all_both Q (own_frames side past (take (sent_before e.before side) frames))
    (if is_cut_of side (kind_of e.event) then [] else drop (sent_before e.before side) frames)
    (all_own Q side past (take (sent_before e.before side) frames) (all_front Q (sent_before e.before side) frames all))
    (by (is_cut_of side (kind_of e.event))) where
      by : (b : Bool) → AllByRecursion Q (if b then [] else drop (sent_before e.before side) frames)
      by true = tt
      by false = all_back Q (sent_before e.before side) frames all

module _ (starts : Starts) (initial : IsInitialWorld starts) (history : List Entry) (hosts : Nodes) (typed : AreTyped history)
    (ran : WorldRun history (unused_both starts) hosts) (side : Side) (key : FragKey) (bytes : List ℕ) (r : Rebuilds (node hosts side) key bytes) where
  abbrev m : Medium
  m = medium starts initial

  abbrev own : List (List ℕ)
  own = own_frames (other side) history (node hosts (other side)).link.sent

  abbrev world : AreWell starts history hosts (has_come starts history hosts initial typed ran).net
  world = (has_come starts history hosts initial typed ran).joined

  abbrev maker : Party
  maker = party (has_come starts history hosts initial typed ran).net (other side)

  abbrev sent_out : List Outgoing
  sent_out = (world).joined.out (other side)

  few_out : AreFew sent_out
  few_out = let a = (world).joined.counted (other side) in let b = (world).few (other side) in omega (arith, a, b)

  reassembled_said : (fact : Fact) → IsOf bytes fact → IsSaid m own key fact
  reassembled_said fact of =
      let has = has_said starts initial history hosts typed ran in
      let S : FragKey → Fact → Type 0 = said m history hosts (other side) in
      let s = node hosts side in
      let receives = (world).joined.receives side in
      let now = r.now in
      let taking = takes_so_far S m s now r.polled (record {
        hardware = host_on m (firsts starts) (world).most hosts _ (world).joined has.port side;
        checksums = receives.checksums;
        assemblers_are = (has.says side).assemblers;
        waits = (has.says side).waits;
      }) in
      let taken : TakenSo S m r.frame = all_at (TakenSo S m) now.link.waiting r.slot r.frame taking.waits r.waits in
      let read : IsIncoming now.host.inner.hardware sealed r.frame r.content =
      subst (λ (c : ChecksumCapabilities). IsIncoming now.host.inner.hardware c r.frame r.content) taking.checksums r.read in
      let so : ContentSo S (Some r.content) = taken now.host.inner.hardware r.content taking.hardware read in
      elim (rebuilds_so S now.host.inner now.host.timeout now.host.assemblers (Some r.content) r.fragment bytes taking.assemblers_are so r.cut
      (complete_there maker _ _ sent_out ((world).joined.sends (other side)).are_sent few_out s receives key bytes r)) [
        | inl none ↦
            absurd (not_foreign key bytes (subst IsForeignKey r.key_is none)
            (ports_there maker _ _ sent_out ((world).joined.sends (other side)).are_sent few_out s receives key bytes r))
        | inr says ↦ subst (λ (k : FragKey). S k fact) r.key_is (says fact of)
      ]

  said_reassembled : (fact : Fact) → IsSaid m own key fact → IsOf bytes fact
  said_reassembled fact is =
      let has = has_said starts initial history hosts typed ran in
      let sends = (world).joined.sends (other side) in
      let frames : AllByRecursion (IsHostFrame m sent_out) own =
      all_own (IsHostFrame m sent_out) (other side) history (node hosts (other side)).link.sent
      (subst (λ (x : Medium). AllByRecursion (IsHostFrame x sent_out) (node hosts (other side)).link.sent)
      (host_on m (firsts starts) (world).most hosts _ (world).joined has.port (other side)) sends.frames) in
      let frame : IsHostFrame m sent_out is.frame = all_at (IsHostFrame m sent_out) own is.slot is.frame frames is.frame_is in
      said_is maker _ _ sent_out sends.are_sent few_out key bytes
      (reassembled_is maker _ _ sent_out sends.are_sent few_out (node hosts side) ((world).joined.receives side) key bytes r) m is.frame fact frame is.carries

  frames_of_it : AreFramesOf m own key bytes
  frames_of_it fact = (said_reassembled fact, reassembled_said fact)

pub reassembled_sent : (starts : Starts) → IsInitialWorld starts → (history : List Entry) (hosts : Nodes) → AreTyped history →
    WorldRun history (unused_both starts) hosts
    → (turns : Side → List Turn) → ((side : Side) → own_frames side history (node hosts side).link.sent ≡ frames_sent (turns side))
    → ReassembledWasSent (record { hosts = hosts; starts = starts; history = history }) turns
reassembled_sent starts initial history hosts typed ran turns are side key bytes r =
    let came = (has_come starts history hosts initial typed ran).joined in
    let has = has_said starts initial history hosts typed ran in
    let on : medium_of (node hosts (other side)) ≡ medium starts initial =
    port_on (medium starts initial) (firsts starts) came.most hosts _ came.joined has.port (other side) in
    subst (λ (x : Medium). AreFramesOf x (frames_sent (turns (other side))) key bytes) (sym on)
    (subst (λ (xs : List (List ℕ)). AreFramesOf (medium starts initial) xs key bytes) (are (other side))
    (frames_of_it starts initial history hosts typed ran side key bytes r))

-- of two runs of the hosts
pub reassembled_by_turns : (starts : Starts) → IsInitialWorld starts → (history : List Entry) (hosts : Nodes) → AreTyped history →
    WorldRun history (unused_both starts) hosts
    → (a : IsHostRun (record { hosts = hosts; starts = starts; history = history }) A)
    (b : IsHostRun (record { hosts = hosts; starts = starts; history = history }) B)
    → ReassembledWasSent (record { hosts = hosts; starts = starts; history = history }) (by_side a.turns b.turns)
reassembled_by_turns starts initial history hosts typed ran a b =
    reassembled_sent starts initial history hosts typed ran (by_side a.turns b.turns)
    (λ side. elim side as (λ x. own_frames x history (node hosts x).link.sent ≡ frames_sent (by_side a.turns b.turns x)) [ A ↦ a.sent | B ↦ b.sent ])

-- DAMAGE

pub damage_harmless : (starts : Starts) → IsInitialWorld starts → (history : List Entry) (hosts : Nodes) → AreTyped history →
    WorldRun history (unused_both starts) hosts → DamageIsHarmless hosts history
damage_harmless starts initial history hosts typed ran =
    damage_along (firsts starts) (unused_both starts)
    (λ past at events led. let came = has_come starts past at initial events led in
    record { most = came.joined.most; net = came.net; joined = came.joined.joined })
    history hosts typed ran
