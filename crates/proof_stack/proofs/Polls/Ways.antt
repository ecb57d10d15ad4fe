-- What a step of the egress path leaves of the way of a packet.
use Rattle.std.proofs.Common.{◌≡◌, ◌&&◌, ℕ, Bool, true, false, if◌then◌else◌, ℤ, int_lt, List, Option, Some, None, refl, sym, ap, ◌∙◌, subst}
use Rattle.std.proofs.lemmas.Bool.{le-leb}
use Rattle.net_base.specs.ChecksumCapabilities.{ChecksumCapabilities}
use Rattle.ip_wire.specs.AddressTests.{is_multicast}
use Rattle.ip_wire.specs.HardwareAddress.{HardwareAddress}
use Rattle.ip_wire.specs.HardwareAddress.TheVariants as Hardware
use Rattle.ip_wire.specs.Ip.{destination_of}
use Rattle.ip_wire.specs.IpAddress.{IpAddress}
use Rattle.ip_wire.specs.IpRepr.{IpRepr}
use Rattle.ip_wire.specs.IpRepr.TheVariants as Ip
use Rattle.socket_datagram.specs.Udp.{UdpSettings, TakesDatagram}
use Rattle.socket_datagram.specs.declared.udp.UdpMetadata.{UdpMetadata}
use Rattle.iface_ingress.specs.Packet.{PacketValue}
use Rattle.iface_tables.specs.Best.{at_index}
use Rattle.iface_tables.specs.Inner.{InnerValue, is_local_broadcast, next_hop, link_by, link_of_hop, link_on, link_address, all_stations, group_hardware_addr}
use Rattle.iface_tables.specs.Inner.{asked_of, context_of, mtu_to}
use Rattle.iface_tables.specs.Inner.{is_known_on, is_known_hop}
use Rattle.iface_tables.specs.Neighbor.{CacheValue, lookup, missing, answer_by, neighbor_index_of, unless_failed, has_failed, is_found}
use Rattle.iface_tables.specs.Parking.{ParkingValue}
use Rattle.iface_tables.specs.declared.link.LinkAddress.{LinkAddress}
use Rattle.iface_tables.specs.declared.link.LinkAddress.TheVariants as Link
use Rattle.iface_tables.specs.declared.neighbor.Answer.{Answer}
use Rattle.iface_tables.specs.declared.neighbor.Answer.TheVariants as Known
use Rattle.iface_tables.specs.declared.neighbor.Neighbor.{Neighbor}
use Rattle.iface_tables.specs.declared.neighbor.Search.{Search}
use Rattle.iface_egress.specs.Departure.{Whole, frame_from}
use Rattle.iface_egress.specs.IsTransmitted.{frame_of, is_tcp, is_never_cut, numbered, numbered_header}
use Rattle.iface_egress.specs.Meta.{neighbor_by, waits_by}
use Rattle.iface_egress.specs.Plan.{total_len, long_plan, plan_by, plan_of}
use Rattle.iface_egress.specs.declared.plan.Plan.TheVariants as Way
use Rattle.iface_egress.specs.declared.socket_meta.Meta.{Meta}
use Rattle.interface.specs.SameHost.{IsSameHost, parking_from}
use Rattle.interface.proofs.SameHost.{parked_so}
use Rattle.interface.specs.Serve.{is_known, is_waiting}
use Rattle.proof_stack.specs.Progress.Queued.{CanGo, with_ident, frame_under}
use Rattle.proof_stack.specs.Progress.Segments.{CanTransmit}

clash : {X : Type 0} → true ≡ false → X
clash {X} e = absurd cc

-- WHAT IS FOUND IS FOUND, WHOEVER ELSE IS ASKED FOR

abbrev with_searches : CacheValue → ℤ → List Search → CacheValue
with_searches c silent searches = record c { silent = silent; searches = searches }

found_test : (test : Bool) (hardware : HardwareAddress) (c : CacheValue) (instant : ℤ)
    → is_found (if test then Known.Found hardware else missing c instant) ≡ test
found_test true hardware c instant = refl
found_test false hardware c instant = by (int_lt instant c.silent) where
  by : (early : Bool) → is_found (if early then Known.RateLimited else Known.NotFound) ≡ false
  by true = refl
  by false = refl

found_none : (c : CacheValue) (instant : ℤ) → is_found (missing c instant) ≡ false
found_none c instant = by (int_lt instant c.silent) where
  by : (early : Bool) → is_found (if early then Known.RateLimited else Known.NotFound) ≡ false
  by true = refl
  by false = refl

found_unless : (failed : Bool) (a : Answer) → is_found (unless_failed failed a) ≡ is_found a
found_unless failed (Known.Found hardware) = refl
found_unless true Known.NotFound = refl
found_unless false Known.NotFound = refl
found_unless true Known.RateLimited = refl
found_unless false Known.RateLimited = refl
found_unless failed Known.Unanswered = refl

-- an answer that is found
abbrev IsAt : HardwareAddress → Answer → Type 0
IsAt to (Known.Found hardware) = hardware ≡ to
IsAt to other = ⊥

at_link : (a : Answer) (hop : IpAddress) (to : HardwareAddress) → link_by a hop ≡ Link.Known to → IsAt to a
at_link (Known.Found hardware) hop to is = cc
at_link Known.RateLimited hop to is = absurd cc
at_link Known.Unanswered hop to is = absurd cc
at_link Known.NotFound hop to is = absurd cc

link_at : (a : Answer) (hop : IpAddress) (to : HardwareAddress) → IsAt to a → link_by a hop ≡ Link.Known to
link_at (Known.Found hardware) hop to is = ap Link.Known is
link_at Known.RateLimited hop to is = absurd is
link_at Known.Unanswered hop to is = absurd is
link_at Known.NotFound hop to is = absurd is

at_failed : (failed : Bool) (a : Answer) (to : HardwareAddress) → IsAt to (unless_failed failed a) → IsAt to a
at_failed failed (Known.Found hardware) to is = is
at_failed true Known.NotFound to is = absurd is
at_failed false Known.NotFound to is = absurd is
at_failed true Known.RateLimited to is = absurd is
at_failed false Known.RateLimited to is = absurd is
at_failed failed Known.Unanswered to is = absurd is

failed_at : (failed : Bool) (a : Answer) (to : HardwareAddress) → IsAt to a → IsAt to (unless_failed failed a)
failed_at failed (Known.Found hardware) to is = is
failed_at failed Known.NotFound to is = absurd is
failed_at failed Known.RateLimited to is = absurd is
failed_at failed Known.Unanswered to is = absurd is

never_at : (c : CacheValue) (instant : ℤ) (to : HardwareAddress) → IsAt to (missing c instant) → ⊥
never_at c instant to = by (int_lt instant c.silent) where
  by : (early : Bool) → IsAt to (if early then Known.RateLimited else Known.NotFound) → ⊥
  by true is = is
  by false is = is

at_entry : (o : Option Neighbor) (c c' : CacheValue) (instant : ℤ) (to : HardwareAddress) → IsAt to (answer_by o c instant) → IsAt to (answer_by o c' instant)
at_entry None c c' instant to = λ is. absurd (never_at c instant to is)
at_entry (Some entry) c c' instant to = by (int_lt instant entry.expires_at) where
  by : (test : Bool) → IsAt to (if test then Known.Found entry.hardware_addr else missing c instant)
      → IsAt to (if test then Known.Found entry.hardware_addr else missing c' instant)
  by true is = is
  by false is = absurd (never_at c instant to is)

found_entry : (o : Option Neighbor) (c c' : CacheValue) (instant : ℤ) → is_found (answer_by o c' instant) ≡ is_found (answer_by o c instant)
found_entry None c c' instant = found_none c' instant ∙ sym (found_none c instant)
found_entry (Some entry) c c' instant =
    found_test (int_lt instant entry.expires_at) entry.hardware_addr c' instant
    ∙ sym (found_test (int_lt instant entry.expires_at) entry.hardware_addr c instant)

-- ANOTHER NUMBER, ANOTHER SILENCE, OTHER SEARCHES

module _ (i : InnerValue) (ident : ℕ) (silent : ℤ) (searches : List Search) (parking : ParkingValue) where
  abbrev later : InnerValue
  later = record i { ident = ident; neighbors = with_searches i.neighbors silent searches; parking = parking }

  hop_still : (o : Option IpAddress) (to : HardwareAddress) → link_of_hop i o ≡ Link.Known to → link_of_hop later o ≡ Link.Known to
  hop_still None to is = is
  hop_still (Some hop) to is =
      let entry : Option Neighbor = at_index (neighbor_index_of i.neighbors.entries hop) i.neighbors.entries in
      let found : IsAt to (answer_by entry (asked_of i hop) i.instant) =
      at_failed (has_failed (asked_of i hop) hop i.instant) (answer_by entry (asked_of i hop) i.instant) to (at_link (lookup (asked_of i hop) hop i.instant) hop to is) in
      link_at (lookup (asked_of later hop) hop i.instant) hop to
      (failed_at (has_failed (asked_of later hop) hop i.instant) (answer_by entry (asked_of later hop) i.instant) to
      (at_entry entry (asked_of i hop) (asked_of later hop) i.instant to found))

  on_still : (hardware : HardwareAddress) (address : IpAddress) (to : HardwareAddress) → link_on hardware i address ≡ Link.Known to →
      link_on hardware later address ≡ Link.Known to
  on_still Hardware.Ip address to is = is
  on_still (Hardware.Ethernet own) address to is = by (is_local_broadcast i address) (is_multicast address) is where
    by : (all group : Bool)
        → (if all then Link.Known (Hardware.Ethernet all_stations)
        else if group then Link.Known (Hardware.Ethernet (group_hardware_addr address)) else link_of_hop i (next_hop i address)) ≡ Link.Known to
        → (if all then Link.Known (Hardware.Ethernet all_stations)
        else if group then Link.Known (Hardware.Ethernet (group_hardware_addr address)) else link_of_hop later (next_hop i address)) ≡ Link.Known to
    by true group e = e
    by false true e = e
    by false false e = hop_still (next_hop i address) to e

  known_still : (hardware : HardwareAddress) (hop : IpAddress) → is_known_on hardware later hop ≡ is_known_on hardware i hop
  known_still Hardware.Ip hop = refl
  known_still (Hardware.Ethernet own) hop =
      let entry : Option Neighbor = at_index (neighbor_index_of i.neighbors.entries hop) i.neighbors.entries in
      found_unless (has_failed later.neighbors hop i.instant) (answer_by entry later.neighbors i.instant)
      ∙ found_entry entry i.neighbors later.neighbors i.instant
      ∙ sym (found_unless (has_failed i.neighbors hop i.instant) (answer_by entry i.neighbors i.instant))

  neighbor_still : (o : Option IpAddress) → is_known_hop later o ≡ is_known_hop i o
  neighbor_still None = refl
  neighbor_still (Some hop) = known_still i.hardware hop

  heard_still : (o : Option IpAddress) → is_known later o ≡ is_known i o
  heard_still None = refl
  heard_still (Some address) = neighbor_still (next_hop i address)

  leaves_still : (to : HardwareAddress) (p : PacketValue) → CanTransmit i to p → CanTransmit later to p
  leaves_still to p can = record { may = can.may; known = on_still i.hardware (destination_of p.header) to can.known; short = can.short }

  ready_still : (m : Meta) → is_waiting i m ≡ false → is_waiting later m ≡ false
  ready_still m ready = ap (λ (known : Bool). waits_by m.waiting known i.instant) (heard_still (neighbor_by m.waiting)) ∙ ready

-- WHAT A STEP OF THE WAY OUT LEAVES

pub leave_still : (i i' : InnerValue) (to : HardwareAddress) (p : PacketValue) → IsSameHost i i' → CanTransmit i to p → CanTransmit i' to p
leave_still i i' to p same can =
    subst (λ (x : InnerValue). CanTransmit x to p) (sym same) (leaves_still i i'.ident i'.neighbors.silent i'.neighbors.searches (parking_from i i') to p can)

-- a datagram's packet leaves so
pub leaves : (i : InnerValue) (settings : UdpSettings) (d : UdpMetadata × List ℕ) (to : HardwareAddress) (p : PacketValue) → CanGo i settings d to p
    → CanTransmit i to p
leaves i settings d to p can = record { may = can.may; known = can.known; short = can.short }

pub can_still : (i i' : InnerValue) (settings : UdpSettings) (d : UdpMetadata × List ℕ) (to : HardwareAddress) (p : PacketValue) → IsSameHost i i'
    → CanGo i settings d to p → CanGo i' settings d to p
can_still i i' settings d to p same can =
    let left : CanTransmit i' to p = leave_still i i' to p same (leaves i settings d to p can) in
    record {
      takes = subst (λ (x : InnerValue). TakesDatagram (context_of x) settings d p) (sym same) can.takes;
      may = left.may;
      known = left.known;
      short = left.short;
    }

-- so does another identification
pub with_ident_same : (i : InnerValue) (ident : ℕ) → IsSameHost i (with_ident i ident)
with_ident_same i ident = ap (λ (k : ParkingValue). record i { ident = ident; parking = k }) (parked_so i.host_requirements i.parking i.parking refl)

pub waits_still : (i i' : InnerValue) (m : Meta) → IsSameHost i i' → is_waiting i m ≡ false → is_waiting i' m ≡ false
waits_still i i' m same ready =
    subst (λ (x : InnerValue). is_waiting x m ≡ false) (sym same) (ready_still i i'.ident i'.neighbors.silent i'.neighbors.searches (parking_from i i') m ready)

-- THE PLAN AND THE FRAME

pub goes_by_plan : (i : InnerValue) (busy : Bool) (to : HardwareAddress) (p : PacketValue) → CanTransmit i to p → plan_of i busy p.header ≡ Way.Go to
goes_by_plan i busy to p can =
    ap (λ (never : Bool). if never then Way.Drop else plan_by (link_address i (destination_of p.header)) i busy p.header) can.may
    ∙ ap (λ (l : LinkAddress). plan_by l i busy p.header) can.known
    ∙ ap (λ (fits : Bool). if fits then Way.Go to else long_plan busy to p.header) (le-leb (total_len p.header) (mtu_to i (destination_of p.header)) can.short)

same_number : (i j : InnerValue) → i.ident ≡ j.ident → i.host_requirements ≡ j.host_requirements → (h : IpRepr) → numbered_header i h ≡ numbered_header j h
same_number i j is asks (Ip.Ipv4 v) =
    ap (λ (n : ℕ). Ip.Ipv4 (record v { ident = n; dont_frag = is_never_cut i v })) is
    ∙ ap (λ (b : Bool). Ip.Ipv4 (record v { ident = j.ident; dont_frag = b && is_tcp v.next_header })) asks
same_number i j is asks (Ip.Ipv6 v) = refl

pub same_frame : (i j : InnerValue) (to : HardwareAddress) (p : PacketValue) → IsSameHost i j
    → frame_of j (Whole to (numbered j p)) ≡ frame_under i j.ident to p
same_frame i j to p same =
    ap (λ (h : IpRepr). frame_of j (Whole to (record p { header = h }))) (same_number j (with_ident i j.ident) refl (ap (λ (x : InnerValue). x.host_requirements) same) p.header)
    ∙ ap (λ (own : HardwareAddress). frame_from own j.checksums (Whole to (numbered (with_ident i j.ident) p))) (ap (λ (x : InnerValue). x.hardware) same)
    ∙ ap (λ (caps : ChecksumCapabilities). frame_from i.hardware caps (Whole to (numbered (with_ident i j.ident) p)))
    (ap (λ (x : InnerValue). x.checksums) same)

pub under_still : (i j : InnerValue) (ident : ℕ) (to : HardwareAddress) (p : PacketValue) → IsSameHost i j → frame_under j ident to p ≡ frame_under i ident to p
under_still i j ident to p same =
    ap (λ (h : IpRepr). frame_of (with_ident j ident) (Whole to (record p { header = h })))
    (same_number (with_ident j ident) (with_ident i ident) refl (ap (λ (x : InnerValue). x.host_requirements) same) p.header)
    ∙ ap (λ (own : HardwareAddress). frame_from own j.checksums (Whole to (numbered (with_ident i ident) p))) (ap (λ (x : InnerValue). x.hardware) same)
    ∙ ap (λ (caps : ChecksumCapabilities). frame_from i.hardware caps (Whole to (numbered (with_ident i ident) p))) (ap (λ (x : InnerValue). x.checksums) same)
