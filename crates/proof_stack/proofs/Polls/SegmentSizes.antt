-- A segment that a TCP socket offers fits the path to its remote.
use Rattle.std.proofs.Common.{◌≡◌, ℕ, ◌+◌, ◌-◌, ◌≤◌, ◌&&◌, ◌||◌, not, min, max, ℤ, Bool, true, false, if◌then◌else◌, List, length, Option, Some, None}
use Rattle.std.proofs.Common.{is_some, refl, sym, ap, ◌∙◌, subst, arith}
use Rattle.std.proofs.lemmas.Bool.{leb-true}
use Rattle.wire_ip.specs.Ip.{destination_of}
use Rattle.ip_wire.specs.IpAddress.{IpAddress}
use Rattle.ip_wire.specs.IpRepr.{IpRepr}
use Rattle.ip_wire.specs.Options.{no_options}
use Rattle.ip_wire.specs.SeqNumber.{SeqNumber}
use Rattle.ip_wire.specs.Tcp.{header_len}
use Rattle.ip_wire.specs.TcpControl.{TcpControl}
use Rattle.ip_wire.specs.TcpControl.TheVariants as Control
use Rattle.ip_wire.specs.TcpHeader.{TcpHeader}
use Rattle.ip_wire.specs.TcpTimestampGenerator.{TcpTimestampGenerator}
use Rattle.tcp_state.specs.Context.{ContextValue}
use Rattle.tcp_state.specs.Endpoints.{header_for, ip_header_len}
use Rattle.tcp_state.specs.Offers.{Offered}
use Rattle.tcp_state.specs.declared.endpoints.AddressPair.{AddressPair}
use Rattle.tcp_state.specs.declared.endpoints.AddressPair.TheVariants as Pair
use Rattle.tcp_state.specs.declared.endpoints.FourTuple.{FourTuple}
use Rattle.tcp_state.specs.declared.offer.OpenOffer.{OpenOffer}
use Rattle.net_base.specs.Ring.{Ring}
use Rattle.tcp_block.specs.TcbRules.{local_scale, snd_max}
use Rattle.tcp_block.specs.LossRecovery.{retransmit_offset, hole_len, loss_probed}
use Rattle.tcp_block.specs.Offers.{offer_of, packet_with}
use Rattle.tcp_block.specs.Rules.{backed_off_now, congestion_limit, congestion_room, next_offset, ready, resend_choice, sent_count, size_limit}
use Rattle.tcp_block.specs.Rules.{timestamps_len, payload_choice}
use Rattle.tcp_block.specs.Segments.{hop_limit_of, mss_for, no_ranges, segment, tsval_by, syn_segment}
use Rattle.tcp_block.specs.Timestamps.{generator_of}
use Rattle.tcp_block.specs.Value.{TcpValue, free_in, room_of, unoffered, with_tcb}
use Rattle.tcp_block.specs.declared.tcb.Tcb.{Tcb}
use Rattle.tcp_block.specs.declared.tcb.CongestionControl.{CongestionControl}
use Rattle.tcp_block.specs.declared.tcb.CongestionControl.TheVariants as Congestion
use Rattle.tcp_invariants.proofs.OfferCases.{FirstRules, LastRules, begun, by_rules, probing}
use Rattle.tcp_refinement.proofs.NameLaws.{offer_between_ends}
use Rattle.tcp_socket.specs.Socket.{remote_in}
use Rattle.iface_ingress.specs.Packet.{PacketValue, Segment, packet_of}
use Rattle.iface_ingress.specs.Socket.TheVariants as Kind
use Rattle.iface_tables.specs.Inner.{InnerValue, mtu_by_destination, mtu_to}
use Rattle.iface_egress.specs.Plan.{total_len}
use Rattle.interface.specs.Remote.{address_in, context_for}
use Rattle.proof_stack.specs.Progress.Segments.{OffersSegment, asked_by}

-- HEADERS

-- the timestamps of a segment, with their padding, are as long as is counted for them
stamped : (b : Tcb) (pair : FourTuple) (now : ℤ) (window : ℕ) (control : TcpControl) (seq : SeqNumber)
    → header_len (segment b pair now window control seq) ≡ 20 + timestamps_len b
stamped b pair now window control seq = by b.peer.timestamps b.stamps.generator where
  by : (on : Bool) (g : Option TcpTimestampGenerator)
      → header_len (record (segment b pair now window control seq)
      { options = record no_options { timestamp = if on then tsval_by g now b.peer.recent else None } })
      ≡ 20 + (if on && is_some g then 12 else 0)
  by true None = refl
  by true (Some g) = refl
  by false None = refl
  by false (Some g) = refl

stamp_most : (b : Tcb) → timestamps_len b ≤ 12
stamp_most b = by (b.peer.timestamps && is_some b.stamps.generator) where
  by : (on : Bool) → (if on then 12 else 0) ≤ 12
  by true = leb-true _ _ refl
  by false = leb-true _ _ refl

-- a SYN with all its options takes 40 bytes
syn_most : (b : Tcb) (pair : FourTuple) (now : ℤ) (ip_mtu capacity free : ℕ) → header_len (syn_segment b pair now ip_mtu capacity free) ≤ 40
syn_most b pair now ip_mtu capacity free =
    by (not b.receiver.took_syn || is_some b.peer.scale) (not b.receiver.took_syn || b.peer.sack) (not b.receiver.took_syn || b.peer.timestamps)
    (generator_of b)
  where
    by : (scales permits stamps : Bool) (g : Option TcpTimestampGenerator)
        → header_len (record (syn_segment b pair now ip_mtu capacity free) {
          options = record {
            max_seg_size = Some (mss_for ip_mtu (ip_header_len pair.addresses));
            window_scale = if scales then Some (local_scale capacity) else None;
            sack_permitted = permits;
            sack_ranges = no_ranges;
            timestamp = if stamps then tsval_by g now b.peer.recent else None;
          };
        }) ≤ 40
    by true true true None = leb-true _ _ refl
    by true true true (Some g) = leb-true _ _ refl
    by true true false g = leb-true _ _ refl
    by true false true None = leb-true _ _ refl
    by true false true (Some g) = leb-true _ _ refl
    by true false false g = leb-true _ _ refl
    by false true true None = leb-true _ _ refl
    by false true true (Some g) = leb-true _ _ refl
    by false true false g = leb-true _ _ refl
    by false false true None = leb-true _ _ refl
    by false false true (Some g) = leb-true _ _ refl
    by false false false g = leb-true _ _ refl

address_most : (addresses : AddressPair) → ip_header_len addresses ≤ 40
address_most (Pair.Ipv4 local remote) = leb-true _ _ refl
address_most (Pair.Ipv6 local remote) = leb-true _ _ refl

-- LENGTHS

fits_limit : (ip_header stamps mss mtu len : ℕ) → 80 ≤ mtu → ip_header ≤ 40 → stamps ≤ 12
    → len ≤ max 1 (min mss (min mtu 65_535 - ip_header - 20) - stamps) → ip_header + (20 + stamps + len) ≤ mtu
fits_limit ip_header stamps mss mtu len enough most few within = omega (arith, enough, most, few, within)

congestion_most : (c : CongestionControl) (cwnd size : ℕ) → congestion_limit c cwnd size ≤ size
congestion_most Congestion.None cwnd size = omega arith
congestion_most Congestion.Reno cwnd size = omega arith
congestion_most Congestion.Cubic cwnd size = omega arith

first_least : (a b c : ℕ) → a ≤ min b c → a ≤ b
first_least a b c less = omega (arith, less)

other_least : (a b c : ℕ) → min a (min b c) ≤ b
other_least a b c = omega arith

window_least : (window limit rest : ℕ) → min window (min limit rest) ≤ limit
window_least window limit rest = omega arith

upto : (a b c : ℕ) → a ≤ b → b ≤ c → a ≤ c
upto a b c less more = omega (arith, less, more)

one_most : (y : ℕ) → 1 ≤ max 1 y
one_most y = omega arith

none_most : (y : ℕ) → 0 ≤ y
none_most y = omega arith

module _ (cx : ContextValue) (enough : 80 ≤ cx.ip_mtu) where
  abbrev IsShort : Option OpenOffer → Type 0
  IsShort None = Unit {0}
  IsShort (Some o) = total_len o.header ≤ cx.ip_mtu

  abbrev Short : Offered TcpValue → Type 0
  Short offered = IsShort offered.socket.offered

  total : (addresses : AddressPair) (hop_limit len : ℕ) → ip_header_len addresses + len ≤ cx.ip_mtu → total_len (header_for addresses hop_limit len) ≤ cx.ip_mtu
  total (Pair.Ipv4 local remote) hop_limit len less = less
  total (Pair.Ipv6 local remote) hop_limit len less = less

  -- a segment with so many bytes
  with_bytes : (b : Tcb) (pair : FourTuple) (hop_limit window : ℕ) (control : TcpControl) (seq : SeqNumber) (len : ℕ)
      → len ≤ size_limit b pair.addresses cx.ip_mtu
      → total_len (header_for pair.addresses hop_limit (header_len (segment b pair cx.instant window control seq) + len)) ≤ cx.ip_mtu
  with_bytes b pair hop_limit window control seq len within =
      total pair.addresses hop_limit (header_len (segment b pair cx.instant window control seq) + len)
      (subst (λ (n : ℕ). ip_header_len pair.addresses + (n + len) ≤ cx.ip_mtu) (sym (stamped b pair cx.instant window control seq))
      (fits_limit (ip_header_len pair.addresses) (timestamps_len b) b.peer.mss cx.ip_mtu len enough (address_most pair.addresses) (stamp_most b) within))

  one_byte : (b : Tcb) (pair : FourTuple) → 1 ≤ size_limit b pair.addresses cx.ip_mtu
  one_byte b pair = one_most (min b.peer.mss (min cx.ip_mtu 65_535 - ip_header_len pair.addresses - 20) - timestamps_len b)

  no_byte : (b : Tcb) (pair : FourTuple) → 0 ≤ size_limit b pair.addresses cx.ip_mtu
  no_byte b pair = none_most (size_limit b pair.addresses cx.ip_mtu)

  ready_most : (b : Tcb) (limit queued : ℕ) → ready b limit queued ≤ limit
  ready_most b limit queued =
      upto (ready b limit queued) (min (b.peer.window - b.sender.flight_size) (min limit (queued - next_offset b))) limit
      (congestion_most b.settings.congestion_control (congestion_room b) (min (b.peer.window - b.sender.flight_size) (min limit (queued - next_offset b))))
      (window_least (b.peer.window - b.sender.flight_size) limit (queued - next_offset b))

  again_most : (b : Tcb) (addresses : AddressPair) (queued : Ring ℕ) → (resend_choice b addresses cx.ip_mtu queued).len ≤ size_limit b addresses cx.ip_mtu
  again_most b addresses queued =
      other_least (hole_len b (retransmit_offset b (size_limit b addresses cx.ip_mtu) (sent_count b) (length queued.queue)) (sent_count b))
      (size_limit b addresses cx.ip_mtu) (length queued.queue - retransmit_offset b (size_limit b addresses cx.ip_mtu) (sent_count b) (length queued.queue))

  -- whatever its window, its bits and its number are
  so_long : (b : Tcb) (pair : FourTuple) (len : ℕ) → len ≤ size_limit b pair.addresses cx.ip_mtu
      → total_len (header_for pair.addresses (hop_limit_of b.settings.hop_limit) (header_len (segment b pair cx.instant 0 Control.None (snd_max b)) + len)) ≤ cx.ip_mtu
  so_long b pair len within = with_bytes b pair (hop_limit_of b.settings.hop_limit) 0 Control.None (snd_max b) len within

  module _ (v : TcpValue) where
    last_short : (pair : FourTuple) (b : Tcb) → LastRules cx pair Short (with_tcb (unoffered v) b)
    last_short pair b = record {
      probe = λ _ _. so_long b pair 1 (one_byte b pair);
      window_limited = λ _ _. so_long b pair (payload_choice b pair.addresses cx.ip_mtu v.queued).len
          (ready_most b (size_limit b pair.addresses cx.ip_mtu) (length v.queued.queue));
      ack = λ _. so_long b pair 0 (no_byte b pair);
      update = λ _ _. so_long b pair 0 (no_byte b pair);
      keep_alive = λ _ _. so_long b pair 1 (one_byte b pair);
      quiet = λ _. tt;
    }

    syn_short : (pair : FourTuple) (b : Tcb) (capacity free : ℕ)
        → total_len (header_for pair.addresses (hop_limit_of b.settings.hop_limit) (header_len (syn_segment b pair cx.instant cx.ip_mtu capacity free) + 0)) ≤ cx.ip_mtu
    syn_short pair b capacity free =
        let few = syn_most b pair cx.instant cx.ip_mtu capacity free in
        let short = address_most pair.addresses in
        total pair.addresses (hop_limit_of b.settings.hop_limit) (header_len (syn_segment b pair cx.instant cx.ip_mtu capacity free) + 0)
        (both (ip_header_len pair.addresses) (header_len (syn_segment b pair cx.instant cx.ip_mtu capacity free)) cx.ip_mtu short few enough)
      where
        both : (a n mtu : ℕ) → a ≤ 40 → n ≤ 40 → 80 ≤ mtu → a + (n + 0) ≤ mtu
        both a n mtu x y z = omega (arith, x, y, z)

    first_short : (pair : FourTuple) (b : Tcb) → FirstRules cx pair Short (with_tcb (unoffered v) b)
    first_short pair b = record {
      syn = λ _. syn_short pair b (room_of v.received) (free_in v);
      again = λ _ _. so_long b pair (resend_choice b pair.addresses cx.ip_mtu v.queued).len (again_most b pair.addresses v.queued);
      payload = λ _ _. so_long b pair (payload_choice b pair.addresses cx.ip_mtu v.queued).len
          (ready_most b (size_limit b pair.addresses cx.ip_mtu) (length v.queued.queue));
      last = λ _. last_short pair (probing cx (with_tcb (unoffered v) b)).tcb;
    }

    offer_short : Short (offer_of cx v)
    offer_short = by_rules cx v Short (record {
      nobody = λ _. tt;
      time_wait = λ _. tt;
      timeout = λ _. tt;
      closed = λ _. tt;
      reset = λ pair _ _. so_long v.tcb pair 0 (no_byte v.tcb pair);
      falls = λ _ _ _. tt;
      over = λ _ _ _. tt;
      backs = λ pair _ _ _. first_short pair (backed_off_now (begun cx v));
      probes = λ pair _ _ _ _. first_short pair (loss_probed (begun cx v));
      goes = λ pair _ _ _. first_short pair (begun cx v);
    })

-- IN A PACKET

of_packet : (o : Option OpenOffer) (queue : List ℕ) (ip : IpRepr) (header : TcpHeader) (bytes : List ℕ)
    → packet_with o queue ≡ Some (packet_of ip (Segment header bytes)) → (x : OpenOffer) × (o ≡ Some x) × (x.header ≡ ip)
of_packet None queue ip header bytes is = absurd (cc)
of_packet (Some o) queue ip header bytes is = (o, refl, ap header_of is) where
  header_of : Option PacketValue → IpRepr
  header_of None = ip
  header_of (Some p) = p.header

pub fits_path : (i : InnerValue) (v : TcpValue) (ip : IpRepr) (header : TcpHeader) (bytes : List ℕ) → OffersSegment i v ip header bytes
    → 80 ≤ mtu_to i (destination_of ip) → total_len ip ≤ mtu_to i (destination_of ip)
fits_path i v ip header bytes offers enough =
    let cx : ContextValue = context_for i (Kind.Tcp v) in
    let from = of_packet (asked_by i v).offered (asked_by i v).queued.queue ip header bytes offers.offers in
    let ends = offer_between_ends cx v from.0 from.1 in
    let path : cx.ip_mtu ≡ mtu_to i (destination_of ip) =
    ap (λ (o : Option FourTuple). mtu_by_destination i (address_in (remote_in o))) ends.1
    ∙ ap (λ (a : IpAddress). mtu_to i a) (sym ends.2.destination ∙ ap destination_of from.2) in
    let short : total_len from.0.header ≤ cx.ip_mtu =
    subst (IsShort cx (subst (λ (n : ℕ). 80 ≤ n) (sym path) enough)) from.1 (offer_short cx (subst (λ (n : ℕ). 80 ≤ n) (sym path) enough) v) in
    subst (λ (n : ℕ). total_len ip ≤ n) path (subst (λ (h : IpRepr). total_len h ≤ cx.ip_mtu) from.2 short)
