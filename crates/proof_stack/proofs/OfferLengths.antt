-- What a TCP socket offers is no longer than the longest IP packet that it is shown.
use Rattle.std.proofs.Common.{◌≡◌, ℕ, ◌+◌, ◌-◌, ◌&&◌, ◌||◌, not, ◌≤◌, min, ℤ, Bool, true, false, if◌then◌else◌, length, Option, Some, None, is_some, refl, sym, ap}
use Rattle.std.proofs.Common.{subst, arith}
use Rattle.std.specs.Prelude.{IfSome}
use Rattle.iface_egress.specs.Plan.{total_len}
use Rattle.wire_tcp.specs.Options.{padded, options_bytes, scale_options, permitted_options, timestamps_options}
use Rattle.wire_tcp.specs.Tcp.{header_len}
use Rattle.wire_tcp.specs.declared.control.TcpControl.{TcpControl}
use Rattle.wire_tcp.specs.declared.header.TcpHeader.{TcpHeader}
use Rattle.ip_wire.specs.SeqNumber.{SeqNumber}
use Rattle.ip_wire.specs.TcpTimestampGenerator.{TcpTimestampGenerator}
use Rattle.tcp_state.specs.Endpoints.{header_for, ip_header_len}
use Rattle.tcp_state.specs.declared.endpoints.AddressPair.{AddressPair}
use Rattle.tcp_state.specs.declared.endpoints.AddressPair.TheVariants as Pair
use Rattle.tcp_state.specs.declared.endpoints.FourTuple.{FourTuple}
use Rattle.tcp_state.specs.declared.offer.OfferKind.{OfferKind}
use Rattle.tcp_state.specs.declared.offer.OfferKind.TheVariants as Kind
use Rattle.tcp_state.specs.declared.offer.OpenOffer.{OpenOffer}
use Rattle.sockets.specs.Context.{ContextValue}
use Rattle.tcp_block.specs.BaseOffers.{Offered}
use Rattle.tcp_block.specs.TcbRules.{local_scale}
use Rattle.tcp_block.specs.LossRecovery.{loss_probed}
use Rattle.tcp_block.specs.Offers.{number_at, offer_ack, offer_choice, offer_of, offer_reset, offer_segment, offer_syn}
use Rattle.tcp_block.specs.Rules.{Choice, backed_off_now, control_for, next_offset, probe_choice, resend_choice, size_limit, timestamps_len, payload_choice}
use Rattle.tcp_block.specs.Segments.{ack_segment, hop_limit_of, keep_alive_segment, reset_segment, segment, tsval_by, syn_segment}
use Rattle.tcp_block.specs.Timestamps.{generator_of, uses_stamps}
use Rattle.tcp_block.specs.Value.{TcpValue, free_in, queued_in, room_of, unoffered, window_of, with_tcb}
use Rattle.tcp_block.specs.declared.tcb.Tcb.{Tcb}
use Rattle.tcp_invariants.proofs.OfferCases.{FirstRules, LastRules, Rules, begun, by_rules, probing}
use Rattle.tcp_invariants.proofs.OrderRules.{window_least}

-- HEADERS

header_small : (addresses : AddressPair) → ip_header_len addresses ≤ 40
header_small (Pair.Ipv4 local remote) = omega arith
header_small (Pair.Ipv6 local remote) = omega arith

total : (addresses : AddressPair) (hop_limit n : ℕ) → total_len (header_for addresses hop_limit n) ≡ ip_header_len addresses + n
total (Pair.Ipv4 local remote) hop_limit n = refl
total (Pair.Ipv6 local remote) hop_limit n = refl

-- with timestamps or without
stamped_room : (on : Bool) (generator : Option TcpTimestampGenerator) (now : ℤ) (recent : ℕ)
    → padded (0 + 0 + 0 + 0 + length (options_bytes (timestamps_options (if on then tsval_by generator now recent else None)))) ≡
    (if on && is_some generator then 12 else 0)
stamped_room true (Some generator) now recent = refl
stamped_room true None now recent = refl
stamped_room false generator now recent = refl

segment_room : (b : Tcb) (pair : FourTuple) (now : ℤ) (window : ℕ) (control : TcpControl) (seq : SeqNumber) →
    header_len (segment b pair now window control seq) ≡ 20 + timestamps_len b
segment_room b pair now window control seq = ap (λ n. 20 + n) (stamped_room b.peer.timestamps b.stamps.generator now b.peer.recent)

stamp_small : (t : Bool) → (if t then 12 else 0) ≤ 12
stamp_small true = omega arith
stamp_small false = omega arith

stamp_len_small : (b : Tcb) → timestamps_len b ≤ 12
stamp_len_small b = stamp_small (uses_stamps b)

-- a SYN with each of its options
scale_room : (t : Bool) (n : ℕ) → length (options_bytes (scale_options (if t then Some n else None))) ≤ 3
scale_room true n = omega arith
scale_room false n = omega arith

permitted_room : (t : Bool) → length (options_bytes (permitted_options t)) ≤ 2
permitted_room true = omega arith
permitted_room false = omega arith

stamp_room : (t : Bool) (generator : Option TcpTimestampGenerator) (now : ℤ) (recent : ℕ) →
    length (options_bytes (timestamps_options (if t then tsval_by generator now recent else None))) ≤ 10
stamp_room true (Some generator) now recent = omega arith
stamp_room true None now recent = omega arith
stamp_room false generator now recent = omega arith

syn_room : (b : Tcb) (pair : FourTuple) (now : ℤ) (ip_mtu capacity free : ℕ) → header_len (syn_segment b pair now ip_mtu capacity free) ≤ 40
syn_room b pair now ip_mtu capacity free =
    let scale = scale_room (not b.receiver.took_syn || is_some b.peer.scale) (local_scale capacity) in
    let sack = permitted_room (not b.receiver.took_syn || b.peer.sack) in
    let stamp = stamp_room (not b.receiver.took_syn || b.peer.timestamps) (generator_of b) now b.peer.recent in
    omega (arith, scale, sack, stamp)

-- WHAT IS OFFERED, where a SYN of IPv6 fits

module _ (cx : ContextValue) (enough : 80 ≤ cx.ip_mtu) where
  abbrev Fits : Offered TcpValue → Type 0
  Fits o = IfSome o.socket.offered (λ (x : OpenOffer). total_len x.header ≤ cx.ip_mtu)

  fits_none : (v : TcpValue) → v.offered ≡ None → IfSome v.offered (λ (x : OpenOffer). total_len x.header ≤ cx.ip_mtu)
  fits_none v none = rw none tt

  module _ (v : TcpValue) (pair : FourTuple) where
    fits_segment : (kind : OfferKind) (header : TcpHeader) (slot len : ℕ) → ip_header_len pair.addresses + (header_len header + len) ≤ cx.ip_mtu →
        Fits (offer_segment kind cx v pair header slot len)
    fits_segment kind header slot len fits =
        subst (λ (n : ℕ). n ≤ cx.ip_mtu) (sym (total pair.addresses (hop_limit_of v.tcb.settings.hop_limit) (header_len header + len))) fits

    -- a segment with a byte at most
    fits_short : (kind : OfferKind) (control : TcpControl) (seq : SeqNumber) (header : TcpHeader) (slot len : ℕ) → len ≤ 1
        → header_len header ≡ header_len (segment v.tcb pair cx.instant (window_of v) control seq) → Fits (offer_segment kind cx v pair header slot len)
    fits_short kind control seq header slot len short same =
        let room = segment_room v.tcb pair cx.instant (window_of v) control seq in
        let stamp = stamp_len_small v.tcb in
        let ip = header_small pair.addresses in
        fits_segment kind header slot len (omega (arith, room, stamp, ip, short, same, enough))

    fits_choice : (kind : OfferKind) (c : Choice) → c.len ≤ size_limit v.tcb pair.addresses cx.ip_mtu → Fits (offer_choice kind cx v pair c)
    fits_choice kind c within =
        let header = segment v.tcb pair cx.instant (window_of v) (control_for c (queued_in v)) (number_at v.tcb c.offset) in
        let room = segment_room v.tcb pair cx.instant (window_of v) header.control header.seq_number in
        let stamp = stamp_len_small v.tcb in
        let ip = header_small pair.addresses in
        fits_segment kind header c.offset c.len (omega (arith, room, within, stamp, ip, enough))

    fits_ack : (kind : OfferKind) → Fits (offer_ack kind cx v pair)
    fits_ack kind =
        let header = ack_segment v.tcb pair cx.instant (window_of v) in fits_short kind header.control header.seq_number header 0 0 (omega arith) refl

    fits_text : Fits (offer_choice Kind.Payload cx v pair (payload_choice v.tcb pair.addresses cx.ip_mtu v.queued))
    fits_text =
        let limit = size_limit v.tcb pair.addresses cx.ip_mtu in
        let least = window_least v.tcb (min limit (queued_in v - next_offset v.tcb)) in
        fits_choice Kind.Payload (payload_choice v.tcb pair.addresses cx.ip_mtu v.queued) (omega (arith, least))

    fits_resent : Fits (offer_choice Kind.FastRetransmission cx v pair (resend_choice v.tcb pair.addresses cx.ip_mtu v.queued))
    fits_resent = fits_choice Kind.FastRetransmission (resend_choice v.tcb pair.addresses cx.ip_mtu v.queued) (omega arith)

    last_fits : v.offered ≡ None → LastRules cx pair Fits v
    last_fits none = record {
      probe = λ due shut. fits_choice Kind.Probe probe_choice (omega arith);
      window_limited = λ due wide. fits_text;
      ack = λ due. fits_ack Kind.Ack;
      update = λ early worth. fits_ack Kind.WindowUpdate;
      keep_alive = λ early due.
          let header = keep_alive_segment v.tcb pair cx.instant (window_of v) in
          fits_short Kind.KeepAlive header.control header.seq_number header 0 1 (omega arith) refl;
      quiet = λ early. fits_none v none;
    }

    fits_syn : Fits (offer_syn cx v pair)
    fits_syn =
        let header = syn_segment v.tcb pair cx.instant cx.ip_mtu (room_of v.received) (free_in v) in
        let room = syn_room v.tcb pair cx.instant cx.ip_mtu (room_of v.received) (free_in v) in
        let ip = header_small pair.addresses in
        fits_segment Kind.Syn header 0 0 (omega (arith, room, ip, enough))

    fits_reset : Fits (offer_reset cx v pair)
    fits_reset =
        let header = reset_segment v.tcb pair cx.instant (window_of v) in fits_short Kind.Reset header.control header.seq_number header 0 0 (omega arith) refl

  first_fits : (v : TcpValue) (pair : FourTuple) → v.offered ≡ None → FirstRules cx pair Fits v
  first_fits v pair none = record {
    syn = λ owes. fits_syn v pair;
    again = λ no_syn due. fits_resent v pair;
    payload = λ no_syn due. fits_text v pair;
    last = λ no_syn. last_fits (probing cx v) pair none;
  }

  rules_fit : (v : TcpValue) → Rules cx v Fits
  rules_fit v = record {
    nobody = λ none. tt;
    time_wait = λ due. tt;
    timeout = λ due. tt;
    closed = λ is. tt;
    reset = λ pair closed due. fits_reset (unoffered v) pair;
    falls = λ alive over back. tt;
    over = λ alive over stays. tt;
    backs = λ pair named on due. first_fits (with_tcb (unoffered v) (backed_off_now (begun cx v))) pair refl;
    probes = λ pair named on early due. first_fits (with_tcb (unoffered v) (loss_probed (begun cx v))) pair refl;
    goes = λ pair named on early. first_fits (with_tcb (unoffered v) (begun cx v)) pair refl;
  }

  pub offer_fits : (v : TcpValue) → IfSome (offer_of cx v).socket.offered (λ (x : OpenOffer). total_len x.header ≤ cx.ip_mtu)
  offer_fits v = by_rules cx v Fits (rules_fit v)
