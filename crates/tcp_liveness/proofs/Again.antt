-- What goes where nothing is in flight, or the timer has run out, begins at SND.UNA.
use Rattle.std.proofs.Common.{◌≡◌, inl, inr, ℕ, ◌+◌, ◌-◌, ◌%◌, ◌^◌, ◌<◌, Bool, true, false, Some, None, refl, sym, ap, ◌∙◌, arith}
use Rattle.ip_wire.specs.SeqNumber.{SeqNumber}
use Rattle.ip_wire.specs.Tcp.{header_len}
use Rattle.ip_wire.specs.TcpHeader.{TcpHeader}
use Rattle.tcp_refinement.specs.Context.{ContextValue}
use Rattle.tcp_refinement.specs.Offers.{Offered}
use Rattle.tcp_invariants.specs.Endpoints.{header_for}
use Rattle.tcp_invariants.specs.Moments.{is_due}
use Rattle.tcp_invariants.specs.FourTuple.{FourTuple}
use Rattle.tcp_invariants.specs.OfferKind.{OfferKind}
use Rattle.tcp_invariants.specs.OfferKind.TheVariants as Kind
use Rattle.tcp_invariants.specs.OpenOffer.{OpenOffer}
use Rattle.tcp_block.specs.TcbRules.{one_if}
use Rattle.tcp_block.specs.Offers.{offer_of, offer_segment, offer_choice, number_at}
use Rattle.tcp_block.specs.Rules.{Choice, next_offset, payload_choice, resend_choice, probe_choice, control_for, backed_off_now, size_limit, sent_count}
use Rattle.tcp_block.specs.LossRecovery.{loss_probed}
use Rattle.tcp_block.specs.Segments.{hop_limit_of, segment, ack_segment, syn_segment, reset_segment, keep_alive_segment}
use Rattle.tcp_block.specs.Value.{TcpValue, with_tcb, unoffered, queued_in, free_in, room_of, window_of}
use Rattle.tcp_block.specs.declared.tcb.Tcb.{Tcb}
use Rattle.tcp_invariants.proofs.OfferCases.{FirstRules, resends_first, by_rules, begun, probing}
use Rattle.tcp_invariants.proofs.OrderSteps.{clash}
use Rattle.tcp_invariants.specs.Timing.{carries}
use Rattle.tcp_liveness.specs.StartsOver.{StartsOver}

one_offer : (mine k : OpenOffer) → Some mine ≡ Some k → mine ≡ k
one_offer mine k e = cc

none_offered : {A : Type 0} → (k : OpenOffer) → None ≡ Some k → A
none_offered k e = absurd (cc)

at_una : (una syn offset : ℕ) → una < 2 ^ 32 → syn ≡ 0 → offset ≡ 0 → (una + (syn + offset)) % 2 ^ 32 ≡ una
at_una una syn offset small none first = omega arith

first_offset : (flight syn : ℕ) → flight ≡ 0 → flight - syn ≡ 0
first_offset flight syn e = omega arith

module _ (cx : ContextValue) (v : TcpValue) (small : v.tcb.sender.una.0 < 2 ^ 32) (syn : v.tcb.sender.syn_unacked ≡ false) (over : StartsOver cx v) where
  abbrev AtUna : Offered TcpValue → Type 0
  AtUna o = (k : OpenOffer) → o.socket.offered ≡ Some k → carries k.kind ≡ true → k.segment.seq_number.0 ≡ v.tcb.sender.una.0

  -- it begins at a place of the send queue
  by_offset :
      (kind : OfferKind) (x : TcpValue) (pair : FourTuple) (header : TcpHeader) (offset len : ℕ) → header.seq_number.0 ≡ v.tcb.sender.una.0
      → AtUna (offer_segment kind cx x pair header offset len)
  by_offset kind x pair header offset len number k e _ = ap (λ (o : OpenOffer). o.segment.seq_number.0) (sym (one_offer mine k e)) ∙ number where
    mine : OpenOffer
    mine = record {
      kind = kind;
      instant = cx.instant;
      header = header_for pair.addresses (hop_limit_of x.tcb.settings.hop_limit) (header_len header + len);
      segment = header;
      offset = offset;
      len = len;
    }

  by_choice :
      (kind : OfferKind) (x : TcpValue) (pair : FourTuple) (c : Choice) → (number_at x.tcb c.offset).0 ≡ v.tcb.sender.una.0
      → AtUna (offer_choice kind cx x pair c)
  by_choice kind x pair c number =
      by_offset kind x pair (segment x.tcb pair cx.instant (window_of x) (control_for c (queued_in x)) (number_at x.tcb c.offset)) c.offset c.len number

  -- it carries nothing
  by_bare :
      (kind : OfferKind) (x : TcpValue) (pair : FourTuple) (header : TcpHeader) (offset len : ℕ) → carries kind ≡ false
      → AtUna (offer_segment kind cx x pair header offset len)
  by_bare kind x pair header offset len bare k e some = clash (sym some ∙ (ap (λ (o : OpenOffer). carries o.kind) (sym (one_offer mine k e)) ∙ bare)) where
    mine : OpenOffer
    mine = record {
      kind = kind;
      instant = cx.instant;
      header = header_for pair.addresses (hop_limit_of x.tcb.settings.hop_limit) (header_len header + len);
      segment = header;
      offset = offset;
      len = len;
    }

  no_syn : one_if v.tcb.sender.syn_unacked ≡ 0
  no_syn = ap one_if syn

  number_of : (offset : ℕ) → offset ≡ 0 → (v.tcb.sender.una.0 + (one_if v.tcb.sender.syn_unacked + offset)) % 2 ^ 32 ≡ v.tcb.sender.una.0
  number_of offset first = at_una v.tcb.sender.una.0 (one_if v.tcb.sender.syn_unacked) offset small no_syn first

  by_first :
      (pair : FourTuple) (b : Tcb) → b.sender.una ≡ v.tcb.sender.una → b.sender.syn_unacked ≡ v.tcb.sender.syn_unacked → b.sender.flight_size ≡ 0
      → FirstRules cx pair AtUna (with_tcb (unoffered v) b)
  by_first pair b una same none = record {
    syn = λ _. by_offset Kind.Syn w pair (syn_segment w.tcb pair cx.instant cx.ip_mtu (room_of w.received) (free_in w)) 0 0 (ap (λ (s : SeqNumber). s.0) una);
    again = λ _ _. by_choice Kind.FastRetransmission w pair (resend_choice w.tcb pair.addresses cx.ip_mtu w.queued)
        (at_offset (resend_choice w.tcb pair.addresses cx.ip_mtu w.queued).offset
        (resends_first b (size_limit b pair.addresses cx.ip_mtu) (sent_count b) (queued_in w) none));
    payload = λ _ _. by_choice Kind.Payload w pair (payload_choice w.tcb pair.addresses cx.ip_mtu w.queued) (at_offset (next_offset b) first);
    last = λ _.
        record {
          probe = λ _ _. by_choice Kind.Probe x pair probe_choice (at_offset 0 refl);
          window_limited = λ _ _. by_choice Kind.Payload x pair (payload_choice x.tcb pair.addresses cx.ip_mtu x.queued) (at_offset (next_offset b) first);
          ack = λ _. by_bare Kind.Ack x pair (ack_segment x.tcb pair cx.instant (window_of x)) 0 0 refl;
          update = λ _ _. by_bare Kind.WindowUpdate x pair (ack_segment x.tcb pair cx.instant (window_of x)) 0 0 refl;
          keep_alive = λ _ _. by_bare Kind.KeepAlive x pair (keep_alive_segment x.tcb pair cx.instant (window_of x)) 0 1 refl;
          quiet = λ _ k e _. none_offered k e;
        };
  }
    where
      w : TcpValue
      w = with_tcb (unoffered v) b

      x : TcpValue
      x = probing cx w

      first : next_offset b ≡ 0
      first = first_offset b.sender.flight_size (one_if b.sender.syn_unacked) none

      at_offset : (offset : ℕ) → offset ≡ 0 → (b.sender.una.0 + (one_if b.sender.syn_unacked + offset)) % 2 ^ 32 ≡ v.tcb.sender.una.0
      at_offset offset zero =
          ap (λ (s : SeqNumber). (s.0 + (one_if b.sender.syn_unacked + offset)) % 2 ^ 32) una
          ∙ (ap (λ (t : Bool). (v.tcb.sender.una.0 + (one_if t + offset)) % 2 ^ 32) same ∙ number_of offset zero)

  not_due : is_due cx.instant v.tcb.timers.retransmit_at ≡ false → v.tcb.sender.flight_size ≡ 0
  not_due not = by over where
    by : StartsOver cx v → v.tcb.sender.flight_size ≡ 0
    by (inl none) = none
    by (inr due) = clash (sym due ∙ not)

  pub begins_at_una : AtUna (offer_of cx v)
  begins_at_una =
      by_rules cx v AtUna
      (record {
        nobody = λ _ k e _. none_offered k e;
        time_wait = λ _ k e _. none_offered k e;
        timeout = λ _ k e _. none_offered k e;
        closed = λ _ k e _. none_offered k e;
        reset = λ pair _ _. by_bare Kind.Reset (unoffered v) pair (reset_segment v.tcb pair cx.instant (window_of v)) 0 0 refl;
        falls = λ _ _ _ k e _. none_offered k e;
        over = λ _ _ _ k e _. none_offered k e;
        backs = λ pair _ _ _. by_first pair (backed_off_now (begun cx v)) refl refl refl;
        probes = λ pair _ _ not _. by_first pair (loss_probed (begun cx v)) refl refl (not_due not);
        goes = λ pair _ _ not. by_first pair (begun cx v) refl refl (not_due not);
      })

pub again_at_una :
    (cx : ContextValue) (v : TcpValue) (k : OpenOffer) → v.tcb.sender.una.0 < 2 ^ 32 → v.tcb.sender.syn_unacked ≡ false → StartsOver cx v
    → (offer_of cx v).socket.offered ≡ Some k → carries k.kind ≡ true → k.segment.seq_number.0 ≡ v.tcb.sender.una.0
again_at_una cx v k small syn over e some = begins_at_una cx v small syn over k e some
