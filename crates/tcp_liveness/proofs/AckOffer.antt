-- Where the own SYN is acknowledged, nothing is queued and an acknowledgement is due, it goes alone; and when no rule ends a connection
-- that opens.
use Rattle.std.proofs.Common.{◌≡◌, ◌⊎◌, inl, inr, ℕ, ◌+◌, ◌%◌, ◌^◌, ◌<◌, ◌≤◌, ◌==◌, ◌&&◌, ◌||◌, not, ℤ, Bool, true, false, if◌then◌else◌, List, []}
use Rattle.std.proofs.Common.{◌∷◌, length, Option, Some, None, is_some, refl, sym, ap, ◌∙◌, subst, arith}
use Rattle.net_base.specs.Ring.{Ring}
use Rattle.ip_wire.specs.Control.{control_len}
use Rattle.ip_wire.specs.SeqNumber.{SeqNumber}
use Rattle.ip_wire.specs.Tcp.{header_len}
use Rattle.ip_wire.specs.TcpHeader.{TcpHeader}
use Rattle.tcp_refinement.specs.Context.{ContextValue}
use Rattle.tcp_refinement.specs.Offers.{Offered}
use Rattle.tcp_invariants.specs.Acks.{IsDueBy, OffersAck}
use Rattle.tcp_invariants.specs.FourTuple.{FourTuple}
use Rattle.tcp_invariants.specs.Endpoints.{header_for}
use Rattle.tcp_invariants.specs.Ends.{Proceeds}
use Rattle.tcp_invariants.specs.Moments.{is_due}
use Rattle.tcp_invariants.specs.OfferKind.{OfferKind}
use Rattle.tcp_invariants.specs.OfferKind.TheVariants as Kind
use Rattle.tcp_invariants.specs.OpenOffer.{OpenOffer}
use Rattle.tcp_invariants.specs.State.{State}
use Rattle.tcp_invariants.specs.State.TheVariants as In
use Rattle.tcp_invariants.specs.States.{is_answering, is_closed, is_opening, is_time_wait, keeps_alive, owes_fin, sends_syn, may_send_data}
use Rattle.tcp_invariants.specs.Timing.{carries}
use Rattle.tcp_block.specs.Timeout.{end_by, timeout_end, waits_for_remote}
use Rattle.tcp_block.specs.declared.tcb.Tcb.{Tcb}
use Rattle.tcp_block.specs.TcbRules.{one_if, unacked}
use Rattle.tcp_block.specs.LossRecovery.{loss_probed}
use Rattle.tcp_block.specs.Offers.{offer_of, offer_ack, offer_choice, payload_of}
use Rattle.tcp_block.specs.Probing.{is_window_small, probe_deadline}
use Rattle.tcp_block.specs.Retries.{reaches, retries_of}
use Rattle.tcp_block.specs.Rules.{Choice, ack_deadline, backed_off_now, keep_alive_deadline, owes_syn, probe_choice, resend_choice, payload_choice}
use Rattle.tcp_block.specs.Segments.{ack_segment, hop_limit_of, segment_len}
use Rattle.tcp_block.specs.Settled.{settled}
use Rattle.tcp_block.specs.Value.{TcpValue, with_tcb, unoffered, queued_in, window_of}
use Rattle.tcp_invariants.proofs.AckRules.{goes_when_due}
use Rattle.tcp_invariants.proofs.OfferCases.{FirstRules, by_rules, begun, probing}
use Rattle.tcp_invariants.proofs.OrderSteps.{clash}
use Rattle.tcp_liveness.specs.Exchange.{data_of}
use Rattle.tcp_liveness.proofs.Again.{again_at_una}
use Rattle.tcp_liveness.proofs.Offered.{IsTransmitted, is_transmitted_of}
use Rattle.tcp_liveness.proofs.Shakes.{IsPlain}

not_second : (a b : Bool) → b ≡ false → (a && b) ≡ false
not_second true b e = e
not_second false b e = refl

neither : (a b : Bool) → a ≡ false → b ≡ false → (a || b) ≡ false
neither a b e f = ap (λ (t : Bool). t || b) e ∙ f

-- NO RULE ENDS IT

module _ (cx : ContextValue) (v : TcpValue) (timeout : v.tcb.settings.timeout ≡ None) where
  none_due : is_due cx.instant (timeout_end v.tcb (queued_in v)) ≡ false
  none_due =
      ap (λ (t : Option ℕ). is_due cx.instant (if is_some t && (not (is_closed v.tcb.state || is_time_wait v.tcb.state)
      && waits_for_remote v.tcb (queued_in v)) then end_by v.tcb.timers.timeout_since t else None)) timeout

  -- in SYN-RECEIVED, where the next timeout isn't the last
  pub answering_proceeds :
      v.tcb.state ≡ In.SynReceived → reaches v.tcb.settings.opening_retries (v.tcb.sender.timeouts + 1) ≡ false → Proceeds cx v
  answering_proceeds at tries = record {
    lasts = ap (λ (state : State). is_due cx.instant (if is_time_wait state then v.tcb.timers.time_wait_ends else None)) at;
    in_time = none_due;
    alive = ap is_closed at;
    tries =
        neither (is_due cx.instant v.tcb.timers.retransmit_at && reaches (retries_of v.tcb) (v.tcb.sender.timeouts + 1)) _
        (not_second (is_due cx.instant v.tcb.timers.retransmit_at) (reaches (retries_of v.tcb) (v.tcb.sender.timeouts + 1))
        (ap (λ (state : State). reaches (if is_opening state || is_answering state then v.tcb.settings.opening_retries else v.tcb.settings.retries)
        (v.tcb.sender.timeouts + 1)) at
        ∙ tries))
        (ap (λ (t : Bool). t && (is_due cx.instant v.tcb.timers.counts_from && reaches v.tcb.settings.retries v.tcb.sender.unanswered))
        (ap (λ (state : State). is_due cx.instant (if may_send_data state && (is_window_small v.tcb (queued_in v)
        && (v.tcb.sender.flight_size == 0)) then v.tcb.timers.probe_at else None)
        || is_due cx.instant (if keeps_alive state && (v.tcb.sender.flight_size == 0) then v.tcb.settings.keep_alive_at else None)) at));
  }

  -- in ESTABLISHED, where nothing is unanswered and no timer runs
  pub open_proceeds :
      v.tcb.state ≡ In.Established → v.tcb.timers.retransmit_at ≡ None → reaches v.tcb.settings.retries 0 ≡ false
      → v.tcb.sender.unanswered ≡ 0 → Proceeds cx v
  open_proceeds at timer tries none = record {
    lasts = ap (λ (state : State). is_due cx.instant (if is_time_wait state then v.tcb.timers.time_wait_ends else None)) at;
    in_time = none_due;
    alive = ap is_closed at;
    tries =
        neither (is_due cx.instant v.tcb.timers.retransmit_at && reaches (retries_of v.tcb) (v.tcb.sender.timeouts + 1)) _
        (ap (λ (t : Option ℤ). is_due cx.instant t && reaches (retries_of v.tcb) (v.tcb.sender.timeouts + 1)) timer)
        (not_second (is_due cx.instant (probe_deadline v.tcb (queued_in v)) || is_due cx.instant (keep_alive_deadline v.tcb)) _
        (not_second (is_due cx.instant v.tcb.timers.counts_from) (reaches v.tcb.settings.retries v.tcb.sender.unanswered)
        (ap (reaches v.tcb.settings.retries) none ∙ tries)));
  }

-- THE ACKNOWLEDGEMENT

pub record AckGoes (v : TcpValue) (o : Offered TcpValue) : Type 0 where
  pub k : OpenOffer
  pub offered : o.socket.offered ≡ Some k
  pub number : k.segment.seq_number ≡ v.tcb.sender.una
  pub acknowledges : k.segment.ack_number ≡ Some v.tcb.receiver.next
  pub plain : IsPlain k.segment
  pub bare : payload_of k k.kind o.socket.queued.queue ≡ []
  pub state : (settled true o.socket).tcb.state ≡ v.tcb.state
  pub una : (settled true o.socket).tcb.sender.una ≡ v.tcb.sender.una
  pub next : (settled true o.socket).tcb.receiver.next ≡ v.tcb.receiver.next

abbrev carries_in : Option OpenOffer → Bool
carries_in None = true
carries_in (Some o) = carries o.kind

number_is : (a b : SeqNumber) → a.0 ≡ b.0 → a ≡ b
number_is a b e = ap (λ (n : ℕ). same n) e where
  same : ℕ → SeqNumber
  same n = record { 0 = n }

at_una : (una snd_max old : ℕ) → una ≡ old → old < 2 ^ 32 → snd_max ≡ 0 → (una + snd_max) % 2 ^ 32 ≡ old
at_una una snd_max old e f g = omega arith

-- what the rules of an acknowledgement read of a block
record Alike (cx : ContextValue) (old b : Tcb) : Type 0 where
  state : b.state ≡ old.state
  una : b.sender.una ≡ old.sender.una
  syn_unacked : b.sender.syn_unacked ≡ old.sender.syn_unacked
  snd_max : b.sender.snd_max ≡ old.sender.snd_max
  next : b.receiver.next ≡ old.receiver.next
  due : is_due cx.instant (ack_deadline b) ≡ true

module _ (cx : ContextValue) (v : TcpValue) (own : FourTuple) (named : v.tcb.names.pair ≡ Some own) (on : Proceeds cx v)
    (at : v.tcb.state ≡ In.Established) (syn : v.tcb.sender.syn_unacked ≡ false) (none : v.tcb.sender.flight_size ≡ 0) (snd_max : v.tcb.sender.snd_max ≡ 0)
    (queue : v.queued.queue ≡ []) (took : v.tcb.receiver.took_syn ≡ true) (due : IsDueBy cx.instant v.tcb) (small : v.tcb.sender.una.0 < 2 ^ 32) where
  abbrev Either : Offered TcpValue → Type 0
  Either o = ((k : OpenOffer) → o.socket.offered ≡ Some k → carries k.kind ≡ true) ⊎ AckGoes v o

  no_pair : (pair : FourTuple) → None ≡ Some pair → ⊥
  no_pair pair e = absurd (cc)

  by_choice : (kind : OfferKind) (x : TcpValue) (pair : FourTuple) (c : Choice) → carries kind ≡ true → Either (offer_choice kind cx x pair c)
  by_choice kind x pair c it = inl (λ k e. sym (ap carries_in e) ∙ it)

  no_syn_due : (b : Tcb) → b.sender.syn_unacked ≡ v.tcb.sender.syn_unacked → owes_syn b ≡ false
  no_syn_due b same =
      not_second (sends_syn b.state && not (is_answering b.state && b.settings.synack_paused)) (b.sender.syn_unacked && (b.sender.flight_size == 0))
      (ap (λ (t : Bool). t && (b.sender.flight_size == 0)) (same ∙ syn))

  ack_goes : (pair : FourTuple) (b : Tcb) → Alike cx v.tcb b → AckGoes v (offer_ack Kind.Ack cx (with_tcb (unoffered v) b) pair)
  ack_goes pair b same = record {
    k =
        record {
          kind = Kind.Ack;
          instant = cx.instant;
          header = header_for pair.addresses (hop_limit_of b.settings.hop_limit) (header_len header + 0);
          segment = header;
          offset = 0;
          len = 0;
        };
    offered = refl;
    number = number_is header.seq_number v.tcb.sender.una
        (at_una b.sender.una.0 b.sender.snd_max v.tcb.sender.una.0 (ap (λ (n : SeqNumber). n.0) same.una) small (same.snd_max ∙ snd_max));
    acknowledges = ap Some same.next;
    plain = record { no_reset = refl; none = refl };
    bare = refl;
    state = same.state;
    una = same.una;
    next = same.next;
  }
    where
      header : TcpHeader
      header = ack_segment b pair cx.instant (window_of (with_tcb (unoffered v) b))

  first : (pair : FourTuple) (b : Tcb) → Alike cx v.tcb b → FirstRules cx pair Either (with_tcb (unoffered v) b)
  first pair b same = record {
    syn = λ owes. clash (sym owes ∙ no_syn_due b same.syn_unacked);
    again = λ _ _. by_choice Kind.FastRetransmission w pair (resend_choice b pair.addresses cx.ip_mtu v.queued) refl;
    payload = λ _ _. by_choice Kind.Payload w pair (payload_choice b pair.addresses cx.ip_mtu v.queued) refl;
    last = λ _.
        record {
          probe = λ _ _. by_choice Kind.Probe x pair probe_choice refl;
          window_limited = λ _ _. by_choice Kind.Payload x pair (payload_choice x.tcb pair.addresses cx.ip_mtu v.queued) refl;
          ack = λ _.
              inr
              (ack_goes pair x.tcb
              (record { state = same.state; una = same.una; syn_unacked = same.syn_unacked; snd_max = same.snd_max; next = same.next; due = same.due }));
          update = λ not _. clash (sym same.due ∙ not);
          keep_alive = λ not _. clash (sym same.due ∙ not);
          quiet = λ not. clash (sym same.due ∙ not);
        };
  }
    where
      w : TcpValue
      w = with_tcb (unoffered v) b

      x : TcpValue
      x = probing cx w

  is_due_now : is_due cx.instant (ack_deadline v.tcb) ≡ true
  is_due_now = ap (λ (t : Bool). is_due cx.instant (if t then v.tcb.timers.ack_at else None)) took ∙ due

  either : Either (offer_of cx v)
  either =
      by_rules cx v Either
      (record {
        nobody = λ unnamed. absurd (no_pair own (sym unnamed ∙ named));
        time_wait = λ it. clash (sym it ∙ on.lasts);
        timeout = λ it. clash (sym it ∙ on.in_time);
        closed = λ it. clash (sym it ∙ on.alive);
        reset = λ pair it _. clash (sym it ∙ on.alive);
        falls = λ _ it _. clash (sym it ∙ on.tries);
        over = λ _ it _. clash (sym it ∙ on.tries);
        backs = λ pair _ _ _.
            first pair (backed_off_now (begun cx v))
            (record { state = refl; una = refl; syn_unacked = refl; snd_max = refl; next = refl; due = is_due_now });
        probes = λ pair _ _ _ _.
            first pair (loss_probed (begun cx v)) (record { state = refl; una = refl; syn_unacked = refl; snd_max = refl; next = refl; due = is_due_now });
        goes = λ pair _ _ _.
            first pair (begun cx v) (record { state = refl; una = refl; syn_unacked = refl; snd_max = refl; next = refl; due = is_due_now });
      })

  nothing_left : unacked v.tcb (queued_in v) ≡ 0
  nothing_left =
      ap (λ (t : Bool). one_if t + queued_in v + one_if (owes_fin v.tcb.state)) syn
      ∙ (ap (λ (xs : List ℕ). 0 + length xs + one_if (owes_fin v.tcb.state)) queue ∙ ap (λ (state : State). 0 + 0 + one_if (owes_fin state)) at)

  none_of : (xs : List ℕ) (more : ℕ) → length xs + more ≤ 0 → xs ≡ []
  none_of [] more e = refl
  none_of (x ∷ xs) more e = absurd (omega arith)

  nor_more : (len more : ℕ) → len + more ≤ 0 → more ≡ 0
  nor_more len more e = omega arith

  pub ack_is_transmitted : AckGoes v (offer_of cx v)
  ack_is_transmitted = by either where
    it : OffersAck (offer_of cx v).socket v.tcb
    it = goes_when_due cx v own named took on due

    by : Either (offer_of cx v) → AckGoes v (offer_of cx v)
    by (inr a) = a
    by (inl every) =
        let k = it.offer in
        let carried = every k it.offered in
        let out : IsTransmitted v (offer_of cx v).socket k = is_transmitted_of cx v k syn it.offered carried in
        let less : segment_len k.segment (length (data_of v k)) ≤ 0 =
        subst (λ (n : ℕ). segment_len k.segment (length (data_of v k)) ≤ n) nothing_left out.ends in
        record {
          k = k;
          offered = it.offered;
          number = number_is k.segment.seq_number v.tcb.sender.una (again_at_una cx v k small syn (inl none) it.offered carried);
          acknowledges = out.acknowledges;
          plain = record { no_reset = out.no_reset; none = nor_more (length (data_of v k)) (control_len k.segment.control) less };
          bare =
              ap (λ (queued : Ring ℕ). payload_of k k.kind queued.queue) out.queued ∙ none_of (data_of v k) (control_len k.segment.control) less;
          state = out.sent.state;
          una = out.sent.una;
          next = out.sent.next;
        }
