-- How a connection ends by a segment that is no reset: in LAST-ACK, where it acknowledges all. And what a bare segment leaves of RCV.NXT.
use Rattle.std.proofs.Common.{◌≡◌, ℕ, ◌+◌, ◌-◌, ◌==◌, ◌&&◌, min, Bool, true, false, List, [], length, drop, refl, sym, ap, ◌∙◌, arith}
use Rattle.std.proofs.Common.{length-drop}
use Rattle.std.proofs.lemmas.Bool.{cond_both, eqb-true, ne_eqb}
use Rattle.ip_wire.specs.IpRepr.{IpRepr}
use Rattle.ip_wire.specs.TcpHeader.{TcpHeader}
use Rattle.tcp_refinement.specs.Context.{ContextValue}
use Rattle.tcp_invariants.specs.Controls.{is_fin, is_rst}
use Rattle.tcp_invariants.specs.State.{State}
use Rattle.tcp_invariants.specs.State.TheVariants as In
use Rattle.tcp_invariants.specs.States.{is_closed, owes_fin, after_ack, after_ack_of_fin, after_fin}
use Rattle.tcp_invariants.proofs.ArrivalCases.{by_arrival, Received, Opening, Content, Drawing, acked_open, heeded, timed}
use Rattle.tcp_invariants.proofs.OrderSteps.{clash}
use Rattle.tcp_block.specs.Acknowledged.{acks_fin, freed_by, state_after_ack, windowed}
use Rattle.tcp_block.specs.Arrival.{arrives, waiting_anew}
use Rattle.tcp_block.specs.declared.tcb.Tcb.{Tcb}
use Rattle.tcp_block.specs.TcbRules.{one_if, unacked}
use Rattle.tcp_block.specs.Retries.{heard}
use Rattle.tcp_block.specs.Timestamps.{tsval_taken}
use Rattle.tcp_block.specs.Value.{TcpValue, Arrived, with_tcb, unoffered, queued_in}
use Rattle.tcp_liveness.specs.Exchange.{left_of}
use Rattle.tcp_liveness.specs.Sent.{is_early}

-- STATES

pub fin_alive : (state : State) → is_closed state ≡ false → is_closed (after_fin state) ≡ false
fin_alive In.Established e = refl
fin_alive In.FinWait1 e = refl
fin_alive In.FinWait2 e = refl
fin_alive other e = e

ack_of_fin_last : (state : State) → is_closed state ≡ false → is_closed (after_ack_of_fin state) ≡ true → state ≡ In.LastAck
ack_of_fin_last In.FinWait1 e f = clash (sym f)
ack_of_fin_last In.Closing e f = clash (sym f)
ack_of_fin_last In.LastAck e f = refl
ack_of_fin_last other e f = clash (sym f ∙ e)

-- an acknowledgement that ends a connection is that of the FIN
pub record IsLast (b : Tcb) (by queued : ℕ) : Type 0 where
  pub state : b.state ≡ In.LastAck
  pub all : (by == unacked b queued) ≡ true

and_second : (a b : Bool) → (a && b) ≡ true → b ≡ true
and_second true b e = e
and_second false b e = clash (sym e)

pub is_last : (b : Tcb) (by queued : ℕ) → is_closed b.state ≡ false → is_closed (state_after_ack b by queued) ≡ true → IsLast b by queued
is_last b by queued alive =
    cond_both (acks_fin b by queued) (after_ack_of_fin b.state) (after_ack b.state) (λ (state : State). is_closed state ≡ true → IsLast b by queued)
    (λ all closed.
    record { state = ack_of_fin_last b.state alive closed; all = and_second (owes_fin b.state) (by == unacked b queued) all })
    (λ _ closed. never b.state alive closed)
  where
    never : {X : Type 0} (state : State) → is_closed state ≡ false → is_closed (after_ack state) ≡ true → X
    never In.SynReceived e f = clash (sym f)
    never other e f = clash (sym f ∙ e)

-- then nothing is left
none_left : (b : Tcb) (by : ℕ) (queue : List ℕ) → IsLast b by (length queue) →
    one_if (b.sender.syn_unacked && (by == 0)) + length (drop (freed_by b by (length queue)) queue) + 0 ≡ 0
none_left b by queue last =
    whole (one_if b.sender.syn_unacked) (length queue) by (one_if (b.sender.syn_unacked && (by == 0)))
    (length (drop (freed_by b by (length queue)) queue))
    (eqb-true by (unacked b (length queue)) last.all ∙ ap (λ (state : State). one_if b.sender.syn_unacked + length queue + one_if (owes_fin state)) last.state)
    (second b.sender.syn_unacked (by == 0) (ne_eqb by 0 some)) (length-drop (freed_by b by (length queue)) queue)
  where
    some : by ≡ 0 → ⊥
    some e =
        more (one_if b.sender.syn_unacked) (length queue) by
        (eqb-true by (unacked b (length queue)) last.all
        ∙ ap (λ (state : State). one_if b.sender.syn_unacked + length queue + one_if (owes_fin state)) last.state)
        e
      where
        more : (syn queued by : ℕ) → by ≡ syn + queued + 1 → by ≡ 0 → ⊥
        more syn queued by e f = absurd (omega arith)

    second : (a b : Bool) → b ≡ false → one_if (a && b) ≡ 0
    second true b e = ap one_if e
    second false b e = refl

    whole : (syn queued by first rest : ℕ) → by ≡ syn + queued + 1 → first ≡ 0 → rest ≡ queued - min (by - syn) queued → first + rest + 0 ≡ 0
    whole syn queued by first rest e f g = omega arith

-- A SEGMENT COMES

module _ (cx : ContextValue) (ip : IpRepr) (header : TcpHeader) (bytes : List ℕ) (v : TcpValue) (late : is_early v.tcb.state ≡ false)
    (alive : is_closed v.tcb.state ≡ false) (plain : is_rst header.control ≡ false) where
  abbrev Closing : Arrived → Type 0
  Closing a = is_closed a.socket.tcb.state ≡ true → (v.tcb.state ≡ In.LastAck) × (left_of a.socket ≡ 0)

  open_drawing : (x : TcpValue) → is_closed x.tcb.state ≡ false → Drawing cx ip header bytes Closing x
  open_drawing x on = record { answers = λ _ e. clash (sym e ∙ on); at_once = λ e. clash (sym e ∙ on); pauses = λ e. clash (sym e ∙ on) }

  open_content : (x : TcpValue) → is_closed x.tcb.state ≡ false → Content cx ip header bytes Closing x
  open_content x on = record {
    plain = (λ _. λ e. clash (sym e ∙ on), λ e. clash (sym e ∙ on));
    fin = λ _ _. (λ _. λ e. clash (sym e ∙ fin_alive x.tcb.state on), λ e. clash (sym e ∙ fin_alive x.tcb.state on));
    ordered = λ _ _ _ _. (λ _. λ e. clash (sym e ∙ on), λ e. clash (sym e ∙ on));
    ordered_fin = λ _ _ _ _. (λ _. λ e. clash (sym e ∙ fin_alive x.tcb.state on), λ e. clash (sym e ∙ fin_alive x.tcb.state on));
    early = λ _ _ _ _ e. clash (sym e ∙ on);
  }

  open_received : Received cx ip header bytes Closing (unoffered v)
  open_received = record {
    stays = λ e. clash (sym e ∙ alive);
    refuses = λ e. clash (sym e ∙ alive);
    draws = open_drawing (unoffered v) alive;
    falls = λ rst _ _. clash (sym rst ∙ plain);
    ends = λ rst _ _. clash (sym rst ∙ plain);
    closes = λ by _ closed _.
        let last = is_last v.tcb by (queued_in v) alive closed in (last.state, none_left v.tcb by v.queued.queue last);
    taken = λ by _ on.
        open_content
        (heeded cx.instant header (length bytes) (unoffered v) by (acked_open (timed cx.instant header (unoffered v) by) by cx.instant).tcb) on;
    taken_window = λ by _ on.
        open_content
        (heeded cx.instant header (length bytes) (unoffered v) by
        (windowed (acked_open (timed cx.instant header (unoffered v) by) by cx.instant).tcb header))
        on;
    news = λ by _ on. open_drawing (waiting_anew (acked_open (timed cx.instant header (unoffered v) by) by cx.instant) header cx.instant) on;
    outside = open_drawing (waiting_anew (unoffered v) header cx.instant) alive;
    old = λ _. open_content (with_tcb (unoffered v) (tsval_taken (heard v.tcb) header cx.instant)) alive;
  }

  open_opening : Opening cx ip header bytes Closing (unoffered v)
  open_opening = record {
    opens = λ at _. clash (sym (ap is_early at) ∙ late);
    refuses = λ e. clash (sym e ∙ alive);
    ends = λ at. clash (sym (ap is_early at) ∙ late);
    connects = λ at _. clash (sym (ap is_early at) ∙ late);
    crosses = λ at _. clash (sym (ap is_early at) ∙ late);
  }

  pub closes_last : is_closed (arrives cx v ip header bytes).socket.tcb.state ≡ true →
      (v.tcb.state ≡ In.LastAck) × (left_of (arrives cx v ip header bytes).socket ≡ 0)
  closes_last = by_arrival cx ip header bytes Closing v (λ e. clash (sym e ∙ alive)) (λ _. open_opening) (λ _. open_received)

-- one without payload and FIN takes nothing
module _ (cx : ContextValue) (ip : IpRepr) (header : TcpHeader) (v : TcpValue) (late : is_early v.tcb.state ≡ false)
    (no_fin : is_fin header.control ≡ false) (plain : is_rst header.control ≡ false) where
  abbrev Still : Arrived → Type 0
  Still a = a.socket.tcb.receiver.next ≡ v.tcb.receiver.next

  still_drawing : (x : TcpValue) → x.tcb.receiver.next ≡ v.tcb.receiver.next → Drawing cx ip header [] Still x
  still_drawing x e = record { answers = λ _. e; at_once = e; pauses = e }

  still_content : (x : TcpValue) → x.tcb.receiver.next ≡ v.tcb.receiver.next → Content cx ip header [] Still x
  still_content x e = record {
    plain = (λ _. e, e);
    fin = λ fin _. clash (sym fin ∙ no_fin);
    ordered = λ _ _ _ some. clash some;
    ordered_fin = λ _ _ fin _. clash (sym fin ∙ no_fin);
    early = λ _ _ _ _. e;
  }

  still_received : Received cx ip header [] Still (unoffered v)
  still_received = record {
    stays = refl;
    refuses = refl;
    draws = still_drawing (unoffered v) refl;
    falls = λ rst _ _. clash (sym rst ∙ plain);
    ends = λ _ _ _. refl;
    closes = λ _ _ _. refl;
    taken = λ by _ _. still_content (heeded cx.instant header 0 (unoffered v) by (acked_open (timed cx.instant header (unoffered v) by) by cx.instant).tcb) refl;
    taken_window = λ by _ _.
        still_content
        (heeded cx.instant header 0 (unoffered v) by (windowed (acked_open (timed cx.instant header (unoffered v) by) by cx.instant).tcb header))
        refl;
    news = λ by _ _. still_drawing (waiting_anew (acked_open (timed cx.instant header (unoffered v) by) by cx.instant) header cx.instant) refl;
    outside = still_drawing (waiting_anew (unoffered v) header cx.instant) refl;
    old = λ _. still_content (with_tcb (unoffered v) (tsval_taken (heard v.tcb) header cx.instant)) refl;
  }

  still_opening : Opening cx ip header [] Still (unoffered v)
  still_opening = record {
    opens = λ at _. clash (sym (ap is_early at) ∙ late);
    refuses = refl;
    ends = λ at. clash (sym (ap is_early at) ∙ late);
    connects = λ at _. clash (sym (ap is_early at) ∙ late);
    crosses = λ at _. clash (sym (ap is_early at) ∙ late);
  }

  pub bare_still : (arrives cx v ip header []).socket.tcb.receiver.next ≡ v.tcb.receiver.next
  bare_still = by_arrival cx ip header [] Still v refl (λ _. still_opening) (λ _. still_received)
