-- An exchange goes on whatever the side offers.
use Rattle.std.proofs.Common.{◌≡◌, ℕ, ◌+◌, ◌≤◌, ℤ, true, false, Option, None, refl, sym, ap, ◌∙◌, arith}
use Rattle.ip_wire.specs.TcpTimestampRepr.{TcpTimestampRepr}
use Rattle.tcp_invariants.specs.InOrder.{has_all}
use Rattle.tcp_invariants.specs.State.{State}
use Rattle.tcp_invariants.specs.State.TheVariants as In
use Rattle.tcp_invariants.specs.States.{owes_fin, may_send_data}
use Rattle.tcp_invariants.proofs.OrderSteps.{clash}
use Rattle.tcp_block.specs.TcbRules.{one_if}
use Rattle.tcp_block.specs.Offers.{offer_of}
use Rattle.tcp_refinement.specs.Pair.Sides.{other}
use Rattle.tcp_refinement.specs.Pair.Steps.{refusal}
use Rattle.tcp_block.specs.Value.{TcpValue, queued_in}
use Rattle.tcp_refinement.specs.Pair.Values.{PairValue, past_at}
use Rattle.tcp_refinement.specs.declared.pair.event.PairEvent.TheVariants.{Offer}
use Rattle.tcp_refinement.specs.declared.pair.event.Side.{Side}
use Rattle.tcp_liveness.specs.Arrivals.{is_synchronized}
use Rattle.tcp_liveness.specs.Clocks.{arrives_stale}
use Rattle.tcp_liveness.specs.Exchange.{CanHear, left_of}
use Rattle.tcp_liveness.specs.Pair.{HasStream, MayReachIn, MovesIn, context_of, exchanged_in, mtu_of, socket_of}
use Rattle.tcp_liveness.specs.Reached.{IsReached}
use Rattle.tcp_liveness.specs.Restart.{MayProceed, MaySend, Sends}
use Rattle.tcp_liveness.proofs.Led.{leads_on}
use Rattle.tcp_liveness.proofs.Mirrored.{named_in}
use Rattle.tcp_liveness.proofs.Pair.{reached_moves}
use Rattle.tcp_liveness.proofs.Ready.{ready_side}
use Rattle.tcp_liveness.proofs.Resent.{again_sent}
use Rattle.tcp_liveness.proofs.Resumes.{SendsOut, sends_out}

no_more : (syn queued fin : ℕ) → 1 ≤ syn + queued + fin → syn ≡ 0 → queued ≡ 0 → fin ≡ 0 → ⊥
no_more syn queued fin e f g h = absurd (omega arith)

-- in the states in which something is owed payload may go
pub sends_there : (p : PairValue) (side : Side) → IsReached p → is_synchronized (socket_of p side).tcb.state ≡ true
    → (socket_of p side).tcb.sender.syn_unacked ≡ false → 1 ≤ left_of (socket_of p side) → may_send_data (socket_of p side).tcb.state ≡ true
sends_there p side r on acked owes = by (socket_of p side).tcb.state refl where
  v : TcpValue
  v = socket_of p side

  over : {A : Type 0} → has_all (socket_of p side).tcb.state ≡ true → owes_fin (socket_of p side).tcb.state ≡ false → A
  over all none =
      absurd
      (no_more (one_if (socket_of p side).tcb.sender.syn_unacked) (queued_in (socket_of p side)) (one_if (owes_fin (socket_of p side).tcb.state)) owes
      (ap one_if acked) ((ready_side p side r).order.acked all).2 (ap one_if none))

  by : (state : State) → (socket_of p side).tcb.state ≡ state → may_send_data state ≡ true
  by In.Closed at = clash (sym on ∙ ap is_synchronized at)
  by In.Listen at = clash (sym on ∙ ap is_synchronized at)
  by In.SynSent at = clash (sym on ∙ ap is_synchronized at)
  by In.SynReceived at = clash (sym on ∙ ap is_synchronized at)
  by In.FinWait2 at = over (ap has_all at) (ap owes_fin at)
  by In.TimeWait at = over (ap has_all at) (ap owes_fin at)
  by other at = refl

pub sends_in : (p : PairValue) (side : Side) (instant : ℤ) → IsReached p → MaySend (context_of p side instant) (socket_of p side) →
    SendsOut (context_of p side instant) (socket_of p side) (offer_of (context_of p side instant) (socket_of p side))
sends_in p side instant r m =
    let named = named_in p side r m.own.synchronized in
    sends_out (context_of p side instant) (socket_of p side) named.0 named.1 m
    (sends_there p side r m.own.synchronized m.own.acknowledged m.owes)
    (again_sent p side r m.own.acknowledged named.0.addresses (mtu_of p side) (socket_of p side).queued)

pub side_sends : (p : PairValue) (side : Side) (instant : ℤ) → IsReached p → MaySend (context_of p side instant) (socket_of p side) →
    Sends (context_of p side instant) (socket_of p side)
side_sends p side instant r m =
    let s = sends_in p side instant r m in record { o = s.k; offered = s.offered; kind = s.kind; some = s.some }

pub may_reach : (p : PairValue) (side : Side) (instant : ℤ) (r : IsReached p) (m : MayProceed p side instant) →
    MayReachIn p side instant (sends_in p side instant r m.sends).k
may_reach p side instant r m =
    let s = sends_in p side instant r m.sends in
    record {
      own = m.sends.own;
      theirs = m.theirs;
      over = m.sends.over;
      offered = s.offered;
      kind = s.kind;
      some = s.some;
      room = m.room;
      initial = ap (λ (tsval : Option TcpTimestampRepr). arrives_stale (socket_of p (other side)).tcb tsval) s.tsval ∙ m.initial;
      answer_initial = λ reply answer. m.answer_initial s.k reply s.offered answer;
    }

pub moves_of_itself :
    (p : PairValue) (side : Side) (instant : ℤ) → IsReached p → HasStream (past_at p side) → MayProceed p side instant
    → CanHear (socket_of p side) (socket_of p (other side)) → MovesIn p side instant
moves_of_itself p side instant r stream m space =
    reached_moves p side instant (sends_in p side instant r m.sends).k r stream (may_reach p side instant r m) space

pub leads_of_itself :
    (p : PairValue) (side : Side) (instant : ℤ) → IsReached p → HasStream (past_at p side) → MayProceed p side instant
    → refusal p (Offer side instant true) ≡ None → IsReached (exchanged_in p side instant)
leads_of_itself p side instant r stream m asked =
    leads_on p side instant (sends_in p side instant r m.sends).k r stream (may_reach p side instant r m) asked
