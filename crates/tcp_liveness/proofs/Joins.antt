-- A handshake, and what the users write after it, lead to two sides that talk.
use Rattle.std.proofs.Common.{◌≡◌, ℕ, ◌+◌, ◌<◌, ◌≤◌, min, true, false, List, [], ◌∷◌, length}
use Rattle.std.proofs.Common.{Option, Some, None, take, refl, sym, ap, ◌∙◌, subst, arith}
use Rattle.std.proofs.lemmas.Bool.{cond_both, leb-false, lt-leb}
use Rattle.net_base.specs.Ring.{Ring, anchored, enqueued}
use Rattle.tcp_refinement.proofs.Tied.{if_not}
use Rattle.tcp_invariants.specs.State.{State}
use Rattle.tcp_invariants.specs.State.TheVariants as In
use Rattle.tcp_invariants.specs.States.{after_close, is_opening, takes_writes}
use Rattle.tcp_invariants.proofs.OrderSteps.{clash}
use Rattle.tcp_block.specs.Calls.{close_after, send_after, sent_more}
use Rattle.tcp_block.specs.Retries.{reaches}
use Rattle.tcp_refinement.specs.Pair.Sides.{other}
use Rattle.tcp_refinement.specs.Pair.Steps.{Steps}
use Rattle.tcp_block.specs.Value.{Received, TcpValue, ended, room_of, unoffered, with_tcb}
use Rattle.tcp_refinement.specs.Pair.Values.{PairValue, past_at}
use Rattle.tcp_refinement.specs.declared.pair.event.PairEvent.{PairEvent}
use Rattle.tcp_refinement.specs.declared.pair.event.PairEvent.TheVariants.{Close, Send}
use Rattle.tcp_refinement.specs.declared.pair.event.Side.{Side}
use Rattle.tcp_refinement.specs.declared.pair.event.Side.TheVariants.{A, B}
use Rattle.tcp_liveness.specs.Arrivals.{is_synchronized}
use Rattle.tcp_liveness.specs.BothWays.{bound}
use Rattle.tcp_liveness.specs.Connection.{AreWriting, Course, IsAtEase, IsLasting, IsWriting, MayConverse, MayOpen, opened_by}
use Rattle.tcp_liveness.specs.Connection.Course.{ByAcknowledgement, ByAnswer, ByCall, ByCallAgain, ByCrossing, ByMeeting}
use Rattle.tcp_liveness.specs.Handshake.{AreConnected, called_in, shaken_in}
use Rattle.tcp_liveness.specs.HandshakeOn.{acked_in, confirmed_in, crossed_in, met_in}
use Rattle.tcp_liveness.specs.Pair.{HasStream, socket_of}
use Rattle.tcp_liveness.specs.Reached.{IsReached}
use Rattle.tcp_liveness.specs.Rounds.{takes}
use Rattle.tcp_liveness.specs.Talking.{AreTalking, HaveTries, IsTalking}
use Rattle.tcp_liveness.proofs.Crossed.{Unmoved}
use Rattle.tcp_liveness.proofs.Kept.{reached_by}
use Rattle.tcp_liveness.proofs.Opened.{is_open}
use Rattle.tcp_liveness.proofs.Shaken.{answers_on}
use Rattle.tcp_liveness.proofs.Shaken.{syn_came}
use Rattle.tcp_liveness.proofs.ShakenOn.{called_again, confirms, confirms_on}
use Rattle.tcp_liveness.proofs.ShakenAcross.{crossing, meets_on}
use Rattle.tcp_liveness.proofs.Begins.{BothShaken, IsShaken, again_begins, answered_shaken, call_begins, confirmed_shaken, met_shaken, shaken_from}

-- THE USERS WRITE

-- a side that may talk, but for what its user said
record IsReady (v : TcpValue) : Type 0 where
  synchronized : is_synchronized v.tcb.state ≡ true
  acked : v.tcb.sender.syn_unacked ≡ false
  room : 1 ≤ room_of v.received
  timeout : v.tcb.settings.timeout ≡ None
  timeouts : reaches v.tcb.settings.retries (v.tcb.sender.timeouts + 4) ≡ false
  questions : reaches v.tcb.settings.retries (v.tcb.sender.unanswered + 4) ≡ false

fewer : (limit : Option ℕ) (a b : ℕ) → a ≤ b → reaches limit b ≡ false → reaches limit a ≡ false
fewer None a b e f = refl
fewer (Some limit) a b e f = lt-leb limit a (below a b limit e (leb-false limit b f)) where
  below : (a b limit : ℕ) → a ≤ b → b < limit → a < limit
  below a b limit e f = omega arith

ready : (old v : TcpValue) → IsLasting old → IsShaken old v → is_synchronized v.tcb.state ≡ true → v.tcb.sender.syn_unacked ≡ false → IsReady v
ready old v l s on acked = record {
  synchronized = on;
  acked = acked;
  room = subst (λ (n : ℕ). 1 ≤ n) (sym s.room) l.room;
  timeout = s.timeout;
  timeouts = least v.tcb.sender.timeouts s.timeouts;
  questions = least v.tcb.sender.unanswered s.questions;
}
  where
    five : (n : ℕ) → n ≤ 1 → n + 4 ≤ 5
    five n e = omega arith

    least : (n : ℕ) → n ≤ 1 → reaches v.tcb.settings.retries (n + 4) ≡ false
    least n e =
        ap (λ (limit : Option ℕ). reaches limit (n + 4)) s.limit ∙ fewer old.tcb.settings.retries (n + 4) 5 (five n e) l.tries

with_state : (v : TcpValue) (state : State) → is_synchronized state ≡ true → IsReady v →
    IsReady (with_tcb (unoffered v) (record v.tcb { state = state }))
with_state v state on r = record {
  synchronized = on;
  acked = r.acked;
  room = r.room;
  timeout = r.timeout;
  timeouts = r.timeouts;
  questions = r.questions;
}

sends_ready : (v : TcpValue) (payload : List ℕ) → IsReady v → IsReady (send_after v payload)
sends_ready v payload r =
    cond_both (takes_writes v.tcb.state) (sent_more v (enqueued (anchored v.queued) (take (min (length payload) (length v.queued.free)) payload))) (unoffered v)
    IsReady (λ _. same (enqueued (anchored v.queued) (take (min (length payload) (length v.queued.free)) payload))) (λ _. same v.queued)
  where
    same : (queued : Ring ℕ) → IsReady (sent_more v queued)
    same queued = record {
      synchronized = r.synchronized;
      acked = r.acked;
      room = r.room;
      timeout = r.timeout;
      timeouts = r.timeouts;
      questions = r.questions;
    }

closes_ready : (v : TcpValue) → IsReady v → IsReady (close_after v)
closes_ready v r =
    subst IsReady (sym (if_not (is_opening v.tcb.state) (ended (unoffered v)) _ (not_opening v.tcb.state r.synchronized)))
    (with_state v (after_close v.tcb.state) (later v.tcb.state r.synchronized) r)
  where
    not_opening : (state : State) → is_synchronized state ≡ true → is_opening state ≡ false
    not_opening In.SynSent e = clash (sym e)
    not_opening other e = refl

    later : (state : State) → is_synchronized state ≡ true → is_synchronized (after_close state) ≡ true
    later In.Listen e = clash (sym e)
    later In.SynSent e = clash (sym e)
    later In.SynReceived e = refl
    later In.Established e = refl
    later In.CloseWait e = refl
    later other e = e

-- both
record BothReady (p : PairValue) : Type 0 where
  a : IsReady p.sides.a.socket
  b : IsReady p.sides.b.socket

writes_on : (p : PairValue) (event : PairEvent) → IsWriting event → BothReady p → BothReady (takes p event)
writes_on p (Send A payload) w r = record { a = sends_ready p.sides.a.socket payload r.a; b = r.b }
writes_on p (Send B payload) w r = record { a = r.a; b = sends_ready p.sides.b.socket payload r.b }
writes_on p (Close A) w r = record { a = closes_ready p.sides.a.socket r.a; b = r.b }
writes_on p (Close B) w r = record { a = r.a; b = closes_ready p.sides.b.socket r.b }
writes_on p event w r = absurd w

all_written : (calls : List PairEvent) (p q : PairValue) → AreWriting calls → Steps p calls q → BothReady p → BothReady q
all_written [] p q w s r = subst BothReady (sym s) r
all_written (event ∷ calls) p q w s r = all_written calls (takes p event) q w.1 s.1 (writes_on p event w.0 r)

-- EACH BEGINNING

record IsOpened (x : PairValue) (side : Side) : Type 0 where
  leads : IsReached x
  own : IsReady (socket_of x side)
  theirs : IsReady (socket_of x (other side))

opened : (p : PairValue) (side : Side) (x : PairValue) → AreConnected x side → BothShaken p side x → IsLasting (socket_of p side)
    → IsLasting (socket_of p (other side)) → IsOpened x side
opened p side x c b own theirs = record {
  leads = c.leads;
  own = ready (socket_of p side) (socket_of x side) own b.own c.own.synchronized c.own.acknowledged;
  theirs = ready (socket_of p (other side)) (socket_of x (other side)) theirs b.theirs c.theirs.synchronized c.theirs.acknowledged;
}

-- a side that is at ease, and stays as it is
ready_still : (p : PairValue) (side : Side) (v : TcpValue) → IsAtEase p side → IsLasting (socket_of p side) → Unmoved (socket_of p side) v
    → is_synchronized v.tcb.state ≡ true → v.tcb.sender.syn_unacked ≡ false → IsReady v
ready_still p side v e l u on acked = record {
  synchronized = on;
  acked = acked;
  room = subst (λ (r : Received). 1 ≤ room_of r) (sym u.received) l.room;
  timeout = u.timeout ∙ e.timeout;
  timeouts =
      ap (λ (limit : Option ℕ). reaches limit (v.tcb.sender.timeouts + 4)) u.retries
      ∙ (ap (λ (n : ℕ). reaches (socket_of p side).tcb.settings.retries (n + 4)) u.timeouts ∙ e.tries.timeouts);
  questions =
      ap (λ (limit : Option ℕ). reaches limit (v.tcb.sender.unanswered + 4)) u.retries
      ∙ (ap (λ (n : ℕ). reaches (socket_of p side).tcb.settings.retries (n + 4)) u.unanswered ∙ e.tries.questions);
}

opens : (course : Course) (p : PairValue) (side : Side) → IsReached p → MayOpen course p side → IsLasting (socket_of p side)
    → IsLasting (socket_of p (other side)) → IsOpened (opened_by course p side) side
opens (ByCall first second third) p side r m own theirs =
    let b = syn_came p side first second third r m in
    let q = called_in p side first in
    let c = call_begins p side first second third r m in
    opened p side (shaken_in p side first second third) (answers_on q side second third b.leads b.may)
    (shaken_from p side q (shaken_in p side first second third) c (answered_shaken q side second third b.leads b.may)) own theirs
opens (ByAnswer second third) p side r m own theirs =
    opened p side (acked_in p side second third) (answers_on p side second third r m) (answered_shaken p side second third r m) own theirs
opens (ByCallAgain first second third) p side r m own theirs =
    let b = called_again p side first second third r m in
    let q = called_in p side first in
    let c = again_begins p side first second third r m in
    opened p side (shaken_in p side first second third) (answers_on q side second third b.leads b.may)
    (shaken_from p side q (shaken_in p side first second third) c (answered_shaken q side second third b.leads b.may)) own theirs
opens (ByAcknowledgement instant) p side r m own theirs =
    let x = confirms p side instant r m.0 in
    let c = confirms_on p side instant r m.0 in
    let z = confirmed_in p side instant in
    record {
      leads = c.leads;
      own = ready_still p side (socket_of z side) m.1 own x.sockets.still c.own.synchronized c.own.acknowledged;
      theirs =
          ready (socket_of p (other side)) (socket_of z (other side)) theirs
          (confirmed_shaken (socket_of p (other side)) (socket_of p side) (socket_of z (other side)) (socket_of z side) x.sockets
          m.0.unconfirmed.answerer.timeout)
          c.theirs.synchronized c.theirs.acknowledged;
    }
opens (ByCrossing first second third fourth) p side r m own theirs =
    let x = crossing p side first second r m.0 in
    let q = crossed_in p side first second in
    opened p side (met_in q side third fourth) (meets_on q side third fourth x.leads m.1)
    (shaken_from p side q (met_in q side third fourth)
    (record { room = x.room; limit = x.limit; their_room = x.their_room; their_limit = x.their_limit })
    (met_shaken q side third fourth x.leads m.1))
    own theirs
opens (ByMeeting third fourth) p side r m own theirs =
    opened p side (met_in p side third fourth) (meets_on p side third fourth r m) (met_shaken p side third fourth r m) own theirs

-- THE WHOLE

module _ (p q : PairValue) (side : Side) (course : Course) (calls : List PairEvent) (r : IsReached p) (m : MayConverse p side course calls q) where
  abbrev x : PairValue
  x = opened_by course p side

  it_opens : IsOpened x side
  it_opens = opens course p side r m.opens m.own m.theirs

  pub leads_to : IsReached q
  leads_to = reached_by x q calls it_opens.leads m.steps

  ready_x : BothReady x
  ready_x = sides side it_opens.own it_opens.theirs where
    sides : (side : Side) → IsReady (socket_of x side) → IsReady (socket_of x (other side)) → BothReady x
    sides A own theirs = record { a = own; b = theirs }
    sides B own theirs = record { a = theirs; b = own }

  ready_q : BothReady q
  ready_q = all_written calls x q m.writing m.steps ready_x

  talks : (of : Side) → IsReady (socket_of q of) → HasStream (past_at q of) → IsTalking q of
  talks of v stream = record {
    own = is_open q of leads_to v.synchronized v.acked;
    stream = stream;
    room = v.room;
    timeout = v.timeout;
  }

  pub talking_in : AreTalking (bound q) q
  talking_in = record {
    a = talks A ready_q.a m.stream_a;
    b = talks B ready_q.b m.stream_b;
    minutes_a = m.minutes_a;
    minutes_b = m.minutes_b;
    stamps_a = m.stamps_a;
    stamps_b = m.stamps_b;
  }

  pub tries_in : HaveTries q
  tries_in = (record { timeouts = ready_q.a.timeouts; questions = ready_q.a.questions }, record { timeouts = ready_q.b.timeouts; questions = ready_q.b.questions })
