-- What a handshake leaves of both sides, however it begins.
use Rattle.std.proofs.Common.{◌≡◌, ℕ, ◌+◌, ◌^◌, ◌<◌, ◌≤◌, ℤ, true, []}
use Rattle.std.proofs.Common.{Some, None, sym, ap, ◌∙◌, subst, arith}
use Rattle.tcp_refinement.specs.Context.{ContextValue}
use Rattle.tcp_invariants.specs.Moments.{is_due}
use Rattle.tcp_block.specs.Arrival.{arrives}
use Rattle.tcp_refinement.specs.Pair.Sides.{other}
use Rattle.tcp_block.specs.Value.{TcpValue, room_of}
use Rattle.tcp_refinement.specs.Pair.Values.{HoldsPayload, PairSide, PairValue, context_at}
use Rattle.tcp_refinement.specs.declared.pair.event.Side.{Side}
use Rattle.tcp_refinement.specs.declared.pair.event.Side.TheVariants.{A, B}
use Rattle.tcp_liveness.specs.StartsOver.{StartsOver}
use Rattle.tcp_liveness.specs.Handshake.{MayShake, called_in}
use Rattle.tcp_liveness.specs.HandshakeOn.{MayAnswer, MayCallAgain, MayMeet, acked_in, met_in}
use Rattle.tcp_liveness.specs.Pair.{context_of, exchanged_in, offered_in, socket_of}
use Rattle.tcp_liveness.specs.Reached.{IsReached}
use Rattle.tcp_liveness.proofs.AckOffer.{answering_proceeds, open_proceeds}
use Rattle.tcp_liveness.proofs.Crossed.{Unmoved}
use Rattle.tcp_liveness.proofs.Hosts.{reached_holds}
use Rattle.tcp_liveness.proofs.Pair.{asked_side, peer_side_after}
use Rattle.tcp_liveness.proofs.ShakeSteps.{Answered, Heard, IsInitial, MayCall, acks, answer, it, one, taken}
use Rattle.tcp_liveness.proofs.Shaken.{IsInitialAck, a2, after_answer, asking, b2, bytes, bytes2, came, came2, came3, cx, cx2, cx3, cy, cy2, cy3}
use Rattle.tcp_liveness.proofs.Shaken.{initial_a, initial_b, heard_a, heard_b, heard_in, holds_a, holds_b, k, k2, k3, later_a, later_b}
use Rattle.tcp_liveness.proofs.Shaken.{may_call, r2, s2, timely_a, timely_b, una_of}
use Rattle.tcp_liveness.proofs.ShakenOn.{Confirmed, confirms, still as still_there}
use Rattle.tcp_liveness.proofs.ShakenAcross.{Meets, may_confirm, meets}
use Rattle.tcp_liveness.proofs.Shakes.{Answering, Connecting, Opens, caller_takes}
use Rattle.tcp_liveness.proofs.Loads.{IsAsSet, Load, load_of, offered_set}

-- what it leaves of a side: at most one timeout and one question
pub record IsShaken (old new : TcpValue) : Type 0 where
  pub room : room_of new.received ≡ room_of old.received
  pub timeout : new.tcb.settings.timeout ≡ None
  pub limit : new.tcb.settings.retries ≡ old.tcb.settings.retries
  pub timeouts : new.tcb.sender.timeouts ≤ 1
  pub questions : new.tcb.sender.unanswered ≤ 1

pub record BothShaken (p : PairValue) (side : Side) (q : PairValue) : Type 0 where
  pub own : IsShaken (socket_of p side) (socket_of q side)
  pub theirs : IsShaken (socket_of p (other side)) (socket_of q (other side))

one_most : (new old : ℕ) → new ≤ old + 1 → old ≡ 0 → new ≤ 1
one_most new old e f = omega arith

none_most : (n : ℕ) → n ≡ 0 → n ≤ 1
none_most n e = omega arith

-- what is set stays while a handshake begins
pub record IsBegun (p : PairValue) (side : Side) (q : PairValue) : Type 0 where
  pub room : room_of (socket_of q side).received ≡ room_of (socket_of p side).received
  pub limit : (socket_of q side).tcb.settings.retries ≡ (socket_of p side).tcb.settings.retries
  pub their_room : room_of (socket_of q (other side)).received ≡ room_of (socket_of p (other side)).received
  pub their_limit : (socket_of q (other side)).tcb.settings.retries ≡ (socket_of p (other side)).tcb.settings.retries

pub shaken_from : (p : PairValue) (side : Side) (q x : PairValue) → IsBegun p side q → BothShaken q side x → BothShaken p side x
shaken_from p side q x b s = record {
  own =
      record {
        room = s.own.room ∙ b.room;
        timeout = s.own.timeout;
        limit = s.own.limit ∙ b.limit;
        timeouts = s.own.timeouts;
        questions = s.own.questions;
      };
  theirs =
      record {
        room = s.theirs.room ∙ b.their_room;
        timeout = s.theirs.timeout;
        limit = s.theirs.limit ∙ b.their_limit;
        timeouts = s.theirs.timeouts;
        questions = s.theirs.questions;
      };
}

-- THE ANSWER GOES, AND THE ACKNOWLEDGEMENT

module _ (side : Side) (s r : PairSide) (second third : ℤ) (holds : HoldsPayload r.host) (h : Heard s.socket r.socket)
    (over : StartsOver (context_at (other side) (record r { instant = second })) r.socket) (f : IsInitial s.socket)
    (later : is_due third (Some s.instant) ≡ true) (small : (s2 side s r second third holds h over f).socket.tcb.sender.una.0 < 2 ^ 32)
    (peer_side_small : (r2 side s r second third holds h over f).socket.tcb.sender.una.0 < 2 ^ 32)
    (timely : IsInitialAck side s r second third holds h over f later small peer_side_small) where
  abbrev c2 : ContextValue
  c2 = cx2 side s r second third holds h over f

  abbrev d2 : ContextValue
  d2 = cy2 side s r second third holds h over f

  abbrev c3 : ContextValue
  c3 = cx3 side s r second third holds h over f later small peer_side_small

  abbrev d3 : ContextValue
  d3 = cy3 side s r second third holds h over f later small peer_side_small

  abbrev v2 : TcpValue
  v2 = (s2 side s r second third holds h over f).socket

  abbrev w2 : TcpValue
  w2 = (r2 side s r second third holds h over f).socket

  abbrev v3 : TcpValue
  v3 = (asked_side side (s2 side s r second third holds h over f) (r2 side s r second third holds h over f) third).socket

  abbrev w3 : TcpValue
  w3 = (peer_side_after side (s2 side s r second third holds h over f) (r2 side s r second third holds h over f) third).socket

  abbrev a : Answered s.instant v2 w2
  a = after_answer side s r second third holds h over f

  -- the answer goes, and comes
  reply : IsAsSet (load_of r.socket) (load_of w2)
  reply = offered_set c2 r.socket (answering_proceeds c2 r.socket h.answerer.timeout h.answerer.answers h.answerer.tries).tries

  takes_reply : Connecting s.socket (k2 side s r second third holds h over f).segment d2.instant
      (arrives d2 s.socket (k2 side s r second third holds h over f).header (k2 side s r second third holds h over f).segment
      (bytes2 side s r second third holds h over f))
  takes_reply =
      caller_takes d2 s.socket (k2 side s r second third holds h over f).header (k2 side s r second third holds h over f).segment
      (bytes2 side s r second third holds h over f) r.socket.tcb.receiver.next h.calls (answer c2 d2 s.socket r.socket holds h over f).control
      (acks c2 d2 s.socket r.socket holds h over f) (one c2 d2 s.socket r.socket holds h over f) (answer c2 d2 s.socket r.socket holds h over f).named

  reply_load : load_of v2 ≡ load_of
      (arrives d2 s.socket (k2 side s r second third holds h over f).header (k2 side s r second third holds h over f).segment
      (bytes2 side s r second third holds h over f)).socket
  reply_load = ap load_of (came2 side s r second third holds h over f).socket

  -- the last acknowledgement goes, and comes
  ack : IsAsSet (load_of v2) (load_of v3)
  ack = offered_set c3 v2 (open_proceeds c3 v2 a.caller.timeout a.opened a.timer a.caller.tries a.unanswered).tries

  takes_ack : Opens w2 (arrives d3 w2 (k3 side s r second third holds h over f later small peer_side_small).header
      (k3 side s r second third holds h over f later small peer_side_small).segment [])
  takes_ack = it c3 d3 v2 w2 s.instant a later small peer_side_small timely

  ack_load : load_of w3 ≡ load_of (arrives d3 w2 (k3 side s r second third holds h over f later small peer_side_small).header
      (k3 side s r second third holds h over f later small peer_side_small).segment []).socket
  ack_load = ap load_of (came3 side s r second third holds h over f later small peer_side_small).socket

  caller_shaken : IsShaken s.socket v3
  caller_shaken = record {
    room = ack.room ∙ (ap (λ (x : Load). x.room) reply_load ∙ takes_reply.room);
    timeout = ack.timeout ∙ a.caller.timeout;
    limit = ack.limit ∙ (ap (λ (x : Load). x.limit) reply_load ∙ takes_reply.retries);
    timeouts =
        one_most v3.tcb.sender.timeouts v2.tcb.sender.timeouts ack.timeouts (ap (λ (x : Load). x.timeouts) reply_load ∙ takes_reply.timeouts);
    questions =
        one_most v3.tcb.sender.unanswered v2.tcb.sender.unanswered ack.questions
        (ap (λ (x : Load). x.questions) reply_load ∙ takes_reply.unanswered);
  }

  answerer_shaken : IsShaken r.socket w3
  answerer_shaken = record {
    room = ap (λ (x : Load). x.room) ack_load ∙ (takes_ack.room ∙ reply.room);
    timeout = ap (λ (x : Load). x.timeout) ack_load ∙ (takes_ack.timeout ∙ (reply.timeout ∙ h.answerer.timeout));
    limit = ap (λ (x : Load). x.limit) ack_load ∙ (takes_ack.limit ∙ reply.limit);
    timeouts = none_most w3.tcb.sender.timeouts (ap (λ (x : Load). x.timeouts) ack_load ∙ takes_ack.timeouts);
    questions = none_most w3.tcb.sender.unanswered (ap (λ (x : Load). x.questions) ack_load ∙ takes_ack.unanswered);
  }

pub answered_shaken :
    (p : PairValue) (side : Side) (second third : ℤ) → IsReached p → MayAnswer p side second third
    → BothShaken p side (acked_in p side second third)
answered_shaken p A second third r m =
    let small = una_of (offered_in p B second) A (a2 p second third r m) in
    let peer_side_small = una_of (offered_in p B second) B (a2 p second third r m) in
    let holds = holds_a p second third r m in
    let h = heard_a p second third r m in
    let initial = initial_a p second third r m in
    let later = later_a p second third r m in
    let timely = timely_a p second third r m small peer_side_small in
    record {
      own = caller_shaken A p.sides.a p.sides.b second third holds h m.over initial later small peer_side_small timely;
      theirs = answerer_shaken A p.sides.a p.sides.b second third holds h m.over initial later small peer_side_small timely;
    }
answered_shaken p B second third r m =
    let small = una_of (offered_in p A second) B (b2 p second third r m) in
    let peer_side_small = una_of (offered_in p A second) A (b2 p second third r m) in
    let holds = holds_b p second third r m in
    let h = heard_b p second third r m in
    let initial = initial_b p second third r m in
    let later = later_b p second third r m in
    let timely = timely_b p second third r m small peer_side_small in
    record {
      own = caller_shaken B p.sides.b p.sides.a second third holds h m.over initial later small peer_side_small timely;
      theirs = answerer_shaken B p.sides.b p.sides.a second third holds h m.over initial later small peer_side_small timely;
    }

-- THE CALL GOES, OR GOES AGAIN

-- what has come of the other
record IsHeard (old new : TcpValue) : Type 0 where
  room : room_of new.received ≡ room_of old.received
  limit : new.tcb.settings.retries ≡ old.tcb.settings.retries

module _ (side : Side) (s r : PairSide) (first : ℤ) (m : MayCall (context_at side (record s { instant = first })) s.socket r.socket) where
  call_set : IsAsSet (load_of s.socket) (load_of (asked_side side s r first).socket)
  call_set = offered_set (cx side s r first m) s.socket m.goes.tries

  call_heard : IsHeard r.socket (peer_side_after side s r first).socket
  call_heard =
      subst (IsHeard r.socket) (sym (came side s r first m).socket)
      (record {
        room = x.room;
        limit = x.limit;
      })
    where
      x : Answering r.socket (k side s r first m).header (k side s r first m).segment
          (arrives (cy side s r first m) r.socket (k side s r first m).header (k side s r first m).segment (bytes side s r first m))
      x = taken (cx side s r first m) (cy side s r first m) s.socket r.socket m (bytes side s r first m)

to_called :
    (p : PairValue) (side : Side) (q : PairValue) → IsAsSet (load_of (socket_of p side)) (load_of (socket_of q side))
    → IsHeard (socket_of p (other side)) (socket_of q (other side)) → IsBegun p side q
to_called p side q a b = record { room = a.room; limit = a.limit; their_room = b.room; their_limit = b.limit }

pub call_begins :
    (p : PairValue) (side : Side) (first second third : ℤ) → IsReached p → MayShake p side first second third
    → IsBegun p side (called_in p side first)
call_begins p A first second third r m =
    let may = may_call p A first second third r m in
    to_called p A (called_in p A first) (call_set A p.sides.a p.sides.b first may) (call_heard A p.sides.a p.sides.b first may)
call_begins p B first second third r m =
    let may = may_call p B first second third r m in
    to_called p B (called_in p B first) (call_set B p.sides.b p.sides.a first may) (call_heard B p.sides.b p.sides.a first may)

heard_still : (old new : TcpValue) → Unmoved old new → IsHeard old new
heard_still old new u = record { room = ap room_of u.received; limit = u.retries }

pub again_begins :
    (p : PairValue) (side : Side) (first second third : ℤ) → IsReached p → MayCallAgain p side first second third
    → IsBegun p side (called_in p side first)
again_begins p A first second third r m =
    let holds = reached_holds p A r in
    let h = heard_in p A r m.unanswered in
    let f = asking p A r m.unanswered.calls in
    to_called p A (called_in p A first) (offered_set (context_of p A first) p.sides.a.socket m.goes.tries)
    (heard_still p.sides.b.socket (socket_of (called_in p A first) B)
    (still_there A p.sides.a p.sides.b first holds h m.over m.goes f.syn_unacked f.alone))
again_begins p B first second third r m =
    let holds = reached_holds p B r in
    let h = heard_in p B r m.unanswered in
    let f = asking p B r m.unanswered.calls in
    to_called p B (called_in p B first) (offered_set (context_of p B first) p.sides.b.socket m.goes.tries)
    (heard_still p.sides.a.socket (socket_of (called_in p B first) A)
    (still_there B p.sides.b p.sides.a first holds h m.over m.goes f.syn_unacked f.alone))

-- AN ANSWER IS CONFIRMED

pub confirmed_shaken :
    (w v w_new v_new : TcpValue) → Confirmed w v w_new v_new → w.tcb.settings.timeout ≡ None → IsShaken w w_new
confirmed_shaken w v w_new v_new x timeout = record {
  room = x.room;
  timeout = x.timeout ∙ timeout;
  limit = x.limit;
  timeouts = none_most w_new.tcb.sender.timeouts x.timeouts;
  questions = none_most w_new.tcb.sender.unanswered x.unanswered;
}

-- two exchanges, one of each side
pub met_shaken :
    (p : PairValue) (side : Side) (third fourth : ℤ) → IsReached p → MayMeet p side third fourth
    → BothShaken p side (met_in p side third fourth)
met_shaken p side third fourth r m = record {
  own =
      record {
        room = ap room_of y.still.received ∙ x.room;
        timeout = y.still.timeout ∙ (x.timeout ∙ m.own.answerer.timeout);
        limit = y.still.retries ∙ x.limit;
        timeouts = none_most (socket_of z side).tcb.sender.timeouts (y.still.timeouts ∙ x.timeouts);
        questions = none_most (socket_of z side).tcb.sender.unanswered (y.still.unanswered ∙ x.unanswered);
      };
  theirs =
      record {
        room = y.room ∙ ap room_of x.still.received;
        timeout = y.timeout ∙ (x.still.timeout ∙ m.theirs.answerer.timeout);
        limit = y.limit ∙ x.still.retries;
        timeouts = none_most (socket_of z (other side)).tcb.sender.timeouts y.timeouts;
        questions = none_most (socket_of z (other side)).tcb.sender.unanswered y.unanswered;
      };
}
  where
    q : PairValue
    q = exchanged_in p side third

    z : PairValue
    z = met_in p side third fourth

    first : Meets p side third
    first = meets p side third fourth r m

    x : Confirmed (socket_of p side) (socket_of p (other side)) (socket_of q side) (socket_of q (other side))
    x = first.sockets

    y : Confirmed (socket_of q (other side)) (socket_of q side) (socket_of z (other side)) (socket_of z side)
    y = (confirms q side fourth first.leads (may_confirm p side third fourth m first)).sockets
