-- What a turn asks for follows from the beginning, but for what MaySpeak has.
use Rattle.std.proofs.Common.{◌≡◌, ◌⊎◌, inl, inr, ℕ, zero, suc, ◌+◌, ◌≤◌, ◌==◌, ◌&&◌, ◌||◌, not, ℤ}
use Rattle.std.proofs.Common.{if◌then◌else◌}
use Rattle.std.proofs.Common.{Bool, true, false, List, ◌++◌, length, length-append, Option, Some, None, is_some, refl}
use Rattle.std.proofs.Common.{sym, ap, ◌∙◌, subst, arith}
use Rattle.std.proofs.lemmas.Bool.{eqb-true}
use Rattle.tcp_invariants.specs.Reply.{Reply}
use Rattle.tcp_invariants.specs.Moments.{is_due}
use Rattle.tcp_invariants.proofs.OrderSteps.{clash}
use Rattle.tcp_block.specs.Timeout.{end_by, timeout_end, waits_for_remote}
use Rattle.tcp_invariants.specs.State.{State}
use Rattle.tcp_invariants.specs.State.TheVariants as In
use Rattle.tcp_invariants.specs.States.{is_closed, is_time_wait, may_send_data}
use Rattle.tcp_block.specs.declared.tcb.Tcb.{Tcb}
use Rattle.tcp_block.specs.Offers.{offer_of}
use Rattle.tcp_block.specs.Probing.{is_probing, probe_deadline}
use Rattle.tcp_block.specs.Retries.{gives_up}
use Rattle.tcp_block.specs.Rules.{has_payload, resends, time_wait_end}
use Rattle.tcp_invariants.specs.FourTuple.{FourTuple}
use Rattle.tcp_invariants.specs.Names.{Names}
use Rattle.net_base.specs.Ring.{Ring}
use Rattle.tcp_block.specs.TcbRules.{one_if}
use Rattle.tcp_refinement.specs.Pair.Safe.{taken_in as taken_list, written}
use Rattle.tcp_refinement.specs.Pair.Sides.{at, other}
use Rattle.tcp_block.specs.Value.{TcpValue, free_in, queued_in, room_of}
use Rattle.tcp_refinement.specs.Pair.Values.{PairValue, context_at, past_at}
use Rattle.tcp_refinement.specs.declared.pair.event.Side.{Side}
use Rattle.tcp_refinement.specs.declared.pair.event.Side.TheVariants.{A, B}
use Rattle.tcp_liveness.specs.StartsOver.{StartsOver}
use Rattle.tcp_liveness.specs.Arrivals.{is_synchronized}
use Rattle.tcp_liveness.specs.BothWays.{AreThere, IsThrough, MayAsk, MayRounds, MayTurn, bound, is_over, roused_in, rounds_in, turn_in, waits_in, wake_in}
use Rattle.tcp_liveness.specs.Clocks.{HasStamps, arrives_stale}
use Rattle.tcp_liveness.specs.Exchange.{IsOpen, left_of, offer_arrives, data_of}
use Rattle.tcp_liveness.specs.Pair.{HasStream, context_of, left_in, mtu_of, socket_of}
use Rattle.tcp_liveness.specs.Reached.{IsReached}
use Rattle.tcp_liveness.specs.Sent.{is_early}
use Rattle.tcp_liveness.specs.Settle.{read_in, restart_in}
use Rattle.tcp_liveness.specs.Talking.{AreTalking, MayTalk, SpeaksIn}
use Rattle.tcp_liveness.proofs.Calm.{answer_bare, no_tsval}
use Rattle.tcp_liveness.proofs.Opened.{is_open}
use Rattle.tcp_liveness.proofs.Held.{IsSet, asked_sets, goes_then}
use Rattle.tcp_liveness.proofs.Hosts.{read_mtu, roused_mtu}
use Rattle.tcp_liveness.proofs.Left.{left_same}
use Rattle.tcp_liveness.proofs.Mirrored.{named_in}
use Rattle.tcp_liveness.proofs.Moments.{clock}
use Rattle.tcp_liveness.proofs.OfItself.{sends_there}
use Rattle.tcp_liveness.proofs.Pair.{had_in, late_in, not_closed}
use Rattle.tcp_liveness.proofs.Ready.{ready_side}
use Rattle.tcp_liveness.proofs.Resent.{again_sent}
use Rattle.tcp_liveness.proofs.Resumes.{SendsOut, Starts}
use Rattle.tcp_liveness.proofs.Roused.{roused_calm, roused_other, roused_own}
use Rattle.tcp_liveness.proofs.Settles.{empty_after, read_peer_side, read_reached, safe_side, some_left}
use Rattle.tcp_liveness.proofs.TsvalPairs.{answer_initial as reply_initial, offer_initial}
use Rattle.tcp_liveness.proofs.Stampless.{stale_none, stampless}
use Rattle.tcp_liveness.proofs.TurnClocks.{HasTurn, Minutes, first_turn, midway, next_round, rouses, runs_out, ry, second_turn, there_days, wake_days}
use Rattle.tcp_liveness.proofs.TurnClocks.{wake_later, wakes}
use Rattle.tcp_liveness.proofs.Turns.{Ended, done_round, ends, late_on, nothing_turns, stream_still, through, turned}
use Rattle.tcp_liveness.proofs.Wide.{reached_cwnd}
use Rattle.tcp_liveness.proofs.Ways.{Balance, BothCalm, IsLate, balance, late_after, of_side, read_calm}

-- WHAT STAYS

pub record Stays (p : PairValue) (side : Side) : Type 0 where
  pub acked : (socket_of p side).tcb.sender.syn_unacked ≡ false
  pub stream : HasStream (past_at p side)
  pub room : 1 ≤ room_of (socket_of p side).received
  pub timeout : (socket_of p side).tcb.settings.timeout ≡ None

pub record BothStay (p : PairValue) : Type 0 where
  pub late : IsLate p
  pub a : Stays p A
  pub b : Stays p B

stays_on : (p q : PairValue) (side : Side) → BothCalm p q → Stays p side → Stays q side
stays_on p q side c s =
    let it = of_side p q side c in
    record {
      acked = it.acked s.acked;
      stream = stream_still p q side c s.stream;
      room = subst (λ (n : ℕ). 1 ≤ n) (sym it.room) s.room;
      timeout = it.timeout ∙ s.timeout;
    }

pub both_on : (p q : PairValue) → BothCalm p q → BothStay p → BothStay q
both_on p q c s = record {
  late = late_after p q c s.late;
  a = stays_on p q A c s.a;
  b = stays_on p q B c s.b;
}

pub of : (p : PairValue) (side : Side) → BothStay p → Stays p side
of p A s = s.a
of p B s = s.b

pub late_at : (p : PairValue) (side : Side) → BothStay p → is_early (socket_of p side).tcb.state ≡ false
late_at p A s = s.late.0
late_at p B s = s.late.1

-- A TURN

pub same_own : (p : PairValue) (side : Side) → socket_of (read_in p side) side ≡ socket_of p side
same_own p A = refl
same_own p B = refl

-- what waiting says
pub record Waiting (left : ℕ) (mine theirs : Bool) : Type 0 where
  pub some : 1 ≤ left
  pub own : mine ≡ false
  pub others : theirs ≡ false

pub waiting : (left : ℕ) (mine theirs : Bool) → (not (left == 0) && (not mine && not theirs)) ≡ true → Waiting left mine theirs
waiting left mine theirs e = by (left == 0) mine theirs refl e where
  by : (none own others : Bool) → (left == 0) ≡ none → (not none && (not own && not others)) ≡ true → Waiting left own others
  by true own others f g = clash (sym g)
  by false true others f g = clash (sym g)
  by false false true f g = clash (sym g)
  by false false false f g = record { some = some_left left f; own = refl; others = refl }

-- payload goes in no state in which TIME-WAIT could end
no_time_wait : (b : Tcb) (instant : ℤ) → may_send_data b.state ≡ true → is_due instant (time_wait_end b) ≡ false
no_time_wait b instant e = by b.state e where
  by : (state : State) → may_send_data state ≡ true → is_due instant (if is_time_wait state then b.timers.time_wait_ends else None) ≡ false
  by In.TimeWait e = clash (sym e)
  by other e = refl

no_timeout : (b : Tcb) (instant : ℤ) (queued : ℕ) → b.settings.timeout ≡ None → is_due instant (timeout_end b queued) ≡ false
no_timeout b instant queued e =
    ap
    (λ (t : Option ℕ).
    is_due instant
    (if is_some t && (not (is_closed b.state || is_time_wait b.state) && waits_for_remote b queued) then end_by b.timers.timeout_since t else None))
    e

module _ (n : ℕ) (p : PairValue) (side : Side) (r : IsReached p) (s : BothStay p) (m : HasTurn n p side) (waits : waits_in p side ≡ true)
    (tries : gives_up (restart_in p side) (socket_of (read_in p side) side).tcb (queued_in (socket_of (read_in p side) side)) ≡ false) where
  abbrev pub x : PairValue
  x = read_in p side

  abbrev pub t : ℤ
  t = restart_in p side

  abbrev pub v : TcpValue
  v = socket_of x side

  pub rx : IsReached x
  rx = read_reached p side r

  pub sx : BothStay x
  sx = both_on p x (read_calm p side) s

  pub at_work : Waiting (left_in p side) (is_over p side) (is_over p (other side))
  at_work = waiting (left_in p side) (is_over p side) (is_over p (other side)) waits

  alive : is_closed v.tcb.state ≡ false
  alive = ap (λ (u : TcpValue). is_closed u.tcb.state) (same_own p side) ∙ at_work.own

  pub mine : is_synchronized v.tcb.state ≡ true
  mine = late_on v.tcb.state (late_at x side sx) alive

  pub own : IsOpen v.tcb
  own = is_open x side rx mine (of x side sx).acked

  owes : 1 ≤ left_of v
  owes = subst (λ (u : TcpValue). 1 ≤ left_of u) (sym (same_own p side)) at_work.some

  pub sends : may_send_data v.tcb.state ≡ true
  sends = sends_there x side rx mine (of x side sx).acked owes

  due : (v.tcb.sender.flight_size == 0) ≡ false → is_due t v.tcb.timers.retransmit_at ≡ true
  due =
      subst (λ (u : TcpValue). (u.tcb.sender.flight_size == 0) ≡ false → is_due t u.tcb.timers.retransmit_at ≡ true) (sym (same_own p side))
      (λ e. runs_out (clock p side) (socket_of p side).tcb.timers.retransmit_at ((ready_side p side r).armed e))

  over : StartsOver (context_of x side t) v
  over = by (v.tcb.sender.flight_size == 0) refl where
    by : (none : Bool) → (v.tcb.sender.flight_size == 0) ≡ none → StartsOver (context_of x side t) v
    by true e = inl (eqb-true v.tcb.sender.flight_size 0 e)
    by false e = inr (due e)

  -- a timer that hasn't run out by then doesn't run
  pub runs : is_due t v.tcb.timers.retransmit_at ≡ false → v.tcb.timers.retransmit_at ≡ None
  runs =
      subst (λ (u : TcpValue). is_due t u.tcb.timers.retransmit_at ≡ false → u.tcb.timers.retransmit_at ≡ None) (sym (same_own p side))
      (none_runs (socket_of p side).tcb.timers.retransmit_at refl)
    where
      none_runs : (timer : Option ℤ) → (socket_of p side).tcb.timers.retransmit_at ≡ timer →
          is_due t (socket_of p side).tcb.timers.retransmit_at ≡ false → (socket_of p side).tcb.timers.retransmit_at ≡ None
      none_runs None e f = e
      none_runs (Some instant) e f =
          clash (sym (runs_out (clock p side) (socket_of p side).tcb.timers.retransmit_at (ap is_some e)) ∙ f)

  pub starts : Starts (context_of x side t) v
  starts = record {
    own = own;
    owes = owes;
    over = over;
    goes =
        record {
          lasts = no_time_wait v.tcb t sends;
          in_time = no_timeout v.tcb t (queued_in v) (of x side sx).timeout;
          alive = alive;
          tries = tries;
        };
  }

  abbrev pub pair : FourTuple
  pair = (named_in x side rx mine).0

  -- the side, once it was asked
  abbrev pub y : PairValue
  y = roused_in p side

  abbrev pub w : TcpValue
  w = socket_of y side

  abbrev pub u : TcpValue
  u = socket_of y (other side)

  abbrev pub then_at : ℤ
  then_at = wake_in y side

  asked : IsSet (context_of x side t) pair v (offer_of (context_of x side t) v).socket
  asked =
      asked_sets (context_of x side t) v pair (named_in x side rx mine).1 starts sends
      (again_sent x side rx (of x side sx).acked pair.addresses (mtu_of x side) v.queued) runs

  pub set : IsSet (context_of x side t) pair v w
  set =
      subst (λ (z : TcpValue). IsSet (context_of x side t) pair v z) (sym (roused_own p side))
      (record {
        none = asked.none;
        timer = asked.timer;
        state = asked.state;
        syn = asked.syn;
        past_iss = asked.past_iss;
        names = asked.names;
        queued = asked.queued;
        again = asked.again;
        set = asked.set;
      })

  pub reached_y : IsReached y
  reached_y = ry n p side r m.minutes

  pub sy : BothStay y
  sy = both_on p y (roused_calm p side s.late) s

  pub own_y : IsOpen w.tcb
  own_y = record {
    synchronized = ap is_synchronized set.state ∙ own.synchronized;
    acknowledged = set.syn ∙ own.acknowledged;
    opened = subst (λ (k : ℕ). 1 ≤ k) (sym set.past_iss) own.opened;
  }

  pub same_mtu : mtu_of y side ≡ mtu_of x side
  same_mtu = roused_mtu p side ∙ sym (read_mtu p side)

  -- of the queue as it was, and of the one that it is
  requeued : (P : ℕ → Ring ℕ → Type 0) → P (mtu_of x side) v.queued → P (mtu_of y side) w.queued
  requeued P it = subst (λ (q : Ring ℕ). P (mtu_of y side) q) (sym set.queued) (subst (λ (n : ℕ). P n v.queued) (sym same_mtu) it)

  pub again_y : resends w.tcb pair.addresses (mtu_of y side) w.queued ≡ true → 1 ≤ w.tcb.sender.snd_max
  again_y = requeued (λ (n : ℕ) (q : Ring ℕ). resends w.tcb pair.addresses n q ≡ true → 1 ≤ w.tcb.sender.snd_max) set.again

  owes_y : 1 ≤ left_of w
  owes_y =
      subst (λ (k : ℕ). 1 ≤ k)
      (sym (left_same v w (record { state = set.state; syn_unacked = set.syn; queued = set.queued })))
      owes

  alive_y : is_closed w.tcb.state ≡ false
  alive_y = ap is_closed set.state ∙ alive

  module _ (tries_on : gives_up then_at w.tcb (queued_in w) ≡ false) where
    pub starts_y : Starts (context_of y side then_at) w
    starts_y = record {
      own = own_y;
      owes = owes_y;
      over = inl set.none;
      goes =
          record {
            lasts = no_time_wait w.tcb then_at (ap may_send_data set.state ∙ sends);
            in_time = no_timeout w.tcb then_at (queued_in w) (of y side sy).timeout;
            alive = alive_y;
            tries = tries_on;
          };
    }

    abbrev SetsOf : ℕ → Ring ℕ → Type 0
    SetsOf mtu q =
        (resends w.tcb pair.addresses mtu q ≡ true) ⊎ ((has_payload w.tcb pair.addresses mtu q ≡ true)
        ⊎ (is_probing w.tcb (length q.queue) ≡ true → is_some w.tcb.timers.probe_at ≡ true))

    set_y : SetsOf (mtu_of y side) w.queued
    set_y = requeued SetsOf set.set

    -- by then the instant of a probe has come
    come : is_probing w.tcb (queued_in w) ≡ true → is_some w.tcb.timers.probe_at ≡ true → is_due then_at w.tcb.timers.probe_at ≡ true
    come probes some =
        subst (λ (instant : Option ℤ). is_due then_at instant ≡ true) instant
        (runs_out (clock y side) (probe_deadline w.tcb (queued_in w)) (ap is_some instant ∙ some))
      where
        instant : probe_deadline w.tcb (queued_in w) ≡ w.tcb.timers.probe_at
        instant = ap (λ (test : Bool). if test then w.tcb.timers.probe_at else None) probes

    pub out : SendsOut (context_of y side then_at) w (offer_of (context_of y side then_at) w)
    out =
        goes_then (context_of y side then_at) w pair (ap (λ (names : Names). names.pair) set.names ∙ (named_in x side rx mine).1) starts_y
        (ap may_send_data set.state ∙ sends) again_y set.none set.timer (reached_cwnd y side reached_y) set_y come

    theirs : is_synchronized u.tcb.state ≡ true
    theirs =
        late_on u.tcb.state (late_at y (other side) sy)
        (ap (λ (z : TcpValue). is_closed z.tcb.state) (roused_other p side)
        ∙ (ap (λ (b : Tcb). is_closed b.state) (read_peer_side p side) ∙ at_work.others))

    other_open : IsOpen u.tcb
    other_open = is_open y (other side) reached_y theirs (of y (other side) sy).acked

    free : 1 ≤ free_in u
    free =
        all (length u.received.waiting) (free_in u)
        (ap (λ (z : TcpValue). length z.received.waiting) (roused_other p side) ∙ ap length (empty_after p side r)) (of y (other side) sy).room
      where
        all : (waiting free : ℕ) → waiting ≡ 0 → 1 ≤ waiting + free → 1 ≤ free
        all waiting free a b = omega arith

    -- neither segment is older than TS.Recent
    agreed : (of : Side) → (socket_of y of).tcb.peer.timestamps ≡ (socket_of p of).tcb.peer.timestamps
    agreed of = (of_side p y of (roused_calm p side s.late)).stamps

    initial : HasStamps (suc n) p side → arrives_stale u.tcb out.k.segment.options.timestamp ≡ false
    initial (inl none) =
        stale_none u.tcb out.k.segment.options.timestamp (out.tsval ∙ no_tsval w.tcb then_at (agreed side ∙ none))
    initial (inr d) = offer_initial y side then_at out.k reached_y (wake_days n p side r m.minutes d) (wake_later y side) out.offered

    answer_initial : HasStamps n p (other side) → (reply : Reply) →
        (offer_arrives (context_at (other side) (at y.sides (other side))) u w out.k).answer ≡ Some reply →
        arrives_stale w.tcb reply.segment.options.timestamp ≡ false
    answer_initial (inl none) reply answer =
        stampless (offer_arrives (context_at (other side) (at y.sides (other side))) u w out.k).answer w.tcb
        (answer_bare (context_at (other side) (at y.sides (other side))) out.k.header out.k.segment (data_of w out.k) u (agreed (other side) ∙ none))
        reply answer
    answer_initial (inr d) reply answer =
        reply_initial y side out.k.header out.k.segment (data_of w out.k) reply reached_y (there_days n p side d) answer

    pub may_solicit : MayAsk p side
    may_solicit = record {
      stream = (of y side sy).stream;
      rouses = rouses n p side r m.minutes;
      wakes = wakes n p side r m.minutes;
      o = out.k;
      reaches =
          record {
            own = own_y;
            theirs = other_open;
            over = inl set.none;
            offered = out.offered;
            kind = out.kind;
            some = out.some;
            room = free;
            initial = initial m.own;
            answer_initial = λ reply answer. answer_initial m.theirs reply answer;
          };
    }

-- ROUNDS

pub may_turn : (n : ℕ) (p : PairValue) (side : Side) → IsReached p → BothStay p → HasTurn n p side → SpeaksIn p side → MayTurn p side
may_turn n p side r s m speaks waits = may_solicit n p side r s m waits (speaks waits).tries (speaks waits).tries_on

may_rounds : (n : ℕ) (p : PairValue) → IsReached p → BothStay p → Minutes n p → MayTalk n p → MayRounds n p
may_rounds zero p r s m talk = tt
may_rounds (suc n) p r s m talk =
    let first = may_turn n p A r s (first_turn n p m) talk.0 in
    let h = turn_in p A in
    let a = turned (Unit {0}) p A r s.late first (λ _. inr tt) in
    let sh = both_on p h a.calm s in
    let mh = midway n p r a.calm m in
    let second = may_turn n h B a.reached sh (second_turn n h mh) talk.1 in
    let q = turn_in h B in
    let b = turned (Unit {0}) h B a.reached sh.late second (λ _. inr tt) in
    (first, second, may_rounds n q b.reached (both_on h q b.calm sh) (next_round n h a.reached b.calm mh) talk.2)

pub minutes : (n : ℕ) (p : PairValue) → AreTalking n p → Minutes n p
minutes n p s = record { a = s.minutes_a; b = s.minutes_b; stamps_a = s.stamps_a; stamps_b = s.stamps_b }

pub stay : (n : ℕ) (p : PairValue) → AreTalking n p → BothStay p
stay n p s = record {
  late = (late_in p.sides.a.socket.tcb.state s.a.own.synchronized, late_in p.sides.b.socket.tcb.state s.b.own.synchronized);
  a =
      record {
        acked = s.a.own.acknowledged;
        stream = s.a.stream;
        room = s.a.room;
        timeout = s.a.timeout;
      };
  b =
      record {
        acked = s.b.own.acknowledged;
        stream = s.b.stream;
        room = s.b.room;
        timeout = s.b.timeout;
      };
}

pub talks : (n : ℕ) (p : PairValue) → IsReached p → AreTalking n p → MayTalk n p → MayRounds n p
talks n p r s talk = may_rounds n p r (stay n p s) (minutes n p s) talk

pub there : (n : ℕ) (p : PairValue) → AreTalking n p → AreThere p
there n p s = (s.a.own.synchronized, s.b.own.synchronized)

-- THE END

-- where nobody waits nothing is asked for
pub done_talks : (n : ℕ) (p : PairValue) → waits_in p A ≡ false → waits_in p B ≡ false → MayTalk n p
done_talks zero p a b = tt
done_talks (suc n) p a b =
    let turn = nothing_turns p A a in (
      λ waits. clash (sym waits ∙ a),
      λ waits. clash (sym waits ∙ (ap (λ (x : PairValue). waits_in x B) turn ∙ b)),
      subst (MayTalk n) (sym (done_round p (a, b))) (done_talks n p a b),
    )

-- THE END OF A STREAM

payload_first :
    (left payload fin had written closed : ℕ) → left + (payload + fin) ≡ had + (written + closed) → had ≤ left → left ≡ 0 → payload ≤ written → closed ≡ 1 → 1 ≤ fin
payload_first left payload fin had written closed a b c d e = omega arith

-- what was taken begins what was written
pub taken_least : (p : PairValue) (side : Side) → IsReached p → length (taken_list p (other side)) ≤ length (written p side)
taken_least p side r = let safe = safe_side p side r in shorter safe.prefix.0 safe.prefix.1 where
  less : (a b c : ℕ) → a ≡ b + c → b ≤ a
  less a b c e = omega arith

  shorter : (rest : List ℕ) → taken_list p (other side) ++ rest ≡ written p side → length (taken_list p (other side)) ≤ length (written p side)
  shorter rest e =
      less (length (written p side)) (length (taken_list p (other side))) (length rest) (sym (ap length e) ∙ length-append (taken_list p (other side)) rest)

pub some_taken : (t : Bool) → 1 ≤ one_if t → t ≡ true
some_taken true e = refl
some_taken false e = absurd (omega arith)

pub fin_taken :
    (p : PairValue) (r : IsReached p) (s : AreTalking (bound p) p) (talk : MayTalk (bound p) p) (side : Side)
    → is_synchronized (socket_of (rounds_in (bound p) p) side).tcb.state ≡ true
    → is_synchronized (socket_of (rounds_in (bound p) p) (other side)).tcb.state ≡ true → (past_at p side).closed ≡ true
    → (socket_of (rounds_in (bound p) p) (other side)).tcb.receiver.took_fin ≡ true
fin_taken p r s talk side mine theirs closed =
    some_taken (socket_of q (other side)).tcb.receiver.took_fin
    (payload_first (left_in q side) (length (taken_list q (other side))) (one_if (socket_of q (other side)).tcb.receiver.took_fin) (had_in q side)
    (length (written q side)) (one_if (past_at q side).closed) b.sum b.within none (taken_least q side it.reached)
    (ap one_if ((of_side p q side it.calm).ended ∙ closed)))
  where
    q : PairValue
    q = rounds_in (bound p) p

    m : MayRounds (bound p) p
    m = talks (bound p) p r s talk

    it : Ended p q
    it = ends p r (there (bound p) p s) m

    none : left_in q side ≡ 0
    none = by (through p r (there (bound p) p s) m side) where
      by : IsThrough q side → left_in q side ≡ 0
      by (inl all) = all
      by (inr over) = clash (sym over.0 ∙ not_closed (socket_of q (other side)).tcb.state theirs)

    stream : (side : Side) → HasStream (past_at p side)
    stream A = s.a.stream
    stream B = s.b.stream

    b : Balance q side
    b = balance q side it.reached (stream_still p q side it.calm (stream side)) mine theirs
