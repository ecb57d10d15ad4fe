-- A handshake of a pair that events led to.
use Rattle.std.proofs.Common.{◌≡◌, ◌⊎◌, inl, inr, ℕ, ◌+◌, ◌-◌, ◌^◌, ◌<◌, ◌≤◌, ◌||◌, ℤ, Bool, true, false, List, [], ◌∷◌, ◌++◌, length}
use Rattle.std.proofs.Common.{Option, Some, None, slice_get, refl, sym, ap, ◌∙◌, subst, arith}
use Rattle.std.proofs.lemmas.Option.{slice_get_within}
use Rattle.tcp_refinement.specs.Context.{ContextValue}
use Rattle.tcp_refinement.specs.Tie.{Keeps, FitsIn, IsAsking, IsConnectedAs, core_of, unsent}
use Rattle.tcp_refinement.proofs.Tied.{if_so}
use Rattle.tcp_invariants.specs.InOrder.{sending_of, all_of}
use Rattle.tcp_invariants.specs.Moments.{is_due}
use Rattle.tcp_invariants.specs.OpenOffer.{OpenOffer}
use Rattle.tcp_invariants.specs.State.{State}
use Rattle.tcp_invariants.specs.State.TheVariants as In
use Rattle.tcp_invariants.specs.Ends.{is_over}
use Rattle.tcp_invariants.specs.Events.{is_past}
use Rattle.tcp_invariants.specs.Offsets.{advanced_by}
use Rattle.tcp_invariants.specs.Reply.{Reply}
use Rattle.tcp_invariants.specs.States.{is_answering, is_closed, is_opening, owes_fin, sends_syn}
use Rattle.tcp_block.specs.Arrival.{arrives}
use Rattle.tcp_block.specs.TcbRules.{one_if}
use Rattle.tcp_block.specs.Names.{accepts}
use Rattle.tcp_block.specs.Offers.{offer_of, payload_of}
use Rattle.tcp_refinement.specs.Pair.Sides.{at, other}
use Rattle.tcp_refinement.specs.Pair.Steps.{handed, refusal, taken_at}
use Rattle.tcp_block.specs.Timestamps.{is_stale}
use Rattle.tcp_block.specs.Value.{TcpValue, Arrived}
use Rattle.tcp_refinement.specs.Pair.Values.{HoldsPayload, PairSide, PairValue, and_offer, and_reply, context_at, past_at}
use Rattle.tcp_refinement.specs.declared.pair.event.PairEvent.TheVariants.{Offer}
use Rattle.tcp_refinement.specs.declared.pair.event.SentSegment.{SentSegment}
use Rattle.tcp_refinement.specs.declared.pair.event.Side.{Side}
use Rattle.tcp_refinement.specs.declared.pair.event.Side.TheVariants.{A, B}
use Rattle.tcp_invariants.proofs.OrderSteps.{clash}
use Rattle.tcp_liveness.specs.Arrivals.{is_synchronized}
use Rattle.tcp_liveness.specs.Exchange.{IsOpen}
use Rattle.tcp_liveness.specs.StartsOver.{StartsOver}
use Rattle.tcp_liveness.specs.Clocks.{IsTimely}
use Rattle.tcp_liveness.specs.Handshake.{AreConnected, AreOpened, MayShake, called_in, shaken_in}
use Rattle.tcp_liveness.specs.HandshakeOn.{HasTakenSyn, IsUnanswered, MayAnswer, acked_in}
use Rattle.tcp_liveness.specs.Pair.{context_of, exchanged_in, has_heard, next_sent, offered_in, socket_of}
use Rattle.tcp_liveness.specs.Reached.{IsReached}
use Rattle.tcp_liveness.specs.Rounds.{comes, takes}
use Rattle.tcp_liveness.proofs.Exchange.{last_of}
use Rattle.tcp_liveness.proofs.Hosts.{reached_holds}
use Rattle.tcp_liveness.proofs.Kept.{reached_keeps}
use Rattle.tcp_liveness.proofs.Led.{by_answer, by_two, one_more, within}
use Rattle.tcp_liveness.proofs.Mirrored.{connected_mirrored, mirrored_back}
use Rattle.tcp_liveness.proofs.Opened.{is_open}
use Rattle.tcp_liveness.proofs.Moments.{comes_later}
use Rattle.tcp_liveness.proofs.Pair.{asked_side, peer_side_after, side_after}
use Rattle.tcp_liveness.proofs.Ready.{ready_side}
use Rattle.tcp_liveness.proofs.ShakeSteps.{Answered, Heard, IsInitial, MayCall, Opened, answer, answered, called, caller_accepts, last, listener_accepts, unstamped}
use Rattle.tcp_liveness.proofs.ShakeSteps.{listener_takes_it, opened, syn, taken}
use Rattle.tcp_liveness.proofs.Timely.{ack_timely}

-- AN OFFER THAT COMES

-- a side is asked at an instant, and what it offers comes to its peer
pub record Comes (side : Side) (s r : PairSide) (instant : ℤ) (k : OpenOffer) (bytes : List ℕ) : Type 0 where
  pub sent : slice_get (asked_side side s r instant).sent (length s.sent) ≡ Some (record { header = k.header; segment = k.segment; bytes = bytes })
  pub reaches : peer_side_after side s r instant ≡ taken_at r (arrives (context_at (other side) r) r.socket k.header k.segment bytes)
  pub socket : (peer_side_after side s r instant).socket ≡ (arrives (context_at (other side) r) r.socket k.header k.segment bytes).socket
  pub clock : (peer_side_after side s r instant).instant ≡ r.instant

pub comes_over :
    (side : Side) (s r : PairSide) (instant : ℤ) (k : OpenOffer) (bytes : List ℕ)
    → (offer_of (context_at side (record s { instant = instant })) s.socket).socket.offered ≡ Some k
    → payload_of k k.kind (offer_of (context_at side (record s { instant = instant })) s.socket).socket.queued.queue ≡ bytes
    → accepts r.socket.tcb k.header k.segment ≡ true → Comes side s r instant k bytes
comes_over side s r instant k bytes offered is accepted = record {
  sent = found;
  reaches = reaches;
  socket = ap (λ (x : PairSide). x.socket) reaches;
  clock = ap (λ (x : PairSide). x.instant) reaches;
}
  where
    cx : ContextValue
    cx = context_at side (record s { instant = instant })

    x : SentSegment
    x = record { header = k.header; segment = k.segment; bytes = bytes }

    gone : List ℕ → SentSegment
    gone bytes = record { header = k.header; segment = k.segment; bytes = bytes }

    found : slice_get (asked_side side s r instant).sent (length s.sent) ≡ Some x
    found =
        ap (λ (o : Option OpenOffer). slice_get (and_offer s.sent o (offer_of cx s.socket).socket.queued.queue) (length s.sent)) offered
        ∙ (last_of s.sent (gone (payload_of k k.kind (offer_of cx s.socket).socket.queued.queue)) ∙ ap (λ (b : List ℕ). Some (gone b)) is)

    reaches : peer_side_after side s r instant ≡ taken_at r (arrives (context_at (other side) r) r.socket k.header k.segment bytes)
    reaches =
        ap (λ (o : Option SentSegment). handed (other side) r o) found
        ∙ if_so (accepts r.socket.tcb k.header k.segment) (taken_at r (arrives (context_at (other side) r) r.socket k.header k.segment bytes)) r accepted

-- the events are taken
pub reach : (p : PairValue) (side : Side) (instant : ℤ) (x : SentSegment) → IsReached p → refusal p (Offer side instant true) ≡ None
    → slice_get (at (takes p (Offer side instant true)).sides side).sent (next_sent p side) ≡ Some x → IsReached (offered_in p side instant)
reach p side instant x r asked found =
    by_two p side instant r asked
    (within (next_sent p side) (length (at (takes p (Offer side instant true)).sides side).sent)
    (slice_get_within (at (takes p (Offer side instant true)).sides side).sent (next_sent p side) x found))

-- AND WHAT ANSWERS IT

-- the answer is the next segment of the peer, and comes back
module _ (side : Side) (s r : PairSide) (instant : ℤ) (k : OpenOffer) (bytes : List ℕ) (c : Comes side s r instant k bytes) (reply : Reply)
    (answer : (arrives (context_at (other side) r) r.socket k.header k.segment bytes).answer ≡ Some reply) where
  abbrev came_to : Arrived
  came_to = arrives (context_at (other side) r) r.socket k.header k.segment bytes

  abbrev back_sent : SentSegment
  back_sent = record { header = reply.header; segment = reply.segment; bytes = [] }

  pub one_answered : length (peer_side_after side s r instant).sent - length r.sent ≡ 1
  one_answered =
      ap (λ (t : PairSide). length t.sent - length r.sent) c.reaches
      ∙ (ap (λ (x : Option Reply). length (and_reply r.sent x) - length r.sent) answer ∙ one_following r.sent back_sent)
    where
      one_following : (xs : List SentSegment) (x : SentSegment) → length (xs ++ x ∷ []) - length xs ≡ 1
      one_following xs x = less (length (xs ++ x ∷ [])) (length xs) (longer xs x) where
        longer : (xs : List SentSegment) (x : SentSegment) → length (xs ++ x ∷ []) ≡ length xs + 1
        longer [] x = refl
        longer (y ∷ xs) x = omega (arith, longer xs x)

        less : (a b : ℕ) → a ≡ b + 1 → a - b ≡ 1
        less a b e = omega arith

  abbrev asks_at : ContextValue
  asks_at = context_at side (record s { instant = instant })

  pub back : accepts (asked_side side s r instant).socket.tcb reply.header reply.segment ≡ true →
      (side_after side s r instant).socket ≡ (arrives asks_at (asked_side side s r instant).socket reply.header reply.segment []).socket
  back accepted =
      ap (λ (x : Option SentSegment). (handed side (asked_side side s r instant) x).socket) found
      ∙ ap (λ (t : PairSide). t.socket)
      (if_so (accepts (asked_side side s r instant).socket.tcb reply.header reply.segment)
      (taken_at (asked_side side s r instant) (arrives asks_at (asked_side side s r instant).socket reply.header reply.segment []))
      (asked_side side s r instant) accepted)
    where
      found : slice_get (peer_side_after side s r instant).sent (length r.sent) ≡ Some back_sent
      found =
          ap (λ (t : PairSide). slice_get t.sent (length r.sent)) c.reaches
          ∙ (drawn came_to.draws
          ∙ (ap (λ (x : Option Reply). slice_get (and_reply r.sent x) (length r.sent)) answer ∙ last_of r.sent back_sent))
        where
          drawn : (draws : Bool) → slice_get (taken_at r (record came_to { draws = draws })).sent (length r.sent) ≡
              slice_get (and_reply r.sent came_to.answer) (length r.sent)
          drawn draws = refl

-- so the events of an exchange are taken
abbrev Answers : PairValue → Side → ℤ → Type 0
Answers p side instant = next_sent (offered_in p side instant) (other side) - next_sent p (other side) ≡ 1

pub exchange_reached : (p : PairValue) (side : Side) (instant : ℤ) → IsReached (offered_in p side instant) → Answers p side instant →
    IsReached (exchanged_in p side instant)
exchange_reached p side instant r one =
    by_answer (offered_in p side instant) (other side) (next_sent p (other side))
    (next_sent (offered_in p side instant) (other side) - next_sent p (other side)) (inr one)
    (λ one.
    within (next_sent p (other side)) (next_sent (offered_in p side instant) (other side))
    (one_more (next_sent p (other side)) (next_sent (offered_in p side instant) (other side)) one))
    r

pub exchange_is : (p : PairValue) (side : Side) (instant : ℤ) → Answers p side instant →
    exchanged_in p side instant ≡ comes 1 (other side) (next_sent p (other side)) (offered_in p side instant)
exchange_is p side instant one = ap (λ (n : ℕ). comes n (other side) (next_sent p (other side)) (offered_in p side instant)) one

-- WHAT EVENTS LED TO

pub asking : (p : PairValue) (side : Side) (r : IsReached p) → (socket_of p side).tcb.state ≡ In.SynSent →
    IsAsking (core_of (socket_of p side)) (unsent (reached_keeps p side r).side)
asking p side r at =
    subst (λ (state : State). FitsIn state (core_of (socket_of p side)) (unsent (reached_keeps p side r).side)) at (reached_keeps p side r).fits

pub acked : (p : PairValue) (side : Side) → IsReached p → (socket_of p side).tcb.state ≡ In.Established → (socket_of p side).tcb.sender.syn_unacked ≡ false
acked p side r at = by f.opened where
  k : Keeps (socket_of p side) (past_at p side) (socket_of p (other side)) (past_at p (other side))
  k = reached_keeps p side r

  f : IsConnectedAs (core_of (socket_of p side)) (unsent k.side)
  f = subst (λ (state : State). FitsIn state (core_of (socket_of p side)) (unsent k.side)) at k.fits

  by : ((socket_of p side).tcb.sender.syn_unacked ≡ false) ⊎ (sends_syn (socket_of p side).tcb.state ≡ true) →
      (socket_of p side).tcb.sender.syn_unacked ≡ false
  by (inl e) = e
  by (inr sends) = clash (sym sends ∙ ap sends_syn at)

pub una_of : (p : PairValue) (side : Side) → IsReached p → (socket_of p side).tcb.sender.una.0 < 2 ^ 32
una_of p side r = (ready_side p side r).order.number

pub initial_of : (p : PairValue) (side : Side) → IsReached p → (socket_of p side).tcb.state ≡ In.SynSent → IsInitial (socket_of p side)
initial_of p side r at = record { flight_size = few; snd_max = f.snd_max; una_small = una_of p side r } where
  f : IsAsking (core_of (socket_of p side)) (unsent (reached_keeps p side r).side)
  f = asking p side r at

  all : all_of (sending_of (socket_of p side)) ≡ 1
  all =
      ap (λ (t : Bool). one_if t + length (socket_of p side).queued.queue + one_if (owes_fin (socket_of p side).tcb.state)) f.syn_unacked
      ∙ (ap (λ (xs : List ℕ). 1 + length xs + one_if (owes_fin (socket_of p side).tcb.state)) f.queue
      ∙ ap (λ (state : State). 1 + 0 + one_if (owes_fin state)) at)

  few : (socket_of p side).tcb.sender.flight_size ≤ 1
  few =
      subst (λ (n : ℕ). (socket_of p side).tcb.sender.flight_size ≤ n) all
      ((ready_side p side r).order.within (ap is_closed at))

pub may_call : (p : PairValue) (side : Side) (first second third : ℤ) → IsReached p → MayShake p side first second third →
    MayCall (context_of p side first) (socket_of p side) (socket_of p (other side))
may_call p side first second third r m =
    let f = asking p side r m.calls in
    record {
      mtu = reached_holds p side r;
      calls = m.calls;
      listens = m.listens;
      own = m.own;
      named = m.named;
      port = m.port;
      address = m.address;
      over = m.over;
      goes = m.goes;
      caller = m.caller;
      listener = m.listener;
      syn_unacked = f.syn_unacked;
      alone = f.alone;
      queue = f.queue;
    }

-- in SYN-RECEIVED the own SYN isn't acknowledged, and the other's was taken
pub record IsAnswering (v : TcpValue) : Type 0 where
  pub syn_unacked : v.tcb.sender.syn_unacked ≡ true
  pub took_syn : v.tcb.receiver.took_syn ≡ true
  pub small : v.tcb.sender.una.0 < 2 ^ 32

pub answering_in : (p : PairValue) (side : Side) → IsReached p → (socket_of p side).tcb.state ≡ In.SynReceived → IsAnswering (socket_of p side)
answering_in p side r at = record {
  syn_unacked = by (socket_of p side).tcb.sender.syn_unacked refl;
  took_syn = (ready_side p side r).order.took (ap is_past at);
  small = una_of p side r;
}
  where
    by : (t : Bool) → (socket_of p side).tcb.sender.syn_unacked ≡ t → (socket_of p side).tcb.sender.syn_unacked ≡ true
    by true e = e
    by false e =
        clash
        (sym (ap (λ (state : State). is_opening state || is_answering state) at) ∙ (ready_side p side r).order.opened e)

-- the caller, and the side that has taken its SYN
pub heard_in : (p : PairValue) (side : Side) → IsReached p → IsUnanswered p side → Heard (socket_of p side) (socket_of p (other side))
heard_in p side r m =
    let f = asking p side r m.calls in
    let a = answering_in p (other side) r m.answerer.answers in
    record {
      mirrored = mirrored_back p side r (ap has_heard m.answerer.answers) (ap is_over m.calls);
      calls = m.calls;
      caller = m.caller;
      queue = f.queue;
      answerer = m.answerer;
      syn_unacked = a.syn_unacked;
      took_syn = a.took_syn;
      next = by side m.took;
    }
  where
    by : (side : Side) → HasTakenSyn p (other side) →
        (socket_of p (other side)).tcb.receiver.next ≡ advanced_by (socket_of p side).tcb.sender.una 1
    by A took = took
    by B took = took

-- what follows of two sides that are open
pub open_in : (p : PairValue) (side : Side) → IsReached p → (socket_of p side).tcb.state ≡ In.Established → IsOpen (socket_of p side).tcb
open_in p side r at = is_open p side r (ap is_synchronized at) (acked p side r at)

pub connected_in : (p : PairValue) (side : Side) → IsReached p → AreOpened p side → AreConnected p side
connected_in p side r o = record {
  leads = r;
  opened = o;
  own = open_in p side r o.own;
  theirs = open_in p (other side) r o.theirs;
  mirrored = connected_mirrored p side r (ap is_synchronized o.own) (ap is_synchronized o.theirs);
}

-- THE SYN

module _ (side : Side) (s r : PairSide) (first : ℤ) (m : MayCall (context_at side (record s { instant = first })) s.socket r.socket) where
  abbrev pub cx : ContextValue
  cx = context_at side (record s { instant = first })

  abbrev pub cy : ContextValue
  cy = context_at (other side) r

  abbrev pub k : OpenOffer
  k = (syn cx cy s.socket r.socket m).k

  abbrev pub bytes : List ℕ
  bytes = payload_of k k.kind (offer_of cx s.socket).socket.queued.queue

  pub came : Comes side s r first k bytes
  came =
      comes_over side s r first k bytes (syn cx cy s.socket r.socket m).offered refl (listener_accepts cx cy s.socket r.socket m)

  pub after_syn : Heard (asked_side side s r first).socket (peer_side_after side s r first).socket
  after_syn =
      subst (Heard (asked_side side s r first).socket) (sym came.socket) (called cx cy s.socket r.socket m bytes)

  -- nothing of the answer is in flight
  pub unanswered_yet : (peer_side_after side s r first).socket.tcb.sender.flight_size ≡ 0
  unanswered_yet = ap (λ (v : TcpValue). v.tcb.sender.flight_size) came.socket ∙ (taken cx cy s.socket r.socket m bytes).flight_size

-- ITS ANSWER, AND THE ACKNOWLEDGEMENT OF THAT

-- `s` is the side that calls
module _ (side : Side) (s r : PairSide) (second third : ℤ) (holds : HoldsPayload r.host) (h : Heard s.socket r.socket)
    (over : StartsOver (context_at (other side) (record r { instant = second })) r.socket) (f : IsInitial s.socket) where
  abbrev pub cx2 : ContextValue
  cx2 = context_at (other side) (record r { instant = second })

  abbrev pub cy2 : ContextValue
  cy2 = context_at (other (other side)) s

  abbrev pub k2 : OpenOffer
  k2 = (answer cx2 cy2 s.socket r.socket holds h over f).k

  abbrev pub bytes2 : List ℕ
  bytes2 = payload_of k2 k2.kind (offer_of cx2 r.socket).socket.queued.queue

  abbrev pub r2 : PairSide
  r2 = asked_side (other side) r s second

  abbrev pub s2 : PairSide
  s2 = peer_side_after (other side) r s second

  pub came2 : Comes (other side) r s second k2 bytes2
  came2 =
      comes_over (other side) r s second k2 bytes2 (answer cx2 cy2 s.socket r.socket holds h over f).offered refl
      (caller_accepts cx2 cy2 s.socket r.socket holds h over f)

  pub after_answer : Answered s.instant s2.socket r2.socket
  after_answer =
      subst (λ (v : TcpValue). Answered s.instant v r2.socket) (sym came2.socket) (answered cx2 cy2 s.socket r.socket holds h over f bytes2)

  module _ (later : is_due third (Some s.instant) ≡ true) (small : s2.socket.tcb.sender.una.0 < 2 ^ 32)
      (peer_side_small : r2.socket.tcb.sender.una.0 < 2 ^ 32) where
    abbrev pub cx3 : ContextValue
    cx3 = context_at side (record s2 { instant = third })

    abbrev pub cy3 : ContextValue
    cy3 = context_at (other side) r2

    abbrev pub k3 : OpenOffer
    k3 = (last cx3 cy3 s2.socket r2.socket s.instant after_answer later small peer_side_small).k

    pub came3 : Comes side s2 r2 third k3 []
    came3 =
        comes_over side s2 r2 third k3 [] (last cx3 cy3 s2.socket r2.socket s.instant after_answer later small peer_side_small).offered
        (last cx3 cy3 s2.socket r2.socket s.instant after_answer later small peer_side_small).bare
        (listener_takes_it cx3 cy3 s2.socket r2.socket s.instant after_answer later small peer_side_small)

    -- it isn't too old
    abbrev pub IsInitialAck : Type 0
    IsInitialAck = is_stale r2.socket.tcb k3.segment cy3.instant ≡ false

    pub after_ack : IsInitialAck → Opened (asked_side side s2 r2 third).socket (peer_side_after side s2 r2 third).socket
    after_ack initial =
        subst (Opened (asked_side side s2 r2 third).socket) (sym came3.socket)
        (opened cx3 cy3 s2.socket r2.socket s.instant after_answer later small peer_side_small initial)

module _ (p : PairValue) (second third : ℤ) (r : IsReached p) where
  module _ (m : MayAnswer p A second third) where
    pub holds_a : HoldsPayload p.sides.b.host
    holds_a = reached_holds p B r

    pub heard_a : Heard p.sides.a.socket p.sides.b.socket
    heard_a = heard_in p A r m.unanswered

    pub initial_a : IsInitial p.sides.a.socket
    initial_a = initial_of p A r m.unanswered.calls

    pub answer_a : Comes B p.sides.b p.sides.a second (k2 A p.sides.a p.sides.b second third holds_a heard_a m.over initial_a)
        (bytes2 A p.sides.a p.sides.b second third holds_a heard_a m.over initial_a)
    answer_a = came2 A p.sides.a p.sides.b second third holds_a heard_a m.over initial_a

    pub a2 : IsReached (offered_in p B second)
    a2 = reach p B second _ r m.at_second answer_a.sent

    pub later_a : is_due third (Some p.sides.a.instant) ≡ true
    later_a =
        subst (λ (t : ℤ). is_due third (Some t) ≡ true) answer_a.clock (comes_later (offered_in p B second).sides.a.instant third m.at_third)

    pub timely_a :
        (small : (s2 A p.sides.a p.sides.b second third holds_a heard_a m.over initial_a).socket.tcb.sender.una.0 < 2 ^ 32)
        (peer_side_small : (r2 A p.sides.a p.sides.b second third holds_a heard_a m.over initial_a).socket.tcb.sender.una.0 < 2 ^ 32)
        → IsInitialAck A p.sides.a p.sides.b second third holds_a heard_a m.over initial_a later_a small peer_side_small
    timely_a small peer_side_small = by m.stamps where
      now : ℤ
      now = (cy3 A p.sides.a p.sides.b second third holds_a heard_a m.over initial_a later_a small peer_side_small).instant

      by : IsTimely p A third → IsInitialAck A p.sides.a p.sides.b second third holds_a heard_a m.over initial_a later_a small peer_side_small
      by (inl none) =
          unstamped (cx2 A p.sides.a p.sides.b second third holds_a heard_a m.over initial_a) p.sides.b.socket
          (answer (cx2 A p.sides.a p.sides.b second third holds_a heard_a m.over initial_a) (cy2 A p.sides.a p.sides.b second third holds_a heard_a m.over initial_a)
          p.sides.a.socket p.sides.b.socket holds_a heard_a m.over initial_a)
          none (k3 A p.sides.a p.sides.b second third holds_a heard_a m.over initial_a later_a small peer_side_small).segment now
      by (inr d) =
          ack_timely p A second third now (k3 A p.sides.a p.sides.b second third holds_a heard_a m.over initial_a later_a small peer_side_small) a2 m.at_third d
          (last (cx3 A p.sides.a p.sides.b second third holds_a heard_a m.over initial_a later_a small peer_side_small)
          (cy3 A p.sides.a p.sides.b second third holds_a heard_a m.over initial_a later_a small peer_side_small)
          (s2 A p.sides.a p.sides.b second third holds_a heard_a m.over initial_a).socket (r2 A p.sides.a p.sides.b second third holds_a heard_a m.over initial_a).socket
          p.sides.a.instant (after_answer A p.sides.a p.sides.b second third holds_a heard_a m.over initial_a) later_a small peer_side_small).offered

    answered_a : AreConnected (acked_in p A second third) A
    answered_a =
        let small = una_of (offered_in p B second) A a2 in
        let peer_side_small = una_of (offered_in p B second) B a2 in
        let a3 =
        reach (offered_in p B second) A third _ a2 m.at_third
        (came3 A p.sides.a p.sides.b second third holds_a heard_a m.over initial_a later_a small peer_side_small).sent in
        let o = after_ack A p.sides.a p.sides.b second third holds_a heard_a m.over initial_a later_a small peer_side_small (timely_a small peer_side_small) in
        connected_in (acked_in p A second third) A a3 (record { own = o.own; theirs = o.theirs; una = o.una; peer_side_una = o.peer_side_una })

  module _ (m : MayAnswer p B second third) where
    pub holds_b : HoldsPayload p.sides.a.host
    holds_b = reached_holds p A r

    pub heard_b : Heard p.sides.b.socket p.sides.a.socket
    heard_b = heard_in p B r m.unanswered

    pub initial_b : IsInitial p.sides.b.socket
    initial_b = initial_of p B r m.unanswered.calls

    pub answer_b : Comes A p.sides.a p.sides.b second (k2 B p.sides.b p.sides.a second third holds_b heard_b m.over initial_b)
        (bytes2 B p.sides.b p.sides.a second third holds_b heard_b m.over initial_b)
    answer_b = came2 B p.sides.b p.sides.a second third holds_b heard_b m.over initial_b

    pub b2 : IsReached (offered_in p A second)
    b2 = reach p A second _ r m.at_second answer_b.sent

    pub later_b : is_due third (Some p.sides.b.instant) ≡ true
    later_b =
        subst (λ (t : ℤ). is_due third (Some t) ≡ true) answer_b.clock (comes_later (offered_in p A second).sides.b.instant third m.at_third)

    pub timely_b :
        (small : (s2 B p.sides.b p.sides.a second third holds_b heard_b m.over initial_b).socket.tcb.sender.una.0 < 2 ^ 32)
        (peer_side_small : (r2 B p.sides.b p.sides.a second third holds_b heard_b m.over initial_b).socket.tcb.sender.una.0 < 2 ^ 32)
        → IsInitialAck B p.sides.b p.sides.a second third holds_b heard_b m.over initial_b later_b small peer_side_small
    timely_b small peer_side_small = by m.stamps where
      now : ℤ
      now = (cy3 B p.sides.b p.sides.a second third holds_b heard_b m.over initial_b later_b small peer_side_small).instant

      by : IsTimely p B third → IsInitialAck B p.sides.b p.sides.a second third holds_b heard_b m.over initial_b later_b small peer_side_small
      by (inl none) =
          unstamped (cx2 B p.sides.b p.sides.a second third holds_b heard_b m.over initial_b) p.sides.a.socket
          (answer (cx2 B p.sides.b p.sides.a second third holds_b heard_b m.over initial_b) (cy2 B p.sides.b p.sides.a second third holds_b heard_b m.over initial_b)
          p.sides.b.socket p.sides.a.socket holds_b heard_b m.over initial_b)
          none (k3 B p.sides.b p.sides.a second third holds_b heard_b m.over initial_b later_b small peer_side_small).segment now
      by (inr d) =
          ack_timely p B second third now (k3 B p.sides.b p.sides.a second third holds_b heard_b m.over initial_b later_b small peer_side_small) b2 m.at_third d
          (last (cx3 B p.sides.b p.sides.a second third holds_b heard_b m.over initial_b later_b small peer_side_small)
          (cy3 B p.sides.b p.sides.a second third holds_b heard_b m.over initial_b later_b small peer_side_small)
          (s2 B p.sides.b p.sides.a second third holds_b heard_b m.over initial_b).socket (r2 B p.sides.b p.sides.a second third holds_b heard_b m.over initial_b).socket
          p.sides.b.instant (after_answer B p.sides.b p.sides.a second third holds_b heard_b m.over initial_b) later_b small peer_side_small).offered

    answered_b : AreConnected (acked_in p B second third) B
    answered_b =
        let small = una_of (offered_in p A second) B b2 in
        let peer_side_small = una_of (offered_in p A second) A b2 in
        let b3 =
        reach (offered_in p A second) B third _ b2 m.at_third
        (came3 B p.sides.b p.sides.a second third holds_b heard_b m.over initial_b later_b small peer_side_small).sent in
        let o = after_ack B p.sides.b p.sides.a second third holds_b heard_b m.over initial_b later_b small peer_side_small (timely_b small peer_side_small) in
        connected_in (acked_in p B second third) B b3 (record { own = o.own; theirs = o.theirs; una = o.una; peer_side_una = o.peer_side_una })

pub answers_on : (p : PairValue) (side : Side) (second third : ℤ) → IsReached p → MayAnswer p side second third → AreConnected (acked_in p side second third) side
answers_on p A second third r m = answered_a p second third r m
answers_on p B second third r m = answered_b p second third r m

-- THREE SEGMENTS

-- the SYN has come: its answer is to go
pub record Begun (p : PairValue) (side : Side) (first second third : ℤ) : Type 0 where
  pub leads : IsReached (called_in p side first)
  pub may : MayAnswer (called_in p side first) side second third

pub syn_came : (p : PairValue) (side : Side) (first second third : ℤ) → IsReached p → MayShake p side first second third → Begun p side first second third
syn_came p A first second third r m =
    let may = may_call p A first second third r m in
    let h = after_syn A p.sides.a p.sides.b first may in
    record {
      leads = reach p A first _ r m.at_first (came A p.sides.a p.sides.b first may).sent;
      may =
          record {
            unanswered = record { calls = h.calls; caller = h.caller; answerer = h.answerer; took = h.next };
            over = inl (unanswered_yet A p.sides.a p.sides.b first may);
            at_second = m.at_second;
            at_third = m.at_third;
            stamps = m.stamps;
          };
    }
syn_came p B first second third r m =
    let may = may_call p B first second third r m in
    let h = after_syn B p.sides.b p.sides.a first may in
    record {
      leads = reach p B first _ r m.at_first (came B p.sides.b p.sides.a first may).sent;
      may =
          record {
            unanswered = record { calls = h.calls; caller = h.caller; answerer = h.answerer; took = h.next };
            over = inl (unanswered_yet B p.sides.b p.sides.a first may);
            at_second = m.at_second;
            at_third = m.at_third;
            stamps = m.stamps;
          };
    }

pub shake : (p : PairValue) (side : Side) (first second third : ℤ) → IsReached p → MayShake p side first second third →
    AreConnected (shaken_in p side first second third) side
shake p side first second third r m =
    let b = syn_came p side first second third r m in answers_on (called_in p side first) side second third b.leads b.may
