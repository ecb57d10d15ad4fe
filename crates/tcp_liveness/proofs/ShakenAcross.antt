-- SYNs that cross, of a pair that events led to.
use Rattle.std.proofs.Common.{◌≡◌, ℕ, ◌+◌, ◌-◌, ◌%◌, ◌^◌, ◌<◌, ◌≤◌, ◌&&◌, nat_lt, not, ℤ, Bool, true, false, if◌then◌else◌, List, [], ◌∷◌, length}
use Rattle.std.proofs.Common.{inl, inr, Option, Some, None, slice_get, refl, sym, ap, ◌∙◌, subst, arith}
use Rattle.std.proofs.lemmas.Option.{slice_get_within}
use Rattle.ip_wire.specs.Seq.{distance_of}
use Rattle.ip_wire.specs.SeqNumber.{SeqNumber}
use Rattle.ip_wire.specs.TcpHeader.{TcpHeader}
use Rattle.tcp_refinement.specs.Context.{ContextValue}
use Rattle.tcp_refinement.specs.Tie.{IsAsking, core_of, unsent}
use Rattle.tcp_invariants.specs.Ends.{Proceeds, is_over}
use Rattle.tcp_invariants.specs.Names.{Names}
use Rattle.tcp_invariants.specs.Offsets.{advanced_by}
use Rattle.tcp_invariants.specs.Reply.{Reply}
use Rattle.tcp_invariants.specs.State.TheVariants as In
use Rattle.tcp_invariants.specs.States.{is_closed, is_listening}
use Rattle.tcp_block.specs.Answers.{may_challenge}
use Rattle.tcp_block.specs.Arrival.{arrives}
use Rattle.tcp_block.specs.declared.tcb.Tcb.{Tcb}
use Rattle.tcp_block.specs.TcbRules.{snd_max}
use Rattle.tcp_block.specs.Offers.{offer_of, payload_of}
use Rattle.tcp_block.specs.Retries.{reaches}
use Rattle.tcp_block.specs.Settled.{settled}
use Rattle.tcp_refinement.specs.Pair.Sides.{at, other}
use Rattle.tcp_refinement.specs.Pair.Steps.{handed, if_so as refused_if}
use Rattle.tcp_block.specs.Value.{Arrived, TcpValue, room_of}
use Rattle.tcp_refinement.specs.Pair.Values.{HoldsPayload, PairSide, PairValue, and_reply, context_at}
use Rattle.tcp_refinement.specs.declared.pair.event.PairEvent.TheVariants.{Deliver, Offer}
use Rattle.tcp_refinement.specs.declared.pair.event.PairRefused.TheVariants.{NoSegment}
use Rattle.tcp_refinement.specs.declared.pair.event.SentSegment.{SentSegment}
use Rattle.tcp_refinement.specs.declared.pair.event.Side.{Side}
use Rattle.tcp_refinement.specs.declared.pair.event.Side.TheVariants.{A, B}
use Rattle.tcp_liveness.specs.StartsOver.{StartsOver}
use Rattle.tcp_liveness.specs.Clocks.{IsTimely}
use Rattle.tcp_liveness.specs.Handshake.{AreConnected}
use Rattle.tcp_liveness.specs.HandshakeOn.{AnswersOn, CallsAcross, HasCrossed, HasTakenSyn, MayConfirm, MayCross, MayMeet, crossed_in, met_in}
use Rattle.tcp_liveness.specs.Pair.{AreMirrored, context_of, exchanged_in, has_heard, next_sent, offered_in, socket_of}
use Rattle.tcp_liveness.specs.Reached.{IsReached}
use Rattle.tcp_liveness.proofs.Crossed.{Crosses, Draws, answering_draws, crosses}
use Rattle.tcp_liveness.proofs.Hosts.{reached_holds}
use Rattle.tcp_liveness.proofs.Kept.{reached_by, reached_keeps}
use Rattle.tcp_liveness.proofs.Led.{within}
use Rattle.tcp_liveness.proofs.Mirrored.{reached_mirrored, turned}
use Rattle.tcp_liveness.proofs.Pair.{asked_side, peer_side_after}
use Rattle.tcp_liveness.proofs.ShakeSteps.{Asking, asks_number, call_goes, later_takes, one_past, renamed, unstamped}
use Rattle.tcp_liveness.proofs.Timely.{reply_timely}
use Rattle.tcp_liveness.proofs.Shaken.{Comes, IsAnswering, answering_in, asking, comes_over, exchange_is, exchange_reached, reach, una_of}
use Rattle.tcp_liveness.proofs.ShakenOn.{Confirmed, IsInitialReply, again, answers_still, ax, ay, confirmed, confirms_on, goes_there, no_payload, one, starts_still, payload}
use Rattle.tcp_liveness.proofs.SynOffer.{SynGoes}

not_second : (a b : Bool) → b ≡ false → (a && b) ≡ false
not_second true b e = e
not_second false b e = refl

at_itself : (n : ℕ) → n < 2 ^ 32 → (n + (2 ^ 32 - n)) % 2 ^ 32 ≡ 0
at_itself n e = omega arith

below : (n : ℕ) → (n + 1) % 2 ^ 32 < 2 ^ 32
below n = omega arith

is_near : (d : ℕ) → d ≡ 0 → d < 2 ^ 31
is_near d e = omega arith

-- the number after a SYN
following_small : (a b : SeqNumber) → a ≡ advanced_by b 1 → a.0 < 2 ^ 32
following_small a b is = subst (λ (n : SeqNumber). n.0 < 2 ^ 32) (sym is) (below b.0)

no_distance : (a b : SeqNumber) → a ≡ b → a.0 < 2 ^ 32 → distance_of a b ≡ 0
no_distance a b is small = subst (λ (n : SeqNumber). distance_of a n ≡ 0) is (at_itself a.0 small)

-- THE FIRST EXCHANGE

-- a side in SYN-RECEIVED and its peer, each of which has taken the other's SYN, of a peer that sent nothing but that
asking_across :
    (w v : TcpValue) → AreMirrored w.tcb v.tcb → AnswersOn w.tcb → IsAnswering w → v.tcb.receiver.next ≡ advanced_by w.tcb.sender.una 1
    → w.tcb.receiver.next ≡ advanced_by v.tcb.sender.una 1 → v.tcb.sender.snd_max ≡ 1 → Asking w v
asking_across w v mirrored on a took theirs sent =
    let none = no_distance w.tcb.receiver.next (snd_max v.tcb) (theirs ∙ ap (advanced_by v.tcb.sender.una) (sym sent))
    (following_small w.tcb.receiver.next v.tcb.sender.una theirs) in
    record {
      mirrored = mirrored;
      answerer = on;
      syn_unacked = a.syn_unacked;
      took_syn = a.took_syn;
      small = a.small;
      took = took;
      near = is_near (distance_of w.tcb.receiver.next (snd_max v.tcb)) none;
      space = inl none;
    }

pub record Meets (p : PairValue) (side : Side) (instant : ℤ) : Type 0 where
  pub leads : IsReached (exchanged_in p side instant)
  pub sockets :
      Confirmed (socket_of p side) (socket_of p (other side)) (socket_of (exchanged_in p side instant) side) (socket_of (exchanged_in p side instant) (other side))

may_first : (now : ℤ) (from : Option ℤ) → from ≡ None → may_challenge now from ≡ true
may_first now from none = ap (may_challenge now) none

-- `s` asks again
module _ (side : Side) (s r : PairSide) (instant : ℤ) (holds : HoldsPayload s.host) (c : Asking s.socket r.socket)
    (over : StartsOver (context_at side (record s { instant = instant })) s.socket) (at : r.socket.tcb.state ≡ In.SynReceived)
    (theirs : s.socket.tcb.receiver.next ≡ advanced_by r.socket.tcb.sender.una 1) (small : r.socket.tcb.sender.una.0 < 2 ^ 32)
    (undrawn : r.socket.tcb.timers.challenges_from ≡ None) where
  pub alive : is_closed r.socket.tcb.state ≡ false
  alive = ap is_closed at

  pub later : is_listening r.socket.tcb.state ≡ false
  later = ap is_listening at

  abbrev asks : SynGoes s.socket (offer_of (context_at side (record s { instant = instant })) s.socket)
  asks = again side s r instant holds c over

  pub draws_it : Draws r.socket (arrives (ay side s r instant holds c over) r.socket asks.k.header asks.k.segment (payload side s r instant holds c over))
  draws_it =
      answering_draws (ay side s r instant holds c over) r.socket asks.k.header asks.k.segment (payload side s r instant holds c over) asks.control at
      s.socket.tcb.receiver.next
      (asks_number (context_at side (record s { instant = instant })) (ay side s r instant holds c over) s.socket r.socket holds c over)
      (ap (distance_of r.socket.tcb.sender.una) theirs ∙ one_past r.socket.tcb.sender.una.0 small)
      (c.took ∙ ap (λ (n : SeqNumber). advanced_by n 1) (sym asks.number)) (subst (λ (n : SeqNumber). n.0 < 2 ^ 32) (sym asks.number) c.small)
      (no_payload side s r instant holds c over) asks.named (may_first (ay side s r instant holds c over).instant r.socket.tcb.timers.challenges_from undrawn)

pub meets : (p : PairValue) (side : Side) (instant fourth : ℤ) → IsReached p → MayMeet p side instant fourth → Meets p side instant
meets p A instant fourth r m = record {
  leads = exchange_reached p A instant (reach p A instant _ r m.at_third (goes_there A s t instant holds c m.over up lasts d).sent) answered;
  sockets =
      subst (λ (q : PairValue). Confirmed s.socket t.socket (socket_of q A) (socket_of q B)) (sym (exchange_is p A instant answered))
      (confirmed A s t instant holds c m.over up lasts d timely);
}
  where
    s : PairSide
    s = p.sides.a

    t : PairSide
    t = p.sides.b

    holds : HoldsPayload s.host
    holds = reached_holds p A r

    theirs : IsAnswering t.socket
    theirs = answering_in p B r m.theirs.answerer.answers

    c : Asking s.socket t.socket
    c =
        asking_across s.socket t.socket
        (reached_mirrored p A r (ap has_heard m.own.answerer.answers) (ap is_over m.theirs.answerer.answers)) m.own.answerer
        (answering_in p A r m.own.answerer.answers) m.theirs.took m.own.took m.theirs.sent

    up : is_closed t.socket.tcb.state ≡ false
    up = alive A s t instant holds c m.over m.theirs.answerer.answers m.own.took theirs.small m.theirs.undrawn

    lasts : is_listening t.socket.tcb.state ≡ false
    lasts = later A s t instant holds c m.over m.theirs.answerer.answers m.own.took theirs.small m.theirs.undrawn

    d : Draws t.socket (arrives (ay A s t instant holds c m.over) t.socket (again A s t instant holds c m.over).k.header (again A s t instant holds c m.over).k.segment
        (payload A s t instant holds c m.over))
    d = draws_it A s t instant holds c m.over m.theirs.answerer.answers m.own.took theirs.small m.theirs.undrawn

    timely : IsInitialReply A s t instant holds c m.over up lasts d
    timely = by m.stamps where
      by : IsTimely p B (at p.sides B).instant → IsInitialReply A s t instant holds c m.over up lasts d
      by (inl none) =
          unstamped (ax A s t instant holds c m.over) s.socket (again A s t instant holds c m.over) none d.reply.segment (ax A s t instant holds c m.over).instant
      by (inr days) =
          reply_timely p A instant (ax A s t instant holds c m.over).instant (again A s t instant holds c m.over).k.header (again A s t instant holds c m.over).k.segment
          (payload A s t instant holds c m.over) d.reply r m.at_third days d.answer

    answered : next_sent (offered_in p A instant) B - next_sent p B ≡ 1
    answered = one A s t instant holds c m.over up lasts d
meets p B instant fourth r m = record {
  leads = exchange_reached p B instant (reach p B instant _ r m.at_third (goes_there B s t instant holds c m.over up lasts d).sent) answered;
  sockets =
      subst (λ (q : PairValue). Confirmed s.socket t.socket (socket_of q B) (socket_of q A)) (sym (exchange_is p B instant answered))
      (confirmed B s t instant holds c m.over up lasts d timely);
}
  where
    s : PairSide
    s = p.sides.b

    t : PairSide
    t = p.sides.a

    holds : HoldsPayload s.host
    holds = reached_holds p B r

    theirs : IsAnswering t.socket
    theirs = answering_in p A r m.theirs.answerer.answers

    c : Asking s.socket t.socket
    c =
        asking_across s.socket t.socket
        (reached_mirrored p B r (ap has_heard m.own.answerer.answers) (ap is_over m.theirs.answerer.answers)) m.own.answerer
        (answering_in p B r m.own.answerer.answers) m.theirs.took m.own.took m.theirs.sent

    up : is_closed t.socket.tcb.state ≡ false
    up = alive B s t instant holds c m.over m.theirs.answerer.answers m.own.took theirs.small m.theirs.undrawn

    lasts : is_listening t.socket.tcb.state ≡ false
    lasts = later B s t instant holds c m.over m.theirs.answerer.answers m.own.took theirs.small m.theirs.undrawn

    d : Draws t.socket (arrives (ay B s t instant holds c m.over) t.socket (again B s t instant holds c m.over).k.header (again B s t instant holds c m.over).k.segment
        (payload B s t instant holds c m.over))
    d = draws_it B s t instant holds c m.over m.theirs.answerer.answers m.own.took theirs.small m.theirs.undrawn

    timely : IsInitialReply B s t instant holds c m.over up lasts d
    timely = by m.stamps where
      by : IsTimely p A (at p.sides A).instant → IsInitialReply B s t instant holds c m.over up lasts d
      by (inl none) =
          unstamped (ax B s t instant holds c m.over) s.socket (again B s t instant holds c m.over) none d.reply.segment (ax B s t instant holds c m.over).instant
      by (inr days) =
          reply_timely p B instant (ax B s t instant holds c m.over).instant (again B s t instant holds c m.over).k.header (again B s t instant holds c m.over).k.segment
          (payload B s t instant holds c m.over) d.reply r m.at_third days d.answer

    answered : next_sent (offered_in p B instant) A - next_sent p A ≡ 1
    answered = one B s t instant holds c m.over up lasts d

-- THE SECOND EXCHANGE

few : (n : ℕ) → n ≡ 1 → n ≤ 1
few n e = omega arith

all_came : (una snd_max : ℕ) → una < 2 ^ 32 → snd_max ≡ 0 → ((una + snd_max) % 2 ^ 32 + (2 ^ 32 - una)) % 2 ^ 32 ≡ 0
all_came una snd_max e f = omega arith

-- of the sockets that the first one leaves
came_all :
    (w v w_new v_new : TcpValue) → Confirmed w v w_new v_new → v.tcb.receiver.next ≡ advanced_by w.tcb.sender.una 1 → w.tcb.sender.snd_max ≡ 1
    → distance_of v_new.tcb.receiver.next (snd_max w_new.tcb) ≡ 0
came_all w v w_new v_new x took sent =
    subst (λ (n : SeqNumber). distance_of n (snd_max w_new.tcb) ≡ 0) (sym (x.still.next ∙ (took ∙ sym x.una)))
    (all_came w_new.tcb.sender.una.0 w_new.tcb.sender.snd_max
    (following_small w_new.tcb.sender.una w.tcb.sender.una x.una)
    (x.snd_max (few w.tcb.sender.snd_max sent)))

-- each side has the same one as its other's other
took_back : (p : PairValue) (side : Side) → HasCrossed p (other side) →
    (socket_of p (other side)).tcb.receiver.next ≡ advanced_by (socket_of p side).tcb.sender.una 1
took_back p A h = h.took
took_back p B h = h.took

pub may_confirm : (p : PairValue) (side : Side) (third fourth : ℤ) → MayMeet p side third fourth → Meets p side third →
    MayConfirm (exchanged_in p side third) side fourth
may_confirm p side third fourth m x = record {
  unconfirmed =
      record {
        opened = x.sockets.state;
        una = x.sockets.una ∙ (sym (took_back p side m.theirs) ∙ sym x.sockets.still.next);
        took = x.sockets.next ∙ (m.own.took ∙ ap (λ (n : SeqNumber). advanced_by n 1) (sym x.sockets.still.una));
        answerer = answers_still (socket_of p (other side)) (socket_of q (other side)) x.sockets.still m.theirs.answerer;
      };
  over =
      starts_still (context_of p (other side) fourth) (context_of q (other side) fourth) (socket_of p (other side)) (socket_of q (other side)) refl
      x.sockets.still m.their_over;
  draws = may_first (at q.sides side).instant (socket_of q side).tcb.timers.challenges_from (x.sockets.undrawn ∙ m.own.undrawn);
  space =
      inl
      (came_all (socket_of p side) (socket_of p (other side)) (socket_of q side) (socket_of q (other side)) x.sockets (took_back p side m.theirs)
      m.own.sent);
  at_instant = m.at_fourth;
  stamps = m.their_stamps;
}
  where
    q : PairValue
    q = exchanged_in p side third

-- THE SYNS CROSS

-- a side whose SYN went, and which the other's came to
pub record CrossedSide (old : TcpValue) (header : TcpHeader) (new : TcpValue) : Type 0 where
  pub answerer : AnswersOn new.tcb
  pub una : new.tcb.sender.una ≡ old.tcb.sender.una
  pub next : new.tcb.receiver.next ≡ advanced_by header.seq_number 1
  pub sent : new.tcb.sender.snd_max ≡ 1
  pub undrawn : new.tcb.timers.challenges_from ≡ None
  pub room : room_of new.received ≡ room_of old.received
  pub limit : new.tcb.settings.retries ≡ old.tcb.settings.retries

crossed_side :
    (cz : ContextValue) (old : TcpValue) (c : CallsAcross old.tcb) (it : SynGoes old (offer_of cz old)) → old.tcb.sender.una.0 < 2 ^ 32
    → old.tcb.sender.snd_max ≤ 1 → (header : TcpHeader) (a : Arrived) → Crosses (settled true (offer_of cz old).socket) header a
    → CrossedSide old header a.socket
crossed_side cz old c it small few header a x = record {
  answerer =
      record {
        answers = x.state;
        timeout = x.timeout ∙ (it.timeout ∙ c.timeout);
        unpaused = x.paused ∙ (it.paused ∙ c.unpaused);
        tries =
            ap (λ (n : ℕ). reaches new.settings.opening_retries (n + 1)) x.timeouts
            ∙ (ap (λ (limit : Option ℕ). reaches limit 1) (x.opening ∙ it.opening) ∙ c.tries);
      };
  una = x.una ∙ it.una;
  next = x.next;
  sent = one;
  undrawn = x.undrawn ∙ (it.undrawn ∙ c.undrawn);
  room = x.room ∙ ap room_of it.received;
  limit = x.retries ∙ it.retries;
}
  where
    new : Tcb
    new = a.socket.tcb

    one : new.sender.snd_max ≡ 1
    one = x.snd_max ∙ it.snd_max small few

-- of the two sides, where the first is asked first
pub record CrossedBoth (s r s_new r_new : TcpValue) : Type 0 where
  pub own : AnswersOn s_new.tcb
  pub theirs : AnswersOn r_new.tcb
  pub took : s_new.tcb.receiver.next ≡ advanced_by r_new.tcb.sender.una 1
  pub their_took : r_new.tcb.receiver.next ≡ advanced_by s_new.tcb.sender.una 1
  pub sent : s_new.tcb.sender.snd_max ≡ 1
  pub they_sent : r_new.tcb.sender.snd_max ≡ 1
  pub undrawn : s_new.tcb.timers.challenges_from ≡ None
  pub they_undrawn : r_new.tcb.timers.challenges_from ≡ None
  pub room : room_of s_new.received ≡ room_of s.received
  pub their_room : room_of r_new.received ≡ room_of r.received
  pub limit : s_new.tcb.settings.retries ≡ s.tcb.settings.retries
  pub their_limit : r_new.tcb.settings.retries ≡ r.tcb.settings.retries

-- `s` goes first
module _ (side : Side) (s r : PairSide) (first second : ℤ) (holds : HoldsPayload s.host) (they_hold : HoldsPayload r.host)
    (a : CallsAcross s.socket.tcb) (b : CallsAcross r.socket.tcb)
    (mirrored : AreMirrored s.socket.tcb r.socket.tcb) (over : StartsOver (context_at side (record s { instant = first })) s.socket)
    (goes : Proceeds (context_at side (record s { instant = first })) s.socket)
    (their_over : StartsOver (context_at (other side) (record r { instant = second })) r.socket)
    (they_go : Proceeds (context_at (other side) (record r { instant = second })) r.socket) (syn : s.socket.tcb.sender.syn_unacked ≡ true)
    (their_syn : r.socket.tcb.sender.syn_unacked ≡ true) (alone : s.socket.tcb.receiver.took_syn ≡ false)
    (they_alone : r.socket.tcb.receiver.took_syn ≡ false) (small : s.socket.tcb.sender.una.0 < 2 ^ 32)
    (their_small : r.socket.tcb.sender.una.0 < 2 ^ 32) (few_out : s.socket.tcb.sender.snd_max ≤ 1) (their_few : r.socket.tcb.sender.snd_max ≤ 1) where
  abbrev cx : ContextValue
  cx = context_at side (record s { instant = first })

  abbrev cy : ContextValue
  cy = context_at (other side) (record r { instant = second })

  pub call : SynGoes s.socket (offer_of cx s.socket)
  call = call_goes cx s.socket mirrored.own holds a.calls mirrored.named over goes syn

  pub their_call : SynGoes r.socket (offer_of cy r.socket)
  their_call = call_goes cy r.socket mirrored.theirs they_hold b.calls mirrored.peer_side_named their_over they_go their_syn

  abbrev pub s1 : PairSide
  s1 = asked_side side s r first

  abbrev pub r1 : PairSide
  r1 = asked_side (other side) r s second

  both : AreMirrored s.socket.tcb r1.socket.tcb
  both =
      renamed s.socket.tcb r.socket.tcb s.socket.tcb r1.socket.tcb mirrored refl (ap (λ (names : Names). names.pair) their_call.names)

  back : AreMirrored r.socket.tcb s1.socket.tcb
  back =
      turned s1.socket.tcb r.socket.tcb
      (renamed s.socket.tcb r.socket.tcb s1.socket.tcb r.socket.tcb mirrored (ap (λ (names : Names). names.pair) call.names) refl)

  called : r1.socket.tcb.state ≡ In.SynSent
  called = their_call.state ∙ b.calls

  calling : s1.socket.tcb.state ≡ In.SynSent
  calling = call.state ∙ a.calls

  abbrev pub bytes : List ℕ
  bytes = payload_of call.k call.k.kind (offer_of cx s.socket).socket.queued.queue

  abbrev pub their_bytes : List ℕ
  their_bytes = payload_of their_call.k their_call.k.kind (offer_of cy r.socket).socket.queued.queue

  bare : (v : TcpValue) (number : Option SeqNumber) → number ≡ (if v.tcb.receiver.took_syn then Some v.tcb.receiver.next else None)
      → v.tcb.receiver.took_syn ≡ false → number ≡ None
  bare v number is none = is ∙ ap (λ (took : Bool). if took then Some v.tcb.receiver.next else None) none

  -- the SYN of the first comes to the other
  pub came : Comes side s r1 first call.k bytes
  came =
      comes_over side s r1 first call.k bytes call.offered refl
      (later_takes cx s.socket r1.socket.tcb call.k both (ap is_closed called) (ap is_listening called) call.offered)

  it_crosses : Crosses r1.socket call.k.segment (arrives (context_at (other side) r1) r1.socket call.k.header call.k.segment bytes)
  it_crosses =
      crosses (context_at (other side) r1) r1.socket call.k.header call.k.segment bytes called call.control
      (bare s.socket call.k.segment.ack_number call.acknowledges alone) call.named

  abbrev pub r2 : PairSide
  r2 = peer_side_after side s r1 first

  -- it isn't answered
  pub same_sent : r2.sent ≡ r1.sent
  same_sent =
      ap (λ (t : PairSide). t.sent) came.reaches ∙ ap (λ (x : Option Reply). and_reply r1.sent x) it_crosses.silent

  -- and that of the other to the first
  pub their_came : Comes (other side) r s1 second their_call.k their_bytes
  their_came =
      comes_over (other side) r s1 second their_call.k their_bytes their_call.offered refl
      (later_takes cy r.socket s1.socket.tcb their_call.k back (ap is_closed calling) (ap is_listening calling) their_call.offered)

  their_crosses : Crosses s1.socket their_call.k.segment
      (arrives (context_at (other (other side)) s1) s1.socket their_call.k.header their_call.k.segment their_bytes)
  their_crosses =
      crosses (context_at (other (other side)) s1) s1.socket their_call.k.header their_call.k.segment their_bytes calling their_call.control
      (bare r.socket their_call.k.segment.ack_number their_call.acknowledges they_alone) their_call.named

  abbrev pub s2 : PairSide
  s2 = peer_side_after (other side) r s1 second

  pub found : slice_get r2.sent (length r.sent) ≡ slice_get r1.sent (length r.sent)
  found = ap (λ (xs : List SentSegment). slice_get xs (length r.sent)) same_sent

  pub own : CrossedSide s.socket their_call.k.segment s2.socket
  own =
      subst (CrossedSide s.socket their_call.k.segment) (sym their_came.socket)
      (crossed_side cx s.socket a call small few_out their_call.k.segment
      (arrives (context_at (other (other side)) s1) s1.socket their_call.k.header their_call.k.segment their_bytes) their_crosses)

  pub theirs : CrossedSide r.socket call.k.segment r2.socket
  theirs =
      subst (CrossedSide r.socket call.k.segment) (sym came.socket)
      (crossed_side cy r.socket b their_call their_small their_few call.k.segment
      (arrives (context_at (other side) r1) r1.socket call.k.header call.k.segment bytes) it_crosses)

  -- each took the SYN of the other
  pub took : s2.socket.tcb.receiver.next ≡ advanced_by r2.socket.tcb.sender.una 1
  took = own.next ∙ ap (λ (n : SeqNumber). advanced_by n 1) (their_call.number ∙ sym theirs.una)

  pub their_took : r2.socket.tcb.receiver.next ≡ advanced_by s2.socket.tcb.sender.una 1
  their_took = theirs.next ∙ ap (λ (n : SeqNumber). advanced_by n 1) (call.number ∙ sym own.una)

  pub both_crossed : CrossedBoth s.socket r.socket s2.socket r2.socket
  both_crossed = record {
    own = own.answerer;
    theirs = theirs.answerer;
    took = took;
    their_took = their_took;
    sent = own.sent;
    they_sent = theirs.sent;
    undrawn = own.undrawn;
    they_undrawn = theirs.undrawn;
    room = own.room;
    their_room = theirs.room;
    limit = own.limit;
    their_limit = theirs.limit;
  }

-- what follows of each side
pub record Crossing (p : PairValue) (side : Side) (first second : ℤ) : Type 0 where
  pub leads : IsReached (crossed_in p side first second)
  pub own : HasCrossed (crossed_in p side first second) side
  pub theirs : HasCrossed (crossed_in p side first second) (other side)
  pub room : room_of (socket_of (crossed_in p side first second) side).received ≡ room_of (socket_of p side).received
  pub their_room : room_of (socket_of (crossed_in p side first second) (other side)).received ≡ room_of (socket_of p (other side)).received
  pub limit : (socket_of (crossed_in p side first second) side).tcb.settings.retries ≡ (socket_of p side).tcb.settings.retries
  pub their_limit :
      (socket_of (crossed_in p side first second) (other side)).tcb.settings.retries ≡ (socket_of p (other side)).tcb.settings.retries

abbrev after_both : PairValue → Side → ℤ → ℤ → Type 0
after_both p side first second =
    CrossedBoth (socket_of p side) (socket_of p (other side)) (socket_of (crossed_in p side first second) side)
    (socket_of (crossed_in p side first second) (other side))

to_crossing : (p : PairValue) (side : Side) (first second : ℤ) → IsReached (crossed_in p side first second) → after_both p side first second →
    Crossing p side first second
to_crossing p side first second r x = record {
  leads = r;
  own = record { answerer = x.own; took = x.took; sent = x.sent; undrawn = x.undrawn };
  theirs = record { answerer = x.theirs; took = back side x.their_took; sent = x.they_sent; undrawn = x.they_undrawn };
  room = x.room;
  their_room = x.their_room;
  limit = x.limit;
  their_limit = x.their_limit;
}
  where
    q : PairValue
    q = crossed_in p side first second

    back : (side : Side) → (socket_of q (other side)).tcb.receiver.next ≡ advanced_by (socket_of q side).tcb.sender.una 1 →
        HasTakenSyn q (other side)
    back A e = e
    back B e = e

pub crossing_a : (p : PairValue) (first second : ℤ) → IsReached p → MayCross p A first second → Crossing p A first second
crossing_a p first second r m =
    to_crossing p A first second
    (reached_by p (crossed_in p A first second)
    (Offer A first true ∷ Offer B second true ∷ Deliver A (length s.sent) ∷ Deliver B (length t.sent) ∷ []) r
    (m.at_first, (m.at_second, (first_comes, (second_comes, refl)))))
    (subst (λ (v : TcpValue). CrossedBoth s.socket t.socket v other_side.socket) (sym same) x)
  where
    s : PairSide
    s = p.sides.a

    t : PairSide
    t = p.sides.b

    holds : HoldsPayload s.host
    holds = reached_holds p A r

    they_hold : HoldsPayload t.host
    they_hold = reached_holds p B r

    f : IsAsking (core_of s.socket) (unsent (reached_keeps p A r).side)
    f = asking p A r m.own.calls

    g : IsAsking (core_of t.socket) (unsent (reached_keeps p B r).side)
    g = asking p B r m.theirs.calls

    small : s.socket.tcb.sender.una.0 < 2 ^ 32
    small = una_of p A r

    their_small : t.socket.tcb.sender.una.0 < 2 ^ 32
    their_small = una_of p B r

    -- each as the other's SYN leaves it
    own_side : PairSide
    own_side =
        s2 A s t first second holds they_hold m.own m.theirs m.mirrored m.over m.goes m.their_over m.they_go f.syn_unacked g.syn_unacked f.alone g.alone
        small their_small f.snd_max g.snd_max

    other_side : PairSide
    other_side =
        r2 A s t first second holds they_hold m.own m.theirs m.mirrored m.over m.goes m.their_over m.they_go f.syn_unacked g.syn_unacked f.alone g.alone
        small their_small f.snd_max g.snd_max

    x : CrossedBoth s.socket t.socket own_side.socket other_side.socket
    x =
        both_crossed A s t first second holds they_hold m.own m.theirs m.mirrored m.over m.goes m.their_over m.they_go f.syn_unacked g.syn_unacked f.alone
        g.alone small their_small f.snd_max g.snd_max

    is_there : slice_get other_side.sent (length t.sent) ≡ slice_get (asked_side B t s second).sent (length t.sent)
    is_there =
        found A s t first second holds they_hold m.own m.theirs m.mirrored m.over m.goes m.their_over m.they_go f.syn_unacked g.syn_unacked f.alone
        g.alone small their_small f.snd_max g.snd_max

    first_comes : refused_if (not (nat_lt (length s.sent) (length (asked_side A s t first).sent))) NoSegment ≡ None
    first_comes =
        within (length s.sent) (length (asked_side A s t first).sent)
        (slice_get_within (asked_side A s t first).sent (length s.sent) _
        (came A s t first second holds they_hold m.own m.theirs m.mirrored m.over m.goes m.their_over m.they_go f.syn_unacked g.syn_unacked f.alone
        g.alone small their_small f.snd_max g.snd_max).sent)

    second_comes : refused_if (not (nat_lt (length t.sent) (length other_side.sent))) NoSegment ≡ None
    second_comes =
        within (length t.sent) (length other_side.sent)
        (slice_get_within other_side.sent (length t.sent) _
        (is_there
        ∙ (their_came A s t first second holds they_hold m.own m.theirs m.mirrored m.over m.goes m.their_over m.they_go f.syn_unacked g.syn_unacked f.alone
        g.alone small their_small f.snd_max g.snd_max).sent))

    same : (handed A (asked_side A s t first) (slice_get other_side.sent (length t.sent))).socket ≡ own_side.socket
    same = ap (λ (x : Option SentSegment). (handed A (asked_side A s t first) x).socket) is_there

pub crossing_b : (p : PairValue) (first second : ℤ) → IsReached p → MayCross p B first second → Crossing p B first second
crossing_b p first second r m =
    to_crossing p B first second
    (reached_by p (crossed_in p B first second)
    (Offer B first true ∷ Offer A second true ∷ Deliver B (length s.sent) ∷ Deliver A (length t.sent) ∷ []) r
    (m.at_first, (m.at_second, (first_comes, (second_comes, refl)))))
    (subst (λ (v : TcpValue). CrossedBoth s.socket t.socket v other_side.socket) (sym same) x)
  where
    s : PairSide
    s = p.sides.b

    t : PairSide
    t = p.sides.a

    holds : HoldsPayload s.host
    holds = reached_holds p B r

    they_hold : HoldsPayload t.host
    they_hold = reached_holds p A r

    f : IsAsking (core_of s.socket) (unsent (reached_keeps p B r).side)
    f = asking p B r m.own.calls

    g : IsAsking (core_of t.socket) (unsent (reached_keeps p A r).side)
    g = asking p A r m.theirs.calls

    small : s.socket.tcb.sender.una.0 < 2 ^ 32
    small = una_of p B r

    their_small : t.socket.tcb.sender.una.0 < 2 ^ 32
    their_small = una_of p A r

    -- each as the other's SYN leaves it
    own_side : PairSide
    own_side =
        s2 B s t first second holds they_hold m.own m.theirs m.mirrored m.over m.goes m.their_over m.they_go f.syn_unacked g.syn_unacked f.alone g.alone
        small their_small f.snd_max g.snd_max

    other_side : PairSide
    other_side =
        r2 B s t first second holds they_hold m.own m.theirs m.mirrored m.over m.goes m.their_over m.they_go f.syn_unacked g.syn_unacked f.alone g.alone
        small their_small f.snd_max g.snd_max

    x : CrossedBoth s.socket t.socket own_side.socket other_side.socket
    x =
        both_crossed B s t first second holds they_hold m.own m.theirs m.mirrored m.over m.goes m.their_over m.they_go f.syn_unacked g.syn_unacked f.alone
        g.alone small their_small f.snd_max g.snd_max

    is_there : slice_get other_side.sent (length t.sent) ≡ slice_get (asked_side A t s second).sent (length t.sent)
    is_there =
        found B s t first second holds they_hold m.own m.theirs m.mirrored m.over m.goes m.their_over m.they_go f.syn_unacked g.syn_unacked f.alone
        g.alone small their_small f.snd_max g.snd_max

    first_comes : refused_if (not (nat_lt (length s.sent) (length (asked_side B s t first).sent))) NoSegment ≡ None
    first_comes =
        within (length s.sent) (length (asked_side B s t first).sent)
        (slice_get_within (asked_side B s t first).sent (length s.sent) _
        (came B s t first second holds they_hold m.own m.theirs m.mirrored m.over m.goes m.their_over m.they_go f.syn_unacked g.syn_unacked f.alone
        g.alone small their_small f.snd_max g.snd_max).sent)

    second_comes : refused_if (not (nat_lt (length t.sent) (length other_side.sent))) NoSegment ≡ None
    second_comes =
        within (length t.sent) (length other_side.sent)
        (slice_get_within other_side.sent (length t.sent) _
        (is_there
        ∙ (their_came B s t first second holds they_hold m.own m.theirs m.mirrored m.over m.goes m.their_over m.they_go f.syn_unacked g.syn_unacked f.alone
        g.alone small their_small f.snd_max g.snd_max).sent))

    same : (handed B (asked_side B s t first) (slice_get other_side.sent (length t.sent))).socket ≡ own_side.socket
    same = ap (λ (x : Option SentSegment). (handed B (asked_side B s t first) x).socket) is_there

pub crossing : (p : PairValue) (side : Side) (first second : ℤ) → IsReached p → MayCross p side first second → Crossing p side first second
crossing p A first second r m = crossing_a p first second r m
crossing p B first second r m = crossing_b p first second r m

pub meets_on : (p : PairValue) (side : Side) (third fourth : ℤ) → IsReached p → MayMeet p side third fourth → AreConnected (met_in p side third fourth) side
meets_on p side third fourth r m =
    let x = meets p side third fourth r m in
    confirms_on (exchanged_in p side third) side fourth x.leads (may_confirm p side third fourth m x)
