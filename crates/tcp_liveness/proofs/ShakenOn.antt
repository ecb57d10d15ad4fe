-- A handshake of which a segment was lost, or whose SYNs crossed, of a pair that events led to.
use Rattle.std.proofs.Common.{◌≡◌, inl, inr, ℕ, ◌+◌, ◌-◌, ◌%◌, ◌^◌, ◌<◌, ◌≤◌, ◌&&◌, ℤ, Bool, true, false, if◌then◌else◌, List, []}
use Rattle.std.proofs.Common.{length, Option, Some, None, refl, sym, ap, ◌∙◌, subst, arith}
use Rattle.ip_wire.specs.Seq.{distance_of}
use Rattle.ip_wire.specs.SeqNumber.{SeqNumber}
use Rattle.tcp_refinement.specs.Context.{ContextValue}
use Rattle.tcp_invariants.specs.Ends.{Proceeds, is_over}
use Rattle.tcp_invariants.specs.Moments.{is_due}
use Rattle.tcp_invariants.specs.Offsets.{advanced_by}
use Rattle.tcp_invariants.specs.State.TheVariants as In
use Rattle.tcp_invariants.specs.States.{is_closed, is_listening}
use Rattle.tcp_block.specs.Arrival.{arrives}
use Rattle.tcp_block.specs.TcbRules.{snd_max, unacked}
use Rattle.tcp_block.specs.Offers.{offer_of, payload_of}
use Rattle.tcp_block.specs.Retries.{reaches}
use Rattle.tcp_refinement.specs.Pair.Sides.{at, other}
use Rattle.tcp_block.specs.Timestamps.{is_stale}
use Rattle.tcp_block.specs.Value.{TcpValue, queued_in, room_of}
use Rattle.tcp_refinement.specs.Pair.Values.{HoldsPayload, PairSide, PairValue, context_at}
use Rattle.tcp_refinement.specs.declared.pair.event.Side.{Side}
use Rattle.tcp_refinement.specs.declared.pair.event.Side.TheVariants.{A, B}
use Rattle.tcp_liveness.specs.StartsOver.{StartsOver}
use Rattle.tcp_liveness.specs.Clocks.{IsTimely}
use Rattle.tcp_liveness.specs.Arrivals.{is_synchronized}
use Rattle.tcp_liveness.specs.Exchange.{HasSpace}
use Rattle.tcp_liveness.specs.Handshake.{AreConnected, CallsOn, called_in, shaken_in}
use Rattle.tcp_liveness.specs.HandshakeOn.{AnswersOn, IsUnconfirmed, MayAnswer, MayCallAgain, MayConfirm}
use Rattle.tcp_liveness.specs.HandshakeOn.{confirmed_in}
use Rattle.tcp_liveness.specs.Pair.{AreMirrored, context_of, has_heard, next_sent, offered_in, socket_of}
use Rattle.tcp_liveness.specs.Reached.{IsReached}
use Rattle.tcp_liveness.proofs.Crossed.{Draws, Unmoved, again_unmoved, established_draws}
use Rattle.tcp_liveness.proofs.Hosts.{reached_holds}
use Rattle.tcp_liveness.proofs.Kept.{reached_keeps}
use Rattle.tcp_liveness.proofs.Mirrored.{reached_mirrored}
use Rattle.tcp_liveness.proofs.Pair.{asked_side, peer_side_after, side_after}
use Rattle.tcp_liveness.proofs.Positions.{placed}
use Rattle.tcp_liveness.proofs.ShakeSteps.{Asking, Heard, call_goes, later_takes, opens_it, peer_side_accepts, question, unstamped}
use Rattle.tcp_liveness.proofs.Timely.{reply_timely}
use Rattle.tcp_liveness.proofs.ShakeSteps.{side_accepts}
use Rattle.tcp_liveness.proofs.Shaken.{Comes, answering_in, answers_on, asking, back, comes_over, connected_in, exchange_is, exchange_reached, heard_in}
use Rattle.tcp_liveness.proofs.Shaken.{IsAnswering, one_answered, reach, una_of}
use Rattle.tcp_liveness.proofs.Shakes.{Opens}
use Rattle.tcp_liveness.proofs.SynOffer.{SynGoes}

-- WHAT STAYS

not_second : (a b : Bool) → b ≡ false → (a && b) ≡ false
not_second true b e = e
not_second false b e = refl

pub starts_still : (cx cy : ContextValue) (old new : TcpValue) → cy.instant ≡ cx.instant → Unmoved old new → StartsOver cx old → StartsOver cy new
starts_still cx cy old new same u (inl none) = inl (u.flight_size ∙ none)
starts_still cx cy old new same u (inr due) =
    inr (ap (λ (t : ℤ). is_due t new.tcb.timers.retransmit_at) same ∙ (ap (is_due cx.instant) u.timer ∙ due))

pub answers_still : (old new : TcpValue) → Unmoved old new → AnswersOn old.tcb → AnswersOn new.tcb
answers_still old new u a = record {
  answers = u.state ∙ a.answers;
  timeout = u.timeout ∙ a.timeout;
  unpaused = u.paused ∙ a.unpaused;
  tries =
      ap (λ (n : ℕ). reaches new.tcb.settings.opening_retries (n + 1)) u.timeouts
      ∙ (ap (λ (limit : Option ℕ). reaches limit (old.tcb.sender.timeouts + 1)) u.opening ∙ a.tries);
}

no_ack : (v : TcpValue) (number : Option SeqNumber) → number ≡ (if v.tcb.receiver.took_syn then Some v.tcb.receiver.next else None)
    → v.tcb.receiver.took_syn ≡ false → number ≡ None
no_ack v number is alone = is ∙ ap (λ (took : Bool). if took then Some v.tcb.receiver.next else None) alone

-- A CALL GOES AGAIN

-- `s` is the side that calls
module _ (side : Side) (s r : PairSide) (first : ℤ) (holds : HoldsPayload s.host) (h : Heard s.socket r.socket)
    (over : StartsOver (context_at side (record s { instant = first })) s.socket)
    (goes : Proceeds (context_at side (record s { instant = first })) s.socket) (syn_unacked : s.socket.tcb.sender.syn_unacked ≡ true)
    (alone : s.socket.tcb.receiver.took_syn ≡ false) where
  abbrev pub cx : ContextValue
  cx = context_at side (record s { instant = first })

  pub call : SynGoes s.socket (offer_of cx s.socket)
  call = call_goes cx s.socket h.mirrored.own holds h.calls h.mirrored.named over goes syn_unacked

  abbrev pub bytes : List ℕ
  bytes = payload_of call.k call.k.kind (offer_of cx s.socket).socket.queued.queue

  pub came : Comes side s r first call.k bytes
  came =
      comes_over side s r first call.k bytes call.offered refl
      (later_takes cx s.socket r.socket.tcb call.k h.mirrored (ap is_closed h.answerer.answers) (ap is_listening h.answerer.answers) call.offered)

  pub still : Unmoved r.socket (peer_side_after side s r first).socket
  still =
      subst (Unmoved r.socket) (sym came.socket)
      (again_unmoved (context_at (other side) r) r.socket call.k.header call.k.segment bytes call.control h.answerer.answers call.named
      (no_ack s.socket call.k.segment.ack_number call.acknowledges alone))

  abbrev pub gone : TcpValue
  gone = (asked_side side s r first).socket

  abbrev pub new : TcpValue
  new = (peer_side_after side s r first).socket

  pub calls : gone.tcb.state ≡ In.SynSent
  calls = call.state ∙ h.calls

  pub caller : CallsOn gone.tcb
  caller =
      record { timeout = call.timeout ∙ h.caller.timeout; tries = ap (λ (limit : Option ℕ). reaches limit 0) call.retries ∙ h.caller.tries }

  pub answerer : AnswersOn new.tcb
  answerer = answers_still r.socket new still h.answerer

  pub took : new.tcb.receiver.next ≡ advanced_by gone.tcb.sender.una 1
  took = still.next ∙ (h.next ∙ ap (λ (n : SeqNumber). advanced_by n 1) (sym call.una))

-- it comes, and the other side answers still
pub record CalledAgain (p : PairValue) (side : Side) (first second third : ℤ) : Type 0 where
  pub leads : IsReached (called_in p side first)
  pub may : MayAnswer (called_in p side first) side second third

pub called_again : (p : PairValue) (side : Side) (first second third : ℤ) → IsReached p → MayCallAgain p side first second third →
    CalledAgain p side first second third
called_again p A first second third r m =
    let s = p.sides.a in
    let t = p.sides.b in
    let holds = reached_holds p A r in
    let h = heard_in p A r m.unanswered in
    let f = asking p A r m.unanswered.calls in
    record {
      leads = reach p A first _ r m.at_first (came A s t first holds h m.over m.goes f.syn_unacked f.alone).sent;
      may =
          record {
            unanswered =
                record {
                  calls = calls A s t first holds h m.over m.goes f.syn_unacked f.alone;
                  caller = caller A s t first holds h m.over m.goes f.syn_unacked f.alone;
                  answerer = answerer A s t first holds h m.over m.goes f.syn_unacked f.alone;
                  took = took A s t first holds h m.over m.goes f.syn_unacked f.alone;
                };
            over =
                starts_still (context_of p B second) (context_of (called_in p A first) B second) t.socket (peer_side_after A s t first).socket refl
                (still A s t first holds h m.over m.goes f.syn_unacked f.alone) m.answer_over;
            at_second = m.at_second;
            at_third = m.at_third;
            stamps = m.stamps;
          };
    }
called_again p B first second third r m =
    let s = p.sides.b in
    let t = p.sides.a in
    let holds = reached_holds p B r in
    let h = heard_in p B r m.unanswered in
    let f = asking p B r m.unanswered.calls in
    record {
      leads = reach p B first _ r m.at_first (came B s t first holds h m.over m.goes f.syn_unacked f.alone).sent;
      may =
          record {
            unanswered =
                record {
                  calls = calls B s t first holds h m.over m.goes f.syn_unacked f.alone;
                  caller = caller B s t first holds h m.over m.goes f.syn_unacked f.alone;
                  answerer = answerer B s t first holds h m.over m.goes f.syn_unacked f.alone;
                  took = took B s t first holds h m.over m.goes f.syn_unacked f.alone;
                };
            over =
                starts_still (context_of p A second) (context_of (called_in p B first) A second) t.socket (peer_side_after B s t first).socket refl
                (still B s t first holds h m.over m.goes f.syn_unacked f.alone) m.answer_over;
            at_second = m.at_second;
            at_third = m.at_third;
            stamps = m.stamps;
          };
    }

pub calls_on : (p : PairValue) (side : Side) (first second third : ℤ) → IsReached p → MayCallAgain p side first second third →
    AreConnected (shaken_in p side first second third) side
calls_on p side first second third r m =
    let it = called_again p side first second third r m in answers_on (called_in p side first) side second third it.leads it.may

-- AN ANSWER GOES AGAIN, AND IS ANSWERED

-- the side that asked is open, and the other is as it was
pub record Confirmed (w v w_new v_new : TcpValue) : Type 0 where
  pub state : w_new.tcb.state ≡ In.Established
  pub una : w_new.tcb.sender.una ≡ advanced_by w.tcb.sender.una 1
  pub next : w_new.tcb.receiver.next ≡ w.tcb.receiver.next
  -- where only its SYN went, all that it sent is acknowledged
  pub snd_max : w.tcb.sender.snd_max ≤ 1 → w_new.tcb.sender.snd_max ≡ 0
  pub undrawn : w_new.tcb.timers.challenges_from ≡ w.tcb.timers.challenges_from
  pub timeouts : w_new.tcb.sender.timeouts ≡ 0
  pub unanswered : w_new.tcb.sender.unanswered ≡ 0
  pub timeout : w_new.tcb.settings.timeout ≡ w.tcb.settings.timeout
  pub limit : w_new.tcb.settings.retries ≡ w.tcb.settings.retries
  pub agreed : w_new.tcb.peer.timestamps ≡ w.tcb.peer.timestamps
  pub room : room_of w_new.received ≡ room_of w.received
  pub still : Unmoved v v_new

less_one : (n : ℕ) → n ≡ 1 → n - 1 ≡ 0
less_one n e = omega arith

-- `s` is the side that asks again
module _ (side : Side) (s r : PairSide) (instant : ℤ) (holds : HoldsPayload s.host) (c : Asking s.socket r.socket)
    (over : StartsOver (context_at side (record s { instant = instant })) s.socket) where
  abbrev pub ax : ContextValue
  ax = context_at side (record s { instant = instant })

  abbrev pub ay : ContextValue
  ay = context_at (other side) r

  abbrev pub again : SynGoes s.socket (offer_of ax s.socket)
  again = question ax ay s.socket r.socket holds c over

  abbrev pub payload : List ℕ
  payload = payload_of again.k again.k.kind (offer_of ax s.socket).socket.queued.queue

  pub no_payload : length payload ≡ 0
  no_payload = ap length (again.bare (offer_of ax s.socket).socket.queued.queue)

  module _ (alive : is_closed r.socket.tcb.state ≡ false) (later : is_listening r.socket.tcb.state ≡ false)
      (d : Draws r.socket (arrives ay r.socket again.k.header again.k.segment payload)) where
    pub goes_there : Comes side s r instant again.k payload
    goes_there =
        comes_over side s r instant again.k payload again.offered refl (peer_side_accepts ax ay s.socket r.socket holds c over alive later)

    pub one : length (peer_side_after side s r instant).sent - length r.sent ≡ 1
    one = one_answered side s r instant again.k payload goes_there d.reply d.answer

    pub comes_back : (side_after side s r instant).socket ≡ (arrives ax (asked_side side s r instant).socket d.reply.header d.reply.segment []).socket
    comes_back = back side s r instant again.k payload goes_there d.reply d.answer (side_accepts ax ay s.socket r.socket holds c over payload d)

    -- what answers isn't too old
    abbrev pub IsInitialReply : Type 0
    IsInitialReply = is_stale (asked_side side s r instant).socket.tcb d.reply.segment ax.instant ≡ false

    pub confirmed : IsInitialReply → Confirmed s.socket r.socket (side_after side s r instant).socket (peer_side_after side s r instant).socket
    confirmed initial =
        subst (λ (v : TcpValue). Confirmed s.socket r.socket (side_after side s r instant).socket v) (sym goes_there.socket)
        (subst (λ (w : TcpValue). Confirmed s.socket r.socket w (arrives ay r.socket again.k.header again.k.segment payload).socket) (sym comes_back)
        (record {
          state = o.state;
          una = o.una ∙ ap (λ (n : SeqNumber). advanced_by n 1) again.una;
          next = o.next ∙ again.next;
          snd_max = λ few. o.snd_max ∙ less_one (asked_side side s r instant).socket.tcb.sender.snd_max (again.snd_max c.small few);
          undrawn = o.undrawn ∙ again.undrawn;
          timeouts = o.timeouts;
          unanswered = o.unanswered;
          timeout = o.timeout ∙ again.timeout;
          limit = o.limit ∙ again.retries;
          agreed = o.agreed ∙ again.agreed;
          room = o.room ∙ ap room_of again.received;
          still = d.still;
        }))
      where
        o : Opens (asked_side side s r instant).socket (arrives ax (asked_side side s r instant).socket d.reply.header d.reply.segment [])
        o = opens_it ax ay s.socket r.socket holds c over payload d initial

-- THE LAST ACKNOWLEDGEMENT

near_snd_max : (una snd_max : ℕ) → una < 2 ^ 32 → snd_max < 2 ^ 30 → ((una + snd_max) % 2 ^ 32 + (2 ^ 32 - una)) % 2 ^ 32 < 2 ^ 31
near_snd_max una snd_max e f = omega arith

few_sent : (snd_max all : ℕ) → snd_max ≤ all → all < 2 ^ 30 → snd_max < 2 ^ 30
few_sent snd_max all a b = omega arith

-- an open side has sent less than a quarter of the circle of numbers past SND.UNA
sent_few : (p : PairValue) (side : Side) → IsReached p → is_synchronized (socket_of p side).tcb.state ≡ true → (socket_of p side).tcb.sender.snd_max < 2 ^ 30
sent_few p side r on =
    let k = reached_keeps p side r in
    let b = placed (socket_of p side) k.side k.fits k.holds.0.well_formed on in
    few_sent (socket_of p side).tcb.sender.snd_max (unacked (socket_of p side).tcb (queued_in (socket_of p side))) b.snd_max b.few

asking_by :
    (w v : TcpValue) → AreMirrored w.tcb v.tcb → AnswersOn w.tcb → IsAnswering w → v.tcb.receiver.next ≡ advanced_by w.tcb.sender.una 1
    → v.tcb.sender.una ≡ w.tcb.receiver.next → v.tcb.sender.una.0 < 2 ^ 32 → v.tcb.sender.snd_max < 2 ^ 30 → HasSpace w v → Asking w v
asking_by w v mirrored on a took una small few space = record {
  mirrored = mirrored;
  answerer = on;
  syn_unacked = a.syn_unacked;
  took_syn = a.took_syn;
  small = a.small;
  took = took;
  near =
      subst (λ (n : SeqNumber). distance_of n (snd_max v.tcb) < 2 ^ 31) una (near_snd_max v.tcb.sender.una.0 v.tcb.sender.snd_max small few);
  space = space;
}

-- what the exchange of the other side leaves
pub record Confirms (p : PairValue) (side : Side) (instant : ℤ) : Type 0 where
  pub leads : IsReached (confirmed_in p side instant)
  pub sockets :
      Confirmed (socket_of p (other side)) (socket_of p side) (socket_of (confirmed_in p side instant) (other side))
      (socket_of (confirmed_in p side instant) side)

pub confirms : (p : PairValue) (side : Side) (instant : ℤ) → IsReached p → MayConfirm p side instant → Confirms p side instant
confirms p A instant r m = record {
  leads = exchange_reached p B instant (reach p B instant _ r m.at_instant (goes_there B s t instant holds c m.over alive later d).sent) answered;
  sockets =
      subst (λ (q : PairValue). Confirmed s.socket t.socket (socket_of q B) (socket_of q A)) (sym (exchange_is p B instant answered))
      (confirmed B s t instant holds c m.over alive later d timely);
}
  where
    s : PairSide
    s = p.sides.b

    holds : HoldsPayload s.host
    holds = reached_holds p B r

    t : PairSide
    t = p.sides.a

    u : IsUnconfirmed p A
    u = m.unconfirmed

    c : Asking s.socket t.socket
    c =
        asking_by s.socket t.socket (reached_mirrored p B r (ap has_heard u.answerer.answers) (ap is_over u.opened)) u.answerer
        (answering_in p B r u.answerer.answers) u.took u.una (una_of p A r) (sent_few p A r (ap is_synchronized u.opened)) m.space

    alive : is_closed t.socket.tcb.state ≡ false
    alive = ap is_closed u.opened

    later : is_listening t.socket.tcb.state ≡ false
    later = ap is_listening u.opened

    d : Draws t.socket (arrives (ay B s t instant holds c m.over) t.socket (again B s t instant holds c m.over).k.header (again B s t instant holds c m.over).k.segment
        (payload B s t instant holds c m.over))
    d =
        established_draws (ay B s t instant holds c m.over) t.socket (again B s t instant holds c m.over).k.header (again B s t instant holds c m.over).k.segment
        (payload B s t instant holds c m.over) (again B s t instant holds c m.over).control u.opened (again B s t instant holds c m.over).named m.draws

    timely : IsInitialReply B s t instant holds c m.over alive later d
    timely = by m.stamps where
      by : IsTimely p A (at p.sides A).instant → IsInitialReply B s t instant holds c m.over alive later d
      by (inl none) =
          unstamped (ax B s t instant holds c m.over) s.socket (again B s t instant holds c m.over) none d.reply.segment (ax B s t instant holds c m.over).instant
      by (inr days) =
          reply_timely p B instant (ax B s t instant holds c m.over).instant (again B s t instant holds c m.over).k.header (again B s t instant holds c m.over).k.segment
          (payload B s t instant holds c m.over) d.reply r m.at_instant days d.answer

    answered : next_sent (offered_in p B instant) A - next_sent p A ≡ 1
    answered = one B s t instant holds c m.over alive later d
confirms p B instant r m = record {
  leads = exchange_reached p A instant (reach p A instant _ r m.at_instant (goes_there A s t instant holds c m.over alive later d).sent) answered;
  sockets =
      subst (λ (q : PairValue). Confirmed s.socket t.socket (socket_of q A) (socket_of q B)) (sym (exchange_is p A instant answered))
      (confirmed A s t instant holds c m.over alive later d timely);
}
  where
    s : PairSide
    s = p.sides.a

    holds : HoldsPayload s.host
    holds = reached_holds p A r

    t : PairSide
    t = p.sides.b

    u : IsUnconfirmed p B
    u = m.unconfirmed

    c : Asking s.socket t.socket
    c =
        asking_by s.socket t.socket (reached_mirrored p A r (ap has_heard u.answerer.answers) (ap is_over u.opened)) u.answerer
        (answering_in p A r u.answerer.answers) u.took u.una (una_of p B r) (sent_few p B r (ap is_synchronized u.opened)) m.space

    alive : is_closed t.socket.tcb.state ≡ false
    alive = ap is_closed u.opened

    later : is_listening t.socket.tcb.state ≡ false
    later = ap is_listening u.opened

    d : Draws t.socket (arrives (ay A s t instant holds c m.over) t.socket (again A s t instant holds c m.over).k.header (again A s t instant holds c m.over).k.segment
        (payload A s t instant holds c m.over))
    d =
        established_draws (ay A s t instant holds c m.over) t.socket (again A s t instant holds c m.over).k.header (again A s t instant holds c m.over).k.segment
        (payload A s t instant holds c m.over) (again A s t instant holds c m.over).control u.opened (again A s t instant holds c m.over).named m.draws

    timely : IsInitialReply A s t instant holds c m.over alive later d
    timely = by m.stamps where
      by : IsTimely p B (at p.sides B).instant → IsInitialReply A s t instant holds c m.over alive later d
      by (inl none) =
          unstamped (ax A s t instant holds c m.over) s.socket (again A s t instant holds c m.over) none d.reply.segment (ax A s t instant holds c m.over).instant
      by (inr days) =
          reply_timely p A instant (ax A s t instant holds c m.over).instant (again A s t instant holds c m.over).k.header (again A s t instant holds c m.over).k.segment
          (payload A s t instant holds c m.over) d.reply r m.at_instant days d.answer

    answered : next_sent (offered_in p A instant) B - next_sent p B ≡ 1
    answered = one A s t instant holds c m.over alive later d

pub confirms_on : (p : PairValue) (side : Side) (instant : ℤ) → IsReached p → MayConfirm p side instant → AreConnected (confirmed_in p side instant) side
confirms_on p side instant r m =
    let it = confirms p side instant r m in
    let u = m.unconfirmed in
    let x = it.sockets in
    connected_in (confirmed_in p side instant) side it.leads
    (record {
      own = x.still.state ∙ u.opened;
      theirs = x.state;
      una = x.still.una ∙ (u.una ∙ sym x.next);
      peer_side_una = x.una ∙ (sym u.took ∙ sym x.still.next);
    })
