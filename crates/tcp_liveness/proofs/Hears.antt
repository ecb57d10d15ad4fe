-- What an exchange leaves of the tries of a side: the other took what was new, or answered and was heard, or waits for the side itself.
use Rattle.std.proofs.Common.{◌≡◌, ◌⊎◌, inl, inr, ℕ, zero, suc, ◌+◌, ◌-◌, ◌%◌, ◌^◌, ◌<◌, ◌≤◌, ◌==◌, min, ℤ, Bool, true, false, length, None}
use Rattle.std.proofs.Common.{refl, sym, ap, ◌∙◌, subst, arith}
use Rattle.std.proofs.lemmas.Bool.{eqb-true}
use Rattle.ip_wire.specs.Seq.{distance_of}
use Rattle.ip_wire.specs.SeqNumber.{SeqNumber}
use Rattle.tcp_theory.specs.Invariant.{IsInStep}
use Rattle.tcp_refinement.specs.Context.{ContextValue}
use Rattle.tcp_refinement.specs.Tie.{Past, Keeps}
use Rattle.tcp_block.specs.Answers.{delayed}
use Rattle.tcp_invariants.specs.Acks.{IsAcknowledged, IsOwed}
use Rattle.tcp_invariants.specs.Offsets.{advanced_by}
use Rattle.tcp_invariants.specs.OpenOffer.{OpenOffer}
use Rattle.tcp_invariants.specs.States.{is_closed}
use Rattle.tcp_block.specs.declared.tcb.Tcb.{Tcb}
use Rattle.tcp_block.specs.TcbRules.{snd_max}
use Rattle.tcp_block.specs.Offers.{offer_of}
use Rattle.tcp_block.specs.Settled.{settled}
use Rattle.tcp_refinement.specs.Pair.Sides.{other}
use Rattle.tcp_refinement.specs.Pair.Steps.{refusal}
use Rattle.tcp_block.specs.Value.{TcpValue, free_in}
use Rattle.tcp_refinement.specs.Pair.Values.{PairSide, PairValue, context_at, past_at}
use Rattle.tcp_refinement.specs.declared.pair.event.PairEvent.TheVariants.{Deliver, Offer}
use Rattle.tcp_refinement.specs.declared.pair.event.Side.{Side}
use Rattle.tcp_refinement.specs.declared.pair.event.Side.TheVariants.{A, B}
use Rattle.tcp_liveness.specs.Arrivals.{EndsLastAck, IsNew, new_payload}
use Rattle.tcp_liveness.specs.Arrivals.{is_synchronized}
use Rattle.tcp_liveness.specs.Exchange.{CanHear, FitsBuffer, MayReach, TookWhatWasSent, left_of, data_of}
use Rattle.tcp_liveness.specs.Pair.{AreMirrored, HasStream, MayReachIn, context_of, exchanged_in, left_in, next_sent, offered_in, socket_of}
use Rattle.tcp_liveness.specs.Reached.{IsReached}
use Rattle.tcp_liveness.specs.Rounds.{comes, takes}
use Rattle.tcp_liveness.specs.Sent.{is_early}
use Rattle.tcp_liveness.proofs.Acked.{IsHeard}
use Rattle.tcp_liveness.proofs.Exchange.{IsPassed, WasNew, answered_none, heard_all, heard_none, heard_then, outcome}
use Rattle.tcp_liveness.proofs.Kept.{reached_keeps}
use Rattle.tcp_liveness.proofs.Led.{leads_on}
use Rattle.tcp_liveness.proofs.Mirrored.{connected_mirrored}
use Rattle.tcp_liveness.proofs.Pair.{TookAfter, back, came, in_step, late_in, none_answered, one_answered, peer_side_after, reached_then, reaches, side_after}
use Rattle.tcp_liveness.proofs.Positions.{next_small, placed}
use Rattle.tcp_liveness.proofs.SentPairs.{TookEach, reached_took}
use Rattle.tcp_liveness.proofs.Settles.{some_left}
use Rattle.tcp_liveness.proofs.Turns.{late_on}
use Rattle.tcp_liveness.proofs.Ways.{BothCalm, exchanged, late_after}
use Rattle.tcp_liveness.proofs.WindowPairs.{fits_in}

-- a side all of whose positions are acknowledged sent no more than that
pub none_sent : (p : PairValue) (side : Side) → IsReached p → is_synchronized (socket_of p side).tcb.state ≡ true → left_in p side ≡ 0 →
    (socket_of p side).tcb.sender.snd_max ≡ 0
none_sent p side r mine none =
    let k = reached_keeps p side r in
    least (socket_of p side).tcb.sender.snd_max (left_in p side) (placed (socket_of p side) k.side k.fits k.holds.0.well_formed mine).snd_max none
  where
    least : (snd_max all : ℕ) → snd_max ≤ all → all ≡ 0 → snd_max ≡ 0
    least snd_max all e f = omega arith

-- what comes of one side leaves that side as it is
pub come_own : (n : ℕ) (from : Side) (k : ℕ) (p : PairValue) → socket_of (comes n from k p) from ≡ socket_of p from
come_own zero from k p = refl
come_own (suc n) from k p = come_own n from (suc k) (takes p (Deliver from k)) ∙ one from where
  one : (from : Side) → socket_of (takes p (Deliver from k)) from ≡ socket_of p from
  one A = refl
  one B = refl

nothing_between : (next : ℕ) → next < 2 ^ 32 → ((next + 0) % 2 ^ 32 + (2 ^ 32 - next)) % 2 ^ 32 ≡ 0
nothing_between next small = omega arith

module _ (side : Side) (s r : PairSide) (instant : ℤ) (m : AreMirrored s.socket.tcb r.socket.tcb) (o : OpenOffer)
    (may : MayReach (context_at side (record s { instant = instant })) (context_at (other side) r) s.socket r.socket o) (p q : Past)
    (k : Keeps s.socket p r.socket q) (step : IsInStep k.side k.peer_side) (theirs_sent : TookWhatWasSent s.socket r.socket)
    (fits : FitsBuffer s.socket r.socket) (heard : TookWhatWasSent r.socket s.socket)
    (took : is_synchronized (came side s r instant m o may).socket.tcb.state ≡ true → TookAfter side s r instant m o may)
    (empty : left_of (peer_side_after side s r instant).socket ≡ 0 → (peer_side_after side s r instant).socket.tcb.sender.snd_max ≡ 0) where
  abbrev cx : ContextValue
  cx = context_at side (record s { instant = instant })

  abbrev cy : ContextValue
  cy = context_at (other side) r

  abbrev size : ℕ
  size = length (data_of s.socket o)

  abbrev after : PairSide
  after = peer_side_after side s r instant

  -- what was new was taken, and isn't answered at once
  record Silent : Type 0 where
    none : length after.sent - length r.sent ≡ 0
    by : ℕ
    some : 1 ≤ by
    few : by < 2 ^ 30
    next : after.socket.tcb.receiver.next ≡ advanced_by r.socket.tcb.receiver.next by
    new : IsNew r.socket o.segment size
    all : min (new_payload r.socket o.segment size) (free_in r.socket) ≤ by

  -- the answer came
  record Answers : Type 0 where
    one : length after.sent - length r.sent ≡ 1
    answered : IsHeard (side_after side s r instant).socket.tcb.sender

  abbrev Hears : Type 0
  Hears = Silent ⊎ (Answers ⊎ ((is_closed after.socket.tcb.state ≡ true) ⊎ (1 ≤ left_of after.socket)))

  -- the other has asked for nothing since
  peer_side_heard : IsHeard after.socket.tcb.sender
  peer_side_heard =
      subst (λ (t : PairSide). IsHeard t.socket.tcb.sender) (sym (reaches side s r instant m o may))
      (heard_none cx cy cx s.socket r.socket p q k o step theirs_sent fits heard may)

  silent : WasNew cx cy cx s.socket r.socket p q k o step theirs_sent fits heard may → (came side s r instant m o may).answer ≡ None → Silent
  silent w none = record {
    none = none_answered side s r instant m o may none;
    by = w.taken.rises.by;
    some = w.taken.rises.some;
    few = subst (λ (n : ℕ). n < 2 ^ 30) (sym w.same) w.taken.next.few;
    next = ap (λ (t : PairSide). t.socket.tcb.receiver.next) (reaches side s r instant m o may) ∙ w.taken.rises.next;
    new = w.new;
    all = w.taken.rises.all;
  }

  -- what was new is acknowledged at once: that is heard where the other has sent all that it had
  at_once : WasNew cx cy cx s.socket r.socket p q k o step theirs_sent fits heard may → IsAcknowledged (came side s r instant m o may) → Hears
  at_once w ack = at (left_of after.socket == 0) refl where
    at : (none : Bool) → (left_of after.socket == 0) ≡ none → Hears
    at false e = inr (inr (inr (some_left (left_of after.socket) e)))
    at true e =
        inr
        (inl
        (record {
          one = one_answered side s r instant m o may ack.reply ack.answer;
          answered =
              subst (λ (v : TcpValue). IsHeard v.tcb.sender) (sym (back side s r instant m o may ack.reply ack.answer))
              (heard_then cx cy cx s.socket r.socket p q k o step theirs_sent fits heard may w ack (took w.taken.rises.on)
              (sym (ap (λ (t : PairSide). left_of t.socket) (reaches side s r instant m o may)) ∙ eqb-true (left_of after.socket) 0 e)).answered;
        }))

  of_new : WasNew cx cy cx s.socket r.socket p q k o step theirs_sent fits heard may → Hears
  of_new w = by w.taken.rises.acknowledged where
    by :
        IsAcknowledged (came side s r instant m o may)
        ⊎ IsOwed (came side s r instant m o may) (delayed cy.instant r.socket.tcb.settings.ack_delay) → Hears
    by (inl ack) = at_once w ack
    by (inr owed) = inl (silent w owed.silent)

  -- a side of which nothing is left answers where the other listens
  listens : IsPassed r.socket o.segment size (came side s r instant m o may) → left_of after.socket ≡ 0 → CanHear s.socket r.socket
  listens passed none = inl (inl (ap (λ (n : SeqNumber). distance_of s.socket.tcb.receiver.next n) number ∙ nothing_between s.socket.tcb.receiver.next.0 small)) where
    small : s.socket.tcb.receiver.next.0 < 2 ^ 32
    small = next_small s.socket k.side (placed s.socket k.side k.fits k.holds.0.well_formed may.own.synchronized)

    tcb : after.socket.tcb ≡ (came side s r instant m o may).socket.tcb
    tcb = ap (λ (t : PairSide). t.socket.tcb) (reaches side s r instant m o may)

    number : snd_max r.socket.tcb ≡ advanced_by s.socket.tcb.receiver.next 0
    number =
        sym passed.answer.same
        ∙ (ap snd_max (sym tcb)
        ∙ (ap (λ (n : ℕ). advanced_by after.socket.tcb.sender.una n) (empty none)
        ∙ ap (λ (n : SeqNumber). advanced_by n 0)
        (ap (λ (b : Tcb). b.sender.una) tcb ∙ heard_all cx cy cx s.socket r.socket p q k o step theirs_sent fits heard may)))

  answers : IsPassed r.socket o.segment size (came side s r instant m o may) → Hears
  answers passed = at (left_of after.socket == 0) refl where
    at : (none : Bool) → (left_of after.socket == 0) ≡ none → Hears
    at false e = inr (inr (inr (some_left (left_of after.socket) e)))
    at true e =
        inr
        (inl
        (record {
          one = one_answered side s r instant m o may passed.answer.reply passed.answer.answer;
          answered =
              subst (λ (v : TcpValue). IsHeard v.tcb.sender) (sym (back side s r instant m o may passed.answer.reply passed.answer.answer))
              (answered_none cx cy cx s.socket r.socket p q k o step theirs_sent fits heard may
              (listens passed (eqb-true (left_of after.socket) 0 e)) passed);
        }))

  hears : Hears
  hears = by (outcome cx cy cx s.socket r.socket p q k o step theirs_sent fits heard may) where
    by : WasNew cx cy cx s.socket r.socket p q k o step theirs_sent fits heard may
        ⊎ (IsPassed r.socket o.segment size (came side s r instant m o may) ⊎ EndsLastAck r.socket (came side s r instant m o may))
        → Hears
    by (inl new) = of_new new
    by (inr (inl passed)) = answers passed
    by (inr (inr ends)) =
        inr (inr (inl (ap (λ (t : PairSide). is_closed t.socket.tcb.state) (reaches side s r instant m o may) ∙ ends.closed)))

-- OF A PAIR

-- what was new was taken: the side is as its offer left it
pub record IsSilent (p : PairValue) (side : Side) (instant : ℤ) (o : OpenOffer) : Type 0 where
  pub own : socket_of (exchanged_in p side instant) side ≡ settled true (offer_of (context_of p side instant) (socket_of p side)).socket
  pub by : ℕ
  pub some : 1 ≤ by
  pub few : by < 2 ^ 30
  pub next : (socket_of (exchanged_in p side instant) (other side)).tcb.receiver.next ≡ advanced_by (socket_of p (other side)).tcb.receiver.next by
  pub new : IsNew (socket_of p (other side)) o.segment (length (data_of (socket_of p side) o))
  pub all :
      min (new_payload (socket_of p (other side)) o.segment (length (data_of (socket_of p side) o))) (free_in (socket_of p (other side)))
      ≤ by

-- so it is, or the answer came; or the other's connection is over, or it waits, too
abbrev pub Outcome : PairValue → Side → ℤ → OpenOffer → Type 0
Outcome p side instant o =
    IsSilent p side instant o
    ⊎ (IsHeard (socket_of (exchanged_in p side instant) side).tcb.sender
    ⊎ ((is_closed (socket_of (exchanged_in p side instant) (other side)).tcb.state ≡ true) ⊎ (1 ≤ left_in (exchanged_in p side instant) (other side))))

pub record Heard (p : PairValue) (side : Side) (instant : ℤ) (o : OpenOffer) : Type 0 where
  pub outcome : Outcome p side instant o
  pub theirs : IsHeard (socket_of (exchanged_in p side instant) (other side)).tcb.sender

module _ (p : PairValue) (instant : ℤ) (o : OpenOffer) (r : IsReached p) where
  heard_a : HasStream (past_at p A) → (may : MayReachIn p A instant o) →
      (left_in (exchanged_in p A instant) B ≡ 0 → (socket_of (exchanged_in p A instant) B).tcb.sender.snd_max ≡ 0) → Heard p A instant o
  heard_a stream may empty =
      record {
        outcome = by (hears A p.sides.a p.sides.b instant mirrored o may (past_at p A) (past_at p B) k step each.sent near each.heard took_there empty_there);
        theirs =
            subst (λ (v : TcpValue). IsHeard v.tcb.sender) (sym own)
            (peer_side_heard A p.sides.a p.sides.b instant mirrored o may (past_at p A) (past_at p B) k step each.sent near each.heard took_there empty_there);
      }
    where
      -- so many segments of the other come
      after : ℕ → PairValue
      after n = comes n B (next_sent p B) (offered_in p A instant)

      own : socket_of (exchanged_in p A instant) B ≡ (peer_side_after A p.sides.a p.sides.b instant).socket
      own = come_own (next_sent (offered_in p A instant) B - next_sent p B) B (next_sent p B) (offered_in p A instant)

      empty_there : left_of (peer_side_after A p.sides.a p.sides.b instant).socket ≡ 0 → (peer_side_after A p.sides.a p.sides.b instant).socket.tcb.sender.snd_max ≡ 0
      empty_there = subst (λ (v : TcpValue). left_of v ≡ 0 → v.tcb.sender.snd_max ≡ 0) own empty

      k : Keeps p.sides.a.socket (past_at p A) p.sides.b.socket (past_at p B)
      k = reached_keeps p A r

      each : TookEach p A
      each = reached_took p A r may.own may.theirs

      near : FitsBuffer p.sides.a.socket p.sides.b.socket
      near = fits_in p A r may.own may.theirs may.room

      mirrored : AreMirrored p.sides.a.socket.tcb p.sides.b.socket.tcb
      mirrored = connected_mirrored p A r may.own.synchronized may.theirs.synchronized

      took_there : is_synchronized (came A p.sides.a p.sides.b instant mirrored o may).socket.tcb.state ≡ true →
          TookAfter A p.sides.a p.sides.b instant mirrored o may
      took_there = reached_then p A instant o r may

      step : IsInStep k.side k.peer_side
      step = in_step p.sides.a.socket p.sides.b.socket (past_at p A) (past_at p B) k may.own.synchronized stream

      by : Hears A p.sides.a p.sides.b instant mirrored o may (past_at p A) (past_at p B) k step each.sent near each.heard took_there empty_there →
          Outcome p A instant o
      by (inl x) =
          inl
          (record {
            own = ap (λ (n : ℕ). socket_of (after n) A) x.none;
            by = x.by;
            some = x.some;
            few = x.few;
            next = ap (λ (v : TcpValue). v.tcb.receiver.next) own ∙ x.next;
            new = x.new;
            all = x.all;
          })
      by (inr (inl x)) = inr (inl (subst (λ (n : ℕ). IsHeard (socket_of (after n) A).tcb.sender) (sym x.one) x.answered))
      by (inr (inr (inl over))) = inr (inr (inl (ap (λ (v : TcpValue). is_closed v.tcb.state) own ∙ over)))
      by (inr (inr (inr some))) = inr (inr (inr (subst (λ (v : TcpValue). 1 ≤ left_of v) (sym own) some)))

  heard_b : HasStream (past_at p B) → (may : MayReachIn p B instant o) →
      (left_in (exchanged_in p B instant) A ≡ 0 → (socket_of (exchanged_in p B instant) A).tcb.sender.snd_max ≡ 0) → Heard p B instant o
  heard_b stream may empty =
      record {
        outcome = by (hears B p.sides.b p.sides.a instant mirrored o may (past_at p B) (past_at p A) k step each.sent near each.heard took_there empty_there);
        theirs =
            subst (λ (v : TcpValue). IsHeard v.tcb.sender) (sym own)
            (peer_side_heard B p.sides.b p.sides.a instant mirrored o may (past_at p B) (past_at p A) k step each.sent near each.heard took_there empty_there);
      }
    where
      after : ℕ → PairValue
      after n = comes n A (next_sent p A) (offered_in p B instant)

      own : socket_of (exchanged_in p B instant) A ≡ (peer_side_after B p.sides.b p.sides.a instant).socket
      own = come_own (next_sent (offered_in p B instant) A - next_sent p A) A (next_sent p A) (offered_in p B instant)

      empty_there : left_of (peer_side_after B p.sides.b p.sides.a instant).socket ≡ 0 → (peer_side_after B p.sides.b p.sides.a instant).socket.tcb.sender.snd_max ≡ 0
      empty_there = subst (λ (v : TcpValue). left_of v ≡ 0 → v.tcb.sender.snd_max ≡ 0) own empty

      k : Keeps p.sides.b.socket (past_at p B) p.sides.a.socket (past_at p A)
      k = reached_keeps p B r

      each : TookEach p B
      each = reached_took p B r may.own may.theirs

      near : FitsBuffer p.sides.b.socket p.sides.a.socket
      near = fits_in p B r may.own may.theirs may.room

      mirrored : AreMirrored p.sides.b.socket.tcb p.sides.a.socket.tcb
      mirrored = connected_mirrored p B r may.own.synchronized may.theirs.synchronized

      took_there : is_synchronized (came B p.sides.b p.sides.a instant mirrored o may).socket.tcb.state ≡ true →
          TookAfter B p.sides.b p.sides.a instant mirrored o may
      took_there = reached_then p B instant o r may

      step : IsInStep k.side k.peer_side
      step = in_step p.sides.b.socket p.sides.a.socket (past_at p B) (past_at p A) k may.own.synchronized stream

      by : Hears B p.sides.b p.sides.a instant mirrored o may (past_at p B) (past_at p A) k step each.sent near each.heard took_there empty_there →
          Outcome p B instant o
      by (inl x) =
          inl
          (record {
            own = ap (λ (n : ℕ). socket_of (after n) B) x.none;
            by = x.by;
            some = x.some;
            few = x.few;
            next = ap (λ (v : TcpValue). v.tcb.receiver.next) own ∙ x.next;
            new = x.new;
            all = x.all;
          })
      by (inr (inl x)) = inr (inl (subst (λ (n : ℕ). IsHeard (socket_of (after n) B).tcb.sender) (sym x.one) x.answered))
      by (inr (inr (inl over))) = inr (inr (inl (ap (λ (v : TcpValue). is_closed v.tcb.state) own ∙ over)))
      by (inr (inr (inr some))) = inr (inr (inr (subst (λ (v : TcpValue). 1 ≤ left_of v) (sym own) some)))

-- a side that is over, or is there
pub exchange_heard :
    (p : PairValue) (side : Side) (instant : ℤ) (o : OpenOffer) → IsReached p → HasStream (past_at p side) → MayReachIn p side instant o
    → refusal p (Offer side instant true) ≡ None → is_closed (socket_of (exchanged_in p side instant) (other side)).tcb.state ≡ false → Heard p side instant o
exchange_heard p side instant o r stream may asked alive = by side stream may empty where
  late : (is_early p.sides.a.socket.tcb.state ≡ false) × (is_early p.sides.b.socket.tcb.state ≡ false)
  late = at side (late_in (socket_of p side).tcb.state may.own.synchronized) (late_in (socket_of p (other side)).tcb.state may.theirs.synchronized)
    where
      at : (side : Side) → is_early (socket_of p side).tcb.state ≡ false → is_early (socket_of p (other side)).tcb.state ≡ false →
          (is_early p.sides.a.socket.tcb.state ≡ false) × (is_early p.sides.b.socket.tcb.state ≡ false)
      at A mine theirs = (mine, theirs)
      at B mine theirs = (theirs, mine)

  calm : BothCalm p (exchanged_in p side instant)
  calm = exchanged p side instant late

  late_there : is_early (socket_of (exchanged_in p side instant) (other side)).tcb.state ≡ false
  late_there = others side (exchanged_in p side instant) (late_after p (exchanged_in p side instant) calm late) where
    others : (side : Side) (q : PairValue) → (is_early q.sides.a.socket.tcb.state ≡ false) × (is_early q.sides.b.socket.tcb.state ≡ false) →
        is_early (socket_of q (other side)).tcb.state ≡ false
    others A q each = each.1
    others B q each = each.0

  empty : left_in (exchanged_in p side instant) (other side) ≡ 0 → (socket_of (exchanged_in p side instant) (other side)).tcb.sender.snd_max ≡ 0
  empty =
      none_sent (exchanged_in p side instant) (other side) (leads_on p side instant o r stream may asked)
      (late_on (socket_of (exchanged_in p side instant) (other side)).tcb.state late_there alive)

  by : (side : Side) → HasStream (past_at p side) → MayReachIn p side instant o →
      (left_in (exchanged_in p side instant) (other side) ≡ 0 → (socket_of (exchanged_in p side instant) (other side)).tcb.sender.snd_max ≡ 0) →
      Heard p side instant o
  by A flows reaches none = heard_a p instant o r flows reaches none
  by B flows reaches none = heard_b p instant o r flows reaches none
