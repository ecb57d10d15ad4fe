-- A turn of a side, as events: which are refused, and how many segments answer.
use Rattle.std.proofs.Common.{◌≡◌, inl, inr, ℕ, ◌+◌, ◌-◌, ◌<◌, ◌≤◌, ℤ, Bool, true, false, if◌then◌else◌, List, [], ◌∷◌, length}
use Rattle.std.proofs.Common.{Option, Some, None, Result, Ok, Err, IfErr, OnOk, slice_get, sym, ap, ◌∙◌, subst, arith, length-append}
use Rattle.std.proofs.lemmas.Bool.{cond_both}
use Rattle.std.proofs.lemmas.Option.{slice_get_within}
use Rattle.tcp_block.specs.OpenOffer.{OpenOffer}
use Rattle.tcp_block.specs.Reply.{Reply}
use Rattle.tcp_block.specs.Arrival.{arrives}
use Rattle.tcp_block.specs.Names.{accepts}
use Rattle.tcp_refinement.specs.Pair.Sides.{at, other}
use Rattle.tcp_refinement.specs.Pair.Steps.{handed, if_so, refusal, taken_at}
use Rattle.tcp_block.specs.Value.{TcpValue}
use Rattle.tcp_refinement.specs.Pair.Values.{PairSide, PairValue, and_reply, context_at}
use Rattle.tcp_refinement.specs.declared.pair.event.PairEvent.{PairEvent}
use Rattle.tcp_refinement.specs.declared.pair.event.PairEvent.TheVariants.{Deliver, Offer, Recv}
use Rattle.tcp_refinement.specs.declared.pair.event.PairRefused.{PairRefused}
use Rattle.tcp_refinement.specs.declared.pair.event.PairRefused.TheVariants.{Memory, Moment, NoSegment}
use Rattle.tcp_refinement.specs.declared.pair.event.SentSegment.{SentSegment}
use Rattle.tcp_refinement.specs.declared.pair.event.Side.{Side}
use Rattle.tcp_refinement.specs.declared.pair.event.Side.TheVariants.{A, B}
use Rattle.tcp_liveness.specs.BothWays.{MayAsk, MayTurn, round_in, roused_in, turn_in, waits_in, wake_in, woken_in}
use Rattle.tcp_liveness.specs.Pair.{AreMirrored, MayReachIn, exchanged_in, next_sent, offered_in}
use Rattle.tcp_liveness.specs.Reached.{IsReached}
use Rattle.tcp_liveness.specs.Rounds.{comes as comes_in, takes}
use Rattle.tcp_liveness.specs.Settle.{read_in, restart_by, restart_in}
use Rattle.tcp_liveness.proofs.Led.{within}
use Rattle.tcp_liveness.proofs.Mirrored.{connected_mirrored}
use Rattle.tcp_liveness.proofs.Pair.{asked_side, first, sent}
use Rattle.tcp_liveness.proofs.Roused.{roused_reached}
use Rattle.tcp_pair.specs.Invariant.{MayRefuse}
use Rattle.tcp_pair.specs.Settling.{ProceedsTo, IsOfRound, MaySendAt, StopsRound, answered_by}
use Rattle.tcp_pair.proofs.Led.{led}

-- WHICH EVENTS ARE REFUSED

some_reason : (test : Bool) (why r : PairRefused) → StopsRound why → if_so test why ≡ Some r → StopsRound r
some_reason true why r s e = subst StopsRound (same why r e) s where
  same : (a b : PairRefused) → Some a ≡ Some b → a ≡ b
  same a b e = cc
some_reason false why r s e = absurd (cc)

reason : (p : PairValue) (event : PairEvent) (r : PairRefused) → IsOfRound event → refusal p event ≡ Some r → StopsRound r
reason p (Recv side count) r of e = absurd (cc)
reason p (Offer side instant sends) r of e = some_reason _ Moment r tt e
reason p (Deliver from k) r of e = some_reason _ NoSegment r tt e
reason p other r of e = absurd of

-- an event of a round that is refused stops it
pub stops : (p : PairValue) (event : PairEvent) (r : PairRefused) → IsOfRound event → MayRefuse p event r → StopsRound r
stops p event r of (inl named) = reason p event r of named
stops p event r of (inr memory) = subst StopsRound (sym memory.1) tt

-- one that isn't refused by itself is for lack of memory alone
pub for_memory : (p : PairValue) (event : PairEvent) (r : PairRefused) → MayRefuse p event r → refusal p event ≡ None → r ≡ Memory
for_memory p event r (inl named) none = absurd (cc)
for_memory p event r (inr memory) none = memory.1

-- a segment that was sent isn't refused
pub was_sent : (p : PairValue) (from : Side) (k : ℕ) → k < next_sent p from → refusal p (Deliver from k) ≡ None
was_sent p from k less = within k (next_sent p from) less

-- HOW MANY ANSWER

one_reply : (xs : List SentSegment) (reply : Option Reply) → length (and_reply xs reply) ≤ length xs + 1
one_reply xs None = omega arith
one_reply xs (Some reply) = omega (arith, length-append xs (record { header = reply.header; segment = reply.segment; bytes = [] } ∷ []))

one_comes : (side : Side) (s : PairSide) (x : Option SentSegment) → length (handed side s x).sent ≤ length s.sent + 1
one_comes side s None = omega arith
one_comes side s (Some x) =
    cond_both (accepts s.socket.tcb x.header x.segment) (taken_at s (arrives (context_at side s) s.socket x.header x.segment x.bytes)) s
    (λ (new : PairSide). length new.sent ≤ length s.sent + 1)
    (λ _. one_reply s.sent (arrives (context_at side s) s.socket x.header x.segment x.bytes).answer) (λ _. same (length s.sent))
  where
    same : (n : ℕ) → n ≤ n + 1
    same n = omega arith

-- of a segment that a side sends at most one
pub one_answers : (p : PairValue) (side : Side) (instant : ℤ) → next_sent (offered_in p side instant) (other side) ≤ next_sent p (other side) + 1
one_answers p A instant = one_comes B p.sides.b (slice_get (takes p (Offer A instant true)).sides.a.sent (next_sent p A))
one_answers p B instant = one_comes A p.sides.a (slice_get (takes p (Offer B instant true)).sides.b.sent (next_sent p B))

-- THE CALLS OF A TURN, by what each calls

-- a side is asked, and what it sends comes
pub sent_by :
    {X E : Type 0} (r : Result X E) (p q new : PairValue) (side : Side) (instant : ℤ) (xs : List SentSegment) → q ≡ takes p (Offer side instant true)
    → xs ≡ (at p.sides side).sent → OnOk r (new ≡ takes q (Deliver side (length xs))) → OnOk r (new ≡ offered_in p side instant)
sent_by (Ok x) p q new side instant xs asked all comes =
    comes
    ∙ (ap (λ (y : PairValue). takes y (Deliver side (length xs))) asked
    ∙ ap (λ (ys : List SentSegment). takes (takes p (Offer side instant true)) (Deliver side (length ys))) all)
sent_by (Err e) p q new side instant xs asked all comes = tt

pub sent_or_memory :
    {X : Type 0} (r : Result X PairRefused) (p q : PairValue) (side : Side) (instant : ℤ) (xs : List SentSegment) → q ≡ takes p (Offer side instant true)
    → xs ≡ (at p.sides side).sent → IfErr r (λ refused. MayRefuse q (Deliver side (length xs)) refused)
    → IfErr r (λ refused. MaySendAt p side instant → refused ≡ Memory)
sent_or_memory (Ok x) p q side instant xs asked all may = tt
sent_or_memory (Err e) p q side instant xs asked all may = λ (m : MaySendAt p side instant).
    for_memory q (Deliver side (length xs)) e may
    (subst (λ (y : PairValue). refusal y (Deliver side (length xs)) ≡ None) (sym asked)
    (subst (λ (ys : List SentSegment). refusal (takes p (Offer side instant true)) (Deliver side (length ys)) ≡ None) (sym all) m.sends))

-- what answers comes
one_following : (n k : ℕ) → n ≤ k + 1 → k < n → 1 ≡ n - k
one_following n k a b = omega arith

pub answered :
    {X E : Type 0} (r : Result X E) (p new : PairValue) (side s t : Side) (k : ℕ) (xs : List SentSegment) → s ≡ other side → xs ≡ (at p.sides s).sent
    → t ≡ other side → next_sent p (other side) ≤ k + 1 → k < length xs → OnOk r (new ≡ takes p (Deliver t k)) → OnOk r (new ≡ answered_by p side k)
answered (Ok x) p new side s t k xs one all second few less comes =
    comes
    ∙ (ap (λ (u : Side). takes p (Deliver u k)) second
    ∙ ap (λ (n : ℕ). comes_from n) (one_following (next_sent p (other side)) k few (subst (λ (n : ℕ). k < n) count less)))
  where
    comes_from : ℕ → PairValue
    comes_from n = comes_in n (other side) k p

    count : length xs ≡ next_sent p (other side)
    count = ap (λ (ys : List SentSegment). length ys) all ∙ ap (λ (u : Side). next_sent p u) one
answered (Err e) p new side s t k xs one all second few less comes = tt

-- of what a side sends at most one
pub one_left :
    (p q : PairValue) (side s : Side) (instant : ℤ) (xs : List SentSegment) → q ≡ offered_in p side instant → s ≡ other side → xs ≡ (at p.sides s).sent
    → next_sent q (other side) ≤ length xs + 1
one_left p q side s instant xs sends first all =
    subst (λ (y : PairValue). next_sent y (other side) ≤ length xs + 1) (sym sends)
    (subst (λ (n : ℕ). next_sent (offered_in p side instant) (other side) ≤ n + 1)
    (sym (ap (λ (ys : List SentSegment). length ys) all ∙ ap (λ (u : Side). next_sent p u) first)) (one_answers p side instant))

pub exchanged :
    {X E : Type 0} (r : Result X E) (p q new : PairValue) (side s : Side) (instant : ℤ) (xs : List SentSegment) → q ≡ offered_in p side instant
    → s ≡ other side → xs ≡ (at p.sides s).sent → OnOk r (new ≡ answered_by q side (length xs)) → OnOk r (new ≡ exchanged_in p side instant)
exchanged (Ok x) p q new side s instant xs sends one all comes =
    comes
    ∙ (ap (λ (y : PairValue). answered_by y side (length xs)) sends
    ∙ ap (λ (n : ℕ). answered_by (offered_in p side instant) side n)
    (ap (λ (ys : List SentSegment). length ys) all ∙ ap (λ (u : Side). next_sent p u) one))
exchanged (Err e) p q new side s instant xs sends one all comes = tt

-- a side is roused
pub roused :
    {X E : Type 0} (r : Result X E) (p q new : PairValue) (side : Side) (t now : ℤ) (timer : Option ℤ) (v : TcpValue) → t ≡ restart_by now timer
    → now ≡ (at p.sides side).instant → timer ≡ v.tcb.timers.retransmit_at → v ≡ (at p.sides side).socket → q ≡ read_in p side
    → OnOk r (new ≡ takes q (Offer side t false)) → OnOk r (new ≡ roused_in p side)
roused (Ok x) p q new side t now timer v a b c d reads asked =
    asked
    ∙ (ap (λ (y : PairValue). takes y (Offer side t false)) reads ∙ ap (λ (m : ℤ). takes (read_in p side) (Offer side m false)) instant)
  where
    instant : t ≡ restart_in p side
    instant =
        a
        ∙ (ap (λ (m : ℤ). restart_by m timer) b
        ∙ ap (λ (m : Option ℤ). restart_by (at p.sides side).instant m) (c ∙ ap (λ (u : TcpValue). u.tcb.timers.retransmit_at) d))
roused (Err e) p q new side t now timer v a b c d reads asked = tt

-- and has its turn
pub turned_by :
    {X E : Type 0} (r : Result X E) (p q new : PairValue) (side : Side) (t : ℤ) → waits_in p side ≡ true → q ≡ roused_in p side → t ≡ wake_in q side
    → OnOk r (new ≡ exchanged_in q side t) → OnOk r (new ≡ turn_in p side)
turned_by (Ok x) p q new side t waits roused wakes goes =
    goes
    ∙ (ap (λ (m : ℤ). exchanged_in q side m) wakes
    ∙ (ap (λ (y : PairValue). exchanged_in y side (wake_in y side)) roused
    ∙ sym (ap (λ (test : Bool). if test then woken_in p side else p) waits)))
turned_by (Err e) p q new side t waits roused wakes goes = tt

-- WHAT MAY BE ASKED

-- the segment of an exchange is sent
pub goes : (p : PairValue) (side : Side) (instant : ℤ) (o : OpenOffer) → IsReached p → MayReachIn p side instant o →
    refusal (takes p (Offer side instant true)) (Deliver side (next_sent p side)) ≡ None
goes p A instant o r may =
    within (next_sent p A) (length (asked_side A p.sides.a p.sides.b instant).sent)
    (slice_get_within (asked_side A p.sides.a p.sides.b instant).sent (next_sent p A) (first A p.sides.a p.sides.b instant mirrored o may)
    (sent A p.sides.a p.sides.b instant mirrored o may))
  where
    mirrored : AreMirrored p.sides.a.socket.tcb p.sides.b.socket.tcb
    mirrored = connected_mirrored p A r may.own.synchronized may.theirs.synchronized
goes p B instant o r may =
    within (next_sent p B) (length (asked_side B p.sides.b p.sides.a instant).sent)
    (slice_get_within (asked_side B p.sides.b p.sides.a instant).sent (next_sent p B) (first B p.sides.b p.sides.a instant mirrored o may)
    (sent B p.sides.b p.sides.a instant mirrored o may))
  where
    mirrored : AreMirrored p.sides.b.socket.tcb p.sides.a.socket.tcb
    mirrored = connected_mirrored p B r may.own.synchronized may.theirs.synchronized

pub may_send : (p : PairValue) (side : Side) → IsReached p → MayAsk p side → MaySendAt (roused_in p side) side (wake_in (roused_in p side) side)
may_send p side r m = record {
  comes = m.wakes;
  sends = goes (roused_in p side) side (wake_in (roused_in p side) side) m.o (roused_reached p side r m.rouses) m.reaches;
}

pub turn_or_memory :
    {X : Type 0} (r : Result X PairRefused) (p q : PairValue) (side : Side) (t : ℤ) → waits_in p side ≡ true → q ≡ roused_in p side → t ≡ wake_in q side
    → IfErr r (λ refused. MaySendAt q side t → refused ≡ Memory) → IfErr r (λ refused. IsReached p → MayTurn p side → refused ≡ Memory)
turn_or_memory (Ok x) p q side t waits roused wakes memory = tt
turn_or_memory (Err e) p q side t waits roused wakes memory = λ (r : IsReached p) (m : MayTurn p side).
    memory
    (subst (λ (n : ℤ). MaySendAt q side n) (sym wakes)
    (subst (λ (y : PairValue). MaySendAt y side (wake_in y side)) (sym roused) (may_send p side r (m waits))))

-- BOTH TURNS

pub rounded :
    {X E : Type 0} (r : Result X E) (p q new : PairValue) → q ≡ turn_in p A → OnOk r (new ≡ turn_in q B) → OnOk r (new ≡ round_in p)
rounded (Ok x) p q new one two = two ∙ ap (λ (y : PairValue). turn_in y B) one
rounded (Err e) p q new one two = tt

pub round_or_memory :
    {X : Type 0} (r : Result X PairRefused) (p q : PairValue) → ProceedsTo p q → q ≡ turn_in p A
    → IfErr r (λ refused. IsReached q → MayTurn q B → refused ≡ Memory)
    → IfErr r (λ refused. IsReached p → MayTurn p A → MayTurn (turn_in p A) B → refused ≡ Memory)
round_or_memory (Ok x) p q leads one memory = tt
round_or_memory (Err e) p q leads one memory = λ (r : IsReached p) (a : MayTurn p A) (b : MayTurn (turn_in p A) B).
    memory (led p q leads r) (subst (λ (y : PairValue). MayTurn y B) (sym one) b)
