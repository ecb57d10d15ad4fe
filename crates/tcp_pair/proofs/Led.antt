-- What events of rounds lead to: a pair that events led to before, and in which nothing more was written.
use Rattle.std.proofs.Common.{◌≡◌, List, [], ◌∷◌, ◌++◌, None, Result, Ok, Err, IfOk, OnErr, OnOk, refl, sym, ap, ap₂, ◌∙◌, subst}
use Rattle.std.specs.List.{AllByRecursion}
use Rattle.tcp_refinement.specs.Tie.{Past}
use Rattle.tcp_refinement.specs.declared.pair.event.Side.{Side}
use Rattle.tcp_refinement.specs.declared.pair.event.Side.TheVariants.{A, B}
use Rattle.tcp_refinement.specs.declared.pair.event.PairEvent.{PairEvent}
use Rattle.tcp_refinement.specs.declared.pair.event.PairEvent.TheVariants.{Listen, Connect, Send, Recv, Close, Abort, TcpSetting, Clock, Offer, Deliver}
use Rattle.tcp_refinement.specs.declared.pair.event.PairAnswer.{PairAnswer}
use Rattle.tcp_refinement.specs.declared.pair.event.PairAnswer.TheVariants.{Done, Count, Bytes, Error}
use Rattle.tcp_refinement.specs.Pair.History.{pasts, recv_adds}
use Rattle.tcp_refinement.specs.Pair.Safe.{written}
use Rattle.tcp_refinement.specs.Pair.Sides.{at, put, other}
use Rattle.tcp_refinement.specs.Pair.Steps.{Happened, Steps, acting, happens, refusal}
use Rattle.tcp_block.specs.Value.{TcpValue}
use Rattle.tcp_refinement.specs.Pair.Values.{PairValue, host_of, new_pair}
use Rattle.tcp_refinement.proofs.OutcomeLaws.{proceeds}
use Rattle.tcp_liveness.specs.Reached.{IsReached}
use Rattle.tcp_liveness.specs.Rounds.{takes}
use Rattle.tcp_liveness.proofs.Kept.{reached_by}
use Rattle.tcp_liveness.proofs.MetStarts.{held}
use Rattle.tcp_pair.specs.Settling.{ProceedsTo, IsNewSocket, IsOfRound}
use Rattle.tcp_pair.specs.States.{PairState, hosted}

-- EVENTS OF ROUNDS

pub on_err : {X E : Type 0} {P : Type 0} (r : Result X E) → P → OnErr r P
on_err (Ok x) p = tt
on_err (Err e) p = p

pub stays : (p : PairValue) → ProceedsTo p p
stays p = record { events = []; only = tt; steps = refl }

pub one_more : (p new : PairValue) (event : PairEvent) → IsOfRound event → refusal p event ≡ None → new ≡ takes p event → ProceedsTo p new
one_more p new event of allowed is = record { events = event ∷ []; only = (of, tt); steps = (allowed, is) }

both : (P : PairEvent → Type 0) (xs ys : List PairEvent) → AllByRecursion P xs → AllByRecursion P ys → AllByRecursion P (xs ++ ys)
both P [] ys all more = more
both P (x ∷ xs) ys all more = (all.0, both P xs ys all.1 more)

pub onward : (p q r : PairValue) → ProceedsTo p q → ProceedsTo q r → ProceedsTo p r
onward p q r a b = record {
  events = a.events ++ b.events;
  only = both IsOfRound a.events b.events a.only b.only;
  steps = proceeds p q r a.events b.events a.steps b.steps;
}

pub as_before : (p q r : PairValue) → ProceedsTo p q → r ≡ q → ProceedsTo p r
as_before p q r a same = subst (λ (x : PairValue). ProceedsTo p x) (sym same) a

-- THEY LEAD ON

pub led : (p q : PairValue) → ProceedsTo p q → IsReached p → IsReached q
led p q a r = reached_by p q a.events r a.steps

-- NOTHING IS WRITTEN

reading : (answer : PairAnswer) (p : Past) → (recv_adds answer p).written ≡ p.written
reading Done p = refl
reading (Count n) p = refl
reading (Bytes bytes) p = refl
reading (Error fault) p = refl

read_by : (side : Side) (p : PairValue) (answer : PairAnswer) (s : Side) →
    (at (put (pasts p.history) s (recv_adds answer (at (pasts p.history) s))) side).written ≡ (at (pasts p.history) side).written
read_by A p answer A = reading answer (at (pasts p.history) A)
read_by B p answer A = refl
read_by A p answer B = refl
read_by B p answer B = reading answer (at (pasts p.history) B)

put_same : (side s : Side) (p : PairValue) → (at (put (pasts p.history) s (at (pasts p.history) s)) side).written ≡ (at (pasts p.history) side).written
put_same A A p = refl
put_same B A p = refl
put_same A B p = refl
put_same B B p = refl

once : (p : PairValue) (event : PairEvent) (side : Side) → IsOfRound event → written (happens p event).pair side ≡ written p side
once p (Recv s count) side of = read_by side p (acting p (Recv s count)).answer s
once p (Offer s instant sent) side of = put_same side s p
once p (Deliver from k) side of = put_same side (other from) p
once p (Listen s endpoint) side of = absurd of
once p (Connect s remote local) side of = absurd of
once p (Send s bytes) side of = absurd of
once p (Close s) side of = absurd of
once p (Abort s) side of = absurd of
once p (TcpSetting s setting) side of = absurd of
once p (Clock s instant) side of = absurd of

unwritten : (p q : PairValue) (events : List PairEvent) (side : Side) → AllByRecursion IsOfRound events → Steps p events q → written q side ≡ written p side
unwritten p q [] side only is = ap (λ (x : PairValue). written x side) is
unwritten p q (event ∷ events) side only steps = unwritten (happens p event).pair q events side only.1 steps.1 ∙ once p event side only.0

pub writes_nothing : (p q : PairValue) → ProceedsTo p q → (side : Side) → written q side ≡ written p side
writes_nothing p q a side = unwritten p q a.events side a.only a.steps

-- NEW SOCKETS, AND A STEP

-- a pair that a refusal leaves as it is, with both hosts
pub on_hosted : {X E : Type 0} (r : Result X E) (p new : PairState) → OnErr r (new ≡ p) → OnErr r (hosted new ≡ hosted p)
on_hosted (Ok x) p new same = tt
on_hosted (Err e) p new same = ap hosted same

pub led_by :
    {E : Type 0} (p new : PairValue) (event : PairEvent) (r : Result PairAnswer E) → IsOfRound event → OnOk r (refusal p event ≡ None)
    → IfOk r (λ answer. happens p event ≡ record { answer = answer; pair = new }) → OnErr r (new ≡ p) → ProceedsTo p new
led_by p new event (Ok answer) of allowed step same = one_more p new event of allowed (sym (ap (λ (h : Happened). h.pair) step))
led_by p new event (Err e) of allowed step same = as_before p p new (stays p) same

pub new_reached : (p : PairValue) (a b : TcpValue) → p ≡ new_pair a b → IsNewSocket a → IsNewSocket b → IsReached p
new_reached p a b is first second = record {
  a = record { host = host_of A; holds = held; random = 1; room = first.room; ring = first.ring };
  b = record { host = host_of B; holds = held; random = 2; room = second.room; ring = second.ring };
  events = [];
  steps = is ∙ ap₂ (λ (x y : TcpValue). new_pair x y) first.is second.is;
}

pub step_reached :
    {E : Type 0} (p new : PairValue) (event : PairEvent) (r : Result PairAnswer E) → refusal p event ≡ None
    → IfOk r (λ answer. happens p event ≡ record { answer = answer; pair = new }) → OnErr r (new ≡ p) → IsReached p → IsReached new
step_reached p new event (Ok answer) allowed step same r = reached_by p new (event ∷ []) r (allowed, sym (ap (λ (h : Happened). h.pair) step))
step_reached p new event (Err e) allowed step same r = subst IsReached (sym same) r
