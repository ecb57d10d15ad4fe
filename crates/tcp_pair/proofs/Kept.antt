-- What a pair's fields keep, from one event to the next.
use Rattle.std.proofs.Common.{◌≡◌, List, [], ◌∷◌, ◌++◌, None, refl, sym, ◌∙◌, ap, subst, arith, length-append}
use Rattle.tcp_block.specs.State.{State}
use Rattle.tcp_block.specs.Value.{TcpValue}
use Rattle.tcp_refinement.specs.Promises.{IsInitial}
use Rattle.tcp_refinement.specs.Tie.{Past}
use Rattle.tcp_refinement.specs.declared.pair.event.Side.{Side}
use Rattle.tcp_refinement.specs.declared.pair.event.Side.TheVariants.{A, B}
use Rattle.tcp_refinement.specs.declared.pair.event.PairEvent.{PairEvent}
use Rattle.tcp_refinement.specs.declared.pair.event.PairAnswer.{PairAnswer}
use Rattle.tcp_refinement.specs.Pair.History.{Entry, side_of, pasts, adds}
use Rattle.tcp_refinement.specs.Pair.Safe.{IsKept}
use Rattle.tcp_refinement.specs.Pair.Sides.{Both, at, put, other}
use Rattle.tcp_refinement.specs.Pair.Steps.{Acted, Happened, acts, acting, refusal, happens}
use Rattle.tcp_refinement.specs.Pair.Values.{HostContext, PairSide, PairValue, host_of, new_pair}
use Rattle.tcp_refinement.proofs.PairLaws.{new_is_kept, kept_after}
use Rattle.tcp_refinement.proofs.SideHosts.{act_host}
use Rattle.tcp_pair.specs.Ends.{EndValue, initial_end, on_host, after_event, acted_at, ends_after}
use Rattle.tcp_pair.specs.Invariant.{Tallies, IsPairOf, pair_of, history_from}
use Rattle.tcp_pair.specs.States.{PairState, bare, hosted, side_on}
use Rattle.tcp_pair.specs.declared.pair.Taken.{Taken}
use Rattle.tcp_pair.proofs.Histories.{history_from-push}
use Rattle.tcp_pair.proofs.Tallied.{acts_few, tallies_on}

-- EITHER SIDE

-- both on their hosts
abbrev owned : Both EndValue → Both PairSide
owned ends = record { a = side_on A ends.a.own; b = side_on B ends.b.own }

acting_by : (ends : Both EndValue) (event : PairEvent) (side : Side) → (at ends side).side ≡ side →
    acts (at (owned ends) side) (at (owned ends) (other side)).sent event ≡ acts (on_host (at ends side)) (at ends (other side)).own.sent event
acting_by ends event A is = ap (λ (s : Side). acts (side_on s ends.a.own) ends.b.own.sent event) (sym is)
acting_by ends event B is = ap (λ (s : Side). acts (side_on s ends.b.own) ends.a.own.sent event) (sym is)

found_by : (ends : Both EndValue) (side : Side) → (at (owned ends) side).socket.tcb.state ≡ (at ends side).own.socket.tcb.state
found_by ends A = refl
found_by ends B = refl

-- on the same host as before
back_on : (side : Side) (x : PairSide) → x.host ≡ host_of side → side_on side (bare x) ≡ x
back_on side x is = ap (λ (host : HostContext). record x { host = host }) (sym is)

owned_put : (ends : Both EndValue) (side : Side) (e : EndValue) (x : PairSide) → e.own ≡ bare x → x.host ≡ host_of side →
    owned (put ends side e) ≡ put (owned ends) side x
owned_put ends A e x own is = ap (λ (s : PairSide). record (owned ends) { a = s }) (ap (side_on A) own ∙ back_on A x is)
owned_put ends B e x own is = ap (λ (s : PairSide). record (owned ends) { b = s }) (ap (side_on B) own ∙ back_on B x is)

sides_put : (ends : Both EndValue) (side : Side) (e : EndValue) → e.side ≡ side → ((s : Side) → (at ends s).side ≡ s) → (s : Side) →
    (at (put ends side e) s).side ≡ s
sides_put ends A e is all A = is
sides_put ends A e is all B = all B
sides_put ends B e is all A = all A
sides_put ends B e is all B = is

tallies_put :
    (ends : Both EndValue) (ps : Both Past) (side : Side) (e : EndValue) (p : Past) → Tallies e p → ((s : Side) → Tallies (at ends s) (at ps s))
    → (s : Side) → Tallies (at (put ends side e) s) (at (put ps side p) s)
tallies_put ends ps A e p is all A = is
tallies_put ends ps A e p is all B = all B
tallies_put ends ps B e p is all A = all A
tallies_put ends ps B e p is all B = is

-- AT FIRST

new_kept : (a b : TcpValue) → IsInitial a → IsInitial b → IsPairOf (record { a = initial_end A a; b = initial_end B b }) [] []
new_kept a b f g = record { as_many = refl; sides = sides; tallies = tallies; kept = new_is_kept (host_of A) (host_of B) 1 2 a b f g } where
  ends : Both EndValue
  ends = record { a = initial_end A a; b = initial_end B b }

  sides : (side : Side) → (at ends side).side ≡ side
  sides A = refl
  sides B = refl

  tallies : (side : Side) → Tallies (at ends side) (at (pasts []) side)
  tallies A = record { opened = refl; accepted = refl }
  tallies B = record { opened = refl; accepted = refl }

pub new_shown :
    (a b : TcpValue) (e f : EndValue) (taken : List Taken) (answers : List PairAnswer) → e ≡ initial_end A a → f ≡ initial_end B b → taken ≡ [] → answers ≡ [] →
    IsInitial a → IsInitial b
    → IsPairOf (record { a = e; b = f }) taken answers
new_shown a b e f taken answers first second none nothing initial initial_too = rw (first, second, none, nothing) (new_kept a b initial initial_too)

pub new_is :
    (a b : TcpValue) (e f : EndValue) (taken : List Taken) (answers : List PairAnswer) → e ≡ initial_end A a → f ≡ initial_end B b → taken ≡ []
    → hosted (pair_of (record { a = e; b = f }) taken answers) ≡ new_pair a b
new_is a b e f taken answers first second none = rw (first, second, none) refl

-- A STEP

module _ (ends : Both EndValue) (taken : List Taken) (answers : List PairAnswer) (event : PairEvent) (k : IsPairOf ends taken answers) where
  abbrev old : PairValue
  old = hosted (pair_of ends taken answers)

  abbrev side : Side
  side = side_of event

  abbrev acted : Acted
  acted = acted_at ends event

  abbrev found : State
  found = (at ends side).own.socket.tcb.state

  abbrev next : Both EndValue
  next = ends_after ends event

  abbrev last : Entry
  last = record { event = event; answer = acted.answer; found = found }

  acted_is : acting old event ≡ acted
  acted_is = acting_by ends event side (k.sides side)

  host_is : acted.side.host ≡ host_of side
  host_is = act_host (on_host (at ends side)) (at ends (other side)).own.sent event ∙ ap host_of (k.sides side)

  history_is : history_from [] (taken ++ record { event = event; found = found } ∷ []) (answers ++ acted.answer ∷ []) ≡ last ∷ history_from [] taken answers
  history_is = history_from-push [] taken answers (record { event = event; found = found }) acted.answer k.as_many

  pub taken_is :
      happens old event ≡ record {
        answer = acted.answer;
        pair =
            hosted (pair_of next (taken ++ record { event = event; found = found } ∷ []) (answers ++ acted.answer ∷ []));
      }
  taken_is =
      let happened : Happened =
      record { answer = acted.answer; pair = record { sides = put (owned ends) side acted.side; history = last ∷ history_from [] taken answers } } in
      let first : happens old event ≡ happened =
      ap (λ (a : Acted). let h : Happened =
      record {
        answer = a.answer;
        pair =
            record {
              sides = put (owned ends) side a.side;
              history =
                  record { event = event; answer = a.answer; found = (at (owned ends) side).socket.tcb.state } ∷ history_from [] taken answers;
            };
      } in h) acted_is
      ∙ ap (λ (s : State). let h : Happened =
      record {
        answer = acted.answer;
        pair =
            record {
              sides = put (owned ends) side acted.side;
              history =
                  record { event = event; answer = acted.answer; found = s } ∷ history_from [] taken answers;
            };
      } in h) (found_by ends side)
      in
      first
      ∙ ap (λ (sides : Both PairSide). let h : Happened =
      record { answer = acted.answer; pair = record { sides = sides; history = last ∷ history_from [] taken answers } } in h)
      (sym (owned_put ends side (after_event (at ends side) (at ends (other side)).own.sent event acted.answer) acted.side refl host_is))
      ∙ ap (λ (history : List Entry). let h : Happened = record { answer = acted.answer; pair = record { sides = owned next; history = history } } in
      h) (sym history_is)

  tallied_is : (s : Side) →
      Tallies (at next s) (at (pasts (history_from [] (taken ++ record { event = event; found = found } ∷ []) (answers ++ acted.answer ∷ []))) s)
  tallied_is s =
      let few = acts_few (on_host (at ends side)) (at ends (other side)).own.sent event in
      let ps = pasts (history_from [] taken answers) in
      let here = tallies_on (at ends side) (at ps side) acted.side (k.tallies side) event acted.answer found few in
      rw history_is (
      tallies_put ends ps side (after_event (at ends side) (at ends (other side)).own.sent event acted.answer) (adds event acted.answer found (at ps side))
      here k.tallies s
      )

  pub step_kept :
      refusal old event ≡ None → IsPairOf next (taken ++ record { event = event; found = found } ∷ []) (answers ++ acted.answer ∷ [])
  step_kept allowed = record {
    as_many = omega (arith, length-append taken (record { event = event; found = found } ∷ []), length-append answers (acted.answer ∷ []), k.as_many);
    sides = sides_put ends side (after_event (at ends side) (at ends (other side)).own.sent event acted.answer) (k.sides side) k.sides;
    tallies = tallied_is;
    kept = subst (λ (h : Happened). IsKept h.pair) taken_is (kept_after old event k.kept allowed);
  }

  -- the fields afterwards, as the calls leave them
  module _ (now : PairState) (is : pair_of ends taken answers ≡ now) (next' : Both EndValue) (taken' : List Taken) (answers' : List PairAnswer) (ends_is : next' ≡
      next) (taken_in : taken' ≡ taken ++ record { event = event; found = found } ∷ []) (answered : answers' ≡ answers ++ acted.answer ∷ []) where
    pub fields_kept : refusal (hosted now) event ≡ None → IsPairOf next' taken' answers'
    fields_kept allowed = rw (ends_is, taken_in, answered) (step_kept (subst (λ (p : PairState). refusal (hosted p) event ≡ None) (sym is) allowed))

    pub step_taken : (answer : PairAnswer) → answer ≡ acted.answer →
        happens (hosted now) event ≡ record { answer = answer; pair = hosted (pair_of next' taken' answers') }
    step_taken answer said =
        rw (
          ends_is,
          taken_in,
          answered,
          said,
        ) (subst (λ (p : PairState). happens (hosted p) event ≡
        record { answer = acted.answer; pair = hosted (pair_of next (taken ++ record { event = event; found = found } ∷ []) (answers ++ acted.answer ∷ [])) })
        is taken_is)
