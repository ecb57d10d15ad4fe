use Rattle.std.proofs.Common.{◌≡◌, List, [], ◌∷◌, ◌++◌, ◌∙◌, ap}
use Rattle.tcp_block.specs.State.{State}
use Rattle.tcp_block.specs.Value.{TcpValue}
use Rattle.tcp_refinement.specs.declared.pair.event.PairAnswer.{PairAnswer}
use Rattle.tcp_refinement.specs.declared.pair.event.Side.{Side}
use Rattle.tcp_refinement.specs.declared.pair.event.Side.TheVariants.{A, B}
use Rattle.tcp_refinement.specs.Pair.History.{side_of}
use Rattle.tcp_refinement.specs.Pair.Sides.{Both, at}
use Rattle.tcp_pair.specs.Ends.{EndValue, acted_at}
use Rattle.tcp_pair.specs.declared.pair.Taken.{Taken}
use Rattle.tcp_pair.proofs.Kept.{fields_kept, step_taken}
use Rattle.tcp_pair.proofs.pair.Pair.take.Goals as goal
use Rattle.tcp_pair.proofs.pair.Pair.take.Goals.{After-push_reserved-2}

pub act-requires-clause-a : goal.act-requires-clause-a
act-requires-clause-a c = c.self.invariant.sides A

pub act-requires-clause-b : goal.act-requires-clause-b
act-requires-clause-b c = c.self.invariant.sides B

module _ (c : After-push_reserved-2) where
  abbrev ends : Both EndValue
  ends = record { a = c.self.inside.a; b = c.self.inside.b }

  abbrev found : State
  found = (at ends (side_of c.args.event)).own.socket.tcb.state

  found_is : c.state-found.result ≡ found
  found_is =
      c.state-found.ensures
      ∙ ap (λ (v : TcpValue). v.tcb.state) (c.socket.ensures ∙
      ap (λ (e : EndValue). e.own.socket) (c.end_at.ensures ∙ ap (λ (s : Side). at ends s) c.side_of.ensures))

  taken_is : c.push_reserved.new.self.items ≡ c.self.inside.taken.items ++ record { event = c.args.event; found = found } ∷ []
  taken_is =
      c.push_reserved.ensures.items
      ∙ ap (λ (taken : List Taken). taken ++ record { event = c.args.event; found = c.state-found.result } ∷ []) c.in_ok-try_reserve.ensures.items
      ∙ ap (λ (s : State). c.self.inside.taken.items ++ record { event = c.args.event; found = s } ∷ []) found_is

  answers_is : c.push_reserved-2.new.self.items ≡ c.self.inside.answers.items ++ (acted_at ends c.args.event).answer ∷ []
  answers_is =
      c.push_reserved-2.ensures.items
      ∙ ap (λ (answers : List PairAnswer). answers ++ c.in_ok-answer.twin ∷ []) c.in_ok-try_reserve-2.ensures.items
      ∙ ap (λ (answer : PairAnswer). c.self.inside.answers.items ++ answer ∷ []) (c.in_ok-answer.ensures.twin ∙ c.in_ok-answer.ensures.answer)

pub invariant_of-self-2 : goal.invariant_of-self-2
invariant_of-self-2 c =
    fields_kept (ends c) c.self.inside.taken.items c.self.inside.answers.items c.args.event c.self.invariant c.args.self.now c.self.view_is
    (record { a = c.act.new.a; b = c.act.new.b }) c.push_reserved.new.self.items c.push_reserved-2.new.self.items c.in_ok-answer.ensures.after (taken_is c)
    (answers_is c)
    c.requires

pub returns-clause-kept : goal.returns-clause-kept
returns-clause-kept c = (invariant_of-self-2 c).kept

pub returns-clause-step : goal.returns-clause-step
returns-clause-step c =
    step_taken (ends c) c.self.inside.taken.items c.self.inside.answers.items c.args.event c.self.invariant c.args.self.now c.self.view_is
    (record { a = c.act.new.a; b = c.act.new.b }) c.push_reserved.new.self.items c.push_reserved-2.new.self.items c.in_ok-answer.ensures.after (taken_is c)
    (answers_is c)
    c.in_ok-answer.answer c.in_ok-answer.ensures.answer
