use Rattle.std.proofs.Common.{◌≤◌, [], ◌∷◌, length, sym, ◌∙◌, rules}
use Rattle.base_buffer.proofs.RingSteps.{extended-overwritten}
use Rattle.base_buffer.proofs.ring_buffer.RingBuffer.enqueue_one_with.Goals as goal
use Rattle.base_buffer.proofs.ring_buffer.RingBuffer.enqueue_one_with.Goals.{then-is_ok, else-is_ok}
use Rattle.std.specs.Fn.{FnOnceReturnsAtMut}
use Rattle.std.proofs.Common.{of_calls}
use Rattle.base_buffer.proofs.Answered.{MatchResult-ok, MatchResult-err}
use Rattle.base_buffer.proofs.RingSteps.{some_free}

pub returns-clause-called : goal.returns-clause-called
returns-clause-called g c =
    let met : FnOnceReturnsAtMut g.F.FnOnce c.args.f c.next_mut.result.now c.f-answer.result c.f-answer.new.arg2 = search (rules, of_calls) in
    let some : 1 ≤ length c.args.self.now.free = some_free c.args.self.now.free c.next_mut.result.now c.next_mut.ensures.value in (
      c.next_mut.result.now,
      c.f-answer.new.arg2,
      c.next_mut.ensures.value,
      met,
      elim c.if-is_ok.branch [
        | then-is_ok w ↦ MatchResult-ok _ _ _ (sym c.is_ok.ensures.value ∙ w.if-is_ok.true) (w.self-is ∙ w.enqueue_unallocated.ensures ∙
            extended-overwritten c.args.self.now (c.f-answer.new.arg2 ∷ []) some)
        | else-is_ok w ↦ MatchResult-err _ _ _ (sym c.is_ok.ensures.value ∙ w.if-is_ok.false) w.self-is
      ],
    )
