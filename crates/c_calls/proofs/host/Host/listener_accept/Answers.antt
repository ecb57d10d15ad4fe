use Rattle.std.proofs.Common.{◌≡◌, Result, Ok, sym, ap, ◌∙◌}
use Rattle.c_calls.specs.Backlogs.{numbered}
use Rattle.c_calls.specs.Host.{StackValue}
use Rattle.c_calls.specs.Numbers.{number_of}
use Rattle.c_calls.proofs.host.Host.listener_accept.Goals as goal

pub returns-in-Ok : goal.returns-in-Ok
returns-in-Ok c = (
  c.accepted_slot.result,
  c.accepted_slot.ensures,
  ap (λ x. Ok x) (c.number_at.ensures ∙ ap (λ (s : StackValue). number_of s.slots.tags c.in-Ok.slot) c.accepted_slot.ensures.2)
      ∙ sym (ap (numbered c.args.self.now.slots) c.in-Ok.is),
)

pub returns-in-Err : goal.returns-in-Err
returns-in-Err c = (c.accepted_slot.result, c.accepted_slot.ensures, sym (ap (numbered c.args.self.now.slots) c.in-Err.is))
