use Rattle.std.proofs.Common.{◌≡◌, ℕ, map, ap, ◌∙◌}
use Rattle.interface.specs.Backlog.Calls.{given_back}
use Rattle.interface.specs.declared.listener.Listener.{Listener}
use Rattle.c_calls.specs.Backlogs.{handle}
use Rattle.c_calls.specs.Numbers.{slot_of}
use Rattle.c_calls.proofs.backlogs.give_back.Goals as goal

pub returns : goal.returns
returns c =
    let at : c.at.result ≡ handle (slot_of c.args.socket) = ap (λ (n : ℕ). handle n) (c.at.ensures ∙ c.slot_of.ensures) in (
      ap (λ (l : Listener). l.endpoint) c.give_back.ensures.rest,
      c.give_back.ensures.back ∙ ap (λ h. map (given_back h) c.args.listener.now.entries.items) at,
      ap (λ (l : Listener). l.keepers.items) c.give_back.ensures.rest,
    )
