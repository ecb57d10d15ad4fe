-- What std's reader of numbers says of digits.
use Rattle.std.proofs.Common.{sym, ◌∙◌}
use Rattle.sim_link.proofs.WordLemmas.{micros_of_parsed}
use Rattle.sim_link.proofs.words.instant.Goals as goal

pub returns-in_err-micros : goal.returns-in_err-micros
returns-in_err-micros c =
    c.from_residual.ensures ∙ sym c.in_err-micros.was
    ∙ c.ok.ensures.value ∙ micros_of_parsed c.args.word.now _ c.parse.ensures.value.0 (sym c.is_digits.ensures ∙ c.if-is_digits.true)
