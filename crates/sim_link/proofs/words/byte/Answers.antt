-- What std's reader of numbers says of digits.
use Rattle.std.proofs.Common.{sym, ◌∙◌}
use Rattle.sim_link.proofs.WordLemmas.{number_of_parsed}
use Rattle.sim_link.proofs.words.byte.Goals as goal

pub returns-then-is_digits : goal.returns-then-is_digits
returns-then-is_digits c =
    c.ok.ensures.value ∙ number_of_parsed 8 c.args.word.now _ c.parse.ensures.value.0 (sym c.is_digits.ensures ∙ c.if-is_digits.true)
