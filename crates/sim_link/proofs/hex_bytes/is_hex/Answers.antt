use Rattle.std.proofs.Common.{◌∙◌}
use Rattle.sim_link.proofs.WordLemmas.{list_all-hex}
use Rattle.sim_link.proofs.hex_bytes.is_hex.Goals as goal

pub returns-then-word-eq0 : goal.returns-then-word-eq0
returns-then-word-eq0 c = c.all_hex_digits.ensures ∙ list_all-hex c.args.word.now c.if-word-eq0.true
