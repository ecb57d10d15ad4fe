use Rattle.std.proofs.Common.{◌≡◌, List, ℕ, sym, subst}
use Rattle.sim_link.specs.Lines.{SaysLine}
use Rattle.sim_link.proofs.PrintedLemmas.{says_line}
use Rattle.sim_link.proofs.line_laws.a_printed_line_is_read_back.Goals as goal

pub returns : goal.returns
returns c line has printed = c.read.ensures.only line (subst (λ (text : List ℕ). SaysLine text line) (sym printed) (says_line line has))
