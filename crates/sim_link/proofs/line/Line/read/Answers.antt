use Rattle.std.proofs.lemmas.Str.{IsUtf8-from_ascii}
use Rattle.sim_link.specs.Words.{words_of}
use Rattle.sim_link.specs.Lines.{SaysWords}
use Rattle.sim_link.proofs.LineLemmas.{list_all_ascii, IfSome-and}
use Rattle.sim_link.proofs.line.Line.read.Goals as goal

-- ASCII is UTF-8
pub returns-in_default-clause-only : goal.returns-in_default-clause-only
returns-in_default-clause-only c =
    absurd (c.in_default.ensures.cases.0 (IsUtf8-from_ascii c.args.text.now c.if-not-is_ascii.ensures.cases))

pub returns-clause-found : goal.returns-clause-found
returns-clause-found c =
    IfSome-and (SaysWords (words_of 32 c.args.text.now)) c.from_words.result (list_all_ascii c.args.text.now c.if-not-is_ascii.ensures.cases)
    (rw (← c.in-Ok.ensures.cases.0, ← c.new.ensures) c.from_words.ensures.found)

pub returns-clause-only : goal.returns-clause-only
returns-clause-only c line is = c.from_words.ensures.only line (rw (c.new.ensures, c.in-Ok.ensures.cases.0) is.1)
