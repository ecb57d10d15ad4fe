use Rattle.wire_address.proofs.Texts.{IsCutAtLast-parts, IsCutAtLast-only}
use Rattle.wire_address.proofs.text.cut_last.Goals as goal

pub returns-clause-found : goal.returns-clause-found
returns-clause-found c = IsCutAtLast-parts c.args.separator c.args.text.now c.rsplit_once.result c.rsplit_once.ensures.cases c.requires

pub returns-clause-only : goal.returns-clause-only
returns-clause-only c = λ front back cut.
    IsCutAtLast-only c.args.separator c.args.text.now front back c.rsplit_once.result c.rsplit_once.ensures.cases c.requires cut
