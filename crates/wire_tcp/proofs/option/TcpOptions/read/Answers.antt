use Rattle.std.proofs.Common.{◌∙◌, refl, sym, length}
use Rattle.std.proofs.lemmas.Bool.{eqb-true}
use Rattle.wire_tcp.specs.Options.{no_options}
use Rattle.wire_tcp.proofs.Steps.{Says-empty}
use Rattle.wire_tcp.proofs.option.TcpOptions.read.Goals as goal

pub returns-then-is_empty-clause-only : goal.returns-then-is_empty-clause-only
returns-then-is_empty-clause-only c = λ v says.
    let same = Says-empty no_options v c.args.area.now (eqb-true (length c.args.area.now) 0 (sym c.is_empty.ensures ∙ c.if-is_empty.true)) says in
    let none = c.none.ensures in
    (refl, cc (same, none))
