use Rattle.lan.specs.Worlds.New.{new_error}
use Rattle.lan.proofs.Beginnings.{none_against}
use Rattle.lan.proofs.header.begin.Goals as goal

pub returns-clause-allowed : goal.returns-clause-allowed
returns-clause-allowed c = none_against (new_error c.args.a c.args.b) c.new.result c.in_ok-new.field-0 c.in_ok-new.was c.new.ensures.exact
