use Rattle.iface_tables.proofs.Keys.{key_test}
use Rattle.iface_tables.proofs.laws.keys_are_tested.Goals as goal

pub returns : goal.returns
returns c = key_test
