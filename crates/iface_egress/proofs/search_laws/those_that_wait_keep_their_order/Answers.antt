use Rattle.std.proofs.Common.{[]}
use Rattle.iface_egress.proofs.KeptOrder.{in_order}
use Rattle.iface_egress.proofs.search_laws.those_that_wait_keep_their_order.Goals as goal

pub returns : goal.returns
returns g c packets left x x' all serves = in_order g.D.Device.moves packets [] x all x' left serves
