use Rattle.std.proofs.Common.{rules}
use Rattle.interface.proofs.Tells.{told, quiet}
use Rattle.interface.proofs.host.Interface.tell_reports.Goals as goal

pub returns-in-Some-clause-tells : goal.returns-in-Some-clause-tells
returns-in-Some-clause-tells g c =
    told g.D.Device.moves c.args.timestamp c.args.self.now c.in-Some.reporter (search rules) c.transmit.result c.args.device.now c.transmit.new.device
    c.transmit.new.self (search rules) _ (search rules)

pub returns-in-Some-clause-quiet : goal.returns-in-Some-clause-quiet
returns-in-Some-clause-quiet g c =
    quiet g.D.Device.moves c.args.timestamp c.args.self.now c.in-Some.reporter (search rules) c.transmit.result c.args.device.now c.transmit.new.device
    c.transmit.new.self (search rules) _ (search rules) c.requires.0
