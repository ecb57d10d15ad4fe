use Rattle.iface_egress.proofs.FragmentOut.{fragment_out}
use Rattle.iface_egress.proofs.egress_path.send_next.Goals as goal

pub returns-clause-out : goal.returns-clause-out
returns-clause-out g c =
    fragment_out g.D.Device.moves c.args.device.now c.send_next.new.device c.args.inner.now c.destination.result c.args.fragmenter.now c.send_next.new.self
    c.cut_from-cut.result c.send_next.result
    c.cut_from-cut.ensures.value c.destination.ensures c.send_next.ensures.emits c.send_next.ensures.left
