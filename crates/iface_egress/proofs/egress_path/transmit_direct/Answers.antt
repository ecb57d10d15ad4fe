use Rattle.std.proofs.Common.{rules, ◌≡◌, true}
use Rattle.iface_egress.proofs.DirectOut.{direct_departs}
use Rattle.iface_egress.proofs.egress_path.transmit_direct.Goals as goal

pub returns-then-send-clause-out : goal.returns-then-send-clause-out
returns-then-send-clause-out g c =
    let told : c.send.result ≡ true = search rules in (
      direct_departs g.D.Device.moves g.P.Carried.value c.args.device.now c.send.new.device c.args.packet.now c.args.inner.now c.send.result true
          c.hardware_addr.result c.checksum_caps.result c.numbered_v4.result told c.hardware_addr.ensures c.checksum_caps.ensures c.numbered_v4.ensures
          c.send.ensures.emits,
      c.take_ident.ensures.after,
    )
