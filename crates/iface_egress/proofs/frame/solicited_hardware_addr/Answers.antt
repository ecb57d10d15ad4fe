use Rattle.std.proofs.Common.{rules, ◌≡◌, length, refl}
use Rattle.iface_egress.proofs.LastThree.{drop-13}
use Rattle.iface_egress.proofs.frame.solicited_hardware_addr.Goals as goal

pub returns : goal.returns
returns c =
    let len : length c.args.target.now.0 ≡ 16 = search rules in
    rw (drop-13 c.args.target.now.0 len) refl
