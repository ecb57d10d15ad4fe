use Rattle.std.proofs.Common.{rules, ◌≡◌, length, refl}
use Rattle.iface_reports.proofs.LastThree.{drop-13}
use Rattle.iface_reports.proofs.reporter.solicited_node.Goals as goal

pub returns : goal.returns
returns c =
    let len : length c.args.address.now.0 ≡ 16 = search rules in
    rw (drop-13 c.args.address.now.0 len) refl
