use Rattle.std.proofs.Common.{◌≡◌, ◌+◌, ◌∙◌, ◌++◌, length, arith}
use Rattle.wire_dhcp.specs.Written.{options_bytes, padding}
use Rattle.wire_dhcp.proofs.Emitted.{ended}
use Rattle.wire_dhcp.proofs.repr.DhcpRepr.put_options.Goals as goal

pub returns : goal.returns
returns c =
    let len : length c.put_bytes-at.new.area ≡ length (options_bytes c.args.self.now) + 1 + padding c.args.self.now = omega arith in
    c.put_end.ensures
    ∙ ended _ _ _ _ _ _ _ _ _ _ _ (padding c.args.self.now) _ _ _ _ _ c.put_client-at.ensures c.put_names-at.ensures c.put_times-at.ensures
    c.put_network-at.ensures c.put_bytes-at.ensures len
