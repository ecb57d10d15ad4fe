use Rattle.std.proofs.Common.{◌<◌, ◌-◌, ◌^◌, arith}
use Rattle.wire_address.proofs.Blocks.{network-room}
use Rattle.wire_address.proofs.ipv4.Ipv4Cidr.network_bits.Goals as goal

pub returns-clause-room : goal.returns-clause-room
returns-clause-room c =
    let fits : c.from-bits.result < 2 ^ 32 = omega (arith, c.from-bits.ensures) in
    rw c.host_count.ensures.value (network-room c.from-bits.result (32 - c.args.self.now.prefix_len) 32 (omega arith) fits)
