use Rattle.std.proofs.Common.{length}
use Rattle.wire_dhcp.proofs.emit.+addresses_len.Given as goal

abbrev pub decreases-addresses_len : goal.decreases-addresses_len
decreases-addresses_len l = length l.addresses.now
