use Rattle.std.proofs.Common.{length}
use Rattle.socket_datagram.proofs.dhcpv4.extras.+append.Given as goal

abbrev pub decreases-append : goal.decreases-append
decreases-append l = length l.options.now
