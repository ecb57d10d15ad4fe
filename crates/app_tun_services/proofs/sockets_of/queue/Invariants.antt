use Rattle.std.proofs.Common.{◌≡◌, vec_len}
use Rattle.app_tun_services.proofs.sockets_of.queue.Given as goal

abbrev pub invariant-loop : goal.invariant-loop
invariant-loop g l = vec_len l.entries ≡ l.counter
