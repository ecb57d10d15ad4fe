use Rattle.std.proofs.Common.{◌≡◌, length}
use Rattle.app_tun_services.specs.Echo.{datagram_echoed}
use Rattle.app_tun_services.specs.Services.{times}
use Rattle.app_tun_services.proofs.slot.echo_datagrams.Given as goal

-- so many datagrams were sent back
abbrev pub invariant-loop : goal.invariant-loop
invariant-loop l = (length l.buffer ≡ length l.initial.buffer) × (l.socket ≡ times l.counter (datagram_echoed (length l.initial.buffer)) l.initial.socket)
