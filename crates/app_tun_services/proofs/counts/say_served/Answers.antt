use Rattle.std.proofs.Common.{refl}
use Rattle.app_tun_services.proofs.counts.say_served.Goals as goal

-- line after line
pub returns : goal.returns
unfolding Rattle.app_tun_services.specs.Counts.served_said Rattle.app_tun_services.specs.Counts.line_said
returns c = rw c.say_line-4.ensures (rw c.say_line-3.ensures (rw c.say_line-2.ensures (rw c.say_line.ensures refl)))
