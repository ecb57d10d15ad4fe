use Rattle.interface.proofs.Hosts.{settings_so}
use Rattle.interface.proofs.poll_laws.polls_keep_settings.Goals as goal

pub returns : goal.returns
returns g c = settings_so g.D.Device.moves
