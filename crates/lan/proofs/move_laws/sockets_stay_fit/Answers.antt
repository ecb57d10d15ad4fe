use Rattle.lan.proofs.Worlds.Moves.Fits.{worlds_fit}
use Rattle.lan.proofs.move_laws.sockets_stay_fit.Goals as goal

pub returns : goal.returns
returns c starts history hosts initial ran = worlds_fit starts initial history hosts ran
