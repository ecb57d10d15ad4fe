use Rattle.lan.proofs.Worlds.AtLink.Runs.{runs_safe}
use Rattle.lan.proofs.at_link.history.packet_laws.runs_are_safe.Goals as goal

pub returns : goal.returns
returns c = record { safe = runs_safe }
