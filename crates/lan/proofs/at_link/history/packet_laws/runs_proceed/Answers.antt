use Rattle.lan.proofs.Worlds.AtLink.Extended.{IsRun-append, run-append}
use Rattle.lan.proofs.at_link.history.packet_laws.runs_proceed.Goals as goal

pub returns : goal.returns
returns c = record { runs = IsRun-append; end = run-append }
