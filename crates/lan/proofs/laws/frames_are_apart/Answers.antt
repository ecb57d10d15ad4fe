use Rattle.lan.proofs.Worlds.Hosts.WireRuns.{frames_apart}
use Rattle.lan.proofs.laws.frames_are_apart.Goals as goal

pub returns : goal.returns
returns c = frames_apart
