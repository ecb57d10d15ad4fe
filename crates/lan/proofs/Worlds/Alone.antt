-- A world's hosts have no host requirements, each of them.
use Rattle.std.proofs.Common.{◌≡◌, false}
use Rattle.lan.specs.Worlds.AtLink.Node.{Nodes, node}
use Rattle.lan.specs.Worlds.AtLink.Runs.{AreAlone}
use Rattle.lan.specs.Worlds.AtLink.Side.{Side}
use Rattle.lan.specs.Worlds.AtLink.Side.TheVariants.{A, B}

pub alone_at : (hosts : Nodes) → AreAlone hosts → (side : Side) → (node hosts side).host.inner.host_requirements ≡ false
alone_at hosts alone A = alone.0
alone_at hosts alone B = alone.1
