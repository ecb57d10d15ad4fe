-- What a frame that waits brings next, the other host made, whole.
use Rattle.std.proofs.Common.{◌≡◌, ℕ, List, slice_get, Option, Some, sym, subst, arith}
use Rattle.sim_link.specs.PacketInFrame.{names_tcp_or_udp}
use Rattle.sim_link.specs.Medium.TheVariants as Medium
use Rattle.iface_ingress.specs.Incoming.{IncomingValue, IsContent}
use Rattle.lan.specs.Worlds.AtLink.Initial.{IsInitialWorld}
use Rattle.lan.specs.Worlds.AtLink.History.{Entry}
use Rattle.lan.specs.Worlds.AtLink.Kinds.{other}
use Rattle.lan.specs.Worlds.AtLink.Moves.{Step, IsRun, run}
use Rattle.lan.specs.Worlds.AtLink.Parties.{Net, Party, party}
use Rattle.lan.specs.Worlds.AtLink.Runs.{Starts, WorldRun, unused_both}
use Rattle.lan.specs.Worlds.AtLink.Side.{Side}
use Rattle.lan.specs.Worlds.AtLink.Node.{NodeValue, Nodes, node}
use Rattle.lan.specs.Worlds.Events.{AreTyped}
use Rattle.lan.specs.Worlds.Joins.{Receives}
use Rattle.lan.specs.Worlds.Link.Frames.{Outgoing, BringsFrom}
use Rattle.lan.specs.Worlds.Link.Numbers.{AreFew}
use Rattle.lan.specs.Worlds.Link.Sides.{AreSent}
use Rattle.lan.specs.Worlds.Moves.Follows.{IsNetOf}
use Rattle.lan.specs.Worlds.Moves.Joined.{first_net}
use Rattle.lan.specs.Worlds.Moves.Made.{MadeBy, BringsMade}
use Rattle.lan.specs.Worlds.ReassembledDatagram.{taken_next}
use Rattle.lan.proofs.Worlds.Keeps.{brings_so}
use Rattle.lan.proofs.Worlds.Link.Assemblers.{all_at}
use Rattle.lan.proofs.Worlds.Link.Taken.{content_from, whole_made}
use Rattle.lan.proofs.Worlds.Runs.{has_come}

-- A FRAME

module _ (q : Party) (first next : ℕ) (out : List Outgoing) (sent : AreSent (MadeBy q) first next out) (few : AreFew out) (s : NodeValue)
    (receives : Receives q out s) where
  next_made : (slot : ℕ) (frame : List ℕ) (content : Option IncomingValue) → slice_get s.link.waiting slot ≡ Some frame →
      IsContent s.host.inner.hardware s.host.inner.checksums frame content → BringsMade q s.host.inner.checksums (taken_next s content)
  next_made slot frame content waits is =
      let brings = all_at (BringsFrom (MadeBy q) out s.host.inner.hardware) s.link.waiting slot frame receives.waits waits in
      brings_so q s.host.inner.checksums (taken_next s content) receives.checksums
      (whole_made (MadeBy q) first out next sent few s.host.inner s.host.timeout s.host.assemblers receives.assemblers_are content
      (content_from (MadeBy q) out s.host.inner.hardware s.host.inner.checksums frame content receives.checksums brings is))

pub worlds_made : (starts : Starts) (history : List Entry) (hosts : Nodes) → IsInitialWorld starts → AreTyped history →
    WorldRun history (unused_both starts) hosts
    → (steps : List Step) × IsRun (names_tcp_or_udp Medium.Ip) (first_net starts) steps × IsNetOf (run (first_net starts) steps) hosts history
    × ((side : Side) (slot : ℕ) (frame : List ℕ) (content : Option IncomingValue) → slice_get (node hosts side).link.waiting slot ≡ Some frame
    → IsContent (node hosts side).host.inner.hardware (node hosts side).host.inner.checksums frame content
    → BringsMade (party (run (first_net starts) steps) (other side)) (node hosts side).host.inner.checksums (taken_next (node hosts side) content))
worlds_made starts history hosts initial typed ran =
    let came = has_come starts history hosts initial typed ran in
    let w = came.joined in (
      came.steps,
      came.may,
      subst (λ (net : Net). IsNetOf net hosts history) (sym came.ends) came.of,
      λ side slot frame content waits is.
          let few : AreFew (w.joined.out (other side)) = (let a = w.joined.counted (other side) in let b = w.few (other side) in omega (arith, a, b)) in
          subst (λ (net : Net). BringsMade (party net (other side)) (node hosts side).host.inner.checksums (taken_next (node hosts side) content))
          (sym came.ends)
          (next_made (party came.net (other side)) _ _ (w.joined.out (other side)) (w.joined.sends (other side)).are_sent few (node hosts side)
          (w.joined.receives side) slot frame content waits is),
    )
