-- A receive buffer for more than was written and not read isn't full: what waits in it was written.
use Rattle.std.proofs.Common.{◌≡◌, ℕ, ◌+◌, ◌<◌, ◌≤◌, List, [], ◌∷◌, ◌++◌, length, Option, Some, None, refl, ap, arith}
use Rattle.std.proofs.lemmas.List.{length-append}
use Rattle.std.specs.Prelude.{slice_index_or}
use Rattle.tcp_block.specs.Value.{TcpValue, free_in}
use Rattle.tcp_refinement.specs.Safe.{IsPrefixOf}
use Rattle.lan.specs.declared.at_link.history.event.Side.{Side}
use Rattle.lan.specs.declared.at_link.history.event.Side.TheVariants.{A, B}
use Rattle.lan.specs.Worlds.AtLink.Initial.{IsInitialWorld}
use Rattle.lan.specs.Worlds.AtLink.History.{Entry, read, written}
use Rattle.lan.specs.Worlds.AtLink.Kinds.{other}
use Rattle.lan.specs.Worlds.AtLink.PacketsSafe.{IsSafe, IsTcpAt}
use Rattle.lan.specs.Worlds.AtLink.Parties.{Socket}
use Rattle.lan.specs.Worlds.AtLink.Parties.Socket.{Icmp, Raw, Tcp, Udp}
use Rattle.lan.specs.Worlds.AtLink.PeerSides.{ArePartners}
use Rattle.lan.specs.Worlds.AtLink.Runs.{Starts}
use Rattle.lan.specs.Worlds.AtLink.Safe.{first_port, net_of}
use Rattle.lan.specs.Worlds.AtLink.Node.{Nodes, node}
use Rattle.lan.specs.Worlds.Events.{AreTyped}
use Rattle.lan.specs.Worlds.Moves.Follows.{sockets_of}
use Rattle.lan.specs.Worlds.Still.{StillRun}
use Rattle.lan.proofs.Worlds.AtLink.PeerSideLemmas.{peer_sides_stay, peer_sides_turned}
use Rattle.lan.proofs.Worlds.Runs.{runs_safe}
use Rattle.lan.proofs.Worlds.StillOnward.{ran}
use Rattle.proof_stack.specs.Progress.Moving.{IsTcp}
use Rattle.proof_stack.specs.Progress.Serving.{HasSpace, HasSpaceThroughout, IsAtHost}
use Rattle.proof_stack.specs.Progress.Unread.{HasRoomForAll, HasRoomThroughout}

pub tcp_so : (o : Option Socket) (P Q : TcpValue → Type 0) → ((v : TcpValue) → o ≡ Some (Tcp v) → P v → Q v) → IsTcp o P → IsTcp o Q
tcp_so None P Q so is = is
tcp_so (Some (Tcp v)) P Q so is = so v refl is
tcp_so (Some (Udp v)) P Q so is = is
tcp_so (Some Icmp) P Q so is = is
tcp_so (Some Raw) P Q so is = is

-- what was read and what waits begins what was written
some_free : (written read waiting : List ℕ) (free : ℕ) → IsPrefixOf (read ++ waiting) written → length written < length read + (length waiting + free) → 1 ≤ free
some_free written read waiting free (more, is) less =
    let whole = length-append (read ++ waiting) more in
    let parts = length-append read waiting in
    let same = ap (λ (xs : List ℕ). length xs) is in
    omega (arith, whole, parts, same, less)

module _ (starts : Starts) (initial : IsInitialWorld starts) (slots : Side → ℕ) where
  abbrev PeerSides : List Entry → Type 0
  PeerSides history = ArePartners history A (slots A) (slots B)

  module _ (history : List Entry) (hosts : Nodes) (typed : AreTyped history) (still : StillRun starts history hosts) (peer_sides : PeerSides history) where
    of_side : (side : Side) → ArePartners history side (slots side) (slots (other side))
    of_side A = peer_sides
    of_side B = peer_sides_turned history A (slots A) (slots B) peer_sides

    abbrev Here : Side → TcpValue → Type 0
    Here side v = IsTcpAt (net_of (record { hosts = hosts; starts = starts; history = history })) side (slots side) v

    in_net : (side : Side) (v : TcpValue) → slice_index_or (sockets_of (node hosts side).slots) (slots side) None ≡ Some (Tcp v) → Here side v
    in_net A v is = is
    in_net B v is = is

    safe : IsSafe (first_port starts) (net_of (record { hosts = hosts; starts = starts; history = history }))
    safe = runs_safe starts initial history hosts typed (ran starts history hosts still)

    has_space : (side : Side) → IsAtHost (slots side) (node hosts side) (HasRoomForAll history slots side) → IsAtHost (slots side) (node hosts side) HasSpace
    has_space side is =
        tcp_so (slice_index_or (sockets_of (node hosts side).slots) (slots side) None) (HasRoomForAll history slots side) HasSpace
        (λ v here room. (
          room.0,
          some_free (written history (other side) (slots (other side))) (read history side (slots side)) v.received.waiting (free_in v)
              (safe.prefix side (slots side) (slots (other side)) v (of_side side) (in_net side v here)) room.1,
        )) is

  pub space_throughout : (side : Side) (past more : List Entry) (hosts : Nodes) (still : StillRun starts (more ++ past) hosts) → AreTyped (more ++ past) → PeerSides past
      → HasRoomThroughout starts slots side past more hosts still → HasSpaceThroughout starts (slots side) side past more hosts still
  space_throughout side past more hosts still typed peer_sides room = (on past more hosts still typed peer_sides room).0 where
    on : (past more : List Entry) (hosts : Nodes) (still : StillRun starts (more ++ past) hosts) → AreTyped (more ++ past) → PeerSides past
        → HasRoomThroughout starts slots side past more hosts still → HasSpaceThroughout starts (slots side) side past more hosts still × PeerSides (more ++ past)
    on past [] hosts still typed peer_sides room = (has_space past hosts typed still peer_sides side room, peer_sides)
    on past (e ∷ more) hosts still typed peer_sides room =
        let first = on past more still.0 still.1 typed.1 peer_sides room.0 in
        let then = peer_sides_stay (more ++ past) e A (slots A) (slots B) first.1 in
        ((first.0, has_space (e ∷ more ++ past) hosts typed still then side room.1), then)
