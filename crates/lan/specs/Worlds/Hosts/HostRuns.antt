-- Each host of a world is a run of its machine.
use Rattle.std.specs.Prelude.{◌≡◌, ℕ, if◌then◌else◌, List, [], ◌∷◌, ◌++◌, map, Option}
use Rattle.lan.specs.Worlds.AtLink.History.{Entry}
use Rattle.lan.specs.Worlds.AtLink.Kinds.{same_side, Kind, Act, kind_of}
use Rattle.lan.specs.Worlds.AtLink.Kinds.Kind.{OfHost}
use Rattle.lan.specs.Worlds.AtLink.Answer.{Answer}
use Rattle.lan.specs.Worlds.AtLink.Side.{Side}
use Rattle.lan.specs.Worlds.AtLink.Node.{node}
use Rattle.lan.specs.Worlds.AtLink.Origins.{frame_of_origin, origins, own_frames}
use Rattle.lan.specs.Worlds.AtLink.Runs.{start, unused, WorldValue}
use Rattle.tcp_block.specs.State.{State}
use Rattle.lan.specs.Worlds.Hosts.Machine.{Turn, machine_of, HostRun}

-- what a host did, what it answered, and what a close found
pub record Deed : Type 0 where
  pub act : Act
  pub answer : Answer
  pub found : Option State

abbrev pub deed_of : Turn → Deed
deed_of turn = record { act = turn.act; answer = turn.answer; found = turn.found }

abbrev pub deed_in : Side → Kind → Entry → List Deed
deed_in side (OfHost s act) e = if same_side s side then record { act = act; answer = e.answer; found = e.found } ∷ [] else []
deed_in side kind e = []

-- what a history has of one host, the newest first
abbrev pub deeds : Side → List Entry → List Deed
deeds side [] = []
deeds side (e ∷ past) = deed_in side (kind_of e.event) e ++ deeds side past

-- all frames that turns sent, the oldest first
abbrev pub frames_sent : List Turn → List (List ℕ)
frames_sent [] = []
frames_sent (turn ∷ past) = frames_sent past ++ turn.sent

-- all frames that they took
abbrev pub frames_taken : List Turn → List (List ℕ)
frames_taken [] = []
frames_taken (turn ∷ past) = frames_taken past ++ turn.taken

-- A host is a run of its machine from what it was at first. Its turns are its acts in the history, with their answers. What they sent is
-- all that lies among the host's sent frames, but for the link's fragments. What they took, and then what still waits, is what the link
-- handed over.
pub record IsHostRun (w : WorldValue) (side : Side) : Type 0 where
  pub turns : List Turn
  pub run : HostRun (machine_of (unused (start w.starts side))) (unused (start w.starts side)).link.room turns (machine_of (node w.hosts side))
  pub deeds_are : map deed_of turns ≡ deeds side w.history
  pub sent : own_frames side w.history (node w.hosts side).link.sent ≡ frames_sent turns
  pub taken : frames_taken turns ++ (node w.hosts side).link.waiting ≡ map (frame_of_origin w.hosts) (origins side w.history)
