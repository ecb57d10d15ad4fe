-- A connection on numerals: what a conforming peer says, what liars say, and what no side has come to alongside a conforming peer.
use Rattle.std.specs.Prelude.{ℕ, true, false, List, [], ◌∷◌}
use Rattle.tcp_theory.specs.Segment.{Segment}
use Rattle.tcp_theory.specs.Side.{Side, initial}
use Rattle.tcp_theory.specs.Side.Phase.{Synchronized}
use Rattle.tcp_theory.specs.Side.Opening.{Active}
use Rattle.tcp_theory.specs.Move.Move.{Listens, Connects, Writes, Reads, FallsBack, SendsSyn, SendsAck, SendsData, SendsReset, TakesSyn, TakesSynAck, TakesAck}
use Rattle.tcp_theory.specs.Move.Move.{TakesBytes, TakesFin}
use Rattle.tcp_theory.specs.Examples.{at, syn, syn_ack, piece, last_piece, bare_ack, reset}
use Rattle.tcp_peer.specs.Peer.{End, IsHonest}
use Rattle.tcp_peer.specs.Run.{Event}
use Rattle.tcp_peer.specs.Run.Event.{Comes, Does}
use Rattle.tcp_peer.specs.Safe.{IsSafeBeside}

-- the peer sends three bytes from number 300 on, and its end; this end two, from number 100 on
abbrev pub peer : End
peer = record { first = at 300; stream = 1 ∷ 2 ∷ 3 ∷ []; ends = true; heard = at 100 }

abbrev pub this : End
this = record { first = at 100; stream = 7 ∷ 8 ∷ []; ends = false; heard = at 300 }

-- what this end has sent: it acknowledges the peer's SYN
abbrev pub told : List Segment
told = bare_ack 101 301 ∷ []

abbrev pub Says : Segment → Type 0
Says x = IsHonest peer this told x

-- a run: the end of the stream comes first, then its beginning, and both of this side's bytes are acknowledged
abbrev pub exchange : List Event
exchange =
    Does (Connects (at 100))
    ∷ Does SendsSyn
    ∷ Comes (syn_ack 300 101)
    ∷ Does (TakesSynAck (syn_ack 300 101))
    ∷ Does (SendsAck (at 101))
    ∷ Does (Writes (7 ∷ 8 ∷ []))
    ∷ Does (SendsData (at 101) 2 false)
    ∷ Comes (last_piece 303 103 (3 ∷ []))
    ∷ Does (TakesAck (last_piece 303 103 (3 ∷ [])) (at 103))
    ∷ Does (TakesBytes (last_piece 303 103 (3 ∷ [])) (at 303))
    ∷ Comes (piece 301 101 (1 ∷ 2 ∷ []))
    ∷ Does (TakesBytes (piece 301 101 (1 ∷ 2 ∷ [])) (at 301))
    ∷ Does (TakesFin (last_piece 303 103 (3 ∷ [])))
    ∷ Does (Reads 2)
    ∷ []

-- BAD HISTORIES

-- this side, after it took these bytes in
abbrev pub took : List ℕ → Side
took bytes =
    record (initial 8) {
      phase = Synchronized;
      opening = Active;
      iss = at 100;
      una = at 101;
      written = 7 ∷ 8 ∷ [];
      irs = at 300;
      waiting = bytes;
    }

abbrev pub Cannot : Side → List Segment → Type 0
Cannot side came = IsSafeBeside peer (record { side = side; came = came }) → ⊥

-- HONEST WHERE IT COUNTS

-- the server counts from number 300 on, and takes this side's SYN at 100
abbrev pub server : End
server = record { first = at 300; stream = []; ends = false; heard = at 100 }

-- it still has an old connection between the same ends: it answers the SYN with what it expects there (RFC 9293, 3.5.1; RFC 5961, 4), this
-- side's reset ends that, and the SYN goes again
abbrev pub recovery : List Event
recovery =
    Does (Connects (at 100))
    ∷ Does SendsSyn
    ∷ Comes (bare_ack 5_000 9_000)
    ∷ Does (SendsReset (reset 9_000))
    ∷ Does SendsSyn
    ∷ Comes (syn_ack 300 101)
    ∷ Does (TakesSynAck (syn_ack 300 101))
    ∷ Does (SendsAck (at 101))
    ∷ []

-- a listener takes the SYN of one client and falls back at a reset; another client's SYN stands at 200
abbrev pub other_client : End
other_client = record { first = at 200; stream = []; ends = false; heard = at 700 }

abbrev pub first_client_first : List Event
first_client_first =
    Does Listens
    ∷ Comes (syn 100)
    ∷ Does (TakesSyn (syn 100) (at 300))
    ∷ Does FallsBack
    ∷ Comes (syn 200)
    ∷ Does (TakesSyn (syn 200) (at 700))
    ∷ []
