-- What honesty alone doesn't say, and two clients of one server, on numerals.
use Rattle.std.specs.Prelude.{ℕ, false, List, [], ◌∷◌}
use Rattle.tcp_theory.specs.Side.{initial}
use Rattle.tcp_theory.specs.Side.Phase.{Synchronized}
use Rattle.tcp_theory.specs.Side.Opening.{Active, Passive}
use Rattle.tcp_theory.specs.Move.Move.{Listens, Connects, Writes, FallsBack, SendsSyn, SendsSynAck, SendsData, TakesSyn, TakesSynAck, TakesAck, TakesBytes}
use Rattle.tcp_theory.specs.Examples.{at, syn, syn_ack, piece, bare_ack, reset}
use Rattle.tcp_peer.specs.Run.{Event}
use Rattle.tcp_peer.specs.Run.Event.{Comes, Does}
use Rattle.tcp_net.specs.Joint.{Joint}
use Rattle.tcp_net.specs.Net.{Net, NetEvent, begin_all}

-- b acknowledged both bytes of a, and took none in: it is honest, since they were written
abbrev pub too_soon : Joint
too_soon = record {
  a =
      record {
        side =
            record (initial 8) { phase = Synchronized; opening = Active; iss = at 100; una = at 103; written = 7 ∷ 8 ∷ []; irs = at 300 };
        came = bare_ack 301 103 ∷ [];
      };
  b =
      record {
        side =
            record (initial 8) {
              phase = Synchronized;
              opening = Passive;
              iss = at 300;
              una = at 301;
              irs = at 100;
              sent = bare_ack 301 103 ∷ [];
            };
        came = [];
      };
}

abbrev pub net_event : ℕ → ℕ → Event → NetEvent
net_event local remote event = record { local = local; remote = remote; event = event }

-- nothing is opened: 8 bytes of room each
abbrev pub nothing_yet : Net
nothing_yet = begin_all (λ _ _. 8) (λ _ _. [])

-- the server at 80 takes the SYN of 1, falls back at a reset that anyone sent, and then takes the SYN and a byte of 2; both clients
-- have the same first number
abbrev pub two_clients : List NetEvent
two_clients =
    net_event 80 1 (Does Listens)
    ∷ net_event 1 80 (Does (Connects (at 100)))
    ∷ net_event 1 80 (Does SendsSyn)
    ∷ net_event 2 80 (Does (Connects (at 100)))
    ∷ net_event 2 80 (Does SendsSyn)
    ∷ net_event 80 1 (Comes (syn 100))
    ∷ net_event 80 1 (Does (TakesSyn (syn 100) (at 300)))
    ∷ net_event 80 1 (Does SendsSynAck)
    ∷ net_event 80 1 (Comes (reset 101))
    ∷ net_event 80 1 (Does FallsBack)
    ∷ net_event 80 2 (Does Listens)
    ∷ net_event 80 2 (Comes (syn 100))
    ∷ net_event 80 2 (Does (TakesSyn (syn 100) (at 700)))
    ∷ net_event 80 2 (Does SendsSynAck)
    ∷ net_event 2 80 (Comes (syn_ack 700 101))
    ∷ net_event 2 80 (Does (TakesSynAck (syn_ack 700 101)))
    ∷ net_event 2 80 (Does (Writes (9 ∷ [])))
    ∷ net_event 2 80 (Does (SendsData (at 101) 1 false))
    ∷ net_event 80 2 (Comes (piece 101 701 (9 ∷ [])))
    ∷ net_event 80 2 (Does (TakesAck (piece 101 701 (9 ∷ [])) (at 701)))
    ∷ net_event 80 2 (Does (TakesBytes (piece 101 701 (9 ∷ [])) (at 101)))
    ∷ []
