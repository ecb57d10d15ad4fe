-- A socket that events led to since it was new, what is promised of it alongside each conforming peer, and how a call goes on from there.
use Rattle.std.specs.Prelude.{◌≡◌, true, List, [], ◌∷◌, ◌++◌}
use Rattle.tcp_refinement.specs.Alone.{AreResets}
use Rattle.tcp_refinement.specs.Segment.{Segment}
use Rattle.tcp_block.specs.Value.{TcpValue}
use Rattle.tcp_refinement.specs.Promises.{IsInitial}
use Rattle.tcp_peer.specs.Peer.{End, IsEnd}
use Rattle.proof_stack.specs.PeerHost.SocketRun.{Event, Meeting, IsRun, IsSafeBeside, happens, run, start}
use Rattle.proof_stack.specs.PeerHost.TakenRun.{IsTakenRun}
use Rattle.proof_stack.specs.PeerHost.TakenRun as taken

-- what an event makes of a socket, whatever was seen of it
abbrev pub after : TcpValue → Event → TcpValue
after v event = (happens (start v []) event).here.socket

abbrev pub after_all : TcpValue → List Event → TcpValue
after_all v [] = v
after_all v (event ∷ events) = after_all (after v event) events

-- these events led here from a socket that wasn't opened, for which its host may have sent resets before
pub record CameBy (first : TcpValue) (resets : List Segment) (events : List Event) (v : TcpValue) : Type 0 where
  pub initial : IsInitial first
  pub only_resets : AreResets resets
  pub leads : (run (start first resets) events).here.socket ≡ v

-- what is promised of a socket with what was seen of it
abbrev pub IsSafeAt : End → Meeting → Type 0
IsSafeAt peer w = IsSafeBeside peer w.here.socket w.here.past w.came

-- and the same, now that this happened: each conforming peer that sent all that came is promised for
pub record HasCome (first : TcpValue) (resets : List Segment) (events : List Event) (v : TcpValue) : Type 0 where
  pub came : CameBy first resets events v
  pub safe : (peer : End) → IsEnd peer → IsRun peer (start first resets) events → IsSafeAt peer (run (start first resets) events)
  -- and each that is honest of what was taken, whatever else came
  pub safe_where_taken :
      (peer : End) → IsEnd peer → IsTakenRun peer (start first resets) events → IsSafeAt peer (taken.run (start first resets) events)

-- wherever events led, these lead on from there
abbrev pub Proceed : TcpValue → List Event → TcpValue → Type 0
Proceed old more new =
    (first : TcpValue) (resets : List Segment) (events : List Event) → CameBy first resets events old → HasCome first resets (events ++ more) new

abbrev pub Proceeds : TcpValue → Event → TcpValue → Type 0
Proceeds old event new = Proceed old (event ∷ []) new

-- where a read tells the end of the stream, each conforming peer's ends there, and all of it was read
abbrev pub EndIsTrue : TcpValue → Type 0
EndIsTrue v =
    (first : TcpValue) (resets : List Segment) (events : List Event) (peer : End) → CameBy first resets events v → IsEnd peer
    → IsRun peer (start first resets) events → (peer.ends ≡ true) × ((run (start first resets) events).here.past.read ≡ peer.stream)

-- the same of each peer that is honest of what was taken
abbrev pub EndIsTrueWhereTaken : TcpValue → Type 0
EndIsTrueWhereTaken v =
    (first : TcpValue) (resets : List Segment) (events : List Event) (peer : End) → CameBy first resets events v → IsEnd peer
    → IsTakenRun peer (start first resets) events
    → (peer.ends ≡ true) × ((taken.run (start first resets) events).here.past.read ≡ peer.stream)
