-- Runs of a host, as the TCP socket at one of its slots sees them.
use Rattle.std.specs.Prelude.{◌≡◌, ℕ, ℤ, Bool, List, [], ◌∷◌, ◌++◌}
use Rattle.net_base.specs.Device.{Move}
use Rattle.tcp_block.specs.Value.{TcpValue}
use Rattle.interface.specs.Polls.{Polls}
use Rattle.interface.specs.State.{State}
use Rattle.tcp_refinement.specs.Promises.{IsInitial}
use Rattle.tcp_refinement.specs.Run as two
use Rattle.tcp_refinement.specs.Run.Event.{Reads, Closes, Aborts, Changes}
use Rattle.tcp_peer.specs.Peer.{End, IsEnd}
use Rattle.proof_stack.specs.PeerHost.SocketRun.{Event, IsRun, run, start}
use Rattle.proof_stack.specs.PeerHost.SocketRun.Event.{Listens, Connects, Sends, Does}
use Rattle.proof_stack.specs.PeerHost.TakenRun.{IsTakenRun, IsListener, anew}
use Rattle.proof_stack.specs.PeerHost.TakenRun as taken
use Rattle.proof_stack.specs.PeerHost.ReachedSocket.{IsSafeAt, after, after_all}
use Rattle.proof_stack.specs.PeerHost.Streams.{IsTcpAt, AreOfPoll}

-- what happens at a host
pub data Act : Type 0 where
  -- its interface is polled
  IsPolled : (instant : ℤ) (budget : ℕ) → Act
  -- its application calls the socket
  Calls : (event : Event) → Act
  -- anything else, which leaves the socket as it was: calls of other sockets, settings, sockets that come and go, a device exchanged
  Rests : Act

-- listen, connect, send, read, close and abort, and a setting or a refused call, after which nothing that matters of the socket is another
abbrev pub IsOtherCall : two.Event → Type 0
IsOtherCall (Reads count) = Unit {0}
IsOtherCall Closes = Unit {0}
IsOtherCall Aborts = Unit {0}
IsOtherCall (Changes new) = Unit {0}
IsOtherCall event = ⊥

abbrev pub IsCall : Event → Type 0
IsCall (Listens endpoint) = Unit {0}
IsCall (Connects cx remote local) = Unit {0}
IsCall (Sends bytes) = Unit {0}
IsCall (Does event) = IsOtherCall event
IsCall event = ⊥

module _ {D : Type 0} (moves : D → Move → D → Type 0) (i : ℕ) where
  abbrev pub Stays : State D → State D → Type 0
  Stays s s' = (v : TcpValue) → IsTcpAt s.slots i v → IsTcpAt s'.slots i v

  abbrev pub Acts : Act → State D → State D → Type 0
  Acts (IsPolled instant budget) s s' = (changed : Bool) × Polls moves instant budget s changed s'
  Acts (Calls event) s s' = IsCall event × ((v : TcpValue) → IsTcpAt s.slots i v → IsTcpAt s'.slots i (after v event))
  Acts Rests s s' = Stays s s'

  abbrev pub ActsAll : List Act → State D → State D → Type 0
  ActsAll [] s s' = s' ≡ s
  ActsAll (act ∷ acts) s s' = (mid : State D) × Acts act s mid × ActsAll acts mid s'

  -- WHAT THE SOCKET SAW: of a poll offers and segments that came in its frames, of a call the call
  abbrev pub Saw : Act → State D → TcpValue → List Event → Type 0
  Saw (IsPolled instant budget) s v events = AreOfPoll moves instant s v events
  Saw (Calls event) s v events = events ≡ event ∷ []
  Saw Rests s v events = events ≡ []

  abbrev pub SawAll : List Act → State D → TcpValue → List Event → State D → Type 0
  SawAll [] s v events s' = (events ≡ []) × (s' ≡ s)
  SawAll (act ∷ acts) s v events s' =
      (mid : State D) × (now : List Event) × (later : List Event)
      × Acts act s mid × Saw act s v now × SawAll acts mid (after_all v now) later s' × (events ≡ now ++ later)

  -- All that happened at the socket, in order; and alongside each conforming peer that sent all that came for it, its stream is safe.
  pub record IsSafeRun (acts : List Act) (s : State D) (v : TcpValue) (s' : State D) : Type 0 where
    pub events : List Event
    pub saw : SawAll acts s v events s'
    pub stays : IsTcpAt s'.slots i (after_all v events)
    pub leads : (run (start v []) events).here.socket ≡ after_all v events
    pub safe : IsInitial v → (peer : End) → IsEnd peer → IsRun peer (start v []) events → IsSafeAt peer (run (start v []) events)

  -- The same alongside each peer that is honest of what the socket takes; and if the socket is a listener, as it begins anew.
  pub record IsSafeWhereTaken (acts : List Act) (s : State D) (v : TcpValue) (s' : State D) : Type 0 where
    pub events : List Event
    pub saw : SawAll acts s v events s'
    pub stays : IsTcpAt s'.slots i (after_all v events)
    pub leads : (taken.run (start v []) events).here.socket ≡ after_all v events
    pub leads_anew : (taken.run (anew v []) events).here.socket ≡ after_all v events
    pub safe :
        IsInitial v → (peer : End) → IsEnd peer → IsTakenRun peer (start v []) events → IsSafeAt peer (taken.run (start v []) events)
    pub anew_safe :
        IsListener v → (peer : End) → IsEnd peer → IsTakenRun peer (anew v []) events → IsSafeAt peer (taken.run (anew v []) events)
