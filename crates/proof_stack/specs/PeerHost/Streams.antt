-- What a poll does to a TCP socket of its host.
use Rattle.std.specs.Prelude.{◌≡◌, ℕ, ℤ, true, List, [], ◌∷◌, Some}
use Rattle.net_base.specs.Device.{Move}
use Rattle.sockets.specs.declared.socket.Socket.{Socket}
use Rattle.sockets.specs.declared.socket.Socket.TheVariants as Is
use Rattle.tcp_block.specs.Names.{accepts}
use Rattle.tcp_block.specs.Value.{TcpValue}
use Rattle.iface_egress.specs.Set.{socket_at}
use Rattle.iface_egress.specs.declared.socket_set.SocketStorage.{SocketStorage}
use Rattle.interface.specs.State.{State}
use Rattle.tcp_refinement.specs.Run as two
use Rattle.tcp_refinement.specs.Run.Event.{Offers}
use Rattle.proof_stack.specs.PeerHost.SocketRun.{Event}
use Rattle.proof_stack.specs.PeerHost.SocketRun.Event.{Comes, Does}
use Rattle.proof_stack.specs.PeerHost.ReachedSocket.{after, after_all, Proceed}
use Rattle.proof_stack.specs.PeerHost.ReceivedPackets.{SegmentArrived}

abbrev pub IsTcpAt : List (SocketStorage Socket) → ℕ → TcpValue → Type 0
IsTcpAt slots i v = socket_at slots i ≡ Some (Is.Tcp v)

-- it is asked for a segment, and the offer is settled
abbrev pub IsOffer : two.Event → Type 0
IsOffer (Offers cx sent) = Unit {0}
IsOffer event = ⊥

module _ {D : Type 0} (moves : D → Move → D → Type 0) (instant : ℤ) (from : State D) where
  -- An event of a socket in a poll that began here: a segment that a frame brought and that is for the socket, or an offer.
  abbrev pub IsOfPoll : TcpValue → Event → Type 0
  IsOfPoll v (Comes cx ip header bytes) = (accepts v.tcb ip header ≡ true) × SegmentArrived moves instant from ip header bytes
  IsOfPoll v (Does event) = IsOffer event
  IsOfPoll v event = ⊥

  -- each where those before it have led to
  abbrev pub AreOfPoll : TcpValue → List Event → Type 0
  AreOfPoll v [] = Unit {0}
  AreOfPoll v (event ∷ events) = IsOfPoll v event × AreOfPoll (after v event) events

  -- The poll leads the socket at a slot on by such events alone; so, wherever events led it since it was new, its stream is safe
  -- alongside each conforming peer that sent all that came.
  pub record StreamProceeds (i : ℕ) (v : TcpValue) (to : State D) : Type 0 where
    pub events : List Event
    pub are : AreOfPoll v events
    pub stays : IsTcpAt to.slots i (after_all v events)
    pub on : Proceed v events (after_all v events)
