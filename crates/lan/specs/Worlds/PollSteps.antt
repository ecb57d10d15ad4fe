-- A poll as the things that it does, one after the other: each leads from one state of the host at its device to the next.
use Rattle.std.specs.Prelude.{◌≡◌, ◌⊎◌, ℕ, zero, suc, ℤ, Bool, true, List, ◌∷◌, ◌++◌, Option, Some}
use Rattle.net_base.specs.Device.{Move}
use Rattle.ip_wire.specs.IpAddress.{IpAddress}
use Rattle.sockets.specs.declared.socket.Socket.{Socket}
use Rattle.iface_egress.specs.Fragments.{LeftValue}
use Rattle.iface_egress.specs.Parked.{ServesParked}
use Rattle.iface_egress.specs.declared.socket_set.SocketStorage.{SocketStorage}
use Rattle.interface.specs.Host.{HostValue, Sender}
use Rattle.interface.specs.Ingress.{Takes}
use Rattle.interface.specs.State.{sending_as}
use Rattle.interface.specs.Polls.{begun}
use Rattle.interface.specs.State.{State}
use Rattle.interface.specs.Serve.{ServesSlot}
use Rattle.interface.specs.EgressPath.{FragmentLeaves}
use Rattle.interface.specs.declared.serve.Served.{Served}

module _ {D : Type 0} (moves : D → Move → D → Type 0) where
  -- the fragment that waits goes, or can't go yet
  pub record FragmentStep (s s' : State D) : Type 0 where
    pub host : HostValue
    pub slots : List (SocketStorage Socket)
    pub from : Sender D
    pub to : Sender D
    pub left : LeftValue
    pub gone : Bool
    pub waits : from.left ≡ Some left
    pub leaves : FragmentLeaves moves left from gone to
    pub same : to.inner ≡ from.inner
    pub was : s ≡ sending_as host from slots
    pub is : s' ≡ sending_as host to slots

  -- a socket has its turn at its slot
  pub record TurnStep (s s' : State D) : Type 0 where
    pub host : HostValue
    pub before : List (SocketStorage Socket)
    pub after : List (SocketStorage Socket)
    pub slot : SocketStorage Socket
    pub slot_after : SocketStorage Socket
    pub from : Sender D
    pub to : Sender D
    pub asked : Option IpAddress
    pub turned : Served
    pub turns : ServesSlot moves asked from slot turned to slot_after
    pub was : s ≡ sending_as host from (before ++ slot ∷ after)
    pub is : s' ≡ sending_as host to (before ++ slot_after ∷ after)

  -- with host requirements packets that wait for their next hops leave, or wait on
  pub record ParkedStep (s s' : State D) : Type 0 where
    pub host : HostValue
    pub slots : List (SocketStorage Socket)
    pub from : Sender D
    pub to : Sender D
    pub all : Bool
    pub many : from.inner.host_requirements ≡ true
    pub serves : ServesParked moves from all to
    pub was : s ≡ sending_as host from slots
    pub is : s' ≡ sending_as host to slots

  -- maintenance at the instant of the poll; a look for a frame, with all that the frame brings and what answers it; a fragment; a turn; the
  -- packets that wait for their next hops
  abbrev pub Step : ℤ → State D → State D → Type 0
  Step instant s s' =
      (s' ≡ begun instant s) ⊎ (((answer : Option Bool) × Takes moves s answer s') ⊎ (FragmentStep s s' ⊎ (TurnStep s s' ⊎ ParkedStep s s')))

  abbrev pub Steps : ℤ → ℕ → State D → State D → Type 0
  Steps instant zero from to = to ≡ from
  Steps instant (suc n) from to = (mid : State D) × Steps instant n from mid × Step instant mid to

  -- so far a poll at this instant has come, which began here
  pub record Reaches (instant : ℤ) (from to : State D) : Type 0 where
    pub count : ℕ
    pub steps : Steps instant count from to
