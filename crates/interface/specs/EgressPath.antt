-- What is transmitted in one step: the fragment that waits, what waited for its next hop, and then what the sockets have.
use Rattle.std.specs.Prelude.{◌≡◌, Bool, true, false, ◌⊎◌, List, [], Option, None, Some}
use Rattle.net_base.specs.Device.{Move, Allowed}
use Rattle.iface_egress.specs.declared.socket_set.SocketStorage.{SocketStorage}
use Rattle.iface_ingress.specs.Socket.{Socket}
use Rattle.iface_egress.specs.Fragments.{LeftValue}
use Rattle.iface_egress.specs.IsTransmitted.{FragmentIsTransmitted}
use Rattle.iface_egress.specs.Parked.{ServesParked}
use Rattle.interface.specs.Awaited.{turn_of}
use Rattle.interface.specs.Host.{Sender}
use Rattle.interface.specs.Pass.{Pass, Passed, passed}

module _ {D : Type 0} (moves : D → Move → D → Type 0) where
  -- the fragment goes, or the device gives no leave or refuses it
  abbrev pub FragmentLeaves : LeftValue → Sender D → Bool → Sender D → Type 0
  FragmentLeaves l s gone s' =
      (moves s.device (Allowed s.inner.instant false) s'.device × (gone ≡ false) × (s'.left ≡ s.left))
      ⊎ ((mid : D) × moves s.device (Allowed s.inner.instant true) mid × FragmentIsTransmitted moves mid s.inner l gone s'.device s'.left)

  -- nothing waits to go before the sockets' packets any more, or it couldn't go
  abbrev pub Clears : Option LeftValue → Sender D → Bool → Sender D → Type 0
  Clears None s clear s' = (clear ≡ true) × (s' ≡ s)
  Clears (Some l) s clear s' = FragmentLeaves l s clear s' × (s'.inner ≡ s.inner)

  -- With host requirements the packets that waited for their next hops go before the sockets' packets too.
  abbrev pub ClearsIf : (many : Bool) → Sender D → Bool → Sender D → Type 0
  ClearsIf false s clear s' = Clears s.left s clear s'
  ClearsIf true s clear s' =
      (Clears s.left s false s' × (clear ≡ false)) ⊎ ((mid : Sender D) × Clears s.left s true mid × ServesParked moves mid clear s')

  abbrev pub ClearsAll : Sender D → Bool → Sender D → Type 0
  ClearsAll s clear s' = ClearsIf s.inner.host_requirements s clear s'

  -- What couldn't go ends the step before any socket is asked. Without host requirements one neighbour may be asked for in a step: the one whose
  -- turn it is, where a socket waits.
  abbrev pub Egress : Sender D → List (SocketStorage Socket) → Passed D → Type 0
  Egress s ps e =
      ((mid : Sender D) × ClearsAll s false mid × (e ≡ passed mid ps false))
      ⊎ ((mid : Sender D) × ClearsAll s true mid × Pass moves (turn_of mid.inner ps) mid [] false ps e)
