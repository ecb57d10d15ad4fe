-- A pass over the sockets: each has its turn, in order, until one ends the pass.
use Rattle.std.specs.Prelude.{◌≡◌, Bool, ◌||◌, ◌⊎◌, List, [], ◌∷◌, ◌++◌, Option}
use Rattle.net_base.specs.Device.{Move}
use Rattle.ip_wire.specs.IpAddress.{IpAddress}
use Rattle.iface_egress.specs.declared.socket_set.SocketStorage.{SocketStorage}
use Rattle.iface_ingress.specs.Socket.{Socket}
use Rattle.interface.specs.Host.{Sender}
use Rattle.interface.specs.Serve.{ServesSlot}
use Rattle.interface.specs.declared.serve.Served.TheVariants as Turn

-- how a pass ends: what sends, the slots, and whether a socket or a queue changed
pub record Passed (D : Type 0) : Type 0 where
  pub sender : Sender D
  pub slots : List (SocketStorage Socket)
  pub changed : Bool

abbrev pub passed : {D : Type 0} → Sender D → List (SocketStorage Socket) → Bool → Passed D
passed s ps changed = record { sender = s; slots = ps; changed = changed }

module _ {D : Type 0} (moves : D → Move → D → Type 0) (turn : Option IpAddress) where
  -- the turns that are left, where those before have these slots now, and `changed` says whether one of them changed anything
  abbrev pub Pass : Sender D → List (SocketStorage Socket) → Bool → List (SocketStorage Socket) → Passed D → Type 0
  Pass s before changed [] e = e ≡ passed s before changed
  Pass s before changed (p ∷ ps) e =
      ((b : Bool) × (mid : Sender D) × (p' : SocketStorage Socket)
      × ServesSlot moves turn s p (Turn.Next b) mid p' × Pass mid (before ++ p' ∷ []) (changed || b) ps e)
      ⊎ ((b : Bool) × (mid : Sender D) × (p' : SocketStorage Socket)
      × ServesSlot moves turn s p (Turn.Stop b) mid p' × (e ≡ passed mid (before ++ p' ∷ ps) (changed || b)))
