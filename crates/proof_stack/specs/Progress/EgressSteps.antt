-- Steps of a host's egress path, one after the other, while sockets wait for neighbours.
use Rattle.std.specs.Prelude.{◌≡◌, ◌⊎◌, ℕ, ℤ, ◌≤ℤ◌, Bool, true, false, List, [], ◌∷◌, slice_get, Option, Some, None}
use Rattle.std.specs.List.{AllByRecursion}
use Rattle.net_base.specs.Device.{Move}
use Rattle.ip_wire.specs.Ip.{destination_of}
use Rattle.ip_wire.specs.IpAddress.{IpAddress}
use Rattle.iface_ingress.specs.Offer as Answer
use Rattle.iface_ingress.specs.Packet.{PacketValue}
use Rattle.iface_ingress.specs.Socket.{Socket}
use Rattle.iface_ingress.specs.Sockets.{Offers, offered_by}
use Rattle.iface_tables.specs.Inner.{InnerValue, at_instant, is_crowded, link_address}
use Rattle.iface_tables.specs.Neighbor.{requested}
use Rattle.iface_tables.specs.declared.link.LinkAddress.TheVariants as Link
use Rattle.iface_egress.specs.Plan.{may_solicit, never_leaves}
use Rattle.iface_egress.specs.declared.socket_set.Item.{Item}
use Rattle.iface_egress.specs.declared.socket_set.SocketStorage.{SocketStorage}
use Rattle.interface.specs.Awaited.{awaited_in}
use Rattle.interface.specs.declared.awaited.Awaited.{Awaited}
use Rattle.interface.specs.Egress.{EgressStep}
use Rattle.interface.specs.Remote.{context_for}
use Rattle.interface.specs.State.{State}
use Rattle.interface.specs.Serve.{is_waiting, sourced}
use Rattle.proof_stack.specs.Progress.Delivered.{RefusesNothing}
use Rattle.proof_stack.specs.Progress.Exchanged.{AsksFor}
use Rattle.proof_stack.specs.Progress.Moves.{AreMoves}
use Rattle.proof_stack.specs.Progress.Rounds.{IsOneOf}

-- WHO STILL WAITS

-- A packet that a socket offers may leave the host from its source; and the hardware address of its next hop, this one, isn't known and may be asked
-- for now.
pub record NeedsHop (i : InnerValue) (hop : IpAddress) (p : PacketValue) : Type 0 where
  pub may : never_leaves i (sourced i p).header ≡ false
  pub unknown : link_address i (destination_of p.header) ≡ Link.Unknown hop
  pub asks : may_solicit i hop ≡ true

-- a packet is offered, and it needs this hop
abbrev pub IsNeedy : InnerValue → IpAddress → Option PacketValue → Type 0
IsNeedy i hop None = ⊥
IsNeedy i hop (Some p) = NeedsHop i hop p

-- The socket at a slot may be asked for a packet at the host's instant, and whatever it then answers, it offers one that needs this hop.
abbrev pub StillNeeds : InnerValue → IpAddress → Option (Item Socket) → Type 0
StillNeeds i hop None = ⊥
StillNeeds i hop (Some item) =
    (is_waiting i item.meta ≡ false)
    × ((answer : Answer.Offer) (s : Socket) → Offers (context_for i item.socket) item.socket answer s → IsNeedy i hop (offered_by s))

-- where the socket at a slot waits for a neighbour, that is one of these, and the socket still needs it
abbrev pub WaitsOn : InnerValue → List IpAddress → SocketStorage Socket → Type 0
WaitsOn i hops slot = (a : Awaited) → awaited_in i slot ≡ Some a → IsOneOf a.hop hops × StillNeeds i a.hop slot.inner

-- a socket waits for this neighbour; and if it was asked for, its second to answer in is over
pub record IsAwaited (i : InnerValue) (slots : List (SocketStorage Socket)) (hop : IpAddress) : Type 0 where
  pub n : ℕ
  pub slot : SocketStorage Socket
  pub awaited : Awaited
  pub stands : slice_get slots n ≡ Some slot
  pub waits : awaited_in i slot ≡ Some awaited
  pub whom : awaited.hop ≡ hop
  pub over : (when : ℤ) → awaited.last_request ≡ Some when → when ≤ℤ i.instant

module _ {D : Type 0} (moves : D → Move → D → Type 0) where
  -- a step of the egress path, at an instant
  pub record OutStep : Type 0 where
    pub instant : ℤ
    pub old : State D
    pub answer : Option Bool
    pub new : State D
    pub goes : EgressStep moves instant old answer new

  -- the host in a step
  abbrev pub host_in : OutStep → InnerValue
  host_in x = at_instant x.instant x.old.host.inner

  -- In a step the device refuses nothing, the host, without host requirements, keeps count of fewer neighbours than it can, and the sockets wait on.
  pub record GoesFreely (hops : List IpAddress) (x : OutStep) : Type 0 where
    pub free : RefusesNothing moves x.old.device x.new.device
    pub alone : (host_in x).host_requirements ≡ false
    pub room : is_crowded (host_in x) ≡ false
    pub waiting : AllByRecursion (WaitsOn (host_in x) hops) x.old.slots

  -- and one of them waits for this neighbour
  pub record IsWaitedFor (hop : IpAddress) (hops : List IpAddress) (x : OutStep) : Type 0 where
    pub freely : GoesFreely hops x
    pub awaited : IsAwaited (host_in x) x.old.slots hop

  -- WHAT A STEP ASKS FOR

  -- among the moves of a step a question for this neighbour went, and what the host knows of neighbours is what that leaves
  pub record AsksThen (x : OutStep) (hop : IpAddress) : Type 0 where
    pub all : List Move
    pub are : AreMoves moves all x.old.device x.new.device
    pub asks : AsksFor (host_in x) hop all
    pub counts : x.new.host.inner.neighbors ≡ requested x.old.host.inner.neighbors hop x.instant

  -- one of these steps did
  abbrev pub IsAskedFor : IpAddress → List OutStep → Type 0
  IsAskedFor hop [] = ⊥
  IsAskedFor hop (x ∷ more) = AsksThen x hop ⊎ IsAskedFor hop more

  -- ONE BEHIND THE OTHER

  -- The next step isn't earlier. In between frames may come, sockets be used and polls go, but nobody is asked for, and nobody who was asked for
  -- answers.
  abbrev pub GoesBefore : OutStep → List OutStep → Type 0
  GoesBefore x [] = Unit {0}
  GoesBefore x (y ∷ more) = (x.instant ≤ℤ y.instant) × (y.old.host.inner.neighbors.searches ≡ x.new.host.inner.neighbors.searches)

  abbrev pub AreInOrder : List OutStep → Type 0
  AreInOrder [] = Unit {0}
  AreInOrder (x ∷ more) = GoesBefore x more × AreInOrder more
