-- A new hardware address is told of, for one local address after the other.
use Rattle.std.specs.Prelude.{◌≡◌, ℕ, ◌+◌, ℤ, not, ◌&&◌, Bool, true, false, if◌then◌else◌, ◌⊎◌, List, [], ◌∷◌, Option, None, Some, Result, Err, MatchResult}
use Rattle.std.specs.List.{filter_map}
use Rattle.net_base.specs.Device.{Move, Allowed}
use Rattle.ip_wire.specs.AddressTests.{is_unicast, is_loopback}
use Rattle.ip_wire.specs.Cidr.{cidr_address}
use Rattle.ip_wire.specs.EthernetAddress.{EthernetAddress}
use Rattle.ip_wire.specs.HardwareAddress.{HardwareAddress}
use Rattle.ip_wire.specs.HardwareAddress.TheVariants as Hardware
use Rattle.ip_wire.specs.IpAddress.{IpAddress}
use Rattle.ip_wire.specs.IpCidr.{IpCidr}
use Rattle.iface_tables.specs.Inner.{InnerValue}
use Rattle.iface_tables.specs.declared.config.HardwareAddrError.{HardwareAddrError}
use Rattle.iface_egress.specs.Announcement.{announcement}
use Rattle.iface_egress.specs.Departure.{Departure}
use Rattle.iface_egress.specs.IsTransmitted.{Departs}

-- an address that neighbours may know: one host's that isn't a loopback one
abbrev pub is_announced : IpAddress → Bool
is_announced address = is_unicast address && not (is_loopback address)

abbrev pub announcement_of : EthernetAddress → IpCidr → Option Departure
announcement_of local tcb =
    if is_announced (cidr_address tcb) then Some (announcement local (cidr_address tcb)) else None

-- what tells of all local addresses; a medium without hardware addresses has nothing to tell
abbrev pub announcements : HardwareAddress → List IpCidr → List Departure
announcements Hardware.Ip blocks = []
announcements (Hardware.Ethernet local) blocks = filter_map (announcement_of local) blocks

module _ {D : Type 0} (moves : D → Move → D → Type 0) (instant : ℤ) (i : InnerValue) where
  -- the device gives leave and takes the frame, or not
  abbrev pub GoesIf : D → Departure → Bool → D → Type 0
  GoesIf old d true new = (mid : D) × moves old (Allowed instant true) mid × Departs moves mid i d true new
  GoesIf old d false new =
      moves old (Allowed instant false) new ⊎ ((mid : D) × moves old (Allowed instant true) mid × Departs moves mid i d false new)

  -- they go in turn, until one doesn't: so many went
  abbrev pub GoInTurn : List Departure → D → ℕ → D → Type 0
  GoInTurn [] old was_sent new = (was_sent ≡ 0) × (new ≡ old)
  GoInTurn (d ∷ ds) old was_sent new =
      (GoesIf old d false new × (was_sent ≡ 0))
      ⊎ ((mid : D) × (rest : ℕ) × GoesIf old d true mid × GoInTurn ds mid rest new × (was_sent ≡ 1 + rest))

  -- what is told where the address is set, and of how many local addresses; a refused address is told of to nobody
  abbrev pub TellsUnless : Option HardwareAddrError → D → Result ℕ HardwareAddrError → D → Type 0
  TellsUnless (Some e) old result new = (result ≡ Err e) × (new ≡ old)
  TellsUnless None old result new =
      MatchResult result (λ was_sent. GoInTurn (announcements i.hardware i.addresses) old was_sent new) (λ e. ⊥)
