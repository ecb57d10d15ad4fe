-- What never goes back, and what never changes, at an end of the link.
use Rattle.std.specs.Prelude.{◌≡◌, ◌≤ℤ◌, ℕ, Bool, true, false, List, ◌++◌, length}
use Rattle.iface_ingress.specs.HardwareAddress.{HardwareAddress}
use Rattle.iface_ingress.specs.HardwareAddress.TheVariants as Hardware
use Rattle.lan.specs.Worlds.AtLink.Node.{NodeValue}

-- whether the medium has hardware addresses
abbrev pub has_addresses : HardwareAddress → Bool
has_addresses (Hardware.Ethernet own) = true
has_addresses Hardware.Ip = false

-- more may be sent, and time goes on; medium, MTU and checksums stay, and as many slots as there were
pub record Proceeds (old new : NodeValue) : Type 0 where
  pub more : List (List ℕ)
  pub sent : new.link.sent ≡ old.link.sent ++ more
  pub capabilities : new.link.capabilities ≡ old.link.capabilities
  pub mtu : new.host.inner.mtu ≡ old.host.inner.mtu
  pub checksums : new.host.inner.checksums ≡ old.host.inner.checksums
  pub medium : has_addresses new.host.inner.hardware ≡ has_addresses old.host.inner.hardware
  pub instant : old.host.inner.instant ≤ℤ new.host.inner.instant
  pub slots : length new.slots ≡ length old.slots
