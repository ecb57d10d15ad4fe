-- Runs of a world in which each host stays as it showed itself to its sockets at first.
use Rattle.std.specs.Prelude.{◌≡◌, ℕ, false, List, [], ◌∷◌}
use Rattle.std.specs.List.{list_any}
use Rattle.net_base.specs.Time.{IsMoment}
use Rattle.iface_ingress.specs.AddressTests.{is_loopback}
use Rattle.ip_wire.specs.Cidr.{cidr_address}
use Rattle.iface_tables.specs.Inner.{InnerValue, is_local, is_local_broadcast}
use Rattle.iface_tables.specs.Source.{source_for}
use Rattle.tcp_refinement.specs.Pair.Values.{HostContext}
use Rattle.lan.specs.Worlds.AtLink.History.{Entry}
use Rattle.lan.specs.Worlds.AtLink.Moves.{IsRun, Step, run}
use Rattle.lan.specs.Worlds.AtLink.Paired.{AreHosted, Seat, at_zero, clocks_in}
use Rattle.lan.specs.Worlds.AtLink.Runs.{Leads, Starts, start, unused_both}
use Rattle.lan.specs.Worlds.AtLink.Side.{Side}
use Rattle.lan.specs.Worlds.AtLink.Node.{Nodes, node}
use Rattle.lan.specs.Worlds.Moves.Follows.{IsNetOf}
use Rattle.lan.specs.Worlds.Moves.Joined.{first_net}
use Rattle.sim_link.specs.PacketInFrame.{names_tcp_or_udp}
use Rattle.sim_link.specs.Medium.TheVariants as Medium

-- what a socket knows of this host, but for the instant and the random words, where no path is known to carry less than a frame
abbrev pub host_in : InnerValue → HostContext
host_in i = record {
  has_ip_addr = is_local i;
  source_for = source_for i.addresses;
  is_broadcast = is_local_broadcast i;
  ip_mtu = i.mtu;
  checksums = i.checksums;
  isn_key = i.isn_key;
}

-- sockets at these slots, and their hosts as they are at first
abbrev pub seats_of : Starts → (Side → ℕ) → Side → Seat
seats_of starts slots side = record { slot = slots side; host = host_in (start starts side).host.inner }

-- A host stays as it showed itself to its sockets at first. Its clock shows an instant. It has the addresses and groups that it had, and no
-- loopback address. No message told that a path carries less than a frame (RFC 8201, section 4). It answered nothing that no socket of it takes, neither by an
-- error (RFC 1122, section 4.1.3.1) nor by a reset (RFC 9293, section 3.10.7.1).
pub record IsStill (first i : InnerValue) : Type 0 where
  pub instant : IsMoment i.instant
  pub addresses : i.addresses ≡ first.addresses
  pub any_ip : i.any_ip ≡ first.any_ip
  pub groups : i.groups ≡ first.groups
  pub outward : list_any (λ b. is_loopback (cidr_address b)) i.addresses ≡ false
  pub paths : i.paths ≡ []
  pub errors : i.errors_until ≡ first.errors_until

abbrev pub AreStill : Starts → Nodes → Type 0
AreStill starts hosts = (side : Side) → IsStill (start starts side).host.inner (node hosts side).host.inner

-- Two unused hosts came to these by this history, and were still at first and after each event
abbrev pub StillRun : Starts → List Entry → Nodes → Type 0
StillRun starts [] hosts = (hosts ≡ unused_both starts) × AreStill starts hosts
StillRun starts (e ∷ past) hosts = (before : Nodes) × StillRun starts past before × Leads past before e hosts × AreStill starts hosts

-- Plain moves led the two to the hosts between, with the past, and on to these, with the whole history; and they show the sockets of any two slots
-- their hosts, whose clocks never go back.
pub record MovePlainly (starts : Starts) (past : List Entry) (between : Nodes) (history : List Entry) (hosts : Nodes) : Type 0 where
  pub before : List Step
  pub may : IsRun (names_tcp_or_udp Medium.Ip) (first_net starts) before
  pub of : IsNetOf (run (first_net starts) before) between past
  pub hosted : (slots : Side → ℕ) → AreHosted (seats_of starts slots) at_zero (first_net starts) before
  pub steps : List Step
  pub may_on : IsRun (names_tcp_or_udp Medium.Ip) (run (first_net starts) before) steps
  pub of_these : IsNetOf (run (run (first_net starts) before) steps) hosts history
  pub hosted_on : (slots : Side → ℕ)
      → AreHosted (seats_of starts slots) (clocks_in (seats_of starts slots) at_zero before) (run (first_net starts) before) steps
