-- Which TCP sockets of two hosts are peers: their ports say it.
use Rattle.std.specs.Prelude.{◌≡◌, ℕ, ◌==◌, ◌&&◌, ◌||◌, Bool, true, List, Option, Some, None, is_some}
use Rattle.lan.specs.declared.at_link.history.event.Side.{Side}
use Rattle.lan.specs.declared.at_link.history.record.Opening.{Opening}
use Rattle.lan.specs.Worlds.AtLink.Kinds.{other}
use Rattle.lan.specs.Worlds.AtLink.History.{Entry, opening}

-- the port is the one that is named, or none is
abbrev pub names_port : Option ℕ → ℕ → Bool
names_port None port = true
names_port (Some named) port = named == port

-- at least one of two openings connects, and each that does names the other's local port
abbrev pub are_paired : Opening → Opening → Bool
are_paired o p = (is_some o.remote || is_some p.remote) && (names_port o.remote p.local && names_port p.remote o.local)

-- the socket at slot i of this host and the one at slot j of the other, both opened
pub record ArePartners (history : List Entry) (side : Side) (i j : ℕ) : Type 0 where
  pub one : Opening
  pub another : Opening
  pub opened : opening history side i ≡ Some one
  pub peer_side_opened : opening history (other side) j ≡ Some another
  pub paired : are_paired one another ≡ true
