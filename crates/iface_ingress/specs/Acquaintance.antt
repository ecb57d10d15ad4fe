-- Whom a host knows, and whom it asks for.
use Rattle.std.specs.Prelude.{Bool, is_some}
use Rattle.ip_wire.specs.IpAddress.{IpAddress}
use Rattle.iface_tables.specs.Inner.{InnerValue}
use Rattle.iface_tables.specs.Neighbor.{lookup, is_found, last_request}

-- the neighbour's hardware address is believed
abbrev pub knows : InnerValue → IpAddress → Bool
knows i address = is_found (lookup i.neighbors address i.instant)

-- the neighbour is asked for
abbrev pub seeks : InnerValue → IpAddress → Bool
seeks i address = is_some (last_request i.neighbors address)
