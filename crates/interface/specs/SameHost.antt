-- What the egress path leaves of a host.
use Rattle.std.specs.Prelude.{◌≡◌, if◌then◌else◌}
use Rattle.iface_tables.specs.Inner.{InnerValue}
use Rattle.iface_tables.specs.Parking.{ParkingValue}

-- packets wait for their next hops with host requirements alone
abbrev pub parking_from : InnerValue → InnerValue → ParkingValue
parking_from old new = if old.host_requirements then new.parking else old.parking

-- nothing changed but the next identification, until when no neighbour is asked for, and which neighbours are; and what is parked
abbrev pub IsSameHost : InnerValue → InnerValue → Type 0
IsSameHost old new =
    new ≡ record old {
      ident = new.ident;
      neighbors = record old.neighbors { silent = new.neighbors.silent; searches = new.neighbors.searches };
      parking = parking_from old new;
    }
