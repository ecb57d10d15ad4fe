use Rattle.std.proofs.Common.{sym, ap, ◌∙◌}
use Rattle.iface_tables.specs.Parking.{ParkingValue, headers_of}
use Rattle.iface_tables.proofs.Parked.{values_headers}
use Rattle.iface_tables.proofs.parking.Parking.headers.Goals as goal

pub returns : goal.returns
returns c =
    let s = c.self.inside in
    c.as_slice.ensures.value ∙ sym (values_headers s.headers.items s.bytes.items c.self.invariant.0)
    ∙ ap (λ (k : ParkingValue). headers_of k.packets) c.self.view_is
