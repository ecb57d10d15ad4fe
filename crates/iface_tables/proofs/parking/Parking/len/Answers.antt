use Rattle.std.proofs.Common.{List, length, sym, ap, ◌∙◌}
use Rattle.iface_tables.specs.Parking.{ParkingValue}
use Rattle.iface_tables.specs.declared.parking.ParkedHeader.{ParkedHeader}
use Rattle.iface_tables.proofs.Parked.{values_length}
use Rattle.iface_tables.proofs.parking.Parking.len.Goals as goal

pub returns : goal.returns
returns c =
    let s = c.self.inside in
    ap (λ (hs : List ParkedHeader). length hs) c.as_slice.ensures.value ∙ sym (values_length s.headers.items s.bytes.items)
    ∙ ap (λ (k : ParkingValue). length k.packets) c.self.view_is
