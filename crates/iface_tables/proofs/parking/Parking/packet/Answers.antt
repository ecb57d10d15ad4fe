use Rattle.std.proofs.Common.{◌≡◌, ℕ, ◌+◌, ◌<◌, ◌≤◌, List, length, take, drop, Some, sym, ap, ◌∙◌, arith}
use Rattle.std.specs.Prelude.{slice_get}
use Rattle.iface_tables.specs.Parking.{IsMeasured, total_len}
use Rattle.iface_tables.proofs.Parked.{found_at, measured_at, part_fits, part_length, places}
use Rattle.iface_tables.proofs.parking.Parking.packet.Goals as goal

pub header_at-header-requires : goal.header_at-header-requires
header_at-header-requires c =
    let s = c.self.inside in
    rw c.as_slice-headers.ensures.value (places s.headers.items s.bytes.items c.args.self.now c.args.at c.self.view_is c.requires)

pub start_of-start-requires-clause-within : goal.start_of-start-requires-clause-within
start_of-start-requires-clause-within c =
    let s = c.self.inside in
    let inside : c.args.at < length s.headers.items = places s.headers.items s.bytes.items c.args.self.now c.args.at c.self.view_is c.requires in
    rw c.as_slice-headers.ensures.value (omega (arith, inside))

pub part_of-requires : goal.part_of-requires
part_of-requires c =
    let s = c.self.inside in
    let start : c.start_of-start.result ≡ total_len (take c.args.at s.headers.items) = rw c.as_slice-headers.ensures.value at c.start_of-start.ensures in
    let got : slice_get s.headers.items c.args.at ≡ Some c.header_at-header.result = rw c.as_slice-headers.ensures.value at c.header_at-header.ensures in
    rw c.as_slice.ensures.value
    (part_fits s.headers.items s.bytes.items c.args.at c.start_of-start.result c.header_at-header.result c.self.invariant.0 start got)

pub returns-clause-packet : goal.returns-clause-packet
returns-clause-packet c =
    let s = c.self.inside in
    let start : c.start_of-start.result ≡ total_len (take c.args.at s.headers.items) = rw c.as_slice-headers.ensures.value at c.start_of-start.ensures in
    let got : slice_get s.headers.items c.args.at ≡ Some c.header_at-header.result = rw c.as_slice-headers.ensures.value at c.header_at-header.ensures in
    found_at s.headers.items s.bytes.items c.args.self.now c.args.at c.start_of-start.result c.header_at-header.result c.part_of.result.now c.self.view_is start got
    (c.part_of.ensures ∙ ap (λ (bs : List ℕ). take c.header_at-header.result.len (drop c.start_of-start.result bs)) c.as_slice.ensures.value)

pub returns-clause-measured : goal.returns-clause-measured
returns-clause-measured c =
    let s = c.self.inside in
    let start : c.start_of-start.result ≡ total_len (take c.args.at s.headers.items) = rw c.as_slice-headers.ensures.value at c.start_of-start.ensures in
    let got : slice_get s.headers.items c.args.at ≡ Some c.header_at-header.result = rw c.as_slice-headers.ensures.value at c.header_at-header.ensures in
    measured_at s.headers.items c.args.at c.header_at-header.result c.self.invariant.2 got
    ∙ sym (part_length s.bytes.items c.start_of-start.result c.header_at-header.result.len
    (part_fits s.headers.items s.bytes.items c.args.at c.start_of-start.result c.header_at-header.result c.self.invariant.0 start got))
    ∙ ap (λ (bs : List ℕ). length (take c.header_at-header.result.len (drop c.start_of-start.result bs))) (sym c.as_slice.ensures.value)
    ∙ ap length (sym c.part_of.ensures)
