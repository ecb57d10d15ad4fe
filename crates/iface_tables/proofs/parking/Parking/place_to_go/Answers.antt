use Rattle.std.proofs.Common.{◌≡◌, ℕ, ◌<◌, List, Option, length, sym, ap, subst, ◌∙◌}
use Rattle.std.specs.Option.{ForSome}
use Rattle.std.specs.Prelude.{filter, position}
use Rattle.iface_tables.specs.Parking.{ParkingValue, place_to_go}
use Rattle.iface_tables.specs.declared.parking.ParkedHeader.{ParkedHeader}
use Rattle.iface_tables.proofs.Parked.{is_header_for, place_by, place_of_few, place_of_many, values_length}
use Rattle.iface_tables.proofs.parking.Parking.place_to_go.Goals as goal

pub returns-then-waiting_for-lt-HOP_PLACES-clause-index : goal.returns-then-waiting_for-lt-HOP_PLACES-clause-index
returns-then-waiting_for-lt-HOP_PLACES-clause-index c =
    let s = c.self.inside in
    let hop = c.args.hop.now in
    let count : c.waiting_for.result ≡ length (filter (is_header_for hop) s.headers.items) =
    c.waiting_for.ensures ∙ ap (λ (hs : List ParkedHeader). length (filter (is_header_for hop) hs)) c.as_slice-headers.ensures.value in
    place_of_few c.waiting_for.result (position (is_header_for hop) s.headers.items) (place_to_go hop c.args.self.now.packets)
    (place_by hop s.headers.items s.bytes.items c.args.self.now c.waiting_for.result c.self.view_is count) c.if-waiting_for-lt-HOP_PLACES.true

pub returns-clause-index : goal.returns-clause-index
returns-clause-index c =
    let s = c.self.inside in
    let hop = c.args.hop.now in
    let count : c.waiting_for.result ≡ length (filter (is_header_for hop) s.headers.items) =
    c.waiting_for.ensures ∙ ap (λ (hs : List ParkedHeader). length (filter (is_header_for hop) hs)) c.as_slice-headers.ensures.value in
    c.first_for.ensures.index ∙ ap (λ (hs : List ParkedHeader). position (is_header_for hop) hs) c.as_slice-headers.ensures.value
    ∙ place_of_many c.waiting_for.result (position (is_header_for hop) s.headers.items) (place_to_go hop c.args.self.now.packets)
    (place_by hop s.headers.items s.bytes.items c.args.self.now c.waiting_for.result c.self.view_is count) c.if-waiting_for-lt-HOP_PLACES.false

pub returns-clause-in_range : goal.returns-clause-in_range
returns-clause-in_range c =
    let s = c.self.inside in
    let long : length c.as_slice-headers.result.now ≡ length c.args.self.now.packets =
    ap (λ (hs : List ParkedHeader). length hs) c.as_slice-headers.ensures.value ∙ sym (values_length s.headers.items s.bytes.items)
    ∙ ap (λ (k : ParkingValue). length k.packets) c.self.view_is in
    subst (λ (n : ℕ). ForSome c.first_for.result (λ at. at < n)) long c.first_for.ensures.in_range
