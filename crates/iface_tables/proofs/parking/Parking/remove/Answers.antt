use Rattle.std.proofs.Common.{◌≡◌, ℕ, ◌+◌, ◌<◌, ◌≤◌, List, length, take, sym, ap, subst, ◌∙◌, arith}
use Rattle.std.specs.Prelude.{All, remove}
use Rattle.iface_tables.specs.Parking.{IsMeasured, total_len}
use Rattle.iface_tables.specs.declared.parking.ParkedHeader.{ParkedHeader}
use Rattle.iface_tables.proofs.Parked.{all_left, front_grows, front_len, left_fits, places, taken_out}
use Rattle.iface_tables.proofs.parking.Parking.remove.Goals as goal

pub start_of-start-requires-clause-within : goal.start_of-start-requires-clause-within
start_of-start-requires-clause-within c =
    let s = c.self.inside in
    let inside : c.args.at < length s.headers.items = places s.headers.items s.bytes.items c.args.self.now c.args.at c.self.view_is c.requires in
    rw c.as_slice-headers.ensures.value (omega (arith, inside))

pub end_of-end-requires-clause-within : goal.end_of-end-requires-clause-within
end_of-end-requires-clause-within c =
    let s = c.self.inside in
    rw c.as_slice-headers.ensures.value (places s.headers.items s.bytes.items c.args.self.now c.args.at c.self.view_is c.requires)

pub copy_within-requires-clause-start_le_end : goal.copy_within-requires-clause-start_le_end
copy_within-requires-clause-start_le_end c =
    let s = c.self.inside in
    let end : c.end_of-end.result ≡ total_len (take (c.args.at + 1) s.headers.items) = rw c.as_slice-headers.ensures.value at c.end_of-end.ensures in
    let used : c.used-total.result ≡ total_len s.headers.items = rw c.as_slice-headers.ensures.value at c.used-total.ensures in
    omega (arith, end, used, front_len s.headers.items (c.args.at + 1))

pub copy_within-requires-clause-dest_in_bounds : goal.copy_within-requires-clause-dest_in_bounds
copy_within-requires-clause-dest_in_bounds c =
    let s = c.self.inside in
    let inside : c.args.at < length s.headers.items = places s.headers.items s.bytes.items c.args.self.now c.args.at c.self.view_is c.requires in
    let start : c.start_of-start.result ≡ total_len (take c.args.at s.headers.items) = rw c.as_slice-headers.ensures.value at c.start_of-start.ensures in
    let end : c.end_of-end.result ≡ total_len (take (c.args.at + 1) s.headers.items) = rw c.as_slice-headers.ensures.value at c.end_of-end.ensures in
    let used : c.used-total.result ≡ total_len s.headers.items = rw c.as_slice-headers.ensures.value at c.used-total.ensures in
    omega (arith, start, end, used, front_grows s.headers.items c.args.at inside, front_len s.headers.items (c.args.at + 1), c.self.invariant.0, s.bytes.ok.0)

pub remove-requires : goal.remove-requires
remove-requires c =
    let s = c.self.inside in
    omega (arith, places s.headers.items s.bytes.items c.args.self.now c.args.at c.self.view_is c.requires, s.headers.ok.0)

pub invariant_of-self : goal.invariant_of-self
invariant_of-self c =
    let s = c.self.inside in
    let inside : c.args.at < length s.headers.items = places s.headers.items s.bytes.items c.args.self.now c.args.at c.self.view_is c.requires in
    let long : length c.copy_within.new.self.items ≡ length s.bytes.items =
    omega (arith, c.copy_within.new.self.ok.0, s.bytes.ok.0, c.copy_within.ensures.len) in
    let less : total_len c.remove.new.self.items ≤ total_len s.headers.items =
    subst (λ (hs : List ParkedHeader). total_len hs ≤ total_len s.headers.items) (sym c.remove.ensures.items) (left_fits s.headers.items c.args.at inside) in (
      omega (arith, less, c.self.invariant.0, long),
      λ some. omega (arith, c.self.invariant.1 (omega (arith, long, some)), c.remove.ensures.capacity),
      subst (All IsMeasured) (sym c.remove.ensures.items) (all_left IsMeasured s.headers.items c.args.at inside c.self.invariant.2),
      omega (arith, long, c.self.invariant.3),
    )

pub returns : goal.returns
returns c =
    let s = c.self.inside in
    let start : c.start_of-start.result ≡ total_len (take c.args.at s.headers.items) = rw c.as_slice-headers.ensures.value at c.start_of-start.ensures in
    let end : c.end_of-end.result ≡ total_len (take (c.args.at + 1) s.headers.items) = rw c.as_slice-headers.ensures.value at c.end_of-end.ensures in
    let used : c.used-total.result ≡ total_len s.headers.items = rw c.as_slice-headers.ensures.value at c.used-total.ensures in
    let long : length c.copy_within.new.self.items ≡ length s.bytes.items =
    omega (arith, c.copy_within.new.self.ok.0, s.bytes.ok.0, c.copy_within.ensures.len) in
    taken_out s.headers.items c.remove.new.self.items s.bytes.items c.copy_within.new.self.items c.args.self.now c.args.at c.start_of-start.result c.end_of-end.result
    c.used-total.result c.self.view_is c.requires c.self.invariant.0 start end used c.remove.ensures.items c.copy_within.ensures.items long
