use Rattle.std.proofs.Common.{ℕ, ◌+◌, sym, ap, ◌∙◌, arith}
use Rattle.iface_tables.proofs.Parked.{front_more, front_within}
use Rattle.iface_tables.proofs.parking.start_of.Goals as goal

pub overflow_add-start : goal.overflow_add-start
overflow_add-start c =
    omega (arith, front_within c.args.headers.now c.loop-i.i c.header_at-start.result c.header_at-start.ensures, c.loop-i.invariant, c.requires.fits)

pub loop-i-preserved : goal.loop-i-preserved
loop-i-preserved c =
    ap (λ (n : ℕ). n + c.header_at-start.result.len) c.loop-i.invariant ∙ sym (front_more c.args.headers.now c.loop-i.i c.header_at-start.result c.header_at-start.ensures)
