use Rattle.std.proofs.Common.{sym, ap, ◌∙◌}
use Rattle.base_buffer.specs.Assembler.{front}
use Rattle.base_buffer.proofs.Kept.{kept_without}
use Rattle.base_buffer.proofs.assembler.Assembler.remove_front.Goals as goal

pub invariant_of-self : goal.invariant_of-self
invariant_of-self g c =
    let s = c.self.inside in
    (kept_without g.row.N s.count c.peek_front-size.result s.ranges c.lower.new.runs c.rotate_left.new.self c.self.invariant (c.peek_front-size.ensures ∙
    ap front (sym c.self.view_is)) c.if-size-gt0.true c.lower.ensures c.rotate_left.ensures.after).0

pub returns-then-size-gt0-clause-runs : goal.returns-then-size-gt0-clause-runs
returns-then-size-gt0-clause-runs g c =
    let s = c.self.inside in
    (kept_without g.row.N s.count c.peek_front-size.result s.ranges c.lower.new.runs c.rotate_left.new.self c.self.invariant (c.peek_front-size.ensures ∙
    ap front (sym c.self.view_is)) c.if-size-gt0.true c.lower.ensures c.rotate_left.ensures.after).0.runs
