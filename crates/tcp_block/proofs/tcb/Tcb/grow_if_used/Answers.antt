use Rattle.std.proofs.Common.{◌/◌, ◌∙◌, sym, ap}
use Rattle.tcp_state.specs.Reno.{RenoValue}
use Rattle.tcp_state.specs.RoundTrip.{srtt}
use Rattle.tcp_block.proofs.Una.{grows, stays}
use Rattle.tcp_block.proofs.tcb.Tcb.grow_if_used.Goals as goal

pub returns-then-is_used : goal.returns-then-is_used
returns-then-is_used c =
    let b = c.args.self.now in
    ap (λ (w : RenoValue). record b { reno = w })
    (grows b c.acknowledged.new.self c.args.count c.srtt_millis-rtt.result c.args.now (sym c.is_used.ensures ∙ c.if-is_used.true)
    c.acknowledged.ensures c.srtt_millis-rtt.ensures.value)

pub returns-else-is_used : goal.returns-else-is_used
returns-else-is_used c =
    let b = c.args.self.now in
    ap (λ (w : RenoValue). record b { reno = w })
    (stays b c.preserve.new.self c.args.count (srtt b.round_trip / 1000) c.args.now (sym c.is_used.ensures ∙ c.if-is_used.false) c.preserve.ensures)
