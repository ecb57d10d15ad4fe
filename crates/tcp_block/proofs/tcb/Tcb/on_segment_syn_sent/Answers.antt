use Rattle.std.proofs.Common.{◌≡◌, Bool, true, if◌then◌else◌, Some, is_some, sym, ap, ◌∙◌}
use Rattle.tcp_state.specs.declared.state.State.TheVariants as In
use Rattle.tcp_block.specs.declared.tcb.Tcb.{Tcb}
use Rattle.tcp_block.specs.Acknowledged.{una_moved}
use Rattle.tcp_block.specs.Opening.{connected, crossed}
use Rattle.tcp_block.specs.Timestamps.{believed, tsecr_taken}
use Rattle.tcp_block.proofs.tcb.Tcb.on_segment_syn_sent.Goals as goal

pub returns-then-is_some : goal.returns-then-is_some
returns-then-is_some c =
    let b = c.args.self.now in
    let header = c.args.header.now in
    let now = c.args.now in
    let opened = c.move_una.ensures ∙ ap (λ (x : Tcb). una_moved x 1 0 now)
    (c.take_rtt_of_tsecr.ensures ∙ ap (λ (x : Tcb). tsecr_taken x header 1 now) c.on_syn.ensures) in
    let said = c.is_some.ensures in
    let yes = c.if-is_some.true in
    let is : is_some header.ack_number ≡ true = cc in
    c.refresh_recent.ensures
    ∙ (ap (λ (x : Tcb). believed (record x { state = In.Established; timers = record x.timers { ack_at = Some now } }) now) opened
    ∙ sym (ap (λ (acked : Bool). believed (if acked then connected b header now else crossed b header) now) is))
