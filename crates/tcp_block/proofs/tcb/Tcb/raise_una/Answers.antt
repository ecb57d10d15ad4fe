use Rattle.std.proofs.Common.{ℕ, ◌-◌, ◌==◌, ◌&&◌, Bool, ap, ◌∙◌, refl}
use Rattle.tcp_block.proofs.Una.{raised}
use Rattle.tcp_block.proofs.tcb.Tcb.raise_una.Goals as goal

pub returns : goal.returns
returns c =
    let b = c.args.self.now in
    let by = c.args.by in
    let blind = c.is_blind-blind.result in
    raised b c.time_una.new.self c.move_sender.new.self c.validation_after-validation.result c.retransmit_after-self.result blind
    (b.sender.partial && blind) (c.args.partial && (c.saturating_sub.result == 0)) by c.args.queued c.args.now c.is_blind-blind.ensures refl
    (ap (λ (n : ℕ). c.args.partial && (n == 0)) c.saturating_sub.ensures ∙ ap (λ (t : Bool). t && (b.loss.resent - by == 0)) c.requires.partial)
    c.validation_after-validation.ensures c.time_una.ensures c.move_sender.ensures c.retransmit_after-self.ensures
