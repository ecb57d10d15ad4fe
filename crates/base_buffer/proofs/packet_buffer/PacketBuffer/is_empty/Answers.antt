use Rattle.std.proofs.Common.{sym, ap, ◌∙◌}
use Rattle.base_buffer.proofs.PacketQueues.{packets_of-nil}
use Rattle.base_buffer.specs.Entries.{packets_of}
use Rattle.base_buffer.proofs.packet_buffer.PacketBuffer.is_empty.Goals as goal

pub returns : goal.returns
returns g c =
    let s = c.self.inside in
    let seen = ap (λ q. q.packets) c.self.view_is in (
      λ e. sym seen ∙ ap (λ ms. packets_of 0 ms s.payload.queue) (c.is_empty.ensures.0 e),
      λ e. c.is_empty.ensures.1 (packets_of-nil s.metadata.queue s.payload.queue _ _ c.self.invariant.laid (seen ∙ e)),
    )
