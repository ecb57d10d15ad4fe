use Rattle.std.proofs.Common.{sym, ap, ◌∙◌}
use Rattle.base_buffer.proofs.PacketQueues.{used_room-packets_of}
use Rattle.base_buffer.specs.Packets.{used_room}
use Rattle.base_buffer.proofs.packet_buffer.PacketBuffer.payload_bytes_count.Goals as goal

pub returns : goal.returns
returns g c =
    let s = c.self.inside in
    c.len.ensures ∙ sym (ap (λ q. used_room q.packets) (sym c.self.view_is) ∙
    used_room-packets_of s.metadata.queue s.payload.queue _ _ c.self.invariant.laid c.self.invariant.sizes)
