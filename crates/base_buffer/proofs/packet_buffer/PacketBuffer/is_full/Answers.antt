use Rattle.std.proofs.Common.{◌≡◌, ◌+◌, length, sym, ap, ◌∙◌, arith}
use Rattle.std.proofs.lemmas.List.{nil_from_length}
use Rattle.base_buffer.proofs.PacketQueues.{used_offsets-packets_of}
use Rattle.base_buffer.specs.Packets.{used_offsets}
use Rattle.base_buffer.proofs.packet_buffer.PacketBuffer.is_full.Goals as goal

pub returns : goal.returns
returns g c =
    let s = c.self.inside in
    let used : used_offsets c.args.self.now.packets ≡ length s.metadata.queue = ap (λ q. used_offsets q.packets) (sym c.self.view_is) ∙
    used_offsets-packets_of s.metadata.queue s.payload.queue _ _ c.self.invariant.laid in
    let positions : c.args.self.now.positions ≡ length s.metadata.queue + length s.metadata.free = ap (λ q. q.positions) (sym c.self.view_is) in (
      λ e. omega (arith, used, positions, ap length (c.is_full.ensures.0 e)),
      λ e. c.is_full.ensures.1 (nil_from_length s.metadata.free (omega (arith, used, positions))),
    )
