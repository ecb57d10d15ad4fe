use Rattle.std.proofs.Common.{◌≡◌, ◌++◌, length, ◌∙◌, ap, arith, rules}
use Rattle.wire_ip.proofs.udp.repr.UdpRepr.spell_with.Goals as goal

-- the payload is what the closure left
pub returns : goal.returns
returns g c =
    let len : length c.emit_payload.new.arg2 ≡ c.args.payload_len = omega arith in (
      c.emit_payload.new.arg2,
      search rules,
      len,
      ap (λ xs. xs ++ c.emit_payload.new.arg2) c.copy_from_slice.ensures.after ∙ c.header.ensures c.emit_payload.new.arg2 len,
    )
