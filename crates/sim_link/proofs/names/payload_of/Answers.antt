use Rattle.std.proofs.Common.{◌≡◌, ◌+◌, ◌-◌, ℕ, take, drop, sym, ap, ◌∙◌, arith}
use Rattle.wire_address.specs.Fields.{be16}
use Rattle.sim_link.proofs.names.payload_of.Goals as goal

pub returns-clause-payload : goal.returns-clause-payload
returns-clause-payload c =
    let size : 40 + be16 c.args.packet.now 4 - 40 ≡ be16 c.args.packet.now 4 = omega arith in
    c.front_of.ensures.front
    ∙ ap (λ (n : ℕ). take n c.following_header.result.now) c.payload_len-len.ensures.value
    ∙ ap (take (be16 c.args.packet.now 4)) c.following_header.ensures
    ∙ ap (λ (n : ℕ). take n (drop 40 c.args.packet.now)) (sym size)
