use Rattle.std.proofs.Common.{◌≡◌, ◌∙◌, ap, append_assoc, List, ◌++◌, drop, ℕ}
use Rattle.wire_ip.proofs.Fronts.{whole-front}
use Rattle.ip_wire.proofs.Joined.{joined-three}
use Rattle.ip_wire.proofs.arp.repr.put_packet.Goals as goal

-- the two pairs of addresses in a row
in_a_row : (header a b c d rest new : List ℕ) → new ≡ (header ++ ((a ++ b) ++ (c ++ d))) ++ rest → new ≡ (header ++ (a ++ (b ++ (c ++ d)))) ++ rest
in_a_row header a b c d rest new is = is ∙ ap (λ xs. (header ++ xs) ++ rest) (append_assoc a b (c ++ d))

pub returns-clause-front : goal.returns-clause-front
returns-clause-front c =
    in_a_row c.args.header.now c.args.source_hardware.now c.args.source_protocol.now c.args.target_hardware.now c.args.target_protocol.now
    (drop 28 c.args.bytes.now) _
    (joined-three 8 10 10 _ _ _ _ _ _ _ _ _ c.args.bytes.now c.copy_from_slice.ensures.after c.put_pair.ensures c.put_pair-2.ensures
    c.split_at_mut-front.ensures.back c.split_at_mut-sender.ensures.back c.split_at_mut-target.ensures.back)

pub returns-clause-exact : goal.returns-clause-exact
returns-clause-exact c len =
    whole-front 28 _ _ c.args.bytes.now (
    in_a_row c.args.header.now c.args.source_hardware.now c.args.source_protocol.now c.args.target_hardware.now c.args.target_protocol.now
    (drop 28 c.args.bytes.now) _
    (joined-three 8 10 10 _ _ _ _ _ _ _ _ _ c.args.bytes.now c.copy_from_slice.ensures.after c.put_pair.ensures c.put_pair-2.ensures
    c.split_at_mut-front.ensures.back c.split_at_mut-sender.ensures.back c.split_at_mut-target.ensures.back)
    )
    len
