use Rattle.std.proofs.Common.{◌∙◌}
use Rattle.wire_ip.proofs.Fronts.{whole-front}
use Rattle.ip_wire.proofs.Joined.{joined-three}
use Rattle.ip_wire.proofs.ethernet.repr.put_header.Goals as goal

pub returns-clause-front : goal.returns-clause-front
returns-clause-front c =
    joined-three 6 6 2 _ _ _ _ _ _ _ _ _ c.args.bytes.now c.copy_from_slice.ensures.after c.copy_from_slice-2.ensures.after (c.copy_from_slice-3.ensures.after ∙
    c.to_be_bytes.ensures) c.split_at_mut-front.ensures.back c.split_at_mut-middle.ensures.back c.split_at_mut-last.ensures.back

pub returns-clause-exact : goal.returns-clause-exact
returns-clause-exact c len =
    whole-front 14 _ _ c.args.bytes.now
    (joined-three 6 6 2 _ _ _ _ _ _ _ _ _ c.args.bytes.now c.copy_from_slice.ensures.after c.copy_from_slice-2.ensures.after
    (c.copy_from_slice-3.ensures.after ∙ c.to_be_bytes.ensures) c.split_at_mut-front.ensures.back c.split_at_mut-middle.ensures.back
    c.split_at_mut-last.ensures.back) len
