use Rattle.wire_ip.proofs.Fronts.{joined-front, whole-front}
use Rattle.wire_ip.proofs.parts.put_front.Goals as goal

pub returns-clause-front : goal.returns-clause-front
returns-clause-front c =
    joined-front _ _ _ _ _ c.args.bytes.now _ c.copy_from_slice.ensures.after c.put_addresses.ensures c.split_at_mut-front.ensures.back

pub returns-clause-exact : goal.returns-clause-exact
returns-clause-exact c len =
    whole-front 40 _ _ c.args.bytes.now
    (joined-front _ _ _ _ _ c.args.bytes.now _ c.copy_from_slice.ensures.after c.put_addresses.ensures c.split_at_mut-front.ensures.back) len
