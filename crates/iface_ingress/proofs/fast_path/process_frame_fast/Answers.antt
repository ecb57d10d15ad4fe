use Rattle.std.proofs.Common.{rules, refl}
use Rattle.iface_ingress.specs.Arrives.{arrived, reply_of}
use Rattle.iface_ingress.specs.FastPath.{StandsIn}
use Rattle.iface_ingress.proofs.ShortWay.{packet_arrives}
use Rattle.iface_ingress.proofs.fast_path.process_frame_fast.Goals as goal

pub returns-in-Some-clause-taken : goal.returns-in-Some-clause-taken
returns-in-Some-clause-taken c =
    let i = c.args.inner.now in
    let stands : StandsIn i.hardware i c.args.frame.now c.packet_in.new.link c.in-Some.bytes.now = search rules in
    λ is timeout assemblers.
    packet_arrives i.hardware i timeout assemblers c.args.slots.now c.args.frame.now c.packet_in.new.link c.in-Some.bytes.now
    (arrived c.process_bytes_fast.new.inner c.process_bytes_fast.new.slots (reply_of c.process_bytes_fast.new.reply)) refl stands (c.process_bytes_fast.ensures.taken is)
