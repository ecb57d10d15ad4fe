use Rattle.iface_ingress.specs.Arrives.{reply_of}
use Rattle.iface_ingress.proofs.PlainSegments.{taken_fast}
use Rattle.iface_ingress.proofs.fast_path.take_segment_fast.Goals as goal

pub returns-in-Some-clause-taken : goal.returns-in-Some-clause-taken
returns-in-Some-clause-taken c = λ yes.
    taken_fast c.args.inner.now c.args.slots.now c.take_at.new.slots c.args.ipv4.now c.args.header.now c.args.packet.now c.split_at.result.0.now
    c.split_at.result.1.now c.plain_segment-segment.result c.sum_of_head-rest.result c.in-Some.at c.is_taken_raw.result c.connection_slot.result
    (reply_of c.take_at.new.reply) c.requires.header c.requires.room c.plain_segment-segment.ensures c.split_at.ensures.front c.split_at.ensures.back
    c.sum_of_head-rest.ensures c.is_taken_raw.ensures c.if-is_taken_raw.false c.connection_slot.ensures.slot c.in-Some.is (c.take_at.ensures.sum yes)
    (c.take_at.ensures.answer yes) (c.take_at.ensures.slots yes) (c.take_at.ensures.quiet yes)
