use Rattle.std.proofs.Common.{sym, ◌∙◌}
use Rattle.iface_ingress.specs.Arrives.{reply_of}
use Rattle.iface_ingress.proofs.OnePass.{segment_handed}
use Rattle.iface_ingress.proofs.copy_checksum.take_found.Goals as goal

pub returns-in-Some-clause-handed : goal.returns-in-Some-clause-handed
returns-in-Some-clause-handed c = λ yes.
    segment_handed c.args.inner.now c.args.slots.now c.take_at.new.slots c.args.header.now c.args.bytes.now c.args.segment.now c.in-Some.at
    (reply_of c.take_at.new.reply) c.requires.somebody (sym c.segment_slot.ensures.slot ∙ c.in-Some.is) (c.take_at.ensures.answer yes)
    (c.take_at.ensures.slots yes) (c.take_at.ensures.quiet yes)
