use Rattle.std.proofs.Common.{sym, ◌∙◌}
use Rattle.iface_ingress.proofs.OnePass.{datagram_handed}
use Rattle.iface_ingress.proofs.copy_checksum.queue_found.Goals as goal

pub returns-in-Some-clause-handed : goal.returns-in-Some-clause-handed
returns-in-Some-clause-handed c = λ yes.
    datagram_handed c.args.inner.now c.args.slots.now c.queue_at.new.slots c.args.header.now c.args.bytes.now c.args.udp.now c.in-Some.at
    (sym c.datagram_slot.ensures.slot ∙ c.in-Some.is) (c.queue_at.ensures.queued yes)
