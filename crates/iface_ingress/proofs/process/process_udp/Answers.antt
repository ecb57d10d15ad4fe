use Rattle.std.proofs.Common.{Option, refl, sym, subst}
use Rattle.iface_ingress.specs.Arrives.{HandsUpper, arrived, reply_of}
use Rattle.iface_ingress.specs.Delivered.{Slots}
use Rattle.iface_ingress.specs.declared.reply.Reply.{Reply}
use Rattle.iface_ingress.proofs.process.process_udp.Goals as goal

pub returns-then-process_udp_copy_checksum-clause-hands : goal.returns-then-process_udp_copy_checksum-clause-hands
returns-then-process_udp_copy_checksum-clause-hands c =
    subst (λ (r : Option Reply). HandsUpper c.args.inner.now c.args.slots.now c.args.header.now c.args.payload.now c.args.is_taken
    c.args.upper.now.header.now c.args.upper.now.bytes.now (arrived c.args.inner.now c.process_udp_copy_checksum.new.slots (reply_of r)))
    (sym c.requires.none) (c.if-process_udp_copy_checksum.ensures.taken refl c.args.payload.now c.args.is_taken)

pub returns-clause-hands : goal.returns-clause-hands
returns-clause-hands c =
    subst (λ (p : Slots). HandsUpper c.args.inner.now p c.args.header.now c.args.payload.now c.args.is_taken c.args.upper.now.header.now
    c.args.upper.now.bytes.now (arrived c.process_parsed_udp.new.inner c.process_parsed_udp.new.slots (reply_of c.process_parsed_udp.new.reply)))
    (c.if-process_udp_copy_checksum.ensures.unchanged refl) c.process_parsed_udp.ensures.hands
