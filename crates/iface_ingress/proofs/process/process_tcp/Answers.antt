use Rattle.std.proofs.Common.{refl, subst}
use Rattle.iface_ingress.specs.Arrives.{HandsUpper, arrived, reply_of}
use Rattle.iface_ingress.specs.Delivered.{Slots}
use Rattle.iface_ingress.proofs.process.process_tcp.Goals as goal

pub returns-then-process_tcp_copy_checksum-clause-hands : goal.returns-then-process_tcp_copy_checksum-clause-hands
returns-then-process_tcp_copy_checksum-clause-hands c = c.if-process_tcp_copy_checksum.ensures.taken refl c.args.payload.now c.args.is_taken

pub returns-clause-hands : goal.returns-clause-hands
returns-clause-hands c =
    subst (λ (p : Slots). HandsUpper c.args.inner.now p c.args.header.now c.args.payload.now c.args.is_taken c.args.upper.now.header.now
    c.args.upper.now.bytes.now (arrived c.process_parsed_tcp.new.inner c.process_parsed_tcp.new.slots (reply_of c.process_parsed_tcp.new.reply)))
    (c.if-process_tcp_copy_checksum.ensures.unchanged refl) c.process_parsed_tcp.ensures.hands
