use Rattle.iface_ingress.specs.Arrives.{arrived, reply_of}
use Rattle.iface_ingress.proofs.Bare.{bare_if}
use Rattle.iface_ingress.proofs.Through.{hands_bare}
use Rattle.iface_ingress.proofs.process.process_ipv4_payload.Goals as goal

pub returns-in-Udp-clause-hands : goal.returns-in-Udp-clause-hands
returns-in-Udp-clause-hands c =
    hands_bare c.args.inner.now c.args.slots.now c.args.header.now c.args.payload.now c.args.is_taken
    (arrived c.process_udp.new.inner c.process_udp.new.slots (reply_of c.process_udp.new.reply))
    (bare_if c.args.header.now c.args.payload.now c.requires.bare) c.process_udp.ensures.hands

pub returns-in-Tcp-clause-hands : goal.returns-in-Tcp-clause-hands
returns-in-Tcp-clause-hands c =
    hands_bare c.args.inner.now c.args.slots.now c.args.header.now c.args.payload.now c.args.is_taken
    (arrived c.process_tcp.new.inner c.process_tcp.new.slots (reply_of c.process_tcp.new.reply))
    (bare_if c.args.header.now c.args.payload.now c.requires.bare) c.process_tcp.ensures.hands

pub returns-in_default-clause-hands : goal.returns-in_default-clause-hands
returns-in_default-clause-hands c =
    hands_bare c.args.inner.now c.args.slots.now c.args.header.now c.args.payload.now c.args.is_taken
    (arrived c.process_icmp.new.inner c.process_icmp.new.slots (reply_of c.process_icmp.new.reply))
    (bare_if c.args.header.now c.args.payload.now c.requires.bare) c.process_icmp.ensures.hands
