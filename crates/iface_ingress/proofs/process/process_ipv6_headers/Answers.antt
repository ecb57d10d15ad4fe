use Rattle.iface_ingress.specs.Arrives.{arrived, reply_of}
use Rattle.iface_ingress.proofs.Through.{hands_through}
use Rattle.iface_ingress.proofs.process.process_ipv6_headers.Goals as goal

pub returns-clause-hands : goal.returns-clause-hands
returns-clause-hands c =
    hands_through c.args.inner.now c.args.slots.now c.args.header.now c.args.payload.now c.args.is_taken c.go_through-following.result
    c.upper_header.result c.upper_bytes.result.now
    (arrived c.process_upper.new.inner c.process_upper.new.slots (reply_of c.process_upper.new.reply))
    c.go_through-following.ensures.value c.upper_header.ensures c.upper_bytes.ensures.bytes c.process_upper.ensures.hands
