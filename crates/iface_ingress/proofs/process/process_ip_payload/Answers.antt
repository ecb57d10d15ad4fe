use Rattle.iface_ingress.specs.Arrives.{arrived, reply_of}
use Rattle.iface_ingress.proofs.Bare.{bare_if}
use Rattle.iface_ingress.proofs.Through.{hands_bare}
use Rattle.iface_ingress.proofs.process.process_ip_payload.Goals as goal

pub returns-clause-hands : goal.returns-clause-hands
returns-clause-hands c =
    hands_bare c.args.inner.now c.args.slots.now c.args.header.now c.args.payload.now c.args.is_taken
    (arrived c.process_upper.new.inner c.process_upper.new.slots (reply_of c.process_upper.new.reply))
    (bare_if c.args.header.now c.args.payload.now c.requires.bare) c.process_upper.ensures.hands
