use Rattle.std.proofs.Common.{subst}
use Rattle.iface_tables.specs.Inner.{InnerValue}
use Rattle.iface_ingress.specs.Arrives.{Arrived, arrived, reply_of}
use Rattle.iface_ingress.specs.Delivered.{Slots}
use Rattle.iface_ingress.specs.FastPath.{TakesPacket}
use Rattle.iface_ingress.proofs.fast_path.process_bytes_fast.Goals as goal

-- a packet that the first call left is taken by the second from the state that it found
pub returns-else-process_tcp_fast-clause-taken : goal.returns-else-process_tcp_fast-clause-taken
returns-else-process_tcp_fast-clause-taken c =
    let a : Arrived = arrived c.process_packet_fast.new.inner c.process_packet_fast.new.slots (reply_of c.process_packet_fast.new.reply) in
    let other = c.process_tcp_fast.ensures.other c.if-process_tcp_fast.false in
    λ is.
    subst (λ (i : InnerValue). TakesPacket i c.args.slots.now c.args.link.now c.args.bytes.now a) other.0
    (subst (λ (s : Slots). TakesPacket c.process_tcp_fast.new.inner s c.args.link.now c.args.bytes.now a) other.1
    (c.process_packet_fast.ensures.taken is))
