use Rattle.std.proofs.Common.{sym, refl}
use Rattle.iface_ingress.proofs.stream.process_segment.Goals as goal

pub returns-in-Tcp-clause-answer : goal.returns-in-Tcp-clause-answer
returns-in-Tcp-clause-answer c = rw c.in-Tcp.is rw (sym c.deref_mut.ensures.value) c.process_stream.ensures.answer

pub returns-in-Tcp-clause-socket : goal.returns-in-Tcp-clause-socket
returns-in-Tcp-clause-socket c = rw c.in-Tcp.is rw (sym c.deref_mut.ensures.value) rw c.process_stream.ensures.socket refl

pub returns-in-Tcp-clause-host : goal.returns-in-Tcp-clause-host
returns-in-Tcp-clause-host c = rw c.in-Tcp.is rw (sym c.deref_mut.ensures.value) c.process_stream.ensures.host
