use Rattle.std.proofs.Common.{sym, refl}
use Rattle.iface_ingress.proofs.copy_checksum.take_by_socket.Goals as goal

pub returns-in-Tcp-clause-answer : goal.returns-in-Tcp-clause-answer
returns-in-Tcp-clause-answer c = λ yes. rw c.in-Tcp.is rw (sym c.deref_mut.ensures.value) (c.take_by_stream.ensures.answer yes)

pub returns-in-Tcp-clause-socket : goal.returns-in-Tcp-clause-socket
returns-in-Tcp-clause-socket c = λ yes. rw c.in-Tcp.is rw (sym c.deref_mut.ensures.value) rw (c.take_by_stream.ensures.socket yes) refl

pub returns-in-Tcp-clause-quiet : goal.returns-in-Tcp-clause-quiet
returns-in-Tcp-clause-quiet c = λ yes. rw c.in-Tcp.is rw (sym c.deref_mut.ensures.value) (c.take_by_stream.ensures.quiet yes)
