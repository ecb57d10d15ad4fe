use Rattle.std.proofs.Common.{◌∙◌}
use Rattle.tcp_socket.proofs.Sendable.{fits_offered}
use Rattle.tcp_socket.proofs.socket.Socket.offer.Goals as goal

pub returns-clause-sendable : goal.returns-clause-sendable
returns-clause-sendable g c =
    rw (c.note_end.ensures ∙ c.offer_next-offer.ensures.socket) (fits_offered (g.C.Context.context c.args.cx.now) c.args.self.now)
