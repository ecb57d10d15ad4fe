use Rattle.std.proofs.Common.{◌≡◌, ◌++◌, ◌∷◌, [], ap, ◌∙◌}
use Rattle.lan.specs.Worlds.Set.{slots, unmarked}
use Rattle.sockets.specs.declared.socket.Socket.{Socket}
use Rattle.lan.proofs.SocketLemmas.{still_used}
use Rattle.lan.proofs.own_sockets.add_socket.Goals as goal

pub returns-clause-made : goal.returns-clause-made
returns-clause-made c =
    c.in_ok-put.ensures.made ∙ ap (λ (s : Socket). slots c.args.sockets.now ++ unmarked s ∷ []) c.in_ok-socket.ensures.made

pub returns-clause-used : goal.returns-clause-used
returns-clause-used c = rw c.in_ok-put.ensures.made (still_used (slots c.args.sockets.now) c.in_ok-socket.socket c.requires.used)
