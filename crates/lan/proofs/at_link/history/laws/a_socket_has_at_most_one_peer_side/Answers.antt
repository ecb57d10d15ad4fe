use Rattle.lan.proofs.Worlds.AtLink.PeerSideLemmas.{one_peer_side}
use Rattle.lan.proofs.at_link.history.laws.a_socket_has_at_most_one_peer_side.Goals as goal

pub returns-clause-one : goal.returns-clause-one
returns-clause-one c = one_peer_side
