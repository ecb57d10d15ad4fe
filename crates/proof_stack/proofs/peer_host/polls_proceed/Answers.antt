use Rattle.proof_stack.proofs.Peers.Tcp.{stream_proceeds}
use Rattle.proof_stack.proofs.Peers.Udp.{datagrams_proceed}
use Rattle.proof_stack.proofs.peer_host.polls_proceed.Goals as goal

pub returns-clause-streams : goal.returns-clause-streams
returns-clause-streams g c = λ t budget s s' changed i v is polls. stream_proceeds g.D.Device.moves t s v budget i s' changed is polls

pub returns-clause-datagrams : goal.returns-clause-datagrams
returns-clause-datagrams g c = λ t budget s s' changed i v is polls. datagrams_proceed g.D.Device.moves t s v budget i s' changed is polls
