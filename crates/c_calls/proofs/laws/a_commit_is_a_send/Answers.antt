use Rattle.sockets.specs.TcpStates.{takes_writes}
use Rattle.c_calls.proofs.Commits.{committed, kept_queue}
use Rattle.c_calls.proofs.laws.a_commit_is_a_send.Goals as goal

pub returns : goal.returns
returns c = record { reserved = λ v. kept_queue (takes_writes v.tcb.state) v; committed = committed }
