use Rattle.wire_tcp.proofs.Kept.{Says-read}
use Rattle.wire_tcp.proofs.Read.{normal-normal, normal-read}
use Rattle.wire_tcp.specs.Tcp.{options_of}
use Rattle.wire_tcp.proofs.laws.tcp_normal.Goals as goal

pub returns : goal.returns
returns c = record {
  once = normal-normal;
  options = λ source destination tested bytes v is. Says-read (options_of bytes) v.options is.options;
  read = λ source destination tested bytes v is kept. normal-read v (Says-read (options_of bytes) v.options is.options) kept;
}
