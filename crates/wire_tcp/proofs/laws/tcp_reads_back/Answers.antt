use Rattle.wire_tcp.proofs.Written.{IsTcp-written, payload_of-written}
use Rattle.wire_tcp.proofs.laws.tcp_reads_back.Goals as goal

pub returns : goal.returns
returns c = record {
  header = λ source destination tested sealed v payload value fits both. IsTcp-written source destination tested sealed v payload value both;
  payload = λ source destination sealed v payload value fits. payload_of-written source destination sealed v payload;
}
