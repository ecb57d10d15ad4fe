use Rattle.socket_context.proofs.Lengths.{length-payload}
use Rattle.socket_context.proofs.laws.written_lengths.Goals as goal

pub returns : goal.returns
returns c = record {
  header = c.ip_written_len.ensures;
  payload = length-payload (record {
    udp = c.udp_written_len.ensures;
    tcp = c.tcp_written_len.ensures;
    icmpv4 = c.icmpv4_written_len.ensures;
    icmpv6 = c.icmpv6_written_len.ensures;
  });
}
