use Rattle.std.proofs.Common.{map}
use Rattle.std.specs.Char.{to_ascii_lowercase}
use Rattle.socket_datagram.proofs.DnsClient.Decided.{decided}
use Rattle.socket_datagram.proofs.dns.records.is_same_name.Goals as goal

pub returns : goal.returns
returns c =
    let test = c.eq_ignore_ascii_case.ensures.test in
    let is = decided c.eq_ignore_ascii_case.result (map to_ascii_lowercase c.as_bytes.result.now) (map to_ascii_lowercase c.as_bytes-2.result.now)
    test.0 test.1 in
    cc
