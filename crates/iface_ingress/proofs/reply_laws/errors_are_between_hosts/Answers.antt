use Rattle.iface_ingress.proofs.Answering.{error_between_v4, error_between_v6, problem_told, segment_named}
use Rattle.iface_ingress.proofs.reply_laws.errors_are_between_hosts.Goals as goal

pub returns-clause-ipv4 : goal.returns-clause-ipv4
returns-clause-ipv4 c = error_between_v4

pub returns-clause-ipv6 : goal.returns-clause-ipv6
returns-clause-ipv6 c = error_between_v6

pub returns-clause-headers : goal.returns-clause-headers
returns-clause-headers c = problem_told

pub returns-clause-segment : goal.returns-clause-segment
returns-clause-segment c = segment_named
