use Rattle.iface_ingress.proofs.Answering.{echo_back_v4, echo_back_v6}
use Rattle.iface_ingress.proofs.reply_laws.echoes_go_back.Goals as goal

pub returns-clause-ipv4 : goal.returns-clause-ipv4
returns-clause-ipv4 c = echo_back_v4

pub returns-clause-ipv6 : goal.returns-clause-ipv6
returns-clause-ipv6 c = echo_back_v6
