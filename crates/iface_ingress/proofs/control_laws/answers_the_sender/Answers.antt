use Rattle.iface_ingress.proofs.Hearing.{answers-the-sender}
use Rattle.iface_ingress.proofs.control_laws.answers_the_sender.Goals as goal

pub returns : goal.returns
returns c = answers-the-sender
