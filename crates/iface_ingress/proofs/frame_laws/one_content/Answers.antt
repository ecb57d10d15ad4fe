use Rattle.iface_ingress.proofs.OneContent.{one-content}
use Rattle.iface_ingress.proofs.frame_laws.one_content.Goals as goal

pub returns : goal.returns
returns c = one-content
