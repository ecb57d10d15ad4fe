use Rattle.iface_ingress.proofs.OneContent.{one-carried-content}
use Rattle.iface_ingress.proofs.frame_laws.one_carried.Goals as goal

pub returns : goal.returns
returns c = one-carried-content
