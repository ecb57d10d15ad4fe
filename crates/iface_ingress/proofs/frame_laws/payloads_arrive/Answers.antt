use Rattle.iface_ingress.proofs.FramesArrive.{payload-arrives}
use Rattle.iface_ingress.proofs.frame_laws.payloads_arrive.Goals as goal

pub returns : goal.returns
returns c = payload-arrives
