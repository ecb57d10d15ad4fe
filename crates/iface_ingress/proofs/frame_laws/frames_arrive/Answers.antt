use Rattle.iface_ingress.proofs.FramesArrive.{packet-arrives, fragment-arrives, arp-arrives}
use Rattle.iface_ingress.proofs.frame_laws.frames_arrive.Goals as goal

pub returns : goal.returns
returns c = record { packet = packet-arrives; fragment = fragment-arrives; arp = arp-arrives }
