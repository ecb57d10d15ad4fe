use Rattle.iface_ingress.proofs.FramesArrive.{packet-arrives, payload-brought, length-carried}
use Rattle.socket_context.specs.Packet.{payload_written}
use Rattle.iface_ingress.proofs.frame_laws.packets_arrive.Goals as goal

pub returns : goal.returns
returns c = λ hardware sender receiver link p padding framed sendable value can sealed. (
  packet-arrives hardware sender receiver link p.header (payload_written sender p.header p.payload) padding framed sendable.header value
      (length-carried sender p sendable can) sealed,
  payload-brought sender receiver p.header p.payload sendable.payload can sealed,
)
