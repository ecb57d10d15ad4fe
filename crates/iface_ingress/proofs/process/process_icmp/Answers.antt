use Rattle.iface_ingress.proofs.Sizes.{fits_back, only_control}
use Rattle.iface_ingress.specs.UpperLayer.{carried_of}
use Rattle.iface_ingress.proofs.process.process_icmp.Goals as goal

pub process_icmp_message-requires-clause-back : goal.process_icmp_message-requires-clause-back
process_icmp_message-requires-clause-back c =
    fits_back c.checksum_caps.result c.args.upper.now.header.now c.args.upper.now.bytes.now (carried_of c.read_payload-carried.result)
    c.read_payload-carried.ensures c.requires.upper_fits c.requires.len

pub process_icmp_message-requires-clause-control : goal.process_icmp_message-requires-clause-control
process_icmp_message-requires-clause-control c =
    only_control c.checksum_caps.result c.args.upper.now.header.now c.args.upper.now.bytes.now (carried_of c.read_payload-carried.result)
    c.read_payload-carried.ensures c.requires.udp c.requires.tcp
