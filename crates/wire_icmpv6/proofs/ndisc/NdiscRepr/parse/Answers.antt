use Rattle.std.proofs.Common.{◌∙◌, refl, sym, ap}
use Rattle.wire_icmpv6.specs.Ndisc.{Solicitation, Advertisement}
use Rattle.wire_icmpv6.specs.Packet.{bytes_of}
use Rattle.wire_icmpv6.proofs.NdiscKinds.{IsNdisc-solicits, IsNdisc-advertises}
use Rattle.wire_icmpv6.proofs.ndisc.NdiscRepr.parse.Goals as goal

pub returns-in_err-parse_link_layer_addr-in-NeighborSolicit-clause-only : goal.returns-in_err-parse_link_layer_addr-in-NeighborSolicit-clause-only
returns-in_err-parse_link_layer_addr-in-NeighborSolicit-clause-only c = λ m is.
    let s = IsNdisc-solicits (bytes_of c.args.packet.now) _ c.target_addr.result m (sym c.msg_type.ensures.kind ∙
    c.in-NeighborSolicit.is) c.payload.ensures c.target_addr.ensures is in
    let no = (c.in_err-parse_link_layer_addr-in-NeighborSolicit.ensures.only s.link s.has).0 in
    absurd (cc no)

pub returns-in_err-parse_link_layer_addr-in-NeighborAdvert-clause-only : goal.returns-in_err-parse_link_layer_addr-in-NeighborAdvert-clause-only
returns-in_err-parse_link_layer_addr-in-NeighborAdvert-clause-only c = λ m is.
    let s = IsNdisc-advertises (bytes_of c.args.packet.now) _ c.neighbor_flags.result c.target_addr-in-NeighborAdvert.result m (sym c.msg_type.ensures.kind ∙
    c.in-NeighborAdvert.is) c.payload-in-NeighborAdvert.ensures c.neighbor_flags.ensures c.target_addr-in-NeighborAdvert.ensures is in
    let no = (c.in_err-parse_link_layer_addr-in-NeighborAdvert.ensures.only s.link s.has).0 in
    absurd (cc no)

pub returns-in_ok-parse_link_layer_addr-in-NeighborSolicit-clause-only : goal.returns-in_ok-parse_link_layer_addr-in-NeighborSolicit-clause-only
returns-in_ok-parse_link_layer_addr-in-NeighborSolicit-clause-only c = λ m is.
    let s = IsNdisc-solicits (bytes_of c.args.packet.now) _ c.target_addr.result m (sym c.msg_type.ensures.kind ∙
    c.in-NeighborSolicit.is) c.payload.ensures c.target_addr.ensures is in
    let same = (c.in_ok-parse_link_layer_addr-in-NeighborSolicit.ensures.only s.link s.has).1 in
    (refl, ap (Solicitation c.target_addr.result) same ∙ s.is)

pub returns-in_ok-parse_link_layer_addr-in-NeighborAdvert-clause-only : goal.returns-in_ok-parse_link_layer_addr-in-NeighborAdvert-clause-only
returns-in_ok-parse_link_layer_addr-in-NeighborAdvert-clause-only c = λ m is.
    let s = IsNdisc-advertises (bytes_of c.args.packet.now) _ c.neighbor_flags.result c.target_addr-in-NeighborAdvert.result m (sym c.msg_type.ensures.kind ∙
    c.in-NeighborAdvert.is) c.payload-in-NeighborAdvert.ensures c.neighbor_flags.ensures c.target_addr-in-NeighborAdvert.ensures is in
    let same = (c.in_ok-parse_link_layer_addr-in-NeighborAdvert.ensures.only s.link s.has).1 in
    (refl, ap (Advertisement c.neighbor_flags.result c.target_addr-in-NeighborAdvert.result) same ∙ s.is)
