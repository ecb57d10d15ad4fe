-- The texts of headers, field by field.
use Rattle.std.specs.Prelude.{ℕ, Bool, if◌then◌else◌, Option, Some, None, List, [], ◌++◌, codes, decimal}
use Rattle.std.specs.List.{flat_map}
use Rattle.std.specs.Net.Addr.{segments_of}
use Rattle.std.specs.Net.Text.{ipv4_text, ipv6_text}
use Rattle.ip_wire.specs.Text.{ethernet_text, raw_hardware_text}
use Rattle.ip_wire.specs.Hardware.{raw_bytes}
use Rattle.ip_wire.specs.RawHardwareAddress.{RawHardwareAddress}
use Rattle.ip_wire.specs.declared.ethernet.repr.EthernetRepr.{EthernetRepr}
use Rattle.ip_wire.specs.declared.arp.repr.ArpRepr.{ArpRepr}
use Rattle.ip_wire.specs.declared.arp.repr.ArpRepr.TheVariants as Arp
use Rattle.ip_wire.specs.Ipv4Repr.{Ipv4Repr}
use Rattle.ip_wire.specs.Ipv6Repr.{Ipv6Repr}
use Rattle.ip_wire.specs.declared.ipv6_fragment.repr.Ipv6FragmentRepr.{Ipv6FragmentRepr}
use Rattle.ip_wire.specs.UdpRepr.{UdpRepr}
use Rattle.ip_wire.specs.SeqNumber.{SeqNumber}
use Rattle.ip_wire.specs.TcpControl.{TcpControl}
use Rattle.ip_wire.specs.TcpControl.TheVariants as Control
use Rattle.ip_wire.specs.TcpOptions.{TcpOptions}
use Rattle.ip_wire.specs.TcpTimestampRepr.{TcpTimestampRepr}
use Rattle.ip_wire.specs.TcpHeader.{TcpHeader}
use Rattle.control_wire.specs.Icmpv4Header.{Icmpv4Header}
use Rattle.control_wire.specs.Icmpv4Header.TheVariants as Icmpv4
use Rattle.control_wire.specs.Icmpv6Header.{Icmpv6Header}
use Rattle.control_wire.specs.Icmpv6Header.TheVariants as Icmpv6
use Rattle.control_wire.specs.NdiscRepr.{NdiscRepr}
use Rattle.control_wire.specs.NdiscRepr.TheVariants as Ndisc
use Rattle.control_wire.specs.NdiscNeighborFlags.{NdiscNeighborFlags}
use Rattle.wire_print.specs.Names.{ether_text, operation_text, protocol_text, unreachable4_text, exceeded4_text, unreachable6_text, exceeded6_text}
use Rattle.wire_print.specs.Names.{problem_text}

-- letters where a flag is set
abbrev pub where_set : Bool → List ℕ → List ℕ
where_set flag letters = if flag then letters else []

-- LINKS

abbrev pub ethernet_header_text : EthernetRepr → List ℕ
ethernet_header_text v = ethernet_text v.src_addr.0 ++ (codes " > " ++ (ethernet_text v.dst_addr.0 ++ (codes ", " ++ ether_text v.ethertype)))

abbrev pub arp_text : ArpRepr → List ℕ
arp_text (Arp.EthernetIpv4 operation source_hardware source target_hardware target) =
    operation_text operation ++ (codes ", "
    ++ (ipv4_text source.0 ++ (codes " at " ++ (ethernet_text source_hardware.0 ++ (codes " to "
    ++ (ipv4_text target.0 ++ (codes " at " ++ ethernet_text target_hardware.0)))))))

-- IP

abbrev pub ipv4_header_text : Ipv4Repr → List ℕ
ipv4_header_text v =
    ipv4_text v.src_addr.0 ++ (codes " > " ++ (ipv4_text v.dst_addr.0 ++ (codes ", " ++ (protocol_text v.next_header
    ++ (codes ", ttl " ++ (decimal v.hop_limit ++ (codes ", id " ++ (decimal v.ident
    ++ (where_set v.dont_frag (codes ", DF") ++ (codes ", payload " ++ decimal v.payload_len))))))))))

abbrev pub ipv6_header_text : Ipv6Repr → List ℕ
ipv6_header_text v =
    ipv6_text (segments_of v.src_addr.0) ++ (codes " > " ++ (ipv6_text (segments_of v.dst_addr.0) ++ (codes ", " ++ (protocol_text v.next_header
    ++ (codes ", hops " ++ (decimal v.hop_limit ++ (codes ", payload " ++ decimal v.payload_len)))))))

abbrev pub fragment_text : Ipv6FragmentRepr → List ℕ
fragment_text v =
    codes "id " ++ (decimal v.ident ++ (codes ", offset " ++ (decimal v.frag_offset ++ where_set v.more_frags (codes ", more"))))

-- UDP

abbrev pub udp_text : UdpRepr → List ℕ
udp_text v = decimal v.src_port ++ (codes " > " ++ decimal v.dst_port)

-- TCP

abbrev pub control_text : TcpControl → List ℕ
control_text Control.None = []
control_text Control.Psh = codes "P"
control_text Control.Syn = codes "S"
control_text Control.Fin = codes "F"
control_text Control.Rst = codes "R"

abbrev pub ack_mark : Option SeqNumber → List ℕ
ack_mark None = []
ack_mark (Some n) = codes "."

abbrev pub ack_text : Option SeqNumber → List ℕ
ack_text None = []
ack_text (Some n) = codes ", ack " ++ decimal n.0

abbrev pub size_text : Option ℕ → List ℕ
size_text None = []
size_text (Some n) = codes ", mss " ++ decimal n

abbrev pub scale_text : Option ℕ → List ℕ
scale_text None = []
scale_text (Some n) = codes ", wscale " ++ decimal n

abbrev pub stamp_text : Option TcpTimestampRepr → List ℕ
stamp_text None = []
stamp_text (Some t) = codes ", TS val " ++ (decimal t.tsval ++ (codes " ecr " ++ decimal t.tsecr))

-- a range of numbers that came after a gap: its first sequence number, and the one after its last
abbrev pub range_text : Option (ℕ × ℕ) → List ℕ
range_text None = []
range_text (Some r) = codes ", sack " ++ (decimal r.0 ++ (codes ":" ++ decimal r.1))

abbrev pub options_text : TcpOptions → List ℕ
options_text v =
    size_text v.max_seg_size ++ (scale_text v.window_scale ++ (where_set v.sack_permitted (codes ", sackOK")
    ++ (flat_map range_text v.sack_ranges ++ stamp_text v.timestamp)))

abbrev pub tcp_text : TcpHeader → List ℕ
tcp_text v =
    decimal v.src_port ++ (codes " > " ++ (decimal v.dst_port ++ (codes ", flags [" ++ (control_text v.control
    ++ (ack_mark v.ack_number ++ (codes "], seq " ++ (decimal v.seq_number.0 ++ (ack_text v.ack_number
    ++ (codes ", win " ++ (decimal v.window_len ++ options_text v.options))))))))))

-- CONTROL MESSAGES

-- the numbers of an echo
abbrev pub echo_text : ℕ → ℕ → List ℕ
echo_text ident seq_no = decimal ident ++ (codes ", seq " ++ decimal seq_no)

abbrev pub icmpv4_text : Icmpv4Header → List ℕ
icmpv4_text (Icmpv4.EchoRequest ident seq_no) = codes "echo request, id " ++ echo_text ident seq_no
icmpv4_text (Icmpv4.EchoReply ident seq_no) = codes "echo reply, id " ++ echo_text ident seq_no
icmpv4_text (Icmpv4.DstUnreachable reason header) =
    codes "unreachable, " ++ (unreachable4_text reason ++ (codes ", of [" ++ (ipv4_header_text header ++ codes "]")))
icmpv4_text (Icmpv4.TimeExceeded reason header) =
    codes "time exceeded, " ++ (exceeded4_text reason ++ (codes ", of [" ++ (ipv4_header_text header ++ codes "]")))

-- a link address of a neighbour
abbrev pub link_text : Option RawHardwareAddress → List ℕ
link_text None = []
link_text (Some a) = codes ", link " ++ raw_hardware_text (raw_bytes a)

abbrev pub flags_text : NdiscNeighborFlags → List ℕ
flags_text f = where_set f.router (codes "R") ++ (where_set f.solicited (codes "S") ++ where_set f.overrides (codes "O"))

abbrev pub ndisc_text : NdiscRepr → List ℕ
ndisc_text (Ndisc.NeighborSolicit target link) = codes "neighbor solicitation, target " ++ (ipv6_text (segments_of target.0) ++ link_text link)
ndisc_text (Ndisc.NeighborAdvert flags target link) =
    codes "neighbor advertisement, flags [" ++ (flags_text flags ++ (codes "], target " ++ (ipv6_text (segments_of target.0) ++ link_text link)))

abbrev pub icmpv6_text : Icmpv6Header → List ℕ
icmpv6_text (Icmpv6.DstUnreachable reason header) =
    codes "unreachable, " ++ (unreachable6_text reason ++ (codes ", of [" ++ (ipv6_header_text header ++ codes "]")))
icmpv6_text (Icmpv6.PktTooBig mtu header) =
    codes "packet too big, mtu " ++ (decimal mtu ++ (codes ", of [" ++ (ipv6_header_text header ++ codes "]")))
icmpv6_text (Icmpv6.TimeExceeded reason header) =
    codes "time exceeded, " ++ (exceeded6_text reason ++ (codes ", of [" ++ (ipv6_header_text header ++ codes "]")))
icmpv6_text (Icmpv6.ParamProblem reason pointer header) =
    codes "parameter problem, " ++ (problem_text reason ++ (codes " at " ++ (decimal pointer ++ (codes ", of [" ++ (ipv6_header_text header ++ codes "]")))))
icmpv6_text (Icmpv6.EchoRequest ident seq_no) = codes "echo request, id " ++ echo_text ident seq_no
icmpv6_text (Icmpv6.EchoReply ident seq_no) = codes "echo reply, id " ++ echo_text ident seq_no
icmpv6_text (Icmpv6.Ndisc message) = ndisc_text message
