-- What arrives tells the key of whoever accepts it.
use Rattle.std.proofs.Common.{◌≡◌, ◌⊎◌, inl, inr, ℕ, ◌==◌, ◌&&◌, if◌then◌else◌, Bool, true, false, Option, Some, None, refl, sym, ap, ◌∙◌, arith}
use Rattle.std.proofs.lemmas.Bool.{and_parts}
use Rattle.ip_wire.specs.Ip.{destination_of, source_of}
use Rattle.ip_wire.specs.IpRepr.{IpRepr}
use Rattle.ip_wire.specs.TcpHeader.{TcpHeader}
use Rattle.ip_wire.specs.UdpRepr.{UdpRepr}
use Rattle.socket_context.specs.Context.{ContextValue}
use Rattle.tcp_block.specs.FourTuple.{FourTuple}
use Rattle.tcp_block.specs.Names.{accepts_in}
use Rattle.tcp_block.specs.States.{is_listening}
use Rattle.tcp_block.specs.Value.{TcpValue}
use Rattle.tcp_block.specs.declared.tcb.Tcb.{Tcb}
use Rattle.tcp_block.specs.Endpoints.{is_between, is_connected_by, local_of, remote_of}
use Rattle.ip_wire.specs.AddressTests.{is_same_address}
use Rattle.tcp_block.specs.State.{State}
use Rattle.tcp_block.specs.State.TheVariants as In
use Rattle.sockets.specs.Keys.{key_of, of_cidr, of_clients, of_listeners, of_pair, of_port, of_ports}
use Rattle.socket_datagram.specs.Udp as Udps
use Rattle.sockets.specs.Socket.{accepts_datagram, accepts_segment}
use Rattle.sockets.specs.declared.socket.Socket.{Socket}
use Rattle.sockets.specs.declared.socket.Socket.TheVariants as Kind

equal : (m n : ℕ) → (m == n) ≡ true → m ≡ n
equal m n so = grind (arith)

-- a connection's ports are those of its segments
pair_ports : (pair : Option FourTuple) (ip : IpRepr) (header : TcpHeader) → is_connected_by pair ip header ≡ true
    → of_pair pair ≡ of_ports header.dst_port header.src_port
pair_ports None ip header so = absurd cc
pair_ports (Some pair) ip header so =
    ap (λ (own : ℕ). of_ports own pair.remote_port)
    (equal pair.local_port header.dst_port (and_parts (pair.local_port == header.dst_port) (pair.remote_port == header.src_port) ports).0)
    ∙ ap (of_ports header.dst_port)
    (equal pair.remote_port header.src_port (and_parts (pair.local_port == header.dst_port) (pair.remote_port == header.src_port) ports).1) where
      ports : ((pair.local_port == header.dst_port) && (pair.remote_port == header.src_port)) ≡ true
      ports = (and_parts (is_same_address (remote_of pair.addresses) (source_of ip)) ((pair.local_port == header.dst_port) && (pair.remote_port == header.src_port))
          (and_parts (is_same_address (local_of pair.addresses) (destination_of ip))
          (is_same_address (remote_of pair.addresses) (source_of ip) && ((pair.local_port == header.dst_port) && (pair.remote_port == header.src_port))) so).1).1

-- a connection is found by both ports
connected : (state : State) (b : Tcb) (ip : IpRepr) (header : TcpHeader) → is_listening state ≡ false → accepts_in state b ip header ≡ true
    → of_pair b.names.pair ≡ of_ports header.dst_port header.src_port
connected In.Closed b ip header off so = absurd cc
connected In.Listen b ip header off so = absurd cc
connected other b ip header off so = pair_ports b.names.pair ip header so

-- a listener by its own
listening : (b : Tcb) (ip : IpRepr) (header : TcpHeader) → accepts_in In.Listen b ip header ≡ true
    → of_listeners b.names.listen.port ≡ of_listeners header.dst_port
listening b ip header so = ap of_listeners (equal b.names.listen.port header.dst_port (and_parts (b.names.listen.port == header.dst_port) _ so).0)

of_either : (b : Tcb) (ip : IpRepr) (header : TcpHeader) (state : State) → b.state ≡ state → accepts_in state b ip header ≡ true
    → (of_cidr b ≡ of_ports header.dst_port header.src_port) ⊎ (of_cidr b ≡ of_listeners header.dst_port)
of_either b ip header In.Listen is so = inr (ap (λ (t : State). if is_listening t then of_listeners b.names.listen.port else of_pair b.names.pair) is
    ∙ listening b ip header so)
of_either b ip header other is so = inl (ap (λ (t : State). if is_listening t then of_listeners b.names.listen.port else of_pair b.names.pair) is
    ∙ connected other b ip header refl so)

pub of_segment : (s : Socket) (ip : IpRepr) (header : TcpHeader) → accepts_segment s ip header ≡ true
    → (key_of s ≡ of_ports header.dst_port header.src_port) ⊎ (key_of s ≡ of_listeners header.dst_port)
of_segment (Kind.Tcp v) ip header so = of_either v.tcb ip header v.tcb.state refl so
of_segment other ip header so = absurd cc

pub of_connection : (v : TcpValue) (ip : IpRepr) (header : TcpHeader) → is_listening v.tcb.state ≡ false → accepts_segment (Kind.Tcp v) ip header ≡ true
    → key_of (Kind.Tcp v) ≡ of_ports header.dst_port header.src_port
of_connection v ip header off so =
    ap (λ (b : Bool). if b then of_listeners v.tcb.names.listen.port else of_pair v.tcb.names.pair) off
    ∙ connected v.tcb.state v.tcb ip header off so

pub of_datagram : (cx : ContextValue) (s : Socket) (ip : IpRepr) (udp : UdpRepr) → accepts_datagram cx s ip udp ≡ true
    → (key_of s ≡ of_port udp.dst_port) ⊎ (key_of s ≡ of_clients)
of_datagram cx (Kind.Udp v) ip udp so = inl (ap of_port (equal v.settings.endpoint.port udp.dst_port
    (and_parts (v.settings.endpoint.port == udp.dst_port) (Udps.takes_address cx v.settings.endpoint.addr (destination_of ip)) (and_parts (Udps.is_open v) _ so).1).0))
of_datagram cx (Kind.Dhcpv4 v) ip udp so = inr refl
of_datagram cx (Kind.Dns v) ip udp so = inr refl
of_datagram cx other ip udp so = absurd cc
