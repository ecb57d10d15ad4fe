-- A message that was read is taken.
use Rattle.std.proofs.Common.{◌≡◌, inl, ℕ, Bool, true, ℤ, List, Option, sym, ap, ◌∙◌, subst}
use Rattle.ip_wire.specs.IpRepr.{IpRepr}
use Rattle.ip_wire.specs.IpRepr.TheVariants as Ip
use Rattle.ip_wire.specs.Ipv4Cidr.{Ipv4Cidr}
use Rattle.ip_wire.specs.Ipv4Repr.{Ipv4Repr}
use Rattle.ip_wire.specs.UdpRepr.{UdpRepr}
use Rattle.wire_dhcp.specs.Dhcp.{IsDhcp}
use Rattle.wire_dhcp.specs.declared.repr.DhcpRepr.{DhcpRepr}
use Rattle.socket_datagram.specs.DhcpClient.Answers.{told, ProcessedFrom, Processed}
use Rattle.socket_datagram.specs.DhcpClient.Leases.{IsCidrOf}
use Rattle.socket_datagram.specs.DhcpClient.Value.{DhcpValue, accepts, unoffered}

by_v4 : (now : ℤ) (v v' : DhcpValue) (header : Ipv4Repr) (repr : UdpRepr) (payload : List ℕ) (message : DhcpRepr) (cidr : Option Ipv4Cidr)
    → accepts v (Ip.Ipv4 header) repr ≡ true → IsDhcp payload message → IsCidrOf message cidr → v' ≡ told now header.src_addr (unoffered v) message cidr
    → Processed now v (Ip.Ipv4 header) repr payload v'
by_v4 now v v' header repr payload message cidr accepted read network is =
    subst (λ (t : Bool). ProcessedFrom t now v (Ip.Ipv4 header) payload v') (sym accepted)
    (inl (record { message = message; cidr = cidr; read = read; network = network; taken = is }))

pub taken : (now : ℤ) (v w v' : DhcpValue) (ip : IpRepr) (header : Ipv4Repr) (repr : UdpRepr) (payload : List ℕ) (message : DhcpRepr) (cidr : Option Ipv4Cidr)
    → w ≡ unoffered v → accepts w ip repr ≡ true → ip ≡ Ip.Ipv4 header → IsDhcp payload message → IsCidrOf message cidr
    → v' ≡ told now header.src_addr w message cidr → Processed now v ip repr payload v'
taken now v w v' ip header repr payload message cidr same accepted is read network done =
    let there : accepts (unoffered v) ip repr ≡ true = subst (λ (u : DhcpValue). accepts u ip repr ≡ true) same accepted in
    let at_v4 : accepts v (Ip.Ipv4 header) repr ≡ true = subst (λ (i : IpRepr). accepts v i repr ≡ true) is there in
    let from : v' ≡ told now header.src_addr (unoffered v) message cidr = done ∙ ap (λ (u : DhcpValue). told now header.src_addr u message cidr) same in
    subst (λ (i : IpRepr). Processed now v i repr payload v') (sym is) (by_v4 now v v' header repr payload message cidr at_v4 read network from)
