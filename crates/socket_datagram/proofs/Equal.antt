-- When metadata, endpoints and errors are equal.
use Rattle.std.proofs.Common.{rules, ◌≡◌, ℕ, Bool, true, Option, Some, None, List, refl, ap}
use Rattle.std.specs.Bool.{Decides}
use Rattle.std.specs.Option.{option_eq}
use Rattle.std.proofs.lemmas.Bool.Decides.{Decides-and, Decides-eqb}
use Rattle.std.proofs.lemmas.Slice.Eq.{bytes_eq-Decides}
use Rattle.wire_address.specs.contracts.ip.IpAddressPartialEq.TheImpl as Addresses
use Rattle.wire_address.specs.contracts.ip.IpEndpointPartialEq.TheImpl as Endpoints
use Rattle.wire_address.specs.contracts.ip.IpListenEndpointPartialEq.TheImpl as Listening
use Rattle.wire_address.specs.declared.ip.IpAddress.{IpAddress}
use Rattle.wire_address.specs.declared.ip.IpAddress.TheVariants as Address
use Rattle.wire_address.specs.declared.ip.IpEndpoint.{IpEndpoint}
use Rattle.wire_address.specs.declared.ip.IpListenEndpoint.{IpListenEndpoint}
use Rattle.socket_datagram.specs.contracts.error.BindErrorPartialEq.TheImpl as Bind
use Rattle.socket_datagram.specs.contracts.error.RecvErrorPartialEq.TheImpl as Recv
use Rattle.socket_datagram.specs.contracts.error.SendErrorPartialEq.TheImpl as Send
use Rattle.socket_datagram.specs.contracts.icmp.EndpointPartialEq.TheImpl as Icmp
use Rattle.socket_datagram.specs.contracts.udp.UdpMetadataPartialEq.TheImpl as Udp
use Rattle.socket_datagram.specs.declared.error.BindError.{BindError}
use Rattle.socket_datagram.specs.declared.error.RecvError.{RecvError}
use Rattle.socket_datagram.specs.declared.error.SendError.{SendError}
use Rattle.socket_datagram.specs.declared.icmp.Endpoint.{Endpoint}
use Rattle.socket_datagram.specs.declared.icmp.Endpoint.TheVariants as Bound
use Rattle.socket_datagram.specs.declared.udp.UdpMetadata.{UdpMetadata}

both : {P Q : Type 0} → P → Q → P × Q
both p q = (p, q)

pub Decides-bind : (a b : BindError) → Decides (Bind.ghosts.eq a b) (a ≡ b)
Decides-bind a b = search rules

pub Decides-send : (a b : SendError) → Decides (Send.ghosts.eq a b) (a ≡ b)
Decides-send a b = search rules

pub Decides-recv : (a b : RecvError) → Decides (Recv.ghosts.eq a b) (a ≡ b)
Decides-recv a b = search rules

Decides-address : (a b : IpAddress) → Decides (Addresses.ghosts.eq a b) (a ≡ b)
Decides-address (Address.Ipv4 a) (Address.Ipv4 b) =
    let same = bytes_eq-Decides a.0 b.0 in
    let make : List ℕ → IpAddress = λ octets. Address.Ipv4 (record { 0 = octets }) in
    (λ yes. ap make (same.0 yes), λ e. same.1 (cc))
Decides-address (Address.Ipv6 a) (Address.Ipv6 b) =
    let same = bytes_eq-Decides a.0 b.0 in
    let make : List ℕ → IpAddress = λ octets. Address.Ipv6 (record { 0 = octets }) in
    (λ yes. ap make (same.0 yes), λ e. same.1 (cc))
Decides-address a b = (λ yes. absurd (cc), λ e. absurd (cc))

Decides-option : (a b : Option IpAddress) → Decides (option_eq (λ x y. Addresses.ghosts.eq x y) a b) (a ≡ b)
Decides-option None None = (λ _. refl, λ _. refl)
Decides-option None (Some b) = (λ yes. absurd (cc), λ e. absurd (cc))
Decides-option (Some a) None = (λ yes. absurd (cc), λ e. absurd (cc))
Decides-option (Some a) (Some b) = let same = Decides-address a b in (λ yes. ap Some (same.0 yes), λ e. same.1 (cc))

Decides-endpoint : (a b : IpEndpoint) → Decides (Endpoints.ghosts.eq a b) (a ≡ b)
Decides-endpoint a b =
    let same = Decides-and _ _ (Decides-address a.addr b.addr) (Decides-eqb a.port b.port) in (
      λ yes. λ i. record { addr = (same.0 yes).0 i; port = (same.0 yes).1 i },
      λ e. same.1 (both (ap (λ (v : IpEndpoint). v.addr) e) (ap (λ (v : IpEndpoint). v.port) e)),
    )

Decides-listening : (a b : IpListenEndpoint) → Decides (Listening.ghosts.eq a b) (a ≡ b)
Decides-listening a b =
    let same = Decides-and _ _ (Decides-option a.addr b.addr) (Decides-eqb a.port b.port) in (
      λ yes. λ i. record { addr = (same.0 yes).0 i; port = (same.0 yes).1 i },
      λ e. same.1 (both (ap (λ (v : IpListenEndpoint). v.addr) e) (ap (λ (v : IpListenEndpoint). v.port) e)),
    )

-- the endpoints of ICMP sockets are compared whole
pub Decides-icmp : (a b : Endpoint) → Decides (Icmp.ghosts.eq a b) (a ≡ b)
Decides-icmp Bound.Unspecified Bound.Unspecified = (λ _. refl, λ _. refl)
Decides-icmp (Bound.Ident n) (Bound.Ident m) = let same = Decides-eqb n m in (λ yes. ap Bound.Ident (same.0 yes), λ e. same.1 (cc))
Decides-icmp (Bound.Tcp a) (Bound.Tcp b) = let same = Decides-listening a b in (λ yes. ap Bound.Tcp (same.0 yes), λ e. same.1 (cc))
Decides-icmp (Bound.Udp a) (Bound.Udp b) = let same = Decides-listening a b in (λ yes. ap Bound.Udp (same.0 yes), λ e. same.1 (cc))
Decides-icmp a b = (λ yes. absurd (cc), λ e. absurd (cc))

Decides-meta : Decides true (Unit {0})
Decides-meta = (λ _. tt, λ _. refl)

-- metadata has nothing alongside its endpoint and its address
pub Decides-metadata : (a b : UdpMetadata) → Decides (Udp.ghosts.eq a b) (a ≡ b)
Decides-metadata a b =
    let same = Decides-and _ _ (Decides-endpoint a.endpoint b.endpoint) (Decides-and _ _ (Decides-option a.local_address b.local_address) Decides-meta) in (
      λ yes. λ i. record { endpoint = (same.0 yes).0 i; local_address = (same.0 yes).1.0 i; meta = record {} },
      λ e. same.1 (both (ap (λ (v : UdpMetadata). v.endpoint) e) (both (ap (λ (v : UdpMetadata). v.local_address) e) tt)),
    )
