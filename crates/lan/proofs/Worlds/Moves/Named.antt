-- The protocol that a header names, and the same as a reader tells it.
use Rattle.std.proofs.Common.{◌≡◌, ◌⊎◌, inl, inr, sym, ap, ◌∙◌}
use Rattle.wire_address.specs.Protocol.{protocol_of, protocol_number}
use Rattle.iface_ingress.specs.IpProtocol.{IpProtocol}
use Rattle.iface_ingress.specs.IpProtocol.TheVariants as Protocol

-- by its number
abbrev pub told : IpProtocol → IpProtocol
told p = protocol_of (protocol_number p)

-- a header that names another protocol isn't told as one with ports
pub not_icmp : (p : IpProtocol) → p ≡ Protocol.Icmp → (told p ≡ Protocol.Tcp) ⊎ (told p ≡ Protocol.Udp) → ⊥
not_icmp p is (inl tcp) = let clash : Protocol.Icmp ≡ Protocol.Tcp = ap told (sym is) ∙ tcp in cc
not_icmp p is (inr udp) = let clash : Protocol.Icmp ≡ Protocol.Udp = ap told (sym is) ∙ udp in cc

pub not_icmpv6 : (p : IpProtocol) → p ≡ Protocol.Icmpv6 → (told p ≡ Protocol.Tcp) ⊎ (told p ≡ Protocol.Udp) → ⊥
not_icmpv6 p is (inl tcp) = let clash : Protocol.Icmpv6 ≡ Protocol.Tcp = ap told (sym is) ∙ tcp in cc
not_icmpv6 p is (inr udp) = let clash : Protocol.Icmpv6 ≡ Protocol.Udp = ap told (sym is) ∙ udp in cc

pub not_udp : (p : IpProtocol) → p ≡ Protocol.Udp → told p ≡ Protocol.Tcp → ⊥
not_udp p is tcp = let clash : Protocol.Udp ≡ Protocol.Tcp = ap told (sym is) ∙ tcp in cc

pub not_tcp : (p : IpProtocol) → p ≡ Protocol.Tcp → told p ≡ Protocol.Udp → ⊥
not_tcp p is udp = let clash : Protocol.Tcp ≡ Protocol.Udp = ap told (sym is) ∙ udp in cc
