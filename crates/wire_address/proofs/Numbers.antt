-- Numbers that name protocols and operations.
use Rattle.std.proofs.Common.{◌≡◌, ℕ, refl, sym, ◌∙◌, ap, inl, inr}
use Rattle.std.specs.Prelude.{◌==◌, if◌then◌else◌}
use Rattle.std.proofs.lemmas.Bool.Decides.{eqb_tells}
use Rattle.wire_address.specs.Protocol.{ether_number, ether_of, protocol_number, protocol_of}
use Rattle.wire_address.specs.declared.ethernet.EthernetProtocol.TheVariants as Ether
use Rattle.wire_address.specs.declared.ip.IpProtocol.{IpProtocol}
use Rattle.wire_address.specs.declared.ip.IpProtocol.TheVariants as Ip

-- one test of the number n: what is chosen has it, where what each branch gives has it
pub step : {A : Type 0} (number : A → ℕ) (n k : ℕ) (p q : A) → number p ≡ k → number q ≡ n → number (if n == k then p else q) ≡ n
step number n k p q is other = elim (eqb_tells n k) [ inl hit ↦ rw hit.0 (is ∙ sym hit.1) | inr miss ↦ rw miss.0 other ]

-- what an Ethernet frame of a number carries has that number
pub ether_number-ether_of : (n : ℕ) → ether_number (ether_of n) ≡ n
ether_number-ether_of n =
    step ether_number n 0x0800 Ether.Ipv4 _ refl
    (step ether_number n 0x0806 Ether.Arp _ refl (step ether_number n 0x86dd Ether.Ipv6 (Ether.Unknown n) refl refl))

-- what an IP packet of a number carries has that number
pub protocol_number-protocol_of : (n : ℕ) → protocol_number (protocol_of n) ≡ n
protocol_number-protocol_of n =
    let next = step protocol_number n in
    next 0x00 Ip.HopByHop _ refl (next 0x01 Ip.Icmp _ refl (next 0x02 Ip.Igmp _ refl (next 0x06 Ip.Tcp _ refl (
    next 0x11 Ip.Udp _ refl (next 0x2b Ip.Ipv6Route _ refl (next 0x2c Ip.Ipv6Frag _ refl (next 0x32 Ip.IpSecEsp _ refl (
    next 0x33 Ip.IpSecAh _ refl (next 0x3a Ip.Icmpv6 _ refl (next 0x3b Ip.Ipv6NoNxt _ refl (next 0x3c Ip.Ipv6Opts (Ip.Unknown n) refl refl)))))))))))

-- a protocol that was named by its number is named by it again
pub protocol_of-again : (p : IpProtocol) → protocol_of (protocol_number (protocol_of (protocol_number p))) ≡ protocol_of (protocol_number p)
protocol_of-again p = ap protocol_of (protocol_number-protocol_of (protocol_number p))
