-- What a device says of itself is equal where each part is.
use Rattle.std.proofs.Common.{rules, ◌≡◌, ◌↔◌, IsTrue, ℕ, Bool, true, false, refl, ◌&&◌, nat_eq}
use denote.Enum.Bare.{sameb}
use Rattle.base_device.specs.contracts.capabilities.Checksum.{the_type}
use Rattle.base_device.specs.contracts.capabilities.Medium as medium
use Rattle.base_device.specs.declared.capabilities.Checksum.{Checksum}
use Rattle.base_device.specs.declared.capabilities.ChecksumCapabilities.{ChecksumCapabilities}
use Rattle.base_device.specs.declared.capabilities.DeviceCapabilities.{DeviceCapabilities}
use Rattle.base_device.specs.declared.capabilities.Medium.{Medium}

both : (p q : Bool) → IsTrue (p && q) → IsTrue p × IsTrue q
both true q e = (refl, e)
both false q e = absurd (let clash : false ≡ true = e in cc)

together : (p q : Bool) → IsTrue p → IsTrue q → IsTrue (p && q)
together true q e f = f
together false q e f = e

same_checksum : (a b : Checksum) → IsTrue (sameb the_type a b) ↔ (a ≡ b)
same_checksum a b = search rules

same_medium : (a b : Medium) → IsTrue (sameb medium.the_type a b) ↔ (a ≡ b)
same_medium a b = search rules

abbrev pub equal_checksums : ChecksumCapabilities → ChecksumCapabilities → Bool
equal_checksums a b =
    sameb the_type a.ipv4 b.ipv4
    && (sameb the_type a.udp b.udp && (sameb the_type a.tcp b.tcp && (sameb the_type a.icmpv4 b.icmpv4 && sameb the_type a.icmpv6 b.icmpv6)))

abbrev all_of : Checksum → Checksum → Checksum → Checksum → Checksum → ChecksumCapabilities
all_of ipv4 udp tcp icmpv4 icmpv6 = record { ipv4 = ipv4; udp = udp; tcp = tcp; icmpv4 = icmpv4; icmpv6 = icmpv6 }

same_number : (m n : ℕ) → IsTrue (nat_eq m n) → m ≡ n
same_number m n e = search rules

same_itself : (n : ℕ) → IsTrue (nat_eq n n)
same_itself n = search rules

pub same_checksums : (a b : ChecksumCapabilities) → IsTrue (equal_checksums a b) → a ≡ b
same_checksums a b e =
    let ipv4 = both _ _ e in
    let udp = both _ _ ipv4.1 in
    let tcp = both _ _ udp.1 in
    let icmp = both _ _ tcp.1 in
    let one = (same_checksum a.ipv4 b.ipv4).0 ipv4.0 in
    let two = (same_checksum a.udp b.udp).0 udp.0 in
    let three = (same_checksum a.tcp b.tcp).0 tcp.0 in
    let four = (same_checksum a.icmpv4 b.icmpv4).0 icmp.0 in
    let five = (same_checksum a.icmpv6 b.icmpv6).0 icmp.1 in
    let parts : all_of a.ipv4 a.udp a.tcp a.icmpv4 a.icmpv6 ≡ all_of b.ipv4 b.udp b.tcp b.icmpv4 b.icmpv6 = cc in
    parts

pub checksums_reflexive : (a : ChecksumCapabilities) → IsTrue (equal_checksums a a)
checksums_reflexive a =
    let one = (same_checksum a.ipv4 a.ipv4).1 refl in
    let two = (same_checksum a.udp a.udp).1 refl in
    let three = (same_checksum a.tcp a.tcp).1 refl in
    let four = (same_checksum a.icmpv4 a.icmpv4).1 refl in
    let five = (same_checksum a.icmpv6 a.icmpv6).1 refl in
    together _ _ one (together _ _ two (together _ _ three (together _ _ four five)))

abbrev pub equal_capabilities : DeviceCapabilities → DeviceCapabilities → Bool
equal_capabilities a b =
    sameb medium.the_type a.medium b.medium
    && (nat_eq a.max_transmission_unit b.max_transmission_unit && equal_checksums a.checksum b.checksum)

abbrev said : Medium → ℕ → ChecksumCapabilities → DeviceCapabilities
said medium mtu checksum = record { medium = medium; max_transmission_unit = mtu; checksum = checksum }

pub same_capabilities : (a b : DeviceCapabilities) → IsTrue (equal_capabilities a b) → a ≡ b
same_capabilities a b e =
    let medium = both _ _ e in
    let rest = both _ _ medium.1 in
    let one = (same_medium a.medium b.medium).0 medium.0 in
    let two : a.max_transmission_unit ≡ b.max_transmission_unit = same_number _ _ rest.0 in
    let three = same_checksums a.checksum b.checksum rest.1 in
    let parts : said a.medium a.max_transmission_unit a.checksum ≡ said b.medium b.max_transmission_unit b.checksum = cc in
    parts

pub capabilities_reflexive : (a : DeviceCapabilities) → IsTrue (equal_capabilities a a)
capabilities_reflexive a =
    let one = (same_medium a.medium a.medium).1 refl in
    let two : IsTrue (nat_eq a.max_transmission_unit a.max_transmission_unit) = same_itself _ in
    let three = checksums_reflexive a.checksum in
    together _ _ one (together _ _ two three)
