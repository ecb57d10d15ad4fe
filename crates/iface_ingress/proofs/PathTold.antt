-- What a message that tells of a path leaves of a host.
use Rattle.std.proofs.Common.{◌≡◌, ℕ, ◌<◌, Bool, true, false, ◌&&◌, if◌then◌else◌, List, [], ◌∷◌, length, Some, refl, sym, subst, ap, ◌∙◌, arith}
use Rattle.std.specs.Prelude.{nat_le, nat_lt, ◌==◌, find}
use Rattle.std.proofs.lemmas.Bool.Decides.{nat_tests}
use Rattle.wire_icmpv4.specs.declared.header.Icmpv4Header.{Icmpv4Header}
use Rattle.wire_icmpv4.specs.declared.header.Icmpv4Header.TheVariants as V4
use Rattle.wire_icmpv6.specs.Icmpv6 as Icmpv6
use Rattle.wire_icmpv6.specs.Icmpv6.{MessageValue}
use Rattle.wire_address.specs.Fields.{be16}
use Rattle.ip_wire.specs.IpAddress.{IpAddress}
use Rattle.ip_wire.specs.IpAddress.TheVariants as Address
use Rattle.ip_wire.specs.IpProtocol.{IpProtocol}
use Rattle.ip_wire.specs.IpProtocol.TheVariants as Protocol
use Rattle.iface_tables.specs.Inner.{InnerValue, is_local, with_path}
use Rattle.iface_ingress.specs.Delivered.{Slots}
use Rattle.iface_ingress.specs.PathTold.{was_sent, can_have_gone, told_host, needs_cut, told_by, or_lowest, plateau_below, plateaus, path_host_v4, path_host_v6}

-- what holds of a host holds of it after such a message, if nothing that is told of a path changes it
module _ (P : InnerValue → Type 0) (i : InnerValue) (same : P i) (told : (address : IpAddress) (mtu : ℕ) → P (with_path i address mtu)) where
  told_so : (slots : Slots) (protocol : IpProtocol) (source destination : IpAddress) (bytes : List ℕ) (mtu : ℕ) →
      P (told_host i slots protocol source destination bytes mtu)
  told_so slots protocol source destination bytes mtu =
      elim (can_have_gone i slots protocol source destination bytes) as (λ b. P (if b then with_path i destination mtu else i)) [
        | true ↦ told destination mtu
        | false ↦ same
      ]

  pub path_v4_so : (slots : Slots) (message : List ℕ) (header : Icmpv4Header) (bytes : List ℕ) → P (path_host_v4 i slots message header bytes)
  path_v4_so slots message (V4.EchoRequest ident seq_no) bytes = same
  path_v4_so slots message (V4.EchoReply ident seq_no) bytes = same
  path_v4_so slots message (V4.TimeExceeded reason quoted) bytes = same
  path_v4_so slots message (V4.DstUnreachable reason quoted) bytes =
      elim (needs_cut reason && nat_le 12 (length message)) as (λ b. P (if b then told_host i slots quoted.next_header (Address.Ipv4 quoted.src_addr)
      (Address.Ipv4 quoted.dst_addr) bytes (told_by message) else i)) [
        | true ↦ told_so slots quoted.next_header (Address.Ipv4 quoted.src_addr) (Address.Ipv4 quoted.dst_addr) bytes (told_by message)
        | false ↦ same
      ]

  pub path_v6_so : (slots : Slots) (message : MessageValue) (bytes : List ℕ) → P (path_host_v6 i slots message bytes)
  path_v6_so slots (Icmpv6.DstUnreachable reason quoted) bytes = same
  path_v6_so slots (Icmpv6.PktTooBig mtu quoted) bytes =
      told_so slots quoted.next_header (Address.Ipv6 quoted.src_addr) (Address.Ipv6 quoted.dst_addr) bytes mtu
  path_v6_so slots (Icmpv6.TimeExceeded reason quoted) bytes = same
  path_v6_so slots (Icmpv6.ParamProblem reason pointer quoted) bytes = same
  path_v6_so slots (Icmpv6.EchoRequest ident seq_no) bytes = same
  path_v6_so slots (Icmpv6.EchoReply ident seq_no) bytes = same
  path_v6_so slots (Icmpv6.Ndisc message) bytes = same

-- FORGED MESSAGES

pub not_local : (i : InnerValue) (slots : Slots) (protocol : IpProtocol) (source destination : IpAddress) (bytes : List ℕ) (mtu : ℕ) →
    is_local i source ≡ false → told_host i slots protocol source destination bytes mtu ≡ i
not_local i slots protocol source destination bytes mtu none =
    ap (λ (b : Bool). if b && was_sent slots protocol source destination bytes then with_path i destination mtu else i) none

pub not_sent : (i : InnerValue) (slots : Slots) (protocol : IpProtocol) (source destination : IpAddress) (bytes : List ℕ) (mtu : ℕ) →
    was_sent slots protocol source destination bytes ≡ false → told_host i slots protocol source destination bytes mtu ≡ i
not_sent i slots protocol source destination bytes mtu none =
    ap (λ (b : Bool). if is_local i source && b then with_path i destination mtu else i) none ∙ never (is_local i source)
  where
    never : (local : Bool) → (if local && false then with_path i destination mtu else i) ≡ i
    never true = refl
    never false = refl

-- PLATEAUS

below : (p len : ℕ) → nat_lt p len ≡ true → p < len
below p len is = grind (arith, nat_tests)

-- whichever is found is below, and so is the lowest
found_lower : (len : ℕ) → 68 < len → (ps : List ℕ) → or_lowest (find (λ p. nat_lt p len) ps) < len
found_lower len long [] = long
found_lower len long (p ∷ ps) = by (nat_lt p len) refl (found_lower len long ps) where
  by : (b : Bool) → nat_lt p len ≡ b → or_lowest (find (λ q. nat_lt q len) ps) < len
      → or_lowest (if b then Some p else find (λ q. nat_lt q len) ps) < len
  by true is later = below p len is
  by false is later = later

pub plateau_lower : (message : List ℕ) → be16 message 6 ≡ 0 → 68 < be16 message 10 → told_by message < be16 message 10
plateau_lower message none long =
    subst (λ (n : ℕ). (if n == 0 then plateau_below (be16 message 10) else n) < be16 message 10) (sym none) (found_lower (be16 message 10) long plateaus)
