-- Bytes that name neither TCP nor UDP.
use Rattle.std.proofs.Common.{◌≡◌, ℕ, ◌+◌, Bool, true, false, ◌&&◌, ◌||◌, eqb, List, slice_index, drop, arith, refl, sym, ◌∙◌, ap, subst}
use Rattle.std.proofs.lemmas.Bool.Decides.{nat_tests}
use Rattle.std.proofs.lemmas.List.{get_or-drop}
use Rattle.wire_address.specs.Protocol.{protocol_number, protocol_of, ether_number, ether_of}
use Rattle.wire_address.specs.declared.ip.IpProtocol.{IpProtocol}
use Rattle.wire_address.proofs.Numbers.{protocol_number-protocol_of, ether_number-ether_of}
use Rattle.wire_ip.specs.Ipv6.{payload_of}
use Rattle.wire_ipv6_headers.specs.Headers.{go_through, upper_of, is_fragment}
use Rattle.wire_ipv6_headers.specs.declared.headers.Following.{Following}
use Rattle.sim_link.specs.PacketInFrame.{IsNeither, IsNeitherFollowing, is_tcp_or_udp, has_ports, may_have_ports}

number_is : (n m : ℕ) (p : IpProtocol) → p ≡ protocol_of n → protocol_number p ≡ m → n ≡ m
number_is n m p is number = sym (protocol_number-protocol_of n) ∙ ap protocol_number (sym is) ∙ number

not_six : (n : ℕ) → is_tcp_or_udp n ≡ false → n ≡ 6 → false ≡ true
not_six n none is = sym none ∙ rw is refl

not_seventeen : (n : ℕ) → is_tcp_or_udp n ≡ false → n ≡ 17 → false ≡ true
not_seventeen n none is = sym none ∙ rw is refl

no_truth : false ≡ true → ⊥
no_truth same = cc

pub neither : (n : ℕ) (p : IpProtocol) → is_tcp_or_udp n ≡ false → p ≡ protocol_of n → IsNeither p
neither n p none is = (
  λ tcp. no_truth (not_six n none (number_is n 6 p is (ap protocol_number tcp))),
  λ udp. no_truth (not_seventeen n none (number_is n 17 p is (ap protocol_number udp))),
)

-- a protocol after extension headers that has no ports
pub no_ports : (p : IpProtocol) → has_ports p ≡ false → IsNeither p
no_ports p none = (λ tcp. no_truth (sym none ∙ ap has_ports tcp), λ udp. no_truth (sym none ∙ ap has_ports udp))

-- of two alternatives that don't hold, the one whose condition does
left_none : (test : Bool) (named other : Bool) → test ≡ true → (test && named) || other ≡ false → named ≡ false
left_none true true other is none = cc
left_none true false other is none = refl
left_none false named other is none = cc

right_none : (test : Bool) (named other : Bool) → test ≡ true → other || (test && named) ≡ false → named ≡ false
right_none true true true is none = cc
right_none true true false is none = cc
right_none true false other is none = refl
right_none false named other is none = cc

same_number : (n m : ℕ) → n ≡ m → eqb n m ≡ true
same_number n m is = grind (arith, nat_tests)

pub neither_first : (n m protocol : ℕ) (other : Bool) (p : IpProtocol) → n ≡ m → (eqb n m && is_tcp_or_udp protocol) || other ≡ false →
    p ≡ protocol_of protocol → IsNeither p
neither_first n m protocol other p is none of = neither protocol p (left_none (eqb n m) (is_tcp_or_udp protocol) other (same_number n m is) none) of

left_false : (x y : Bool) → x || y ≡ false → x ≡ false
left_false true y none = cc
left_false false y none = refl

right_false : (x y : Bool) → x || y ≡ false → y ≡ false
right_false true y none = cc
right_false false y none = none

-- nothing after extension headers that has ports, or may have them
pub neither_there : (b : Following) → may_have_ports b ≡ false → IsNeitherFollowing b
neither_there b none =
    (no_ports (upper_of b) (left_false (has_ports (upper_of b)) (is_fragment b) none), right_false (has_ports (upper_of b)) (is_fragment b) none)

pub neither_second : (n m : ℕ) (other : Bool) (b : Following) → n ≡ m → other || (eqb n m && may_have_ports b) ≡ false → IsNeitherFollowing b
neither_second n m other b is none = neither_there b (right_none (eqb n m) (may_have_ports b) other (same_number n m is) none)

-- what stands after extension headers, by the header that the packet's names
pub following_named : (packet : List ℕ) (p : IpProtocol) → p ≡ protocol_of (slice_index packet 6)
    → IsNeitherFollowing (go_through (protocol_of (slice_index packet 6)) (payload_of packet)) → IsNeitherFollowing (go_through p (payload_of packet))
following_named packet p is there = subst (λ (q : IpProtocol). IsNeitherFollowing (go_through q (payload_of packet))) (sym is) there

-- an EtherType is told by its number
pub ether_is : (n m : ℕ) → ether_of n ≡ ether_of m → n ≡ m
ether_is n m same = sym (ether_number-ether_of n) ∙ ap ether_number same ∙ ether_number-ether_of m

-- a byte after the link header
pub byte_following : (bytes : List ℕ) (n i : ℕ) → slice_index (drop n bytes) i ≡ slice_index bytes (n + i)
byte_following bytes n i = get_or-drop n bytes i 0
