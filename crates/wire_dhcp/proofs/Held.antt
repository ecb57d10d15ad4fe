-- What options hold, written and read.
use Rattle.std.proofs.Common.{◌≡◌, ℕ, ◌+◌, ◌-◌, ◌<◌, ◌≤◌, ◌^◌, Bool, true, false, List, [], ◌∷◌, ◌++◌, length, take, drop, refl, sym, ◌∙◌, ap, subst, arith}
use Rattle.std.proofs.Common.{append_assoc, length-append}
use Rattle.std.specs.Prelude.{Option, Some, None, IsTrue, slice_range}
use Rattle.std.specs.Int.{w16, w32, to_be_bytes}
use Rattle.std.proofs.lemmas.Bool.{le-leb, lt-leb, eq-eqb}
use Rattle.std.proofs.lemmas.List.{take_at, drop_at, append-nil}
use Rattle.wire_address.specs.Fields.{IsNumber}
use Rattle.wire_address.specs.Address.{IsIpv4Address, IsEthernetAddress}
use Rattle.wire_address.specs.declared.ipv4.Ipv4Address.{Ipv4Address}
use Rattle.wire_address.specs.declared.ethernet.EthernetAddress.{EthernetAddress}
use Rattle.wire_dhcp.specs.MessageType.{type_of, type_number}
use Rattle.wire_dhcp.specs.declared.message_type.DhcpMessageType.{DhcpMessageType}
use Rattle.wire_dhcp.specs.declared.message_type.DhcpMessageType.TheVariants.{Discover, Offer, Request, Decline, Ack, Nak, Release, Inform}
use Rattle.wire_dhcp.specs.Values.{has_length, has_addresses, address_at, address_in, number16_in, number32_in, hardware_addr_in, servers_in}
use Rattle.wire_dhcp.specs.Written.{address_inside, number16_inside, number32_inside, hardware_addr_inside, addresses_bytes, addresses_inside}
use Rattle.wire_dhcp.specs.Normal.{IsAddress, IsHardwareAddr, AreServers, closed_up}
use Rattle.wire_dhcp.specs.Dhcp.{type_in}

-- the address of four bytes
abbrev address_of : List ℕ → Ipv4Address
address_of bytes = record { 0 = bytes }

-- an address between other bytes
address_at-part : (front rest : List ℕ) (a : Ipv4Address) (at : ℕ) → length front ≡ at → IsIpv4Address a → address_at (front ++ (a.0 ++ rest)) at ≡ Some a
address_at-part front rest a at len is =
    let room : at + 4 ≤ length (front ++ (a.0 ++ rest)) = omega (arith, len, is.0, length-append front (a.0 ++ rest), length-append a.0 rest) in
    let size : at + 4 - at ≡ 4 = omega arith in
    let part : slice_range (front ++ (a.0 ++ rest)) at (at + 4) ≡ a.0 =
    ap (λ n. take n (drop at (front ++ (a.0 ++ rest)))) size ∙ ap (take 4) (drop_at front (a.0 ++ rest) at len) ∙ take_at a.0 rest 4 is.0
    in
    rw (le-leb (at + 4) (length (front ++ (a.0 ++ rest))) room) (ap (λ xs. Some (address_of xs)) part)

-- no address after the end
address_at-none : (bytes : List ℕ) (at : ℕ) → length bytes < at + 4 → address_at bytes at ≡ None
address_at-none bytes at short = rw (lt-leb (at + 4) (length bytes) short) refl

pub address_in-inside : (address : Option Ipv4Address) → IsAddress address → address_in (address_inside address) ≡ address
address_in-inside None is = refl
address_in-inside (Some a) is = ap (λ xs. address_at xs 0) (sym (append-nil a.0)) ∙ address_at-part [] [] a 0 refl is

pub has_length-address : (address : Option Ipv4Address) → IsAddress address → has_length 4 (address_inside address) ≡ true
has_length-address None is = refl
has_length-address (Some a) is = eq-eqb (length a.0) 4 is.0

pub has_addresses-address : (address : Option Ipv4Address) → IsAddress address → has_addresses (address_inside address) ≡ true
has_addresses-address None is = refl
has_addresses-address (Some a) is = rw is.0 refl

pub number16_in-inside : (n : Option ℕ) → IsNumber (2 ^ 16) n → number16_in (number16_inside n) ≡ n
number16_in-inside None small = refl
number16_in-inside (Some n) small = ap Some (omega (arith, small))

pub has_length-number16 : (n : Option ℕ) → has_length 2 (number16_inside n) ≡ true
has_length-number16 None = refl
has_length-number16 (Some n) = refl

pub number32_in-inside : (n : Option ℕ) → IsNumber (2 ^ 32) n → number32_in (number32_inside n) ≡ n
number32_in-inside None small = refl
number32_in-inside (Some n) small = ap Some (omega (arith, small))

pub has_length-number32 : (n : Option ℕ) → has_length 4 (number32_inside n) ≡ true
has_length-number32 None = refl
has_length-number32 (Some n) = refl

pub hardware_addr_in-inside : (hardware_addr : Option EthernetAddress) → IsHardwareAddr hardware_addr → hardware_addr_in (hardware_addr_inside hardware_addr) ≡ hardware_addr
hardware_addr_in-inside None is = refl
hardware_addr_in-inside (Some s) is = rw is.0 refl

pub type_in-number : (t : DhcpMessageType) → type_in (Some (type_number t ∷ [])) ≡ Some t
type_in-number Discover = refl
type_in-number Offer = refl
type_in-number Request = refl
type_in-number Decline = refl
type_in-number Ack = refl
type_in-number Nak = refl
type_in-number Release = refl
type_in-number Inform = refl

-- lists of addresses
inside-some : (bytes : List ℕ) → 0 < length bytes → addresses_inside bytes ≡ Some bytes
inside-some [] some = absurd (omega arith)
inside-some (b ∷ bytes) some = refl

-- what is read of three addresses at most
pub record AreRead (bytes : List ℕ) (servers : List (Option Ipv4Address)) : Type 0 where
  pub servers_are : servers_in (addresses_inside bytes) ≡ servers
  pub lengths : has_addresses (addresses_inside bytes) ≡ true

three : (a b c x y z : Option Ipv4Address) → a ≡ x → b ≡ y → c ≡ z → a ∷ b ∷ c ∷ [] ≡ x ∷ y ∷ z ∷ []
three a b c x y z first second third = ap (λ s. s ∷ b ∷ c ∷ []) first ∙ ap (λ s. x ∷ s ∷ c ∷ []) second ∙ ap (λ s. x ∷ y ∷ s ∷ []) third

AreRead-none : AreRead [] (None ∷ None ∷ None ∷ [])
AreRead-none = record { servers_are = refl; lengths = refl }

AreRead-one : (a : Ipv4Address) → IsIpv4Address a → AreRead (a.0 ++ []) (Some a ∷ None ∷ None ∷ [])
AreRead-one a is =
    let len : length (a.0 ++ []) ≡ 4 = omega (arith, is.0, length-append a.0 []) in
    let some = inside-some (a.0 ++ []) (omega (arith, len)) in
    record {
      servers_are = ap servers_in some ∙
          three _ _ _ (Some a) None None (address_at-part [] [] a 0 refl is) (address_at-none (a.0 ++ []) 4 (omega (arith, len)))
          (address_at-none (a.0 ++ []) 8 (omega (arith, len)));
      lengths = ap has_addresses some ∙ rw len refl;
    }

AreRead-two : (a b : Ipv4Address) → IsIpv4Address a → IsIpv4Address b → AreRead (a.0 ++ (b.0 ++ [])) (Some a ∷ Some b ∷ None ∷ [])
AreRead-two a b is also =
    let len : length (a.0 ++ (b.0 ++ [])) ≡ 8 = omega (arith, is.0, also.0, length-append a.0 (b.0 ++ []), length-append b.0 []) in
    let some = inside-some (a.0 ++ (b.0 ++ [])) (omega (arith, len)) in
    record {
      servers_are = ap servers_in some ∙
          three _ _ _ (Some a) (Some b) None (address_at-part [] (b.0 ++ []) a 0 refl is) (address_at-part a.0 [] b 4 is.0 also)
          (address_at-none (a.0 ++ (b.0 ++ [])) 8 (omega (arith, len)));
      lengths = ap has_addresses some ∙ rw len refl;
    }

AreRead-three : (a b c : Ipv4Address) → IsIpv4Address a → IsIpv4Address b → IsIpv4Address c →
    AreRead (a.0 ++ (b.0 ++ (c.0 ++ []))) (Some a ∷ Some b ∷ Some c ∷ [])
AreRead-three a b c is also last =
    let len : length (a.0 ++ (b.0 ++ (c.0 ++ []))) ≡ 12 =
    omega (arith, is.0, also.0, last.0, length-append a.0 (b.0 ++ (c.0 ++ [])), length-append b.0 (c.0 ++ []), length-append c.0 []) in
    let some = inside-some (a.0 ++ (b.0 ++ (c.0 ++ []))) (omega (arith, len)) in
    let eight : length (a.0 ++ b.0) ≡ 8 = omega (arith, is.0, also.0, length-append a.0 b.0) in
    let third = ap (λ xs. address_at xs 8) (sym (append_assoc a.0 b.0 (c.0 ++ []))) ∙ address_at-part (a.0 ++ b.0) [] c 8 eight last in
    record {
      servers_are = ap servers_in some ∙
          three _ _ _ (Some a) (Some b) (Some c) (address_at-part [] (b.0 ++ (c.0 ++ [])) a 0 refl is) (address_at-part a.0 (c.0 ++ []) b 4 is.0 also) third;
      lengths = ap has_addresses some ∙ rw len refl;
    }

pub AreRead-servers : (servers : List (Option Ipv4Address)) → AreServers servers → AreRead (addresses_bytes servers) (closed_up servers)
AreRead-servers (None ∷ None ∷ None ∷ []) is = AreRead-none
AreRead-servers (None ∷ None ∷ Some c ∷ []) is = AreRead-one c is.2
AreRead-servers (None ∷ Some b ∷ None ∷ []) is = AreRead-one b is.1
AreRead-servers (None ∷ Some b ∷ Some c ∷ []) is = AreRead-two b c is.1 is.2
AreRead-servers (Some a ∷ None ∷ None ∷ []) is = AreRead-one a is.0
AreRead-servers (Some a ∷ None ∷ Some c ∷ []) is = AreRead-two a c is.0 is.2
AreRead-servers (Some a ∷ Some b ∷ None ∷ []) is = AreRead-two a b is.0 is.1
AreRead-servers (Some a ∷ Some b ∷ Some c ∷ []) is = AreRead-three a b c is.0 is.1 is.2
AreRead-servers _ is = absurd is
