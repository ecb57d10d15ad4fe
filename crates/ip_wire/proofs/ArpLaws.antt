-- An ARP packet and what spells it.
use Rattle.std.proofs.Common.{◌≡◌, ℕ, ◌+◌, ◌*◌, ◌/◌, ◌%◌, ◌<◌, ◌≤◌, ◌^◌, List, ◌++◌, length, get_or, take, drop, refl, sym, ◌∙◌, ap, arith, length-append}
use Rattle.std.proofs.Common.{append_assoc}
use Rattle.std.proofs.lemmas.List.{take_at, drop_at, drop-drop}
use Rattle.wire_address.specs.Fields.{be16, IsBytes}
use Rattle.ip_wire.specs.Arp.{IsArp, IsValue, written, normal, operation_number, operation_of}
use Rattle.ip_wire.specs.declared.arp.repr.ArpRepr.{ArpRepr}
use Rattle.ip_wire.specs.declared.arp.repr.ArpRepr.TheVariants as Arp
use Rattle.wire_address.proofs.Peel.{peel8, peel16, peel_to}
use Rattle.wire_ip.proofs.Runs.{part, named-again}
use Rattle.ip_wire.proofs.Numbers.{operation_number-operation_of}

-- four runs of bytes, and what is after them, joined one way or the other
joined : (a b c d rest : List ℕ) → (a ++ (b ++ (c ++ d))) ++ rest ≡ a ++ (b ++ (c ++ (d ++ rest)))
joined a b c d rest =
    append_assoc a (b ++ (c ++ d)) rest
    ∙ ap (λ xs. a ++ xs) (append_assoc b (c ++ d) rest ∙ ap (λ xs. b ++ xs) (append_assoc c d rest))

-- a packet is spelled by its value, and then comes padding
pub bytes-written : (bytes : List ℕ) (v : ArpRepr) → IsBytes bytes → IsArp bytes v → bytes ≡ written v ++ drop 28 bytes
bytes-written bytes (Arp.EthernetIpv4 operation sha spa tha tpa) small is =
    let known : operation_number operation ≡ be16 bytes 6 = ap operation_number is.operation_is ∙ operation_number-operation_of (be16 bytes 6) in
    let b0 : get_or bytes 0 0 < 256 = small 0 in
    let b1 : get_or bytes 1 0 < 256 = small 1 in
    let b2 : get_or bytes 2 0 < 256 = small 2 in
    let b3 : get_or bytes 3 0 < 256 = small 3 in
    peel8 bytes 0 0 _ (omega (arith, is.room)) (omega (arith, is.hardware_kind)) (
    peel8 bytes 1 1 _ (omega (arith, is.room)) (omega (arith, is.hardware_kind)) (
    peel8 bytes 2 8 _ (omega (arith, is.room)) (omega (arith, is.protocol_kind)) (
    peel8 bytes 3 0 _ (omega (arith, is.room)) (omega (arith, is.protocol_kind)) (
    peel8 bytes 4 6 _ (omega (arith, is.room)) (sym is.hardware_len) (
    peel8 bytes 5 4 _ (omega (arith, is.room)) (sym is.protocol_len) (
    peel16 bytes 6 (operation_number operation) _ small (omega (arith, is.room)) known (
    peel_to bytes 8 14 sha.0 (spa.0 ++ (tha.0 ++ (tpa.0 ++ drop 28 bytes))) (omega arith) is.source_hardware_is (
    peel_to bytes 14 18 spa.0 (tha.0 ++ (tpa.0 ++ drop 28 bytes)) (omega arith) is.source_protocol_is (
    peel_to bytes 18 24 tha.0 (tpa.0 ++ drop 28 bytes) (omega arith) is.target_hardware_is (
    peel_to bytes 24 28 tpa.0 (drop 28 bytes) (omega arith) is.target_protocol_is refl
    )
    )
    )
    ∙ sym (joined sha.0 spa.0 tha.0 tpa.0 (drop 28 bytes))
    )
    )
    )
    )
    )
    )
    )

-- a run after another
following : (a rest bytes : List ℕ) (n : ℕ) → length a ≡ n → bytes ≡ a ++ rest → drop n bytes ≡ rest
following a rest bytes n len is = ap (drop n) is ∙ drop_at a rest n len

-- a packet that was emitted is read back in its canonical form, whatever follows
pub IsArp-written : (v : ArpRepr) (rest : List ℕ) → IsValue v → IsArp (written v ++ rest) (normal v)
IsArp-written (Arp.EthernetIpv4 operation sha spa tha tpa) rest value =
    let a : List ℕ = sha.0 in
    let b : List ℕ = spa.0 in
    let c : List ℕ = tha.0 in
    let d : List ℕ = tpa.0 in
    let op : operation_number operation < 2 ^ 16 = value.0 in
    let la : length a ≡ 6 = value.1.0 in
    let lb : length b ≡ 4 = value.2.0 in
    let lc : length c ≡ 6 = value.3.0 in
    let ld : length d ≡ 4 = value.4.0 in
    let tail : List ℕ = (a ++ (b ++ (c ++ d))) ++ rest in
    let is : tail ≡ a ++ (b ++ (c ++ (d ++ rest))) = joined a b c d rest in
    let after6 : drop 6 tail ≡ b ++ (c ++ (d ++ rest)) = following a _ tail 6 la is in
    let after10 : drop 10 tail ≡ c ++ (d ++ rest) = sym (drop-drop 4 6 tail) ∙ following b _ (drop 6 tail) 4 lb after6 in
    let after16 : drop 16 tail ≡ d ++ rest = sym (drop-drop 6 10 tail) ∙ following c _ (drop 10 tail) 6 lc after10 in
    let all : length tail ≡ 20 + length rest =
    ap length is
    ∙ omega (
      arith,
      la,
      lb,
      lc,
      ld,
      length-append a (b ++ (c ++ (d ++ rest))),
      length-append b (c ++ (d ++ rest)),
      length-append c (d ++ rest),
      length-append d rest,
    )
    in
    record {
      room = omega (arith, all);
      hardware_kind = refl;
      protocol_kind = refl;
      hardware_len = refl;
      protocol_len = refl;
      operation_is = let same : operation_number operation ≡ 256 * (operation_number operation / 256 % 256) + operation_number operation % 256 =
          omega (arith, op) in ap operation_of same;
      source_hardware_is = sym (ap (take 6) is ∙ take_at a _ 6 la);
      source_protocol_is = sym (ap (take 4) after6 ∙ take_at b _ 4 lb);
      target_hardware_is = sym (ap (take 6) after10 ∙ take_at c _ 6 lc);
      target_protocol_is = sym (ap (take 4) after16 ∙ take_at d _ 4 ld);
    }

-- a packet takes no more room than the bytes that it was read from
pub within : (bytes : List ℕ) (v : ArpRepr) → IsArp bytes v → 28 ≤ length bytes
within bytes (Arp.EthernetIpv4 operation sha spa tha tpa) is = is.room

-- a packet that was read can be written again
pub fits : (bytes : List ℕ) (v : ArpRepr) → IsBytes bytes → IsArp bytes v → IsValue v
fits bytes (Arp.EthernetIpv4 operation sha spa tha tpa) small is =
    let b6 : get_or bytes 6 0 < 256 = small 6 in
    let b7 : get_or bytes 7 0 < 256 = small 7 in (
      omega (arith, ap operation_number is.operation_is, operation_number-operation_of (be16 bytes 6)),
      part bytes sha.0 8 14 6 small refl (omega (arith, is.room)) is.source_hardware_is,
      part bytes spa.0 14 18 4 small refl (omega (arith, is.room)) is.source_protocol_is,
      part bytes tha.0 18 24 6 small refl (omega (arith, is.room)) is.target_hardware_is,
      part bytes tpa.0 24 28 4 small refl is.room is.target_protocol_is,
    )

-- a packet that was read is in its canonical form
pub read : (bytes : List ℕ) (v : ArpRepr) → IsArp bytes v → normal v ≡ v
read bytes (Arp.EthernetIpv4 operation sha spa tha tpa) is =
    ap (λ p. Arp.EthernetIpv4 p sha spa tha tpa)
    (named-again operation_number operation_of operation_number-operation_of operation (be16 bytes 6) is.operation_is)

-- the canonical form of a canonical form is itself
pub normal-again : (v : ArpRepr) → normal (normal v) ≡ normal v
normal-again (Arp.EthernetIpv4 operation sha spa tha tpa) =
    ap (λ p. Arp.EthernetIpv4 p sha spa tha tpa) (ap operation_of (operation_number-operation_of (operation_number operation)))
