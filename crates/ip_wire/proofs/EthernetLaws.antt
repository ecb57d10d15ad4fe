-- A frame's header and what spells it.
use Rattle.std.proofs.Common.{◌≡◌, ℕ, ◌+◌, ◌/◌, ◌%◌, ◌<◌, ◌≤◌, ◌^◌, List, ◌++◌, length, get_or, take, drop, refl, sym, ◌∙◌, ap, arith, length-append}
use Rattle.std.proofs.Common.{append_assoc}
use Rattle.std.proofs.lemmas.List.{take_at, drop_at, get_or-drop}
use Rattle.std.specs.Int.{w16, to_be_bytes}
use Rattle.wire_address.specs.Fields.{be16, IsBytes}
use Rattle.wire_address.specs.Protocol.{ether_number, ether_of}
use Rattle.ip_wire.specs.Ethernet.{IsEthernet, IsWhole, IsValue, written, normal}
use Rattle.ip_wire.specs.declared.ethernet.repr.EthernetRepr.{EthernetRepr}
use Rattle.wire_address.proofs.Peel.{peel16, peel_to}
use Rattle.wire_address.proofs.Numbers.{ether_number-ether_of}
use Rattle.wire_ip.proofs.Runs.{part, named-again}

-- a frame is spelled by its header, and then come payload and padding
pub bytes-written : (bytes : List ℕ) (v : EthernetRepr) → IsBytes bytes → IsEthernet bytes v → bytes ≡ written v ++ drop 14 bytes
bytes-written bytes v small is =
    let whole : IsWhole bytes = is.whole in
    let carried : ether_number v.ethertype ≡ be16 bytes 12 = ap ether_number is.carried ∙ ether_number-ether_of (be16 bytes 12) in
    let last : List ℕ = to_be_bytes w16 (ether_number v.ethertype) in
    let joined : (v.dst_addr.0 ++ (v.src_addr.0 ++ last)) ++ drop 14 bytes ≡ v.dst_addr.0 ++ (v.src_addr.0 ++ (last ++ drop 14 bytes)) =
    append_assoc v.dst_addr.0 (v.src_addr.0 ++ last) (drop 14 bytes) ∙ ap (λ xs. v.dst_addr.0 ++ xs) (append_assoc v.src_addr.0 last (drop 14 bytes))
    in
    peel_to bytes 0 6 v.dst_addr.0 (v.src_addr.0 ++ (last ++ drop 14 bytes)) (omega arith) is.destination (
    peel_to bytes 6 12 v.src_addr.0 (last ++ drop 14 bytes) (omega arith) is.source (
    peel16 bytes 12 (ether_number v.ethertype) (drop 14 bytes) small (omega (arith, whole.header)) carried refl
    )
    )
    ∙ sym joined

-- two addresses before a number, read
parts : (destination source rest : List ℕ) (n : ℕ) → length destination ≡ 6 → length source ≡ 6 → n < 2 ^ 16
    → let frame : List ℕ = (destination ++ (source ++ to_be_bytes w16 n)) ++ rest in (destination ≡ take 6 frame) × (source ≡ take 6 (drop 6 frame)) ×
    (be16 frame 12 ≡ n) × (14 ≤ length frame)
parts destination source rest n first second small =
    let frame : List ℕ = (destination ++ (source ++ to_be_bytes w16 n)) ++ rest in
    let joined : frame ≡ destination ++ (source ++ (to_be_bytes w16 n ++ rest)) =
    append_assoc destination (source ++ to_be_bytes w16 n) rest ∙ ap (λ xs. destination ++ xs) (append_assoc source (to_be_bytes w16 n) rest)
    in
    let following6 : drop 6 frame ≡ source ++ (to_be_bytes w16 n ++ rest) =
    ap (drop 6) joined ∙ drop_at destination (source ++ (to_be_bytes w16 n ++ rest)) 6 first in
    let six : length (destination ++ source) ≡ 12 = omega (arith, length-append destination source) in
    let joined12 : frame ≡ (destination ++ source) ++ (to_be_bytes w16 n ++ rest) =
    joined ∙ sym (append_assoc destination source (to_be_bytes w16 n ++ rest)) in
    let following12 : drop 12 frame ≡ to_be_bytes w16 n ++ rest = ap (drop 12) joined12 ∙ drop_at (destination ++ source) (to_be_bytes w16 n ++ rest) 12 six in
    let high : get_or frame 12 0 ≡ n / 256 % 256 = sym (get_or-drop 12 frame 0 0) ∙ ap (λ xs. get_or xs 0 0) following12 in
    let low : get_or frame 13 0 ≡ n % 256 = sym (get_or-drop 12 frame 1 0) ∙ ap (λ xs. get_or xs 1 0) following12 in
    let all : length frame ≡ 14 + length rest = ap length joined12 ∙ omega (arith, six, length-append (destination ++ source) (to_be_bytes w16 n ++ rest)) in (
      sym (ap (take 6) joined ∙ take_at destination (source ++ (to_be_bytes w16 n ++ rest)) 6 first),
      sym (ap (take 6) following6 ∙ take_at source (to_be_bytes w16 n ++ rest) 6 second),
      omega (arith, high, low),
      omega (arith, all),
    )

-- a frame whose header was emitted is read back in its canonical form, whatever follows
pub IsEthernet-written : (v : EthernetRepr) (rest : List ℕ) → IsValue v → IsEthernet (written v ++ rest) (normal v)
IsEthernet-written v rest value =
    let all = parts v.dst_addr.0 v.src_addr.0 rest (ether_number v.ethertype) value.destination.0 value.source.0 value.carried in
    record { whole = record { header = all.3 }; destination = all.0; source = all.1; carried = sym (ap ether_of all.2) }

-- a header that was read can be written again
pub fits : (bytes : List ℕ) (v : EthernetRepr) → IsBytes bytes → IsEthernet bytes v → IsValue v
fits bytes v small is =
    let whole : IsWhole bytes = is.whole in
    let b12 : get_or bytes 12 0 < 256 = small 12 in
    let b13 : get_or bytes 13 0 < 256 = small 13 in
    record {
      source = part bytes v.src_addr.0 6 12 6 small refl (omega (arith, whole.header)) is.source;
      destination = part bytes v.dst_addr.0 0 6 6 small refl (omega (arith, whole.header)) is.destination;
      carried = omega (arith, ap ether_number is.carried, ether_number-ether_of (be16 bytes 12));
    }

-- a header that was read is in its canonical form
pub read : (bytes : List ℕ) (v : EthernetRepr) → IsEthernet bytes v → normal v ≡ v
read bytes v is =
    ap (λ p. record v { ethertype = p }) (named-again ether_number ether_of ether_number-ether_of v.ethertype (be16 bytes 12) is.carried)

-- the canonical form of a canonical form is itself
pub normal-again : (v : EthernetRepr) → normal (normal v) ≡ normal v
normal-again v =
    ap (λ p. record v { ethertype = p }) (ap ether_of (ether_number-ether_of (ether_number v.ethertype)))
