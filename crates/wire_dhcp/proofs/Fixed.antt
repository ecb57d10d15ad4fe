-- The fixed fields of a message that was written, read.
use Rattle.std.proofs.Common.{◌≡◌, ℕ, ◌+◌, ◌-◌, ◌*◌, ◌≤◌, List, [], ◌∷◌, ◌++◌, length, take, drop, replicate, get_or, refl, sym, ◌∙◌, ap, subst, arith}
use Rattle.std.proofs.Common.{append_assoc, length-append}
use Rattle.std.specs.Prelude.{slice_range, slice_index}
use Rattle.std.specs.Int.{w16, w32, to_be_bytes}
use Rattle.std.proofs.lemmas.List.{take_at, drop_at, drop-drop, get_or-drop, length-replicate}
use Rattle.wire_address.specs.Fields.{be16, be32}
use Rattle.wire_dhcp.specs.Written.{options_bytes, front, fixed, padding, unused, buffer_len, written}
use Rattle.wire_dhcp.specs.Normal.{IsValue}
use Rattle.wire_dhcp.specs.declared.repr.DhcpRepr.{DhcpRepr}

-- a part of bytes, and what is after it
pub record Part (bytes : List ℕ) (at end : ℕ) (part rest : List ℕ) : Type 0 where
  pub here : part ≡ slice_range bytes at end
  pub following : drop end bytes ≡ rest

part-of : (bytes part rest : List ℕ) (at end n : ℕ) → drop at bytes ≡ part ++ rest → length part ≡ n → end - at ≡ n → at + n ≡ end → Part bytes at end part rest
part-of bytes part rest at end n is len size ends = record {
  here = sym (ap (λ xs. take (end - at) xs) is ∙ take_at part rest (end - at) (len ∙ sym size));
  following = ap (λ k. drop k bytes) (sym ends) ∙ sym (drop-drop n at bytes) ∙ ap (drop n) is ∙ drop_at part rest n len;
}

length-unused : length unused ≡ 202
unfolding unused
length-unused = length-replicate {A = ℕ} 202 0

-- the fixed fields one after the other, before the rest
pub record AreFixed (v : DhcpRepr) (bytes rest : List ℕ) : Type 0 where
  pub client_ip : v.client_ip.0 ≡ slice_range bytes 12 16
  pub your_ip : v.your_ip.0 ≡ slice_range bytes 16 20
  pub server_ip : v.server_ip.0 ≡ slice_range bytes 20 24
  pub relay_agent_ip : v.relay_agent_ip.0 ≡ slice_range bytes 24 28
  pub client_hardware_address : v.client_hardware_address.0 ≡ slice_range bytes 28 34
  pub magic_number : be32 bytes 236 ≡ 0x63825363
  pub options : drop 240 bytes ≡ rest
  pub long : 240 ≤ length bytes

-- what stands after the relay agent's address
abbrev following_front : DhcpRepr → List ℕ → List ℕ
following_front v rest = v.client_hardware_address.0 ++ (unused ++ (99 ∷ 130 ∷ 83 ∷ 99 ∷ rest))

-- a message that was written, regrouped
abbrev regrouped : DhcpRepr → List ℕ → List ℕ
regrouped v rest = front v ++ following_front v rest

written-regrouped : (v : DhcpRepr) (more : List ℕ) → written v ++ more ≡ regrouped v (options_bytes v ++ (255 ∷ (replicate (padding v) 0 ++ more)))
written-regrouped v more = simp append_assoc refl

number-at : (bytes : List ℕ) (a b c d : ℕ) (rest : List ℕ) → drop 236 bytes ≡ a ∷ b ∷ c ∷ d ∷ rest → be32 bytes 236 ≡ 65536 * (256 * a + b) + (256 * c + d)
number-at bytes a b c d rest is =
    let i0 = sym (get_or-drop 236 bytes 0 0) ∙ ap (λ xs. get_or xs 0 0) is in
    let i1 = sym (get_or-drop 236 bytes 1 0) ∙ ap (λ xs. get_or xs 1 0) is in
    let i2 = sym (get_or-drop 236 bytes 2 0) ∙ ap (λ xs. get_or xs 2 0) is in
    let i3 = sym (get_or-drop 236 bytes 3 0) ∙ ap (λ xs. get_or xs 3 0) is in
    omega (arith, i0, i1, i2, i3)

-- the addresses of the front
front-parts : (v : DhcpRepr) (rest : List ℕ) →
    drop 12 (regrouped v rest) ≡ v.client_ip.0 ++ (v.your_ip.0 ++ (v.server_ip.0 ++ (v.relay_agent_ip.0 ++ following_front v rest)))
front-parts v rest = simp append_assoc refl

length-front : (v : DhcpRepr) → IsValue v → length (front v) ≡ 28
length-front v is = omega (
  arith,
  is.client_ip.0,
  is.your_ip.0,
  is.server_ip.0,
  is.relay_agent_ip.0,
  length-append v.client_ip.0 (v.your_ip.0 ++ (v.server_ip.0 ++ v.relay_agent_ip.0)),
  length-append v.your_ip.0 (v.server_ip.0 ++ v.relay_agent_ip.0),
  length-append v.server_ip.0 v.relay_agent_ip.0,
)

pub length-fixed : (v : DhcpRepr) → IsValue v → length (fixed v) ≡ 240
length-fixed v is = omega (
  arith,
  length-front v is,
  is.client_hardware_address.0,
  length-append (front v) (v.client_hardware_address.0 ++ (unused ++ (99 ∷ 130 ∷ 83 ∷ 99 ∷ []))),
  length-append v.client_hardware_address.0 (unused ++ (99 ∷ 130 ∷ 83 ∷ 99 ∷ [])),
  length-append unused (99 ∷ 130 ∷ 83 ∷ 99 ∷ []),
  length-unused,
)

AreFixed-regrouped : (v : DhcpRepr) (rest : List ℕ) → IsValue v → AreFixed v (regrouped v rest) rest
AreFixed-regrouped v rest is =
    let bytes : List ℕ = regrouped v rest in
    let client = part-of bytes v.client_ip.0 _ 12 16 4 (front-parts v rest) is.client_ip.0 refl refl in
    let yours = part-of bytes v.your_ip.0 _ 16 20 4 client.following is.your_ip.0 refl refl in
    let server = part-of bytes v.server_ip.0 _ 20 24 4 yours.following is.server_ip.0 refl refl in
    let relay = part-of bytes v.relay_agent_ip.0 _ 24 28 4 server.following is.relay_agent_ip.0 refl refl in
    let hardware_addr = part-of bytes v.client_hardware_address.0 _ 28 34 6 relay.following is.client_hardware_address.0 refl refl in
    let names = part-of bytes unused (99 ∷ 130 ∷ 83 ∷ 99 ∷ rest) 34 236 202 hardware_addr.following length-unused refl refl in
    let magic = part-of bytes (99 ∷ 130 ∷ 83 ∷ 99 ∷ []) rest 236 240 4 names.following refl refl refl in
    record {
      client_ip = client.here;
      your_ip = yours.here;
      server_ip = server.here;
      relay_agent_ip = relay.here;
      client_hardware_address = hardware_addr.here;
      magic_number = number-at bytes 99 130 83 99 rest names.following;
      options = magic.following;
      long = omega (
        arith,
        length-front v is,
        is.client_hardware_address.0,
        length-append (front v) (following_front v rest),
        length-append v.client_hardware_address.0 (unused ++ (99 ∷ 130 ∷ 83 ∷ 99 ∷ rest)),
        length-append unused (99 ∷ 130 ∷ 83 ∷ 99 ∷ rest),
        length-unused,
      );
    }

-- the message, and what follows it
abbrev pub rest_of : DhcpRepr → List ℕ → List ℕ
rest_of v more = options_bytes v ++ (255 ∷ (replicate (padding v) 0 ++ more))

pub AreFixed-written : (v : DhcpRepr) (more : List ℕ) → IsValue v → AreFixed v (written v ++ more) (rest_of v more)
AreFixed-written v more is =
    let P : List ℕ → Type 0 = λ bytes. AreFixed v bytes (rest_of v more) in
    subst P (sym (written-regrouped v more)) (AreFixed-regrouped v (rest_of v more) is)

pub length-written : (v : DhcpRepr) → IsValue v → length (written v) ≡ buffer_len v
length-written v is =
    omega (
      arith,
      length-fixed v is,
      length-append (fixed v) (options_bytes v ++ (255 ∷ replicate (padding v) 0)),
      length-append (options_bytes v) (255 ∷ replicate (padding v) 0),
      length-replicate {A = ℕ} (padding v) 0,
    )
