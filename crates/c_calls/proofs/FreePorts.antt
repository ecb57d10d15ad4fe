-- Ports: other sockets, the search for a free port, and the bytes of an address.
use Rattle.std.proofs.Common.{◌≡◌, ◌⊎◌, inl, inr, ◌<◌, ◌≤◌, ◌+◌, ◌-◌, ◌==◌, ◌||◌, ℕ, zero, suc, nat_lt, Bool, true, false, if◌then◌else◌, List, [], ◌∷◌, ◌++◌, length, take, drop, Option, Some, sym, ap, ◌∙◌, subst, refl, arith}
use Rattle.std.proofs.lemmas.Bool.{eqb-true}
use Rattle.std.proofs.lemmas.Bool.Decides.{leb_tells}
use Rattle.std.specs.List.{list_any}
use Rattle.std.specs.Prelude.{slice_index}
use Rattle.ip_wire.specs.IpEndpoint.{IpEndpoint}
use Rattle.interface.specs.Inner.{InnerValue}
use Rattle.interface.specs.SocketStorage.{SocketStorage}
use Rattle.sockets.specs.declared.socket.Socket.{Socket}
use Rattle.c_calls.specs.Ports.{free_port, is_port_used, next_port, in_slot, some_other, port_from, port_by, port_for}
use Rattle.c_calls.specs.SlotsValue.{SlotsValue}

-- OTHER SOCKETS

module _ (test : Socket → Bool) (at : ℕ) (ps : List (SocketStorage Socket)) where
  abbrev both : Bool
  both = list_any (in_slot test) (take at ps) || list_any (in_slot test) (drop (at + 1) ps)

  within : at < length ps → some_other test at ps ≡ both
  within less = by (leb_tells (suc at) (length ps)) where
    by : ((nat_lt at (length ps) ≡ true) × (suc at ≤ length ps)) ⊎ ((nat_lt at (length ps) ≡ false) × (length ps < suc at)) → some_other test at ps ≡ both
    by (inl is) = ap (λ (b : Bool). if b then both else list_any (in_slot test) ps) is.0
    by (inr is) = absurd (omega (arith, less, is.1))

  -- none of those before, so one of those behind
  pub other_two : (a b : Bool) → at < length ps → a ≡ false → a ≡ list_any (in_slot test) (take at ps) → b ≡ list_any (in_slot test) (drop (at + 1) ps)
      → b ≡ some_other test at ps
  other_two a b less none before behind =
      behind ∙ (ap (λ (x : Bool). x || list_any (in_slot test) (drop (at + 1) ps)) (sym none ∙ before) ∙ sym (within less))

  -- one of those before
  pub other_first : (a : Bool) → at < length ps → a ≡ true → a ≡ list_any (in_slot test) (take at ps) → true ≡ some_other test at ps
  other_first a less some before =
      ap (λ (x : Bool). x || list_any (in_slot test) (drop (at + 1) ps)) (sym some ∙ before) ∙ sym (within less)

  -- no slot has this number
  pub other_none : (a : Bool) → length ps ≤ at → a ≡ list_any (in_slot test) ps → a ≡ some_other test at ps
  other_none a beyond all = by (leb_tells (suc at) (length ps)) where
    by : ((nat_lt at (length ps) ≡ true) × (suc at ≤ length ps)) ⊎ ((nat_lt at (length ps) ≡ false) × (length ps < suc at)) → a ≡ some_other test at ps
    by (inl is) = absurd (omega (arith, beyond, is.1))
    by (inr is) = all ∙ ap (λ (b : Bool). if b then both else list_any (in_slot test) ps) (sym is.0)

-- A FREE PORT

-- a port that is used is passed over
pub passed_over : (s : SlotsValue) (n port left : ℕ) → 0 < left → is_port_used s n port ≡ true
    → free_port s n port left ≡ free_port s n (next_port port) (left - 1)
passed_over s n port zero some used = absurd (omega (arith, some))
passed_over s n port (suc left) some used =
    let less : left ≡ suc left - 1 = omega arith in
    ap (λ (b : Bool). if b then free_port s n (next_port port) left else Some port) used
    ∙ ap (λ (k : ℕ). free_port s n (next_port port) k) less

-- one that isn't is found
pub found_free : (s : SlotsValue) (n port left : ℕ) → 0 < left → is_port_used s n port ≡ false → free_port s n port left ≡ Some port
found_free s n port zero some unused = absurd (omega (arith, some))
found_free s n port (suc left) some unused =
    ap (λ (b : Bool). if b then free_port s n (next_port port) left else Some port) unused

module _ (i : InnerValue) (s : SlotsValue) (n : ℕ) (remote : IpEndpoint) (port : ℕ) where
  pub port_chosen : port ≡ 0 → (r : Option ℕ) → r ≡ port_from i s n remote → r ≡ port_for i s n remote port
  port_chosen none r found = subst (λ (p : ℕ). r ≡ port_for i s n remote p) (sym none) found

  pub port_named : (port ≡ 0 → ⊥) → Some port ≡ port_for i s n remote port
  port_named some = by (port == 0) refl where
    by : (b : Bool) → (port == 0) ≡ b → Some port ≡ port_by b i s n remote port
    by true is = absurd (some (eqb-true port 0 is))
    by false is = refl

-- BYTES

abbrev pub items : ℕ → (ℕ → ℕ) → List ℕ
items zero at = []
items (suc n) at = at 0 ∷ items n (λ (i : ℕ). at (suc i))

all_items : (bytes : List ℕ) → bytes ≡ items (length bytes) (λ (i : ℕ). slice_index bytes i)
all_items [] = refl
all_items (b ∷ bytes) = ap (λ (rest : List ℕ). b ∷ rest) (all_items bytes)

pub four : (bytes : List ℕ) → length bytes ≡ 4 → bytes ≡ items 4 (λ (i : ℕ). slice_index bytes i)
four bytes is = all_items bytes ∙ ap (λ (n : ℕ). items n (λ (i : ℕ). slice_index bytes i)) is

pub sixteen : (bytes : List ℕ) → length bytes ≡ 16 → bytes ≡ items 16 (λ (i : ℕ). slice_index bytes i)
sixteen bytes is = all_items bytes ∙ ap (λ (n : ℕ). items n (λ (i : ℕ). slice_index bytes i)) is
