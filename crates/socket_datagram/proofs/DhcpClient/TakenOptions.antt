-- Options that were taken are whole, and have room.
use Rattle.std.proofs.Common.{◌≡◌, ℕ, ◌+◌, ◌-◌, ◌<◌, ◌≤◌, Bool, true, false, List, [], ◌∷◌, ◌++◌, length, refl, sym, ◌∙◌, ap, arith, length-append}
use Rattle.std.specs.Prelude.{nat_lt, if◌then◌else◌, Result, Ok, Err, IsTrue}
use Rattle.std.proofs.lemmas.Bool.{ltb-false}
use Rattle.std.proofs.Math.Seq.{drop-append_seam}
use Rattle.wire_dhcp.specs.Options.{are_options}
use Rattle.wire_dhcp.specs.Written.{FitsInside, encoded}
use Rattle.wire_dhcp.specs.declared.option.DhcpOption.{DhcpOption}
use Rattle.wire_dhcp.proofs.Areas.{are_options-one}
use Rattle.socket_datagram.specs.DhcpClient.Extras.{AreExtras, asked_inside, asked_len, is_reserved, room_following, verdict}
use Rattle.socket_datagram.specs.declared.dhcpv4.error.OptionsError.{OptionsError}
use Rattle.socket_datagram.specs.declared.dhcpv4.error.OptionsError.TheVariants.{Reserved, TooLong, NoRoom}

-- what is known of options that were taken
pub record AreTaken (left : ℕ) (os : List DhcpOption) : Type 0 where
  pub whole : are_options 0 (encoded os) ≡ true
  pub fits : length (encoded os) ≤ left

false-true : false ≡ true → ⊥
false-true e = cc

-- the room after an option, told of its tests
abbrev following : Bool → Bool → Bool → ℕ → Result ℕ OptionsError
following reserved long full rest = if reserved then Err Reserved else if long then Err TooLong else if full then Err NoRoom else Ok rest

abbrev verdict_following : Result ℕ OptionsError → List DhcpOption → Result (Unit {0}) OptionsError
verdict_following r os = elim r [ Ok rest ↦ verdict rest os | Err why ↦ Err why ]

one-taken : (left : ℕ) (o : DhcpOption) (os : List DhcpOption) → is_reserved o.kind ≡ false → nat_lt left (2 + length o.«data».now) ≡ false
    → AreTaken (left - (2 + length o.«data».now)) os → AreTaken left (o ∷ os)
one-taken left o os free roomy rest = record {
  whole = are_options-one o.kind (length o.«data».now) (o.«data».now ++ encoded os) (λ e. false-true (sym free ∙ ap is_reserved e))
      (λ e. false-true (sym free ∙ ap is_reserved e)) (omega (arith, length-append o.«data».now (encoded os)))
      ∙ ap (are_options 0) (drop-append_seam o.«data».now (encoded os))
      ∙ rest.whole;
  fits = omega (arith, rest.fits, ltb-false left (2 + length o.«data».now) roomy, length-append o.«data».now (encoded os));
}

by-tests : (left : ℕ) (o : DhcpOption) (os : List DhcpOption) (reserved long full : Bool) → is_reserved o.kind ≡ reserved
    → nat_lt left (2 + length o.«data».now) ≡ full
    → verdict_following (following reserved long full (left - (2 + length o.«data».now))) os ≡ Ok tt
    → (verdict (left - (2 + length o.«data».now)) os ≡ Ok tt → AreTaken (left - (2 + length o.«data».now)) os) → AreTaken left (o ∷ os)
by-tests left o os true long full is roomy taken next = absurd (cc)
by-tests left o os false true full is roomy taken next = absurd (cc)
by-tests left o os false false true is roomy taken next = absurd (cc)
by-tests left o os false false false is roomy taken next = one-taken left o os is roomy (next taken)

pub are_taken : (left : ℕ) (os : List DhcpOption) → verdict left os ≡ Ok tt → AreTaken left os
are_taken left [] taken = record { whole = refl; fits = omega arith }
are_taken left (o ∷ os) taken =
    by-tests left o os (is_reserved o.kind) (nat_lt 255 (length o.«data».now)) (nat_lt left (2 + length o.«data».now)) refl refl taken
    (are_taken (left - (2 + length o.«data».now)) os)

-- so they fit a message alongside the codes
pub with_taken : (parameters options taken : List ℕ) (os : List DhcpOption) → AreExtras parameters options → verdict (279 - asked_len parameters) os ≡ Ok tt
    → taken ≡ encoded os → AreExtras parameters taken
with_taken parameters options taken os are said is =
    let t = are_taken (279 - asked_len parameters) os said in record {
      short = are.short;
      whole = ap (are_options 0) is ∙ t.whole;
      fits = omega (arith, are.fits, t.fits, ap length is);
    }

-- a list that was taken fits its option
pub asked-fits : (parameters : List ℕ) → length parameters < 256 → FitsInside (asked_inside parameters)
asked-fits [] short = tt
asked-fits (code ∷ codes) short = short
