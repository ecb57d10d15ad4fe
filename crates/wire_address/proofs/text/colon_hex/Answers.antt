use Rattle.std.proofs.Common.{inl, inr, ◌∙◌, sym, subst, List, ℕ}
use Rattle.wire_address.specs.Text.{IsHexGroups}
use Rattle.wire_address.proofs.Ipv6Texts.{Lacks-dot, length-hex_groups}
use Rattle.wire_address.proofs.Texts.{IfSome-map}
use Rattle.wire_address.proofs.text.colon_hex.Goals as goal

pub returns-in-Some-clause-found : goal.returns-in-Some-clause-found
returns-in-Some-clause-found c =
    let same = c.as_str.ensures.value in
    IfSome-map _ _ c.hex_groups.result
    (λ a h. (h.0, inr (c.in-Some.hex.bytes, c.in-Some.ensures.found, (let P : List ℕ → Type 0 = λ t. IsHexGroups t h.0 in subst P same h.1)), h.2))
    c.hex_groups.ensures.found

pub returns-in-Some-clause-only : goal.returns-in-Some-clause-only
returns-in-Some-clause-only c = λ a h.
    elim h.1 [
      | inl g ↦ absurd (Lacks-dot c.args.text.now c.in-Some.hex.bytes c.in-Some.ensures.found g.0)
      | inr d ↦
          let same = c.in-Some.ensures.only d.0 d.1 (length-hex_groups d.0 h.0 d.2) in
          let P : List ℕ → Type 0 = λ t. IsHexGroups t h.0 in
          c.hex_groups.ensures.only a h.0 (subst P (sym (c.as_str.ensures.value ∙ same)) d.2) h.2
    ]

pub returns-in-None-clause-found : goal.returns-in-None-clause-found
returns-in-None-clause-found c = IfSome-map _ _ c.hex_groups-in-None.result (λ a h. (h.0, inl h.1, h.2)) c.hex_groups-in-None.ensures.found

pub returns-in-None-clause-only : goal.returns-in-None-clause-only
returns-in-None-clause-only c = λ a h.
    elim h.1 [
      | inl g ↦ c.hex_groups-in-None.ensures.only a h.0 g h.2
      | inr d ↦ absurd (c.in-None.ensures.only d.0 d.1 (length-hex_groups d.0 h.0 d.2))
    ]
