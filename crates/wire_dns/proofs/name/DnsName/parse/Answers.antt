use Rattle.std.proofs.Common.{◌≡◌, ◌+◌, ◌∷◌, length, refl, sym, ◌∙◌, ap, arith, length-append}
use Rattle.wire_dns.specs.Name.{IsRoot, IsLabel, IsPointer}
use Rattle.wire_dns.proofs.Names.{Keeps-named, Keeps-name, Keeps-short, Keeps-none, Keeps-room, Keeps-label, Keeps-pointer}
use Rattle.wire_dns.proofs.name.DnsName.parse.Goals as goal

pub returns-in_err-part_at-clause-only : goal.returns-in_err-part_at-clause-only
returns-in_err-part_at-clause-only c = λ name end is.
    absurd (Keeps-none _ _ _ _ _ name _ end c.parts.invariant.keeps c.in_err-part_at.ensures is)

pub returns-in_default-clause-only : goal.returns-in_default-clause-only
returns-in_default-clause-only c = λ name end is.
    let root : IsRoot c.args.message.now c.parts.offset = rw c.in-Root.is at c.in_ok-part_at.ensures in
    let short = Keeps-short _ _ _ _ c.parts.bytes.items name _ end c.parts.invariant.keeps root is in
    absurd (grind (arith, short))

pub returns-in-Root-clause-found : goal.returns-in-Root-clause-found
returns-in-Root-clause-found c =
    let root : IsRoot c.args.message.now c.parts.offset = rw c.in-Root.is at c.in_ok-part_at.ensures in
    Keeps-name _ _ _ _ c.parts.bytes.items _ _ _ c.parts.invariant.keeps root c.in-Ok.ensures.ok c.unwrap_or.ensures
    (omega (arith, c.in-Ok.ensures.len, c.in-Ok.ensures.variant.0 refl))

pub returns-in-Root-clause-only : goal.returns-in-Root-clause-only
returns-in-Root-clause-only c = λ name end is.
    let root : IsRoot c.args.message.now c.parts.offset = rw c.in-Root.is at c.in_ok-part_at.ensures in
    let named = Keeps-named _ _ _ _ c.parts.bytes.items name _ end c.parts.invariant.keeps root is in
    (refl, (c.in-Ok.ensures.ok ∙ sym named.0, c.unwrap_or.ensures ∙ sym named.1))

pub returns-in_err-push_label-in-Label-clause-only : goal.returns-in_err-push_label-in-Label-clause-only
returns-in_err-push_label-in-Label-clause-only c = λ name end is.
    let label : IsLabel c.args.message.now c.parts.offset c.in-Label.label.now = rw c.in-Label.is at c.in_ok-part_at.ensures in
    let room = Keeps-room _ _ _ _ c.parts.bytes.items name _ _ end c.parts.invariant.keeps label is in
    let no = c.in_err-push_label-in-Label.ensures.full.1 room in
    absurd (cc no)

pub parts-preserved-in-Label : goal.parts-preserved-in-Label
parts-preserved-in-Label c =
    let label : IsLabel c.args.message.now c.parts.offset c.in-Label.label.now = rw c.in-Label.is at c.in_ok-part_at.ensures in
    let next : c.parts.offset + (1 + length c.in-Label.label.now) ≡ c.parts.offset + 1 + length c.in-Label.label.now = omega arith in
    record {
      keeps = Keeps-label _ _ _ _ _ _ _ _ _ label next c.in_ok-push_label-in-Label.ensures.pushed c.parts.invariant.keeps;
      room = omega (
        arith,
        ap length c.in_ok-push_label-in-Label.ensures.pushed,
        length-append c.parts.bytes.items (length c.in-Label.label.now ∷ c.in-Label.label.now),
        c.in_ok-push_label-in-Label.ensures.full.0 refl,
      );
    }

pub parts-preserved : goal.parts-preserved
parts-preserved c =
    let pointer : IsPointer c.args.message.now c.parts.limit c.parts.offset c.in-Pointer.target = rw c.in-Pointer.is at c.in_ok-part_at.ensures in
    record {
      keeps = Keeps-pointer _ _ _ _ _ _ _ _ pointer c.unwrap_or-in-Pointer.ensures c.parts.invariant.keeps;
      room = c.parts.invariant.room;
    }
