use Rattle.std.proofs.Common.{arith, rules, ◌∙◌, ap, List, Bool, ◌+◌, ◌++◌, ◌∷◌, [], ◌≡◌, false, Fits, w64}
use Rattle.base_index.specs.Bits.{marks_of, tells}
use Rattle.base_index.proofs.Marked.{counted_more, counted_next, lengthened_marks, marks_more, room_for_one, room_with_groups, room_with_words}
use Rattle.base_index.proofs.list.Agenda.add.Goals as goal

pub invariant_of-self : goal.invariant_of-self
invariant_of-self c = (room_with_groups _ _ _ _ c.self.invariant.0 c.lengthen.ensures.lengthened, c.self.invariant.1)

pub invariant_of-self-in_err-lengthen-2 : goal.invariant_of-self-in_err-lengthen-2
invariant_of-self-in_err-lengthen-2 c =
    let room = c.self.invariant.0 in
    let groups = room_with_groups _ _ _ _ room c.lengthen.ensures.lengthened in (
      room_with_words _ _ _ _ groups (c.in_ok-lengthen.ensures.room (omega (arith, room.enough_words, room.few_words, room.enough_groups, room.few_groups)))
          c.lengthen-2.ensures.lengthened,
      counted_more _ _ _ _ _ c.lengthen-2.ensures.lengthened c.self.invariant.1,
    )

pub returns-in_err-lengthen-2 : goal.returns-in_err-lengthen-2
returns-in_err-lengthen-2 c =
    let same : marks_of c.lengthen-2.new.words.items c.self.inside.len ≡ marks_of c.self.inside.words.items c.self.inside.len
    = lengthened_marks _ _ _ _ c.lengthen-2.ensures.lengthened in
    let is = same ∙ c.self.view_is in search (rules, is)

pub invariant_of-self-2 : goal.invariant_of-self-2
invariant_of-self-2 c =
    let more : c.in_ok-len.len ≡ c.self.inside.len + 1 = search rules in
    let room = c.self.invariant.0 in
    let groups = room_with_groups _ _ _ _ room c.lengthen.ensures.lengthened in
    let words = room_with_words _ _ _ _ groups
    (c.in_ok-lengthen.ensures.room (omega (arith, room.enough_words, room.few_words, room.enough_groups, room.few_groups))) c.lengthen-2.ensures.lengthened in
    let fits : Fits w64 c.in_ok-len.len = search rules in (
      rw more (room_for_one _ _ _ words (omega (arith, fits, more)) (c.in_ok-lengthen-2.ensures.room (omega (arith, room.enough_words, room.few_words)))),
      rw more (counted_next _ _ _ (counted_more _ _ _ _ _ c.lengthen-2.ensures.lengthened c.self.invariant.1)),
    )

pub returns : goal.returns
returns c =
    let more : c.in_ok-len.len ≡ c.self.inside.len + 1 = search rules in
    let same : marks_of c.lengthen-2.new.words.items c.self.inside.len ≡ marks_of c.self.inside.words.items c.self.inside.len
    = lengthened_marks _ _ _ _ c.lengthen-2.ensures.lengthened in
    let counted = counted_more _ _ _ _ _ c.lengthen-2.ensures.lengthened c.self.invariant.1 in
    let last : tells c.lengthen-2.new.words.items c.self.inside.len ≡ false = counted.beyond c.self.inside.len (omega arith) in
    rw more (marks_more c.lengthen-2.new.words.items c.self.inside.len)
    ∙ ap (λ (mark : Bool). marks_of c.lengthen-2.new.words.items c.self.inside.len ++ mark ∷ []) last
    ∙ ap (λ (marks : List Bool). marks ++ false ∷ []) (same ∙ c.self.view_is)
