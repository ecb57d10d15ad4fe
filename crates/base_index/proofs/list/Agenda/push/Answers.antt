use Rattle.std.proofs.Common.{arith, ◌≡◌, ◌-◌, ◌∷◌, ◌++◌, [], true, false, sym, ap, ◌∙◌, List, Bool, ℕ, length, length-append}
use Rattle.std.specs.Prelude.{slice_set}
use Rattle.base_index.proofs.Marked.{length_marks}
use Rattle.base_index.proofs.Puts.{put_more}
use Rattle.base_index.proofs.list.Agenda.push.Goals as goal

pub returns : goal.returns
returns c =
    let added : c.add.new.self ≡ c.args.self.now ++ false ∷ [] = c.in_ok-add.ensures in
    let count : c.put_on.inside.len ≡ length (c.args.self.now ++ false ∷ [])
    = sym (length_marks c.put_on.inside.words.items c.put_on.inside.len) ∙ ap length (c.put_on.view_is ∙ added) in
    let slot : c.put_on.inside.len - 1 ≡ length c.args.self.now = omega (arith, count, length-append c.args.self.now (false ∷ [])) in
    c.put_on-2.ensures ∙ ap (λ (marks : List Bool). slice_set marks (c.put_on.inside.len - 1) true) added
    ∙ ap (λ (at : ℕ). slice_set (c.args.self.now ++ false ∷ []) at true) slot ∙ put_more c.args.self.now false true
