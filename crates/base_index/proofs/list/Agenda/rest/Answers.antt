use Rattle.std.proofs.Common.{inl, inr, ◌⊎◌, ◌≡◌, ◌<◌, ◌≤◌, ◌∷◌, ◌++◌, [], false, sym, ap, ◌∙◌, ℕ, length, Ok, Err, Result, arith}
use Rattle.std.specs.Prelude.{MatchResult}
use Rattle.std.specs.declared.alloc.AllocError.{AllocError}
use Rattle.std.proofs.lemmas.Bool.{cases_lt}
use Rattle.base_index.specs.Put.{put}
use Rattle.base_index.proofs.Marked.{length_marks}
use Rattle.base_index.proofs.Puts.{put_within, put_following, set_beyond}
use Rattle.base_index.proofs.list.Agenda.rest.Goals as goal

not_below : (a b : ℕ) → a ≡ b → a < b → ⊥
not_below a b same below = omega (arith, same, below)

pub returns-then-at-self-clause-known : goal.returns-then-at-self-clause-known
returns-then-at-self-clause-known c = λ within.
    absurd (not_below c.args.at (length c.args.self.now)
    (c.if-at-self.true ∙ sym (length_marks c.self.inside.words.items c.self.inside.len) ∙ ap length c.self.view_is) within)

pub returns-then-at-self-clause-added : goal.returns-then-at-self-clause-added
returns-then-at-self-clause-added c =
    let count : c.self.inside.len ≡ length c.args.self.now = sym (length_marks c.self.inside.words.items c.self.inside.len) ∙ ap length c.self.view_is in
    let slot : c.args.at ≡ length c.args.self.now = c.if-at-self.true ∙ count in
    by c.add.result c.add.ensures (put_following c.args.self.now false ∙ ap (λ (at : ℕ). put at false c.args.self.now) (sym slot)) where
      by : (r : Result (Unit {0}) AllocError) → MatchResult r (λ u. c.add.new.self ≡ c.args.self.now ++ false ∷ []) (λ e. c.add.new.self ≡ c.args.self.now)
          → c.args.self.now ++ false ∷ [] ≡ put c.args.at false c.args.self.now
          → (c.add.new.self ≡ put c.args.at false c.args.self.now) ⊎ (c.add.new.self ≡ c.args.self.now)
      by (Ok u) added is = inl (added ∙ is)
      by (Err e) same is = inr same

pub returns-else-at-self-clause-added : goal.returns-else-at-self-clause-added
returns-else-at-self-clause-added c = by (cases_lt c.args.at (length c.args.self.now)) where
  by : (c.args.at < length c.args.self.now) ⊎ (length c.args.self.now ≤ c.args.at)
      → (c.take_off.new.self ≡ put c.args.at false c.args.self.now) ⊎ (c.take_off.new.self ≡ c.args.self.now)
  by (inl within) = inl (c.take_off.ensures ∙ put_within c.args.self.now c.args.at false within)
  by (inr beyond) = inr (c.take_off.ensures ∙ set_beyond c.args.self.now c.args.at false beyond)
