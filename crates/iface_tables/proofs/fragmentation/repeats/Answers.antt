use Rattle.std.proofs.Common.{◌≡◌, ℕ, true, false, List, ◌++◌, ◌+◌, length, take, drop, sym, ap, ◌∙◌, length-append}
use Rattle.std.specs.Str.{bytes_eq}
use Rattle.std.proofs.lemmas.Slice.Eq.{bytes_eq-Decides}
use Rattle.iface_tables.proofs.InParts.{second_same, first_other, is_false, is_true}
use Rattle.iface_tables.proofs.fragmentation.repeats.Goals as goal

-- the bytes that are compared
there_is : (bytes front fragment rest : List ℕ) (offset : ℕ) → rest ≡ drop offset bytes → take (length front + length fragment) rest
    ≡ take (length (front ++ fragment)) (drop offset bytes)
there_is bytes front fragment rest offset following =
    ap (λ (n : ℕ). take n rest) (sym (length-append front fragment)) ∙ ap (take (length (front ++ fragment))) following

pub returns-then-ne : goal.returns-then-ne
returns-then-ne c =
    let f : List ℕ = c.args.front.now in
    let p : List ℕ = c.args.fragment.now in
    let there : List ℕ = take (length (f ++ p)) (drop c.args.offset c.args.bytes.now) in
    let is : c.split_at-2.result.0.now ≡ there =
    c.split_at-2.ensures.front ∙ there_is c.args.bytes.now f p c.split_at.result.1.now c.args.offset c.split_at.ensures.back in
    let begins : c.split_at-3.result.0.now ≡ take (length f) there = c.split_at-3.ensures.front ∙ ap (take (length f)) is in
    let other : bytes_eq (take (length f) there) f ≡ false =
    ap (λ (x : List ℕ). bytes_eq x f) (sym begins) ∙ is_false (bytes_eq c.split_at-3.result.0.now f) c.ne.result c.ne.ensures c.if-ne.true in
    sym (first_other there f p other)

pub returns : goal.returns
returns c =
    let f : List ℕ = c.args.front.now in
    let p : List ℕ = c.args.fragment.now in
    let there : List ℕ = take (length (f ++ p)) (drop c.args.offset c.args.bytes.now) in
    let is : c.split_at-2.result.0.now ≡ there =
    c.split_at-2.ensures.front ∙ there_is c.args.bytes.now f p c.split_at.result.1.now c.args.offset c.split_at.ensures.back in
    let begins : c.split_at-3.result.0.now ≡ take (length f) there = c.split_at-3.ensures.front ∙ ap (take (length f)) is in
    let ends : c.split_at-3.result.1.now ≡ drop (length f) there = c.split_at-3.ensures.back ∙ ap (drop (length f)) is in
    let same : take (length f) there ≡ f =
    sym begins ∙ (bytes_eq-Decides c.split_at-3.result.0.now f).0 (is_true (bytes_eq c.split_at-3.result.0.now f) c.ne.result c.ne.ensures c.if-ne.false) in
    c.eq.ensures ∙ ap (λ (x : List ℕ). bytes_eq x p) ends ∙ second_same there f p same
