use Rattle.std.proofs.Common.{◌≡◌, ℕ, suc, ◌+◌, ◌<◌, ◌≤◌, ◌++◌, ◌∷◌, [], length, take, drop, refl, sym, ◌∙◌, ap, arith, append_assoc, add-one}
use Rattle.wire_dns.proofs.Texts.{Kept-begin, Kept-more, Kept-last, Kept-bad, name-length}
use Rattle.wire_dns.specs.Text.{without_last_dot}
use Rattle.wire_dns.proofs.name.DnsName.from_text.Goals as goal

pub returns-then-whole-gt-MAX_NAME_LEN : goal.returns-then-whole-gt-MAX_NAME_LEN
returns-then-whole-gt-MAX_NAME_LEN c =
    let same : c.without_last_dot-whole.result.now ≡ without_last_dot c.args.text.now = (cc) in
    omega (arith, ap length same, name-length (without_last_dot c.args.text.now))

pub labels-init : goal.labels-init
labels-init c =
    let same : c.without_last_dot-whole.result.now ≡ without_last_dot c.args.text.now = (cc) in
    record { kept = Kept-begin _ _ _ (cc) same; short = omega (arith, ap length same) }

pub returns-then-end-eq0 : goal.returns-then-end-eq0
returns-then-end-eq0 c = (
  Kept-bad _ _ _ _ c.labels.invariant.kept c.label_end-end.ensures (λ some short. omega arith),
  omega (arith, name-length (without_last_dot c.args.text.now)),
)

pub returns-then-end-gt-MAX_LABEL_LEN : goal.returns-then-end-gt-MAX_LABEL_LEN
returns-then-end-gt-MAX_LABEL_LEN c = (
  Kept-bad _ _ _ _ c.labels.invariant.kept c.label_end-end.ensures (λ some short. omega arith),
  omega (arith, name-length (without_last_dot c.args.text.now)),
)

pub returns-in_default : goal.returns-in_default
returns-in_default c =
    let room : length c.labels.bytes.items + 1 + length c.split_at.result.0.now ≤ 255 =
    omega (arith, c.labels.invariant.kept.len, c.labels.invariant.short, c.label_end-end.ensures.within, c.split_at.ensures.front_len)
    in
    let no = c.in_default.ensures.full.1 room in
    absurd (cc no)

pub returns-then-end-rest : goal.returns-then-end-rest
returns-then-end-rest c =
    let is =
    Kept-last _ _ _ _ _ _ _ c.labels.invariant.kept c.label_end-end.ensures c.if-end-rest.true (omega arith) (omega arith) c.split_at.ensures.front
    c.in-Ok.ensures.pushed c.push.ensures.items
    in
    (is.0, is.1, omega (arith, c.labels.invariant.short, name-length (without_last_dot c.args.text.now)))

pub labels-preserved : goal.labels-preserved
labels-preserved c =
    let n = c.label_end-end.result in
    let next : n + 1 ≡ suc n = omega arith in
    record {
      kept =
          Kept-more _ c.labels.bytes.items c.labels.rest.now _ _ n c.labels.invariant.kept c.label_end-end.ensures
          (omega (arith, c.label_end-end.ensures.within)) (omega arith) (omega arith)
          (c.split_at-in-labels.ensures.back ∙ ap (λ k. drop k c.labels.rest.now) next)
          (c.in-Ok.ensures.pushed ∙ ap (λ m. c.labels.bytes.items ++ (m ∷ c.split_at.result.0.now)) c.split_at.ensures.front_len ∙
          ap (λ xs. c.labels.bytes.items ++ (n ∷ xs)) c.split_at.ensures.front);
      short = c.labels.invariant.short;
    }
