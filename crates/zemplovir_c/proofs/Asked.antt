-- Calls of the host after a handle, which is taken out and put back.
use Rattle.std.proofs.Common.{◌≡◌, ◌<◌, ◌≤◌, List, length, ℕ, Result, Err, Option, Some, sym, ap, subst, ◌∙◌}
use Rattle.std.specs.Str.{IsUtf8}
use Rattle.wire_dns.specs.declared.codes.DnsQueryType.{DnsQueryType}
use Rattle.c_calls.specs.declared.code.Code.{Code}
use Rattle.c_calls.specs.declared.code.Code.TheVariants as Is
use Rattle.c_calls.specs.Configuring.{AsksName}
use Rattle.c_calls.specs.Host.{StackValue}
use Rattle.c_calls.specs.Names.{most_name}
use Rattle.zemplovir_c.specs.Answers.{Acts, after_by, answer_by, number_by}
use Rattle.zemplovir_c.specs.Configuring.{NameIsAsked}

pub is_asked : (name : List ℕ) (kind : DnsQueryType) (s s' : StackValue) (answer : Result (Unit {0}) Code)
    → (most_name < length name → (answer ≡ Err Is.NameTooLong) × (s' ≡ s))
    → (length name ≤ most_name → (IsUtf8 name → ⊥) → (answer ≡ Err Is.InvalidName) × (s' ≡ s))
    → (length name ≤ most_name → IsUtf8 name → AsksName name kind s answer s') → NameIsAsked name kind s answer s'
is_asked name kind s s' answer long text asks = record { long = long; text = text; asks = asks }

-- a call of the host that was taken out and is put back
pub called : (before after : Option StackValue) (s t : StackValue) (F : StackValue → StackValue) → before ≡ Some s → after ≡ Some t → t ≡ F s →
    after ≡ after_by before F
called before after s t F had left is =
    left ∙ ap (λ (x : StackValue). Some x) is ∙ ap (λ (b : Option StackValue). after_by b F) (sym had)

pub acted : (before after : Option StackValue) (s t : StackValue) (n : ℕ) (answer : Result (Unit {0}) Code)
    (Does : StackValue → Result (Unit {0}) Code → StackValue → Type 0) → before ≡ Some s → after ≡ Some t → n ≡ number_by answer → Does s answer t →
    Acts Does before n after
acted before after s t n answer Does had left number does =
    subst (λ (b : Option StackValue). Acts Does b n after) (sym had) (answer, (t, does, number, left))

-- the number of what a call of the host that is inside answers
pub answered : {A : Type 0} (inside : Option StackValue) (host : StackValue) (number : ℕ) (answer : Result A Code) (f : StackValue → Result A Code) →
    inside ≡ Some host → number ≡ number_by answer → answer ≡ f host → number ≡ answer_by inside f
answered inside host number answer f had is same = is ∙ ap number_by same ∙ sym (ap (λ (i : Option StackValue). answer_by i f) had)
