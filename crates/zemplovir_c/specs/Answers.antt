-- What C gets of a call: a number, and what it asked for after a pointer.
use Rattle.std.specs.Prelude.{◌≡◌, ◌≤◌, ℕ, ◌^◌, ◌-◌, ◌==◌, if◌then◌else◌, Option, None, Some, Result, Ok, Err, IfOk, IfErr}
use Rattle.c_calls.specs.Host.{StackValue}
use Rattle.c_calls.specs.Codes.{number_of}
use Rattle.c_calls.specs.declared.code.Code.{Code}
use Rattle.c_calls.specs.declared.code.Code.TheVariants as Is

-- a handle without a host
abbrev pub no_host : ℕ
no_host = 1

-- the answer of a call that can't fail
abbrev pub all_done : Result (Unit {0}) Code
all_done = Ok tt

module _ {A : Type 0} where
  -- 0 for done, else the number of the code
  abbrev pub number_by : Result A Code → ℕ
  number_by (Ok answer) = 0
  number_by (Err code) = number_of code

  -- what stands after a pointer: the answer, or what stood there before
  abbrev pub given : Result A Code → A → A
  given (Ok answer) before = answer
  given (Err code) before = before

  -- the same of a call of a host, where there is one
  abbrev pub given_by : Option StackValue → (StackValue → Result A Code) → A → A
  given_by None answer before = before
  given_by (Some host) answer before = given (answer host) before

  abbrev pub answer_by : Option StackValue → (StackValue → Result A Code) → ℕ
  answer_by None answer = no_host
  answer_by (Some host) answer = number_by (answer host)

  -- what becomes of an answer
  abbrev pub mapped : {B : Type 0} → (A → B) → Result A Code → Result B Code
  mapped f (Ok answer) = Ok (f answer)
  mapped f (Err code) = Err code

  -- an argument that names nothing is refused before there is a host to be asked
  abbrev pub checked_answer : Result A Code → (A → ℕ) → ℕ
  checked_answer (Ok argument) answer = answer argument
  checked_answer (Err code) answer = number_of code

  abbrev pub checked : {B : Type 0} → Result A Code → (A → B) → B → B
  checked (Ok argument) after before = after argument
  checked (Err code) after before = before

-- the host after a handle after a call, where there is one
abbrev pub after_by : Option StackValue → (StackValue → StackValue) → Option StackValue
after_by None after = None
after_by (Some host) after = Some (after host)

-- what else a call writes, where there is a host
abbrev pub written_by : {A : Type 0} → Option StackValue → (StackValue → A) → A → A
written_by None written before = before
written_by (Some host) written before = written host

-- CALLS WHOSE OUTCOME isn't determined: memory may be wanting

-- a call that answers nothing but whether it was done
abbrev pub Acts : (StackValue → Result (Unit {0}) Code → StackValue → Type 0) → Option StackValue → ℕ → Option StackValue → Type 0
Acts Does None result after = (result ≡ no_host) × (after ≡ None)
Acts Does (Some host) result after =
    (answer : Result (Unit {0}) Code) × ((left : StackValue) × Does host answer left × (result ≡ number_by answer) × (after ≡ Some left))

-- a call whose answer stands after a pointer, which had a value before
abbrev pub Gives : {A : Type 0} → (StackValue → Result A Code → StackValue → Type 0) → Option StackValue → ℕ → A → A → Option StackValue → Type 0
Gives Does None result before written after = (result ≡ no_host) × (written ≡ before) × (after ≡ None)
Gives {A} Does (Some host) result before written after =
    (answer : Result A Code) ×
    ((left : StackValue) × Does host answer left × (result ≡ number_by answer) × (written ≡ given answer before) × (after ≡ Some left))

-- the same of an answer that C has in another form
abbrev pub As : {A B : Type 0} → (A → B) → (StackValue → Result A Code → StackValue → Type 0) → StackValue → Result B Code → StackValue → Type 0
As {A} f Does host answer left = (own : Result A Code) × Does host own left × (answer ≡ mapped f own)

-- where the argument names something; else it is refused, and all that the call may write is as it was
abbrev pub Where : {A : Type 0} → Result A Code → ℕ → Type 0 → (A → Type 0) → Type 0
Where (Ok argument) result unchanged does = does argument
Where (Err code) result unchanged does = (result ≡ number_of code) × unchanged

-- a line of text is written into so much room: how long it is, or there is no memory; the host stays as it is
abbrev pub Traces : ℕ → StackValue → Result ℕ Code → StackValue → Type 0
Traces room host answer left = (left ≡ host) × IfOk answer (λ count. count ≤ room) × IfErr answer (λ code. code ≡ Is.Memory)
