-- What a host answers when it is asked bounds what its sockets want.
use Rattle.std.proofs.Common.{◌≡◌, ◌⊎◌, inl, inr, ℕ, ℤ, pos, ◌≤ℤ◌, int_lt, Bool, true, false, List, ◌∷◌, ◌++◌, Option, Some, None, []}
use Rattle.std.proofs.Common.{refl, sym, ap, ◌∙◌, subst, arith}
use Rattle.std.proofs.lemmas.Int.{ints}
use Rattle.interface.specs.QuietStep.{IsEarlier}
use Rattle.lan.specs.declared.at_link.history.answer.Answer.{Answer}
use Rattle.lan.specs.declared.at_link.history.answer.Answer.TheVariants as To
use Rattle.lan.specs.declared.at_link.history.event.Event.{Event}
use Rattle.lan.specs.declared.at_link.history.event.Event.TheVariants as E
use Rattle.lan.specs.declared.at_link.history.event.Side.{Side}
use Rattle.lan.specs.declared.at_link.history.event.Side.TheVariants.{A, B}
use Rattle.lan.specs.Worlds.AtLink.History.{Entry}
use Rattle.lan.specs.Worlds.AtLink.Kinds.{Kind, kind_of}
use Rattle.lan.specs.Worlds.AtLink.Kinds.Act.{Asks}
use Rattle.lan.specs.Worlds.AtLink.Runs.{Leads, Starts}
use Rattle.lan.specs.Worlds.AtLink.Sets.{asked, instant_at}
use Rattle.lan.specs.Worlds.AtLink.Node.{NodeValue, Nodes, node}
use Rattle.lan.specs.Worlds.AtLink.Steps.{ActsAt, Happens}
use Rattle.lan.specs.Worlds.Settling.{WasAsked}
use Rattle.lan.specs.Worlds.Still.{StillRun}
use Rattle.proof_stack.proofs.EventQuiet.{at_host}
use Rattle.proof_stack.specs.Progress.AtOnce.{IsByThen}
use Rattle.proof_stack.specs.Progress.Events.{clock_in, told_by}
use Rattle.proof_stack.specs.Progress.Serving.{AreServedAtOnce, IsIdle, WaitsForNone, WantsAt}

-- the question at the end of a history
acted : (past : List Entry) (old new : Nodes) (e : Entry) (side : Side) (instant : ℤ) → Leads past old e new → e.event ≡ E.PollAt side instant →
    ActsAt old side (Asks instant) e.answer e.found new
acted past old new e side instant leads is = subst (λ (k : Kind). Happens old k e.answer e.found new) (ap kind_of is) leads.happens

-- a host that was asked knows what it answered
module _ (slot : ℕ) (due : ℤ) (low : pos 0 ≤ℤ due) where
  abbrev Rests : Option ℤ → NodeValue → Type 0
  Rests at s = IsEarlier due at → WaitsForNone slot s → IsIdle due slot s

  by_node : (s s' : NodeValue) (instant : ℤ) (at : Option ℤ) (answer : Answer) → answer ≡ To.At (instant_at s instant) → s' ≡ asked s instant → answer ≡ To.At at
      → s'.host.inner.paths ≡ [] → Rests at s'
  by_node s s' instant at answer is same told paths early idle wants =
      let same_at : To.At (instant_at s instant) ≡ To.At at = sym is ∙ told in
      let its : instant_at s instant ≡ at = cc in
      let earlier : IsEarlier due (instant_at s instant) = subst (λ (o : Option ℤ). IsEarlier due o) (sym its) early in
      let idle' : WaitsForNone slot (asked s instant) = subst (λ (x : NodeValue). WaitsForNone slot x) same idle in
      let wants' : WantsAt due slot (asked s instant) = subst (λ (x : NodeValue). WantsAt due slot x) same wants in
      let paths' = sym (ap (λ (x : NodeValue). x.host.inner.paths) same) ∙ paths in
      at_host (asked s instant).host.inner due low paths' (asked s instant).host.left (asked s instant).slots slot earlier idle' wants'

  by_question : (starts : Starts) (past : List Entry) (e : Entry) (hosts : Nodes) (side : Side) (instant : ℤ) (at : Option ℤ) → StillRun starts (e ∷ past) hosts
      → e.event ≡ E.PollAt side instant → e.answer ≡ To.At at → Rests at (node hosts side)
  by_question starts past e hosts side instant at (before, still, leads, all) asks tells =
      let acts = acted past before hosts e side instant leads asks in
      by_node (node before side) (node hosts side) instant at e.answer acts.acts.0 acts.acts.2 tells (all side).paths

pub rests_by_answer : (starts : Starts) (past history : List Entry) (hosts : Nodes) (side : Side) (instant due : ℤ) (at : Option ℤ) (slot : ℕ)
    → StillRun starts history hosts → WasAsked side instant at past history → pos 0 ≤ℤ due → IsEarlier due at → WaitsForNone slot (node hosts side)
    → IsIdle due slot (node hosts side)
rests_by_answer starts past history hosts side instant due at slot still (e, is, asks, tells) low early idle =
    by_question slot due low starts past e hosts side instant at (subst (λ (h : List Entry). StillRun starts h hosts) is still) asks tells early idle

-- BOTH WERE ASKED

-- whoever wants to be asked by then wanted it no earlier than its host answered
not_before : (due : ℤ) (at : Option ℤ) → (IsEarlier due at → ⊥) → (t : ℤ) → IsByThen t at → t ≤ℤ due
not_before due None never t by = absurd (never tt)
not_before due (Some m) never t by = either (int_lt due m) refl where
  either : (test : Bool) → int_lt due m ≡ test → t ≤ℤ due
  either true is = absurd (never (first_of (omega (arith, ints), grind (arith, ints))))
  either false is = first_of (omega (arith, ints, by), grind (arith, ints))

in_turn : (a b c : ℤ) → a ≤ℤ b → b ≤ℤ c → a ≤ℤ c
in_turn a b c one two = omega (arith, ints, one, two)

-- the clock of the last question
clock_asked : (history past : List Entry) (e : Entry) (side : Side) (instant : ℤ) → history ≡ e ∷ past → e.event ≡ E.PollAt side instant → clock_in history ≡ instant
clock_asked history past e side instant is asks = ap clock_in is ∙ ap (λ (event : Event). told_by (kind_of event) (clock_in past)) asks

module _ (starts : Starts) (slots : Side → ℕ) (history first between : List Entry) (hosts : Nodes) (still : StillRun starts history hosts) (instant : ℤ)
    (a b : Option ℤ) (asked_a : WasAsked A instant a first between) (asked_b : WasAsked B instant b between history)
    (idle : (side : Side) → WaitsForNone (slots side) (node hosts side)) where
  abbrev answer : Side → Option ℤ
  answer A = a
  answer B = b

  -- B was asked last, and A before that
  run : StillRun starts (asked_b.0 ∷ between) hosts
  run = subst (λ (h : List Entry). StillRun starts h hosts) asked_b.1 still

  a_same : node hosts A ≡ node run.0 A
  a_same = (acted between run.0 hosts asked_b.0 B instant run.2 asked_b.2).rests

  low : pos 0 ≤ℤ instant
  low =
      let acts = (acted between run.0 hosts asked_b.0 B instant run.2 asked_b.2).acts in
      let now : (node hosts B).host.inner.instant ≡ instant = ap (λ (s : NodeValue). s.host.inner.instant) acts.2 in
      subst (λ (m : ℤ). pos 0 ≤ℤ m) now (run.3 B).instant.0

  rests : (side : Side) (due : ℤ) → instant ≤ℤ due → IsEarlier due (answer side) → WantsAt due (slots side) (node hosts side) → ⊥
  rests A due up early wants =
      rests_by_answer starts first between run.0 A instant due a (slots A) run.1 asked_a (in_turn (pos 0) instant due low up) early
      (subst (λ (s : NodeValue). WaitsForNone (slots A) s) a_same (idle A))
      (subst (λ (s : NodeValue). WantsAt due (slots A) s) a_same wants)
  rests B due up early wants =
      rests_by_answer starts between history hosts B instant due b (slots B) still asked_b (in_turn (pos 0) instant due low up) early (idle B) wants

  clock_is : clock_in history ≡ instant
  clock_is = clock_asked history between asked_b.0 B instant asked_b.1 asked_b.2

  by_then : (t : ℤ) → IsByThen t a × IsByThen t b → (side : Side) → IsByThen t (answer side)
  by_then t both A = both.0
  by_then t both B = both.1

  pub soon : (t : ℤ) → (t ≤ℤ instant) ⊎ (IsByThen t a × IsByThen t b) → (side : Side) (due : ℤ) → clock_in history ≤ℤ due
      → WantsAt due (slots side) (node hosts side) → t ≤ℤ due
  soon t (inl same) side due up wants = in_turn t instant due same (subst (λ (m : ℤ). m ≤ℤ due) clock_is up)
  soon t (inr both) side due up wants =
      not_before due (answer side) (λ early. rests side due (subst (λ (m : ℤ). m ≤ℤ due) clock_is up) early wants) t (by_then t both side)

pub proceeds_at_once : (starts : Starts) (slots : Side → ℕ) (past more first between : List Entry) (e : Entry) (hosts : Nodes)
    (still : StillRun starts (e ∷ more ++ past) hosts) (instant : ℤ) (a b : Option ℤ) → AreServedAtOnce starts slots past more still.0 still.1
    → WasAsked A instant a first between → WasAsked B instant b between (more ++ past) → ((side : Side) → WaitsForNone (slots side) (node still.0 side))
    → (clock_in (e ∷ more ++ past) ≤ℤ instant) ⊎ (IsByThen (clock_in (e ∷ more ++ past)) a × IsByThen (clock_in (e ∷ more ++ past)) b)
    → AreServedAtOnce starts slots past (e ∷ more) hosts still
proceeds_at_once starts slots past more first between e hosts still instant a b served asked_a asked_b idle up =
    (served, soon starts slots (more ++ past) first between still.0 still.1 instant a b asked_a asked_b idle (clock_in (e ∷ more ++ past)) up)

pub stays_at_once : (starts : Starts) (slots : Side → ℕ) (past more : List Entry) (e : Entry) (hosts : Nodes) (still : StillRun starts (e ∷ more ++ past) hosts)
    → AreServedAtOnce starts slots past more still.0 still.1 → clock_in (e ∷ more ++ past) ≤ℤ clock_in (more ++ past)
    → AreServedAtOnce starts slots past (e ∷ more) hosts still
stays_at_once starts slots past more e hosts still served stays =
    (served, λ side due up wants. in_turn (clock_in (e ∷ more ++ past)) (clock_in (more ++ past)) due stays up)
