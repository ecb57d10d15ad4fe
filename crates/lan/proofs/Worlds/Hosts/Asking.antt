-- A host's own requests are a second apart: each one before, and its second, were over when the silence was.
use Rattle.std.proofs.Common.{◌≡◌, ◌≤ℤ◌, ℕ, ℤ, false, int_lt, List, [], ◌∷◌, ◌++◌, sym, subst, arith}
use Rattle.std.specs.List.{AllByRecursion}
use Rattle.iface_egress.specs.Departure.{Departure, Asks, Tells, Whole, Part}
use Rattle.interface.specs.Touches.{second_after, Silences}
use Rattle.lan.specs.Worlds.Hosts.RequestSilence.{requests_in, requests, AreApart}
use Rattle.lan.specs.Worlds.Hosts.Machine.{Turn, Machine, HostRun, instant_of}

-- each of these instants, and a second, is no later than this
abbrev pub AreOver : List ℤ → ℤ → Type 0
AreOver ts until = AllByRecursion (λ s. second_after s ≤ℤ until) ts

pub later : (a b c : ℤ) → a ≤ℤ b → b ≤ℤ c → a ≤ℤ c
later a b c one two = grind (arith)

pub itself : (a : ℤ) → a ≤ℤ a
itself a = grind (arith)

pub in_a_second : (t : ℤ) → t ≤ℤ second_after t
in_a_second t = grind (arith)

pub reached : (t mid : ℤ) → int_lt t mid ≡ false → mid ≤ℤ t
reached t mid is = grind (arith)

pub over_later : (ts : List ℤ) (a b : ℤ) → a ≤ℤ b → AreOver ts a → AreOver ts b
over_later [] a b up over = tt
over_later (t ∷ ts) a b up over = (later (second_after t) a b over.0 up, over_later ts a b up over.1)

pub record AreSilent (ts : List ℤ) (until : ℤ) : Type 0 where
  pub apart : AreApart ts
  pub over : AreOver ts until

asked_apart : (t : ℤ) (ds : List Departure) (rest : List ℤ) (before after : ℤ) → AreSilent rest before → Silences t ds before after →
    AreSilent (requests_in t ds ++ rest) after
asked_apart t [] rest before after silent is = subst (AreSilent rest) (sym is) silent
asked_apart t (Asks question ∷ ds) rest before after silent is =
    let mid = asked_apart t ds rest before is.0 silent is.1 in
    let until = reached t is.0 is.2 in
    let ts = requests_in t ds ++ rest in
    subst (AreSilent (t ∷ ts)) (sym is.3) (record {
      apart = (over_later ts is.0 t until mid.over, mid.apart);
      over = (itself (second_after t), over_later ts is.0 (second_after t) (later is.0 t (second_after t) until (in_a_second t)) mid.over);
    })
asked_apart t (Tells packet ∷ ds) rest before after silent is = asked_apart t ds rest before after silent is
asked_apart t (Whole to p ∷ ds) rest before after silent is = asked_apart t ds rest before after silent is
asked_apart t (Part to header fragment ∷ ds) rest before after silent is = asked_apart t ds rest before after silent is

run_silent : (start : Machine) (room : ℕ) (turns : List Turn) (now : Machine) → HostRun start room turns now →
    AreSilent (requests turns) now.host.inner.neighbors.silent
run_silent start room [] now run = record { apart = tt; over = tt }
run_silent start room (turn ∷ past) now run =
    asked_apart (instant_of turn.act) turn.departures (requests past) run.0.host.inner.neighbors.silent now.host.inner.neighbors.silent
    (run_silent start room past run.0 run.1) run.3.asks

pub run_apart : (start : Machine) (room : ℕ) (turns : List Turn) (now : Machine) → HostRun start room turns now → AreApart (requests turns)
run_apart start room turns now run = (run_silent start room turns now run).apart
