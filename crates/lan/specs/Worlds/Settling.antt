-- A world whose link is good, and whose hosts are served.
use Rattle.std.specs.Prelude.{◌≡◌, ◌⊎◌, ◌+◌, ◌-◌, ◌<◌, min, ℕ, zero, suc, [], ◌∷◌, ℤ, List, length, Option, None, Some, option_map}
use Rattle.std.specs.Int.{int_max}
use Rattle.std.specs.List.{AllByRecursion}
use Rattle.interface.specs.Instant.{earlier}
use Rattle.lan.specs.declared.at_link.history.answer.Answer.{Answer}
use Rattle.lan.specs.declared.at_link.history.answer.Answer.TheVariants as To
use Rattle.lan.specs.declared.at_link.history.event.Event.{Event}
use Rattle.lan.specs.declared.at_link.history.event.Event.TheVariants as E
use Rattle.lan.specs.declared.at_link.history.event.Side.{Side}
use Rattle.lan.specs.declared.at_link.history.event.Side.TheVariants.{A, B}
pub use Rattle.lan.specs.declared.world.settle.Handed.{Handed}
use Rattle.lan.specs.Worlds.AtLink.History.{Entry}
use Rattle.lan.specs.declared.at_link.history.answer.Refused.{Refused}
use Rattle.lan.specs.Worlds.AtLink.Refusals.{MayRefuse}
use Rattle.lan.specs.Worlds.AtLink.Kinds.{kind_of}
use Rattle.lan.specs.Worlds.AtLink.Runs.{Step, Steps, WorldValue, tables_in}
use Rattle.lan.specs.Worlds.AtLink.Node.{node}

-- a host is polled, or asked when it wants to be; or the link hands a sent frame over as it is
abbrev pub IsService : Event → Type 0
IsService (E.Poll side instant budget) = Unit {0}
IsService (E.PollAt side instant) = Unit {0}
IsService (E.Deliver from k padding) = padding ≡ []
IsService event = ⊥

-- a world goes on by such events alone
abbrev pub Goes : WorldValue → WorldValue → Type 0
Goes old new = (events : List Event) × AllByRecursion IsService events × Steps old events new

-- a host was asked last, at this instant, and wants to be polled then
abbrev pub WasAsked : Side → ℤ → Option ℤ → List Entry → List Entry → Type 0
WasAsked side instant at past history = (e : Entry) × (history ≡ e ∷ past) × (e.event ≡ E.PollAt side instant) × (e.answer ≡ To.At at)

-- both hosts were asked last, at this instant, and neither wants to be polled any more
abbrev pub AreIdle : ℤ → List Entry → Type 0
AreIdle instant history =
    (past between : List Entry) × WasAsked A instant None past between × WasAsked B instant None between history

-- FRAMES THAT ARE HANDED OVER

-- `Handed` says of each host how many of its frames were handed over, or are lost: at first as many as it sent
abbrev pub all_sent : WorldValue → Handed
all_sent w = record { a = length w.hosts.a.link.sent; b = length w.hosts.b.link.sent }

-- of the frames that a host sent those after the first k, so many, one after the other, each as it is
abbrev pub deliveries : Side → ℕ → ℕ → List Event
deliveries side k zero = []
deliveries side k (suc n) = E.Deliver side k [] ∷ deliveries side (suc k) n

-- A ROUND

-- a host is polled, and of its frames those after the ones that were handed over are, no more of them than its budget
pub record IsServed (side : Side) (instant : ℤ) (budget handed now : ℕ) (old new : WorldValue) : Type 0 where
  pub answer : Answer
  pub polled : WorldValue
  pub poll : Step old (E.Poll side instant budget) answer polled
  pub count : now ≡ min (length (node polled.hosts side).link.sent) (handed + budget)
  pub delivers : Steps polled (deliveries side handed (now - handed)) new

-- first A, then B
abbrev pub AreServed : ℤ → ℕ → Handed → Handed → WorldValue → WorldValue → Type 0
AreServed instant budget handed now old new =
    (between : WorldValue) × IsServed A instant budget handed.a now.a old between × IsServed B instant budget handed.b now.b between new

-- nothing is under way: all that was sent has come before, and no frame waits at either host
abbrev pub IsCalm : Handed → WorldValue → Type 0
IsCalm handed w = (handed ≡ all_sent w) × (w.hosts.a.link.waiting ≡ []) × (w.hosts.b.link.waiting ≡ [])

-- A is asked when it wants to be polled, then B
abbrev pub AreBothAsked : ℤ → Option ℤ → Option ℤ → WorldValue → WorldValue → Type 0
AreBothAsked instant a b old new =
    (between : WorldValue) × Step old (E.PollAt A instant) (To.At a) between × Step between (E.PollAt B instant) (To.At b) new

-- Where something is under way, the next round is at the same time. Where nothing is, both hosts are asked when they want to be polled, and it is
-- at the earlier instant, or at once where that has passed; if neither wants to be there is none.
abbrev pub NextRound : ℤ → Handed → Option ℤ → WorldValue → WorldValue → Type 0
NextRound instant handed next old new =
    ((IsCalm handed old → ⊥) × (next ≡ Some instant) × (new ≡ old))
    ⊎ (IsCalm handed old × (a b : Option ℤ) × AreBothAsked instant a b old new × (next ≡ option_map (int_max instant) (earlier a b)))

-- a round at an instant: both hosts are served, and it goes on from there
abbrev pub IsRound : ℕ → ℤ → Handed → Handed → Option ℤ → WorldValue → WorldValue → Type 0
IsRound budget instant handed now next old new =
    (served : WorldValue) × AreServed instant budget handed now old served × NextRound instant handed next served new

-- ROUNDS

-- so many rounds, the first at an instant; after them the next is at another, and so many frames are handed over. What was sent before is lost
abbrev pub Rounds : ℕ → ℤ → WorldValue → ℕ → ℤ → Handed → WorldValue → Type 0
Rounds budget from old zero next handed new = (next ≡ from) × (handed ≡ all_sent old) × (new ≡ old)
Rounds budget from old (suc n) next now new =
    (instant : ℤ) × (handed : Handed) × (before : WorldValue) × Rounds budget from old n instant handed before
    × IsRound budget instant handed now (Some next) before new

-- what settling did: fewer than so many rounds, and one more at the instant of rest, after which there is none; or all of them
abbrev pub Settles : ℕ → ℤ → ℕ → Option ℤ → WorldValue → WorldValue → Type 0
Settles budget from rounds (Some instant) old new =
    (n : ℕ) × (n < rounds) × (handed now : Handed) × (before : WorldValue) × Rounds budget from old n instant handed before
    × IsRound budget instant handed now None before new
Settles budget from rounds None old new = (next : ℤ) × (handed : Handed) × Rounds budget from old rounds next handed new

-- REFUSALS

-- an event comes next, and the world refuses it so: by name, or for lack of memory
abbrev pub Stops : WorldValue → Event → Refused → Type 0
Stops w event refused = MayRefuse w.hosts (tables_in w.history w.hosts) (kind_of event) refused

-- of so many frames of a host, the first after the k that were handed over is refused
abbrev pub StopsHanding : Side → ℕ → ℕ → Refused → WorldValue → WorldValue → Type 0
StopsHanding side from count refused old new =
    (k : ℕ) × (k < count) × Steps old (deliveries side from k) new × Stops new (E.Deliver side (from + k) []) refused

-- a host's poll is refused, or one of its frames after it
abbrev pub StopsServing : Side → ℤ → ℕ → ℕ → Refused → WorldValue → WorldValue → Type 0
StopsServing side instant budget handed refused old new =
    ((new ≡ old) × Stops new (E.Poll side instant budget) refused)
    ⊎ ((answer : Answer) × (polled : WorldValue) × Step old (E.Poll side instant budget) answer polled
    × StopsHanding side handed (min (length (node polled.hosts side).link.sent) (handed + budget) - handed) refused polled new)

-- A isn't served whole, or B after it
abbrev pub StopsServingBoth : ℤ → ℕ → Handed → Refused → WorldValue → WorldValue → Type 0
StopsServingBoth instant budget handed refused old new =
    StopsServing A instant budget handed.a refused old new
    ⊎ ((now : ℕ) × (between : WorldValue) × IsServed A instant budget handed.a now old between
    × StopsServing B instant budget handed.b refused between new)

-- where all is calm, a host isn't asked when it wants to be polled
abbrev pub StopsAsking : ℤ → Handed → Refused → WorldValue → WorldValue → Type 0
StopsAsking instant handed refused old new =
    IsCalm handed old × (((new ≡ old) × Stops new (E.PollAt A instant) refused)
    ⊎ ((at : Option ℤ) × Step old (E.PollAt A instant) (To.At at) new × Stops new (E.PollAt B instant) refused))

-- the round's next event is refused
abbrev pub StopsRound : ℤ → ℕ → Handed → Refused → WorldValue → WorldValue → Type 0
StopsRound instant budget handed refused old new =
    StopsServingBoth instant budget handed refused old new
    ⊎ ((now : Handed) × (served : WorldValue) × AreServed instant budget handed now old served × StopsAsking instant handed refused served new)

-- settling ends early where the next event of a round, behind whole rounds, is one that the world refuses: at once only where that is the first
abbrev pub StopsSettling : ℕ → ℤ → ℕ → Refused → WorldValue → WorldValue → Type 0
StopsSettling budget from rounds refused old new =
    (n : ℕ) × (n < rounds) × (instant : ℤ) × (handed : Handed) × (before : WorldValue) × Rounds budget from old n instant handed before
    × StopsRound instant budget handed refused before new
