-- A host that is polled too early, and was left alone since it was asked when to poll, sends nothing.
use Rattle.std.specs.Prelude.{◌≡◌, ◌⊎◌, ◌≤ℤ◌, ◌<ℤ◌, ℤ, int_lt, Bool, true, false, not, ◌||◌, if◌then◌else◌, List, [], ◌∷◌, Option, None, Some}
use Rattle.std.specs.List.{AllByRecursion}
use Rattle.iface_ingress.specs.IpAddress.TheVariants as Address
use Rattle.interface.specs.QuietStep.{IsEarlier}
use Rattle.iface_tables.specs.Route.{is_gateway_v4, is_gateway_v6, without}
use Rattle.iface_tables.specs.declared.route.Route.{Route}
use Rattle.lan.specs.Worlds.AtLink.Call as Call
use Rattle.lan.specs.Worlds.AtLink.History.{Entry, Counts}
use Rattle.lan.specs.Worlds.AtLink.Kinds.{Act, Kind, Setting, same_side, kind_of}
use Rattle.lan.specs.Worlds.AtLink.Kinds as Set
use Rattle.lan.specs.Worlds.AtLink.Kinds.Act.{Calls, Sets, Opens, Asks, Polls}
use Rattle.lan.specs.Worlds.AtLink.Kinds.Kind.{OfHost, OfLink}
use Rattle.lan.specs.Worlds.AtLink.Kinds.LinkAct.{Hands, Cuts}
use Rattle.lan.specs.Worlds.AtLink.Answer.{Answer}
use Rattle.lan.specs.Worlds.AtLink.Answer.TheVariants as To
use Rattle.lan.specs.Worlds.AtLink.Side.{Side}
use Rattle.lan.specs.Worlds.AtLink.Origins.{goes_to, sent_before, waiting_before}
use Rattle.lan.specs.Worlds.AtLink.Runs.{Starts, start}

-- LEFT ALONE

-- an act that neither changes a host nor has it sent something, unless it is due: a look at a state, room, a question when to poll, and a
-- poll at no later instant
abbrev pub is_idle : ℤ → Act → Bool
is_idle t (Calls i Call.State) = true
is_idle t (Opens room) = true
is_idle t (Asks instant) = true
is_idle t (Polls instant budget) = not (int_lt t instant)
is_idle t act = false

-- an event that leaves a host alone up to an instant: an idle act of its own, the other's acts, a cut, and what the link hands to the other
abbrev pub leaves_alone : Side → ℤ → Kind → Bool
leaves_alone side t (OfHost s act) = not (same_side s side) || is_idle t act
leaves_alone side t (OfLink (Hands o)) = not (same_side (goes_to o) side)
leaves_alone side t (OfLink (Cuts from k at)) = true

-- a host was asked at an instant when it wants to be polled, and gave this answer, while no frame waited
pub record WasAsked (side : Side) (asked_at : ℤ) (answer : Option ℤ) (e : Entry) : Type 0 where
  pub event : kind_of e.event ≡ OfHost side (Asks asked_at)
  pub answered : e.answer ≡ To.At answer
  pub waiting : waiting_before e.before side ≡ 0

-- it was, and since then all that happened left it alone up to this instant
abbrev pub Undisturbed : Side → ℤ → ℤ → Option ℤ → List Entry → Type 0
Undisturbed side t asked_at answer [] = ⊥
Undisturbed side t asked_at answer (e ∷ past) =
    WasAsked side asked_at answer e ⊎ ((leaves_alone side t (kind_of e.event) ≡ true) × Undisturbed side t asked_at answer past)

-- ROUTES

-- a default route that is added takes the place of the first one of its family
abbrev pub routes_by : Setting → Answer → List Route → List Route
routes_by (Set.Route (Address.Ipv4 router)) To.Done routes = without is_gateway_v4 routes
routes_by (Set.Route (Address.Ipv6 router)) To.Done routes = without is_gateway_v6 routes
routes_by setting answer routes = routes

abbrev pub routes_after : Side → Kind → Answer → List Route → List Route
routes_after side (OfHost s (Sets setting)) answer routes = if same_side s side then routes_by setting answer routes else routes
routes_after side kind answer routes = routes

-- what is left of the routes that a host came with; those that are added never expire
abbrev pub routes_left : Starts → Side → List Entry → List Route
routes_left starts side [] = (start starts side).host.inner.routes
routes_left starts side (e ∷ past) = routes_after side (kind_of e.event) e.answer (routes_left starts side past)

-- never, before the first instant, or not before the second
abbrev pub IsOutside : ℤ → ℤ → Option ℤ → Type 0
IsOutside from until None = Unit {0}
IsOutside from until (Some instant) = (instant <ℤ from) ⊎ (until ≤ℤ instant)

-- no route expires from the one instant on and before the other
abbrev pub NoneExpires : ℤ → ℤ → List Route → Type 0
NoneExpires from until routes = AllByRecursion (λ r. IsOutside from until r.expires_at) routes

-- QUIET

-- a poll before the answer leaves as many frames sent as there were
abbrev pub PollWasQuiet : Starts → List Entry → Counts → Counts → Kind → Type 0
PollWasQuiet starts past before after (OfHost side (Polls t budget)) =
    (asked_at : ℤ) (answer : Option ℤ) → Undisturbed side t asked_at answer past → IsEarlier t answer
    → NoneExpires asked_at t (routes_left starts side past) → sent_before after side ≡ sent_before before side
PollWasQuiet starts past before after kind = Unit {0}

-- each poll of a history, after which there are these counts
abbrev pub PollsWereQuiet : Starts → List Entry → Counts → Type 0
PollsWereQuiet starts [] now = Unit {0}
PollsWereQuiet starts (e ∷ past) now = PollWasQuiet starts past e.before now (kind_of e.event) × PollsWereQuiet starts past e.before
