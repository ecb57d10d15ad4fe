-- Through the rounds of a world that settles, event by event.
use Rattle.std.proofs.Common.{◌≡◌, ◌⊎◌, inl, inr, ℕ, zero, suc, ◌+◌, ◌-◌, ◌≤◌, ℤ, ◌≤ℤ◌, int_lt, Bool, true, false, cond, if◌then◌else◌, List, [], ◌∷◌, ◌++◌, length, Option, Some, None, refl, sym, ap, ◌∙◌, subst, arith}
use Rattle.std.specs.Prelude.{min, option_map}
use Rattle.std.specs.Int.{int_max}
use Rattle.std.specs.List.{AllByRecursion}
use Rattle.std.proofs.lemmas.Int.{ints}
use Rattle.interface.specs.Instant.{earlier}
use Rattle.tcp_block.specs.State.{State}
use Rattle.lan.specs.declared.at_link.history.answer.Answer.{Answer}
use Rattle.lan.specs.declared.at_link.history.answer.Answer.TheVariants as To
use Rattle.lan.specs.declared.at_link.history.event.Event.{Event}
use Rattle.lan.specs.declared.at_link.history.event.Event.TheVariants as E
use Rattle.lan.specs.declared.at_link.history.event.Side.{Side}
use Rattle.lan.specs.declared.at_link.history.event.Side.TheVariants.{A, B}
use Rattle.lan.specs.Worlds.AtLink.Initial.{IsInitialWorld}
use Rattle.lan.specs.Worlds.AtLink.History.{Counts, Entry}
use Rattle.lan.specs.Worlds.AtLink.Kinds.{kind_of}
use Rattle.lan.specs.Worlds.AtLink.Runs.{Leads, Starts, Step, Steps, WorldRun, WorldValue, unused_both}
use Rattle.lan.specs.Worlds.AtLink.Node.{Nodes, node}
use Rattle.lan.specs.Worlds.Events.{AreTyped, IsTyped}
use Rattle.lan.specs.Worlds.Settling.{AreBothAsked, AreServed, IsCalm, IsRound, IsServed, IsService, Rounds, Settles, WasAsked, all_sent, deliveries}
use Rattle.lan.specs.Worlds.Still.{StillRun}
use Rattle.lan.proofs.Worlds.StillOnward.{ran}
use Rattle.proof_stack.specs.Progress.AtOnce.{IsByThen}
use Rattle.proof_stack.specs.Progress.Events.{clock_in}
use Rattle.proof_stack.specs.Progress.Serving.{WaitsForNone, WantsAt}
use Rattle.proof_stack.specs.Progress.Within.{NobodyWaits}
use Rattle.proof_stack.proofs.EventAnswers.{soon}
use Rattle.proof_stack.proofs.Rounds.Events.{Carries, Clocked, all_came, ask_carries, ask_clocked, deliver_carries, deliver_clocked, entry, fewer_carried, poll_carries, poll_clocked, sent_stays}
use Rattle.proof_stack.proofs.Rounds.OnWay.{with_count}
use Rattle.proof_stack.proofs.Rounds.OneRun.{Once, runs_once}

no_earlier : (t : ℤ) → t ≤ℤ t
no_earlier t = omega (arith, ints)

in_turn : (a b c : ℤ) → a ≤ℤ b → b ≤ℤ c → a ≤ℤ c
in_turn a b c one two = omega (arith, ints, one, two)

service_typed : (event : Event) → IsService event → IsTyped (kind_of event)
service_typed (E.Poll side instant budget) is = tt
service_typed (E.PollAt side instant) is = tt
service_typed (E.Deliver from k padding) is = tt
service_typed event is = absurd is

-- how many frames of each side were handed over: what a round is asked whether it is calm after
abbrev Domain : {X : Type 0} {Y : Type 1} → (X → Y) → Type 0
Domain {X} {Y} f = X

abbrev pub Handed : Type 0
Handed = Domain IsCalm

abbrev pub of : Handed → Side → ℕ
of h A = h.a
of h B = h.b

-- THE NEXT MOMENT

some_same : {X : Type 0} (x y : X) → Some x ≡ Some y → x ≡ y
some_same x y is = cc

by_max : (m z next : ℤ) → next ≡ int_max m z → (m ≤ℤ next) × ((next ≤ℤ m) ⊎ (next ≡ z))
by_max m z next is = by (int_lt z m) refl is where
  by : (test : Bool) → int_lt z m ≡ test → next ≡ cond test m z → (m ≤ℤ next) × ((next ≤ℤ m) ⊎ (next ≡ z))
  by true less same =
      (subst (λ (x : ℤ). m ≤ℤ x) (sym same) (no_earlier m), inl (subst (λ (x : ℤ). x ≤ℤ m) (sym same) (no_earlier m)))
  by false more same =
      let up : m ≤ℤ z = first_of (grind (arith, ints, more), omega (arith, ints, more)) in
      (subst (λ (x : ℤ). m ≤ℤ x) (sym same) up, inr same)

least : (x y : ℤ) → ((if int_lt y x then y else x) ≤ℤ x) × ((if int_lt y x then y else x) ≤ℤ y)
least x y = by (int_lt y x) refl where
  by : (test : Bool) → int_lt y x ≡ test → ((if test then y else x) ≤ℤ x) × ((if test then y else x) ≤ℤ y)
  by true less = (first_of (omega (arith, ints, less), grind (arith, ints, less)), no_earlier y)
  by false more = (no_earlier x, first_of (omega (arith, ints, more), grind (arith, ints, more)))

abbrev Next : ℤ → ℤ → Option ℤ → Option ℤ → Type 0
Next instant next a b = (instant ≤ℤ next) × ((next ≤ℤ instant) ⊎ (IsByThen next a × IsByThen next b))

next_by : (instant z next : ℤ) (a b : Option ℤ) → IsByThen z a × IsByThen z b → next ≡ int_max instant z → Next instant next a b
next_by instant z next a b both is = go (by_max instant z next is) where
  go : (instant ≤ℤ next) × ((next ≤ℤ instant) ⊎ (next ≡ z)) → Next instant next a b
  go (up, inl stays) = (up, inl stays)
  go (up, inr same) = (up, inr (subst (λ (t : ℤ). IsByThen t a × IsByThen t b) (sym same) both))

next_soon : (instant next : ℤ) (a b : Option ℤ) → Some next ≡ option_map (int_max instant) (earlier a b) → Next instant next a b
next_soon instant next None None is = absurd (cc)
next_soon instant next None (Some y) is = next_by instant y next None (Some y) (tt, no_earlier y) (some_same next (int_max instant y) is)
next_soon instant next (Some x) None is = next_by instant x next (Some x) None (no_earlier x, tt) (some_same next (int_max instant x) is)
next_soon instant next (Some x) (Some y) is =
    next_by instant (if int_lt y x then y else x) next (Some x) (Some y) (least x y)
    (some_same next (int_max instant (if int_lt y x then y else x)) is)

module _ (once : Once) (starts : Starts) (initial : IsInitialWorld starts) (slots : Side → ℕ) (past : List Entry) where
  -- WORLDS

  abbrev Still : List Entry → Nodes → Type 0
  Still more hosts = StillRun starts (more ++ past) hosts

  abbrev Free : (more : List Entry) (hosts : Nodes) → Still more hosts → Type 0
  Free more hosts still = NobodyWaits starts slots past more hosts still

  free_now : (more : List Entry) (hosts : Nodes) (still : Still more hosts) → Free more hosts still → (s : Side) → WaitsForNone (slots s) (node hosts s)
  free_now [] hosts still free = free
  free_now (e ∷ more) hosts still free = free.1

  -- services led to this world, and however its hosts were still, where nobody waited for a neighbor, something holds of it
  pub record Walk (Holds : (more : List Entry) (hosts : Nodes) → Still more hosts → Type 0) (w : WorldValue) : Type 0 where
    pub more : List Entry
    pub history : w.history ≡ more ++ past
    pub same_starts : w.starts ≡ starts
    pub services : AllByRecursion (λ e. IsService e.event) more
    pub typed : AreTyped (more ++ past)
    pub run : WorldRun (more ++ past) (unused_both starts) w.hosts
    pub goes : (still : Still more w.hosts) → Free more w.hosts still → Holds more w.hosts still

  same_end : (more : List Entry) (one other : Nodes) → WorldRun (more ++ past) (unused_both starts) one → Still more other → one ≡ other
  same_end more one other run still = runs_once once starts (more ++ past) (unused_both starts) one other run (ran starts (more ++ past) other still)

  module _ (Holds Then : (more : List Entry) (hosts : Nodes) → Still more hosts → Type 0) where
    walk_map : (w : WorldValue) → ((more : List Entry) (still : Still more w.hosts) → Free more w.hosts still → Holds more w.hosts still → Then more w.hosts still)
        → Walk Holds w → Walk Then w
    walk_map w by walk = record {
      more = walk.more;
      history = walk.history;
      same_starts = walk.same_starts;
      services = walk.services;
      typed = walk.typed;
      run = walk.run;
      goes = λ still free. by walk.more still free (walk.goes still free);
    }

    walk_step : (w w' : WorldValue) (event : Event) (answer : Answer) → IsService event → Step w event answer w'
        → ((before : Counts) (found : Option State) (more : List Entry) (hosts : Nodes) (still : Still (entry event answer before found ∷ more) hosts)
        → AreTyped (entry event answer before found ∷ more ++ past) → Holds more still.0 still.1 → Then (entry event answer before found ∷ more) hosts still)
        → Walk Holds w → Walk Then w'
    walk_step w w' event answer is step by walk = record {
      more = entry event answer step.entry.before step.entry.found ∷ walk.more;
      history = step.history ∙ (λ k. kept k ∷ walk.history k);
      same_starts = step.starts ∙ walk.same_starts;
      services = (is, walk.services);
      typed = (service_typed event is, walk.typed);
      run = (w.hosts, walk.run, leads);
      goes = λ still free.
          by step.entry.before step.entry.found walk.more w'.hosts still (service_typed event is, walk.typed) (before still.0 still.1 free.0);
    } where
      kept : step.entry ≡ entry event answer step.entry.before step.entry.found
      kept = λ k. record { event = step.event_kept k; answer = step.answer_kept k; before = step.entry.before; found = step.entry.found }

      leads : Leads (walk.more ++ past) w.hosts (entry event answer step.entry.before step.entry.found) w'.hosts
      leads =
          subst (λ (h : List Entry). Leads h w.hosts (entry event answer step.entry.before step.entry.found) w'.hosts) walk.history
          (subst (λ (x : Entry). Leads w.history w.hosts x w'.hosts) kept step.leads)

      before : (hosts : Nodes) (still : Still walk.more hosts) → Free walk.more hosts still → Holds walk.more hosts still
      before hosts still =
          subst (λ (x : Nodes). (s : Still walk.more x) → Free walk.more x s → Holds walk.more x s) (same_end walk.more w.hosts hosts walk.run still)
          walk.goes still

  -- WHAT HOLDS DURING A ROUND

  abbrev During : ℤ → ℤ → (Side → ℕ) → (more : List Entry) (hosts : Nodes) → Still more hosts → Type 0
  During next instant k more hosts still = Carries starts initial slots past next k more hosts still × Clocked starts initial slots past instant more hosts still

  -- fewer were handed over
  lower : (instant : ℤ) (j k : Side → ℕ) (w : WorldValue) → ((s : Side) → j s ≤ k s) → Walk (During instant instant k) w → Walk (During instant instant j) w
  lower instant j k w less =
      walk_map (During instant instant k) (During instant instant j) w
      (λ more still free d. (fewer_carried starts initial slots past instant j k more w.hosts still less d.0, d.1))

  -- FRAMES ARE HANDED OVER

  abbrev Handing : ℤ → Side → ℕ → ℕ → (Side → ℕ) → (more : List Entry) (hosts : Nodes) → Still more hosts → Type 0
  Handing instant side j n k more hosts still = During instant instant (with_count side j k) more hosts still × (j + n ≤ length (node hosts side).link.sent)

  walk_deliveries : (instant : ℤ) (side : Side) (k : Side → ℕ) (n j m : ℕ) (w w' : WorldValue) → m ≡ j + n → Steps w (deliveries side j n) w'
      → Walk (Handing instant side j n k) w → Walk (During instant instant (with_count side m k)) w'
  walk_deliveries instant side k zero j m w w' is steps walk =
      let same : m ≡ j = omega (arith, is) in
      subst (λ (x : WorldValue). Walk (During instant instant (with_count side m k)) x) (sym steps)
      (subst (λ (x : ℕ). Walk (During instant instant (with_count side x k)) w) (sym same)
      (walk_map (Handing instant side j 0 k) (During instant instant (with_count side j k)) w (λ more still free h. h.0) walk))
  walk_deliveries instant side k (suc n) j m w w' is (answer, next, step, rest) walk =
      walk_deliveries instant side k n (suc j) m next w' (omega (arith, is)) rest
      (walk_step (Handing instant side j (suc n) k) (Handing instant side (suc j) n k) w next (E.Deliver side j []) answer refl step
      (λ before found more hosts still typed h. (
        (
          deliver_carries starts initial slots past side j answer before found instant k more hosts still h.0.1.clock
              (let some = h.1 in omega (arith, some)) h.0.0,
          deliver_clocked starts initial slots past side j answer before found instant more hosts still h.0.1,
        ),
        subst (λ (x : Nodes). suc j + n ≤ length (node x side).link.sent) (sym (still.2.happens.2))
            (subst (λ (fs : List (List ℕ)). suc j + n ≤ length fs) (sym (sent_stays starts initial slots past still.0 side j side))
            (let some = h.1 in omega (arith, some))),
      )) walk)

  -- A HOST IS SERVED

  own_count : (side : Side) (n : ℕ) (k : Side → ℕ) → with_count side n k side ≡ n
  own_count A n k = refl
  own_count B n k = refl

  min_first : (now most sum : ℕ) → now ≡ min most sum → now ≤ most
  min_first now most sum is = first_of (omega (arith, is), grind (arith, is))

  no_more : (handed now len : ℕ) → handed ≤ len → now ≤ len → handed + (now - handed) ≤ len
  no_more handed now len one two = omega (arith, one, two)

  walk_served : (side : Side) (instant : ℤ) (budget handed now : ℕ) (k : Side → ℕ) (old new : WorldValue) → IsServed side instant budget handed now old new
      → Walk (During instant instant (with_count side handed k)) old → Walk (During instant instant (with_count side (handed + (now - handed)) k)) new
  walk_served side instant budget handed now k old new served walk =
      let polled : Walk (During instant instant (with_count side handed k)) served.polled =
      walk_step (During instant instant (with_count side handed k)) (During instant instant (with_count side handed k)) old served.polled (E.Poll side instant budget)
      served.answer tt served.poll
      (λ before found more hosts still typed d. (
        poll_carries starts initial slots past side instant budget served.answer before found (with_count side handed k) more hosts still d.0,
        poll_clocked starts initial slots past side instant budget served.answer before found more hosts still d.1,
      )) walk in
      walk_deliveries instant side k (now - handed) handed (handed + (now - handed)) served.polled new refl served.delivers
      (walk_map (During instant instant (with_count side handed k)) (Handing instant side handed (now - handed) k) served.polled
      (λ more still free d. (
        d,
        no_more handed now (length (node served.polled.hosts side).link.sent)
            (subst (λ (n : ℕ). n ≤ length (node served.polled.hosts side).link.sent) (own_count side handed k) (d.0.few side))
            (min_first now (length (node served.polled.hosts side).link.sent) (handed + budget) served.count),
      )) polled)

  -- BOTH ARE

  abbrev then_handed : Handed → Handed → Side → ℕ
  then_handed handed now s = of handed s + (of now s - of handed s)

  a_first : (handed : Handed) (s : Side) → with_count A handed.a (of handed) s ≤ of handed s
  a_first handed A = omega arith
  a_first handed B = omega arith

  then_b : (handed : Handed) (n : ℕ) (s : Side) → with_count B handed.b (with_count A n (of handed)) s ≤ with_count A n (of handed) s
  then_b handed n A = omega arith
  then_b handed n B = omega arith

  both_handed : (handed now : Handed) (s : Side)
      → then_handed handed now s ≤ with_count B (handed.b + (now.b - handed.b)) (with_count A (handed.a + (now.a - handed.a)) (of handed)) s
  both_handed handed now A = omega arith
  both_handed handed now B = omega arith

  walk_both : (instant : ℤ) (budget : ℕ) (handed now : Handed) (old new : WorldValue) → AreServed instant budget handed now old new
      → Walk (During instant instant (of handed)) old → Walk (During instant instant (then_handed handed now)) new
  walk_both instant budget handed now old new (between, first, last) walk =
      let a_count : ℕ = handed.a + (now.a - handed.a) in
      let b_count : ℕ = handed.b + (now.b - handed.b) in
      let one = walk_served A instant budget handed.a now.a (of handed) old between first
      (lower instant (with_count A handed.a (of handed)) (of handed) old (a_first handed) walk) in
      let two = walk_served B instant budget handed.b now.b (with_count A a_count (of handed)) between new last
      (lower instant (with_count B handed.b (with_count A a_count (of handed))) (with_count A a_count (of handed)) between (then_b handed a_count) one) in
      lower instant (then_handed handed now) (with_count B b_count (with_count A a_count (of handed))) new (both_handed handed now) two

  -- BOTH ARE ASKED

  was_handed : (handed now : Handed) (s : Side) → of handed s ≤ then_handed handed now s
  was_handed handed now s = let a : ℕ = of handed s in let b : ℕ = of now s in more a b where
    more : (a b : ℕ) → a ≤ a + (b - a)
    more a b = omega arith

  now_handed : (handed now : Handed) (s : Side) → of now s ≤ then_handed handed now s
  now_handed handed now s = more (of handed s) (of now s) where
    more : (a b : ℕ) → b ≤ a + (b - a)
    more a b = omega arith

  abbrev Asked : ℤ → Option ℤ → List Entry → Type 0
  Asked instant a more = (first : List Entry) × WasAsked A instant a first (more ++ past)

  abbrev AskedOne : ℤ → ℤ → (Side → ℕ) → Option ℤ → (more : List Entry) (hosts : Nodes) → Still more hosts → Type 0
  AskedOne next instant k a more hosts still = During next instant k more hosts still × Asked instant a more

  abbrev AskedBoth : ℤ → ℤ → (Side → ℕ) → Option ℤ → Option ℤ → (more : List Entry) (hosts : Nodes) → Still more hosts → Type 0
  AskedBoth next instant k a b more hosts still =
      During next instant k more hosts still × ((between : List Entry) × (first : List Entry) × WasAsked A instant a first between × WasAsked B instant b between (more ++ past))

  walk_asked : (next instant : ℤ) (k : Side → ℕ) (a b : Option ℤ) (old new : WorldValue) → instant ≤ℤ next → AreBothAsked instant a b old new
      → Walk (During next instant k) old → Walk (AskedBoth next instant k a b) new
  walk_asked next instant k a b old new later (between, first, last) walk =
      walk_step (AskedOne next instant k a) (AskedBoth next instant k a b) between new (E.PollAt B instant) (To.At b) tt last
      (λ before found more hosts still typed d. (
        (
          ask_carries starts initial slots past B instant (To.At b) before found next k more hosts still later d.0.0,
          ask_clocked starts initial slots past B instant (To.At b) before found more hosts still d.0.1,
        ),
        (more ++ past, d.1.0, d.1.1, (entry (E.PollAt B instant) (To.At b) before found, refl, refl, refl)),
      ))
      (walk_step (During next instant k) (AskedOne next instant k a) old between (E.PollAt A instant) (To.At a) tt first
      (λ before found more hosts still typed d. (
        (
          ask_carries starts initial slots past A instant (To.At a) before found next k more hosts still later d.0,
          ask_clocked starts initial slots past A instant (To.At a) before found more hosts still d.1,
        ),
        (more ++ past, (entry (E.PollAt A instant) (To.At a) before found, refl, refl, refl)),
      )) walk)

  -- the events that led to where a world settled kept one clock, on which each frame was taken at once, and both sockets served
  abbrev pub HasSettled : (more : List Entry) (hosts : Nodes) → Still more hosts → Type 0
  HasSettled more hosts still =
      (instant : ℤ) × (k : Side → ℕ) × Carries starts initial slots past instant k more hosts still × Clocked starts initial slots past instant more hosts still

  -- THE CLOCK GOES ON

  then_soon : (next instant : ℤ) (k : Side → ℕ) (a b : Option ℤ) (w : WorldValue) → Next instant next a b → Walk (AskedBoth next instant k a b) w
      → Walk (During next next k) w
  then_soon next instant k a b w up =
      walk_map (AskedBoth next instant k a b) (During next next k) w
      (λ more still free d. (
        d.0.0,
        record {
          keeps = d.0.1.keeps;
          clock = in_turn (clock_in (more ++ past)) instant next d.0.1.clock up.0;
          at_once = d.0.1.at_once;
          soon = λ s due.
              soon starts slots (more ++ past) d.1.1 d.1.0 w.hosts still instant a b d.1.2 d.1.3 (free_now more w.hosts still free) next up.1 s due;
        },
      ))

  -- A ROUND

  calm_sent : (handed : Handed) (w : WorldValue) → IsCalm handed w → (s : Side) → length (node w.hosts s).link.sent ≤ of handed s
  calm_sent handed w calm A = let is = ap (λ (h : Handed). h.a) calm.0 in omega (arith, is)
  calm_sent handed w calm B = let is = ap (λ (h : Handed). h.b) calm.0 in omega (arith, is)

  calm_waiting : (handed : Handed) (w : WorldValue) → IsCalm handed w → (s : Side) → (node w.hosts s).link.waiting ≡ []
  calm_waiting handed w calm A = calm.1
  calm_waiting handed w calm B = calm.2

  walk_on : (budget : ℕ) (instant : ℤ) (handed now : Handed) (next : ℤ) (before new : WorldValue) → IsRound budget instant handed now (Some next) before new
      → Walk (During instant instant (of handed)) before → Walk (During next next (of now)) new
  walk_on budget instant handed now next before new (served, both, inl (under_way, is, same)) walk =
      let at : next ≡ instant = some_same next instant is in
      subst (λ (w : WorldValue). Walk (During next next (of now)) w) (sym same)
      (subst (λ (t : ℤ). Walk (During t t (of now)) served) (sym at)
      (lower instant (of now) (then_handed handed now) served (now_handed handed now) (walk_both instant budget handed now before served both walk)))
  walk_on budget instant handed now next before new (served, both, inr (calm, a, b, asked, is)) walk =
      let up : Next instant next a b = next_soon instant next a b is in
      then_soon next instant (of now) a b new up
      (walk_asked next instant (of now) a b served new up.0 asked
      (walk_map (During instant instant (then_handed handed now)) (During next instant (of now)) served
      (λ more still free d. (
        all_came starts initial slots past instant next (of handed) (of now) (then_handed handed now) more served.hosts still (was_handed handed now) (now_handed handed now)
            (calm_sent handed served calm) (calm_waiting handed served calm) d.0,
        d.1,
      )) (walk_both instant budget handed now before served both walk)))

  none_some : {X : Type 0} (t : ℤ) → None ≡ Some t → X
  none_some t is = absurd (cc)

  -- and the last one
  walk_end : (budget : ℕ) (instant : ℤ) (handed now : Handed) (before new : WorldValue) → IsRound budget instant handed now None before new
      → Walk (During instant instant (of handed)) before → Walk (During instant instant (of now)) new
  walk_end budget instant handed now before new (served, both, inl (under_way, is, same)) walk = none_some instant is
  walk_end budget instant handed now before new (served, both, inr (calm, a, b, asked, is)) walk =
      walk_map (AskedBoth instant instant (of now) a b) (During instant instant (of now)) new (λ more still free d. d.0)
      (walk_asked instant instant (of now) a b served new (no_earlier instant) asked
      (lower instant (of now) (then_handed handed now) served (now_handed handed now) (walk_both instant budget handed now before served both walk)))

  -- ROUNDS

  walk_rounds : (budget : ℕ) (from : ℤ) (old : WorldValue) (n : ℕ) (next : ℤ) (handed : Handed) (new : WorldValue) → Rounds budget from old n next handed new
      → Walk (During from from (of (all_sent old))) old → Walk (During next next (of handed)) new
  walk_rounds budget from old zero next handed new (at, are, same) walk =
      subst (λ (w : WorldValue). Walk (During next next (of handed)) w) (sym same)
      (subst (λ (h : Handed). Walk (During next next (of h)) old) (sym are)
      (subst (λ (t : ℤ). Walk (During t t (of (all_sent old))) old) (sym at) walk))
  walk_rounds budget from old (suc n) next now new (instant, handed, before, rounds, round) walk =
      walk_on budget instant handed now next before new round (walk_rounds budget from old n instant handed before rounds walk)

  pub walk_settled : (budget : ℕ) (from : ℤ) (rounds : ℕ) (rested : Option ℤ) (old new : WorldValue) → Settles budget from rounds rested old new
      → Walk (During from from (of (all_sent old))) old → Walk HasSettled new
  walk_settled budget from rounds (Some instant) old new (n, few, handed, now, before, ran_so, round) walk =
      walk_map (During instant instant (of now)) HasSettled new (λ more still free d. (instant, of now, d.0, d.1))
      (walk_end budget instant handed now before new round (walk_rounds budget from old n instant handed before ran_so walk))
  walk_settled budget from rounds None old new (next, handed, ran_so) walk =
      walk_map (During next next (of handed)) HasSettled new (λ more still free d. (next, of handed, d.0, d.1))
      (walk_rounds budget from old rounds next handed new ran_so walk)

-- AT FIRST

pub walk_begins : (once : Once) (old : WorldValue) (initial : IsInitialWorld old.starts) (slots : Side → ℕ) (from : ℤ) → AreTyped old.history
    → WorldRun old.history (unused_both old.starts) old.hosts → clock_in old.history ≤ℤ from
    → ((s : Side) (due : ℤ) → clock_in old.history ≤ℤ due → WantsAt due (slots s) (node old.hosts s) → from ≤ℤ due)
    → Walk once old.starts initial slots old.history (During once old.starts initial slots old.history from from (of (all_sent old))) old
walk_begins once old initial slots from typed run up soon_first = record {
  more = [];
  history = refl;
  same_starts = refl;
  services = tt;
  typed = typed;
  run = run;
  goes = λ still free. (
    record { few = fits; on_way = λ s. []; carried = λ s. refl; under = λ s. tt },
    record { keeps = tt; clock = up; at_once = tt; soon = soon_first },
  );
} where
  fits : (s : Side) → of (all_sent old) s ≤ length (node old.hosts s).link.sent
  fits A = omega arith
  fits B = omega arith
