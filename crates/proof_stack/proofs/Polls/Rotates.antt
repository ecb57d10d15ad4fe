-- Steps of the egress path, one after the other, are rounds of questions: so each neighbour that is waited for has its turn.
use Rattle.std.proofs.Common.{◌≡◌, ℕ, suc, ◌<◌, ◌≤◌, Bool, true, false, ◌⊎◌, inl, inr, ℤ, pos, ◌+ℤ◌, ◌≤ℤ◌, not, ◌&&◌, List, [], ◌∷◌, length, Option, Some, None}
use Rattle.std.proofs.Common.{refl, sym, ap, ◌∙◌, subst, arith}
use Rattle.std.specs.Prelude.{nat_lt}
use Rattle.std.specs.List.{AllByRecursion}
use Rattle.std.proofs.lemmas.Int.{ints}
use Rattle.net_base.specs.Device.{Move}
use Rattle.ip_wire.specs.AddressTests.{is_same_address}
use Rattle.ip_wire.specs.IpAddress.{IpAddress}
use Rattle.iface_tables.specs.Inner.{InnerValue}
use Rattle.iface_tables.specs.Neighbor.{CacheValue, answer_of, is_search_for, last_request, silent_time}
use Rattle.iface_tables.specs.declared.neighbor.Search.{Search}
use Rattle.iface_tables.proofs.PathMtu.{itself}
use Rattle.iface_tables.specs.Best.{first_that}
use Rattle.interface.specs.Awaited.{next_awaited}
use Rattle.interface.specs.declared.awaited.Awaited.{Awaited}
use Rattle.proof_stack.specs.Progress.Rounds.{AreRounds, IsOneOf, PassesOver, Round}
use Rattle.proof_stack.specs.Progress.EgressSteps.{AreInOrder, AsksThen, GoesBefore, IsAskedFor, IsAwaited, IsWaitedFor, OutStep, WaitsOn, host_in}
use Rattle.proof_stack.proofs.Polls.First.{same_address}
use Rattle.proof_stack.proofs.Polls.Round.{asked_within}
use Rattle.proof_stack.proofs.Polls.Searches.{WaitsAt, asked_last, next_offset, others_stay, someone_next}
use Rattle.proof_stack.proofs.Polls.Silenced.{counted}
use Rattle.proof_stack.proofs.Polls.Waited.{step_asks_in_turn}

pub has_room : (many b : Bool) → many ≡ false → (not many && not b) ≡ false → b ≡ true
has_room many true alone is = refl
has_room true false alone is = absurd (let clash : true ≡ false = alone in cc)
has_room false false alone is = absurd (let clash : true ≡ false = is in cc)

same_instant : (m : ℤ) → m ≤ℤ m
same_instant m = grind (arith, ints)

no_earlier : (m s t : ℤ) → m ≤ℤ (s +ℤ pos silent_time) → s ≤ℤ t → m ≤ℤ (t +ℤ pos silent_time)
no_earlier m s t first second = grind (arith, ints)

module _ {D : Type 0} (moves : D → Move → D → Type 0) where
  abbrev known_at : OutStep moves → CacheValue
  known_at x = x.old.host.inner.neighbors

  -- before the first of these steps this is the last request for a neighbour
  abbrev LastIs : IpAddress → Option ℤ → List (OutStep moves) → Type 0
  LastIs h last [] = Unit {0}
  LastIs h last (x ∷ more) = last_request (known_at x) h ≡ last

  -- that is to be answered no earlier than this, and so is what the step itself may ask for
  abbrev IsLater : IpAddress → ℤ → List (OutStep moves) → Type 0
  IsLater h m [] = Unit {0}
  IsLater h m (x ∷ more) = (l : ℤ) × (last_request (known_at x) h ≡ Some l) × (m ≤ℤ l) × (m ≤ℤ (x.instant +ℤ pos silent_time))

  -- of a round that asks for this neighbour the same
  abbrev Since : IpAddress → ℤ → Round → Type 0
  Since h m r = r.asked.hop ≡ h → (l : ℤ) × (r.asked.last_request ≡ Some l) × (m ≤ℤ l)

  -- BETWEEN TWO STEPS

  module _ (x : OutStep moves) (hop : IpAddress) (asks : AsksThen moves x hop) (room : nat_lt (length (known_at x).searches) (known_at x).search_room ≡ true) where
    abbrev left : CacheValue
    left = x.new.host.inner.neighbors

    -- the question counts, and what is known of others stays
    counts : last_request left hop ≡ Some (x.instant +ℤ pos silent_time)
    counts = ap (λ (c : CacheValue). last_request c hop) asks.counts ∙ counted (known_at x) hop x.instant

    stays : (h : IpAddress) → is_same_address hop h ≡ false → last_request left h ≡ last_request (known_at x) h
    stays h apart = ap (λ (c : CacheValue). last_request c h) asks.counts ∙ others_stay (known_at x) hop h x.instant apart room

    searched : (h : IpAddress) (y : OutStep moves) (more : List (OutStep moves)) → GoesBefore moves x (y ∷ more)
        → last_request (known_at y) h ≡ last_request left h
    searched h y more before = ap (λ (found : List Search). answer_of (first_that (is_search_for h) found)) before.1

    last_then : (h : IpAddress) (last : Option ℤ) (more : List (OutStep moves)) → GoesBefore moves x more → last_request left h ≡ last → LastIs h last more
    last_then h last [] before is = tt
    last_then h last (y ∷ more) before is = searched h y more before ∙ is

    now_later : (more : List (OutStep moves)) → GoesBefore moves x more → IsLater hop (x.instant +ℤ pos silent_time) more
    now_later [] before = tt
    now_later (y ∷ more) before = (
      x.instant +ℤ pos silent_time,
      searched hop y more before ∙ counts,
      same_instant (x.instant +ℤ pos silent_time),
      no_earlier (x.instant +ℤ pos silent_time) x.instant y.instant (same_instant (x.instant +ℤ pos silent_time)) before.0,
    )

    still_later : (h : IpAddress) (m : ℤ) (more : List (OutStep moves)) → GoesBefore moves x more → IsLater h m (x ∷ more) → IsLater h m more
    still_later h m [] before is = tt
    still_later h m (y ∷ more) before is = by (is_same_address hop h) refl where
      then_too : m ≤ℤ (y.instant +ℤ pos silent_time)
      then_too = no_earlier m x.instant y.instant is.3 before.0

      by : (b : Bool) → is_same_address hop h ≡ b → IsLater h m (y ∷ more)
      by true same = (
        x.instant +ℤ pos silent_time,
        searched h y more before ∙ subst (λ (a : IpAddress). last_request left a ≡ Some (x.instant +ℤ pos silent_time)) (same_address hop h same) counts,
        is.3,
        then_too,
      )
      by false apart = (is.0, searched h y more before ∙ stays h apart ∙ is.1, is.2, then_too)

  abbrev never : Option ℤ
  never = None

  -- THE ROUNDS

  module _ (hop : IpAddress) (hops : List IpAddress) (last : Option ℤ) where
    -- these steps ask for others, and are rounds
    record Passing (steps : List (OutStep moves)) : Type 0 where
      rounds : List Round
      many : length rounds ≡ length steps
      are : AreRounds rounds
      over : AllByRecursion (PassesOver hop last hops) rounds
      later : (h : IpAddress) (m : ℤ) → IsLater h m steps → AllByRecursion (Since h m) rounds

    none_passes : Passing []
    none_passes = record { rounds = []; many = refl; are = tt; over = tt; later = λ h m is. tt }

    module _ (x : OutStep moves) (more : List (OutStep moves)) (before : GoesBefore moves x more) (waited : IsWaitedFor moves hop hops x)
        (start : last_request (known_at x) hop ≡ last) (a : Awaited) (turn : next_awaited (host_in moves x) x.old.slots ≡ Some a) where
      abbrev now : InnerValue
      now = host_in moves x

      abbrev round : Round
      round = record { host = now; slots = x.old.slots; asked = a; turn = turn }

      asks : AsksThen moves x a.hop
      asks = step_asks_in_turn moves hops x a waited.freely turn

      room : nat_lt (length (known_at x).searches) (known_at x).search_room ≡ true
      room = has_room (host_in moves x).host_requirements (nat_lt (length (known_at x).searches) (known_at x).search_room) waited.freely.alone waited.freely.room

      who : WaitsAt now (WaitsOn now hops) x.old.slots a
      who = next_offset now (WaitsOn now hops) x.old.slots a waited.freely.waiting turn

      abbrev awaited : IsAwaited now x.old.slots hop
      awaited = waited.awaited

      since : awaited.awaited.last_request ≡ last
      since =
          asked_last now awaited.slot.inner awaited.awaited awaited.waits
          ∙ ap (last_request (known_at x)) awaited.whom ∙ start

      passes : is_same_address a.hop hop ≡ false → PassesOver hop last hops round
      passes apart = record {
        n = awaited.n;
        slot = awaited.slot;
        awaited = awaited.awaited;
        stands = awaited.stands;
        waits = awaited.waits;
        whom = awaited.whom;
        since = since;
        due = λ when is. awaited.over when (since ∙ is);
        other = λ same. absurd (let clash : true ≡ false =
            sym (itself a.hop) ∙ ap (is_same_address a.hop) same ∙ apart in cc);
        another = (who.such a who.waits).0;
      }

      asked_since : (h : IpAddress) (m : ℤ) → IsLater h m (x ∷ more) → Since h m round
      asked_since h m is same = (
        is.0,
        asked_last now who.slot.inner a who.waits ∙ ap (last_request (known_at x)) same ∙ is.1,
        is.2,
      )

      passing : is_same_address a.hop hop ≡ false → Passing more → Passing (x ∷ more)
      passing apart rest = record {
        rounds = round ∷ rest.rounds;
        many = ap (λ (n : ℕ). suc n) rest.many;
        are = (rest.later a.hop (x.instant +ℤ pos silent_time) (now_later x a.hop asks room more before), rest.are);
        over = (passes apart, rest.over);
        later = λ h m is. (asked_since h m is, rest.later h m (still_later x a.hop asks room h m more before is));
      }

      decided : (b : Bool) → is_same_address a.hop hop ≡ b
          → (LastIs hop last more → IsAskedFor moves hop more ⊎ Passing more) → IsAskedFor moves hop (x ∷ more) ⊎ Passing (x ∷ more)
      decided true same rest = inl (inl (subst (λ (h : IpAddress). AsksThen moves x h) (same_address a.hop hop same) asks))
      decided false apart rest =
          by (rest (last_then x a.hop asks room hop last more before (stays x a.hop asks room hop apart ∙ start)))
        where
          by : IsAskedFor moves hop more ⊎ Passing more → IsAskedFor moves hop (x ∷ more) ⊎ Passing (x ∷ more)
          by (inl asked) = inl (inr asked)
          by (inr others) = inr (passing apart others)

    asked_or_passing : (steps : List (OutStep moves)) → AreInOrder moves steps → AllByRecursion (IsWaitedFor moves hop hops) steps → LastIs hop last steps
        → IsAskedFor moves hop steps ⊎ Passing steps
    asked_or_passing [] order waited start = inr none_passes
    asked_or_passing (x ∷ more) order waited start =
        let awaited : IsAwaited (host_in moves x) x.old.slots hop = waited.0.awaited in
        let turn : (a : Awaited) × (next_awaited (host_in moves x) x.old.slots ≡ Some a) =
        someone_next (host_in moves x) x.old.slots awaited.n awaited.slot awaited.awaited awaited.stands awaited.waits in
        decided x more order.0 waited.0 start turn.0 turn.1 (is_same_address turn.0.hop hop) refl
        (λ then_start. asked_or_passing more order.1 waited.1 then_start)

    asked_by : (steps : List (OutStep moves)) → IsOneOf hop hops → length hops ≤ length steps → IsAskedFor moves hop steps ⊎ Passing steps
        → IsAskedFor moves hop steps
    asked_by steps ours enough (inl asked) = asked
    asked_by steps ours enough (inr others) =
        let few : length others.rounds < length hops = asked_within others.rounds hops hop last others.are others.over ours in
        let many = others.many in
        absurd (omega (arith, few, many, enough))

  pub has_its_turn : (hops : List IpAddress) (hop : IpAddress) (steps : List (OutStep moves)) → AreInOrder moves steps
      → AllByRecursion (IsWaitedFor moves hop hops) steps → IsOneOf hop hops → length hops ≤ length steps → IsAskedFor moves hop steps
  has_its_turn hops hop [] order waited ours enough =
      asked_by hop hops never [] ours enough (asked_or_passing hop hops never [] order waited tt)
  has_its_turn hops hop (x ∷ more) order waited ours enough =
      asked_by hop hops (last_request (known_at x) hop) (x ∷ more) ours enough
      (asked_or_passing hop hops (last_request (known_at x) hop) (x ∷ more) order waited refl)
