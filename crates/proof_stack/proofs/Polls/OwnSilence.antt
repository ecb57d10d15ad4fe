-- With host requirements a neighbour that is still to answer its last question isn't asked again, whoever else is.
use Rattle.std.proofs.Common.{◌≡◌, ℕ, zero, suc, Bool, true, false, cond, if◌then◌else◌, ℤ, pos, int_lt, List, [], ◌∷◌, ◌++◌, length, Option, Some, None, refl, sym, ap, ◌∙◌}
use Rattle.std.specs.Prelude.{nat_lt, find, position, slice_get, remove}
use Rattle.std.specs.Option.{option_or}
use Rattle.std.proofs.lemmas.List.Folds.{find-append}
use Rattle.net_base.specs.Device.{Move}
use Rattle.ip_wire.specs.AddressTests.{is_same_address}
use Rattle.ip_wire.specs.IpAddress.{IpAddress}
use Rattle.ip_wire.specs.IpRepr.{IpRepr}
use Rattle.iface_tables.specs.Best.{at_index}
use Rattle.iface_tables.specs.Inner.{InnerValue, silence_of}
use Rattle.iface_tables.specs.Neighbor.{CacheValue, answer_due, answer_of, first_search, is_search_for, last_request, oldest_search, own_silence, requested, search_of}
use Rattle.iface_tables.specs.Neighbor.{searched_at}
use Rattle.iface_tables.specs.declared.neighbor.Search.{Search}
use Rattle.iface_tables.proofs.PathMtu.{at_first}
use Rattle.iface_egress.specs.Departing.{host_after}
use Rattle.iface_egress.specs.Departure.{target_of}
use Rattle.iface_egress.specs.Plan.{plan_of}
use Rattle.iface_egress.specs.declared.egress_path.Sent.{Sent}
use Rattle.iface_egress.specs.declared.egress_path.Sent.TheVariants as Outcome
use Rattle.iface_egress.specs.declared.frame.NeighborQuery.{NeighborQuery}
use Rattle.iface_egress.specs.declared.plan.Plan.{Plan}
use Rattle.iface_egress.specs.declared.plan.Plan.TheVariants as Way
use Rattle.iface_egress.proofs.Stepping.{asked_late_for}
use Rattle.interface.specs.Egress.{EgressStep, sending}
use Rattle.interface.specs.State.{State}
use Rattle.proof_stack.proofs.Polls.First.{same_address}
use Rattle.proof_stack.proofs.Polls.HostKept.{step_kept}
use Rattle.proof_stack.proofs.Polls.Searches.{asked_again}

clash : {X : Type 0} → true ≡ false → X
clash {X} e = absurd cc

-- A QUESTION FOR ANOTHER ONE

module _ (c : CacheValue) (x h : IpAddress) (instant : ℤ) (ours : Search) (found : find (is_search_for h) c.searches ≡ Some ours)
    (early : int_lt instant ours.answer_by ≡ true) (over : int_lt instant (own_silence (last_request c x) c) ≡ false) where
  abbrev theirs : Search → Bool
  theirs = is_search_for h

  -- it isn't this one: whose silence lasts
  not_ours : x ≡ h → ⊥
  not_ours is = clash (sym early ∙ ap (λ (o : Option ℤ). int_lt instant (own_silence o c)) (sym last) ∙ over) where
    last : last_request c x ≡ Some ours.answer_by
    last = ap (last_request c) is ∙ ap answer_of (at_first theirs c.searches ∙ found)

  apart : is_same_address x h ≡ false
  apart = by (is_same_address x h) refl where
    by : (b : Bool) → is_same_address x h ≡ b → b ≡ false
    by false is = refl
    by true is = absurd (not_ours (same_address x h is))

  -- the oldest search, which gives way, is none that is still to be answered
  removed : (xs : List Search) (at : ℕ) → find theirs xs ≡ Some ours → int_lt instant (answer_due (slice_get xs at)) ≡ false
      → find theirs (remove xs at) ≡ Some ours
  removed [] at is late = absurd (let never : (let none : Option Search = None in none) ≡ Some ours = is in cc)
  removed (y ∷ ys) zero is late = by (theirs y) is where
    by : (b : Bool) → cond b (Some y) (find theirs ys) ≡ Some ours → find theirs ys ≡ Some ours
    by false this = this
    by true this =
        let same : y ≡ ours = (let both : Some y ≡ Some ours = this in cc) in
        clash (sym early ∙ ap (λ (s : Search). int_lt instant s.answer_by) (sym same) ∙ late)
  removed (y ∷ ys) (suc n) is late = by (theirs y) is (λ rest. removed ys n rest late) where
    by : (b : Bool) → cond b (Some y) (find theirs ys) ≡ Some ours → (find theirs ys ≡ Some ours → find theirs (remove ys n) ≡ Some ours)
        → cond b (Some y) (find theirs (remove ys n)) ≡ Some ours
    by true this rest = this
    by false this rest = rest this

  and_more : (xs more : List Search) → find theirs xs ≡ Some ours → find theirs (xs ++ more) ≡ Some ours
  and_more xs more is = find-append theirs xs more ∙ ap (λ (o : Option Search). option_or o (find theirs more)) is

  added : last_request c x ≡ None → find theirs (if nat_lt (length c.searches) c.search_room then c.searches ++ first_search x instant ∷ []
      else remove c.searches (oldest_search c.searches) ++ first_search x instant ∷ []) ≡ Some ours
  added none = by (nat_lt (length c.searches) c.search_room) (sym (ap (λ (o : Option ℤ). int_lt instant (own_silence o c)) none) ∙ over) where
    by : (room : Bool) → int_lt instant (if room then pos 0 else answer_due (slice_get c.searches (oldest_search c.searches))) ≡ false
        → find theirs (if room then c.searches ++ first_search x instant ∷ []
        else remove c.searches (oldest_search c.searches) ++ first_search x instant ∷ []) ≡ Some ours
    by true late = and_more c.searches (first_search x instant ∷ []) found
    by false late =
        and_more (remove c.searches (oldest_search c.searches)) (first_search x instant ∷ []) (removed c.searches (oldest_search c.searches) found late)

  stays : (o : Option ℕ) (s : Option Search) → position (is_search_for x) c.searches ≡ o → at_index o c.searches ≡ s
      → find theirs (searched_at c.search_room o s c.searches x instant) ≡ Some ours
  stays (Some at) (Some s) is there = asked_again c x h instant apart at s is there ∙ found
  stays (Some at) None is there = added (ap answer_of (ap (λ (o : Option ℕ). at_index o c.searches) is ∙ there))
  stays None s is there = added (ap answer_of (ap (λ (o : Option ℕ). at_index o c.searches) is))

  pub search_stays : search_of (requested c x instant).searches h ≡ Some ours
  search_stays =
      at_first theirs (requested c x instant).searches
      ∙ stays (position (is_search_for x) c.searches) (search_of c.searches x) refl refl

-- IN A STEP

module _ (hop : IpAddress) (ours : Search) where
  -- it is asked for, and still to answer
  record Stands (i : InnerValue) : Type 0 where
    many : i.host_requirements ≡ true
    early : int_lt i.instant ours.answer_by ≡ true
    found : search_of i.neighbors.searches hop ≡ Some ours

  own : (i : InnerValue) (other : IpAddress) → i.host_requirements ≡ true → int_lt i.instant (silence_of i other) ≡ false
      → int_lt i.instant (own_silence (last_request i.neighbors other) i.neighbors) ≡ false
  own i other many over =
      ap (λ (b : Bool). int_lt i.instant (if b then own_silence (last_request i.neighbors other) i.neighbors else i.neighbors.silent)) (sym many) ∙ over

  asked : (i : InnerValue) (busy : Bool) (h : IpRepr) (q : NeighborQuery) → plan_of i busy h ≡ Way.Ask q → Stands i
      → Stands (host_after (Way.Ask q) Outcome.Waits h i)
  asked i busy h q is stands = record {
    many = stands.many;
    early = stands.early;
    found = search_stays i.neighbors (target_of q) hop i.instant ours (sym (at_first (is_search_for hop) i.neighbors.searches) ∙ stands.found) stands.early
        (own i (target_of q) stands.many (asked_late_for i busy h q is));
  }

  same : (i i' : InnerValue) → i'.host_requirements ≡ i.host_requirements → i'.instant ≡ i.instant → i'.neighbors ≡ i.neighbors → Stands i → Stands i'
  same i i' flag instant neighbors stands = record {
    many = flag ∙ stands.many;
    early = ap (λ (t : ℤ). int_lt t ours.answer_by) instant ∙ stands.early;
    found = ap (λ (c : CacheValue). search_of c.searches hop) neighbors ∙ stands.found;
  }

  after : (i : InnerValue) (busy : Bool) (h : IpRepr) (plan : Plan) (sent : Sent) → plan_of i busy h ≡ plan → Stands i → Stands (host_after plan sent h i)
  after i busy h (Way.Ask q) Outcome.Waits is stands = asked i busy h q is stands
  after i busy h (Way.Ask q) Outcome.Gone is stands = same i (host_after (Way.Ask q) Outcome.Gone h i) refl refl refl stands
  after i busy h (Way.Ask q) Outcome.Dropped is stands = same i (host_after (Way.Ask q) Outcome.Dropped h i) refl refl refl stands
  after i busy h (Way.Ask q) Outcome.Busy is stands = same i (host_after (Way.Ask q) Outcome.Busy h i) refl refl refl stands
  after i busy h (Way.Ask q) Outcome.Refused is stands = same i (host_after (Way.Ask q) Outcome.Refused h i) refl refl refl stands
  after i busy h Way.Drop sent is stands = same i (host_after Way.Drop sent h i) refl refl refl stands
  after i busy h Way.NoRoute sent is stands = same i (host_after Way.NoRoute sent h i) refl refl refl stands
  after i busy h Way.Wait sent is stands = same i (host_after Way.Wait sent h i) refl refl refl stands
  after i busy h Way.Busy sent is stands = same i (host_after Way.Busy sent h i) refl refl refl stands
  after i busy h (Way.Go to) sent is stands = same i (host_after (Way.Go to) sent h i) refl refl refl stands
  after i busy h (Way.Cut to) sent is stands = same i (host_after (Way.Cut to) sent h i) refl refl refl stands

  pub stays_asked : {D : Type 0} (moves : D → Move → D → Type 0) (t : ℤ) (s s' : State D) (answer : Option Bool) → s.host.inner.host_requirements ≡ true
      → search_of s.host.inner.neighbors.searches hop ≡ Some ours → int_lt t ours.answer_by ≡ true → EgressStep moves t s answer s'
      → search_of s'.host.inner.neighbors.searches hop ≡ Some ours
  stays_asked {D} moves t s s' answer many found early step =
      let begins : Stands (sending t s).inner = record { many = many; early = early; found = found } in
      let ends : Stands step.0.sender.inner =
      step_kept moves Stands (λ i busy h sent stands. after i busy h (plan_of i busy h) sent refl stands)
      (λ i k stands. same i (record i { parking = k }) refl refl refl stands) (sending t s) s.slots step.0 step.1 begins in
      ap (λ (x : State D). search_of x.host.inner.neighbors.searches hop) step.2 ∙ ends.found
