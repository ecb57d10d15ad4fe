-- Who of those that sockets wait for is asked for next, and what a question leaves of the others.
use Rattle.std.proofs.Common.{◌≡◌, ℕ, zero, suc, Bool, true, false, cond, if◌then◌else◌, ℤ, List, [], ◌∷◌, ◌++◌, length, get_or}
use Rattle.std.proofs.Common.{Option, Some, None, refl, sym, ap, ◌∙◌, subst}
use Rattle.std.specs.Prelude.{nat_lt, find, position, slice_get, slice_set, remove}
use Rattle.std.specs.List.{AllByRecursion, filter_map, cons_option}
use Rattle.std.specs.Option.{option_or}
use Rattle.std.proofs.lemmas.List.Folds.{find_at, find_past, find-append}
use Rattle.std.proofs.lemmas.List.MinMax.{IsFirstBest-from_best_of}
use Rattle.std.proofs.lemmas.List.Quantifiers.{position-Some}
use Rattle.std.proofs.lemmas.Option.{get_or_from_slice_get, slice_get-get_or}
use Rattle.ip_wire.specs.AddressTests.{is_same_address}
use Rattle.ip_wire.specs.IpAddress.{IpAddress}
use Rattle.iface_tables.specs.Best.{at_index, first_best, is_unbeaten}
use Rattle.iface_tables.specs.Inner.{InnerValue, awaited_hop}
use Rattle.iface_tables.specs.Neighbor.{CacheValue, answer_of, first_search, has_failed, has_failed_by, is_search_for, last_request, oldest_search, one_more, requested}
use Rattle.iface_tables.specs.Neighbor.{search_of, search_index, searched_at}
use Rattle.iface_tables.specs.declared.neighbor.Search.{Search}
use Rattle.iface_tables.proofs.BestOf.{index_of_first_best-is}
use Rattle.iface_tables.proofs.PathMtu.{at_first}
use Rattle.iface_egress.specs.declared.socket_meta.Waiting.{Waiting}
use Rattle.iface_egress.specs.declared.socket_set.Item.{Item}
use Rattle.iface_egress.specs.declared.socket_set.SocketStorage.{SocketStorage}
use Rattle.iface_ingress.specs.Socket.{Socket}
use Rattle.interface.specs.Awaited.{awaited_at, awaited_by, awaited_in, awaited_of, comes_before, next_awaited}
use Rattle.interface.specs.declared.awaited.Awaited.{Awaited}
use Rattle.interface.proofs.Waiting.{IsStrictWeakOrder-comes_before}
use Rattle.proof_stack.proofs.Polls.First.{same_address}

abbrev Place : Type 0
Place = SocketStorage Socket

abbrev no_slot : Option Place
no_slot = None

abbrev nobody : Option Awaited
nobody = None

-- THE NEXT ONE

-- of some one is best
best_of_some : (a : Awaited) (more : List Awaited) → (b : Awaited) × (first_best comes_before (a ∷ more) ≡ Some b)
best_of_some a more =
    let best = IsFirstBest-from_best_of IsStrictWeakOrder-comes_before a more in
    let slot = index_of_first_best-is comes_before (a ∷ more) best.0 best.1 in (
      get_or (a ∷ more) best.0 a,
      find_at (is_unbeaten comes_before (a ∷ more)) (a ∷ more) ∙ ap (slice_get (a ∷ more)) slot ∙ slice_get-get_or (a ∷ more) best.0 a best.1.0,
    )

module _ (i : InnerValue) where
  abbrev some_in : List Place → Type 0
  some_in ps = (a : Awaited) × (more : List Awaited) × (filter_map (awaited_in i) ps ≡ a ∷ more)

  waits_here : (o : Option Awaited) (rest : List Awaited) (b : Awaited) → o ≡ Some b → (a : Awaited) × (more : List Awaited) × (cons_option o rest ≡ a ∷ more)
  waits_here None rest b is = absurd (let never : nobody ≡ Some b = is in cc)
  waits_here (Some c) rest b is = (c, rest, refl)

  waits_later : (o : Option Awaited) (rest : List Awaited) → (a : Awaited) × (more : List Awaited) × (rest ≡ a ∷ more)
      → (a : Awaited) × (more : List Awaited) × (cons_option o rest ≡ a ∷ more)
  waits_later None rest some = some
  waits_later (Some c) rest some = (c, rest, refl)

  some_waits : (ps : List Place) (n : ℕ) (slot : Place) (b : Awaited) → slice_get ps n ≡ Some slot → awaited_in i slot ≡ Some b → some_in ps
  some_waits [] n slot b stands is = absurd (let never : no_slot ≡ Some slot = stands in cc)
  some_waits (p ∷ ps) zero slot b stands is =
      waits_here (awaited_in i p) (filter_map (awaited_in i) ps) b
      (ap (awaited_in i) (let same : Some p ≡ Some slot = stands in let at : p ≡ slot = cc in at) ∙ is)
  some_waits (p ∷ ps) (suc n) slot b stands is =
      waits_later (awaited_in i p) (filter_map (awaited_in i) ps) (some_waits ps n slot b stands is)

  -- where a socket waits it is somebody's turn
  pub someone_next : (ps : List Place) (n : ℕ) (slot : Place) (b : Awaited) → slice_get ps n ≡ Some slot → awaited_in i slot ≡ Some b
      → (a : Awaited) × (next_awaited i ps ≡ Some a)
  someone_next ps n slot b stands is =
      let some : some_in ps = some_waits ps n slot b stands is in
      let best : (a : Awaited) × (first_best comes_before (some.0 ∷ some.1) ≡ Some a) = best_of_some some.0 some.1 in
      (best.0, ap (first_best comes_before) some.2 ∙ best.1)

  -- and a socket waits for whose turn it is
  pub record WaitsAt (All : Place → Type 0) (ps : List Place) (a : Awaited) : Type 0 where
    pub n : ℕ
    pub slot : Place
    pub stands : slice_get ps n ≡ Some slot
    pub waits : awaited_in i slot ≡ Some a
    pub such : All slot

  module _ (All : Place → Type 0) (test : Awaited → Bool) (a : Awaited) where
    one_later : (p : Place) (ps : List Place) → WaitsAt All ps a → WaitsAt All (p ∷ ps) a
    one_later p ps at = record { n = suc at.n; slot = at.slot; stands = at.stands; waits = at.waits; such = at.such }

    found_by : (p : Place) (ps : List Place) (o : Option Awaited) → awaited_in i p ≡ o → All p
        → (find test (filter_map (awaited_in i) ps) ≡ Some a → WaitsAt All ps a)
        → find test (cons_option o (filter_map (awaited_in i) ps)) ≡ Some a → WaitsAt All (p ∷ ps) a
    found_by p ps None is all later found = one_later p ps (later found)
    found_by p ps (Some c) is all later found = by (test c) found where
      by : (b : Bool) → cond b (Some c) (find test (filter_map (awaited_in i) ps)) ≡ Some a → WaitsAt All (p ∷ ps) a
      by true this =
          record { n = 0; slot = p; stands = refl; waits = is ∙ this; such = all }
      by false more = one_later p ps (later more)

    found_at : (ps : List Place) → AllByRecursion All ps → find test (filter_map (awaited_in i) ps) ≡ Some a → WaitsAt All ps a
    found_at [] all found = absurd (let never : nobody ≡ Some a = found in cc)
    found_at (p ∷ ps) all found = found_by p ps (awaited_in i p) refl all.0 (found_at ps all.1) found

  pub next_offset : (All : Place → Type 0) (ps : List Place) (a : Awaited) → AllByRecursion All ps → next_awaited i ps ≡ Some a → WaitsAt All ps a
  next_offset All ps a all is = found_at All (is_unbeaten comes_before (filter_map (awaited_in i) ps)) a ps all is

  -- its last request is the host's last for it
  of_hop : (w : Waiting) (o : Option IpAddress) (a : Awaited) → awaited_of i w o ≡ Some a → a.last_request ≡ last_request i.neighbors a.hop
  of_hop w None a is = absurd (let never : nobody ≡ Some a = is in cc)
  of_hop w (Some hop) a is =
      let it : Awaited = record { hop = hop; last_request = last_request i.neighbors hop; since = w.since } in
      subst (λ (b : Awaited). b.last_request ≡ last_request i.neighbors b.hop)
      (let same : Some it ≡ Some a = is in let at : it ≡ a = cc in at) refl

  of_mark : (o : Option Waiting) (a : Awaited) → awaited_by i o ≡ Some a → a.last_request ≡ last_request i.neighbors a.hop
  of_mark None a is = absurd (let never : nobody ≡ Some a = is in cc)
  of_mark (Some w) a is = of_hop w (awaited_hop i w.neighbor) a is

  pub asked_last : (o : Option (Item Socket)) (a : Awaited) → awaited_at i o ≡ Some a → a.last_request ≡ last_request i.neighbors a.hop
  asked_last None a is = absurd (let never : nobody ≡ Some a = is in cc)
  asked_last (Some item) a is = of_mark item.meta.waiting a is

-- THE OTHERS

module _ (c : CacheValue) (x h : IpAddress) (instant : ℤ) (apart : is_same_address x h ≡ false) where
  abbrev theirs : Search → Bool
  theirs = is_search_for h

  abbrev ours : Search → Bool
  ours = is_search_for x

  -- a search for the one isn't one for the other
  not_theirs : (s : Search) → ours s ≡ true → theirs s ≡ false
  not_theirs s is = subst (λ (a : IpAddress). is_same_address a h ≡ false) (sym (same_address s.protocol_addr x is)) apart

  added : nat_lt (length c.searches) c.search_room ≡ true
      → find theirs (if nat_lt (length c.searches) c.search_room then c.searches ++ first_search x instant ∷ []
      else remove c.searches (oldest_search c.searches) ++ first_search x instant ∷ []) ≡ find theirs c.searches
  added room =
      ap (λ (b : Bool). find theirs (if b then c.searches ++ first_search x instant ∷ []
      else remove c.searches (oldest_search c.searches) ++ first_search x instant ∷ [])) room
      ∙ find-append theirs c.searches (first_search x instant ∷ [])
      ∙ ap (λ (b : Bool). option_or (find theirs c.searches) (cond b (Some (first_search x instant)) None)) apart
      ∙ by (find theirs c.searches)
    where
      by : (o : Option Search) → option_or o None ≡ o
      by None = refl
      by (Some s) = refl

  -- a question for one that is asked for already
  pub asked_again : (at : ℕ) (s : Search) → position ours c.searches ≡ Some at → at_index (Some at) c.searches ≡ Some s
      → find theirs (slice_set c.searches at (one_more s instant)) ≡ find theirs c.searches
  asked_again at s is there =
      let here : ours (get_or c.searches at s) ≡ true = (position-Some ours c.searches at s is).1 in
      let this : get_or c.searches at s ≡ s = get_or_from_slice_get c.searches at s s there in
      find_past theirs c.searches at (one_more s instant) s (not_theirs (get_or c.searches at s) here)
      (not_theirs (one_more s instant) (subst (λ (q : Search). ours q ≡ true) this here))

  kept : (o : Option ℕ) (s : Option Search) → nat_lt (length c.searches) c.search_room ≡ true → position ours c.searches ≡ o → at_index o c.searches ≡ s
      → find theirs (searched_at c.search_room o s c.searches x instant) ≡ find theirs c.searches
  kept (Some at) (Some s) room is there = asked_again at s is there
  kept (Some at) None room is there = added room
  kept None s room is there = added room

  -- a question for the one leaves what is known of the other, where there is room
  pub others_stay : nat_lt (length c.searches) c.search_room ≡ true → last_request (requested c x instant) h ≡ last_request c h
  others_stay room =
      ap answer_of (at_first theirs (requested c x instant).searches
      ∙ kept (search_index c.searches x) (search_of c.searches x) room refl refl
      ∙ sym (at_first theirs c.searches))

  -- nor does the other fail by it
  pub others_fail_so : nat_lt (length c.searches) c.search_room ≡ true → (now : ℤ) → has_failed (requested c x instant) h now ≡ has_failed c h now
  others_fail_so room now =
      ap (λ (o : Option Search). has_failed_by o now) (at_first theirs (requested c x instant).searches
      ∙ kept (search_index c.searches x) (search_of c.searches x) room refl refl
      ∙ sym (at_first theirs c.searches))
