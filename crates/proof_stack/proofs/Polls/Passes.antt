-- A pass over the sockets, and a step of the egress path.
use Rattle.std.proofs.Common.{◌≡◌, Bool, true, false, ◌||◌, ◌⊎◌, inl, inr, ℤ, List, [], ◌∷◌, ◌++◌, Option, Some, None, refl, sym, ap}
use Rattle.std.proofs.Common.{◌∙◌, subst}
use Rattle.net_base.specs.Device.{Move, Allowed, Emitted, Denied}
use Rattle.ip_wire.specs.IpAddress.{IpAddress}
use Rattle.iface_ingress.specs.Socket.{Socket}
use Rattle.iface_tables.specs.Inner.{InnerValue}
use Rattle.iface_egress.specs.Fragments.{LeftValue, departure_from}
use Rattle.iface_egress.specs.IsTransmitted.{FragmentIsTransmitted, frame_of, frame_len_of}
use Rattle.iface_egress.specs.declared.socket_set.SocketStorage.{SocketStorage}
use Rattle.interface.specs.Awaited.{turn_of}
use Rattle.interface.specs.Host.{Sender}
use Rattle.interface.specs.Instant.{earlier, slot_instant, soonest, soonest_if, soonest_parked, poll_instant}
use Rattle.interface.specs.Pass.{Pass, Passed}
use Rattle.interface.specs.QuietStep.{IsEarlier}
use Rattle.interface.specs.EgressPath.{FragmentLeaves, Clears, ClearsAll, ClearsIf, Egress}
use Rattle.interface.specs.declared.serve.Served.TheVariants as Turn
use Rattle.interface.proofs.Due.{AllLater}
use Rattle.proof_stack.specs.Progress.Moves.{AreMoves}
use Rattle.proof_stack.specs.Progress.OfUse.{Stirs}
use Rattle.proof_stack.specs.Progress.Patience.{IsItemPatient, ArePatient}
use Rattle.proof_stack.proofs.Polls.Walks.{joined, stirs_before, stirs_following}
use Rattle.proof_stack.proofs.Polls.Turns.{earlier_later, Calm, TurnEnds, slot_ends}
use Rattle.proof_stack.proofs.Polls.ParkedRests.{ParkedCalm, ParkedEnds, parked_ends, parked_later}

-- ALL PLACES ARE LATER

module _ (t : ℤ) (i : InnerValue) where
  from_best : (best : Option ℤ) (ps : List (SocketStorage Socket)) → IsEarlier t best → AllLater t i ps
      → IsEarlier t (Rattle.std.specs.List.fold (λ b p. earlier b (slot_instant i p)) best ps)
  from_best best [] one later = one
  from_best best (p ∷ ps) one later =
      from_best (earlier best (slot_instant i p)) ps (earlier_later t best (slot_instant i p) one later.0) later.1

  soonest_later : (ps : List (SocketStorage Socket)) → AllLater t i ps → IsEarlier t (soonest i ps)
  soonest_later ps later = from_best None ps tt later

  and_last : (ps : List (SocketStorage Socket)) (p : SocketStorage Socket) → AllLater t i ps → IsEarlier t (slot_instant i p) → AllLater t i (ps ++ p ∷ [])
  and_last [] p later last = (last, tt)
  and_last (q ∷ ps) p later last = (later.0, and_last ps p later.1 last)

or_true : (a b : Bool) → a ≡ true → (a || b) ≡ true
or_true true b e = refl
or_true false b e = absurd (let clash : false ≡ true = e in cc)

or_other : (a b : Bool) → b ≡ true → (a || b) ≡ true
or_other true b e = refl
or_other false b e = e

pub next_is : (b c : Bool) → Turn.Next b ≡ Turn.Next c → c ≡ b
next_is b c same = cc

pub stops_not : (b c : Bool) → Turn.Stop b ≡ Turn.Next c → ⊥
stops_not b c same = cc

module _ {D : Type 0} (moves : D → Move → D → Type 0) where
  -- the host is as it was, and no slot is due
  pub record CalmPass (s : Sender D) (e : Passed D) : Type 0 where
    pub inner : e.sender.inner ≡ s.inner
    pub left : e.sender.left ≡ s.left
    pub later : AllLater s.inner.instant s.inner e.slots

  -- or something changed
  abbrev pub Calms : Sender D → Passed D → Type 0
  Calms s e = (e.changed ≡ true) ⊎ CalmPass s e

  pub record PassEnds (s : Sender D) (before : List (SocketStorage Socket)) (changed : Bool) (ps : List (SocketStorage Socket)) (e : Passed D) : Type 0 where
    pub all : List Move
    pub are : AreMoves moves all s.device e.sender.device
    pub what : Stirs all ⊎ (s.left ≡ None → ArePatient ps → AllLater s.inner.instant s.inner before → Calms s e)

  module _ (turn : Option IpAddress) where
    -- what changed stays said
    said : (s : Sender D) (before : List (SocketStorage Socket)) (changed : Bool) (ps : List (SocketStorage Socket)) (e : Passed D)
        → Pass moves turn s before changed ps e → changed ≡ true → e.changed ≡ true
    said s before changed [] e ends is = ap (λ (x : Passed D). x.changed) ends ∙ is
    said s before changed (p ∷ ps) e (inl goes) is =
        said goes.1 (before ++ goes.2 ∷ []) (changed || goes.0) ps e goes.4 (or_true changed goes.0 is)
    said s before changed (p ∷ ps) e (inr stops) is = ap (λ (x : Passed D). x.changed) stops.4 ∙ or_true changed stops.0 is

    pub pass_ends : (s : Sender D) (before : List (SocketStorage Socket)) (changed : Bool) (ps : List (SocketStorage Socket)) (e : Passed D)
        → Pass moves turn s before changed ps e → PassEnds s before changed ps e
    pass_ends s before changed [] e ends = record {
      all = [];
      are = ap (λ (x : Passed D). x.sender.device) ends;
      what = inr (λ none patient later. inr (record {
        inner = ap (λ (x : Passed D). x.sender.inner) ends;
        left = ap (λ (x : Passed D). x.sender.left) ends;
        later = subst (λ (x : Passed D). AllLater s.inner.instant s.inner x.slots) (sym ends) later;
      }));
    }
    pass_ends s before changed (p ∷ ps) e (inl goes) =
        let took : TurnEnds moves (IsItemPatient p.inner) s goes.1 (Turn.Next goes.0) goes.2.inner =
        slot_ends moves (IsItemPatient p.inner) turn s goes.1 p goes.2 (Turn.Next goes.0) (λ q. q) goes.3 in
        let rest : PassEnds goes.1 (before ++ goes.2 ∷ []) (changed || goes.0) ps e =
        pass_ends goes.1 (before ++ goes.2 ∷ []) (changed || goes.0) ps e goes.4 in
        record {
          all = took.all ++ rest.all;
          are = joined moves took.all rest.all s.device goes.1.device e.sender.device took.are rest.are;
          what = both took.all rest.all goes.0 goes.1 goes.2
              (λ is. said goes.1 (before ++ goes.2 ∷ []) (changed || goes.0) ps e goes.4 (or_other changed goes.0 is)) took.what rest.what;
        }
      where
        goes_on : (b : Bool) (mid : Sender D) (p' : SocketStorage Socket) → (b ≡ true → e.changed ≡ true) → s.left ≡ None → ArePatient ps
            → AllLater s.inner.instant s.inner before → Calm moves s mid (Turn.Next b) p'.inner
            → (mid.left ≡ None → ArePatient ps → AllLater mid.inner.instant mid.inner (before ++ p' ∷ []) → Calms mid e) → Calms s e
        goes_on b mid p' told none patient later calm more = by calm.done where
          then_calm : Calms mid e → Calms s e
          then_calm (inl is) = inl is
          then_calm (inr rest) = inr (record {
            inner = rest.inner ∙ calm.inner;
            left = rest.left ∙ calm.left;
            later = subst (λ (i : InnerValue). AllLater i.instant i e.slots) calm.inner rest.later;
          })

          by : (calm.changed ≡ true) ⊎ IsEarlier s.inner.instant (slot_instant s.inner p') → Calms s e
          by (inl is) = inl (told (sym (next_is b calm.changed calm.next) ∙ is))
          by (inr last) =
              then_calm (more (calm.left ∙ none) patient
              (subst (λ (i : InnerValue). AllLater i.instant i (before ++ p' ∷ [])) (sym calm.inner) (and_last s.inner.instant s.inner before p' later last)))

        both : (xs ys : List Move) (b : Bool) (mid : Sender D) (p' : SocketStorage Socket) → (b ≡ true → e.changed ≡ true)
            → Stirs xs ⊎ (s.left ≡ None → IsItemPatient p.inner → (Turn.Next b ≡ Turn.Next true) ⊎ Calm moves s mid (Turn.Next b) p'.inner)
            → Stirs ys ⊎ (mid.left ≡ None → ArePatient ps → AllLater mid.inner.instant mid.inner (before ++ p' ∷ []) → Calms mid e)
            → Stirs (xs ++ ys) ⊎ (s.left ≡ None → ArePatient (p ∷ ps) → AllLater s.inner.instant s.inner before → Calms s e)
        both xs ys b mid p' told (inl stirs) more = inl (stirs_before xs ys stirs)
        both xs ys b mid p' told (inr calm) (inl stirs) = inl (stirs_following xs ys stirs)
        both xs ys b mid p' told (inr calm) (inr more) = inr (λ none patient later. by none patient.1 later (calm none patient.0)) where
          by : s.left ≡ None → ArePatient ps → AllLater s.inner.instant s.inner before
              → (Turn.Next b ≡ Turn.Next true) ⊎ Calm moves s mid (Turn.Next b) p'.inner → Calms s e
          by none patient later (inl changed) = inl (told (sym (next_is b true changed)))
          by none patient later (inr rests) = goes_on b mid p' told none patient later rests more
    pass_ends s before changed (p ∷ ps) e (inr stops) =
        let took : TurnEnds moves (IsItemPatient p.inner) s stops.1 (Turn.Stop stops.0) stops.2.inner =
        slot_ends moves (IsItemPatient p.inner) turn s stops.1 p stops.2 (Turn.Stop stops.0) (λ q. q) stops.3 in
        record {
          all = took.all;
          are = subst (λ (d : D). AreMoves moves took.all s.device d) (sym (ap (λ (x : Passed D). x.sender.device) stops.4)) took.are;
          what = never stops.0 took.all stops.1 stops.2 took.what;
        }
      where
        never : (b : Bool) (xs : List Move) (mid : Sender D) (p' : SocketStorage Socket)
            → Stirs xs ⊎ (s.left ≡ None → IsItemPatient p.inner → (Turn.Stop b ≡ Turn.Next true) ⊎ Calm moves s mid (Turn.Stop b) p'.inner)
            → Stirs xs ⊎ (s.left ≡ None → ArePatient (p ∷ ps) → AllLater s.inner.instant s.inner before → Calms s e)
        never b xs mid p' (inl stirs) = inl stirs
        never b xs mid p' (inr calm) = inr (λ none patient later. by (calm none patient.0)) where
          by : (Turn.Stop b ≡ Turn.Next true) ⊎ Calm moves s mid (Turn.Stop b) p'.inner → Calms s e
          by (inl is) = absurd (stops_not b true is)
          by (inr rests) = absurd (stops_not b rests.changed rests.next)

  -- THE PIECE THAT WAITS

  pub record FragmentEnds (s mid : Sender D) (clear : Bool) : Type 0 where
    pub all : List Move
    pub are : AreMoves moves all s.device mid.device
    pub what : Stirs all ⊎ ((clear ≡ true) × (mid ≡ s) × (s.left ≡ None))

  fragment_goes : (l : LeftValue) (s mid : Sender D) (between : D) (gone : Bool) → moves s.device (Allowed s.inner.instant true) between
      → FragmentIsTransmitted moves between s.inner l gone mid.device mid.left → FragmentEnds s mid gone
  fragment_goes l s mid between true leave goes = record {
    all = Allowed s.inner.instant true ∷ Emitted (frame_of s.inner (departure_from s.inner l)) ∷ [];
    are = (between, leave, (mid.device, goes.0.0, refl));
    what = inl (inl refl);
  }
  fragment_goes l s mid between false leave goes = record {
    all = Allowed s.inner.instant true ∷ Denied (frame_len_of s.inner (departure_from s.inner l)) ∷ [];
    are = (between, leave, (mid.device, goes.0, refl));
    what = inl (inr refl);
  }

  fragment_leaves : (l : LeftValue) (s mid : Sender D) (gone : Bool) → FragmentLeaves moves l s gone mid → FragmentEnds s mid gone
  fragment_leaves l s mid gone (inl stays) = record { all = Allowed s.inner.instant false ∷ []; are = (mid.device, stays.0, refl); what = inl (inr refl) }
  fragment_leaves l s mid gone (inr goes) = fragment_goes l s mid goes.0 gone goes.1 goes.2

  pub clears : (left : Option LeftValue) (s mid : Sender D) (clear : Bool) → s.left ≡ left → Clears moves left s clear mid → FragmentEnds s mid clear
  clears None s mid clear is goes = record { all = []; are = ap (λ (x : Sender D). x.device) goes.1; what = inr (goes.0, goes.1, is) }
  clears (Some l) s mid clear is goes = fragment_leaves l s mid clear goes.0

  -- which leaves the host as it is
  pub clears_same : (left : Option LeftValue) (s mid : Sender D) (clear : Bool) → Clears moves left s clear mid → mid.inner ≡ s.inner
  clears_same None s mid clear goes = ap (λ (x : Sender D). x.inner) goes.1
  clears_same (Some l) s mid clear goes = goes.1

  -- PACKETS THAT WAIT FOR THEIR NEXT HOPS, and then the sockets

  -- only what waits isn't what it was, and nothing of that is due
  pub record IsCleared (s mid : Sender D) : Type 0 where
    pub left : mid.left ≡ None
    pub inner : mid.inner ≡ record s.inner { parking = mid.inner.parking }
    pub later : IsEarlier s.inner.instant (soonest_parked mid.inner)

  record ClearEnds (s mid : Sender D) (clear : Bool) : Type 0 where
    all : List Move
    are : AreMoves moves all s.device mid.device
    what : Stirs all ⊎ ((clear ≡ true) × (s.left ≡ None) × IsCleared s mid)

  clears_few : (s mid : Sender D) (clear : Bool) → s.inner.host_requirements ≡ false → Clears moves s.left s clear mid → ClearEnds s mid clear
  clears_few s mid clear few goes =
      let fragment : FragmentEnds s mid clear = clears s.left s mid clear refl goes in
      record { all = fragment.all; are = fragment.are; what = by fragment.all fragment.what }
    where
      cleared : mid ≡ s → s.left ≡ None → IsCleared s mid
      cleared same none = record {
        left = ap (λ (x : Sender D). x.left) same ∙ none;
        inner = subst (λ (x : Sender D). x.inner ≡ record s.inner { parking = x.inner.parking }) (sym same) refl;
        later = subst (λ (x : Sender D). IsEarlier s.inner.instant (soonest_parked x.inner)) (sym same)
            (subst (λ (b : Bool). IsEarlier s.inner.instant (soonest_if b s.inner)) (sym few) tt);
      }

      by : (all : List Move) → Stirs all ⊎ ((clear ≡ true) × (mid ≡ s) × (s.left ≡ None)) → Stirs all ⊎ ((clear ≡ true) × (s.left ≡ None) × IsCleared s mid)
      by all (inl stirs) = inl stirs
      by all (inr (is, same, none)) = inr (is, none, cleared same none)

  clears_many : (s mid : Sender D) (clear : Bool) → s.inner.host_requirements ≡ true → ClearsIf moves true s clear mid → ClearEnds s mid clear
  clears_many s mid clear many (inl stops) =
      let fragment : FragmentEnds s mid false = clears s.left s mid false refl stops.0 in
      record { all = fragment.all; are = fragment.are; what = by fragment.all fragment.what }
    where
      by : (all : List Move) → Stirs all ⊎ ((false ≡ true) × (mid ≡ s) × (s.left ≡ None)) → Stirs all ⊎ ((clear ≡ true) × (s.left ≡ None) × IsCleared s mid)
      by all (inl stirs) = inl stirs
      by all (inr (is, same, none)) = absurd (let clash : false ≡ true = is in cc)
  clears_many s mid clear many (inr goes) =
      let fragment : FragmentEnds s goes.0 true = clears s.left s goes.0 true refl goes.1 in
      let parked : ParkedEnds moves goes.0 mid clear = parked_ends moves goes.0 mid clear goes.2 in
      record {
        all = fragment.all ++ parked.moved;
        are = joined moves fragment.all parked.moved s.device goes.0.device mid.device fragment.are parked.are;
        what = by fragment.all parked.moved goes.0 fragment.what parked.what;
      }
    where
      cleared : (x : Sender D) → x ≡ s → s.left ≡ None → ParkedCalm moves x mid clear → (clear ≡ true) × (s.left ≡ None) × IsCleared s mid
      cleared x same none calm = (
        calm.all_went,
        none,
        record {
          left = calm.left ∙ ap (λ (y : Sender D). y.left) same ∙ none;
          inner = subst (λ (y : Sender D). mid.inner ≡ record y.inner { parking = mid.inner.parking }) same calm.inner;
          later = parked_later s.inner.instant mid.inner
              (ap (λ (i : InnerValue). i.host_requirements) calm.inner ∙ ap (λ (y : Sender D). y.inner.host_requirements) same ∙ many)
              (ap (λ (i : InnerValue). i.instant) calm.inner ∙ ap (λ (y : Sender D). y.inner.instant) same) calm.wait;
        },
      )

      by : (xs ys : List Move) (x : Sender D) → Stirs xs ⊎ ((true ≡ true) × (x ≡ s) × (s.left ≡ None)) → Stirs ys ⊎ (x.left ≡ None → ParkedCalm moves x mid clear)
          → Stirs (xs ++ ys) ⊎ ((clear ≡ true) × (s.left ≡ None) × IsCleared s mid)
      by xs ys x (inl stirs) more = inl (stirs_before xs ys stirs)
      by xs ys x (inr is) (inl stirs) = inl (stirs_following xs ys stirs)
      by xs ys x (inr (is, same, none)) (inr calm) = inr (cleared x same none (calm (ap (λ (y : Sender D). y.left) same ∙ none)))

  clears_all : (s mid : Sender D) (clear : Bool) → ClearsAll moves s clear mid → ClearEnds s mid clear
  clears_all s mid clear goes = by s.inner.host_requirements refl goes where
    by : (many : Bool) → s.inner.host_requirements ≡ many → ClearsIf moves many s clear mid → ClearEnds s mid clear
    by false is clears = clears_few s mid clear is clears
    by true is clears = clears_many s mid clear is clears

  -- what a step leaves where nothing changed
  pub record CalmStep (s : Sender D) (e : Passed D) : Type 0 where
    pub inner : e.sender.inner ≡ record s.inner { parking = e.sender.inner.parking }
    pub left : e.sender.left ≡ None
    pub later : AllLater s.inner.instant e.sender.inner e.slots
    pub parked : IsEarlier s.inner.instant (soonest_parked e.sender.inner)

  pub record StepEnds (s : Sender D) (ps : List (SocketStorage Socket)) (e : Passed D) : Type 0 where
    pub all : List Move
    pub are : AreMoves moves all s.device e.sender.device
    pub what : Stirs all ⊎ ((s.left ≡ None) × (ArePatient ps → (e.changed ≡ true) ⊎ CalmStep s e))

  pub egress_ends : (s : Sender D) (ps : List (SocketStorage Socket)) (e : Passed D) → Egress moves s ps e → StepEnds s ps e
  egress_ends s ps e (inl stops) =
      let clear : ClearEnds s stops.0 false = clears_all s stops.0 false stops.1 in
      record {
        all = clear.all;
        are = subst (λ (d : D). AreMoves moves clear.all s.device d) (sym (ap (λ (x : Passed D). x.sender.device) stops.2)) clear.are;
        what = by clear.all stops.0 clear.what;
      }
    where
      by : (xs : List Move) (mid : Sender D) → Stirs xs ⊎ ((false ≡ true) × (s.left ≡ None) × IsCleared s mid)
          → Stirs xs ⊎ ((s.left ≡ None) × (ArePatient ps → (e.changed ≡ true) ⊎ CalmStep s e))
      by xs mid (inl so) = inl so
      by xs mid (inr clear) = absurd (let clash : false ≡ true = clear.0 in cc)
  egress_ends s ps e (inr goes) =
      let clear : ClearEnds s goes.0 true = clears_all s goes.0 true goes.1 in
      let rest : PassEnds goes.0 [] false ps e = pass_ends (turn_of goes.0.inner ps) goes.0 [] false ps e goes.2 in
      record {
        all = clear.all ++ rest.all;
        are = joined moves clear.all rest.all s.device goes.0.device e.sender.device clear.are rest.are;
        what = both clear.all rest.all goes.0 clear.what rest.what;
      }
    where
      calms : (mid : Sender D) → IsCleared s mid → Calms mid e → (e.changed ≡ true) ⊎ CalmStep s e
      calms mid clear (inl is) = inl is
      calms mid clear (inr calm) =
          let same : e.sender.inner ≡ record s.inner { parking = e.sender.inner.parking } =
          subst (λ (i : InnerValue). i ≡ record s.inner { parking = i.parking }) (sym calm.inner) clear.inner in
          let instant : mid.inner.instant ≡ s.inner.instant = ap (λ (i : InnerValue). i.instant) clear.inner in
          inr (record {
            inner = same;
            left = calm.left ∙ clear.left;
            later = subst (λ (i : InnerValue). AllLater s.inner.instant i e.slots) (sym calm.inner)
                (subst (λ (t : ℤ). AllLater t mid.inner e.slots) instant calm.later);
            parked = subst (λ (i : InnerValue). IsEarlier s.inner.instant (soonest_parked i)) (sym calm.inner) clear.later;
          })

      both : (xs ys : List Move) (mid : Sender D) → Stirs xs ⊎ ((true ≡ true) × (s.left ≡ None) × IsCleared s mid)
          → Stirs ys ⊎ (mid.left ≡ None → ArePatient ps → AllLater mid.inner.instant mid.inner [] → Calms mid e)
          → Stirs (xs ++ ys) ⊎ ((s.left ≡ None) × (ArePatient ps → (e.changed ≡ true) ⊎ CalmStep s e))
      both xs ys mid (inl so) more = inl (stirs_before xs ys so)
      both xs ys mid (inr clear) (inl so) = inl (stirs_following xs ys so)
      both xs ys mid (inr clear) (inr more) = inr (clear.1, λ patient. calms mid clear.2 (more clear.2.left patient tt))

  -- nothing changed, and no fragment waits: nothing is due
  pub calm_instant : (s : Sender D) (e : Passed D) → CalmStep s e → IsEarlier s.inner.instant (poll_instant e.sender.inner e.sender.left e.slots)
  calm_instant s e calm =
      subst (λ (l : Option LeftValue). IsEarlier s.inner.instant (poll_instant e.sender.inner l e.slots)) (sym calm.left)
      (earlier_later s.inner.instant (soonest_parked e.sender.inner) (soonest e.sender.inner e.slots) calm.parked
      (soonest_later s.inner.instant e.sender.inner e.slots calm.later))
