-- A pass, and a step of the egress path, of a host that isn't due yet.
use Rattle.std.proofs.Common.{◌≡◌, Bool, true, false, ◌||◌, ℤ, pos, ◌≤ℤ◌, ◌<ℤ◌, inl, inr, List, [], ◌∷◌, ◌++◌, map, Option, Some, None, refl, sym, ap, ◌∙◌}
use Rattle.std.proofs.Common.{subst, arith, append_assoc, append-nil}
use Rattle.std.proofs.lemmas.List.{map-append}
use Rattle.net_base.specs.Device.{Move}
use Rattle.ip_wire.specs.IpAddress.{IpAddress}
use Rattle.iface_ingress.specs.Socket.{Socket}
use Rattle.iface_tables.specs.Inner.{InnerValue, at_instant}
use Rattle.iface_egress.specs.declared.socket_set.SocketStorage.{SocketStorage}
use Rattle.iface_egress.specs.Fragments.{LeftValue}
use Rattle.interface.specs.Awaited.{turn_of}
use Rattle.interface.specs.Host.{Sender}
use Rattle.iface_egress.specs.Parked.{ServesParked}
use Rattle.interface.specs.Instant.{earlier, poll_instant, slot_instant, soonest, soonest_if, soonest_parked}
use Rattle.interface.specs.Pass.{Pass, Passed}
use Rattle.interface.specs.EgressPath.{Clears, ClearsIf, Egress}
use Rattle.interface.specs.QuietStep.{IsEarlier, IsQuiet}
use Rattle.interface.specs.declared.serve.Served.TheVariants as Turn
use Rattle.interface.proofs.Due.{AllLater, all_later, both_early, soonest_of}
use Rattle.interface.proofs.QuietParked.{parked_wait}
use Rattle.interface.proofs.QuietTurn.{DueAsBefore, quiet_slot}

next_is : (b : Bool) → Turn.Next b ≡ Turn.Next false → b ≡ false
next_is b same = cc

never_stops : (b : Bool) → Turn.Stop b ≡ Turn.Next false → ⊥
never_stops b same = cc

pub negative : (t : ℤ) → pos 0 ≤ℤ t → t <ℤ pos 0 → ⊥
negative t low high = grind (arith)

module _ {A B : Type 0} (f : A → B) where
  same_slots : (before ps : List A) (p p' : A) → f p' ≡ f p → map f ((before ++ p' ∷ []) ++ ps) ≡ map f (before ++ p ∷ ps)
  same_slots before ps p p' same =
      ap (map f) (append_assoc before (p' ∷ []) ps) ∙ map-append f before (p' ∷ ps)
      ∙ ap (λ (y : B). map f before ++ y ∷ map f ps) same ∙ sym (map-append f before (p ∷ ps))

module _ (due_as_before : DueAsBefore) {D : Type 0} (moves : D → Move → D →
    Type 0) (asked : InnerValue) (t : ℤ) (instant : pos 0 ≤ℤ t) (since : asked.instant ≤ℤ t) (routes : Rattle.interface.specs.QuietStep.RoutesStay asked t)
    (s : Sender D) (here : s.inner ≡ at_instant t asked) where
  -- nothing happened, and each slot is due as before
  record IsIdle (ps : List (SocketStorage Socket)) (e : Passed D) : Type 0 where
    state : e.sender ≡ s
    changed : e.changed ≡ false
    instants : map (slot_instant asked) e.slots ≡ map (slot_instant asked) ps

  idle_fragment : (left : Option LeftValue) → left ≡ None → (x : Sender D) (clear : Bool) → Clears moves left s clear x → (clear ≡ true) × (x ≡ s)
  idle_fragment None is x clear clears = clears
  idle_fragment (Some l) is x clear clears = absurd cc

  idle_pass : (turn : Option IpAddress) (ps before : List (SocketStorage Socket)) (e : Passed D) → AllLater t asked ps → Pass moves turn s before false ps e →
      IsIdle (before ++ ps) e
  idle_pass turn [] before e later ends =
      record {
        state = ap (λ (x : Passed D). x.sender) ends;
        changed = ap (λ (x : Passed D). x.changed) ends;
        instants = ap (λ (x : Passed D). map (slot_instant asked) x.slots) ends ∙ ap (map (slot_instant asked)) (sym (append-nil before));
      }
  idle_pass turn (p ∷ ps) before e later (inl goes) =
      let took = quiet_slot due_as_before moves turn asked t instant since routes s goes.1 here p goes.2 (Turn.Next goes.0) later.0 goes.3 in
      let rest : Pass moves turn s (before ++ goes.2 ∷ []) false ps e =
      subst (λ (b : Bool). Pass moves turn s (before ++ goes.2 ∷ []) b ps e) (next_is goes.0 took.0)
      (subst (λ (mid : Sender D). Pass moves turn mid (before ++ goes.2 ∷ []) (false || goes.0) ps e) took.1 goes.4) in
      let idle = idle_pass turn ps (before ++ goes.2 ∷ []) e later.1 rest in
      record { state = idle.state; changed = idle.changed; instants = idle.instants ∙ same_slots (slot_instant asked) before ps p goes.2 took.2 }
  idle_pass turn (p ∷ ps) before e later (inr stops) =
      absurd (never_stops stops.0
      (quiet_slot due_as_before moves turn asked t instant since routes s stops.1 here p stops.2 (Turn.Stop stops.0) later.0 stops.3).0)

  -- what clears the way does nothing
  idle_clears : (many : Bool) (x : Sender D) (clear : Bool) → asked.host_requirements ≡ many → s.left ≡ None
      → IsEarlier t (soonest_if many asked) → ClearsIf moves many s clear x → (clear ≡ true) × (x ≡ s)
  idle_clears false x clear is idle early clears = idle_fragment s.left idle x clear clears
  idle_clears true x clear is idle early (inl stays) =
      absurd (let off = (idle_fragment s.left idle x false stays.0).0 in cc)
  idle_clears true x clear is idle early (inr serves) =
      let same = (idle_fragment s.left idle serves.0 true serves.1).1 in
      parked_wait asked t since routes is moves s x clear instant here idle early
      (subst (λ (mid : Sender D). ServesParked moves mid clear x) same serves.2)

  idle_egress : (ps : List (SocketStorage Socket)) (e : Passed D) (left : Option LeftValue) → s.left ≡ left → IsEarlier t (poll_instant asked left ps)
      → Egress moves s ps e → IsQuiet asked s ps e
  idle_egress ps e (Some l) is early goes = absurd (negative t instant early)
  idle_egress ps e None is early goes = by goes where
    both : IsEarlier t (soonest_parked asked) × IsEarlier t (soonest asked ps)
    both = both_early t (soonest_parked asked) (soonest asked ps) early

    cleared : (x : Sender D) (clear : Bool) → ClearsIf moves s.inner.host_requirements s clear x → (clear ≡ true) × (x ≡ s)
    cleared x clear clears =
        idle_clears asked.host_requirements x clear refl is both.0
        (subst (λ (i : InnerValue). ClearsIf moves i.host_requirements s clear x) here clears)

    by : Egress moves s ps e → IsQuiet asked s ps e
    by (inl stays) = absurd (let off = (cleared stays.0 false stays.1).0 in cc)
    by (inr passes) =
        let idle = idle_pass (turn_of s.inner ps) ps [] e (all_later t asked ps both.1)
        (subst (λ (mid : Sender D). Pass moves (turn_of mid.inner ps) mid [] false ps e) (cleared passes.0 true passes.1).1 passes.2) in
        record {
          sender = idle.state;
          changed = idle.changed;
          due_instant = subst (λ (l : Option LeftValue). poll_instant asked l e.slots ≡ poll_instant asked l ps) (sym is)
              (ap (earlier (soonest_parked asked)) (soonest_of asked e.slots ps idle.instants));
        }

  pub quiet_egress : (ps : List (SocketStorage Socket)) (e : Passed D) → IsEarlier t (poll_instant asked s.left ps) → Egress moves s ps e → IsQuiet asked s ps e
  quiet_egress ps e early goes = idle_egress ps e s.left refl early goes
