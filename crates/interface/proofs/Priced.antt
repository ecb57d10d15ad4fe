-- A poll raises a count by what its arrivals, its fragments and its sockets' turns cost, for each step of its budget.
use Rattle.std.proofs.Common.{◌≡◌, ℕ, zero, suc, ◌+◌, ◌*◌, ◌≤◌, ℤ, Bool, true, false, cond, ◌||◌, inl, inr, List, [], ◌∷◌, ◌++◌, length, Option, Some, None, refl, sym}
use Rattle.std.proofs.Common.{◌∙◌, ap, subst, arith, append_assoc, append-nil, suc-mul, mul-add}
use Rattle.net_base.specs.Device.{Move}
use Rattle.ip_wire.specs.IpAddress.{IpAddress}
use Rattle.iface_ingress.specs.Socket.{Socket}
use Rattle.iface_tables.specs.Inner.{InnerValue}
use Rattle.iface_egress.specs.declared.socket_set.Item.{Item}
use Rattle.iface_egress.specs.declared.socket_set.SocketStorage.{SocketStorage}
use Rattle.iface_egress.specs.Fragments.{LeftValue}
use Rattle.interface.specs.Awaited.{turn_of}
use Rattle.interface.specs.Host.{HostValue, Sender, sender}
use Rattle.interface.specs.Pass.{Pass, Passed}
use Rattle.interface.specs.Serve.{ItemTurns}
use Rattle.interface.specs.EgressPath.{Clears, ClearsIf, Egress}
use Rattle.interface.specs.declared.serve.Served.{Served}
use Rattle.interface.specs.declared.serve.Served.TheVariants as Turn
use Rattle.interface.specs.State.{State}
use Rattle.interface.specs.Egress.{EgressStep, following}
use Rattle.interface.specs.Ingress.{IngressStep}
use Rattle.interface.specs.Polls.{Repeats, Polls, begun}
use Rattle.interface.proofs.Kept.{RunsAt}
use Rattle.interface.specs.State.{sending_as}
use Rattle.interface.proofs.Kept.{IsPriced}
use Rattle.interface.specs.Used.{is_used, most_parked, sockets_in}
use Rattle.interface.proofs.FewWait.{WaitFew, few_begin, few_keep, few_served, few_take, few_turn}
use Rattle.interface.proofs.Runs.{runs_out, runs_so, runs_where, takes_runs, turn_runs}
use Rattle.interface.proofs.SameHost.{flag_cleared, serves_same}
use Rattle.interface.proofs.Shapes.{shape, trues, sockets_so, one_slot, takes_shape}

-- where nothing waits, nothing is added
pub none_added : (n : ℕ) → 0 + n ≡ n
none_added n = omega arith

module _ {D : Type 0} (moves : D → Move → D → Type 0) (t : ℤ) (fragment : ℕ) (Q : ℕ → State D → Type 0) (kept : IsPriced moves t fragment Q) (first : List Bool) (parked : ℕ) where
  -- so many were counted, while the call runs; the same slots have sockets as at first; and no more than so many packets wait
  record Counts (n : ℕ) (s : State D) : Type 0 where
    so : Q n s
    runs : RunsAt t s.host.inner
    slots : shape s.slots ≡ first
    few : WaitFew parked s.host.inner

  more : (n m : ℕ) (s : State D) → n ≤ m → Counts n s → Counts m s
  more n m s up holds = record { so = kept.more n m s up holds.so; runs = holds.runs; slots = holds.slots; few = holds.few }

  -- THE WAY OUT

  module _ (h : HostValue) where
    item_counts : (turn : Option IpAddress) (before after : List (SocketStorage Socket)) (o o' : Option (Item Socket)) (n : ℕ) (x x' : Sender D)
        (turned : Served) → Counts n (sending_as h x (before ++ record { inner = o } ∷ after)) → ItemTurns moves turn o x turned x' o'
        → Counts (n + cond (is_used (record { inner = o })) 1 0) (sending_as h x' (before ++ record { inner = o' } ∷ after))
    item_counts turn before after None None n x x' turned holds turns =
        let free : SocketStorage Socket = record { inner = None } in
        subst (λ (y : Sender D). Counts (n + 0) (sending_as h y (before ++ free ∷ after))) (sym turns.1)
        (more n (n + 0) (sending_as h x (before ++ free ∷ after)) (omega arith) holds)
    item_counts turn before after (Some item) (Some item') n x x' turned holds turns = record {
      so = kept.turns turn n h before after (record { inner = Some item }) (record { inner = Some item' }) x x' turned refl holds.runs holds.so turns;
      runs = turn_runs moves t turn x x' (record { inner = Some item }) (record { inner = Some item' }) turned turns holds.runs;
      slots = one_slot before after (record { inner = Some item }) (record { inner = Some item' }) refl ∙ holds.slots;
      few = few_turn moves t parked turn x x' (Some item) (Some item') turned turns holds.few;
    }
    item_counts turn before after None (Some item') n x x' turned holds turns = absurd turns
    item_counts turn before after (Some item) None n x x' turned holds turns = absurd turns

    pass_counts : (turn : Option IpAddress) (ps before : List (SocketStorage Socket)) (n : ℕ) (x : Sender D) (changed : Bool) (e : Passed D) →
        Counts n (sending_as h x (before ++ ps)) → Pass moves turn x before changed ps e → Counts (n + trues (shape ps)) (following h e)
    pass_counts turn [] before n x changed e holds ends =
        more n (n + 0) (following h e) (omega arith)
        (subst (λ (y : Passed D). Counts n (following h y)) (sym ends)
        (subst (λ (qs : List (SocketStorage Socket)). Counts n (sending_as h x qs)) (append-nil before) holds))
    pass_counts turn (p ∷ ps) before n x changed e holds (inl goes) =
        let cost : ℕ = cond (is_used p) 1 0 in
        let next : Counts (n + cost) (sending_as h goes.1 (before ++ goes.2 ∷ ps)) =
        item_counts turn before ps p.inner goes.2.inner n x goes.1 (Turn.Next goes.0) holds goes.3 in
        more (n + cost + trues (shape ps)) (n + trues (shape (p ∷ ps))) (following h e) (omega arith)
        (pass_counts turn ps (before ++ goes.2 ∷ []) (n + cost) goes.1 (changed || goes.0) e
        (subst (λ (qs : List (SocketStorage Socket)). Counts (n + cost) (sending_as h goes.1 qs)) (sym (append_assoc before (goes.2 ∷ []) ps)) next) goes.4)
    pass_counts turn (p ∷ ps) before n x changed e holds (inr stops) =
        let cost : ℕ = cond (is_used p) 1 0 in
        let next : Counts (n + cost) (sending_as h stops.1 (before ++ stops.2 ∷ ps)) =
        item_counts turn before ps p.inner stops.2.inner n x stops.1 (Turn.Stop stops.0) holds stops.3 in
        more (n + cost) (n + trues (shape (p ∷ ps))) (following h e) (omega arith)
        (subst (λ (y : Passed D). Counts (n + cost) (following h y)) (sym stops.4) next)

    clears_counts : (n : ℕ) (ps : List (SocketStorage Socket)) (x x' : Sender D) (l : Option LeftValue) (clear : Bool) → x.left ≡ l →
        Counts n (sending_as h x ps) → Clears moves l x clear x' → Counts (n + fragment) (sending_as h x' ps)
    clears_counts n ps x x' None clear is holds clears =
        more n (n + fragment) (sending_as h x' ps) (omega arith) (subst (λ (y : Sender D). Counts n (sending_as h y ps)) (sym clears.1) holds)
    clears_counts n ps x x' (Some l) clear is holds clears = record {
      so = kept.fragments n h ps x x' l clear holds.runs is holds.so clears.0 clears.1;
      runs = runs_where t x.inner x'.inner clears.1 holds.runs;
      slots = holds.slots;
      few = subst (WaitFew parked) (sym clears.1) holds.few;
    }

    -- what clears the way costs
    abbrev cleared : ℕ → ℕ
    cleared n = n + (parked + fragment)

    clears_all_count : (many : Bool) (n : ℕ) (ps : List (SocketStorage Socket)) (x x' : Sender D) (clear : Bool) → x.inner.host_requirements ≡ many →
        Counts n (sending_as h x ps) → ClearsIf moves many x clear x' → Counts (cleared n) (sending_as h x' ps)
    clears_all_count false n ps x x' clear is holds clears =
        more (n + fragment) (cleared n) (sending_as h x' ps) (omega arith) (clears_counts n ps x x' x.left clear refl holds clears)
    clears_all_count true n ps x x' clear is holds (inl stays) =
        more (n + fragment) (cleared n) (sending_as h x' ps) (omega arith) (clears_counts n ps x x' x.left false refl holds stays.0)
    clears_all_count true n ps x x' clear is holds (inr serves) =
        let mid : Sender D = serves.0 in
        let now = clears_counts n ps x mid x.left true refl holds serves.1 in
        let many : mid.inner.host_requirements ≡ true = flag_cleared moves x mid x.left true serves.1 ∙ is in
        let cost : ℕ = n + fragment + length mid.inner.parking.packets in
        let few = now.few many in
        more cost (cleared n) (sending_as h x' ps) (omega (arith, few)) (record {
          so = kept.parked (n + fragment) h ps mid x' clear now.runs many now.so serves.2;
          runs = runs_out t mid.inner x'.inner (serves_same moves mid x' clear many serves.2) now.runs;
          slots = now.slots;
          few = few_served moves parked mid x' clear many serves.2 now.few;
        })

    egress_counts : (n : ℕ) (x : Sender D) (ps : List (SocketStorage Socket)) (e : Passed D) → Counts n (sending_as h x ps) → Egress moves x ps e →
        Counts (cleared n + trues (shape ps)) (following h e)
    egress_counts n x ps e holds (inl stays) =
        more (cleared n) (cleared n + trues (shape ps)) (following h e) (omega arith)
        (subst (λ (y : Passed D). Counts (cleared n) (following h y)) (sym stays.2)
        (clears_all_count x.inner.host_requirements n ps x stays.0 false refl holds stays.1))
    egress_counts n x ps e holds (inr goes) =
        pass_counts (turn_of goes.0.inner ps) ps [] (cleared n) goes.0 false e
        (clears_all_count x.inner.host_requirements n ps x goes.0 true refl holds goes.1) goes.2

  -- what a step of the egress path costs
  abbrev out_cost : ℕ
  out_cost = parked + (fragment + trues first)

  out_step_counts : (n : ℕ) (s s' : State D) (answer : Option Bool) → Counts n s → EgressStep moves t s answer s' → Counts (n + out_cost) s'
  out_step_counts n s s' answer holds step =
      let goes : Egress moves (sender s.device s.host.inner s.host.left) s.slots step.0 =
      subst (λ (i : InnerValue). Egress moves (sender s.device i s.host.left) s.slots step.0) (runs_so t s.host.inner holds.runs) step.1 in
      let now : Counts (n + (parked + fragment) + trues (shape s.slots)) (following s.host step.0) =
      egress_counts s.host n (sender s.device s.host.inner s.host.left) s.slots step.0 holds goes in
      more (n + (parked + fragment) + trues (shape s.slots)) (n + out_cost) s' (omega (arith, ap trues holds.slots))
      (subst (Counts (n + (parked + fragment) + trues (shape s.slots))) (sym step.2) now)

  -- THE WAY IN

  in_step_counts : (n : ℕ) (s s' : State D) (answer : Option Bool) → Counts n s → IngressStep moves t s answer s' → Counts (n + 1) s'
  in_step_counts n s s' answer holds step = record {
    so = kept.arrivals n (begun t s) s' answer (refl, refl) (kept.maintenance n s holds.so) step;
    runs = takes_runs moves t (begun t s) s' answer step (refl, refl);
    slots = takes_shape moves (begun t s) s' answer step ∙ holds.slots;
    few = few_take moves t parked (begun t s) s' answer step (few_begin t parked s.host.inner holds.few);
  }

  -- STEPS

  module _ (step : State D → Option Bool → State D → Type 0) (cost : ℕ) (costs : (n : ℕ) (s s' : State D) (answer : Option Bool) → Counts n s →
      step s answer s' → Counts (n + cost) s') where
    repeats_count : (k n : ℕ) (s s' : State D) (c c' : Bool) → Counts n s → Repeats step k s c s' c' → Counts (n + k * cost) s'
    repeats_count zero n s s' c c' holds steps = more n (n + zero * cost) s' (omega arith) (subst (Counts n) (sym steps.0) holds)
    repeats_count (suc k) n s s' c c' holds (inl ends) =
        more (n + cost) (n + suc k * cost) s' (omega (arith, suc-mul k cost)) (costs n s s' None holds ends.0)
    repeats_count (suc k) n s s' c c' holds (inr goes) =
        more (n + cost + k * cost) (n + suc k * cost) s' (omega (arith, suc-mul k cost))
        (repeats_count k (n + cost) goes.1 s' (c || goes.0) c' (costs n s goes.1 (Some goes.0) holds goes.2) goes.3)

  pub counted : (budget n : ℕ) (s s' : State D) (changed : Bool) → shape s.slots ≡ first → WaitFew parked s.host.inner → Q n s → Polls moves t budget s changed s'
      → Q (n + budget * (1 + out_cost)) s' × RunsAt t s'.host.inner × (shape s'.slots ≡ first)
  counted budget n s s' changed slots few holds polls =
      let start : Counts n (begun t s) = record { so = kept.maintenance n s holds; runs = (refl, refl); slots = slots; few = few_begin t parked s.host.inner few } in
      let mid : Counts (n + budget * 1) polls.0 =
      repeats_count (IngressStep moves t) 1 in_step_counts budget n (begun t s) polls.0 false polls.1 start polls.2 in
      let last : Counts (n + budget * 1 + budget * out_cost) s' =
      repeats_count (EgressStep moves t) out_cost out_step_counts budget (n + budget * 1) polls.0 s' polls.1 changed mid polls.3 in
      let all : Counts (n + budget * (1 + out_cost)) s' =
      more (n + budget * 1 + budget * out_cost) (n + budget * (1 + out_cost)) s' (omega (arith, mul-add budget 1 out_cost)) last in
      (all.so, all.runs, all.slots)

-- what a poll costs for each step of its budget, alongside the fragments and the packets that wait
pub polls_cost : {D : Type 0} (moves : D → Move → D → Type 0) (t : ℤ) (fragment : ℕ) (Q : ℕ → State D → Type 0) → IsPriced moves t fragment Q →
    (budget n : ℕ) (s s' : State D) (changed : Bool)
    → Q n s → Polls moves t budget s changed s' → Q (n + budget * (1 + (most_parked s.host.inner + (fragment + sockets_in s.slots)))) s' × RunsAt t s'.host.inner ×
    (shape s'.slots ≡ shape s.slots)
polls_cost moves t fragment Q kept budget n s s' changed holds polls =
    let parked : ℕ = most_parked s.host.inner in
    let all = counted moves t fragment Q kept (shape s.slots) parked budget n s s' changed refl (few_keep s.host.inner) holds polls in
    (subst (λ (k : ℕ). Q (n + budget * (1 + (parked + (fragment + k)))) s') (sym (sockets_so s.slots)) all.0, all.1, all.2)
