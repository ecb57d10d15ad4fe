-- What the events of a round keep: frames on their way are taken before the clock goes on, and sockets are served at once.
use Rattle.std.proofs.Common.{◌≡◌, ℕ, suc, ◌≤◌, ℤ, ◌≤ℤ◌, Bool, true, false, not, ◌&&◌, List, [], ◌∷◌, ◌++◌, length, Option, refl, sym, ap, ◌∙◌, subst, arith}
use Rattle.std.specs.Prelude.{nat_lt}
use Rattle.std.proofs.lemmas.Int.{ints}
use Rattle.std.proofs.lemmas.List.{length-append}
use Rattle.iface_tables.specs.Settings.{is_mtu}
use Rattle.tcp_block.specs.State.{State}
use Rattle.lan.specs.declared.at_link.history.answer.Answer.{Answer}
use Rattle.lan.specs.declared.at_link.history.event.Event.{Event}
use Rattle.lan.specs.declared.at_link.history.event.Event.TheVariants as E
use Rattle.lan.specs.declared.at_link.history.event.Side.{Side}
use Rattle.lan.specs.declared.at_link.history.event.Side.TheVariants.{A, B}
use Rattle.lan.specs.Worlds.AtLink.Initial.{IsInitialStart, IsInitialWorld}
use Rattle.lan.specs.Worlds.AtLink.History.{Counts, Entry}
use Rattle.lan.specs.Worlds.AtLink.Kinds.{Delivered, kind_of, other}
use Rattle.lan.specs.Worlds.AtLink.Kinds.Act.{Asks, Polls}
use Rattle.lan.specs.Worlds.AtLink.Kinds.Kind.{OfHost, OfLink}
use Rattle.lan.specs.Worlds.AtLink.Kinds.LinkAct.{Hands}
use Rattle.lan.specs.Worlds.AtLink.Runs.{Starts, start, unused_both}
use Rattle.lan.specs.Worlds.AtLink.Sets.{asked}
use Rattle.lan.specs.Worlds.AtLink.Node.{NodeValue, Nodes, node}
use Rattle.lan.specs.Worlds.AtLink.Steps.{ActsAt}
use Rattle.lan.specs.Worlds.Still.{StillRun}
use Rattle.lan.proofs.Worlds.Alone.{alone_at}
use Rattle.lan.proofs.Worlds.Hosts.Going.{proceeds_along}
use Rattle.lan.proofs.Worlds.Moves.Nets.{either_side}
use Rattle.lan.proofs.Worlds.StillOnward.{ran}
use Rattle.sim_link.specs.Port.{LinkEnd}
use Rattle.proof_stack.specs.Progress.FramesInTransit.{AreCarried}
use Rattle.proof_stack.specs.Progress.Events.{clock_in}
use Rattle.proof_stack.specs.Progress.OneClock.{KeepOneClock}
use Rattle.proof_stack.specs.Progress.Serving.{AreServedAtOnce, WantsAt}
use Rattle.proof_stack.proofs.Rounds.OnWay.{AreUnder, Due, IsUnder, Way, deliver_under, due_fewer, handed_over, none_due, poll_way, same_link_under, stays_on, with_count}
use Rattle.proof_stack.proofs.Rounds.Sendings.{SendsShort, none_waits, sends_short}
use Rattle.proof_stack.proofs.Rounds.Takings.{takes_few}

no_earlier : (t : ℤ) → t ≤ℤ t
no_earlier t = omega (arith, ints)

in_turn : (a b c : ℤ) → a ≤ℤ b → b ≤ℤ c → a ≤ℤ c
in_turn a b c one two = omega (arith, ints, one, two)

abbrev pub entry : Event → Answer → Counts → Option State → Entry
entry event answer before found = record { event = event; answer = answer; before = before; found = found }

-- THE MTU OF A HOST

both_so : (a b : Bool) → (not a && not b) ≡ true → (a ≡ false) × (b ≡ false)
both_so false false is = (refl, refl)
both_so false true is = absurd (cc)
both_so true b is = absurd (cc)

mtu_fits : (mtu : ℕ) → is_mtu mtu ≡ true → (576 ≤ mtu) × (mtu ≤ 65_535)
mtu_fits mtu is =
    let both = both_so (nat_lt mtu 576) (nat_lt 65535 mtu) is in
    (let low = both.0 in grind (arith, low), let high = both.1 in grind (arith, high))

initial_side : (starts : Starts) → IsInitialWorld starts → (side : Side) → IsInitialStart (start starts side)
initial_side starts initial A = initial.a
initial_side starts initial B = initial.b

first_mtu : (starts : Starts) (side : Side) → (node (unused_both starts) side).host.inner.mtu ≡ (start starts side).host.inner.mtu
first_mtu starts A = refl
first_mtu starts B = refl

module _ (starts : Starts) (initial : IsInitialWorld starts) (slots : Side → ℕ) (past : List Entry) where
  abbrev Still : List Entry → Nodes → Type 0
  Still more hosts = StillRun starts (more ++ past) hosts

  host_mtu : (history : List Entry) (hosts : Nodes) → StillRun starts history hosts → (side : Side)
      → (576 ≤ (node hosts side).host.inner.mtu) × ((node hosts side).host.inner.mtu ≤ 65_535)
  host_mtu history hosts still side =
      let same : (node hosts side).host.inner.mtu ≡ (start starts side).host.inner.mtu =
      (proceeds_along history (unused_both starts) hosts (ran starts history hosts still) side).mtu ∙ first_mtu starts side in
      let fits = mtu_fits (start starts side).host.inner.mtu (initial_side starts initial side).mtu in
      let low = fits.0 in
      let high = fits.1 in
      (omega (arith, same, low), omega (arith, same, high))

  -- FRAMES

  -- so many frames of each side were handed over, and each other that was sent since is taken before the clock passes this instant
  pub record Carries (instant : ℤ) (k : Side → ℕ) (more : List Entry) (hosts : Nodes) (still : Still more hosts) : Type 0 where
    pub few : (s : Side) → k s ≤ length (node hosts s).link.sent
    pub on_way : Side → List Due
    pub carried : AreCarried starts 0 past more hosts still on_way
    pub under : (s : Side) → AreUnder instant (k s) s hosts (on_way s)

  -- an event goes on
  with_event : (e : Entry) (instant : ℤ) (k now : Side → ℕ) (more : List Entry) (hosts : Nodes) (still : Still (e ∷ more) hosts)
      (c : Carries instant k more still.0 still.1) → ((s : Side) → now s ≤ length (node hosts s).link.sent)
      → ((s : Side) → Way (kind_of e.event) (clock_in (e ∷ more ++ past)) instant (now s) still.0 hosts s (c.on_way s))
      → Carries instant now (e ∷ more) hosts still
  with_event e instant k now more hosts still c few ways = record {
    few = few;
    on_way = λ s. (ways s).after;
    carried = (c.on_way, c.carried, (λ s. (ways s).goes), (λ s. (ways s).sends));
    under = λ s. (ways s).under;
  }

  grown : (old new : NodeValue) (k : ℕ) → SendsShort old.link.sent new.link.sent → k ≤ length old.link.sent → k ≤ length new.link.sent
  grown old new k sends few =
      let same = ap (λ (fs : List (List ℕ)). length fs) sends.are in
      let whole = length-append old.link.sent sends.gone in
      omega (arith, same, whole, few)

  pub poll_carries : (side : Side) (t : ℤ) (budget : ℕ) (answer : Answer) (before : Counts) (found : Option State) (k : Side → ℕ) (more : List Entry)
      (hosts : Nodes) (still : Still (entry (E.Poll side t budget) answer before found ∷ more) hosts) → Carries t k more still.0 still.1
      → Carries t k (entry (E.Poll side t budget) answer before found ∷ more) hosts still
  poll_carries side t budget answer before found k more hosts still c =
      let old : Nodes = still.0 in
      let acts : ActsAt old side (Polls t budget) answer found hosts = still.2.happens in
      let mtu = host_mtu (more ++ past) old still.1 side in
      let alone = alone_at old still.2.alone side in
      let takes = takes_few (node old side) (node hosts side) t budget acts.acts.0 acts.acts.1 in
      let sends = sends_short (node old side) (node hosts side) t budget acts.acts.0 (none_waits (node old side).host.inner alone) mtu.0 mtu.1 acts.acts.1 in
      with_event (entry (E.Poll side t budget) answer before found) t k k more hosts still c
      (either_side side (λ s. k s ≤ length (node hosts s).link.sent) (grown (node old side) (node hosts side) (k side) sends (c.few side))
      (subst (λ (s : NodeValue). k (other side) ≤ length s.link.sent) (sym acts.rests) (c.few (other side))))
      (poll_way t budget old hosts side k c.few takes sends acts.rests c.on_way c.under)

  pub sent_stays : (old : Nodes) (from : Side) (j : ℕ) (s : Side) → (node (handed_over old from j) s).link.sent ≡ (node old s).link.sent
  sent_stays old A j A = refl
  sent_stays old A j B = refl
  sent_stays old B j A = refl
  sent_stays old B j B = refl

  one_more : (from : Side) (j : ℕ) (k : Side → ℕ) (hosts : Nodes) → suc j ≤ length (node hosts from).link.sent
      → ((s : Side) → with_count from j k s ≤ length (node hosts s).link.sent) → (s : Side) → with_count from (suc j) k s ≤ length (node hosts s).link.sent
  one_more A j k hosts some few A = some
  one_more A j k hosts some few B = few B
  one_more B j k hosts some few A = few A
  one_more B j k hosts some few B = some

  pub deliver_carries : (from : Side) (j : ℕ) (answer : Answer) (before : Counts) (found : Option State) (instant : ℤ) (k : Side → ℕ) (more : List Entry)
      (hosts : Nodes) (still : Still (entry (E.Deliver from j []) answer before found ∷ more) hosts) → clock_in (more ++ past) ≤ℤ instant
      → suc j ≤ length (node still.0 from).link.sent → Carries instant (with_count from j k) more still.0 still.1
      → Carries instant (with_count from (suc j) k) (entry (E.Deliver from j []) answer before found ∷ more) hosts still
  deliver_carries from j answer before found instant k more hosts still soon some c =
      let old : Nodes = still.0 in
      let is : hosts ≡ handed_over old from j = still.2.happens.2 in
      with_event (entry (E.Deliver from j []) answer before found) instant (with_count from j k) (with_count from (suc j) k) more hosts still c
      (λ s. subst (λ (x : Nodes). with_count from (suc j) k s ≤ length (node x s).link.sent) (sym is)
      (subst (λ (fs : List (List ℕ)). with_count from (suc j) k s ≤ length fs) (sym (sent_stays old from j s)) (one_more from j k old some c.few s)))
      (λ s. stays_on (OfLink (Hands (Delivered from j []))) (clock_in (more ++ past)) instant (with_count from j k s) (with_count from (suc j) k s) old hosts s
      (c.on_way s) soon (λ frames sends. sends)
      (λ frame under. subst (λ (x : Nodes). IsUnder (with_count from (suc j) k s) s x frame) (sym is) (deliver_under from j old k s frame under)) (c.under s))

  asked_link : (side : Side) (t : ℤ) (old new : Nodes) → node new side ≡ asked (node old side) t → node new (other side) ≡ node old (other side)
      → (s : Side) → (node new s).link ≡ (node old s).link
  asked_link side t old new is rests =
      either_side side (λ s. (node new s).link ≡ (node old s).link) (ap (λ (x : NodeValue). x.link) is) (ap (λ (x : NodeValue). x.link) rests)

  pub ask_carries : (side : Side) (t : ℤ) (answer : Answer) (before : Counts) (found : Option State) (instant : ℤ) (k : Side → ℕ) (more : List Entry)
      (hosts : Nodes) (still : Still (entry (E.PollAt side t) answer before found ∷ more) hosts) → t ≤ℤ instant → Carries instant k more still.0 still.1
      → Carries instant k (entry (E.PollAt side t) answer before found ∷ more) hosts still
  ask_carries side t answer before found instant k more hosts still soon c =
      let old : Nodes = still.0 in
      let acts : ActsAt old side (Asks t) answer found hosts = still.2.happens in
      let same : (s : Side) → (node hosts s).link ≡ (node old s).link = asked_link side t old hosts acts.acts.2 acts.rests in
      with_event (entry (E.PollAt side t) answer before found) instant k k more hosts still c
      (λ s. subst (λ (l : LinkEnd). k s ≤ length l.sent) (sym (same s)) (c.few s))
      (λ s. stays_on (OfHost side (Asks t)) t instant (k s) (k s) old hosts s (c.on_way s) soon (λ frames sends. sends)
      (same_link_under old hosts (k s) s same) (c.under s))

  -- fewer were handed over
  pub fewer_carried : (instant : ℤ) (j k : Side → ℕ) (more : List Entry) (hosts : Nodes) (still : Still more hosts) → ((s : Side) → j s ≤ k s)
      → Carries instant k more hosts still → Carries instant j more hosts still
  fewer_carried instant j k more hosts still less c = record {
    few = λ s. let down = less s in let few = c.few s in omega (arith, down, few);
    on_way = c.on_way;
    carried = c.carried;
    under = λ s. due_fewer instant (j s) (k s) s hosts (c.on_way s) (less s) (c.under s);
  }

  -- where all that was sent was handed over, and none waits, the clock may go on
  pub all_came : (instant next : ℤ) (j n k : Side → ℕ) (more : List Entry) (hosts : Nodes) (still : Still more hosts) → ((s : Side) → j s ≤ k s)
      → ((s : Side) → n s ≤ k s) → ((s : Side) → length (node hosts s).link.sent ≤ j s) → ((s : Side) → (node hosts s).link.waiting ≡ [])
      → Carries instant k more hosts still → Carries next n more hosts still
  all_came instant next j n k more hosts still fewer less all none c = record {
    few = λ s. let down = less s in let few = c.few s in omega (arith, down, few);
    on_way = c.on_way;
    carried = c.carried;
    under = λ s.
        subst (AreUnder next (n s) s hosts)
        (sym (none_due instant (j s) s hosts (c.on_way s) (all s) (none (other s)) (due_fewer instant (j s) (k s) s hosts (c.on_way s) (fewer s) (c.under s)))) tt;
  }

  -- THE CLOCK

  -- the events keep one clock, and sockets were served at once; the clock may go on to this instant, since neither wanted to be asked before
  pub record Clocked (instant : ℤ) (more : List Entry) (hosts : Nodes) (still : Still more hosts) : Type 0 where
    pub keeps : KeepOneClock starts slots past more
    pub clock : clock_in (more ++ past) ≤ℤ instant
    pub at_once : AreServedAtOnce starts slots past more hosts still
    pub soon : (s : Side) (due : ℤ) → clock_in (more ++ past) ≤ℤ due → WantsAt due (slots s) (node hosts s) → instant ≤ℤ due

  pub poll_clocked : (side : Side) (t : ℤ) (budget : ℕ) (answer : Answer) (before : Counts) (found : Option State) (more : List Entry) (hosts : Nodes)
      (still : Still (entry (E.Poll side t budget) answer before found ∷ more) hosts) → Clocked t more still.0 still.1
      → Clocked t (entry (E.Poll side t budget) answer before found ∷ more) hosts still
  poll_clocked side t budget answer before found more hosts still c =
      record { keeps = (c.keeps, c.clock, tt); clock = no_earlier t; at_once = (c.at_once, c.soon); soon = λ s due up wants. up }

  pub ask_clocked : (side : Side) (t : ℤ) (answer : Answer) (before : Counts) (found : Option State) (more : List Entry) (hosts : Nodes)
      (still : Still (entry (E.PollAt side t) answer before found ∷ more) hosts) → Clocked t more still.0 still.1
      → Clocked t (entry (E.PollAt side t) answer before found ∷ more) hosts still
  ask_clocked side t answer before found more hosts still c =
      record { keeps = (c.keeps, c.clock, tt); clock = no_earlier t; at_once = (c.at_once, c.soon); soon = λ s due up wants. up }

  wants_still : (old : Nodes) (from : Side) (j : ℕ) (s : Side) (due : ℤ) → WantsAt due (slots s) (node (handed_over old from j) s)
      → WantsAt due (slots s) (node old s)
  wants_still old A j A due wants = wants
  wants_still old A j B due wants = wants
  wants_still old B j A due wants = wants
  wants_still old B j B due wants = wants

  pub deliver_clocked : (from : Side) (j : ℕ) (answer : Answer) (before : Counts) (found : Option State) (instant : ℤ) (more : List Entry) (hosts : Nodes)
      (still : Still (entry (E.Deliver from j []) answer before found ∷ more) hosts) → Clocked instant more still.0 still.1
      → Clocked instant (entry (E.Deliver from j []) answer before found ∷ more) hosts still
  deliver_clocked from j answer before found instant more hosts still c =
      let is : hosts ≡ handed_over still.0 from j = still.2.happens.2 in
      record {
        keeps = (c.keeps, no_earlier (clock_in (more ++ past)), tt);
        clock = c.clock;
        at_once = (c.at_once, λ s due up wants. up);
        soon = λ s due up wants.
            c.soon s due up (wants_still still.0 from j s due (subst (λ (x : Nodes). WantsAt due (slots s) (node x s)) is wants));
      }
