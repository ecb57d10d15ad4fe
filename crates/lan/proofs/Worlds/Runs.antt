-- Wherever a history of typed events led from two new hosts, they are joined, and so their sockets are safe.
use Rattle.std.proofs.Common.{◌≡◌, ℕ, ◌+◌, ◌^◌, ◌<◌, ◌≤◌, ◌≤ℤ◌, List, [], ◌∷◌, ◌++◌, refl, sym, ◌∙◌, ap, subst, arith, append-nil, append_assoc}
use Rattle.std.specs.Prelude.{ℤ}
use Rattle.lan.specs.Worlds.AtLink.History.{Entry}
use Rattle.lan.specs.Worlds.AtLink.Kinds.{other, kind_of, Kind}
use Rattle.lan.specs.Worlds.AtLink.Kinds.Act.{Calls, Sets, Opens, Asks, Polls}
use Rattle.lan.specs.Worlds.AtLink.Kinds.Kind.{OfHost, OfLink}
use Rattle.lan.specs.Worlds.AtLink.Side.{Side}
use Rattle.lan.specs.Worlds.AtLink.Side.TheVariants.{A, B}
use Rattle.lan.specs.Worlds.AtLink.Moves.{IsRun, Step, run}
use Rattle.lan.specs.Worlds.AtLink.Parties.{Net}
use Rattle.lan.specs.Worlds.AtLink.PacketsSafe.{IsSafe}
use Rattle.lan.proofs.Worlds.Alone.{alone_at}
use Rattle.lan.proofs.Worlds.AtLink.Extended.{run-append, IsRun-append}
use Rattle.lan.specs.Worlds.AtLink.Initial.{IsInitialWorld}
use Rattle.lan.specs.Worlds.AtLink.Origins.{medium_of, numbered}
use Rattle.lan.specs.Worlds.AtLink.Runs.{Starts, unused_both, WorldRun, Leads}
use Rattle.lan.specs.Worlds.AtLink.Safe.{first_port, net_of}
use Rattle.lan.specs.Worlds.AtLink.Node.{Nodes, node}
use Rattle.lan.specs.Worlds.AtLink.Steps.{Happens, ActsAt}
use Rattle.lan.specs.Worlds.Moves.Follows.{IsNetOf, Comes, IsNoPoll}
use Rattle.lan.specs.Worlds.Moves.Joined.{first_net}
use Rattle.lan.proofs.Worlds.Moves.Coming.{HasCome}
use Rattle.lan.specs.Worlds.Moves.Fit.{IsFit, AreFit}
use Rattle.lan.specs.Worlds.Moves.Raws.{OfEach}
use Rattle.lan.proofs.Worlds.Moves.Calls.{names}
use Rattle.lan.proofs.Worlds.Moves.Fits.{worlds_fit}
use Rattle.lan.proofs.Worlds.Moves.Nets.{either_side}
use Rattle.lan.proofs.Worlds.Moves.Worlds.{rest_comes, first_of, came_safe}
use Rattle.lan.specs.Worlds.Link.Numbers.{count_numbered, AreFew}
use Rattle.lan.proofs.Worlds.Link.Sufficient.{numbers_grow, polled_few}
use Rattle.lan.specs.Worlds.Events.{IsTyped, AreTyped}
use Rattle.lan.specs.Worlds.Joins.{AreJoined, IsPlain}
use Rattle.lan.proofs.Worlds.Acts.{joins_grow}
use Rattle.lan.proofs.Worlds.Beginnings.{firsts, none_yet, first_joined}
use Rattle.lan.proofs.Worlds.Events.{plain_joins}
use Rattle.lan.proofs.Worlds.PolledJoins as Polled
use Rattle.lan.proofs.Worlds.Settings.{setting_joins}
use Rattle.lan.specs.Worlds.Link.Frames.{Outgoing}
use Rattle.net_base.specs.Time.{IsMoment}
use Rattle.std.proofs.lemmas.Int.{ints}
use Rattle.lan.specs.Worlds.AtLink.Paired.{at_zero}
use Rattle.lan.specs.Worlds.Still.{AreStill, StillRun}
use Rattle.lan.proofs.Worlds.Hosts.Polling.{polled as poll_settings}
use Rattle.lan.proofs.Worlds.Moves.Held.{IsSeenAs, all_so}
use Rattle.lan.proofs.Worlds.Moves.Worlds.{rest_held}
use Rattle.lan.proofs.Worlds.StillOnward.{first, instants, now_still, onward, ran, seen_in_run}
use Rattle.lan.proofs.Worlds.StillSteps.{AreAllHeld, all-append, all-at}

-- how many datagrams a host has numbered
abbrev pub numbered_by : List Entry → Nodes → Side → ℕ
numbered_by history hosts side = numbered (medium_of (node hosts side)) side history (node hosts side).link.sent

-- J: the hosts are joined, and each sent fewer packets that have one than there are numbers, no more than it numbered
pub record AreWell (starts : Starts) (history : List Entry) (hosts : Nodes) (net : Net) : Type 0 where
  pub most : Side → ℕ
  pub joined : AreJoined (firsts starts) most hosts net
  pub few : (side : Side) → most side < 2 ^ 16
  pub numbered : (side : Side) → most side ≤ numbered_by history hosts side

-- one side's number exchanged
abbrev exchanged : (Side → ℕ) → Side → ℕ → Side → ℕ
exchanged most A n A = n
exchanged most A n B = most B
exchanged most B n A = most A
exchanged most B n B = n

exchanged_here : (most : Side → ℕ) (side : Side) (n : ℕ) → exchanged most side n side ≡ n
exchanged_here most A n = refl
exchanged_here most B n = refl

exchanged_there : (most : Side → ℕ) (side : Side) (n : ℕ) → exchanged most side n (other side) ≡ most (other side)
exchanged_there most A n = refl
exchanged_there most B n = refl

module _ (starts : Starts) (net : Net) (old new : Nodes) (past : List Entry) (e : Entry) (w : AreWell starts past old net) (of : IsNetOf net old past)
    (leads : Leads past old e new) where
  abbrev Then : Type 0
  Then = (c : Comes names net new (e ∷ past)) × AreWell starts (e ∷ past) new c.next

  grows : (side : Side) → w.most side ≤ numbered_by (e ∷ past) new side
  grows side = let up = w.numbered side in let more = numbers_grow past e old new side leads in omega (arith, up, more)

  -- AN EVENT THAT IS NO POLL

  rests : IsNoPoll (kind_of e.event) → AreJoined (firsts starts) w.most new net → Then
  rests quiet joined =
      let c : Comes names net new (e ∷ past) = rest_comes net old new past e of quiet leads in
      (c, record { most = w.most; joined = joins_grow (firsts starts) w.most new net c.next c.grows joined; few = w.few; numbered = grows })

  plain : IsNoPoll (kind_of e.event) → IsPlain (kind_of e.event) → IsTyped (kind_of e.event) → Then
  plain quiet is typed = rests quiet (plain_joins (firsts starts) w.most old new net w.joined past e is typed leads)

  -- A POLL

  module _ (side : Side) (t : ℤ) (budget : ℕ) (is : kind_of e.event ≡
      OfHost side (Polls t budget)) (acts : ActsAt old side (Polls t budget) e.answer e.found new) where
    few_out : AreFew (w.joined.out (other side))
    few_out = let a = w.joined.counted (other side) in let b = w.few (other side) in omega (arith, a, b)

    module _ (fit : OfEach IsFit (node old side).slots) where
      abbrev out_after : List Outgoing
      out_after = (Polled.linked_after (firsts starts) w.most old new net past e w.joined of side t budget is few_out acts (alone_at old leads.alone side) fit).out

      abbrev most' : Side → ℕ
      most' = exchanged w.most side (count_numbered out_after)

      all_few : AreFew out_after → (x : Side) → most' x < 2 ^ 16
      all_few few = either_side side (λ x. most' x < 2 ^ 16) (omega (arith, few, exchanged_here w.most side (count_numbered out_after)))
          (let b = w.few (other side) in omega (arith, b, exchanged_there w.most side (count_numbered out_after)))

      polled_numbered : count_numbered out_after ≤ numbered_by (e ∷ past) new side → (x : Side) → most' x ≤ numbered_by (e ∷ past) new x
      polled_numbered up = either_side side (λ x. most' x ≤ numbered_by (e ∷ past) new x) (omega (arith, up, exchanged_here w.most side (count_numbered out_after)))
          (let b = grows (other side) in omega (arith, b, exchanged_there w.most side (count_numbered out_after)))

      suffice : AreFew out_after × (count_numbered out_after ≤ numbered_by (e ∷ past) new side)
      suffice =
          let linked = Polled.linked_after (firsts starts) w.most old new net past e w.joined of side t budget is few_out acts (alone_at old leads.alone side) fit in
          let up : count_numbered (w.joined.out side) ≤ numbered_by past old side =
          (let a = w.joined.counted side in let b = w.numbered side in omega (arith, a, b)) in
          polled_few past e old new side leads t budget is (w.joined.out side) out_after up linked.count
          (Polled.tied_after (firsts starts) w.most old new net past e w.joined of side t budget is few_out acts (alone_at old leads.alone side) fit)

      polled : Then
      polled = (
        Polled.comes (firsts starts) w.most old new net past e w.joined of side t budget is few_out acts (alone_at old leads.alone side) fit,
        record {
          most = most';
          joined = Polled.polled_joins (firsts starts) w.most old new net past e w.joined of side t budget is few_out acts (alone_at old leads.alone side) fit most'
              (omega (arith, exchanged_there w.most side (count_numbered out_after))) (omega (arith, exchanged_here w.most side (count_numbered out_after)));
          few = all_few suffice.0;
          numbered = polled_numbered suffice.1;
        },
      )

-- ANY EVENT

no_later : (a b : ℤ) → a ≡ b → a ≤ℤ b
no_later a b is = omega (arith, ints, is)

module _ (starts : Starts) where
  by_kind : (net : Net) (old new : Nodes) (past : List Entry) (e : Entry) (w : AreWell starts past old net) (of : IsNetOf net old past)
      (leads : Leads past old e new) → AreFit old
      → (k : Kind) → kind_of e.event ≡ k → IsTyped k → Happens old k e.answer e.found new → Then starts net old new past e w of leads
  by_kind net old new past e w of leads fit (OfHost side (Calls i call)) is typed happens =
      plain starts net old new past e w of leads (subst IsNoPoll (sym is) tt) (subst IsPlain (sym is) tt) (subst IsTyped (sym is) typed)
  by_kind net old new past e w of leads fit (OfHost side (Opens n)) is typed happens =
      plain starts net old new past e w of leads (subst IsNoPoll (sym is) tt) (subst IsPlain (sym is) tt) (subst IsTyped (sym is) typed)
  by_kind net old new past e w of leads fit (OfHost side (Asks t)) is typed happens =
      plain starts net old new past e w of leads (subst IsNoPoll (sym is) tt) (subst IsPlain (sym is) tt) (subst IsTyped (sym is) typed)
  by_kind net old new past e w of leads fit (OfLink act) is typed happens =
      plain starts net old new past e w of leads (subst IsNoPoll (sym is) tt) (subst IsPlain (sym is) tt) (subst IsTyped (sym is) typed)
  by_kind net old new past e w of leads fit (OfHost side (Sets setting)) is typed happens =
      rests starts net old new past e w of leads (subst IsNoPoll (sym is) tt)
      (setting_joins (firsts starts) w.most old new net side setting e.answer w.joined typed happens.acts.0 happens.rests)
  by_kind net old new past e w of leads fit (OfHost side (Polls t budget)) is typed happens =
      polled starts net old new past e w of leads side t budget is happens (fit side)

  pub has_come : (history : List Entry) (hosts : Nodes) → IsInitialWorld starts → AreTyped history → WorldRun history (unused_both starts) hosts →
      HasCome starts (λ h n. AreWell starts history h n) history hosts
  has_come [] hosts initial typed is = record {
    net = first_net starts;
    steps = [];
    may = tt;
    ends = refl;
    of = subst (λ (h : Nodes). IsNetOf (first_net starts) h []) (sym is) (record { sockets = first_of starts; history = refl });
    joined = subst (λ (h : Nodes). AreWell starts [] h (first_net starts)) (sym is)
        (record { most = none_yet; joined = first_joined starts initial; few = λ side. omega arith; numbered = λ side. omega arith });
  }
  has_come (e ∷ past) hosts initial typed (before, ran, leads) =
      let came = has_come past before initial typed.1 ran in
      let next = by_kind came.net before hosts past e came.joined came.of leads (worlds_fit starts initial past before ran) (kind_of e.event) refl typed.0
      leads.happens in
      let c : Comes names came.net hosts (e ∷ past) = next.0 in
      record {
        net = c.next;
        steps = came.steps ++ c.steps;
        may = IsRun-append names (first_net starts) came.steps c.steps came.may (subst (λ (n : Net). IsRun names n c.steps) (sym came.ends) c.may);
        ends = run-append (first_net starts) came.steps c.steps ∙ ap (λ (n : Net). run n c.steps) came.ends ∙ c.ends;
        of = c.of;
        joined = next.1;
      }

  -- AN EVENT

  module _ (net : Net) (old new : Nodes) (past : List Entry) (e : Entry) (w : AreWell starts past old net) (of : IsNetOf net old past)
      (leads : Leads past old e new) (fit : AreFit old) (seen : (s : Side) → IsSeenAs (first starts s) ((node old s).host.inner)) (was : AreStill starts old)
      (all : AreStill starts new) where
    up : (s : Side) → instants starts old s ≤ℤ instants starts new s
    up s = (onward starts old new past e leads s).later

    rested : (quiet : IsNoPoll (kind_of e.event)) → AreAllHeld (first starts) (instants starts old) net (rest_comes net old new past e of quiet leads).steps (instants starts new)
    rested quiet = rest_held (first starts) net old new past e of seen (λ s. (was s).instant) (λ s. (all s).instant) up quiet leads

    kind_held : (k : Kind) (is : kind_of e.event ≡ k) (typed : IsTyped k) (happens : Happens old k e.answer e.found new) →
        AreAllHeld (first starts) (instants starts old) net (by_kind net old new past e w of leads fit k is typed happens).0.steps (instants starts new)
    unfolding by_kind plain rests polled
    kind_held (OfHost side (Calls i call)) is typed happens = rested (subst IsNoPoll (sym is) tt)
    kind_held (OfHost side (Opens n)) is typed happens = rested (subst IsNoPoll (sym is) tt)
    kind_held (OfHost side (Asks t)) is typed happens = rested (subst IsNoPoll (sym is) tt)
    kind_held (OfLink act) is typed happens = rested (subst IsNoPoll (sym is) tt)
    kind_held (OfHost side (Sets setting)) is typed happens = rested (subst IsNoPoll (sym is) tt)
    kind_held (OfHost side (Polls t budget)) is typed happens =
        let few = few_out starts net old new past e w of leads side t budget is happens in
        let pol = Polled.polled (firsts starts) w.most old new net past e w.joined of side t budget is few happens (alone_at old leads.alone side) (fit side) in
        let it = poll_settings (node old side) (node new side) t budget happens.acts.0 happens.acts.1 in
        let held = pol.held ((all side).paths, (all side).errors ∙ sym (was side).errors) in
        let now : instants starts new side ≡ t = it.now in
        all-at (first starts) side t (subst IsMoment now (all side).instant) (instants starts new) (no_later t (instants starts new side) (sym now)) (instants starts old) net
        pol.comes.steps (subst (λ (u : ℤ). instants starts old side ≤ℤ u) now (up side)) up
        (all_so (first starts side) ((node old side).host.inner) (seen side) t side net pol.comes.steps held)

  -- ALL EVENTS

  pub held_run : (history : List Entry) (hosts : Nodes) (initial : IsInitialWorld starts) (typed : AreTyped history) (still : StillRun starts history hosts) →
      AreAllHeld (first starts) at_zero (first_net starts) (has_come history hosts initial typed (ran starts history hosts still)).steps (instants starts hosts)
  unfolding has_come
  held_run [] hosts initial typed still = λ s. (still.1 s).instant.0
  held_run (e ∷ past) hosts initial typed (before, still, leads, all) =
      let run_before = ran starts past before still in
      let came = has_come past before initial typed.1 run_before in
      let fit = worlds_fit starts initial past before run_before in
      let next = by_kind came.net before hosts past e came.joined came.of leads fit (kind_of e.event) refl typed.0 leads.happens in
      all-append (first starts) at_zero (instants starts before) (first_net starts) came.steps next.0.steps (instants starts hosts) (held_run past before initial typed.1 still)
      (subst (λ (n : Net). AreAllHeld (first starts) (instants starts before) n next.0.steps (instants starts hosts)) (sym came.ends)
      (kind_held came.net before hosts past e came.joined came.of leads fit (seen_in_run starts past before still) (now_still starts past before still) all
      (kind_of e.event) refl typed.0 leads.happens))

  -- A LATER PART of the events is a later part of the steps
  next_steps : (past more : List Entry) (e : Entry) (hosts : Nodes) (initial : IsInitialWorld starts) (typed : AreTyped ((e ∷ more) ++ past)) (before : Nodes)
      (still : StillRun starts (more ++ past) before) (leads : Leads (more ++ past) before e hosts)
      → (steps : List Step) × ((all : AreStill starts hosts)
      → (has_come ((e ∷ more) ++ past) hosts initial typed (ran starts ((e ∷ more) ++ past) hosts (before, still, leads, all))).steps
      ≡ (has_come (more ++ past) before initial typed.1 (ran starts (more ++ past) before still)).steps ++ steps)
  unfolding has_come
  next_steps past more e hosts initial typed before still leads =
      let run_before = ran starts (more ++ past) before still in
      let came = has_come (more ++ past) before initial typed.1 run_before in
      let next = by_kind came.net before hosts (more ++ past) e came.joined came.of leads (worlds_fit starts initial (more ++ past) before run_before)
      (kind_of e.event) refl typed.0 leads.happens in
      (next.0.steps, λ all. refl)

  pub came_on : (past more : List Entry) (hosts : Nodes) (initial : IsInitialWorld starts) (typed : AreTyped (more ++ past))
      (still : StillRun starts (more ++ past) hosts)
      → (between : Nodes) × (typed_past : AreTyped past) × (was : StillRun starts past between) × (steps : List Step)
      × ((has_come (more ++ past) hosts initial typed (ran starts (more ++ past) hosts still)).steps
      ≡ (has_come past between initial typed_past (ran starts past between was)).steps ++ steps)
  came_on past [] hosts initial typed still = (hosts, typed, still, [], sym (append-nil _))
  came_on past (e ∷ more) hosts initial typed (before, still, leads, all) =
      let came = came_on past more before initial typed.1 still in
      let next = next_steps past more e hosts initial typed before still leads in (
        came.0,
        came.1,
        came.2,
        came.3 ++ next.0,
        next.1 all ∙ ap (λ (xs : List Step). xs ++ next.0) came.4
            ∙ append_assoc (has_come past came.0 initial came.1 (ran starts past came.0 came.2)).steps came.3 next.0,
      )

  pub runs_safe : IsInitialWorld starts → (history : List Entry) (hosts : Nodes) → AreTyped history → WorldRun history (unused_both starts) hosts
      → IsSafe (first_port starts) (net_of (record { hosts = hosts; starts = starts; history = history }))
  runs_safe initial history hosts typed ran = came_safe starts (λ h n. AreWell starts history h n) initial history hosts (has_come history hosts initial typed ran)
