-- Each event of a world whose hosts stay is plain moves of its host.
use Rattle.std.proofs.Common.{◌≡◌, inl, ℕ, suc, ◌^◌, ◌<◌, ◌≤◌, ℤ, ◌≤ℤ◌, Bool, ◌==◌, if◌then◌else◌, true, false, List, [], ◌∷◌, ◌++◌, append-nil, length, Option, Some, None}
use Rattle.std.proofs.Common.{refl, sym, ap, ◌∙◌, subst, arith}
use Rattle.std.specs.Prelude.{pos}
use Rattle.std.specs.List.{AllByRecursion, list_any}
use Rattle.std.proofs.lemmas.Int.{ints}
use Rattle.net_base.specs.Time.{IsMoment}
use Rattle.ip_wire.specs.Cidr.{cidr_address}
use Rattle.iface_ingress.specs.AddressTests.{is_loopback}
use Rattle.ip_wire.specs.HardwareAddress.{HardwareAddress}
use Rattle.ip_wire.specs.HardwareAddress.TheVariants as Hardware
use Rattle.ip_wire.specs.IpAddress.{IpAddress}
use Rattle.sim_link.specs.DeviceCapabilities.{DeviceCapabilities}
use Rattle.sim_link.specs.Medium.TheVariants as Medium
use Rattle.iface_tables.specs.Inner.{InnerValue}
use Rattle.iface_tables.specs.Settings.{is_mtu}
use Rattle.sockets.specs.Context.{ContextValue}
use Rattle.tcp_block.specs.Value.{TcpValue}
use Rattle.tcp_refinement.specs.Pair.Values.{context_on}
use Rattle.lan.specs.declared.at_link.history.event.Side.{Side}
use Rattle.lan.specs.declared.at_link.history.event.Side.TheVariants.{A, B}
use Rattle.lan.specs.Worlds.AtLink.Call.{SocketCall}
use Rattle.lan.specs.Worlds.AtLink.Initial.{IsInitialWorld}
use Rattle.lan.specs.Worlds.AtLink.History.{Entry}
use Rattle.lan.specs.Worlds.AtLink.Kinds.{Kind, LinkAct, kind_of, other, same_side}
use Rattle.lan.specs.Worlds.AtLink.Kinds.Act.{Asks, Calls, Opens, Polls, Sets}
use Rattle.lan.specs.Worlds.AtLink.Kinds.Kind.{OfHost, OfLink}
use Rattle.lan.specs.Worlds.AtLink.Kinds.LinkAct.{Cuts, Hands}
use Rattle.lan.specs.Worlds.AtLink.Moves.{IsNoCall, IsRun, May, Move, Step, after, history_after, run}
use Rattle.lan.specs.Worlds.AtLink.Moves.Move.{Invokes, Passes, Offers, Gives, Takes, Receives, Resets, Changes}
use Rattle.lan.specs.Worlds.AtLink.Origins.{goes_to, medium_of}
use Rattle.lan.specs.Worlds.AtLink.PacketsSafe.{IsInitialParty}
use Rattle.lan.specs.Worlds.AtLink.Paired.{AreHosted, Seat, at_zero, clock_after, clocks_after, clocks_in, if_at, shown_to}
use Rattle.lan.specs.Worlds.AtLink.Parties.{Net, party, socket_at}
use Rattle.lan.specs.Worlds.AtLink.Parties.Socket.{Tcp}
use Rattle.lan.specs.Worlds.AtLink.Port.{LinkEnd}
use Rattle.lan.specs.Worlds.AtLink.Runs.{Leads, Starts, WorldRun, start, unused_both}
use Rattle.lan.specs.Worlds.AtLink.Node.{NodeValue, Nodes, node, with_link, with_node}
use Rattle.lan.specs.Worlds.AtLink.Steps.{ActsAt, Happens, linked}
use Rattle.lan.specs.Worlds.Events.{AreTyped, IsTyped}
use Rattle.lan.specs.Worlds.Joins.{AreJoined, IsPlain}
use Rattle.lan.specs.Worlds.Link.Frames.{Outgoing}
use Rattle.lan.specs.Worlds.Link.Numbers.{AreFew, count_numbered}
use Rattle.lan.specs.Worlds.Moves.Fit.{AreFit}
use Rattle.lan.specs.Worlds.Moves.Follows.{Comes, IsNetOf, sockets_of}
use Rattle.lan.specs.Worlds.Moves.Joined.{first_net}
use Rattle.lan.specs.Worlds.Still.{AreStill, StillRun, seats_of}
use Rattle.lan.proofs.Worlds.Acts.{joins_grow}
use Rattle.lan.proofs.Worlds.AtLink.Extended.{IsRun-append, run-append}
use Rattle.lan.proofs.Worlds.AtLink.Growing.{happens_stays}
use Rattle.lan.proofs.Worlds.Beginnings.{first_joined, firsts, none_yet}
use Rattle.lan.proofs.Worlds.Events.{plain_joins}
use Rattle.lan.proofs.Worlds.Hosts.Calling.{call_quiet, setting_quiet}
use Rattle.lan.proofs.Worlds.Hosts.Polling.{polled as poll_settings}
use Rattle.lan.proofs.Worlds.Link.Sufficient.{numbers_grow, polled_few}
use Rattle.lan.proofs.Worlds.Moves.Calls.{IsCalled, names}
use Rattle.lan.proofs.Worlds.Moves.Events.{call_comes, call_steps, still_comes, still_steps}
use Rattle.lan.proofs.Worlds.Moves.Fits.{worlds_fit}
use Rattle.lan.proofs.Worlds.Moves.Frames.{answered_narrowed, left_narrowed}
use Rattle.lan.proofs.Worlds.Moves.Held.{AreHeld, IsHeld, IsSeenAs, IsShownAt, Stays, all_so, hosts_same}
use Rattle.lan.proofs.Worlds.Moves.Leave.{let_narrowed}
use Rattle.lan.proofs.Worlds.Moves.Nets.{either_side, step_of}
use Rattle.lan.specs.Worlds.Moves.HopLimit.{KnowsHop}
use Rattle.lan.proofs.Worlds.Moves.Worlds.{first_of, initial_net}
use Rattle.lan.proofs.Worlds.Alone.{alone_at}
use Rattle.lan.proofs.Worlds.PolledJoins as Polled
use Rattle.lan.proofs.Worlds.Runs.{AreWell, numbered_by}
use Rattle.lan.proofs.Worlds.Settings.{setting_joins}
use Rattle.lan.proofs.Worlds.StillOnward.{first, instants, now_still, onward, ran, seen_in_run}
use Rattle.lan.proofs.Worlds.StillPlain.{plain_run}
use Rattle.lan.proofs.Worlds.StillSources.{PairKeeps}
use Rattle.lan.proofs.Worlds.StillSteps.{AreAllHeld, all-append, all-at, one-held, raised}
use Rattle.lan.specs.Worlds.Still.{host_in}
use Rattle.proof_stack.proofs.SentOff.{all_sent_off, all_sent_to, is_ip, mtu_least}
use Rattle.proof_stack.specs.Progress.KnownHopLimit.{AreSentTo, KnowsThroughout}
use Rattle.proof_stack.specs.Progress.Events.{AreGone, AreOfEvent, AreSentOff, AreTaken, IsOfPoll, MoveBy, MoveByEvents, all_at, clock_in, shown_by, shown_in, untimed}

-- WHAT CLOCKS SHOW

-- one host was told an instant
told_one : (shows showed : Side → ℤ) (side : Side) (t : ℤ) → shows side ≡ t → shows (other side) ≡ showed (other side) → (s : Side) →
    shows s ≡ (if same_side side s then t else showed s)
told_one shows showed A t this that A = this
told_one shows showed A t this that B = that
told_one shows showed B t this that A = that
told_one shows showed B t this that B = this

end_same : (hosts : Nodes) (side : Side) (end : LinkEnd) (s : Side) →
    (node (with_node hosts side (with_link (node hosts side) end)) s).host.inner.instant ≡ (node hosts s).host.inner.instant
end_same hosts A end A = refl
end_same hosts A end B = refl
end_same hosts B end A = refl
end_same hosts B end B = refl

link_same : (hosts : Nodes) (act : LinkAct) (s : Side) → (node (linked hosts act) s).host.inner.instant ≡ (node hosts s).host.inner.instant
link_same hosts (Hands origin) s = end_same hosts (goes_to origin) _ s
link_same hosts (Cuts from k at) s = end_same hosts from _ s

end_slots : (hosts : Nodes) (side : Side) (end : LinkEnd) (s : Side) →
    sockets_of (node (with_node hosts side (with_link (node hosts side) end)) s).slots ≡ sockets_of (node hosts s).slots
end_slots hosts A end A = refl
end_slots hosts A end B = refl
end_slots hosts B end A = refl
end_slots hosts B end B = refl

link_slots : (hosts : Nodes) (act : LinkAct) (s : Side) → sockets_of (node (linked hosts act) s).slots ≡ sockets_of (node hosts s).slots
link_slots hosts (Hands origin) s = end_slots hosts (goes_to origin) _ s
link_slots hosts (Cuts from k at) s = end_slots hosts from _ s

instant_of : NodeValue → ℤ
instant_of s = s.host.inner.instant

module _ (starts : Starts) where
  module _ (old new : Nodes) (e : Entry) where
    module _ (side : Side) (rests : node new (other side) ≡ node old (other side)) where
      same_instants : instants starts new side ≡ instants starts old side → (s : Side) → instants starts new s ≡ instants starts old s
      same_instants same =
          either_side side (λ s. instants starts new s ≡ instants starts old s) same (ap (λ (x : NodeValue). x.host.inner.instant) rests)

      told_instant : (t : ℤ) → instants starts new side ≡ t → (s : Side) → instants starts new s ≡ (if same_side side s then t else instants starts old s)
      told_instant t told = told_one (instants starts new) (instants starts old) side t told (ap (λ (x : NodeValue). x.host.inner.instant) rests)

    kind_shows : (k : Kind) → Happens old k e.answer e.found new → (s : Side) → instants starts new s ≡ shown_by k s (instants starts old s)
    kind_shows (OfHost side (Calls i call)) acts =
        same_instants side acts.rests (call_quiet (node old side) (node new side) i call e.answer e.found acts.acts).clock.instant
    kind_shows (OfHost side (Sets setting)) acts =
        same_instants side acts.rests (setting_quiet (node old side) (node new side) setting e.answer acts.acts.0).clock.instant
    kind_shows (OfHost side (Opens n)) acts = same_instants side acts.rests (ap (λ (x : NodeValue). x.host.inner.instant) acts.acts.2)
    kind_shows (OfHost side (Asks t)) acts = told_instant side acts.rests t (ap (λ (x : NodeValue). x.host.inner.instant) acts.acts.2)
    kind_shows (OfHost side (Polls t budget)) acts =
        told_instant side acts.rests t (poll_settings (node old side) (node new side) t budget acts.acts.0 acts.acts.1).now
    kind_shows (OfLink act) acts = λ s. ap (λ (h : Nodes). instants starts h s) acts.2 ∙ link_same old act s

  shown_first : (s : Side) → instants starts (unused_both starts) s ≡ (start starts s).host.inner.instant
  shown_first A = refl
  shown_first B = refl

  -- the clocks of both hosts after a history
  pub shows : (history : List Entry) (hosts : Nodes) → WorldRun history (unused_both starts) hosts → (s : Side) →
      instants starts hosts s ≡ shown_in starts history s
  shows [] hosts is s = ap (λ (h : Nodes). instants starts h s) is ∙ shown_first s
  shows (e ∷ past) hosts (before, was, leads) s =
      kind_shows before hosts e (kind_of e.event) leads.happens s ∙ ap (shown_by (kind_of e.event) s) (shows past before was s)

-- THE MOVES OF A POLL: of those that are kept in the history it is the only one

abbrev entry_of : Move → Option Entry
entry_of (Invokes at cx old entry call new) = Some entry
entry_of (Passes entry) = Some entry
entry_of move = None

abbrev and_entry : Option Entry → List Entry → List Entry
and_entry None history = history
and_entry (Some entry) history = entry ∷ history

entered : (history : List Entry) (move : Move) → history_after history move ≡ and_entry (entry_of move) history
entered history (Invokes at cx old entry call new) = refl
entered history (Passes entry) = refl
entered history (Offers at cx v from sent) = refl
entered history (Gives at cx v answer new sent) = refl
entered history (Takes at cx v ip header bytes) = refl
entered history (Receives at cx v ip udp bytes) = refl
entered history (Resets x) = refl
entered history (Changes at old new) = refl

no_shorter : (o : Option Entry) (history : List Entry) → length history ≤ length (and_entry o history)
no_shorter None history = omega arith
no_shorter (Some entry) history = omega arith

longer : (net : Net) (steps : List Step) → length net.history ≤ length (run net steps).history
longer net [] = omega arith
longer net (step ∷ steps) =
    let rest : length (after net step).history ≤ length (run (after net step) steps).history = longer (after net step) steps in
    let more : length net.history ≤ length (and_entry (entry_of step.move) net.history) = no_shorter (entry_of step.move) net.history in
    let same : length (after net step).history ≡ length (and_entry (entry_of step.move) net.history) =
    ap (λ (h : List Entry). length h) (entered net.history step.move) in
    omega (arith, rest, more, same)

module _ (i : InnerValue) (t : ℤ) (side : Side) (e : Entry) (budget : ℕ) (is : kind_of e.event ≡ OfHost side (Polls t budget)) where
  abbrev IsItsMove : Step → Type 0
  IsItsMove step = (step.side ≡ side) × IsOfPoll e t step.move

  one_move : (net : Net) (s : Side) (move : Move) → May names net s move → IsHeld i t net side move → ((x : Entry) → entry_of move ≡ Some x → x ≡ e) →
      IsOfPoll e t move
  one_move net s (Invokes at cx old entry call new) may held only =
      let clash : OfHost side (Polls t budget) ≡ OfHost s (Calls at call) = sym is ∙ ap (λ (x : Entry). kind_of x.event) (sym (only entry refl)) ∙ may.1 in
      absurd cc
  one_move net s (Passes entry) may held only = only entry refl
  one_move net s (Offers at cx v from sent) may held only = ap (λ (c : ContextValue). c.instant) held.0
  one_move net s (Gives at cx v answer new sent) may held only = tt
  one_move net s (Takes at cx v ip header bytes) may held only = ap (λ (c : ContextValue). c.instant) held.0
  one_move net s (Receives at cx v ip udp bytes) may held only = tt
  one_move net s (Resets x) may held only = absurd held
  one_move net s (Changes at old new) may held only = absurd held

  no_entry : (o : Option Entry) → o ≡ None → (x : Entry) → o ≡ Some x → x ≡ e
  no_entry o none x some = absurd (let clash : None ≡ Some x = sym none ∙ some in cc)

  -- where no more is kept nothing is
  none_kept : (net : Net) (steps : List Step) → IsRun names net steps → AreHeld i t side net steps → length (run net steps).history ≤ length net.history →
      ((run net steps).history ≡ net.history) × AllByRecursion IsItsMove steps
  none_kept net [] may held most = (refl, tt)
  none_kept net (step ∷ steps) may held most =
      by (λ fewer. none_kept (after net step) steps may.1 held.1 fewer) (entry_of step.move) refl
    where
      by : (length (run (after net step) steps).history ≤ length (after net step).history
          → ((run (after net step) steps).history ≡ (after net step).history) × AllByRecursion IsItsMove steps)
          → (o : Option Entry) → entry_of step.move ≡ o → ((run (after net step) steps).history ≡ net.history) × AllByRecursion IsItsMove (step ∷ steps)
      by onward None none =
          let same : (after net step).history ≡ net.history = entered net.history step.move ∙ ap (λ (o : Option Entry). and_entry o net.history) none in
          let rest = onward (subst (λ (h : List Entry). length (run (after net step) steps).history ≤ length h) (sym same) most) in
          (rest.0 ∙ same, ((held.0.0, one_move net step.side step.move may.0 held.0.1 (no_entry (entry_of step.move) none)), rest.1))
      by onward (Some x) some =
          let same : length (after net step).history ≡ suc (length net.history) =
          ap (λ (h : List Entry). length h) (entered net.history step.move ∙ ap (λ (o : Option Entry). and_entry o net.history) some) in
          let up = longer (after net step) steps in
          absurd (omega (arith, same, up, most))

  -- where one more is kept it is that one
  one_kept : (net : Net) (steps : List Step) → IsRun names net steps → AreHeld i t side net steps → (run net steps).history ≡ e ∷ net.history →
      AllByRecursion IsItsMove steps
  one_kept net [] may held kept = tt
  one_kept net (step ∷ steps) may held kept =
      by (λ rest. one_kept (after net step) steps may.1 held.1 rest) (entry_of step.move) refl
    where
      by : ((run (after net step) steps).history ≡ e ∷ (after net step).history → AllByRecursion IsItsMove steps) → (o : Option Entry) → entry_of step.move ≡ o
          → AllByRecursion IsItsMove (step ∷ steps)
      by onward None none =
          let same : (after net step).history ≡ net.history = entered net.history step.move ∙ ap (λ (o : Option Entry). and_entry o net.history) none in (
            (held.0.0, one_move net step.side step.move may.0 held.0.1 (no_entry (entry_of step.move) none)),
            onward (kept ∙ ap (λ (h : List Entry). e ∷ h) (sym same)),
          )
      by onward (Some x) some =
          let same : (after net step).history ≡ x ∷ net.history = entered net.history step.move ∙ ap (λ (o : Option Entry). and_entry o net.history) some in
          let most : length (run (after net step) steps).history ≤ length (after net step).history =
          (let a = ap (λ (h : List Entry). length h) same in let b = ap (λ (h : List Entry). length h) kept in omega (arith, a, b)) in
          let rest = none_kept (after net step) steps may.1 held.1 most in
          let its : x ∷ net.history ≡ e ∷ net.history = sym same ∙ sym rest.0 ∙ kept in
          let it : x ≡ e = cc in
          let only : (y : Entry) → entry_of step.move ≡ Some y → y ≡ e = λ y is. (let one : Some x ≡ Some y = sym some ∙ is in let two : x ≡ y = cc in sym two ∙ it) in
          ((held.0.0, one_move net step.side step.move may.0 held.0.1 only), rest.1)

-- ONE EVENT

no_earlier : (t : ℤ) → t ≤ℤ t
no_earlier t = omega (arith, ints)

no_later : (a b : ℤ) → a ≡ b → a ≤ℤ b
no_later a b is = omega (arith, ints, is)

-- one side's number exchanged
abbrev exchanged : (Side → ℕ) → Side → ℕ → Side → ℕ
exchanged most side n s = if same_side side s then n else most s

exchanged_here : (most : Side → ℕ) (side : Side) (n : ℕ) → exchanged most side n side ≡ n
exchanged_here most A n = refl
exchanged_here most B n = refl

exchanged_there : (most : Side → ℕ) (side : Side) (n : ℕ) → exchanged most side n (other side) ≡ most (other side)
exchanged_there most A n = refl
exchanged_there most B n = refl

-- the moves of an event, and what holds of the hosts and the net after it
record Goes (starts : Starts) (past : List Entry) (old : Nodes) (e : Entry) (new : Nodes) (net : Net) : Type 0 where
  pub comes : Comes names net new (e ∷ past)
  pub well : AreWell starts (e ∷ past) new comes.next
  pub held : AreAllHeld (first starts) (instants starts old) net comes.steps (instants starts new)
  pub are : AreOfEvent e (kind_of e.event) (shown_in starts past) comes.steps
  pub sent_off : AreSentOff (kind_of e.event) new comes.steps
  pub sent_to : AreSentTo (kind_of e.event) old new comes.steps
  pub taken : AreTaken (kind_of e.event) old new net comes.steps
  pub went : AreGone (kind_of e.event) old new comes.steps

module _ (starts : Starts) (initial : IsInitialWorld starts) (past : List Entry) (old new : Nodes) (e : Entry) (still : StillRun starts past old)
    (leads : Leads past old e new) (typed : IsTyped (kind_of e.event)) (all : AreStill starts new) (net : Net) (w : AreWell starts past old net)
    (of : IsNetOf net old past) where
  abbrev before : Side → ℤ
  before = instants starts old

  abbrev following : Side → ℤ
  following = instants starts new

  was : AreStill starts old
  was = now_still starts past old still

  seen : (s : Side) → IsSeenAs (first starts s) (node old s).host.inner
  seen = seen_in_run starts past old still

  up : (s : Side) → before s ≤ℤ following s
  up s = (onward starts old new past e leads s).later

  showed : (s : Side) → before s ≡ shown_in starts past s
  showed = shows starts past old (ran starts past old still)

  grows : (side : Side) → w.most side ≤ numbered_by (e ∷ past) new side
  grows side = let so_far = w.numbered side in let more = numbers_grow past e old new side leads in omega (arith, so_far, more)

  fit : AreFit old
  fit = worlds_fit starts initial past old (ran starts past old still)

  -- a SYN of IPv6 fits a frame
  first_enough : (s : Side) → is_mtu (first starts s).mtu ≡ true
  first_enough A = initial.a.mtu
  first_enough B = initial.b.mtu

  enough : (s : Side) → 80 ≤ (node old s).host.inner.mtu
  enough s = let same = (seen s).mtu in let least = mtu_least (first starts s).mtu (first_enough s) in omega (arith, same, least)

  -- that is no poll
  rests_well : (c : Comes names net new (e ∷ past)) → AreJoined (firsts starts) w.most new net → AreWell starts (e ∷ past) new c.next
  rests_well c joined =
      record { most = w.most; joined = joins_grow (firsts starts) w.most new net c.next c.grows joined; few = w.few; numbered = grows }

  abbrev Held : List Step → Type 0
  Held steps = AreAllHeld (first starts) before net steps following

  -- that moves no socket
  passes : (k : Kind) → kind_of e.event ≡ k → IsNoCall k → ((steps : List Step) → (side : Side) × (steps ≡ step_of side (Passes e) ∷ []) →
      AreOfEvent e k (shown_in starts past) steps) → ((steps : List Step) → AreSentOff k new steps) → ((steps : List Step) → AreSentTo k old new steps) → ((steps : List Step) → AreTaken k old new net steps) → ((steps : List Step) → AreGone k old new steps)
      → ((s : Side) → sockets_of (node new s).slots ≡ sockets_of (node old s).slots) → AreJoined (firsts starts) w.most new net → Goes starts past old e new net
  passes k is none as_its no_poll none_to none_taken none_gone same joined =
      let i0 = (node old A).host.inner in
      let none_there = subst IsNoCall (sym is) none in
      let c = still_comes i0 (pos 0) net old new past e of none_there same in
      let steps : c.steps ≡ step_of A (Passes e) ∷ [] = still_steps i0 (pos 0) net old new past e of none_there same in
      record {
        comes = c;
        well = rests_well c joined;
        held = subst Held (sym steps) (one-held (first starts) before net (step_of A (Passes e)) following (following A) (all A).instant (up A) (no_earlier (following A)) up tt);
        are = subst (λ (x : Kind). AreOfEvent e x (shown_in starts past) c.steps) (sym is) (as_its c.steps (A, steps));
        sent_off = subst (λ (x : Kind). AreSentOff x new c.steps) (sym is) (no_poll c.steps);
        sent_to = subst (λ (x : Kind). AreSentTo x old new c.steps) (sym is) (none_to c.steps);
        taken = subst (λ (x : Kind). AreTaken x old new net c.steps) (sym is) (none_taken c.steps);
        went = subst (λ (x : Kind). AreGone x old new c.steps) (sym is) (none_gone c.steps);
      }

  plain : IsPlain (kind_of e.event) → AreJoined (firsts starts) w.most new net
  plain is = plain_joins (firsts starts) w.most old new net w.joined past e is typed leads

  module _ (side : Side) (rests : node new (other side) ≡ node old (other side)) where
    same_sockets : sockets_of (node new side).slots ≡ sockets_of (node old side).slots → (s : Side) →
        sockets_of (node new s).slots ≡ sockets_of (node old s).slots
    same_sockets same =
        either_side side (λ s. sockets_of (node new s).slots ≡ sockets_of (node old s).slots) same (ap (λ (x : NodeValue). sockets_of x.slots) rests)

  -- a call
  module _ (side : Side) (i : ℕ) (call : SocketCall) (is : kind_of e.event ≡ OfHost side (Calls i call)) (acts : ActsAt old side (Calls i call) e.answer e.found new) where
    shown_so : (c : IsCalled (node old side).host.inner (party net side) (node new side).slots i call e.answer e.found) →
        IsShownAt (first starts side) (before side) c.cx
    shown_so c =
        let i0 = (node old side).host.inner in
        c.shown ∙ (λ k. context_on (hosts_same (first starts side) i0 (seen side) k) i0.instant i0.random)
        ∙ ap (λ (cx : ContextValue). context_on (host_in (first starts side)) i0.instant cx.random) (sym c.shown)

    invokes : Goes starts past old e new net
    invokes =
        let c = call_comes net old new past e side i call of is leads.allowed acts in
        let one = call_steps net old new past e side i call of is leads.allowed acts in
        let called : IsCalled (node old side).host.inner (party net side) (node new side).slots i call e.answer e.found = one.0 in
        let move : Move = Invokes i called.cx called.old e call called.new in
        let its : AreOfEvent e (OfHost side (Calls i call)) (shown_in starts past) c.steps =
        (move, one.1, (refl, refl, refl, ap (λ (x : ContextValue). x.instant) called.shown ∙ showed side)) in
        record {
          comes = c;
          well = rests_well c (plain (subst IsPlain (sym is) tt));
          held = subst Held (sym one.1) (one-held (first starts) before net (step_of side move) following (before side) (was side).instant
              (no_earlier (before side)) (up side) up (shown_so called));
          are = subst (λ (x : Kind). AreOfEvent e x (shown_in starts past) c.steps) (sym is) its;
          sent_off = subst (λ (x : Kind). AreSentOff x new c.steps) (sym is) tt;
          sent_to = subst (λ (x : Kind). AreSentTo x old new c.steps) (sym is) tt;
          taken = subst (λ (x : Kind). AreTaken x old new net c.steps) (sym is) tt;
          went = subst (λ (x : Kind). AreGone x old new c.steps) (sym is) tt;
        }

  -- a poll
  module _ (side : Side) (t : ℤ) (budget : ℕ) (is : kind_of e.event ≡ OfHost side (Polls t budget)) (acts : ActsAt old side (Polls t budget) e.answer e.found new) where
    few_out : AreFew (w.joined.out (other side))
    few_out = let a = w.joined.counted (other side) in let b = w.few (other side) in omega (arith, a, b)

    abbrev out_after : List Outgoing
    out_after = (Polled.linked_after (firsts starts) w.most old new net past e w.joined of side t budget is few_out acts (alone_at old leads.alone side) (fit side)).out

    abbrev most_after : Side → ℕ
    most_after = exchanged w.most side (count_numbered out_after)

    all_few : AreFew out_after → (x : Side) → most_after x < 2 ^ 16
    all_few few = either_side side (λ x. most_after x < 2 ^ 16) (omega (arith, few, exchanged_here w.most side (count_numbered out_after)))
        (let b = w.few (other side) in omega (arith, b, exchanged_there w.most side (count_numbered out_after)))

    all_numbered : count_numbered out_after ≤ numbered_by (e ∷ past) new side → (x : Side) → most_after x ≤ numbered_by (e ∷ past) new x
    all_numbered more = either_side side (λ x. most_after x ≤ numbered_by (e ∷ past) new x) (omega (arith, more, exchanged_here w.most side (count_numbered out_after)))
        (let b = grows (other side) in omega (arith, b, exchanged_there w.most side (count_numbered out_after)))

    suffice : AreFew out_after × (count_numbered out_after ≤ numbered_by (e ∷ past) new side)
    suffice =
        let after_it = Polled.linked_after (firsts starts) w.most old new net past e w.joined of side t budget is few_out acts (alone_at old leads.alone side) (fit side) in
        let so_far : count_numbered (w.joined.out side) ≤ numbered_by past old side =
        (let a = w.joined.counted side in let b = w.numbered side in omega (arith, a, b)) in
        polled_few past e old new side leads t budget is (w.joined.out side) out_after so_far after_it.count
        (Polled.tied_after (firsts starts) w.most old new net past e w.joined of side t budget is few_out acts (alone_at old leads.alone side) (fit side))

    polls : Goes starts past old e new net
    polls =
        let pol = Polled.polled (firsts starts) w.most old new net past e w.joined of side t budget is few_out acts (alone_at old leads.alone side) (fit side) in
        let c : Comes names net new (e ∷ past) = pol.comes in
        let now : following side ≡ t = (poll_settings (node old side) (node new side) t budget acts.acts.0 acts.acts.1).now in
        let held : AreHeld (node old side).host.inner t side net c.steps = pol.held ((all side).paths, (all side).errors ∙ sym (was side).errors) in
        let kept : (run net c.steps).history ≡ e ∷ net.history =
        ap (λ (n : Net). n.history) c.ends ∙ c.of.history ∙ ap (λ (h : List Entry). e ∷ h) (sym of.history) in
        let i0 : InnerValue = (node old side).host.inner in
        let Knows : IpAddress → HardwareAddress → Type 0 = KnowsThroughout t (node old side) (node new side) in
        let Knew : IpAddress → HardwareAddress → Type 0 = KnowsHop i0 t pol.frames.taken (node new side).host.inner in
        let knew : (remote : IpAddress) (to : HardwareAddress) → Knows remote to → Knew remote to = λ remote to knows. knows pol.frames.taken pol.waited in
        let goes_to : AreSentTo (OfHost side (Polls t budget)) old new c.steps =
        λ leave. all_sent_to i0 t Knows (enough side) side net c.steps held
        (let_narrowed i0 t Knew Knows knew c.steps (pol.was_sent ((all side).paths, (all side).errors ∙ sym (was side).errors) leave)) in
        let on_ip : medium_of (node new side) ≡ Medium.Ip → i0.hardware ≡ Hardware.Ip =
        λ ip. is_ip i0.hardware (sym (w.joined.device side) ∙ sym (ap (λ (c : DeviceCapabilities). c.medium)
        (happens_stays old new (OfHost side (Polls t budget)) e.answer e.found side acts).link.capabilities) ∙ ip) in
        let goes_off : AreSentOff (OfHost side (Polls t budget)) new c.steps =
        λ leave ip. all_sent_off Knows Hardware.Ip (λ remote frames waited. inl (on_ip ip, refl)) c.steps (goes_to leave) in
        let its : AreOfEvent e (OfHost side (Polls t budget)) (shown_in starts past) c.steps =
        one_kept (node old side).host.inner t side e budget is net c.steps c.may held kept in
        record {
          comes = c;
          well = record {
            most = most_after;
            joined = Polled.polled_joins (firsts starts) w.most old new net past e w.joined of side t budget is few_out acts (alone_at old leads.alone side) (fit side) most_after
                (omega (arith, exchanged_there w.most side (count_numbered out_after))) (omega (arith, exchanged_here w.most side (count_numbered out_after)));
            few = all_few suffice.0;
            numbered = all_numbered suffice.1;
          };
          held = all-at (first starts) side t (subst IsMoment now (all side).instant) following (no_later t (following side) (sym now)) before net c.steps
              (subst (λ (u : ℤ). before side ≤ℤ u) now (up side)) up
              (all_so (first starts side) (node old side).host.inner (seen side) t side net c.steps held);
          are = subst (λ (x : Kind). AreOfEvent e x (shown_in starts past) c.steps) (sym is) its;
          sent_off = subst (λ (x : Kind). AreSentOff x new c.steps) (sym is) goes_off;
          sent_to = subst (λ (x : Kind). AreSentTo x old new c.steps) (sym is) goes_to;
          taken = subst (λ (x : Kind). AreTaken x old new net c.steps) (sym is) (pol.frames.taken, pol.waited, pol.took);
          went = subst (λ (x : Kind). AreGone x old new c.steps) (sym is) (
            pol.frames.gone,
            pol.are_sent,
            left_narrowed i0 t (Stays i0 (node new side).host.inner) ((node new side).host.inner.paths ≡ []) Knew Knows pol.frames.gone
                (λ none. (none, (all side).errors ∙ sym (was side).errors)) knew c.steps pol.left,
            λ leave. answered_narrowed i0 Knew Knows pol.frames.gone knew c.steps (pol.answered leave),
          );
        }

  by_kind : (k : Kind) → kind_of e.event ≡ k → IsTyped k → Happens old k e.answer e.found new → Goes starts past old e new net
  by_kind (OfHost side (Calls i call)) is so acts = invokes side i call is acts
  by_kind (OfHost side (Sets setting)) is so acts =
      passes (OfHost side (Sets setting)) is tt (λ steps its. its) (λ steps. tt) (λ steps. tt) (λ steps. tt) (λ steps. tt)
      (same_sockets side acts.rests (ap (λ (x : NodeValue). sockets_of x.slots) acts.acts.0.3))
      (setting_joins (firsts starts) w.most old new net side setting e.answer w.joined so acts.acts.0 acts.rests)
  by_kind (OfHost side (Opens n)) is so acts =
      passes (OfHost side (Opens n)) is tt (λ steps its. its) (λ steps. tt) (λ steps. tt) (λ steps. tt) (λ steps. tt)
      (same_sockets side acts.rests (ap (λ (x : NodeValue). sockets_of x.slots) acts.acts.2)) (plain (subst IsPlain (sym is) tt))
  by_kind (OfHost side (Asks t)) is so acts =
      passes (OfHost side (Asks t)) is tt (λ steps its. its) (λ steps. tt) (λ steps. tt) (λ steps. tt) (λ steps. tt)
      (same_sockets side acts.rests (ap (λ (x : NodeValue). sockets_of x.slots) acts.acts.2)) (plain (subst IsPlain (sym is) tt))
  by_kind (OfHost side (Polls t budget)) is so acts = polls side t budget is acts
  by_kind (OfLink act) is so acts =
      passes (OfLink act) is tt (λ steps its. its) (λ steps. tt) (λ steps. tt) (λ steps. tt) (λ steps. tt)
      (λ s. ap (λ (h : Nodes). sockets_of (node h s).slots) acts.2 ∙ link_slots old act s) (plain (subst IsPlain (sym is) tt))

  goes : Goes starts past old e new net
  goes = by_kind (kind_of e.event) refl typed leads.happens

-- ALL EVENTS

pub untimed_append : (xs : List (ℤ × Step)) (t : ℤ) (steps : List Step) → untimed (xs ++ all_at t steps) ≡ untimed xs ++ steps
untimed_append [] t [] = refl
untimed_append [] t (step ∷ steps) = ap (λ (ss : List Step). step ∷ ss) (untimed_append [] t steps)
untimed_append (x ∷ xs) t steps = ap (λ (ss : List Step). x.1 ∷ ss) (untimed_append xs t steps)

-- what moves of later events lead to, from a net of the hosts between
record Went (starts : Starts) (past : List Entry) (between : Nodes) (net : Net) (more : List Entry) (hosts : Nodes)
    (still : StillRun starts (more ++ past) hosts) : Type 0 where
  pub moves : List (ℤ × Step)
  pub may : IsRun names net (untimed moves)
  pub of : IsNetOf (run net (untimed moves)) hosts (more ++ past)
  pub well : AreWell starts (more ++ past) hosts (run net (untimed moves))
  pub held : AreAllHeld (first starts) (instants starts between) net (untimed moves) (instants starts hosts)
  pub by_events : MoveBy starts net past more hosts still moves

run_rest : (names : List ℕ → Bool) (net : Net) (steps more : List Step) → IsRun names net (steps ++ more) → IsRun names (run net steps) more
run_rest names net [] more may = may
run_rest names net (step ∷ steps) more may = run_rest names (after net step) steps more may.1

hosted_rest : (seats : Side → Seat) (clocks : Side → ℤ) (net : Net) (steps more : List Step) → AreHosted seats clocks net (steps ++ more) →
    AreHosted seats (clocks_in seats clocks steps) (run net steps) more
hosted_rest seats clocks net [] more are = are
hosted_rest seats clocks net (step ∷ steps) more are = hosted_rest seats (clocks_after seats clocks step) (after net step) steps more are.2

module _ (starts : Starts) (initial : IsInitialWorld starts) where
  -- one event more
  module _ (past : List Entry) (between : Nodes) (net : Net) (more : List Entry) (e : Entry) (old new : Nodes) (still : StillRun starts (more ++ past) old)
      (leads : Leads (more ++ past) old e new) (typed : IsTyped (kind_of e.event)) (all : AreStill starts new) (so_far : Went starts past between net more old still) where
    abbrev mid : Net
    mid = run net (untimed so_far.moves)

    then_on : Went starts past between net (e ∷ more) new (old, still, leads, all)
    then_on =
        let one = goes starts initial (more ++ past) old new e still leads typed all mid so_far.well so_far.of in
        let these : List Step = one.comes.steps in
        let t : ℤ = clock_in (e ∷ more ++ past) in
        let steps : untimed (so_far.moves ++ all_at t these) ≡ untimed so_far.moves ++ these = untimed_append so_far.moves t these in
        let ends : one.comes.next ≡ run mid these = sym one.comes.ends in
        let all_ends : run mid these ≡ run net (untimed (so_far.moves ++ all_at t these)) =
        sym (run-append net (untimed so_far.moves) these) ∙ ap (run net) (sym steps) in
        record {
          moves = so_far.moves ++ all_at t these;
          may = subst (IsRun names net) (sym steps) (IsRun-append names net (untimed so_far.moves) these so_far.may one.comes.may);
          of = subst (λ (n : Net). IsNetOf n new (e ∷ more ++ past)) (ends ∙ all_ends) one.comes.of;
          well = subst (λ (n : Net). AreWell starts (e ∷ more ++ past) new n) (ends ∙ all_ends) one.well;
          held = subst (λ (ss : List Step). AreAllHeld (first starts) (instants starts between) net ss (instants starts new)) (sym steps)
              (all-append (first starts) (instants starts between) (instants starts old) net (untimed so_far.moves) these (instants starts new) so_far.held one.held);
          by_events = (
            so_far.moves,
            these,
            refl,
            so_far.by_events,
            record { are = one.are; sent_off = one.sent_off; sent_to = one.sent_to; taken = one.taken; went = one.went; may = one.comes.may; of = subst (λ (n : Net). IsNetOf n new (e ∷ more ++ past)) ends one.comes.of },
          );
        }

  -- a net of the hosts after some events
  record At (history : List Entry) (hosts : Nodes) : Type 0 where
    pub net : Net
    pub of : IsNetOf net hosts history
    pub well : AreWell starts history hosts net

  -- the hosts between, and the moves from there on
  module _ (past : List Entry) (base : (between : Nodes) → AreTyped past → StillRun starts past between → At past between) where
    abbrev From : Nodes → AreTyped past → (more : List Entry) (hosts : Nodes) → StillRun starts (more ++ past) hosts → Type 0
    From between typed more hosts still = (was : StillRun starts past between) × Went starts past between (base between typed was).net more hosts still

    went : (more : List Entry) (hosts : Nodes) → AreTyped (more ++ past) → (still : StillRun starts (more ++ past) hosts)
        → (between : Nodes) × (typed : AreTyped past) × From between typed more hosts still
    went [] hosts typed still =
        let at = base hosts typed still in (
          hosts,
          typed,
          (
            still,
            record {
              moves = [];
              may = tt;
              of = at.of;
              well = at.well;
              held = λ s. no_earlier (instants starts hosts s);
              by_events = (refl, at.of);
            },
          ),
        )
    went (e ∷ more) hosts typed (old, still, leads, all) =
        let (between, typed_past, (was, so_far)) = went more old typed.1 still in
        (between, typed_past, (was, then_on past between (base between typed_past was).net more e old hosts still leads typed.0 all so_far))

  -- FROM THE BEGINNING ON

  abbrev at_first : (hosts : Nodes) → AreTyped [] → StillRun starts [] hosts → At [] hosts
  at_first hosts typed still = record {
    net = first_net starts;
    of = subst (λ (h : Nodes). IsNetOf (first_net starts) h []) (sym still.0) (record { sockets = first_of starts; history = refl });
    well = subst (λ (h : Nodes). AreWell starts [] h (first_net starts)) (sym still.0)
        (record { most = none_yet; joined = first_joined starts initial; few = λ side. omega arith; numbered = λ side. omega arith });
  }

  -- the moves of all events so far
  pub record Began (past : List Entry) (hosts : Nodes) : Type 0 where
    pub still : StillRun starts (past ++ []) hosts
    pub moves : List (ℤ × Step)
    pub may : IsRun names (first_net starts) (untimed moves)
    pub of : IsNetOf (run (first_net starts) (untimed moves)) hosts past
    pub well : AreWell starts past hosts (run (first_net starts) (untimed moves))
    pub held : AreAllHeld (first starts) at_zero (first_net starts) (untimed moves) (instants starts hosts)
    pub by_events : MoveBy starts (first_net starts) [] past hosts still moves

  began : (past : List Entry) (hosts : Nodes) → AreTyped past → StillRun starts past hosts → Began past hosts
  began past hosts typed was =
      let same : past ++ [] ≡ past = append-nil past in
      let still : StillRun starts (past ++ []) hosts = subst (λ (h : List Entry). StillRun starts h hosts) (sym same) was in
      let (unused, none, (at, w)) = went [] at_first past hosts (subst AreTyped (sym same) typed) still in
      record {
        still = still;
        moves = w.moves;
        may = w.may;
        of = subst (λ (h : List Entry). IsNetOf (run (first_net starts) (untimed w.moves)) hosts h) same w.of;
        well = subst (λ (h : List Entry). AreWell starts h hosts (run (first_net starts) (untimed w.moves))) same w.well;
        held = all-append (first starts) at_zero (instants starts unused) (first_net starts) [] (untimed w.moves) (instants starts hosts) (λ s. (at.1 s).instant.0) w.held;
        by_events = w.by_events;
      }

  abbrev so_far : (past : List Entry) (hosts : Nodes) → AreTyped past → StillRun starts past hosts → At past hosts
  so_far past hosts typed was = let b = began past hosts typed was in record { net = run (first_net starts) (untimed b.moves); of = b.of; well = b.well }

  -- PLAINLY

  -- no socket has a pair at first
  new_keeps : (i : InnerValue) (ports : ℕ → ℕ) (net : Net) (side : Side) → IsInitialParty ports (party net side) → (at : ℕ) (v : TcpValue) →
      socket_at (party net side) at ≡ Some (Tcp v) → PairKeeps i v.tcb.names.pair
  new_keeps i ports net side new at v is pair some =
      absurd (let clash : None ≡ Some pair = sym (new.sockets at (Tcp v) is).1.pair ∙ some in cc)

  first_keeps : (side : Side) (at : ℕ) (v : TcpValue) → socket_at (party (first_net starts) side) at ≡ Some (Tcp v) → PairKeeps (first starts side) v.tcb.names.pair
  first_keeps A = new_keeps (first starts A) _ (first_net starts) A (initial_net starts initial).a
  first_keeps B = new_keeps (first starts B) _ (first_net starts) B (initial_net starts initial).b

  at_once : pos 0 ≤ℤ pos 0
  at_once = omega (arith, ints)

  outward : (history : List Entry) (hosts : Nodes) → StillRun starts history hosts → (s : Side) →
      list_any (λ b. is_loopback (cidr_address b)) (first starts s).addresses ≡ false
  outward history hosts still s =
      let it = now_still starts history hosts still s in
      ap (list_any (λ b. is_loopback (cidr_address b))) (sym it.addresses) ∙ it.outward

  hosted : (history : List Entry) (hosts : Nodes) (still : StillRun starts history hosts) (steps : List Step) → IsRun names (first_net starts) steps
      → AreAllHeld (first starts) at_zero (first_net starts) steps (instants starts hosts) → (slots : Side → ℕ)
      → AreHosted (seats_of starts slots) at_zero (first_net starts) steps
  hosted history hosts still steps may held slots =
      plain_run (first starts) (outward history hosts still) names (seats_of starts slots) (λ s. refl) at_zero at_zero (first_net starts) steps
      (instants starts hosts) may held first_keeps (λ s. at_once)

-- WHAT SOCKETS WERE SHOWN LAST is no later than what the clocks of their hosts show

in_turn : (a b c : ℤ) → a ≤ℤ b → b ≤ℤ c → a ≤ℤ c
in_turn a b c one two = omega (arith, ints, one, two)

module _ (i : InnerValue) (t clock : ℤ) (before : clock ≤ℤ t) (slot : ℕ) where
  shown_at : (at : ℕ) (cx : ContextValue) → IsShownAt i t cx → clock_after clock (if_at at slot cx) ≤ℤ t
  shown_at at cx shown = by (at == slot) where
    by : (b : Bool) → clock_after clock (if b then Some cx else None) ≤ℤ t
    by true = no_later cx.instant t (ap (λ (c : ContextValue). c.instant) shown)
    by false = before

  shown_low : (net : Net) (side : Side) (move : Move) → IsHeld i t net side move → clock_after clock (shown_to slot move) ≤ℤ t
  shown_low net side (Invokes at cx old entry call new) held = shown_at at cx held
  shown_low net side (Passes entry) held = before
  shown_low net side (Offers at cx v from sent) held = shown_at at cx held.0
  shown_low net side (Gives at cx v answer new sent) held = before
  shown_low net side (Takes at cx v ip header bytes) held = shown_at at cx held.0
  shown_low net side (Receives at cx v ip udp bytes) held = before
  shown_low net side (Resets x) held = before
  shown_low net side (Changes at old new) held = before

module _ (firsts : Side → InnerValue) (seats : Side → Seat) where
  clocks_up : (clocks floors : Side → ℤ) (side : Side) (move : Move) (t : ℤ) → clock_after (clocks side) (shown_to (seats side).slot move) ≤ℤ t →
      ((s : Side) → clocks s ≤ℤ floors s) → (s : Side) → clocks_after seats clocks (step_of side move) s ≤ℤ raised floors side t s
  clocks_up clocks floors A move t here all A = here
  clocks_up clocks floors A move t here all B = all B
  clocks_up clocks floors B move t here all A = all A
  clocks_up clocks floors B move t here all B = here

  clocks_low : (clocks floors : Side → ℤ) (net : Net) (steps : List Step) (ends : Side → ℤ) → AreAllHeld firsts floors net steps ends →
      ((s : Side) → clocks s ≤ℤ floors s) → (s : Side) → clocks_in seats clocks steps s ≤ℤ ends s
  clocks_low clocks floors net [] ends held low s = in_turn (clocks s) (floors s) (ends s) (low s) (held s)
  clocks_low clocks floors net (step ∷ steps) ends (t, instant, later, held, rest) low s =
      clocks_low (clocks_after seats clocks step) (raised floors step.side t) (after net step) steps ends rest
      (clocks_up clocks floors step.side step.move t
      (shown_low (firsts step.side) t (clocks step.side) (in_turn (clocks step.side) (floors step.side) t (low step.side) later) (seats step.side).slot net
      step.side step.move held) low) s

-- the moves of all events, and those of the earlier ones among them
pub record MovesBy (starts : Starts) (initial : IsInitialWorld starts) (past : List Entry) (between : Nodes) (more : List Entry) (hosts : Nodes)
    (still : StillRun starts (more ++ past) hosts) : Type 0 where
  pub was : StillRun starts past between
  pub began : Began starts initial past between
  pub them : MoveByEvents starts past between more hosts still
  pub are_these : them.plainly.before ≡ untimed began.moves

pub all_events_move : (starts : Starts) (past more : List Entry) (hosts : Nodes) (initial : IsInitialWorld starts) → AreTyped (more ++ past) →
    (still : StillRun starts (more ++ past) hosts) → (between : Nodes) × MovesBy starts initial past between more hosts still
all_events_move starts past more hosts initial typed still =
    let (between, typed_past, (was, w)) = went starts initial past (so_far starts initial past) more hosts typed still in
    let one = began starts initial past between typed_past was in
    let net = first_net starts in (
      between,
      record {
        was = was;
        began = one;
        them = record {
          plainly = record {
            before = untimed one.moves;
            may = one.may;
            of = one.of;
            hosted = hosted starts initial past between was (untimed one.moves) one.may one.held;
            steps = untimed w.moves;
            may_on = w.may;
            of_these = w.of;
            hosted_on = λ slots. hosted_rest (seats_of starts slots) at_zero net (untimed one.moves) (untimed w.moves)
                (hosted starts initial (more ++ past) hosts still (untimed one.moves ++ untimed w.moves)
                (IsRun-append names net (untimed one.moves) (untimed w.moves) one.may w.may)
                (all-append (first starts) at_zero (instants starts between) net (untimed one.moves) (untimed w.moves) (instants starts hosts) one.held w.held) slots);
          };
          moves = w.moves;
          are_these = refl;
          of_events = w.by_events;
          showed = λ slots s.
              subst (λ (m : ℤ). clocks_in (seats_of starts slots) at_zero (untimed one.moves) s ≤ℤ m) (shows starts past between (ran starts past between was) s)
              (clocks_low (first starts) (seats_of starts slots) at_zero at_zero net (untimed one.moves) (instants starts between) one.held (λ side. no_earlier (pos 0)) s);
        };
        are_these = refl;
      },
    )

pub events_move : (starts : Starts) (past more : List Entry) (hosts : Nodes) → IsInitialWorld starts → AreTyped (more ++ past) →
    (still : StillRun starts (more ++ past) hosts) → (between : Nodes) × StillRun starts past between × MoveByEvents starts past between more hosts still
events_move starts past more hosts initial typed still =
    let (between, all) = all_events_move starts past more hosts initial typed still in (between, all.was, all.them)
