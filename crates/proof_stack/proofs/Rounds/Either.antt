-- What a world that settles brings by whichever it answers: at rest, or far enough on.
use Rattle.std.proofs.Common.{◌≡◌, ◌⊎◌, inl, inr, ℕ, ℤ, pos, ◌+ℤ◌, ◌<ℤ◌, true, false, List, Option, Some, None, refl, sym, ap, ◌∙◌, subst}
use Rattle.std.specs.Prelude.{option_map}
use Rattle.std.specs.Int.{int_max}
use Rattle.interface.specs.Instant.{earlier}
use Rattle.tcp_state.specs.States.{is_closed, is_listening}
use Rattle.tcp_state.specs.declared.state.State.{State as TcpState}
use Rattle.tcp_state.specs.declared.state.State.TheVariants as In
use Rattle.tcp_block.specs.Value.{TcpValue}
use Rattle.tcp_liveness.specs.Arrivals.{is_synchronized}
use Rattle.lan.specs.declared.at_link.history.answer.Answer.TheVariants as To
use Rattle.lan.specs.declared.at_link.history.event.Event.TheVariants as E
use Rattle.lan.specs.declared.at_link.history.event.Side.{Side}
use Rattle.lan.specs.declared.at_link.history.event.Side.TheVariants.{A, B}
use Rattle.lan.specs.Worlds.AtLink.History.{Entry}
use Rattle.lan.specs.Worlds.AtLink.Kinds.{other}
use Rattle.lan.specs.Worlds.AtLink.PacketsSafe.{IsTcpAt}
use Rattle.lan.specs.Worlds.AtLink.Paired.{NewSocket}
use Rattle.lan.specs.Worlds.AtLink.Parties.{Socket}
use Rattle.lan.specs.Worlds.AtLink.PeerSides.{ArePartners}
use Rattle.lan.specs.Worlds.AtLink.Runs.{Step, WorldValue}
use Rattle.lan.specs.Worlds.AtLink.Safe.{net_of}
use Rattle.lan.specs.Worlds.Events.{AreTyped}
use Rattle.lan.specs.Worlds.Settling.{AreIdle, Settles, WasAsked}
use Rattle.lan.proofs.Worlds.StillOnward.{ran}
use Rattle.proof_stack.specs.Progress.Events.{clock_in}
use Rattle.proof_stack.specs.Progress.Moving.{IsTcp}
use Rattle.proof_stack.specs.Progress.Settled.{HasArrived, IsConnected}
use Rattle.proof_stack.specs.Progress.Within.{AskForNone, MaySettle, StayAcquainted, enough_for}
use Rattle.proof_stack.proofs.Rounds.Arrives.{arrives_in_time, arrives_where_known, by_rounds}
use Rattle.proof_stack.proofs.Rounds.OneRun.{Once}
use Rattle.proof_stack.proofs.Settled.{arrived, of_host, wants_nothing}
use Rattle.proof_stack.proofs.StillPeerSides.{peer_sides_stay}

-- AT REST

no_instant : (a b : Option ℤ) (instant : ℤ) → None ≡ option_map (int_max instant) (earlier a b) → (a ≡ None) × (b ≡ None)
no_instant None None instant is = (refl, refl)
no_instant None (Some y) instant is = absurd (cc)
no_instant (Some x) None instant is = absurd (cc)
no_instant (Some x) (Some y) instant is = absurd (cc)

none_some : {X : Type 0} (t : ℤ) → None ≡ Some t → X
none_some t is = absurd (cc)

asked_last : (side : Side) (instant : ℤ) (at : Option ℤ) (old new : WorldValue) → at ≡ None → Step old (E.PollAt side instant) (To.At at) new
    → WasAsked side instant None old.history new.history
asked_last side instant at old new none step =
    (step.entry, step.history, step.event_kept, step.answer_kept ∙ ap (λ (o : Option ℤ). To.At o) none)

pub at_rest : (budget : ℕ) (from : ℤ) (rounds : ℕ) (instant : ℤ) (old new : WorldValue) → Settles budget from rounds (Some instant) old new
    → AreIdle instant new.history
at_rest budget from rounds instant old new (n, few, handed, now, before, ran_so, (served, both, inl (under_way, is, same))) = none_some instant is
at_rest budget from rounds instant old new (n, few, handed, now, before, ran_so, (served, both, inr (calm, a, b, (between, first, last), is))) =
    let none = no_instant a b instant is in
    (served.history, between.history, asked_last A instant a served between none.0 first, asked_last B instant b between new none.1 last)

late_states : (state : TcpState) → is_synchronized state ≡ true → (is_closed state ≡ false) × (is_listening state ≡ false)
late_states In.Closed is = absurd (cc)
late_states In.Listen is = absurd (cc)
late_states In.SynSent is = (refl, refl)
late_states In.SynReceived is = (refl, refl)
late_states other is = (refl, refl)

-- EITHER WAY

module _ (once : Once) (old new : WorldValue) (slots : Side → ℕ) (news : Side → NewSocket) (sockets : Side → TcpValue) (budget : ℕ) (from : ℤ) (rounds : ℕ)
    (side : Side) (v w : TcpValue) (may : MaySettle slots news from sockets old new) (unpaused : v.tcb.settings.synack_paused ≡ false)
    (here : IsTcpAt (net_of new) side (slots side) v) (there : IsTcpAt (net_of new) (other side) (slots (other side)) w) where
  abbrev Arrived : Type 0
  Arrived = HasArrived (net_of new) side (slots side) (slots (other side)) v w

  synchronized : is_synchronized v.tcb.state ≡ true
  synchronized =
      subst (λ (o : Option Socket). IsTcp o (λ u. is_synchronized u.tcb.state ≡ true)) (of_host old.starts new.history new.hosts side (slots side) v here)
      (may.stay side)

  connected : IsConnected v
  connected = let states = late_states v.tcb.state synchronized in record { alive = states.0; connected = states.1; unpaused = unpaused }

  rested : (instant : ℤ) → Settles budget from rounds (Some instant) old new → Arrived
  rested instant settles =
      let (more, is, services, typed, run, same, go) = by_rounds once slots from budget rounds (Some instant) old new may.begins settles in
      let none =
      wants_nothing old.starts new.history new.hosts instant side (slots side) v (ran old.starts new.history new.hosts may.still)
      (at_rest budget from rounds instant old new settles) here in
      arrived old.starts new.history new.hosts slots news may.begins.initial (subst AreTyped (sym is) typed) may.still may.new_sockets may.keys may.text
      (subst (λ (h : List Entry). ArePartners h A (slots A) (slots B)) (sym is) (peer_sides_stay old.history more A (slots A) (slots B) may.peer_sides)) side v w
      none.0 here there connected none.1

  late : (rests : Option ℤ) → Settles budget from rounds rests old new → AskForNone old.starts ⊎ StayAcquainted slots old new
      → (clock_in old.history +ℤ pos (enough_for old.history slots sockets)) <ℤ clock_in new.history → Arrived
  late rests settles (inl none) long = arrives_in_time once old new slots news sockets budget from rounds rests side v w may none settles long here there
  late rests settles (inr they) long =
      arrives_where_known once old new slots news sockets budget from rounds rests side v w may they settles long here there

  pub either : (rests : Option ℤ) → AskForNone old.starts ⊎ StayAcquainted slots old new → Settles budget from rounds rests old new
      → ((instant : ℤ) × (rests ≡ Some instant)) ⊎ ((clock_in old.history +ℤ pos (enough_for old.history slots sockets)) <ℤ clock_in new.history) → Arrived
  either rests know settles (inl (instant, is)) = rested instant (subst (λ (o : Option ℤ). Settles budget from rounds o old new) is settles)
  either rests know settles (inr long) = late rests settles know long
