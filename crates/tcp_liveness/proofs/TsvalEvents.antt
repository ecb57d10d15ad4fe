-- What each event makes of the timestamps of a side, and of what its peer had of them.
use Rattle.std.proofs.Common.{◌≡◌, ◌⊎◌, inl, inr, ℕ, ◌==◌, ◌&&◌, not, min, ℤ, ◌≤ℤ◌, Bool, true, false, List, [], length, take}
use Rattle.std.proofs.Common.{Option, Some, None, Result, Ok, Err, is_some, slice_get, refl, sym, ap, ◌∙◌, subst, arith}
use Rattle.std.proofs.lemmas.Bool.{cond_both}
use Rattle.std.specs.List.{AllByRecursion}
use Rattle.ip_wire.specs.IpEndpoint.{IpEndpoint}
use Rattle.ip_wire.specs.IpListenEndpoint.{IpListenEndpoint}
use Rattle.ip_wire.specs.TcpTimestampGenerator.{TcpTimestampGenerator}
use Rattle.ip_wire.specs.TcpTimestampRepr.{TcpTimestampRepr}
use Rattle.net_base.specs.Ring.{anchored, enqueued}
use Rattle.tcp_theory.specs.Invariant.{FitsPhase}
use Rattle.tcp_theory.specs.Side.{Opening, Phase, Side as Half}
use Rattle.tcp_theory.specs.Side.Opening.{NotYet, Passive, Active}
use Rattle.tcp_theory.specs.Side.Phase.{SynSent}
use Rattle.tcp_theory.proofs.Lists.{AllByRecursion-at, AllByRecursion-map, AllByRecursion-push}
use Rattle.tcp_refinement.specs.Context.{ContextValue}
use Rattle.tcp_refinement.specs.History.{closed_by, closes_in}
use Rattle.tcp_refinement.specs.Tie.{Past, Keeps, FitsIn, core_of, unsent}
use Rattle.tcp_invariants.specs.FourTuple.{FourTuple}
use Rattle.tcp_invariants.specs.OpenOffer.{OpenOffer}
use Rattle.tcp_invariants.specs.RecvError.{RecvError}
use Rattle.tcp_invariants.specs.Reply.{Reply}
use Rattle.tcp_invariants.specs.State.{State}
use Rattle.tcp_invariants.specs.State.TheVariants as In
use Rattle.tcp_invariants.specs.States.{after_close, is_closed, is_opening, is_time_wait, takes_writes}
use Rattle.tcp_invariants.proofs.OrderSteps.{clash}
use Rattle.tcp_block.specs.Arrival.{arrives}
use Rattle.tcp_block.specs.Calls.{connect_after, connected_by, listen_after, listening, four_tuple_for, recv_answer, send_after, send_answer, sent_more}
use Rattle.tcp_block.specs.Calls.{abort_after, close_after}
use Rattle.tcp_block.specs.Isn.{number_for}
use Rattle.tcp_refinement.specs.Pair.History.{adds, recv_adds, send_adds}
use Rattle.tcp_block.specs.Names.{accepts}
use Rattle.tcp_block.specs.Offers.{offer_of, payload_of}
use Rattle.tcp_refinement.specs.Pair.Sides.{other}
use Rattle.tcp_refinement.specs.Pair.Steps.{acts, handed, reads, send_says, set_by, taken_at}
use Rattle.tcp_block.specs.Value.{TcpValue, Arrived, ended, unoffered, with_tcb}
use Rattle.tcp_refinement.specs.Pair.Values.{PairSide, and_offer, and_reply, context_at}
use Rattle.tcp_refinement.specs.declared.pair.event.PairAnswer.{PairAnswer}
use Rattle.tcp_refinement.specs.declared.pair.event.PairAnswer.TheVariants.{Done, Count, Bytes, Error}
use Rattle.tcp_refinement.specs.declared.pair.event.PairEvent.{PairEvent}
use Rattle.tcp_refinement.specs.declared.pair.event.PairEvent.TheVariants.{Listen, Connect, Send, Recv, Close, Abort, TcpSetting, Clock, Offer, Deliver}
use Rattle.tcp_refinement.specs.declared.pair.event.SentSegment.{SentSegment}
use Rattle.tcp_refinement.specs.declared.pair.event.Side.{Side}
use Rattle.tcp_refinement.specs.declared.pair.event.TcpSetting.{TcpSetting as Setting}
use Rattle.tcp_refinement.specs.declared.pair.event.TcpSetting.TheVariants as Set
use Rattle.tcp_refinement.proofs.SideLaws.{IsAllowed}
use Rattle.tcp_liveness.specs.Clocks.{KeepsTime, WasShown}
use Rattle.tcp_liveness.proofs.Moments.{Proceeds}
use Rattle.tcp_liveness.proofs.TsvalCases.{Goes, IsOwn, Leaves, OfOffered, Recent, anew, arrival_hears, offer_asks, stamping_of, still}
use Rattle.tcp_liveness.proofs.Stampless.{tsval_in}

-- TIMESTAMPS OF A CLOCK

-- the clock showed it at an instant between these two
abbrev pub IsIn : Option TcpTimestampGenerator → ℤ → ℤ → Option TcpTimestampRepr → Type 0
IsIn clock since now None = Unit {0}
IsIn clock since now (Some tsval) = WasShown clock since now tsval.tsval

abbrev pub IsStamped : Option TcpTimestampGenerator → ℤ → ℤ → SentSegment → Type 0
IsStamped clock since now x = IsIn clock since now x.segment.options.timestamp

abbrev pub IsPlain : SentSegment → Type 0
IsPlain x = x.segment.options.timestamp ≡ None

upto : (a b c : ℤ) → a ≤ℤ b → b ≤ℤ c → a ≤ℤ c
upto a b c e f = grind arith

itself : (a : ℤ) → a ≤ℤ a
itself a = grind arith

pub longer : (clock : Option TcpTimestampGenerator) (since now then : ℤ) (n : ℕ) → now ≤ℤ then → WasShown clock since now n → WasShown clock since then n
longer clock since now then n e w = record {
  generator = w.generator;
  of = w.of;
  instant = w.instant;
  shows = w.shows;
  after = w.after;
  before = upto w.instant now then w.before e;
}

longer_in :
    (clock : Option TcpTimestampGenerator) (since now then : ℤ) (tsval : Option TcpTimestampRepr) → now ≤ℤ then → IsIn clock since now tsval
    → IsIn clock since then tsval
longer_in clock since now then None e w = tt
longer_in clock since now then (Some tsval) e w = longer clock since now then tsval.tsval e w

plain_in : (clock : Option TcpTimestampGenerator) (since now : ℤ) (tsval : Option TcpTimestampRepr) → tsval ≡ None → IsIn clock since now tsval
plain_in clock since now tsval none = subst (IsIn clock since now) (sym none) tt

none_some : {X A : Type 0} → (x : X) → None ≡ Some x → A
none_some x e = absurd (cc)

-- without a clock there are none
none_own : (now : ℤ) (tsval : Option TcpTimestampRepr) → IsOwn None now tsval → tsval ≡ None
none_own now None o = refl
none_own now (Some tsval) o = none_some o.generator o.of

pub set_own : (clock set : Option TcpTimestampGenerator) (now : ℤ) (tsval : Option TcpTimestampRepr) → (clock ≡ None) ⊎ (clock ≡ set) →
    IsOwn clock now tsval → IsOwn set now tsval
set_own clock set now None c o = tt
set_own clock set now (Some tsval) (inl none) o = none_some o.generator (sym none ∙ o.of)
set_own clock set now (Some tsval) (inr same) o = record { generator = o.generator; of = sym same ∙ o.of; shows = o.shows }

own_in : (set : Option TcpTimestampGenerator) (since now : ℤ) (tsval : Option TcpTimestampRepr) → since ≤ℤ now → IsOwn set now tsval → IsIn set since now tsval
own_in set since now None e o = tt
own_in set since now (Some tsval) e o = record {
  generator = o.generator;
  of = o.of;
  instant = now;
  shows = o.shows;
  after = e;
  before = itself now;
}

-- THE WAY FROM A SIDE TO ITS PARTNER

-- before the side is opened no timestamp went
pub record Silent (s r : PairSide) : Type 0 where
  pub clock : s.socket.tcb.stamps.generator ≡ None
  pub sent : AllByRecursion IsPlain s.sent
  pub unheard : r.socket.tcb.peer.timestamps ≡ false

-- the side has no clock, or the one that is set, and then it was asked since that instant
abbrev pub HasClock : ℤ → PairSide → Type 0
HasClock since s =
    (s.socket.tcb.stamps.generator ≡ None)
    ⊎ ((s.socket.tcb.stamps.generator ≡ s.socket.tcb.settings.timestamps) × (since ≤ℤ s.instant))

pub record Way (since : ℤ) (s r : PairSide) (opening : Opening) : Type 0 where
  pub clock : HasClock since s
  pub sent : AllByRecursion (IsStamped s.socket.tcb.settings.timestamps since s.instant) s.sent
  pub heard :
      r.socket.tcb.peer.timestamps ≡ true → WasShown s.socket.tcb.settings.timestamps since s.instant r.socket.tcb.peer.recent
  pub silent : opening ≡ NotYet → Silent s r

-- WHAT A CALL LEAVES

module _ (s : PairSide) where
  abbrev Stays : TcpValue → Type 0
  Stays new = Leaves ⊥ None (stamping_of s.socket.tcb) (stamping_of new.tcb)

  same : Stays s.socket
  same = still ⊥ None (stamping_of s.socket.tcb)

  blank : Leaves ⊥ None (stamping_of s.socket.tcb) (record (stamping_of s.socket.tcb) { clock = None; agreed = false; recent = 0 })
  blank = anew ⊥ None (stamping_of s.socket.tcb)

  listens : (endpoint : IpListenEndpoint) → Stays (listen_after s.socket endpoint)
  listens endpoint =
      cond_both (is_closed s.socket.tcb.state && not (endpoint.port == 0)) (listening s.socket endpoint) (unoffered s.socket) Stays (λ _. blank) (λ _. same)

  connects : (cx : ContextValue) (remote : IpEndpoint) (local : IpListenEndpoint) → Stays (connect_after cx s.socket remote local)
  connects cx remote local =
      cond_both (is_closed s.socket.tcb.state)
      (connected_by s.socket (four_tuple_for cx remote local) (number_for cx (four_tuple_for cx remote local))) (unoffered s.socket) Stays
      (λ _. by (four_tuple_for cx remote local) (number_for cx (four_tuple_for cx remote local))) (λ _. same)
    where
      by : (names : Option FourTuple) (number : ℕ) → Stays (connected_by s.socket names number)
      by None number = same
      by (Some pair) number = blank

  sends : (bytes : List ℕ) → Stays (send_after s.socket bytes)
  sends bytes =
      cond_both (takes_writes s.socket.tcb.state)
      (sent_more s.socket (enqueued (anchored s.socket.queued) (take (min (length bytes) (length s.socket.queued.free)) bytes))) (unoffered s.socket) Stays
      (λ _. same) (λ _. same)

  receives : (r : Result ℕ RecvError) → Stays (reads s r).side.socket
  receives (Ok n) = same
  receives (Err fault) = same

  closes : Stays (close_after s.socket)
  closes =
      cond_both (is_opening s.socket.tcb.state) (ended (unoffered s.socket))
      (with_tcb (unoffered s.socket) (record s.socket.tcb { state = after_close s.socket.tcb.state })) Stays (λ _. same) (λ _. same)

  aborts : Stays (abort_after s.socket)
  aborts =
      cond_both (is_time_wait s.socket.tcb.state) (ended (unoffered s.socket))
      (with_tcb (unoffered s.socket)
      (record s.socket.tcb { state = In.Closed; sender = record s.socket.tcb.sender { reset_due = is_some s.socket.tcb.names.pair } }))
      Stays (λ _. same) (λ _. same)

-- how a side was opened stays
sent_opening : (bytes : List ℕ) (answer : PairAnswer) (p : Past) → (send_adds bytes answer p).opening ≡ p.opening
sent_opening bytes Done p = refl
sent_opening bytes (Count n) p = refl
sent_opening bytes (Bytes xs) p = refl
sent_opening bytes (Error fault) p = refl

read_opening : (answer : PairAnswer) (p : Past) → (recv_adds answer p).opening ≡ p.opening
read_opening Done p = refl
read_opening (Count n) p = refl
read_opening (Bytes xs) p = refl
read_opening (Error fault) p = refl

closed_opening : (t : Bool) (p : Past) → (closed_by t p).opening ≡ p.opening
closed_opening true p = refl
closed_opening false p = refl

-- a side that wasn't opened is CLOSED
pub unopened : (v w : TcpValue) (p q : Past) → Keeps v p w q → p.opening ≡ NotYet → is_closed v.tcb.state ≡ true
unopened v w p q k first = by v.tcb.state k.fits where
  not_yet : k.side.opening ≡ NotYet
  not_yet = ap (λ (past : Past). past.opening) k.past ∙ first

  by : (state : State) → FitsIn state (core_of v) (unsent k.side) → is_closed state ≡ true
  by In.Closed fits = refl
  by In.Listen fits =
      absurd
      (let passive : k.side.opening ≡ Passive = ap (λ (x : Half). x.opening) fits.side in let clashes : NotYet ≡ Passive = sym not_yet ∙ passive in cc)
  by In.SynSent fits =
      let asking : FitsPhase SynSent k.side.opening k.side.irs =
      subst (λ (phase : Phase). FitsPhase phase k.side.opening k.side.irs) fits.phase k.holds.0.well_formed.phase in
      absurd (let clashes : NotYet ≡ Active = sym not_yet ∙ asking.0 in cc)
  by other fits = absurd (fits.once not_yet)

-- AN EVENT OF THE SIDE

module _ (since : ℤ) (s r : PairSide) (p : Past) (w : Way since s r p.opening) where
  abbrev set : Option TcpTimestampGenerator
  set = s.socket.tcb.settings.timestamps

  -- where something goes, or nothing does
  moved :
      (begins : Type 0) (new : PairSide) (after : Opening) → Leaves begins None (stamping_of s.socket.tcb) (stamping_of new.socket.tcb)
      → s.instant ≤ℤ new.instant → (begins → (since ≤ℤ new.instant) × (p.opening ≡ NotYet → ⊥))
      → AllByRecursion (IsStamped set since new.instant) new.sent → (p.opening ≡ NotYet → AllByRecursion IsPlain new.sent)
      → (after ≡ NotYet → p.opening ≡ NotYet) → Way since new r after
  moved begins new after l later may sent plain first = record {
    clock = clock l.clock w.clock;
    sent = subst (λ (clock : Option TcpTimestampGenerator). AllByRecursion (IsStamped clock since new.instant) new.sent) (sym l.set) sent;
    heard = λ agreed.
        subst (λ (clock : Option TcpTimestampGenerator). WasShown clock since new.instant r.socket.tcb.peer.recent) (sym l.set)
        (longer set since s.instant new.instant r.socket.tcb.peer.recent later (w.heard agreed));
    silent = λ e.
        let it = first e in
        let silent = w.silent it in
        record { clock = unset it silent.clock l.clock; sent = plain it; unheard = silent.unheard };
  }
    where
      Kept : Type 0
      Kept =
          (new.socket.tcb.stamps.generator ≡ None)
          ⊎ ((new.socket.tcb.stamps.generator ≡ s.socket.tcb.stamps.generator)
          ⊎ ((new.socket.tcb.stamps.generator ≡ s.socket.tcb.settings.timestamps) × begins))

      clock : Kept → HasClock since s → HasClock since new
      clock (inl none) old = inl none
      clock (inr (inl same)) (inl none) = inl (same ∙ none)
      clock (inr (inl same)) (inr old) = inr (same ∙ (old.0 ∙ sym l.set), upto since s.instant new.instant old.1 later)
      clock (inr (inr sets)) old = inr (sets.0 ∙ sym l.set, (may sets.1).0)

      unset : p.opening ≡ NotYet → s.socket.tcb.stamps.generator ≡ None → Kept → new.socket.tcb.stamps.generator ≡ None
      unset it none (inl e) = e
      unset it none (inr (inl same)) = same ∙ none
      unset it none (inr (inr sets)) = absurd ((may sets.1).1 it)

  -- of a call, with which nothing goes
  called : (new : PairSide) (after : Opening) → Stays s new.socket → new.instant ≡ s.instant → new.sent ≡ s.sent →
      (after ≡ NotYet → p.opening ≡ NotYet) → Way since new r after
  called new after l now gone first =
      moved ⊥ new after l (subst (λ (t : ℤ). s.instant ≤ℤ t) (sym now) (itself s.instant)) (λ never. absurd never)
      (subst (λ (t : ℤ). AllByRecursion (IsStamped set since t) new.sent) (sym now)
      (subst (λ (sent : List SentSegment). AllByRecursion (IsStamped set since s.instant) sent) (sym gone) w.sent))
      (λ it. subst (λ (sent : List SentSegment). AllByRecursion IsPlain sent) (sym gone) (w.silent it).sent) first

  -- its host's clock goes on
  clock_proceeds : (instant : ℤ) → s.instant ≤ℤ instant → Way since (record s { instant = instant }) r p.opening
  clock_proceeds instant later =
      moved ⊥ (record s { instant = instant }) p.opening (same s) later (λ never. absurd never)
      (AllByRecursion-map (IsStamped set since s.instant) (IsStamped set since instant)
      (λ x e. longer_in set since s.instant instant x.segment.options.timestamp later e) s.sent w.sent)
      (λ first. (w.silent first).sent) (λ e. e)

  -- its clock is set
  set_clock : (generator : Option TcpTimestampGenerator) → p.opening ≡ NotYet →
      Way since (record s { socket = set_by (Set.TsvalGenerator generator) s.socket }) r p.opening
  set_clock generator first = record {
    clock = inl silent.clock;
    sent = AllByRecursion-map IsPlain (IsStamped generator since s.instant) (λ x e. plain_in generator since s.instant x.segment.options.timestamp e) s.sent silent.sent;
    heard = λ agreed. clash (sym agreed ∙ silent.unheard);
    silent = λ _. record { clock = silent.clock; sent = silent.sent; unheard = silent.unheard };
  }
    where
      silent : Silent s r
      silent = w.silent first

  sets : (setting : Setting) (side : Side) → KeepsTime since (TcpSetting side setting) p.opening →
      Way since (record s { socket = set_by setting s.socket }) r p.opening
  sets (Set.TsvalGenerator generator) side first = set_clock generator first
  sets (Set.Timeout duration) side k = called (record s { socket = set_by (Set.Timeout duration) s.socket }) p.opening (same s) refl refl (λ e. e)
  sets (Set.AckDelay duration) side k = called (record s { socket = set_by (Set.AckDelay duration) s.socket }) p.opening (same s) refl refl (λ e. e)
  sets (Set.KeepAlive interval) side k = called (record s { socket = set_by (Set.KeepAlive interval) s.socket }) p.opening (same s) refl refl (λ e. e)
  sets (Set.NagleEnabled enabled) side k = called (record s { socket = set_by (Set.NagleEnabled enabled) s.socket }) p.opening (same s) refl refl (λ e. e)
  sets (Set.HopLimit limit) side k = called (record s { socket = set_by (Set.HopLimit limit) s.socket }) p.opening (same s) refl refl (λ e. e)
  sets (Set.CongestionControl control) side k = called (record s { socket = set_by (Set.CongestionControl control) s.socket }) p.opening (same s) refl refl (λ e. e)
  sets (Set.PauseSynack paused) side k = called (record s { socket = set_by (Set.PauseSynack paused) s.socket }) p.opening (same s) refl refl (λ e. e)
  sets (Set.Retries limit) side k = called (record s { socket = set_by (Set.Retries limit) s.socket }) p.opening (same s) refl refl (λ e. e)
  sets (Set.MinRto duration) side k = called (record s { socket = set_by (Set.MinRto duration) s.socket }) p.opening (same s) refl refl (λ e. e)
  sets (Set.FineTimer fine) side k = called (record s { socket = set_by (Set.FineTimer fine) s.socket }) p.opening (same s) refl refl (λ e. e)

  -- the clock is the one that is set, if there is one
  own_clock : (s.socket.tcb.stamps.generator ≡ None) ⊎ (s.socket.tcb.stamps.generator ≡ set)
  own_clock = by w.clock where
    by : HasClock since s → (s.socket.tcb.stamps.generator ≡ None) ⊎ (s.socket.tcb.stamps.generator ≡ set)
    by (inl none) = inl none
    by (inr old) = inr old.0

  -- what goes of an offer has the time of the clock that is set
  pub goes_set :
      (cx : ContextValue) (tsval : Option TcpTimestampRepr) → Goes cx s.socket (stamping_of s.socket.tcb) tsval → IsOwn set cx.instant tsval
  goes_set cx tsval (inl own) = set_own s.socket.tcb.stamps.generator set cx.instant tsval own_clock own
  goes_set cx tsval (inr own) = own.0

  module _ (closed : p.opening ≡ NotYet → is_closed s.socket.tcb.state ≡ true) (side : Side) (instant : ℤ) (later : s.instant ≤ℤ instant)
      (asked : since ≤ℤ instant) where
    abbrev cx : ContextValue
    cx = context_at side (record s { instant = instant })

    alive : is_closed s.socket.tcb.state ≡ false → (since ≤ℤ instant) × (p.opening ≡ NotYet → ⊥)
    alive e = (asked, λ first. clash (sym (closed first) ∙ e))

    old_sent : AllByRecursion (IsStamped set since instant) s.sent
    old_sent =
        AllByRecursion-map (IsStamped set since s.instant) (IsStamped set since instant)
        (λ x e. longer_in set since s.instant instant x.segment.options.timestamp later e) s.sent w.sent

    with_offered : (o : Option OpenOffer) (queue : List ℕ) → OfOffered cx s.socket o → AllByRecursion (IsStamped set since instant) (and_offer s.sent o queue)
    with_offered None queue a = old_sent
    with_offered (Some o) queue a =
        AllByRecursion-push (IsStamped set since instant) s.sent
        (record { header = o.header; segment = o.segment; bytes = payload_of o o.kind queue }) old_sent
        (own_in set since instant o.segment.options.timestamp asked (goes_set cx o.segment.options.timestamp a))

    plain_offered : p.opening ≡ NotYet → (o : Option OpenOffer) (queue : List ℕ) → OfOffered cx s.socket o →
        AllByRecursion IsPlain (and_offer s.sent o queue)
    plain_offered first None queue a = (w.silent first).sent
    plain_offered first (Some o) queue a =
        AllByRecursion-push IsPlain s.sent (record { header = o.header; segment = o.segment; bytes = payload_of o o.kind queue }) (w.silent first).sent
        (by a)
      where
        by : Goes cx s.socket (stamping_of s.socket.tcb) o.segment.options.timestamp → o.segment.options.timestamp ≡ None
        by (inl own) =
            none_own instant o.segment.options.timestamp
            (subst (λ (clock : Option TcpTimestampGenerator). IsOwn clock instant o.segment.options.timestamp) (w.silent first).clock own)
        by (inr own) = clash (sym (closed first) ∙ own.1)

    offers : (others : List SentSegment) (sent : Bool) → Way since (acts s others (Offer side instant sent)).side r p.opening
    offers others true =
        let it = offer_asks cx s.socket in
        moved (is_closed s.socket.tcb.state ≡ false) (acts s others (Offer side instant true)).side p.opening it.0 later alive
        (with_offered (offer_of cx s.socket).socket.offered (offer_of cx s.socket).socket.queued.queue it.2)
        (λ first. plain_offered first (offer_of cx s.socket).socket.offered (offer_of cx s.socket).socket.queued.queue it.2) (λ e. e)
    offers others false =
        let it = offer_asks cx s.socket in
        moved (is_closed s.socket.tcb.state ≡ false) (acts s others (Offer side instant false)).side p.opening it.1 later alive old_sent
        (λ first. (w.silent first).sent) (λ e. e)

  -- a segment comes, and is answered
  pub answered_set : (now : ℤ) (tsval : Option TcpTimestampRepr) → IsOwn s.socket.tcb.stamps.generator now tsval → IsOwn set now tsval
  answered_set now tsval own = set_own s.socket.tcb.stamps.generator set now tsval own_clock own

  with_answer : (answer : Option Reply) → IsOwn s.socket.tcb.stamps.generator s.instant (tsval_in answer) →
      AllByRecursion (IsStamped set since s.instant) (and_reply s.sent answer)
  with_answer None own = w.sent
  with_answer (Some reply) own =
      AllByRecursion-push (IsStamped set since s.instant) s.sent (record { header = reply.header; segment = reply.segment; bytes = [] }) w.sent
      (by reply.segment.options.timestamp w.clock own)
    where
      by : (tsval : Option TcpTimestampRepr) → HasClock since s → IsOwn s.socket.tcb.stamps.generator s.instant tsval → IsIn set since s.instant tsval
      by None c own = tt
      by (Some tsval) (inl none) own = none_some own.generator (sym none ∙ own.of)
      by (Some tsval) (inr c) own = own_in set since s.instant (Some tsval) c.1 (answered_set s.instant (Some tsval) own)

  plain_answer : p.opening ≡ NotYet → (answer : Option Reply) → IsOwn s.socket.tcb.stamps.generator s.instant (tsval_in answer) →
      AllByRecursion IsPlain (and_reply s.sent answer)
  plain_answer first None own = (w.silent first).sent
  plain_answer first (Some reply) own =
      AllByRecursion-push IsPlain s.sent (record { header = reply.header; segment = reply.segment; bytes = [] }) (w.silent first).sent
      (none_own s.instant reply.segment.options.timestamp
      (subst (λ (clock : Option TcpTimestampGenerator). IsOwn clock s.instant reply.segment.options.timestamp) (w.silent first).clock own))

  came : (side : Side) (found : Option SentSegment) → Way since (handed side s found) r p.opening
  came side None = w
  came side (Some x) =
      cond_both (accepts s.socket.tcb x.header x.segment) (taken_at s a) s (λ (new : PairSide). Way since new r p.opening)
      (λ _.
      record {
        clock = clock it.0.clock w.clock;
        sent =
            subst (λ (clock : Option TcpTimestampGenerator). AllByRecursion (IsStamped clock since s.instant) (and_reply s.sent a.answer)) (sym it.0.set)
            (with_answer a.answer it.1);
        heard = λ agreed.
            subst (λ (clock : Option TcpTimestampGenerator). WasShown clock since s.instant r.socket.tcb.peer.recent) (sym it.0.set) (w.heard agreed);
        silent = λ first.
            record {
              clock = unset (w.silent first).clock it.0.clock;
              sent = plain_answer first a.answer it.1;
              unheard = (w.silent first).unheard;
            };
      })
      (λ _. w)
    where
      a : Arrived
      a = arrives (context_at side s) s.socket x.header x.segment x.bytes

      Kept : Type 0
      Kept =
          (a.socket.tcb.stamps.generator ≡ None)
          ⊎ ((a.socket.tcb.stamps.generator ≡ s.socket.tcb.stamps.generator)
          ⊎ ((a.socket.tcb.stamps.generator ≡ s.socket.tcb.settings.timestamps) × ⊥))

      it : Leaves ⊥ x.segment.options.timestamp (stamping_of s.socket.tcb) (stamping_of a.socket.tcb)
          × IsOwn s.socket.tcb.stamps.generator s.instant (tsval_in a.answer)
      it = arrival_hears (context_at side s) x.header x.segment x.bytes s.socket

      clock : Kept → HasClock since s → HasClock since (taken_at s a)
      clock (inl none) old = inl none
      clock (inr (inl kept)) (inl none) = inl (kept ∙ none)
      clock (inr (inl kept)) (inr old) = inr (kept ∙ (old.0 ∙ sym it.0.set), old.1)
      clock (inr (inr never)) old = absurd never.1

      unset : s.socket.tcb.stamps.generator ≡ None → Kept → a.socket.tcb.stamps.generator ≡ None
      unset none (inl e) = e
      unset none (inr (inl kept)) = kept ∙ none
      unset none (inr (inr never)) = absurd never.1

  module _ (others : List SentSegment) where
    abbrev led : PairEvent → PairSide
    led event = (acts s others event).side

    abbrev seen : PairEvent → Opening
    seen event = (adds event (acts s others event).answer s.socket.tcb.state p).opening

    recv_event : (side : Side) (count : ℕ) → Way since (led (Recv side count)) r (seen (Recv side count))
    recv_event side count = by (recv_answer s.socket count) where
      by : (got : Result ℕ RecvError) → Way since (reads s got).side r (recv_adds (reads s got).answer p).opening
      by (Ok n) =
          called (reads s (Ok n)).side (recv_adds (reads s (Ok n)).answer p).opening (same s) refl refl
          (λ e. sym (read_opening (reads s (Ok n)).answer p) ∙ e)
      by (Err fault) =
          called (reads s (Err fault)).side (recv_adds (reads s (Err fault)).answer p).opening (same s) refl refl
          (λ e. sym (read_opening (reads s (Err fault)).answer p) ∙ e)

    pub own_event :
        (event : PairEvent) → (p.opening ≡ NotYet → is_closed s.socket.tcb.state ≡ true) → IsAllowed event p → Proceeds s event
        → KeepsTime since event p.opening → Way since (acts s others event).side r (adds event (acts s others event).answer s.socket.tcb.state p).opening
    own_event (Listen side endpoint) closed allowed on k =
        called (led (Listen side endpoint)) (seen (Listen side endpoint)) (listens s endpoint) refl refl (λ _. allowed)
    own_event (Connect side remote local) closed allowed on k =
        called (led (Connect side remote local)) (seen (Connect side remote local)) (connects s (context_at side s) remote local) refl refl (λ _. allowed)
    own_event (Send side bytes) closed allowed on k =
        called (led (Send side bytes)) (seen (Send side bytes)) (sends s bytes) refl refl
        (λ e. sym (sent_opening bytes (send_says (send_answer s.socket (length bytes))) p) ∙ e)
    own_event (Recv side count) closed allowed on k = recv_event side count
    own_event (Close side) closed allowed on k =
        called (led (Close side)) (seen (Close side)) (closes s) refl refl (λ e. sym (closed_opening (closes_in s.socket.tcb.state) p) ∙ e)
    own_event (Abort side) closed allowed on k = called (led (Abort side)) p.opening (aborts s) refl refl (λ e. e)
    own_event (TcpSetting side setting) closed allowed on k = sets setting side k
    own_event (Clock side instant) closed allowed on k = clock_proceeds instant on
    own_event (Offer side instant sent) closed allowed on k = offers closed side instant on k others sent
    own_event (Deliver from i) closed allowed on k = came (other from) (slice_get others i)

-- AN EVENT OF THE PARTNER

module _ (since : ℤ) (s r : PairSide) (opening : Opening) (w : Way since s r opening) where
  -- what it has of the side's timestamps
  told :
      (new : PairSide) (tsval : Option TcpTimestampRepr) → Recent tsval (stamping_of r.socket.tcb) (stamping_of new.socket.tcb)
      → IsIn s.socket.tcb.settings.timestamps since s.instant tsval → (opening ≡ NotYet → tsval ≡ None) → Way since s new opening
  told new tsval l in_time plain = record {
    clock = w.clock;
    sent = w.sent;
    heard = λ agreed. by l agreed;
    silent = λ first. let silent = w.silent first in record { clock = silent.clock; sent = silent.sent; unheard = unheard first l };
  }
    where
      It : Type 0
      It = Recent tsval (stamping_of r.socket.tcb) (stamping_of new.socket.tcb)

      by : It → new.socket.tcb.peer.timestamps ≡ true →
          WasShown s.socket.tcb.settings.timestamps since s.instant new.socket.tcb.peer.recent
      by (inl none) agreed = clash (sym agreed ∙ none)
      by (inr (inl kept)) agreed =
          subst (λ (n : ℕ). WasShown s.socket.tcb.settings.timestamps since s.instant n) (sym kept.1) (w.heard (sym kept.0 ∙ agreed))
      by (inr (inr names)) agreed =
          subst (λ (n : ℕ). WasShown s.socket.tcb.settings.timestamps since s.instant n) (sym names.is)
          (subst (IsIn s.socket.tcb.settings.timestamps since s.instant) names.has in_time)

      unheard : opening ≡ NotYet → It → new.socket.tcb.peer.timestamps ≡ false
      unheard first (inl none) = none
      unheard first (inr (inl kept)) = kept.0 ∙ (w.silent first).unheard
      unheard first (inr (inr names)) = none_some names.it (sym (plain first) ∙ names.has)

  untold : (new : PairSide) → Recent None (stamping_of r.socket.tcb) (stamping_of new.socket.tcb) → Way since s new opening
  untold new l = told new None l tt (λ _. refl)

  set_there : (setting : Setting) → Recent None (stamping_of r.socket.tcb) (stamping_of (set_by setting r.socket).tcb)
  set_there (Set.TsvalGenerator generator) = inr (inl (refl, refl))
  set_there (Set.Timeout duration) = inr (inl (refl, refl))
  set_there (Set.AckDelay duration) = inr (inl (refl, refl))
  set_there (Set.KeepAlive interval) = inr (inl (refl, refl))
  set_there (Set.NagleEnabled enabled) = inr (inl (refl, refl))
  set_there (Set.HopLimit limit) = inr (inl (refl, refl))
  set_there (Set.CongestionControl control) = inr (inl (refl, refl))
  set_there (Set.PauseSynack paused) = inr (inl (refl, refl))
  set_there (Set.Retries limit) = inr (inl (refl, refl))
  set_there (Set.MinRto duration) = inr (inl (refl, refl))
  set_there (Set.FineTimer fine) = inr (inl (refl, refl))

  comes : (side : Side) (k : ℕ) (found : Option SentSegment) → slice_get s.sent k ≡ found → Way since s (handed side r found) opening
  comes side k None e = w
  comes side k (Some x) e =
      cond_both (accepts r.socket.tcb x.header x.segment)
      (taken_at r (arrives (context_at side r) r.socket x.header x.segment x.bytes)) r (λ (new : PairSide). Way since s new opening)
      (λ _.
      told (taken_at r (arrives (context_at side r) r.socket x.header x.segment x.bytes)) x.segment.options.timestamp
      (arrival_hears (context_at side r) x.header x.segment x.bytes r.socket).0.recent
      (AllByRecursion-at (IsStamped s.socket.tcb.settings.timestamps since s.instant) s.sent k x w.sent e)
      (λ first. AllByRecursion-at IsPlain s.sent k x (w.silent first).sent e))
      (λ _. w)

  pub peer_side_event : (event : PairEvent) → Way since s (acts r s.sent event).side opening
  peer_side_event (Listen side endpoint) = untold (acts r s.sent (Listen side endpoint)).side (listens r endpoint).recent
  peer_side_event (Connect side remote local) = untold (acts r s.sent (Connect side remote local)).side (connects r (context_at side r) remote local).recent
  peer_side_event (Send side bytes) = untold (acts r s.sent (Send side bytes)).side (sends r bytes).recent
  peer_side_event (Recv side count) = untold (acts r s.sent (Recv side count)).side (receives r (recv_answer r.socket count)).recent
  peer_side_event (Close side) = untold (acts r s.sent (Close side)).side (closes r).recent
  peer_side_event (Abort side) = untold (acts r s.sent (Abort side)).side (aborts r).recent
  peer_side_event (TcpSetting side setting) = untold (acts r s.sent (TcpSetting side setting)).side (set_there setting)
  peer_side_event (Clock side instant) = untold (acts r s.sent (Clock side instant)).side (inr (inl (refl, refl)))
  peer_side_event (Offer side instant true) =
      untold (acts r s.sent (Offer side instant true)).side (offer_asks (context_at side (record r { instant = instant })) r.socket).0.recent
  peer_side_event (Offer side instant false) =
      untold (acts r s.sent (Offer side instant false)).side (offer_asks (context_at side (record r { instant = instant })) r.socket).1.recent
  peer_side_event (Deliver from k) = comes (other from) k (slice_get s.sent k) refl
