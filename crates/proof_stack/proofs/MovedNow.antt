-- Where each segment comes at the instant at which it went, none that comes so is older than TS.Recent.
use Rattle.std.proofs.Common.{◌≡◌, ◌≢◌, ◌⊎◌, inl, inr, ℕ, ◌<◌, ◌≤◌, ◌==◌, ℤ, pos, ◌+ℤ◌, ◌≤ℤ◌, int_le, Bool, true, false, if◌then◌else◌, List, [], ◌∷◌, ◌++◌, length}
use Rattle.std.proofs.Common.{Some, None, Result, Ok, Err, slice_get, refl, sym, ap, ◌∙◌, subst, eq-eqb, arith}
use Rattle.std.proofs.lemmas.Bool.Decides.{eqb_tells}
use Rattle.std.proofs.lemmas.Int.{ints}
use Rattle.ip_wire.specs.Ip.{source_of, destination_of}
use Rattle.ip_wire.specs.TcpHeader.{TcpHeader}
use Rattle.sockets.specs.Context.{ContextValue}
use Rattle.tcp_state.specs.Moments.{tsval_end_from}
use Rattle.tcp_state.specs.declared.error.RecvError.{RecvError}
use Rattle.tcp_block.specs.Calls.{recv_answer}
use Rattle.tcp_block.specs.Offers.{offer_of}
use Rattle.tcp_block.specs.Value.{TcpValue}
use Rattle.tcp_refinement.specs.Host.{Made, made_of}
use Rattle.tcp_refinement.specs.Pair.History.{side_of}
use Rattle.tcp_refinement.specs.Pair.Sides as Sides
use Rattle.tcp_refinement.specs.Pair.Sides.{at}
use Rattle.tcp_refinement.specs.Pair.Steps.{Steps, acting, acts, reads}
use Rattle.tcp_refinement.specs.Pair.Values.{PairSide, PairValue}
use Rattle.tcp_refinement.specs.declared.pair.event.PairEvent.{PairEvent}
use Rattle.tcp_refinement.specs.declared.pair.event.PairEvent.TheVariants as Ev
use Rattle.tcp_refinement.specs.declared.pair.event.SentSegment.{SentSegment}
use Rattle.tcp_refinement.specs.declared.pair.event.Side as Pairs
use Rattle.tcp_refinement.specs.declared.pair.event.Side.TheVariants as Of
use Rattle.tcp_liveness.specs.Clocks.{IsTimed, arrives_stale}
use Rattle.tcp_liveness.specs.Pair.{next_sent, socket_of}
use Rattle.tcp_liveness.specs.Reached.{IsReached}
use Rattle.tcp_liveness.specs.Rounds.{takes}
use Rattle.tcp_liveness.proofs.CourseExchange.{by_put}
use Rattle.tcp_liveness.proofs.Kept.{reached_by}
use Rattle.tcp_liveness.proofs.Overtaken.{some_at}
use Rattle.tcp_liveness.proofs.TsvalPairs.{earlier}
use Rattle.lan.specs.declared.at_link.history.event.Side.{Side}
use Rattle.lan.specs.declared.at_link.history.event.Side.TheVariants.{A, B}
use Rattle.lan.specs.Worlds.AtLink.Call as Call
use Rattle.lan.specs.Worlds.AtLink.Call.{SocketCall}
use Rattle.lan.specs.Worlds.AtLink.Calls.{at_port}
use Rattle.lan.specs.Worlds.AtLink.Happening.{Happening, called_by, clock_to, events_of_move, events_of_moves, events_of_one, goes, if_here, sent_in, setting_in, steps_of}
use Rattle.lan.specs.Worlds.AtLink.Kinds.{other}
use Rattle.lan.specs.Worlds.AtLink.Moves.{IsRun, May, Move, Step, after}
use Rattle.lan.specs.Worlds.AtLink.Moves.Move.{Invokes, Passes, Offers, Gives, Takes, Receives, Resets, Changes}
use Rattle.lan.specs.Worlds.AtLink.Paired.{Seat, Shows, clock_after, clocks_after, if_at, made_by, shown_to, side_in}
use Rattle.lan.specs.Worlds.AtLink.Parties.{Net, party, socket_at}
use Rattle.lan.specs.Worlds.AtLink.Parties.Socket.{Tcp}
use Rattle.lan.proofs.Worlds.AtLink.CallLemmas.{same_side_refl}
use Rattle.lan.proofs.Worlds.AtLink.Exchange.{same_tcp}
use Rattle.lan.proofs.Worlds.AtLink.Slots.{some_is}
use Rattle.lan.proofs.Worlds.AtLink.Paired.Parts.{back_in, other_in}
use Rattle.lan.proofs.Worlds.AtLink.Paired.Runs.{ShowsAlong, after_events}
use Rattle.lan.proofs.Worlds.AtLink.Paired.Wires.{get_mapped}
use Rattle.proof_stack.proofs.Moved.{Moves, clock_upto, shows_first}
use Rattle.proof_stack.proofs.MovedEvents.{clock_sent, next_same, sent_there}
use Rattle.proof_stack.proofs.SentNow.{IsSentAt, initial_now, sent_then, sent_with}
use Rattle.proof_stack.specs.Progress.Moving.{AreAtInstants, AreBrought, BringsAt, BringsToOther, IsAtInstant, IsBroughtBy, IsInitialFor, end_in, moves_of}

-- whatever it is
abbrev pub IsAnything : TcpValue → TcpHeader → List ℕ → Type 0
IsAnything v header bytes = Unit {0}

-- WHICH EVENTS SEND

abbrev IsSending : PairEvent → Type 0
IsSending (Ev.Offer side instant sent) = Unit {0}
IsSending (Ev.Deliver from k) = Unit {0}
IsSending event = ⊥

no_more : {X : Type 0} (sent : List SentSegment) (k : ℕ) → length sent ≤ k → k < length sent → X
no_more sent k old new = absurd (omega (arith, old, new))

module _ (s : PairSide) (k : ℕ) (old : length s.sent ≤ k) where
  read_none : (side : Pairs.Side) (n : ℕ) (got : Result ℕ RecvError) → k < length (reads s got).side.sent → IsSending (Ev.Recv side n)
  read_none side n (Ok count) new = no_more s.sent k old new
  read_none side n (Err fault) new = no_more s.sent k old new

  acts_sends : (others : List SentSegment) (event : PairEvent) → k < length (acts s others event).side.sent → IsSending event
  acts_sends others (Ev.Listen side endpoint) new = no_more s.sent k old new
  acts_sends others (Ev.Connect side remote local) new = no_more s.sent k old new
  acts_sends others (Ev.Send side bytes) new = no_more s.sent k old new
  acts_sends others (Ev.Recv side count) new = read_none side count (recv_answer s.socket count) new
  acts_sends others (Ev.Close side) new = no_more s.sent k old new
  acts_sends others (Ev.Abort side) new = no_more s.sent k old new
  acts_sends others (Ev.TcpSetting side setting) new = no_more s.sent k old new
  acts_sends others (Ev.Clock side instant) new = no_more s.sent k old new
  acts_sends others (Ev.Offer side instant sent) new = tt
  acts_sends others (Ev.Deliver from n) new = tt

event_sends : (p : PairValue) (event : PairEvent) (d : Pairs.Side) (k : ℕ) → next_sent p d ≤ k → k < next_sent (takes p event) d
    → (side_of event ≡ d) × IsSending event
event_sends p event d k old new =
    by_put (λ (s : PairSide). k < length s.sent → (side_of event ≡ d) × IsSending event) p.sides (side_of event) d (acting p event).side
    (λ own few. (
      own,
      acts_sends (at p.sides (side_of event)) k (subst (λ (x : Pairs.Side). next_sent p x ≤ k) (sym own) old) (at p.sides (Sides.other (side_of event))).sent event few,
    ))
    (λ few. no_more (at p.sides d).sent k old few) new

-- THE EVENTS OF A MOVE

-- the side of this pair sent its segment of this number when its host showed its last instant
record IsLast (d : Pairs.Side) (k : ℕ) (q : PairValue) : Type 0 where
  pub segment : SentSegment
  pub sent : IsSentAt (at q.sides d).instant d k segment q

module _ (since : ℤ) (p : PairValue) (d : Pairs.Side) (k : ℕ) (old : next_sent p d ≤ k) (r : IsReached p) where
  -- these events lead to a pair in which it was sent
  abbrev Sent : List PairEvent → Type 0
  Sent events = Steps p events (after_events p events) × IsTimed since d (after_events p events).history × (k < next_sent (after_events p events) d)

  abbrev Last : List PairEvent → Type 0
  Last events = IsLast d k (after_events p events)

  few_then : (t : Pairs.Side) (m : ℤ) → next_sent (takes p (Ev.Clock t m)) d ≤ k
  few_then t m = subst (λ (xs : List SentSegment). length xs ≤ k) (sym (clock_sent p t d m)) old

  last_of : (q : PairValue) (event : PairEvent) → IsReached q → IsTimed since d q.history → next_sent q d ≤ k → k < next_sent (takes q event) d
      → IsLast d k (takes q event)
  last_of q event reached timed few more =
      let it = some_at (at (takes q event).sides d).sent k more in
      record { segment = it.0; sent = sent_with q d event k it.0 since reached timed few it.1 }

  -- one event, before which the clock may go on
  one_sends : (t : Pairs.Side) (m : ℤ) (event : PairEvent) (b : Bool) → Sent ((if b then [] else Ev.Clock t m ∷ []) ++ event ∷ [])
      → (side_of event ≡ d) × IsSending event
  one_sends t m event true sent = event_sends p event d k old sent.2
  one_sends t m event false sent = event_sends (takes p (Ev.Clock t m)) event d k (few_then t m) sent.2

  one_last : (t : Pairs.Side) (m : ℤ) (event : PairEvent) (b : Bool) → Sent ((if b then [] else Ev.Clock t m ∷ []) ++ event ∷ [])
      → Last ((if b then [] else Ev.Clock t m ∷ []) ++ event ∷ [])
  one_last t m event true sent = last_of p event r sent.1.1 old sent.2
  one_last t m event false sent =
      last_of (takes p (Ev.Clock t m)) event (reached_by p (takes p (Ev.Clock t m)) (Ev.Clock t m ∷ []) r (sent.0.0, refl)) sent.1.1 (few_then t m) sent.2

  none_sends : {X : Type 0} (t : Pairs.Side) (m : ℤ) (b : Bool) → Sent ((if b then [] else Ev.Clock t m ∷ []) ++ []) → X
  none_sends t m true sent = no_more (at p.sides d).sent k old sent.2
  none_sends t m false sent = no_more (at (takes p (Ev.Clock t m)).sides d).sent k (few_then t m) sent.2

  call_none : {X : Type 0} (t : Pairs.Side) (m : ℤ) (b : Bool) (call : SocketCall) → Sent ((if b then [] else Ev.Clock t m ∷ []) ++ called_by t call) → X
  call_none t m b (Call.Listen port) sent = absurd (one_sends t m (Ev.Listen t (at_port port)) b sent).1
  call_none t m b (Call.Connect remote port) sent = absurd (one_sends t m (Ev.Connect t remote (at_port port)) b sent).1
  call_none t m b (Call.Send bytes) sent = absurd (one_sends t m (Ev.Send t bytes) b sent).1
  call_none t m b (Call.Recv limit) sent = absurd (one_sends t m (Ev.Recv t limit) b sent).1
  call_none t m b Call.Close sent = absurd (one_sends t m (Ev.Close t) b sent).1
  call_none t m b Call.Abort sent = absurd (one_sends t m (Ev.Abort t) b sent).1
  call_none t m b (Call.Set setting) sent = absurd (one_sends t m (Ev.TcpSetting t (setting_in setting)) b sent).1
  call_none t m b Call.State sent = none_sends t m b sent
  call_none t m b (Call.Bind port) sent = none_sends t m b sent
  call_none t m b (Call.Ident ident) sent = none_sends t m b sent
  call_none t m b (Call.SendTo remote bytes) sent = none_sends t m b sent
  call_none t m b (Call.SendIcmp remote bytes) sent = none_sends t m b sent
  call_none t m b (Call.SendRaw bytes) sent = none_sends t m b sent
  call_none t m b (Call.RecvFrom limit) sent = none_sends t m b sent

  -- only what happens at its slot
  if_sends : (X : PairValue → Type 0) (here slot : ℕ) (events : List PairEvent) → Sent (if_here here slot events)
      → (here ≡ slot → Sent events → X (after_events p events)) → X (after_events p (if_here here slot events))
  if_sends X here slot events sent own = by (eqb_tells here slot) where
    by : (((here == slot) ≡ true) × (here ≡ slot)) ⊎ (((here == slot) ≡ false) × (here ≢ slot)) → X (after_events p (if_here here slot events))
    by (inl same) =
        subst (λ (b : Bool). X (after_events p (if b then events else []))) (sym same.0)
        (own same.1 (subst (λ (b : Bool). Sent (if b then events else [])) same.0 sent))
    by (inr apart) = no_more (at p.sides d).sent k old (subst (λ (b : Bool). Sent (if b then events else [])) apart.0 sent).2

pub same_in : (t s : Side) → side_in t ≡ side_in s → t ≡ s
same_in A A is = refl
same_in B B is = refl
same_in A B is = absurd (let clash : Of.A ≡ Of.B = is in cc)
same_in B A is = absurd (let clash : Of.B ≡ Of.A = is in cc)

shown_at : (clock : ℤ) (here slot : ℕ) (cx : ContextValue) (now : ℤ) → here ≡ slot → cx.instant ≡ now → clock_after clock (if_at here slot cx) ≡ now
shown_at clock here slot cx now same is =
    ap (λ (b : Bool). clock_after clock (if b then Some cx else None)) (eq-eqb here slot same) ∙ is

-- A move by which a side sends its segment of this number is its own, at the instant of the one clock.
module _ (since now last : ℤ) (slot : ℕ) (t side : Side) (number k : ℕ) (p : PairValue) (old : next_sent p (side_in side) ≤ k) (r : IsReached p) where
  abbrev Sends : Move → PairValue → Type 0
  Sends move q = (t ≡ side) × (clock_after last (shown_to slot move) ≡ now) × IsLast (side_in side) k q

  abbrev Sent_by : List PairEvent → Type 0
  Sent_by events = Sent since p (side_in side) k old r events

  move_sends : (move : Move) → Sent_by (events_of_move slot last t number move) → IsAtInstant now last slot move
      → Sends move (after_events p (events_of_move slot last t number move))
  move_sends (Invokes here cx was entry call new) sent is =
      if_sends since p (side_in side) k old r (Sends (Invokes here cx was entry call new)) here slot (clock_to (side_in t) last cx.instant ++ called_by (side_in t) call)
      sent (λ same own. call_none since p (side_in side) k old r (side_in t) cx.instant (int_le cx.instant last) call own)
  move_sends (Offers here cx v from went) sent is =
      let event : PairEvent = Ev.Offer (side_in t) cx.instant (goes (offer_of cx v).socket.offered went) in
      if_sends since p (side_in side) k old r (Sends (Offers here cx v from went)) here slot (event ∷ []) sent
      (λ same own. (
        same_in t side (event_sends p event (side_in side) k old own.2).0,
        shown_at last here slot cx now same (is same),
        last_of since p (side_in side) k old r p event r own.1.1 old own.2,
      ))
  move_sends (Takes here cx v ip header bytes) sent is =
      let event : PairEvent = Ev.Deliver (side_in (other t)) number in
      if_sends since p (side_in side) k old r (Sends (Takes here cx v ip header bytes)) here slot (clock_to (side_in t) last cx.instant ++ event ∷ []) sent
      (λ same own. (
        same_in t side (sym (back_in t) ∙ (one_sends since p (side_in side) k old r (side_in t) cx.instant event (int_le cx.instant last) own).0),
        shown_at last here slot cx now same (is same),
        one_last since p (side_in side) k old r (side_in t) cx.instant event (int_le cx.instant last) own,
      ))
  move_sends (Passes entry) sent is = no_more (at p.sides (side_in side)).sent k old sent.2
  move_sends (Gives here cx v answer new went) sent is = no_more (at p.sides (side_in side)).sent k old sent.2
  move_sends (Receives here cx v ip udp bytes) sent is = no_more (at p.sides (side_in side)).sent k old sent.2
  move_sends (Resets x) sent is = no_more (at p.sides (side_in side)).sent k old sent.2
  move_sends (Changes here was new) sent is = no_more (at p.sides (side_in side)).sent k old sent.2

-- STEPS

steps_parts : (p q : PairValue) (events more : List PairEvent) → Steps p (events ++ more) q
    → Steps p events (after_events p events) × Steps (after_events p events) more q
steps_parts p q [] more s = (refl, s)
steps_parts p q (event ∷ events) more s = let rest = steps_parts (takes p event) q events more s.1 in ((s.0, rest.0), rest.1)

-- ALL MOVES

no_later : (t : ℤ) → t ≤ℤ t
no_later t = omega (arith, ints)

in_turn : (a b c : ℤ) → a ≤ℤ b → b ≤ℤ c → a ≤ℤ c
in_turn a b c one two = omega (arith, ints, one, two)

at_once : (now t : ℤ) → t ≤ℤ (now +ℤ pos 0) → t ≤ℤ now
at_once now t soon = omega (arith, ints, soon)

same_time : (a b : ℤ) → a ≡ b → a ≤ℤ b
same_time a b is = omega (arith, ints, is)

module _ (names : List ℕ → Bool) (seats : Side → Seat) (since : Side → ℤ) (begun : (s : Side) → pos 0 ≤ℤ since s) (last : ℤ)
    (within : (s : Side) → last ≤ℤ tsval_end_from (since s)) (q : PairValue) (timed : (s : Side) → IsTimed (since s) (side_in s) q.history) where
  -- the pair shows each net on the way, at instants of the one clock
  pub record Shown (clocks : Side → ℤ) (net : Net) (p : PairValue) (now : ℤ) (moves : Moves) : Type 0 where
    pub along : ShowsAlong seats clocks net p (moves_of moves)
    pub may : IsRun names net (steps_of (moves_of moves))
    pub instants : AreAtInstants seats clocks now moves
    pub low : (s : Side) → clocks s ≤ℤ now
    pub until : end_in now moves ≤ℤ last
    pub reached : IsReached p
    pub steps : Steps p (events_of_moves seats clocks (moves_of moves)) q

  abbrev clocks_on : (Side → ℤ) → Happening → Side → ℤ
  clocks_on clocks x = clocks_after seats clocks x.step

  abbrev pair_on : (Side → ℤ) → PairValue → Happening → PairValue
  pair_on clocks p x = after_events p (events_of_one seats clocks x)

  on : (clocks : Side → ℤ) (net : Net) (p : PairValue) (now : ℤ) (x : ℤ × Happening) (more : Moves) → Shown clocks net p now (x ∷ more)
      → Shown (clocks_on clocks x.1) (after net x.1.step) (pair_on clocks p x.1) x.0 more
  on clocks net p now x more g =
      let parts = steps_parts p q (events_of_one seats clocks x.1) (events_of_moves seats (clocks_on clocks x.1) (moves_of more)) g.steps in
      record {
        along = g.along.1;
        may = g.may.1;
        instants = g.instants.2;
        low = λ s. clock_upto seats Of.A clocks now x.0 x.1.step.side s x.1.step.move (g.low s) g.instants.0 g.instants.1;
        until = g.until;
        reached = reached_by p (pair_on clocks p x.1) (events_of_one seats clocks x.1) g.reached parts.0;
        steps = parts.1;
      }

  timed_at : (clocks : Side → ℤ) (net : Net) (p : PairValue) (now : ℤ) (moves : Moves) → Shown clocks net p now moves → (s : Side)
      → IsTimed (since s) (side_in s) p.history
  timed_at clocks net p now moves g s = earlier (since s) (side_in s) p (events_of_moves seats clocks (moves_of moves)) q g.steps (timed s)

  ends_later : (moves : Moves) (clocks : Side → ℤ) (now : ℤ) → AreAtInstants seats clocks now moves → now ≤ℤ end_in now moves
  ends_later [] clocks now instants = no_later now
  ends_later (x ∷ more) clocks now instants =
      in_turn now x.0 (end_in x.0 more) instants.0 (ends_later more (clocks_on clocks x.1) x.0 instants.2)

  -- A SEGMENT COMES

  module _ (side : Side) (k : ℕ) (x : SentSegment) (instant : ℤ) (soon : instant ≤ℤ last) where
    abbrev Sent_in : PairValue → Type 0
    Sent_in p = IsSentAt instant (side_in side) k x p

    module _ (clocks : Side → ℤ) (net : Net) (p : PairValue) (now : ℤ) (moves : Moves) (g : Shown clocks net p now moves) (until : now ≤ℤ instant)
        (sent : Sent_in p) where
      sh : Shows seats clocks net p
      sh = shows_first seats Of.A clocks net p (moves_of moves) g.along

      old_enough : arrives_stale (socket_of p (side_in (other side))).tcb x.segment.options.timestamp ≡ false
      old_enough =
          subst (λ (d : Pairs.Side). arrives_stale (socket_of p d).tcb x.segment.options.timestamp ≡ false) (sym (other_in side))
          (initial_now (since side) instant (side_in side) k x p (begun side) (in_turn instant last (tsval_end_from (since side)) soon (within side)) g.reached
          (timed_at clocks net p now moves g side)
          (in_turn (at p.sides (side_in side)).instant (clocks side) instant (same_time (at p.sides (side_in side)).instant (clocks side) (sh.clock side))
          (in_turn (clocks side) now instant (g.low side) until)) sent)

      takes_initial : (v : TcpValue) (header : TcpHeader) (made : Made) → made.header ≡ header
          → socket_at (party net (other side)) (seats (other side)).slot ≡ Some (Tcp v) → slice_get (sent_in seats net side) k ≡ Some made
          → arrives_stale v.tcb header.options.timestamp ≡ false
      takes_initial v header made of stands got =
          let here : socket_of p (side_in (other side)) ≡ v =
          same_tcp (socket_of p (side_in (other side))) v (some_is (Tcp (socket_of p (side_in (other side)))) (Tcp v) (sym (sh.socket (other side)) ∙ stands)) in
          let as_made : made_by x ≡ made =
          some_is (made_by x) made
          (sym (get_mapped made_by (at p.sides (side_in side)).sent k x sent.has)
          ∙ ap (λ (xs : List Made). slice_get xs k) (sym (sent_there names seats clocks net p sh side side)) ∙ got) in
          subst (λ (w : TcpValue). arrives_stale w.tcb header.options.timestamp ≡ false) here
          (subst (λ (h : TcpHeader). arrives_stale (socket_of p (side_in (other side))).tcb h.options.timestamp ≡ false)
          (ap (λ (m : Made). m.header) as_made ∙ of) old_enough)

      brings_initial : (move : Move) → May names net (other side) move → BringsAt IsAnything (seats (other side)).slot (sent_in seats net side) k move
          → BringsAt IsInitialFor (seats (other side)).slot (sent_in seats net side) k move
      brings_initial (Takes here cx v ip header bytes) may brings = (
        brings.0,
        brings.1,
        takes_initial v header (made_of (source_of ip) (destination_of ip) header bytes) refl
            (subst (λ (i : ℕ). socket_at (party net (other side)) i ≡ Some (Tcp v)) brings.0 may.0) brings.1,
      )
      brings_initial (Invokes here cx was entry call new) may brings = absurd brings
      brings_initial (Passes entry) may brings = absurd brings
      brings_initial (Offers here cx v from went) may brings = absurd brings
      brings_initial (Gives here cx v answer new went) may brings = absurd brings
      brings_initial (Receives here cx v ip udp bytes) may brings = absurd brings
      brings_initial (Resets y) may brings = absurd brings
      brings_initial (Changes here was new) may brings = absurd brings

    brought_initial : (moves : Moves) (clocks : Side → ℤ) (net : Net) (p : PairValue) (now : ℤ) → Shown clocks net p now moves → now ≤ℤ instant → Sent_in p
        → IsBroughtBy IsAnything seats (instant +ℤ pos 0) side k net moves → IsBroughtBy IsInitialFor seats (instant +ℤ pos 0) side k net moves
    brought_initial [] clocks net p now g until sent brought = tt
    brought_initial (y ∷ more) clocks net p now g until sent brought = (
      brought.0,
      by
          (λ later.
          brought_initial more (clocks_on clocks y.1) (after net y.1.step) (pair_on clocks p y.1) y.0 next (at_once instant y.0 brought.0) then_sent later)
          brought.1,
    )
      where
        next : Shown (clocks_on clocks y.1) (after net y.1.step) (pair_on clocks p y.1) y.0 more
        next = on clocks net p now y more g

        then_sent : Sent_in (pair_on clocks p y.1)
        then_sent =
            sent_then (since side) instant (side_in side) k x p (pair_on clocks p y.1) (events_of_one seats clocks y.1) g.reached
            (steps_parts p q (events_of_one seats clocks y.1) (events_of_moves seats (clocks_on clocks y.1) (moves_of more)) g.steps).0
            (timed_at (clocks_on clocks y.1) (after net y.1.step) (pair_on clocks p y.1) y.0 more next side) sent

        by : (IsBroughtBy IsAnything seats (instant +ℤ pos 0) side k (after net y.1.step) more
            → IsBroughtBy IsInitialFor seats (instant +ℤ pos 0) side k (after net y.1.step) more)
            → BringsToOther IsAnything seats net side k y.1.step ⊎ IsBroughtBy IsAnything seats (instant +ℤ pos 0) side k (after net y.1.step) more
            → BringsToOther IsInitialFor seats net side k y.1.step ⊎ IsBroughtBy IsInitialFor seats (instant +ℤ pos 0) side k (after net y.1.step) more
        by on_later (inl brings) =
            inl (
              brings.0,
              brings_initial clocks net p now (y ∷ more) g until sent y.1.step.move (subst (λ (s : Side). May names net s y.1.step.move) brings.0 g.may.0) brings.1,
            )
        by on_later (inr later) = inr (on_later later)

  -- A SEGMENT GOES

  -- with a move, at its instant
  goes_now : (clocks : Side → ℤ) (net : Net) (p : PairValue) (now : ℤ) (x : ℤ × Happening) (more : Moves) → Shown clocks net p now (x ∷ more)
      → (side : Side) (k : ℕ) → length (sent_in seats net side) ≤ k → k < length (sent_in seats (after net x.1.step) side)
      → (y : SentSegment) × IsSentAt x.0 (side_in side) k y (pair_on clocks p x.1)
  goes_now clocks net p now x more g side k old new =
      let next = on clocks net p now x more g in
      let p1 : PairValue = pair_on clocks p x.1 in
      let step : Step = x.1.step in
      let sh : Shows seats (clocks_on clocks x.1) (after net step) p1 =
      shows_first seats Of.A (clocks_on clocks x.1) (after net step) p1 (moves_of more) next.along in
      let before : next_sent p (side_in side) ≤ k =
      subst (λ (n : ℕ). n ≤ k) (next_same names seats clocks net p g.along.0 side side) old in
      let following : k < next_sent p1 (side_in side) =
      subst (λ (n : ℕ). k < n) (next_same names seats (clocks_on clocks x.1) (after net step) p1 sh side side) new in
      let parts = steps_parts p q (events_of_one seats clocks x.1) (events_of_moves seats (clocks_on clocks x.1) (moves_of more)) g.steps in
      let it =
      move_sends (since side) x.0 (clocks step.side) (seats step.side).slot step.side side x.1.number k p before g.reached step.move
      (parts.0, timed_at (clocks_on clocks x.1) (after net step) p1 x.0 more next side, following) g.instants.1 in
      let own : clocks_on clocks x.1 step.side ≡ x.0 =
      ap (λ (b : Bool). if b then clock_after (clocks step.side) (shown_to (seats step.side).slot step.move) else clocks step.side) (same_side_refl step.side)
      ∙ it.1 in
      let showed : (at p1.sides (side_in side)).instant ≡ x.0 = sh.clock side ∙ subst (λ (s : Side). clocks_on clocks x.1 s ≡ x.0) it.0 own in
      (it.2.segment, subst (λ (m : ℤ). IsSentAt m (side_in side) k it.2.segment p1) showed it.2.sent)

  pub all_initial : (moves : Moves) (clocks : Side → ℤ) (net : Net) (p : PairValue) (now : ℤ) → Shown clocks net p now moves
      → AreBrought IsAnything seats 0 net moves → AreBrought IsInitialFor seats 0 net moves
  all_initial [] clocks net p now g are = tt
  all_initial (x ∷ more) clocks net p now g are =
      let next = on clocks net p now x more g in (
        λ side k old new. (
            let one = goes_now clocks net p now x more g side k old new in
            brought_initial side k one.0 x.0 (in_turn x.0 (end_in x.0 more) last (ends_later more (clocks_on clocks x.1) x.0 next.instants) g.until) more
            (clocks_on clocks x.1) (after net x.1.step) (pair_on clocks p x.1) x.0 next (no_later x.0) one.1 (are.0 side k old new)),
        all_initial more (clocks_on clocks x.1) (after net x.1.step) (pair_on clocks p x.1) x.0 next are.1,
      )
