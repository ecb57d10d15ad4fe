-- Space that is free in a receive buffer stays so until more is taken; and a user that reads frees some.
use Rattle.std.proofs.Common.{◌≡◌, ◌⊎◌, inl, inr, ℕ, ◌+◌, ◌-◌, ◌<◌, ◌≤◌, ◌==◌, ◌&&◌, ◌||◌, nat_lt, not, min, Bool, true, false, if◌then◌else◌}
use Rattle.std.proofs.Common.{List, [], ◌∷◌, ◌++◌, length, take, Option, Some, None, is_some, Result, Ok, Err, slice_get, refl, sym, ap, ◌∙◌, subst, arith}
use Rattle.std.proofs.Common.{length-append, length-take}
use Rattle.std.proofs.lemmas.Bool.{cond_both, ltb-false, ltb-true, ne_eqb}
use Rattle.net_base.specs.Ring.{anchored, enqueued}
use Rattle.ip_wire.specs.IpRepr.{IpRepr}
use Rattle.ip_wire.specs.TcpHeader.{TcpHeader}
use Rattle.tcp_theory.specs.ReceiveMap.{front, following, space}
use Rattle.tcp_refinement.specs.Context.{ContextValue}
use Rattle.tcp_refinement.specs.Offers.{Offered}
use Rattle.tcp_refinement.specs.Tie.{Past}
use Rattle.tcp_refinement.proofs.CallMoves.{length-space}
use Rattle.tcp_invariants.specs.FourTuple.{FourTuple}
use Rattle.tcp_invariants.specs.RecvError.{RecvError}
use Rattle.tcp_invariants.specs.State.{State}
use Rattle.tcp_invariants.specs.State.TheVariants as In
use Rattle.tcp_invariants.specs.States.{after_close, is_answering, is_closed, is_opening, is_time_wait, accepts_data, takes_writes}
use Rattle.tcp_invariants.proofs.ArrivalCases.{by_arrival, Received, Opening, Content, Drawing, acked_open, heeded, timed}
use Rattle.tcp_invariants.proofs.OfferCases.{FirstRules, by_rules, begun}
use Rattle.tcp_invariants.proofs.OrderSteps.{clash}
use Rattle.tcp_block.specs.Acknowledged.{windowed}
use Rattle.tcp_block.specs.Arrival.{arrives, waiting_anew}
use Rattle.tcp_block.specs.declared.tcb.Tcb.{Tcb}
use Rattle.tcp_block.specs.TcbRules.{one_if}
use Rattle.tcp_block.specs.Calls.{connected_by, listening, nothing_left, or_count, four_tuple_for, recv_answer, sent_more}
use Rattle.tcp_block.specs.Isn.{number_for}
use Rattle.tcp_refinement.specs.Pair.History.{adds, pasts, side_of}
use Rattle.tcp_block.specs.LossRecovery.{loss_probed}
use Rattle.tcp_block.specs.Names.{accepts}
use Rattle.tcp_block.specs.Offers.{offer_of}
use Rattle.tcp_block.specs.Retries.{heard}
use Rattle.tcp_block.specs.Rules.{backed_off_now}
use Rattle.tcp_block.specs.Settled.{settled}
use Rattle.tcp_refinement.specs.Pair.Sides.{Both, at, other, put}
use Rattle.tcp_refinement.specs.Pair.Steps.{Steps, acting, handed, reads, set_by, taken_at}
use Rattle.tcp_block.specs.Timestamps.{tsval_taken}
use Rattle.tcp_block.specs.Value.{TcpValue, Received as Buffer, Arrived, ended, free_in, room_of, unoffered, with_tcb}
use Rattle.tcp_refinement.specs.Pair.Values.{PairSide, PairValue, context_at}
use Rattle.tcp_refinement.specs.declared.pair.event.PairEvent.{PairEvent}
use Rattle.tcp_refinement.specs.declared.pair.event.PairEvent.TheVariants.{Listen, Connect, Send, Recv, Close, Abort, TcpSetting, Clock, Offer, Deliver}
use Rattle.tcp_refinement.specs.declared.pair.event.SentSegment.{SentSegment}
use Rattle.tcp_refinement.specs.declared.pair.event.Side.{Side}
use Rattle.tcp_refinement.specs.declared.pair.event.Side.TheVariants.{A, B}
use Rattle.tcp_refinement.specs.declared.pair.event.TcpSetting.{TcpSetting as Setting}
use Rattle.tcp_refinement.specs.declared.pair.event.TcpSetting.TheVariants as Set
use Rattle.tcp_liveness.specs.Arrivals.{is_synchronized}
use Rattle.tcp_liveness.specs.BothWays.{AreThere}
use Rattle.tcp_liveness.specs.Course.{IsShutAmong, events_of}
use Rattle.tcp_liveness.specs.Pair.{socket_of}
use Rattle.tcp_liveness.specs.Reached.{IsReached}
use Rattle.tcp_liveness.specs.Readers.{Reads}
use Rattle.tcp_liveness.specs.Rounds.{takes}
use Rattle.tcp_liveness.specs.Sent.{is_early, taken_in}
use Rattle.tcp_liveness.proofs.CourseParts.{Course, there_before}
use Rattle.tcp_liveness.proofs.Kept.{reached_by}
use Rattle.tcp_liveness.proofs.LatePayload.{there_of}
use Rattle.tcp_liveness.proofs.OnwardPairs.{IsBegun, MovesIn, begun_after, by_steps, came_of}
use Rattle.tcp_liveness.proofs.Pair.{late_in, not_closed}
use Rattle.tcp_liveness.proofs.PutOffRuns.{begun_of}
use Rattle.tcp_liveness.proofs.WindowSteps.{as_large}

early_answering : (state : State) → is_answering state ≡ true → is_early state ≡ true
early_answering In.SynReceived e = refl
early_answering other e = clash (sym e)

and_first : (a b : Bool) → (a && b) ≡ true → a ≡ true
and_first true b e = refl
and_first false b e = e

one_most : (t : Bool) → one_if t ≤ 1
one_most true = omega arith
one_most false = omega arith

-- how much came, as far as it isn't read
abbrev waits_of : TcpValue → ℕ
waits_of v = length v.received.waiting + one_if v.tcb.receiver.took_fin

-- as much is free, or more came
abbrev Frees : TcpValue → TcpValue → Type 0
Frees v w = (free_in v ≤ free_in w) ⊎ (waits_of v < waits_of w)

itself : (n : ℕ) → n ≤ n
itself n = omega arith

no_less : (a b : ℕ) → a ≡ b → b ≤ a
no_less a b e = omega arith

-- A SEGMENT COMES

module _ (cx : ContextValue) (ip : IpRepr) (header : TcpHeader) (bytes : List ℕ) (v : TcpValue) (late : is_early v.tcb.state ≡ false) where
  abbrev FreesBy : Arrived → Type 0
  FreesBy a = Frees v a.socket

  drawing : (x : TcpValue) → Frees v x → Drawing cx ip header bytes FreesBy x
  drawing x h = record { answers = λ _. h; at_once = h; pauses = h }

  -- payload in order
  ordered :
      (map : List (Option ℕ)) (waiting : List ℕ) (free : ℕ) (fin after : ℕ) → length map ≡ free → fin ≤ after
      → (free ≤ length (following map)) ⊎ (length waiting + fin < length (waiting ++ front map) + after)
  ordered map waiting free fin after is e = by (nat_lt (length waiting) (length (waiting ++ front map))) refl where
    more : (a b c d : ℕ) → a < b → c ≤ d → a + c < b + d
    more a b c d e f = omega arith

    none : (waiting both following free : ℕ) → both + following ≡ waiting + free → both ≤ waiting → free ≤ following
    none waiting both following free e f = omega arith

    by : (test : Bool) → nat_lt (length waiting) (length (waiting ++ front map)) ≡ test →
        (free ≤ length (following map)) ⊎ (length waiting + fin < length (waiting ++ front map) + after)
    by true f = inr (more (length waiting) (length (waiting ++ front map)) fin after (ltb-true (length waiting) (length (waiting ++ front map)) f) e)
    by false f =
        inl
        (none (length waiting) (length (waiting ++ front map)) (length (following map)) free (as_large map waiting free is)
        (ltb-false (length waiting) (length (waiting ++ front map)) f))

  content : (x : TcpValue) → x.received ≡ v.received → x.tcb.receiver.took_fin ≡ v.tcb.receiver.took_fin → Content cx ip header bytes FreesBy x
  content x same fin = record {
    plain = (λ _. inl free, inl free);
    fin = λ _ _. (λ _. inl free, inl free);
    ordered = λ map is _ _.
        let it = from (length (x.received.waiting ++ front map) + one_if x.tcb.receiver.took_fin) (length (following map))
        (ordered map x.received.waiting (free_in x) (one_if x.tcb.receiver.took_fin) (one_if x.tcb.receiver.took_fin) is
        (itself (one_if x.tcb.receiver.took_fin))) in (λ _. it, it);
    ordered_fin = λ map is _ _.
        let it = from (length (x.received.waiting ++ front map) + 1) (length (following map))
        (ordered map x.received.waiting (free_in x) (one_if x.tcb.receiver.took_fin) 1 is (one_most x.tcb.receiver.took_fin)) in (λ _. it, it);
    early = λ map offset is _. inl (no_less (length map) (free_in v) (is ∙ ap length (ap (λ (r : Buffer). r.map) same)));
  }
    where
      free : free_in v ≤ free_in x
      free = no_less (free_in x) (free_in v) (ap (λ (r : Buffer). length r.map) same)

      was : waits_of x ≡ waits_of v
      was =
          ap (λ (r : Buffer). length r.waiting + one_if x.tcb.receiver.took_fin) same
          ∙ ap (λ (t : Bool). length v.received.waiting + one_if t) fin

      from : (came left : ℕ) → (free_in x ≤ left) ⊎ (waits_of x < came) → (free_in v ≤ left) ⊎ (waits_of v < came)
      from came left (inl e) = inl (subst (λ (r : Buffer). length r.map ≤ left) same e)
      from came left (inr e) = inr (subst (λ (n : ℕ). n < came) was e)

  received : Received cx ip header bytes FreesBy (unoffered v)
  received = record {
    stays = inl (itself _);
    refuses = inl (itself _);
    draws = drawing (unoffered v) (inl (itself _));
    falls = λ _ _ falls. clash (sym (early_answering v.tcb.state (and_first (is_answering v.tcb.state) _ falls)) ∙ late);
    ends = λ _ _ _. inl (itself _);
    closes = λ _ _ _. inl (itself _);
    taken = λ by _ _.
        content (heeded cx.instant header (length bytes) (unoffered v) by (acked_open (timed cx.instant header (unoffered v) by) by cx.instant).tcb) refl refl;
    taken_window = λ by _ _.
        content
        (heeded cx.instant header (length bytes) (unoffered v) by
        (windowed (acked_open (timed cx.instant header (unoffered v) by) by cx.instant).tcb header))
        refl refl;
    news = λ by _ _. drawing (waiting_anew (acked_open (timed cx.instant header (unoffered v) by) by cx.instant) header cx.instant) (inl (itself _));
    outside = drawing (waiting_anew (unoffered v) header cx.instant) (inl (itself _));
    old = λ _. content (with_tcb (unoffered v) (tsval_taken (heard v.tcb) header cx.instant)) refl refl;
  }

  opening : Opening cx ip header bytes FreesBy (unoffered v)
  opening = record {
    opens = λ at _. clash (sym (ap is_early at) ∙ late);
    refuses = inl (itself _);
    ends = λ at. clash (sym (ap is_early at) ∙ late);
    connects = λ at _. clash (sym (ap is_early at) ∙ late);
    crosses = λ at _. clash (sym (ap is_early at) ∙ late);
  }

  arrival_frees : Frees v (arrives cx v ip header bytes).socket
  arrival_frees = by_arrival cx ip header bytes FreesBy v (inl (itself _)) (λ _. opening) (λ _. received)

-- AN OFFER

module _ (cx : ContextValue) (v : TcpValue) (late : is_early v.tcb.state ≡ false) where
  abbrev Same : Offered TcpValue → Type 0
  Same o = (free_in (settled true o.socket) ≡ free_in v) × (free_in (settled false o.socket) ≡ free_in v)

  same_first : (pair : FourTuple) (b : Tcb) → FirstRules cx pair Same (with_tcb (unoffered v) b)
  same_first pair b = record {
    syn = λ _. (refl, refl);
    again = λ _ _. (refl, refl);
    payload = λ _ _. (refl, refl);
    last = λ _.
        record {
          probe = λ _ _. (refl, refl);
          window_limited = λ _ _. (refl, refl);
          ack = λ _. (refl, refl);
          update = λ _ _. (refl, refl);
          keep_alive = λ _ _. (refl, refl);
          quiet = λ _. (refl, refl);
        };
  }

  offer_same : Same (offer_of cx v)
  offer_same =
      by_rules cx v Same
      (record {
        nobody = λ _. (refl, refl);
        time_wait = λ _. (refl, refl);
        timeout = λ _. (refl, refl);
        closed = λ _. (refl, refl);
        reset = λ _ _ _. (refl, refl);
        falls = λ _ _ falls. clash (sym (early_answering v.tcb.state (and_first (is_answering v.tcb.state) _ falls)) ∙ late);
        over = λ _ _ _. (refl, refl);
        backs = λ pair _ _ _. same_first pair (backed_off_now (begun cx v));
        probes = λ pair _ _ _ _. same_first pair (loss_probed (begun cx v));
        goes = λ pair _ _ _. same_first pair (begun cx v);
      })

-- EVENTS

-- as much is free, or more was taken
abbrev Opens : TcpValue → Past → TcpValue → Past → Type 0
Opens v x w y = (free_in v ≤ free_in w) ⊎ (came_of v x < came_of w y)

with_read : (v w : TcpValue) (x : Past) → Frees v w → Opens v x w x
with_read v w x (inl e) = inl e
with_read v w x (inr e) =
    inr
    (by (length x.read) (length v.received.waiting) (length w.received.waiting) (one_if v.tcb.receiver.took_fin) (one_if w.tcb.receiver.took_fin)
    (length-append x.read v.received.waiting) (length-append x.read w.received.waiting) e) where
      by : (read old new fin after : ℕ) {one two : ℕ} → one ≡ read + old → two ≡ read + new → old + fin < new + after → one + fin < two + after
      by read old new fin after a b c = omega arith

by_delivery : (side : Side) (s : PairSide) (x : Option SentSegment) → is_early s.socket.tcb.state ≡ false → Frees s.socket (handed side s x).socket
by_delivery side s None late = inl (itself _)
by_delivery side s (Some x) late =
    cond_both (accepts s.socket.tcb x.header x.segment) (taken_at s (arrives (context_at side s) s.socket x.header x.segment x.bytes)) s
    (λ (new : PairSide). Frees s.socket new.socket) (λ _. arrival_frees (context_at side s) x.header x.segment x.bytes s.socket late) (λ _. inl (itself _))

by_read : (s : PairSide) (r : Result ℕ RecvError) → free_in s.socket ≤ free_in (reads s r).side.socket
by_read s (Ok n) = longer s.socket.received.map _ where
  longer : (xs ys : List (Option ℕ)) → length xs ≤ length (xs ++ ys)
  longer xs ys = subst (λ (n : ℕ). length xs ≤ n) (sym (length-append xs ys)) (more (length xs) (length ys)) where
    more : (a b : ℕ) → a ≤ a + b
    more a b = omega arith
by_read s (Err fault) = itself _

-- a user that reads a byte at least frees one
read_frees : (s : PairSide) (count : ℕ) → 1 ≤ count → 1 ≤ room_of s.socket.received → 1 ≤ free_in (reads s (recv_answer s.socket count)).side.socket
read_frees s count some room = by (nat_lt 0 free) refl where
  v : TcpValue
  v = s.socket

  free : ℕ
  free = free_in v

  waits : ℕ
  waits = length v.received.waiting

  full : free ≤ 0 → 1 ≤ waits
  full e = all waits free room e where
    all : (a b : ℕ) → 1 ≤ a + b → b ≤ 0 → 1 ≤ a
    all a b e f = omega arith

  second : (a b : Bool) → b ≡ true → (a || b) ≡ true
  second true b e = refl
  second false b e = e

  some_wait : 1 ≤ waits → (accepts_data v.tcb.state || not (waits == 0)) ≡ true
  some_wait e = second (accepts_data v.tcb.state) (not (waits == 0)) (ap not (ne_eqb waits 0 (never waits e))) where
    never : (n : ℕ) → 1 ≤ n → n ≡ 0 → ⊥
    never n e f = absurd (omega arith)

  answer : 1 ≤ waits → recv_answer v count ≡ Ok (min count waits)
  answer e = ap (λ (t : Bool). or_count (if t then None else Some (nothing_left v.tcb.receiver.took_fin)) (min count waits)) (some_wait e)

  gets : 1 ≤ waits → 1 ≤ length (v.received.map ++ space (length (take (min count waits) v.received.waiting)))
  gets e =
      by (length v.received.map) count waits
      (length-append v.received.map (space (length (take (min count waits) v.received.waiting))))
      (length-space (length (take (min count waits) v.received.waiting)) ∙ length-take (min count waits) v.received.waiting) some e
    where
      by : (map count waits : ℕ) {both more : ℕ} → both ≡ map + more → more ≡ min (min count waits) waits → 1 ≤ count → 1 ≤ waits → 1 ≤ both
      by map count waits a b c d = omega arith

  more : (a b : ℕ) → 0 < a → a ≤ b → 1 ≤ b
  more a b e f = omega arith

  by : (test : Bool) → nat_lt 0 free ≡ test → 1 ≤ free_in (reads s (recv_answer s.socket count)).side.socket
  by true e = more free (free_in (reads s (recv_answer s.socket count)).side.socket) (ltb-true 0 free e) (by_read s (recv_answer s.socket count))
  by false e =
      let waiting = full (ltb-false 0 free e) in
      subst (λ (r : Result ℕ RecvError). 1 ≤ free_in (reads s r).side.socket) (sym (answer waiting)) (gets waiting)

pub reads_free : (p : PairValue) (event : PairEvent) (side : Side) → Reads side event → 1 ≤ room_of (socket_of p side).received →
    1 ≤ free_in (socket_of (takes p event) side)
reads_free p (Recv A count) A some room = read_frees p.sides.a count some.1 room
reads_free p (Recv B count) B some room = read_frees p.sides.b count some.1 room
reads_free p (Recv A count) B some room = absurd (let no = some.0 in cc)
reads_free p (Recv B count) A some room = absurd (let no = some.0 in cc)
reads_free p (Listen of endpoint) side never room = absurd never
reads_free p (Connect of remote local) side never room = absurd never
reads_free p (Send of bytes) side never room = absurd never
reads_free p (Close of) side never room = absurd never
reads_free p (Abort of) side never room = absurd never
reads_free p (TcpSetting of setting) side never room = absurd never
reads_free p (Clock of instant) side never room = absurd never
reads_free p (Offer of instant sent) side never room = absurd never
reads_free p (Deliver from k) side never room = absurd never

by_setting : (setting : Setting) (v : TcpValue) → free_in v ≤ free_in (set_by setting v)
by_setting (Set.Timeout duration) v = itself _
by_setting (Set.AckDelay duration) v = itself _
by_setting (Set.KeepAlive interval) v = itself _
by_setting (Set.NagleEnabled enabled) v = itself _
by_setting (Set.HopLimit limit) v = itself _
by_setting (Set.TsvalGenerator generator) v = itself _
by_setting (Set.CongestionControl control) v = itself _
by_setting (Set.PauseSynack paused) v = itself _
by_setting (Set.Retries limit) v = itself _
by_setting (Set.MinRto duration) v = itself _
by_setting (Set.FineTimer fine) v = itself _

closed_not : {A : Type 0} (state : State) (b : Bool) → is_synchronized state ≡ true → (is_closed state && b) ≡ true → A
closed_not state b there e = clash (sym (and_first (is_closed state) b e) ∙ not_closed state there)

abbrev OpensBy : PairValue → PairEvent → Side → PairSide → Past → Type 0
OpensBy p event side new y = Opens (socket_of p side) (at (pasts p.history) side) new.socket y

by_own :
    (p : PairValue) (event : PairEvent) → is_synchronized (socket_of p (side_of event)).tcb.state ≡ true
    → OpensBy p event (side_of event) (acting p event).side
    (adds event (acting p event).answer (at p.sides (side_of event)).socket.tcb.state (at (pasts p.history) (side_of event)))
by_own p (Listen side endpoint) there =
    let v = socket_of p side in
    inl
    (cond_both (is_closed v.tcb.state && not (endpoint.port == 0)) (listening v endpoint) (unoffered v) (λ (w : TcpValue). free_in v ≤ free_in w)
    (λ closed. closed_not v.tcb.state (not (endpoint.port == 0)) there closed) (λ _. itself _))
by_own p (Connect side remote local) there =
    let v = socket_of p side in
    let cx = context_at side (at p.sides side) in
    inl
    (cond_both (is_closed v.tcb.state) (connected_by v (four_tuple_for cx remote local) (number_for cx (four_tuple_for cx remote local))) (unoffered v)
    (λ (w : TcpValue). free_in v ≤ free_in w) (λ closed. clash (sym closed ∙ not_closed v.tcb.state there)) (λ _. itself _))
by_own p (Send side bytes) there =
    let v = socket_of p side in
    inl
    (cond_both (takes_writes v.tcb.state) (sent_more v (enqueued (anchored v.queued) (take (min (length bytes) (length v.queued.free)) bytes)))
    (unoffered v) (λ (w : TcpValue). free_in v ≤ free_in w) (λ _. itself _) (λ _. itself _))
by_own p (Recv side count) there = inl (by_read (at p.sides side) (recv_answer (socket_of p side) count))
by_own p (Close side) there =
    let v = socket_of p side in
    inl
    (cond_both (is_opening v.tcb.state) (ended (unoffered v)) (with_tcb (unoffered v) (record v.tcb { state = after_close v.tcb.state }))
    (λ (w : TcpValue). free_in v ≤ free_in w) (λ _. itself _) (λ _. itself _))
by_own p (Abort side) there =
    let v = socket_of p side in
    inl
    (cond_both (is_time_wait v.tcb.state) (ended (unoffered v))
    (with_tcb (unoffered v) (record v.tcb { state = In.Closed; sender = record v.tcb.sender { reset_due = is_some v.tcb.names.pair } }))
    (λ (w : TcpValue). free_in v ≤ free_in w) (λ _. itself _) (λ _. itself _))
by_own p (TcpSetting side setting) there = inl (by_setting setting (socket_of p side))
by_own p (Clock side instant) there = inl (itself _)
by_own p (Offer side instant true) there =
    let s = at p.sides side in
    inl (no_less _ _ (offer_same (context_at side (record s { instant = instant })) s.socket (late_in s.socket.tcb.state there)).0)
by_own p (Offer side instant false) there =
    let s = at p.sides side in
    inl (no_less _ _ (offer_same (context_at side (record s { instant = instant })) s.socket (late_in s.socket.tcb.state there)).1)
by_own p (Deliver from k) there =
    let s = at p.sides (other from) in
    with_read s.socket (handed (other from) s (slice_get (at p.sides (other (other from))).sent k)).socket (at (pasts p.history) (other from))
    (by_delivery (other from) s (slice_get (at p.sides (other (other from))).sent k) (late_in s.socket.tcb.state there))

by_put :
    (P : PairSide → Past → Type 0) (both : Both PairSide) (seen : Both Past) (of side : Side) (new : PairSide) (past : Past)
    → (of ≡ side → P new past) → P (at both side) (at seen side) → P (at (put both of new) side) (at (put seen of past) side)
by_put P both seen A A new past own not = own refl
by_put P both seen A B new past own not = not
by_put P both seen B A new past own not = not
by_put P both seen B B new past own not = own refl

pub frees_on :
    (p : PairValue) (event : PairEvent) (side : Side) → is_synchronized (socket_of p side).tcb.state ≡ true
    → (free_in (socket_of p side) ≤ free_in (socket_of (takes p event) side)) ⊎ (taken_in p side < taken_in (takes p event) side)
frees_on p event side there =
    by_put (λ (new : PairSide) (y : Past). OpensBy p event side new y) p.sides (pasts p.history) (side_of event) side (acting p event).side seen
    (λ own.
    subst (λ (s : Side). is_synchronized (socket_of p s).tcb.state ≡ true → OpensBy p event s (acting p event).side seen) own (by_own p event) there)
    (inl (itself _))
  where
    seen : Past
    seen = adds event (acting p event).answer (at p.sides (side_of event)).socket.tcb.state (at (pasts p.history) (side_of event))

-- A COURSE

upto : (a b c : ℕ) → a ≤ b → b ≤ c → a ≤ c
upto a b c e f = omega arith

-- a window that is open isn't found closed, unless more is taken
pub never_shut :
    (p q : PairValue) (side : Side) (k : ℕ) (course : Course) → IsReached p → IsBegun p A → IsBegun p B → Steps p (events_of course) q → AreThere q
    → 1 ≤ free_in (socket_of p (other side)) → IsShutAmong p side k course → taken_in p (other side) < taken_in q (other side)
never_shut p q side k [] r a b s there free never = absurd never
never_shut p q side k (x ∷ course) r a b s there free (inl shut) = absurd (no (free_in (socket_of p (other side))) free shut.1) where
  no : (n : ℕ) → 1 ≤ n → n ≡ 0 → ⊥
  no n e f = absurd (omega arith)
never_shut p q side k (x ∷ course) r a b s there free (inr shut) =
    by
    (λ (e : 1 ≤ free_in (socket_of m (other side))).
    never_shut m q side k course (reached_by p m (x.1 ∷ []) r (s.0, refl)) (begun_after p m A (first A) a) (begun_after p m B (first B) b) s.1 there e shut)
    (frees_on p x.1 (other side)
    (there_before p q (other side) (begun_of p (other side) a b) (by_steps p (x.1 ∷ events_of course) q r a b s (other side))
    (there_of q (other side) there)))
  where
    m : PairValue
    m = takes p x.1

    first : (of : Side) → MovesIn p m of
    first of = by_steps p (x.1 ∷ []) m r a b (s.0, refl) of

    then : MovesIn m q (other side)
    then =
        by_steps m (events_of course) q (reached_by p m (x.1 ∷ []) r (s.0, refl)) (begun_after p m A (first A) a) (begun_after p m B (first B) b) s.1
        (other side)

    less : (a b c : ℕ) → a < b → b ≤ c → a < c
    less a b c e f = omega arith

    no_less_then : (a b c : ℕ) → a ≤ b → b < c → a < c
    no_less_then a b c e f = omega arith

    by :
        (1 ≤ free_in (socket_of m (other side)) → taken_in m (other side) < taken_in q (other side))
        → (free_in (socket_of p (other side)) ≤ free_in (socket_of m (other side))) ⊎ (taken_in p (other side) < taken_in m (other side))
        → taken_in p (other side) < taken_in q (other side)
    by on (inl e) =
        no_less_then (taken_in p (other side)) (taken_in m (other side)) (taken_in q (other side)) (first (other side)).taken
        (on (upto 1 (free_in (socket_of p (other side))) (free_in (socket_of m (other side))) free e))
    by on (inr e) = less (taken_in p (other side)) (taken_in m (other side)) (taken_in q (other side)) e then.taken
