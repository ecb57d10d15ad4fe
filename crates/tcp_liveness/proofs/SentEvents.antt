-- What each event of a side leaves of what it sent, and that its peer takes no more.
use Rattle.std.proofs.Common.{◌≡◌, ◌⊎◌, inl, inr, ℕ, suc, ◌+◌, ◌-◌, ◌%◌, ◌^◌, ◌<◌, ◌≤◌, ◌==◌, ◌&&◌, not, min, ℤ, Bool, true, false, if◌then◌else◌}
use Rattle.std.proofs.Common.{List, [], ◌∷◌, ◌++◌, length, take, Option, Some, None, Result, Ok, Err, slice_get, refl, sym, ap, ◌∙◌, subst, arith}
use Rattle.std.proofs.Common.{length-append, append-nil}
use Rattle.std.proofs.lemmas.Bool.{cond_both, eqb-true}
use Rattle.std.proofs.lemmas.List.{map-append}
use Rattle.net_base.specs.Ring.{Ring, cleared, anchored, enqueued}
use Rattle.ip_wire.specs.IpEndpoint.{IpEndpoint}
use Rattle.ip_wire.specs.IpListenEndpoint.{IpListenEndpoint}
use Rattle.tcp_theory.specs.Segment.{Segment}
use Rattle.tcp_theory.specs.Side.{one_if as one_in}
use Rattle.tcp_theory.specs.Side.Opening.{NotYet}
use Rattle.tcp_refinement.specs.Context.{ContextValue}
use Rattle.tcp_refinement.specs.History.{with_written, with_read, closed_by, closes_in}
use Rattle.tcp_refinement.specs.Tie.{Past, Keeps, IsConnectedAs, core_of, is_closed_in, segment_of, unsent}
use Rattle.tcp_refinement.proofs.Tied.{fits_connected, writes_in}
use Rattle.tcp_invariants.specs.FourTuple.{FourTuple}
use Rattle.tcp_invariants.specs.OpenOffer.{OpenOffer}
use Rattle.tcp_invariants.specs.RecvError.{RecvError}
use Rattle.tcp_invariants.specs.Reply.{Reply}
use Rattle.tcp_invariants.specs.State.{State}
use Rattle.tcp_invariants.specs.State.TheVariants as In
use Rattle.tcp_invariants.specs.States.{is_closed, is_opening, is_time_wait, keeps_alive, owes_fin, sends_syn, takes_writes, after_close}
use Rattle.tcp_invariants.proofs.OrderSteps.{clash}
use Rattle.tcp_block.specs.Arrival.{arrives}
use Rattle.tcp_block.specs.TcbRules.{one_if, unacked}
use Rattle.tcp_block.specs.Calls.{listening, connected_by, four_tuple_for, sent_more, recv_answer, recv_after, send_answer, send_after, listen_after}
use Rattle.tcp_block.specs.Calls.{listen_answer, connect_answer, connect_after, close_after, abort_after}
use Rattle.tcp_block.specs.Isn.{number_for}
use Rattle.tcp_refinement.specs.Pair.History.{adds, listen_adds, connect_adds, send_adds, recv_adds}
use Rattle.tcp_block.specs.Names.{accepts}
use Rattle.tcp_block.specs.Offers.{offer_of}
use Rattle.tcp_block.specs.Settled.{settled}
use Rattle.tcp_refinement.specs.Pair.Sides.{at, other}
use Rattle.tcp_refinement.specs.Pair.Steps.{acts, reads, set_by, handed, taken_at}
use Rattle.tcp_refinement.specs.Pair.Steps.{listen_says, connect_says, send_says}
use Rattle.tcp_block.specs.Value.{TcpValue, Arrived, unoffered, with_tcb, queued_in}
use Rattle.tcp_refinement.specs.Pair.Values.{PairSide, context_at, and_offer, and_reply, seen_of, segments_of, with_segments}
use Rattle.tcp_refinement.specs.declared.pair.event.PairAnswer.{PairAnswer}
use Rattle.tcp_refinement.specs.declared.pair.event.PairAnswer.TheVariants.{Done, Count, Bytes, Error}
use Rattle.tcp_refinement.specs.declared.pair.event.PairEvent.{PairEvent}
use Rattle.tcp_refinement.specs.declared.pair.event.PairEvent.TheVariants.{Listen, Connect, Send, Recv, Close, Abort, TcpSetting, Clock, Offer, Deliver}
use Rattle.tcp_refinement.specs.declared.pair.event.SentSegment.{SentSegment}
use Rattle.tcp_refinement.specs.declared.pair.event.Side.{Side}
use Rattle.tcp_refinement.specs.declared.pair.event.TcpSetting.{TcpSetting as Setting}
use Rattle.tcp_refinement.specs.declared.pair.event.TcpSetting.TheVariants as Set
use Rattle.tcp_refinement.proofs.SideLaws.{IsAllowed, led}
use Rattle.tcp_liveness.specs.Arrivals.{is_synchronized}
use Rattle.tcp_liveness.specs.Sent.{unsent_in, sent_in, end_in, size_of, IsBare, IsWithin, sent_past, is_early, SendsAll}
use Rattle.tcp_liveness.proofs.Asked.{After as Offers, IsFurther, OfOffer, Below, Reaches, asked_after, segment_in}
use Rattle.tcp_liveness.proofs.Comes.{Counts, Counted, IsBareReply, comes, closed_stays}
use Rattle.tcp_liveness.proofs.Positions.{IsPlaced, placed, connected_in, same_one, una_small}
use Rattle.tcp_liveness.proofs.SentSteps.{Moves, Proceeds, OfOne, and_one, own_step, on_not_closed, unopened_off}

-- WHAT STAYS

none_more : (n : ℕ) → n ≡ n + 0
none_more n = omega arith

none_past : (n : ℕ) → n % 2 ^ 32 ≡ (n % 2 ^ 32 + 0) % 2 ^ 32
none_past n = omega arith

early_not_closed : {A : Type 0} → (state : State) → is_early state ≡ true → is_closed state ≡ true → A
early_not_closed In.Closed e f = clash (sym e)
early_not_closed other e f = clash (sym f)

-- as much was sent
counted_goes :
    (v new : TcpValue) (p after : Past) (gone : Option Segment) → Counted v new → after.written ≡ p.written → after.closed ≡ p.closed → OfOne IsBare gone
    → Proceeds v p new after gone
counted_goes v new p after gone n written closed bare = record {
  more = 0;
  sent =
      ap (λ (xs : List ℕ). suc (length xs) + one_if after.closed - unsent_in new) written
      ∙ (ap (λ (t : Bool). suc (length p.written) + one_if t - unsent_in new) closed
      ∙ (ap (λ (m : ℕ). suc (length p.written) + one_if p.closed - m) n.0 ∙ none_more (sent_in v p)));
  ends = n.1 ∙ none_past (v.tcb.sender.una.0 + v.tcb.sender.snd_max);
  written = ([], written ∙ sym (append-nil p.written));
  closed = λ e. (closed ∙ e, written);
  lies = by gone bare;
}
  where
    by : (gone : Option Segment) → OfOne IsBare gone → OfOne (IsWithin (sent_in new after) (end_in new)) gone
    by None b = tt
    by (Some x) b = inl b

record IsStill (v : TcpValue) (p : Past) (new : TcpValue) (after : Past) : Type 0 where
  state : new.tcb.state ≡ v.tcb.state
  counted : Counted v new
  opening : after.opening ≡ p.opening
  written : after.written ≡ p.written
  closed : after.closed ≡ p.closed
  sent : after.sent ≡ p.sent

still : (v new : TcpValue) (p after : Past) → IsStill v p new after → Moves v p new after
still v new p after i = record {
  gone = None;
  sent = i.sent;
  opening = λ e. sym i.opening ∙ e;
  early = λ e. inl (sym (ap is_early i.state) ∙ e);
  dead = λ closed on. on_not_closed v.tcb.state (sym (ap is_synchronized i.state) ∙ on) closed;
  bare = λ _. tt;
  written = λ _. i.written;
  goes = λ _ _. counted_goes v new p after None i.counted i.written i.closed tt;
}

-- the connection is over
over :
    (v new : TcpValue) (p after : Past) → is_closed new.tcb.state ≡ true → after.opening ≡ p.opening → after.written ≡ p.written → after.sent ≡ p.sent
    → Moves v p new after
over v new p after closed opening written sent = record {
  gone = None;
  sent = sent;
  opening = λ e. sym opening ∙ e;
  early = λ e. early_not_closed new.tcb.state e closed;
  dead = λ _ on. on_not_closed new.tcb.state on closed;
  bare = λ _. tt;
  written = λ _. written;
  goes = λ _ on. on_not_closed new.tcb.state on closed;
}

-- SEGMENTS

one_more : (sent : List SentSegment) (x : SentSegment) → segments_of (sent ++ x ∷ []) ≡ segments_of sent ++ seen_of x ∷ []
one_more sent x = map-append seen_of sent (x ∷ [])

abbrev reply_gone : Option Reply → Option Segment
reply_gone None = None
reply_gone (Some reply) = Some (segment_of reply.segment [])

reply_sent : (sent : List SentSegment) (answer : Option Reply) → segments_of (and_reply sent answer) ≡ and_one (segments_of sent) (reply_gone answer)
reply_sent sent None = refl
reply_sent sent (Some reply) = one_more sent (record { header = reply.header; segment = reply.segment; bytes = [] })

reply_bare : (answer : Option Reply) → IsBareReply answer → OfOne IsBare (reply_gone answer)
reply_bare None b = tt
reply_bare (Some reply) b = b

abbrev offer_gone : Option OpenOffer → List ℕ → Option Segment
offer_gone None queue = None
offer_gone (Some o) queue = Some (segment_in o queue)

offer_sent :
    (sent : List SentSegment) (offered : Option OpenOffer) (queue : List ℕ)
    → segments_of (and_offer sent offered queue) ≡ and_one (segments_of sent) (offer_gone offered queue)
offer_sent sent None queue = refl
offer_sent sent (Some o) queue = one_more sent _

offer_of_one : (P Q : Segment → Type 0) → ((x : Segment) → P x → Q x) → (offered : Option OpenOffer) (queue : List ℕ) → OfOffer P offered queue →
    OfOne Q (offer_gone offered queue)
offer_of_one P Q leads None queue h = tt
offer_of_one P Q leads (Some o) queue h = leads (segment_in o queue) h

-- CALLS

pub anchored_queue : (r : Ring ℕ) → (anchored r).queue ≡ r.queue
anchored_queue r =
    cond_both (length r.queue == 0) (cleared r) r (λ (ring : Ring ℕ). ring.queue ≡ r.queue)
    (λ e. sym (empty r.queue (eqb-true (length r.queue) 0 e)))
    (λ _. refl)
  where
    empty : (xs : List ℕ) → length xs ≡ 0 → xs ≡ []
    empty [] e = refl
    empty (x ∷ xs) e = absurd (omega arith)

-- what a call adds to the past but for one of its parts
listen_written : (answer : PairAnswer) (p : Past) → (listen_adds answer p).written ≡ p.written
listen_written Done p = refl
listen_written (Count n) p = refl
listen_written (Bytes bytes) p = refl
listen_written (Error fault) p = refl

connect_written : (answer : PairAnswer) (p : Past) → (connect_adds answer p).written ≡ p.written
connect_written Done p = refl
connect_written (Count n) p = refl
connect_written (Bytes bytes) p = refl
connect_written (Error fault) p = refl

record ReadsOnly (p after : Past) : Type 0 where
  opening : after.opening ≡ p.opening
  written : after.written ≡ p.written
  closed : after.closed ≡ p.closed

recv_same : (answer : PairAnswer) (p : Past) → ReadsOnly p (recv_adds answer p)
recv_same Done p = record { opening = refl; written = refl; closed = refl }
recv_same (Count n) p = record { opening = refl; written = refl; closed = refl }
recv_same (Bytes bytes) p = record { opening = refl; written = refl; closed = refl }
recv_same (Error fault) p = record { opening = refl; written = refl; closed = refl }

more_unsent : (syn queue owes snd_max taken : ℕ) → snd_max ≤ syn + queue + owes → syn + (queue + taken) + owes - snd_max ≡ syn + queue + owes - snd_max + taken
more_unsent syn queue owes snd_max taken a = omega arith

as_much : (written closed unsent more : ℕ) → suc (written + more) + closed - (unsent + more) ≡ suc written + closed - unsent + 0
as_much written closed unsent more = omega arith

fin_unsent : (syn queue snd_max : ℕ) → snd_max ≤ syn + queue + 0 → syn + queue + 1 - snd_max ≡ syn + queue + 0 - snd_max + 1
fin_unsent syn queue snd_max a = omega arith

as_much_closed : (written unsent : ℕ) → suc written + 1 - (unsent + 1) ≡ suc written + 0 - unsent + 0
as_much_closed written unsent = omega arith

-- OFFERS

more_sent :
    (written closed all snd_max new : ℕ) → all ≤ suc written + closed → snd_max ≤ new → new ≤ all
    → suc written + closed - (all - new) ≡ suc written + closed - (all - snd_max) + (new - snd_max)
more_sent written closed all snd_max new a b c = omega arith

more_ends : (una snd_max new : ℕ) → snd_max ≤ new → (una + new) % 2 ^ 32 ≡ ((una + snd_max) % 2 ^ 32 + (new - snd_max)) % 2 ^ 32
more_ends una snd_max new a = omega arith

far_within : (sent snd_max far size : ℕ) → far + size ≤ snd_max → snd_max ≤ sent → sent - (snd_max - far) + size ≤ sent
far_within sent snd_max far size a b = omega arith

far_number :
    (una seq sent snd_max far size : ℕ) → seq ≡ (una + far) % 2 ^ 32 → far + size ≤ snd_max → snd_max ≤ sent
    → (seq + (sent - (sent - (snd_max - far)))) % 2 ^ 32 ≡ (una + snd_max) % 2 ^ 32
far_number una seq sent snd_max far size a b c = omega arith

below_within : (sent snd_max size : ℕ) → size ≡ 1 → suc snd_max ≤ sent → sent - suc snd_max + size ≤ sent
below_within sent snd_max size a b = omega arith

below_number :
    (una seq sent snd_max : ℕ) → seq ≡ (una + (2 ^ 32 - 1)) % 2 ^ 32 → suc snd_max ≤ sent → (seq + (sent - (sent - suc snd_max))) % 2 ^ 32 ≡ (una + snd_max) % 2 ^ 32
below_number una seq sent snd_max a b = omega arith

-- a segment that reaches no further than what was sent lies within it
reaches_within :
    (v : TcpValue) (snd_max sent end : ℕ) (x : Segment) → end ≡ (v.tcb.sender.una.0 + snd_max) % 2 ^ 32 → snd_max ≤ sent
    → (Below v.tcb.state v.tcb.sender.una.0 x → suc snd_max ≤ sent) → Reaches v snd_max x → IsWithin sent end x
reaches_within v snd_max sent end x is within below (inl bare) = inl bare
reaches_within v snd_max sent end x is within below (inr (inl a)) = inr (record {
  at = sent - (snd_max - a.far);
  within = far_within sent snd_max a.far (size_of x) a.ends within;
  number = far_number v.tcb.sender.una.0 x.seq sent snd_max a.far (size_of x) a.number a.ends within ∙ sym is;
})
reaches_within v snd_max sent end x is within below (inr (inr b)) =
    let some = below b in
    inr (record {
      at = sent - suc snd_max;
      within = below_within sent snd_max (size_of x) b.one some;
      number = below_number v.tcb.sender.una.0 x.seq sent snd_max b.number some ∙ sym is;
    })

-- A SIDE

module _ (s : PairSide) (w : TcpValue) (p q : Past) (others : List SentSegment) (k : Keeps s.socket (with_segments p s.sent) w (with_segments q others)) where
  abbrev v : TcpValue
  v = s.socket

  abbrev past : Past
  past = with_segments p s.sent

  abbrev MovesTo : PairSide → Past → Type 0
  MovesTo new after = Moves s.socket (with_segments p s.sent) new.socket (with_segments after new.sent)

  offset : is_synchronized s.socket.tcb.state ≡ true → IsPlaced s.socket k.side
  offset on = placed s.socket k.side k.fits k.holds.0.well_formed on

  counts : is_synchronized s.socket.tcb.state ≡ true → Counts s.socket
  counts on = record {
    snd_max = (offset on).snd_max;
    opening = (fits_connected s.socket.tcb.state (core_of s.socket) (unsent k.side) (connected_in s.socket.tcb.state on) k.fits).past_iss;
  }

  -- what may be acknowledged is no more than what was written, with the SYN and the FIN
  few : is_synchronized s.socket.tcb.state ≡ true → unacked s.socket.tcb (queued_in s.socket) ≤ suc (length p.written) + one_if p.closed
  few on =
      subst (λ (p : Past). unacked s.socket.tcb (queued_in s.socket) ≤ suc (length p.written) + one_if p.closed) k.past
      (bound k.side.una (unacked s.socket.tcb (queued_in s.socket)) k.side.iss (length k.side.written) (one_in k.side.closed) (one_if k.side.closed)
      (offset on).end (same_one k.side.closed) k.holds.0.well_formed.una_low)
    where
      bound : (una all iss written closed one : ℕ) → una + all ≡ suc iss + written + closed → closed ≡ one → iss ≤ una → all ≤ suc written + one
      bound una all iss written closed one a b c = omega arith

  -- OPENS

  open_moves : (new : TcpValue) (after : Past) → p.opening ≡ NotYet → after.written ≡ p.written →
      (is_closed s.socket.tcb.state ≡ true → is_synchronized new.tcb.state ≡ true → ⊥)
      → Moves s.socket (with_segments p s.sent) new (with_segments after s.sent)
  open_moves new after first written dead = record {
    gone = None;
    sent = refl;
    opening = λ _. first;
    early = λ _. inr first;
    dead = dead;
    bare = λ _. tt;
    written = λ _. written;
    goes = λ on _. unopened_off s.socket w (with_segments p s.sent) (with_segments q others) k first on;
  }

  abbrev NotBegun : TcpValue → Type 0
  NotBegun new = is_closed s.socket.tcb.state ≡ true → is_synchronized new.tcb.state ≡ true → ⊥

  not_begun : NotBegun (unoffered s.socket)
  not_begun closed on = on_not_closed s.socket.tcb.state on closed

  listen_dead : (endpoint : IpListenEndpoint) → NotBegun (listen_after s.socket endpoint)
  listen_dead endpoint =
      cond_both (is_closed s.socket.tcb.state && not (endpoint.port == 0)) (listening s.socket endpoint) (unoffered s.socket) NotBegun
      (λ _ _ on. clash (sym on)) (λ _. not_begun)

  connect_dead : (cx : ContextValue) (remote : IpEndpoint) (local : IpListenEndpoint) → NotBegun (connect_after cx s.socket remote local)
  connect_dead cx remote local =
      cond_both (is_closed s.socket.tcb.state)
      (connected_by s.socket (four_tuple_for cx remote local) (number_for cx (four_tuple_for cx remote local))) (unoffered s.socket) NotBegun
      (λ _. by (four_tuple_for cx remote local) (number_for cx (four_tuple_for cx remote local))) (λ _. not_begun)
    where
      by : (names : Option FourTuple) (number : ℕ) → NotBegun (connected_by s.socket names number)
      by None number = not_begun
      by (Some pair) number = λ _ on. clash (sym on)

  -- CALLS

  unread : MovesTo (record s { socket = unoffered s.socket }) p
  unread =
      still s.socket (unoffered s.socket) (with_segments p s.sent) (with_segments p s.sent)
      (record { state = refl; counted = (refl, refl); opening = refl; written = refl; closed = refl; sent = refl })

  send_moves : (bytes : List ℕ) → Moves s.socket (with_segments p s.sent) (send_after s.socket bytes)
      (with_segments (send_adds bytes (send_says (send_answer s.socket (length bytes))) p) s.sent)
  send_moves bytes = send_by send_says _ (takes_writes s.socket.tcb.state) refl refl refl where
    taken : List ℕ
    taken = take (min (length bytes) (length s.socket.queued.free)) bytes

    new : TcpValue
    new = sent_more s.socket (enqueued (anchored s.socket.queued) taken)

    after : Past
    after = with_written p taken

    queue : length new.queued.queue ≡ queued_in s.socket + length taken
    queue = ap (λ (xs : List ℕ). length (xs ++ taken)) (anchored_queue s.socket.queued) ∙ length-append s.socket.queued.queue taken

    unsent_more : is_synchronized s.socket.tcb.state ≡ true → unsent_in new ≡ unsent_in s.socket + length taken
    unsent_more on =
        ap (λ (n : ℕ). one_if s.socket.tcb.sender.syn_unacked + n + one_if (owes_fin s.socket.tcb.state) - s.socket.tcb.sender.snd_max) queue
        ∙ more_unsent (one_if s.socket.tcb.sender.syn_unacked) (queued_in s.socket) (one_if (owes_fin s.socket.tcb.state)) s.socket.tcb.sender.snd_max
        (length taken) (offset on).snd_max

    writes : takes_writes s.socket.tcb.state ≡ true → Moves s.socket (with_segments p s.sent) new (with_segments after s.sent)
    writes e =
        let now = writes_in s.socket.tcb.state e in
        let on : is_synchronized s.socket.tcb.state ≡ true = writes_on s.socket.tcb.state e in
        record {
          gone = None;
          sent = refl;
          opening = λ e. e;
          early = λ e. inl e;
          dead = λ closed on. on_not_closed s.socket.tcb.state on closed;
          bare = λ _. tt;
          written = λ off. clash (sym on ∙ off);
          goes = λ _ _. record {
            more = 0;
            sent =
                ap (λ (m : ℕ). suc (length (p.written ++ taken)) + one_if p.closed - m) (unsent_more on)
                ∙ (ap (λ (m : ℕ). suc m + one_if p.closed - (unsent_in s.socket + length taken)) (length-append p.written taken)
                ∙ as_much (length p.written) (one_if p.closed) (unsent_in s.socket) (length taken));
            ends = none_past (s.socket.tcb.sender.una.0 + s.socket.tcb.sender.snd_max);
            written = (taken, refl);
            closed = λ closed. clash (sym closed ∙ open_yet on now.closed);
            lies = tt;
          };
        }
      where
        writes_on : (state : State) → takes_writes state ≡ true → is_synchronized state ≡ true
        writes_on In.Established e = refl
        writes_on In.CloseWait e = refl
        writes_on other e = clash (sym e)

        open_yet : is_synchronized s.socket.tcb.state ≡ true → is_closed_in s.socket.tcb.state ≡ false → p.closed ≡ false
        open_yet on f =
            sym (ap (λ (p : Past). p.closed) k.past)
            ∙ ((fits_connected s.socket.tcb.state (core_of s.socket) (unsent k.side) (connected_in s.socket.tcb.state on) k.fits).closed ∙ f)

    send_by :
        {E : Type 0} (says : Result ℕ E → PairAnswer) (fault : E) (t : Bool) → takes_writes s.socket.tcb.state ≡ t
        → send_adds bytes (says (Ok (min (length bytes) (length s.socket.queued.free)))) p ≡ after → send_adds bytes (says (Err fault)) p ≡ p
        → Moves s.socket (with_segments p s.sent) (if t then new else unoffered s.socket)
        (with_segments (send_adds bytes (says (if t then Ok (min (length bytes) (length s.socket.queued.free)) else Err fault)) p) s.sent)
    send_by says fault true e ok err = subst (λ (after : Past). Moves s.socket (with_segments p s.sent) new (with_segments after s.sent)) (sym ok) (writes e)
    send_by says fault false e ok err =
        subst (λ (after : Past). Moves s.socket (with_segments p s.sent) (unoffered s.socket) (with_segments after s.sent)) (sym err) unread

  read_moves : (count : ℕ) (r : Result ℕ RecvError) → MovesTo (reads s r).side (recv_adds (reads s r).answer p)
  read_moves count r = by r where
    by : (r : Result ℕ RecvError) → MovesTo (reads s r).side (recv_adds (reads s r).answer p)
    by (Ok n) =
        still s.socket (recv_after s.socket n) (with_segments p s.sent) (with_segments (with_read p (take n s.socket.received.waiting)) s.sent)
        (record { state = refl; counted = (refl, refl); opening = refl; written = refl; closed = refl; sent = refl })
    by (Err fault) =
        let same = recv_same (reads s (Err fault)).answer p in
        still s.socket (unoffered s.socket) (with_segments p s.sent) (with_segments (recv_adds (reads s (Err fault)).answer p) s.sent)
        (record { state = refl; counted = (refl, refl); opening = same.opening; written = same.written; closed = same.closed; sent = refl })

  abort_moves : Moves s.socket (with_segments p s.sent) (abort_after s.socket) (with_segments p s.sent)
  abort_moves =
      cond_both (is_time_wait s.socket.tcb.state) _ _ (λ (new : TcpValue). Moves s.socket (with_segments p s.sent) new (with_segments p s.sent))
      (λ _. over s.socket _ (with_segments p s.sent) (with_segments p s.sent) refl refl refl refl)
      (λ _. over s.socket _ (with_segments p s.sent) (with_segments p s.sent) refl refl refl refl)

  -- CLOSE

  abbrev in_new : State → TcpValue
  in_new state = with_tcb (unoffered s.socket) (record s.socket.tcb { state = state })

  same_state : (state : State) → s.socket.tcb.state ≡ state → Moves s.socket (with_segments p s.sent) (in_new state) (with_segments p s.sent)
  same_state state at =
      still s.socket (in_new state) (with_segments p s.sent) (with_segments p s.sent)
      (record {
        state = sym at;
        counted = (
          ap (λ (state : State). one_if s.socket.tcb.sender.syn_unacked + queued_in s.socket + one_if (owes_fin state) - s.socket.tcb.sender.snd_max)
              (sym at),
          refl,
        );
        opening = refl;
        written = refl;
        closed = refl;
        sent = refl;
      })

  -- a FIN is asked for, and none was sent
  closes_on :
      (state new : State) → s.socket.tcb.state ≡ state → is_closed_in state ≡ false → owes_fin state ≡ false → owes_fin new ≡ true
      → is_early new ≡ false → is_closed state ≡ false → Moves s.socket (with_segments p s.sent) (in_new new) (with_segments (closed_by true p) s.sent)
  closes_on state new at unclosed none owes late alive = record {
    gone = None;
    sent = refl;
    opening = λ e. e;
    early = λ e. clash (sym e ∙ late);
    dead = λ closed _. clash (sym closed ∙ (ap is_closed at ∙ alive));
    bare = λ _. tt;
    written = λ _. refl;
    goes = λ on _.
        let not_yet = open_yet on in
        record {
          more = 0;
          sent =
              ap (λ (m : ℕ). suc (length p.written) + 1 - m) (unsent_more on)
              ∙ (as_much_closed (length p.written) (syn + queued_in s.socket + 0 - s.socket.tcb.sender.snd_max)
              ∙ (ap (λ (t : Bool). suc (length p.written) + one_if t - (syn + queued_in s.socket + 0 - s.socket.tcb.sender.snd_max) + 0) (sym not_yet)
              ∙ ap (λ (t : Bool). suc (length p.written) + one_if p.closed - (syn + queued_in s.socket + one_if t - s.socket.tcb.sender.snd_max) + 0)
              (sym owed)));
          ends = none_past (s.socket.tcb.sender.una.0 + s.socket.tcb.sender.snd_max);
          written = ([], sym (append-nil p.written));
          closed = λ closed. clash (sym closed ∙ not_yet);
          lies = tt;
        };
  }
    where
      syn : ℕ
      syn = one_if s.socket.tcb.sender.syn_unacked

      owed : owes_fin s.socket.tcb.state ≡ false
      owed = ap owes_fin at ∙ none

      open_yet : is_synchronized s.socket.tcb.state ≡ true → p.closed ≡ false
      open_yet on =
          sym (ap (λ (p : Past). p.closed) k.past)
          ∙ ((fits_connected s.socket.tcb.state (core_of s.socket) (unsent k.side) (connected_in s.socket.tcb.state on) k.fits).closed
          ∙ (ap is_closed_in at ∙ unclosed))

      unsent_more : is_synchronized s.socket.tcb.state ≡ true → unsent_in (in_new new) ≡ syn + queued_in s.socket + 0 - s.socket.tcb.sender.snd_max + 1
      unsent_more on =
          ap (λ (t : Bool). syn + queued_in s.socket + one_if t - s.socket.tcb.sender.snd_max) owes
          ∙ fin_unsent syn (queued_in s.socket) s.socket.tcb.sender.snd_max
          (subst (λ (t : Bool). s.socket.tcb.sender.snd_max ≤ syn + queued_in s.socket + one_if t) owed (offset on).snd_max)

  close_moves :
      (state : State) → s.socket.tcb.state ≡ state → is_opening state ≡ false
      → Moves s.socket (with_segments p s.sent) (in_new (after_close state)) (with_segments (closed_by (closes_in state) p) s.sent)
  close_moves In.Listen at e = over s.socket (in_new In.Closed) (with_segments p s.sent) (with_segments p s.sent) refl refl refl refl
  close_moves In.SynSent at e = clash e
  close_moves In.SynReceived at e = closes_on In.SynReceived In.FinWait1 at refl refl refl refl refl
  close_moves In.Established at e = closes_on In.Established In.FinWait1 at refl refl refl refl refl
  close_moves In.CloseWait at e = closes_on In.CloseWait In.LastAck at refl refl refl refl refl
  close_moves state at e = same_state state at

  close_all : Moves s.socket (with_segments p s.sent) (close_after s.socket) (with_segments (closed_by (closes_in s.socket.tcb.state) p) s.sent)
  close_all =
      cond_both (is_opening s.socket.tcb.state) _ (in_new (after_close s.socket.tcb.state))
      (λ (new : TcpValue). Moves s.socket (with_segments p s.sent) new (with_segments (closed_by (closes_in s.socket.tcb.state) p) s.sent))
      (λ opening. over s.socket _ (with_segments p s.sent) (with_segments (closed_by (closes_in s.socket.tcb.state) p) s.sent) refl
      (ap (λ (t : Bool). (closed_by t p).opening) (closes_not s.socket.tcb.state opening))
      (ap (λ (t : Bool). (closed_by t p).written) (closes_not s.socket.tcb.state opening)) refl)
      (λ not. close_moves s.socket.tcb.state refl not)
    where
      closes_not : (state : State) → is_opening state ≡ true → closes_in state ≡ false
      closes_not In.SynSent e = refl
      closes_not other e = clash (sym e)

  -- SETTINGS

  set_still :
      (new : TcpValue) → new.tcb.state ≡ s.socket.tcb.state → Counted s.socket new
      → Moves s.socket (with_segments p s.sent) new (with_segments p s.sent)
  set_still new state counted =
      still s.socket new (with_segments p s.sent) (with_segments p s.sent)
      (record { state = state; counted = counted; opening = refl; written = refl; closed = refl; sent = refl })

  set_moves : (setting : Setting) → Moves s.socket (with_segments p s.sent) (set_by setting s.socket) (with_segments p s.sent)
  set_moves (Set.Timeout duration) = set_still (set_by (Set.Timeout duration) s.socket) refl (refl, refl)
  set_moves (Set.AckDelay duration) = set_still (set_by (Set.AckDelay duration) s.socket) refl (refl, refl)
  set_moves (Set.KeepAlive interval) = set_still (set_by (Set.KeepAlive interval) s.socket) refl (refl, refl)
  set_moves (Set.NagleEnabled enabled) = set_still (set_by (Set.NagleEnabled enabled) s.socket) refl (refl, refl)
  set_moves (Set.HopLimit limit) = set_still (set_by (Set.HopLimit limit) s.socket) refl (refl, refl)
  set_moves (Set.TsvalGenerator generator) = set_still (set_by (Set.TsvalGenerator generator) s.socket) refl (refl, refl)
  set_moves (Set.CongestionControl control) = set_still (set_by (Set.CongestionControl control) s.socket) refl (refl, refl)
  set_moves (Set.PauseSynack paused) = set_still (set_by (Set.PauseSynack paused) s.socket) refl (refl, refl)
  set_moves (Set.Retries limit) = set_still (set_by (Set.Retries limit) s.socket) refl (refl, refl)
  set_moves (Set.MinRto duration) = set_still (set_by (Set.MinRto duration) s.socket) refl (refl, refl)
  set_moves (Set.FineTimer fine) = set_still (set_by (Set.FineTimer fine) s.socket) refl (refl, refl)

  -- SEGMENTS

  arrival_moves :
      (side : Side) (x : SentSegment)
      → MovesTo (taken_at s (arrives (context_at side s) s.socket x.header x.segment x.bytes)) p
  arrival_moves side x = record {
    gone = reply_gone a.answer;
    sent = reply_sent s.sent a.answer;
    opening = λ e. e;
    early = λ e. inl (it.0 e);
    dead = λ closed on. on_not_closed a.socket.tcb.state on (closed_stays cx s.socket x.header x.segment x.bytes closed);
    bare = λ _. reply_bare a.answer it.1;
    written = λ _. refl;
    goes = λ was on.
        counted_goes s.socket a.socket (with_segments p s.sent) (with_segments p (and_reply s.sent a.answer)) (reply_gone a.answer) (it.2 was on) refl refl
        (reply_bare a.answer it.1);
  }
    where
      cx : ContextValue
      cx = context_at side s

      a : Arrived
      a = arrives cx s.socket x.header x.segment x.bytes

      it : (is_early a.socket.tcb.state ≡ true → is_early s.socket.tcb.state ≡ true) × IsBareReply a.answer ×
          (is_synchronized s.socket.tcb.state ≡ true → is_synchronized a.socket.tcb.state ≡ true → Counted s.socket a.socket)
      it = comes cx x.header x.segment x.bytes s.socket counts

  untouched : MovesTo s p
  untouched =
      still s.socket s.socket (with_segments p s.sent) (with_segments p s.sent)
      (record { state = refl; counted = (refl, refl); opening = refl; written = refl; closed = refl; sent = refl })

  handed_moves : (side : Side) (x : Option SentSegment) → MovesTo (handed side s x) p
  handed_moves side None = untouched
  handed_moves side (Some x) =
      cond_both (accepts s.socket.tcb x.header x.segment) (taken_at s (arrives (context_at side s) s.socket x.header x.segment x.bytes)) s
      (λ (new : PairSide). MovesTo new p)
      (λ _. arrival_moves side x)
      (λ _. untouched)

  small : is_synchronized s.socket.tcb.state ≡ true → s.socket.tcb.sender.una.0 < 2 ^ 32
  small on = una_small s.socket k.side (offset on)

  -- a keep-alive goes only once the SYN is acknowledged
  below_few :
      is_synchronized s.socket.tcb.state ≡ true → keeps_alive s.socket.tcb.state ≡ true
      → suc (unacked s.socket.tcb (queued_in s.socket)) ≤ suc (length p.written) + one_if p.closed
  below_few on lasts =
      subst (λ (p : Past). suc (unacked s.socket.tcb (queued_in s.socket)) ≤ suc (length p.written) + one_if p.closed) k.past
      (bound k.side.una (unacked s.socket.tcb (queued_in s.socket)) k.side.iss (length k.side.written) (one_in k.side.closed) (one_if k.side.closed)
      (one_in s.socket.tcb.sender.syn_unacked) (offset on).end (same_one k.side.closed) f.syn (ap one_in (no_syn f.opened)))
    where
      f : IsConnectedAs (core_of s.socket) (unsent k.side)
      f = fits_connected s.socket.tcb.state (core_of s.socket) (unsent k.side) (connected_in s.socket.tcb.state on) k.fits

      no_more : (state : State) → keeps_alive state ≡ true → sends_syn state ≡ false
      no_more In.Established e = refl
      no_more In.FinWait2 e = refl
      no_more In.CloseWait e = refl
      no_more other e = clash (sym e)

      no_syn : (s.socket.tcb.sender.syn_unacked ≡ false) ⊎ (sends_syn s.socket.tcb.state ≡ true) → s.socket.tcb.sender.syn_unacked ≡ false
      no_syn (inl none) = none
      no_syn (inr sends) = clash (sym sends ∙ no_more s.socket.tcb.state lasts)

      bound :
          (una all iss written closed one syn : ℕ) → una + all ≡ suc iss + written + closed → closed ≡ one → syn ≡ suc iss - una → syn ≡ 0
          → suc all ≤ suc written + one
      bound una all iss written closed one syn a b c d = omega arith

  module _ (side : Side) (instant : ℤ) where
    abbrev cx : ContextValue
    cx = context_at side (record s { instant = instant })

    asked : Offers cx s.socket small (offer_of cx s.socket)
    asked = asked_after cx s.socket small

    sent_moves :
        Keeps (settled true (offer_of cx s.socket).socket)
        (with_segments p (and_offer s.sent (offer_of cx s.socket).socket.offered (offer_of cx s.socket).socket.queued.queue)) w (with_segments q others)
        → Moves s.socket (with_segments p s.sent) (settled true (offer_of cx s.socket).socket)
        (with_segments p (and_offer s.sent (offer_of cx s.socket).socket.offered (offer_of cx s.socket).socket.queued.queue))
    sent_moves l = record {
      gone = offer_gone offered queue;
      sent = offer_sent s.sent offered queue;
      opening = λ e. e;
      early = λ e. inl (asked.early e);
      dead = λ closed on. on_not_closed new.tcb.state on (asked.dead closed);
      bare = λ off. offer_of_one IsBare IsBare (λ x b. b) offered queue (asked.bare off);
      written = λ _. refl;
      goes = goes;
    }
      where
        new : TcpValue
        new = settled true (offer_of cx s.socket).socket

        offered : Option OpenOffer
        offered = (offer_of cx s.socket).socket.offered

        queue : List ℕ
        queue = (offer_of cx s.socket).socket.queued.queue

        goes : is_synchronized s.socket.tcb.state ≡ true → is_synchronized new.tcb.state ≡ true →
            Proceeds s.socket (with_segments p s.sent) new (with_segments p (and_offer s.sent offered queue)) (offer_gone offered queue)
        goes was on = record {
          more = new.tcb.sender.snd_max - s.socket.tcb.sender.snd_max;
          sent = sent;
          ends =
              ap (λ (n : ℕ). (n + new.tcb.sender.snd_max) % 2 ^ 32) f.una
              ∙ more_ends s.socket.tcb.sender.una.0 s.socket.tcb.sender.snd_max new.tcb.sender.snd_max f.snd_max;
          written = ([], sym (append-nil p.written));
          closed = λ e. (e, refl);
          lies =
              offer_of_one (Reaches s.socket new.tcb.sender.snd_max)
              (IsWithin (sent_in new (with_segments p (and_offer s.sent offered queue))) (end_in new))
              (λ x r.
              reaches_within s.socket new.tcb.sender.snd_max (sent_in new (with_segments p (and_offer s.sent offered queue))) (end_in new) x
              (ap (λ (n : ℕ). (n + new.tcb.sender.snd_max) % 2 ^ 32) f.una)
              (in_sent (length p.written) (one_if p.closed) all new.tcb.sender.snd_max (unacked new.tcb (queued_in new)) f.all (few was) snd_max)
              (λ b.
              in_sent_one (length p.written) (one_if p.closed) all new.tcb.sender.snd_max (unacked new.tcb (queued_in new)) f.all
              (below_few was b.alive) snd_max) r)
              offered queue f.ends;
        }
          where
            f : IsFurther cx s.socket small new offered queue
            f = asked.further was on

            all : ℕ
            all = unacked s.socket.tcb (queued_in s.socket)

            snd_max : new.tcb.sender.snd_max ≤ unacked new.tcb (queued_in new)
            snd_max = (placed new l.side l.fits l.holds.0.well_formed on).snd_max

            in_sent : (written closed all snd_max new : ℕ) → new ≡ all → all ≤ suc written + closed → snd_max ≤ new → snd_max ≤ suc written + closed - (new - snd_max)
            in_sent written closed all snd_max new a b c = omega arith

            in_sent_one : (written closed all snd_max new : ℕ) → new ≡ all → suc all ≤ suc written + closed → snd_max ≤ new → suc snd_max ≤ suc written + closed -
                (new - snd_max)
            in_sent_one written closed all snd_max new a b c = omega arith

            sent : sent_in new (with_segments p (and_offer s.sent offered queue)) ≡
                sent_in s.socket (with_segments p s.sent) + (new.tcb.sender.snd_max - s.socket.tcb.sender.snd_max)
            sent =
                ap (λ (n : ℕ). suc (length p.written) + one_if p.closed - (n - new.tcb.sender.snd_max)) f.all
                ∙ more_sent (length p.written) (one_if p.closed) all s.socket.tcb.sender.snd_max new.tcb.sender.snd_max (few was) f.snd_max
                (subst (λ (n : ℕ). new.tcb.sender.snd_max ≤ n) f.all snd_max)

    unsent_moves : Moves s.socket (with_segments p s.sent) (settled false (offer_of cx s.socket).socket) (with_segments p s.sent)
    unsent_moves = record {
      gone = None;
      sent = refl;
      opening = λ e. e;
      early = λ e. inl (asked.kept_early e);
      dead = λ closed on. on_not_closed (offer_of cx s.socket).socket.tcb.state on (asked.kept_dead closed);
      bare = λ _. tt;
      written = λ _. refl;
      goes = λ was on.
          counted_goes s.socket (settled false (offer_of cx s.socket).socket) (with_segments p s.sent) (with_segments p s.sent) None
          (asked.kept was on) refl refl tt;
    }

  -- EACH EVENT

  moves : (event : PairEvent) → IsAllowed event p → MovesTo (acts s others event).side (adds event (acts s others event).answer s.socket.tcb.state p)
  moves (Listen side endpoint) allowed =
      open_moves (listen_after s.socket endpoint) (listen_adds (listen_says (listen_answer s.socket endpoint)) p) allowed
      (listen_written (listen_says (listen_answer s.socket endpoint)) p) (listen_dead endpoint)
  moves (Connect side remote local) allowed =
      open_moves (connect_after (context_at side s) s.socket remote local)
      (connect_adds (connect_says (connect_answer (context_at side s) s.socket remote local)) p) allowed
      (connect_written (connect_says (connect_answer (context_at side s) s.socket remote local)) p) (connect_dead (context_at side s) remote local)
  moves (Send side bytes) allowed = send_moves bytes
  moves (Recv side count) allowed = read_moves count (recv_answer s.socket count)
  moves (Close side) allowed = close_all
  moves (Abort side) allowed = abort_moves
  moves (TcpSetting side setting) allowed = set_moves setting
  moves (Clock side instant) allowed = set_still s.socket refl (refl, refl)
  moves (Offer side instant true) allowed = sent_moves side instant (led s w p q others k (Offer side instant true) tt)
  moves (Offer side instant false) allowed = unsent_moves side instant
  moves (Deliver from n) allowed = handed_moves (other from) (slice_get others n)

  -- the side and its peer
  pub own : (event : PairEvent) → IsAllowed event p → SendsAll s.socket (with_segments p s.sent) w (with_segments q others) →
      SendsAll (acts s others event).side.socket
      (with_segments (adds event (acts s others event).answer s.socket.tcb.state p) (acts s others event).side.sent) w (with_segments q others)
  own event allowed old =
      own_step s.socket (acts s others event).side.socket w (with_segments p s.sent)
      (with_segments (adds event (acts s others event).answer s.socket.tcb.state p) (acts s others event).side.sent) (with_segments q others) k
      (led s w p q others k event allowed) (moves event allowed) old

  -- the peer and the side
  pub peer_sides : (event : PairEvent) → IsAllowed event p → SendsAll w (with_segments q others) s.socket (with_segments p s.sent) →
      SendsAll w (with_segments q others) (acts s others event).side.socket
      (with_segments (adds event (acts s others event).answer s.socket.tcb.state p) (acts s others event).side.sent)
  peer_sides event allowed old = record {
    unopened = old.unopened;
    early = old.early;
    within = old.within;
    keeps = λ on.
        let it = old.keeps on in
        record { socket = it.socket; keeps = led s it.socket p (sent_past w (with_segments q others)) others it.keeps event allowed };
  }
