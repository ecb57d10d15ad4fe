-- An exchange whose answer may come at the right edge of the window: there the other sent what the side hasn't, and sends it again.
use Rattle.std.proofs.Common.{◌≡◌, ◌⊎◌, inl, inr, ℕ, ◌+◌, ◌-◌, ◌*◌, ◌^◌, ◌<◌, ◌≤◌, nat_lt, max, ℤ, pos, ◌+ℤ◌, ◌≤ℤ◌, ◌<ℤ◌, Bool, true, false, if◌then◌else◌}
use Rattle.std.proofs.Common.{List, [], ◌∷◌, length, Option, Some, None, slice_get, refl, sym, ap, ◌∙◌, subst, arith, length-append}
use Rattle.std.proofs.lemmas.Bool.{cond_both, lt-ltb, ltb-false, ltb-true}
use Rattle.std.proofs.lemmas.Int.{ints}
use Rattle.std.proofs.lemmas.Option.{slice_get_past, slice_get_within}
use Rattle.ip_wire.specs.Control.{control_len}
use Rattle.ip_wire.specs.Seq.{distance_of}
use Rattle.ip_wire.specs.SeqNumber.{SeqNumber}
use Rattle.ip_wire.specs.TcpControl.{TcpControl}
use Rattle.ip_wire.specs.TcpHeader.{TcpHeader}
use Rattle.tcp_state.specs.Offsets.{distance_after}
use Rattle.tcp_invariants.specs.Reply.{Reply}
use Rattle.tcp_invariants.proofs.OrderSteps.{clash}
use Rattle.tcp_block.specs.Arrival.{arrives}
use Rattle.tcp_block.specs.Names.{accepts}
use Rattle.tcp_block.specs.Segments.{segment_len}
use Rattle.tcp_block.specs.Value.{free_in, room_of}
use Rattle.tcp_refinement.specs.Pair.Sides.{at, other}
use Rattle.tcp_refinement.specs.Pair.Steps.{handed, taken_at}
use Rattle.tcp_refinement.specs.Pair.Values.{PairSide, PairValue, and_reply, context_at}
use Rattle.tcp_theory.specs.Side.{Side as Position}
use Rattle.tcp_refinement.specs.declared.pair.event.PairEvent.{PairEvent}
use Rattle.tcp_refinement.specs.declared.pair.event.SentSegment.{SentSegment}
use Rattle.tcp_refinement.specs.declared.pair.event.Side.{Side}
use Rattle.tcp_refinement.specs.declared.pair.event.Side.TheVariants.{A, B}
use Rattle.tcp_liveness.specs.Anew.{put_off_in}
use Rattle.tcp_liveness.specs.BothWays.{AreThere, total_in}
use Rattle.tcp_liveness.specs.Clocks.{arrives_stale}
use Rattle.tcp_liveness.specs.Course.{AreEqual, events_of}
use Rattle.tcp_liveness.specs.DelayedSegment.{GoesFrom, ProceedsIn, IsAckedTo, IsAnsweredIn, MayCome, MayHear, come_in, heard_in}
use Rattle.tcp_liveness.specs.Exchange.{IsOpen}
use Rattle.tcp_liveness.specs.Onward.{HasRisen, Lasts}
use Rattle.tcp_liveness.specs.Pair.{left_in, next_sent, socket_of}
use Rattle.tcp_liveness.specs.Readers.{whole_span}
use Rattle.tcp_liveness.specs.Rounds.{takes}
use Rattle.tcp_liveness.specs.Sent.{taken_in}
use Rattle.tcp_liveness.proofs.CourseBegins.{all_gets, free_through}
use Rattle.tcp_liveness.proofs.CourseExchange.{goes_equal, same_len}
use Rattle.tcp_liveness.proofs.CourseInstants.{later, more_time, sooner, upto}
use Rattle.tcp_liveness.proofs.CourseParts.{Course}
use Rattle.tcp_liveness.proofs.CourseStands.{Begins, Gets, stands_first, stands_on}
use Rattle.tcp_liveness.proofs.Exchange.{last_of}
use Rattle.tcp_liveness.proofs.Inside.{in_window, snd_max_ahead}
use Rattle.tcp_liveness.proofs.Kept.{reached_keeps}
use Rattle.tcp_liveness.proofs.LateAnswers.{late_answer}
use Rattle.tcp_liveness.proofs.LateExchange.{proceeds_as}
use Rattle.tcp_liveness.proofs.LatePayload.{Outcome, Told, few_had, left_within, outcome}
use Rattle.tcp_liveness.proofs.OnwardPairs.{MovesIn, by_steps, stays, then_moves}
use Rattle.tcp_liveness.proofs.Pair.{not_closed}
use Rattle.tcp_liveness.proofs.Positions.{IsPlaced, next_small, placed, una_small}
use Rattle.tcp_liveness.proofs.SentPairs.{reached_took}
use Rattle.tcp_liveness.proofs.Taken.{again_lies_before}
use Rattle.tcp_liveness.proofs.WindowPairs.{near_in}
use Rattle.proof_stack.specs.Progress.Edges.{ArrivesBy, HasMoreSent, LiesAtEdge, edge_span}
use Rattle.proof_stack.proofs.AtEdges.Comes.{Comes, Here, Risen, clock_at, comes_in, from_here, here_at, lasts_between, moves_between, open_here, raised, step_on, steps_between, stream_here, there_here}
use Rattle.proof_stack.proofs.AtEdges.Sent.{follows_more}

-- MOMENTS

itself : (n : ℕ) → n ≤ n
itself n = omega arith

-- WHAT ANSWERS A SEGMENT HAS NO TEXT

no_bytes : (sent : List SentSegment) (answer : Option Reply) (y : SentSegment) → slice_get (and_reply sent answer) (length sent) ≡ Some y → y.bytes ≡ []
no_bytes sent None y e = absurd (let none = slice_get_past sent (length sent) (itself (length sent)) in cc)
no_bytes sent (Some reply) y e =
    ap (λ (z : SentSegment). z.bytes)
    (one y (record { header = reply.header; segment = reply.segment; bytes = [] })
    (sym e ∙ last_of sent (record { header = reply.header; segment = reply.segment; bytes = [] })))
  where
    one : (a b : SentSegment) → Some a ≡ Some b → a ≡ b
    one a b e = cc

bare_answer :
    (side : Side) (s : PairSide) (found : Option SentSegment) (y : SentSegment) → slice_get (handed side s found).sent (length s.sent) ≡ Some y
    → y.bytes ≡ []
bare_answer side s None y e = no_bytes s.sent None y e
bare_answer side s (Some z) y e =
    cond_both (accepts s.socket.tcb z.header z.segment) (taken_at s (arrives (context_at side s) s.socket z.header z.segment z.bytes)) s
    (λ (t : PairSide). slice_get t.sent (length s.sent) ≡ Some y → y.bytes ≡ [])
    (λ _. no_bytes s.sent (arrives (context_at side s) s.socket z.header z.segment z.bytes).answer y) (λ _. no_bytes s.sent None y) e

bare_in :
    (p : PairValue) (side : Side) (k : ℕ) (y : SentSegment) → slice_get (at (come_in p side k).sides (other side)).sent (next_sent p (other side)) ≡ Some y
    → y.bytes ≡ []
bare_in p A k y = bare_answer B p.sides.b (slice_get p.sides.a.sent k) y
bare_in p B k y = bare_answer A p.sides.a (slice_get p.sides.b.sent k) y

back_again : (side : Side) → other (other side) ≡ side
back_again A = refl
back_again B = refl

may_hear : (p : PairValue) (side : Side) (j : ℕ) (y : SentSegment) → slice_get (at p.sides (other side)).sent j ≡ Some y →
    arrives_stale (socket_of p (other (other side))).tcb y.segment.options.timestamp ≡ false → segment_len y.segment (length y.bytes) ≡ 0 →
    distance_of (socket_of p side).tcb.receiver.next y.segment.seq_number < 2 ^ 31 →
    distance_after (socket_of p side).tcb.receiver.next y.segment.seq_number < max 1 (free_in (socket_of p side)) → MayHear p side j y
may_hear p side j y sent initial bare ahead inside = record {
  sent = sent;
  initial = subst (λ (of : Side). arrives_stale (socket_of p of).tcb y.segment.options.timestamp ≡ false) (back_again side) initial;
  near = inl (in_window (socket_of p side).tcb (free_in (socket_of p side)) y.segment (length y.bytes) bare ahead inside);
}

module _ (p q : PairValue) (there : AreThere q) (read wait delay : ℕ) (end : ℤ) where
  abbrev Here_ : PairValue → ℤ → Course → Type 0
  Here_ m now rest = Here p q there read wait delay end m now rest

  abbrev Risen_ : Type 0
  Risen_ = Risen p q there read wait delay end

  -- what has risen from a pair on
  risen_on : (m n : PairValue) (of : Side) (old now : ℤ) (tail rest : Course) → Here_ m old tail → Here_ n now rest → HasRisen m n of → Risen_
  risen_on m n of old now tail rest h onward risen =
      raised p q there read wait delay end m n of (h.to of) risen (from_here p q there read wait delay end n now rest onward of)

  -- SND.UNA stays, or more is acknowledged
  una_or_risen :
      (m n : PairValue) (of : Side) (old now : ℤ) (tail rest : Course) → Here_ m old tail → Here_ n now rest → MovesIn m n of
      → ((socket_of n of).tcb.sender.una ≡ (socket_of m of).tcb.sender.una) ⊎ Risen_
  una_or_risen m n of old now tail rest h onward moves =
      by (moves.una (not_closed (socket_of n of).tcb.state (there_here p q there read wait delay end n now rest onward of))) where
        less : (a b c d : ℕ) → a + b < c + d → d ≤ a → a - d < c - b
        less a b c d e f = omega arith

        by :
            (((socket_of n of).tcb.sender.una ≡ (socket_of m of).tcb.sender.una)
            × ((socket_of m of).tcb.sender.snd_max ≤ (socket_of n of).tcb.sender.snd_max))
            ⊎ (total_in m of + left_in n of < total_in n of + left_in m of)
            → ((socket_of n of).tcb.sender.una ≡ (socket_of m of).tcb.sender.una) ⊎ Risen_
        by (inl same) = inl same.0
        by (inr risen) =
            inr
            (risen_on m n of old now tail rest h onward
            (inl
            (less (total_in m of) (left_in n of) (total_in n of) (left_in m of) risen
            (left_within m of h.reached (open_here p q there read wait delay end m old tail h of)))))

  -- RCV.NXT stays, or more is taken
  next_or_risen :
      (m n : PairValue) (of : Side) (old now : ℤ) (tail rest : Course) → Here_ m old tail → Here_ n now rest → MovesIn m n of
      → ((socket_of n of).tcb.receiver.next ≡ (socket_of m of).tcb.receiver.next) ⊎ Risen_
  next_or_risen m n of old now tail rest h onward moves =
      by (moves.next (not_closed (socket_of n of).tcb.state (there_here p q there read wait delay end n now rest onward of))) where
        by :
            ((socket_of n of).tcb.receiver.next ≡ (socket_of m of).tcb.receiver.next) ⊎ (taken_in m of < taken_in n of)
            → ((socket_of n of).tcb.receiver.next ≡ (socket_of m of).tcb.receiver.next) ⊎ Risen_
        by (inl same) = inl same
        by (inr more) = inr (risen_on m n of old now tail rest h onward (inr more))

  -- a side that owes something sends, in time
  begins :
      (side : Side) (reserve : ℕ) (m : PairValue) (now : ℤ) (rest : Course) → Here_ m now rest → 1 ≤ left_in m side
      → (now +ℤ pos (read + 60_000_000 + wait + wait + (put_off_in m side + wait + reserve))) <ℤ end
      → Risen_ ⊎ Begins side reserve m rest
  begins side reserve m now rest h owes over =
      by
      (all_gets q side there wait reserve m now rest read
      (record {
        reached = h.reached;
        a = h.begun A;
        b = h.begun B;
        steps = h.steps;
        owes = owes;
        in_time = record {
          clock = h.in_time.clocks side;
          clocked = h.in_time.clocked;
          asks = h.in_time.asks;
          taken = h.in_time.taken;
          room = h.in_time.rooms (other side);
        };
      })
      (h.in_time.reads (other side))
      (subst (λ (e : ℤ). (now +ℤ pos (read + 60_000_000 + wait + wait + (put_off_in m side + wait + reserve))) <ℤ e) (sym h.same_end) over))
    where
      by : Gets q side reserve m rest → Risen_ ⊎ Begins side reserve m rest
      by (inl risen) = inl (raised p q there read wait delay end m q side (h.to side) risen (stays _ _))
      by (inr (inl risen)) = inl (raised p q there read wait delay end m q (other side) (h.to (other side)) risen (stays _ _))
      by (inr (inr it)) = inr it

  -- ITS SEGMENT COMES

  module _ (side : Side) (reserve : ℕ) (m : PairValue) (now : ℤ) (rest : Course) (h : Here_ m now rest) (b : Begins side reserve m rest)
      (fits : (b.x.0 +ℤ pos delay) <ℤ end) where
    abbrev k : ℕ
    k = next_sent b.m side

    abbrev after : PairValue
    after = takes b.m b.x.1

    began : Here_ b.m (clock_at p q there read wait delay end m b.m now rest (b.x ∷ b.rest) b.stands) (b.x ∷ b.rest)
    began = here_at p q there read wait delay end m b.m now rest (b.x ∷ b.rest) h b.stands

    gone : Here_ after b.x.0 b.rest
    gone =
        step_on p q there read wait delay end b.m (clock_at p q there read wait delay end m b.m now rest (b.x ∷ b.rest) b.stands) b.x b.rest began

    first : Comes after b.rest (b.x.0 +ℤ pos delay) side k b.goes.x
    first =
        comes_in after b.rest (b.x.0 +ℤ pos delay) side k b.goes.x after b.rest b.x.0 (stands_first after b.rest) b.goes.sent (later b.x.0 delay)
        (began.in_time.comes.0 side k (itself k) (slice_get_within (at after.sides side).sent k b.goes.x b.goes.sent))
        (subst (λ (e : ℤ). (b.x.0 +ℤ pos delay) <ℤ e) (sym gone.same_end) fits)

    -- what comes
    abbrev number : ℕ
    number = first.number

    abbrev z : SentSegment
    z = first.segment

    goes : GoesFrom after side z
    goes = goes_equal after side b.goes.x z first.equal b.goes.goes

    abbrev n : PairValue
    n = first.m

    abbrev n_clock : ℤ
    n_clock = clock_at p q there read wait delay end after n b.x.0 b.rest (first.event ∷ first.rest) first.stands

    here_n : Here_ n n_clock (first.event ∷ first.rest)
    here_n = here_at p q there read wait delay end after n b.x.0 b.rest (first.event ∷ first.rest) gone first.stands

    until : Lasts after n
    until = lasts_between p q there read wait delay end after n b.x.0 b.rest (first.event ∷ first.rest) gone first.stands

    comes : MayCome n side number z
    comes = record { sent = first.sent; initial = first.initial }

    abbrev came : PairValue
    came = come_in n side number

    here_came : Here_ came first.event.0 first.rest
    here_came =
        subst (λ (event : PairEvent). Here_ (takes n event) first.event.0 first.rest) first.is
        (step_on p q there read wait delay end n n_clock first.event first.rest here_n)

    abbrev Told_ : Type 0
    Told_ =
        Told after n side number z gone.reached until (stream_here p q there read wait delay end after b.x.0 b.rest gone side)
        (gone.in_time.rooms (other side)) goes comes

    abbrev Outcome_ : Type 0
    Outcome_ =
        Outcome after n side number z gone.reached until (stream_here p q there read wait delay end after b.x.0 b.rest gone side)
        (gone.in_time.rooms (other side)) goes comes

    -- the other's window isn't closed then, or more was taken
    not_shut : free_in (socket_of n (other side)) ≡ 0 → Risen_
    not_shut none =
        by
        (free_through after n (other side) (events_of first.stands.first) gone.reached (gone.begun A) (gone.begun B)
        (steps_between p q there read wait delay end after n b.x.0 b.rest (first.event ∷ first.rest) gone first.stands)
        (there_here p q there read wait delay end n n_clock (first.event ∷ first.rest) here_n (other side)) b.free)
      where
        never : (free : ℕ) → 1 ≤ free → free ≡ 0 → ⊥
        never free e f = absurd (omega arith)

        by : (1 ≤ free_in (socket_of n (other side))) ⊎ (taken_in after (other side) < taken_in n (other side)) → Risen_
        by (inl free) = absurd (never (free_in (socket_of n (other side))) free none)
        by (inr more) = risen_on after n (other side) b.x.0 n_clock b.rest (first.event ∷ first.rest) gone here_n (inr more)

    -- something rises, or the other has all of it already
    exchanged : Risen_ ⊎ Told_
    exchanged =
        by
        (outcome after n side number z gone.reached until (stream_here p q there read wait delay end after b.x.0 b.rest gone side)
        (gone.in_time.rooms (other side)) goes comes)
      where
        by : Outcome_ → Risen_ ⊎ Told_
        by (inl risen) = inl (risen_on after n (other side) b.x.0 n_clock b.rest (first.event ∷ first.rest) gone here_n risen)
        by (inr (inl taken)) =
            inl (risen_on n came (other side) n_clock first.event.0 (first.event ∷ first.rest) first.rest here_n here_came (inr taken))
        by (inr (inr (inl told))) = inr told
        by (inr (inr (inr (inl shut)))) = inl (not_shut shut.none)
        by (inr (inr (inr (inr ends)))) =
            clash
            (sym ends.1
            ∙ not_closed (socket_of came (other side)).tcb.state
            (there_here p q there read wait delay end came first.event.0 first.rest here_came (other side)))

    -- where the other had none of what isn't acknowledged, it is new
    new_rises :
        distance_of (socket_of m side).tcb.sender.una (socket_of m (other side)).tcb.receiver.next ≡ 0 → MovesIn m after side
        → MovesIn m after (other side) → Risen_
    new_rises none mine theirs =
        by (una_or_risen m after side now b.x.0 rest b.rest h gone mine) (next_or_risen m after (other side) now b.x.0 rest b.rest h gone theirs) exchanged
      where
        nothing : (far len : ℕ) → far ≡ 0 → 1 ≤ len → len ≤ far → ⊥
        nothing far len e f g = absurd (omega arith)

        by :
            ((socket_of after side).tcb.sender.una ≡ (socket_of m side).tcb.sender.una) ⊎ Risen_
            → ((socket_of after (other side)).tcb.receiver.next ≡ (socket_of m (other side)).tcb.receiver.next) ⊎ Risen_ → Risen_ ⊎ Told_ → Risen_
        by (inr risen) next told = risen
        by (inl una) (inr risen) told = risen
        by (inl una) (inl next) (inl risen) = risen
        by (inl una) (inl next) (inr told) =
            absurd
            (nothing (distance_of (socket_of after side).tcb.sender.una (socket_of after (other side)).tcb.receiver.next)
            (segment_len z.segment (length z.bytes))
            (ap (λ (una : SeqNumber). distance_of una (socket_of after (other side)).tcb.receiver.next) una
            ∙ (ap (λ (next : SeqNumber). distance_of (socket_of m side).tcb.sender.una next) next ∙ none))
            goes.some told.whole)

    -- THE ANSWER COMES

    module _ (both_fit : ((b.x.0 +ℤ pos delay) +ℤ pos delay) <ℤ end) (t : Told_) where
      abbrev j : ℕ
      j = next_sent n (other side)

      abbrev answer : SentSegment
      answer = t.answered.answer

      sent_of : (it : IsAnsweredIn n side number) → slice_get (at came.sides (other side)).sent j ≡ Some it.answer
      sent_of it = ap (λ (sent : List SentSegment). slice_get sent j) it.sent ∙ last_of (at n.sides (other side)).sent it.answer

      one : (it : IsAnsweredIn n side number) → it.answer ≡ answer
      one it = same it.answer answer (sym (sent_of it) ∙ sent_of t.answered) where
        same : (a b : SentSegment) → Some a ≡ Some b → a ≡ b
        same a b e = cc

      bare : segment_len answer.segment (length answer.bytes) ≡ 0
      bare =
          ap (λ (bytes : List ℕ). segment_len answer.segment (length bytes)) (bare_in n side number answer (sent_of t.answered))
          ∙ ap (λ (control : TcpControl). 0 + control_len control) t.answered.plain

      more_sent : j < next_sent came (other side)
      more_sent =
          subst (λ (n : ℕ). j < n)
          (sym (ap (λ (sent : List SentSegment). length sent) t.answered.sent ∙ length-append (at n.sides (other side)).sent (answer ∷ [])))
          (one_more j)
        where
          one_more : (n : ℕ) → n < n + 1
          one_more n = omega arith

      drawn : (of : Side) (i : ℕ) → next_sent n of ≤ i → i < next_sent came of → ArrivesBy (first.event.0 +ℤ pos delay) of i came first.rest
      drawn =
          subst
          (λ (event : PairEvent).
          (of : Side) (i : ℕ) → next_sent n of ≤ i → i < next_sent (takes n event) of
          → ArrivesBy (first.event.0 +ℤ pos delay) of i (takes n event) first.rest)
          first.is here_n.in_time.comes.0

      second : Comes came first.rest (first.event.0 +ℤ pos delay) (other side) j answer
      second =
          comes_in came first.rest (first.event.0 +ℤ pos delay) (other side) j answer came first.rest first.event.0 (stands_first came first.rest)
          (sent_of t.answered) (later first.event.0 delay) (drawn (other side) j (itself j) more_sent)
          (subst (λ (e : ℤ). (first.event.0 +ℤ pos delay) <ℤ e) (sym here_came.same_end)
          (sooner first.event.0 (b.x.0 +ℤ pos delay) end delay first.within both_fit))

      abbrev last : PairValue
      last = second.m

      abbrev last_clock : ℤ
      last_clock = clock_at p q there read wait delay end came last first.event.0 first.rest (second.event ∷ second.rest) second.stands

      here_last : Here_ last last_clock (second.event ∷ second.rest)
      here_last = here_at p q there read wait delay end came last first.event.0 first.rest (second.event ∷ second.rest) here_came second.stands

      since : Lasts came last
      since = lasts_between p q there read wait delay end came last first.event.0 first.rest (second.event ∷ second.rest) here_came second.stands

      to_last : (of : Side) → MovesIn came last of
      to_last of = moves_between p q there read wait delay end came last first.event.0 first.rest (second.event ∷ second.rest) here_came second.stands of

      -- what comes as the answer
      abbrev i : ℕ
      i = second.number

      abbrev w : SentSegment
      w = second.segment

      number_is : w.segment.seq_number ≡ answer.segment.seq_number
      number_is = ap (λ (h : TcpHeader). h.seq_number) second.equal.segment

      abbrev heard : PairValue
      heard = heard_in last side i

      here_heard : Here_ heard second.event.0 second.rest
      here_heard =
          subst (λ (event : PairEvent). Here_ (takes last event) second.event.0 second.rest) second.is
          (step_on p q there read wait delay end last last_clock second.event second.rest here_last)

      -- the clock, as the answer comes
      in_span : last_clock ≤ℤ ((b.x.0 +ℤ pos delay) +ℤ pos delay)
      in_span =
          upto last_clock (first.event.0 +ℤ pos delay) ((b.x.0 +ℤ pos delay) +ℤ pos delay)
          (upto last_clock second.event.0 (first.event.0 +ℤ pos delay) here_last.in_time.clocked.0 second.within)
          (more_time first.event.0 (b.x.0 +ℤ pos delay) delay first.within)

      -- INSIDE

      ahead : (socket_of last side).tcb.receiver.next ≡ (socket_of came side).tcb.receiver.next →
          distance_of (socket_of last side).tcb.receiver.next answer.segment.seq_number < 2 ^ 31
      ahead same =
          subst (λ (n : SeqNumber). distance_of n answer.segment.seq_number < 2 ^ 31) (sym same)
          (subst (λ (n : SeqNumber). distance_of (socket_of came side).tcb.receiver.next n < 2 ^ 31) (sym t.answered.bare)
          (snd_max_ahead came side here_came.reached (open_here p q there read wait delay end came first.event.0 first.rest here_came side)
          (open_here p q there read wait delay end came first.event.0 first.rest here_came (other side))))

      inside_rises : (socket_of last side).tcb.receiver.next ≡ (socket_of came side).tcb.receiver.next →
          distance_after (socket_of last side).tcb.receiver.next answer.segment.seq_number < max 1 (free_in (socket_of last side)) → Risen_
      inside_rises same inside =
          by
          (proceeds_as after n last side number i z gone.reached
          (record {
            stream = stream_here p q there read wait delay end after b.x.0 b.rest gone side;
            room = gone.in_time.rooms (other side);
            goes = goes;
            first = until;
            comes = comes;
            second = since;
            hears = λ it. record {
              segment = w;
              equal = subst (λ (x : SentSegment). AreEqual x w) (sym (one it)) second.equal;
              may =
                  may_hear last side i w second.sent second.initial (same_len last (other side) answer w second.equal ∙ bare)
                  (subst (λ (m : SeqNumber). distance_of (socket_of last side).tcb.receiver.next m < 2 ^ 31) (sym number_is) (ahead same))
                  (subst (λ (m : SeqNumber). distance_after (socket_of last side).tcb.receiver.next m < max 1 (free_in (socket_of last side))) (sym number_is) inside);
            };
          }))
        where
          by : ProceedsIn after n last side number i → Risen_
          by (inl risen) = risen_on after came (other side) b.x.0 first.event.0 b.rest first.rest gone here_came risen
          by (inr (inl none)) = not_shut none
          by (inr (inr (inl risen))) = risen_on after heard side b.x.0 second.event.0 b.rest second.rest gone here_heard risen
          by (inr (inr (inr closed))) =
              clash
              (sym closed
              ∙ not_closed (socket_of heard side).tcb.state
              (there_here p q there read wait delay end heard second.event.0 second.rest here_heard side))

      -- AT THE EDGE

      -- the segment acknowledged all that the side took
      acked : IsAckedTo (socket_of after side).tcb.receiver.next (socket_of came (other side)).tcb.sender.una
      acked =
          late_answer n side number z (socket_of after side).tcb.receiver.next here_n.reached (
            open_here p q there read wait delay end n n_clock (first.event ∷ first.rest) here_n A,
            open_here p q there read wait delay end n n_clock (first.event ∷ first.rest) here_n B,
          )
          (stream_here p q there read wait delay end n n_clock (first.event ∷ first.rest) here_n (other side)) comes goes.no_syn
          goes.no_reset goes.acknowledges
          (inr
          (again_lies_before (socket_of n (other side)) z.segment (length z.bytes)
          (record {
            some = goes.some;
            begins = subst (λ (d : ℕ). d < 2 ^ 31) (sym distance) few;
            ends = subst (λ (d : ℕ). segment_len z.segment (length z.bytes) ≤ d) (sym distance) t.whole;
            near =
                near_by (room_of (socket_of after (other side)).received)
                (near_in after side gone.reached (open_here p q there read wait delay end after b.x.0 b.rest gone side)
                (there_here p q there read wait delay end after b.x.0 b.rest gone (other side)) (gone.in_time.rooms (other side)))
                distance
                (moves_between p q there read wait delay end after n b.x.0 b.rest (first.event ∷ first.rest) gone first.stands (other side)).room;
            seq_small = subst (λ (m : SeqNumber). m.0 < 2 ^ 32) (sym goes.number) (una_small (socket_of after side) placed_after.0 placed_after.1);
            next_small = next_small (socket_of n (other side)) placed_n.0 placed_n.1;
          })))
        where
          distance :
              distance_of z.segment.seq_number (socket_of n (other side)).tcb.receiver.next
              ≡ distance_of (socket_of after side).tcb.sender.una (socket_of after (other side)).tcb.receiver.next
          distance =
              ap (λ (m : SeqNumber). distance_of m (socket_of n (other side)).tcb.receiver.next) goes.number
              ∙ ap (λ (m : SeqNumber). distance_of (socket_of after side).tcb.sender.una m) t.next

          few : distance_of (socket_of after side).tcb.sender.una (socket_of after (other side)).tcb.receiver.next < 2 ^ 31
          few =
              few_had after n side number z gone.reached until (stream_here p q there read wait delay end after b.x.0 b.rest gone side)
              (gone.in_time.rooms (other side)) goes comes

          near_by : (old : ℕ) {far near new : ℕ} → far ≤ old + 2 → near ≡ far → new ≡ old → near ≤ new + 2
          near_by old e f h = omega arith

          placed_after : (s : Position) × IsPlaced (socket_of after side) s
          placed_after =
              let keeps = reached_keeps after side gone.reached in (
                keeps.side,
                placed (socket_of after side) keeps.side keeps.fits keeps.holds.0.well_formed
                    (there_here p q there read wait delay end after b.x.0 b.rest gone side),
              )

          placed_n : (s : Position) × IsPlaced (socket_of n (other side)) s
          placed_n =
              let keeps = reached_keeps n (other side) here_n.reached in (
                keeps.side,
                placed (socket_of n (other side)) keeps.side keeps.fits keeps.holds.0.well_formed
                    (there_here p q there read wait delay end n n_clock (first.event ∷ first.rest) here_n (other side)),
              )

      abbrev far : ℕ
      far = distance_of (socket_of last (other side)).tcb.sender.una (socket_of last side).tcb.receiver.next

      -- so SND.UNA of the other is RCV.NXT of the side
      none_left : (socket_of last (other side)).tcb.sender.una ≡ (socket_of came (other side)).tcb.sender.una →
          (socket_of last side).tcb.receiver.next ≡ (socket_of after side).tcb.receiver.next → far ≡ 0
      none_left una next =
          nothing
          (subst (λ (m : SeqNumber). IsAckedTo m (socket_of last (other side)).tcb.sender.una) (sym next)
          (subst (λ (m : SeqNumber). IsAckedTo (socket_of after side).tcb.receiver.next m) (sym una) acked))
          (nat_lt far (2 ^ 31)) refl
        where
          mine : IsOpen (socket_of last side).tcb
          mine = open_here p q there read wait delay end last last_clock (second.event ∷ second.rest) here_last side

          theirs : IsOpen (socket_of last (other side)).tcb
          theirs = open_here p q there read wait delay end last last_clock (second.event ∷ second.rest) here_last (other side)

          few : far < 2 ^ 31
          few =
              let keeps = reached_keeps last (other side) here_last.reached in
              let it =
              placed (socket_of last (other side)) keeps.side keeps.fits keeps.holds.0.well_formed theirs.synchronized in
              less far (socket_of last (other side)).tcb.sender.snd_max (left_in last (other side))
              (reached_took last side here_last.reached mine theirs).heard it.snd_max it.few
            where
              less : (a b c : ℕ) → a ≤ b → b ≤ c → c < 2 ^ 30 → a < 2 ^ 31
              less a b c e f g = omega arith

          nothing : IsAckedTo (socket_of last side).tcb.receiver.next (socket_of last (other side)).tcb.sender.una → (near : Bool) →
              nat_lt far (2 ^ 31) ≡ near → far ≡ 0
          nothing it near e = sym (ap (λ (t : Bool). if t then far else 0) (lt-ltb far (2 ^ 31) few)) ∙ it

      -- the other's turn: what it sends from SND.UNA on is new
      record AtEdge : Type 0 where
        owes : 1 ≤ left_in last (other side)
        none : far ≡ 0

      answered : Risen_ ⊎ AtEdge
      answered =
          by (next_or_risen came last side first.event.0 last_clock first.rest (second.event ∷ second.rest) here_came here_last (to_last side))
          (nat_lt (distance_after (socket_of last side).tcb.receiver.next answer.segment.seq_number) (max 1 (free_in (socket_of last side)))) refl
        where
          to_came : MovesIn after came side
          to_came =
              then_moves after n came side
              (moves_between p q there read wait delay end after n b.x.0 b.rest (first.event ∷ first.rest) gone first.stands side)
              (subst (λ (event : PairEvent). MovesIn n (takes n event) side) first.is
              (by_steps n (first.event.1 ∷ []) (takes n first.event.1) here_n.reached (here_n.begun A) (here_n.begun B) (here_n.steps.0, refl) side))

          more : HasMoreSent last (other side) × (1 ≤ left_in last (other side))
              → ((socket_of last side).tcb.receiver.next ≡ (socket_of came side).tcb.receiver.next)
              → ((socket_of last (other side)).tcb.sender.una ≡ (socket_of came (other side)).tcb.sender.una) ⊎ Risen_
              → ((socket_of came side).tcb.receiver.next ≡ (socket_of after side).tcb.receiver.next) ⊎ Risen_ → Risen_ ⊎ AtEdge
          more it next (inr risen) old = inl risen
          more it next (inl una) (inr risen) = inl risen
          more it next (inl una) (inl old) = inr (record { owes = it.1; none = none_left una (next ∙ old) })

          rcv_adv : ((socket_of last side).tcb.receiver.next ≡ (socket_of came side).tcb.receiver.next)
              → HasRisen came last (other side) ⊎ (HasMoreSent last (other side) × (1 ≤ left_in last (other side))) → Risen_ ⊎ AtEdge
          rcv_adv next (inl risen) =
              inl
              (risen_on came last (other side) first.event.0 last_clock first.rest (second.event ∷ second.rest) here_came here_last risen)
          rcv_adv next (inr it) =
              more it next
              (una_or_risen came last (other side) first.event.0 last_clock first.rest (second.event ∷ second.rest) here_came here_last
              (to_last (other side)))
              (next_or_risen after came side b.x.0 first.event.0 b.rest first.rest gone here_came to_came)

          by :
              ((socket_of last side).tcb.receiver.next ≡ (socket_of came side).tcb.receiver.next) ⊎ Risen_ → (inside : Bool)
              → nat_lt (distance_after (socket_of last side).tcb.receiver.next answer.segment.seq_number) (max 1 (free_in (socket_of last side))) ≡ inside
              → Risen_ ⊎ AtEdge
          by (inr risen) inside e = inl risen
          by (inl next) true e =
              inl
              (inside_rises next
              (ltb-true (distance_after (socket_of last side).tcb.receiver.next answer.segment.seq_number) (max 1 (free_in (socket_of last side))) e))
          by (inl next) false e =
              rcv_adv next
              (follows_more came last (other side) answer.segment.seq_number here_came.reached since t.answered.bare
              (subst (λ (of : Side). LiesAtEdge last of answer.segment.seq_number) (sym (back_again side))
              (ltb-false (distance_after (socket_of last side).tcb.receiver.next answer.segment.seq_number) (max 1 (free_in (socket_of last side))) e)))

  -- TWO SPANS

  -- where the other had none of what a side owes, one is enough
  one_span :
      (side : Side) (m : PairValue) (now : ℤ) (rest : Course) → Here_ m now rest → 1 ≤ left_in m side
      → distance_of (socket_of m side).tcb.sender.una (socket_of m (other side)).tcb.receiver.next ≡ 0
      → (now +ℤ pos (read + 60_000_000 + wait + wait + (put_off_in m side + wait + delay))) <ℤ end → Risen_
  one_span side m now rest h owes none over = by (begins side delay m now rest h owes over) where
    moves : (b : Begins side delay m rest) (of : Side) → MovesIn m (takes b.m b.x.1) of
    moves b of =
        moves_between p q there read wait delay end m (takes b.m b.x.1) now rest b.rest h (stands_on m rest b.m b.x b.rest b.stands) of

    by : Risen_ ⊎ Begins side delay m rest → Risen_
    by (inl risen) = risen
    by (inr b) =
        new_rises side delay m now rest h b
        (subst (λ (e : ℤ). (b.x.0 +ℤ pos delay) <ℤ e)
        (here_at p q there read wait delay end m b.m now rest (b.x ∷ b.rest) h b.stands).same_end b.over)
        none (moves b side) (moves b (other side))

  -- else the other's is the second
  pub two_spans :
      (side : Side) (m : PairValue) (now : ℤ) (rest : Course) → Here_ m now rest → 1 ≤ left_in m side
      → (now +ℤ pos (edge_span read wait delay m side)) <ℤ end → Risen_
  two_spans side m now rest h owes over = by (begins side reserve m now rest h owes (whole now end (put_off_in m side) (put_off_in m (other side)) over)) where
    reserve : ℕ
    reserve = delay + delay + whole_span read wait delay m (other side)

    whole : (now end : ℤ) (mine theirs : ℕ) →
        (now +ℤ pos ((read + 60_000_000 + wait + wait + (mine + wait + delay + delay)) + (read + 60_000_000 + wait + wait + (theirs + wait + delay + delay)))) <ℤ end
        → (now +ℤ pos (read + 60_000_000 + wait + wait + (mine + wait + (delay + delay + (read + 60_000_000 + wait + wait + (theirs + wait + delay + delay)))))) <ℤ end
    whole now end mine theirs e = first_of (omega (arith, ints), grind (arith, ints))

    one_fits : (a end : ℤ) (span : ℕ) → (a +ℤ pos (delay + delay + span)) <ℤ end → (a +ℤ pos delay) <ℤ end
    one_fits a end span e = first_of (omega (arith, ints), grind (arith, ints))

    both_fit : (a end : ℤ) (span : ℕ) → (a +ℤ pos (delay + delay + span)) <ℤ end → ((a +ℤ pos delay) +ℤ pos delay) <ℤ end
    both_fit a end span e = first_of (omega (arith, ints), grind (arith, ints))

    then_fits : (a now end : ℤ) (theirs : ℕ) → now ≤ℤ ((a +ℤ pos delay) +ℤ pos delay) →
        (a +ℤ pos (delay + delay + (read + 60_000_000 + wait + wait + (theirs + wait + delay + delay)))) <ℤ end
        → (now +ℤ pos (read + 60_000_000 + wait + wait + (theirs + wait + delay))) <ℤ end
    then_fits a now end theirs e f = first_of (omega (arith, ints), grind (arith, ints))

    by : Risen_ ⊎ Begins side reserve m rest → Risen_
    by (inl risen) = risen
    by (inr b) = told (exchanged side reserve m now rest h b fits) where
      over_then : (b.x.0 +ℤ pos reserve) <ℤ end
      over_then =
          subst (λ (e : ℤ). (b.x.0 +ℤ pos reserve) <ℤ e)
          (here_at p q there read wait delay end m b.m now rest (b.x ∷ b.rest) h b.stands).same_end b.over

      fits : (b.x.0 +ℤ pos delay) <ℤ end
      fits = one_fits b.x.0 end (whole_span read wait delay m (other side)) over_then

      both : ((b.x.0 +ℤ pos delay) +ℤ pos delay) <ℤ end
      both = both_fit b.x.0 end (whole_span read wait delay m (other side)) over_then

      told : Risen_ ⊎ Told_ side reserve m now rest h b fits → Risen_
      told (inl risen) = risen
      told (inr t) = rcv_adv (answered side reserve m now rest h b fits both t) where
        final : PairValue
        final = last side reserve m now rest h b fits both t

        same_room : put_off_in final (other side) ≡ put_off_in m (other side)
        same_room =
            ap (λ (room : ℕ). (max 1 room + 2 + 2) * 60_000_000)
            (((here_last side reserve m now rest h b fits both t).to (other (other side))).room ∙ sym (h.to (other (other side))).room)

        rcv_adv : Risen_ ⊎ AtEdge side reserve m now rest h b fits both t → Risen_
        rcv_adv (inl risen) = risen
        rcv_adv (inr it) =
            one_span (other side) final (last_clock side reserve m now rest h b fits both t) _ (here_last side reserve m now rest h b fits both t) it.owes
            (ap
            (λ (of : Side). distance_of (socket_of final (other side)).tcb.sender.una (socket_of final of).tcb.receiver.next) (back_again side)
            ∙ it.none)
            (subst
            (λ (put : ℕ).
            (last_clock side reserve m now rest h b fits both t +ℤ pos (read + 60_000_000 + wait + wait + (put + wait + delay))) <ℤ end)
            (sym same_room)
            (then_fits b.x.0 (last_clock side reserve m now rest h b fits both t) end (put_off_in m (other side))
            (in_span side reserve m now rest h b fits both t) over_then))
