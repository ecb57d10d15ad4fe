-- An exchange goes on, however long it takes, and whatever happens meanwhile.
use Rattle.std.proofs.Common.{◌≡◌, ◌⊎◌, inl, inr, ℕ, ◌+◌, ◌-◌, ◌^◌, ◌<◌, ◌≤◌, ℤ, Bool, true, false, if◌then◌else◌, [], ◌∷◌, length}
use Rattle.std.proofs.Common.{Option, Some, None, slice_get, refl, sym, ap, ◌∙◌, subst, arith}
use Rattle.std.proofs.lemmas.Bool.{lt-ltb}
use Rattle.std.proofs.lemmas.Option.{slice_get_within}
use Rattle.net_base.specs.Ring.{Ring}
use Rattle.ip_wire.specs.Seq.{distance_of}
use Rattle.ip_wire.specs.SeqNumber.{SeqNumber}
use Rattle.ip_wire.specs.TcpControl.TheVariants as Control
use Rattle.ip_wire.specs.TcpHeader.{TcpHeader}
use Rattle.tcp_refinement.specs.Context.{ContextValue}
use Rattle.tcp_invariants.specs.Controls.{is_rst, is_syn}
use Rattle.tcp_invariants.specs.Offsets.{distance_after}
use Rattle.tcp_invariants.specs.OpenOffer.{OpenOffer}
use Rattle.tcp_invariants.specs.States.{is_closed}
use Rattle.tcp_invariants.specs.Timing.{carries}
use Rattle.tcp_invariants.proofs.OrderSteps.{clash}
use Rattle.tcp_block.specs.TcbRules.{one_if}
use Rattle.tcp_block.specs.Offers.{offer_of}
use Rattle.tcp_block.specs.Segments.{segment_len}
use Rattle.tcp_block.specs.Value.{room_of}
use Rattle.tcp_refinement.specs.Pair.Sides.{at, other}
use Rattle.tcp_refinement.specs.Pair.Steps.{offered_at, refusal}
use Rattle.tcp_refinement.specs.Pair.Values.{PairSide, PairValue, and_offer, context_at, past_at}
use Rattle.tcp_refinement.specs.declared.pair.event.PairEvent.TheVariants.{Deliver, Offer}
use Rattle.tcp_refinement.specs.declared.pair.event.SentSegment.{SentSegment}
use Rattle.tcp_refinement.specs.declared.pair.event.Side.{Side}
use Rattle.tcp_refinement.specs.declared.pair.event.Side.TheVariants.{A, B}
use Rattle.tcp_liveness.specs.StartsOver.{StartsOver}
use Rattle.tcp_liveness.specs.BothWays.{total_in}
use Rattle.tcp_liveness.specs.Course.{AreEqual}
use Rattle.tcp_liveness.specs.Exchange.{GoesFromUna, IsOpen, left_of, data_of}
use Rattle.tcp_liveness.specs.DelayedSegment.{GoesFrom, ProceedsIn, IsAckedTo, IsAnsweredIn, IsTakenIn, MayCome, MayHear, TakesTime, come_in, heard_in, sent_by}
use Rattle.tcp_liveness.specs.Onward.{AreOpen, HasRisen, Lasts}
use Rattle.tcp_liveness.specs.Pair.{HasStream, context_of, left_in, next_sent, socket_of}
use Rattle.tcp_liveness.specs.Reached.{IsReached}
use Rattle.tcp_liveness.specs.Rounds.{takes}
use Rattle.tcp_liveness.specs.Sent.{taken_in}
use Rattle.tcp_liveness.proofs.Exchange.{last_of}
use Rattle.tcp_liveness.proofs.Kept.{reached_by}
use Rattle.tcp_liveness.proofs.LateAnswers.{late_answer}
use Rattle.tcp_liveness.proofs.LatePayload.{Outcome, Told, few_had, left_within, open_of, outcome, there_of}
use Rattle.tcp_liveness.proofs.Led.{within}
use Rattle.tcp_liveness.proofs.Left.{left_same}
use Rattle.tcp_liveness.proofs.Offered.{IsTransmitted, goes_from_una, is_transmitted_of}
use Rattle.tcp_liveness.proofs.OnwardPairs.{MovesIn, moves_on, then_moves}
use Rattle.tcp_liveness.proofs.Opened.{is_open}
use Rattle.tcp_liveness.proofs.Pair.{not_closed}
use Rattle.tcp_liveness.proofs.Ready.{ready_side}

-- WHAT GOES

module _ (side : Side) (s : PairSide) (instant : ℤ) (o : OpenOffer) (mine : IsOpen s.socket.tcb) (small : s.socket.tcb.sender.una.0 < 2 ^ 32)
    (over : StartsOver (context_at side (record s { instant = instant })) s.socket)
    (offered : (offer_of (context_at side (record s { instant = instant })) s.socket).socket.offered ≡ Some o) (kind : carries o.kind ≡ true) where
  abbrev cx : ContextValue
  cx = context_at side (record s { instant = instant })

  abbrev after : PairSide
  after = offered_at side (record s { instant = instant }) true

  out : IsTransmitted s.socket (offer_of cx s.socket).socket o
  out = is_transmitted_of cx s.socket o mine.acknowledged offered kind

  from_una : GoesFromUna s.socket o
  from_una = goes_from_una cx s.socket o small mine.acknowledged over offered kind

  abbrev gone : SentSegment
  gone = record { header = o.header; segment = o.segment; bytes = data_of s.socket o }

  -- it is the next that the side sends
  sent_last : slice_get after.sent (length s.sent) ≡ Some (record { header = o.header; segment = o.segment; bytes = data_of s.socket o })
  sent_last =
      ap (λ (x : Option OpenOffer). slice_get (and_offer s.sent x (offer_of cx s.socket).socket.queued.queue) (length s.sent)) offered
      ∙ (ap (λ (queued : Ring ℕ). slice_get (and_offer s.sent (Some o) queued.queue) (length s.sent)) out.queued ∙ last_of s.sent gone)

  left_after : left_of after.socket ≡ left_of s.socket
  left_after =
      left_same s.socket after.socket (record { state = out.sent.state; syn_unacked = out.sent.syn_unacked; queued = out.sent_queued })

-- and it goes from SND.UNA on, as the pair is then
pub goes_now :
    (p : PairValue) (side : Side) (instant : ℤ) (o : OpenOffer) → IsReached p → IsOpen (socket_of p side).tcb
    → StartsOver (context_of p side instant) (socket_of p side) → (offer_of (context_of p side instant) (socket_of p side)).socket.offered ≡ Some o
    → carries o.kind ≡ true → 1 ≤ segment_len o.segment (length (data_of (socket_of p side) o))
    → GoesFrom (takes p (Offer side instant true)) side (sent_by p side o)
goes_now p A instant o r mine over offered kind some =
    let s = p.sides.a in
    let small = (ready_side p A r).order.number in
    let g = from_una A s instant o mine small over offered kind in
    let x = out A s instant o mine small over offered kind in
    record {
      number = g.number ∙ sym x.sent.una;
      acknowledges = g.acknowledges ∙ ap Some (sym x.sent.next);
      some = some;
      ends =
          subst (λ (n : ℕ). segment_len o.segment (length (data_of s.socket o)) ≤ n) (sym (left_after A s instant o mine small over offered kind)) g.ends;
      no_syn = x.no_syn;
      no_reset = x.no_reset;
    }
goes_now p B instant o r mine over offered kind some =
    let s = p.sides.b in
    let small = (ready_side p B r).order.number in
    let g = from_una B s instant o mine small over offered kind in
    let x = out B s instant o mine small over offered kind in
    record {
      number = g.number ∙ sym x.sent.una;
      acknowledges = g.acknowledges ∙ ap Some (sym x.sent.next);
      some = some;
      ends =
          subst (λ (n : ℕ). segment_len o.segment (length (data_of s.socket o)) ≤ n) (sym (left_after B s instant o mine small over offered kind)) g.ends;
      no_syn = x.no_syn;
      no_reset = x.no_reset;
    }

pub goes_last :
    (p : PairValue) (side : Side) (instant : ℤ) (o : OpenOffer) → IsReached p → IsOpen (socket_of p side).tcb
    → StartsOver (context_of p side instant) (socket_of p side) → (offer_of (context_of p side instant) (socket_of p side)).socket.offered ≡ Some o
    → carries o.kind ≡ true → slice_get (at (takes p (Offer side instant true)).sides side).sent (next_sent p side) ≡ Some (sent_by p side o)
goes_last p A instant o r mine over offered kind = sent_last A p.sides.a instant o mine (ready_side p A r).order.number over offered kind
goes_last p B instant o r mine over offered kind = sent_last B p.sides.b instant o mine (ready_side p B r).order.number over offered kind

-- WHAT IS HEARD

pub equals_itself : (x : SentSegment) → AreEqual x x
equals_itself x = record { source = refl; destination = refl; segment = refl; bytes = refl }

heard_acked :
    (s : PairValue) (side : Side) (j : ℕ) (x : SentSegment) (number : SeqNumber) → IsReached s → AreOpen s → HasStream (past_at s side) → MayHear s side j x
    → is_syn x.segment.control ≡ false → is_rst x.segment.control ≡ false → x.segment.ack_number ≡ Some number
    → IsAckedTo number (socket_of (heard_in s side j) side).tcb.sender.una
heard_acked s A j x number r both stream h no_syn no_reset ack =
    late_answer s B j x number r both stream (record { sent = h.sent; initial = h.initial }) no_syn no_reset ack h.near
heard_acked s B j x number r both stream h no_syn no_reset ack =
    late_answer s A j x number r both stream (record { sent = h.sent; initial = h.initial }) no_syn no_reset ack h.near

less : (a b c d : ℕ) → a + b < c + d → d ≤ a → a - d < c - b
less a b c d e f = omega arith

no_less : (a b c d : ℕ) → a + b ≤ c + d → a - d ≤ c - b
no_less a b c d e = omega arith

first_of_three : (a b c : ℕ) → a < b → b ≤ c → a < c
first_of_three a b c e f = omega arith

last_of_three : (a b c : ℕ) → a ≤ b → b < c → a < c
last_of_three a b c e f = omega arith

-- of an answer, or of a segment that equals it
pub record HearsAnswer (s : PairValue) (side : Side) (j : ℕ) (answer : SentSegment) : Type 0 where
  pub segment : SentSegment
  pub equal : AreEqual answer segment
  pub may : MayHear s side j segment

-- an exchange that takes time, in which a segment that equals the answer may come
pub record TakesTimeAs (p q s : PairValue) (side : Side) (k j : ℕ) (x : SentSegment) : Type 0 where
  pub stream : HasStream (past_at p side)
  pub room : 1 ≤ room_of (socket_of p (other side)).received
  pub goes : GoesFrom p side x
  pub first : Lasts p q
  pub comes : MayCome q side k x
  pub second : Lasts (come_in q side k) s
  pub hears : (it : IsAnsweredIn q side k) → HearsAnswer s side j it.answer

module _ (p q s : PairValue) (side : Side) (k j : ℕ) (x : SentSegment) (r : IsReached p) (m : TakesTimeAs p q s side k j x) where
  abbrev came : PairValue
  came = come_in q side k

  abbrev heard : PairValue
  heard = heard_in s side j

  rq : IsReached q
  rq = reached_by p q m.first.events r m.first.steps

  comes : refusal q (Deliver side k) ≡ None
  comes = within k (length (at q.sides side).sent) (slice_get_within (at q.sides side).sent k x m.comes.sent)

  rc : IsReached came
  rc = reached_by q came (Deliver side k ∷ []) rq (comes, refl)

  rs : IsReached s
  rs = reached_by came s m.second.events rc m.second.steps

  to_q : (of : Side) → MovesIn p q of
  to_q of = moves_on p q m.first.events of r m.first.before m.first.steps

  open_q : (of : Side) → IsOpen (socket_of q of).tcb
  open_q of = is_open q of rq (there_of q of m.first.after) ((to_q of).syn (open_of p of m.first.before).acknowledged)

  to_came : (of : Side) → MovesIn q came of
  to_came of = moves_on q came (Deliver side k ∷ []) of rq (open_q A, open_q B) (comes, refl)

  to_s : (of : Side) → MovesIn came s of
  to_s of = moves_on came s m.second.events of rc m.second.before m.second.steps

  open_s : (of : Side) → IsOpen (socket_of s of).tcb
  open_s of = is_open s of rs (there_of s of m.second.after) ((to_s of).syn (open_of came of m.second.before).acknowledged)

  found : Outcome p q side k x r m.first m.stream m.room m.goes m.comes
  found = outcome p q side k x r m.first m.stream m.room m.goes m.comes

  -- SND.UNA or RCV.NXT of the other has risen until the segment came, or rises with it
  until : HasRisen p q (other side) → HasRisen p came (other side)
  until (inl e) =
      inl
      (first_of_three (total_in p (other side) - left_in p (other side)) (total_in q (other side) - left_in q (other side)) _ e
      (no_less (total_in q (other side)) (left_in came (other side)) (total_in came (other side)) (left_in q (other side)) (to_came (other side)).acked))
  until (inr e) = inr (first_of_three (taken_in p (other side)) (taken_in q (other side)) (taken_in came (other side)) e (to_came (other side)).taken)

  taken : IsTakenIn q side k → HasRisen p came (other side)
  taken e = inr (last_of_three (taken_in p (other side)) (taken_in q (other side)) (taken_in came (other side)) (to_q (other side)).taken e)

  -- THE ANSWER

  module _ (told : Told p q side k x r m.first m.stream m.room m.goes m.comes) where
    heard_as : HearsAnswer s side j told.answered.answer
    heard_as = m.hears told.answered

    arrives_there : refusal s (Deliver (other side) j) ≡ None
    arrives_there =
        within j (length (at s.sides (other side)).sent) (slice_get_within (at s.sides (other side)).sent j heard_as.segment heard_as.may.sent)

    to_heard : MovesIn s heard side
    to_heard = moves_on s heard (Deliver (other side) j ∷ []) side rs (open_s A, open_s B) (arrives_there, refl)

    stream : HasStream (past_at s side)
    stream =
        inr
        (more (length (past_at p side).written) (length (past_at q side).written) (length (past_at came side).written) (length (past_at s side).written)
        (wrote m.stream) (to_q side).written (to_came side).written (to_s side).written)
      where
        more : (a b c d : ℕ) → 1 ≤ a → a ≤ b → b ≤ c → c ≤ d → 1 ≤ d
        more a b c d e f g h = omega arith

        some : (written : ℕ) {fin left len : ℕ} → fin ≡ 0 → left ≤ written + fin → 1 ≤ len → len ≤ left → 1 ≤ written
        some written e f g h = omega arith

        wrote : HasStream (past_at p side) → 1 ≤ length (past_at p side).written
        wrote (inl unclosed) =
            some (length (past_at p side).written) (ap one_if unclosed) (left_within p side r (open_of p side m.first.before)) m.goes.some m.goes.ends
        wrote (inr some) = some

    acked : IsAckedTo (socket_of q (other side)).tcb.receiver.next (socket_of heard side).tcb.sender.una
    acked =
        heard_acked s side j heard_as.segment (socket_of q (other side)).tcb.receiver.next rs (open_s A, open_s B) stream heard_as.may
        (ap is_syn plain) (ap is_rst plain) (ap (λ (h : TcpHeader). h.ack_number) heard_as.equal.segment ∙ told.answered.acknowledges)
      where
        plain : heard_as.segment.segment.control ≡ Control.None
        plain = ap (λ (h : TcpHeader). h.control) heard_as.equal.segment ∙ told.answered.plain

    abbrev far : ℕ
    far = distance_of (socket_of p side).tcb.sender.una (socket_of p (other side)).tcb.receiver.next

    -- SND.UNA can't be where it was
    never : (socket_of heard side).tcb.sender.una ≡ (socket_of p side).tcb.sender.una → ⊥
    never same =
        nothing far (segment_len x.segment (length x.bytes))
        (sym
        (ap (λ (t : Bool). if t then far else 0)
        (lt-ltb far (2 ^ 31) (few_had p q side k x r m.first m.stream m.room m.goes m.comes)))
        ∙ (ap (λ (n : SeqNumber). distance_after (socket_of p side).tcb.sender.una n) (sym told.next)
        ∙ subst (λ (una : SeqNumber). IsAckedTo (socket_of q (other side)).tcb.receiver.next una) same acked))
        m.goes.some told.whole
      where
        nothing : (far len : ℕ) → far ≡ 0 → 1 ≤ len → len ≤ far → ⊥
        nothing far len e f g = absurd (omega arith)

    -- so it has risen, or the connection is over
    rises : (over : Bool) → is_closed (socket_of heard side).tcb.state ≡ over →
        HasRisen p heard side ⊎ (is_closed (socket_of heard side).tcb.state ≡ true)
    rises true e = inr e
    rises false e = by (whole.una e) where
      whole : MovesIn p heard side
      whole =
          then_moves p s heard side
          (then_moves p came s side (then_moves p q came side (to_q side) (to_came side)) (to_s side)) to_heard

      by :
          ((socket_of heard side).tcb.sender.una ≡ (socket_of p side).tcb.sender.una)
          × ((socket_of p side).tcb.sender.snd_max ≤ (socket_of heard side).tcb.sender.snd_max)
          ⊎ (total_in p side + left_in heard side < total_in heard side + left_in p side)
          → HasRisen p heard side ⊎ (is_closed (socket_of heard side).tcb.state ≡ true)
      by (inl same) = absurd (never same.0)
      by (inr risen) =
          inl
          (inl
          (less (total_in p side) (left_in heard side) (total_in heard side) (left_in p side) risen
          (left_within p side r (open_of p side m.first.before))))

  pub proceeds_as : ProceedsIn p q s side k j
  proceeds_as = by found where
    by : Outcome p q side k x r m.first m.stream m.room m.goes m.comes → ProceedsIn p q s side k j
    by (inl risen) = inl (until risen)
    by (inr (inl it)) = inl (taken it)
    by (inr (inr (inl told))) = inr (inr (rises told (is_closed (socket_of heard side).tcb.state) refl))
    by (inr (inr (inr (inl shut)))) = inr (inl shut.none)
    by (inr (inr (inr (inr ends)))) =
        clash
        (sym ends.1
        ∙ not_closed (socket_of came (other side)).tcb.state (open_of came (other side) m.second.before).synchronized)

-- of the answer itself
pub proceeds : (p q s : PairValue) (side : Side) (k j : ℕ) (x : SentSegment) → IsReached p → TakesTime p q s side k j x → ProceedsIn p q s side k j
proceeds p q s side k j x r m =
    proceeds_as p q s side k j x r
    (record {
      stream = m.stream;
      room = m.room;
      goes = m.goes;
      first = m.first;
      comes = m.comes;
      second = m.second;
      hears = λ it. record { segment = it.answer; equal = equals_itself it.answer; may = m.hears it };
    })
