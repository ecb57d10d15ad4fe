-- An exchange of two sockets as events of a pair.
use Rattle.std.proofs.Common.{◌≡◌, ◌⊎◌, inl, inr, ℕ, suc, ◌+◌, ◌-◌, ◌*◌, ◌%◌, ◌^◌, ◌<◌, ◌≤◌}
use Rattle.std.proofs.Common.{ℤ, Bool, true, false, List, [], ◌∷◌, ◌++◌, length, Option, Some, None}
use Rattle.std.proofs.Common.{slice_get, refl, sym, ap, ◌∙◌, subst, arith}
use Rattle.net_base.specs.Ring.{Ring}
use Rattle.ip_wire.specs.Seq.{distance_of}
use Rattle.ip_wire.specs.SeqNumber.{SeqNumber}
use Rattle.ip_wire.specs.TcpControl.TheVariants as Control
use Rattle.tcp_theory.specs.Invariant.{IsInStep, IsSilent}
use Rattle.tcp_theory.specs.Side.Phase.{Synchronized}
use Rattle.tcp_refinement.specs.Context.{ContextValue}
use Rattle.tcp_refinement.specs.Tie.{Past, Keeps, IsConnectedAs, core_of, unsent, phase_of}
use Rattle.tcp_block.specs.Answers.{delayed}
use Rattle.tcp_invariants.specs.Acks.{IsAcknowledged, IsOwed}
use Rattle.tcp_invariants.specs.Controls.{is_fin, is_rst}
use Rattle.tcp_invariants.specs.Offsets.{advanced_by}
use Rattle.tcp_invariants.specs.OpenOffer.{OpenOffer}
use Rattle.tcp_invariants.specs.Reply.{Reply}
use Rattle.tcp_invariants.specs.State.{State}
use Rattle.tcp_invariants.specs.State.TheVariants as In
use Rattle.tcp_invariants.specs.States.{is_closed}
use Rattle.tcp_block.specs.Arrival.{arrives}
use Rattle.tcp_block.specs.Names.{accepts}
use Rattle.tcp_block.specs.Offers.{offer_of}
use Rattle.tcp_block.specs.Settled.{settled}
use Rattle.tcp_refinement.specs.Pair.History.{pasts}
use Rattle.tcp_refinement.specs.Pair.Sides.{at, other}
use Rattle.tcp_refinement.specs.Pair.Steps.{offered_at, handed, taken_at}
use Rattle.tcp_block.specs.Value.{TcpValue, Arrived}
use Rattle.tcp_refinement.specs.Pair.Values.{PairSide, PairValue, context_at, and_offer, and_reply, past_at, with_segments}
use Rattle.tcp_refinement.specs.declared.pair.event.SentSegment.{SentSegment}
use Rattle.tcp_refinement.specs.declared.pair.event.Side.{Side}
use Rattle.tcp_refinement.specs.declared.pair.event.Side.TheVariants.{A, B}
use Rattle.tcp_refinement.proofs.Tied.{fits_connected, if_so}
use Rattle.tcp_invariants.proofs.OrderSteps.{clash}
use Rattle.tcp_liveness.specs.Arrivals.{EndsLastAck, is_synchronized}
use Rattle.tcp_liveness.specs.Exchange.{CanHear, FitsBuffer, GoesFromUna, IsTaken, IsTold, MayReach, MovesOn, TookWhatWasSent, left_of, data_of, offer_arrives}
use Rattle.tcp_liveness.specs.Pair.{HasStream, AreMirrored, MayExchangeIn, MayReachIn, MovesIn, Exchanges}
use Rattle.tcp_liveness.specs.Pair.{context_of, exchanged_in, left_in, next_sent, offered_in, socket_of}
use Rattle.tcp_liveness.specs.Positions.{LiesWithin}
use Rattle.tcp_liveness.specs.Rounds.{comes}
use Rattle.tcp_liveness.specs.Reached.{IsReached}
use Rattle.tcp_liveness.specs.Sent.{SendsAll}
use Rattle.tcp_liveness.proofs.Closes.{bare_still, closes_last}
use Rattle.tcp_liveness.proofs.Exchange.{IsHeardOf, IsPassed, IsUnheard, WasNew, heard_all, heard_or_not, last_of, outcome, reach_of, told_of}
use Rattle.tcp_liveness.proofs.Kept.{reached_keeps}
use Rattle.tcp_liveness.proofs.Left.{left_same}
use Rattle.tcp_liveness.proofs.Mirrored.{connected_mirrored}
use Rattle.tcp_liveness.proofs.Offered.{IsTransmitted, is_transmitted_of, goes_from_una}
use Rattle.tcp_liveness.proofs.Positions.{connected_in, placed, lies_within, una_small, next_small}
use Rattle.tcp_liveness.proofs.WindowPairs.{fits_in}
use Rattle.tcp_liveness.proofs.SentPairs.{offered_took, reached_sends, reached_took}
pub use Rattle.tcp_liveness.proofs.Accepts.{accepted_by, between, late_in, not_closed}
use Rattle.tcp_liveness.proofs.Accepts.{offer_accepted, reply_accepted}

-- THE EVENTS

module _ (side : Side) (s r : PairSide) (instant : ℤ) where
  abbrev pub asked_side : PairSide
  asked_side = offered_at side (record s { instant = instant }) true

  abbrev pub peer_side_after : PairSide
  peer_side_after = handed (other side) r (slice_get asked_side.sent (length s.sent))

  abbrev pub side_after : PairSide
  side_after = handed side asked_side (slice_get peer_side_after.sent (length r.sent))

  abbrev cx : ContextValue
  cx = context_at side (record s { instant = instant })

  abbrev cy : ContextValue
  cy = context_at (other side) r

  abbrev Moves : Type 0
  Moves =
      MovesOn r.socket.tcb.receiver.next peer_side_after.socket.tcb.receiver.next
      ⊎ (MovesOn s.socket.tcb.sender.una side_after.socket.tcb.sender.una
      ⊎ ((r.socket.tcb.state ≡ In.LastAck) × (is_closed peer_side_after.socket.tcb.state ≡ true)))

  module _ (m : AreMirrored s.socket.tcb r.socket.tcb) (o : OpenOffer) (may : MayReach cx cy s.socket r.socket o) where
    pub out : IsTransmitted s.socket (offer_of cx s.socket).socket o
    out = is_transmitted_of cx s.socket o may.own.acknowledged may.offered may.kind

    abbrev pub came : Arrived
    came = offer_arrives cy r.socket s.socket o

    abbrev pub first : SentSegment
    first = record { header = o.header; segment = o.segment; bytes = data_of s.socket o }

    -- its segment is the next that it sends
    pub sent : slice_get asked_side.sent (length s.sent) ≡ Some first
    sent =
        ap (λ (x : Option OpenOffer). slice_get (and_offer s.sent x (offer_of cx s.socket).socket.queued.queue) (length s.sent)) may.offered
        ∙ (ap (λ (queued : Ring ℕ). slice_get (and_offer s.sent (Some o) queued.queue) (length s.sent)) out.queued ∙ last_of s.sent first)

    pub reaches : peer_side_after ≡ taken_at r came
    reaches =
        ap (λ (x : Option SentSegment). handed (other side) r x) sent
        ∙ if_so (accepts r.socket.tcb o.header o.segment) (taken_at r came) r
        (offer_accepted cx s.socket r.socket.tcb o m may.theirs.synchronized may.offered)

    still : is_synchronized asked_side.socket.tcb.state ≡ true
    still = ap is_synchronized out.sent.state ∙ may.own.synchronized

    abbrev second : Reply → SentSegment
    second reply = record { header = reply.header; segment = reply.segment; bytes = [] }

    -- and the answer is the next of the other
    pub back : (reply : Reply) → came.answer ≡ Some reply →
        side_after.socket ≡ (arrives cx asked_side.socket reply.header reply.segment []).socket
    back reply answer =
        ap (λ (x : Option SentSegment). (handed side asked_side x).socket) found
        ∙ ap (λ (t : PairSide). t.socket)
        (if_so (accepts asked_side.socket.tcb reply.header reply.segment)
        (taken_at asked_side (arrives cx asked_side.socket reply.header reply.segment [])) asked_side
        (reply_accepted cx cy s.socket r.socket (data_of s.socket o) o reply m may.offered may.own.synchronized still answer))
      where
        found : slice_get peer_side_after.sent (length r.sent) ≡ Some (second reply)
        found =
            ap (λ (t : PairSide). slice_get t.sent (length r.sent)) reaches
            ∙ (drawn came.draws
            ∙ (ap (λ (x : Option Reply). slice_get (and_reply r.sent x) (length r.sent)) answer ∙ last_of r.sent (second reply)))
          where
            drawn : (draws : Bool) → slice_get (taken_at r (record came { draws = draws })).sent (length r.sent) ≡
                slice_get (and_reply r.sent came.answer) (length r.sent)
            drawn draws = refl

    pub none_answered : came.answer ≡ None → length peer_side_after.sent - length r.sent ≡ 0
    none_answered none =
        ap (λ (t : PairSide). length t.sent - length r.sent) reaches
        ∙ (ap (λ (x : Option Reply). length (and_reply r.sent x) - length r.sent) none ∙ nothing (length r.sent))
      where
        nothing : (n : ℕ) → n - n ≡ 0
        nothing n = omega arith

    pub one_answered : (reply : Reply) → came.answer ≡ Some reply → length peer_side_after.sent - length r.sent ≡ 1
    one_answered reply one =
        ap (λ (t : PairSide). length t.sent - length r.sent) reaches
        ∙ (ap (λ (x : Option Reply). length (and_reply r.sent x) - length r.sent) one ∙ one_following r.sent (second reply))
      where
        one_following : (xs : List SentSegment) (x : SentSegment) → length (xs ++ x ∷ []) - length xs ≡ 1
        one_following xs x = less (length (xs ++ x ∷ [])) (length xs) (longer xs x) where
          longer : (xs : List SentSegment) (x : SentSegment) → length (xs ++ x ∷ []) ≡ length xs + 1
          longer [] x = refl
          longer (y ∷ xs) x = omega (arith, longer xs x)

          less : (a b : ℕ) → a ≡ b + 1 → a - b ≡ 1
          less a b e = omega arith

    -- of the side, as this leaves it, and the other: each knows what the other took, and a connection is over only where it was in LAST-ACK
    pub record Leaves (x : TcpValue) : Type 0 where
      pub known : peer_side_after.socket.tcb.sender.una ≡ x.tcb.receiver.next
      pub closes : is_closed x.tcb.state ≡ true → (s.socket.tcb.state ≡ In.LastAck) × (left_of x ≡ 0)
      pub closes_other :
          is_closed peer_side_after.socket.tcb.state ≡ true → (r.socket.tcb.state ≡ In.LastAck) × (left_of peer_side_after.socket ≡ 0)

    -- what isn't acknowledged, and how much of it the other has, is the same but for what moved
    pub record Takes : Type 0 where
      pub none : length peer_side_after.sent - length r.sent ≡ 0
      pub next : MovesOn r.socket.tcb.receiver.next peer_side_after.socket.tcb.receiver.next
      pub una : asked_side.socket.tcb.sender.una ≡ s.socket.tcb.sender.una
      pub left : left_of asked_side.socket ≡ left_of s.socket
      pub state : asked_side.socket.tcb.state ≡ s.socket.tcb.state
      pub leaves : Leaves asked_side.socket

    -- the side hears of all that the other took
    pub record Tells : Type 0 where
      pub one : length peer_side_after.sent - length r.sent ≡ 1
      pub una : MovesOn s.socket.tcb.sender.una side_after.socket.tcb.sender.una
      pub all : side_after.socket.tcb.sender.una ≡ peer_side_after.socket.tcb.receiver.next
      pub had : 1 ≤ distance_of s.socket.tcb.sender.una peer_side_after.socket.tcb.receiver.next
      pub more :
          distance_of s.socket.tcb.sender.una r.socket.tcb.receiver.next
          ≤ distance_of s.socket.tcb.sender.una peer_side_after.socket.tcb.receiver.next
      pub left :
          left_of side_after.socket + distance_of s.socket.tcb.sender.una peer_side_after.socket.tcb.receiver.next ≡ left_of s.socket
      pub leaves : Leaves side_after.socket

    pub record Ends : Type 0 where
      pub none : length peer_side_after.sent - length r.sent ≡ 0
      pub last : r.socket.tcb.state ≡ In.LastAck
      pub closed : is_closed peer_side_after.socket.tcb.state ≡ true
      pub leaves : Leaves asked_side.socket

    -- the other has all of it already, and the side may not hear its answer
    pub record Passes : Type 0 where
      pub one : length peer_side_after.sent - length r.sent ≡ 1
      pub leaves : Leaves side_after.socket

    -- the other took more and acknowledged it at once, which lies past the window of the side
    pub record TakesUnheard : Type 0 where
      pub one : length peer_side_after.sent - length r.sent ≡ 1
      pub next : MovesOn r.socket.tcb.receiver.next peer_side_after.socket.tcb.receiver.next
      pub una : side_after.socket.tcb.sender.una ≡ s.socket.tcb.sender.una
      pub left : left_of side_after.socket ≡ left_of s.socket
      pub state : side_after.socket.tcb.state ≡ s.socket.tcb.state
      pub leaves : Leaves side_after.socket

    -- and whether the side hears of it isn't known
    pub record TakesAtOnce : Type 0 where
      pub one : length peer_side_after.sent - length r.sent ≡ 1
      pub next : MovesOn r.socket.tcb.receiver.next peer_side_after.socket.tcb.receiver.next
      pub leaves : Leaves side_after.socket

    abbrev pub Comes : Type 0 → Type 0 → Type 0
    Comes X Z = Takes ⊎ (Tells ⊎ (Ends ⊎ ((Passes × X) ⊎ (TakesUnheard ⊎ (TakesAtOnce × Z)))))

    pub how_many : {X Z : Type 0} → Comes X Z → (length peer_side_after.sent - length r.sent ≡ 0) ⊎ (length peer_side_after.sent - length r.sent ≡ 1)
    how_many (inl x) = inl x.none
    how_many (inr (inl x)) = inr x.one
    how_many (inr (inr (inl x))) = inl x.none
    how_many (inr (inr (inr (inl x)))) = inr x.0.one
    how_many (inr (inr (inr (inr (inl x))))) = inr x.one
    how_many (inr (inr (inr (inr (inr x))))) = inr x.0.one

    -- what the other has taken then lies within what the side has sent
    abbrev pub TookAfter : Type 0
    TookAfter = TookWhatWasSent asked_side.socket came.socket

    pub took_after :
        (p q : Past) (k : Keeps s.socket (with_segments p s.sent) r.socket (with_segments q r.sent))
        → SendsAll s.socket (with_segments p s.sent) r.socket (with_segments q r.sent) → is_synchronized came.socket.tcb.state ≡ true → TookAfter
    took_after p q k sends on =
        subst (λ (t : PairSide). TookWhatWasSent asked_side.socket t.socket) reaches
        (offered_took side s r instant p q k sends still (out.sent.syn_unacked ∙ may.own.acknowledged)
        (ap (λ (t : PairSide). is_synchronized t.socket.tcb.state) reaches ∙ on))

    module _ (p q : Past) (k : Keeps s.socket p r.socket q) (step : IsInStep k.side k.peer_side) (theirs_sent : TookWhatWasSent s.socket r.socket)
        (fits : FitsBuffer s.socket r.socket) (heard : TookWhatWasSent r.socket s.socket) where
      abbrev size : ℕ
      size = length (data_of s.socket o)

      known_there : peer_side_after.socket.tcb.sender.una ≡ s.socket.tcb.receiver.next
      known_there =
          ap (λ (t : PairSide). t.socket.tcb.sender.una) reaches
          ∙ heard_all cx cy cx s.socket r.socket p q k o step theirs_sent fits heard may

      ends_there : is_closed peer_side_after.socket.tcb.state ≡ true → (r.socket.tcb.state ≡ In.LastAck) × (left_of peer_side_after.socket ≡ 0)
      ends_there e =
          let it =
          closes_last cy o.header o.segment (data_of s.socket o) r.socket (late_in r.socket.tcb.state may.theirs.synchronized)
          (not_closed r.socket.tcb.state may.theirs.synchronized) out.no_reset
          (sym (ap (λ (t : PairSide). is_closed t.socket.tcb.state) reaches) ∙ e) in
          (it.0, ap (λ (t : PairSide). left_of t.socket) reaches ∙ it.1)

      leaves_asked : Leaves asked_side.socket
      leaves_asked = record {
        known = known_there ∙ sym out.sent.next;
        closes = λ e. clash (sym e ∙ not_closed asked_side.socket.tcb.state still);
        closes_other = ends_there;
      }

      leaves_after : (reply : Reply) → came.answer ≡ Some reply → reply.segment.control ≡ Control.None → Leaves side_after.socket
      leaves_after reply answer plain = record {
        known =
            known_there
            ∙ sym
            (ap (λ (v : TcpValue). v.tcb.receiver.next) (back reply answer)
            ∙ (bare_still cx reply.header reply.segment asked_side.socket (late_in asked_side.socket.tcb.state still) (ap is_fin plain)
            (ap is_rst plain)
            ∙ out.sent.next));
        closes = λ e.
            let it =
            closes_last cx reply.header reply.segment [] asked_side.socket (late_in asked_side.socket.tcb.state still)
            (not_closed asked_side.socket.tcb.state still) (ap is_rst plain)
            (sym (ap (λ (v : TcpValue). is_closed v.tcb.state) (back reply answer)) ∙ e) in
            (sym out.sent.state ∙ it.0, ap left_of (back reply answer) ∙ it.1);
        closes_other = ends_there;
      }

      moves_there : IsTaken cy r.socket o.segment size came → MovesOn r.socket.tcb.receiver.next peer_side_after.socket.tcb.receiver.next
      moves_there taken = subst (λ (t : PairSide). MovesOn r.socket.tcb.receiver.next t.socket.tcb.receiver.next) (sym reaches) taken.next

      of_taken : IsTaken cy r.socket o.segment size came → came.answer ≡ None → Takes
      of_taken taken silent = record {
        none = none_answered silent;
        next = moves_there taken;
        una = out.sent.una;
        left =
            left_same s.socket asked_side.socket
            (record { state = out.sent.state; syn_unacked = out.sent.syn_unacked; queued = out.sent_queued });
        state = out.sent.state;
        leaves = leaves_asked;
      }

      -- what was new is acknowledged at once
      module _ (was : WasNew cx cy cx s.socket r.socket p q k o step theirs_sent fits heard may) (ack : IsAcknowledged came) where
        leaves_at_once : Leaves side_after.socket
        leaves_at_once = leaves_after ack.reply ack.answer ack.plain

        of_heard : (took : TookAfter) → IsHeardOf cx cy cx s.socket r.socket p q k o step theirs_sent fits heard may was ack took → Tells
        of_heard took h = record {
          one = one_answered ack.reply ack.answer;
          una = subst (λ (v : TcpValue). MovesOn s.socket.tcb.sender.una v.tcb.sender.una) (sym (back ack.reply ack.answer)) h.una;
          all =
              ap (λ (v : TcpValue). v.tcb.sender.una) (back ack.reply ack.answer)
              ∙ (h.all ∙ sym (ap (λ (t : PairSide). t.socket.tcb.receiver.next) reaches));
          had = subst (λ (t : PairSide). 1 ≤ distance_of s.socket.tcb.sender.una t.socket.tcb.receiver.next) (sym reaches) h.had;
          more =
              subst
              (λ (t : PairSide). distance_of s.socket.tcb.sender.una r.socket.tcb.receiver.next
              ≤ distance_of s.socket.tcb.sender.una t.socket.tcb.receiver.next) (sym reaches) h.more;
          left =
              subst
              (λ (t : PairSide). left_of side_after.socket + distance_of s.socket.tcb.sender.una t.socket.tcb.receiver.next ≡ left_of s.socket)
              (sym reaches)
              (ap (λ (v : TcpValue). left_of v + distance_of s.socket.tcb.sender.una came.socket.tcb.receiver.next) (back ack.reply ack.answer)
              ∙ h.left);
          leaves = leaves_at_once;
        }

        of_unheard : (took : TookAfter) → IsUnheard cx cy cx s.socket r.socket p q k o step theirs_sent fits heard may was ack took → TakesUnheard
        of_unheard took h = record {
          one = one_answered ack.reply ack.answer;
          next = moves_there was.taken;
          una = ap (λ (v : TcpValue). v.tcb.sender.una) (back ack.reply ack.answer) ∙ h.una;
          left = ap left_of (back ack.reply ack.answer) ∙ h.left;
          state = ap (λ (v : TcpValue). v.tcb.state) (back ack.reply ack.answer) ∙ h.state;
          leaves = leaves_at_once;
        }

        of_at_once : {X Z : Type 0} → TookAfter ⊎ Z → Comes X Z
        of_at_once {X} {Z} (inl took) = by (heard_or_not cx cy cx s.socket r.socket p q k o step theirs_sent fits heard may was ack took) where
          by :
              IsHeardOf cx cy cx s.socket r.socket p q k o step theirs_sent fits heard may was ack took
              ⊎ IsUnheard cx cy cx s.socket r.socket p q k o step theirs_sent fits heard may was ack took
              → Comes X Z
          by (inl h) = inr (inl (of_heard took h))
          by (inr h) = inr (inr (inr (inr (inl (of_unheard took h)))))
        of_at_once (inr z) =
            inr
            (inr
            (inr
            (inr (inr (record { one = one_answered ack.reply ack.answer; next = moves_there was.taken; leaves = leaves_at_once }, z)))))

      of_new :
          {X Z : Type 0} → (is_synchronized came.socket.tcb.state ≡ true → TookAfter ⊎ Z)
          → WasNew cx cy cx s.socket r.socket p q k o step theirs_sent fits heard may → Comes X Z
      of_new {X} {Z} took was = by was.taken.rises.acknowledged where
        by : IsAcknowledged came ⊎ IsOwed came (delayed cy.instant r.socket.tcb.settings.ack_delay) → Comes X Z
        by (inl ack) = of_at_once was ack (took was.taken.rises.on)
        by (inr owed) = inl (of_taken was.taken owed.silent)

      of_told : IsPassed r.socket o.segment size came → IsTold cx cx s.socket r.socket came → Tells
      of_told passed told = record {
        one = one_answered told.reply told.answer;
        una = subst (λ (v : TcpValue). MovesOn s.socket.tcb.sender.una v.tcb.sender.una) (sym (back told.reply told.answer)) told.una;
        all = ap (λ (v : TcpValue). v.tcb.sender.una) (back told.reply told.answer) ∙ (told.all ∙ sym there);
        had = subst (λ (n : SeqNumber). 1 ≤ distance_of s.socket.tcb.sender.una n) (sym there) told.had;
        more =
            subst
            (λ (n : SeqNumber). distance_of s.socket.tcb.sender.una r.socket.tcb.receiver.next ≤ distance_of s.socket.tcb.sender.una n)
            (sym there) (itself (distance_of s.socket.tcb.sender.una r.socket.tcb.receiver.next));
        left =
            subst (λ (n : SeqNumber). left_of side_after.socket + distance_of s.socket.tcb.sender.una n ≡ left_of s.socket) (sym there)
            (ap (λ (v : TcpValue). left_of v + distance_of s.socket.tcb.sender.una r.socket.tcb.receiver.next) (back told.reply told.answer)
            ∙ told.left);
        leaves = leaves_after passed.answer.reply passed.answer.answer passed.answer.plain;
      }
        where
          there : peer_side_after.socket.tcb.receiver.next ≡ r.socket.tcb.receiver.next
          there = ap (λ (t : PairSide). t.socket.tcb.receiver.next) reaches ∙ told.still

          itself : (n : ℕ) → n ≤ n
          itself n = omega arith

      of_ends : EndsLastAck r.socket came → Ends
      of_ends ends = record {
        none = none_answered ends.silent;
        last = ends.last;
        closed = ap (λ (t : PairSide). is_closed t.socket.tcb.state) reaches ∙ ends.closed;
        leaves = leaves_asked;
      }

      of_passed : IsPassed r.socket o.segment size came → Passes
      of_passed passed = record {
        one = one_answered passed.answer.reply passed.answer.answer;
        leaves = leaves_after passed.answer.reply passed.answer.answer passed.answer.plain;
      }

      -- what the side may not hear it needn't, where something else is known
      pub side_comes :
          {X Z : Type 0} → CanHear s.socket r.socket ⊎ X → (is_synchronized came.socket.tcb.state ≡ true → TookAfter ⊎ Z) → Comes X Z
      side_comes {X} {Z} which took = by which (outcome cx cy cx s.socket r.socket p q k o step theirs_sent fits heard may) where
        by :
            CanHear s.socket r.socket ⊎ X
            → WasNew cx cy cx s.socket r.socket p q k o step theirs_sent fits heard may
            ⊎ (IsPassed r.socket o.segment size came ⊎ EndsLastAck r.socket came)
            → Comes X Z
        by which (inl it) = of_new took it
        by (inl space) (inr (inl passed)) =
            inr (inl (of_told passed (told_of cx cy cx s.socket r.socket p q k o step theirs_sent fits heard may space passed)))
        by (inr x) (inr (inl passed)) = inr (inr (inr (inl (of_passed passed, x))))
        by which (inr (inr ends)) = inr (inr (inl (of_ends ends)))

-- OF A PAIR

-- what an exchange leaves: the other took more, or all that it took is acknowledged, or its connection is over
pub record HasTaken (p new : PairValue) (side : Side) : Type 0 where
  pub more : ℕ
  pub some : 1 ≤ more
  pub few : more < 2 ^ 30
  pub una : (socket_of new side).tcb.sender.una ≡ (socket_of p side).tcb.sender.una
  pub next : (socket_of new (other side)).tcb.receiver.next ≡ advanced_by (socket_of p (other side)).tcb.receiver.next more
  pub left : left_in new side ≡ left_in p side
  pub state : (socket_of new side).tcb.state ≡ (socket_of p side).tcb.state

-- how much of what a side hasn't acknowledged before lies before what the other has then
abbrev pub ahead_in : PairValue → PairValue → Side → ℕ
ahead_in p new side = distance_of (socket_of p side).tcb.sender.una (socket_of new (other side)).tcb.receiver.next

pub record HasTold (p new : PairValue) (side : Side) : Type 0 where
  pub all : (socket_of new side).tcb.sender.una ≡ (socket_of new (other side)).tcb.receiver.next
  pub had : 1 ≤ ahead_in p new side
  pub more : ahead_in p p side ≤ ahead_in p new side
  pub left : left_in new side + ahead_in p new side ≡ left_in p side

abbrev pub HasLess : PairValue → PairValue → Side → Type 0
HasLess p new side = HasTaken p new side ⊎ (HasTold p new side ⊎ (is_closed (socket_of new (other side)).tcb.state ≡ true))

-- each knows what the other took, and a connection is over only where it was in LAST-ACK, and all of it is acknowledged
pub record Heard (p new : PairValue) (side : Side) : Type 0 where
  pub known : (socket_of new (other side)).tcb.sender.una ≡ (socket_of new side).tcb.receiver.next
  pub closes : is_closed (socket_of new side).tcb.state ≡ true → ((socket_of p side).tcb.state ≡ In.LastAck) × (left_in new side ≡ 0)
  pub closes_other :
      is_closed (socket_of new (other side)).tcb.state ≡ true
      → ((socket_of p (other side)).tcb.state ≡ In.LastAck) × (left_in new (other side) ≡ 0)

pub record Moved (X Z : Type 0) (p : PairValue) (side : Side) (instant : ℤ) : Type 0 where
  pub moves : MovesIn p side instant ⊎ X
  pub less : HasLess p (exchanged_in p side instant) side ⊎ Z
  pub heard : Heard p (exchanged_in p side instant) side

pub reach_in : (p : PairValue) (side : Side) (instant : ℤ) (o : OpenOffer) → MayExchangeIn p side instant o → MayReachIn p side instant o
reach_in p side instant o may =
    reach_of (context_of p side instant) (context_at (other side) (at p.sides (other side))) (socket_of p side) (socket_of p (other side)) o may

-- the offer of a side, come to the other
abbrev pub came_in : PairValue → Side → ℤ → OpenOffer → Arrived
came_in p side instant o =
    offer_arrives (context_at (other side) (at p.sides (other side))) (socket_of p (other side)) (socket_of p side) o

-- what the other has taken then lies within what the side has sent
abbrev pub TookThen : PairValue → Side → ℤ → OpenOffer → Type 0
TookThen p side instant o = TookWhatWasSent (settled true (offer_of (context_of p side instant) (socket_of p side)).socket) (came_in p side instant o).socket

pub pair_moved :
    {X Z : Type 0} → (p : PairValue) (side : Side) (instant : ℤ) (o : OpenOffer)
    (k : Keeps (socket_of p side) (past_at p side) (socket_of p (other side)) (past_at p (other side)))
    → IsInStep k.side k.peer_side → TookWhatWasSent (socket_of p side) (socket_of p (other side))
    → FitsBuffer (socket_of p side) (socket_of p (other side)) → TookWhatWasSent (socket_of p (other side)) (socket_of p side)
    → AreMirrored (socket_of p side).tcb (socket_of p (other side)).tcb
    → MayReachIn p side instant o → CanHear (socket_of p side) (socket_of p (other side)) ⊎ X → (X → Z)
    → (is_synchronized (came_in p side instant o).socket.tcb.state ≡ true → TookThen p side instant o ⊎ Z) → Moved X Z p side instant
pair_moved {X} {Z} p A instant o k step sent fits heard mirrored may space known took =
    by
    (side_comes A p.sides.a p.sides.b instant mirrored o may (past_at p A) (past_at p B) k step sent fits heard space took)
  where
    -- so many segments of the other come
    after : ℕ → PairValue
    after n = comes n B (next_sent p B) (offered_in p A instant)

    heard_of : (n : ℕ) → Heard p (after n) A → length (peer_side_after A p.sides.a p.sides.b instant).sent - length p.sides.b.sent ≡ n →
        Heard p (exchanged_in p A instant) A
    heard_of n h is = subst (λ (n : ℕ). Heard p (after n) A) (sym is) h

    less_of : (n : ℕ) → HasLess p (after n) A → length (peer_side_after A p.sides.a p.sides.b instant).sent - length p.sides.b.sent ≡ n →
        HasLess p (exchanged_in p A instant) A ⊎ Z
    less_of n h is = inl (subst (λ (n : ℕ). HasLess p (after n) A) (sym is) h)

    by : Comes A p.sides.a p.sides.b instant mirrored o may X Z → Moved X Z p A instant
    by (inl x) = record {
      moves = inl (inl x.next);
      less =
          less_of 0
          (inl (record { more = x.next.by; some = x.next.some; few = x.next.few; una = x.una; next = x.next.moved; left = x.left; state = x.state }))
          x.none;
      heard = heard_of 0 (record { known = x.leaves.known; closes = x.leaves.closes; closes_other = x.leaves.closes_other }) x.none;
    }
    by (inr (inl x)) = record {
      moves =
          inl
          (inr
          (inl
          (subst (λ (n : ℕ). MovesOn p.sides.a.socket.tcb.sender.una (socket_of (after n) A).tcb.sender.una)
          (sym x.one) x.una)));
      less = less_of 1 (inr (inl (record { all = x.all; had = x.had; more = x.more; left = x.left }))) x.one;
      heard = heard_of 1 (record { known = x.leaves.known; closes = x.leaves.closes; closes_other = x.leaves.closes_other }) x.one;
    }
    by (inr (inr (inl x))) = record {
      moves = inl (inr (inr (x.last, x.closed)));
      less = less_of 0 (inr (inr x.closed)) x.none;
      heard = heard_of 0 (record { known = x.leaves.known; closes = x.leaves.closes; closes_other = x.leaves.closes_other }) x.none;
    }
    by (inr (inr (inr (inl x)))) = record {
      moves = inr x.1;
      less = inr (known x.1);
      heard = heard_of 1 (record { known = x.0.leaves.known; closes = x.0.leaves.closes; closes_other = x.0.leaves.closes_other }) x.0.one;
    }
    by (inr (inr (inr (inr (inl x))))) = record {
      moves = inl (inl x.next);
      less =
          less_of 1
          (inl (record { more = x.next.by; some = x.next.some; few = x.next.few; una = x.una; next = x.next.moved; left = x.left; state = x.state }))
          x.one;
      heard = heard_of 1 (record { known = x.leaves.known; closes = x.leaves.closes; closes_other = x.leaves.closes_other }) x.one;
    }
    by (inr (inr (inr (inr (inr x))))) = record {
      moves = inl (inl x.0.next);
      less = inr x.1;
      heard = heard_of 1 (record { known = x.0.leaves.known; closes = x.0.leaves.closes; closes_other = x.0.leaves.closes_other }) x.0.one;
    }
pair_moved {X} {Z} p B instant o k step sent fits heard mirrored may space known took =
    by
    (side_comes B p.sides.b p.sides.a instant mirrored o may (past_at p B) (past_at p A) k step sent fits heard space took)
  where
    -- so many segments of the other come
    after : ℕ → PairValue
    after n = comes n A (next_sent p A) (offered_in p B instant)

    heard_of : (n : ℕ) → Heard p (after n) B → length (peer_side_after B p.sides.b p.sides.a instant).sent - length p.sides.a.sent ≡ n →
        Heard p (exchanged_in p B instant) B
    heard_of n h is = subst (λ (n : ℕ). Heard p (after n) B) (sym is) h

    less_of : (n : ℕ) → HasLess p (after n) B → length (peer_side_after B p.sides.b p.sides.a instant).sent - length p.sides.a.sent ≡ n →
        HasLess p (exchanged_in p B instant) B ⊎ Z
    less_of n h is = inl (subst (λ (n : ℕ). HasLess p (after n) B) (sym is) h)

    by : Comes B p.sides.b p.sides.a instant mirrored o may X Z → Moved X Z p B instant
    by (inl x) = record {
      moves = inl (inl x.next);
      less =
          less_of 0
          (inl (record { more = x.next.by; some = x.next.some; few = x.next.few; una = x.una; next = x.next.moved; left = x.left; state = x.state }))
          x.none;
      heard = heard_of 0 (record { known = x.leaves.known; closes = x.leaves.closes; closes_other = x.leaves.closes_other }) x.none;
    }
    by (inr (inl x)) = record {
      moves =
          inl
          (inr
          (inl
          (subst (λ (n : ℕ). MovesOn p.sides.b.socket.tcb.sender.una (socket_of (after n) B).tcb.sender.una)
          (sym x.one) x.una)));
      less = less_of 1 (inr (inl (record { all = x.all; had = x.had; more = x.more; left = x.left }))) x.one;
      heard = heard_of 1 (record { known = x.leaves.known; closes = x.leaves.closes; closes_other = x.leaves.closes_other }) x.one;
    }
    by (inr (inr (inl x))) = record {
      moves = inl (inr (inr (x.last, x.closed)));
      less = less_of 0 (inr (inr x.closed)) x.none;
      heard = heard_of 0 (record { known = x.leaves.known; closes = x.leaves.closes; closes_other = x.leaves.closes_other }) x.none;
    }
    by (inr (inr (inr (inl x)))) = record {
      moves = inr x.1;
      less = inr (known x.1);
      heard = heard_of 1 (record { known = x.0.leaves.known; closes = x.0.leaves.closes; closes_other = x.0.leaves.closes_other }) x.0.one;
    }
    by (inr (inr (inr (inr (inl x))))) = record {
      moves = inl (inl x.next);
      less =
          less_of 1
          (inl (record { more = x.next.by; some = x.next.some; few = x.next.few; una = x.una; next = x.next.moved; left = x.left; state = x.state }))
          x.one;
      heard = heard_of 1 (record { known = x.leaves.known; closes = x.leaves.closes; closes_other = x.leaves.closes_other }) x.one;
    }
    by (inr (inr (inr (inr (inr x))))) = record {
      moves = inl (inl x.0.next);
      less = inr x.1;
      heard = heard_of 1 (record { known = x.0.leaves.known; closes = x.0.leaves.closes; closes_other = x.0.leaves.closes_other }) x.0.one;
    }

of_either : {A : Type 0} → A ⊎ ⊥ → A
of_either (inl a) = a
of_either (inr never) = absurd never

pub pair_moves :
    (p : PairValue) (side : Side) (instant : ℤ) (o : OpenOffer)
    (k : Keeps (socket_of p side) (past_at p side) (socket_of p (other side)) (past_at p (other side)))
    → IsInStep k.side k.peer_side → TookWhatWasSent (socket_of p side) (socket_of p (other side))
    → FitsBuffer (socket_of p side) (socket_of p (other side)) → TookWhatWasSent (socket_of p (other side)) (socket_of p side)
    → AreMirrored (socket_of p side).tcb (socket_of p (other side)).tcb
    → MayExchangeIn p side instant o → MovesIn p side instant
pair_moves p side instant o k step sent fits heard mirrored may =
    let it : Moved ⊥ (Unit {0}) p side instant =
    pair_moved p side instant o k step sent fits heard mirrored (reach_in p side instant o may) (inl may.space) (λ _. tt) (λ _. inr tt) in
    of_either it.moves

-- IN STEP

synchronized_phase : (state : State) → is_synchronized state ≡ true → phase_of state ≡ Synchronized
synchronized_phase In.SynReceived e = clash (sym e)
synchronized_phase other e = refl

pub in_step : (v w : TcpValue) (p q : Past) (k : Keeps v p w q) → is_synchronized v.tcb.state ≡ true → HasStream p → IsInStep k.side k.peer_side
in_step v w p q k mine stream = by k.holds.0.sync where
  f : IsConnectedAs (core_of v) (unsent k.side)
  f = fits_connected v.tcb.state (core_of v) (unsent k.side) (connected_in v.tcb.state mine) k.fits

  none : (xs : List ℕ) → xs ≡ [] → 1 ≤ length xs → ⊥
  none xs e some = at_least (length xs) (ap length e) some where
    at_least : (n : ℕ) → n ≡ 0 → 1 ≤ n → ⊥
    at_least n e f = absurd (omega arith)

  not_silent : IsSilent k.side k.peer_side → HasStream p → ⊥
  not_silent silent (inl unclosed) =
      absurd
      (let clashes : true ≡ false =
      sym (silent.closed (f.phase ∙ synchronized_phase v.tcb.state mine)) ∙ (ap (λ (p : Past). p.closed) k.past ∙ unclosed) in cc)
  not_silent silent (inr wrote) = none p.written (sym (ap (λ (p : Past). p.written) k.past) ∙ silent.unwritten) wrote

  by : IsInStep k.side k.peer_side ⊎ IsSilent k.side k.peer_side → IsInStep k.side k.peer_side
  by (inl step) = step
  by (inr silent) = absurd (not_silent silent stream)

-- WHAT EVENTS LED TO

-- what the other took lies within what was sent
pub reached_then :
    (p : PairValue) (side : Side) (instant : ℤ) (o : OpenOffer) → IsReached p → MayReachIn p side instant o
    → is_synchronized (came_in p side instant o).socket.tcb.state ≡ true → TookThen p side instant o
reached_then p A instant o reached may =
    took_after A p.sides.a p.sides.b instant (connected_mirrored p A reached may.own.synchronized may.theirs.synchronized) o may (at (pasts p.history) A)
    (at (pasts p.history) B) (reached_keeps p A reached) (reached_sends p A reached)
reached_then p B instant o reached may =
    took_after B p.sides.b p.sides.a instant (connected_mirrored p B reached may.own.synchronized may.theirs.synchronized) o may (at (pasts p.history) B)
    (at (pasts p.history) A) (reached_keeps p B reached) (reached_sends p B reached)

-- the side hears the answer, or something else is known
pub reached_comes :
    {X : Type 0} → (p : PairValue) (side : Side) (instant : ℤ) (o : OpenOffer) → IsReached p → HasStream (past_at p side) → MayReachIn p side instant o
    → CanHear (socket_of p side) (socket_of p (other side)) ⊎ X → Moved X X p side instant
reached_comes p side instant o reached stream may space =
    let k = reached_keeps p side reached in
    let each = reached_took p side reached may.own may.theirs in
    pair_moved p side instant o k
    (in_step (socket_of p side) (socket_of p (other side)) (past_at p side) (past_at p (other side)) k may.own.synchronized stream) each.sent
    (fits_in p side reached may.own may.theirs may.room) each.heard
    (connected_mirrored p side reached may.own.synchronized may.theirs.synchronized) may space (λ x. x)
    (λ on. inl (reached_then p side instant o reached may on))

pub reached_less :
    (p : PairValue) (side : Side) (instant : ℤ) (o : OpenOffer) → IsReached p → HasStream (past_at p side) → MayReachIn p side instant o
    → CanHear (socket_of p side) (socket_of p (other side)) → HasLess p (exchanged_in p side instant) side
reached_less p side instant o reached stream may space =
    let it : Moved ⊥ ⊥ p side instant = reached_comes p side instant o reached stream may (inl space) in of_either it.less

pub reached_moves :
    (p : PairValue) (side : Side) (instant : ℤ) (o : OpenOffer) → IsReached p → HasStream (past_at p side) → MayReachIn p side instant o
    → CanHear (socket_of p side) (socket_of p (other side)) → MovesIn p side instant
reached_moves p side instant o reached stream may space =
    let it : Moved ⊥ ⊥ p side instant = reached_comes p side instant o reached stream may (inl space) in of_either it.moves

-- HOW MANY

-- how much of what isn't acknowledged the other has
abbrev pub had_in : PairValue → Side → ℕ
had_in p side = distance_of (socket_of p side).tcb.sender.una (socket_of p (other side)).tcb.receiver.next

pub further : (una next more : ℕ) → una < 2 ^ 32 → next < 2 ^ 32 → (next + (2 ^ 32 - una)) % 2 ^ 32 < 2 ^ 30 → more < 2 ^ 30
    → ((next + more) % 2 ^ 32 + (2 ^ 32 - una)) % 2 ^ 32 ≡ (next + (2 ^ 32 - una)) % 2 ^ 32 + more
further una next more a b c d = omega arith

-- what an exchange asks for says of what isn't acknowledged
pub record HasSome (p : PairValue) (side : Side) : Type 0 where
  pub some : 1 ≤ left_in p side
  pub within : had_in p side ≤ left_in p side
  pub few : left_in p side < 2 ^ 30
  pub una : (socket_of p side).tcb.sender.una.0 < 2 ^ 32
  pub next : (socket_of p (other side)).tcb.receiver.next.0 < 2 ^ 32

pub has_some :
    (p : PairValue) (side : Side) (instant : ℤ) (o : OpenOffer) → IsReached p → HasStream (past_at p side) → MayReachIn p side instant o
    → HasSome p side
has_some p side instant o reached stream may = record { some = enough _ _ may.some goes.ends; within = l.within; few = l.few; una = una; next = next } where
  k : Keeps (socket_of p side) (past_at p side) (socket_of p (other side)) (past_at p (other side))
  k = reached_keeps p side reached

  step : IsInStep k.side k.peer_side
  step = in_step (socket_of p side) (socket_of p (other side)) (past_at p side) (past_at p (other side)) k may.own.synchronized stream

  l : LiesWithin (socket_of p side) (socket_of p (other side)) k.side k.peer_side
  l =
      lies_within (socket_of p side) (socket_of p (other side)) (past_at p side) (past_at p (other side)) k may.own.synchronized
      may.theirs.synchronized step

  una : (socket_of p side).tcb.sender.una.0 < 2 ^ 32
  una = una_small (socket_of p side) k.side (placed (socket_of p side) k.side k.fits k.holds.0.well_formed may.own.synchronized)

  next : (socket_of p (other side)).tcb.receiver.next.0 < 2 ^ 32
  next =
      next_small (socket_of p (other side)) k.peer_side
      (placed (socket_of p (other side)) k.peer_side k.peer_side_fits k.holds.1.well_formed may.theirs.synchronized)

  goes : GoesFromUna (socket_of p side) o
  goes =
      goes_from_una (context_of p side instant) (socket_of p side) o una may.own.acknowledged may.over may.offered may.kind

  enough : (len all : ℕ) → 1 ≤ len → len ≤ all → 1 ≤ all
  enough len all a b = omega arith

-- a measure that falls with each exchange
once_more : (n had had_new left left_new more : ℕ) → suc n + had_new ≤ left_new + left_new → left_new ≡ left → had_new ≡ had + more → 1 ≤ more →
    suc (suc n) + had ≤ left + left
once_more n had had_new left left_new more a b c d = omega arith

acknowledged_once :
    (n had had_new left left_new reach : ℕ) → suc n + had_new ≤ left_new + left_new → left_new + reach ≡ left → 1 ≤ reach → had ≤ reach
    → suc (suc n) + had ≤ left + left
acknowledged_once n had had_new left left_new reach a b c d = omega arith

last_one : (had left : ℕ) → had ≤ left → 1 ≤ left → 1 + had ≤ left + left
last_one had left a b = omega arith

pub below_quarter : (had left : ℕ) → had ≤ left → left < 2 ^ 30 → had < 2 ^ 30
below_quarter had left a b = omega arith

-- one exchange before others
before :
    (p : PairValue) (side : Side) (instant : ℤ) (n : ℕ) → HasSome p side
    → ((is_closed (socket_of (exchanged_in p side instant) (other side)).tcb.state ≡ true) → ⊥)
    → suc n + had_in (exchanged_in p side instant) side ≤ left_in (exchanged_in p side instant) side + left_in (exchanged_in p side instant) side
    → HasLess p (exchanged_in p side instant) side → suc (suc n) + had_in p side ≤ left_in p side + left_in p side
before p side instant n h open_still rest (inl t) =
    once_more n (had_in p side) (had_in (exchanged_in p side instant) side) (left_in p side) (left_in (exchanged_in p side instant) side) t.more rest t.left
    (ap (λ (n : SeqNumber). distance_of n (socket_of (exchanged_in p side instant) (other side)).tcb.receiver.next) t.una
    ∙ (ap (λ (n : SeqNumber). distance_of (socket_of p side).tcb.sender.una n) t.next
    ∙ further (socket_of p side).tcb.sender.una.0 (socket_of p (other side)).tcb.receiver.next.0 t.more h.una h.next
    (below_quarter (had_in p side) (left_in p side) h.within h.few) t.few))
    t.some
before p side instant n h open_still rest (inr (inl t)) =
    acknowledged_once n (had_in p side) (had_in (exchanged_in p side instant) side) (left_in p side) (left_in (exchanged_in p side instant) side)
    (ahead_in p (exchanged_in p side instant) side) rest t.left t.had t.more
before p side instant n h open_still rest (inr (inr closed)) = absurd (open_still closed)

pub still_open : (state : State) → is_synchronized state ≡ true → is_closed state ≡ true → ⊥
still_open state past closed = absurd (let clashes : true ≡ false = sym closed ∙ not_closed state past in cc)

fits : (p : PairValue) (side : Side) (x : ℤ × OpenOffer) (more : List (ℤ × OpenOffer)) → Exchanges p side (x ∷ more) →
    suc (length more) + had_in p side ≤ left_in p side + left_in p side
fits p side x [] e =
    let h = has_some p side x.0 x.1 e.0 e.1 (reach_in p side x.0 x.1 e.2) in last_one (had_in p side) (left_in p side) h.within h.some
fits p side x (y ∷ more) e =
    before p side x.0 (length more) (has_some p side x.0 x.1 e.0 e.1 (reach_in p side x.0 x.1 e.2))
    (λ closed. still_open (socket_of (exchanged_in p side x.0) (other side)).tcb.state e.3.2.theirs.synchronized closed)
    (fits (exchanged_in p side x.0) side y more e.3)
    (reached_less p side x.0 x.1 e.0 e.1 (reach_in p side x.0 x.1 e.2) e.2.space)

pub exchanges_few : (p : PairValue) (side : Side) (exchanges : List (ℤ × OpenOffer)) → Exchanges p side exchanges → length exchanges ≤ 2 * left_in p side
exchanges_few p side [] e = omega arith
exchanges_few p side (x ∷ more) e = twice (length more) (had_in p side) (left_in p side) (fits p side x more e) where
  twice : (n had left : ℕ) → suc n + had ≤ left + left → suc n ≤ 2 * left
  twice n had left a = omega arith
