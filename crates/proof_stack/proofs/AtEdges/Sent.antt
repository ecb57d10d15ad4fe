-- What goes past all that a side ever sent, and comes at the right edge of the other's window: there the other hasn't taken all of it.
use Rattle.std.proofs.Common.{◌≡◌, ◌⊎◌, inl, inr, ℕ, ◌+◌, ◌-◌, ◌%◌, ◌^◌, ◌<◌, ◌≤◌, nat_lt, max, Bool, true, false, if◌then◌else◌, refl, sym, ap, ◌∙◌, arith}
use Rattle.std.proofs.lemmas.Bool.{ltb-false, ltb-true}
use Rattle.ip_wire.specs.Seq.{distance_of}
use Rattle.ip_wire.specs.SeqNumber.{SeqNumber}
use Rattle.tcp_state.specs.Offsets.{distance_after}
use Rattle.tcp_block.specs.TcbRules.{snd_max, unacked}
use Rattle.tcp_block.specs.Value.{TcpValue, free_in, queued_in}
use Rattle.tcp_refinement.specs.Pair.Sides.{other}
use Rattle.tcp_refinement.specs.Pair.Values.{PairValue, past_at}
use Rattle.tcp_refinement.specs.Tie.{Keeps}
use Rattle.tcp_refinement.specs.declared.pair.event.Side.{Side}
use Rattle.tcp_liveness.specs.BothWays.{total_in}
use Rattle.tcp_liveness.specs.Exchange.{IsOpen}
use Rattle.tcp_liveness.specs.Onward.{HasRisen, Lasts}
use Rattle.tcp_liveness.specs.Pair.{left_in, socket_of}
use Rattle.tcp_liveness.specs.Reached.{IsReached}
use Rattle.tcp_liveness.proofs.Kept.{reached_by, reached_keeps}
use Rattle.tcp_liveness.proofs.LatePayload.{left_within, open_of, there_of}
use Rattle.tcp_liveness.proofs.OnwardPairs.{MovesIn, moves_on}
use Rattle.tcp_liveness.proofs.Opened.{is_open}
use Rattle.tcp_liveness.proofs.Pair.{not_closed}
use Rattle.tcp_liveness.proofs.Positions.{IsPlaced, next_small, placed, una_small}
use Rattle.tcp_liveness.proofs.SentPairs.{reached_took}
use Rattle.proof_stack.specs.Progress.Edges.{HasMoreSent, LiesAtEdge}

module _ (p : PairValue) (side : Side) (r : IsReached p) (mine : IsOpen (socket_of p side).tcb) (theirs : IsOpen (socket_of p (other side)).tcb) where
  abbrev v : TcpValue
  v = socket_of p side

  abbrev w : TcpValue
  w = socket_of p (other side)

  here : Keeps v (past_at p side) w (past_at p (other side))
  here = reached_keeps p side r

  there : Keeps w (past_at p (other side)) (socket_of p (other (other side))) (past_at p (other (other side)))
  there = reached_keeps p (other side) r

  a : IsPlaced v here.side
  a = placed v here.side here.fits here.holds.0.well_formed mine.synchronized

  b : IsPlaced w there.side
  b = placed w there.side there.fits there.holds.0.well_formed theirs.synchronized

  -- how much of it the other took
  abbrev had : ℕ
  had = distance_of v.tcb.sender.una w.tcb.receiver.next

  -- a number no further than all that was sent, past what the other took
  more_sent : (number : SeqNumber) (far : ℕ) → number.0 ≡ (v.tcb.sender.una.0 + far) % 2 ^ 32 → far ≤ v.tcb.sender.snd_max → LiesAtEdge p (other side) number →
      HasMoreSent p side
  more_sent number far is within rcv_adv = by (nat_lt had v.tcb.sender.snd_max) refl where
    before : (una far next all number : ℕ) → una < 2 ^ 32 → next < 2 ^ 32 → number ≡ (una + far) % 2 ^ 32 → far ≤ (next + (2 ^ 32 - una)) % 2 ^ 32 →
        (next + (2 ^ 32 - una)) % 2 ^ 32 ≤ all → all < 2 ^ 30 → (number + (2 ^ 32 - next)) % 2 ^ 32 < 2 ^ 31 →
        (number + (2 ^ 32 - next)) % 2 ^ 32 ≡ 0
    before una far next all number c d e f g h i = omega arith

    upto : (a b c : ℕ) → a ≤ b → b ≤ c → a ≤ c
    upto a b c e f = omega arith

    nothing : (space past : ℕ) → max 1 space ≤ past → past ≡ 0 → ⊥
    nothing space past e f = absurd (omega arith)

    no_past : v.tcb.sender.snd_max ≤ had → distance_after w.tcb.receiver.next number ≡ 0
    no_past all = cases (nat_lt (distance_of w.tcb.receiver.next number) (2 ^ 31)) refl where
      cases : (near : Bool) → nat_lt (distance_of w.tcb.receiver.next number) (2 ^ 31) ≡ near →
          (if near then distance_of w.tcb.receiver.next number else 0) ≡ 0
      cases true e =
          before v.tcb.sender.una.0 far w.tcb.receiver.next.0 v.tcb.sender.snd_max number.0 (una_small v here.side a) (next_small w there.side b) is
          (upto far v.tcb.sender.snd_max had within all) (reached_took p side r mine theirs).sent
          few (ltb-true (distance_of w.tcb.receiver.next number) (2 ^ 31) e)
        where
          less : (a b c : ℕ) → a ≤ b → b < c → a < c
          less a b c e f = omega arith

          few : v.tcb.sender.snd_max < 2 ^ 30
          few = less v.tcb.sender.snd_max (unacked v.tcb (queued_in v)) (2 ^ 30) a.snd_max a.few
      cases false e = refl

    by : (less : Bool) → nat_lt had v.tcb.sender.snd_max ≡ less → HasMoreSent p side
    by true e = ltb-true had v.tcb.sender.snd_max e
    by false e =
        absurd
        (nothing (free_in w) (distance_after w.tcb.receiver.next number) rcv_adv
        (no_past (ltb-false had v.tcb.sender.snd_max e)))

  -- it isn't acknowledged
  pub more_left : HasMoreSent p side → 1 ≤ left_in p side
  more_left more = by had v.tcb.sender.snd_max (left_in p side) more a.snd_max where
    by : (had snd_max left : ℕ) → had < snd_max → snd_max ≤ left → 1 ≤ left
    by had snd_max left e f = omega arith

pub follows_more :
    (p q : PairValue) (side : Side) (number : SeqNumber) → IsReached p → Lasts p q → number ≡ snd_max (socket_of p side).tcb
    → LiesAtEdge q (other side) number → HasRisen p q side ⊎ (HasMoreSent q side × (1 ≤ left_in q side))
follows_more p q side number r l is rcv_adv =
    by ((moves side).una (not_closed (socket_of q side).tcb.state (there_of q side l.after))) where
      rq : IsReached q
      rq = reached_by p q l.events r l.steps

      moves : (of : Side) → MovesIn p q of
      moves of = moves_on p q l.events of r l.before l.steps

      open_q : (of : Side) → IsOpen (socket_of q of).tcb
      open_q of = is_open q of rq (there_of q of l.after) ((moves of).syn (open_of p of l.before).acknowledged)

      rises : (a b c d : ℕ) → a + b < c + d → d ≤ a → a - d < c - b
      rises a b c d e f = omega arith

      by :
          (((socket_of q side).tcb.sender.una ≡ (socket_of p side).tcb.sender.una)
          × ((socket_of p side).tcb.sender.snd_max ≤ (socket_of q side).tcb.sender.snd_max))
          ⊎ (total_in p side + left_in q side < total_in q side + left_in p side)
          → HasRisen p q side ⊎ (HasMoreSent q side × (1 ≤ left_in q side))
      by (inr risen) =
          inl
          (inl
          (rises (total_in p side) (left_in q side) (total_in q side) (left_in p side) risen (left_within p side r (open_of p side l.before))))
      by (inl same) =
          let more =
          more_sent q side rq (open_q side) (open_q (other side)) number (socket_of p side).tcb.sender.snd_max
          (ap (λ (n : SeqNumber). n.0) is
          ∙ ap (λ (una : SeqNumber). (una.0 + (socket_of p side).tcb.sender.snd_max) % 2 ^ 32) (sym same.0))
          same.1 rcv_adv in
          inr (more, more_left q side rq (open_q side) (open_q (other side)) more)
