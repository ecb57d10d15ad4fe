-- What a side sends past all that it ever sent lies in the other's window, where it begins before the right edge.
use Rattle.std.proofs.Common.{◌≡◌, ℕ, ◌+◌, ◌-◌, ◌%◌, ◌^◌, ◌<◌, ◌≤◌, ◌==◌, ◌&&◌, nat_lt, max, Bool, true, false, if◌then◌else◌, refl, ap, ◌∙◌, arith}
use Rattle.std.proofs.lemmas.Bool.{lt-ltb}
use Rattle.std.proofs.lemmas.Bool.Decides.{nat_tests}
use Rattle.ip_wire.specs.Seq.{distance_of}
use Rattle.ip_wire.specs.TcpHeader.{TcpHeader}
use Rattle.tcp_invariants.specs.Offsets.{distance_before, overlaps_window, distance_after}
use Rattle.tcp_refinement.specs.Tie.{Keeps}
use Rattle.tcp_block.specs.TcbRules.{snd_max, unacked}
use Rattle.tcp_block.specs.Checks.{is_in_window}
use Rattle.tcp_block.specs.Segments.{segment_len}
use Rattle.tcp_block.specs.Value.{TcpValue, queued_in}
use Rattle.tcp_block.specs.declared.tcb.Tcb.{Tcb}
use Rattle.tcp_refinement.specs.Pair.Sides.{other}
use Rattle.tcp_refinement.specs.Pair.Values.{PairValue, past_at}
use Rattle.tcp_refinement.specs.declared.pair.event.Side.{Side}
use Rattle.tcp_liveness.specs.Exchange.{IsOpen}
use Rattle.tcp_liveness.specs.Pair.{socket_of}
use Rattle.tcp_liveness.specs.Reached.{IsReached}
use Rattle.tcp_liveness.proofs.Kept.{reached_keeps}
use Rattle.tcp_liveness.proofs.Positions.{IsPlaced, next_small, placed, una_small}
use Rattle.tcp_liveness.proofs.SentPairs.{reached_took}

inside_rcv_adv : (past space : ℕ) → past < max 1 space → (first : Bool) → (past == 0) ≡ first → (if first then true else nat_lt past space) ≡ true
inside_rcv_adv past space e true f = refl
inside_rcv_adv past space e false f = lt-ltb past space (within past space e (positive f)) where
  positive : (past == 0) ≡ false → 1 ≤ past
  positive f = grind (arith, nat_tests)

  within : (a b : ℕ) → a < max 1 b → 1 ≤ a → a < b
  within a b e f = omega arith

-- a segment that takes no position, and begins at RCV.NXT or past it, before the right edge
pub in_window :
    (b : Tcb) (space : ℕ) (header : TcpHeader) (size : ℕ) → segment_len header size ≡ 0 → distance_of b.receiver.next header.seq_number < 2 ^ 31
    → distance_after b.receiver.next header.seq_number < max 1 space → is_in_window b space header size ≡ true
in_window b space header size bare ahead inside =
    ap (λ (n : ℕ). overlaps_window (distance_before b.receiver.next header.seq_number) past n space) bare
    ∙ (ap (λ (n : ℕ). (n == 0) && (if past == 0 then true else nat_lt past space)) none ∙ inside_rcv_adv past space inside (past == 0) refl)
  where
    past : ℕ
    past = distance_after b.receiver.next header.seq_number

    far : ℕ
    far = distance_of b.receiver.next header.seq_number

    none : distance_before b.receiver.next header.seq_number ≡ 0
    none = ap (λ (t : Bool). if t then 0 else 2 ^ 32 - far) (lt-ltb far (2 ^ 31) ahead)

-- all that the other ever sent ends at RCV.NXT of a side, or past it
pub snd_max_ahead :
    (p : PairValue) (side : Side) → IsReached p → IsOpen (socket_of p side).tcb → IsOpen (socket_of p (other side)).tcb
    → distance_of (socket_of p side).tcb.receiver.next (snd_max (socket_of p (other side)).tcb) < 2 ^ 31
snd_max_ahead p side r mine theirs =
    ahead w.tcb.sender.una.0 v.tcb.receiver.next.0 w.tcb.sender.snd_max (unacked w.tcb (queued_in w)) (una_small w there.side b)
    (next_small v here.side a) b.snd_max b.few (reached_took p side r mine theirs).heard
  where
    v : TcpValue
    v = socket_of p side

    w : TcpValue
    w = socket_of p (other side)

    here : Keeps v (past_at p side) w (past_at p (other side))
    here = reached_keeps p side r

    there : Keeps w (past_at p (other side)) (socket_of p (other (other side))) (past_at p (other (other side)))
    there = reached_keeps p (other side) r

    a : IsPlaced v here.side
    a = placed v here.side here.fits here.holds.0.well_formed mine.synchronized

    b : IsPlaced w there.side
    b = placed w there.side there.fits there.holds.0.well_formed theirs.synchronized

    ahead :
        (una next sent all : ℕ) → una < 2 ^ 32 → next < 2 ^ 32 → sent ≤ all → all < 2 ^ 30 → (next + (2 ^ 32 - una)) % 2 ^ 32 ≤ sent
        → ((una + sent) % 2 ^ 32 + (2 ^ 32 - next)) % 2 ^ 32 < 2 ^ 31
    ahead una next sent all c d e f g = omega arith
