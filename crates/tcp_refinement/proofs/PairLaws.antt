-- Each event keeps the invariant of a pair, and the invariant gives what is promised.
use Rattle.std.proofs.Common.{◌≡◌, ℕ, ◌+◌, ◌^◌, ◌<◌, nat_le, Bool, true, false, if◌then◌else◌, List, [], ◌∷◌, length, Option, Some, None, refl, sym, subst}
use Rattle.std.proofs.Common.{arith}
use Rattle.std.proofs.lemmas.Bool.Decides.{nat_tests}
use Rattle.tcp_theory.specs.Side.{Opening}
use Rattle.tcp_theory.specs.Side.Opening.{NotYet, Passive, Active}
use Rattle.tcp_block.specs.Value.{TcpValue}
use Rattle.tcp_refinement.specs.Promises.{IsInitial}
use Rattle.tcp_refinement.specs.Tie.{Past, Keeps}
use Rattle.tcp_refinement.proofs.PromiseLemmas.{keeps_initial, keeps_turned, safe_sockets}
use Rattle.tcp_refinement.specs.declared.pair.event.Side.{Side}
use Rattle.tcp_refinement.specs.declared.pair.event.Side.TheVariants.{A, B}
use Rattle.tcp_refinement.specs.declared.pair.event.PairEvent.{PairEvent}
use Rattle.tcp_refinement.specs.declared.pair.event.PairEvent.TheVariants.{Listen, Connect, Send, Recv, Close, Abort, TcpSetting, Clock, Offer, Deliver}
use Rattle.tcp_refinement.specs.declared.pair.event.PairAnswer.{PairAnswer}
use Rattle.tcp_refinement.specs.declared.pair.event.PairAnswer.TheVariants.{Done, Count, Bytes, Error}
use Rattle.tcp_refinement.specs.declared.pair.event.PairRefused.TheVariants.{OpenedTwice, TooManyBytes}
use Rattle.tcp_refinement.specs.declared.pair.event.TcpFault.{TcpFault}
use Rattle.tcp_refinement.specs.declared.pair.event.TcpFault.TheVariants as Fault
use Rattle.tcp_refinement.specs.Pair.History.{Entry, side_of, pasts, adds}
use Rattle.tcp_refinement.specs.Pair.Safe.{IsKept, IsSafe, IsStreamSafe, EndIsComplete, EndsWereComplete, WasComplete}
use Rattle.tcp_refinement.specs.Pair.Sides.{Both, at, put, other}
use Rattle.tcp_refinement.specs.Pair.Steps.{Steps, refusal, happens, acting, acts, was_opened, if_so}
use Rattle.tcp_refinement.specs.Pair.Values.{HostContext, PairSide, PairValue, beginning, new_side, past_at, with_segments}
use Rattle.tcp_refinement.proofs.SideLaws.{IsAllowed, Ends, led, led_end}

pub new_is_kept : (host peer_side : HostContext) (m n : ℕ) (a b : TcpValue) → IsInitial a → IsInitial b →
    IsKept (beginning (new_side host m a) (new_side peer_side n b))
new_is_kept host peer_side m n a b f g = record { sockets = keeps_initial a b [] [] f g tt tt; ends = tt }

-- WHAT ISN'T REFUSED

unopened_yet : (opening : Opening) → if_so (was_opened opening) OpenedTwice ≡ None → opening ≡ NotYet
unopened_yet NotYet e = refl
unopened_yet Passive e = absurd (cc)
unopened_yet Active e = absurd (cc)

short_yet : (count : ℕ) → if_so (nat_le (2 ^ 29) count) TooManyBytes ≡ None → count < 2 ^ 29
short_yet count e = by (nat_le (2 ^ 29) count) refl e where
  by : (test : Bool) → nat_le (2 ^ 29) count ≡ test → if_so test TooManyBytes ≡ None → count < 2 ^ 29
  by true is_so e = absurd (cc)
  by false is_not e = grind (arith, nat_tests)

is_allowed : (p : PairValue) (event : PairEvent) → refusal p event ≡ None → IsAllowed event (at (pasts p.history) (side_of event))
is_allowed p (Listen side endpoint) e = unopened_yet (at (pasts p.history) side).opening e
is_allowed p (Connect side remote local) e = unopened_yet (at (pasts p.history) side).opening e
is_allowed p (Send side bytes) e = short_yet (length (at (pasts p.history) side).written + length bytes) e
is_allowed p (Recv side count) e = tt
is_allowed p (Close side) e = tt
is_allowed p (Abort side) e = tt
is_allowed p (TcpSetting side setting) e = tt
is_allowed p (Clock side instant) e = tt
is_allowed p (Offer side instant sent) e = tt
is_allowed p (Deliver from k) e = tt

-- EITHER SIDE

-- two sides with what was seen of them
abbrev AreKept : Both PairSide → Both Past → Side → Type 0
AreKept sides ps side =
    Keeps (at sides side).socket (with_segments (at ps side) (at sides side).sent) (at sides (other side)).socket
    (with_segments (at ps (other side)) (at sides (other side)).sent)

seen_from : (side : Side) (sides : Both PairSide) (ps : Both Past) → AreKept sides ps A → AreKept sides ps side
seen_from A sides ps k = k
seen_from B sides ps k = keeps_turned sides.a.socket sides.b.socket (with_segments ps.a sides.a.sent) (with_segments ps.b sides.b.sent) k

put_kept :
    (side : Side) (sides : Both PairSide) (ps : Both Past) (x : PairSide) (p : Past)
    → Keeps x.socket (with_segments p x.sent) (at sides (other side)).socket (with_segments (at ps (other side)) (at sides (other side)).sent)
    → AreKept (put sides side x) (put ps side p) A
put_kept A sides ps x p k = k
put_kept B sides ps x p k = keeps_turned x.socket sides.a.socket (with_segments p x.sent) (with_segments ps.a sides.a.sent) k

-- the end of a stream, at either side
complete_by : (answer : PairAnswer) (side : Side) (count : ℕ) (before : Both Past) → Ends answer (EndIsComplete before side) →
    WasComplete (Recv side count) answer before
complete_by Done side count before e = tt
complete_by (Count n) side count before e = tt
complete_by (Bytes bytes) side count before e = tt
complete_by (Error Fault.InvalidState) side count before e = tt
complete_by (Error Fault.Unaddressable) side count before e = tt
complete_by (Error Fault.Finished) side count before e = e

-- A STEP

module _ (p : PairValue) (k : IsKept p) where
  abbrev own : Side → PairSide
  own side = at p.sides side

  abbrev past : Side → Past
  past side = at (pasts p.history) side

  kept_from : (side : Side) → AreKept p.sides (pasts p.history) side
  kept_from side = seen_from side p.sides (pasts p.history) k.sockets

  was_complete : (event : PairEvent) → WasComplete event (acting p event).answer (pasts p.history)
  was_complete (Recv side count) =
      complete_by (acting p (Recv side count)).answer side count (pasts p.history)
      (led_end (own side) (own (other side)).socket (past side) (past (other side)) (own (other side)).sent (kept_from side) count)
  was_complete (Listen side endpoint) = tt
  was_complete (Connect side remote local) = tt
  was_complete (Send side bytes) = tt
  was_complete (Close side) = tt
  was_complete (Abort side) = tt
  was_complete (TcpSetting side setting) = tt
  was_complete (Clock side instant) = tt
  was_complete (Offer side instant sent) = tt
  was_complete (Deliver from n) = tt

  pub after_event : (event : PairEvent) → refusal p event ≡ None → IsKept (happens p event).pair
  after_event event allowed = record {
    sockets =
        put_kept (side_of event) p.sides (pasts p.history) (acting p event).side
        (adds event (acting p event).answer (own (side_of event)).socket.tcb.state (past (side_of event)))
        (led (own (side_of event)) (own (other (side_of event))).socket (past (side_of event)) (past (other (side_of event))) (own (other (side_of event))).sent
        (kept_from (side_of event)) event (is_allowed p event allowed));
    ends = (was_complete event, k.ends);
  }

pub kept_after : (p : PairValue) (event : PairEvent) → IsKept p → refusal p event ≡ None → IsKept (happens p event).pair
kept_after p event k allowed = after_event p k event allowed

-- WHAT IS PROMISED

pub kept_is_safe : (p : PairValue) → IsKept p → IsSafe p
kept_is_safe p k =
    let a = safe_sockets p.sides.a.socket p.sides.b.socket (past_at p A) (past_at p B) k.sockets in
    let b =
    safe_sockets p.sides.b.socket p.sides.a.socket (past_at p B) (past_at p A)
    (keeps_turned p.sides.a.socket p.sides.b.socket (past_at p A) (past_at p B) k.sockets) in
    record {
      from_a = record { prefix = a.prefix; freed = a.freed };
      from_b = record { prefix = b.prefix; freed = b.freed };
      ends = k.ends;
    }

kept_steps : (p : PairValue) (events : List PairEvent) (new : PairValue) → IsKept p → Steps p events new → IsKept new
kept_steps p [] new k steps = subst (λ (p : PairValue). IsKept p) (sym steps) k
kept_steps p (event ∷ events) new k steps = kept_steps (happens p event).pair events new (kept_after p event k steps.0) steps.1

pub steps_are_safe :
    (host peer_side : HostContext) (m n : ℕ) (a b : TcpValue) (events : List PairEvent) (p : PairValue) → IsInitial a → IsInitial b
    → Steps (beginning (new_side host m a) (new_side peer_side n b)) events p → IsSafe p
steps_are_safe host peer_side m n a b events p f g steps =
    kept_is_safe p (kept_steps (beginning (new_side host m a) (new_side peer_side n b)) events p (new_is_kept host peer_side m n a b f g) steps)
