-- Bytes that a program writes where they are queued.
use Rattle.std.proofs.Common.{◌≡◌, ℕ, ◌+◌, ◌≤◌, ◌⊎◌, Bool, true, false, List, [], ◌∷◌, inl, inr, refl, sym, ap, ◌∙◌, arith}
use Rattle.std.proofs.lemmas.List.{append-nil, length-append, take-append-drop, take_all}
use Rattle.std.proofs.Math.Dec.{eqb-suc-zero}
use Rattle.std.proofs.Math.Nat.{min-eq_left}
use Rattle.std.proofs.Math.Seq.{take-append_seam, drop-append_seam}
use Rattle.std.specs.Prelude.{◌++◌, ◌-◌, ◌&&◌, nat_le, min, length, take, drop, if◌then◌else◌}
use Rattle.net_base.specs.Ring.{Ring, anchored, capacity, cleared, extended, enqueued, overwritten, ring}
use Rattle.sockets.specs.TcpCalls.{send_after, sent_more}
use Rattle.sockets.specs.TcpStates.{takes_writes}
use Rattle.sockets.specs.TcpValue.{TcpValue, unoffered}
use Rattle.c_calls.specs.Lending.{commit_after, reserve_after, room_of}

-- what stands there already changes no ring
same_by : (q f w rest : List ℕ) (s : ℕ) → f ≡ w ++ rest → overwritten (ring q f s) 0 w ≡ ring q f s
same_by q f w rest s is =
    let z : 0 + length w ≡ length w = omega arith in
    rw (is, z, drop-append_seam w rest) refl

pub same_room : (r : Ring ℕ) (k : ℕ) → overwritten r 0 (take k r.free) ≡ r
same_room r k = same_by r.queue r.free (take k r.free) (drop k r.free) r.start (sym (take-append-drop k r.free))

pub none_more : (r : Ring ℕ) → extended r 0 ≡ r
none_more r = rw (append-nil r.queue) refl

-- an empty ring begins anew, and another stays as it is
anchored_by : (q f : List ℕ) (s : ℕ) → ((q ≡ []) × (anchored (ring q f s) ≡ cleared (ring q f s))) ⊎ (anchored (ring q f s) ≡ ring q f s)
anchored_by [] f s = inl (refl, refl)
anchored_by (x ∷ xs) f s = inr (rw (eqb-suc-zero (length xs)) refl)

anchored_cases : (r : Ring ℕ) → ((r.queue ≡ []) × (anchored r ≡ cleared r)) ⊎ (anchored r ≡ r)
anchored_cases r = anchored_by r.queue r.free r.start

anchored_queue : (r : Ring ℕ) → (anchored r).queue ≡ r.queue
anchored_queue r = elim (anchored_cases r) [
  | inl none ↦ ap (λ s. s.queue) none.1 ∙ sym none.0
  | inr same ↦ ap (λ s. s.queue) same
]

-- WHAT IS LENT isn't queued
pub kept_queue : (b : Bool) (v : TcpValue) → (if b then sent_more v (anchored v.queued) else unoffered v).queued.queue ≡ v.queued.queue
kept_queue true v = anchored_queue v.queued
kept_queue false v = refl

-- WHAT IS COMMITTED
is_below : (a b : ℕ) → a ≤ b → nat_le a b ≡ true
is_below a b fits = grind (arith, fits)

rotated_len : (k : ℕ) (xs : List ℕ) → length (drop k xs ++ take k xs) ≡ length xs
rotated_len k xs =
    length-append (drop k xs) (take k xs) ∙ omega (arith, length-append (take k xs) (drop k xs), ap length (take-append-drop k xs))

-- an empty ring has as much room wherever it begins
anchored_len : (r : Ring ℕ) → length (anchored r).free ≡ length r.free
anchored_len r = elim (anchored_cases r) [
  | inl none ↦ ap (λ s. length s.free) none.1 ∙ rotated_len (capacity r - r.start) (r.queue ++ r.free) ∙ ap (λ q. length (q ++ r.free)) none.0
  | inr same ↦ ap (λ s. length s.free) same
]

pub committed : (v : TcpValue) (bytes rest : List ℕ) → takes_writes v.tcb.state ≡ true → (anchored v.queued).free ≡ bytes ++ rest
    → length bytes ≤ room_of v → commit_after (length bytes) v ≡ send_after v bytes
committed v bytes rest takes is fits =
    let r = anchored v.queued in let n = length bytes in
    let below : nat_le n (room_of v) ≡ true = is_below n (room_of v) fits in
    let room : n ≤ length v.queued.free = omega (arith, ap length is, length-append bytes rest, anchored_len v.queued) in
    let all : take (min n (length v.queued.free)) bytes ≡ bytes = ap (λ k. take k bytes) (min-eq_left room) ∙ take_all n bytes (omega arith) in
    let same : extended r n ≡ enqueued r bytes =
    ap (λ ws. ring (r.queue ++ ws) (drop n r.free) r.start) (ap (take n) is ∙ take-append_seam bytes rest) in
    ap (λ b. if b && nat_le n (room_of v) then sent_more v (extended r n) else reserve_after v) takes
    ∙ ap (λ b. if b then sent_more v (extended r n) else reserve_after v) below
    ∙ ap (sent_more v) same
    ∙ sym (ap (λ ws. sent_more v (enqueued r ws)) all)
    ∙ sym (ap (λ b. if b then sent_more v (enqueued r (take (min n (length v.queued.free)) bytes)) else unoffered v) takes)
