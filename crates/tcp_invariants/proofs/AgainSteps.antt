-- What is retransmitted goes once for each loss.
use Rattle.std.proofs.Common.{◌≡◌, ◌⊎◌, inl, inr, ⊎_elim, ℕ, ◌+◌, ◌-◌, ◌^◌, ◌<◌, ◌≤◌, ◌==◌, nat_le, nat_lt, not, ◌&&◌, ◌||◌, min, max, ℤ, Bool, true, false}
use Rattle.std.proofs.Common.{if◌then◌else◌, List, Option, Some, None, refl, sym, ◌∙◌, subst, arith}
use Rattle.std.proofs.lemmas.Bool.{cond_both, eqb-true}
use Rattle.ip_wire.specs.Seq.{distance_of}
use Rattle.ip_wire.specs.SeqNumber.{SeqNumber}
use Rattle.ip_wire.specs.TcpHeader.{TcpHeader}
use Rattle.tcp_state.specs.Offsets.{distance_after, distance_before}
use Rattle.tcp_state.specs.Reno as reno
use Rattle.tcp_state.specs.Reno.{RenoValue}
use Rattle.tcp_state.specs.Scoreboard.{held}
use Rattle.tcp_state.specs.States.{is_answering}
use Rattle.tcp_state.specs.declared.scoreboard.Run.{Run}
use Rattle.tcp_block.specs.Acknowledged.{acks_local_syn, acks_in_recovery, recovery_after, freed_by, srtt_after, reno_after, is_partial, una_risen, una_moved}
use Rattle.tcp_block.specs.Acknowledged.{begins_recovery, is_third, reno_counted, counted}
use Rattle.tcp_block.specs.TcbRules.{one_if}
use Rattle.tcp_block.specs.Checks.{Check, acknowledgement_check, opening_check, synchronized_check}
use Rattle.tcp_block.specs.Checks.Check.{Passes, Old, Drops, Draws, Resets}
use Rattle.tcp_block.specs.LossRecovery.{with_board, probe_from, probes_losses, probe_armed, all_noted, heard_more, ranges_noted, is_lost_again}
use Rattle.tcp_block.specs.LossRecovery.{loss_lowered}
use Rattle.tcp_block.specs.Settled.{resent}
use Rattle.tcp_block.specs.Undone.{undone}
use Rattle.tcp_block.specs.Validation.{grown_if_used, is_used}
use Rattle.tcp_block.specs.Value.{TcpValue}
use Rattle.tcp_block.specs.declared.tcb.Tcb.{Tcb}
use Rattle.tcp_block.specs.declared.tcb.Loss.{Loss}
use Rattle.tcp_block.proofs.Undone.{undone_cases}
use Rattle.tcp_invariants.specs.Retransmission.{Marks, no_marks, tells_loss}
use Rattle.tcp_invariants.specs.Ends.{is_over}
use Rattle.tcp_invariants.proofs.OrderSteps.{clash}

-- WHAT GOES AGAIN, AND WHERE

-- what of a block says where something is retransmitted
pub record Resending : Type 0 where
  pub resend : Bool
  pub recovers : Bool
  pub resent : ℕ
  pub flight_size : ℕ

abbrev pub resending_of : Tcb → Resending
resending_of b = record { resend = b.sender.resend; recovers = b.reno.recovers; resent = b.loss.resent; flight_size = b.sender.flight_size }

pub record Fits (m : Marks) (r : Resending) : Type 0 where
  pub flag : r.resend ≡ true → m.again ≡ 0
  pub high : r.recovers ≡ true → m.again ≤ r.resent
  pub payload : m.payload ≤ r.flight_size

pub none_of : (n : ℕ) → n ≤ 0 → n ≡ 0
none_of n e = omega arith

pub through : (a b c : ℕ) → a ≤ b → b ≤ c → a ≤ c
through a b c e f = omega arith

pub least : (n : ℕ) → 0 ≤ n
least n = omega arith

pub less_fits : (m n : Marks) (r : Resending) → n.again ≤ m.again → n.payload ≤ m.payload → Fits m r → Fits n r
less_fits m n r again payload f = record {
  flag = λ e. none_of n.again (subst (λ (k : ℕ). n.again ≤ k) (f.flag e) again);
  high = λ e. through n.again m.again r.resent again (f.high e);
  payload = through n.payload m.payload r.flight_size payload f.payload;
}

pub none_fits : (r : Resending) → Fits no_marks r
none_fits r = record { flag = λ _. refl; high = λ _. least r.resent; payload = least r.flight_size }

-- nothing is marked where there is no connection
pub record Marked (v : TcpValue) (m : Marks) : Type 0 where
  pub fits : Fits m (resending_of v.tcb)
  pub over : is_over v.tcb.state ≡ true → (m.again ≡ 0) × (m.payload ≡ 0)

pub marked_by : (v : TcpValue) (m : Marks) → (is_over v.tcb.state ≡ true) ⊎ Fits m (resending_of v.tcb)
    → Marked v (if is_over v.tcb.state then no_marks else m)
marked_by v m which = record {
  fits =
      cond_both (is_over v.tcb.state) no_marks m (λ (n : Marks). Fits n (resending_of v.tcb)) (λ _. none_fits (resending_of v.tcb))
      (λ on. ⊎_elim (λ over. clash (sym over ∙ on)) (λ f. f) which);
  over = λ e. cond_both (is_over v.tcb.state) no_marks m (λ (n : Marks). (n.again ≡ 0) × (n.payload ≡ 0)) (λ _. (refl, refl)) (λ on. clash (sym e ∙ on));
}

pub left_true : (a b : Bool) → (a && b) ≡ true → a ≡ true
left_true true b e = refl
left_true false b e = clash (sym e)

pub right_true : (a b : Bool) → (a && b) ≡ true → b ≡ true
right_true true b e = e
right_true false b e = clash (sym e)

pub either : (a b : Bool) → (a || b) ≡ true → (a ≡ true) ⊎ (b ≡ true)
either true b e = inl refl
either false b e = inr e

-- AN ACKNOWLEDGEMENT

abbrev pub count_of : Check → ℕ
count_of (Passes by) = by
count_of other = 0

pub passes_small : (b : Tcb) (ack : Option SeqNumber) (by : ℕ) → acknowledgement_check b ack ≡ Passes by → by < 2 ^ 32
passes_small b ack by e = subst (λ (c : Check). count_of c < 2 ^ 32) e (all ack) where
  none : 0 < 2 ^ 32
  none = omega arith

  one : 1 < 2 ^ 32
  one = omega arith

  near : (reference number : SeqNumber) → distance_after reference number < 2 ^ 32
  near reference number = at (nat_lt (distance_of reference number) (2 ^ 31)) where
    within : (a b : SeqNumber) → distance_of a b < 2 ^ 32
    within a b = omega arith

    at : (t : Bool) → (if t then distance_of reference number else 0) < 2 ^ 32
    at true = within reference number
    at false = none

  all : (ack : Option SeqNumber) → count_of (acknowledgement_check b ack) < 2 ^ 32
  all None = none
  all (Some n) =
      let past = distance_after b.sender.una n in
      let back = distance_before b.sender.una n in
      cond_both (is_answering b.state) (opening_check (distance_of b.sender.una n)) (synchronized_check b past back) (λ (c : Check). count_of c < 2 ^ 32)
      (λ _. cond_both (distance_of b.sender.una n == 1) (Passes 1) Resets (λ (c : Check). count_of c < 2 ^ 32) (λ _. one) (λ _. none))
      (λ _.
      cond_both (nat_lt b.sender.snd_max past) Draws
      (if (past == 0) && nat_le b.sender.past_iss back then Drops
      else if back == 0 then Passes past else if nat_lt b.peer.largest_window back then Draws else Old)
      (λ (c : Check). count_of c < 2 ^ 32) (λ _. none)
      (λ _.
      cond_both ((past == 0) && nat_le b.sender.past_iss back) Drops
      (if back == 0 then Passes past else if nat_lt b.peer.largest_window back then Draws else Old) (λ (c : Check). count_of c < 2 ^ 32) (λ _. none)
      (λ _.
      cond_both (back == 0) (Passes past) (if nat_lt b.peer.largest_window back then Draws else Old) (λ (c : Check). count_of c < 2 ^ 32)
      (λ _. near b.sender.una n)
      (λ _. cond_both (nat_lt b.peer.largest_window back) Draws Old (λ (c : Check). count_of c < 2 ^ 32) (λ _. none) (λ _. none)))))

-- no acknowledgement begins a recovery
pub recovers_before : (b : Tcb) (by queued : ℕ) (now : ℤ) → (reno_after b by queued now).recovers ≡ true → b.reno.recovers ≡ true
recovers_before b by queued now =
    let grown = grown_if_used b (freed_by b by queued) now (srtt_after b by now) in
    cond_both (acks_local_syn b by) (reno.started b.reno b.sender.syn_lost)
    (if acks_in_recovery b by then recovery_after b by queued else grown) Before
    (λ _ e. clash (sym e))
    (λ _.
    cond_both (acks_in_recovery b by) (recovery_after b by queued) grown Before (λ inside _. left_true b.reno.recovers (not (by == 0)) inside)
    (λ _.
    cond_both (is_used b) (reno.acknowledged b.reno (freed_by b by queued) now (srtt_after b by now)) (reno.preserved b.reno (freed_by b by queued)) Before
    (λ _.
    cond_both (freed_by b by queued == 0) b.reno
    (record b.reno {
      cwnd = reno.widened b.reno (freed_by b by queued) now (srtt_after b by now);
      timed_out = false;
      cubic = reno.counted b.reno (freed_by b by queued) now;
    })
    Before (λ _ e. e) (λ _ e. e))
    (λ _.
    cond_both (freed_by b by queued == 0) b.reno (record b.reno { timed_out = false; cubic = reno.stopped b.reno.cubic }) Before (λ _ e. e) (λ _ e. e))))
  where
    Before : RenoValue → Type 0
    Before r = r.recovers ≡ true → b.reno.recovers ≡ true

pub armed_resent : (b : Tcb) (l : Loss) (now : ℤ) → (probe_armed b l now).resent ≡ l.resent
armed_resent b l now =
    cond_both (probes_losses b && not l.probed) (record l { probe_at = probe_from b now }) l (λ (x : Loss). x.resent ≡ l.resent) (λ _. refl) (λ _. refl)

pub ranges_resent : (b : Tcb) (header : TcpHeader) (now : ℤ) → (ranges_noted b header now).resent ≡ b.loss.resent
ranges_resent b header now =
    cond_both b.peer.sack (heard_more b runs now) b.loss (λ (l : Loss). l.resent ≡ b.loss.resent)
    (λ _.
    cond_both (nat_lt (held b.loss.board.runs) (held runs))
    (probe_armed b (record b.loss { board = record { runs = runs }; probes = false; probed = false }) now)
    (with_board b.loss runs) (λ (l : Loss). l.resent ≡ b.loss.resent)
    (λ _. armed_resent b (record b.loss { board = record { runs = runs }; probes = false; probed = false }) now) (λ _. refl))
    (λ _. refl)
  where
    runs : List Run
    runs = all_noted b b.loss.board.runs header.options.sack_ranges

abbrev pub nearer : Marks → ℕ → Marks
nearer m by = record { again = m.again - by; payload = m.payload - by }

pub acked_fits : (b : Tcb) (by queued : ℕ) (now : ℤ) (m : Marks) → Fits m (resending_of b) → Fits (nearer m by) (resending_of (una_moved b by queued now))
acked_fits b by queued now m f = record {
  flag = λ e.
      ⊎_elim (λ old. still m.again by (f.flag (left_true b.sender.resend (by == 0) old)))
      (λ new.
      let partial = left_true (is_partial b by) (b.loss.resent - by == 0) new in
      let inside = left_true (acks_in_recovery b by) (nat_lt (by + 1) b.sender.recover) partial in
      all m.again b.loss.resent by (f.high (left_true b.reno.recovers (not (by == 0)) inside))
      (eqb-true (b.loss.resent - by) 0 (right_true (is_partial b by) (b.loss.resent - by == 0) new)))
      (either (b.sender.resend && (by == 0)) (is_partial b by && (b.loss.resent - by == 0)) e);
  high = λ e.
      let high = f.high (recovers_before b by queued now e) in
      cond_both (by == 0) b.loss (probe_armed (una_risen b by queued now) (loss_lowered b.loss by (is_partial b by)) now)
      (λ (l : Loss). m.again - by ≤ l.resent)
      (λ _. minus m.again by b.loss.resent high)
      (λ _.
      subst (λ (n : ℕ). m.again - by ≤ n) (sym (armed_resent (una_risen b by queued now) (loss_lowered b.loss by (is_partial b by)) now))
      (both m.again b.loss.resent by high));
  payload = both m.payload b.sender.flight_size by f.payload;
}
  where
    still : (n by : ℕ) → n ≡ 0 → n - by ≡ 0
    still n by e = omega arith

    all : (n resent by : ℕ) → n ≤ resent → resent - by ≡ 0 → n - by ≡ 0
    all n resent by e f = omega arith

    minus : (n by k : ℕ) → n ≤ k → n - by ≤ k
    minus n by k e = omega arith

    both : (n k by : ℕ) → n ≤ k → n - by ≤ k - by
    both n k by e = omega arith

pub undone_fits : (b : Tcb) (header : TcpHeader) (by queued : ℕ) (m : Marks) → Fits m (resending_of b)
    → Fits m (resending_of (undone b header by queued))
undone_fits b header by queued m f =
    undone_cases b header by queued (λ (c : Tcb). Fits m (resending_of c)) f
    (λ _ _ _. record {
      flag = λ e. clash (sym e);
      high = λ e. clash (sym e);
      payload = further m.payload b.sender.flight_size (min b.sender.snd_max (one_if b.sender.syn_unacked + queued)) f.payload;
    })
  where
    further : (n flight all : ℕ) → n ≤ flight → n ≤ max flight all
    further n flight all e = omega arith

-- DUPLICATES

-- where a loss is told nothing was retransmitted yet
abbrev pub unless_told : Bool → Marks → Marks
unless_told told m = record { again = if told then 0 else m.again; payload = m.payload }

pub counted_fits : (b : Tcb) (count : ℕ) (now : ℤ) (m : Marks) → Fits m (resending_of b)
    → Fits (unless_told (tells_loss b count) m) (resending_of (counted b count now))
counted_fits b count now m f = at (begins_recovery b count) (is_lost_again b) (is_third b count) where
  So : Bool → Bool → Bool → Type 0
  So begins again third =
      Fits (unless_told ((begins || again) || third) m)
      (record {
        resend = b.sender.resend || (third || begins);
        recovers = (reno_counted b.reno b.peer.sack count b.sender.flight_size begins again).recovers;
        resent = if begins || again then 0 else b.loss.resent;
        flight_size = b.sender.flight_size;
      })

  only : (a : Bool) → (a || false) ≡ true → a ≡ true
  only true e = refl
  only false e = clash (sym e)

  Before : RenoValue → Type 0
  Before r = r.recovers ≡ true → b.reno.recovers ≡ true

  inflates : (reno_counted b.reno b.peer.sack count b.sender.flight_size false false).recovers ≡ true → b.reno.recovers ≡ true
  inflates =
      cond_both (not (count == 0) && not b.peer.sack) (reno.inflated b.reno) b.reno Before
      (λ _. cond_both b.reno.recovers (record b.reno { cwnd = min reno.most (b.reno.cwnd + b.reno.mss) }) b.reno Before (λ is _. is) (λ _ e. e))
      (λ _ e. e)

  at : (begins again third : Bool) → So begins again third
  at true again third = record { flag = λ _. refl; high = λ _. least _; payload = f.payload }
  at false true third = record { flag = λ _. refl; high = λ _. least _; payload = f.payload }
  at false false true = record { flag = λ _. refl; high = λ _. least _; payload = f.payload }
  at false false false = record { flag = λ e. f.flag (only b.sender.resend e); high = λ e. f.high (inflates e); payload = f.payload }

-- SND.NXT moves after what is held there
pub skipped_fits : (m : Marks) (r : Resending) (further : ℕ) → Fits m r
    → Fits m (record r { flight_size = if r.flight_size == 0 then 0 else max r.flight_size further })
skipped_fits m r further f = record {
  flag = f.flag;
  high = f.high;
  payload =
      cond_both (r.flight_size == 0) 0 (max r.flight_size further) (λ (n : ℕ). m.payload ≤ n)
      (λ none. subst (λ (n : ℕ). m.payload ≤ n) (eqb-true r.flight_size 0 none) f.payload) (λ _. more m.payload r.flight_size further f.payload);
}
  where
    more : (n flight further : ℕ) → n ≤ flight → n ≤ max flight further
    more n flight further e = omega arith
