-- What a segment leaves as it is that tells of no loss.
use Rattle.std.proofs.Common.{◌≡◌, ℕ, ℤ, ◌+◌, ◌-◌, ◌==◌, ◌&&◌, ◌||◌, not, nat_lt, min, max, Bool, true, false, if◌then◌else◌, List, [], ◌∷◌, Option}
use Rattle.std.proofs.Common.{Some, None, is_some, refl, sym, ap, subst, ◌≤◌, ◌^◌, length, ◌∙◌, arith}
use Rattle.std.specs.Prelude.{IfSome, is_none}
use Rattle.std.proofs.lemmas.Bool.{and_parts, and_right, cond-false, eqb-true, le-ltb}
use Rattle.ip_wire.specs.TcpHeader.{TcpHeader}
use Rattle.net_base.specs.Ring.{Ring}
use Rattle.tcp_block.specs.Acknowledged.{counted, ended_if, in_state, state_after_ack, tcb_acknowledged, una_moved, is_lost_since, is_missed, begins_recovery, is_third, may_be_missed}
use Rattle.tcp_block.specs.Acknowledged.{highest_end, ranges_taken, reno_counted, reorder_until, window_set}
use Rattle.tcp_block.specs.Arrival.{told}
use Rattle.tcp_block.specs.LossRecovery.{all_noted, heard_more, is_first_lost, is_lost_again, is_lost_at, is_passed, may_be_late, threshold, with_board}
use Rattle.tcp_block.specs.OpenOffer.{OpenOffer}
use Rattle.tcp_block.specs.Scoreboard.{held, is_empty}
use Rattle.tcp_block.specs.Settled.{nxt_past_held}
use Rattle.tcp_block.specs.State.{State}
use Rattle.tcp_block.specs.State.TheVariants as In
use Rattle.tcp_block.specs.States.{after_ack, after_ack_of_fin, is_closed, is_time_wait, owes_fin}
use Rattle.tcp_block.specs.TcbRules.{one_if, past_snd_max, unacked}
use Rattle.tcp_block.specs.Timeout.{timeout_restarted, waits_for_remote, with_timeout_since}
use Rattle.tcp_block.specs.Undo.{undo_begun}
use Rattle.tcp_block.specs.Value.{TcpValue, Received}
use Rattle.tcp_block.specs.declared.tcb.Loss.{Loss}
use Rattle.tcp_block.specs.declared.tcb.Tcb.{Tcb}
use Rattle.tcp_block.proofs.Holes.{first_of_none, none_lost}
use Rattle.tcp_socket.proofs.Steps.{value_of}
use Rattle.tcp_socket.specs.FastPath.{IsStoredAs, is_calm, names_no_range, window_taken}

isnt : (t : Bool) → not t ≡ true → t ≡ false
isnt true is = absurd (cc)
isnt false is = refl

either_way : {A : Type 0} (t : Bool) (a : A) → (if t then a else a) ≡ a
either_way true a = refl
either_way false a = refl

or_none : (t : Bool) → (t || false) ≡ t
or_none true = refl
or_none false = refl

and_all : (t : Bool) → (t && true) ≡ t
and_all true = refl
and_all false = refl

-- NO LOSS

no_ranges : (ranges : List (Option (ℕ × ℕ))) → names_no_range ranges ≡ true → ranges ≡ None ∷ None ∷ None ∷ []
no_ranges (None ∷ None ∷ None ∷ []) is = refl
no_ranges other is = absurd (cc)

no_more : (n : ℕ) → nat_lt n n ≡ false
no_more n = le-ltb n n (omega arith)

max_none : (n : ℕ) → max n 0 ≡ n
max_none n = omega arith

abbrev taken_with : Tcb → ℤ → List (Option (ℕ × ℕ)) → Tcb
taken_with b now ranges = record b {
  sender = record b.sender { sacked = max b.sender.sacked (if b.peer.sack then highest_end b.sender.una ranges else 0) };
  loss = if b.peer.sack then heard_more b (all_noted b b.loss.board.runs ranges) now else b.loss;
}

no_more_heard : (b : Tcb) (now : ℤ) → heard_more b b.loss.board.runs now ≡ b.loss
no_more_heard b now = cond-false (nat_lt (held b.loss.board.runs) (held b.loss.board.runs)) _ (with_board b.loss b.loss.board.runs) (no_more (held b.loss.board.runs))

none_taken : (b : Tcb) (header : TcpHeader) (now : ℤ) → names_no_range header.options.sack_ranges ≡ true → ranges_taken b header now ≡ b
none_taken b header now is =
    ap (taken_with b now) (no_ranges header.options.sack_ranges is)
    ∙ ap (λ (n : ℕ). record b {
      sender = record b.sender { sacked = n };
      loss = if b.peer.sack then heard_more b b.loss.board.runs now else b.loss;
    }) (ap (max b.sender.sacked) (either_way b.peer.sack 0) ∙ max_none b.sender.sacked)
    ∙ ap (λ (l : Loss). record b { loss = l })
    (ap (λ (l : Loss). if b.peer.sack then l else b.loss) (no_more_heard b now) ∙ either_way b.peer.sack b.loss)

-- a count of no duplicates, where recovery begins, what was retransmitted is lost, or a loss is waited for until then
abbrev counted_by : Tcb → (begins again : Bool) → Option ℤ → Tcb
counted_by b begins again until = record b {
  sender = record b.sender {
    duplicates = 0;
    resend = b.sender.resend || (is_third b 0 || begins);
    recover = if begins then past_snd_max b else b.sender.recover;
    partial = b.sender.partial && not begins;
  };
  loss = record b.loss {
    resent = if begins || again then 0 else b.loss.resent;
    rescue_rxt = if begins then 0 else b.loss.rescue_rxt;
    reorder_until = until;
    undo = if begins then undo_begun b else b.loss.undo;
  };
  reno = reno_counted b.reno b.peer.sack 0 b.sender.flight_size begins again;
}

abbrev uncounted : Tcb → Tcb
uncounted b = record b { sender = record b.sender { duplicates = 0 } }

sender_kept : (b : Tcb) → counted_by b false false b.loss.reorder_until ≡ uncounted b
sender_kept b =
    ap (λ (t : Bool). record b { sender = record b.sender { duplicates = 0; resend = t; partial = b.sender.partial && true } }) (or_none b.sender.resend)
    ∙ ap (λ (t : Bool). record b { sender = record b.sender { duplicates = 0; partial = t } }) (and_all b.sender.partial)

first_kept : (b : Tcb) → is_empty b.loss.board.runs ≡ true → is_first_lost b ≡ false
first_kept b is =
    and_right b.peer.sack (is_lost_at b 0)
    (sym (none_lost b.loss.board.runs (threshold b) b.reno.mss 0 is) ∙ some_runs b.loss.dupthresh_one) where
      some_runs : (t : Bool) → ((if t then 1 else 3) == 0) ≡ false
      some_runs true = refl
      some_runs false = refl

none_counted : (b : Tcb) (now : ℤ) → is_empty b.loss.board.runs ≡ true → (b.sender.recover == 0) ≡ true → b.reno.recovers ≡ false
    → counted b 0 now ≡ uncounted b
none_counted b now none recover recovers =
    let missed : is_missed b 0 ≡ false = and_right (may_be_missed b) _ (first_kept b none) in
    let since : is_lost_since b ≡ false = ap (λ (t : Bool). not t && (b.peer.sack && (not b.reno.recovers && is_passed b b.sender.recover))) recover in
    let begins : begins_recovery b 0 ≡ false = ap (λ (t : Bool). (t && not (may_be_late b)) || is_lost_since b) missed ∙ since in
    let again : is_lost_again b ≡ false =
    and_right b.peer.sack _ (ap (λ (t : Bool). t && (not (b.loss.resent == 0) && is_passed b b.loss.mark)) recovers) in
    let until : reorder_until b 0 now ≡ b.loss.reorder_until =
    cond-false (is_none b.loss.reorder_until && (is_missed b 0 && may_be_late b)) _ b.loss.reorder_until
    (and_right (is_none b.loss.reorder_until) _ (ap (λ (t : Bool). t && may_be_late b) missed)) in
    ap (λ (t : Bool). counted_by b t (is_lost_again b) (reorder_until b 0 now)) begins
    ∙ ap (λ (t : Bool). counted_by b false t (reorder_until b 0 now)) again
    ∙ ap (counted_by b false false) until
    ∙ sender_kept b

no_less : (f x : ℕ) → max f (min f x) ≡ f
no_less f x = omega arith

or_zero : (f : ℕ) → (if f == 0 then 0 else f) ≡ f
or_zero f = by (f == 0) refl where
  by : (t : Bool) → (f == 0) ≡ t → (if t then 0 else f) ≡ f
  by true is = sym (eqb-true f 0 is)
  by false is = refl

nxt_kept : (b : Tcb) (queued : ℕ) → is_empty b.loss.board.runs ≡ true → nxt_past_held b queued ≡ b
nxt_kept b queued none =
    let f = b.sender.flight_size in
    ap (λ (n : ℕ). record b { sender = record b.sender { flight_size = n } })
    (ap (λ (n : ℕ). if f == 0 then 0 else max f (min n (min b.sender.snd_max (one_if b.sender.syn_unacked + queued)))) (sym (first_of_none b.loss.board.runs f none))
    ∙ ap (λ (n : ℕ). if f == 0 then 0 else n) (no_less f (min b.sender.snd_max (one_if b.sender.syn_unacked + queued)))
    ∙ or_zero f)

none_set : {A : Type 0} (o : Option A) → is_none o ≡ true → is_some o ≡ false
none_set None is = refl
none_set (Some x) is = absurd (cc)

no_timeout : (b : Tcb) (now : ℤ) (queued : ℕ) → is_none b.settings.timeout ≡ true → timeout_restarted b now queued ≡ with_timeout_since b None
no_timeout b now queued none =
    ap (λ (t : Bool). with_timeout_since b (if t then Some now else None))
    (ap (λ (t : Bool). t && (not (is_closed b.state || is_time_wait b.state) && waits_for_remote b queued)) (none_set b.settings.timeout none))

-- after its window was taken
calm_told : (b : Tcb) (header : TcpHeader) (now : ℤ) (queued : ℕ) → is_calm b header ≡ true
    → timeout_restarted (nxt_past_held (counted (ranges_taken b header now) 0 now) queued) now queued ≡ with_timeout_since (uncounted b) None
calm_told b header now queued is =
    let one = and_parts (names_no_range header.options.sack_ranges) _ is in
    let two = and_parts (b.sender.recover == 0) _ one.1 in
    let three = and_parts (not b.reno.recovers) _ two.1 in
    let four = and_parts (is_none b.settings.timeout) _ three.1 in
    ap (λ (x : Tcb). timeout_restarted (nxt_past_held (counted x 0 now) queued) now queued) (none_taken b header now one.0)
    ∙ ap (λ (x : Tcb). timeout_restarted (nxt_past_held x queued) now queued)
    (none_counted b now four.1 two.0 (isnt b.reno.recovers three.0))
    ∙ ap (λ (x : Tcb). timeout_restarted x now queued) (nxt_kept (uncounted b) queued four.1)
    ∙ no_timeout (uncounted b) now queued four.0

pub calm_window : (b after : Tcb) (header : TcpHeader) (duplicates queued : ℕ) (now : ℤ) → after ≡ window_set b header now → is_calm after header ≡ true
    → duplicates ≡ 0 → with_timeout_since (uncounted after) None ≡ window_taken b header duplicates queued now
calm_window b after header duplicates queued now after_is calm none =
    sym (calm_told after header now queued calm)
    ∙ ap (λ (x : Tcb). timeout_restarted (nxt_past_held (counted (ranges_taken x header now) 0 now) queued) now queued) after_is
    ∙ ap (λ (n : ℕ). window_taken b header n queued now) (sym none)

-- as its call says it
pub told_leads : (b after : Tcb) (r : Received) (q : Ring ℕ) (o : Option OpenOffer) (v : TcpValue) (header : TcpHeader) (duplicates n : ℕ) (now : ℤ)
    → value_of b r q o ≡ v → n ≡ length q.queue → after ≡ window_taken b header duplicates n now → value_of after r q o ≡ told v header duplicates now
told_leads b after r q o v header duplicates n now is n_is after_is =
    ap (λ (x : Tcb). value_of x r q o) after_is
    ∙ ap (λ (k : ℕ). value_of (window_taken b header duplicates k now) r q o) n_is
    ∙ ap (λ (w : TcpValue). told w header duplicates now) is

-- THE STATE STAYS of an open connection

open_after : (b : Tcb) (by queued : ℕ) → b.state ≡ In.Established → state_after_ack b by queued ≡ In.Established
open_after b by queued is =
    subst (λ (s : State). (if owes_fin s && (by == unacked b queued) then after_ack_of_fin s else after_ack s) ≡ In.Established) (sym is) refl

stays : (s : State) (b : Tcb) (now : ℤ) → s ≡ In.Established → ended_if (is_closed s) (in_state b s now) ≡ record b { state = In.Established }
stays s b now is =
    subst (λ (x : State). ended_if (is_closed x) (in_state b x now) ≡ record b { state = In.Established }) (sym is) refl

pub open_moved : (b : Tcb) (by queued : ℕ) (now : ℤ) → b.state ≡ In.Established → una_moved b by queued now ≡ tcb_acknowledged b by queued now
open_moved b by queued now is =
    let moved = una_moved b by queued now in
    ap (λ (s : State). record moved { state = s }) is ∙ sym (stays (state_after_ack b by queued) moved now (open_after b by queued is))

-- STORED OR NOT

pub small_stored : (s : Option ℕ) (old new : Received) (bytes : List ℕ) → IsStoredAs s old bytes new → IfSome s (λ n. n ≤ 2 ^ 30)
small_stored None old new bytes is = tt
small_stored (Some n) old new bytes is = is.2
