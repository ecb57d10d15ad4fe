-- What a segment that comes leaves of what was sent: as much as it was.
use Rattle.std.proofs.Common.{◌≡◌, ℕ, ◌+◌, ◌-◌, ◌%◌, ◌^◌, ◌<◌, ◌≤◌, ◌==◌, ◌&&◌, nat_le, nat_lt, not, min, Bool, true, false, if◌then◌else◌}
use Rattle.std.proofs.Common.{List, [], length, drop, Option, Some, None, refl, sym, ap, ◌∙◌, subst, arith, length-drop}
use Rattle.std.proofs.lemmas.Bool.{and_parts, cond_both, eqb-true, eq-eqb, ltb-true, ltb-false}
use Rattle.ip_wire.specs.IpRepr.{IpRepr}
use Rattle.ip_wire.specs.Seq.{distance_of}
use Rattle.ip_wire.specs.SeqNumber.{SeqNumber}
use Rattle.ip_wire.specs.TcpHeader.{TcpHeader}
use Rattle.tcp_refinement.specs.Context.{ContextValue}
use Rattle.tcp_refinement.specs.Tie.{segment_of}
use Rattle.tcp_refinement.proofs.CallLaws.{closed_state}
use Rattle.tcp_invariants.specs.Events.{is_past}
use Rattle.tcp_invariants.specs.Offsets.{distance_after, distance_before}
use Rattle.tcp_invariants.specs.Reply.{Reply}
use Rattle.tcp_invariants.specs.State.{State}
use Rattle.tcp_invariants.specs.State.TheVariants as In
use Rattle.tcp_invariants.specs.States.{is_closed, is_answering, accepts_data, owes_fin, after_ack, after_ack_of_fin, after_fin}
use Rattle.tcp_invariants.proofs.ArrivalCases.{timed, by_arrival, Received, Opening, Content, Drawing, acked_open, heeded}
use Rattle.tcp_invariants.proofs.OrderSteps.{clash, passes_news}
use Rattle.tcp_block.specs.Acknowledged.{acks_fin, state_after_ack, freed_by, windowed}
use Rattle.tcp_block.specs.Arrival.{arrives, arrives_in, is_void_syn, waiting_anew}
use Rattle.tcp_block.specs.declared.tcb.Tcb.{Tcb}
use Rattle.tcp_block.specs.TcbRules.{one_if, unacked}
use Rattle.tcp_block.specs.Checks.{acknowledgement_check, opening_check, synchronized_check}
use Rattle.tcp_block.specs.Checks.Check.{Passes, Old, Drops, Draws}
use Rattle.tcp_block.specs.Retries.{heard}
use Rattle.tcp_block.specs.Timestamps.{tsval_taken}
use Rattle.tcp_block.specs.Value.{TcpValue, Arrived, with_tcb, dropped, unoffered, queued_in}
use Rattle.tcp_liveness.specs.Arrivals.{is_synchronized}
use Rattle.tcp_liveness.specs.Sent.{unsent_in, end_in, is_early, IsBare}
use Rattle.tcp_liveness.proofs.Acked.{not_answering}

-- STATES

pub early_answering : (state : State) → is_answering state ≡ true → is_early state ≡ true
early_answering In.SynReceived e = refl
early_answering other e = clash (sym e)

takes_on : (state : State) → accepts_data state ≡ true → is_synchronized state ≡ true
takes_on In.Established e = refl
takes_on In.FinWait1 e = refl
takes_on In.FinWait2 e = refl
takes_on other e = clash (sym e)

late_fin : {A : Type 0} → (state : State) → accepts_data state ≡ true → is_early (after_fin state) ≡ true → A
late_fin In.Established e f = clash (sym f)
late_fin In.FinWait1 e f = clash (sym f)
late_fin In.FinWait2 e f = clash (sym f)
late_fin other e f = clash (sym e)

owes_after_fin : (state : State) → accepts_data state ≡ true → owes_fin (after_fin state) ≡ owes_fin state
owes_after_fin In.Established e = refl
owes_after_fin In.FinWait1 e = refl
owes_after_fin In.FinWait2 e = refl
owes_after_fin other e = clash (sym e)

early_before : (state : State) → is_early (after_ack state) ≡ true → is_early state ≡ true
early_before In.SynReceived e = refl
early_before other e = e

early_before_fin : (state : State) → is_early (after_ack_of_fin state) ≡ true → is_early state ≡ true
early_before_fin In.FinWait1 e = clash (sym e)
early_before_fin In.Closing e = clash (sym e)
early_before_fin In.LastAck e = clash (sym e)
early_before_fin other e = e

-- an acknowledgement takes no connection back
early_acked : (b : Tcb) (by queued : ℕ) → is_early (state_after_ack b by queued) ≡ true → is_early b.state ≡ true
early_acked b by queued =
    cond_both (acks_fin b by queued) (after_ack_of_fin b.state) (after_ack b.state) (λ (state : State). is_early state ≡ true → is_early b.state ≡ true)
    (λ _. early_before_fin b.state) (λ _. early_before b.state)

owes_still : (state : State) → owes_fin (after_ack state) ≡ owes_fin state
owes_still In.SynReceived = refl
owes_still other = refl

owes_none : (state : State) → owes_fin (after_ack_of_fin state) ≡ false
owes_none In.FinWait1 = refl
owes_none In.FinWait2 = refl
owes_none In.Closing = refl
owes_none In.LastAck = refl
owes_none In.Closed = refl
owes_none In.Listen = refl
owes_none In.SynSent = refl
owes_none In.SynReceived = refl
owes_none In.Established = refl
owes_none In.CloseWait = refl
owes_none In.TimeWait = refl

-- WHAT IS ACKNOWLEDGED

one_passed : (past by : ℕ) → Passes past ≡ Passes by → past ≡ by
one_passed past by e = cc

passes_by : (b : Tcb) (past before by : ℕ) → synchronized_check b past before ≡ Passes by → by ≤ b.sender.snd_max
passes_by b past before by =
    at (nat_lt b.sender.snd_max past) refl ((past == 0) && nat_le b.sender.past_iss before) (before == 0) (nat_lt b.peer.largest_window before)
  where
    at :
        (more : Bool) → nat_lt b.sender.snd_max past ≡ more → (none first far : Bool)
        → (if more then Draws else if none then Drops else if first then Passes past else if far then Draws else Old) ≡ Passes by → by ≤ b.sender.snd_max
    at true is none first far e = absurd (cc)
    at false is true first far e = absurd (cc)
    at false is false true far e = subst (λ (n : ℕ). n ≤ b.sender.snd_max) (one_passed past by e) (ltb-false b.sender.snd_max past is)
    at false is false false true e = absurd (cc)
    at false is false false false e = absurd (cc)

-- past SYN-RECEIVED no more is acknowledged than was sent
passes_sent : (b : Tcb) (ack : Option SeqNumber) (by : ℕ) → is_answering b.state ≡ false → acknowledgement_check b ack ≡ Passes by → by ≤ b.sender.snd_max
passes_sent b None by past e = absurd (cc)
passes_sent b (Some n) by past e =
    passes_by b (distance_after b.sender.una n) (distance_before b.sender.una n) by (sym (not_first (is_answering b.state) past) ∙ e) where
      not_first : (first : Bool) → first ≡ false → acknowledgement_check b (Some n) ≡ synchronized_check b (distance_after b.sender.una n) (distance_before b.sender.una n)
      not_first first f =
          ap (λ (t : Bool). if t then opening_check (distance_of b.sender.una n)
          else synchronized_check b (distance_after b.sender.una n) (distance_before b.sender.una n)) past

-- and with a SYN that isn't acknowledged at least that
least_passed : (syn : Bool) (by : ℕ) → (syn ≡ true → by ≡ 0 → ⊥) → one_if syn ≤ by
least_passed true by some = at (by == 0) refl where
  not_none : (n : ℕ) → (n ≡ 0 → ⊥) → 1 ≤ n
  not_none n e = omega (arith, e)

  at : (none : Bool) → (by == 0) ≡ none → 1 ≤ by
  at true is = absurd (some refl (eqb-true by 0 is))
  at false is = some_of by is where
    some_of : (n : ℕ) → (n == 0) ≡ false → 1 ≤ n
    some_of n e = by_size n (nat_lt 0 n) refl e where
      by_size : (n : ℕ) (more : Bool) → nat_lt 0 n ≡ more → (n == 0) ≡ false → 1 ≤ n
      by_size n true is e = one (ltb-true 0 n is) where
        one : 0 < n → 1 ≤ n
        one f = omega arith
      by_size n false is e = clash (sym (eq-eqb n 0 (zero_of n (ltb-false 0 n is))) ∙ e) where
        zero_of : (n : ℕ) → n ≤ 0 → n ≡ 0
        zero_of n f = omega arith
least_passed false by some = omega arith

syn_acked : (syn : Bool) (by : ℕ) → one_if syn ≤ by → (syn && (by == 0)) ≡ false
syn_acked false by e = refl
syn_acked true by e = at (by == 0) refl where
  at : (none : Bool) → (by == 0) ≡ none → none ≡ false
  at true is = absurd (none_left by (eqb-true by 0 is) e) where
    none_left : (n : ℕ) → n ≡ 0 → 1 ≤ n → ⊥
    none_left n e f = absurd (omega arith)
  at false is = refl

all_gone :
    (syn queue after owed by : ℕ) → syn ≤ by → owed ≡ 0 → by ≡ syn + queue + 1 → after ≡ queue - min (by - syn) queue → after + owed + by ≡ syn + queue + 1
all_gone syn queue after owed by a b c d = omega arith

some_gone :
    (syn queue after owed fin by : ℕ) → syn ≤ by → owed ≡ fin → by ≤ syn + queue → after ≡ queue - min (by - syn) queue → after + owed + by ≡ syn + queue + fin
some_gone syn queue after owed fin by a b c d = omega arith

less_than_all : (syn queue fin by : ℕ) → by ≤ syn + queue + fin → fin ≤ 1 → (by ≡ syn + queue + fin → ⊥) → by ≤ syn + queue
less_than_all syn queue fin by a b c = at (nat_lt (syn + queue) by) refl where
  whole : (syn queue fin by : ℕ) → by ≤ syn + queue + fin → fin ≤ 1 → syn + queue < by → by ≡ syn + queue + fin
  whole syn queue fin by a b more = omega arith

  at : (more : Bool) → nat_lt (syn + queue) by ≡ more → by ≤ syn + queue
  at true is = absurd (c (whole syn queue fin by a b (ltb-true (syn + queue) by is)))
  at false is = ltb-false (syn + queue) by is

-- what is left falls by what is acknowledged
fell_by :
    (b : Tcb) (queue after by : ℕ) → one_if b.sender.syn_unacked ≤ by → by ≤ unacked b queue → after ≡ queue - min (by - one_if b.sender.syn_unacked) queue
    → after + one_if (owes_fin (state_after_ack b by queue)) + by ≡ unacked b queue
fell_by b queue after by least within freed = at (owes_fin b.state) (by == unacked b queue) refl refl where
  owed : (owes : Bool) → acks_fin b by queue ≡ false → owes_fin (state_after_ack b by queue) ≡ owes_fin b.state
  owed owes fin = ap (λ (t : Bool). owes_fin (if t then after_ack_of_fin b.state else after_ack b.state)) fin ∙ owes_still b.state

  at_most_one : (t : Bool) → one_if t ≤ 1
  at_most_one true = omega arith
  at_most_one false = omega arith

  at : (owes whole : Bool) → owes_fin b.state ≡ owes → (by == unacked b queue) ≡ whole →
      after + one_if (owes_fin (state_after_ack b by queue)) + by ≡ unacked b queue
  at true true e f =
      let fin : acks_fin b by queue ≡ true = ap (λ (t : Bool). t && (by == unacked b queue)) e ∙ f in
      let none : owes_fin (state_after_ack b by queue) ≡ false =
      ap (λ (t : Bool). owes_fin (if t then after_ack_of_fin b.state else after_ack b.state)) fin ∙ owes_none b.state in
      let one : one_if (owes_fin b.state) ≡ 1 = ap one_if e in
      all_gone (one_if b.sender.syn_unacked) queue after (one_if (owes_fin (state_after_ack b by queue))) by least (ap one_if none)
      (eqb-true by (unacked b queue) f ∙ ap (λ (n : ℕ). one_if b.sender.syn_unacked + queue + n) one) freed
      ∙ ap (λ (n : ℕ). one_if b.sender.syn_unacked + queue + n) (sym one)
  at true false e f =
      some_gone (one_if b.sender.syn_unacked) queue after (one_if (owes_fin (state_after_ack b by queue))) (one_if (owes_fin b.state)) by least
      (ap one_if (owed true (ap (λ (t : Bool). t && (by == unacked b queue)) e ∙ f)))
      (less_than_all (one_if b.sender.syn_unacked) queue (one_if (owes_fin b.state)) by within (at_most_one (owes_fin b.state)) (λ is.
      clash (sym (eq-eqb by (unacked b queue) is) ∙ f)))
      freed
  at false whole e f =
      some_gone (one_if b.sender.syn_unacked) queue after (one_if (owes_fin (state_after_ack b by queue))) (one_if (owes_fin b.state)) by least
      (ap one_if (owed false (ap (λ (t : Bool). t && (by == unacked b queue)) e))) (no_fin (one_if b.sender.syn_unacked) queue (one_if (owes_fin b.state)) by
      (ap one_if e) within)
      freed
    where
      no_fin : (syn queue fin by : ℕ) → fin ≡ 0 → by ≤ syn + queue + fin → by ≤ syn + queue
      no_fin syn queue fin by a b = omega arith

-- THE ARRIVAL

-- as much was sent, up to the same number
abbrev pub Counted : TcpValue → TcpValue → Type 0
Counted v x = (unsent_in x ≡ unsent_in v) × (end_in x ≡ end_in v)

abbrev pub IsBareReply : Option Reply → Type 0
IsBareReply None = Unit {0}
IsBareReply (Some reply) = IsBare (segment_of reply.segment [])

-- what may be counted: no more was sent than may be acknowledged, and before the SYN is acknowledged nothing is
pub record Counts (v : TcpValue) : Type 0 where
  pub snd_max : v.tcb.sender.snd_max ≤ unacked v.tcb (queued_in v)
  pub opening : v.tcb.sender.syn_unacked ≡ true → v.tcb.sender.past_iss ≡ 0

same_unsent : (all left owed snd_max by : ℕ) → left + owed + by ≡ all → by ≤ snd_max → snd_max ≤ all → 0 + left + owed - (snd_max - by) ≡ all - snd_max
same_unsent all left owed snd_max by a b c = omega arith

same_end : (una snd_max by : ℕ) → by ≤ snd_max → ((una + by) % 2 ^ 32 + (snd_max - by)) % 2 ^ 32 ≡ (una + snd_max) % 2 ^ 32
same_end una snd_max by a = omega arith

upto : (a b c : ℕ) → a ≤ b → b ≤ c → a ≤ c
upto a b c e f = omega arith

module _ (cx : ContextValue) (ip : IpRepr) (header : TcpHeader) (bytes : List ℕ) (v : TcpValue) (fits : is_synchronized v.tcb.state ≡ true → Counts v) where
  abbrev EarlyBy : TcpValue → Type 0
  EarlyBy x = is_early x.tcb.state ≡ true → is_early v.tcb.state ≡ true

  abbrev CountedBy : TcpValue → Type 0
  CountedBy x = is_synchronized v.tcb.state ≡ true → is_synchronized x.tcb.state ≡ true → Counted v x

  abbrev After : Arrived → Type 0
  After a = EarlyBy a.socket × IsBareReply a.answer × CountedBy a.socket

  drawing : (x : TcpValue) → EarlyBy x → CountedBy x → Drawing cx ip header bytes After x
  drawing x early counts = record { answers = λ _. (early, refl, counts); at_once = (early, refl, counts); pauses = (early, tt, counts) }

  fin_counts : (x : TcpValue) → CountedBy x → accepts_data x.tcb.state ≡ true → is_synchronized v.tcb.state ≡ true →
      (one_if x.tcb.sender.syn_unacked + queued_in x + one_if (owes_fin (after_fin x.tcb.state)) - x.tcb.sender.snd_max ≡ unsent_in v) × (end_in x ≡ end_in v)
  fin_counts x counts takes mine =
      let it = counts mine (takes_on x.tcb.state takes) in (
        ap (λ (t : Bool). one_if x.tcb.sender.syn_unacked + queued_in x + one_if t - x.tcb.sender.snd_max) (owes_after_fin x.tcb.state takes) ∙ it.0,
        it.1,
      )

  content : (x : TcpValue) → EarlyBy x → CountedBy x → Content cx ip header bytes After x
  content x early counts = record {
    plain = (λ _. (early, tt, counts), (early, refl, counts));
    fin = λ _ takes. (
      λ _. (λ e. late_fin x.tcb.state takes e, tt, λ mine _. fin_counts x counts takes mine),
      (λ e. late_fin x.tcb.state takes e, refl, λ mine _. fin_counts x counts takes mine),
    );
    ordered = λ map _ _ _. (λ _. (early, tt, counts), (early, refl, counts));
    ordered_fin = λ map _ _ takes. (
      λ _. (λ e. late_fin x.tcb.state takes e, tt, λ mine _. fin_counts x counts takes mine),
      (λ e. late_fin x.tcb.state takes e, refl, λ mine _. fin_counts x counts takes mine),
    );
    early = λ map offset _ _. (early, refl, counts);
  }

  -- an acknowledgement
  acked_counts :
      (by : ℕ) → acknowledgement_check v.tcb header.ack_number ≡ Passes by → is_synchronized v.tcb.state ≡ true
      → Counted v (acked_open (timed cx.instant header (unoffered v) by) by cx.instant)
  acked_counts by passes mine = (
    ap (λ (t : Bool). one_if t + left + one_if (owes_fin (state_after_ack v.tcb by (queued_in v))) - (v.tcb.sender.snd_max - by))
        (syn_acked v.tcb.sender.syn_unacked by least)
        ∙ same_unsent (unacked v.tcb (queued_in v)) left (one_if (owes_fin (state_after_ack v.tcb by (queued_in v)))) v.tcb.sender.snd_max by
        (fell_by v.tcb (queued_in v) left by least (upto by v.tcb.sender.snd_max (unacked v.tcb (queued_in v)) sent (fits mine).snd_max)
        (length-drop (freed_by v.tcb by (queued_in v)) v.queued.queue))
        sent (fits mine).snd_max,
    same_end v.tcb.sender.una.0 v.tcb.sender.snd_max by sent,
  )
    where
      left : ℕ
      left = length (drop (freed_by v.tcb by (queued_in v)) v.queued.queue)

      sent : by ≤ v.tcb.sender.snd_max
      sent = passes_sent v.tcb header.ack_number by (not_answering v.tcb.state mine) passes

      least : one_if v.tcb.sender.syn_unacked ≤ by
      least =
          least_passed v.tcb.sender.syn_unacked by (λ unacked none. passes_news v.tcb header.ack_number by passes ((fits mine).opening unacked) none)

  passed : is_past v.tcb.state ≡ true → Received cx ip header bytes After (unoffered v)
  passed past = record {
    stays = (λ e. e, tt, λ _ _. (refl, refl));
    refuses = (λ e. e, refl, λ _ _. (refl, refl));
    draws = drawing (unoffered v) (λ e. e) (λ _ _. (refl, refl));
    falls = λ _ _ falls. (
      λ _. early_answering v.tcb.state (and_parts (is_answering v.tcb.state) (not (v.tcb.names.listen.port == 0)) falls).0,
      tt,
      λ _ now. clash (sym now),
    );
    ends = λ _ _ _. (λ e. clash (sym e), tt, λ _ now. clash (sym now));
    closes = λ by _ _. (λ e. clash (sym e), tt, λ _ now. clash (sym now));
    taken = λ by passes _.
        content (heeded cx.instant header (length bytes) (unoffered v) by (acked_open (timed cx.instant header (unoffered v) by) by cx.instant).tcb)
        (early_acked v.tcb by (queued_in v)) (λ mine _. acked_counts by passes mine);
    taken_window = λ by passes _.
        content (heeded cx.instant header (length bytes) (unoffered v) by
        (windowed (acked_open (timed cx.instant header (unoffered v) by) by cx.instant).tcb header))
        (early_acked v.tcb by (queued_in v)) (λ mine _. acked_counts by passes mine);
    news = λ by passes _.
        drawing (waiting_anew (acked_open (timed cx.instant header (unoffered v) by) by cx.instant) header cx.instant) (early_acked v.tcb by (queued_in v))
        (λ mine _. acked_counts by passes mine);
    outside = drawing (waiting_anew (unoffered v) header cx.instant) (λ e. e) (λ _ _. (refl, refl));
    old = λ _. content (with_tcb (unoffered v) (tsval_taken (heard v.tcb) header cx.instant)) (λ e. e) (λ _ _. (refl, refl));
  }

  opened : Opening cx ip header bytes After (unoffered v)
  opened = record {
    opens = λ at _. (λ _. ap is_early at, tt, λ mine _. clash (sym mine ∙ ap is_synchronized at));
    refuses = (λ e. e, refl, λ _ _. (refl, refl));
    ends = λ _. (λ e. clash (sym e), tt, λ _ now. clash (sym now));
    connects = λ at _. (λ e. clash (sym e), tt, λ mine _. clash (sym mine ∙ ap is_synchronized at));
    crosses = λ at _. (λ _. ap is_early at, tt, λ mine _. clash (sym mine ∙ ap is_synchronized at));
  }

  pub comes : After (arrives cx v ip header bytes)
  comes = by_arrival cx ip header bytes After v (λ e. e, tt, λ _ _. (refl, refl)) (λ _. opened) passed

-- a socket that is CLOSED takes nothing
pub closed_stays : (cx : ContextValue) (v : TcpValue) (ip : IpRepr) (header : TcpHeader) (bytes : List ℕ) → is_closed v.tcb.state ≡ true →
    is_closed (arrives cx v ip header bytes).socket.tcb.state ≡ true
closed_stays cx v ip header bytes closed =
    cond_both (is_void_syn header) (dropped (unoffered v)) (arrives_in v.tcb.state cx (unoffered v) ip header bytes)
    (λ (a : Arrived). is_closed a.socket.tcb.state ≡ true)
    (λ _. closed)
    (λ _.
    subst (λ (state : State). is_closed (arrives_in state cx (unoffered v) ip header bytes).socket.tcb.state ≡ true)
    (sym (closed_state v.tcb.state closed)) closed)
