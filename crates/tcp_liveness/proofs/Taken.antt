-- Payload and a FIN that come at RCV.NXT, or begin before it, raise it; what was taken already is answered.
use Rattle.std.proofs.Common.{◌≡◌, ◌⊎◌, inl, inr, ℕ, ◌+◌, ◌-◌, ◌%◌, ◌^◌, ◌<◌, ◌≤◌, ◌==◌, ◌&&◌, ◌||◌, nat_le, nat_lt, not, min, ℤ, ◌≤ℤ◌, int_lt, pos, ◌+ℤ◌, Bool}
use Rattle.std.proofs.Common.{true, false, if◌then◌else◌, List, [], ◌∷◌, ◌++◌, length, drop, Option, Some, None, refl, sym, ap, ◌∙◌, subst, arith, length-drop}
use Rattle.std.proofs.lemmas.Bool.{cond_both, le-ltb, lt-ltb, lt-leb, eq-eqb, ne_eqb, le-leb, ltb-true, ltb-false}
use Rattle.std.proofs.lemmas.Int.{ints}
use Rattle.ip_wire.specs.Control.{control_len}
use Rattle.ip_wire.specs.IpRepr.{IpRepr}
use Rattle.ip_wire.specs.Seq.{distance_of}
use Rattle.ip_wire.specs.SeqNumber.{SeqNumber}
use Rattle.ip_wire.specs.TcpControl.{TcpControl}
use Rattle.ip_wire.specs.TcpControl.TheVariants as Control
use Rattle.ip_wire.specs.TcpHeader.{TcpHeader}
use Rattle.net_base.specs.Time.{last_instant}
use Rattle.tcp_refinement.specs.Context.{ContextValue}
use Rattle.tcp_invariants.specs.Controls.{is_syn, is_fin}
use Rattle.tcp_invariants.specs.Offsets.{distance_after, distance_before, advanced_by, overlaps_window}
use Rattle.tcp_invariants.specs.States.{is_closed, accepts_data, after_ack, after_ack_of_fin, after_fin}
use Rattle.tcp_invariants.specs.State.{State}
use Rattle.tcp_invariants.specs.State.TheVariants as In
use Rattle.tcp_theory.specs.ReceiveMap.{store, front}
use Rattle.tcp_block.specs.Acknowledged.{acknowledged, acks_fin, state_after_ack, names_window, windowed, duplicates_after}
use Rattle.tcp_block.specs.Answers.{ack_due, answers_at_once, drawn, may_challenge, with_draw, acked, answer_for, delayed, sooner, ack_instant_after}
use Rattle.tcp_block.specs.Arrival.{arrives, checked, inside, taken, continued, told, with_content, finished, passed_outside}
use Rattle.tcp_block.specs.Arrival.{outside, is_before_window, waiting_anew}
use Rattle.tcp_block.specs.Checks.{is_in_window, lies_before}
use Rattle.tcp_block.specs.Checks.Check.{Passes}
use Rattle.tcp_block.specs.Probing.{probe_kept}
use Rattle.tcp_block.specs.Segments.{no_ranges, segment_len, reply_to, sack_segment, hop_limit_of, has_length}
use Rattle.tcp_invariants.specs.Endpoints.{pair_in}
use Rattle.tcp_block.specs.Payload.{DataStored, data_stored, with_payload, with_payload_at, with_bytes_at, taken_in_order, has_out_of_order}
use Rattle.tcp_block.specs.Payload.{laid, has_new_payload, takes_fin, fin_taken}
use Rattle.tcp_block.specs.Value.{TcpValue, Received, Arrived, with_tcb, dropped, unoffered, queued_in, free_in, room_of, window_of}
use Rattle.tcp_block.specs.declared.tcb.Tcb.{Tcb}
use Rattle.tcp_block.specs.declared.tcb.Receiver.{Receiver}
use Rattle.tcp_refinement.proofs.Tied.{if_so, if_not}
use Rattle.tcp_invariants.proofs.ArrivalCases.{acked_cases, acked_open, heeded}
use Rattle.tcp_invariants.proofs.OrderSteps.{clash}
use Rattle.tcp_invariants.specs.Acks.{IsDueWithin}
use Rattle.tcp_liveness.specs.Arrivals.{is_synchronized, Counts, IsNew, Rises, IsAgain, IsAnswered, IsShutOut, EndsLastAck}
use Rattle.tcp_liveness.proofs.Acked.{comes_to, not_answering}
use Rattle.tcp_invariants.proofs.AckRules.{at_once_acknowledged}
use Rattle.tcp_invariants.proofs.ArrivalCases.{timed}

-- WHERE IT BEGINS

both_small : (m n : ℕ) → m < 2 ^ 32 → n < 2 ^ 32 → (n + (2 ^ 32 - m)) % 2 ^ 32 < 2 ^ 31 → (m + (2 ^ 32 - n)) % 2 ^ 32 < 2 ^ 31
    → ((m + (2 ^ 32 - n)) % 2 ^ 32 ≡ 0) × (0 ≡ (n + (2 ^ 32 - m)) % 2 ^ 32)
both_small m n a b c d = (omega arith, omega arith)

turned : (m n : ℕ) → m < 2 ^ 32 → n < 2 ^ 32 → (n + (2 ^ 32 - m)) % 2 ^ 32 < 2 ^ 31 → 2 ^ 31 ≤ (m + (2 ^ 32 - n)) % 2 ^ 32
    → 2 ^ 32 - (m + (2 ^ 32 - n)) % 2 ^ 32 ≡ (n + (2 ^ 32 - m)) % 2 ^ 32
turned m n a b c d = omega arith

below : (a b : ℕ) → nat_lt a b ≡ true → a < b
below a b e = ltb-true a b e

not_below : (a b : ℕ) → nat_lt a b ≡ false → b ≤ a
not_below a b e = ltb-false a b e

-- the segment begins so far before RCV.NXT
pub record Begins (next seq : SeqNumber) : Type 0 where
  pub past : distance_after next seq ≡ 0
  pub before : distance_before next seq ≡ distance_of seq next

pub begins : (next seq : SeqNumber) → seq.0 < 2 ^ 32 → next.0 < 2 ^ 32 → distance_of seq next < 2 ^ 31 → Begins next seq
begins next seq a b near = at (nat_lt (distance_of next seq) (2 ^ 31)) refl where
  at : (t : Bool) → nat_lt (distance_of next seq) (2 ^ 31) ≡ t → Begins next seq
  at true e =
      let it = both_small seq.0 next.0 a b near (below (distance_of next seq) (2 ^ 31) e) in
      record {
        past = ap (λ (t : Bool). if t then distance_of next seq else 0) e ∙ it.0;
        before = ap (λ (t : Bool). if t then 0 else 2 ^ 32 - distance_of next seq) e ∙ it.1;
      }
  at false e = record {
    past = ap (λ (t : Bool). if t then distance_of next seq else 0) e;
    before = ap (λ (t : Bool). if t then 0 else 2 ^ 32 - distance_of next seq) e ∙ turned seq.0 next.0 a b near (not_below (distance_of next seq) (2 ^ 31) e);
  }

-- THE WINDOW

some_of : (d size : ℕ) → d < size → size ≡ 0 → ⊥
some_of d size e f = absurd (omega arith)

meets : (d size space : ℕ) → 1 ≤ space → d < size → overlaps_window d 0 size space ≡ true
meets d size space room e =
    if_not (size == 0) ((d == 0) && true) (nat_lt 0 space && nat_lt d size) (ne_eqb size 0 (some_of d size e))
    ∙ (ap (λ (t : Bool). t && nat_lt d size) (lt-ltb 0 space room) ∙ lt-ltb d size e)

pub new_is_inside : (v : TcpValue) (header : TcpHeader) (size : ℕ) → IsNew v header size → is_in_window v.tcb (free_in v) header size ≡ true
new_is_inside v header size n =
    let it = begins v.tcb.receiver.next header.seq_number n.seq_small n.next_small n.begins in
    ap (λ (d : ℕ). overlaps_window d (distance_after v.tcb.receiver.next header.seq_number) (segment_len header size) (free_in v)) it.before
    ∙ (ap (λ (p : ℕ). overlaps_window (distance_of header.seq_number v.tcb.receiver.next) p (segment_len header size) (free_in v)) it.past
    ∙ meets (distance_of header.seq_number v.tcb.receiver.next) (segment_len header size) (free_in v) n.room n.ends)

meets_not : (d size space : ℕ) → 1 ≤ size → size ≤ d → overlaps_window d 0 size space ≡ false
meets_not d size space some e =
    if_not (size == 0) ((d == 0) && true) (nat_lt 0 space && nat_lt d size) (ne_eqb size 0 (none size some)) ∙
    second (nat_lt 0 space) (nat_lt d size) (le-ltb d size e)
  where
    none : (n : ℕ) → 1 ≤ n → n ≡ 0 → ⊥
    none n e f = absurd (omega arith)

    second : (x y : Bool) → y ≡ false → (x && y) ≡ false
    second true y e = e
    second false y e = refl

again_is_outside : (v : TcpValue) (header : TcpHeader) (size : ℕ) → IsAgain v header size → is_in_window v.tcb (free_in v) header size ≡ false
again_is_outside v header size n =
    let it = begins v.tcb.receiver.next header.seq_number n.seq_small n.next_small n.begins in
    ap (λ (d : ℕ). overlaps_window d (distance_after v.tcb.receiver.next header.seq_number) (segment_len header size) (free_in v)) it.before
    ∙ (ap (λ (p : ℕ). overlaps_window (distance_of header.seq_number v.tcb.receiver.next) p (segment_len header size) (free_in v)) it.past
    ∙ meets_not (distance_of header.seq_number v.tcb.receiver.next) (segment_len header size) (free_in v) n.some n.ends)

before_so : (d size far : ℕ) → 1 ≤ size → size ≤ d → d ≤ far → (not (d == 0) && (nat_le size d && nat_le d far)) ≡ true
before_so d size far some e f =
    ap (λ (t : Bool). not t && (nat_le size d && nat_le d far)) (ne_eqb d 0 (none d size some e))
    ∙ (ap (λ (t : Bool). t && nat_le d far) (le-leb size d e) ∙ le-leb d far f)
  where
    none : (d size : ℕ) → 1 ≤ size → size ≤ d → d ≡ 0 → ⊥
    none d size some e f = absurd (omega arith)

pub again_lies_before : (v : TcpValue) (header : TcpHeader) (size : ℕ) → IsAgain v header size → lies_before v.tcb (room_of v.received) header size ≡ true
again_lies_before v header size n =
    let it = begins v.tcb.receiver.next header.seq_number n.seq_small n.next_small n.begins in
    ap (λ (d : ℕ). not (d == 0) && (nat_le (segment_len header size) d && nat_le d (room_of v.received + 2))) it.before
    ∙ before_so (distance_of header.seq_number v.tcb.receiver.next) (segment_len header size) (room_of v.received + 2) n.some n.ends n.near

-- WHAT IS DUE

now_or_later : (now : ℤ) (n : ℕ) → now ≤ℤ (now +ℤ pos n)
now_or_later now n = first_of (omega (arith, ints), grind (arith, ints))

after_delay : (now : ℤ) (delay : Option ℕ) → now ≤ℤ delayed now delay
after_delay now None = same where
  same : now ≤ℤ now
  same = grind arith
after_delay now (Some delay) = now_or_later now (min delay last_instant)

sooner_within : (at : Option ℤ) (limit : ℤ) → sooner at limit ≤ℤ limit
sooner_within None limit = same where
  same : limit ≤ℤ limit
  same = grind arith
sooner_within (Some other) limit = cond_both (int_lt limit other) limit other (λ (m : ℤ). m ≤ℤ limit) (λ _. same) (λ e. not_less e) where
  same : limit ≤ℤ limit
  same = grind arith

  not_less : int_lt limit other ≡ false → other ≤ℤ limit
  not_less e = grind arith

module _ (b : Tcb) (header : TcpHeader) (size : ℕ) (fills : Bool) (now : ℤ) where
  abbrev Within : Option ℤ → Type 0
  Within at = IsDueWithin at (delayed now b.settings.ack_delay)

  at_once : Within (Some now)
  at_once = record { instant = now; due = refl; soon = after_delay now b.settings.ack_delay }

  -- with payload or a FIN
  within : (is_fin header.control ≡ true) ⊎ ((size == 0) ≡ false) → Within (ack_instant_after b header size fills now)
  within (inl fin) =
      subst (λ (f : Bool). Within (if f || fills then Some now
      else if size == 0 then b.timers.ack_at else if b.timers.data_unacked then Some now else Some (sooner b.timers.ack_at (delayed now b.settings.ack_delay))))
      (sym fin) at_once
  within (inr some) =
      cond_both (is_fin header.control || fills) (Some now)
      (if size == 0 then b.timers.ack_at else if b.timers.data_unacked then Some now else Some
      (sooner b.timers.ack_at (delayed now b.settings.ack_delay))) Within
      (λ _. at_once)
      (λ _.
      cond_both (size == 0) b.timers.ack_at
      (if b.timers.data_unacked then Some now else Some (sooner b.timers.ack_at (delayed now b.settings.ack_delay))) Within
      (λ none. clash (sym none ∙ some))
      (λ _.
      cond_both b.timers.data_unacked (Some now) (Some (sooner b.timers.ack_at (delayed now b.settings.ack_delay))) Within
      (λ _. at_once)
      (λ _.
      record {
        instant = sooner b.timers.ack_at (delayed now b.settings.ack_delay);
        due = refl;
        soon = sooner_within b.timers.ack_at (delayed now b.settings.ack_delay);
      })))

-- WHAT IS TAKEN

-- all that the map has room for may be read
front_least : (map : List (Option ℕ)) (bytes : List ℕ) → min (length bytes) (length map) ≤ length (front (store map 0 bytes))
front_least [] bytes = omega arith
front_least (entry ∷ map) [] = omega arith
front_least (entry ∷ map) (byte ∷ bytes) = omega (arith, front_least map bytes)

-- what is put after a list is no longer than both
put_following : (xs ys : List ℕ) → length ys ≤ length (xs ++ ys)
put_following [] ys = same (length ys) where
  same : (n : ℕ) → n ≤ n
  same n = omega arith
put_following (x ∷ xs) ys = omega (arith, put_following xs ys)

-- payload is taken in these states, and with the FIN after it the connection goes on, too
on_after : (state : State) → accepts_data state ≡ true → (is_synchronized state ≡ true) × (is_synchronized (after_fin state) ≡ true)
on_after In.Established e = (refl, refl)
on_after In.FinWait1 e = (refl, refl)
on_after In.FinWait2 e = (refl, refl)
on_after other e = clash (sym e)

abbrev number : ℕ → SeqNumber
number n = record { 0 = n }

twice : (n a : ℕ) → ((n + a) % 2 ^ 32 + 1) % 2 ^ 32 ≡ (n + (a + 1)) % 2 ^ 32
twice n a = omega arith

one_more : (least a : ℕ) → least ≤ a → least ≤ a + 1
one_more least a e = omega arith

both_more : (a b : ℕ) → a ≤ b → a + 1 ≤ b + 1
both_more a b e = omega arith

some_more : (a : ℕ) → 1 ≤ a → 1 ≤ a + 1
some_more a e = omega arith

fin_only : (control : TcpControl) (d size : ℕ) → is_syn control ≡ false → size ≤ d → d < size + control_len control → (is_fin control ≡ true) × (d + 0 ≡ size)
fin_only Control.None d size no_syn e f = absurd (omega arith)
fin_only Control.Psh d size no_syn e f = absurd (omega arith)
fin_only Control.Syn d size no_syn e f = clash no_syn
fin_only Control.Fin d size no_syn e f = (refl, omega arith)
fin_only Control.Rst d size no_syn e f = absurd (omega arith)

module _ (cx : ContextValue) (ip : IpRepr) (header : TcpHeader) (bytes : List ℕ) (x : TcpValue) (n : IsNew x header (length bytes))
    (no_syn : is_syn header.control ≡ false) where
  abbrev d : ℕ
  d = distance_of header.seq_number x.tcb.receiver.next

  abbrev size : ℕ
  size = length bytes

  at_next : Begins x.tcb.receiver.next header.seq_number
  at_next = begins x.tcb.receiver.next header.seq_number n.seq_small n.next_small n.begins

  abbrev rest : List ℕ
  rest = drop d bytes

  abbrev Risen : Arrived → Type 0
  Risen a = Rises cx x header (length bytes) a

  payload : with_payload x header bytes ≡ with_payload_at x 0 rest
  payload =
      ap (λ (p : ℕ). with_payload_at x p (drop (distance_before x.tcb.receiver.next header.seq_number) bytes)) at_next.past
      ∙ ap (λ (k : ℕ). with_payload_at x 0 (drop k bytes)) at_next.before

  -- what was taken is acknowledged at once, or later
  rises_by :
      (y : TcpValue) (fills : Bool) (by : ℕ) → y.tcb.receiver.next ≡ advanced_by x.tcb.receiver.next by → 1 ≤ by → min (length bytes - d) (free_in x) ≤ by
      → by ≤ length y.received.waiting + 1 → is_synchronized y.tcb.state ≡ true
      → IsDueWithin (ack_instant_after y.tcb header (length bytes) fills cx.instant) (delayed cx.instant x.tcb.settings.ack_delay)
      → Risen (answer_for cx y ip header (length bytes) fills None)
  rises_by y fills by next one enough there on due =
      cond_both (answers_at_once cx y.tcb ip header (length bytes)) (acked cx y ip header no_ranges)
      (dropped (with_tcb y (ack_due y.tcb header (length bytes) fills cx.instant))) Risen
      (λ _.
      record {
        by = by;
        next = next;
        some = one;
        all = enough;
        waits = there;
        on = on;
        acknowledged = inl (at_once_acknowledged cx ip header y);
      })
      (λ _.
      record {
        by = by;
        next = next;
        some = one;
        all = enough;
        waits = there;
        on = on;
        acknowledged = inr (record { silent = refl; due = due });
      })

  -- some of its payload is new
  by_payload : d < size → Risen (finished cx x.tcb (with_payload_at x 0 rest) ip header (length bytes))
  by_payload more = subst (λ (t : DataStored). Risen (finished cx x.tcb t ip header (length bytes))) (sym is) taken_payload where
    long : length rest ≡ length bytes - d
    long = length-drop d bytes

    lots : (len whole : ℕ) → len ≡ whole - d → d < whole → len ≡ 0 → ⊥
    lots len whole e f g = absurd (omega arith)

    new : (accepts_data x.tcb.state && has_new_payload x 0 rest) ≡ true
    new =
        ap (λ (t : Bool). t && has_new_payload x 0 rest) n.takes
        ∙ (ap (λ (t : Bool). not t && nat_lt 0 (free_in x)) (ne_eqb (length rest) 0 (lots (length rest) (length bytes) long more)) ∙
        lt-ltb 0 (free_in x) n.room)

    map : List (Option ℕ)
    map = laid x 0 rest

    is : with_payload_at x 0 rest ≡ taken_in_order x map
    is = if_so (accepts_data x.tcb.state && has_new_payload x 0 rest) (with_bytes_at x 0 rest) (data_stored x 0 false None) new

    advance : ℕ
    advance = length (front map)

    least : min (length rest) (free_in x) ≤ advance
    least = front_least x.received.map rest

    all : min (length bytes - d) (free_in x) ≤ advance
    all = subst (λ (len : ℕ). min len (free_in x) ≤ advance) long least

    some : 1 ≤ advance
    some = at_least (length bytes) (free_in x) advance more n.room all where
      at_least : (whole room a : ℕ) → d < whole → 1 ≤ room → min (whole - d) room ≤ a → 1 ≤ a
      at_least whole room a e f g = omega arith

    not_empty : (length bytes == 0) ≡ false
    not_empty = ne_eqb (length bytes) 0 (some_of d (length bytes) more)

    waits : advance ≤ length (x.received.waiting ++ front map)
    waits = put_following x.received.waiting (front map)

    with_fin_or_not : (b : Tcb) → (by : ℕ) → b.receiver.next ≡ advanced_by x.tcb.receiver.next by → 1 ≤ by → min (length bytes - d) (free_in x) ≤ by
        → by ≤ length (x.received.waiting ++ front map) + 1 → b.settings.ack_delay ≡ x.tcb.settings.ack_delay → is_synchronized b.state ≡ true
        → Risen (answer_for cx (with_tcb (taken_in_order x map).socket (probe_kept b (queued_in x))) ip header (length bytes) (has_out_of_order x) None)
    with_fin_or_not b by next one enough there delay on =
        rises_by (with_tcb (taken_in_order x map).socket (probe_kept b (queued_in x))) (has_out_of_order x) by next one enough there on
        (subst (λ (wait : Option ℕ). IsDueWithin (ack_instant_after (probe_kept b (queued_in x)) header (length bytes) (has_out_of_order x) cx.instant)
        (delayed cx.instant wait)) delay
        (within (probe_kept b (queued_in x)) header (length bytes) (has_out_of_order x) cx.instant (inr not_empty)))

    taken_payload : Risen (finished cx x.tcb (taken_in_order x map) ip header (length bytes))
    taken_payload =
        cond_both (takes_fin x.tcb header (length bytes) advance) (fin_taken (taken_in_order x map).socket.tcb cx.instant)
        (taken_in_order x map).socket.tcb
        (λ (b : Tcb). Risen (answer_for cx (with_tcb (taken_in_order x map).socket (probe_kept b (queued_in x))) ip header (length bytes)
        (has_out_of_order x) None))
        (λ _.
        with_fin_or_not (fin_taken (taken_in_order x map).socket.tcb cx.instant) (advance + 1) (ap number (twice x.tcb.receiver.next.0 advance))
        (some_more advance some)
        (one_more (min (length bytes - d) (free_in x)) advance all) (both_more advance _ waits) refl (on_after x.tcb.state n.takes).1)
        (λ _. with_fin_or_not (taken_in_order x map).socket.tcb advance refl some all (one_more advance _ waits) refl (on_after x.tcb.state n.takes).0)

  -- its FIN alone is
  by_fin : size ≤ d → Risen (finished cx x.tcb (with_payload_at x 0 rest) ip header (length bytes))
  by_fin whole = subst (λ (t : DataStored). Risen (finished cx x.tcb t ip header (length bytes))) (sym is) taken_fin where
    fin : (is_fin header.control ≡ true) × (d + 0 ≡ length bytes)
    fin = fin_only header.control d (length bytes) no_syn whole n.ends

    nothing : (len size : ℕ) → len ≡ size - d → size ≤ d → len ≡ 0
    nothing len size e f = omega arith

    none : (length rest == 0) ≡ true
    none = eq-eqb (length rest) 0 (nothing (length rest) (length bytes) (length-drop d bytes) whole)

    second : (a c : Bool) → c ≡ false → (a && c) ≡ false
    second true c e = e
    second false c e = refl

    is : with_payload_at x 0 rest ≡ data_stored x 0 false None
    is =
        if_not (accepts_data x.tcb.state && has_new_payload x 0 rest) (with_bytes_at x 0 rest) (data_stored x 0 false None)
        (second (accepts_data x.tcb.state) (has_new_payload x 0 rest) (ap (λ (t : Bool). not t && nat_lt 0 (free_in x)) none))

    takes : takes_fin x.tcb header (length bytes) 0 ≡ true
    takes =
        ap (λ (t : Bool). t && (accepts_data x.tcb.state &&
        ((distance_after x.tcb.receiver.next header.seq_number == 0) && (distance_before x.tcb.receiver.next header.seq_number + 0 == length bytes)))) fin.0
        ∙ (ap (λ (t : Bool). t &&
        ((distance_after x.tcb.receiver.next header.seq_number == 0) && (distance_before x.tcb.receiver.next header.seq_number + 0 == length bytes))) n.takes
        ∙ (ap (λ (p : ℕ). (p == 0) && (distance_before x.tcb.receiver.next header.seq_number + 0 == length bytes)) at_next.past
        ∙ (ap (λ (k : ℕ). k + 0 == length bytes) at_next.before ∙ eq-eqb (d + 0) (length bytes) fin.1)))

    none_new : (size room : ℕ) → size ≤ d → min (size - d) room ≤ 1
    none_new size room e = omega arith

    one : 1 ≤ 1
    one = omega arith

    one_at_most : (n : ℕ) → 1 ≤ n + 1
    one_at_most n = omega arith

    taken_fin : Risen (finished cx x.tcb (data_stored x 0 false None) ip header (length bytes))
    taken_fin =
        subst (λ (b : Tcb). Risen (answer_for cx (with_tcb x (probe_kept b (queued_in x))) ip header (length bytes) false None))
        (sym (if_so (takes_fin x.tcb header (length bytes) 0) (fin_taken x.tcb cx.instant) x.tcb takes))
        (rises_by (with_tcb x (probe_kept (fin_taken x.tcb cx.instant) (queued_in x))) false 1 refl one (none_new (length bytes) (free_in x) whole)
        (one_at_most (length x.received.waiting)) (on_after x.tcb.state n.takes).1
        (within (probe_kept (fin_taken x.tcb cx.instant) (queued_in x)) header (length bytes) false cx.instant (inl fin.0)))

  pub content_rises : Risen (with_content cx x ip header bytes)
  content_rises = subst (λ (t : DataStored). Risen (finished cx x.tcb t ip header (length bytes))) (sym payload) (at (nat_lt d size) refl) where
    at : (t : Bool) → nat_lt d size ≡ t → Risen (finished cx x.tcb (with_payload_at x 0 rest) ip header (length bytes))
    at true e = by_payload (below d size e)
    at false e = by_fin (not_below d size e)

-- IT COMES

takes_on : (state : State) (fin : Bool) → accepts_data state ≡ true → accepts_data (if fin then after_ack_of_fin state else after_ack state) ≡ true
takes_on In.Established true e = refl
takes_on In.Established false e = refl
takes_on In.FinWait1 true e = refl
takes_on In.FinWait1 false e = refl
takes_on In.FinWait2 true e = refl
takes_on In.FinWait2 false e = refl
takes_on other fin e = clash (sym e)

open_on : (state : State) → accepts_data state ≡ true → is_closed state ≡ false
open_on In.Closed e = clash (sym e)
open_on other e = refl

module _ (cx : ContextValue) (u : TcpValue) (ip : IpRepr) (header : TcpHeader) (bytes : List ℕ) (by : ℕ) (n : IsNew u header (length bytes))
    (no_syn : is_syn header.control ≡ false) where
  abbrev PayloadRises : Arrived → Type 0
  PayloadRises a = Rises cx u header (length bytes) a

  takes_after : accepts_data (state_after_ack u.tcb by (queued_in u)) ≡ true
  takes_after = takes_on u.tcb.state (acks_fin u.tcb by (queued_in u)) n.takes

  -- what the payload finds
  new_of : (x : TcpValue) → accepts_data x.tcb.state ≡ true → x.tcb.receiver ≡ u.tcb.receiver → x.received ≡ u.received → IsNew x header (length bytes)
  new_of x takes receiver received = record {
    takes = takes;
    room = subst (λ (r : Received). 1 ≤ length r.map) (sym received) n.room;
    begins = subst (λ (r : Receiver). distance_of header.seq_number r.next < 2 ^ 31) (sym receiver) n.begins;
    ends = subst (λ (r : Receiver). distance_of header.seq_number r.next < segment_len header (length bytes)) (sym receiver) n.ends;
    seq_small = n.seq_small;
    next_small = subst (λ (r : Receiver). r.next.0 < 2 ^ 32) (sym receiver) n.next_small;
  }

  rises_taken : PayloadRises (taken cx u ip header bytes by)
  rises_taken =
      acked_cases (timed cx.instant header u by) by cx.instant (λ (w : TcpValue). PayloadRises (continued cx u.tcb w ip header bytes by))
      (λ closed. clash (sym closed ∙ open_on (state_after_ack u.tcb by (queued_in u)) takes_after))
      (λ alive.
      let x = acked_open (timed cx.instant header u by) by cx.instant in
      cond_both (is_closed x.tcb.state) (dropped x)
      (with_content cx (told x header (duplicates_after u.tcb header (length bytes) by) cx.instant) ip header bytes) PayloadRises
      (λ closed. clash (sym closed ∙ alive))
      (λ _.
      cond_both (names_window x.tcb header) (windowed x.tcb header) x.tcb
      (λ (b : Tcb). PayloadRises (with_content cx (heeded cx.instant header (length bytes) u by b) ip header bytes))
      (λ _.
      let y = heeded cx.instant header (length bytes) u by (windowed x.tcb header) in
      let r = content_rises cx ip header bytes y (new_of y takes_after refl refl) no_syn in
      record { by = r.by; next = r.next; some = r.some; all = r.all; waits = r.waits; on = r.on; acknowledged = r.acknowledged })
      (λ _.
      let y = heeded cx.instant header (length bytes) u by x.tcb in
      let r = content_rises cx ip header bytes y (new_of y takes_after refl refl) no_syn in
      record { by = r.by; next = r.next; some = r.some; all = r.all; waits = r.waits; on = r.on; acknowledged = r.acknowledged })))

  rises_checked : PayloadRises (checked (Passes by) cx u ip header bytes)
  rises_checked =
      subst PayloadRises
      (sym (if_so (is_in_window u.tcb (free_in u) header (length bytes)) (inside cx u ip header bytes by) (passed_outside cx u ip header (length bytes) by)
      (new_is_inside u header (length bytes) n)
      ∙ if_not (is_syn header.control) (drawn cx u ip header) (taken cx u ip header bytes by) no_syn))
      rises_taken

-- an offer that isn't settled bears on none of it
unoffered_new : (v : TcpValue) (header : TcpHeader) (size : ℕ) → IsNew v header size → IsNew (unoffered v) header size
unoffered_new v header size n = record { takes = n.takes; room = n.room; begins = n.begins; ends = n.ends; seq_small = n.seq_small; next_small = n.next_small }

offered_rises : (cx : ContextValue) (v : TcpValue) (header : TcpHeader) (size : ℕ) (a : Arrived) → Rises cx (unoffered v) header size a →
    Rises cx v header size a
offered_rises cx v header size a r = record { by = r.by; next = r.next; some = r.some; all = r.all; waits = r.waits; on = r.on; acknowledged = r.acknowledged }

pub next_rises :
    (cx : ContextValue) (v : TcpValue) (ip : IpRepr) (header : TcpHeader) (bytes : List ℕ) (number : SeqNumber) → Counts v.tcb header number
    → IsNew v header (length bytes) → Rises cx v header (length bytes) (arrives cx v ip header bytes)
next_rises cx v ip header bytes number c n =
    let by = distance_of v.tcb.sender.una number in
    subst (λ (a : Arrived). Rises cx v header (length bytes) a) (sym (comes_to cx v ip header bytes number c))
    (offered_rises cx v header (length bytes) (checked (Passes by) cx (unoffered v) ip header bytes)
    (rises_checked cx (unoffered v) ip header bytes by (unoffered_new v header (length bytes) n) c.no_syn))

-- WHAT WAS TAKEN ALREADY

-- the acknowledgement of the FIN alone ends a connection
last_of : (state : State) (fin : Bool) → is_synchronized state ≡ true → is_closed (if fin then after_ack_of_fin state else after_ack state) ≡ true →
    state ≡ In.LastAck
last_of In.LastAck fin past e = refl
last_of In.Closed fin past e = clash (sym past)
last_of In.Listen fin past e = clash (sym past)
last_of In.SynSent fin past e = clash (sym past)
last_of In.SynReceived fin past e = clash (sym past)
last_of In.Established true past e = clash (sym e)
last_of In.Established false past e = clash (sym e)
last_of In.FinWait1 true past e = clash (sym e)
last_of In.FinWait1 false past e = clash (sym e)
last_of In.FinWait2 true past e = clash (sym e)
last_of In.FinWait2 false past e = clash (sym e)
last_of In.CloseWait true past e = clash (sym e)
last_of In.CloseWait false past e = clash (sym e)
last_of In.Closing true past e = clash (sym e)
last_of In.Closing false past e = clash (sym e)
last_of In.TimeWait true past e = clash (sym e)
last_of In.TimeWait false past e = clash (sym e)

-- SND.UNA rises, and what was sent ends where it did
same_snd_max : (una by snd_max : ℕ) → by ≤ snd_max → ((una + by) % 2 ^ 32 + (snd_max - by)) % 2 ^ 32 ≡ (una + snd_max) % 2 ^ 32
same_snd_max una by snd_max e = omega arith

module _ (cx : ContextValue) (u : TcpValue) (ip : IpRepr) (header : TcpHeader) (bytes : List ℕ) (by : ℕ)
    (past : is_synchronized u.tcb.state ≡ true) (sent : by ≤ u.tcb.sender.snd_max) where
  abbrev Answered : Arrived → Type 0
  Answered a = EndsLastAck u a ⊎ IsAnswered u a

  answered_outside : Answered (outside cx (acknowledged (timed cx.instant header u by) by cx.instant) ip header true)
  answered_outside =
      acked_cases (timed cx.instant header u by) by cx.instant (λ (w : TcpValue). Answered (outside cx w ip header true))
      (λ closed. inl (record { last = last_of u.tcb.state (acks_fin u.tcb by (queued_in u)) past closed; closed = refl; silent = refl }))
      (λ alive.
      let x = acked_open (timed cx.instant header u by) by cx.instant in
      let y = waiting_anew x header cx.instant in
      cond_both (is_closed x.tcb.state) (dropped x) (acked cx y ip header no_ranges) Answered
      (λ closed. clash (sym closed ∙ alive))
      (λ _.
      inr
      (record {
        reply = reply_to ip (hop_limit_of u.tcb.settings.hop_limit) (sack_segment y.tcb (pair_in ip header) cx.instant (window_of y) no_ranges);
        answer = refl;
        acknowledges = refl;
        bare = refl;
        same = ap number (same_snd_max u.tcb.sender.una.0 by u.tcb.sender.snd_max sent);
        plain = refl;
        next = refl;
      })))

answered_too : (v : TcpValue) (a : Arrived) → EndsLastAck (unoffered v) a ⊎ IsAnswered (unoffered v) a → EndsLastAck v a ⊎ IsAnswered v a
answered_too v a (inl ends) = inl (record { last = ends.last; closed = ends.closed; silent = ends.silent })
answered_too v a (inr r) =
    inr
    (record { reply = r.reply; answer = r.answer; acknowledges = r.acknowledges; bare = r.bare; same = r.same; plain = r.plain; next = r.next })

some_eqb : (n : ℕ) → 1 ≤ n → (n == 0) ≡ false
some_eqb n e = ne_eqb n 0 (none n e) where
  none : (m : ℕ) → 1 ≤ m → m ≡ 0 → ⊥
  none m f g = absurd (omega arith)

pub again_answered :
    (cx : ContextValue) (v : TcpValue) (ip : IpRepr) (header : TcpHeader) (bytes : List ℕ) (number : SeqNumber) → Counts v.tcb header number
    → IsAgain v header (length bytes)
    → EndsLastAck v (arrives cx v ip header bytes) ⊎ IsAnswered v (arrives cx v ip header bytes)
again_answered cx v ip header bytes number c n =
    let by = distance_of v.tcb.sender.una number in
    let u = unoffered v in
    let w = acknowledged (timed cx.instant header u by) by cx.instant in
    subst (λ (a : Arrived). EndsLastAck v a ⊎ IsAnswered v a)
    (sym (comes_to cx v ip header bytes number c
    ∙ (if_not (is_in_window v.tcb (free_in v) header (length bytes)) (inside cx u ip header bytes by) (passed_outside cx u ip header (length bytes) by)
    (again_is_outside v header (length bytes) n)
    ∙ (if_so (is_before_window u header (length bytes)) (outside cx w ip header (has_length header (length bytes))) (outside cx u ip header false)
    (ap (λ (t : Bool). not t && lies_before v.tcb (room_of v.received) header (length bytes)) (not_answering v.tcb.state c.synchronized) ∙
    again_lies_before v header (length bytes) n)
    ∙ ap (outside cx w ip header) (ap not (some_eqb (segment_len header (length bytes)) n.some))))))
    (answered_too v (outside cx w ip header true) (answered_outside cx u ip header bytes by c.synchronized c.sent))

-- WHAT A CLOSED WINDOW SHUTS OUT

shut_meets_not : (before past len space : ℕ) → space ≡ 0 → 1 ≤ len → overlaps_window before past len space ≡ false
shut_meets_not before past len space shut some =
    if_not (len == 0) ((before == 0) && (if past == 0 then true else nat_lt past space)) (nat_lt past space && nat_lt before len)
    (ne_eqb len 0 (none len some))
    ∙ ap (λ (t : Bool). t && nat_lt before len) (le-ltb past space (no_space past space shut))
  where
    none : (n : ℕ) → 1 ≤ n → n ≡ 0 → ⊥
    none n e f = absurd (omega arith)

    no_space : (past space : ℕ) → space ≡ 0 → space ≤ past
    no_space past space e = omega arith

shut_is_outside : (v : TcpValue) (header : TcpHeader) (size : ℕ) → IsShutOut v header size → is_in_window v.tcb (free_in v) header size ≡ false
shut_is_outside v header size n =
    shut_meets_not (distance_before v.tcb.receiver.next header.seq_number) (distance_after v.tcb.receiver.next header.seq_number) (segment_len header size) (free_in v)
    n.shut (some (distance_of header.seq_number v.tcb.receiver.next) (segment_len header size) n.ends)
  where
    some : (d len : ℕ) → d < len → 1 ≤ len
    some d len e = omega arith

shut_not_before : (v : TcpValue) (header : TcpHeader) (size : ℕ) → IsShutOut v header size → lies_before v.tcb (room_of v.received) header size ≡ false
shut_not_before v header size n =
    let it = begins v.tcb.receiver.next header.seq_number n.seq_small n.next_small n.begins in
    ap (λ (d : ℕ). not (d == 0) && (nat_le (segment_len header size) d && nat_le d (room_of v.received + 2))) it.before
    ∙ middle (not (distance_of header.seq_number v.tcb.receiver.next == 0))
    (nat_le (segment_len header size) (distance_of header.seq_number v.tcb.receiver.next))
    (nat_le (distance_of header.seq_number v.tcb.receiver.next) (room_of v.received + 2))
    (lt-leb (segment_len header size) (distance_of header.seq_number v.tcb.receiver.next) n.ends)
  where
    middle : (a b c : Bool) → b ≡ false → (a && (b && c)) ≡ false
    middle true b c e = ap (λ (t : Bool). t && c) e
    middle false b c e = refl

alive_in : (state : State) → is_synchronized state ≡ true → is_closed state ≡ false
alive_in In.Closed e = clash (sym e)
alive_in other e = refl

shut_drawn :
    (cx : ContextValue) (u : TcpValue) (ip : IpRepr) (header : TcpHeader) → may_challenge cx.instant u.tcb.timers.challenges_from ≡ true
    → is_closed u.tcb.state ≡ false → IsAnswered u (outside cx u ip header false)
shut_drawn cx u ip header may alive =
    let y = waiting_anew u header cx.instant in
    cond_both (is_closed u.tcb.state) (dropped u) (drawn cx y ip header) (IsAnswered u) (λ closed. clash (sym closed ∙ alive))
    (λ _.
    cond_both (may_challenge cx.instant u.tcb.timers.challenges_from) (acked cx (with_draw y cx.instant) ip header no_ranges) (dropped y) (IsAnswered u)
    (λ _.
    record {
      reply = reply_to ip (hop_limit_of u.tcb.settings.hop_limit)
          (sack_segment (with_draw y cx.instant).tcb (pair_in ip header) cx.instant (window_of (with_draw y cx.instant)) no_ranges);
      answer = refl;
      acknowledges = refl;
      bare = refl;
      same = refl;
      plain = refl;
      next = refl;
    })
    (λ never. clash (sym may ∙ never)))

pub shut_answered :
    (cx : ContextValue) (v : TcpValue) (ip : IpRepr) (header : TcpHeader) (bytes : List ℕ) (number : SeqNumber) → Counts v.tcb header number
    → IsShutOut v header (length bytes) → may_challenge cx.instant v.tcb.timers.challenges_from ≡ true → IsAnswered v (arrives cx v ip header bytes)
shut_answered cx v ip header bytes number c n may =
    let by = distance_of v.tcb.sender.una number in
    let u = unoffered v in
    let r : IsAnswered u (outside cx u ip header false) = shut_drawn cx u ip header may (alive_in v.tcb.state c.synchronized) in
    subst (IsAnswered v)
    (sym (comes_to cx v ip header bytes number c
    ∙ (if_not (is_in_window v.tcb (free_in v) header (length bytes)) (inside cx u ip header bytes by) (passed_outside cx u ip header (length bytes) by)
    (shut_is_outside v header (length bytes) n)
    ∙ if_not (is_before_window u header (length bytes))
    (outside cx (acknowledged (timed cx.instant header u by) by cx.instant) ip header (has_length header (length bytes))) (outside cx u ip header false)
    (ap (λ (t : Bool). not t && lies_before v.tcb (room_of v.received) header (length bytes)) (not_answering v.tcb.state c.synchronized) ∙
    shut_not_before v header (length bytes) n))))
    (record {
      reply = r.reply;
      answer = r.answer;
      acknowledges = r.acknowledges;
      bare = r.bare;
      same = r.same;
      plain = r.plain;
      next = r.next;
    })

-- WHAT LIES PAST THE WINDOW

-- nothing of it is taken: what was sent, and what waits to go, stays
abbrev pub Still : TcpValue → Arrived → Type 0
Still v a = (a.socket.tcb.sender ≡ v.tcb.sender) × (a.socket.tcb.state ≡ v.tcb.state) × (a.socket.queued ≡ v.queued)

outside_still : (cx : ContextValue) (u : TcpValue) (ip : IpRepr) (header : TcpHeader) → Still u (outside cx u ip header false)
outside_still cx u ip header =
    let y = waiting_anew u header cx.instant in
    cond_both (is_closed u.tcb.state) (dropped u) (drawn cx y ip header) (Still u) (λ _. (refl, refl, refl))
    (λ _.
    cond_both (may_challenge cx.instant u.tcb.timers.challenges_from) (acked cx (with_draw y cx.instant) ip header no_ranges) (dropped y) (Still u)
    (λ _. (refl, refl, refl)) (λ _. (refl, refl, refl)))

pub past_still :
    (cx : ContextValue) (v : TcpValue) (ip : IpRepr) (header : TcpHeader) (bytes : List ℕ) (number : SeqNumber) → Counts v.tcb header number
    → is_in_window v.tcb (free_in v) header (length bytes) ≡ false → distance_before v.tcb.receiver.next header.seq_number ≡ 0
    → Still v (arrives cx v ip header bytes)
past_still cx v ip header bytes number c not_inside none =
    let by = distance_of v.tcb.sender.una number in
    let u = unoffered v in
    let r : Still u (outside cx u ip header false) = outside_still cx u ip header in
    subst (Still v)
    (sym (comes_to cx v ip header bytes number c
    ∙ (if_not (is_in_window v.tcb (free_in v) header (length bytes)) (inside cx u ip header bytes by) (passed_outside cx u ip header (length bytes) by)
    not_inside
    ∙ if_not (is_before_window u header (length bytes))
    (outside cx (acknowledged (timed cx.instant header u by) by cx.instant) ip header (has_length header (length bytes))) (outside cx u ip header false)
    (ap (λ (t : Bool). not t && lies_before v.tcb (room_of v.received) header (length bytes)) (not_answering v.tcb.state c.synchronized)
    ∙ ap (λ (d : ℕ). not (d == 0) && (nat_le (segment_len header (length bytes)) d && nat_le d (room_of v.received + 2))) none))))
    r
