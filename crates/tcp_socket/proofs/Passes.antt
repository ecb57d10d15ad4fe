-- A segment whose payload is stored before the rest of it is taken.
use Rattle.std.proofs.Common.{◌≡◌, ℕ, zero, suc, ◌-◌, ◌==◌, ◌&&◌, ◌||◌, not, nat_lt, nat_le, ◌^◌, Bool, true, false, ℤ, List, length, drop, Option, Some, None}
use Rattle.std.proofs.Common.{is_some, if◌then◌else◌, refl, sym, ap, subst, ◌∙◌, arith}
use Rattle.std.proofs.lemmas.Bool.Decides.{nat_tests}
use Rattle.std.proofs.lemmas.Bool.{and_parts, and_left}
use Rattle.ip_wire.specs.IpRepr.{IpRepr}
use Rattle.ip_wire.specs.Seq.{distance_of}
use Rattle.ip_wire.specs.SeqNumber.{SeqNumber}
use Rattle.ip_wire.specs.TcpHeader.{TcpHeader}
use Rattle.socket_context.specs.Context.{ContextValue}
use Rattle.tcp_ranges.specs.ReceiveMap.{store, front}
use Rattle.net_base.specs.Ring.{Ring}
use Rattle.tcp_block.specs.Acknowledged.{acknowledged, duplicates_after, state_after_ack, una_moved, in_state, ended_if, names_window, windowed}
use Rattle.tcp_block.specs.Arrival.{is_void_syn, arrives_in, arrives, checked, challenges_first, tsecr_heard, finished, inside, received, taken, told, passed_outside, reset_arrives}
use Rattle.tcp_block.specs.Answers.{drawn}
use Rattle.tcp_block.specs.TcbRules.{unacked}
use Rattle.tcp_block.specs.Checks.{Check, acknowledgement_check, is_in_window}
use Rattle.tcp_block.specs.Checks.Check.{Passes}
use Rattle.tcp_block.specs.Controls.{is_syn, is_rst, is_zero}
use Rattle.tcp_block.specs.Offsets.{distance_after, distance_before, overlaps_window}
use Rattle.tcp_block.specs.Segments.{segment_len}
use Rattle.tcp_block.specs.States.{is_closed, accepts_data, owes_fin, after_ack, after_ack_of_fin}
use Rattle.tcp_block.specs.Payload.{DataStored, data_stored, has_out_of_order, with_payload, with_payload_at, with_bytes_at}
use Rattle.tcp_block.specs.Reply.{Reply}
use Rattle.tcp_block.specs.Value.{TcpValue, Received, Arrived, dropped, unoffered, queued_in, free_in}
use Rattle.tcp_block.specs.declared.tcb.Tcb.{Tcb}
use Rattle.tcp_block.specs.State.{State}
use Rattle.tcp_block.specs.State.TheVariants as In
use Rattle.tcp_block.specs.OpenOffer.{OpenOffer}
use Rattle.tcp_socket.proofs.Answered.{received_draws}
use Rattle.tcp_socket.proofs.Steps.{value_of, Leads}
use Rattle.tcp_socket.specs.Receive.{in_order}
use Rattle.tcp_socket.specs.FastPath.{IsStoredAs, is_established, arrives_next, is_in_fast_path, stored, advanced, content_by, taken_by}

-- AN OPEN CONNECTION STAYS OPEN, AND RCV.NXT STAYS, WHILE AN ACKNOWLEDGEMENT AND A WINDOW ARE TAKEN

open_after : (b : Tcb) (by queued : ℕ) → b.state ≡ In.Established → state_after_ack b by queued ≡ In.Established
open_after b by queued is =
    subst (λ (s : State). (if owes_fin s && (by == unacked b queued) then after_ack_of_fin s else after_ack s) ≡ In.Established) (sym is) refl

state_ended : (s : State) (b : Tcb) (now : ℤ) → s ≡ In.Established → (ended_if (is_closed s) (in_state b s now)).state ≡ In.Established
state_ended s b now is = subst (λ (x : State). (ended_if (is_closed x) (in_state b x now)).state ≡ In.Established) (sym is) refl

next_ended : (s : State) (b : Tcb) (now : ℤ) → s ≡ In.Established → (ended_if (is_closed s) (in_state b s now)).receiver.next ≡ b.receiver.next
next_ended s b now is = subst (λ (x : State). (ended_if (is_closed x) (in_state b x now)).receiver.next ≡ b.receiver.next) (sym is) refl

state_acked : (v : TcpValue) (by : ℕ) (now : ℤ) → v.tcb.state ≡ In.Established → (acknowledged v by now).tcb.state ≡ In.Established
state_acked v by now is =
    state_ended (state_after_ack v.tcb by (queued_in v)) (una_moved v.tcb by (queued_in v) now) now (open_after v.tcb by (queued_in v) is)

next_acked : (v : TcpValue) (by : ℕ) (now : ℤ) → v.tcb.state ≡ In.Established → (acknowledged v by now).tcb.receiver.next ≡ v.tcb.receiver.next
next_acked v by now is =
    next_ended (state_after_ack v.tcb by (queued_in v)) (una_moved v.tcb by (queued_in v) now) now (open_after v.tcb by (queued_in v) is)

state_windowed : (t : Bool) (b : Tcb) (header : TcpHeader) → (if t then windowed b header else b).state ≡ b.state
state_windowed true b header = refl
state_windowed false b header = refl

next_windowed : (t : Bool) (b : Tcb) (header : TcpHeader) → (if t then windowed b header else b).receiver.next ≡ b.receiver.next
next_windowed true b header = refl
next_windowed false b header = refl

state_told : (v : TcpValue) (header : TcpHeader) (count : ℕ) (now : ℤ) → (told v header count now).tcb.state ≡ v.tcb.state
state_told v header count now = state_windowed (names_window v.tcb header) v.tcb header

next_told : (v : TcpValue) (header : TcpHeader) (count : ℕ) (now : ℤ) → (told v header count now).tcb.receiver.next ≡ v.tcb.receiver.next
next_told v header count now = next_windowed (names_window v.tcb header) v.tcb header

-- what is acknowledged, and what the window and the ranges tell
abbrev told_by : TcpValue → TcpHeader → ℕ → ℕ → ℤ → TcpValue
told_by v header by count now = told (acknowledged (tsecr_heard v header by now) by now) header count now

state_by : (v : TcpValue) (header : TcpHeader) (by count : ℕ) (now : ℤ) → v.tcb.state ≡ In.Established
    → (told_by v header by count now).tcb.state ≡ In.Established
state_by v header by count now is =
    state_told (acknowledged (tsecr_heard v header by now) by now) header count now ∙ state_acked (tsecr_heard v header by now) by now is

next_by : (v : TcpValue) (header : TcpHeader) (by count : ℕ) (now : ℤ) → v.tcb.state ≡ In.Established
    → (told_by v header by count now).tcb.receiver.next ≡ v.tcb.receiver.next
next_by v header by count now is =
    next_told (acknowledged (tsecr_heard v header by now) by now) header count now ∙ next_acked (tsecr_heard v header by now) by now is

-- THE TEXT THAT COMES NEXT

abbrev comes_to : TcpValue → List ℕ → ℕ
comes_to v bytes = length (front (store v.received.map 0 bytes))

no_distance : (a b : SeqNumber) → distance_of a b ≡ 0 → (distance_after a b ≡ 0) × (distance_before a b ≡ 0)
no_distance a b is = (
  subst (λ d. (if nat_lt d (2 ^ 31) then d else 0) ≡ 0) (sym is) refl,
  subst (λ d. (if nat_lt d (2 ^ 31) then 0 else 2 ^ 32 - d) ≡ 0) (sym is) refl,
)

in_order_at : (takes empty fits : Bool) (a b : DataStored) → takes ≡ true → empty ≡ false → fits ≡ true → (if takes && (not empty && fits) then a else b) ≡ a
in_order_at true false true a b takes empty fits = refl
in_order_at true false false a b takes empty fits = absurd (cc)
in_order_at true true fits' a b takes empty fits = absurd (cc)
in_order_at false empty' fits' a b takes empty fits = absurd (cc)

some_room : (n free : ℕ) → (n == 0) ≡ false → nat_le n free ≡ true → nat_lt 0 free ≡ true
some_room n free some fits = grind (arith, nat_tests, some, fits)

payload_next : (w : TcpValue) (header : TcpHeader) (bytes : List ℕ) → accepts_data w.tcb.state ≡ true
    → distance_of w.tcb.receiver.next header.seq_number ≡ 0
    → (length bytes == 0) ≡ false → nat_le (length bytes) (free_in w) ≡ true → has_out_of_order w ≡ false
    → with_payload w header bytes ≡ data_stored (advanced (stored w bytes) (comes_to w bytes)) (comes_to w bytes) false None
payload_next w header bytes takes next some fits free =
    let n = comes_to w bytes in
    let d = no_distance w.tcb.receiver.next header.seq_number next in
    ap (λ (k : ℕ). with_payload_at w k (drop (distance_before w.tcb.receiver.next header.seq_number) bytes)) d.0
    ∙ ap (λ (k : ℕ). with_payload_at w 0 (drop k bytes)) d.1
    ∙ in_order_at (accepts_data w.tcb.state) (length bytes == 0) (nat_lt 0 (free_in w)) (with_bytes_at w 0 bytes) (data_stored w 0 false None) takes some
    (some_room (length bytes) (free_in w) some fits)
    ∙ ap (λ (t : Bool). data_stored (advanced (stored w bytes) n) n t None) free

-- THE REST OF THE SEGMENT

proceeds : (s : State) (a b : Arrived) → s ≡ In.Established → (if is_closed s then a else b) ≡ b
proceeds s a b is = subst (λ (x : State). (if is_closed x then a else b) ≡ b) (sym is) refl

-- of an open connection what is left is taken, whether its payload is stored already or not
taken_open : (payload : Option ℕ) (cx : ContextValue) (v : TcpValue) (ip : IpRepr) (header : TcpHeader) (bytes : List ℕ) (by : ℕ) → v.tcb.state ≡ In.Established
    → taken_by payload cx v ip header bytes by
    ≡ content_by payload cx (told_by v header by (duplicates_after v.tcb header (length bytes) by) cx.instant) ip header bytes
taken_open payload cx v ip header bytes by is =
    let a = acknowledged (tsecr_heard v header by cx.instant) by cx.instant in
    let count = duplicates_after v.tcb header (length bytes) by in
    proceeds a.tcb.state (dropped a) (content_by payload cx (told a header count cx.instant) ip header bytes)
    (state_acked (tsecr_heard v header by cx.instant) by cx.instant is)

-- what is stored neither changes what else is taken, nor is changed by it
stored_apart : (cx : ContextValue) (v : TcpValue) (ip : IpRepr) (header : TcpHeader) (bytes : List ℕ) (by count n : ℕ)
    → content_by (Some n) cx (told_by (stored v bytes) header by count cx.instant) ip header bytes
    ≡ finished cx (told_by v header by count cx.instant).tcb (data_stored (advanced (stored (told_by v header by count cx.instant) bytes) n) n false None) ip header
    (length bytes)
stored_apart cx v ip header bytes by count n = refl

stored_leads : (cx : ContextValue) (v : TcpValue) (ip : IpRepr) (header : TcpHeader) (bytes : List ℕ) (by n : ℕ) → v.tcb.state ≡ In.Established
    → distance_of v.tcb.receiver.next header.seq_number ≡ 0 → (length bytes == 0) ≡ false → nat_le (length bytes) (free_in v) ≡ true
    → has_out_of_order v ≡ false → n ≡ comes_to v bytes
    → taken_by (Some n) cx (stored v bytes) ip header bytes by ≡ taken cx v ip header bytes by
stored_leads cx v ip header bytes by n is next some fits free n_is =
    let count = duplicates_after v.tcb header (length bytes) by in
    let w = told_by v header by count cx.instant in
    let at : distance_of w.tcb.receiver.next header.seq_number ≡ 0 =
    ap (λ (k : SeqNumber). distance_of k header.seq_number) (next_by v header by count cx.instant is) ∙ next
    in
    let payload = payload_next w header bytes (ap accepts_data (state_by v header by count cx.instant is)) at some fits free in
    ap (λ (k : ℕ). taken_by (Some k) cx (stored v bytes) ip header bytes by) n_is
    ∙ taken_open (Some (comes_to v bytes)) cx (stored v bytes) ip header bytes by is
    ∙ stored_apart cx v ip header bytes by count (comes_to v bytes)
    ∙ ap (λ (t : DataStored). finished cx w.tcb t ip header (length bytes)) (sym payload)
    ∙ sym (taken_open None cx v ip header bytes by is)

-- WHAT A SEGMENT THAT GOES IN ONE PASS COMES TO

pub record Goes (now : ℤ) (v : TcpValue) (header : TcpHeader) (bytes : List ℕ) : Type 0 where
  pub state : v.tcb.state ≡ In.Established
  pub unoffered : v.offered ≡ None
  pub free : has_out_of_order v ≡ false
  pub room : nat_lt 0 (free_in v) ≡ true
  pub fits : nat_le (length bytes) (free_in v) ≡ true
  pub no_syn : is_syn header.control ≡ false
  pub no_rst : is_rst header.control ≡ false
  pub initial : challenges_first v.tcb header now ≡ false

open_is : (s : State) → is_established s ≡ true → s ≡ In.Established
open_is In.Established is = refl
open_is other is = absurd (cc)

isnt : (t : Bool) → not t ≡ true → t ≡ false
isnt true is = absurd (cc)
isnt false is = refl

neither : (s t : Bool) → not (s || t) ≡ true → (s ≡ false) × (t ≡ false)
neither false false is = (refl, refl)
neither false true is = absurd (cc)
neither true t is = absurd (cc)

none_is : (o : Option OpenOffer) → is_some o ≡ false → o ≡ None
none_is None is = refl
none_is (Some o) is = absurd (cc)

goes : (now : ℤ) (v : TcpValue) (header : TcpHeader) (bytes : List ℕ) → is_in_fast_path now v header bytes ≡ true → Goes now v header bytes
goes now v header bytes is =
    let a = and_parts (is_established v.tcb.state) _ is in
    let b = and_parts (not (is_some v.offered)) _ a.1 in
    let c = and_parts (not (has_out_of_order v)) _ b.1 in
    let d = and_parts (arrives_next v header bytes) _ c.1 in
    let e = and_parts (not (is_syn header.control || is_rst header.control)) _ d.1 in
    let f = and_parts (not (challenges_first v.tcb header now)) _ e.1 in
    let g = and_parts (v.tcb.receiver.next.0 == header.seq_number.0) _ d.0 in
    let h = and_parts (nat_lt 0 (free_in v)) _ g.1 in
    let control = neither (is_syn header.control) (is_rst header.control) e.0 in
    record {
      state = open_is v.tcb.state a.0;
      unoffered = none_is v.offered (isnt (is_some v.offered) b.0);
      free = isnt (has_out_of_order v) c.0;
      room = h.0;
      fits = h.1;
      no_syn = control.0;
      no_rst = control.1;
      initial = isnt (challenges_first v.tcb header now) f.0;
    }

pub goes_at : (now instant : ℤ) (v : TcpValue) (header : TcpHeader) (bytes : List ℕ) → now ≡ instant → true ≡ is_in_fast_path now v header bytes
    → Goes instant v header bytes
goes_at now instant v header bytes at is = goes instant v header bytes (ap (λ (m : ℤ). is_in_fast_path m v header bytes) (sym at) ∙ sym is)

taken_else : (t : Bool) (a b : Arrived) → t ≡ false → (if t then a else b) ≡ b
taken_else true a b is = absurd (cc)
taken_else false a b is = refl

taken_then : (t : Bool) (a b : Arrived) → t ≡ true → (if t then a else b) ≡ a
taken_then true a b is = refl
taken_then false a b is = absurd (cc)

meets_at : (len space : ℕ) → nat_lt 0 space ≡ true → overlaps_window 0 0 len space ≡ true
meets_at zero space some = refl
meets_at (suc n) space some = grind (arith, nat_tests, some)

meets : (b : Tcb) (space : ℕ) (header : TcpHeader) (size : ℕ) → distance_of b.receiver.next header.seq_number ≡ 0 → nat_lt 0 space ≡ true
    → is_in_window b space header size ≡ true
meets b space header size next some =
    let d = no_distance b.receiver.next header.seq_number next in
    ap (λ (k : ℕ). overlaps_window k (distance_after b.receiver.next header.seq_number) (segment_len header size) space) d.1
    ∙ ap (λ (k : ℕ). overlaps_window 0 k (segment_len header size) space) d.0 ∙ meets_at (segment_len header size) space some

arrives_received : (cx : ContextValue) (v : TcpValue) (ip : IpRepr) (header : TcpHeader) (bytes : List ℕ) → Goes cx.instant v header bytes
    → arrives cx v ip header bytes ≡ received cx v ip header bytes
arrives_received cx v ip header bytes g =
    let same : unoffered v ≡ v = ap (λ (o : Option OpenOffer). record v { offered = o }) (sym g.unoffered) in
    taken_else (is_void_syn header) (dropped (unoffered v)) (arrives_in v.tcb.state cx (unoffered v) ip header bytes)
    (and_left (is_syn header.control) (is_zero header.options.max_seg_size) g.no_syn)
    ∙ ap (λ (x : TcpValue). arrives_in v.tcb.state cx x ip header bytes) same ∙ ap (λ (s : State). arrives_in s cx v ip header bytes) g.state

pub no_draw : (cx : ContextValue) (v : TcpValue) (ip : IpRepr) (header : TcpHeader) (bytes : List ℕ) → Goes cx.instant v header bytes
    → (arrives cx v ip header bytes).draws ≡ false
no_draw cx v ip header bytes g = ap (λ (x : Arrived). x.draws) (arrives_received cx v ip header bytes g) ∙ received_draws cx v ip header bytes

arrives_open : (cx : ContextValue) (v : TcpValue) (ip : IpRepr) (header : TcpHeader) (bytes : List ℕ) (by : ℕ)
    → Goes cx.instant v header bytes → distance_of v.tcb.receiver.next header.seq_number ≡ 0
    → acknowledgement_check v.tcb header.ack_number ≡ Passes by → arrives cx v ip header bytes ≡ taken cx v ip header bytes by
arrives_open cx v ip header bytes by g next passes =
    let check = acknowledgement_check v.tcb header.ack_number in
    let size = length bytes in
    let unchecked : Arrived = if challenges_first v.tcb header cx.instant then drawn cx v ip header else checked check cx v ip header bytes in
    arrives_received cx v ip header bytes g
    ∙ taken_else (is_rst header.control) (reset_arrives cx v ip header size) unchecked g.no_rst
    ∙ taken_else (challenges_first v.tcb header cx.instant) (drawn cx v ip header) (checked check cx v ip header bytes) g.initial
    ∙ ap (λ (c : Check). checked c cx v ip header bytes) passes
    ∙ taken_then (is_in_window v.tcb (free_in v) header size) (inside cx v ip header bytes by) (passed_outside cx v ip header size by)
    (meets v.tcb (free_in v) header size next g.room)
    ∙ taken_else (is_syn header.control) (drawn cx v ip header) (taken cx v ip header bytes by) g.no_syn

-- the calls that take it, with its payload stored or with none
with_payload_leads : (cx : ContextValue) (b : Tcb) (r r2 : Received) (q : Ring ℕ) (o : Option OpenOffer) (v : TcpValue) (ip : IpRepr) (header : TcpHeader)
    (bytes : List ℕ) (by n : ℕ)
    → value_of b r q o ≡ v → Goes cx.instant v header bytes → (length bytes == 0) ≡ false → distance_of v.tcb.receiver.next header.seq_number ≡ 0
    → acknowledgement_check v.tcb header.ack_number ≡ Passes by → n ≡ length (front (store r.map 0 bytes)) → r2 ≡ in_order r bytes
    → taken_by (Some n) cx (value_of b r2 q o) ip header bytes by ≡ arrives cx v ip header bytes
with_payload_leads cx b r r2 q o v ip header bytes by n is g some next passes n_is r2_is =
    let kept : value_of b r2 q o ≡ stored v bytes = ap (λ (x : Received). value_of b x q o) r2_is ∙ ap (λ (w : TcpValue). stored w bytes) is in
    let count : n ≡ comes_to v bytes = n_is ∙ ap (λ (w : TcpValue). comes_to w bytes) is in
    ap (λ (w : TcpValue). taken_by (Some n) cx w ip header bytes by) kept
    ∙ stored_leads cx v ip header bytes by n g.state next some g.fits g.free count ∙ sym (arrives_open cx v ip header bytes by g next passes)

leads_to : (s : Option ℕ) (cx : ContextValue) (b : Tcb) (r r2 : Received) (q : Ring ℕ) (o : Option OpenOffer) (v : TcpValue) (ip : IpRepr) (header : TcpHeader)
    (bytes : List ℕ) (by : ℕ)
    → value_of b r q o ≡ v → Goes cx.instant v header bytes → distance_of v.tcb.receiver.next header.seq_number ≡ 0
    → acknowledgement_check v.tcb header.ack_number ≡ Passes by → IsStoredAs s r bytes r2
    → taken_by s cx (value_of b r2 q o) ip header bytes by ≡ arrives cx v ip header bytes
leads_to None cx b r r2 q o v ip header bytes by is g next passes kept =
    ap (λ (w : TcpValue). taken_by None cx w ip header bytes by) (ap (λ (x : Received). value_of b x q o) kept.1 ∙ is)
    ∙ sym (arrives_open cx v ip header bytes by g next passes)
leads_to (Some n) cx b r r2 q o v ip header bytes by is g next passes kept =
    with_payload_leads cx b r r2 q o v ip header bytes by n is g kept.0 next passes kept.1 kept.3

pub one_pass_leads : (s : Option ℕ) (cx : ContextValue) (b : Tcb) (r r2 : Received) (q : Ring ℕ) (o : Option OpenOffer) (v : TcpValue) (ip : IpRepr)
    (header : TcpHeader) (bytes : List ℕ) (by : ℕ) (answer : Option Reply) (socket : TcpValue)
    → value_of b r q o ≡ v → Goes cx.instant v header bytes → distance_of v.tcb.receiver.next header.seq_number ≡ 0
    → acknowledgement_check v.tcb header.ack_number ≡ Passes by → IsStoredAs s r bytes r2
    → answer ≡ (taken_by s cx (value_of b r2 q o) ip header bytes by).answer
    → socket ≡ (taken_by s cx (value_of b r2 q o) ip header bytes by).socket → Leads (arrives cx v ip header bytes) answer socket
one_pass_leads s cx b r r2 q o v ip header bytes by answer socket is g next passes kept a t =
    let all = leads_to s cx b r r2 q o v ip header bytes by is g next passes kept in
    record { answer = a ∙ ap (λ (x : Arrived). x.answer) all; socket = t ∙ ap (λ (x : Arrived). x.socket) all }
