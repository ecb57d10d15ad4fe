-- The steps of an arrival, as its functions join them.
use Rattle.std.proofs.Common.{◌≡◌, ℕ, ◌-◌, ◌==◌, ◌&&◌, not, nat_lt, ◌<◌, ◌≤◌, ◌^◌, min, nat_le, Bool, true, false, ℤ, List, [], length, take, drop, Option}
use Rattle.std.proofs.Common.{Some, None, is_some, if◌then◌else◌, refl, sym, ap, subst, ◌∙◌, arith}
use Rattle.std.specs.Prelude.{IfSome}
use Rattle.std.proofs.lemmas.Bool.Decides.{nat_tests}
use Rattle.std.proofs.lemmas.List.{drop_min, length-drop, take_all}
use Rattle.net_base.specs.Ring.{Ring}
use Rattle.ip_wire.specs.IpRepr.{IpRepr}
use Rattle.tcp_ranges.specs.OutOfOrder.{runs_of}
use Rattle.ip_wire.specs.SeqNumber.{SeqNumber}
use Rattle.ip_wire.specs.Tcp.{header_of}
use Rattle.ip_wire.specs.TcpHeader.{TcpHeader}
use Rattle.ip_wire.specs.TcpRepr.{TcpRepr}
use Rattle.socket_context.specs.Context.{ContextValue}
use Rattle.socket_context.specs.Packet.{IsSendable, packet_of}
use Rattle.socket_context.specs.Packet as Carried
use Rattle.tcp_ranges.specs.ReceiveMap.{store, front}
use Rattle.tcp_block.specs.Acknowledged.{acknowledged, duplicates_after}
use Rattle.tcp_block.specs.Answers.{ack_recorded, acked, drawn, ack_due, answers_at_once, answer_for}
use Rattle.tcp_block.specs.Arrival.{waiting_anew, outside, passed_outside, is_before_window, is_repeated, finished, with_content, told, tsecr_heard}
use Rattle.tcp_block.specs.Arrival.{checked, reset_arrives, challenges_first, received, arrives_in}
use Rattle.tcp_block.specs.Checks.{acknowledgement_check, is_in_window}
use Rattle.tcp_block.specs.Checks.Check.{Old}
use Rattle.tcp_block.specs.Controls.{is_syn, is_rst}
use Rattle.tcp_block.specs.Opening.{acks_syn, syn_answered, takes_answer}
use Rattle.tcp_block.specs.Probing.{probe_kept}
use Rattle.tcp_block.specs.Retries.{heard}
use Rattle.tcp_block.specs.Segments.{rst_reply, no_ranges, has_length}
use Rattle.tcp_block.specs.States.{is_closed, accepts_data}
use Rattle.tcp_block.specs.Payload.{DataStored, data_stored, laid, has_new_payload, with_payload, with_payload_at, with_bytes_at, taken_in_order, out_of_order, with_fin}
use Rattle.tcp_block.specs.Timeout.{timeout_restarted}
use Rattle.tcp_block.specs.Timestamps.{tsval_taken}
use Rattle.tcp_block.specs.Offsets.{distance_after, distance_before}
use Rattle.tcp_block.specs.Value.{TcpValue, Received, Arrived, received_of, room_of, window_of, with_tcb, dropped, answered_with, ended, queued_in, free_in}
use Rattle.tcp_block.specs.declared.tcb.Tcb.{Tcb}
use Rattle.tcp_block.specs.OpenOffer.{OpenOffer}
use Rattle.tcp_block.specs.Reply.{Reply}
use Rattle.tcp_block.specs.State.{State}
use Rattle.tcp_block.specs.State.TheVariants as In
use Rattle.tcp_socket.proofs.Answered.{received_draws, takes_answer_draws, later_arrives}
use Rattle.tcp_socket.proofs.Arrivals.{length-store, length-front, stored_cut}
use Rattle.tcp_socket.specs.Answering.{next_at, reply_of}
use Rattle.tcp_socket.specs.FastPath.{payload_by, content_by, rest_by, taken_by}
use Rattle.tcp_socket.specs.declared.on_segment.Due.TheVariants as Is
use Rattle.tcp_socket.specs.Replies.{replies_in, packet_in, packet_with}

abbrev pub value_of : Tcb → Received → Ring ℕ → Option OpenOffer → TcpValue
value_of b r q o = record { tcb = b; received = r; queued = q; offered = o }

-- RCV.NXT rises by no more than there is room for
pub advance_small : (v : TcpValue) (r : Received) (b : Tcb) (q : Ring ℕ) (o : Option OpenOffer) (bytes : List ℕ) (n : ℕ) → value_of b r q o ≡ v →
    length v.received.map ≤ 2 ^ 30 → n ≡ length (front (store r.map 0 bytes)) → n ≤ 2 ^ 30
advance_small v r b q o bytes n is small count =
    let room : length r.map ≤ 2 ^ 30 = subst (λ (w : TcpValue). length w.received.map ≤ 2 ^ 30) (sym is) small in
    let laid = length-store r.map 0 bytes in
    let read = length-front (store r.map 0 bytes) in
    omega (arith, room, laid, read, count)

new_payload : (takes empty fits : Bool) (a b : DataStored) → takes ≡ true → empty ≡ false → fits ≡ true → a ≡ (if takes && (not empty && fits) then a else b)
new_payload true false true a b takes empty fits = refl
new_payload true false false a b takes empty fits = absurd (cc)
new_payload true true fits' a b takes empty fits = absurd (cc)
new_payload false empty' fits' a b takes empty fits = absurd (cc)

below : (offset free : ℕ) → offset < free → nat_lt offset free ≡ true
below offset free h = grind (arith, nat_tests, h)

-- what lies before RCV.NXT is cut off
pub payload_leads : (v : TcpValue) (next : SeqNumber) (offset before n : ℕ) (header : TcpHeader) (bytes : List ℕ) (t : DataStored) → next ≡ v.tcb.receiver.next
    → offset ≡ distance_after next header.seq_number → before ≡ distance_before next header.seq_number → n ≡ min before (length bytes)
    → t ≡ with_payload_at v offset (take (length bytes - n) (drop n bytes)) → t ≡ with_payload v header bytes
payload_leads v next offset before n header bytes t next_is offset_is before_is n_is is =
    let far : offset ≡ distance_after v.tcb.receiver.next header.seq_number = offset_is ∙ ap (λ (x : SeqNumber). distance_after x header.seq_number) next_is in
    let old : before ≡ distance_before v.tcb.receiver.next header.seq_number = before_is ∙ ap (λ (x : SeqNumber). distance_before x header.seq_number) next_is in
    let left : take (length bytes - n) (drop n bytes) ≡ drop (distance_before v.tcb.receiver.next header.seq_number) bytes =
    take_all (length bytes - n) (drop n bytes) (omega (arith, length-drop n bytes)) ∙ ap (λ (k : ℕ). drop k bytes) n_is ∙ drop_min before bytes
    ∙ ap (λ (k : ℕ). drop k bytes) old
    in
    is ∙ ap (λ (k : ℕ). with_payload_at v k (take (length bytes - n) (drop n bytes))) far
    ∙ ap (λ (xs : List ℕ). with_payload_at v (distance_after v.tcb.receiver.next header.seq_number) xs) left

-- bytes that are cut at the end of the window
pub payload_at : (v : TcpValue) (offset n : ℕ) (bytes : List ℕ) (t : DataStored) → accepts_data v.tcb.state ≡ true → (length bytes == 0) ≡ false → offset < free_in v →
    n ≡ min (length bytes) (free_in v - offset) → t ≡ with_bytes_at v offset (take n bytes) → t ≡ with_payload_at v offset bytes
payload_at v offset n bytes t takes some fits n_is is =
    is
    ∙ ap (λ (map : List (Option ℕ)). if offset == 0 then taken_in_order v map else out_of_order v offset map) (stored_cut v.received.map offset n bytes n_is)
    ∙ new_payload (accepts_data v.tcb.state) (length bytes == 0) (nat_lt offset (free_in v)) (with_bytes_at v offset bytes) (data_stored v 0 false None) takes some
    (below offset (free_in v) fits)

-- what a step answers and leaves
pub record Leads (a : Arrived) (reply : Option Reply) (after : TcpValue) : Type 0 where
  pub answer : reply ≡ a.answer
  pub socket : after ≡ a.socket

pub leads_to : (F : TcpValue → Arrived) (w w' : TcpValue) (answer : Option Reply) (socket : TcpValue) → w ≡ w' → answer ≡ (F w).answer → socket ≡ (F w).socket →
    Leads (F w') answer socket
leads_to F w w' answer socket is a s = subst (λ (x : TcpValue). Leads (F x) answer socket) is (record { answer = a; socket = s })

-- the FIN is taken, and then the probe's instant may end
pub finish_leads : (cx : ContextValue) (next : SeqNumber) (b b2 : Tcb) (r : Received) (q : Ring ℕ) (o : Option OpenOffer) (v w : TcpValue) (advance : ℕ)
    (fills : Bool) (early : Option ℕ) (ip : IpRepr) (header : TcpHeader) (size n : ℕ) (now : ℤ) (answer : Option Reply) (socket : TcpValue)
    → value_of b r q o ≡ w → now ≡ cx.instant → n ≡ length q.queue → w ≡ with_tcb v (with_fin v.tcb (next_at v.tcb next) header size advance now) →
    b2 ≡ probe_kept b n
    → answer ≡ (answer_for cx (value_of b2 r q o) ip header size fills early).answer →
    socket ≡ (answer_for cx (value_of b2 r q o) ip header size fills early).socket
    → Leads (finished cx (next_at v.tcb next) (data_stored v advance fills early) ip header size) answer socket
finish_leads cx next b b2 r q o v w advance fills early ip header size n now answer socket is now_is n_is w_is b2_is a s =
    let moved : b2 ≡ probe_kept b (length q.queue) = rw (b2_is, n_is) refl in
    let F = λ (x : TcpValue). answer_for cx (with_tcb x (probe_kept x.tcb (queued_in x))) ip header size fills early in
    let first : Leads (F (value_of b r q o)) answer socket =
    subst (λ (x : Tcb). Leads (answer_for cx (value_of x r q o) ip header size fills early) answer socket) moved (record { answer = a; socket = s })
    in
    let all : value_of b r q o ≡ with_tcb v (with_fin v.tcb (next_at v.tcb next) header size advance cx.instant) =
    is ∙ w_is ∙ ap (λ (m : ℤ). with_tcb v (with_fin v.tcb (next_at v.tcb next) header size advance m)) now_is
    in
    subst (λ (x : TcpValue). Leads (F x) answer socket) all first

-- TEXT LEAVES THE STATE

state_held : (v : TcpValue) (offset : ℕ) (map : List (Option ℕ)) → (out_of_order v offset map).socket.tcb.state ≡ v.tcb.state
state_held v offset map =
    elim (nat_le (length (runs_of map)) 32) as
    (λ t. (if t then data_stored (record v { received = received_of v.received.waiting map v.received.start }) 0 false (Some offset) else data_stored v 0 false
    None).socket.tcb.state ≡ v.tcb.state) [ true ↦ refl | false ↦ refl ]

state_bytes : (v : TcpValue) (offset : ℕ) (bytes : List ℕ) → (with_bytes_at v offset bytes).socket.tcb.state ≡ v.tcb.state
state_bytes v offset bytes =
    let map = laid v offset bytes in
    elim (offset == 0) as (λ t. (if t then taken_in_order v map else out_of_order v offset map).socket.tcb.state ≡
    v.tcb.state) [ true ↦ refl | false ↦ state_held v offset map ]

state_payload : (v : TcpValue) (offset : ℕ) (bytes : List ℕ) → (with_payload_at v offset bytes).socket.tcb.state ≡ v.tcb.state
state_payload v offset bytes =
    elim (accepts_data v.tcb.state && has_new_payload v offset bytes) as
    (λ t. (if t then with_bytes_at v offset bytes else data_stored v 0 false None).socket.tcb.state ≡
    v.tcb.state) [ true ↦ state_bytes v offset bytes | false ↦ refl ]

-- the FIN is taken by the state and RCV.NXT alone
abbrev fin_by : ContextValue → State → SeqNumber → DataStored → IpRepr → TcpHeader → ℕ → Arrived
fin_by cx state next t ip header size =
    finished cx (record (next_at t.socket.tcb next) { state = state }) t ip header size

state_by : (stored : Option ℕ) (v : TcpValue) (header : TcpHeader) (bytes : List ℕ) → (payload_by stored v header bytes).socket.tcb.state ≡ v.tcb.state
state_by None v header bytes = state_payload v (distance_after v.tcb.receiver.next header.seq_number) (drop (distance_before v.tcb.receiver.next header.seq_number) bytes)
state_by (Some count) v header bytes = refl

-- the payload is taken, then the FIN
pub content_leads : (stored : Option ℕ) (cx : ContextValue) (next : SeqNumber) (v w : TcpValue) (advance : ℕ) (fills : Bool) (early : Option ℕ) (ip : IpRepr)
    (header : TcpHeader) (bytes : List ℕ) (answer : Option Reply) (socket : TcpValue)
    → next ≡ v.tcb.receiver.next → data_stored w advance fills early ≡ payload_by stored v header bytes
    → answer ≡ (finished cx (next_at w.tcb next) (data_stored w advance fills early) ip header (length bytes)).answer →
    socket ≡ (finished cx (next_at w.tcb next) (data_stored w advance fills early) ip header (length bytes)).socket
    → Leads (content_by stored cx v ip header bytes) answer socket
content_leads stored cx next v w advance fills early ip header bytes answer socket next_is payload a s =
    let size = length bytes in
    let t = payload_by stored v header bytes in
    let first : Leads (fin_by cx t.socket.tcb.state next t ip header size) answer socket =
    subst (λ (x : DataStored). Leads (fin_by cx x.socket.tcb.state next x ip header size) answer socket) payload (record { answer = a; socket = s })
    in
    let second : Leads (fin_by cx t.socket.tcb.state v.tcb.receiver.next t ip header size) answer socket =
    subst (λ (n : SeqNumber). Leads (fin_by cx t.socket.tcb.state n t ip header size) answer socket) next_is first
    in
    subst (λ (x : State). Leads (fin_by cx x v.tcb.receiver.next t ip header size) answer socket) (state_by stored v header bytes) second

if_open : (closed : Bool) (a b : Arrived) (answer : Option Reply) (socket : TcpValue) → closed ≡ false → Leads b answer socket →
    Leads (if closed then a else b) answer socket
if_open true a b answer socket is leads = absurd (cc)
if_open false a b answer socket is leads = leads

-- the window is taken, then payload and FIN
pub rest_leads : (stored : Option ℕ) (cx : ContextValue) (duplicates : ℕ) (v w : TcpValue) (ip : IpRepr) (header : TcpHeader) (bytes : List ℕ)
    (answer : Option Reply) (socket : TcpValue)
    → is_closed v.tcb.state ≡ false → w ≡ told v header duplicates cx.instant
    → answer ≡ (content_by stored cx w ip header bytes).answer → socket ≡ (content_by stored cx w ip header bytes).socket
    → Leads (rest_by stored cx duplicates v ip header bytes) answer socket
rest_leads stored cx duplicates v w ip header bytes answer socket opened w_is a s =
    let counts = told v header duplicates cx.instant in
    let first = leads_to (λ (x : TcpValue). content_by stored cx x ip header bytes) w counts answer socket w_is a s in
    if_open (is_closed v.tcb.state) (dropped v) (content_by stored cx counts ip header bytes) answer socket opened first

-- the acknowledgement is taken, then the rest
pub taken_leads : (stored : Option ℕ) (cx : ContextValue) (duplicates : ℕ) (v w : TcpValue) (now : ℤ) (ip : IpRepr) (header : TcpHeader) (bytes : List ℕ) (by : ℕ)
    (answer : Option Reply) (socket : TcpValue)
    → duplicates ≡ duplicates_after v.tcb header (length bytes) by → now ≡ cx.instant → w ≡ acknowledged (tsecr_heard v header by now) by now
    → answer ≡ (rest_by stored cx duplicates w ip header bytes).answer → socket ≡ (rest_by stored cx duplicates w ip header bytes).socket
    → Leads (taken_by stored cx v ip header bytes by) answer socket
taken_leads stored cx duplicates v w now ip header bytes by answer socket count now_is w_is a s =
    let acked : w ≡ acknowledged (tsecr_heard v header by cx.instant) by cx.instant =
    w_is ∙ ap (λ (m : ℤ). acknowledged (tsecr_heard v header by m) by m) now_is
    in
    let first : Leads (rest_by stored cx (duplicates_after v.tcb header (length bytes) by) w ip header bytes) answer socket =
    subst (λ (n : ℕ). Leads (rest_by stored cx n w ip header bytes) answer socket) count (record { answer = a; socket = s })
    in
    leads_to (λ (x : TcpValue). rest_by stored cx (duplicates_after v.tcb header (length bytes) by) x ip header bytes) w
    (acknowledged (tsecr_heard v header by cx.instant) by cx.instant) answer socket acked first.answer first.socket

-- of two arrivals the first, or the second
pub so_leads : (t : Bool) (a b : Arrived) (answer : Option Reply) (socket : TcpValue) → t ≡ true → Leads a answer socket → Leads (if t then a else b) answer socket
so_leads true a b answer socket is leads = leads
so_leads false a b answer socket is leads = absurd (cc)

-- an acknowledgement that is old: payload and FIN are taken
pub old_leads : (cx : ContextValue) (b b1 b2 : Tcb) (r : Received) (q : Ring ℕ) (o : Option OpenOffer) (v : TcpValue) (now : ℤ) (ip : IpRepr)
    (header : TcpHeader) (bytes : List ℕ) (answer : Option Reply) (socket : TcpValue)
    → value_of b r q o ≡ v → is_in_window b (length r.map) header (length bytes) ≡ true → b1 ≡ heard b → b2 ≡ tsval_taken b1 header now → now ≡ cx.instant
    → answer ≡ (with_content cx (value_of b2 r q o) ip header bytes).answer → socket ≡ (with_content cx (value_of b2 r q o) ip header bytes).socket
    → Leads (checked Old cx v ip header bytes) answer socket
old_leads cx b b1 b2 r q o v now ip header bytes answer socket is window heard_is tsval_is now_is a s =
    let stamped : b2 ≡ tsval_taken (heard b) header cx.instant =
    tsval_is ∙ ap (λ (x : Tcb). tsval_taken x header now) heard_is ∙ ap (λ (m : ℤ). tsval_taken (heard b) header m) now_is
    in
    let first : Leads (with_content cx (value_of (tsval_taken (heard b) header cx.instant) r q o) ip header bytes) answer socket =
    subst (λ (x : Tcb). Leads (with_content cx (value_of x r q o) ip header bytes) answer socket) stamped (record { answer = a; socket = s })
    in
    let second : Leads (checked Old cx (value_of b r q o) ip header bytes) answer socket =
    so_leads (is_in_window b (length r.map) header (length bytes)) (with_content cx (value_of (tsval_taken (heard b) header cx.instant) r q o) ip header bytes)
    (outside cx (value_of b r q o) ip header (is_repeated (value_of b r q o) header (length bytes))) answer socket window
    first
    in
    subst (λ (x : TcpValue). Leads (checked Old cx x ip header bytes) answer socket) is second

-- outside the window, with an acknowledgement that is taken
pub outside_leads : (cx : ContextValue) (v w : TcpValue) (now : ℤ) (ip : IpRepr) (header : TcpHeader) (size by : ℕ) (tells again : Bool)
    (answer : Option Reply) (socket : TcpValue)
    → tells ≡ true → tells ≡ is_before_window v header size → again ≡ has_length header size → now ≡ cx.instant
    → w ≡ acknowledged (tsecr_heard v header by now) by now
    → answer ≡ (outside cx w ip header again).answer → socket ≡ (outside cx w ip header again).socket
    → Leads (passed_outside cx v ip header size by) answer socket
outside_leads cx v w now ip header size by tells again answer socket is tells_is again_is now_is w_is a s =
    let told_of : TcpValue = acknowledged (tsecr_heard v header by cx.instant) by cx.instant in
    let acked : w ≡ told_of = w_is ∙ ap (λ (m : ℤ). acknowledged (tsecr_heard v header by m) by m) now_is in
    let first : Leads (outside cx w ip header (has_length header size)) answer socket =
    subst (λ (b : Bool). Leads (outside cx w ip header b) answer socket) again_is (record { answer = a; socket = s })
    in
    let second : Leads (outside cx told_of ip header (has_length header size)) answer socket =
    leads_to (λ (x : TcpValue). outside cx x ip header (has_length header size)) w told_of answer socket acked first.answer first.socket
    in
    so_leads (is_before_window v header size) (outside cx told_of ip header (has_length header size)) (outside cx v ip header false) answer socket
    (sym tells_is ∙ is) second

-- IN SYN-SENT

-- the socket as one of two, and no answer
either_dropped : (t : Bool) (a b w : TcpValue) → w ≡ (if t then a else b) → Leads (if t then dropped a else dropped b) None w
either_dropped true a b w is = record { answer = refl; socket = is }
either_dropped false a b w is = record { answer = refl; socket = is }

abbrev refused : TcpValue → TcpHeader → Arrived
refused v header = if acks_syn v.tcb.sender.una header.ack_number then dropped (ended v) else dropped v

abbrev with_syn : ContextValue → TcpValue → TcpHeader → TcpValue
with_syn cx v header = with_tcb v (timeout_restarted (syn_answered v.tcb header cx.instant) cx.instant (queued_in v))

abbrev taken_if : Bool → ContextValue → TcpValue → TcpHeader → Arrived
taken_if syn cx v header = if syn then dropped (with_syn cx v header) else dropped v

abbrev acks_another : TcpValue → TcpHeader → Bool
acks_another v header = is_some header.ack_number && not (acks_syn v.tcb.sender.una header.ack_number)

abbrev no_reset : ContextValue → TcpValue → IpRepr → TcpHeader → List ℕ → Arrived
no_reset cx v ip header bytes =
    if acks_another v header then answered_with v (rst_reply ip header (length bytes)) else taken_if (is_syn header.control) cx v header

-- a reset comes
pub refusal_leads : (cx : ContextValue) (v w : TcpValue) (ip : IpRepr) (header : TcpHeader) (bytes : List ℕ) → is_rst header.control ≡ true
    → w ≡ (if acks_syn v.tcb.sender.una header.ack_number then ended v else v) → Leads (takes_answer cx v ip header bytes) None w
refusal_leads cx v w ip header bytes is w_is =
    so_leads (is_rst header.control) (refused v header) (no_reset cx v ip header bytes) None w is
    (either_dropped (acks_syn v.tcb.sender.una header.ack_number) (ended v) v w w_is)

-- something else is acknowledged
pub reset_leads : (cx : ContextValue) (v : TcpValue) (ip : IpRepr) (header : TcpHeader) (bytes : List ℕ) → is_rst header.control ≡ false
    → acks_another v header ≡ true → Leads (takes_answer cx v ip header bytes) (Some (rst_reply ip header (length bytes))) v
reset_leads cx v ip header bytes no_rst is =
    let reply = Some (rst_reply ip header (length bytes)) in
    if_open (is_rst header.control) (refused v header) (no_reset cx v ip header bytes) reply v no_rst
    (so_leads (acks_another v header) (answered_with v (rst_reply ip header (length bytes))) (taken_if (is_syn header.control) cx v header) reply v is
    (record { answer = refl; socket = refl }))

taken_leads_to : (cx : ContextValue) (v w : TcpValue) (ip : IpRepr) (header : TcpHeader) (bytes : List ℕ) → is_rst header.control ≡ false
    → acks_another v header ≡ false → Leads (taken_if (is_syn header.control) cx v header) None w → Leads (takes_answer cx v ip header bytes) None w
taken_leads_to cx v w ip header bytes no_rst no_other leads =
    if_open (is_rst header.control) (refused v header) (no_reset cx v ip header bytes) None w no_rst
    (if_open (acks_another v header) (answered_with v (rst_reply ip header (length bytes))) (taken_if (is_syn header.control) cx v header) None w no_other leads)

-- a SYN comes
pub syn_leads : (cx : ContextValue) (v w : TcpValue) (now : ℤ) (ip : IpRepr) (header : TcpHeader) (bytes : List ℕ) → is_rst header.control ≡ false
    → acks_another v header ≡ false → is_syn header.control ≡ true → now ≡ cx.instant
    → w ≡ with_tcb v (timeout_restarted (syn_answered v.tcb header now) now (queued_in v)) → Leads (takes_answer cx v ip header bytes) None w
syn_leads cx v w now ip header bytes no_rst no_other syn now_is w_is =
    let answered : w ≡ with_syn cx v header =
    w_is ∙ ap (λ (m : ℤ). with_tcb v (timeout_restarted (syn_answered v.tcb header m) m (queued_in v))) now_is
    in
    taken_leads_to cx v w ip header bytes no_rst no_other
    (so_leads (is_syn header.control) (dropped (with_syn cx v header)) (dropped v) None w syn (record { answer = refl; socket = answered }))

-- nothing that counts comes
pub nothing_leads : (cx : ContextValue) (v : TcpValue) (ip : IpRepr) (header : TcpHeader) (bytes : List ℕ) → is_rst header.control ≡ false
    → acks_another v header ≡ false → is_syn header.control ≡ false → Leads (takes_answer cx v ip header bytes) None v
nothing_leads cx v ip header bytes no_rst no_other no_syn =
    taken_leads_to cx v v ip header bytes no_rst no_other
    (if_open (is_syn header.control) (dropped (with_syn cx v header)) (dropped v) None v no_syn (record { answer = refl; socket = refl }))

-- a SYN is taken by the block, and the user timeout starts
pub syn_taken : (b b1 b2 : Tcb) (r : Received) (q : Ring ℕ) (o : Option OpenOffer) (v : TcpValue) (now : ℤ) (n : ℕ) (header : TcpHeader)
    → value_of b r q o ≡ v → b1 ≡ syn_answered b header now → b2 ≡ timeout_restarted b1 now n → n ≡ length q.queue
    → value_of b2 r q o ≡ with_tcb v (timeout_restarted (syn_answered v.tcb header now) now (queued_in v))
syn_taken b b1 b2 r q o v now n header is answered restarted n_is =
    let all : b2 ≡ timeout_restarted (syn_answered b header now) now (length q.queue) =
    restarted ∙ ap (λ (x : Tcb). timeout_restarted x now n) answered
    ∙ ap (λ (k : ℕ). timeout_restarted (syn_answered b header now) now k) n_is
    in
    ap (λ (x : Tcb). value_of x r q o) all
    ∙ ap (λ (x : TcpValue). with_tcb x (timeout_restarted (syn_answered x.tcb header now) now (queued_in x))) is

-- WHAT ANSWERS A SEGMENT

abbrev told_all : TcpValue → TcpValue
told_all v = with_tcb v (ack_recorded v.tcb (room_of v.received) (window_of v))

-- an acknowledgement of all that came
pub acked_leads : (cx : ContextValue) (v w : TcpValue) (window : ℕ) (ip : IpRepr) (header : TcpHeader) (size : ℕ) → window ≡ window_of v → w ≡ told_all v
    → Leads (acked cx v ip header no_ranges) (Some (reply_of (Is.Ack window) cx.instant w ip header size)) w
acked_leads cx v w window ip header size window_is w_is =
    let all : Leads (acked cx v ip header no_ranges) (Some (reply_of (Is.Ack (window_of v)) cx.instant (told_all v) ip header size)) (told_all v) =
    record { answer = refl; socket = refl }
    in
    subst (λ (x : TcpValue). Leads (acked cx v ip header no_ranges) (Some (reply_of (Is.Ack window) cx.instant x ip header size)) x) (sym w_is)
    (subst (λ (n : ℕ). Leads (acked cx v ip header no_ranges) (Some (reply_of (Is.Ack n) cx.instant (told_all v) ip header size)) (told_all v)) (sym window_is) all)

-- the same of payload that is held early
pub held_leads : (cx : ContextValue) (v w : TcpValue) (window offset : ℕ) (early : Option ℕ) (ip : IpRepr) (header : TcpHeader) (size : ℕ) (fills : Bool)
    → early ≡ Some offset → window ≡ window_of v → w ≡ told_all v
    → Leads (answer_for cx v ip header size fills early) (Some (reply_of (Is.AckWithSack window offset) cx.instant w ip header size)) w
held_leads cx v w window offset early ip header size fills early_is window_is w_is =
    let at = answer_for cx v ip header size fills (Some offset) in
    let all : Leads at (Some (reply_of (Is.AckWithSack (window_of v) offset) cx.instant (told_all v) ip header size)) (told_all v) =
    record { answer = refl; socket = refl }
    in
    let with_window : Leads at (Some (reply_of (Is.AckWithSack window offset) cx.instant (told_all v) ip header size)) (told_all v) =
    subst (λ (n : ℕ). Leads at (Some (reply_of (Is.AckWithSack n offset) cx.instant (told_all v) ip header size)) (told_all v)) (sym window_is) all
    in
    let with_socket : Leads at (Some (reply_of (Is.AckWithSack window offset) cx.instant w ip header size)) w =
    subst (λ (x : TcpValue). Leads at (Some (reply_of (Is.AckWithSack window offset) cx.instant x ip header size)) x) (sym w_is) with_window
    in
    subst (λ (o : Option ℕ). Leads (answer_for cx v ip header size fills o) (Some (reply_of (Is.AckWithSack window offset) cx.instant w ip header size)) w)
    (sym early_is) with_socket

-- what was taken is acknowledged at once, where so much came
pub at_once_leads : (cx : ContextValue) (v w : TcpValue) (window : ℕ) (at_once : Bool) (ip : IpRepr) (header : TcpHeader) (size : ℕ) (fills : Bool)
    → at_once ≡ true → at_once ≡ answers_at_once cx v.tcb ip header size → window ≡ window_of v → w ≡ told_all v
    → Leads (answer_for cx v ip header size fills None) (Some (reply_of (Is.Ack window) cx.instant w ip header size)) w
at_once_leads cx v w window at_once ip header size fills is at_once_is window_is w_is =
    so_leads (answers_at_once cx v.tcb ip header size) (acked cx v ip header no_ranges)
    (dropped (with_tcb v (ack_due v.tcb header size fills cx.instant))) _ _ (sym at_once_is ∙ is)
    (acked_leads cx v w window ip header size window_is w_is)

-- else later
pub delayed_leads : (cx : ContextValue) (v w : TcpValue) (now : ℤ) (at_once : Bool) (ip : IpRepr) (header : TcpHeader) (size : ℕ) (fills : Bool)
    → at_once ≡ false → at_once ≡ answers_at_once cx v.tcb ip header size → now ≡ cx.instant
    → w ≡ with_tcb v (ack_due v.tcb header size fills now) → Leads (answer_for cx v ip header size fills None) None w
delayed_leads cx v w now at_once ip header size fills is at_once_is now_is w_is =
    if_open (answers_at_once cx v.tcb ip header size) (acked cx v ip header no_ranges)
    (dropped (with_tcb v (ack_due v.tcb header size fills cx.instant))) None w (sym at_once_is ∙ is)
    (record { answer = refl; socket = w_is ∙ ap (λ (m : ℤ). with_tcb v (ack_due v.tcb header size fills m)) now_is })

-- outside the window: what arrives again is acknowledged, of other segments an acknowledgement may be drawn
pub again_leads : (cx : ContextValue) (v w : TcpValue) (again : Bool) (now : ℤ) (ip : IpRepr) (header : TcpHeader) (answer : Option Reply) (socket : TcpValue)
    → is_closed v.tcb.state ≡ false → now ≡ cx.instant → w ≡ waiting_anew v header now
    → answer ≡ (if again then acked cx w ip header no_ranges else drawn cx w ip header).answer
    → socket ≡ (if again then acked cx w ip header no_ranges else drawn cx w ip header).socket
    → Leads (outside cx v ip header again) answer socket
again_leads cx v w again now ip header answer socket opened now_is w_is a s =
    let waits = waiting_anew v header cx.instant in
    let all : w ≡ waits = w_is ∙ ap (λ (m : ℤ). waiting_anew v header m) now_is in
    if_open (is_closed v.tcb.state) (dropped v) (if again then acked cx waits ip header no_ranges else drawn cx waits ip header) answer socket opened
    (leads_to (λ (x : TcpValue). if again then acked cx x ip header no_ranges else drawn cx x ip header) w waits answer socket all a s)

pub closed_leads : (cx : ContextValue) (v : TcpValue) (again : Bool) (ip : IpRepr) (header : TcpHeader) → is_closed v.tcb.state ≡ true
    → Leads (outside cx v ip header again) None v
closed_leads cx v again ip header closed =
    let waits = waiting_anew v header cx.instant in
    so_leads (is_closed v.tcb.state) (dropped v) (if again then acked cx waits ip header no_ranges else drawn cx waits ip header) None v closed
    (record { answer = refl; socket = refl })

-- no word is drawn but in LISTEN
pub quiet_in : (state : State) (cx : ContextValue) (v : TcpValue) (ip : IpRepr) (header : TcpHeader) (bytes : List ℕ) → (state ≡ In.Listen → ⊥) →
    (arrives_in state cx v ip header bytes).draws ≡ false
quiet_in In.Closed cx v ip header bytes not_listen = refl
quiet_in In.Listen cx v ip header bytes not_listen = absurd (not_listen refl)
quiet_in In.SynSent cx v ip header bytes not_listen = takes_answer_draws cx v ip header bytes
quiet_in other cx v ip header bytes not_listen = received_draws cx v ip header bytes

pub not_drawn : {X : Type 0} (cx drawn : X) (draws : Bool) → draws ≡ false → cx ≡ (if draws then drawn else cx)
not_drawn cx drawn true is = absurd (cc)
not_drawn cx drawn false is = refl

-- from SYN-RECEIVED on
pub later_leads : (cx : ContextValue) (v : TcpValue) (ip : IpRepr) (header : TcpHeader) (bytes : List ℕ) (answer : Option Reply) (socket : TcpValue)
    → (v.tcb.state ≡ In.Closed → ⊥) → (v.tcb.state ≡ In.Listen → ⊥) → (v.tcb.state ≡ In.SynSent → ⊥)
    → answer ≡ (received cx v ip header bytes).answer → socket ≡ (received cx v ip header bytes).socket
    → Leads (arrives_in v.tcb.state cx v ip header bytes) answer socket
later_leads cx v ip header bytes answer socket closed listens opens a s =
    subst (λ (x : Arrived). Leads x answer socket) (sym (later_arrives v.tcb.state cx v ip header bytes closed listens opens))
    (record { answer = a; socket = s })

abbrev no_reset_received : ContextValue → TcpValue → IpRepr → TcpHeader → List ℕ → Arrived
no_reset_received cx v ip header bytes =
    if challenges_first v.tcb header cx.instant then drawn cx v ip header
    else checked (acknowledgement_check v.tcb header.ack_number) cx v ip header bytes

-- of these: a reset, what elicits an acknowledgement first, and what is checked
pub reset_received : (cx : ContextValue) (v : TcpValue) (ip : IpRepr) (header : TcpHeader) (bytes : List ℕ) (answer : Option Reply) (socket : TcpValue)
    → is_rst header.control ≡ true → answer ≡ (reset_arrives cx v ip header (length bytes)).answer → socket ≡ (reset_arrives cx v ip header (length bytes)).socket
    → Leads (received cx v ip header bytes) answer socket
reset_received cx v ip header bytes answer socket is a s =
    so_leads (is_rst header.control) (reset_arrives cx v ip header (length bytes)) (no_reset_received cx v ip header bytes) answer socket is
    (record { answer = a; socket = s })

pub drawn_received : (cx : ContextValue) (v : TcpValue) (ip : IpRepr) (header : TcpHeader) (bytes : List ℕ) (now : ℤ) (answer : Option Reply) (socket : TcpValue)
    → is_rst header.control ≡ false → challenges_first v.tcb header now ≡ true → now ≡ cx.instant
    → answer ≡ (drawn cx v ip header).answer → socket ≡ (drawn cx v ip header).socket → Leads (received cx v ip header bytes) answer socket
drawn_received cx v ip header bytes now answer socket no_rst draws now_is a s =
    if_open (is_rst header.control) (reset_arrives cx v ip header (length bytes)) (no_reset_received cx v ip header bytes) answer socket no_rst
    (so_leads (challenges_first v.tcb header cx.instant) (drawn cx v ip header) (checked (acknowledgement_check v.tcb header.ack_number) cx v ip header bytes)
    answer socket (subst (λ (m : ℤ). challenges_first v.tcb header m ≡ true) now_is draws) (record { answer = a; socket = s }))

pub checked_received : (cx : ContextValue) (v : TcpValue) (ip : IpRepr) (header : TcpHeader) (bytes : List ℕ) (now : ℤ) (answer : Option Reply)
    (socket : TcpValue)
    → is_rst header.control ≡ false → challenges_first v.tcb header now ≡ false → now ≡ cx.instant
    → answer ≡ (checked (acknowledgement_check v.tcb header.ack_number) cx v ip header bytes).answer
    → socket ≡ (checked (acknowledgement_check v.tcb header.ack_number) cx v ip header bytes).socket → Leads (received cx v ip header bytes) answer socket
checked_received cx v ip header bytes now answer socket no_rst draws now_is a s =
    if_open (is_rst header.control) (reset_arrives cx v ip header (length bytes)) (no_reset_received cx v ip header bytes) answer socket no_rst
    (if_open (challenges_first v.tcb header cx.instant) (drawn cx v ip header) (checked (acknowledgement_check v.tcb header.ack_number) cx v ip header bytes)
    answer socket (subst (λ (m : ℤ). challenges_first v.tcb header m ≡ false) now_is draws) (record { answer = a; socket = s }))

-- an answer that is handed out
some_reply : (x y : Reply) → Some x ≡ Some y → x ≡ y
some_reply x y is = cc

pub sent_out : (r : IpRepr × TcpRepr) (reply : Reply) (o : Option Reply) → replies_in (Some r) ≡ Some reply → r.1.payload.now ≡ [] → o ≡ Some reply →
    IfSome o (λ x. IsSendable (packet_in x)) → IsSendable (packet_with r)
sent_out r reply o is bare some sendable =
    let at : IsSendable (packet_in reply) = subst (λ (x : Option Reply). IfSome x (λ y. IsSendable (packet_in y))) some sendable in
    let same : record { header = r.0; segment = header_of r.1 } ≡ reply = some_reply (record { header = r.0; segment = header_of r.1 }) reply is in
    let out : IsSendable (packet_of r.0 (Carried.Segment (header_of r.1) [])) = subst (λ (x : Reply). IsSendable (packet_in x)) (sym same) at in
    subst (λ (bytes : List ℕ). IsSendable (packet_of r.0 (Carried.Segment (header_of r.1) bytes))) (sym bare) out
