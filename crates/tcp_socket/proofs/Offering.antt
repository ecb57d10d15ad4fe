-- What is offered lies in the send ring, near SND.UNA.
use Rattle.std.proofs.Common.{◌≡◌, ℕ, ◌+◌, ◌-◌, ◌%◌, ◌/◌, ◌==◌, ◌&&◌, ◌^◌, ◌<◌, ◌≤◌, nat_lt, nat_le, min, max, ℤ, Bool, true, false, length, Option, None}
use Rattle.std.proofs.Common.{if◌then◌else◌, refl, sym, ap, ◌∙◌, arith, inl, inr, List, ◌++◌, take, drop, length-drop}
use Rattle.std.proofs.Math.Nat.{add-mod_left, mod-add-mod, mod-eq_of_lt}
use Rattle.std.proofs.Math.Seq.{take-add}
use Rattle.std.proofs.lemmas.Bool.{cases_lt}
use Rattle.std.proofs.lemmas.List.{take_all, drop-drop}
use Rattle.std.proofs.lemmas.Bool.Decides.{nat_tests}
use Rattle.ip_wire.specs.Control.{control_len}
use Rattle.ip_wire.specs.Seq.{distance_of}
use Rattle.ip_wire.specs.SeqNumber.{SeqNumber}
use Rattle.ip_wire.specs.TcpControl.{TcpControl}
use Rattle.ip_wire.specs.TcpControl.TheVariants as Control
use Rattle.ip_wire.specs.TcpHeader.{TcpHeader}
use Rattle.net_base.specs.Ring.{Ring, capacity, unbroken_queued}
use Rattle.socket_context.specs.Context.{ContextValue}
use Rattle.tcp_block.specs.TcbRules.{one_if, unacked}
use Rattle.tcp_block.specs.Moments.{is_due}
use Rattle.tcp_block.specs.Offers.{number_at}
use Rattle.tcp_block.specs.Offsets.{advanced_by}
use Rattle.tcp_block.specs.Probing.{is_window_small, is_probing, probe_deadline}
use Rattle.tcp_block.specs.Rules.{Choice, size_limit, congestion_limit, window_limit, next_offset, is_sendable, payload_choice, has_payload, resend_choice}
use Rattle.tcp_block.specs.Rules.{probe_choice, control_for, congestion_room, sent_count}
use Rattle.tcp_block.specs.Segments.{segment}
use Rattle.tcp_block.specs.Settled.{end_of}
use Rattle.tcp_block.specs.States.{owes_fin, may_send_data}
use Rattle.tcp_block.specs.Unsettled.{EndsNear}
use Rattle.tcp_block.specs.Value.{TcpValue, queued_in, window_of}
use Rattle.tcp_block.specs.AddressPair.{AddressPair}
use Rattle.tcp_block.specs.declared.tcb.Tcb.{Tcb}
use Rattle.tcp_block.specs.declared.tcb.CongestionControl.{CongestionControl}
use Rattle.tcp_block.specs.declared.tcb.CongestionControl.TheVariants as Congestion
use Rattle.tcp_block.specs.FourTuple.{FourTuple}
use Rattle.tcp_block.specs.OfferKind.{OfferKind}
use Rattle.tcp_block.specs.OfferKind.TheVariants as Kind
use Rattle.tcp_block.specs.OpenOffer.{OpenOffer}
use Rattle.tcp_block.proofs.Holes.{again_within}
use Rattle.tcp_socket.specs.Opening.{open_offer, MayOpen, IsPartOf}
use Rattle.tcp_socket.specs.Receive.{FitsBuffer}

both : (a b : Bool) → (a && b) ≡ true → (a ≡ true) × (b ≡ true)
both true b is = (refl, is)
both false b is = absurd (cc)

one_if_small : (t : Bool) → one_if t ≤ 1
one_if_small true = omega arith
one_if_small false = omega arith

control_small : (control : TcpControl) → control_len control ≤ 1
control_small Control.None = omega arith
control_small Control.Psh = omega arith
control_small Control.Syn = omega arith
control_small Control.Fin = omega arith
control_small Control.Rst = omega arith

congestion_small : (control : CongestionControl) (cwnd size : ℕ) → congestion_limit control cwnd size ≤ size
congestion_small Congestion.None cwnd size = omega arith
congestion_small other cwnd size = omega arith

pub window_small : (b : Tcb) (size : ℕ) → window_limit b size ≤ size
window_small b size =
    let least = congestion_small b.settings.congestion_control (congestion_room b) (min (b.peer.window - b.sender.flight_size) size) in
    omega arith

-- what the rules choose is a part of the send queue
pub part_of_payload : (v : TcpValue) (addresses : AddressPair) (ip_mtu : ℕ) → FitsBuffer v.queued → has_payload v.tcb addresses ip_mtu v.queued ≡ true →
    IsPartOf v (payload_choice v.tcb addresses ip_mtu v.queued)
part_of_payload v addresses ip_mtu fits has =
    let b = v.tcb in
    let sendable = is_sendable b (queued_in v) (size_limit b addresses ip_mtu) (payload_choice b addresses ip_mtu v.queued) in
    let below_end = nat_lt b.sender.flight_size (unacked b (queued_in v)) && sendable in
    let sends = both (may_send_data b.state) (nat_le (one_if b.sender.syn_unacked) b.sender.flight_size && below_end) has in
    let past = both (nat_le (one_if b.sender.syn_unacked) b.sender.flight_size) below_end sends.1 in
    let below = both (nat_lt b.sender.flight_size (unacked b (queued_in v))) sendable past.1 in
    let near : v.tcb.sender.flight_size < unacked v.tcb (queued_in v) = grind (arith, nat_tests, below.0) in
    let syn = one_if_small v.tcb.sender.syn_unacked in
    let fin = one_if_small (owes_fin v.tcb.state) in
    let least = window_small v.tcb (min (size_limit v.tcb addresses ip_mtu) (queued_in v - next_offset v.tcb)) in
    record { near = omega (arith, near, syn, fin, fits); within = omega (arith, least) }

pub part_of_resend : (v : TcpValue) (addresses : AddressPair) (ip_mtu : ℕ) → FitsBuffer v.queued → IsPartOf v (resend_choice v.tcb addresses ip_mtu v.queued)
part_of_resend v addresses ip_mtu fits =
    let within = again_within v.tcb (size_limit v.tcb addresses ip_mtu) (sent_count v.tcb) (queued_in v) in
    record { near = omega (arith, within, fits); within = omega arith }

unset : (t : Bool) (now : ℤ) (instant : Option ℤ) → is_due now (if t then instant else None) ≡ true → t ≡ true
unset true now instant is = refl
unset false now instant is = absurd (cc)

some_queued : (queued : ℕ) → (queued ≡ 0 → ⊥) → 1 ≤ queued - 0
some_queued queued some = omega (arith, some)

probing_small : (v : TcpValue) → is_probing v.tcb (queued_in v) ≡ true → (is_window_small v.tcb (queued_in v) ≡ true) ×
    ((v.tcb.sender.flight_size == 0) ≡ true)
probing_small v probing =
    let sends = both (may_send_data v.tcb.state) (is_window_small v.tcb (queued_in v) && (v.tcb.sender.flight_size == 0)) probing in
    both (is_window_small v.tcb (queued_in v)) (v.tcb.sender.flight_size == 0) sends.1

-- something is queued where less than that may go
window_limited : (limit queued enough : ℕ) → nat_lt limit (min queued enough) ≡ true → queued ≡ 0 → ⊥
window_limited limit queued enough small none = grind (arith, nat_tests, small, none)

pub part_of_probe : (v : TcpValue) (now : ℤ) → is_due now (probe_deadline v.tcb (queued_in v)) ≡ true → IsPartOf v probe_choice
part_of_probe v now due =
    let probing : is_probing v.tcb (queued_in v) ≡ true = unset (is_probing v.tcb (queued_in v)) now v.tcb.timers.probe_at due in
    let small = probing_small v probing in
    record {
      near = omega arith;
      within =
          some_queued (queued_in v) (window_limited (window_limit v.tcb (queued_in v)) (queued_in v) (max 1 (v.tcb.peer.largest_window / 2)) small.0);
    }

-- what a small window holds back is a part of the send queue
pub part_of_held : (v : TcpValue) (addresses : AddressPair) (ip_mtu : ℕ) (now : ℤ) → is_due now (probe_deadline v.tcb (queued_in v)) ≡ true
    → IsPartOf v (payload_choice v.tcb addresses ip_mtu v.queued)
part_of_held v addresses ip_mtu now due =
    let probing : is_probing v.tcb (queued_in v) ≡ true = unset (is_probing v.tcb (queued_in v)) now v.tcb.timers.probe_at due in
    let small = probing_small v probing in
    let idle : v.tcb.sender.flight_size ≡ 0 = grind (arith, nat_tests, small.1) in
    let least = window_small v.tcb (min (size_limit v.tcb addresses ip_mtu) (queued_in v - next_offset v.tcb)) in
    record { near = omega (arith, idle); within = omega (arith, least) }

-- a part of the send queue may be offered
distance_following : (a : SeqNumber) (n : ℕ) → a.0 < 2 ^ 32 → n < 2 ^ 32 → distance_of a (advanced_by a n) ≡ n
distance_following a n small near = omega (arith, small, near)

pub ends_near : (kind : OfferKind) (b : Tcb) (o : OpenOffer) → end_of b o < 2 ^ 32 → EndsNear kind b o
ends_near Kind.Syn b o is = is
ends_near Kind.FastRetransmission b o is = is
ends_near Kind.Payload b o is = is
ends_near Kind.Probe b o is = is
ends_near other b o is = tt

pub may_part : (kind : OfferKind) (cx : ContextValue) (v : TcpValue) (pair : FourTuple) (c : Choice) → FitsBuffer v.queued → v.tcb.sender.una.0 < 2 ^ 32 →
    IsPartOf v c
    → MayOpen v (open_offer kind cx v pair (segment v.tcb pair cx.instant (window_of v) (control_for c (queued_in v)) (number_at v.tcb c.offset))
    c.offset c.len)
may_part kind cx v pair c fits small part =
    let o = open_offer kind cx v pair (segment v.tcb pair cx.instant (window_of v) (control_for c (queued_in v)) (number_at v.tcb c.offset)) c.offset c.len in
    let syn = one_if_small v.tcb.sender.syn_unacked in
    let control = control_small (control_for c (queued_in v)) in
    let far : distance_of v.tcb.sender.una (number_at v.tcb c.offset) ≡ one_if v.tcb.sender.syn_unacked + c.offset =
    distance_following v.tcb.sender.una (one_if v.tcb.sender.syn_unacked + c.offset) small (omega (arith, syn, part.near)) in
    let end : end_of v.tcb o < 2 ^ 32 = rw far (omega (arith, syn, control, part.near, part.within, fits)) in
    record { end = ends_near kind v.tcb o end }

-- a segment without payload may be, wherever it stands
pub may_empty : (kind : OfferKind) (cx : ContextValue) (v : TcpValue) (pair : FourTuple) (header : TcpHeader) → control_len header.control ≡ 0 →
    MayOpen v (open_offer kind cx v pair header 0 0)
may_empty kind cx v pair header none =
    let o = open_offer kind cx v pair header 0 0 in
    record { end = ends_near kind v.tcb o (omega (arith, none)) }

pub may_syn : (cx : ContextValue) (v : TcpValue) (pair : FourTuple) (header : TcpHeader) → v.tcb.sender.una.0 < 2 ^ 32 →
    header.seq_number ≡ v.tcb.sender.una → MayOpen v (open_offer Kind.Syn cx v pair header 0 0)
may_syn cx v pair header small at =
    let o = open_offer Kind.Syn cx v pair header 0 0 in
    let control = control_small header.control in
    let far : distance_of v.tcb.sender.una v.tcb.sender.una ≡ 0 = omega (arith, small) in
    record { end = rw (at, far) (omega (arith, control)) }

-- the bytes of an open offer, where the send ring lends them in two parts: after its end the storage goes on at its first offset
goes_round : (at room : ℕ) → 0 < room → (at + (room - at % room)) % room ≡ 0
goes_round at room some =
    let below : at % room < room = omega (arith, some) in
    let whole : at % room + (room - at % room) ≡ room + 0 = omega (arith, below) in
    sym (mod-add-mod at room (room - at % room)) ∙ ap (λ (n : ℕ). n % room) whole ∙ add-mod_left room 0 ∙ mod-eq_of_lt some

second_reaches : (at room from left first : ℕ) → left ≤ room → first ≡ room - at % room → from ≡ at + first → left - first ≤ room - from % room
second_reaches at room from left first fits is there = elim (cases_lt 0 room) [
  | inl some ↦ let round : from % room ≡ 0 = rw (there, is) (goes_round at room some) in omega (arith, round, fits)
  | inr none ↦ omega (arith, none, fits)
]

reach : (len left ends more first second : ℕ) → first ≡ min len (min left ends) → second ≡ min (len - first) (min (left - first) more)
    → (first ≡ ends → left - first ≤ more) → min (first + second) left ≡ min len left
reach len left ends more first second is following reaches = elim (cases_lt first ends) [
  | inl before ↦ omega (arith, is, following, before)
  | inr past ↦ let enough = reaches (omega (arith, is, past)) in omega (arith, is, following, enough)
]

same_front : (xs : List ℕ) (a b : ℕ) → min a (length xs) ≡ min b (length xs) → take a xs ≡ take b xs
same_front xs a b same = elim (cases_lt a (length xs)) [
  | inl less ↦ ap (λ (n : ℕ). take n xs) (omega (arith, less, same))
  | inr all ↦ take_all a xs (omega (arith, all)) ∙ sym (take_all b xs (omega (arith, all, same)))
]

pub two_parts : (r : Ring ℕ) (offset len first second : ℕ) → first ≡ unbroken_queued r offset len → second ≡ unbroken_queued r (offset + first) (len - first)
    → take first (drop offset r.queue) ++ take second (drop (offset + first) r.queue) ≡ take len (drop offset r.queue)
two_parts r offset len first second is next =
    let left = length r.queue - offset in
    let ends = capacity r - (r.start + offset) % capacity r in
    let more = capacity r - (r.start + (offset + first)) % capacity r in
    let following : second ≡ min (len - first) (min (left - first) more) = next ∙ ap (λ (n : ℕ). min (len - first) (min n more)) (omega arith) in
    let all = reach len left ends more first second is following (λ at_end.
    second_reaches (r.start + offset) (capacity r) (r.start + (offset + first)) left first (omega arith) at_end (omega arith)) in
    rw (← drop-drop first offset r.queue, ← take-add first second (drop offset r.queue))
    (same_front (drop offset r.queue) (first + second) len (rw (length-drop offset r.queue) all))

pub not_zero : (n : ℕ) → (n ≡ 0 → ⊥) → (n == 0) ≡ false
not_zero n some = grind (arith, nat_tests, some)
