-- What is summed while it is copied: its checksum holds, and it is what was handed.
use Rattle.std.proofs.Common.{◌≡◌, ℕ, ◌+◌, ◌-◌, ◌%◌, ◌<◌, ◌≤◌, ◌^◌, Bool, false, if◌then◌else◌, List, length, take, drop, Option, None, Some, refl, sym, ap, ap₂, ◌∙◌}
use Rattle.std.proofs.Common.{arith, inr, length-take}
use Rattle.std.specs.Prelude.{◌&&◌, ◌||◌, not, is_some, slice_range}
use Rattle.std.proofs.lemmas.List.{take-append-drop, drop-take}
use Rattle.net_base.specs.ChecksumCapabilities.{ChecksumCapabilities}
use Rattle.wire_address.proofs.Covered.{folded-combined}
use Rattle.wire_address.proofs.Sums.{folded-folded, word_sum-append, ChecksumHolds-folded}
use Rattle.wire_address.specs.Fields.{be16}
use Rattle.wire_address.specs.Pseudo.{pseudo_of, covered}
use Rattle.wire_address.specs.Sum.{word_sum, folded, ChecksumHolds}
use Rattle.wire_address.specs.declared.ip.IpAddress.{IpAddress}
use Rattle.ip_wire.specs.Ip.{source_of, destination_of}
use Rattle.ip_wire.specs.IpRepr.{IpRepr}
use Rattle.ip_wire.specs.Tcp as Tcp
use Rattle.ip_wire.specs.TcpHeader.{TcpHeader}
use Rattle.ip_wire.specs.Udp as Udp
use Rattle.ip_wire.specs.UdpRepr.{UdpRepr}
use Rattle.socket_context.specs.Packet.{PacketValue, Datagram, Segment}
use Rattle.sockets.specs.Context.{ContextValue}
use Rattle.iface_tables.specs.Inner.{InnerValue, context_of}
use Rattle.iface_ingress.specs.Arrives.{ReplyValue, IsHanded, answered, arrived}
use Rattle.iface_ingress.specs.UpperLayer.{IsDatagram, IsSegment}
use Rattle.iface_ingress.specs.Datagrams.{GivenAt}
use Rattle.iface_ingress.specs.Delivered.{Slots, with_segment, answer_of, answer_at, draws_of, drawn_if, passes_at, changed_at, datagram_slot, segment_slot}
use Rattle.iface_ingress.specs.Delivered.{segment_answer_at}
use Rattle.iface_ingress.specs.Processed.{names_no_endpoint, counted, let_go, segment_reply, datagram_reply}
use Rattle.iface_ingress.specs.Replies.{port_unreachable}
use Rattle.iface_ingress.proofs.AtSlot.{delivered_at}

-- SUMS

-- the sums of the pseudo header, of a packet's front and of what is after it make that of all that the checksum covers
pub summed_apart : (source destination : IpAddress) (protocol : ℕ) (packet : List ℕ) (n pseudo head all : ℕ) → n % 2 ≡ 0 → n ≤ length packet
    → pseudo ≡ folded (word_sum (pseudo_of source destination protocol (length packet))) → head ≡ folded (word_sum (take n packet))
    → all ≡ folded (pseudo + head)
    → folded (all + word_sum (drop n packet)) ≡ folded (covered source destination protocol packet)
summed_apart source destination protocol packet n pseudo head all even within pseudo_is head_is all_is =
    let p : ℕ = word_sum (pseudo_of source destination protocol (length packet)) in
    let f : ℕ = word_sum (take n packet) in
    let t : ℕ = word_sum (drop n packet) in
    let len : length (take n packet) ≡ n = omega (arith, within, length-take n packet) in
    let parts : word_sum packet ≡ f + t =
    ap word_sum (sym (take-append-drop n packet)) ∙ word_sum-append (take n packet) (drop n packet) (ap (λ k. k % 2) len ∙ even) in
    let front : all ≡ folded (p + f) = all_is ∙ ap₂ (λ a b. folded (a + b)) pseudo_is head_is ∙ folded-combined p f in
    let total : p + f + t ≡ p + word_sum packet = omega (arith, parts) in
    ap (λ a. folded (a + t)) front ∙ folded-folded (p + f) t ∙ ap folded total

-- a checksum holds where the sum of all that it covers is all ones
holds : (total rest : ℕ) (one other : List ℕ) → folded (rest + word_sum one) ≡ folded total → other ≡ one → folded (rest + word_sum other) ≡ 65535 →
    ChecksumHolds total
holds total rest one other sums same ones = (ChecksumHolds-folded total).0 (sym sums ∙ ap (λ b. folded (rest + word_sum b)) (sym same) ∙ ones)

-- what a datagram carries is what stands after its header
pub carried_following : (bytes : List ℕ) (n : ℕ) → 8 ≤ n → drop 8 (take n bytes) ≡ slice_range bytes 8 n
carried_following bytes n least =
    let whole : n ≡ 8 + (n - 8) = omega (arith, least) in
    ap (λ k. drop 8 (take k bytes)) whole ∙ drop-take 8 (n - 8) bytes

-- and it is short
pub carried_short : (bytes payload : List ℕ) → be16 bytes 4 < 2 ^ 16 → payload ≡ Udp.payload_of bytes → length payload < 2 ^ 32
carried_short bytes payload short is = omega (arith, ap length is, short, length-take (be16 bytes 4 - 8) (drop 8 bytes))

-- SEGMENTS

pub segment_tested : (old caps : ChecksumCapabilities) (upper : IpRepr) (packet text : List ℕ) (header : TcpHeader) (rest : ℕ) →
    IsSegment old upper packet header text
    → folded (rest + word_sum (Tcp.payload_of packet)) ≡ folded (covered (source_of upper) (destination_of upper) 6 packet)
    → folded (rest + word_sum text) ≡ 65535 → IsSegment caps upper packet header text
segment_tested old caps upper packet text header rest is sums ones = record {
  protocol = is.protocol;
  format = record {
    whole = is.format.whole;
    source_port = is.format.source_port;
    destination_port = is.format.destination_port;
    source_accepted = is.format.source_accepted;
    destination_accepted = is.format.destination_accepted;
    checked = λ yes. holds (covered (source_of upper) (destination_of upper) 6 packet) rest (Tcp.payload_of packet) text sums is.bytes_are ones;
    control = is.format.control;
    sequence = is.format.sequence;
    acknowledgement = is.format.acknowledgement;
    window = is.format.window;
    options = is.format.options;
  };
  bytes_are = is.bytes_are;
}

host-by : (i : InnerValue) (nobody draws : Bool) (slot : Option ℕ) (at : ℕ) (reply : Option PacketValue) → nobody ≡ false → slot ≡ Some at → draws ≡ false →
    i ≡ counted (not nobody && not (is_some slot)) i reply (if nobody then i else drawn_if draws i)
host-by i nobody draws slot at reply somebody here quiet = rw (somebody, here, quiet) refl

reply-by : (i : InnerValue) (nobody : Bool) (slot : Option ℕ) (at : ℕ) (answer : Option PacketValue) → nobody ≡ false → slot ≡ Some at →
    answer ≡ let_go (not nobody && not (is_some slot)) i (if nobody then None else answer)
reply-by i nobody slot at answer somebody here = rw (somebody, here) refl

slots-by : (nobody : Bool) (old new : Slots) → nobody ≡ false → new ≡ (if nobody then old else new)
slots-by nobody old new somebody = rw somebody refl

-- a segment that its socket took in one pass was handed to it
pub segment_handed : (i : InnerValue) (slots after : Slots) (ip : IpRepr) (text : List ℕ) (header : TcpHeader) (at : ℕ) (reply : Option ReplyValue)
    → names_no_endpoint i ip ≡ false → segment_slot ip header slots ≡ Some at
    → reply ≡ answered (answer_at (answer_of (context_of i) ip header text) (Some at) slots)
    → after ≡ changed_at (with_segment (context_of i) ip header text) (Some at) slots
    → passes_at (draws_of (context_of i) ip header text) (Some at) slots ≡ false
    → (payload : List ℕ) (taken : Bool) → IsHanded i slots ip payload taken (Some (Segment header text)) (arrived i after reply)
segment_handed i slots after ip text header at reply somebody here answer change quiet payload taken =
    let cx : ContextValue = context_of i in
    let slot : Option ℕ = segment_slot ip header slots in
    let draws : Bool = passes_at (draws_of cx ip header text) slot slots in
    let answer_there : Option PacketValue = segment_answer_at slot cx ip header text taken slots in
    let at_index : answer_at (answer_of cx ip header text) (Some at) slots ≡ answer_there =
    ap (λ (o : Option ℕ). segment_answer_at o cx ip header text taken slots) (sym here) in
    record {
      inner = host-by i (names_no_endpoint i ip) draws slot at (segment_reply i slots ip taken header text) somebody here
          (ap (λ (o : Option ℕ). passes_at (draws_of cx ip header text) o slots) here ∙ quiet);
      slots_are = change ∙ ap (λ (o : Option ℕ). changed_at (with_segment cx ip header text) o slots) (sym here) ∙
          slots-by (names_no_endpoint i ip) slots (changed_at (with_segment cx ip header text) slot slots) somebody;
      reply = answer ∙ ap answered (at_index ∙ reply-by i (names_no_endpoint i ip) slot at answer_there somebody here);
    }

-- DATAGRAMS

pub datagram_tested : (old caps : ChecksumCapabilities) (upper : IpRepr) (packet bytes : List ℕ) (udp : UdpRepr) (rest : ℕ) → IsDatagram old upper packet udp bytes
    → folded (rest + word_sum (Udp.payload_of packet)) ≡ folded (covered (source_of upper) (destination_of upper) 17 (Udp.datagram_of packet))
    → folded (rest + word_sum bytes) ≡ 65535 → IsDatagram caps upper packet udp bytes
datagram_tested old caps upper packet bytes udp rest is sums ones = record {
  protocol = is.protocol;
  format = record {
    whole = is.format.whole;
    checked = λ yes. inr (holds (covered (source_of upper) (destination_of upper) 17 (Udp.datagram_of packet)) rest (Udp.payload_of packet) bytes sums
        is.bytes_are ones);
    source_port = is.format.source_port;
    destination_port = is.format.destination_port;
    accepted = is.format.accepted;
  };
  bytes_are = is.bytes_are;
}

unanswered : (i : InnerValue) (slot : Option ℕ) (at : ℕ) (taken : Bool) (error : Option PacketValue) → slot ≡ Some at →
    None ≡ answered (let_go (not (is_some slot)) i (if is_some slot || taken then None else error))
unanswered i slot at taken error here = rw here refl

uncounted : (i : InnerValue) (slot : Option ℕ) (at : ℕ) (reply : Option PacketValue) → slot ≡ Some at → i ≡ counted (not (is_some slot)) i reply i
uncounted i slot at reply here = rw here refl

-- a datagram that its socket took in one pass was handed to it
pub datagram_handed : (i : InnerValue) (slots after : Slots) (ip : IpRepr) (bytes : List ℕ) (udp : UdpRepr) (at : ℕ)
    → datagram_slot (context_of i) ip udp slots ≡ Some at → GivenAt (context_of i) ip udp bytes (Some at) slots after
    → (payload : List ℕ) (taken : Bool) → IsHanded i slots ip payload taken (Some (Datagram udp bytes)) (arrived i after None)
datagram_handed i slots after ip bytes udp at here given payload taken =
    let slot : Option ℕ = datagram_slot (context_of i) ip udp slots in
    record {
      inner = uncounted i slot at (datagram_reply i slots ip payload taken udp) here;
      slots_are = delivered_at (context_of i) ip udp bytes slots after at here given;
      reply = unanswered i slot at taken (port_unreachable i ip payload) here;
    }
