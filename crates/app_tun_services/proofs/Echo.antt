-- What was read goes back whole.
use Rattle.std.proofs.Common.{◌≡◌, ℕ, nat_lt, if◌then◌else◌, Bool, true, false, List, ◌++◌, length, take, drop, ◌≤◌, subst, arith, Option, None, Some, Result}
use Rattle.std.proofs.Common.{Ok, Err, ap, sym}
use Rattle.std.proofs.Math.Seq.{take-append_seam}
use Rattle.socket_datagram.specs.SocketValue.{read_answer_by, read_written_by}
use Rattle.socket_datagram.specs.Udp.{UdpValue, send_after}
use Rattle.socket_datagram.specs.declared.udp.UdpMetadata.{UdpMetadata}
use Rattle.socket_datagram.specs.declared.error.RecvError.{RecvError}
use Rattle.socket_datagram.specs.declared.error.RecvError.TheVariants as Recv
use Rattle.std.proofs.lemmas.List.{length-take-le}
use Rattle.tcp_block.specs.Calls as Streams
use Rattle.tcp_block.specs.RecvError as StreamErrors
use Rattle.tcp_block.specs.Value.{TcpValue}
use Rattle.app_tun_services.specs.Echo.{sent_back, echo_len, echoed_unless}

abbrev count_in : {M E : Type 0} → Result (ℕ × M) E → ℕ
count_in (Ok r) = r.0
count_in (Err e) = 0

abbrev header_in : {E : Type 0} → UdpMetadata → Result (ℕ × UdpMetadata) E → UdpMetadata
header_in other (Ok r) = r.1
header_in other (Err e) = other

sent_by : (b : Bool) (d : UdpMetadata × List ℕ) (slice : List ℕ) (n : ℕ) (m : UdpMetadata) (w : UdpValue)
    → if◌then◌else◌ {A = Result (ℕ × UdpMetadata) RecvError} b (Err Recv.Truncated) (Ok (length d.1, d.0)) ≡ Ok (n, m)
    → send_after w m (take n (if b then slice else d.1 ++ drop (length d.1) slice)) ≡ (if b then w else send_after w d.0 d.1)
sent_by true d slice n m w is = absurd (cc)
sent_by false d slice n m w is =
    let len : n ≡ length d.1 = sym (ap count_in is) in
    let whose : m ≡ d.0 = sym (ap (header_in m) is) in
    let whole : take n (d.1 ++ drop (length d.1) slice) ≡ d.1 = (rw len (take-append_seam d.1 (drop (length d.1) slice))) in
    (rw whose (ap (send_after w d.0) whole))

-- what was read of a queue's first datagram goes back, and nothing else does
pub sent_back_is : (d : Option (UdpMetadata × List ℕ)) (slice : List ℕ) (n : ℕ) (m : UdpMetadata) (w : UdpValue)
    → read_answer_by d (length slice) ≡ Ok (n, m)
    → send_after w m (take n (read_written_by d slice)) ≡ sent_back (length slice) d w
sent_back_is None slice n m w is = absurd (cc)
sent_back_is (Some d) slice n m w is = sent_by (nat_lt (length slice) (length d.1)) d slice n m w is

abbrev ok_count : {E : Type 0} → Result ℕ E → ℕ
ok_count (Ok n) = n
ok_count (Err e) = 0

back_again : (n : ℕ) (xs ys : List ℕ) → n ≤ length xs → take n (take n xs ++ ys) ≡ take n xs
back_again n xs ys within =
    let e : take (length (take n xs)) (take n xs ++ ys) ≡ take n xs = take-append_seam (take n xs) ys in
    subst (λ m. take m (take n xs ++ ys) ≡ take n xs) (length-take-le n xs within) e

-- what was read of a stream goes back, where reading isn't refused
pub echoed_is : (refused : Option StreamErrors.RecvError) (room count : ℕ) (v : TcpValue) (ys : List ℕ)
    → Streams.or_count refused (echo_len room v) ≡ Ok count
    → Streams.send_after (Streams.recv_after v count) (take count (take count v.received.waiting ++ ys)) ≡ echoed_unless refused room v
echoed_is None room count v ys is =
    let n : count ≡ echo_len room v = sym (ap ok_count is) in
    let whole : take (echo_len room v) (take (echo_len room v) v.received.waiting ++ ys) ≡ take (echo_len room v) v.received.waiting =
    back_again (echo_len room v) v.received.waiting ys (omega arith) in
    (rw n (ap (Streams.send_after (Streams.recv_after v (echo_len room v))) whole))
echoed_is (Some e) room count v ys is = absurd (cc)
