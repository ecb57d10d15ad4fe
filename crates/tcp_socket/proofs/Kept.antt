-- What the rules of an arrival keep of a block.
use Rattle.std.proofs.Common.{◌≡◌, ℕ, ◌&&◌, not, ◌≤◌, Bool, true, false, ℤ, Option, Some, None, is_some, if◌then◌else◌, refl, arith}
use Rattle.std.specs.Prelude.{IfSome}
use Rattle.std.proofs.lemmas.Bool.Decides.{nat_tests}
use Rattle.net_base.specs.Time.{IsMoment}
use Rattle.ip_wire.specs.IpRepr.{IpRepr}
use Rattle.ip_wire.specs.TcpHeader.{TcpHeader}
use Rattle.tcp_block.specs.Acknowledged.{una_moved, in_state, ended_if, tcb_acknowledged, state_after_ack, names_window, windowed, window_set, ranges_taken}
use Rattle.tcp_block.specs.Acknowledged.{counted}
use Rattle.tcp_block.specs.Controls.{is_syn, is_zero}
use Rattle.tcp_block.specs.Endpoints.{pair_in}
use Rattle.tcp_block.specs.FourTuple.{FourTuple}
use Rattle.tcp_block.proofs.SendMss.{some_default}
use Rattle.tcp_block.specs.Opening.{send_mss, is_first_syn, answering, connected, crossed, syn_answered}
use Rattle.tcp_block.specs.States.{is_closed}
use Rattle.tcp_block.specs.Payload.{with_fin, fin_taken, takes_fin}
use Rattle.tcp_block.specs.Timestamps.{believed}
use Rattle.tcp_block.specs.Timeout.{timeout_restarted, timeout_runs}
use Rattle.tcp_block.specs.TcbRules.{forgotten}
use Rattle.tcp_block.specs.declared.tcb.Tcb.{Tcb}
use Rattle.tcp_block.specs.OpenOffer.{OpenOffer}
use Rattle.tcp_block.specs.OfferKind.{OfferKind}
use Rattle.tcp_block.specs.OfferKind.TheVariants as Kind
use Rattle.tcp_block.specs.Moments.{is_over, timeout_from}
use Rattle.tcp_block.specs.Retries.{asked, one_more}
use Rattle.tcp_block.specs.Settled.{nxt_past_held, sent_as, recorded, probed, end_of}
use Rattle.tcp_socket.specs.Socket.{IsTcb, IsOpen}

-- nothing is offered
pub none_open : (o : Option OpenOffer) (b : Tcb) → o ≡ None → IfSome o (IsOpen b)
none_open None b is = tt
none_open (Some o) b is = absurd (cc)

pub kept_forgotten : (b : Tcb) → IsTcb b → IsTcb (forgotten b)
kept_forgotten b is = record { start = is.start; mss = is.mss }

kept_ended : (t : Bool) (b : Tcb) → IsTcb b → IsTcb (ended_if t b)
kept_ended true b is = kept_forgotten b is
kept_ended false b is = is

pub kept_acknowledged : (b : Tcb) (by queued : ℕ) (now : ℤ) → IsTcb b → IsTcb (tcb_acknowledged b by queued now)
kept_acknowledged b by queued now is =
    kept_ended (is_closed (state_after_ack b by queued)) (in_state (una_moved b by queued now) (state_after_ack b by queued) now)
    (record { start = is.start; mss = is.mss })

kept_if : (t : Bool) (a b : Tcb) → IsTcb a → IsTcb b → IsTcb (if t then a else b)
kept_if true a b is other = is
kept_if false a b is other = other

pub kept_fin : (b old : Tcb) (header : TcpHeader) (size advance : ℕ) (now : ℤ) → IsTcb b → IsTcb (with_fin b old header size advance now)
kept_fin b old header size advance now is =
    kept_if (takes_fin old header size advance) (fin_taken b now) b (record { start = is.start; mss = is.mss }) is

start_of : (t : Bool) (now : ℤ) → IsMoment now → IfSome (if t then Some now else None) IsMoment
start_of true now is = is
start_of false now is = tt

pub kept_timeout : (b : Tcb) (now : ℤ) (queued : ℕ) → IsMoment now → 1 ≤ b.peer.mss → IsTcb (timeout_restarted b now queued)
kept_timeout b now queued is mss = record { start = start_of (timeout_runs b queued) now is; mss = mss }

kept_window : (t : Bool) (b : Tcb) (header : TcpHeader) → 1 ≤ b.peer.mss → 1 ≤ (if t then windowed b header else b).peer.mss
kept_window true b header mss = mss
kept_window false b header mss = mss

pub kept_told : (b : Tcb) (header : TcpHeader) (count queued : ℕ) (now : ℤ) → IsMoment now → IsTcb b
    → IsTcb (timeout_restarted (nxt_past_held (counted (ranges_taken (window_set b header now) header now) count now) queued) now queued)
kept_told b header count queued now is tcb =
    kept_timeout (nxt_past_held (counted (ranges_taken (window_set b header now) header now) count now) queued) now queued is
    (kept_window (names_window b header) b header tcb.mss)

-- a SYN that isn't dropped names no MSS of 0
pub sized_syn : (syn zero_mss : Bool) → (syn && zero_mss) ≡ false → syn ≡ true → zero_mss ≡ false
sized_syn true zero_mss sized is = sized
sized_syn false zero_mss sized is = absurd (cc)

pub sized_mss : (pair : Option FourTuple) (mss : Option ℕ) → is_zero mss ≡ false → 1 ≤ send_mss pair mss
sized_mss pair None is = some_default pair
sized_mss pair (Some n) is = grind (arith, nat_tests, is)

answered_mss : (t : Bool) (b : Tcb) (header : TcpHeader) (now : ℤ) → 1 ≤ send_mss b.names.pair header.options.max_seg_size →
    1 ≤ (if t then connected b header now else crossed b header).peer.mss
answered_mss true b header now some = some
answered_mss false b header now some = some

-- LISTEN takes a SYN
pub first_syn : (header : TcpHeader) → is_first_syn header ≡ true → is_syn header.control ≡ true
first_syn header is = both (is_syn header.control) (is_some header.ack_number) is where
  both : (syn some : Bool) → (syn && not some) ≡ true → syn ≡ true
  both true some is = refl
  both false some is = absurd (cc)

pub kept_opening : (b : Tcb) (ip : IpRepr) (header : TcpHeader) (number : ℕ) (now : ℤ) → IsMoment now → 1 ≤ send_mss (Some (pair_in ip header)) header.options.max_seg_size
    → IsTcb (timeout_restarted (believed (answering b ip header number) now) now 0)
kept_opening b ip header number now instant some = kept_timeout (believed (answering b ip header number) now) now 0 instant some

-- SYN-SENT takes a SYN
pub kept_answer : (b : Tcb) (header : TcpHeader) (now : ℤ) (queued : ℕ) → IsMoment now → 1 ≤ send_mss b.names.pair header.options.max_seg_size
    → IsTcb (timeout_restarted (syn_answered b header now) now queued)
kept_answer b header now queued instant some =
    kept_timeout (syn_answered b header now) now queued instant (answered_mss (is_some header.ack_number) b header now some)

kept_asked : (b : Tcb) (now : ℤ) → IsTcb b → IsTcb (asked b now)
kept_asked b now is =
    kept_if (is_over now b.timers.counts_from)
    (record b {
      sender = record b.sender { unanswered = one_more b.sender.unanswered };
      timers = record b.timers { counts_from = Some (timeout_from now b.round_trip) };
    })
    b (record { start = is.start; mss = is.mss }) is

-- what was offered went
pub kept_sent : (kind : OfferKind) (b : Tcb) (o : OpenOffer) (capacity queued : ℕ) → IsTcb b → IsTcb (sent_as kind (recorded b o capacity) o queued)
kept_sent Kind.Probe b o capacity queued is =
    kept_asked (probed (recorded b o capacity) (end_of (recorded b o capacity) o) o.instant) o.instant (record { start = is.start; mss = is.mss })
kept_sent Kind.KeepAlive b o capacity queued is = kept_asked (recorded b o capacity) o.instant (record { start = is.start; mss = is.mss })
kept_sent other b o capacity queued is = record { start = is.start; mss = is.mss }
