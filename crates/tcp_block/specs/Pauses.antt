-- Answers that are drawn: at most one a second, as long as a connection lasts (RFC 5961, 7).
use Rattle.std.specs.Prelude.{◌≡◌, ℕ, not, ◌&&◌, ℤ, pos, ◌+ℤ◌, ◌≤ℤ◌, Bool, true, false, if◌then◌else◌, List, [], ◌∷◌, ◌++◌, length, Option, is_some}
use Rattle.ip_wire.specs.IpRepr.{IpRepr}
use Rattle.ip_wire.specs.TcpHeader.{TcpHeader}
use Rattle.tcp_state.specs.Context.{ContextValue}
use Rattle.tcp_state.specs.Controls.{is_syn, is_rst}
use Rattle.tcp_state.specs.States.{is_closed, is_listening}
use Rattle.tcp_state.specs.declared.state.State.{State}
use Rattle.tcp_state.specs.declared.state.State.TheVariants as In
use Rattle.tcp_block.specs.Acknowledged.{tcb_acknowledged}
use Rattle.tcp_block.specs.Arrival.{arrives, is_void_syn, is_before_window, is_repeated, takes_reset, challenges_reset, challenges_first}
use Rattle.tcp_block.specs.Checks.{Check, acknowledgement_check, is_in_window}
use Rattle.tcp_block.specs.Checks.Check.{Passes, Old, Draws}
use Rattle.tcp_block.specs.Offers.{offer_of}
use Rattle.tcp_block.specs.Segments.{has_length}
use Rattle.tcp_block.specs.Settled.{settled}
use Rattle.tcp_block.specs.Value.{TcpValue, Arrived, queued_in, free_in}

-- A segment elicits an answer where it acknowledges what may not be, and where it lies outside the window, isn't one that arrives again, and its
-- acknowledgement doesn't end LAST-ACK (RFC 9293, 3.10.7.4, first and fifth).
abbrev pub draws_by : Check → ContextValue → TcpValue → TcpHeader → ℕ → Bool
draws_by (Passes by) cx v header size =
    if is_in_window v.tcb (free_in v) header size then is_syn header.control
    else if is_before_window v header size
    then not (has_length header size) && not (is_closed (tcb_acknowledged v.tcb by (queued_in v) cx.instant).state)
    else not (is_closed v.tcb.state)
draws_by Old cx v header size =
    not (is_in_window v.tcb (free_in v) header size) && (not (is_repeated v header size) && not (is_closed v.tcb.state))
draws_by Draws cx v header size = true
draws_by check cx v header size = false

-- so does a SYN, a segment with a timestamp that is too old, and a reset inside the window that isn't taken (RFC 5961, 3 and 4; RFC 7323,
-- 5.3)
abbrev pub draws_any : ContextValue → TcpValue → TcpHeader → ℕ → Bool
draws_any cx v header size =
    if is_rst header.control then not (takes_reset v.tcb header) && challenges_reset v header size
    else if challenges_first v.tcb header cx.instant then true
    else draws_by (acknowledgement_check v.tcb header.ack_number) cx v header size

abbrev pub draws_in : State → ContextValue → TcpValue → TcpHeader → ℕ → Bool
draws_in In.Closed cx v header size = false
draws_in In.Listen cx v header size = false
draws_in In.SynSent cx v header size = false
draws_in state cx v header size = draws_any cx v header size

abbrev pub is_drawing : ContextValue → TcpValue → TcpHeader → List ℕ → Bool
is_drawing cx v header bytes = not (is_void_syn header) && draws_in v.tcb.state cx v header (length bytes)

-- before it no answer is drawn
abbrev pub pause_of : TcpValue → Option ℤ
pause_of v = v.tcb.timers.challenges_from

-- A segment that arrives again is answered at once: it draws no answer, and begins no pause.
abbrev pub IsAnsweredAtOnce : TcpValue → Arrived → Type 0
IsAnsweredAtOnce v a = (is_some a.answer ≡ true) × (pause_of a.socket ≡ pause_of v)

-- RUNS OF A SOCKET

pub data Happening : Type 0 where
  Comes : (cx : ContextValue) (ip : IpRepr) (header : TcpHeader) (bytes : List ℕ) → Happening
  -- it is asked for a segment, and the offer is settled
  Asked : (cx : ContextValue) (sent : Bool) → Happening
  -- a call of its user that leaves the pause
  Called : (new : TcpValue) → Happening

abbrev pub after : TcpValue → Happening → TcpValue
after v (Comes cx ip header bytes) = (arrives cx v ip header bytes).socket
after v (Asked cx sent) = settled sent (offer_of cx v).socket
after v (Called new) = new

-- the connection lasts: neither a reset nor giving up takes a listener back to LISTEN
abbrev pub Lasts : TcpValue → Happening → Type 0
Lasts v (Comes cx ip header bytes) =
    is_listening (arrives cx v ip header bytes).socket.tcb.state ≡ true → is_listening v.tcb.state ≡ true
Lasts v (Asked cx sent) = is_listening (offer_of cx v).socket.tcb.state ≡ true → is_listening v.tcb.state ≡ true
Lasts v (Called new) = pause_of new ≡ pause_of v

abbrev pub IsOneConnection : TcpValue → List Happening → Type 0
IsOneConnection v [] = Unit {0}
IsOneConnection v (it ∷ more) = Lasts v it × IsOneConnection (after v it) more

abbrev pub drawn_at : TcpValue → Happening → List ℤ
drawn_at v (Comes cx ip header bytes) =
    if is_drawing cx v header bytes && is_some (arrives cx v ip header bytes).answer then cx.instant ∷ [] else []
drawn_at v other = []

-- the instants at which answers are drawn
abbrev pub drawn_instants : TcpValue → List Happening → List ℤ
drawn_instants v [] = []
drawn_instants v (it ∷ more) = drawn_at v it ++ drawn_instants (after v it) more

-- each lies at least a second after the one before
abbrev pub AreApart : List ℤ → Type 0
AreApart [] = Unit {0}
AreApart (instant ∷ []) = Unit {0}
AreApart (instant ∷ (next ∷ more)) = ((instant +ℤ pos 1_000_000) ≤ℤ next) × AreApart (next ∷ more)
