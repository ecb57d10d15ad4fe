-- 24 days, within which a clock of timestamps shows nothing that counts as older than what it showed (RFC 7323, 5.5).
use Rattle.std.specs.Prelude.{◌≡◌, ℕ, ℤ, pos, ◌≤ℤ◌, List, [], ◌∷◌, None}
use Rattle.tcp_state.specs.Moments.{tsval_end_from}
use Rattle.lan.specs.declared.at_link.history.event.Side.{Side}
use Rattle.lan.specs.declared.at_link.history.event.TcpSetting.TheVariants as Changed
use Rattle.lan.specs.Worlds.AtLink.Call as Call
use Rattle.lan.specs.Worlds.AtLink.Call.{SocketCall}
use Rattle.lan.specs.Worlds.AtLink.History.{Entry, opening}
use Rattle.lan.specs.Worlds.AtLink.Kinds.{Kind, kind_of}
use Rattle.lan.specs.Worlds.AtLink.Kinds.Act.{Calls, Polls}
use Rattle.lan.specs.Worlds.AtLink.Kinds.Kind.{OfHost}
use Rattle.proof_stack.specs.Progress.Events.{clock_in}

-- if this call sets a clock of timestamps, this is so
abbrev pub WhereSet : Type 0 → SocketCall → Type 0
WhereSet Is (Call.Set (Changed.TsvalGenerator generator)) = Is
WhereSet Is call = Unit {0}

-- With this event the host of a side is polled at this instant or later, and the clock of timestamps of its socket at this slot is set only before that is
-- opened.
abbrev pub KeepsTimeBy : ℤ → Side → ℕ → List Entry → Kind → Type 0
KeepsTimeBy since side slot past (OfHost host (Polls instant budget)) = host ≡ side → since ≤ℤ instant
KeepsTimeBy since side slot past (OfHost host (Calls at call)) = host ≡ side → at ≡ slot → WhereSet (opening past side slot ≡ None) call
KeepsTimeBy since side slot past kind = Unit {0}

-- and with each event of a history
abbrev pub KeepsTime : ℤ → Side → ℕ → List Entry → Type 0
KeepsTime since side slot [] = Unit {0}
KeepsTime since side slot (e ∷ past) = KeepsTimeBy since side slot past (kind_of e.event) × KeepsTime since side slot past

-- The last instant that either host was told lies no later than 24 days after one before which the host of a side wasn't polled.
pub record HasDays (history : List Entry) (slot : ℕ) (side : Side) : Type 0 where
  pub since : ℤ
  pub begun : pos 0 ≤ℤ since
  pub timed : KeepsTime since side slot history
  pub within : clock_in history ≤ℤ tsval_end_from since
