-- What a segment makes of TS.Recent (RFC 7323, 4.3), and which segments are too old (5.3).
use Rattle.std.specs.Prelude.{◌≡◌, ◌⊎◌, ℤ, true, false, Some}
use Rattle.ip_wire.specs.TcpHeader.{TcpHeader}
use Rattle.ip_wire.specs.TcpTimestampRepr.{TcpTimestampRepr}
use Rattle.tcp_state.specs.States.{is_listening}
use Rattle.tcp_block.specs.Timestamps.{is_older, is_recent_valid, uses_stamps}
use Rattle.tcp_block.specs.declared.tcb.Tcb.{Tcb}

-- TS.Recent stays, or becomes a timestamp that isn't older, or it hadn't been set for 24 days
abbrev pub RisesRecent : Tcb → Tcb → ℤ → Type 0
RisesRecent old new now =
    (new.peer.recent ≡ old.peer.recent) ⊎ ((is_older new.peer.recent old.peer.recent ≡ false) ⊎ (is_recent_valid old now ≡ false))

-- or the connection is over, and its listener listens again
abbrev pub RisesOrListens : Tcb → Tcb → ℤ → Type 0
RisesOrListens old new now = (is_listening new.state ≡ true) ⊎ RisesRecent old new now

-- of a connection with timestamps: it has one that is older than TS.Recent, which was set within 24 days
pub record IsTooOld (b : Tcb) (header : TcpHeader) (now : ℤ) : Type 0 where
  pub tsval : TcpTimestampRepr
  pub uses : uses_stamps b ≡ true
  pub believed : is_recent_valid b now ≡ true
  pub has : header.options.timestamp ≡ Some tsval
  pub older : is_older tsval.tsval b.peer.recent ≡ true
