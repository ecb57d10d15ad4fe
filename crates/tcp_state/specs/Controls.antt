-- What a segment's control and options say.
use Rattle.std.specs.Prelude.{ℕ, ◌==◌, Bool, true, false, Option, Some, None}
use Rattle.ip_wire.specs.TcpControl.{TcpControl}
use Rattle.ip_wire.specs.TcpControl.TheVariants as Control
use Rattle.ip_wire.specs.TcpTimestampRepr.{TcpTimestampRepr}

abbrev pub is_syn : TcpControl → Bool
is_syn Control.Syn = true
is_syn other = false

abbrev pub is_fin : TcpControl → Bool
is_fin Control.Fin = true
is_fin other = false

abbrev pub is_rst : TcpControl → Bool
is_rst Control.Rst = true
is_rst other = false

-- the largest payload that the remote takes: 536 bytes where it names none (RFC 9293, 3.7.1)
abbrev pub or_mss : Option ℕ → ℕ
or_mss None = 536
or_mss (Some mss) = mss

-- an MSS of 0 is named
abbrev pub is_zero : Option ℕ → Bool
is_zero None = false
is_zero (Some n) = n == 0

-- the timestamp that came last
abbrev pub or_recent : Option TcpTimestampRepr → ℕ → ℕ
or_recent None recent = recent
or_recent (Some stamp) recent = stamp.tsval
