-- What the flags of a segment say (RFC 9293, section 3.1).
use Rattle.std.specs.Prelude.{ℕ, Bool, true, false, Option, Some, None}
use Rattle.wire_tcp.specs.declared.control.TcpControl.{TcpControl}
use Rattle.wire_tcp.specs.declared.control.TcpControl.TheVariants as Control

-- how many sequence numbers the flag takes (RFC 9293, section 3.4)
abbrev pub control_len : TcpControl → ℕ
control_len Control.None = 0
control_len Control.Psh = 0
control_len Control.Syn = 1
control_len Control.Fin = 1
control_len Control.Rst = 0

-- the same without the push flag
abbrev pub without_psh : TcpControl → TcpControl
without_psh Control.None = Control.None
without_psh Control.Psh = Control.None
without_psh Control.Syn = Control.Syn
without_psh Control.Fin = Control.Fin
without_psh Control.Rst = Control.Rst

-- what SYN, FIN, RST and PSH say; nothing for two of the first three
abbrev pub control_of : Bool → Bool → Bool → Bool → Option TcpControl
control_of false false false false = Some Control.None
control_of false false false true = Some Control.Psh
control_of true false false psh = Some Control.Syn
control_of false true false psh = Some Control.Fin
control_of false false true psh = Some Control.Rst
control_of _ _ _ _ = None

-- the weights of SYN, FIN, RST and PSH that are sent
abbrev pub control_bits : TcpControl → ℕ
control_bits Control.None = 0
control_bits Control.Psh = 8
control_bits Control.Syn = 2
control_bits Control.Fin = 1
control_bits Control.Rst = 4

-- the flag says nothing alongside the bytes
abbrev pub is_quiet : TcpControl → Bool
is_quiet Control.None = true
is_quiet Control.Psh = true
is_quiet Control.Syn = false
is_quiet Control.Fin = false
is_quiet Control.Rst = false
