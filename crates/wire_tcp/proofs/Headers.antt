-- Headers as values.
use Rattle.std.proofs.Common.{◌≡◌, ℕ, Bool, refl}
use Rattle.std.specs.Prelude.{Option}
use Rattle.wire_address.specs.declared.seq_number.SeqNumber.{SeqNumber}
use Rattle.wire_tcp.specs.Control.{control_of}
use Rattle.wire_tcp.specs.declared.control.TcpControl.{TcpControl}
use Rattle.wire_tcp.specs.declared.header.TcpHeader.{TcpHeader}
use Rattle.wire_tcp.specs.declared.option.TcpOptions.{TcpOptions}

-- the same flags say the same
pub control_of-same : (syn fin rst psh syn' fin' rst' psh' : Bool) → syn ≡ syn' → fin ≡ fin' → rst ≡ rst' → psh ≡ psh' →
    control_of syn fin rst psh ≡ control_of syn' fin' rst' psh'
control_of-same syn fin rst psh syn' fin' rst' psh' a b c d = rw (a, b, c, d) refl

-- a header is what its fields are
pub header-same : (source destination window : ℕ) (control : TcpControl) (sequence : SeqNumber) (acknowledgement : Option SeqNumber) (options : TcpOptions)
    (v : TcpHeader)
    → source ≡ v.src_port → destination ≡ v.dst_port → control ≡ v.control → sequence ≡ v.seq_number → acknowledgement ≡ v.ack_number → window ≡ v.window_len →
    options ≡ v.options
    → record {
      src_port = source;
      dst_port = destination;
      control = control;
      seq_number = sequence;
      ack_number = acknowledgement;
      window_len = window;
      options =
          options;
    } ≡ v
header-same source destination window control sequence acknowledgement options v a b c d e f g = rw (a, b, c, d, e, f, g) refl
