-- A segment without a timestamp is none that is older than another.
use Rattle.std.proofs.Common.{◌≡◌, ◌&&◌, Bool, true, false, Option, Some, None, refl, sym, ap, ◌∙◌}
use Rattle.ip_wire.specs.TcpTimestampRepr.{TcpTimestampRepr}
use Rattle.tcp_invariants.specs.Reply.{Reply}
use Rattle.tcp_block.specs.declared.tcb.Tcb.{Tcb}
use Rattle.tcp_liveness.specs.Clocks.{arrives_stale}

abbrev pub tsval_in : Option Reply → Option TcpTimestampRepr
tsval_in None = None
tsval_in (Some reply) = reply.segment.options.timestamp

none_older : (t : Bool) → (t && false) ≡ false
none_older true = refl
none_older false = refl

pub stale_none : (b : Tcb) (tsval : Option TcpTimestampRepr) → tsval ≡ None → arrives_stale b tsval ≡ false
stale_none b tsval none = ap (λ (tsval : Option TcpTimestampRepr). arrives_stale b tsval) none ∙ none_older b.peer.timestamps

pub stampless :
    (answer : Option Reply) (b : Tcb) → tsval_in answer ≡ None → (reply : Reply) → answer ≡ Some reply →
    arrives_stale b reply.segment.options.timestamp ≡ false
stampless answer b none reply e = stale_none b reply.segment.options.timestamp (sym (ap tsval_in e) ∙ none)
