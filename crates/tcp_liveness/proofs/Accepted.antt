-- Of a connection the other side accepts whatever a side ever sent, however late it comes.
use Rattle.std.proofs.Common.{◌≡◌, ℕ, true, Some, slice_get, sym}
use Rattle.tcp_block.specs.Names.{accepts}
use Rattle.tcp_refinement.specs.Pair.Sides.{at, other}
use Rattle.tcp_refinement.specs.Pair.Values.{PairValue}
use Rattle.tcp_refinement.specs.declared.pair.event.SentSegment.{SentSegment}
use Rattle.tcp_refinement.specs.declared.pair.event.Side.{Side}
use Rattle.tcp_liveness.specs.Arrivals.{is_synchronized}
use Rattle.tcp_liveness.specs.Pair.{socket_of}
use Rattle.tcp_liveness.specs.Reached.{IsReached}
use Rattle.tcp_liveness.proofs.Mirrored.{came_between_theirs, connected_mirrored}
use Rattle.tcp_liveness.proofs.Pair.{accepted_by, between}

pub sent_accepted :
    (p : PairValue) (side : Side) (k : ℕ) (x : SentSegment) → IsReached p → is_synchronized (socket_of p side).tcb.state ≡ true
    → is_synchronized (socket_of p (other side)).tcb.state ≡ true → slice_get (at p.sides side).sent k ≡ Some x
    → accepts (socket_of p (other side)).tcb x.header x.segment ≡ true
sent_accepted p side k x r mine theirs sent =
    let m = connected_mirrored p side r mine theirs in
    let g = came_between_theirs p side k x m r sent in
    accepted_by (socket_of p (other side)).tcb m.theirs x.header x.segment theirs m.peer_side_named
    (between m.theirs x.header x.segment (sym g.destination) (sym g.source) (sym g.destination_port) (sym g.source_port))
