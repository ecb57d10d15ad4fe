-- A loss that wasn't one is undone (RFC 3522 and 4015): the congestion window is kept as it was before, until the
-- first acknowledgement of something new.
use Rattle.std.specs.Prelude.{◌==◌, ◌||◌, ℤ, if◌then◌else◌, Option, Some, None, is_some}
use Rattle.tcp_state.specs.Moments.{later}
use Rattle.tcp_state.specs.RoundTrip.{shortest}
use Rattle.tcp_block.specs.Timestamps.{value_by}
use Rattle.tcp_block.specs.declared.tcb.Tcb.{Tcb}
use Rattle.tcp_block.specs.declared.tcb.Undo.{Undo}

-- the window as it is
abbrev pub window_kept : Tcb → Option Undo
window_kept b = Some (record { reno = b.reno; tsval = None; answers_from = None })

-- Recovery begins, or the timer runs out: the window is kept, unless a loss is being mended already. Where what stands at SND.UNA was retransmitted
-- before it isn't, since what comes next may answer that.
abbrev pub undo_begun : Tcb → Option Undo
undo_begun b =
    if b.reno.recovers || b.reno.timed_out then b.loss.undo
    else if b.loss.resent == 0 then window_kept b
    else None

-- What is retransmitted has this timestamp (RetransmitTS of RFC 3522, 3.2), and an answer to it takes the shortest round trip at least (RFC 8985,
-- 6.2, step 2).
abbrev pub undo_marked : Tcb → Undo → ℤ → Undo
undo_marked b u now =
    record u { tsval = Some (value_by b.stamps.generator now); answers_from = Some (later now (shortest b.round_trip)) }

-- something goes: the first of it since then is what is retransmitted
abbrev pub undo_sent : Tcb → Option Undo → ℤ → Option Undo
undo_sent b None now = None
undo_sent b (Some u) now = Some (if is_some u.tsval then u else undo_marked b u now)
