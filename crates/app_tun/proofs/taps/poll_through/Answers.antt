use Rattle.base_wrappers.specs.Pcap.{captures, IsRecord}
use Rattle.base_wrappers.specs.Trace.{Traces}
use Rattle.wire_trace.specs.contracts.lines.TraceLinesFrameWriter.TheImpl as Lines
use Rattle.interface.specs.Polls.{is_change}
use Rattle.interface.specs.Set.{slots}
use Rattle.interface.specs.State.{state}
use Rattle.app_tun_services.specs.Link.Drain.{DrainMove}
use Rattle.proof_wrappers.specs.Unwatched.{unwatched}
use Rattle.proof_wrappers.proofs.Unwatched.{host_polls_within}
use Rattle.app_tun.proofs.taps.poll_through.Goals as goal

pub returns : goal.returns
returns c =
    let s = state c.args.tap.now c.args.interface.now (slots c.args.sockets.now) in
    let s' = state c.poll.new.device c.poll.new.self (slots c.poll.new.sockets) in
    let changed = is_change c.poll.result in
    host_polls_within DrainMove _ captures IsRecord c.args.now c.args.budget (unwatched s) (unwatched s') changed
    (host_polls_within (Traces DrainMove _ captures IsRecord) _ Lines.ghosts.takes Lines.ghosts.writes c.args.now c.args.budget s s' changed c.poll.ensures.steps)
