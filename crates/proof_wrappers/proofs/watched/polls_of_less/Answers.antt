use Rattle.base_wrappers.specs.Pcap.{captures, IsRecord}
use Rattle.proof_wrappers.proofs.Unwatched.{host_polls_within, polls_within}
use Rattle.proof_wrappers.proofs.watched.polls_of_less.Goals as goal

pub returns-clause-tracer : goal.returns-clause-tracer
returns-clause-tracer g c t budget s s' changed polls =
    polls_within g.D.Device.moves g.S.Sink.taken g.W.FrameWriter.takes g.W.FrameWriter.writes t budget s s' changed polls

pub returns-clause-capture : goal.returns-clause-capture
returns-clause-capture g c t budget s s' changed polls = polls_within g.D.Device.moves g.S.Sink.taken captures IsRecord t budget s s' changed polls

pub returns-clause-host_tracer : goal.returns-clause-host_tracer
returns-clause-host_tracer g c t budget s s' changed polls =
    host_polls_within g.D.Device.moves g.S.Sink.taken g.W.FrameWriter.takes g.W.FrameWriter.writes t budget s s' changed polls

pub returns-clause-host_capture : goal.returns-clause-host_capture
returns-clause-host_capture g c t budget s s' changed polls = host_polls_within g.D.Device.moves g.S.Sink.taken captures IsRecord t budget s s' changed polls
