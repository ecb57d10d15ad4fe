-- How far a socket of a backlog came, by its state.
use Rattle.std.specs.Prelude.{Bool, true, false}
use Rattle.iface_ingress.specs.State.{State}
use Rattle.iface_ingress.specs.State.TheVariants as In
use Rattle.interface.specs.declared.listener.stage.Stage.{Stage}
use Rattle.interface.specs.declared.listener.stage.Stage.TheVariants as Is

-- it is its user's
abbrev pub is_accepted : Stage → Bool
is_accepted Is.Accepted = true
is_accepted other = false

-- it took a SYN, and nothing acknowledged its own
abbrev pub is_half_open : Stage → Bool
is_half_open Is.HalfOpen = true
is_half_open other = false

-- it has a connection that wasn't accepted
abbrev pub is_open : Stage → Bool
is_open Is.Open = true
is_open other = false

abbrev pub connected_stage : Stage → Stage
connected_stage Is.Ending = Is.Ending
connected_stage Is.TimeWait = Is.Ending
connected_stage other = Is.Open

abbrev pub last_stage : Stage → Stage
last_stage Is.Ending = Is.TimeWait
last_stage Is.TimeWait = Is.TimeWait
last_stage other = Is.Open

-- a closed socket is free, since it listens again; one that took a SYN is half open; else it is open, or ends where it was given back
abbrev pub stage_after : Stage → State → Stage
stage_after stage In.Closed = Is.Free
stage_after stage In.Listen = Is.Free
stage_after stage In.SynSent = Is.HalfOpen
stage_after stage In.SynReceived = Is.HalfOpen
stage_after stage In.TimeWait = last_stage stage
stage_after stage other = connected_stage stage
