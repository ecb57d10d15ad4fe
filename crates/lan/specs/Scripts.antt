-- A run of a script: what each line does and writes, and what the whole writes.
use Rattle.std.specs.Prelude.{◌≡◌, ◌≢◌, ℕ, ◌+◌, Bool, true, false, List, [], ◌∷◌, ◌++◌, length, drop, codes, ◌⊎◌, Option, Some, None, option_map}
use Rattle.lan.specs.declared.at_link.history.answer.Answer.{Answer}
use Rattle.lan.specs.declared.at_link.history.answer.Refused.TheVariants.{Memory}
use Rattle.lan.specs.declared.at_link.history.event.Event.{Event}
use Rattle.lan.specs.declared.at_link.history.event.Side.{Side}
use Rattle.lan.specs.declared.at_link.history.event.Side.TheVariants.{A, B}
use Rattle.sim_link.specs.declared.line.Line.{Line}
use Rattle.sim_link.specs.declared.line.Line.TheVariants.{World, Socket, Start}
use Rattle.lan.specs.Worlds.AtLink.Runs.{WorldValue, Step, refusal_in}
use Rattle.lan.specs.Worlds.AtLink.Node.{Nodes, node}
use Rattle.lan.specs.declared.end.End.{End}
use Rattle.lan.specs.declared.end.End.TheVariants.{BadEvent, Refusal}
use Rattle.lan.specs.declared.session.Session.{Session}
use Rattle.lan.specs.declared.session.Session.TheVariants.{Begun, Header, Running}
use Rattle.lan.specs.Answers.{answer_line, sent_lines}
use Rattle.lan.specs.Ends.{end_line}
use Rattle.lan.specs.Events.{Said, event_of, has_bytes, lines_of, side_of}
use Rattle.lan.specs.Hosts.{first_world, host_of, no_start}

-- EVENTS

-- the lines of the frames that a host sent on the way from one state to another
abbrev pub new_frames : Side → Nodes → Nodes → List ℕ
new_frames side old new = let k = length (node old side).link.sent in sent_lines side k (drop k (node new side).link.sent)

-- what an event writes: its answer, and then a line for each new frame, those of A first
abbrev pub event_text : WorldValue → Answer → WorldValue → List ℕ
event_text old answer new = answer_line answer ++ (new_frames A old.hosts new.hosts ++ new_frames B old.hosts new.hosts)

-- an event is a step of the world, and writes this
abbrev pub Takes : WorldValue → Event → List ℕ → WorldValue → Type 0
Takes old event text new = (answer : Answer) × Step old event answer new × (text ≡ event_text old answer new)

-- LINES

abbrev pub event_end : WorldValue → Option Event → Option End
event_end world None = Some BadEvent
event_end world (Some event) = option_map Refusal (refusal_in world.history world.hosts event)

-- why a line ends the run, but for lack of memory: it is outside the grammar or out of order, or it is refused
abbrev pub end_of : Session → Option Line → Option End
end_of Begun (Some (World medium mtu)) = None
end_of (Header h) (Some (Socket side spec)) = None
end_of (Header h) (Some Start) = no_start h
end_of (Running world) (Some line) = event_end world (event_of line)
end_of _ _ = Some BadEvent

-- whether a line takes memory before it is known whether it is refused: for the hosts, or for the bytes of an event
abbrev pub takes_memory_first : Option Line → Bool
takes_memory_first (Some Start) = true
takes_memory_first (Some line) = has_bytes line
takes_memory_first None = false

-- memory may be wanting at a line that isn't refused, and at one that takes memory first, unless that is a bad event
abbrev pub MayWantMemory : Session → Option Line → Type 0
MayWantMemory session line =
    (end_of session line ≡ None) ⊎ ((takes_memory_first line ≡ true) × (end_of session line ≢ Some BadEvent))

-- why a line ends the run
abbrev pub Ends : Session → Option Line → End → Type 0
Ends session line end = (end_of session line ≡ Some end) ⊎ ((end ≡ Refusal Memory) × MayWantMemory session line)

-- why a line ends the run once the hosts run
abbrev pub MayEnd : WorldValue → Line → End → Type 0
MayEnd world line end =
    (event_end world (event_of line) ≡ Some end)
    ⊎ ((end ≡ Refusal Memory) × ((event_end world (event_of line) ≡ None) ⊎ (has_bytes line ≡ true)))

abbrev pub EventLeads : WorldValue → Option Event → List ℕ → Session → Type 0
EventLeads world None text next = ⊥
EventLeads world (Some event) text next = (new : WorldValue) × Takes world event text new × (next ≡ Running new)

-- where else a line leads, and what it writes
abbrev pub Leads : Session → Option Line → List ℕ → Session → Type 0
Leads Begun (Some (World medium mtu)) text next = (text ≡ []) × (next ≡ Header (record { medium = medium; mtu = mtu; sockets = [] }))
Leads (Header h) (Some (Socket side spec)) text next =
    (text ≡ []) × (next ≡ Header (record h { sockets = h.sockets ++ (side_of side, spec) ∷ [] }))
Leads (Header h) (Some Start) text next = (text ≡ codes "ok\n") × (next ≡ Running (first_world (host_of h A) (host_of h B)))
Leads (Running world) (Some line) text next = EventLeads world (event_of line) text next
Leads _ _ text next = ⊥

-- a line ends the run
abbrev pub LineEnds : Session → List ℕ → End → Type 0
LineEnds session text end = (line : Option Line) × Said text line × Ends session line end

-- a line leads on, and writes this
abbrev pub LineLeads : Session → List ℕ → List ℕ → Session → Type 0
LineLeads session text output next =
    (line : Option Line) × Said text line × (end_of session line ≡ None) × Leads session line output next

-- RUNS

-- what the lines from line n on write, and the status: 0 at the end of the script, 1 after the line that ended the run
abbrev pub Replays : ℕ → Session → List (List ℕ) → List ℕ → ℕ → Type 0
Replays n session [] output status = (output ≡ []) × (status ≡ 0)
Replays n session (line ∷ lines) output status =
    ((end : End) × LineEnds session line end × (output ≡ end_line n end) × (status ≡ 1))
    ⊎ ((text : List ℕ) × (next : Session) × (rest : List ℕ)
    × LineLeads session line text next × Replays (n + 1) next lines rest status × (output ≡ text ++ rest))

-- what a script writes, and its status
abbrev pub IsReplay : List ℕ → List ℕ → ℕ → Type 0
IsReplay script output status = Replays 1 Begun (lines_of script) output status

-- ONE OUTCOME

-- the last line that was written says that memory was wanting
abbrev pub EndsForMemory : List ℕ → Type 0
EndsForMemory output = (before : List ℕ) × (n : ℕ) × (output ≡ before ++ end_line n (Refusal Memory))

-- two outputs with their statuses are the same, unless memory was wanting in either run
abbrev pub IsSameReplay : List ℕ → ℕ → List ℕ → ℕ → Type 0
IsSameReplay output status other last = ((output ≡ other) × (status ≡ last)) ⊎ (EndsForMemory output ⊎ EndsForMemory other)
