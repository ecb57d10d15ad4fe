-- Answers that are given twice: one goes to the caller, and one is kept.
use Rattle.std.specs.Prelude.{◌≡◌, Option, None, Some}
use Rattle.socket_datagram.specs.declared.error.RecvError.{RecvError}
use Rattle.socket_datagram.specs.declared.error.RecvError.TheVariants as Recv
use Rattle.lan.specs.declared.at_link.history.answer.Answer.{Answer}
use Rattle.lan.specs.declared.at_link.history.answer.Answer.TheVariants as To
use Rattle.lan.specs.declared.at_link.history.answer.Fault.{Fault}
use Rattle.lan.specs.declared.at_link.history.answer.Fault.TheVariants as For
use Rattle.sockets.specs.declared.socket.Socket.{Socket}
use Rattle.lan.specs.Worlds.AtLink.Calls.{Did}
use Rattle.tcp_block.specs.State.{State}
use Rattle.lan.specs.declared.at_link.answer.Brief.{Brief}
use Rattle.lan.specs.declared.at_link.answer.Brief.TheVariants as Short
use Rattle.lan.specs.declared.at_link.answer.Taken.{Taken}

abbrev pub IsTwice : Answer × Answer → Answer → Type 0
IsTwice twins answer = (twins.0 ≡ answer) × (twins.1 ≡ answer)

abbrev pub brief : Brief → Answer
brief Short.Done = To.Done
brief (Short.Count n) = To.Count n
brief (Short.State state) = To.State state
brief (Short.Error fault) = To.Error fault

abbrev pub fault_of : RecvError → Fault
fault_of Recv.Exhausted = For.Exhausted
fault_of Recv.Truncated = For.Truncated

-- an answer, its twin, and the state that a close found
abbrev pub Gives : Taken → Answer → Option State → Type 0
Gives t answer found = (t.answer ≡ answer) × (t.kept ≡ answer) × (t.found ≡ found)

-- what a call did to a socket, which answered so and found no state; nothing where a socket of its kind hasn't the call
abbrev pub HasDone : Option (Did Socket) → Socket → Option Brief → Socket → Type 0
HasDone None old said new = (said ≡ None) × (new ≡ old)
HasDone (Some d) old None new = ⊥
HasDone (Some d) old (Some b) new = (brief b ≡ d.answer) × (d.found ≡ None) × (new ≡ d.socket)

-- the same of a call that gave this
abbrev pub HasTaken : Option (Did Socket) → Socket → Option Taken → Socket → Type 0
HasTaken None old said new = (said ≡ None) × (new ≡ old)
HasTaken (Some d) old None new = ⊥
HasTaken (Some d) old (Some t) new = Gives t d.answer d.found × (new ≡ d.socket)
