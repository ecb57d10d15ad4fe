-- Histories, with the sockets that they are said to lead to, to which no two hosts come.
use Rattle.std.specs.Prelude.{ℕ, List, [], ◌∷◌, Some, None}
use Rattle.net_base.specs.Ring.{ring}
use Rattle.tcp_block.specs.Value.{TcpValue}
use Rattle.lan.specs.declared.at_link.history.answer.Answer.{Answer}
use Rattle.lan.specs.declared.at_link.history.answer.Answer.TheVariants as To
use Rattle.lan.specs.declared.at_link.history.answer.Fault.TheVariants as Fault
use Rattle.lan.specs.declared.at_link.history.event.Side.{Side}
use Rattle.lan.specs.declared.at_link.history.event.Side.TheVariants.{A, B}
use Rattle.lan.specs.Worlds.AtLink.Call as Call
use Rattle.lan.specs.Worlds.AtLink.Call.{SocketCall}
use Rattle.lan.specs.Worlds.AtLink.History.{Entry}
use Rattle.lan.specs.Worlds.AtLink.Parties.{Net}
use Rattle.lan.specs.Worlds.AtLink.Parties.Socket.{Tcp}
use Rattle.lan.specs.Worlds.AtLink.PacketsSafe.{IsSafe}
use Rattle.proof_stack.specs.Worlds.Hosts.{endpoint, host, text, unbound, event_of}
use Rattle.proof_stack.specs.Worlds.Streams.{initial}

-- no run of two new hosts leads there, since its end would be safe
abbrev pub Cannot : Net → Type 0
Cannot net = IsSafe unbound net → ⊥

-- a call with its answer
abbrev pub had : Side → ℕ → SocketCall → Answer → Entry
had side i call answer = record {
  event = event_of side i call;
  answer = answer;
  before = record { sent_a = 0; sent_b = 0; waiting_a = 0; waiting_b = 0 };
  found = None;
}

-- STREAMS

-- A listens, B connects to it, and then writes abc; newest first
abbrev pub listened : List Entry
listened = had A 0 (Call.Listen 80) To.Done ∷ []

abbrev pub spoken : List Entry
spoken = had B 0 (Call.Send text) (To.Count 3) ∷ had B 0 (Call.Connect (endpoint A 80) 49_500) To.Done ∷ listened

-- B connects to a host at which nobody listens, and writes abc
abbrev pub lonely : List Entry
lonely = had B 0 (Call.Send text) (To.Count 3) ∷ had B 0 (Call.Connect (endpoint A 80) 49_500) To.Done ∷ []

-- A was told the end of the stream
abbrev pub ended : List Entry
ended = had A 0 (Call.Recv 8) (To.Error Fault.Finished) ∷ spoken

-- one where this waits to be read, and one where this is queued
abbrev pub waits : List ℕ → TcpValue
waits bytes = record initial { received = record initial.received { waiting = bytes } }

abbrev pub queues : List ℕ → TcpValue
queues bytes = record initial { queued = ring bytes [] 0 }

abbrev pub with_sockets : TcpValue → TcpValue → List Entry → Net
with_sockets v w history = record { a = host (Some (Tcp v) ∷ []); b = host (Some (Tcp w) ∷ []); history = history }

-- DATAGRAMS

-- A and B are bound to ports
abbrev pub bound : List Entry
bound = had B 0 (Call.Bind 53) To.Done ∷ had A 0 (Call.Bind 48_896) To.Done ∷ []

abbrev pub and_sent : List Entry → List Entry
and_sent past = had A 0 (Call.SendTo (endpoint B 53) text) To.Done ∷ past

-- B reads these bytes, from this port
abbrev pub and_read : ℕ → List ℕ → List Entry → List Entry
and_read port bytes past = had B 0 (Call.RecvFrom 8) (To.FromEndpoint (endpoint A port) bytes) ∷ past

abbrev pub only : List Entry → Net
only history = record { a = host []; b = host []; history = history }
