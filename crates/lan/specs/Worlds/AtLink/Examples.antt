-- Short histories, of which the promises are true or false.
use Rattle.std.specs.Prelude.{ℕ, List, [], ◌∷◌, Option, Some, None}
use Rattle.ip_wire.specs.IpAddress.TheVariants as Address
use Rattle.ip_wire.specs.IpEndpoint.{IpEndpoint}
use Rattle.tcp_block.specs.State.{State}
use Rattle.lan.specs.declared.at_link.history.answer.Answer.{Answer}
use Rattle.lan.specs.declared.at_link.history.answer.Answer.TheVariants as To
use Rattle.lan.specs.declared.at_link.history.answer.Fault.TheVariants as Fault
use Rattle.lan.specs.declared.at_link.history.event.Event.{Event}
use Rattle.lan.specs.declared.at_link.history.event.Event.TheVariants as E
use Rattle.lan.specs.declared.at_link.history.event.Side.{Side}
use Rattle.lan.specs.declared.at_link.history.event.Side.TheVariants.{A, B}
use Rattle.lan.specs.Worlds.AtLink.History.{Entry}

abbrev pub answered : Event → Answer → Option State → Entry
answered event answer found = record {
  event = event;
  answer = answer;
  before = record { sent_a = 0; sent_b = 0; waiting_a = 0; waiting_b = 0 };
  found = found;
}

-- port so much of 192.168.1.n
abbrev pub endpoint : ℕ → ℕ → IpEndpoint
endpoint n port = record { addr = Address.Ipv4 (record { 0 = 192 ∷ 168 ∷ 1 ∷ n ∷ [] }); port = port }

abbrev pub text : List ℕ
text = 97 ∷ 98 ∷ 99 ∷ []

-- B's socket is bound to a port, A sends to port 53 from port 48896, and B reads that
abbrev pub datagram_read_at : ℕ → List Entry
datagram_read_at port =
    answered (E.RecvFrom B 0 64) (To.FromEndpoint (endpoint 1 48_896) text) None
    ∷ answered (E.SendTo A 0 (endpoint 2 53) text) To.Done None
    ∷ answered (E.Bind B 0 port) To.Done None
    ∷ answered (E.Bind A 0 48_896) To.Done None
    ∷ []

-- every socket is unbound at first
abbrev pub unbound : Side → ℕ → ℕ
unbound side i = 0

-- B listens, and A connects
abbrev pub opened : List Entry
opened = answered (E.Connect A 0 (endpoint 2 80) 49_500) To.Done None ∷ answered (E.Listen B 0 80) To.Done None ∷ []

-- A is told the end of a stream that B didn't close, as a reset would be read
abbrev pub end_without_close : List Entry
end_without_close = answered (E.Recv A 0 8) (To.Error Fault.Finished) None ∷ opened

-- B closed in this state, having written nothing
abbrev pub end_after_close : State → List Entry
end_after_close state =
    answered (E.Recv A 0 8) (To.Error Fault.Finished) None ∷ answered (E.Close B 0) To.Done (Some state) ∷ opened

-- B listens at a port, A connects to port 80 and writes, and B reads these bytes
abbrev pub taken_at : ℕ → List ℕ → List Entry
taken_at port bytes =
    answered (E.Recv B 0 8) (To.Bytes bytes) None
    ∷ answered (E.Send A 0 text) (To.Count 3) None
    ∷ answered (E.Connect A 0 (endpoint 2 80) 49_500) To.Done None
    ∷ answered (E.Listen B 0 port) To.Done None
    ∷ []
