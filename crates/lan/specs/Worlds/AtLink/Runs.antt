-- A world of two hosts, and its runs.
use Rattle.std.specs.Prelude.{◌≡◌, ℕ, false, List, [], ◌∷◌, length, map, reverse, Option, None}
use Rattle.interface.specs.Host.{HostValue}
use Rattle.iface_egress.specs.declared.socket_set.SocketStorage.{SocketStorage}
use Rattle.lan.specs.Worlds.AtLink.History.{Entry, Counts}
use Rattle.lan.specs.Worlds.AtLink.Kinds.{kind_of}
use Rattle.lan.specs.Worlds.AtLink.Tables.{table_of}
use Rattle.lan.specs.declared.at_link.history.answer.Answer.{Answer}
use Rattle.lan.specs.declared.at_link.history.answer.Refused.{Refused}
use Rattle.lan.specs.declared.at_link.history.event.Event.{Event}
use Rattle.lan.specs.declared.at_link.history.event.Side.{Side}
use Rattle.lan.specs.declared.at_link.history.event.Side.TheVariants.{A, B}
use Rattle.sim_link.specs.Port.{unused_end}
use Rattle.net_base.specs.DeviceCapabilities.{DeviceCapabilities}
use Rattle.sockets.specs.declared.socket.Socket.{Socket}
use Rattle.lan.specs.Worlds.AtLink.Node.{NodeValue, Nodes}
use Rattle.lan.specs.Worlds.AtLink.Origins.{medium_of, numbered}
use Rattle.lan.specs.Worlds.AtLink.Refusals.{Table, Tables, refusal}
use Rattle.lan.specs.Worlds.AtLink.Steps.{Happens}

-- what a host was when its world was made: nothing was sent, and nothing waited
pub record Start : Type 0 where
  pub host : HostValue
  pub slots : List (SocketStorage Socket)
  pub capabilities : DeviceCapabilities
  pub room : ℕ
  pub refusals : ℕ

pub record Starts : Type 0 where
  pub a : Start
  pub b : Start

abbrev pub start : Starts → Side → Start
start starts A = starts.a
start starts B = starts.b

abbrev pub unused : Start → NodeValue
unused s = record { host = s.host; slots = s.slots; link = record (unused_end s.capabilities) { room = s.room; refusals = s.refusals } }

abbrev pub unused_both : Starts → Nodes
unused_both starts = record { a = unused starts.a; b = unused starts.b }

-- a world: its hosts at the link, what they were at first, and all that happened since, the newest first
pub record WorldValue : Type 0 where
  pub hosts : Nodes
  pub starts : Starts
  pub history : List Entry

-- the answers of a history, the oldest first
abbrev pub answers_of : List Entry → List Answer
answers_of history = reverse (map (λ (e : Entry). e.answer) history)

-- TABLES of a history, which refusals read

abbrev pub table_in : List Entry → Side → NodeValue → Table
table_in history side s = record {
  records = table_of history side (length s.slots);
  numbered = numbered (medium_of s) side history s.link.sent;
}

abbrev pub tables_in : List Entry → Nodes → Tables
tables_in history hosts = record { a = table_in history A hosts.a; b = table_in history B hosts.b }

abbrev pub refusal_in : List Entry → Nodes → Event → Option Refused
refusal_in history hosts event = refusal hosts (tables_in history hosts) (kind_of event)

-- STEPS

abbrev pub counts_of : Nodes → Counts
counts_of hosts = record {
  sent_a = length hosts.a.link.sent;
  sent_b = length hosts.b.link.sent;
  waiting_a = length hosts.a.link.waiting;
  waiting_b = length hosts.b.link.waiting;
}

-- a world's hosts have no host requirements
abbrev pub AreAlone : Nodes → Type 0
AreAlone hosts = (hosts.a.host.inner.host_requirements ≡ false) × (hosts.b.host.inner.host_requirements ≡ false)

-- an entry was allowed by the history before it, and leads from hosts to hosts
pub record Leads (past : List Entry) (old : Nodes) (e : Entry) (new : Nodes) : Type 0 where
  pub allowed : refusal_in past old e.event ≡ None
  pub counted : e.before ≡ counts_of old
  pub alone : AreAlone old
  pub happens : Happens old (kind_of e.event) e.answer e.found new

-- one event taken, with the answer that it has, kept in the history
pub record Step (old : WorldValue) (event : Event) (answer : Answer) (new : WorldValue) : Type 0 where
  pub entry : Entry
  pub event_kept : entry.event ≡ event
  pub answer_kept : entry.answer ≡ answer
  pub leads : Leads old.history old.hosts entry new.hosts
  pub history : new.history ≡ entry ∷ old.history
  pub starts : new.starts ≡ old.starts

-- these events were taken, one after the other
abbrev pub Steps : WorldValue → List Event → WorldValue → Type 0
Steps old [] new = new ≡ old
Steps old (event ∷ events) new = (answer : Answer) × (next : WorldValue) × Step old event answer next × Steps next events new

-- the hosts and the link went from one state to the other by this history
abbrev pub WorldRun : List Entry → Nodes → Nodes → Type 0
WorldRun [] from to = to ≡ from
WorldRun (e ∷ past) from to = (before : Nodes) × WorldRun past from before × Leads past before e to
