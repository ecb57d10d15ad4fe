-- What a world keeps: where it came from, how, and what its tables say.
use Rattle.std.specs.Prelude.{◌≡◌, List}
use Rattle.lan.specs.Worlds.AtLink.History.{Entry}
use Rattle.lan.specs.Worlds.AtLink.Initial.{IsInitialWorld}
use Rattle.lan.specs.Worlds.AtLink.Refusals.{Table, Tables}
use Rattle.lan.specs.Worlds.AtLink.Runs.{AreAlone, Start, Starts, WorldValue, WorldRun, unused_both, tables_in}
use Rattle.lan.specs.Worlds.AtLink.Node.{NodeValue, Nodes}
use Rattle.lan.specs.Worlds.Events.{AreTyped}

-- a host as its world began with it
abbrev pub start_of : NodeValue → Start
start_of s = record {
  host = s.host;
  slots = s.slots;
  capabilities = s.link.capabilities;
  room = s.link.room;
  refusals = s.link.refusals;
}

abbrev pub starts_of : NodeValue → NodeValue → Starts
starts_of a b = record { a = start_of a; b = start_of b }

abbrev pub both : NodeValue → NodeValue → Nodes
both a b = record { a = a; b = b }

abbrev pub tables : Table → Table → Tables
tables a b = record { a = a; b = b }

abbrev pub world : NodeValue → NodeValue → NodeValue → NodeValue → List Entry → WorldValue
world start_a start_b a b history = record { hosts = both a b; starts = starts_of start_a start_b; history = history }

-- The hosts were new, and the history leads from them to what they are now. The tables, which refusals read, are the history's. The
-- numbers of its events have their widths.
pub record HasCome (start_a start_b a b : NodeValue) (of_a of_b : Table) (history : List Entry) : Type 0 where
  pub initial : IsInitialWorld (starts_of start_a start_b)
  pub run : WorldRun history (unused_both (starts_of start_a start_b)) (both a b)
  pub tables : tables of_a of_b ≡ tables_in history (both a b)
  pub typed : AreTyped history
  pub alone : AreAlone (both a b)
