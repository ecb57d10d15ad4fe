-- What is asked of the hosts and their link over a whole run.
use Rattle.std.specs.Prelude.{[]}
use Rattle.lan.specs.Worlds.AtLink.Parties.{Net}
use Rattle.lan.specs.Worlds.AtLink.Runs.{Starts, unused}
use Rattle.lan.specs.Worlds.AtLink.Safe.{party_of}

-- both hosts as they start, of which nothing was made
abbrev pub first_net : Starts → Net
first_net starts = record { a = party_of (unused starts.a); b = party_of (unused starts.b); history = [] }
