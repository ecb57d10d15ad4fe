-- What a host counts alongside its device.
use Rattle.std.specs.Prelude.{ℕ, ◌+◌, ◌^◌, ◌-◌, min, List, [], ◌∷◌, count_by, fold}
use Rattle.app_tun_services.specs.declared.counts.Counts.{Counts}
use Rattle.app_tun_services.specs.declared.site.Session.{Session}
use Rattle.interface.specs.Backlog.Stages.{is_open}
use Rattle.interface.specs.declared.listener.entry.Entry.{Entry}
use Rattle.app_tun_services.specs.declared.tally.Tally.{Tally}
use Rattle.app_tun_services.specs.Link.Drain.{DrainValue}

-- counted to the largest number of 64 bits
abbrev pub more : ℕ → ℕ → ℕ
more n m = min (n + m) (2 ^ 64 - 1)

-- how many connections wait to be accepted
abbrev pub open_count : List Entry → ℕ
open_count es = count_by (λ e. is_open e.stage) es

abbrev pub more_waiting : List Entry → List Entry → Tally → Tally
more_waiting echoes pages t = record t { streams = more t.streams (open_count echoes); pages = more t.pages (open_count pages) }

-- what a session counted is taken over
abbrev pub tally_with : Tally → Session → Tally
tally_with t s = record t { answered = more t.answered s.answered; declined = more t.declined s.declined }

abbrev pub no_more : Session → Session
no_more s = record s { answered = 0; declined = 0 }

abbrev pub collected : List Session → Tally → Tally
collected ss t = fold tally_with t ss

abbrev pub no_tally : Tally
no_tally = record { streams = 0; pages = 0; answered = 0; declined = 0 }

-- what is said of it, and of the device
abbrev pub counts_of : DrainValue → Tally → Counts
counts_of d t = record {
  received = d.received;
  too_long = d.dropped;
  unknown = d.faults.unknown;
  header = d.faults.header;
  checksum = d.faults.checksum;
  resets_received = d.resets_received;
  sent = d.emitted;
  resets_sent = d.resets_sent;
  refused = d.refusals;
  streams = t.streams;
  pages = t.pages;
  answered = t.answered;
  declined = t.declined;
}
