-- For how long nothing may happen on a connection of the page; a server may close an idle one at any time (RFC 9112, section 9.5).
use Rattle.std.specs.Prelude.{ℕ, ◌-◌, ◌==◌, ◌&&◌, ◌||◌, nat_lt, nat_le, min, max, ℤ, Bool, true, false, if◌then◌else◌, List, length, count_by, fold, Option, None, Some}
use Rattle.sockets.specs.TcpStates.{takes_writes}
use Rattle.tcp_block.specs.Calls.{abort_after}
use Rattle.interface.specs.Backlog.Calls.{micros_of}
use Rattle.interface.specs.declared.listener.entry.Entry.{Entry}
use Rattle.interface.specs.declared.listener.stage.Stage.{Stage}
use Rattle.interface.specs.declared.listener.stage.Stage.TheVariants as Is
use Rattle.app_tun_services.specs.Site.{Talk}
use Rattle.app_tun_services.specs.declared.counts.Counts.{Counts}
use Rattle.app_tun_services.specs.declared.idle.Moment.{Moment}
use Rattle.app_tun_services.specs.declared.site.Seen.{Seen}
use Rattle.app_tun_services.specs.declared.site.Session.{Session}

-- WHAT HAPPENS

-- whether bytes of a request wait (1, else 0), how many wait to be acknowledged, and how many are still to be said. A request that
-- comes byte by byte stays the same, so it has its limit as a whole.
abbrev pub sight : ℕ → Talk → Seen
sight now t = record {
  request = min (length t.socket.received.waiting) 1;
  queued = length t.socket.queued.queue;
  left = t.session.left;
  since = now;
}

abbrev pub is_like : Seen → Seen → Bool
is_like a b = a.request == b.request && (a.queued == b.queued && a.left == b.left)

-- nothing happened since the turn before where the same is seen
abbrev pub seen_since : Option Seen → Seen → Seen
seen_since None seen = seen
seen_since (Some before) seen = if is_like before seen then before else seen

-- THE LIMITS, in microseconds

-- where nothing of a request came, within one and between two, and while an answer waits to be read
abbrev pub first_limit : ℕ
first_limit = 10_000_000

abbrev pub request_limit : ℕ
request_limit = 30_000_000

abbrev pub answer_limit : ℕ
answer_limit = 60_000_000

abbrev pub limit : Seen → Bool → ℕ
limit seen was_asked =
    if nat_lt 0 seen.queued || nat_lt 0 seen.left then answer_limit
    else if was_asked || nat_lt 0 seen.request then request_limit
    else first_limit

-- A CONNECTION

abbrev pub reset_if : Bool → Talk → Talk
reset_if true t = record t { socket = abort_after t.socket }
reset_if false t = t

abbrev pub noted : Seen → Talk → Talk
noted seen t = record t { session = record t.session { seen = Some seen } }

-- it is reset exactly where nothing happened for as long as its limit, or as the turn's patience
abbrev pub watched_as : Moment → Seen → Talk → Talk
watched_as m seen t = reset_if (nat_le (min (limit seen t.session.was_asked) m.patience) (m.instant - seen.since)) (noted seen t)

-- one to which no more can be written ends by itself
abbrev pub watched_by : Bool → Moment → Talk → Talk
watched_by true m t = watched_as m (seen_since t.session.seen (sight m.instant t)) t
watched_by false m t = t

abbrev pub watched : Moment → Talk → Talk
watched m t = watched_by (takes_writes t.socket.tcb.state) m t

-- ALL CONNECTIONS

-- a socket has a connection that was accepted, or is about to be
abbrev pub is_taken : Stage → Bool
is_taken Is.Open = true
is_taken Is.Accepted = true
is_taken Is.Ending = true
is_taken other = false

abbrev pub taken_count : List Entry → ℕ
taken_count es = count_by (λ e. is_taken e.stage) es

abbrev pub since_seen : ℕ → Option Seen → ℕ
since_seen now None = now
since_seen now (Some seen) = seen.since

abbrev pub since_of : ℕ → Session → ℕ
since_of now s = since_seen now s.seen

abbrev pub earlier : ℕ → ℕ → Session → ℕ
earlier now at s = min at (since_of now s)

-- since when nothing happened on that on which nothing happened for longest
abbrev pub oldest : ℕ → List Session → ℕ
oldest now ss = fold (earlier now) now ss

-- who waits for a socket waits for a second at most
abbrev pub least_limit : ℕ
least_limit = 1_000_000

-- Where each socket is taken, the connection on which nothing happened for longest gives way, if that is a second: those on which nothing
-- happened for as long are reset. Else none is before its own limit. No turn comes for that: the next one does it.
abbrev pub patience : ℕ → List Entry → List Session → ℕ
patience now es ss = if taken_count es == length es then max (now - oldest now ss) least_limit else answer_limit

abbrev pub moment_at : ℤ → List Entry → List Session → Counts → Moment
moment_at instant es ss counts = record { instant = micros_of instant; patience = patience (micros_of instant) es ss; counts = counts }
