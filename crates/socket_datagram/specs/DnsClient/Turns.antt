-- How long a client waits for an answer, and asks one server, in microseconds.
use Rattle.std.specs.Prelude.{ℕ, ◌+◌, min, Some, None, ℤ, pos, ◌+ℤ◌, int_lt, if◌then◌else◌}
use Rattle.socket_context.specs.declared.poll_at.PollAt.{PollAt}
use Rattle.socket_context.specs.declared.poll_at.PollAt.TheVariants as At
use Rattle.wire_dns.specs.declared.question.DnsQuestion.{DnsQuestion}
use Rattle.socket_datagram.specs.declared.dns.query.Query.{Query}
use Rattle.socket_datagram.specs.declared.dns.query.Sending.{Sending}
use Rattle.socket_datagram.specs.declared.dns.state.State.{State}
use Rattle.socket_datagram.specs.declared.dns.state.State.TheVariants.{Idle, Pending, Completed, Failed, Unanswered}

-- a second at first
abbrev pub first_wait : ℕ
first_wait = 1_000_000

-- ten seconds at most
abbrev pub longest_wait : ℕ
longest_wait = 10_000_000

-- each further one is twice as long
abbrev pub doubled : ℕ → ℕ
doubled wait = min (min wait longest_wait + min wait longest_wait) longest_wait

-- when the query is sent again that is sent at this instant
abbrev pub retry_after : ℤ → ℕ → ℤ
retry_after now wait = now +ℤ pos (min wait longest_wait)

-- one server is asked for ten seconds
abbrev pub next_after : ℤ → ℤ
next_after now = now +ℤ pos 10_000_000

-- a query begins with the first server
abbrev pub query_of : ℤ → DnsQuestion → ℕ → ℕ → Query
query_of now question number port = record {
  question = question;
  transaction_id = number;
  port = port;
  server = 0;
  asked = None;
  retry_at = now;
  wait = first_wait;
  next_at = next_after now;
}

-- the slot after it in the list of servers
abbrev pub next_offset : Query → ℕ
next_offset q = min (q.server + 1) 255

-- it goes on with the next server
abbrev pub asked_next : ℤ → Query → Query
asked_next now q = record q {
  server = next_offset q;
  asked = None;
  retry_at = now;
  wait = first_wait;
  next_at = next_after now;
}

-- it was sent
abbrev pub sent_as : Query → Sending → Query
sent_as q s = record q { asked = Some s.server; retry_at = s.retry_at; wait = s.wait }

-- when there is something to do
abbrev pub due_at : Query → ℤ
due_at q = if int_lt q.next_at q.retry_at then q.next_at else q.retry_at

abbrev pub poll_of : State → PollAt
poll_of Idle = At.Ingress
poll_of (Pending q) = At.Time (due_at q)
poll_of (Completed found) = At.Ingress
poll_of Failed = At.Ingress
poll_of Unanswered = At.Ingress
