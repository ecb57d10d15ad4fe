-- The calls of a client of DNS, where there is one.
use Rattle.std.specs.Prelude.{◌≡◌, ℕ, ℤ, Bool, List, Option, None, Some, Result, Ok, Err}
use Rattle.sockets.specs.DnsValue as Dns
use Rattle.sockets.specs.DnsValue.{DnsValue, result_of, told}
use Rattle.sockets.specs.DnsOffers.{Offers}
use Rattle.sockets.specs.DnsProcessed.{Processed}
use Rattle.sockets.specs.DnsStarts.{Starts}
use Rattle.sockets.specs.DnsTurns.{poll_of}
use Rattle.wire_dns.specs.declared.codes.DnsQueryType.{DnsQueryType}
use Rattle.socket_datagram.specs.declared.dns.error.GetQueryResultError.{GetQueryResultError}
use Rattle.socket_datagram.specs.declared.dns.error.GetQueryResultError.TheVariants as Get
use Rattle.socket_datagram.specs.declared.dns.error.StartQueryError.{StartQueryError}
use Rattle.socket_datagram.specs.declared.dns.error.StartQueryError.TheVariants as Start
use Rattle.ip_wire.specs.IpAddress.{IpAddress}
use Rattle.ip_wire.specs.IpEndpoint.{IpEndpoint}
use Rattle.sockets.specs.Context.{ContextValue}
use Rattle.sockets.specs.PollAt.{PollAt}
use Rattle.c_calls.specs.Clients.{answered, changed, Taken, Takes, Sent, Sends}
use Rattle.c_calls.specs.Codes.{coded}
use Rattle.c_calls.specs.declared.carrying.Sending.{Sending}
use Rattle.c_calls.specs.declared.code.Code.{Code}
use Rattle.c_calls.specs.declared.code.Code.TheVariants as Is

abbrev pub of_start : StartQueryError → Code
of_start Start.NoFreeSlot = Is.QueryPending
of_start Start.InvalidName = Is.InvalidName
of_start Start.NameTooLong = Is.NameTooLong

abbrev pub of_result : GetQueryResultError → Code
of_result Get.Pending = Is.QueryPending
of_result Get.Failed = Is.QueryFailed
of_result Get.Unanswered = Is.QueryUnanswered

-- it tells what no server answered where the host keeps the requirements
abbrev pub query_made : List IpAddress → Bool → Option DnsValue
query_made servers host_requirements = Some (Dns.with_host_requirements (Dns.made servers) host_requirements)

-- ASKING

-- the client starts a query, or refuses
abbrev pub Asked : ContextValue → List ℕ → DnsQueryType → DnsValue → Result (Unit {0}) Code → DnsValue → Type 0
Asked cx name kind v result v' = (own : Result (Unit {0}) StartQueryError) × Starts cx v name kind own v' × (result ≡ coded of_start own)

-- no byte is read of a longer text: a name has at most 253 bytes, and a dot may follow
abbrev pub most_name : ℕ
most_name = 255

abbrev pub Asks : ContextValue → List ℕ → DnsQueryType → Option DnsValue → Result (Unit {0}) Code → Option DnsValue → Type 0
Asks cx name kind None result client = (result ≡ Err Is.NoClient) × (client ≡ None)
Asks cx name kind (Some v) result client = (v' : DnsValue) × Asked cx name kind v result v' × (client ≡ Some v')

-- WHAT COMES

-- a datagram from one end to another is processed
abbrev pub AnswerTaken : ℤ → IpEndpoint → IpEndpoint → List ℕ → DnsValue → DnsValue → Type 0
AnswerTaken now remote local bytes v v' = Taken Processed now remote local bytes v v'

abbrev pub TakesAnswer : ℤ → IpEndpoint → IpEndpoint → List ℕ → Option DnsValue → Result (Unit {0}) Code → Option DnsValue → Type 0
TakesAnswer now remote local bytes v result client = Takes Processed now remote local bytes v result client

-- WHAT GOES

abbrev pub QuerySent : ContextValue → List ℕ → DnsValue → Result Sending Code → List ℕ → DnsValue → Type 0
QuerySent cx out v result out' v' = Sent Offers Dns.offered_packet cx out v result out' v'

abbrev pub SendsQuery : ContextValue → List ℕ → Option DnsValue → Result Sending Code → List ℕ → Option DnsValue → Type 0
SendsQuery cx out v result out' client = Sends Offers Dns.offered_packet cx out v result out' client

abbrev pub sent_answer : Option DnsValue → Result (Unit {0}) Code
sent_answer client = answered (λ (v : DnsValue). Ok tt) client

abbrev pub sent_after : Bool → Option DnsValue → Option DnsValue
sent_after sent client = changed (Dns.settled sent) client

-- WHAT IS FOUND is told once

abbrev pub found_answer : Option DnsValue → Result (List (Option IpAddress)) Code
found_answer client = answered (λ (v : DnsValue). coded of_result (result_of v.state)) client

abbrev pub found_after : Option DnsValue → Option DnsValue
found_after client = changed told client

abbrev pub due_answer : Option DnsValue → Result PollAt Code
due_answer client = answered (λ (v : DnsValue). Ok (poll_of v.state)) client
