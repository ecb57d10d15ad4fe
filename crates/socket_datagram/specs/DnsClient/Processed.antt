-- What datagrams do.
use Rattle.std.specs.Prelude.{◌≡◌, ℕ, ℤ, ◌==◌, ◌&&◌, Bool, true, false, Option, Some, None, List}
use Rattle.ip_wire.specs.AddressTests.{is_same_address}
use Rattle.ip_wire.specs.Ip.{source_of}
use Rattle.ip_wire.specs.IpAddress.{IpAddress}
use Rattle.ip_wire.specs.IpRepr.{IpRepr}
use Rattle.ip_wire.specs.UdpRepr.{UdpRepr}
use Rattle.socket_datagram.specs.DnsClient.Replies.{IsVerdictIn}
use Rattle.socket_datagram.specs.DnsClient.Value.{DnsValue, unoffered, in_state, turned}
use Rattle.socket_datagram.specs.declared.dns.answer.Verdict.{Verdict}
use Rattle.socket_datagram.specs.declared.dns.answer.Verdict.TheVariants.{Unrelated, Found, Missing, Refused}
use Rattle.socket_datagram.specs.declared.dns.query.Query.{Query}
use Rattle.socket_datagram.specs.declared.dns.state.State.{State}
use Rattle.socket_datagram.specs.declared.dns.state.State.TheVariants.{Idle, Pending, Completed, Failed, Unanswered}

-- a datagram comes from the port of servers and from this address, if there is one, and goes to the query's port
abbrev pub is_from : Option IpAddress → Query → IpRepr → UdpRepr → Bool
is_from None q ip repr = false
is_from (Some server) q ip repr = (repr.src_port == 53) && (repr.dst_port == q.port) && is_same_address server (source_of ip)

-- it comes from the server that the query was sent to
abbrev pub is_for : Query → IpRepr → UdpRepr → Bool
is_for q ip repr = is_from q.asked q ip repr

abbrev pub accepts : State → IpRepr → UdpRepr → Bool
accepts Idle ip repr = false
accepts (Pending q) ip repr = is_for q ip repr
accepts (Completed found) ip repr = false
accepts Failed ip repr = false
accepts Unanswered ip repr = false

-- what a verdict leaves
abbrev pub judged : ℤ → DnsValue → Verdict → DnsValue
judged now v Unrelated = unoffered v
judged now v (Found found) = in_state v (Completed found)
judged now v Missing = in_state v Failed
judged now v Refused = turned now v

pub record Takes (now : ℤ) (v : DnsValue) (payload : List ℕ) (v' : DnsValue) : Type 0 where
  pub verdict : Verdict
  pub is : IsVerdictIn v.state payload verdict
  pub taken : v' ≡ judged now v verdict

-- a datagram that is for the query says something to it, or nothing; any other changes nothing
abbrev pub ProcessedIf : Bool → ℤ → DnsValue → List ℕ → DnsValue → Type 0
ProcessedIf true now v payload v' = Takes now v payload v'
ProcessedIf false now v payload v' = v' ≡ unoffered v

abbrev pub Processed : ℤ → DnsValue → IpRepr → UdpRepr → List ℕ → DnsValue → Type 0
Processed now v ip repr payload v' = ProcessedIf (accepts v.state ip repr) now v payload v'
