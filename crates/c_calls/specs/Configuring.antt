-- What calls of the clients of DHCP and DNS make of a host: nothing changes but the client, and the random words where a query begins.
use Rattle.std.specs.Prelude.{◌≡◌, ℕ, is_ok, if◌then◌else◌, List, Option, Result}
use Rattle.sockets.specs.DhcpValue.{DhcpValue}
use Rattle.sockets.specs.DnsValue.{DnsValue}
use Rattle.wire_dns.specs.declared.codes.DnsQueryType.{DnsQueryType}
use Rattle.interface.specs.Host.{HostValue}
pub use Rattle.interface.specs.Inner.{context_of, drawn}
pub use Rattle.interface.specs.Made.{with_inner}
use Rattle.ip_wire.specs.IpAddress.{IpAddress}
use Rattle.ip_wire.specs.IpEndpoint.{IpEndpoint}
use Rattle.c_calls.specs.Leases.{TakesLease, SendsLease}
use Rattle.c_calls.specs.Names.{Asks, TakesAnswer, SendsQuery}
use Rattle.c_calls.specs.declared.carrying.Sending.{Sending}
use Rattle.c_calls.specs.declared.code.Code.{Code}
use Rattle.c_calls.specs.Host.{StackValue}

abbrev pub LeaseArrives : IpEndpoint → IpAddress → List ℕ → StackValue → Result (Unit {0}) Code → StackValue → Type 0
LeaseArrives remote local bytes s result s' =
    TakesLease (context_of s.host.inner).instant remote local bytes s.dhcp result s'.dhcp × (s' ≡ record s { dhcp = s'.dhcp })

abbrev pub LeaseGoes : List ℕ → StackValue → Result Sending Code → List ℕ → StackValue → Type 0
LeaseGoes out s result out' s' = SendsLease (context_of s.host.inner) out s.dhcp result out' s'.dhcp × (s' ≡ record s { dhcp = s'.dhcp })

-- a random word is drawn
abbrev pub one_drawn : HostValue → HostValue
one_drawn h = with_inner h (drawn h.inner)

-- a query that begins draws two
abbrev pub two_drawn : Result (Unit {0}) Code → HostValue → HostValue
two_drawn result h = if is_ok result then one_drawn (one_drawn h) else h

abbrev pub AsksName : List ℕ → DnsQueryType → StackValue → Result (Unit {0}) Code → StackValue → Type 0
AsksName name kind s result s' =
    Asks (context_of s.host.inner) name kind s.dns result s'.dns × (s' ≡ record s { dns = s'.dns; host = two_drawn result s.host })

abbrev pub AnswerArrives : IpEndpoint → IpEndpoint → List ℕ → StackValue → Result (Unit {0}) Code → StackValue → Type 0
AnswerArrives remote local bytes s result s' =
    TakesAnswer (context_of s.host.inner).instant remote local bytes s.dns result s'.dns × (s' ≡ record s { dns = s'.dns })

abbrev pub QueryGoes : List ℕ → StackValue → Result Sending Code → List ℕ → StackValue → Type 0
QueryGoes out s result out' s' = SendsQuery (context_of s.host.inner) out s.dns result out' s'.dns × (s' ≡ record s { dns = s'.dns })
