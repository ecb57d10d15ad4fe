-- The calls of a client of DHCP, where there is one.
use Rattle.std.specs.Prelude.{ℕ, ℤ, Bool, List, Option, Some, Result, Ok, Err}
use Rattle.sockets.specs.DhcpValue as Dhcp
use Rattle.sockets.specs.DhcpValue.{DhcpValue}
use Rattle.sockets.specs.DhcpEvents.{initial, event_of, untold}
use Rattle.sockets.specs.DhcpOffers.{Offers}
use Rattle.sockets.specs.DhcpAnswers.{Processed}
use Rattle.sockets.specs.DhcpStates.{poll_of}
use Rattle.socket_datagram.specs.declared.dhcpv4.config.Event.{Event}
use Rattle.ip_wire.specs.HardwareAddress.{HardwareAddress}
use Rattle.ip_wire.specs.HardwareAddress.TheVariants as Hardware
use Rattle.ip_wire.specs.IpAddress.{IpAddress}
use Rattle.ip_wire.specs.IpEndpoint.{IpEndpoint}
use Rattle.sockets.specs.Context.{ContextValue}
use Rattle.sockets.specs.PollAt.{PollAt}
use Rattle.c_calls.specs.Clients.{answered, changed, Taken, Takes, Sent, Sends}
use Rattle.c_calls.specs.declared.carrying.Sending.{Sending}
use Rattle.c_calls.specs.declared.code.Code.{Code}
use Rattle.c_calls.specs.declared.code.Code.TheVariants as Is

-- MAKING ONE: a hardware address has a client, on a medium that has hardware addresses

abbrev pub dhcp_answer : HardwareAddress → Result (Unit {0}) Code
dhcp_answer (Hardware.Ethernet hardware_addr) = Ok tt
dhcp_answer Hardware.Ip = Err Is.Medium

-- it waits a second between two messages where the host keeps the requirements
abbrev pub under : Bool → DhcpValue → DhcpValue
under host_requirements v = Dhcp.with_settings v (record v.settings { host_requirements = host_requirements })

abbrev pub dhcp_made : HardwareAddress → ℕ → Bool → Option DhcpValue → Option DhcpValue
dhcp_made (Hardware.Ethernet hardware_addr) seed host_requirements client = Some (under host_requirements (Dhcp.made hardware_addr seed))
dhcp_made Hardware.Ip seed host_requirements client = client

-- WHAT COMES

abbrev pub at_client : IpAddress → IpEndpoint
at_client local = record { addr = local; port = 68 }

-- a datagram from one end to the client's port at an address is processed
abbrev pub LeaseTaken : ℤ → IpEndpoint → IpAddress → List ℕ → DhcpValue → DhcpValue → Type 0
LeaseTaken now remote local bytes v v' = Taken Processed now remote (at_client local) bytes v v'

abbrev pub TakesLease : ℤ → IpEndpoint → IpAddress → List ℕ → Option DhcpValue → Result (Unit {0}) Code → Option DhcpValue → Type 0
TakesLease now remote local bytes v result client = Takes Processed now remote (at_client local) bytes v result client

-- WHAT GOES

abbrev pub LeaseSent : ContextValue → List ℕ → DhcpValue → Result Sending Code → List ℕ → DhcpValue → Type 0
LeaseSent cx out v result out' v' = Sent Offers Dhcp.offered_packet cx out v result out' v'

abbrev pub SendsLease : ContextValue → List ℕ → Option DhcpValue → Result Sending Code → List ℕ → Option DhcpValue → Type 0
SendsLease cx out v result out' client = Sends Offers Dhcp.offered_packet cx out v result out' client

abbrev pub sent_answer : Option DhcpValue → Result (Unit {0}) Code
sent_answer client = answered (λ (v : DhcpValue). Ok tt) client

abbrev pub sent_after : Bool → Option DhcpValue → Option DhcpValue
sent_after sent client = changed (Dhcp.settled sent) client

-- WHAT IS TOLD

abbrev pub told_answer : ℤ → Option DhcpValue → Result (Option Event) Code
told_answer now client = answered (λ (v : DhcpValue). Ok (event_of (initial now v))) client

abbrev pub told_after : ℤ → Option DhcpValue → Option DhcpValue
told_after now client = changed (λ (v : DhcpValue). untold (initial now v)) client

abbrev pub due_answer : Option DhcpValue → Result PollAt Code
due_answer client = answered (λ (v : DhcpValue). Ok (poll_of v.state)) client
