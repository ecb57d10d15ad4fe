-- The calls of a client of DHCP or of DNS, where there is one.
use Rattle.std.specs.Prelude.{◌≡◌, ℕ, ℤ, List, length, Option, None, Some, Result, Ok, Err}
use Rattle.ip_wire.specs.IpEndpoint.{IpEndpoint}
use Rattle.ip_wire.specs.IpRepr.{IpRepr}
use Rattle.ip_wire.specs.UdpRepr.{UdpRepr}
use Rattle.sockets.specs.Context.{ContextValue}
use Rattle.sockets.specs.Offer.{Offer}
use Rattle.sockets.specs.Packet.{PacketValue}
use Rattle.c_calls.specs.Carrying.{headers_of, sending_in, written_in}
use Rattle.c_calls.specs.declared.carrying.Sending.{Sending}
use Rattle.c_calls.specs.declared.code.Code.{Code}
use Rattle.c_calls.specs.declared.code.Code.TheVariants as Is

module _ {V : Type 0} where
  -- what a client answers
  abbrev pub answered : {A : Type 0} → (V → Result A Code) → Option V → Result A Code
  answered answer None = Err Is.NoClient
  answered answer (Some v) = answer v

  -- what is left of it
  abbrev pub changed : (V → V) → Option V → Option V
  changed after None = None
  changed after (Some v) = Some (after v)

  -- WHAT COMES
  module _ (Processed : ℤ → V → IpRepr → UdpRepr → List ℕ → V → Type 0) where
    abbrev pub TakenWith : Option (IpRepr × UdpRepr) → ℤ → List ℕ → V → V → Type 0
    TakenWith None now bytes v v' = v' ≡ v
    TakenWith (Some headers) now bytes v v' = Processed now v headers.0 headers.1 bytes v'

    -- a datagram from one end to another is processed
    abbrev pub Taken : ℤ → IpEndpoint → IpEndpoint → List ℕ → V → V → Type 0
    Taken now remote local bytes v v' = TakenWith (headers_of remote local (length bytes)) now bytes v v'

    abbrev pub Takes : ℤ → IpEndpoint → IpEndpoint → List ℕ → Option V → Result (Unit {0}) Code → Option V → Type 0
    Takes now remote local bytes None result client = (result ≡ Err Is.NoClient) × (client ≡ None)
    Takes now remote local bytes (Some v) result client = (result ≡ Ok tt) × (v' : V) × Taken now remote local bytes v v' × (client ≡ Some v')

  -- WHAT GOES: what is offered is copied, and the offer stays open
  module _ (Offers : ContextValue → V → Offer → V → Type 0) (offered : V → Option PacketValue) where
    abbrev pub Sent : ContextValue → List ℕ → V → Result Sending Code → List ℕ → V → Type 0
    Sent cx out v result out' v' =
        (answer : Offer) × Offers cx v answer v' × (result ≡ sending_in (offered v') (length out)) × (out' ≡ written_in (offered v') out)

    abbrev pub Sends : ContextValue → List ℕ → Option V → Result Sending Code → List ℕ → Option V → Type 0
    Sends cx out None result out' client = (result ≡ Err Is.NoClient) × (out' ≡ out) × (client ≡ None)
    Sends cx out (Some v) result out' client = (v' : V) × Sent cx out v result out' v' × (client ≡ Some v')
