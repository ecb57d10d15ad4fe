-- A lease comes from an acknowledgement alone.
use Rattle.std.proofs.Common.{◌≡◌, ◌⊎◌, inl, inr, ℕ, Bool, true, false, ◌&&◌, not, if◌then◌else◌, ℤ, List, Option, Some, None, refl, sym, ap, ◌∙◌, subst}
use Rattle.std.specs.Prelude.{◌==◌}
use Rattle.std.specs.Str.{bytes_eq}
use Rattle.std.proofs.lemmas.Bool.{and_parts, eqb-true}
use Rattle.std.proofs.lemmas.Slice.Eq.{bytes_eq-Decides}
use Rattle.ip_wire.specs.IpRepr.{IpRepr}
use Rattle.ip_wire.specs.IpRepr.TheVariants as Ip
use Rattle.ip_wire.specs.Ipv4Address.{Ipv4Address}
use Rattle.ip_wire.specs.Ipv4Cidr.{Ipv4Cidr}
use Rattle.ip_wire.specs.UdpRepr.{UdpRepr}
use Rattle.wire_dhcp.specs.Dhcp.{IsDhcp}
use Rattle.wire_dhcp.specs.declared.message_type.DhcpMessageType.{DhcpMessageType}
use Rattle.wire_dhcp.specs.declared.message_type.DhcpMessageType.TheVariants.{Discover, Offer, Request, Decline, Ack, Nak, Release, Inform}
use Rattle.wire_dhcp.specs.declared.repr.DhcpRepr.{DhcpRepr}
use Rattle.socket_datagram.specs.DhcpClient.Answers.{is_answer, offer_in, bound_to, told_by, told_from, Takes, ProcessedFrom, Processed}
use Rattle.socket_datagram.specs.DhcpClient.Laws.{IsAcknowledged, IsGiven}
use Rattle.socket_datagram.specs.DhcpClient.Leases.{IsCidrIn, IsCidrOf, is_usable, is_leasable, server_of, server_in, lease_span, micros_of, spans_of, lease_with, lease_in}
use Rattle.socket_datagram.specs.DhcpClient.Moments.{later, first_wait}
use Rattle.socket_datagram.specs.DhcpClient.States.{lease_of, is_asked}
use Rattle.socket_datagram.specs.DhcpClient.Value.{DhcpValue, accepts, begun, least_wait, unoffered}
use Rattle.socket_datagram.proofs.DhcpClient.Hosts.{can_have}
use Rattle.socket_datagram.specs.declared.dhcpv4.config.ServerInfo.{ServerInfo}
use Rattle.socket_datagram.specs.declared.dhcpv4.lease.Lease.{Lease}
use Rattle.socket_datagram.specs.declared.dhcpv4.state.ClientState.{ClientState}
use Rattle.socket_datagram.specs.declared.dhcpv4.state.ClientState.TheVariants as S

-- what a lease is that an acknowledgement gave
record IsFrom (now : ℤ) (server : ServerInfo) (m : DhcpRepr) (cidr : Option Ipv4Cidr) (most : Option ℕ) (lease : Lease) : Type 0 where
  cidr_is : cidr ≡ Some lease.config.address
  can_have : is_leasable m.your_ip cidr ≡ true
  server_is : server ≡ lease.config.server
  ends : lease.expires_at ≡ later now (lease_span m.lease_duration most)

abbrev the_lease : ℤ → ServerInfo → DhcpRepr → Ipv4Cidr → Option ℕ → ℕ → Lease
the_lease now server m cidr most least =
    lease_with now server m cidr (lease_span m.lease_duration most)
    (spans_of (lease_span m.lease_duration most) (micros_of m.renew_duration) (micros_of m.rebind_duration)) least

IsFrom-same : (now : ℤ) (server : ServerInfo) (m : DhcpRepr) (cidr : Ipv4Cidr) (most : Option ℕ) (least : ℕ) (lease : Lease) →
    is_leasable m.your_ip (Some cidr) ≡ true → the_lease now server m cidr most least ≡ lease →
    IsFrom now server m (Some cidr) most lease
IsFrom-same now server m cidr most least lease can same = record {
  can_have = can;
  cidr_is = ap (λ (l : Lease). Some l.config.address) same;
  server_is = ap (λ (l : Lease). l.config.server) same;
  ends = sym (ap (λ (l : Lease). l.expires_at) same);
}

IsFrom-lease : (now : ℤ) (server : ServerInfo) (m : DhcpRepr) (cidr : Option Ipv4Cidr) (most : Option ℕ) (least : ℕ) (lease : Lease) →
    lease_in now server m cidr most least ≡ Some lease → IsFrom now server m cidr most lease
IsFrom-lease now server m None most least lease e = absurd (cc)
IsFrom-lease now server m (Some cidr) most least lease e = by (is_leasable m.your_ip (Some cidr)) refl e where
  by : (t : Bool) → is_leasable m.your_ip (Some cidr) ≡ t → (if t then Some (the_lease now server m cidr most least) else None) ≡ Some lease →
      IsFrom now server m (Some cidr) most lease
  by true can e = IsFrom-same now server m cidr most least lease can (cc)
  by false can e = absurd (cc)

server_named : (source : Ipv4Address) (identifier : Option Ipv4Address) (server : ServerInfo) → server_of source identifier ≡ Some server →
    identifier ≡ Some server.identifier
server_named source None server e = absurd (cc)
server_named source (Some identifier) server e = by (is_usable identifier) e where
  by : (t : Bool) → (if t then Some (record { address = source; identifier = identifier }) else None) ≡ Some server → Some identifier ≡ Some server.identifier
  by true e = let same : record { address = source; identifier = identifier } ≡ server = (cc) in ap (λ (s : ServerInfo). Some s.identifier) same
  by false e = absurd (cc)

cidr_address : (address : Ipv4Address) (mask : Option Ipv4Address) (cidr : Ipv4Cidr) → IsCidrIn address mask (Some cidr) → cidr.address ≡ address
cidr_address address None cidr is = absurd is
cidr_address address (Some mask) cidr is = is.0

-- what is known of a message that answers
record Answers (now : ℤ) (v : DhcpValue) (ip : IpRepr) (repr : UdpRepr) (payload : List ℕ) (server : ServerInfo) (m : DhcpRepr)
    (cidr : Option Ipv4Cidr) : Type 0 where
  accepted : accepts v ip repr ≡ true
  read : IsDhcp payload m
  network : IsCidrOf m cidr
  answer : is_answer v m ≡ true
  named : m.server_identifier ≡ Some server.identifier

-- the lease was there, or was acknowledged
abbrev IsEither : ℤ → DhcpValue → IpRepr → UdpRepr → List ℕ → Lease → Type 0
IsEither now v ip repr payload lease = (lease_of v.state ≡ Some lease) ⊎ IsAcknowledged now v ip repr payload lease

acknowledges : (now : ℤ) (v : DhcpValue) (ip : IpRepr) (repr : UdpRepr) (payload : List ℕ) (server : ServerInfo) (m : DhcpRepr) (cidr : Option Ipv4Cidr)
    (lease : Lease)
    → Answers now v ip repr payload server m cidr → m.message_type ≡ Ack → is_asked v.state server ≡ true →
    IsFrom now server m cidr v.settings.max_lease_duration lease → IsAcknowledged now v ip repr payload lease
acknowledges now v ip repr payload server m cidr lease a kind asked from =
    let parts = and_parts (m.transaction_id == v.transaction_id) (bytes_eq m.client_hardware_address.0 v.link_addr.0) a.answer in
    let network : IsCidrOf m (Some lease.config.address) = subst (λ (b : Option Ipv4Cidr). IsCidrOf m b) from.cidr_is a.network in
    record {
      message = m;
      accepted = a.accepted;
      read = a.read;
      acknowledges = kind;
      transaction = eqb-true m.transaction_id v.transaction_id parts.0;
      link_addr = (bytes_eq-Decides m.client_hardware_address.0 v.link_addr.0).0 parts.1;
      named = a.named ∙ ap (λ (s : ServerInfo). Some s.identifier) from.server_is;
      asked = subst (λ (s : ServerInfo). is_asked v.state s ≡ true) from.server_is asked;
      address = cidr_address m.your_ip m.subnet_mask lease.config.address network;
      network = network;
      host = can_have m.your_ip lease.config.address (cidr_address m.your_ip m.subnet_mask lease.config.address network)
          (subst (λ (b : Option Ipv4Cidr). is_leasable m.your_ip b ≡ true) from.cidr_is from.can_have);
      end = from.ends;
    }

-- an offer
offer_given : (now : ℤ) (v : DhcpValue) (server : ServerInfo) (m : DhcpRepr) (lease : Lease) (cidr : Option Ipv4Cidr) (s : ClientState) → lease_of v.state ≡ lease_of s →
    lease_of (offer_in now server (unoffered v) m cidr s).state ≡ Some lease → lease_of v.state ≡ Some lease
offer_given now v server m lease cidr (S.Init begins_at) same is = is
offer_given now v server m lease cidr (S.Selecting x) same is = by (is_leasable m.your_ip cidr) is where
  by : (t : Bool) → lease_of (if t then record (unoffered v) {
    state = S.Requesting (record {
      retry_at = now;
      wait = first_wait v.settings.retry.initial_request_timeout;
      retry = 0;
      server = server;
      requested_ip = m.your_ip;
    });
  } else unoffered v).state ≡ Some lease → lease_of v.state ≡ Some lease
  by true is = absurd (cc)
  by false is = is
offer_given now v server m lease cidr (S.Requesting x) same is = is
offer_given now v server m lease cidr (S.Bound l) same is = is
offer_given now v server m lease cidr (S.Renewing l retry_at) same is = is
offer_given now v server m lease cidr (S.Rebinding l retry_at) same is = is

-- an acknowledgement
bound_given : (now : ℤ) (v : DhcpValue) (ip : IpRepr) (repr : UdpRepr) (payload : List ℕ) (server : ServerInfo) (m : DhcpRepr) (cidr : Option Ipv4Cidr)
    (lease : Lease) (given : Option Lease)
    → Answers now v ip repr payload server m cidr → m.message_type ≡ Ack → is_asked v.state server ≡ true →
    lease_in now server m cidr v.settings.max_lease_duration (least_wait v.settings) ≡ given
    → lease_of (bound_to (unoffered v) given).state ≡ Some lease → IsEither now v ip repr payload lease
bound_given now v ip repr payload server m cidr lease None a kind asked e is = inl is
bound_given now v ip repr payload server m cidr lease (Some given) a kind asked e is =
    let from = IsFrom-lease now server m cidr v.settings.max_lease_duration (least_wait v.settings) lease (e ∙ is) in
    inr (acknowledges now v ip repr payload server m cidr lease a kind asked from)

ack_given : (now : ℤ) (v : DhcpValue) (ip : IpRepr) (repr : UdpRepr) (payload : List ℕ) (server : ServerInfo) (m : DhcpRepr) (cidr : Option Ipv4Cidr)
    (lease : Lease) (t : Bool)
    → Answers now v ip repr payload server m cidr → m.message_type ≡ Ack → is_asked v.state server ≡ t
    → lease_of (if t
    then bound_to (unoffered v) (lease_in now server m cidr v.settings.max_lease_duration (least_wait v.settings)) else unoffered v).state ≡ Some lease →
    IsEither now v ip repr payload lease
ack_given now v ip repr payload server m cidr lease true a kind asked is =
    bound_given now v ip repr payload server m cidr lease (lease_in now server m cidr v.settings.max_lease_duration (least_wait v.settings)) a kind asked refl is
ack_given now v ip repr payload server m cidr lease false a kind asked is = inl is

-- a refusal
nak_given : (v : DhcpValue) (lease : Lease) (t : Bool) → lease_of (if t then begun (unoffered v) else unoffered v).state ≡ Some lease →
    lease_of v.state ≡ Some lease
nak_given v lease true is = absurd (cc)
nak_given v lease false is = is

type_given : (now : ℤ) (v : DhcpValue) (ip : IpRepr) (repr : UdpRepr) (payload : List ℕ) (server : ServerInfo) (m : DhcpRepr) (cidr : Option Ipv4Cidr)
    (lease : Lease) (t : DhcpMessageType)
    → Answers now v ip repr payload server m cidr → m.message_type ≡ t → lease_of (told_by t now server (unoffered v) m cidr).state ≡ Some lease →
    IsEither now v ip repr payload lease
type_given now v ip repr payload server m cidr lease Discover a kind is = inl is
type_given now v ip repr payload server m cidr lease Offer a kind is = inl (offer_given now v server m lease cidr v.state refl is)
type_given now v ip repr payload server m cidr lease Request a kind is = inl is
type_given now v ip repr payload server m cidr lease Decline a kind is = inl is
type_given now v ip repr payload server m cidr lease Ack a kind is =
    ack_given now v ip repr payload server m cidr lease (is_asked v.state server) a kind refl is
type_given now v ip repr payload server m cidr lease Nak a kind is = inl (nak_given v lease (is_asked v.state server && not v.settings.ignore_naks) is)
type_given now v ip repr payload server m cidr lease Release a kind is = inl is
type_given now v ip repr payload server m cidr lease Inform a kind is = inl is

server_given : (now : ℤ) (v : DhcpValue) (ip : IpRepr) (repr : UdpRepr) (payload : List ℕ) (source : Ipv4Address) (m : DhcpRepr) (cidr : Option Ipv4Cidr)
    (lease : Lease) (server : Option ServerInfo)
    → accepts v ip repr ≡ true → IsDhcp payload m → IsCidrOf m cidr → is_answer v m ≡ true → server_in source m ≡ server
    → lease_of (told_from server now (unoffered v) m cidr).state ≡ Some lease → IsEither now v ip repr payload lease
server_given now v ip repr payload source m cidr lease None accepted read network answer e is = inl is
server_given now v ip repr payload source m cidr lease (Some server) accepted read network answer e is =
    type_given now v ip repr payload server m cidr lease m.message_type
    (record { accepted = accepted; read = read; network = network; answer = answer; named = server_named source m.server_identifier server e }) refl is

answer_given : (now : ℤ) (v : DhcpValue) (ip : IpRepr) (repr : UdpRepr) (payload : List ℕ) (source : Ipv4Address) (m : DhcpRepr) (cidr : Option Ipv4Cidr)
    (lease : Lease) (t : Bool)
    → accepts v ip repr ≡ true → IsDhcp payload m → IsCidrOf m cidr → is_answer v m ≡ t
    → lease_of (if t then told_from (server_in source m) now (unoffered v) m cidr else unoffered v).state ≡ Some lease → IsEither now v ip repr payload lease
answer_given now v ip repr payload source m cidr lease true accepted read network answer is =
    server_given now v ip repr payload source m cidr lease (server_in source m) accepted read network answer refl is
answer_given now v ip repr payload source m cidr lease false accepted read network answer is = inl is

kept_given : (now : ℤ) (v v' : DhcpValue) (ip : IpRepr) (repr : UdpRepr) (payload : List ℕ) → v' ≡ unoffered v → IsGiven now v ip repr payload v'
kept_given now v v' ip repr payload same = λ lease is. inl (sym (ap (λ (w : DhcpValue). lease_of w.state) same) ∙ is)

taken_given : (now : ℤ) (v v' : DhcpValue) (ip : IpRepr) (repr : UdpRepr) (payload : List ℕ) (source : Ipv4Address) → accepts v ip repr ≡ true →
    Takes now v source payload v' → IsGiven now v ip repr payload v'
taken_given now v v' ip repr payload source accepted takes = λ lease is.
    answer_given now v ip repr payload source takes.message takes.cidr lease (is_answer v takes.message) accepted takes.read takes.network refl
    (sym (ap (λ (w : DhcpValue). lease_of w.state) takes.taken) ∙ is)

from_given : (now : ℤ) (v v' : DhcpValue) (ip : IpRepr) (repr : UdpRepr) (payload : List ℕ) (t : Bool) → accepts v ip repr ≡ t →
    ProcessedFrom t now v ip payload v' → IsGiven now v ip repr payload v'
from_given now v v' (Ip.Ipv4 header) repr payload true accepted (inl takes) = taken_given now v v' (Ip.Ipv4 header) repr payload header.src_addr accepted takes
from_given now v v' (Ip.Ipv4 header) repr payload true accepted (inr none) = kept_given now v v' (Ip.Ipv4 header) repr payload none.1
from_given now v v' (Ip.Ipv6 header) repr payload true accepted done = kept_given now v v' (Ip.Ipv6 header) repr payload done
from_given now v v' ip repr payload false accepted done = kept_given now v v' ip repr payload done

pub given : (now : ℤ) (v v' : DhcpValue) (ip : IpRepr) (repr : UdpRepr) (payload : List ℕ) → Processed now v ip repr payload v' →
    IsGiven now v ip repr payload v'
given now v v' ip repr payload done = from_given now v v' ip repr payload (accepts v ip repr) refl done
