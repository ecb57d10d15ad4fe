-- What a datagram leaves is determined, and so is what an offer answers and leaves.
use Rattle.std.proofs.Common.{◌≡◌, inl, inr, ℕ, Bool, true, false, if◌then◌else◌, ◌-◌, ℤ, List, [], ◌∷◌, ◌++◌, length, Option, Some, None, refl, sym}
use Rattle.std.proofs.Common.{ap, ◌∙◌, subst}
use Rattle.std.specs.Prelude.{replicate}
use Rattle.ip_wire.specs.EthernetAddress.{EthernetAddress}
use Rattle.ip_wire.specs.IpRepr.{IpRepr}
use Rattle.ip_wire.specs.IpRepr.TheVariants as Ip
use Rattle.ip_wire.specs.Ipv4Address.{Ipv4Address}
use Rattle.ip_wire.specs.Ipv4Cidr.{Ipv4Cidr}
use Rattle.ip_wire.specs.UdpRepr.{UdpRepr}
use Rattle.socket_context.specs.Context.{ContextValue}
use Rattle.socket_context.specs.Packet.{packet_of, Datagram}
use Rattle.socket_context.specs.declared.offer.Offer.{Offer}
use Rattle.wire_dhcp.specs.Dhcp.{IsDhcp}
use Rattle.wire_dhcp.specs.Options.{seen}
use Rattle.wire_dhcp.specs.Written.{written, fixed, client_bytes, name_bytes, time_bytes, network_bytes, options_bytes, inside_bytes, address_inside}
use Rattle.wire_dhcp.specs.declared.message_type.DhcpMessageType.{DhcpMessageType}
use Rattle.wire_dhcp.specs.declared.message_type.DhcpMessageType.TheVariants as Of
use Rattle.wire_dhcp.specs.declared.repr.DhcpRepr.{DhcpRepr}
use Rattle.socket_datagram.proofs.DhcpClient.Masks.{one_cidr, one_mask}
use Rattle.socket_datagram.specs.DhcpClient.Answers.{is_answer, offer_in, bound_to, acknowledged, told_by, told_from, told, ProcessedFrom, Processed}
use Rattle.socket_datagram.specs.DhcpClient.Leases.{IsCidrIn, IsCidrOf, server_in, lease_in}
use Rattle.socket_datagram.specs.DhcpClient.Offers.{Offers, OffersAs, Sends, id_of, next_of, restart_of}
use Rattle.socket_datagram.specs.DhcpClient.Requests.{IsRequest, header_for}
use Rattle.socket_datagram.specs.DhcpClient.States.{turn_of, is_asked}
use Rattle.socket_datagram.specs.DhcpClient.Value.{DhcpValue, accepts, least_wait, unoffered, ports_of}
use Rattle.socket_datagram.specs.declared.dhcpv4.config.ServerInfo.{ServerInfo}
use Rattle.socket_datagram.specs.declared.dhcpv4.lease.Lease.{Lease}
use Rattle.socket_datagram.specs.declared.dhcpv4.request.Kind.{Kind}
use Rattle.socket_datagram.specs.declared.dhcpv4.state.ClientState.{ClientState}
use Rattle.socket_datagram.specs.declared.dhcpv4.state.ClientState.TheVariants as S
use Rattle.socket_datagram.specs.declared.dhcpv4.state.Turn.{Turn}
use Rattle.socket_datagram.specs.declared.dhcpv4.state.Turn.TheVariants as T

-- MESSAGES

-- the same message, but for what it borrows
record IsSame (m n : DhcpRepr) : Type 0 where
  message_type : m.message_type ≡ n.message_type
  transaction_id : m.transaction_id ≡ n.transaction_id
  secs : m.secs ≡ n.secs
  client_hardware_address : m.client_hardware_address ≡ n.client_hardware_address
  client_ip : m.client_ip ≡ n.client_ip
  your_ip : m.your_ip ≡ n.your_ip
  server_ip : m.server_ip ≡ n.server_ip
  relay_agent_ip : m.relay_agent_ip ≡ n.relay_agent_ip
  broadcast : m.broadcast ≡ n.broadcast
  router : m.router ≡ n.router
  subnet_mask : m.subnet_mask ≡ n.subnet_mask
  requested_ip : m.requested_ip ≡ n.requested_ip
  client_identifier : m.client_identifier ≡ n.client_identifier
  server_identifier : m.server_identifier ≡ n.server_identifier
  dns_servers : m.dns_servers ≡ n.dns_servers
  max_size : m.max_size ≡ n.max_size
  lease_duration : m.lease_duration ≡ n.lease_duration
  renew_duration : m.renew_duration ≡ n.renew_duration
  rebind_duration : m.rebind_duration ≡ n.rebind_duration

-- the first with what the second borrows is the second
abbrev borrowing : DhcpRepr → DhcpRepr → DhcpRepr
borrowing m n = record m { host_name = n.host_name; parameter_request_list = n.parameter_request_list; additional_options = n.additional_options }

same_message : (m n : DhcpRepr) → IsSame m n → borrowing m n ≡ n
same_message m n is = λ k. record {
  message_type = is.message_type k;
  transaction_id = is.transaction_id k;
  secs = is.secs k;
  client_hardware_address = is.client_hardware_address k;
  client_ip = is.client_ip k;
  your_ip = is.your_ip k;
  server_ip = is.server_ip k;
  relay_agent_ip = is.relay_agent_ip k;
  broadcast = is.broadcast k;
  router = is.router k;
  subnet_mask = is.subnet_mask k;
  requested_ip = is.requested_ip k;
  client_identifier = is.client_identifier k;
  server_identifier = is.server_identifier k;
  parameter_request_list = n.parameter_request_list;
  host_name = n.host_name;
  dns_servers = is.dns_servers k;
  max_size = is.max_size k;
  lease_duration = is.lease_duration k;
  renew_duration = is.renew_duration k;
  rebind_duration = is.rebind_duration k;
  additional_options = n.additional_options;
}

one_v4 : (a b : Ipv4Address) → a.0 ≡ b.0 → a ≡ b
one_v4 a b same = λ k. record { 0 = same k }

one_hardware_addr : (a b : EthernetAddress) → a.0 ≡ b.0 → a ≡ b
one_hardware_addr a b same = λ k. record { 0 = same k }

one_type : (a b : DhcpMessageType) (o : Option DhcpMessageType) → Some a ≡ o → Some b ≡ o → a ≡ b
one_type a b o one other = let same : Some a ≡ Some b = one ∙ sym other in cc

-- bytes are one message
read_once : (bytes : List ℕ) (m n : DhcpRepr) → IsDhcp bytes m → IsDhcp bytes n → IsSame m n
read_once bytes m n one other = record {
  message_type = one_type m.message_type n.message_type _ one.message_type other.message_type;
  transaction_id = one.transaction_id ∙ sym other.transaction_id;
  secs = one.secs ∙ sym other.secs;
  client_hardware_address = one_hardware_addr _ _ (one.client_hardware_address ∙ sym other.client_hardware_address);
  client_ip = one_v4 _ _ (one.client_ip ∙ sym other.client_ip);
  your_ip = one_v4 _ _ (one.your_ip ∙ sym other.your_ip);
  server_ip = one_v4 _ _ (one.server_ip ∙ sym other.server_ip);
  relay_agent_ip = one_v4 _ _ (one.relay_agent_ip ∙ sym other.relay_agent_ip);
  broadcast = one.broadcast ∙ sym other.broadcast;
  router = one.router ∙ sym other.router;
  subnet_mask = one.subnet_mask ∙ sym other.subnet_mask;
  requested_ip = one.requested_ip ∙ sym other.requested_ip;
  client_identifier = one.client_identifier ∙ sym other.client_identifier;
  server_identifier = one.server_identifier ∙ sym other.server_identifier;
  dns_servers = one.dns_servers ∙ sym other.dns_servers;
  max_size = one.max_size ∙ sym other.max_size;
  lease_duration = one.lease_duration ∙ sym other.lease_duration;
  renew_duration = one.renew_duration ∙ sym other.renew_duration;
  rebind_duration = one.rebind_duration ∙ sym other.rebind_duration;
}

-- a kind of request is one message
asked_once : (kind : Kind) (link_addr : EthernetAddress) (number mtu : ℕ) (parameters options : List ℕ) (m n : DhcpRepr)
    → IsRequest kind link_addr number mtu parameters options m → IsRequest kind link_addr number mtu parameters options n → IsSame m n
asked_once kind link_addr number mtu parameters options m n one other = record {
  message_type = one.message_type ∙ sym other.message_type;
  transaction_id = one.transaction_id ∙ sym other.transaction_id;
  secs = one.secs ∙ sym other.secs;
  client_hardware_address = one.client_hardware_address ∙ sym other.client_hardware_address;
  client_ip = one.client_ip ∙ sym other.client_ip;
  your_ip = one.your_ip ∙ sym other.your_ip;
  server_ip = one.server_ip ∙ sym other.server_ip;
  relay_agent_ip = one.relay_agent_ip ∙ sym other.relay_agent_ip;
  broadcast = one.broadcast ∙ sym other.broadcast;
  router = one.router ∙ sym other.router;
  subnet_mask = one.subnet_mask ∙ sym other.subnet_mask;
  requested_ip = one.requested_ip ∙ sym other.requested_ip;
  client_identifier = one.client_identifier ∙ sym other.client_identifier;
  server_identifier = one.server_identifier ∙ sym other.server_identifier;
  dns_servers = one.dns_servers ∙ sym other.dns_servers;
  max_size = one.max_size ∙ sym other.max_size;
  lease_duration = one.lease_duration ∙ sym other.lease_duration;
  renew_duration = one.renew_duration ∙ sym other.renew_duration;
  rebind_duration = one.rebind_duration ∙ sym other.rebind_duration;
}

-- DATAGRAMS

one_network : (address : Ipv4Address) (mask : Option Ipv4Address) (a b : Option Ipv4Cidr) → IsCidrIn address mask a → IsCidrIn address mask b → a ≡ b
one_network address None None None one other = refl
one_network address None (Some a) b one other = absurd one
one_network address None None (Some b) one other = absurd other
one_network address (Some mask) None None one other = refl
one_network address (Some mask) None (Some b) one other = absurd (one b.prefix_len other.1 other.2)
one_network address (Some mask) (Some a) None one other = absurd (other a.prefix_len one.1 one.2)
one_network address (Some mask) (Some a) (Some b) one other =
    ap (λ (cidr : Ipv4Cidr). Some cidr) (one_cidr a b (one.0 ∙ sym other.0) (one_mask mask a.prefix_len b.prefix_len one.2 other.2))

-- what a message does isn't by what it borrows
module _ (now : ℤ) (v : DhcpValue) (m n : DhcpRepr) (cidr : Option Ipv4Cidr) where
  alike_offer : (server : ServerInfo) (state : ClientState) → offer_in now server v m cidr state ≡ offer_in now server v (borrowing m n) cidr state
  alike_offer server (S.Init begins_at) = refl
  alike_offer server (S.Selecting s) = refl
  alike_offer server (S.Requesting s) = refl
  alike_offer server (S.Bound lease) = refl
  alike_offer server (S.Renewing lease retry_at) = refl
  alike_offer server (S.Rebinding lease retry_at) = refl

  alike_lease : (server : ServerInfo) (b : Option Ipv4Cidr) (most : Option ℕ) (least : ℕ) → lease_in now server m b most least ≡
      lease_in now server (borrowing m n) b most least
  alike_lease server None most least = refl
  alike_lease server (Some b) most least = refl

  alike_by : (type : DhcpMessageType) (server : ServerInfo) → told_by type now server v m cidr ≡ told_by type now server v (borrowing m n) cidr
  alike_by Of.Offer server = alike_offer server v.state
  alike_by Of.Ack server =
      ap (λ (lease : Option Lease). if is_asked v.state server then bound_to v lease else v) (alike_lease server cidr v.settings.max_lease_duration (least_wait v.settings))
  alike_by Of.Nak server = refl
  alike_by Of.Discover server = refl
  alike_by Of.Request server = refl
  alike_by Of.Decline server = refl
  alike_by Of.Release server = refl
  alike_by Of.Inform server = refl

  alike_from : (server : Option ServerInfo) → told_from server now v m cidr ≡ told_from server now v (borrowing m n) cidr
  alike_from None = refl
  alike_from (Some server) = alike_by m.message_type server

  alike : (source : Ipv4Address) → told now source v m cidr ≡ told now source v (borrowing m n) cidr
  alike source = ap (λ (w : DhcpValue). if is_answer v m then w else v) (alike_from (server_in source m))

told_once : (now : ℤ) (source : Ipv4Address) (v : DhcpValue) (m n : DhcpRepr) (cidr : Option Ipv4Cidr) → IsSame m n →
    told now source v m cidr ≡ told now source v n cidr
told_once now source v m n cidr is = alike now v m n cidr source ∙ ap (λ (x : DhcpRepr). told now source v x cidr) (same_message m n is)

one_from : (test : Bool) (now : ℤ) (v left right : DhcpValue) (ip : IpRepr) (payload : List ℕ) → ProcessedFrom test now v ip payload left →
    ProcessedFrom test now v ip payload right → left ≡ right
one_from true now v left right (Ip.Ipv4 header) payload (inl one) (inl other) =
    let same = read_once payload one.message other.message one.read other.read in
    let again : IsCidrOf one.message other.cidr =
    subst (λ (m : DhcpRepr). IsCidrOf m other.cidr) (sym (same_message one.message other.message same)) other.network in
    let network : one.cidr ≡ other.cidr =
    one_network one.message.your_ip one.message.subnet_mask one.cidr other.cidr one.network again in
    one.taken ∙ ap (λ (b : Option Ipv4Cidr). told now header.src_addr (unoffered v) one.message b) network
    ∙ told_once now header.src_addr (unoffered v) one.message other.message other.cidr same ∙ sym other.taken
one_from true now v left right (Ip.Ipv4 header) payload (inl one) (inr other) = absurd (other.0 one.read.is_message)
one_from true now v left right (Ip.Ipv4 header) payload (inr one) (inl other) = absurd (one.0 other.read.is_message)
one_from true now v left right (Ip.Ipv4 header) payload (inr one) (inr other) = one.1 ∙ sym other.1
one_from true now v left right (Ip.Ipv6 header) payload one other = one ∙ sym other
one_from false now v left right ip payload one other = one ∙ sym other

pub one_processed : (now : ℤ) (v left right : DhcpValue) (ip : IpRepr) (repr : UdpRepr) (payload : List ℕ) → Processed now v ip repr payload left →
    Processed now v ip repr payload right → left ≡ right
one_processed now v left right ip repr payload one other = one_from (accepts v ip repr) now v left right ip payload one other

-- OFFERS

-- a message that borrows the same bytes elsewhere is written alike
client_alike : (m n : DhcpRepr) → client_bytes m ≡ client_bytes (borrowing m n)
unfolding client_bytes
client_alike m n = refl

time_alike : (m n : DhcpRepr) → time_bytes m ≡ time_bytes (borrowing m n)
unfolding time_bytes
time_alike m n = refl

network_alike : (m n : DhcpRepr) → network_bytes m ≡ network_bytes (borrowing m n)
unfolding network_bytes
network_alike m n = refl

name_alike : (m n : DhcpRepr) → seen m.host_name ≡ seen n.host_name → seen m.parameter_request_list ≡ seen n.parameter_request_list →
    name_bytes m ≡ name_bytes (borrowing m n)
unfolding name_bytes
name_alike m n names codes =
    λ k. inside_bytes 54 (address_inside m.server_identifier) ++ (inside_bytes 12 (names k) ++ (inside_bytes 55 (codes k) ++ []))

options_alike : (m n : DhcpRepr) → seen m.host_name ≡ seen n.host_name → seen m.parameter_request_list ≡ seen n.parameter_request_list
    → m.additional_options.now ≡ n.additional_options.now → options_bytes m ≡ options_bytes (borrowing m n)
options_alike m n names codes further = λ k.
    client_alike m n k ++ (name_alike m n names codes k ++ (time_alike m n k ++ (network_alike m n k ++ further k)))

written_alike : (m n : DhcpRepr) → seen m.host_name ≡ seen n.host_name → seen m.parameter_request_list ≡ seen n.parameter_request_list
    → m.additional_options.now ≡ n.additional_options.now → written m ≡ written (borrowing m n)
written_alike m n names codes further =
    ap (λ (options : List ℕ). fixed m ++ (options ++ (255 ∷ replicate (59 - length options) 0))) (options_alike m n names codes further)

-- the socket that offers these bytes
abbrev offering : ℤ → DhcpValue → Kind → List ℕ → DhcpValue
offering now v kind bytes = record v {
  offered = Some (record {
    packet = packet_of (header_for kind (length bytes)) (Datagram (ports_of v.settings) bytes);
    transaction_id = id_of v kind;
    next = next_of now v kind;
    restart_at = restart_of now v;
  });
}

one_sent : (now : ℤ) (mtu : ℕ) (v left right : DhcpValue) (kind : Kind) → Sends now mtu v kind left → Sends now mtu v kind right → left ≡ right
one_sent now mtu v left right kind one other =
    let m = one.message in
    let n = other.message in
    let same = asked_once kind v.link_addr (id_of v kind) mtu v.parameters v.options m n one.is_request other.is_request in
    let bytes : written m ≡ written n =
    written_alike m n (one.is_request.host_name ∙ sym other.is_request.host_name)
    (one.is_request.parameter_request_list ∙ sym other.is_request.parameter_request_list)
    (one.is_request.additional_options ∙ sym other.is_request.additional_options)
    ∙ ap (λ (x : DhcpRepr). written x) (same_message m n same) in
    one.offers ∙ ap (λ (bs : List ℕ). offering now v kind bs) bytes ∙ sym other.offers

one_turn : (turn : Turn) (cx : ContextValue) (v left right : DhcpValue) (answer another : Offer) → OffersAs turn cx v answer left →
    OffersAs turn cx v another right → (answer ≡ another) × (left ≡ right)
one_turn T.Wait cx v left right answer another one other = (one.0 ∙ sym other.0, one.1 ∙ sym other.1)
one_turn T.GiveUp cx v left right answer another one other = (one.0 ∙ sym other.0, one.1 ∙ sym other.1)
one_turn (T.Send kind) cx v left right answer another one other =
    (one.0 ∙ sym other.0, one_sent cx.instant cx.ip_mtu v left right kind one.1 other.1)

pub one_offered : (cx : ContextValue) (v left right : DhcpValue) (answer another : Offer) → Offers cx v answer left → Offers cx v another right →
    (answer ≡ another) × (left ≡ right)
one_offered cx v left right answer another one other =
    one_turn (turn_of cx.instant v.settings.retry.request_retries v.state) cx v left right answer another one other
