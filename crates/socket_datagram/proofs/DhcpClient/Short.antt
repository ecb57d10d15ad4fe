-- The messages of the client have 548 bytes at most.
use Rattle.std.proofs.Common.{◌≡◌, ℕ, ◌+◌, ◌≤◌, List, [], ◌∷◌, ◌++◌, length, Option, Some, None, ◌∙◌, ap, arith, length-append}
use Rattle.ip_wire.specs.Address.{IsEthernetAddress}
use Rattle.ip_wire.specs.EthernetAddress.{EthernetAddress}
use Rattle.ip_wire.specs.Ipv4Address.{Ipv4Address}
use Rattle.wire_dhcp.specs.Normal.{IsAddress}
use Rattle.wire_dhcp.specs.Options.{seen}
use Rattle.wire_dhcp.specs.Written.{inside_bytes, client_bytes, name_bytes, time_bytes, network_bytes, address_inside, number16_inside, number32_inside}
use Rattle.wire_dhcp.specs.Written.{hardware_addr_inside, addresses_bytes, addresses_inside, buffer_len}
use Rattle.wire_dhcp.specs.declared.repr.DhcpRepr.{DhcpRepr}
use Rattle.socket_datagram.specs.DhcpClient.Extras.{asked_inside, asked_len, AreExtras}

address-short : (kind : ℕ) (address : Option Ipv4Address) → IsAddress address → length (inside_bytes kind (address_inside address)) ≤ 6
address-short kind None is = omega arith
address-short kind (Some a) is = omega (arith, is.0)

-- what the options of a message take
pub record IsSmall (m : DhcpRepr) (parameters options : List ℕ) : Type 0 where
  pub link_addr : EthernetAddress
  pub client_identifier : m.client_identifier ≡ Some link_addr
  pub six : IsEthernetAddress link_addr
  pub requested_ip : IsAddress m.requested_ip
  pub max_size : ℕ
  pub max_size_is : m.max_size ≡ Some max_size
  pub server_identifier : IsAddress m.server_identifier
  pub host_name : seen m.host_name ≡ None
  pub parameter_request_list : seen m.parameter_request_list ≡ asked_inside parameters
  pub additional_options : m.additional_options.now ≡ options
  pub extras : AreExtras parameters options
  pub lease_duration : m.lease_duration ≡ None
  pub renew_duration : m.renew_duration ≡ None
  pub rebind_duration : m.rebind_duration ≡ None
  pub subnet_mask : m.subnet_mask ≡ None
  pub router : m.router ≡ None
  pub dns_servers : m.dns_servers ≡ None ∷ None ∷ None ∷ []

client-short : (m : DhcpRepr) (parameters options : List ℕ) → IsSmall m parameters options → length (client_bytes m) ≤ 22
unfolding client_bytes
client-short m parameters options is =
    let nine : length (inside_bytes 61 (hardware_addr_inside (Some is.link_addr))) ≡ 9 = omega (arith, is.six.0) in
    let e61 : length (inside_bytes 61 (hardware_addr_inside m.client_identifier)) ≡ 9 =
    ap (λ (o : Option EthernetAddress). length (inside_bytes 61 (hardware_addr_inside o))) is.client_identifier ∙ nine
    in
    let e57 : length (inside_bytes 57 (number16_inside m.max_size)) ≡ 4 = ap (λ (o : Option ℕ). length (inside_bytes 57 (number16_inside o))) is.max_size_is in
    omega (
      arith,
      e61,
      e57,
      address-short 50 m.requested_ip is.requested_ip,
      length-append (inside_bytes 61 (hardware_addr_inside m.client_identifier)) (inside_bytes 50 (address_inside m.requested_ip) ++
          (inside_bytes 57 (number16_inside m.max_size) ++ [])),
      length-append (inside_bytes 50 (address_inside m.requested_ip)) (inside_bytes 57 (number16_inside m.max_size) ++ []),
      length-append (inside_bytes 57 (number16_inside m.max_size)) [],
    )

asked-len : (m : DhcpRepr) (parameters : List ℕ) → seen m.parameter_request_list ≡ asked_inside parameters →
    length (inside_bytes 55 (seen m.parameter_request_list)) ≡ asked_len parameters
asked-len m parameters is = ap (λ (o : Option (List ℕ)). length (inside_bytes 55 o)) is

name-short : (m : DhcpRepr) (parameters options : List ℕ) → IsSmall m parameters options → length (name_bytes m) ≤ 6 + asked_len parameters
unfolding name_bytes
name-short m parameters options is =
    let e12 : length (inside_bytes 12 (seen m.host_name)) ≡ 0 = ap (λ (o : Option (List ℕ)). length (inside_bytes 12 o)) is.host_name in
    omega (
      arith,
      e12,
      asked-len m parameters is.parameter_request_list,
      address-short 54 m.server_identifier is.server_identifier,
      length-append (inside_bytes 54 (address_inside m.server_identifier)) (inside_bytes 12 (seen m.host_name) ++
          (inside_bytes 55 (seen m.parameter_request_list) ++ [])),
      length-append (inside_bytes 12 (seen m.host_name)) (inside_bytes 55 (seen m.parameter_request_list) ++ []),
      length-append (inside_bytes 55 (seen m.parameter_request_list)) [],
    )

abbrev times_of : Option ℕ → Option ℕ → Option ℕ → List ℕ
times_of a b c = inside_bytes 51 (number32_inside a) ++ (inside_bytes 58 (number32_inside b) ++ (inside_bytes 59 (number32_inside c) ++ []))

time-none : (m : DhcpRepr) (parameters options : List ℕ) → IsSmall m parameters options → time_bytes m ≡ []
unfolding time_bytes
time-none m parameters options is =
    ap (λ (o : Option ℕ). times_of o m.renew_duration m.rebind_duration) is.lease_duration
    ∙ ap (λ (o : Option ℕ). times_of None o m.rebind_duration) is.renew_duration
    ∙ ap (λ (o : Option ℕ). times_of None None o) is.rebind_duration

abbrev networks_of : Option Ipv4Address → Option Ipv4Address → List (Option Ipv4Address) → List ℕ
networks_of a b c = inside_bytes 1 (address_inside a) ++ (inside_bytes 3 (address_inside b) ++ (inside_bytes 6 (addresses_inside (addresses_bytes c)) ++ []))

network-none : (m : DhcpRepr) (parameters options : List ℕ) → IsSmall m parameters options → network_bytes m ≡ []
unfolding network_bytes
network-none m parameters options is =
    ap (λ (o : Option Ipv4Address). networks_of o m.router m.dns_servers) is.subnet_mask
    ∙ ap (λ (o : Option Ipv4Address). networks_of None o m.dns_servers) is.router
    ∙ ap (λ (l : List (Option Ipv4Address)). networks_of None None l) is.dns_servers

pub short : (m : DhcpRepr) (parameters options : List ℕ) → IsSmall m parameters options → buffer_len m ≤ 548
short m parameters options is =
    omega (
      arith,
      client-short m parameters options is,
      name-short m parameters options is,
      ap length (time-none m parameters options is),
      ap length (network-none m parameters options is),
      ap length is.additional_options,
      is.extras.fits,
      length-append (client_bytes m) (name_bytes m ++ (time_bytes m ++ (network_bytes m ++ m.additional_options.now))),
      length-append (name_bytes m) (time_bytes m ++ (network_bytes m ++ m.additional_options.now)),
      length-append (time_bytes m) (network_bytes m ++ m.additional_options.now),
      length-append (network_bytes m) m.additional_options.now,
    )
