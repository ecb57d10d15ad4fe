-- A message as a value (RFC 2131, section 2; RFC 2132).
use Rattle.std.specs.Prelude.{◌≡◌, ◌==◌, ◌≢◌, ℕ, ◌/◌, ◌%◌, ◌≤◌, Bool, true, false, ◌&&◌, IsTrue, IsSome, Option, Some, None, List, [], ◌∷◌, length, slice_index}
use Rattle.std.specs.Prelude.{slice_range}
use Rattle.wire_address.specs.Fields.{be16, be32}
use Rattle.wire_dhcp.specs.MessageType.{type_of, opcode_of, op_number}
use Rattle.wire_dhcp.specs.Options.{seen}
use Rattle.wire_dhcp.specs.Packet.{IsWhole, option_of}
use Rattle.wire_dhcp.specs.Values.{has_length, has_addresses, address_in, number16_in, number32_in, hardware_addr_in, servers_in}
use Rattle.wire_dhcp.specs.declared.message_type.DhcpMessageType.{DhcpMessageType}
use Rattle.wire_dhcp.specs.declared.repr.DhcpRepr.{DhcpRepr}

-- the type of a message, if there is a type option with a number that is known
abbrev pub type_in : Option (List ℕ) → Option DhcpMessageType
type_in None = None
type_in (Some bytes) = elim (length bytes == 1) [ true ↦ type_of (slice_index bytes 0) | false ↦ None ]

-- the first field agrees with the type
abbrev pub HasOpcode : ℕ → Option DhcpMessageType → Type 0
HasOpcode op None = ⊥
HasOpcode op (Some message_type) = op ≡ op_number (opcode_of message_type)

-- each option that is read has its length: those of the network, those that client and server agree on, and times
abbrev pub are_network_lengths : List ℕ → Bool
are_network_lengths bytes =
    has_length 4 (option_of 1 bytes) && (has_addresses (option_of 3 bytes) && has_addresses (option_of 6 bytes))

abbrev pub are_server_lengths : List ℕ → Bool
are_server_lengths bytes =
    has_length 4 (option_of 50 bytes) && (has_length 4 (option_of 54 bytes) && has_length 2 (option_of 57 bytes))

abbrev pub are_time_lengths : List ℕ → Bool
are_time_lengths bytes =
    has_length 4 (option_of 51 bytes) && (has_length 4 (option_of 58 bytes) && has_length 4 (option_of 59 bytes))

pub record AreLengths (bytes : List ℕ) : Type 0 where
  pub network : IsTrue (are_network_lengths bytes)
  pub server : IsTrue (are_server_lengths bytes)
  pub times : IsTrue (are_time_lengths bytes)

-- the message is about an Ethernet hardware address, and has the magic number
pub record IsEthernet (bytes : List ℕ) : Type 0 where
  pub hardware_type : slice_index bytes 1 ≡ 1
  pub hardware_len : slice_index bytes 2 ≡ 6
  pub magic_number : be32 bytes 236 ≡ 0x63825363

-- the bytes are a message about an Ethernet hardware address, with a type, and options of the right lengths
pub record IsMessage (bytes : List ℕ) : Type 0 where
  pub whole : IsWhole bytes
  pub ethernet : IsEthernet bytes
  pub lengths : AreLengths bytes
  pub opcode : HasOpcode (slice_index bytes 0) (type_in (option_of 53 bytes))

-- the bytes are a message that says this. The hop count, the names in the fields of the file and of the server, the
-- padding of the hardware address, flags other than broadcast and other options are ignored
pub record IsDhcp (bytes : List ℕ) (v : DhcpRepr) : Type 0 where
  pub is_message : IsMessage bytes
  pub message_type : Some v.message_type ≡ type_in (option_of 53 bytes)
  pub transaction_id : v.transaction_id ≡ be32 bytes 4
  pub secs : v.secs ≡ be16 bytes 8
  pub broadcast : v.broadcast ≡ (slice_index bytes 10 / 128 % 2 == 1)
  pub client_ip : v.client_ip.0 ≡ slice_range bytes 12 16
  pub your_ip : v.your_ip.0 ≡ slice_range bytes 16 20
  pub server_ip : v.server_ip.0 ≡ slice_range bytes 20 24
  pub relay_agent_ip : v.relay_agent_ip.0 ≡ slice_range bytes 24 28
  pub client_hardware_address : v.client_hardware_address.0 ≡ slice_range bytes 28 34
  pub subnet_mask : v.subnet_mask ≡ address_in (option_of 1 bytes)
  pub router : v.router ≡ address_in (option_of 3 bytes)
  pub dns_servers : v.dns_servers ≡ servers_in (option_of 6 bytes)
  pub host_name : seen v.host_name ≡ option_of 12 bytes
  pub requested_ip : v.requested_ip ≡ address_in (option_of 50 bytes)
  pub lease_duration : v.lease_duration ≡ number32_in (option_of 51 bytes)
  pub server_identifier : v.server_identifier ≡ address_in (option_of 54 bytes)
  pub parameter_request_list : seen v.parameter_request_list ≡ option_of 55 bytes
  pub max_size : v.max_size ≡ number16_in (option_of 57 bytes)
  pub renew_duration : v.renew_duration ≡ number32_in (option_of 58 bytes)
  pub rebind_duration : v.rebind_duration ≡ number32_in (option_of 59 bytes)
  pub client_identifier : v.client_identifier ≡ hardware_addr_in (option_of 61 bytes)
