-- A message as it is sent: the fixed fields, the options, their end, and zeros up to 300 bytes, which relay agents may ask
-- for (RFC 1542, section 2.1).
use Rattle.std.specs.Prelude.{◌≡◌, ◌==◌, ℕ, ◌+◌, ◌-◌, ◌<◌, ◌^◌, Bool, true, false, IsTrue, if◌then◌else◌}
use Rattle.std.specs.Prelude.{Option, Some, None, List, [], ◌∷◌, ◌++◌, length, replicate}
use Rattle.std.specs.Int.{w16, w32, to_be_bytes}
use Rattle.wire_address.specs.declared.ipv4.Ipv4Address.{Ipv4Address}
use Rattle.wire_address.specs.declared.ethernet.EthernetAddress.{EthernetAddress}
use Rattle.wire_dhcp.specs.MessageType.{type_number, opcode_of, op_number}
use Rattle.wire_dhcp.specs.Options.{are_options, seen}
use Rattle.wire_dhcp.specs.declared.option.DhcpOption.{DhcpOption}
use Rattle.wire_dhcp.specs.declared.repr.DhcpRepr.{DhcpRepr}

-- a code, and what is inside its option where that is sent
pub record Slot : Type 0 where
  pub kind : ℕ
  pub inside : Option (List ℕ)

abbrev pub slot : ℕ → Option (List ℕ) → Slot
slot kind inside = record { kind = kind; inside = inside }

-- the bytes of an option: its code, its length, and what is inside
abbrev pub inside_bytes : ℕ → Option (List ℕ) → List ℕ
inside_bytes kind None = []
inside_bytes kind (Some inside) = kind ∷ length inside ∷ inside

-- the bytes of several options
abbrev pub slots_bytes : List Slot → List ℕ
slots_bytes [] = []
slots_bytes (s ∷ slots) = inside_bytes s.kind s.inside ++ slots_bytes slots

-- what is inside the option of an address
abbrev pub address_inside : Option Ipv4Address → Option (List ℕ)
address_inside None = None
address_inside (Some address) = Some address.0

-- of a number of two bytes
abbrev pub number16_inside : Option ℕ → Option (List ℕ)
number16_inside None = None
number16_inside (Some n) = Some (to_be_bytes w16 n)

-- of a number of four bytes
abbrev pub number32_inside : Option ℕ → Option (List ℕ)
number32_inside None = None
number32_inside (Some n) = Some (to_be_bytes w32 n)

-- of a client identifier, whose first byte is the hardware type of Ethernet
abbrev pub hardware_addr_inside : Option EthernetAddress → Option (List ℕ)
hardware_addr_inside None = None
hardware_addr_inside (Some hardware_addr) = Some (1 ∷ hardware_addr.0)

-- the addresses that are there, one after the other
abbrev pub addresses_bytes : List (Option Ipv4Address) → List ℕ
addresses_bytes [] = []
addresses_bytes (None ∷ addresses) = addresses_bytes addresses
addresses_bytes (Some address ∷ addresses) = address.0 ++ addresses_bytes addresses

-- of a list of addresses, which isn't sent where there are none
abbrev pub addresses_inside : List ℕ → Option (List ℕ)
addresses_inside [] = None
addresses_inside (b ∷ bytes) = Some (b ∷ bytes)

-- the options of a message, in the order in which they are sent: what it is and who asks for what
abbrev pub client_slots : DhcpRepr → List Slot
client_slots v =
    slot 53 (Some (type_number v.message_type ∷ []))
    ∷ slot 61 (hardware_addr_inside v.client_identifier)
    ∷ slot 50 (address_inside v.requested_ip)
    ∷ slot 57 (number16_inside v.max_size)
    ∷ []

-- the server, the client's name, and the options that it asks for
abbrev pub name_slots : DhcpRepr → List Slot
name_slots v =
    slot 54 (address_inside v.server_identifier)
    ∷ slot 12 (seen v.host_name)
    ∷ slot 55 (seen v.parameter_request_list)
    ∷ []

-- the lease and its instants
abbrev pub time_slots : DhcpRepr → List Slot
time_slots v =
    slot 51 (number32_inside v.lease_duration)
    ∷ slot 58 (number32_inside v.renew_duration)
    ∷ slot 59 (number32_inside v.rebind_duration)
    ∷ []

-- the network
abbrev pub network_slots : DhcpRepr → List Slot
network_slots v =
    slot 1 (address_inside v.subnet_mask)
    ∷ slot 3 (address_inside v.router)
    ∷ slot 6 (addresses_inside (addresses_bytes v.dns_servers))
    ∷ []

-- all of them
abbrev pub slots : DhcpRepr → List Slot
slots v = client_slots v ++ (name_slots v ++ (time_slots v ++ network_slots v))

-- their bytes, group by group
unfoldable pub client_bytes : DhcpRepr → List ℕ
client_bytes v = slots_bytes (client_slots v)

unfoldable pub name_bytes : DhcpRepr → List ℕ
name_bytes v = slots_bytes (name_slots v)

unfoldable pub time_bytes : DhcpRepr → List ℕ
time_bytes v = slots_bytes (time_slots v)

unfoldable pub network_bytes : DhcpRepr → List ℕ
network_bytes v = slots_bytes (network_slots v)

-- after them stand the further options, whose bytes the message holds
abbrev pub options_bytes : DhcpRepr → List ℕ
options_bytes v = client_bytes v ++ (name_bytes v ++ (time_bytes v ++ (network_bytes v ++ v.additional_options.now)))

-- the bytes of options one after the other
abbrev pub encoded : List DhcpOption → List ℕ
encoded [] = []
encoded (o ∷ os) = inside_bytes o.kind (Some o.«data».now) ++ encoded os

-- the byte of the broadcast flag
abbrev pub flag_byte : Bool → ℕ
flag_byte broadcast = if broadcast then 128 else 0

-- the first 28 bytes: who speaks, hardware type and length, no hops, the transaction, the seconds, the flags, addresses
abbrev pub front : DhcpRepr → List ℕ
front v =
    op_number (opcode_of v.message_type) ∷ 1 ∷ 6 ∷ 0 ∷ (to_be_bytes w32 v.transaction_id ++ (to_be_bytes w16 v.secs
    ++ (flag_byte v.broadcast ∷ 0 ∷ (v.client_ip.0 ++ (v.your_ip.0 ++ (v.server_ip.0 ++ v.relay_agent_ip.0))))))

-- zeros for the padding of the hardware address, and for the names in the fields of the server and of the file
unfoldable pub unused : List ℕ
unused = replicate 202 0

-- the fixed fields: after the first ones the hardware address, zeros for its padding and for the names, and the
-- magic number
abbrev pub fixed : DhcpRepr → List ℕ
fixed v = front v ++ (v.client_hardware_address.0 ++ (unused ++ (99 ∷ 130 ∷ 83 ∷ 99 ∷ [])))

-- how many zeros follow the end of the options
abbrev pub padding : DhcpRepr → ℕ
padding v = 59 - length (options_bytes v)

-- the length of the message
abbrev pub buffer_len : DhcpRepr → ℕ
buffer_len v = 241 + length (options_bytes v) + padding v

-- the message
abbrev pub written : DhcpRepr → List ℕ
written v = fixed v ++ (options_bytes v ++ (255 ∷ replicate (padding v) 0))

-- what is inside an option fits its length field
abbrev pub FitsInside : Option (List ℕ) → Type 0
FitsInside None = Unit {0}
FitsInside (Some inside) = length inside < 256

-- what can be sent: the names fit their options, and the further ones are whole
pub record Fits (v : DhcpRepr) : Type 0 where
  pub host_name : FitsInside (seen v.host_name)
  pub parameter_request_list : FitsInside (seen v.parameter_request_list)
  pub additional_options : IsTrue (are_options 0 v.additional_options.now)
