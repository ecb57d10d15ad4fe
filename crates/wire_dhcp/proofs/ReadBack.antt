-- A message that was written, read.
use Rattle.std.proofs.Common.{◌≡◌, ℕ, ◌+◌, ◌≤◌, Bool, true, false, List, [], ◌∷◌, ◌++◌, length, drop, replicate, refl, sym, ◌∙◌, ap, subst, arith, append_assoc}
use Rattle.std.specs.Prelude.{◌==◌, ◌/◌, ◌%◌, if◌then◌else◌, Option, Some, None, IsTrue}
use Rattle.std.proofs.lemmas.Bool.{and_from}
use Rattle.std.proofs.lemmas.List.{append-nil}
use Rattle.wire_address.specs.Fields.{be16, be32}
use Rattle.wire_dhcp.specs.Dhcp.{IsDhcp, IsMessage, IsEthernet, AreLengths, HasOpcode, type_in}
use Rattle.wire_dhcp.specs.MessageType.{type_number, opcode_of, op_number}
use Rattle.wire_dhcp.specs.Options.{OptionValue, options_in, is_area, last_of, seen}
use Rattle.wire_dhcp.specs.Packet.{IsWhole, overload_number, overload_of, file_area, sname_area, option_of}
use Rattle.wire_dhcp.specs.Values.{has_length, has_addresses, address_in, number16_in, number32_in, hardware_addr_in, servers_in}
use Rattle.wire_dhcp.specs.Written.{slots, slots_bytes, options_bytes, padding, written}
use Rattle.wire_dhcp.specs.Written.{address_inside, number16_inside, number32_inside, hardware_addr_inside, addresses_bytes}
use Rattle.wire_dhcp.specs.Written.{addresses_inside}
use Rattle.wire_dhcp.specs.Normal.{IsValue, is_read, normal}
use Rattle.wire_dhcp.specs.declared.repr.DhcpRepr.{DhcpRepr}
use Rattle.wire_dhcp.proofs.Fixed.{AreFixed, AreFixed-written}
use Rattle.wire_dhcp.proofs.Slots.{AreKinds, present, options_bytes-slots, options_in-slots, is_area-slots, look, last_of-present, or_else-none}
use Rattle.wire_dhcp.proofs.Wholes.{options_in-append, is_area-append, last_of-unread}
use Rattle.wire_dhcp.proofs.Held.{AreRead, AreRead-servers, address_in-inside, has_length-address, has_addresses-address, number16_in-inside}
use Rattle.wire_dhcp.proofs.Held.{has_length-number16, number32_in-inside, has_length-number32, hardware_addr_in-inside, type_in-number}

kinds : (v : DhcpRepr) → AreKinds (slots v)
kinds v = (
  refl,
  refl,
  (
    refl,
    refl,
    (
      refl,
      refl,
      (
        refl,
        refl,
        (refl, refl, (refl, refl, (refl, refl, (refl, refl, (refl, refl, (refl, refl, (refl, refl, (refl, refl, (refl, refl, tt))))))))),
      ),
    ),
  ),
)

-- the slots, the further options, and what stands after
regrouped : (v : DhcpRepr) (rest : List ℕ) → options_bytes v ++ rest ≡ slots_bytes (slots v) ++ (v.additional_options.now ++ rest)
regrouped v rest = ap (λ xs. xs ++ rest) (options_bytes-slots v) ∙ append_assoc (slots_bytes (slots v)) v.additional_options.now rest

-- the further options of a message
abbrev further : DhcpRepr → List OptionValue
further v = options_in 0 v.additional_options.now

options_in-written : (v : DhcpRepr) (more : List ℕ) → IsValue v → options_in 0 (drop 240 (written v ++ more)) ≡ present (slots v) (further v)
options_in-written v more is =
    let zeros : List ℕ = replicate (padding v) 0 ++ more in
    ap (options_in 0) ((AreFixed-written v more is).options ∙ regrouped v (255 ∷ zeros))
    ∙ options_in-slots (slots v) (v.additional_options.now ++ (255 ∷ zeros)) (kinds v)
    ∙ ap (present (slots v)) (options_in-append 0 v.additional_options.now (255 ∷ zeros) is.additional_options.whole ∙ append-nil (further v))

is_area-written : (v : DhcpRepr) (more : List ℕ) → IsValue v → is_area 0 (drop 240 (written v ++ more)) ≡ true
is_area-written v more is =
    let zeros : List ℕ = replicate (padding v) 0 ++ more in
    ap (is_area 0) ((AreFixed-written v more is).options ∙ regrouped v (255 ∷ zeros))
    ∙ is_area-slots (slots v) (v.additional_options.now ++ (255 ∷ zeros)) (kinds v)
    ∙ is_area-append 0 v.additional_options.now (255 ∷ zeros) is.additional_options.whole

-- of a code that a reader looks for the further options say nothing
last_of-written : (v : DhcpRepr) (kind : ℕ) → IsValue v → is_read kind ≡ true → last_of kind None (present (slots v) (further v)) ≡ look kind None (slots v)
last_of-written v kind is read =
    last_of-present kind None (slots v) (further v) ∙ last_of-unread kind (look kind None (slots v)) (further v) read is.additional_options.unread

-- nothing stands in the fields of the file and of the server's name
overload-none : (v : DhcpRepr) (more : List ℕ) → IsValue v → overload_of (written v ++ more) ≡ 0
overload-none v more is =
    ap (λ os. overload_number (last_of 52 None os)) (options_in-written v more is)
    ∙ ap overload_number (last_of-written v 52 is refl)

option_of-look : (v : DhcpRepr) (more : List ℕ) (kind : ℕ) → IsValue v → is_read kind ≡ true → option_of kind (written v ++ more) ≡ look kind None (slots v)
option_of-look v more kind is read =
    let bytes : List ℕ = written v ++ more in
    ap (λ n. last_of kind (last_of kind (last_of kind None (options_in 0 (drop 240 bytes))) (options_in 0 (file_area n bytes)))
    (options_in 0 (sname_area n bytes))) (overload-none v more is)
    ∙ ap (last_of kind None) (options_in-written v more is)
    ∙ last_of-written v kind is read

-- an option of a message that was written, with what is inside
option-is : (v : DhcpRepr) (more : List ℕ) (kind : ℕ) (inside : Option (List ℕ)) → IsValue v → is_read kind ≡ true → look kind None (slots v) ≡ inside →
    option_of kind (written v ++ more) ≡ inside
option-is v more kind inside is read looked = option_of-look v more kind is read ∙ looked

IsWhole-written : (v : DhcpRepr) (more : List ℕ) → IsValue v → IsWhole (written v ++ more)
IsWhole-written v more is =
    let bytes : List ℕ = written v ++ more in
    let none = overload-none v more is in
    record {
      header = (AreFixed-written v more is).long;
      options = is_area-written v more is;
      overload = omega (arith, none);
      file = subst (λ n. IsTrue (is_area 0 (file_area n bytes))) (sym none) refl;
      sname = subst (λ n. IsTrue (is_area 0 (sname_area n bytes))) (sym none) refl;
    }

-- what the options of a message that was written hold
record AreOptions (v : DhcpRepr) (bytes : List ℕ) : Type 0 where
  message_type : option_of 53 bytes ≡ Some (type_number v.message_type ∷ [])
  client_identifier : option_of 61 bytes ≡ hardware_addr_inside v.client_identifier
  requested_ip : option_of 50 bytes ≡ address_inside v.requested_ip
  max_size : option_of 57 bytes ≡ number16_inside v.max_size
  server_identifier : option_of 54 bytes ≡ address_inside v.server_identifier
  host_name : option_of 12 bytes ≡ seen v.host_name
  parameter_request_list : option_of 55 bytes ≡ seen v.parameter_request_list
  lease_duration : option_of 51 bytes ≡ number32_inside v.lease_duration
  renew_duration : option_of 58 bytes ≡ number32_inside v.renew_duration
  rebind_duration : option_of 59 bytes ≡ number32_inside v.rebind_duration
  subnet_mask : option_of 1 bytes ≡ address_inside v.subnet_mask
  router : option_of 3 bytes ≡ address_inside v.router
  dns_servers : option_of 6 bytes ≡ addresses_inside (addresses_bytes v.dns_servers)

AreOptions-written : (v : DhcpRepr) (more : List ℕ) → IsValue v → AreOptions v (written v ++ more)
AreOptions-written v more is = record {
  message_type = option_of-look v more 53 is refl;
  client_identifier = option-is v more 61 _ is refl (or_else-none _);
  requested_ip = option-is v more 50 _ is refl (or_else-none _);
  max_size = option-is v more 57 _ is refl (or_else-none _);
  server_identifier = option-is v more 54 _ is refl (or_else-none _);
  host_name = option-is v more 12 _ is refl (or_else-none _);
  parameter_request_list = option-is v more 55 _ is refl (or_else-none _);
  lease_duration = option-is v more 51 _ is refl (or_else-none _);
  renew_duration = option-is v more 58 _ is refl (or_else-none _);
  rebind_duration = option-is v more 59 _ is refl (or_else-none _);
  subnet_mask = option-is v more 1 _ is refl (or_else-none _);
  router = option-is v more 3 _ is refl (or_else-none _);
  dns_servers = option-is v more 6 _ is refl (or_else-none _);
}

AreLengths-options : (v : DhcpRepr) (bytes : List ℕ) → IsValue v → AreOptions v bytes → AreLengths bytes
AreLengths-options v bytes is o = record {
  network = and_from _ _ (ap (has_length 4) o.subnet_mask ∙ has_length-address v.subnet_mask is.subnet_mask)
      (and_from _ _ (ap has_addresses o.router ∙ has_addresses-address v.router is.router) (ap has_addresses o.dns_servers ∙
      (AreRead-servers v.dns_servers is.dns_servers).lengths));
  server = and_from _ _ (ap (has_length 4) o.requested_ip ∙ has_length-address v.requested_ip is.requested_ip)
      (and_from _ _ (ap (has_length 4) o.server_identifier ∙ has_length-address v.server_identifier is.server_identifier) (ap (has_length 2) o.max_size ∙
      has_length-number16 v.max_size));
  times = and_from _ _ (ap (has_length 4) o.lease_duration ∙ has_length-number32 v.lease_duration)
      (and_from _ _ (ap (has_length 4) o.renew_duration ∙ has_length-number32 v.renew_duration) (ap (has_length 4) o.rebind_duration ∙
      has_length-number32 v.rebind_duration));
}

-- the type of a message that was written
type-is : (v : DhcpRepr) (bytes : List ℕ) → AreOptions v bytes → type_in (option_of 53 bytes) ≡ Some v.message_type
type-is v bytes o = ap type_in o.message_type ∙ type_in-number v.message_type

IsMessage-written : (v : DhcpRepr) (more : List ℕ) → IsValue v → IsMessage (written v ++ more)
IsMessage-written v more is =
    let o = AreOptions-written v more is in record {
      whole = IsWhole-written v more is;
      ethernet = record { hardware_type = refl; hardware_len = refl; magic_number = (AreFixed-written v more is).magic_number };
      lengths = AreLengths-options v (written v ++ more) is o;
      opcode = subst (HasOpcode (op_number (opcode_of v.message_type))) (sym (type-is v (written v ++ more) o)) refl;
    }

flag-is : (broadcast : Bool) → broadcast ≡ ((if broadcast then 128 else 0) / 128 % 2 == 1)
flag-is true = refl
flag-is false = refl

-- a message that was sent is read back as its canonical form, whatever follows it
pub IsDhcp-written : (v : DhcpRepr) (more : List ℕ) → IsValue v → IsDhcp (written v ++ more) (normal v)
IsDhcp-written v more is =
    let bytes : List ℕ = written v ++ more in
    let fixed = AreFixed-written v more is in
    let o = AreOptions-written v more is in record {
      is_message = IsMessage-written v more is;
      message_type = sym (type-is v bytes o);
      transaction_id = omega (arith, is.transaction_id);
      secs = omega (arith, is.secs);
      broadcast = flag-is v.broadcast;
      client_ip = fixed.client_ip;
      your_ip = fixed.your_ip;
      server_ip = fixed.server_ip;
      relay_agent_ip = fixed.relay_agent_ip;
      client_hardware_address = fixed.client_hardware_address;
      subnet_mask = sym (ap address_in o.subnet_mask ∙ address_in-inside v.subnet_mask is.subnet_mask);
      router = sym (ap address_in o.router ∙ address_in-inside v.router is.router);
      dns_servers = sym (ap servers_in o.dns_servers ∙ (AreRead-servers v.dns_servers is.dns_servers).servers_are);
      host_name = sym o.host_name;
      requested_ip = sym (ap address_in o.requested_ip ∙ address_in-inside v.requested_ip is.requested_ip);
      lease_duration = sym (ap number32_in o.lease_duration ∙ number32_in-inside v.lease_duration is.lease_duration);
      server_identifier = sym (ap address_in o.server_identifier ∙ address_in-inside v.server_identifier is.server_identifier);
      parameter_request_list = sym o.parameter_request_list;
      max_size = sym (ap number16_in o.max_size ∙ number16_in-inside v.max_size is.max_size);
      renew_duration = sym (ap number32_in o.renew_duration ∙ number32_in-inside v.renew_duration is.renew_duration);
      rebind_duration = sym (ap number32_in o.rebind_duration ∙ number32_in-inside v.rebind_duration is.rebind_duration);
      client_identifier = sym (ap hardware_addr_in o.client_identifier ∙ hardware_addr_in-inside v.client_identifier is.client_identifier);
    }
