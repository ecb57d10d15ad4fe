-- What a host begins with, as the first turn brings it.
use Rattle.std.specs.Prelude.{ℕ, ◌+◌, ◌==◌, ◌≤◌, ◌&&◌, ◌||◌, nat_le, if◌then◌else◌, Bool, List, length, slice_index, slice_range, Option, None, Some}
use Rattle.std.specs.Prelude.{option_map}
use Rattle.byteorder.specs.Endian.{little_number}
use Rattle.ip_wire.specs.EthernetAddress.{EthernetAddress}
use Rattle.ip_wire.specs.HardwareAddress.{HardwareAddress}
use Rattle.ip_wire.specs.HardwareAddress.TheVariants as Hardware
use Rattle.ip_wire.specs.Ipv4Address.{Ipv4Address}
use Rattle.ip_wire.specs.Ipv6Address.{Ipv6Address}
use Rattle.net_base.specs.Medium.{Medium}
use Rattle.net_base.specs.Medium.TheVariants as Medium
use Rattle.app_tun_services.specs.declared.settings.Settings.{Settings}

-- the addresses in the bytes from this slot on
abbrev pub v4_at : ℕ → List ℕ → Ipv4Address
v4_at i bytes = record { 0 = slice_range bytes i (i + 4) }

abbrev pub v6_at : ℕ → List ℕ → Ipv6Address
v6_at i bytes = record { 0 = slice_range bytes i (i + 16) }

abbrev pub hardware_addr_at : ℕ → List ℕ → EthernetAddress
hardware_addr_at i bytes = record { 0 = slice_range bytes i (i + 6) }

-- 0 in the first byte for a link of bare IP packets, 1 for one of Ethernet frames, and then the hardware address
abbrev pub hardware_in : List ℕ → Option HardwareAddress
hardware_in bytes =
    if slice_index bytes 0 == 0 then Some Hardware.Ip else if slice_index bytes 0 == 1 then Some (Hardware.Ethernet (hardware_addr_at 1 bytes)) else None

-- 57 bytes, or 16 more, with prefixes that aren't longer than addresses
abbrev pub has_form : List ℕ → Bool
has_form bytes =
    (length bytes == 57 || length bytes == 73) && (nat_le (slice_index bytes 11) 32 && nat_le (slice_index bytes 32) 128)

-- the key of initial sequence numbers, where it came (RFC 6528)
abbrev pub key_in : List ℕ → Option (List ℕ)
key_in bytes = if length bytes == 73 then Some (slice_range bytes 57 73) else None

-- of either family the address, the prefix and the router; the seed with the lowest byte first; and the key
abbrev pub settings_of : List ℕ → HardwareAddress → Settings
settings_of bytes hardware = record {
  hardware = hardware;
  ipv4 = v4_at 7 bytes;
  ipv4_prefix_len = slice_index bytes 11;
  ipv4_router = v4_at 12 bytes;
  ipv6 = v6_at 16 bytes;
  ipv6_prefix_len = slice_index bytes 32;
  ipv6_router = v6_at 33 bytes;
  seed = little_number 8 (slice_range bytes 49 57);
  isn_key = key_in bytes;
}

abbrev pub settings_in : List ℕ → Option Settings
settings_in bytes = if has_form bytes then option_map (settings_of bytes) (hardware_in bytes) else None

-- neither prefix is longer than its address
pub record HasPrefixes (s : Settings) : Type 0 where
  pub ipv4 : s.ipv4_prefix_len ≤ 32
  pub ipv6 : s.ipv6_prefix_len ≤ 128

abbrev pub medium_of : HardwareAddress → Medium
medium_of Hardware.Ip = Medium.Ip
medium_of (Hardware.Ethernet a) = Medium.Ethernet
