-- Frames that carry a slice of an IPv4 datagram's payload (RFC 791, section 3.2).
use Rattle.std.specs.Prelude.{◌≡◌, ℕ, ◌+◌, ◌-◌, ◌≤◌, Bool, true, false, List, ◌++◌, length, take, drop}
use Rattle.base_device.specs.Capabilities.{frame_header}
use Rattle.base_device.specs.declared.capabilities.Medium.{Medium}
use Rattle.wire_ip.specs.Ipv4.{written_fragment}
use Rattle.wire_ip.specs.declared.ipv4.repr.Ipv4Repr.{Ipv4Repr}
use Rattle.sim_link.specs.Parts.{may_carry}

-- where a slice begins, how many bytes it has, and whether more follow
pub record Slice : Type 0 where
  pub at : ℕ
  pub count : ℕ
  pub more : Bool

-- it lies in the payload, and more-fragments is clear only where it ends the payload
pub record IsSliceOf (payload : List ℕ) (s : Slice) : Type 0 where
  pub within : s.at + s.count ≤ length payload
  pub last : s.more ≡ false → s.at + s.count ≡ length payload

-- its bytes
abbrev pub bytes_of_slice : List ℕ → Slice → List ℕ
bytes_of_slice payload s = take s.count (drop s.at payload)

-- a link header of this medium, before an IPv4 packet
pub record IsLinkHeader (medium : Medium) (link : List ℕ) : Type 0 where
  pub len : length link ≡ frame_header medium
  pub carries : may_carry medium 0x0800 link ≡ true

-- The frame that carries a slice: a link header, the datagram's header with length, offset and more-fragments of the
-- slice, and the slice's bytes. The whole payload is a slice too, and its frame that of a datagram that nobody cut.
abbrev pub frame_of_slice : List ℕ → Ipv4Repr → List ℕ → Slice → List ℕ
frame_of_slice link header payload s =
    link ++ (written_fragment true (record header { payload_len = s.count }) s.at s.more ++ bytes_of_slice payload s)

-- a slice cut in two after so many of its bytes
abbrev pub front_of : Slice → ℕ → Slice
front_of s cut = record { at = s.at; count = cut; more = true }

abbrev pub back_of : Slice → ℕ → Slice
back_of s cut = record { at = s.at + cut; count = s.count - cut; more = s.more }
