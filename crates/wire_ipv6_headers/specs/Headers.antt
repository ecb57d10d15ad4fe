-- Extension headers (RFC 8200, section 4), one after the other: what stands after them, or what becomes of the packet. Offsets are
-- those of the payload, pointers those of the packet, whose header has 40 bytes.
use Rattle.std.specs.Prelude.{ℕ, zero, suc, ◌+◌, ◌-◌, ◌*◌, ◌/◌, ◌%◌, ◌≤◌, ◌==◌, nat_le, nat_lt, ◌&&◌, not, Bool}
use Rattle.std.specs.Prelude.{true, false, if◌then◌else◌, List, [], ◌∷◌, length, drop, slice_index, slice_range, Option, Some, None}
use Rattle.wire_address.specs.Fields.{be16}
use Rattle.wire_address.specs.Protocol.{protocol_of}
use Rattle.wire_address.specs.declared.ip.IpProtocol.{IpProtocol}
use Rattle.wire_address.specs.declared.ip.IpProtocol.TheVariants as Protocol
use Rattle.wire_ipv6_headers.specs.Options.{asked_by}
use Rattle.wire_ipv6_headers.specs.declared.headers.Following.{Following}
use Rattle.wire_ipv6_headers.specs.declared.headers.Following.TheVariants as End
use Rattle.wire_ipv6_headers.specs.declared.headers.Problem.TheVariants as Told
use Rattle.wire_ipv6_headers.specs.declared.headers.Step.{Step}
use Rattle.wire_ipv6_headers.specs.declared.headers.Step.TheVariants as Way
use Rattle.wire_ipv6_headers.specs.declared.options.Options.{Options}
use Rattle.wire_ipv6_headers.specs.declared.options.Options.TheVariants as Asked

-- extension headers that are gone through
abbrev pub is_extension : IpProtocol → Bool
is_extension Protocol.HopByHop = true
is_extension Protocol.Ipv6Opts = true
is_extension Protocol.Ipv6Route = true
is_extension Protocol.Ipv6Frag = true
is_extension protocol = false

-- ONE HEADER. `rest` is the payload from its first byte on, which names the next header.

-- the second byte says the length, in units of 8 bytes beyond the first
abbrev pub extension_len : List ℕ → ℕ
extension_len rest = 8 + 8 * slice_index rest 1

abbrev pub is_whole : List ℕ → Bool
is_whole rest = nat_le 8 (length rest) && nat_le (extension_len rest) (length rest)

-- an option that isn't known has the packet dropped, which the two highest bits of its type may have its source told of
abbrev pub refused_by : (kind pointer : ℕ) → Following
refused_by kind pointer =
    if kind / 64 == 2 then End.Problem Told.OptionToAny pointer
    else if kind / 64 == 3 then End.Problem Told.Option pointer
    else End.Nothing

abbrev pub asked_step : (len : ℕ) → Options → Step
asked_step len Asked.Skipped = Way.Goes len
asked_step len Asked.Broken = Way.Stops End.Nothing
asked_step len (Asked.Unknown kind pointer) = Way.Stops (refused_by kind pointer)

-- hop-by-hop and destination options (sections 4.3 and 4.6)
abbrev pub options_step : (at : ℕ) → List ℕ → Step
options_step at rest =
    if is_whole rest then asked_step (extension_len rest) (asked_by (40 + at + 2) (slice_range rest 2 (extension_len rest))) else Way.Stops End.Nothing

-- a routing header of any type is passed over where no segments are left, else its type isn't known (section 4.4)
abbrev pub routing_step : (at : ℕ) → List ℕ → Step
routing_step at rest =
    if is_whole rest
    then (if slice_index rest 3 == 0 then Way.Goes (extension_len rest) else Way.Stops (End.Problem Told.Field (40 + at + 2)))
    else Way.Stops End.Nothing

-- no offset, and no fragment follows (RFC 6946)
abbrev pub is_atomic : List ℕ → Bool
is_atomic rest = (be16 rest 2 / 8 == 0) && (be16 rest 2 % 2 == 0)

-- where the bytes of a fragment stand in its datagram, and whether more come after them
abbrev pub fragment_offset : List ℕ → ℕ
fragment_offset rest = be16 rest 2 / 8 * 8

abbrev pub has_more : List ℕ → Bool
has_more rest = be16 rest 2 % 2 == 1

-- A fragment ends at a multiple of 8 bytes unless it is the last one, and within the longest payload; else its source is told of the
-- payload length field, or of the offset (section 4.5).
abbrev pub fragment_part_step : (at : ℕ) → List ℕ → Step
fragment_part_step at rest =
    if has_more rest && not (length rest % 8 == 0) then Way.Stops (End.Problem Told.Field 4)
    else if nat_lt 65535 (at + fragment_offset rest + (length rest - 8)) then Way.Stops (End.Problem Told.Field (40 + at + 2))
    else Way.Stops (End.FragmentPart at)

-- a fragment header (section 4.5): what has one and is whole is gone on with
abbrev pub fragment_step : (at : ℕ) → List ℕ → Step
fragment_step at rest =
    if nat_le 8 (length rest) then (if is_atomic rest then Way.Goes 8 else fragment_part_step at rest) else Way.Stops End.Nothing

abbrev pub unknown_step : (named_at : ℕ) → Step
unknown_step named_at = Way.Stops (End.Problem Told.NextHeader named_at)

-- At a header that the field at `named_at` of the packet names: hop-by-hop options stand right after the IPv6 header or are not
-- known.
abbrev pub step_at : IpProtocol → (named_at at : ℕ) → List ℕ → Step
step_at Protocol.HopByHop named_at at rest = if at == 0 then options_step at rest else unknown_step named_at
step_at Protocol.Ipv6Opts named_at at rest = options_step at rest
step_at Protocol.Ipv6Route named_at at rest = routing_step at rest
step_at Protocol.Ipv6Frag named_at at rest = fragment_step at rest
step_at Protocol.Ipv6NoNxt named_at at rest = Way.Stops End.Nothing
step_at Protocol.Icmpv6 named_at at rest = Way.Stops (End.Upper Protocol.Icmpv6 at)
step_at Protocol.Tcp named_at at rest = Way.Stops (End.Upper Protocol.Tcp at)
step_at Protocol.Udp named_at at rest = Way.Stops (End.Upper Protocol.Udp at)
step_at protocol named_at at rest = unknown_step named_at

-- ALL OF THEM. `most` is a bound of how many there are.

unfoldable pub walked : (most : ℕ) → IpProtocol → (named_at at : ℕ) → List ℕ → Following
walked zero protocol named_at at rest = End.Nothing
walked (suc most) protocol named_at at rest =
    elim (step_at protocol named_at at rest) as (λ _. Following) [
      | Way.Goes len ↦ walked most (protocol_of (slice_index rest 0)) (40 + at) (at + len) (drop len rest)
      | Way.Stops following ↦ following
    ]

-- What stands after the extension headers of a packet whose header names this one, in its byte 6. Each has a byte at least.
abbrev pub go_through : IpProtocol → List ℕ → Following
go_through protocol payload = walked (suc (length payload)) protocol 6 0 payload

-- the protocol that stands there, if there is one
abbrev pub upper_of : Following → IpProtocol
upper_of (End.Upper protocol at) = protocol
upper_of end = Protocol.Ipv6NoNxt

abbrev pub upper_bytes_of : List ℕ → Following → List ℕ
upper_bytes_of payload (End.Upper protocol at) = drop at payload
upper_bytes_of payload end = []

-- a fragment of a datagram stands there
abbrev pub is_fragment : Following → Bool
is_fragment (End.FragmentPart at) = true
is_fragment end = false

-- ERRORS. A control message of a type below 128 tells of an error (RFC 4443, section 2.1), and none answers it (section 2.4 e),
-- whatever stands in the headers before it.

abbrev pub is_error : List ℕ → Bool
is_error [] = false
is_error (kind ∷ rest) = nat_lt kind 128

-- what is passed over on the way to it: the length of a header that is there, and of a first fragment's fragment header
abbrev pub passed_len : IpProtocol → List ℕ → Option ℕ
passed_len Protocol.HopByHop rest = if is_whole rest then Some (extension_len rest) else None
passed_len Protocol.Ipv6Opts rest = if is_whole rest then Some (extension_len rest) else None
passed_len Protocol.Ipv6Route rest = if is_whole rest then Some (extension_len rest) else None
passed_len Protocol.Ipv6Frag rest = if nat_le 8 (length rest) && (be16 rest 2 / 8 == 0) then Some 8 else None
passed_len protocol rest = None

abbrev pub is_error_of : IpProtocol → List ℕ → Bool
is_error_of Protocol.Icmpv6 rest = is_error rest
is_error_of protocol rest = false

unfoldable pub error_within : (most : ℕ) → IpProtocol → List ℕ → Bool
error_within zero protocol rest = false
error_within (suc most) protocol rest =
    elim (passed_len protocol rest) as (λ _. Bool) [
      | Some len ↦ error_within most (protocol_of (slice_index rest 0)) (drop len rest)
      | None ↦ is_error_of protocol rest
    ]

-- a packet whose header names this, and which has this payload, carries an error
abbrev pub carries_error : IpProtocol → List ℕ → Bool
carries_error protocol payload = error_within (suc (length payload)) protocol payload

-- PLACES

abbrev pub StopsWithin : (size : ℕ) → Following → Type 0
StopsWithin size (End.Upper protocol at) = at ≤ size
StopsWithin size (End.FragmentPart at) = at + 8 ≤ size
StopsWithin size (End.Problem problem pointer) = pointer ≤ 40 + size
StopsWithin size end = Unit {0}

abbrev pub IsWithin : (at size : ℕ) → Step → Type 0
IsWithin at size (Way.Goes len) = (8 ≤ len) × (len ≤ size)
IsWithin at size (Way.Stops following) = StopsWithin (at + size) following
