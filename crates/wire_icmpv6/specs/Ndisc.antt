-- Neighbour messages (RFC 4861, sections 4.3 and 4.4): a solicitation asks for the link address of a target, an
-- advertisement gives it.
use Rattle.std.specs.Prelude.{◌≡◌, ◌==◌, ℕ, ◌+◌, ◌/◌, ◌%◌, ◌≤◌, if◌then◌else◌, Option, Some, None, List, [], ◌∷◌, ◌++◌, length, drop, slice_index, slice_range}
use Rattle.std.specs.Int.{w16, to_be_bytes}
use Rattle.wire_address.specs.Address.{IsIpv6Address}
use Rattle.wire_address.specs.Fields.{IsBytes}
use Rattle.wire_address.specs.declared.ipv6.Ipv6Address.{Ipv6Address}
use Rattle.wire_icmpv6.specs.NdiscOption.{HasLink, link_bytes, link_len, link_option, read_link}
use Rattle.wire_icmpv6.specs.Message.{message_number}
use Rattle.wire_icmpv6.specs.Packet.{type_of}
use Rattle.wire_icmpv6.specs.declared.message.Icmpv6Message.TheVariants as Message
use Rattle.wire_icmpv6.specs.declared.ndisc_flags.NdiscNeighborFlags.{NdiscNeighborFlags}
use Rattle.wire_icmpv6.specs.declared.ndisc.NdiscRepr.{NdiscRepr}
use Rattle.wire_icmpv6.specs.declared.ndisc.NdiscRepr.TheVariants as Ndisc

-- a message as a value, whose link address is a list of bytes
pub data NeighborMessage : Type 0 where
  Solicitation : Ipv6Address → Option (List ℕ) → NeighborMessage
  Advertisement : NdiscNeighborFlags → Ipv6Address → Option (List ℕ) → NeighborMessage

-- the value of a message
abbrev pub neighbor_message : NdiscRepr → NeighborMessage
neighbor_message (Ndisc.NeighborSolicit target link) = Solicitation target (link_bytes link)
neighbor_message (Ndisc.NeighborAdvert flags target link) = Advertisement flags target (link_bytes link)

-- the flags in their byte, whose other bits are zero
abbrev pub flag_bits : NdiscNeighborFlags → ℕ
flag_bits flags = (if flags.router then 0x80 else 0) + (if flags.solicited then 0x40 else 0) + (if flags.overrides then 0x20 else 0)

-- the flags in a byte, whose other bits are ignored
abbrev pub flags_of : ℕ → NdiscNeighborFlags
flags_of byte = record { router = byte / 0x80 % 2 == 1; solicited = byte / 0x40 % 2 == 1; overrides = byte / 0x20 % 2 == 1 }

-- the bytes are a solicitation; four reserved bytes are ignored, and so are options of other types
pub record IsSolicitation (bytes : List ℕ) (target : Ipv6Address) (link : Option (List ℕ)) : Type 0 where
  pub header : 24 ≤ length bytes
  pub kind : type_of bytes ≡ Message.NeighborSolicit
  pub code : slice_index bytes 1 ≡ 0
  pub target_is : target.0 ≡ slice_range bytes 8 24
  pub source_link : HasLink 1 None (drop 24 bytes) link

-- the bytes are an advertisement; three reserved bytes are ignored, and so are options of other types
pub record IsAdvertisement (bytes : List ℕ) (flags : NdiscNeighborFlags) (target : Ipv6Address) (link : Option (List ℕ)) : Type 0 where
  pub header : 24 ≤ length bytes
  pub kind : type_of bytes ≡ Message.NeighborAdvert
  pub code : slice_index bytes 1 ≡ 0
  pub flags_are : flags ≡ flags_of (slice_index bytes 4)
  pub target_is : target.0 ≡ slice_range bytes 8 24
  pub target_link : HasLink 2 None (drop 24 bytes) link

-- the bytes are this message
abbrev pub IsNdisc : List ℕ → NeighborMessage → Type 0
IsNdisc bytes (Solicitation target link) = IsSolicitation bytes target link
IsNdisc bytes (Advertisement flags target link) = IsAdvertisement bytes flags target link

-- the length of a message
abbrev pub buffer_len : NeighborMessage → ℕ
buffer_len (Solicitation target link) = 24 + link_len link
buffer_len (Advertisement flags target link) = 24 + link_len link

-- the four bytes after the checksum as they are sent, with zeros for what is reserved
abbrev pub word_of : NeighborMessage → List ℕ
word_of (Solicitation target link) = 0 ∷ 0 ∷ 0 ∷ 0 ∷ []
word_of (Advertisement flags target link) = flag_bits flags ∷ 0 ∷ 0 ∷ 0 ∷ []

-- the message with this value and this checksum
abbrev pub spelling : NeighborMessage → ℕ → List ℕ
spelling (Solicitation target link) check =
    message_number Message.NeighborSolicit ∷ 0 ∷ (to_be_bytes w16 check ++ 0 ∷ 0 ∷ 0 ∷ 0 ∷ (target.0 ++ link_option 1 link))
spelling (Advertisement flags target link) check =
    message_number Message.NeighborAdvert ∷ 0 ∷ (to_be_bytes w16 check ++ flag_bits flags ∷ 0 ∷ 0 ∷ 0 ∷ (target.0 ++ link_option 2 link))

-- a link address has at most six bytes
abbrev pub IsLink : Option (List ℕ) → Type 0
IsLink None = Unit {0}
IsLink (Some address) = (length address ≤ 6) × IsBytes address

-- each field is a number of its width
abbrev pub IsValue : NeighborMessage → Type 0
IsValue (Solicitation target link) = IsIpv6Address target × IsLink link
IsValue (Advertisement flags target link) = IsIpv6Address target × IsLink link

-- what a reader makes of a message that was sent: a shorter link address is padded to six bytes
abbrev pub normal : NeighborMessage → NeighborMessage
normal (Solicitation target link) = Solicitation target (read_link link)
normal (Advertisement flags target link) = Advertisement flags target (read_link link)

-- a link address is one of Ethernet
abbrev pub FitsLink : Option (List ℕ) → Type 0
FitsLink None = Unit {0}
FitsLink (Some address) = length address ≡ 6

-- a message that is read as it was sent
abbrev pub Fits : NeighborMessage → Type 0
Fits (Solicitation target link) = FitsLink link
Fits (Advertisement flags target link) = FitsLink link
