-- Places of a cache's entries by a key of their addresses: an entry is found among those of its key.
use Rattle.std.specs.Prelude.{◌≡◌, ℕ, ◌+◌, ◌*◌, ◌<◌, List, length, slice_get, slice_index, Some}
use Rattle.ip_wire.specs.IpAddress.{IpAddress}
use Rattle.ip_wire.specs.IpAddress.TheVariants as Address
use Rattle.iface_tables.specs.declared.neighbor.Neighbor.{Neighbor}

abbrev pub number : ℕ → ℕ → ℕ → ℕ → ℕ
number a b c d = ((a * 256 + b) * 256 + c) * 256 + d

-- an address's last four bytes
abbrev pub key_of : IpAddress → ℕ
key_of (Address.Ipv4 a) = number (slice_index a.0 0) (slice_index a.0 1) (slice_index a.0 2) (slice_index a.0 3)
key_of (Address.Ipv6 a) = number (slice_index a.0 12) (slice_index a.0 13) (slice_index a.0 14) (slice_index a.0 15)

-- the place of each entry before this one has the key of its address
abbrev pub AreIndexedBefore : ℕ → List Neighbor → List ℕ → Type 0
AreIndexedBefore end entries keys =
    (at : ℕ) (entry : Neighbor) → at < end → slice_get entries at ≡ Some entry → slice_get keys at ≡ Some (key_of entry.protocol_addr)

-- each entry's place has the key of its address
abbrev pub AreIndexed : List Neighbor → List ℕ → Type 0
AreIndexed entries keys = AreIndexedBefore (length entries) entries keys
