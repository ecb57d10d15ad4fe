-- What sockets know of the interface that they work for.
use Rattle.std.specs.Prelude.{ℕ, ℤ, Bool, List, Option}
use Rattle.net_base.specs.RandomWords.{next_state}
use Rattle.net_base.specs.ChecksumCapabilities.{ChecksumCapabilities}
use Rattle.ip_wire.specs.IpAddress.{IpAddress}

-- The instant in microseconds, the interface's addresses, the source that it takes for a destination, the broadcast
-- addresses of its network, the longest IP packet that a frame holds, the checksums that the stack handles itself, the key
-- of 16 bytes by which the initial sequence numbers of TCP connections are told, if it has one, and the state of the random words.
pub record ContextValue : Type 0 where
  pub instant : ℤ
  pub has_ip_addr : IpAddress → Bool
  pub source_for : IpAddress → Option IpAddress
  pub is_broadcast : IpAddress → Bool
  pub ip_mtu : ℕ
  pub checksums : ChecksumCapabilities
  pub isn_key : Option (List ℕ)
  pub random : ℕ

-- after a random word was drawn
abbrev pub next_random : ContextValue → ContextValue
next_random cx = record cx { random = next_state cx.random }
