-- The initial sequence number of a connection (RFC 9293, 3.4.1; RFC 6528, 3): with a key a clock and a hash of its endpoints, so that the numbers of
-- one pair of endpoints rise from one connection to the next, and tell nothing of another pair's; else a random word.
use Rattle.std.specs.Prelude.{ℕ, ◌+◌, ◌/◌, ◌%◌, ◌^◌, ℤ, unsigned_abs, Bool, List, ◌++◌, Option, Some, None, is_none}
use Rattle.std.specs.Int.{w16, to_be_bytes}
use Rattle.net_base.specs.RandomWords.{word}
use Rattle.ip_wire.specs.SeqNumber.{SeqNumber}
use Rattle.socket_context.specs.Context.{ContextValue, next_random}
use Rattle.tcp_state.specs.declared.endpoints.AddressPair.{AddressPair}
use Rattle.tcp_state.specs.declared.endpoints.AddressPair.TheVariants as Pair
use Rattle.tcp_state.specs.declared.endpoints.FourTuple.{FourTuple}
use Rattle.tcp_state.specs.SipHash.{sip_hash}

-- the own address and port, then the remote's, in network order
abbrev pub message_by : AddressPair → List ℕ → List ℕ → List ℕ
message_by (Pair.Ipv4 local remote) local_port remote_port = local.0 ++ (local_port ++ (remote.0 ++ remote_port))
message_by (Pair.Ipv6 local remote) local_port remote_port = local.0 ++ (local_port ++ (remote.0 ++ remote_port))

abbrev pub message_of : FourTuple → List ℕ
message_of pair = message_by pair.addresses (to_be_bytes w16 pair.local_port) (to_be_bytes w16 pair.remote_port)

-- a clock that counts each 4 microseconds
abbrev pub ticks_of : ℤ → ℕ
ticks_of now = unsigned_abs now / 4

-- the clock and the hash
abbrev pub keyed_number : List ℕ → ℤ → FourTuple → ℕ
keyed_number key now pair = (ticks_of now + sip_hash key (message_of pair)) % 2 ^ 32

abbrev pub number_of : ℕ → SeqNumber
number_of n = record { 0 = n }

abbrev pub number_by : Option (List ℕ) → ContextValue → FourTuple → ℕ
number_by None cx pair = word (next_random cx).random
number_by (Some key) cx pair = keyed_number key cx.instant pair

abbrev pub isn : ContextValue → FourTuple → ℕ
isn cx pair = number_by cx.isn_key cx pair

-- without a key a random word is drawn for it
abbrev pub draws_number : ContextValue → Bool
draws_number cx = is_none cx.isn_key

-- of the endpoints, if there are any
abbrev pub number_for : ContextValue → Option FourTuple → ℕ
number_for cx None = 0
number_for cx (Some pair) = isn cx pair
