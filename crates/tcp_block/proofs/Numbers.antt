-- The initial sequence number of a connection is a number of 32 bits.
use Rattle.std.proofs.Common.{ℕ, ◌<◌, ◌+◌, ◌%◌, ◌^◌, List, Option, Some, None, arith}
use Rattle.net_base.specs.RandomWords.{word}
use Rattle.tcp_state.specs.Context.{ContextValue, next_random}
use Rattle.tcp_state.specs.Isn.{ticks_of, number_by, isn, number_for, message_of}
use Rattle.tcp_state.specs.SipHash.{sip_hash}
use Rattle.tcp_state.specs.declared.endpoints.FourTuple.{FourTuple}

rest_small : (n : ℕ) → n % 2 ^ 32 < 2 ^ 32
rest_small n = omega arith

word_small : (s : ℕ) → word s < 2 ^ 32
word_small s = omega arith

by_small : (key : Option (List ℕ)) (cx : ContextValue) (pair : FourTuple) → number_by key cx pair < 2 ^ 32
by_small None cx pair = word_small (next_random cx).random
by_small (Some key) cx pair = rest_small (ticks_of cx.instant + sip_hash key (message_of pair))

pub number_small : (cx : ContextValue) (pair : FourTuple) → isn cx pair < 2 ^ 32
number_small cx pair = by_small cx.isn_key cx pair

pub number_for_small : (cx : ContextValue) (pair : Option FourTuple) → number_for cx pair < 2 ^ 32
number_for_small cx None = omega arith
number_for_small cx (Some pair) = number_small cx pair
