-- Initial sequence numbers by a key rise with the clock.
use Rattle.std.proofs.Common.{◌≡◌, ℕ, ◌≤◌, ◌+◌, ◌-◌, ◌%◌, ◌^◌, ℤ, List, arith}
use Rattle.ip_wire.specs.Seq.{distance_of}
use Rattle.tcp_state.specs.Isn.{ticks_of, number_of, keyed_number, message_of}
use Rattle.tcp_state.specs.SipHash.{sip_hash}
use Rattle.tcp_state.specs.declared.endpoints.FourTuple.{FourTuple}

apart : (a b hash : ℕ) → a ≤ b → ((b + hash) % 2 ^ 32 + (2 ^ 32 - (a + hash) % 2 ^ 32)) % 2 ^ 32 ≡ (b - a) % 2 ^ 32
apart a b hash e = omega arith

pub numbers_rise : (key : List ℕ) (pair : FourTuple) (before now : ℤ) → ticks_of before ≤ ticks_of now
    → distance_of (number_of (keyed_number key before pair)) (number_of (keyed_number key now pair)) ≡ (ticks_of now - ticks_of before) % 2 ^ 32
numbers_rise key pair before now e = apart (ticks_of before) (ticks_of now) (sip_hash key (message_of pair)) e
