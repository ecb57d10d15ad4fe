-- What a socket has in flight: how far past SND.UNA it was sent, what was ever sent, and the timer of what isn't acknowledged.
use Rattle.std.specs.Prelude.{◌≡◌, ◌⊎◌, ℕ, ◌+◌, ◌<◌, ◌≤◌, ◌==◌, ℤ, Bool, true, false, Option, is_some}
use Rattle.ip_wire.specs.TcpControl.TheVariants as Control
use Rattle.tcp_state.specs.declared.offer.OfferKind.{OfferKind}
use Rattle.tcp_state.specs.declared.offer.OfferKind.TheVariants as Kind
use Rattle.tcp_state.specs.declared.offer.Reply.{Reply}
use Rattle.tcp_block.specs.TcbRules.{snd_max}
use Rattle.tcp_block.specs.declared.tcb.Tcb.{Tcb}

pub record Flight : Type 0 where
  pub past_iss : ℕ  -- SND.UNA less ISS, as far as it is counted
  pub flight_size : ℕ  -- SND.NXT less SND.UNA
  pub snd_max : ℕ  -- one past the highest position that was ever sent, less SND.UNA
  pub retransmit_at : Option ℤ

abbrev pub flight_of : Tcb → Flight
flight_of b = record {
  past_iss = b.sender.past_iss;
  flight_size = b.sender.flight_size;
  snd_max = b.sender.snd_max;
  retransmit_at = b.timers.retransmit_at;
}

-- what is in flight has a timer that runs (RFC 6298, 5.1)
abbrev pub IsArmed : Flight → Type 0
IsArmed f = (f.flight_size == 0) ≡ false → is_some f.retransmit_at ≡ true

-- The highest position that was sent, counted from ISS, never falls, nor does SND.UNA, as long as the latter is counted.
abbrev pub Rises : Flight → Flight → Type 0
Rises f g = g.past_iss < 4_294_967_295 → (f.past_iss ≤ g.past_iss) × (f.past_iss + f.snd_max ≤ g.past_iss + g.snd_max)

-- WHERE BARE SEGMENTS LIE

-- what answers a segment is a reset, or lies past all that was ever sent
abbrev pub IsPastAll : Tcb → Reply → Type 0
IsPastAll b reply = (reply.segment.control ≡ Control.Rst) ⊎ (reply.segment.seq_number ≡ snd_max b)

-- an offer that carries neither payload nor SYN nor FIN
abbrev pub is_bare : OfferKind → Bool
is_bare Kind.Ack = true
is_bare Kind.WindowUpdate = true
is_bare Kind.Reset = true
is_bare other = false
