-- When new payload goes, and since when the congestion window wasn't used (RFC 7661, 4.4.3).
use Rattle.std.specs.Prelude.{◌≡◌, ℕ, ◌*◌, ◌<◌, ℤ, pos, ◌+ℤ◌, ◌<ℤ◌, ◌≤ℤ◌, false, Option, Some, None}
use Rattle.tcp_state.specs.Reno as reno
use Rattle.tcp_state.specs.Reno.{RenoValue}
use Rattle.tcp_state.specs.declared.offer.OfferKind.TheVariants as Kind
use Rattle.tcp_state.specs.declared.offer.OpenOffer.{OpenOffer}
use Rattle.tcp_block.specs.TcbRules.{default_settings, initial_tcb}
use Rattle.tcp_block.specs.Settled.{end_of}
use Rattle.tcp_block.specs.Value.{TcpValue}
use Rattle.tcp_block.specs.declared.tcb.Tcb.{Tcb}

-- payload was offered that wasn't sent before
pub record IsNewPayload (v : TcpValue) (o : OpenOffer) : Type 0 where
  pub offered : v.offered ≡ Some o
  pub kind : o.kind ≡ Kind.Payload
  pub new : v.tcb.sender.snd_max < end_of v.tcb o

-- since then so many times five minutes passed, or more
abbrev pub IsPast : Option ℤ → ℕ → ℤ → Type 0
IsPast None n now = ⊥
IsPast (Some since) n now = (since +ℤ pos (n * 300_000_000)) ≤ℤ now

-- since then less than five minutes did, or there is no such instant
abbrev pub IsWithin : Option ℤ → ℤ → Type 0
IsWithin None now = Unit {0}
IsWithin (Some since) now = now <ℤ (since +ℤ pos 300_000_000)

-- ON NUMERALS

-- a hundred segments
abbrev pub idled : RenoValue
idled = record reno.initial { mss = 1460; cwnd = 146_000; ssthresh = 73_000 }

-- of which so much is in flight and was so when payload last went
abbrev pub used : ℕ → Tcb
used flight =
    let b : Tcb = initial_tcb default_settings in
    record b {
      reno = idled;
      sender = record b.sender { flight_size = flight; snd_max = flight };
      validation = record { flight = flight; since = Some (pos 0) };
    }
