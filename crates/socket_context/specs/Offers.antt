-- What a socket answers when it is asked for a packet, and when it wants to be polled.
use Rattle.std.specs.Prelude.{ℤ, ◌<ℤ◌}
use Rattle.socket_context.specs.declared.offer.Offer.{Offer}
use Rattle.socket_context.specs.declared.poll_at.PollAt.{PollAt}
use Rattle.socket_context.specs.declared.poll_at.PollAt.TheVariants as At

-- the answer to an offer, and the socket after it
pub record Offered (S : Type 0) : Type 0 where
  pub answer : Offer
  pub socket : S

abbrev pub offered_as : {S : Type 0} → Offer → S → Offered S
offered_as answer socket = record { answer = answer; socket = socket }

-- the socket doesn't want to be polled at this instant yet
abbrev pub IsBefore : ℤ → PollAt → Type 0
IsBefore now At.Now = ⊥
IsBefore now (At.Time instant) = now <ℤ instant
IsBefore now At.Ingress = Unit {0}
