-- What holds of an offer until it is settled.
use Rattle.std.specs.Prelude.{◌<◌, ◌^◌}
use Rattle.tcp_block.specs.declared.tcb.Tcb.{Tcb}
use Rattle.tcp_state.specs.declared.offer.OfferKind.{OfferKind}
use Rattle.tcp_state.specs.declared.offer.OfferKind.TheVariants as Kind
use Rattle.tcp_state.specs.declared.offer.OpenOffer.{OpenOffer}
use Rattle.tcp_block.specs.Settled.{end_of}

-- a segment that is new to the remote ends less than 2 ^ 32 past SND.UNA
abbrev pub EndsNear : OfferKind → Tcb → OpenOffer → Type 0
EndsNear Kind.Syn b o = end_of b o < 2 ^ 32
EndsNear Kind.FastRetransmission b o = end_of b o < 2 ^ 32
EndsNear Kind.Payload b o = end_of b o < 2 ^ 32
EndsNear Kind.Probe b o = end_of b o < 2 ^ 32
EndsNear kind b o = Unit {0}
