use Rattle.std.proofs.Common.{◌≤◌, Option, subst}
use Rattle.std.specs.Prelude.{IfSome}
use Rattle.iface_egress.specs.Plan.{total_len}
use Rattle.tcp_state.specs.declared.offer.OpenOffer.{OpenOffer}
use Rattle.proof_stack.proofs.OfferLengths.{offer_fits}
use Rattle.proof_stack.proofs.progress.fragments.segments_fit_their_packets.Goals as goal

pub returns : goal.returns
returns c = λ cx v o enough is. subst (λ (x : Option OpenOffer). IfSome x (λ (y : OpenOffer). total_len y.header ≤ cx.ip_mtu)) is (offer_fits cx enough v)
