-- What an offer and its settling leave of a queue: all, or all but the first.
use Rattle.std.proofs.Common.{◌≡◌, inl, inr, ℕ, Bool, true, false, List, Option, Some, None, is_some, refl, ap, ◌∙◌}
use Rattle.std.specs.Prelude.{◌&&◌}
use Rattle.base_buffer.specs.Packets.{contents}
use Rattle.sockets.specs.Packet.{PacketValue}
use Rattle.sockets.specs.Offer as Answer
use Rattle.socket_datagram.specs.Offers.{OffersFirst, left_with}
use Rattle.socket_datagram.specs.SocketValue.{SocketValue, left_by, settled}
use Rattle.lan.proofs.Worlds.AtLink.Queues.{IsLeft, contents_unpadded, contents_without_first}

module _ {H S : Type 0} where
  offer_left_by : (p : Option PacketValue) (v v' : SocketValue H S) → v' ≡ left_with p v → IsLeft (contents v.queued) (contents v'.queued)
  offer_left_by None v v' is = inr (ap (λ (w : SocketValue H S). contents w.queued) is ∙ contents_without_first v.queued)
  offer_left_by (Some p) v v' is = inl (ap (λ (w : SocketValue H S). contents w.queued) is ∙ contents_unpadded v.queued)

  pub offer_left : (Takes : S → H × List ℕ → PacketValue → Type 0) (o : Option (H × List ℕ)) (v v' : SocketValue H S) (answer : Answer.Offer) →
      OffersFirst Takes v o answer v' → IsLeft (contents v.queued) (contents v'.queued)
  offer_left Takes None v v' answer offers = inl (ap (λ (w : SocketValue H S). contents w.queued) offers.1)
  offer_left Takes (Some q) v v' answer offers = offer_left_by v'.offered v v' offers.2

  pub settled_left : (sent : Bool) (v : SocketValue H S) → IsLeft (contents v.queued) (contents (settled sent v).queued)
  settled_left sent v = by (sent && is_some v.offered) where
    by : (gone : Bool) → IsLeft (contents v.queued) (contents (left_by gone v.queued))
    by true = inr (contents_without_first v.queued)
    by false = inl refl
