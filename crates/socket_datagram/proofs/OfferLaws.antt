-- An offer that changes nothing.
use Rattle.std.proofs.Common.{◌≡◌, ℕ, ◌+◌, ◌%◌, ◌==◌, List, [], ◌∷◌, refl, sym, ap, subst, Bool, true, false, if◌then◌else◌, Option, None, Some}
use Rattle.net_base.specs.Packets.{QueuedPacket, Packets, packets_in, contents, unpadded, first}
use Rattle.socket_context.specs.Packet.{PacketValue}
use Rattle.socket_context.specs.declared.offer.Offer as Answer
use Rattle.socket_datagram.specs.SocketValue.{SocketValue, settled}
use Rattle.socket_datagram.specs.Offers.{answer_with, changed_by, left_with, OffersFirst, OffersBy, IsSameButForSlots}

pub some_same : {A : Type 0} (x y : A) → Some x ≡ Some y → x ≡ y
some_same {A} x y is = ap (λ o. elim o as (λ _. A) [ None ↦ x | Some z ↦ z ]) is

pub true-false : true ≡ false → ⊥
true-false is = cc

module _ {H : Type 0} where
  by_padding : (b : Bool) (p : QueuedPacket H) (ps : List (QueuedPacket H)) (start positions room : ℕ) (q : Packets H) →
      contents q ≡ (p.header, p.bytes) ∷ contents (packets_in ps start positions room) → q.positions ≡ positions → q.room ≡ room
      → (contents (if b then q else packets_in (record { padding = 0; header = p.header; bytes = p.bytes } ∷ ps) start positions room) ≡ contents q)
      × ((if b then q else packets_in (record { padding = 0; header = p.header; bytes = p.bytes } ∷ ps) start positions room).positions ≡ positions)
      × ((if b then q else packets_in (record { padding = 0; header = p.header; bytes = p.bytes } ∷ ps) start positions room).room ≡ room)
  by_padding true p ps start positions room q is at in_room = (refl, at, in_room)
  by_padding false p ps start positions room q is at in_room = (sym is, refl, refl)

  -- a queue without padding holds the same datagrams
  unpadded_in : (ps : List (QueuedPacket H)) (start positions room : ℕ)
      → (contents (unpadded (packets_in ps start positions room)) ≡ contents (packets_in ps start positions room))
      × ((unpadded (packets_in ps start positions room)).positions ≡ positions) × ((unpadded (packets_in ps start positions room)).room ≡ room)
  unpadded_in [] start positions room = (refl, refl, refl)
  unpadded_in (p ∷ ps) start positions room =
      by_padding (p.padding == 0) p ps ((start + p.padding) % room) positions room (packets_in (p ∷ ps) start positions room) refl refl refl

module _ {H S : Type 0} where
  unchanged_at : (v : SocketValue H S) (p : PacketValue) → IsSameButForSlots v (settled false (left_with (Some p) v))
  unchanged_at v p =
      let e = unpadded_in v.queued.packets v.queued.start v.queued.positions v.queued.room in
      record { received = refl; settings = refl; queued = e.0; positions = e.1; room = e.2 }

  unchanged_by : (v v' : SocketValue H S) (o : Option PacketValue) (answer : Answer.Offer) → answer ≡ answer_with o → v' ≡ left_with o v →
      changed_by answer ≡ false → IsSameButForSlots v (settled false v')
  unchanged_by v v' None answer answered state is =
      absurd (true-false (subst (λ a. changed_by a ≡ false) answered is))
  unchanged_by v v' (Some p) answer answered state is =
      subst (λ (w : SocketValue H S). IsSameButForSlots v (settled false w)) (sym state) (unchanged_at v p)

  unchanged_first : (Takes : S → H × List ℕ → PacketValue → Type 0) (v v' : SocketValue H S) (f : Option (H × List ℕ)) (answer : Answer.Offer) →
      OffersFirst Takes v f answer v' → changed_by answer ≡ false → IsSameButForSlots v (settled false v')
  unchanged_first Takes v v' None answer offers is =
      subst (λ (w : SocketValue H S). IsSameButForSlots v (settled false w)) (sym offers.1) (record {
        received = refl;
        settings = refl;
        queued = refl;
        positions =
            refl;
        room = refl;
      })
  unchanged_first Takes v v' (Some q) answer offers is = unchanged_by v v' v'.offered answer offers.1 offers.2 is

  pub unchanged : (Takes : S → H × List ℕ → PacketValue → Type 0) (v v' : SocketValue H S) (answer : Answer.Offer) → OffersBy Takes v answer v' →
      changed_by answer ≡ false → IsSameButForSlots v (settled false v')
  unchanged Takes v v' answer offers is = unchanged_first Takes v v' (first v.queued) answer offers is
