-- What the steps of a packet queue do to its headers and bytes in order.
use Rattle.std.proofs.Common.{◌≡◌, ℕ, List, [], ◌∷◌, ◌++◌, drop, refl, inl, inr}
use Rattle.std.specs.Prelude.{slice_get}
use Rattle.std.proofs.lemmas.List.{map-append}
use Rattle.std.proofs.lemmas.Bool.Decides.{eqb_tells}
use Rattle.base_buffer.specs.Packets.{QueuedPacket, Packets, packet, packets_in, contents, padding_for, appended, unpadded, first, without_first, with_first}

module _ {H : Type 0} where
  pub contents-appended : (q : Packets H) (size : ℕ) (header : H) (bytes : List ℕ) →
      contents (appended q size header bytes) ≡ contents q ++ (header, bytes) ∷ []
  contents-appended q size header bytes =
      map-append (λ p. (p.header, p.bytes)) q.packets (packet (padding_for q size) header bytes ∷ [])

  first-contents_in : (ps : List (QueuedPacket H)) (start positions room : ℕ) →
      first (packets_in ps start positions room) ≡ slice_get (contents (packets_in ps start positions room)) 0
  first-contents_in [] start positions room = refl
  first-contents_in (p ∷ ps) start positions room = refl

  pub first-contents : (q : Packets H) → first q ≡ slice_get (contents q) 0
  first-contents q = first-contents_in q.packets q.start q.positions q.room

  contents-without_first_in : (ps : List (QueuedPacket H)) (start positions room : ℕ) →
      contents (without_first (packets_in ps start positions room)) ≡ drop 1 (contents (packets_in ps start positions room))
  contents-without_first_in [] start positions room = refl
  contents-without_first_in (p ∷ ps) start positions room = refl

  pub contents-without_first : (q : Packets H) → contents (without_first q) ≡ drop 1 (contents q)
  contents-without_first q = contents-without_first_in q.packets q.start q.positions q.room

  contents-with_first_in : (ps : List (QueuedPacket H)) (start positions room : ℕ) (header : H) (bytes : List ℕ) →
      contents (with_first (packets_in ps start positions room) header bytes) ≡ (header, bytes) ∷ drop 1 (contents (packets_in ps start positions room))
  contents-with_first_in [] start positions room header bytes = refl
  contents-with_first_in (p ∷ ps) start positions room header bytes = refl

  pub contents-with_first : (q : Packets H) (header : H) (bytes : List ℕ) → contents (with_first q header bytes) ≡ (header, bytes) ∷ drop 1 (contents q)
  contents-with_first q header bytes = contents-with_first_in q.packets q.start q.positions q.room header bytes

  contents-unpadded_in : (ps : List (QueuedPacket H)) (start positions room : ℕ) →
      contents (unpadded (packets_in ps start positions room)) ≡ contents (packets_in ps start positions room)
  contents-unpadded_in [] start positions room = refl
  contents-unpadded_in (p ∷ ps) start positions room = elim (eqb_tells p.padding 0) [ inl none ↦ rw none.0 refl | inr some ↦ rw some.0 refl ]

  pub contents-unpadded : (q : Packets H) → contents (unpadded q) ≡ contents q
  contents-unpadded q = contents-unpadded_in q.packets q.start q.positions q.room
