-- Room for a datagram after the frames before its own, on numerals.
use Rattle.std.proofs.Common.{◌≡◌, inl, inr, ℕ, List, [], ◌∷◌, length, refl, arith}
use Rattle.net_base.specs.Packets.{Packets, packets_in}
use Rattle.socket_datagram.specs.declared.udp.UdpMetadata.{UdpMetadata}
use Rattle.iface_ingress.specs.Reassembled.{Assemblers}
use Rattle.proof_stack.specs.Progress.Ready.{HasRoomFollowing}

-- an empty queue
abbrev queue : ℕ → ℕ → Packets UdpMetadata
queue slots room = packets_in [] 0 slots room

module _ (a b own : List ℕ) (a_has : length a ≡ 40) (b_has : length b ≡ 40) (own_has : length own ≡ 36) where
  abbrev Fits : ℕ → ℕ → Type 0
  Fits slots room = HasRoomFollowing (a ∷ b ∷ own ∷ []) [] (queue slots room) 3 8

  pub has_room : Fits 4 160
  has_room = inr (record {
    most = 40;
    own = omega arith;
    brings = ((omega (arith, a_has), tt), ((omega (arith, b_has), tt), ((omega (arith, own_has), tt), tt)));
    room = record { entries = omega arith; bytes = omega arith };
  })

  pub too_few_entries : Fits 3 160 → ⊥
  too_few_entries (inl alone) = let clash = alone.0 in absurd (omega (arith, clash))
  too_few_entries (inr has) = let few = has.room.entries in absurd (omega (arith, few))

  pub too_few_bytes : Fits 4 159 → ⊥
  too_few_bytes (inl alone) = let clash = alone.0 in absurd (omega (arith, clash))
  too_few_bytes (inr has) =
      let few = has.room.bytes in
      let long = has.brings.0.0 in
      absurd (omega (arith, few, long, a_has))

pub first_has_room : (frames : List (List ℕ)) (assemblers : Assemblers) → HasRoomFollowing frames assemblers (queue 1 8) 1 8
first_has_room frames assemblers = inl (refl, refl)

pub too_short : (own : List ℕ) → length own ≡ 36 → HasRoomFollowing (own ∷ []) [] (queue 1 7) 1 8 → ⊥
too_short own own_has (inl alone) = let clash = alone.1 in absurd cc
too_short own own_has (inr has) = let few = has.room.entries in absurd (omega (arith, few))
