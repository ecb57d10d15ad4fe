-- What a wrong socket takes in breaks the promises on streams.
use Rattle.std.proofs.Common.{◌≡◌, ◌==◌, ℕ, zero, suc, Bool, true, false, List, [], ◌∷◌, slice_index, Option, Some, None, refl, ap, ◌∙◌, arith}
use Rattle.std.proofs.lemmas.Bool.Decides.{nat_tests}
use Rattle.tcp_block.specs.Value.{TcpValue}
use Rattle.lan.specs.declared.at_link.history.event.Side.{Side}
use Rattle.lan.specs.declared.at_link.history.event.Side.TheVariants.{B}
use Rattle.lan.specs.declared.at_link.history.record.Opening.{Opening}
use Rattle.lan.specs.Worlds.AtLink.PeerSides.{ArePartners, are_paired}
use Rattle.lan.specs.Worlds.AtLink.Parties.{Party, socket_at}
use Rattle.lan.specs.Worlds.AtLink.Parties.Socket.{Tcp}
use Rattle.lan.specs.Worlds.AtLink.PacketsSafe.{IsSafe}
use Rattle.lan.specs.Worlds.AtLink.Examples.{taken_at, text}

pairs : Option Opening → Option Opening → Bool
pairs (Some one) (Some another) = are_paired one another
pairs one another = false

zero_is_no_suc : (j : ℕ) → (0 == suc j) ≡ false
zero_is_no_suc j = grind (arith, nat_tests)

-- A named port 80, so the listener at port 81 has no peer
no_peer_side : (j : ℕ) → ArePartners (taken_at 81 text) B 0 j → ⊥
unfolding pairs
no_peer_side zero p =
    let clash : false ≡ true = ap (λ o. pairs o (Some (record { local = 49_500; remote = Some 80 }))) p.opened ∙
    ap (pairs (Some p.one)) p.peer_side_opened ∙ p.paired in
    cc
no_peer_side (suc j) p =
    let none = rw (zero_is_no_suc j) at p.peer_side_opened in
    absurd (cc)

-- a listener that takes what was sent to another port
pub another_port : (starts : Side → ℕ → ℕ) (a b : Party) (v : TcpValue) → socket_at b 0 ≡ Some (Tcp v)
    → IsSafe starts (record { a = a; b = b; history = taken_at 81 text }) → ⊥
another_port starts a b v at safe =
    let nothing = safe.alone B 0 v no_peer_side at in
    let clash : 97 ≡ 0 = ap (λ (xs : List ℕ). slice_index xs 0) nothing.taken in
    omega (arith, clash)

-- a listener that an acknowledgement of another initial sequence number opened, and that takes the stream from its second byte on
pub another_number : (starts : Side → ℕ → ℕ) (a b : Party) (v : TcpValue) → socket_at b 0 ≡ Some (Tcp v)
    → IsSafe starts (record { a = a; b = b; history = taken_at 80 (98 ∷ 99 ∷ []) }) → ⊥
another_number starts a b v at safe =
    let front = safe.prefix B 0 0 v
    (record {
      one = record { local = 80; remote = None };
      another = record { local = 49_500; remote = Some 80 };
      opened = refl;
      peer_side_opened =
          refl;
      paired = refl;
    }) at
    in
    let clash : 98 ≡ 97 = ap (λ (xs : List ℕ). slice_index xs 0) front.1 in
    omega (arith, clash)
