-- What a clause says of a call at a `&mut` to a header and one to a packet's bytes.
use Rattle.std.specs.Prelude.{◌≡◌, ℕ, List}
use Rattle.std.specs.Borrow.{MutBor}
use Rattle.std.specs.Fn.{Once}

-- both references
abbrev pub PacketMut : Type 0 → Type 0
PacketMut H = MutBor H × (MutBor (List ℕ) × Unit {0})

-- f may be called once at this header and these bytes
abbrev pub TakesPacket : {F H A : Type 0} → Once F (PacketMut H) A → F → H → List ℕ → Type 0
TakesPacket {F} {H} g f header bytes =
    (p : MutBor H) (q : MutBor (List ℕ)) → p.now ≡ header → q.now ≡ bytes → g.pre f (p, (q, tt))

-- at this header and these bytes, it may give r and leave header' and bytes'
pub record ReturnsAtPacket {F H R : Type 0} (g : Once F (PacketMut H) (R × PacketMut H)) (f : F) (header : H) (bytes : List ℕ) (r : R) (header' : H)
    (bytes' : List ℕ) : Type 0 where
  pub shown : PacketMut H
  pub shows : (shown.0.now ≡ header) × (shown.1.0.now ≡ bytes)
  pub left : PacketMut H
  pub met : g.post f shown (r, left)
  pub leaves : (left.0.now ≡ header') × (left.1.0.now ≡ bytes')
