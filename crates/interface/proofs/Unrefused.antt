-- A poll that refuses no frame has one end at a device that is otherwise determined.
use Rattle.std.proofs.Common.{◌≡◌, ◌<◌, ◌≤◌, ℕ, ℤ, Bool, true, false, List, [], ◌∷◌, arith}
use Rattle.net_base.specs.Device.{Move, Took, Empty, Allowed, Emitted, Denied}
use Rattle.iface_egress.specs.Determined.{IsDetermined}
use Rattle.interface.specs.Polls.{Polls}
use Rattle.interface.specs.State.{State}
use Rattle.interface.specs.Steady.{IsSteady}
use Rattle.interface.proofs.Mapping.{IsMapped, polls_there}
use Rattle.interface.proofs.OneEnd.{OneOffer, one_poll}

-- but for whether a frame is refused, each move has one end; and refusals are counted
pub record IsCounting {D : Type 0} (moves : D → Move → D → Type 0) (refused : D → ℕ) : Type 0 where
  pub one_end : (here one other : D) (m : Move) → moves here m one → moves here m other → one ≡ other
  pub one_frame : (here : D) (t : ℤ) (one other : D) (frame again : List ℕ) → moves here (Took t frame) one → moves here (Took t again) other → frame ≡ again
  pub looks : (here : D) (t : ℤ) (one other : D) (frame : List ℕ) → moves here (Took t frame) one → moves here (Empty t) other → ⊥
  pub gives : (here : D) (t : ℤ) (one other : D) → moves here (Allowed t true) one → moves here (Allowed t false) other → ⊥
  pub kept : (old new : D) (m : Move) → moves old m new → refused old ≤ refused new
  pub denied : (old new : D) (len : ℕ) → moves old (Denied len) new → refused old < refused new

-- OF A QUEUE

pub head_is : {A : Type 0} (x y : A) (xs ys : List A) → x ∷ xs ≡ y ∷ ys → x ≡ y
head_is x y xs ys is = cc

pub none_waits : {A : Type 0} (x : A) (xs : List A) → x ∷ xs ≡ [] → ⊥
none_waits x xs is = absurd cc

pub given_or_not : (b : Bool) → true ≡ b → false ≡ b → ⊥
given_or_not b given withheld = absurd cc

-- A POLL

module _ {D : Type 0} (moves : D → Move → D → Type 0) (refused : D → ℕ) (counting : IsCounting moves refused) where
  -- the moves that refuse nothing
  abbrev Grants : D → Move → D → Type 0
  Grants old (Denied len) new = ⊥
  Grants old (Took t frame) new = moves old (Took t frame) new
  Grants old (Empty t) new = moves old (Empty t) new
  Grants old (Allowed t given) new = moves old (Allowed t given) new
  Grants old (Emitted frame) new = moves old (Emitted frame) new

  one_taken : (here one other : D) (m : Move) → Grants here m one → Grants here m other → one ≡ other
  one_taken here one other (Took t frame) a b = counting.one_end here one other (Took t frame) a b
  one_taken here one other (Empty t) a b = counting.one_end here one other (Empty t) a b
  one_taken here one other (Allowed t given) a b = counting.one_end here one other (Allowed t given) a b
  one_taken here one other (Emitted frame) a b = counting.one_end here one other (Emitted frame) a b
  one_taken here one other (Denied len) a b = absurd a

  determined : (here : D) → IsDetermined Grants 0 here
  determined here = record {
    one_end = one_taken here;
    one_frame = counting.one_frame here;
    looks = counting.looks here;
    gives = counting.gives here;
    takes = λ one other frame short a b. b;
  }

  steady : IsSteady Grants 0
  steady = record { stays = λ old new m det goes. determined new; clear = λ here one other frame det a b. b }

  module _ (n : ℕ) where
    -- so many were refused before, and no more after
    abbrev Before : D → Type 0
    Before d = n ≤ refused d

    abbrev After : D → Type 0
    After d = refused d ≤ n

    up : (old new : D) (m : Move) → moves old m new → Before old → Before new
    up old new m goes before = let more = counting.kept old new m goes in omega (arith, more, before)

    down : (old new : D) (m : Move) → moves old m new → After new → After old
    down old new m goes after = let more = counting.kept old new m goes in omega (arith, more, after)

    there : (old new : D) (m : Move) → moves old m new → Before old → After new → Grants old m new
    there old new (Took t frame) goes before after = goes
    there old new (Empty t) goes before after = goes
    there old new (Allowed t given) goes before after = goes
    there old new (Emitted frame) goes before after = goes
    there old new (Denied len) goes before after =
        let more = counting.denied old new len goes in
        absurd (omega (arith, more, before, after))

    mapped : IsMapped (λ (d : D). d) moves Grants Before After
    mapped = record { up = up; down = down; there = there }

  taken : (t : ℤ) (budget : ℕ) (s s' : State D) (changed : Bool) → refused s'.device ≡ refused s.device → Polls moves t budget s changed s' →
      Polls Grants t budget s changed s'
  taken t budget s s' changed same polls =
      polls_there (λ (d : D). d) moves Grants (Before (refused s.device)) (After (refused s.device)) (mapped (refused s.device)) t budget s s' changed polls
      (omega arith) (omega (arith, same))

  pub one_unrefused : OneOffer → (t : ℤ) (budget : ℕ) (s left right : State D) (changed other : Bool)
      → refused left.device ≡ refused s.device → refused right.device ≡ refused s.device
      → Polls moves t budget s changed left → Polls moves t budget s other right
      → (left ≡ right) × (changed ≡ other)
  one_unrefused one_offer t budget s left right changed other none same one two =
      one_poll one_offer Grants 0 steady t budget s left right changed other (determined s.device) (taken t budget s left changed none one)
      (taken t budget s right other same two)
