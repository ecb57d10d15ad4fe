-- The socket of a kind that a set of sockets lends.
use Rattle.std.proofs.Common.{◌≡◌, ℕ, Bool, true, false, List, Option, None, Some, Result, Ok, refl, sym, ap, subst, ◌∙◌}
use Rattle.std.specs.Prelude.{slice_get, slice_set, OnSome}
use Rattle.std.specs.Borrow.{MutBor}
use Rattle.std.specs.Option.{option_copied_mut}
use Rattle.interface.specs.Set.{slots, is_fixed, set_at, set_by, set_in, socket_at, socket_in, socket_of}
use Rattle.interface.specs.Item.{Item}
use Rattle.iface_egress.specs.declared.socket_set.SocketSet.{SocketSet}
use Rattle.interface.specs.SocketStorage.{SocketStorage}
use Rattle.iface_egress.proofs.Lent.{same_slot}
use Rattle.sockets.specs.declared.socket.Socket.{Socket}
use Rattle.c_calls.specs.Slots.{found_at, answer_of_kind, answer_of_item, answer_in}
use Rattle.c_calls.specs.Numbers.{is_current, put_at, put_by, slot_of, socket_named, storage_at, storage_if}
use Rattle.c_calls.specs.SlotsValue.{SlotsValue}
use Rattle.c_calls.specs.declared.code.Code.{Code}
use Rattle.c_calls.specs.declared.slots.Tag.{Tag}
use Rattle.c_calls.proofs.Numbers.{stored}

-- what stands at a slot already changes no slots
module _ (ps : SlotsValue) (n : ℕ) (s : Socket) where
  same_item : (o : Option (Item Socket)) (slot : SocketStorage Socket) → slice_get ps.sockets (slot_of n) ≡ Some slot → slot.inner ≡ o →
      socket_of o ≡ Some s → set_in o ps.sockets (slot_of n) s ≡ ps.sockets
  same_item None slot got is has = cc
  same_item (Some item) slot got is has =
      let at : item.socket ≡ s = cc in
      subst (λ (x : Socket). slice_set ps.sockets (slot_of n) (record { inner = Some (record item { socket = x }) }) ≡ ps.sockets) at
      (subst (λ (o : Option (Item Socket)). slice_set ps.sockets (slot_of n) (record { inner = o }) ≡ ps.sockets) is
      (same_slot ps.sockets (slot_of n) slot got))

  same_by : (found : Option (SocketStorage Socket)) → storage_at ps n ≡ found → socket_in found ≡ Some s → put_by found ps n s ≡ ps
  same_by None got has = cc
  same_by (Some slot) got has =
      ap (λ (x : List (SocketStorage Socket)). record ps { sockets = x }) (same_item slot.inner slot (stored ps n slot got) refl has)

  pub same_at : socket_named ps n ≡ Some s → put_at ps n s ≡ ps
  same_at has = same_by (storage_at ps n) refl has

-- the socket at a slot, taken for one of a kind
module _ {V : Type 0} (as_kind : Socket → Option V) (ps : SlotsValue) (n : ℕ) (s : Socket) where
  abbrev kind_found : Option V → Result V Code
  kind_found = answer_of_kind as_kind (λ v. Ok v)

  found_item : (o : Option (Item Socket)) → socket_of o ≡ Some s → answer_of_item as_kind (λ v. Ok v) o ≡ kind_found (as_kind s)
  found_item None has = cc
  found_item (Some item) has =
      let at : item.socket ≡ s = cc in
      ap (λ (x : Socket). kind_found (as_kind x)) at

  found_in : (o : Option (SocketStorage Socket)) → socket_in o ≡ Some s → answer_in as_kind (λ v. Ok v) o ≡ kind_found (as_kind s)
  found_in None has = cc
  found_in (Some slot) has = found_item slot.inner has

  pub found_kind : socket_named ps n ≡ Some s → (k : Option V) → as_kind s ≡ k → found_at as_kind ps n ≡ kind_found k
  found_kind has k is = found_in (storage_at ps n) has ∙ ap kind_found is

-- of a number that is current the slot is what it names
module _ (ps : SlotsValue) (n : ℕ) (current : is_current ps.tags n ≡ true) where
  pub names : socket_named ps n ≡ socket_at ps.sockets (slot_of n)
  names = ap (λ b. socket_in (storage_if b ps.sockets (slot_of n))) current

  put_set : (w : Socket) (found : Option (SocketStorage Socket)) → put_by found ps n w ≡ record ps { sockets = set_by found ps.sockets (slot_of n) w }
  put_set w None = refl
  put_set w (Some slot) = refl

  pub put_current : (w : Socket) → put_at ps n w ≡ record ps { sockets = set_at ps.sockets (slot_of n) w }
  put_current w =
      ap (λ b. put_by (storage_if b ps.sockets (slot_of n)) ps n w) current ∙ put_set w (slice_get ps.sockets (slot_of n))

-- a socket that a set lends, by a handle
module _ (set : SocketSet Socket) (h : ℕ) (r : Option (MutBor Socket)) (s : MutBor Socket) (is : r ≡ Some s) where
  abbrev Holds : SocketSet Socket → Socket → Option (MutBor Socket) → Type 0
  Holds new w r = OnSome r ((slots new ≡ set_at (slots set) h w) × (is_fixed new ≡ is_fixed set))

  held : (new : SocketSet Socket) (w : Socket) → Holds new w r → slots new ≡ set_at (slots set) h w
  held new w holds = (subst (Holds new w) is holds).0

  pub unfixed : is_fixed set ≡ false → (new : SocketSet Socket) (w : Socket) → Holds new w r → is_fixed new ≡ false
  unfixed grows new w holds = (subst (Holds new w) is holds).1 ∙ grows

-- the set of these slots, by a handle of the slot
module _ (set : SocketSet Socket) (ts : List Tag) (ps : SlotsValue) (same : record { sockets = slots set; tags = ts } ≡ ps) (h n : ℕ) (at : h ≡ slot_of n)
    (current : is_current ps.tags n ≡ true) (r : Option (MutBor Socket)) (s : MutBor Socket) (is : r ≡ Some s) where
  pub there : option_copied_mut r ≡ socket_at (slots set) h → socket_named ps n ≡ Some s.now
  there value =
      names ps n current ∙ sym (ap (λ (x : SlotsValue). socket_at x.sockets (slot_of n)) same) ∙ sym (ap (socket_at (slots set)) at) ∙ sym value
      ∙ ap (λ x. option_copied_mut x) is

  pub lent_at : (new : SocketSet Socket) (w : Socket) → Holds set h r s is new w r → record { sockets = slots new; tags = ts } ≡ put_at ps n w
  lent_at new w holds =
      ap (λ (x : List (SocketStorage Socket)). record { sockets = x; tags = ts })
      (held set h r s is new w holds ∙ ap (λ (k : ℕ). set_at (slots set) k w) at)
      ∙ ap (λ (x : SlotsValue). record x { sockets = set_at x.sockets (slot_of n) w }) same
      ∙ sym (put_current ps n current w)

-- a socket that slots lend
module _ (ps : SlotsValue) (n : ℕ) (r : Option (MutBor Socket)) (s : MutBor Socket) (is : r ≡ Some s) where
  pub found : option_copied_mut r ≡ socket_named ps n → socket_named ps n ≡ Some s.now
  found value = sym value ∙ ap (λ x. option_copied_mut x) is

  pub left_at : (new : SlotsValue) (w : Socket) → OnSome r (new ≡ put_at ps n w) → new ≡ put_at ps n w
  left_at new w holds = subst (λ (x : Option (MutBor Socket)). OnSome x (new ≡ put_at ps n w)) is holds

pub copied : {V : Type 0} (r : Option (MutBor V)) (s : MutBor V) (k : Option V) → r ≡ Some s → option_copied_mut r ≡ k → k ≡ Some s.now
copied r s k is value = sym value ∙ ap (λ x. option_copied_mut x) is

pub copied_none : {V : Type 0} (r : Option (MutBor V)) (k : Option V) → r ≡ None → option_copied_mut r ≡ k → k ≡ None
copied_none r k is value = sym value ∙ ap (λ x. option_copied_mut x) is
