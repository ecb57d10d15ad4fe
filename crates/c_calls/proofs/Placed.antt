-- What a call makes of a host's slots: of a socket of its kind what it makes of that socket, and of all else nothing.
use Rattle.std.proofs.Common.{◌≡◌, ℕ, Bool, true, false, List, Option, None, Some, Result, Ok, Err, refl, sym, ap, subst, ◌∙◌}
use Rattle.std.specs.Prelude.{slice_get, slice_set, is_ok, MatchResult, OnErr}
use Rattle.std.specs.Borrow.{MutBor}
use Rattle.interface.specs.Set.{set_in, with_socket}
use Rattle.interface.specs.Item.{Item}
use Rattle.interface.specs.SocketStorage.{SocketStorage}
use Rattle.iface_egress.proofs.Lent.{same_slot}
use Rattle.sockets.specs.declared.socket.Socket.{Socket}
use Rattle.c_calls.specs.Slots.{found_at, answer_of_kind, answer_of_item, answer_in, answer_at, after_of_kind, after_item, after_in, after_at}
use Rattle.c_calls.specs.Slots.{written_of_kind, written_of_item, written_in, written_at, draws_of_kind, draws_of_item, draws_in, draws_at}
use Rattle.c_calls.specs.Numbers.{put_at, put_by, slot_of, storage_at}
use Rattle.c_calls.specs.SlotsValue.{SlotsValue}
use Rattle.c_calls.specs.declared.code.Code.{Code}
use Rattle.c_calls.proofs.Numbers.{stored}

module _ {V : Type 0} (as_kind : Socket → Option V) where
  abbrev kind_found : Option V → Result V Code
  kind_found = answer_of_kind as_kind (λ v. Ok v)

  abbrev item_found : Option (Item Socket) → Result V Code
  item_found = answer_of_item as_kind (λ v. Ok v)

  abbrev in_found : Option (SocketStorage Socket) → Result V Code
  in_found = answer_in as_kind (λ v. Ok v)

  -- WHERE A SOCKET WAS FOUND
  module _ (ps : SlotsValue) (n : ℕ) (v : V) where
    module _ {A : Type 0} (answer : V → Result A Code) where
      answered_kind : (k : Option V) → kind_found k ≡ Ok v → answer v ≡ answer_of_kind as_kind answer k
      answered_kind None h = cc
      answered_kind (Some w) h = cc

      answered_item : (o : Option (Item Socket)) → item_found o ≡ Ok v → answer v ≡ answer_of_item as_kind answer o
      answered_item None h = cc
      answered_item (Some item) h = answered_kind (as_kind item.socket) h

      answered_in : (o : Option (SocketStorage Socket)) → in_found o ≡ Ok v → answer v ≡ answer_in as_kind answer o
      answered_in None h = cc
      answered_in (Some slot) h = answered_item slot.inner h

      -- the call answers what it answers of that socket
      pub answered : found_at as_kind ps n ≡ Ok v → answer v ≡ answer_at as_kind answer ps n
      answered h = answered_in (storage_at ps n) h

    module _ (of_kind : V → Socket) (after : V → V) where
      became_kind : (socket : Socket) (k : Option V) → kind_found k ≡ Ok v → of_kind (after v) ≡ after_of_kind as_kind of_kind after socket k
      became_kind socket None h = cc
      became_kind socket (Some w) h = cc

      became_item : (o : Option (Item Socket)) → item_found o ≡ Ok v →
          set_in o ps.sockets (slot_of n) (of_kind (after v)) ≡ after_item as_kind of_kind after ps.sockets (slot_of n) o
      became_item None h = refl
      became_item (Some item) h =
          ap (λ (s : Socket). slice_set ps.sockets (slot_of n) (with_socket item s)) (became_kind item.socket (as_kind item.socket) h)

      became_in : (o : Option (SocketStorage Socket)) → in_found o ≡ Ok v → put_by o ps n (of_kind (after v)) ≡ after_in as_kind of_kind after ps n o
      became_in None h = refl
      became_in (Some slot) h = ap (λ (x : List (SocketStorage Socket)). record ps { sockets = x }) (became_item slot.inner h)

      -- the slot has the socket that the call leaves
      pub became : found_at as_kind ps n ≡ Ok v → put_at ps n (of_kind (after v)) ≡ after_at as_kind of_kind after ps n
      became h = became_in (storage_at ps n) h

    module _ (writes : V → List ℕ → List ℕ) (out : List ℕ) where
      written_kind : (k : Option V) → kind_found k ≡ Ok v → writes v out ≡ written_of_kind as_kind writes out k
      written_kind None h = cc
      written_kind (Some w) h = cc

      written_item : (o : Option (Item Socket)) → item_found o ≡ Ok v → writes v out ≡ written_of_item as_kind writes out o
      written_item None h = cc
      written_item (Some item) h = written_kind (as_kind item.socket) h

      written_by : (o : Option (SocketStorage Socket)) → in_found o ≡ Ok v → writes v out ≡ written_in as_kind writes out o
      written_by None h = cc
      written_by (Some slot) h = written_item slot.inner h

      -- the buffer has what is read of that socket
      pub written : found_at as_kind ps n ≡ Ok v → writes v out ≡ written_at as_kind writes out ps n
      written h = written_by (storage_at ps n) h

    module _ (draws : V → Bool) where
      drew_kind : (k : Option V) → kind_found k ≡ Ok v → draws v ≡ draws_of_kind as_kind draws k
      drew_kind None h = cc
      drew_kind (Some w) h = cc

      drew_item : (o : Option (Item Socket)) → item_found o ≡ Ok v → draws v ≡ draws_of_item as_kind draws o
      drew_item None h = cc
      drew_item (Some item) h = drew_kind (as_kind item.socket) h

      drew_in : (o : Option (SocketStorage Socket)) → in_found o ≡ Ok v → draws v ≡ draws_in as_kind draws o
      drew_in None h = cc
      drew_in (Some slot) h = drew_item slot.inner h

      -- a random word is drawn where the call of that socket draws one
      pub drew : found_at as_kind ps n ≡ Ok v → draws v ≡ draws_at as_kind draws ps n
      drew h = drew_in (storage_at ps n) h

  -- WHERE NONE WAS
  module _ (ps : SlotsValue) (n : ℕ) (code : Code) where
    module _ {A : Type 0} (answer : V → Result A Code) where
      refused_kind : (k : Option V) → kind_found k ≡ Err code → Err code ≡ answer_of_kind as_kind answer k
      refused_kind None h = cc
      refused_kind (Some w) h = cc

      refused_item : (o : Option (Item Socket)) → item_found o ≡ Err code → Err code ≡ answer_of_item as_kind answer o
      refused_item None h = cc
      refused_item (Some item) h = refused_kind (as_kind item.socket) h

      refused_in : (o : Option (SocketStorage Socket)) → in_found o ≡ Err code → Err code ≡ answer_in as_kind answer o
      refused_in None h = cc
      refused_in (Some slot) h = refused_item slot.inner h

      -- the call says so
      pub refused : found_at as_kind ps n ≡ Err code → Err code ≡ answer_at as_kind answer ps n
      refused h = refused_in (storage_at ps n) h

    module _ (of_kind : V → Socket) (after : V → V) where
      kept_kind : (socket : Socket) (k : Option V) → kind_found k ≡ Err code → socket ≡ after_of_kind as_kind of_kind after socket k
      kept_kind socket None h = refl
      kept_kind socket (Some w) h = cc

      kept_item : (slot : SocketStorage Socket) (o : Option (Item Socket)) → slice_get ps.sockets (slot_of n) ≡ Some slot → slot.inner ≡ o →
          item_found o ≡ Err code → ps.sockets ≡ after_item as_kind of_kind after ps.sockets (slot_of n) o
      kept_item slot None got is h = refl
      kept_item slot (Some item) got is h =
          sym (subst (λ (o : Option (Item Socket)). slice_set ps.sockets (slot_of n) (record { inner = o }) ≡ ps.sockets) is
          (same_slot ps.sockets (slot_of n) slot got))
          ∙ ap (λ (s : Socket). slice_set ps.sockets (slot_of n) (with_socket item s)) (kept_kind item.socket (as_kind item.socket) h)

      kept_in : (o : Option (SocketStorage Socket)) → storage_at ps n ≡ o → in_found o ≡ Err code → ps ≡ after_in as_kind of_kind after ps n o
      kept_in None got h = refl
      kept_in (Some slot) got h =
          ap (λ (x : List (SocketStorage Socket)). record ps { sockets = x }) (kept_item slot slot.inner (stored ps n slot got) refl h)

      -- the slots stay as they are
      pub kept : found_at as_kind ps n ≡ Err code → ps ≡ after_at as_kind of_kind after ps n
      kept h = kept_in (storage_at ps n) refl h

    module _ (writes : V → List ℕ → List ℕ) (out : List ℕ) where
      unwritten_kind : (k : Option V) → kind_found k ≡ Err code → out ≡ written_of_kind as_kind writes out k
      unwritten_kind None h = refl
      unwritten_kind (Some w) h = cc

      unwritten_item : (o : Option (Item Socket)) → item_found o ≡ Err code → out ≡ written_of_item as_kind writes out o
      unwritten_item None h = refl
      unwritten_item (Some item) h = unwritten_kind (as_kind item.socket) h

      unwritten_in : (o : Option (SocketStorage Socket)) → in_found o ≡ Err code → out ≡ written_in as_kind writes out o
      unwritten_in None h = refl
      unwritten_in (Some slot) h = unwritten_item slot.inner h

      -- the buffer has what it had
      pub unwritten : found_at as_kind ps n ≡ Err code → out ≡ written_at as_kind writes out ps n
      unwritten h = unwritten_in (storage_at ps n) h

    module _ (draws : V → Bool) where
      undrawn_kind : (k : Option V) → kind_found k ≡ Err code → false ≡ draws_of_kind as_kind draws k
      undrawn_kind None h = refl
      undrawn_kind (Some w) h = cc

      undrawn_item : (o : Option (Item Socket)) → item_found o ≡ Err code → false ≡ draws_of_item as_kind draws o
      undrawn_item None h = refl
      undrawn_item (Some item) h = undrawn_kind (as_kind item.socket) h

      undrawn_in : (o : Option (SocketStorage Socket)) → in_found o ≡ Err code → false ≡ draws_in as_kind draws o
      undrawn_in None h = refl
      undrawn_in (Some slot) h = undrawn_item slot.inner h

      -- no random word is drawn
      pub undrawn : found_at as_kind ps n ≡ Err code → false ≡ draws_at as_kind draws ps n
      undrawn h = undrawn_in (storage_at ps n) h

-- what a look for the socket at a slot said, by a reference of either kind
module _ {V : Type 0} (as_kind : Socket → Option V) (ps : SlotsValue) (n : ℕ) where
  pub found_of : (r : Result (MutBor V) Code) (s : MutBor V) → r ≡ Ok s
      → MatchResult r (λ s. found_at as_kind ps n ≡ Ok s.now) (λ code. found_at as_kind ps n ≡ Err code) → found_at as_kind ps n ≡ Ok s.now
  found_of r s is h =
      subst (λ (x : Result (MutBor V) Code). MatchResult x (λ s. found_at as_kind ps n ≡ Ok s.now) (λ code. found_at as_kind ps n ≡ Err code)) is h

  pub missed_of : (r : Result (MutBor V) Code) (code : Code) → r ≡ Err code
      → MatchResult r (λ s. found_at as_kind ps n ≡ Ok s.now) (λ code. found_at as_kind ps n ≡ Err code) → found_at as_kind ps n ≡ Err code
  missed_of r code is h =
      subst (λ (x : Result (MutBor V) Code). MatchResult x (λ s. found_at as_kind ps n ≡ Ok s.now) (λ code. found_at as_kind ps n ≡ Err code)) is h

-- WHAT IS LEFT of slots of which a socket was lent, and of such without it
module _ {V : Type 0} (as_kind : Socket → Option V) (of_kind : V → Socket) (after : V → V) (set new : SlotsValue) (n : ℕ) where
  -- the socket that was found is left as the call leaves it
  pub left : (r : Result (MutBor V) Code) (s : MutBor V) (w : V) → found_at as_kind set n ≡ Ok s.now → r ≡ Ok s → w ≡ after s.now →
      (is_ok r ≡ true → new ≡ put_at set n (of_kind w)) → new ≡ after_at as_kind of_kind after set n
  left r s w found is was_sent holds =
      holds (ap (λ x. is_ok x) is) ∙ ap (λ (x : V). put_at set n (of_kind x)) was_sent ∙ became as_kind set n s.now of_kind after found

  pub unchanged : (r : Result (MutBor V) Code) (code : Code) → found_at as_kind set n ≡ Err code → r ≡ Err code
      → OnErr r (new ≡ set) → new ≡ after_at as_kind of_kind after set n
  unchanged r code found is h =
      subst (λ (x : Result (MutBor V) Code). OnErr x (new ≡ set)) is h ∙ kept as_kind set n code of_kind after found
