-- The socket at a slot.
use Rattle.std.proofs.Common.{◌≡◌, ℕ, zero, suc, Bool, true, false, if◌then◌else◌, [], ◌∷◌, ◌++◌, get_or, Option, Some, None, refl, sym}
use Rattle.std.proofs.Common.{subst}
use Rattle.std.specs.Prelude.{slice_set}
use Rattle.sockets.specs.declared.socket.Socket.{Socket}
use Rattle.iface_egress.specs.Set.{socket_in, socket_at}
use Rattle.iface_egress.specs.declared.socket_set.Item.{Item}
use Rattle.iface_egress.specs.declared.socket_set.SocketStorage.{SocketStorage}
use Rattle.iface_ingress.specs.Delivered.{Slots, with_change, passes, passes_in, given, all_given}

-- this holds of the socket that is there, and `F` where there is none
abbrev pub ItemOr : Type 0 → (Socket → Type 0) → Option (Item Socket) → Type 0
ItemOr F W None = F
ItemOr F W (Some item) = W item.socket

abbrev pub AtOr : Type 0 → (Socket → Type 0) → Slots → ℕ → Type 0
AtOr F W [] i = ⊥
AtOr F W (p ∷ ps) zero = ItemOr F W p.inner
AtOr F W (p ∷ ps) (suc i) = AtOr F W ps i

-- there is a socket, of which this holds
abbrev pub HoldsAt : (Socket → Type 0) → Slots → ℕ → Type 0
HoldsAt W slots i = AtOr ⊥ W slots i

-- it is the socket that is found there
pub found_holds : (W : Socket → Type 0) (slots : Slots) (i : ℕ) (s : Socket) → socket_at slots i ≡ Some s → W s → HoldsAt W slots i
found_holds W [] zero s is holds = absurd (cc)
found_holds W [] (suc i) s is holds = absurd (cc)
found_holds W (p ∷ ps) zero s is holds = by p.inner is where
  by : (o : Option (Item Socket)) → socket_in (Some (record { inner = o })) ≡ Some s → ItemOr ⊥ W o
  by None e = absurd (cc)
  by (Some item) e = let same : item.socket ≡ s = cc in subst W (sym same) holds
found_holds W (p ∷ ps) (suc i) s is holds = found_holds W ps i s is holds

pub record Found (W : Socket → Type 0) (slots : Slots) (i : ℕ) : Type 0 where
  pub socket : Socket
  pub is : socket_at slots i ≡ Some socket
  pub holds : W socket

pub holds_found : (W : Socket → Type 0) (slots : Slots) (i : ℕ) → HoldsAt W slots i → Found W slots i
holds_found W [] i holds = absurd holds
holds_found W (p ∷ ps) zero holds = by p.inner holds where
  by : (o : Option (Item Socket)) → ItemOr ⊥ W o → Found W (record { inner = o } ∷ ps) zero
  by None none = absurd none
  by (Some item) here = record { socket = item.socket; is = refl; holds = here }
holds_found W (p ∷ ps) (suc i) holds =
    let rest = holds_found W ps i holds in record { socket = rest.socket; is = rest.is; holds = rest.holds }

-- what held of the socket, `W`, makes something hold, `Z`, of the socket as it then is
module _ (F : Type 0) (W Z : Socket → Type 0) (so : (s : Socket) → W s → Z s) where
  item_so : (o : Option (Item Socket)) → ItemOr F W o → ItemOr F Z o
  item_so None holds = holds
  item_so (Some item) holds = so item.socket holds

  pub at_so : (slots : Slots) (i : ℕ) → AtOr F W slots i → AtOr F Z slots i
  at_so [] i holds = absurd holds
  at_so (p ∷ ps) zero holds = item_so p.inner holds
  at_so (p ∷ ps) (suc i) holds = at_so ps i holds

  -- ONE PLACE IS EXCHANGED

  pub middle_holds : (before after : Slots) (p p' : SocketStorage Socket) (i : ℕ) → (ItemOr F W p.inner → ItemOr F Z p'.inner) →
      AtOr F W (before ++ p ∷ after) i → AtOr F Z (before ++ p' ∷ after) i
  middle_holds [] after p p' zero keeps holds = keeps holds
  middle_holds [] after p p' (suc i) keeps holds = at_so after i holds
  middle_holds (x ∷ before) after p p' zero keeps holds = item_so x.inner holds
  middle_holds (x ∷ before) after p p' (suc i) keeps holds = middle_holds before after p p' i keeps holds

  pub put_holds : (slots : Slots) (at i : ℕ) (d put : SocketStorage Socket) → (ItemOr F W (get_or slots at d).inner → ItemOr F Z put.inner)
      → AtOr F W slots i → AtOr F Z (slice_set slots at put) i
  put_holds [] at i d put keeps holds = absurd holds
  put_holds (p ∷ ps) zero zero d put keeps holds = keeps holds
  put_holds (p ∷ ps) zero (suc i) d put keeps holds = at_so ps i holds
  put_holds (p ∷ ps) (suc at) zero d put keeps holds = item_so p.inner holds
  put_holds (p ∷ ps) (suc at) (suc i) d put keeps holds = put_holds ps at i d put keeps holds

  module _ (test : Socket → Bool) (change : Socket → Socket) (keeps : (s : Socket) → test s ≡ true → W s → Z (change s)) where
    item_holds : (o : Option (Item Socket)) → passes_in test o ≡ true → ItemOr F W o → ItemOr F Z (with_change change (record { inner = o })).inner
    item_holds None passing holds = holds
    item_holds (Some item) passing holds = keeps item.socket passing holds

    -- the socket at a slot that passes the test is changed
    pub set_holds : (slots : Slots) (at i : ℕ) (d : SocketStorage Socket) → passes test (get_or slots at d) ≡ true → AtOr F W slots i
        → AtOr F Z (slice_set slots at (with_change change (get_or slots at d))) i
    set_holds [] at i d passing holds = absurd holds
    set_holds (p ∷ ps) zero zero d passing holds = item_holds p.inner passing holds
    set_holds (p ∷ ps) zero (suc i) d passing holds = at_so ps i holds
    set_holds (p ∷ ps) (suc at) zero d passing holds = item_so p.inner holds
    set_holds (p ∷ ps) (suc at) (suc i) d passing holds = set_holds ps at i d passing holds

  module _ (test : Socket → Bool) (change : Socket → Socket) (keeps : (s : Socket) → W s → Z (change s)) where
    given_holds : (passing : Bool) (s : Socket) → W s → Z (if passing then change s else s)
    given_holds true s holds = keeps s holds
    given_holds false s holds = so s holds

    given_item : (o : Option (Item Socket)) → ItemOr F W o → ItemOr F Z (with_change (given test change) (record { inner = o })).inner
    given_item None holds = holds
    given_item (Some item) holds = given_holds (test item.socket) item.socket holds

    -- each that passes the test is changed
    pub all_hold : (slots : Slots) (i : ℕ) → AtOr F W slots i → AtOr F Z (all_given test change slots) i
    all_hold [] i holds = absurd holds
    all_hold (p ∷ ps) zero holds = given_item p.inner holds
    all_hold (p ∷ ps) (suc i) holds = all_hold ps i holds
