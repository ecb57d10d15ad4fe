-- The number of a socket that was added names it.
use Rattle.std.proofs.Common.{◌≡◌, ℕ, ◌+◌, ◌-◌, ◌*◌, ◌%◌, ◌^◌, ◌<◌, ◌≤◌, true, List, [], ◌∷◌, ◌++◌, length, Option, None, Some, refl, sym, ap, subst, ◌∙◌, arith}
use Rattle.std.specs.Prelude.{◌==◌, replicate, slice_get, slice_set, slice_index_or}
use Rattle.std.proofs.lemmas.List.{get_or-append_right, get_or-set_same, length-set, length-append, length-replicate}
use Rattle.std.proofs.lemmas.List.Quantifiers.{position-Some}
use Rattle.std.proofs.lemmas.Nat.{div-mul-add, mod-mul-add}
use Rattle.std.proofs.lemmas.Option.{slice_get-get_or}
use Rattle.interface.specs.Set.{free_slot, is_free, socket_in, unmarked}
use Rattle.interface.specs.SocketStorage.{SocketStorage}
use Rattle.sockets.specs.declared.socket.Socket.{Socket}
use Rattle.c_calls.specs.Added.{added, added_by, slot_by, slot_in, slots_with}
use Rattle.c_calls.specs.Numbers.{generation_of, has_generation, is_current, no_tag, number_of, slot_of, socket_named, storage_if, tag_at, tags_for}
use Rattle.c_calls.specs.SlotsValue.{SlotsValue}
use Rattle.c_calls.specs.declared.slots.Tag.{Tag}

module _ (s : SlotsValue) (socket : Socket) where
  abbrev ps : List (SocketStorage Socket)
  ps = s.sockets

  abbrev tags : List Tag
  tags = tags_for (length s.sockets) s.tags

  -- THE SLOT

  slot_le : (o : Option ℕ) → free_slot ps ≡ o → slot_by o ps ≤ length ps
  slot_le None got = omega arith
  slot_le (Some i) got = let within : i < length ps = (position-Some is_free ps i (unmarked socket) got).0 in omega (arith, within)

  put : (o : Option ℕ) → free_slot ps ≡ o → slice_get (added_by o ps socket) (slot_by o ps) ≡ Some (unmarked socket)
  put None got =
      let on : length (ps ++ unmarked socket ∷ []) ≡ length ps + 1 = length-append ps (unmarked socket ∷ []) in
      let at : length ps - length ps ≡ 0 = omega arith in
      slice_get-get_or (ps ++ unmarked socket ∷ []) (length ps) (unmarked socket) (omega (arith, on))
      ∙ ap (λ x. Some x) (get_or-append_right ps (unmarked socket ∷ []) (length ps) (length ps) (unmarked socket) refl (omega arith)
      ∙ ap (λ (k : ℕ). slice_index_or (unmarked socket ∷ []) k (unmarked socket)) at)
  put (Some i) got =
      let within : i < length ps = (position-Some is_free ps i (unmarked socket) got).0 in
      let same : length (slice_set ps i (unmarked socket)) ≡ length ps = length-set ps i (unmarked socket) in
      slice_get-get_or (slice_set ps i (unmarked socket)) i (unmarked socket) (omega (arith, same, within))
      ∙ ap (λ x. Some x) (get_or-set_same ps i (unmarked socket) (unmarked socket) within)

  -- ITS TAG

  tagged : (slot : ℕ) → slot ≤ length ps → slot < length tags
  tagged slot le =
      let sum : length tags ≡ length s.tags + (length ps + 1 - length s.tags) =
      length-append s.tags (replicate (length ps + 1 - length s.tags) no_tag)
      ∙ ap (λ (k : ℕ). length s.tags + k) (length-replicate (length ps + 1 - length s.tags) no_tag) in
      omega (arith, sum, le)

  equal : (a b : ℕ) → a ≡ b → (a == b) ≡ true
  equal a b is = grind (arith, is)

  module _ (slot : ℕ) (le : slot ≤ length ps) (small : slot < 2 ^ 32) where
    abbrev generation : ℕ
    generation = (tag_at tags slot).generation

    abbrev number : ℕ
    number = number_of tags slot

    low : slot_of slot ≡ slot
    low = omega (arith, small)

    less : slot_of slot < 2 ^ 32
    less = omega arith

    slot_is : slot_of number ≡ slot
    slot_is = mod-mul-add generation (2 ^ 32) (slot_of slot) less ∙ low

    generation_is : generation ≡ generation_of number
    generation_is = sym (div-mul-add generation (2 ^ 32) (slot_of slot) less)

    current : is_current tags number ≡ true
    current =
        ap (λ (k : ℕ). has_generation (generation_of number) (slice_get tags k)) slot_is
        ∙ ap (has_generation (generation_of number)) (slice_get-get_or tags slot no_tag (tagged slot le))
        ∙ equal generation (generation_of number) generation_is

    pub there : slice_get (added ps socket) slot ≡ Some (unmarked socket) → socket_named (slots_with s socket) number ≡ Some socket
    there got =
        ap (λ b. socket_in (storage_if b (added ps socket) (slot_of number))) current
        ∙ ap (λ (k : ℕ). socket_in (slice_get (added ps socket) k)) slot_is
        ∙ ap socket_in got

  pub named : (number : ℕ) → length ps < 2 ^ 32 → number ≡ number_of tags (slot_in ps) → socket_named (slots_with s socket) number ≡ Some socket
  named number few is =
      let le : slot_in ps ≤ length ps = slot_le (free_slot ps) refl in
      ap (socket_named (slots_with s socket)) is ∙ there (slot_in ps) le (omega (arith, le, few)) (put (free_slot ps) refl)
