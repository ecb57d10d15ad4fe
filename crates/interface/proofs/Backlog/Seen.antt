-- Entries that are seen one after the other.
use Rattle.std.proofs.Common.{◌≡◌, ◌≢◌, ℕ, ◌+◌, ◌==◌, ◌<◌, ◌≤◌, Bool, true, false, List, length, arith, refl, sym, ap, ◌∙◌, subst, ◌⊎◌, inl, inr}
use Rattle.std.specs.Prelude.{slice_index_or, slice_set, Option, Some, None}
use Rattle.std.proofs.lemmas.List.{get_or-set_same, get_or-set_other, get_or_past, get_or_default, set_past}
use Rattle.std.proofs.Math.ListN.{length-set}
use Rattle.iface_egress.specs.Set.{free}
use Rattle.iface_egress.specs.declared.socket_set.SocketStorage.{SocketStorage}
use Rattle.ip_wire.specs.IpListenEndpoint.{IpListenEndpoint}
use Rattle.iface_ingress.specs.Socket.{Socket}
use Rattle.iface_ingress.specs.State.{State}
use Rattle.interface.specs.declared.listener.entry.Entry.{Entry}
use Rattle.interface.specs.Backlog.Entries.{entry_at, no_entry}
use Rattle.interface.specs.Backlog.Stages.{is_accepted}
use Rattle.interface.specs.Backlog.Noted.{slot_at, state_at, relisted_slot, IsNoted, NotesBy, NotesOne, IsWaitingAt, AreNoted}
use Rattle.interface.proofs.Backlog.Relisting.{relisted_once, noted_before}

-- none of the first n entries is for this slot, which is as it was
abbrev pub IsUntouched : ℕ → List (SocketStorage Socket) → List Entry → List (SocketStorage Socket) → ℕ → Type 0
IsUntouched n ps es ps' m = ((i : ℕ) → i < n → IsWaitingAt es i m → ⊥) × (slot_at ps' m ≡ slot_at ps m)

-- one of them is, and its socket listens if it was closed
abbrev pub IsTouched : ℕ → IpListenEndpoint → List (SocketStorage Socket) → List Entry → List (SocketStorage Socket) → ℕ → Type 0
IsTouched n endpoint ps es ps' m = ((i : ℕ) × (i < n) × IsWaitingAt es i m) × (slot_at ps' m ≡ relisted_slot endpoint (slot_at ps m))

-- the first n entries were seen
pub record NotedTo (n : ℕ) (endpoint : IpListenEndpoint) (now : ℕ) (ps : List (SocketStorage Socket)) (es : List Entry) (ps' : List (SocketStorage Socket))
    (es' : List Entry) : Type 0 where
  pub slots : length ps' ≡ length ps
  pub entries : length es' ≡ length es
  pub each : (m : ℕ) → IsUntouched n ps es ps' m ⊎ IsTouched n endpoint ps es ps' m
  pub handles : (i : ℕ) → (entry_at es' i).handle ≡ (entry_at es i).handle
  pub accepted : (i : ℕ) → is_accepted (entry_at es i).stage ≡ true → entry_at es' i ≡ entry_at es i
  pub noted : (i m : ℕ) → i < n → IsWaitingAt es i m → IsNoted now (state_at (slot_at ps m)) (entry_at es i) (entry_at es' i)
  pub later : (i : ℕ) → n ≤ i → entry_at es' i ≡ entry_at es i

pub noted_none : (endpoint : IpListenEndpoint) (now : ℕ) (ps : List (SocketStorage Socket)) (es : List Entry) → NotedTo 0 endpoint now ps es ps es
noted_none endpoint now ps es = record {
  slots = refl;
  entries = refl;
  each = λ m. inl (λ i h w. absurd (omega (arith, h)), refl);
  handles = λ i. refl;
  accepted = λ i h. refl;
  noted = λ i m h w. absurd (omega (arith, h));
  later = λ i h. refl;
}

module _ (n : ℕ) (endpoint : IpListenEndpoint) (now : ℕ) (ps : List (SocketStorage Socket)) (es : List Entry) (mid : List (SocketStorage Socket))
    (ms : List Entry)
    (so_far : NotedTo n endpoint now ps es mid ms) (within : n < length ms) (after : List (SocketStorage Socket)) (e' : Entry) where
  here : entry_at ms n ≡ entry_at es n
  here = so_far.later n (omega arith)

  within_es : n < length es
  within_es = omega (arith, within, so_far.entries)

  abbrev pub fs : List Entry
  fs = slice_set ms n e'

  at_n : entry_at fs n ≡ e'
  at_n = get_or-set_same ms n e' no_entry within

  off_n : (i : ℕ) → i ≢ n → entry_at fs i ≡ entry_at ms i
  off_n i other = get_or-set_other ms n i e' no_entry other

  below : (i : ℕ) → i < n → i ≢ n
  below i less e = absurd (omega (arith, e, less))

  above : (i : ℕ) → n < i → i ≢ n
  above i more e = absurd (omega (arith, e, more))

  less_or_is : (i : ℕ) → i < n + 1 → (i < n) ⊎ (i ≡ n)
  less_or_is i h = grind arith

  is_or_isnt : (i k : ℕ) → (i ≡ k) ⊎ (i ≢ k)
  is_or_isnt i k = by_test (i == k) refl where
    by_test : (b : Bool) → (i == k) ≡ b → (i ≡ k) ⊎ (i ≢ k)
    by_test true h = inl (grind arith)
    by_test false h = inr (grind arith)

  more : (i : ℕ) → i < n → i < n + 1
  more i less = omega (arith, less)

  -- the entry keeps its handle
  handle_by : e'.handle ≡ (entry_at es n).handle → (i : ℕ) → (i ≡ n) ⊎ (i ≢ n) → (entry_at fs i).handle ≡ (entry_at es i).handle
  handle_by kept i (inl is) = subst (λ (k : ℕ). (entry_at fs k).handle ≡ (entry_at es k).handle) (sym is) (ap (λ (e : Entry). e.handle) at_n ∙ kept)
  handle_by kept i (inr isnt) = ap (λ (e : Entry). e.handle) (off_n i isnt) ∙ so_far.handles i

  later_by : (i : ℕ) → n + 1 ≤ i → entry_at fs i ≡ entry_at es i
  later_by i h = off_n i (above i (omega (arith, h))) ∙ so_far.later i (omega (arith, h))

  accepted_by : (is_accepted (entry_at es n).stage ≡ true → e' ≡ entry_at es n) → (i : ℕ) → is_accepted (entry_at es i).stage ≡ true → (i ≡ n) ⊎ (i ≢ n) →
      entry_at fs i ≡ entry_at es i
  accepted_by stays i h (inl is) =
      subst (λ (k : ℕ). entry_at fs k ≡ entry_at es k) (sym is) (at_n ∙ stays (subst (λ (k : ℕ). is_accepted (entry_at es k).stage ≡ true) is h))
  accepted_by stays i h (inr isnt) = off_n i isnt ∙ so_far.accepted i h

  noted_by : ((m : ℕ) → IsWaitingAt es n m → IsNoted now (state_at (slot_at ps m)) (entry_at es n) e') → (i m : ℕ) → IsWaitingAt es i m → (i < n) ⊎ (i ≡ n)
      → IsNoted now (state_at (slot_at ps m)) (entry_at es i) (entry_at fs i)
  noted_by last i m w (inl less) =
      subst (λ (e : Entry). IsNoted now (state_at (slot_at ps m)) (entry_at es i) e) (sym (off_n i (below i less))) (so_far.noted i m less w)
  noted_by last i m w (inr is) =
      let there : IsWaitingAt es n m = subst (λ (k : ℕ). IsWaitingAt es k m) is w in
      let noted : IsNoted now (state_at (slot_at ps m)) (entry_at es n) (entry_at fs n) =
      subst (λ (e : Entry). IsNoted now (state_at (slot_at ps m)) (entry_at es n) e) (sym at_n) (last m there) in
      subst (λ (k : ℕ). IsNoted now (state_at (slot_at ps m)) (entry_at es k) (entry_at fs k)) (sym is) noted

  whole : length after ≡ length mid → e'.handle ≡ (entry_at es n).handle → (is_accepted (entry_at es n).stage ≡ true → e' ≡ entry_at es n)
      → ((m : ℕ) → IsWaitingAt es n m → IsNoted now (state_at (slot_at ps m)) (entry_at es n) e')
      → ((m : ℕ) → IsUntouched (n + 1) ps es after m ⊎ IsTouched (n + 1) endpoint ps es after m) → NotedTo (n + 1) endpoint now ps es after fs
  whole count kept stays last each = record {
    slots = count ∙ so_far.slots;
    entries = length-set ms n e' ∙ so_far.entries;
    each = each;
    handles = λ i. handle_by kept i (is_or_isnt i n);
    accepted = λ i h. accepted_by stays i h (is_or_isnt i n);
    noted = λ i m h w. noted_by last i m w (less_or_is i h);
    later = later_by;
  }

  -- its user's
  none_more : (m : ℕ) → is_accepted (entry_at es n).stage ≡ true → ((i : ℕ) → i < n → IsWaitingAt es i m → ⊥) → (i : ℕ) → IsWaitingAt es i m →
      (i < n) ⊎ (i ≡ n) → ⊥
  none_more m is none i w (inl less) = none i less w
  none_more m is none i w (inr at) =
      let there : IsWaitingAt es n m = subst (λ (k : ℕ). IsWaitingAt es k m) at w in grind (arith, is, there.1)

  same_each : is_accepted (entry_at es n).stage ≡ true → after ≡ mid → (m : ℕ) → IsUntouched n ps es mid m ⊎ IsTouched n endpoint ps es mid m
      → IsUntouched (n + 1) ps es after m ⊎ IsTouched (n + 1) endpoint ps es after m
  same_each is same m (inl (none, e)) =
      inl (λ i h w. none_more m is none i w (less_or_is i h), ap (λ (qs : List (SocketStorage Socket)). slot_at qs m) same ∙ e)
  same_each is same m (inr ((i, less, w), e)) = inr ((i, more i less, w), ap (λ (qs : List (SocketStorage Socket)). slot_at qs m) same ∙ e)

  for_user : is_accepted (entry_at es n).stage ≡ true → e' ≡ entry_at es n → after ≡ mid → NotedTo (n + 1) endpoint now ps es after fs
  for_user is stays same =
      whole (ap length same) (ap (λ (e : Entry). e.handle) stays) (λ h. stays) (λ m w. grind (arith, is, w.1)) (λ m. same_each is same m (so_far.each m))

  -- not its user's: this slot
  abbrev at_slot : ℕ
  at_slot = (entry_at es n).handle.0

  set_here : (m : ℕ) → (m < length mid) ⊎ (length mid ≤ m) → slot_at (slice_set mid m (relisted_slot endpoint (slot_at mid m))) m ≡
      relisted_slot endpoint (slot_at mid m)
  set_here m (inl less) = get_or-set_same mid m (relisted_slot endpoint (slot_at mid m)) free less
  set_here m (inr past) =
      let out : slot_at mid m ≡ free = get_or_past mid m free past in
      ap (λ (qs : List (SocketStorage Socket)). slot_at qs m) (set_past mid m (relisted_slot endpoint (slot_at mid m)) past) ∙
      (out ∙ ap (relisted_slot endpoint) (sym out))

  in_or_past : (m : ℕ) → (m < length mid) ⊎ (length mid ≤ m)
  in_or_past m = grind arith

  module _ (waits : is_accepted (entry_at es n).stage ≡ false) (relists : after ≡
      slice_set mid at_slot (relisted_slot endpoint (slot_at mid at_slot))) where
    there : slot_at after at_slot ≡ relisted_slot endpoint (slot_at mid at_slot)
    there = ap (λ (qs : List (SocketStorage Socket)). slot_at qs at_slot) relists ∙ set_here at_slot (in_or_past at_slot)

    elsewhere : (m : ℕ) → m ≢ at_slot → slot_at after m ≡ slot_at mid m
    elsewhere m other =
        ap (λ (qs : List (SocketStorage Socket)). slot_at qs m) relists ∙
        get_or-set_other mid at_slot m (relisted_slot endpoint (slot_at mid at_slot)) free other

    is_waiting : IsWaitingAt es n at_slot
    is_waiting = (within_es, waits, refl)

    touched : IsUntouched n ps es mid at_slot ⊎ IsTouched n endpoint ps es mid at_slot →
        slot_at after at_slot ≡ relisted_slot endpoint (slot_at ps at_slot)
    touched (inl (none, e)) = there ∙ ap (relisted_slot endpoint) e
    touched (inr (w, e)) = there ∙ (ap (relisted_slot endpoint) e ∙ relisted_once endpoint (slot_at ps at_slot))

    none_there : (m : ℕ) → m ≢ at_slot → ((i : ℕ) → i < n → IsWaitingAt es i m → ⊥) → (i : ℕ) → IsWaitingAt es i m → (i < n) ⊎ (i ≡ n) → ⊥
    none_there m other none i w (inl less) = none i less w
    none_there m other none i w (inr at) =
        let here_too : IsWaitingAt es n m = subst (λ (k : ℕ). IsWaitingAt es k m) at w in other (sym here_too.2)

    off_each : (m : ℕ) → m ≢ at_slot → IsUntouched n ps es mid m ⊎ IsTouched n endpoint ps es mid m → IsUntouched (n + 1) ps es after m ⊎
        IsTouched (n + 1) endpoint ps es after m
    off_each m other (inl (none, e)) = inl (λ i h w. none_there m other none i w (less_or_is i h), elsewhere m other ∙ e)
    off_each m other (inr ((i, less, w), e)) = inr ((i, more i less, w), elsewhere m other ∙ e)

    each_by : (m : ℕ) → (m ≡ at_slot) ⊎ (m ≢ at_slot) → IsUntouched (n + 1) ps es after m ⊎ IsTouched (n + 1) endpoint ps es after m
    each_by m (inl is) =
        subst (λ (k : ℕ). IsUntouched (n + 1) ps es after k ⊎
        IsTouched (n + 1) endpoint ps es after k) (sym is) (inr ((n, omega arith, is_waiting), touched (so_far.each at_slot)))
    each_by m (inr other) = off_each m other (so_far.each m)

    last_by : IsNoted now (state_at (slot_at mid at_slot)) (entry_at es n) e' → IsUntouched n ps es mid at_slot ⊎ IsTouched n endpoint ps es mid at_slot
        → IsNoted now (state_at (slot_at ps at_slot)) (entry_at es n) e'
    last_by noted (inl (none, e)) = subst (λ (p : SocketStorage Socket). IsNoted now (state_at p) (entry_at es n) e') e noted
    last_by noted (inr (w, e)) =
        noted_before endpoint now (entry_at es n) e' (slot_at ps at_slot)
        (subst (λ (p : SocketStorage Socket). IsNoted now (state_at p) (entry_at es n) e') e noted)

    last_at : IsNoted now (state_at (slot_at mid at_slot)) (entry_at es n) e' → (m : ℕ) → IsWaitingAt es n m →
        IsNoted now (state_at (slot_at ps m)) (entry_at es n) e'
    last_at noted m w = subst (λ (k : ℕ). IsNoted now (state_at (slot_at ps k)) (entry_at es n) e') w.2 (last_by noted (so_far.each at_slot))

    for_none : e'.handle ≡ (entry_at es n).handle → IsNoted now (state_at (slot_at mid at_slot)) (entry_at es n) e' →
        NotedTo (n + 1) endpoint now ps es after fs
    for_none kept noted =
        whole (ap length relists ∙ length-set mid at_slot (relisted_slot endpoint (slot_at mid at_slot))) kept (λ h. grind (arith, h, waits))
        (last_at noted) (λ m. each_by m (is_or_isnt m at_slot))

  handle_of : (state : Option State) → IsNoted now state (entry_at es n) e' → e'.handle ≡ (entry_at es n).handle
  handle_of None noted = ap (λ (e : Entry). e.handle) noted
  handle_of (Some state) noted = noted.0

  by_stage : (b : Bool) → is_accepted (entry_at es n).stage ≡ b → NotesBy b endpoint now mid (entry_at es n) after e' →
      NotedTo (n + 1) endpoint now ps es after fs
  by_stage true is (stays, same) = for_user is stays same
  by_stage false is (noted, relists) = for_none is relists (handle_of (state_at (slot_at mid at_slot)) noted) noted

  pub noted_more : NotesOne endpoint now mid (entry_at ms n) after e' → NotedTo (n + 1) endpoint now ps es after fs
  noted_more one =
      by_stage (is_accepted (entry_at es n).stage) refl (subst (λ (e : Entry). NotesOne endpoint now mid e after e') here one)

  -- the entry that was read at the slot
  pub noted_step : (x : Entry) → x ≡ slice_index_or ms n x → NotesOne endpoint now mid x after e' → NotedTo (n + 1) endpoint now ps es after fs
  noted_step x read one =
      noted_more (subst (λ (e : Entry). NotesOne endpoint now mid e after e') (read ∙ get_or_default ms n x no_entry within) one)

module _ (n : ℕ) (endpoint : IpListenEndpoint) (now : ℕ) (ps : List (SocketStorage Socket)) (es : List Entry) (qs : List (SocketStorage Socket))
    (fs : List Entry)
    (to : NotedTo n endpoint now ps es qs fs) (long : length es ≤ n) where
  in_all : (i m : ℕ) → IsWaitingAt es i m → i < n
  in_all i m w = omega (arith, w.0, long)

  listens_by : (i m : ℕ) → IsWaitingAt es i m → IsUntouched n ps es qs m ⊎ IsTouched n endpoint ps es qs m →
      slot_at qs m ≡ relisted_slot endpoint (slot_at ps m)
  listens_by i m w (inl (none, e)) = absurd (none i (in_all i m w) w)
  listens_by i m w (inr (_, e)) = e

  others_by : (m : ℕ) → ((i : ℕ) → IsWaitingAt es i m → ⊥) → IsUntouched n ps es qs m ⊎ IsTouched n endpoint ps es qs m → slot_at qs m ≡ slot_at ps m
  others_by m none (inl (none_so_far, e)) = e
  others_by m none (inr ((i, less, w), e)) = absurd (none i w)

  -- all were
  pub noted_all : AreNoted endpoint now ps es qs fs
  noted_all = record {
    slots = to.slots;
    entries = to.entries;
    listens = λ i m w. listens_by i m w (to.each m);
    others = λ m none. others_by m none (to.each m);
    handles = to.handles;
    accepted = to.accepted;
    noted = λ i m w. to.noted i m (in_all i m w) w;
  }
