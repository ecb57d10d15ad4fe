-- Lemmas on the packets of a queue and the entries that it keeps.
use Rattle.std.proofs.Common.{◌≡◌, ℕ, ◌+◌, ◌<◌, ◌≤◌, ◌%◌, ◌⊎◌, List, [], ◌∷◌, ◌++◌, length, take, drop, refl, sym, ap, ◌∙◌, inl, inr, add_assoc, zero-add}
use Rattle.std.proofs.Common.{arith, length-drop}
use Rattle.std.specs.Prelude.{Option, None, Some, IsSome, ◌==◌, if◌then◌else◌}
use Rattle.std.proofs.lemmas.Bool.{false≢true}
use Rattle.std.proofs.lemmas.Bool.Decides.{eqb_tells}
use Rattle.std.proofs.lemmas.List.{length-take-le, nil_from_length, take-append-le, drop-append-le, take_all, drop_at}
use Rattle.std.proofs.Math.Nat.{mod-add-mod, mod-mod, mod_self, zero-mod, add-zero}
use Rattle.base_buffer.specs.Packets.{packet, used_offsets, used_room}
use Rattle.base_buffer.specs.Entries.{entry, packets_of, BeginsWithPacket, IsPadding, AreLaid, size_of}
use Rattle.base_buffer.specs.declared.packet_buffer.PacketMetadata.{PacketMetadata}

-- the entry of the padding
abbrev more : ℕ → ℕ
more skipped = if skipped == 0 then 0 else 1

module _ {H : Type 0} where
  -- as many entries as the packets take
  positions-step : (n : ℕ) (header : Option H) (ms : List (PacketMetadata H)) (bs : List ℕ) (skipped at room : ℕ) → AreLaid at room (entry n header ∷ ms) →
      ((skipped ≡ 0) ⊎ IsSome header) → ((s : ℕ) → ((s ≡ 0) ⊎ BeginsWithPacket ms) → used_offsets (packets_of s ms (drop n bs)) ≡ more s + length ms) →
      used_offsets (packets_of skipped (entry n header ∷ ms) bs) ≡ more skipped + length (entry n header ∷ ms)
  positions-step n None ms bs skipped at room h way ih = elim way [
    | inl z ↦ elim (eqb_tells (skipped + n) 0) [
      | inl none ↦ absurd (omega (arith, none.1, h.1.0))
      | inr some ↦ ih (skipped + n) (inr h.1.1) ∙ rw (some.0, z) (omega arith)
    ]
    | inr e ↦ absurd (false≢true e)
  ]
  positions-step n (Some x) ms bs skipped at room h way ih =
      let rest = ih 0 (inl refl) in
      elim (eqb_tells skipped 0) [
        | inl none ↦ rw none.0 (omega (arith, rest))
        | inr some ↦ rw some.0 (omega (arith, rest))
      ]

  positions-packets_of : (ms : List (PacketMetadata H)) (bs : List ℕ) (skipped at room : ℕ) → AreLaid at room ms → ((skipped ≡ 0) ⊎ BeginsWithPacket ms) →
      used_offsets (packets_of skipped ms bs) ≡ more skipped + length ms
  positions-packets_of [] bs skipped at room h way = elim way [ inl z ↦ rw z (omega arith) | inr e ↦ absurd e ]
  positions-packets_of (m ∷ ms) bs skipped at room h way =
      positions-step m.size m.header ms bs skipped at room h way (λ s w. positions-packets_of ms (drop m.size bs) s ((at + m.size) % room) room h.2 w)

  pub used_offsets-packets_of : (ms : List (PacketMetadata H)) (bs : List ℕ) (at room : ℕ) → AreLaid at room ms → used_offsets (packets_of 0 ms bs) ≡ length ms
  used_offsets-packets_of ms bs at room h = positions-packets_of ms bs 0 at room h (inl refl) ∙ omega arith

  -- as many bytes
  room-step : (n : ℕ) (header : Option H) (ms : List (PacketMetadata H)) (bs : List ℕ) (skipped at room : ℕ) → AreLaid at room (entry n header ∷ ms) →
      n + size_of ms ≡ length bs → ((s : ℕ) → ((s ≡ 0) ⊎ BeginsWithPacket ms) → used_room (packets_of s ms (drop n bs)) ≡ s + length (drop n bs)) →
      ((skipped ≡ 0) ⊎ IsSome header) → used_room (packets_of skipped (entry n header ∷ ms) bs) ≡ skipped + length bs
  room-step n None ms bs skipped at room h e ih way = ih (skipped + n) (inr h.1.1) ∙ omega (arith, length-drop n bs)
  room-step n (Some x) ms bs skipped at room h e ih way =
      let rest = ih 0 (inl refl) in
      omega (arith, rest, length-drop n bs, length-take-le n bs (omega arith))

  room-packets_of : (ms : List (PacketMetadata H)) (bs : List ℕ) (skipped at room : ℕ) → AreLaid at room ms → size_of ms ≡ length bs →
      ((skipped ≡ 0) ⊎ BeginsWithPacket ms) → used_room (packets_of skipped ms bs) ≡ skipped + length bs
  room-packets_of [] bs skipped at room h e way = elim way [ inl z ↦ omega (arith, e) | inr x ↦ absurd x ]
  room-packets_of (m ∷ ms) bs skipped at room h e way =
      room-step m.size m.header ms bs skipped at room h e
      (λ s w. room-packets_of ms (drop m.size bs) s ((at + m.size) % room) room h.2 (omega (arith, e, length-drop m.size bs)) w) way

  pub used_room-packets_of : (ms : List (PacketMetadata H)) (bs : List ℕ) (at room : ℕ) → AreLaid at room ms →
      size_of ms ≡ length bs → used_room (packets_of 0 ms bs) ≡ length bs
  used_room-packets_of ms bs at room h e = room-packets_of ms bs 0 at room h e (inl refl) ∙ omega arith

  -- no packet is no entry
  pub packets_of-nil : (ms : List (PacketMetadata H)) (bs : List ℕ) (at room : ℕ) → AreLaid at room ms → packets_of 0 ms bs ≡ [] → ms ≡ []
  packets_of-nil ms bs at room h e = nil_from_length ms (sym (used_offsets-packets_of ms bs at room h) ∙ ap used_offsets e)

  -- entries after others account for the bytes of both
  pub size_of-append : (ms es : List (PacketMetadata H)) → size_of (ms ++ es) ≡ size_of ms + size_of es
  size_of-append [] es = omega arith
  size_of-append (m ∷ ms) es = omega (arith, size_of-append ms es)

  BeginsWithPacket-append : (ms es : List (PacketMetadata H)) → BeginsWithPacket ms → BeginsWithPacket (ms ++ es)
  BeginsWithPacket-append [] es h = absurd h
  BeginsWithPacket-append (m ∷ ms) es h = h

  IsPadding-append : (n : ℕ) (header : Option H) (ms es : List (PacketMetadata H)) → IsPadding (entry n header) ms → IsPadding (entry n header) (ms ++ es)
  IsPadding-append n None ms es h = (h.0, BeginsWithPacket-append ms es h.1)
  IsPadding-append n (Some x) ms es h = tt

  -- entries that are laid after others
  pub AreLaid-append : (ms es : List (PacketMetadata H)) (at room : ℕ) → at % room ≡ at → AreLaid at room ms → AreLaid ((at + size_of ms) % room) room es →
      AreLaid at room (ms ++ es)
  AreLaid-append [] es at room e h t =
      let here : (at + 0) % room ≡ at = ap (λ n. n % room) (add-zero at) ∙ e in
      rw here at t
  AreLaid-append (m ∷ ms) es at room e h t =
      let next : (at + (m.size + size_of ms)) % room ≡ ((at + m.size) % room + size_of ms) % room =
      sym (mod-add-mod (at + m.size) room (size_of ms) ∙ ap (λ n. n % room) (add_assoc at m.size (size_of ms))) in
      (h.0, IsPadding-append m.size m.header ms es h.1, AreLaid-append ms es ((at + m.size) % room) room (mod-mod (at + m.size) room) h.2 (rw next at t))

  -- entries of no bytes, wherever they begin
  pub AreLaid-from_zero : (ms : List (PacketMetadata H)) (at room : ℕ) → AreLaid at room ms → size_of ms ≡ 0 → AreLaid 0 room ms
  AreLaid-from_zero [] at room h e = tt
  AreLaid-from_zero (m ∷ ms) at room h e =
      let none : 0 + m.size ≡ 0 = omega (arith, e) in
      let next : (0 + m.size) % room ≡ 0 = ap (λ n. n % room) none ∙ zero-mod room in
      (omega (arith, none), h.1, rw next (AreLaid-from_zero ms ((at + m.size) % room) room h.2 (omega (arith, e))))

  append-step : (n : ℕ) (header : Option H) (ms es : List (PacketMetadata H)) (bs cs : List ℕ) (skipped at room : ℕ) → AreLaid at room (entry n header ∷ ms) →
      n ≤ length bs → ((s : ℕ) → ((s ≡ 0) ⊎ BeginsWithPacket ms) → packets_of s (ms ++ es) (drop n bs ++ cs) ≡ packets_of s ms (drop n bs) ++
      packets_of 0 es cs) → ((skipped ≡ 0) ⊎ IsSome header) →
      packets_of skipped (entry n header ∷ (ms ++ es)) (bs ++ cs) ≡ packets_of skipped (entry n header ∷ ms) bs ++ packets_of 0 es cs
  append-step n None ms es bs cs skipped at room h fits ih way =
      ap (λ xs. packets_of (skipped + n) (ms ++ es) xs) (drop-append-le n bs cs fits) ∙ ih (skipped + n) (inr h.1.1)
  append-step n (Some x) ms es bs cs skipped at room h fits ih way =
      rw (drop-append-le n bs cs fits, take-append-le n bs cs fits) (ap (λ ps. packet skipped x (take n bs) ∷ ps) (ih 0 (inl refl)))

  -- packets after others
  packets_of-following : (ms es : List (PacketMetadata H)) (bs cs : List ℕ) (skipped at room : ℕ) → AreLaid at room ms → size_of ms ≡ length bs →
      ((skipped ≡ 0) ⊎ BeginsWithPacket ms) → packets_of skipped (ms ++ es) (bs ++ cs) ≡ packets_of skipped ms bs ++ packets_of 0 es cs
  packets_of-following [] es bs cs skipped at room h e way = elim way [
    | inl z ↦ let none : bs ≡ [] = nil_from_length bs (sym e) in rw (none, z) refl
    | inr x ↦ absurd x
  ]
  packets_of-following (m ∷ ms) es bs cs skipped at room h e way =
      append-step m.size m.header ms es bs cs skipped at room h (omega (arith, e))
      (λ s w. packets_of-following ms es (drop m.size bs) cs s ((at + m.size) % room) room h.2 (omega (arith, e, length-drop m.size bs)) w) way

  pub packets_of-append : (ms es : List (PacketMetadata H)) (bs cs : List ℕ) (at room : ℕ) → AreLaid at room ms → size_of ms ≡ length bs →
      packets_of 0 (ms ++ es) (bs ++ cs) ≡ packets_of 0 ms bs ++ packets_of 0 es cs
  packets_of-append ms es bs cs at room h e = packets_of-following ms es bs cs 0 at room h e (inl refl)

  -- the entries of a new packet
  abbrev pub entries_for : ℕ → ℕ → H → List (PacketMetadata H)
  entries_for padding size header =
      if padding == 0 then entry size (Some header) ∷ []
      else entry padding None ∷ entry size (Some header) ∷ []

  pub AreLaid-entries_for : (padding size : ℕ) (header : H) (at room : ℕ) → (padding ≡ 0 → at + size ≤ room) →
      (0 < padding → (at + padding ≡ room) × (size ≤ room)) → AreLaid at room (entries_for padding size header)
  AreLaid-entries_for padding size header at room whole wrapped = elim (eqb_tells padding 0) [
    | inl none ↦ rw none.0 (whole none.1, tt, tt)
    | inr some ↦ let w = wrapped (omega (arith, some.1)) in
        let start : (at + padding) % room ≡ 0 = ap (λ n. n % room) w.0 ∙ mod_self room in
        rw (some.0, start) (omega (arith, w.0), (omega (arith, some.1), refl), (omega (arith, w.1), tt, tt))
  ]

  pub size_of-entries_for : (padding size : ℕ) (header : H) → size_of (entries_for padding size header) ≡ padding + size
  size_of-entries_for padding size header = elim (eqb_tells padding 0) [
    | inl none ↦ rw none.0 (omega (arith, none.1))
    | inr some ↦ rw some.0 (omega arith)
  ]

  pub packets_of-entries_for : (padding size : ℕ) (header : H) (ps cs : List ℕ) → length ps ≡ padding → length cs ≡ size →
      packets_of 0 (entries_for padding size header) (ps ++ cs) ≡ packet padding header cs ∷ []
  packets_of-entries_for padding size header ps cs long whole =
      let all : take size cs ≡ cs = take_all size cs (omega (arith, whole)) in
      elim (eqb_tells padding 0) [
        | inl none ↦ let nil : ps ≡ [] = nil_from_length ps (long ∙ none.1) in rw (none.0, nil, all, none.1) refl
        | inr some ↦ rw (some.0, drop_at ps cs padding long, all) (ap (λ n. packet n header cs ∷ []) (zero-add padding))
      ]
