-- A side as if its user had written no more than was sent: the invariant holds alongside its peer.
use Rattle.std.proofs.Common.{◌≡◌, ◌⊎◌, inl, inr, ℕ, zero, suc, ◌+◌, ◌-◌, ◌%◌, ◌^◌, ◌<◌, ◌≤◌, ◌&&◌, nat_lt, min, Bool, true, false, List, [], ◌∷◌, ◌++◌}
use Rattle.std.proofs.Common.{length, take, drop, Some, None, refl, ap, ◌∙◌, arith, length-take}
use Rattle.std.proofs.lemmas.Bool.{ltb-true, ltb-false, lt-ltb}
use Rattle.std.specs.List.{AllByRecursion}
use Rattle.tcp_theory.specs.Invariant.{IsInStep, IsSilent, OneWay, HoldsBetween, IsHonest, IsPiece, IsPlain, IsBelow, IsSyn, HasReached}
use Rattle.tcp_theory.specs.Numbers.{wire}
use Rattle.tcp_theory.specs.ReceiveMap.{Begins, AgreesWith}
use Rattle.tcp_theory.specs.Segment.{Segment, Control, IsData}
use Rattle.tcp_theory.specs.Segment.Control.{Plain, Syn, Fin, Rst}
use Rattle.tcp_theory.specs.Side.{Side, taken_in, send_end, one_if}
use Rattle.tcp_theory.specs.Side.Phase.{Synchronized, Ended}
use Rattle.tcp_theory.proofs.Lists.{AllByRecursion-map}
use Rattle.tcp_liveness.specs.Sent.{size_in, size_of, LiesIn, IsWithin, payload_sent, fin_sent}

-- LISTS

-- bytes that begin a stream from an offset on begin what of it ends no sooner
pub begins_cut : (k n : ℕ) (xs ys : List ℕ) → Begins xs (drop k ys) → k + length xs ≤ n → Begins xs (drop k (take n ys))
begins_cut zero n [] ys b e = tt
begins_cut zero n (x ∷ xs) [] b e = absurd b
begins_cut zero zero (x ∷ xs) (y ∷ ys) b e = absurd (omega arith)
begins_cut zero (suc n) (x ∷ xs) (y ∷ ys) b e = (b.0, begins_cut zero n xs ys b.1 (omega arith))
begins_cut (suc k) n [] ys b e = tt
begins_cut (suc k) n (x ∷ xs) [] b e = absurd b
begins_cut (suc k) zero (x ∷ xs) (y ∷ ys) b e = absurd (omega arith)
begins_cut (suc k) (suc n) (x ∷ xs) (y ∷ ys) b e = begins_cut k n (x ∷ xs) ys b (omega arith)

-- the first of a list, and of a longer one
pub take_more : (n m : ℕ) (xs ys : List ℕ) → n ≤ m → (more : List ℕ) × (take m (xs ++ ys) ≡ take n xs ++ more)
take_more zero m xs ys e = (take m (xs ++ ys), refl)
take_more (suc n) zero xs ys e = absurd (omega arith)
take_more (suc n) (suc m) [] ys e = (take (suc m) ys, refl)
take_more (suc n) (suc m) (x ∷ xs) ys e = let r = take_more n m xs ys (omega arith) in (r.0, ap (λ (zs : List ℕ). x ∷ zs) r.1)

pub take_whole : (n : ℕ) (xs : List ℕ) → length xs ≤ n → take n xs ≡ xs
take_whole zero [] e = refl
take_whole zero (x ∷ xs) e = absurd (omega arith)
take_whole (suc n) [] e = refl
take_whole (suc n) (x ∷ xs) e = ap (λ (zs : List ℕ). x ∷ zs) (take_whole n xs (omega arith))

pub take_nothing : (n : ℕ) (xs : List ℕ) → xs ≡ [] → take n xs ≡ []
take_nothing zero xs e = refl
take_nothing (suc n) [] e = refl
take_nothing (suc n) (x ∷ xs) e = absurd (cc)

none_of : (xs : List ℕ) → length xs ≡ 0 → xs ≡ []
none_of [] e = refl
none_of (x ∷ xs) e = absurd (omega arith)

-- A SIDE THAT ENDED

-- a side that ended, of whose stream only this was written
abbrev pub cut : Side → List ℕ → Bool → Side
cut s written closed = record s { phase = Ended; written = written; closed = closed }

-- what a side took and holds is of this stream
pub record Took (t : Side) (written : List ℕ) (closed : Bool) : Type 0 where
  pub received : Begins (taken_in t) written
  pub held : AgreesWith t.window (drop (length (taken_in t)) written)
  pub fin : t.took_fin ≡ true → (closed ≡ true) × (taken_in t ≡ written)

module _ (s t : Side) (written : List ℕ) (closed : Bool) where
  abbrev c : Side
  c = cut s written closed

  reached_still : (number : ℕ) → HasReached s number → HasReached c number
  reached_still number h = record { at = h.at; same = h.same; heard = h.heard; after_syn = h.after_syn; high = h.high }

  plain_still : (x : Segment) → IsPlain s x → IsPlain c x
  plain_still x p = record { plain = p.plain; bytes = by p.bytes } where
    by : (x.bytes ≡ []) ⊎ IsBelow s x → (x.bytes ≡ []) ⊎ IsBelow c x
    by (inl none) = inl none
    by (inr h) = inr (record { at = h.at; number = h.number; heard = h.heard; low = h.low; high = h.high })

  honest_still : (x : Segment) → IsHonest t s x → IsHonest t c x
  honest_still x (inl reset) = inl reset
  honest_still x (inr h) = inr (kind h.0, h.1) where
    kind : IsPiece t x ⊎ (IsPlain s x ⊎ IsSyn t x) → IsPiece t x ⊎ (IsPlain c x ⊎ IsSyn t x)
    kind (inl piece) = inl piece
    kind (inr (inl plain)) = inr (inl (plain_still x plain))
    kind (inr (inr syn)) = inr (inr syn)

  -- the stream that it takes
  pub other_way : OneWay t s → OneWay t c
  other_way out = record {
    well_formed = out.well_formed;
    sync = sync out.sync;
    received = out.received;
    held = out.held;
    fin = λ e. let f = out.fin e in record { closed = f.closed; whole = f.whole; counts = f.counts };
    listener = out.listener;
    sent = AllByRecursion-map (IsHonest t s) (IsHonest t c) honest_still t.sent out.sent;
  }
    where
      sync : IsInStep t s ⊎ IsSilent t s → IsInStep t c ⊎ IsSilent t c
      sync (inl step) = inl (record { counts = step.counts; opened = step.opened; reached = step.reached })
      sync (inr silent) = inr (record { unwritten = silent.unwritten; closed = silent.closed; una = una silent.una }) where
        una : (t.una ≡ t.iss) ⊎ HasReached s (wire t.una) → (t.una ≡ t.iss) ⊎ HasReached c (wire t.una)
        una (inl first) = inl first
        una (inr reached) = inr (reached_still (wire t.una) reached)

  -- the stream that it sends
  pub own_way :
      OneWay s t → Took t written closed → s.una ≤ suc s.iss + length written + one_if closed → length written ≤ length s.written
      → AllByRecursion (IsHonest c t) s.sent → OneWay c t
  own_way out took una shorter sent = record {
    well_formed =
        record {
          phase = tt;
          early = λ e. absurd e;
          iss = out.well_formed.iss;
          una_low = out.well_formed.una_low;
          una_high = una;
          short = less (length written) (length s.written) shorter out.well_formed.short;
          irs = out.well_formed.irs;
        };
    sync = sync out.sync;
    received = took.received;
    held = took.held;
    fin = λ e. let f = took.fin e in record { closed = f.0; whole = f.1; counts = (out.fin e).counts };
    listener = out.listener;
    sent = sent;
  }
    where
      less : (a b : ℕ) → a ≤ b → b < 2 ^ 29 → a < 2 ^ 29
      less a b e f = omega arith

      sync : IsInStep s t ⊎ IsSilent s t → IsInStep c t ⊎ IsSilent c t
      sync (inl step) = inl (record { counts = step.counts; opened = step.opened; reached = step.reached })
      sync (inr silent) =
          inr (record {
            unwritten = none_of written (nothing (ap length silent.unwritten));
            closed = λ (e : Ended ≡ Synchronized). absurd (cc);
            una = silent.una;
          })
        where
          nothing : length s.written ≡ 0 → length written ≡ 0
          nothing e = omega (arith, shorter)

-- WHAT WAS SENT

-- two offsets of one number
same_offset :
    (iss at offset sent seq end : ℕ) → seq ≡ at % 2 ^ 32 → end ≡ (iss + sent) % 2 ^ 32 → (seq + (sent - offset)) % 2 ^ 32 ≡ end → offset ≤ sent → iss < at
    → at ≤ iss + 2 ^ 30 → sent ≤ 2 ^ 30 → at ≡ iss + offset
same_offset iss at offset sent seq end a b c d e f g = omega arith

module _ (s t : Side) (sent end : ℕ) (ends : end ≡ wire (s.iss + sent)) (few : sent ≤ 2 ^ 30) (short : length s.written < 2 ^ 29) where
  abbrev payload : List ℕ
  payload = payload_sent sent s.written

  abbrev fin : Bool
  fin = fin_sent sent s.written s.closed

  cut_length : length payload ≡ min (sent - 1) (length s.written)
  cut_length = length-take (sent - 1) s.written

  -- a piece that ends within what was sent
  piece_cut : (x : Segment) → IsPiece s x → LiesIn sent end x → IsPiece (cut s payload fin) x
  piece_cut x p l = record {
    late = tt;
    kind = p.kind;
    at = p.at;
    seq = p.seq;
    after_syn = p.after_syn;
    bytes =
        begins_cut (p.at - suc s.iss) (sent - 1) x.bytes s.written p.bytes
        (inside p.at s.iss l.at sent (length x.bytes) (size_of x) offset (longer x.control x.bytes p.kind) l.within p.after_syn);
    fits =
        fits p.at s.iss l.at sent (length x.bytes) (size_of x) (length s.written) (length payload) offset (longer x.control x.bytes p.kind) l.within p.after_syn
        p.fits cut_length;
    fin = λ e.
        let f = p.fin e in
        let more = past p.at s.iss l.at sent (length x.bytes) (size_of x) (length s.written) offset (with_fin x.control x.bytes e) l.within f.1 in (
          ap (λ (b : Bool). b && nat_lt (suc (length s.written)) sent) f.0 ∙ lt-ltb (suc (length s.written)) sent more,
          f.1 ∙ ap (λ (n : ℕ). suc s.iss + n) (whole (length payload) (length s.written) cut_length more),
        );
  }
    where
      longer : (control : Control) (bytes : List ℕ) → IsData control → length bytes ≤ size_in control bytes
      longer Plain bytes k = omega arith
      longer Fin bytes k = omega arith
      longer Syn bytes k = absurd k
      longer Rst bytes k = absurd k

      with_fin : (control : Control) (bytes : List ℕ) → control ≡ Fin → size_in control bytes ≡ suc (length bytes)
      with_fin Fin bytes e = refl
      with_fin Plain bytes e = absurd (cc)
      with_fin Syn bytes e = absurd (cc)
      with_fin Rst bytes e = absurd (cc)

      near : (at iss len written : ℕ) → at + len ≤ suc iss + written → written < 2 ^ 29 → at ≤ iss + 2 ^ 30
      near at iss len written a b = omega arith

      low : (a size b : ℕ) → a + size ≤ b → a ≤ b
      low a size b e = omega arith

      offset : p.at ≡ s.iss + l.at
      offset =
          same_offset s.iss p.at l.at sent x.seq end p.seq ends l.number (low l.at (size_of x) sent l.within) p.after_syn
          (near p.at s.iss (length x.bytes) (length s.written) p.fits short) few

      inside : (at iss offset sent len size : ℕ) → at ≡ iss + offset → len ≤ size → offset + size ≤ sent → iss < at → at - suc iss + len ≤ sent - 1
      inside at iss offset sent len size a b c d = omega arith

      fits :
          (at iss offset sent len size written payload : ℕ) → at ≡ iss + offset → len ≤ size → offset + size ≤ sent → iss < at → at + len ≤ suc iss + written
          → payload ≡ min (sent - 1) written → at + len ≤ suc iss + payload
      fits at iss offset sent len size written payload a b c d e f = omega arith

      past :
          (at iss offset sent len size written : ℕ) → at ≡ iss + offset → size ≡ suc len → offset + size ≤ sent → at + len ≡ suc iss + written
          → suc written < sent
      past at iss offset sent len size written a b c d = omega arith

      whole : (payload written : ℕ) → payload ≡ min (sent - 1) written → suc written < sent → written ≡ payload
      whole payload written a b = omega arith

  no_payload : (control : Control) (bytes : List ℕ) → IsData control → size_in control bytes ≡ 0 → (control ≡ Plain) × (bytes ≡ [])
  no_payload Plain bytes k e = (refl, none_of bytes e)
  no_payload Fin bytes k e = absurd (omega arith)
  no_payload Syn bytes k e = absurd k
  no_payload Rst bytes k e = absurd k

  -- what was sent is honest alongside what of the stream was sent
  honest_cut : (x : Segment) → IsHonest s t x → IsWithin sent end x → IsHonest (cut s payload fin) t x
  honest_cut x (inl reset) w = inl reset
  honest_cut x (inr h) w = inr (kind h.0, ack h.1) where
    piece : IsPiece s x → IsWithin sent end x → IsPiece (cut s payload fin) x ⊎ (IsPlain t x ⊎ IsSyn (cut s payload fin) x)
    piece p (inl bare) = let none = no_payload x.control x.bytes p.kind bare in inr (inl (record { plain = none.0; bytes = inl none.1 }))
    piece p (inr l) = inl (piece_cut x p l)

    kind : IsPiece s x ⊎ (IsPlain t x ⊎ IsSyn s x) → IsPiece (cut s payload fin) x ⊎ (IsPlain t x ⊎ IsSyn (cut s payload fin) x)
    kind (inl p) = piece p w
    kind (inr (inl plain)) = inr (inl plain)
    kind (inr (inr syn)) = inr (inr (record { syn = syn.syn; at = syn.at; first = syn.first; seq = syn.seq; bare = syn.bare }))

    ack : (x.ack ≡ None) ⊎ ((number : ℕ) × (x.ack ≡ Some number) × HasReached s number) →
        (x.ack ≡ None) ⊎ ((number : ℕ) × (x.ack ≡ Some number) × HasReached (cut s payload fin) number)
    ack (inl none) = inl none
    ack (inr some) = inr (some.0, some.1, reached_still s t payload fin some.0 some.2)

  all_honest : (xs : List Segment) → AllByRecursion (IsHonest s t) xs → AllByRecursion (IsWithin sent end) xs → AllByRecursion (IsHonest (cut s payload fin) t) xs
  all_honest [] h w = tt
  all_honest (x ∷ xs) h w = (honest_cut x h.0 w.0, all_honest xs h.1 w.1)

  -- SND.UNA lies within it
  una_cut : s.una ≤ s.iss + sent → s.una ≤ send_end s → s.una ≤ suc s.iss + length payload + one_if fin
  una_cut within high = by s.closed refl (nat_lt (suc (length s.written)) sent) refl where
    all : (una iss written closed payload fin : ℕ) → una ≤ suc iss + written + closed → closed ≡ 1 → fin ≡ 1 → payload ≡ min (sent - 1) written → suc written < sent
        → una ≤ suc iss + payload + fin
    all una iss written closed payload fin a b c d e = omega arith

    no_fin : (una iss written closed payload fin : ℕ) → una ≤ suc iss + written + closed → closed ≡ 0 → una ≤ iss + sent → payload ≡ min (sent - 1) written
        → una ≤ suc iss + payload + fin
    no_fin una iss written closed payload fin a b c d = omega arith

    part : (una iss written payload fin : ℕ) → sent ≤ suc written → una ≤ iss + sent → payload ≡ min (sent - 1) written → una ≤ suc iss + payload + fin
    part una iss written payload fin a b c = omega arith

    by : (closed : Bool) → s.closed ≡ closed → (more : Bool) → nat_lt (suc (length s.written)) sent ≡ more → s.una ≤ suc s.iss + length payload + one_if fin
    by true e true f =
        all s.una s.iss (length s.written) (one_if s.closed) (length payload) (one_if fin) high (ap one_if e)
        (ap (λ (b : Bool). one_if (b && nat_lt (suc (length s.written)) sent)) e ∙ ap one_if f)
        cut_length (ltb-true (suc (length s.written)) sent f)
    by true e false f =
        part s.una s.iss (length s.written) (length payload) (one_if fin) (ltb-false (suc (length s.written)) sent f) within cut_length
    by false e more f = no_fin s.una s.iss (length s.written) (one_if s.closed) (length payload) (one_if fin) high (ap one_if e) within cut_length

  -- so the invariant holds
  pub holds_cut : HoldsBetween s t → s.una ≤ s.iss + sent → Took t payload fin → AllByRecursion (IsWithin sent end) s.sent → HoldsBetween t (cut s payload fin)
  holds_cut holds within took all = (
    other_way s t payload fin holds.1,
    own_way s t payload fin holds.0 took (una_cut within holds.0.well_formed.una_high) shorter (all_honest s.sent holds.0.sent all),
  )
    where
      shorter : length payload ≤ length s.written
      shorter = no_longer (length payload) (length s.written) cut_length where
        no_longer : (a b : ℕ) → a ≡ min (sent - 1) b → a ≤ b
        no_longer a b e = omega arith
