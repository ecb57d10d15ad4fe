-- A send queue holds the rest of what was written.
use Rattle.std.proofs.Common.{◌≡◌, ℕ, zero, suc, ◌+◌, ◌-◌, ◌≤◌, List, [], ◌∷◌, ◌++◌, length, take, drop, refl, sym, ◌∙◌, ap, subst, length-append, arith}
use Rattle.std.proofs.lemmas.List.{take-append-drop}
use Rattle.tcp_refinement.specs.Safe.{IsPrefixOf}
use Rattle.tcp_refinement.specs.Side.{Side, initial, send_queue}
use Rattle.tcp_block.specs.Value.{TcpValue}
use Rattle.tcp_refinement.specs.Promises.{KeepsAlone, read_or_waiting}
use Rattle.tcp_refinement.specs.Tie.{Past, past_of, Keeps, core_of}
use Rattle.tcp_refinement.proofs.PromiseLemmas.{Shows, shows, safe_sockets, alone_nothing}
use Rattle.lan.specs.declared.at_link.history.event.Side as Sides
use Rattle.lan.specs.Worlds.AtLink.History.{written}
use Rattle.lan.specs.Worlds.AtLink.Parties.{Net}
use Rattle.lan.specs.Worlds.AtLink.PacketsSafe.{HoldsRest, HasNothing}

-- LISTS

module _ (rest : List ℕ) where
  -- of two beginnings the shorter one begins the longer one
  shorter : (xs ys more : List ℕ) → xs ++ rest ≡ ys ++ more → length xs ≤ length ys → IsPrefixOf xs ys
  shorter [] ys more same small = (ys, refl)
  shorter (x ∷ xs) [] more same small = absurd (omega (arith, small))
  shorter (x ∷ xs) (y ∷ ys) more same small =
      let first : x ≡ y = cc in
      let tail : xs ++ rest ≡ ys ++ more = cc in
      let there = shorter xs ys more tail (omega (arith, small)) in
      (there.0, ap (λ (n : ℕ). n ∷ (xs ++ there.0)) first ∙ ap (λ (zs : List ℕ). y ∷ zs) there.1)

dropped : (n : ℕ) (ys : List ℕ) → length (drop n ys) ≤ length ys
dropped zero ys = omega arith
dropped (suc n) [] = omega arith
dropped (suc n) (y ∷ ys) = let less = dropped n ys in omega (arith, less)

-- nothing was dropped
whole_left : (k : ℕ) (xs : List ℕ) → length xs - length (drop k xs) ≡ 0 → drop k xs ≡ xs
whole_left zero xs none = refl
whole_left (suc k) [] none = refl
whole_left (suc k) (x ∷ xs) none = absurd (let less = dropped k xs in omega (arith, none, less))

-- SOCKETS

-- the queue is what was written, but for so many bytes
queue_by : (v : TcpValue) (s : Side) (p : Past) → past_of s ≡ p → Shows (core_of v) s → (k : ℕ) × (v.queued.queue ≡ drop k p.written)
queue_by v s p is shown = (s.una - suc s.iss, shown.queue ∙ ap (λ (t : Past). drop (s.una - suc s.iss) t.written) is)

pub alone_queue : (v : TcpValue) (p : Past) → KeepsAlone v p → v.queued.queue ≡ p.written
alone_queue v p k =
    let q = queue_by v k.side p k.past (shows (core_of v) k.side (initial 0) k.holds k.fits) in
    let none : length p.written - length (drop q.0 p.written) ≡ 0 = ap (λ (xs : List ℕ). length p.written - length xs) (sym q.1) ∙
    (alone_nothing v p k).freed in
    q.1 ∙ whole_left q.0 p.written none

rest_by : (written taken more : List ℕ) (k : ℕ) → taken ++ more ≡ written → length written - length (drop k written) ≤ length taken →
    HoldsRest written (drop k written) taken
rest_by written taken more k begins few =
    let whole : take k written ++ drop k written ≡ written = take-append-drop k written in
    let size : length (take k written) + length (drop k written) ≡ length written = sym (length-append (take k written) (drop k written)) ∙ ap length whole in
    record {
      gone = take k written;
      rest = whole;
      was_taken =
          shorter (drop k written) (take k written) taken more (whole ∙ sym begins) (omega (arith, size, few));
    }

pub pair_rest : (v w : TcpValue) (p q : Past) → Keeps v p w q → HoldsRest p.written v.queued.queue (read_or_waiting q w)
pair_rest v w p q k =
    let safe = safe_sockets v w p q k in
    let queue = queue_by v k.side p k.past (shows (core_of v) k.side k.peer_side k.holds k.fits) in
    let few : length p.written - length (drop queue.0 p.written) ≤ length (read_or_waiting q w) =
    subst (λ (xs : List ℕ). length p.written - length xs ≤ length (read_or_waiting q w)) queue.1 safe.freed in
    subst (λ (xs : List ℕ). HoldsRest p.written xs (read_or_waiting q w)) (sym queue.1)
    (rest_by p.written (read_or_waiting q w) safe.prefix.0 queue.0 safe.prefix.1 few)

-- COUNTS

-- so many bytes have left the queue as begin what was taken in
pub counts_of_rest : (written queue taken : List ℕ) → HoldsRest written queue taken → length written - length queue ≤ length taken
counts_of_rest written queue taken h =
    let all : length h.gone + length queue ≡ length written = sym (length-append h.gone queue) ∙ ap length h.rest in
    let part : length h.gone + length h.was_taken.0 ≡ length taken = sym (length-append h.gone h.was_taken.0) ∙ ap length h.was_taken.1 in
    omega (arith, all, part)

pub count_of_nothing : (net : Net) (side : Sides.Side) (i : ℕ) (v : TcpValue) → HasNothing net side i v →
    length (written net.history side i) - length v.queued.queue ≡ 0
count_of_nothing net side i v h = let same = ap length h.queued in omega (arith, same)
