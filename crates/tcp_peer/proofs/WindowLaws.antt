-- Each byte that a side takes in stood in a segment, at its position in the window.
use Rattle.std.proofs.Common.{◌≡◌, ◌⊎◌, inl, inr, ℕ, suc, ◌+◌, ◌-◌, ◌<◌, ◌≤◌, true, false, List, [], ◌∷◌, ◌++◌, length, take, drop, Option, Some, slice_get}
use Rattle.std.proofs.Common.{refl, sym, ap, ◌∙◌, subst, arith, append_assoc, append-nil, take-append-drop, length-append}
use Rattle.tcp_theory.specs.Alone.{unopened}
use Rattle.tcp_theory.specs.Invariant.{IsEarly}
use Rattle.tcp_theory.specs.Move.{Move, May, after, MayAll, after_all, laid, MayTakeBytes}
use Rattle.tcp_theory.specs.Move.Move.{Listens, Connects, Writes, Reads, Closes, Ends, FallsBack, SendsSyn, SendsSynAck, SendsAck, SendsData, SendsKeepAlive}
use Rattle.tcp_theory.specs.Move.Move.{SendsReset, TakesSyn, TakesCrossedSyn, TakesSynAck, TakesAck, TakesBytes, TakesFin}
use Rattle.tcp_theory.specs.ReceiveMap.{front}
use Rattle.tcp_theory.specs.Safe.{IsPrefixOf}
use Rattle.tcp_theory.specs.Segment.{Segment}
use Rattle.tcp_theory.specs.Side.{Side, taken_in, rcv_next, one_if}
use Rattle.tcp_theory.specs.Side.Phase.{Unopened, Listen, SynSent, SynReceived}
use Rattle.tcp_theory.proofs.Calls.{early_at}
use Rattle.tcp_peer.specs.Window.{CameInTheWindow, IsKept}
use Rattle.tcp_peer.proofs.Maps.{slice_get-drop, slice_get-append, IsInSecond, space-empty, held-room, IsLaid, held-store, held-front, held-following}

-- before ESTABLISHED nothing is taken in or held
pub record HasNone (s : Side) : Type 0 where
  pub bytes : taken_in s ≡ []
  pub held : (m byte : ℕ) → slice_get s.window m ≡ Some (Some byte) → ⊥

-- each byte that is taken in or held has what P says, of its position
pub record Holds (P : ℕ → ℕ → Type 0) (s : Side) : Type 0 where
  pub early : IsEarly s.phase → HasNone s
  pub taken : (i byte : ℕ) → slice_get (taken_in s) i ≡ Some byte → P (suc s.irs + i) byte
  pub held : s.took_fin ≡ false → (m byte : ℕ) → slice_get s.window m ≡ Some (Some byte) → P (rcv_next s + m) byte

-- what a move takes from a segment, inside the window
abbrev Offsets : (ℕ → ℕ → Type 0) → Side → Move → Type 0
Offsets P s (TakesBytes x at) =
    (offset byte : ℕ) → slice_get x.bytes offset ≡ Some byte → rcv_next s ≤ at + offset → at + offset < rcv_next s + length s.window → P (at + offset) byte
Offsets P s other = Unit {0}

nothing_at : {A : Type 0} (xs : List ℕ) (i byte : ℕ) → xs ≡ [] → slice_get xs i ≡ Some byte → A
nothing_at xs i byte none e = absurd (let empty = subst (λ (ys : List ℕ). slice_get ys i ≡ Some byte) none e in cc)

at_offset : (P : ℕ → ℕ → Type 0) (p q byte : ℕ) → p ≡ q → P p byte → P q byte
at_offset P p q byte same h = subst (λ (n : ℕ). P n byte) same h

pub reads_same : (s : Side) (count : ℕ) → taken_in (after s (Reads count)) ≡ taken_in s
reads_same s count = append_assoc s.read (take count s.waiting) (drop count s.waiting) ∙
    ap (λ (bytes : List ℕ). s.read ++ bytes) (take-append-drop count s.waiting)

module _ (P : ℕ → ℕ → Type 0) (s t : Side) (h : Holds P s) where
  -- where nothing is taken in, held or finished, and the phase is no earlier
  holds_same : (new : Side) → taken_in new ≡ taken_in s → new.window ≡ s.window → new.took_fin ≡ s.took_fin → new.irs ≡ s.irs →
      (IsEarly new.phase → IsEarly s.phase) → Holds P new
  holds_same new bytes window fin irs early = record {
    early = λ is_early. let none = h.early (early is_early) in record {
      bytes = bytes ∙ none.bytes;
      held = λ m byte e. none.held m byte (subst (λ (map : List (Option ℕ)). slice_get map m ≡ Some (Some byte)) window e);
    };
    taken = λ i byte e.
        let had = h.taken i byte (subst (λ (ys : List ℕ). slice_get ys i ≡ Some byte) bytes e) in
        at_offset P (suc s.irs + i) (suc new.irs + i) byte (omega arith) had;
    held = λ unfinished m byte e.
        let had = h.held (sym fin ∙ unfinished) m byte (subst (λ (map : List (Option ℕ)). slice_get map m ≡ Some (Some byte)) window e) in
        let same_length = ap length bytes in
        let same_fin = ap one_if fin in
        at_offset P (rcv_next s + m) (rcv_next new + m) byte (omega arith) had;
  }

  -- where nothing was taken in yet
  holds_none : (new : Side) → HasNone s → taken_in new ≡ taken_in s → new.window ≡ s.window → Holds P new
  holds_none new none bytes window = record {
    early = λ _. record { bytes = bytes ∙ none.bytes; held = held };
    taken = λ i byte e. nothing_at (taken_in new) i byte (bytes ∙ none.bytes) e;
    held = λ _ m byte e. absurd (held m byte e);
  } where
    held : (m byte : ℕ) → slice_get new.window m ≡ Some (Some byte) → ⊥
    held m byte e = none.held m byte (subst (λ (map : List (Option ℕ)). slice_get map m ≡ Some (Some byte)) window e)

  holds_reads : (count : ℕ) → Holds P (after s (Reads count))
  holds_reads count =
      let bytes = reads_same s count in
      let room = length (take count s.waiting) in
      record {
        early = λ is_early. let none = h.early is_early in record {
          bytes = bytes ∙ none.bytes;
          held = λ m byte e. none.held m byte (held-room s.window room m byte e);
        };
        taken = λ i byte e. h.taken i byte (subst (λ (ys : List ℕ). slice_get ys i ≡ Some byte) bytes e);
        held = λ unfinished m byte e.
            let same_length = ap length bytes in
            at_offset P (rcv_next s + m) (rcv_next (after s (Reads count)) + m) byte (omega arith) (h.held unfinished m byte (held-room s.window room m byte e));
      }

  holds_falls_back : Holds P (after s FallsBack)
  holds_falls_back = record {
    early = λ _. record { bytes = refl; held = λ m byte e. space-empty (length s.waiting + length s.window) m byte e };
    taken = λ i byte e. absurd (cc);
    held = λ _ m byte e. absurd (space-empty (length s.waiting + length s.window) m byte e);
  }

  module _ (x : Segment) (at : ℕ) (may : MayTakeBytes s t x at)
      (offsets : (offset byte : ℕ) → slice_get x.bytes offset ≡ Some byte → rcv_next s ≤ at + offset → at + offset < rcv_next s + length s.window →
      P (at + offset) byte) where
    -- what the map holds then
    laid_held : (m byte : ℕ) → slice_get (laid s at x.bytes) m ≡ Some (Some byte) → P (rcv_next s + m) byte
    laid_held m byte e = by (held-store s.window (at - rcv_next s) (drop (rcv_next s - at) x.bytes) m byte e) where
      by : (slice_get s.window m ≡ Some (Some byte)) ⊎ IsLaid s.window (at - rcv_next s) (drop (rcv_next s - at) x.bytes) m byte → P (rcv_next s + m) byte
      by (inl old) = h.held may.unfinished m byte old
      by (inr l) =
          let there = l.there in
          let inside = l.inside in
          let stood = slice_get-drop (rcv_next s - at) x.bytes l.index byte l.stands in
          let position : at + (rcv_next s - at + l.index) ≡ rcv_next s + m = omega arith in
          at_offset P (at + (rcv_next s - at + l.index)) (rcv_next s + m) byte position
          (offsets (rcv_next s - at + l.index) byte stood (omega arith) (omega arith))

    holds_takes_bytes : Holds P (after s (TakesBytes x at))
    holds_takes_bytes =
        let map = laid s at x.bytes in
        let new = after s (TakesBytes x at) in
        let longer : taken_in new ≡ taken_in s ++ front map = sym (append_assoc s.read s.waiting (front map)) in
        let size = ap length longer ∙ length-append (taken_in s) (front map) in
        let unfinished = ap one_if may.unfinished in
        record {
          early = λ is_early. absurd (subst IsEarly may.running is_early);
          taken = λ i byte e. taken i byte (slice_get-append (taken_in s) (front map) i byte (subst (λ (ys : List ℕ). slice_get ys i ≡ Some byte) longer e));
          held = λ _ m byte e.
              let had = laid_held (length (front map) + m) byte (held-following map m (length (front map) + m) byte refl e) in
              at_offset P (rcv_next s + (length (front map) + m)) (rcv_next new + m) byte (omega arith) had;
        }
      where
        taken : (i byte : ℕ) → (slice_get (taken_in s) i ≡ Some byte) ⊎ IsInSecond (taken_in s) (front (laid s at x.bytes)) i byte → P (suc s.irs + i) byte
        taken i byte (inl old) = h.taken i byte old
        taken i byte (inr new) =
            let had = laid_held new.offset byte (held-front (laid s at x.bytes) new.offset byte new.stands) in
            let index = new.index in
            let unfinished = ap one_if may.unfinished in
            at_offset P (rcv_next s + new.offset) (suc s.irs + i) byte (omega arith) had

pub holds_after : (P : ℕ → ℕ → Type 0) (s t : Side) (move : Move) → Holds P s → May s t move → Offsets P s move → Holds P (after s move)
holds_after P s t (Reads count) h may offsets = holds_reads P s t h count
holds_after P s t FallsBack h may offsets = holds_falls_back P s t h
holds_after P s t (TakesBytes x at) h may offsets = holds_takes_bytes P s t h x at may offsets
holds_after P s t Listens h may offsets = holds_same P s t h (after s Listens) refl refl refl refl (λ _. early_at s Unopened may tt)
holds_after P s t (Connects iss) h may offsets = holds_same P s t h (after s (Connects iss)) refl refl refl refl (λ _. early_at s Unopened may.0 tt)
holds_after P s t (TakesSyn x iss) h may offsets = holds_none P s t h (after s (TakesSyn x iss)) (h.early (early_at s Listen may.listening tt)) refl refl
holds_after P s t (TakesCrossedSyn x) h may offsets = holds_none P s t h (after s (TakesCrossedSyn x)) (h.early (early_at s SynSent may.asking tt)) refl refl
holds_after P s t (TakesSynAck x) h may offsets = holds_none P s t h (after s (TakesSynAck x)) (h.early (early_at s SynSent may.asking tt)) refl refl
holds_after P s t (TakesFin x) h may offsets = record {
  early = λ early. absurd (subst IsEarly may.running early);
  taken = h.taken;
  held = λ (e : true ≡ false). absurd (cc);
}
holds_after P s t (TakesAck x at) h may offsets = holds_same P s t h (after s (TakesAck x at)) refl refl refl refl (λ early. absurd early)
holds_after P s t Closes h may offsets = holds_same P s t h (after s Closes) refl refl refl refl (λ early. absurd early)
holds_after P s t Ends h may offsets = holds_same P s t h (after s Ends) refl refl refl refl (λ early. absurd early)
holds_after P s t (Writes bytes) h may offsets = holds_same P s t h (after s (Writes bytes)) refl refl refl refl (λ early. early)
holds_after P s t SendsSyn h may offsets = holds_same P s t h (after s SendsSyn) refl refl refl refl (λ early. early)
holds_after P s t SendsSynAck h may offsets = holds_same P s t h (after s SendsSynAck) refl refl refl refl (λ early. early)
holds_after P s t (SendsAck at) h may offsets = holds_same P s t h (after s (SendsAck at)) refl refl refl refl (λ early. early)
holds_after P s t (SendsData at count fin) h may offsets = holds_same P s t h (after s (SendsData at count fin)) refl refl refl refl (λ early. early)
holds_after P s t SendsKeepAlive h may offsets = holds_same P s t h (after s SendsKeepAlive) refl refl refl refl (λ early. early)
holds_after P s t (SendsReset x) h may offsets = holds_same P s t h (after s (SendsReset x)) refl refl refl refl (λ early. early)

pub holds_start : (P : ℕ → ℕ → Type 0) (room : ℕ) (resets : List Segment) → Holds P (unopened room resets)
holds_start P room resets = record {
  early = λ _. record { bytes = refl; held = λ m byte e. space-empty room m byte e };
  taken = λ i byte e. absurd (cc);
  held = λ _ m byte e. absurd (space-empty room m byte e);
}

-- RUNS

pub holds_more : (P Q : ℕ → ℕ → Type 0) (s : Side) → ((p byte : ℕ) → P p byte → Q p byte) → Holds P s → Holds Q s
holds_more P Q s leads h = record {
  early = h.early;
  taken = λ i byte e. leads (suc s.irs + i) byte (h.taken i byte e);
  held = λ unfinished m byte e. leads (rcv_next s + m) byte (h.held unfinished m byte e);
}

module _ (began t : Side) where
  abbrev Came : List Move → ℕ → ℕ → Type 0
  Came moves = CameInTheWindow began t moves

  came_more : (before more : List Move) (p byte : ℕ) → Came before p byte → Came (before ++ more) p byte
  came_more before more p byte c = record {
    before = c.before;
    later = c.later ++ more;
    segment = c.segment;
    at = c.at;
    split = ap (λ (moves : List Move). moves ++ more) c.split ∙ append_assoc c.before (TakesBytes c.segment c.at ∷ c.later) more;
    came = c.came;
    number = c.number;
    offset = c.offset;
    stood = c.stood;
    there = c.there;
    low = c.low;
    high = c.high;
  }

  after_all-push : (s : Side) (before : List Move) (move : Move) → after_all s (before ++ move ∷ []) ≡ after (after_all s before) move
  after_all-push s [] move = refl
  after_all-push s (m ∷ before) move = after_all-push (after s m) before move

  taken_now : (before : List Move) (s : Side) (move : Move) → s ≡ after_all began before → May s t move → Offsets (Came (before ++ move ∷ [])) s move
  taken_now before s (TakesBytes x at) same may = λ offset byte stood low high. record {
    before = before;
    later = [];
    segment = x;
    at = at;
    split = refl;
    came = may.comes;
    number = may.number;
    offset = offset;
    stood = stood;
    there = refl;
    low = subst (λ (side : Side). rcv_next side ≤ at + offset) same low;
    high = subst (λ (side : Side). at + offset < rcv_next side + length side.window) same high;
  }
  taken_now before s Listens same may = tt
  taken_now before s (Connects iss) same may = tt
  taken_now before s (Writes bytes) same may = tt
  taken_now before s (Reads count) same may = tt
  taken_now before s Closes same may = tt
  taken_now before s Ends same may = tt
  taken_now before s FallsBack same may = tt
  taken_now before s SendsSyn same may = tt
  taken_now before s SendsSynAck same may = tt
  taken_now before s (SendsAck at) same may = tt
  taken_now before s (SendsData at count fin) same may = tt
  taken_now before s SendsKeepAlive same may = tt
  taken_now before s (SendsReset x) same may = tt
  taken_now before s (TakesSyn x iss) same may = tt
  taken_now before s (TakesCrossedSyn x) same may = tt
  taken_now before s (TakesSynAck x) same may = tt
  taken_now before s (TakesAck x at) same may = tt
  taken_now before s (TakesFin x) same may = tt

  along :
      (before : List Move) (s : Side) (rest : List Move) → s ≡ after_all began before → Holds (Came before) s → MayAll s t rest
      → Holds (Came (before ++ rest)) (after_all s rest)
  along before s [] same h may = subst (λ (moves : List Move). Holds (Came moves) s) (sym (append-nil before)) h
  along before s (move ∷ rest) same h may =
      let grown = holds_more (Came before) (Came (before ++ move ∷ [])) s (came_more before (move ∷ [])) h in
      let next = holds_after (Came (before ++ move ∷ [])) s t move grown may.0 (taken_now before s move same may.0) in
      let same' : after s move ≡ after_all began (before ++ move ∷ []) = ap (λ (side : Side). after side move) same ∙ sym (after_all-push began before move) in
      subst (λ (moves : List Move). Holds (Came moves) (after_all (after s move) rest)) (append_assoc before (move ∷ []) rest)
      (along (before ++ move ∷ []) (after s move) rest same' next may.1)

pub came_in_the_window :
    (room : ℕ) (resets : List Segment) (t : Side) (moves : List Move) → MayAll (unopened room resets) t moves
    → (i byte : ℕ) → slice_get (taken_in (after_all (unopened room resets) moves)) i ≡ Some byte
    → CameInTheWindow (unopened room resets) t moves (suc (after_all (unopened room resets) moves).irs + i) byte
came_in_the_window room resets t moves may i byte e =
    let began = unopened room resets in
    (along began t [] began moves refl (holds_start (CameInTheWindow began t []) room resets) may).taken i byte e

-- WHAT WAS TAKEN IN STAYS

prefix_same : (xs ys : List ℕ) → ys ≡ xs → IsPrefixOf xs ys
prefix_same xs ys same = ([], append-nil xs ∙ sym same)

prefix_joined : (xs ys zs : List ℕ) → IsPrefixOf xs ys → IsPrefixOf ys zs → IsPrefixOf xs zs
prefix_joined xs ys zs p q = (p.0 ++ q.0, sym (append_assoc xs p.0 q.0) ∙ (ap (λ (front : List ℕ). front ++ q.0) p.1 ∙ q.1))

no_bytes : (xs ys : List ℕ) → xs ++ ys ≡ [] → xs ≡ []
no_bytes [] ys e = refl
no_bytes (x ∷ xs) ys e = absurd (cc)

kept_same : (s new : Side) → taken_in new ≡ taken_in s → new.read ≡ s.read → IsKept s new
kept_same s new taken read = record { taken = prefix_same (taken_in s) (taken_in new) taken; read = prefix_same s.read new.read read }

kept_after : (P : ℕ → ℕ → Type 0) (s t : Side) (move : Move) → Holds P s → May s t move → IsKept s (after s move)
kept_after P s t (Reads count) h may =
    record { taken = prefix_same (taken_in s) (taken_in (after s (Reads count))) (reads_same s count); read = (take count s.waiting, refl) }
kept_after P s t FallsBack h may =
    let none = (h.early (early_at s SynReceived may.0 tt)).bytes in
    record { taken = prefix_same (taken_in s) [] (sym none); read = prefix_same s.read [] (sym (no_bytes s.read s.waiting none)) }
kept_after P s t (TakesBytes x at) h may =
    record { taken = (front (laid s at x.bytes), append_assoc s.read s.waiting (front (laid s at x.bytes))); read = prefix_same s.read s.read refl }
kept_after P s t Listens h may = kept_same s (after s Listens) refl refl
kept_after P s t (Connects iss) h may = kept_same s (after s (Connects iss)) refl refl
kept_after P s t (TakesSyn x iss) h may = kept_same s (after s (TakesSyn x iss)) refl refl
kept_after P s t (TakesCrossedSyn x) h may = kept_same s (after s (TakesCrossedSyn x)) refl refl
kept_after P s t (TakesSynAck x) h may = kept_same s (after s (TakesSynAck x)) refl refl
kept_after P s t (TakesFin x) h may = kept_same s (after s (TakesFin x)) refl refl
kept_after P s t (TakesAck x at) h may = kept_same s (after s (TakesAck x at)) refl refl
kept_after P s t Closes h may = kept_same s (after s Closes) refl refl
kept_after P s t Ends h may = kept_same s (after s Ends) refl refl
kept_after P s t (Writes bytes) h may = kept_same s (after s (Writes bytes)) refl refl
kept_after P s t SendsSyn h may = kept_same s (after s SendsSyn) refl refl
kept_after P s t SendsSynAck h may = kept_same s (after s SendsSynAck) refl refl
kept_after P s t (SendsAck at) h may = kept_same s (after s (SendsAck at)) refl refl
kept_after P s t (SendsData at count fin) h may = kept_same s (after s (SendsData at count fin)) refl refl
kept_after P s t SendsKeepAlive h may = kept_same s (after s SendsKeepAlive) refl refl
kept_after P s t (SendsReset x) h may = kept_same s (after s (SendsReset x)) refl refl

abbrev Any : ℕ → ℕ → Type 0
Any position byte = Unit {0}

offsets_any : (s : Side) (move : Move) → Offsets Any s move
offsets_any s (TakesBytes x at) = λ offset byte stood low high. tt
offsets_any s Listens = tt
offsets_any s (Connects iss) = tt
offsets_any s (Writes bytes) = tt
offsets_any s (Reads count) = tt
offsets_any s Closes = tt
offsets_any s Ends = tt
offsets_any s FallsBack = tt
offsets_any s SendsSyn = tt
offsets_any s SendsSynAck = tt
offsets_any s (SendsAck at) = tt
offsets_any s (SendsData at count fin) = tt
offsets_any s SendsKeepAlive = tt
offsets_any s (SendsReset x) = tt
offsets_any s (TakesSyn x iss) = tt
offsets_any s (TakesCrossedSyn x) = tt
offsets_any s (TakesSynAck x) = tt
offsets_any s (TakesAck x at) = tt
offsets_any s (TakesFin x) = tt

holds_any : (s t : Side) (move : Move) → Holds Any s → May s t move → Holds Any (after s move)
holds_any s t move h may = holds_after Any s t move h may (offsets_any s move)

kept_run : (s t : Side) (moves : List Move) → Holds Any s → MayAll s t moves → IsKept s (after_all s moves)
kept_run s t [] h may = kept_same s s refl refl
kept_run s t (move ∷ moves) h may =
    let first = kept_after Any s t move h may.0 in
    let rest = kept_run (after s move) t moves (holds_any s t move h may.0) may.1 in
    record {
      taken = prefix_joined (taken_in s) (taken_in (after s move)) (taken_in (after_all (after s move) moves)) first.taken rest.taken;
      read = prefix_joined s.read (after s move).read (after_all (after s move) moves).read first.read rest.read;
    }

kept_split : (s t : Side) (before later : List Move) → Holds Any s → MayAll s t (before ++ later) → IsKept (after_all s before) (after_all s (before ++ later))
kept_split s t [] later h may = kept_run s t later h may
kept_split s t (move ∷ before) later h may = kept_split (after s move) t before later (holds_any s t move h may.0) may.1

pub kept_in_order :
    (room : ℕ) (resets : List Segment) (t : Side) (before later : List Move) → MayAll (unopened room resets) t (before ++ later)
    → IsKept (after_all (unopened room resets) before) (after_all (unopened room resets) (before ++ later))
kept_in_order room resets t before later may = kept_split (unopened room resets) t before later (holds_start Any room resets) may
