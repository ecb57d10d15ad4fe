-- Bytes and a FIN that come are moves, and so are the segments that answer.
use Rattle.std.proofs.Common.{◌≡◌, ◌⊎◌, inl, inr, ℕ, ◌+◌, ◌-◌, ◌%◌, ◌^◌, ◌<◌, ◌≤◌, nat_lt, Bool, true, false, if◌then◌else◌, List, [], ◌∷◌, ◌++◌, Option, Some}
use Rattle.std.proofs.Common.{None, length, drop, refl, sym, ap, ◌∙◌, subst, arith, length-append}
use Rattle.std.proofs.lemmas.Bool.Decides.{nat_tests}
use Rattle.tcp_theory.specs.Invariant.{HoldsBetween, IsHonest, IsPiece, IsPlain, IsSyn, IsBelow}
use Rattle.tcp_theory.specs.Move.{after, Comes, laid, bare_ack, MayTakeBytes, MayTakeFin}
use Rattle.tcp_theory.specs.Move.Move.{TakesBytes, TakesFin, SendsAck, SendsReset}
use Rattle.tcp_theory.specs.Numbers.{wire, IsNear}
use Rattle.tcp_theory.specs.ReceiveMap.{store, front, following}
use Rattle.tcp_theory.specs.Segment.{Segment, IsData}
use Rattle.tcp_theory.specs.Segment.Control.{Plain, Fin, Rst}
use Rattle.tcp_theory.specs.Side.{Side, one_if, rcv_next}
use Rattle.tcp_theory.specs.Side.Phase.{Synchronized, SynReceived}
use Rattle.tcp_theory.proofs.Opening.{honest}
use Rattle.tcp_block.specs.State.{State}
use Rattle.tcp_block.specs.State.TheVariants as In
use Rattle.tcp_block.specs.States.{accepts_data, after_fin, owes_fin}
use Rattle.tcp_refinement.specs.Tie.{Core, Past, past_of, unsent, FitsIn, IsConnectedAs, phase_of, is_closed_in, is_finished_in}
use Rattle.tcp_refinement.specs.History.{with_sent}
use Rattle.tcp_refinement.proofs.Tied.{Tied, tied_by, fits_connected, connected_fits, is_connected, is_connected_side, takes_in}

-- WHERE BYTES LIE

-- a number lies so far past RCV.NXT, or so far before it
pub record IsPlaced (next seq past before : ℕ) : Type 0 where
  pub at : ℕ
  pub number : seq ≡ wire at
  pub near : IsNear next at
  pub past_it : at - next ≡ past
  pub before_it : next - at ≡ before

test_lt : (a b : ℕ) → nat_lt a b ≡ true → a < b
test_lt a b e = grind (arith, nat_tests)

test_ge : (a b : ℕ) → nat_lt a b ≡ false → b ≤ a
test_ge a b e = grind (arith, nat_tests)

pub placed :
    (r next seq a : ℕ) → 2 ^ 32 ≤ r → next ≡ wire r → seq < 2 ^ 32 → a ≡ (seq + (2 ^ 32 - next)) % 2 ^ 32
    → IsPlaced r seq (if nat_lt a (2 ^ 31) then a else 0) (if nat_lt a (2 ^ 31) then 0 else 2 ^ 32 - a)
placed r next seq a low e small d = by (nat_lt a (2 ^ 31)) refl where
  by : (test : Bool) → nat_lt a (2 ^ 31) ≡ test → IsPlaced r seq (if test then a else 0) (if test then 0 else 2 ^ 32 - a)
  by true t =
      let near = test_lt a (2 ^ 31) t in
      record { at = r + a; number = omega arith; near = (omega arith, omega arith); past_it = omega arith; before_it = omega arith }
  by false t =
      let far = test_ge a (2 ^ 31) t in
      record { at = r + a - 2 ^ 32; number = omega arith; near = (omega arith, omega arith); past_it = omega arith; before_it = omega arith }

-- what carries bytes has a number of 32 bits
pub seq_small : (s t : Side) (x : Segment) → HoldsBetween s t → Comes t x → IsData x.control → (length x.bytes ≡ 0 → ⊥) → x.seq < 2 ^ 32
seq_small s t x holds comes kind some = by (honest t s x holds.1 comes) where
  plain : (x.bytes ≡ []) ⊎ IsBelow s x → x.seq < 2 ^ 32
  plain (inl none) = absurd (some (ap length none))
  plain (inr below) = let number = below.number in omega arith

  from : IsPiece t x ⊎ (IsPlain s x ⊎ IsSyn t x) → x.seq < 2 ^ 32
  from (inl piece) = let number = piece.seq in omega arith
  from (inr (inl p)) = plain p.bytes
  from (inr (inr its_syn)) = absurd (subst IsData its_syn.syn kind)

  by : IsHonest t s x → x.seq < 2 ^ 32
  by (inl reset) = absurd (subst IsData reset kind)
  by (inr h) = from h.0

pub front-following : (map : List (Option ℕ)) → front (following map) ≡ []
front-following [] = refl
front-following (None ∷ map) = refl
front-following (Some byte ∷ map) = front-following map

-- BYTES

abbrev pub with_received : Core → ℕ → List ℕ → List (Option ℕ) → Core
with_received c next waiting map = record c { next = next; waiting = waiting; map = map }

pub takes_bytes :
    (c : Core) (s t : Side) (x : Segment) (past before next : ℕ) (waiting : List ℕ) (laid_map map : List (Option ℕ))
    → Comes t x → IsData x.control → accepts_data c.state ≡ true → IsPlaced (rcv_next s) x.seq past before
    → laid_map ≡ store c.map past (drop before x.bytes) → next ≡ (c.next + length (front laid_map)) % 2 ^ 32
    → waiting ≡ c.waiting ++ front laid_map → map ≡ following laid_map
    → FitsIn c.state c (unsent s) → HoldsBetween s t
    → Tied (with_received c next waiting map) (past_of s) t
takes_bytes c s t x past before next waiting laid_map map comes kind test offset is_laid is_next is_waiting is_map fits holds =
    let state = takes_in c.state test in
    let k = fits_connected c.state c (unsent s) state.connected fits in
    let same : laid_map ≡ laid s offset.at x.bytes =
    is_laid ∙ (ap (λ (m : List (Option ℕ)). store m past (drop before x.bytes)) k.map
    ∙ (ap (λ (n : ℕ). store s.window n (drop before x.bytes)) (sym offset.past_it) ∙
    ap (λ (n : ℕ). store s.window (offset.at - rcv_next s) (drop n x.bytes)) (sym offset.before_it))) in
    let may : MayTakeBytes s t x offset.at = record {
      running = k.phase ∙ state.phase;
      unfinished = k.side_finished ∙ state.finished;
      comes = comes;
      kind = kind;
      number = offset.number;
      near = offset.near;
    } in
    let same_front = ap front same in
    let size = ap length same_front in
    let all = length-append s.read s.waiting in
    let more = length-append s.waiting (front (laid s offset.at x.bytes)) in
    let whole = length-append s.read (s.waiting ++ front (laid s offset.at x.bytes)) in
    let was = k.next in
    let k' : IsConnectedAs (with_received c next waiting map) (unsent (after s (TakesBytes x offset.at))) = record {
      once = k.once;
      phase = k.phase;
      closed = k.closed;
      side_finished = k.side_finished;
      finished = k.finished;
      heard = k.heard;
      una = k.una;
      syn = k.syn;
      opened = k.opened;
      unopened = k.unopened;
      past_iss = k.past_iss;
      snd_max = k.snd_max;
      end = k.end;
      next = omega arith;
      queue = k.queue;
      waiting = is_waiting ∙ (ap (λ (bytes : List ℕ). bytes ++ front laid_map) k.waiting ∙ ap (λ (bytes : List ℕ). s.waiting ++ bytes) same_front);
      map = is_map ∙ ap following same;
      gap = ap front is_map ∙ front-following laid_map;
      listener = k.listener;
    } in
    tied_by _ _ s t (TakesBytes x offset.at) holds may refl (connected_fits c.state (with_received c next waiting map) _ state.connected k')

-- THE FIN

-- the state after a FIN
pub record Finishes (state : State) : Type 0 where
  pub connected : is_connected (after_fin state) ≡ true
  pub phase : phase_of (after_fin state) ≡ Synchronized
  pub closed : is_closed_in (after_fin state) ≡ is_closed_in state
  pub finished : is_finished_in (after_fin state) ≡ true
  pub owes : owes_fin (after_fin state) ≡ owes_fin state

pub finishes_in : (state : State) → accepts_data state ≡ true → Finishes state
finishes_in In.Established e = record { connected = refl; phase = refl; closed = refl; finished = refl; owes = refl }
finishes_in In.FinWait1 e = record { connected = refl; phase = refl; closed = refl; finished = refl; owes = refl }
finishes_in In.FinWait2 e = record { connected = refl; phase = refl; closed = refl; finished = refl; owes = refl }
finishes_in other e = absurd (cc)

abbrev pub with_fin_taken : Core → Core
with_fin_taken c = record c { state = after_fin c.state; next = (c.next + 1) % 2 ^ 32; took_fin = true }

pub takes_fin :
    (c : Core) (s t : Side) (x : Segment) → Comes t x → x.control ≡ Fin → accepts_data c.state ≡ true → c.syn_unacked ≡ false
    → (x.seq + length x.bytes) % 2 ^ 32 ≡ c.next → FitsIn c.state c (unsent s) → HoldsBetween s t
    → Tied (with_fin_taken c) (past_of s) t
takes_fin c s t x comes fin test acked offset fits holds =
    let state = takes_in c.state test in
    let new = finishes_in c.state test in
    let k = fits_connected c.state c (unsent s) state.connected fits in
    let open_yet = ap one_if (k.side_finished ∙ state.finished) in
    let was = k.next in
    let end = k.end in
    let snd_max = k.snd_max in
    let owes = ap one_if new.owes in
    let may : MayTakeFin s t x = record {
      running = k.phase ∙ state.phase;
      unfinished = k.side_finished ∙ state.finished;
      comes = comes;
      fin = fin;
      next = offset ∙ k.next;
    } in
    let k' : IsConnectedAs (with_fin_taken c) (unsent (after s (TakesFin x))) = record {
      once = k.once;
      phase = k.phase ∙ (state.phase ∙ sym new.phase);
      closed = k.closed ∙ sym new.closed;
      side_finished = sym new.finished;
      finished = sym new.finished;
      heard = k.heard;
      una = k.una;
      syn = k.syn;
      opened = inl acked;
      unopened = λ e. absurd (let clash : Synchronized ≡ SynReceived = sym new.phase ∙ e in cc);
      past_iss = k.past_iss;
      snd_max = omega arith;
      end = omega arith;
      next = omega arith;
      queue = k.queue;
      waiting = k.waiting;
      map = k.map;
      gap = k.gap;
      listener = k.listener;
    } in
    tied_by _ _ s t (TakesFin x) holds may refl (connected_fits (after_fin c.state) (with_fin_taken c) _ new.connected k')

-- WHAT ANSWERS

-- an acknowledgement so far past SND.UNA
abbrev pub ack_at : Core → ℕ → Segment
ack_at c n = record { control = Plain; seq = (c.una + n) % 2 ^ 32; ack = Some c.next; bytes = [] }

ack_number : (u n una : ℕ) → una ≡ wire u → wire (u + n) ≡ (una + n) % 2 ^ 32
ack_number u n una e = omega arith

pub sends_ack : (c : Core) (p : Past) (t : Side) (n : ℕ) → is_connected c.state ≡ true → Tied c p t → Tied c (with_sent p (ack_at c n)) t
sends_ack c p t n e r =
    let s = r.side in
    let k = fits_connected c.state c (unsent r.side) e r.fits in
    let same : bare_ack r.side (r.side.una + n) ≡ ack_at c n =
    ap (λ (m : ℕ). record { control = Plain; seq = m; ack = Some (wire (rcv_next r.side)); bytes = [] }) (ack_number r.side.una n c.una k.una)
    ∙ ap (λ (m : ℕ). record { control = Plain; seq = (c.una + n) % 2 ^ 32; ack = Some m; bytes = [] }) (sym k.next) in
    tied_by c (with_sent p (ack_at c n)) r.side t (SendsAck (r.side.una + n)) r.holds (is_connected_side c r.side k)
    (ap (λ (p : Past). with_sent p (bare_ack r.side (r.side.una + n))) r.past ∙ ap (λ (x : Segment). with_sent p x) same)
    r.fits

pub sends_reset : (c : Core) (p : Past) (t : Side) (x : Segment) → x.control ≡ Rst → Tied c p t → Tied c (with_sent p x) t
sends_reset c p t x e r =
    tied_by c (with_sent p x) r.side t (SendsReset x) r.holds e (ap (λ (p : Past). with_sent p x) r.past) r.fits
