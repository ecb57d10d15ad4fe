-- What an event of a side leaves of what it sent, and that its peer takes no more.
use Rattle.std.proofs.Common.{◌≡◌, ◌⊎◌, inl, inr, ℕ, suc, ◌+◌, ◌-◌, ◌%◌, ◌^◌, ◌<◌, ◌≤◌, ◌&&◌, nat_lt, Bool, true, false, List, [], ◌∷◌, ◌++◌}
use Rattle.std.proofs.Common.{length, take, drop, Option, Some, None, refl, sym, ap, ◌∙◌, subst, arith}
use Rattle.std.proofs.lemmas.Bool.{and_parts, lt-ltb, ltb-true}
use Rattle.std.specs.List.{AllByRecursion}
use Rattle.tcp_theory.specs.Invariant.{OneWay, HoldsBetween, IsEarly, HasNoStream}
use Rattle.tcp_theory.specs.Numbers.{wire}
use Rattle.tcp_theory.specs.ReceiveMap.{Begins, AgreesWith}
use Rattle.tcp_theory.specs.Segment.{Segment}
use Rattle.tcp_theory.specs.Side.{Side as Half, taken_in, send_queue, one_if as one_in}
use Rattle.tcp_theory.specs.Side.Opening.{NotYet}
use Rattle.tcp_theory.proofs.Lists.{Begins-grow, AgreesWith-drop-grow, AllByRecursion-map, AllByRecursion-push}
use Rattle.tcp_refinement.specs.Tie.{Core, Past, Keeps, IsConnectedAs, IsSideOf, IsUnopened, IsEnded, FitsIn, core_of, past_of, phase_of, unsent}
use Rattle.tcp_refinement.proofs.PromiseLemmas.{Shows, shows}
use Rattle.tcp_refinement.proofs.Tied.{fits_connected}
use Rattle.tcp_invariants.specs.State.{State}
use Rattle.tcp_invariants.specs.State.TheVariants as In
use Rattle.tcp_invariants.specs.States.{is_closed}
use Rattle.tcp_invariants.proofs.OrderSteps.{clash}
use Rattle.tcp_block.specs.TcbRules.{one_if, unacked}
use Rattle.tcp_block.specs.Value.{TcpValue, queued_in}
use Rattle.tcp_liveness.specs.Arrivals.{is_synchronized}
use Rattle.tcp_liveness.specs.Sent.{unsent_in, sent_in, end_in, size_of, IsBare, IsWithin, payload_sent, fin_sent, sent_past, KeepsSent, is_early, SendsAll}
use Rattle.tcp_liveness.proofs.Positions.{IsPlaced, placed, connected_in, same_one}
use Rattle.tcp_liveness.proofs.Shade.{Took, cut, holds_cut, take_more, take_whole, take_nothing}

-- STATES

pub not_early : (state : State) → is_closed state ≡ false → is_synchronized state ≡ false → is_early state ≡ true
not_early In.Closed e f = clash e
not_early In.Listen e f = refl
not_early In.SynSent e f = refl
not_early In.SynReceived e f = refl
not_early other e f = clash f

pub early_not : (state : State) → is_early state ≡ true → is_synchronized state ≡ false
early_not In.Listen e = refl
early_not In.SynSent e = refl
early_not In.SynReceived e = refl
early_not other e = clash (sym e)

pub on_not_closed : {A : Type 0} → (state : State) → is_synchronized state ≡ true → is_closed state ≡ true → A
on_not_closed In.Closed e f = clash (sym e)
on_not_closed other e f = clash (sym f)

-- A SIDE OF A SOCKET

-- before the connection is there nothing was written, and neither way is closed
early_phase : (state : State) (c : Core) (s : Half) → is_early state ≡ true → c.state ≡ state → FitsIn state c (unsent s) → IsEarly s.phase
early_phase In.Listen c s e at f = subst IsEarly (sym (ap (λ (x : Half). x.phase) f.side)) tt
early_phase In.SynSent c s e at f = subst IsEarly (sym f.phase) tt
early_phase In.SynReceived c s e at f = subst IsEarly (sym (f.phase ∙ ap phase_of at)) tt
early_phase other c s e at f = clash (sym e)

pub early_stream : (v w : TcpValue) (p q : Past) (k : Keeps v p w q) → is_early v.tcb.state ≡ true → HasNoStream k.side
early_stream v w p q k early = k.holds.0.well_formed.early (early_phase v.tcb.state (core_of v) k.side early refl k.fits)

-- an unopened side has no connection
pub unopened_off : {A : Type 0} → (v w : TcpValue) (p q : Past) → Keeps v p w q → p.opening ≡ NotYet → is_synchronized v.tcb.state ≡ true → A
unopened_off v w p q k first on =
    absurd ((fits_connected v.tcb.state (core_of v) (unsent k.side) (connected_in v.tcb.state on) k.fits).once
    (ap (λ (p : Past). p.opening) k.past ∙ first))

-- the map of a side is that of its socket, but before it is opened
window_of_side : (w : TcpValue) (t u : Half) (q : Past) → past_of t ≡ q → past_of u ≡ q → IsSideOf w t → IsSideOf w u → t.window ≡ u.window
window_of_side w t u q p r f g = by w.tcb.state f g where
  once : (state : State) (s : Half) → is_closed state ≡ false → FitsIn state (core_of w) (unsent s) → w.received.map ≡ s.window
  once In.Closed s e f = clash e
  once In.Listen s e f = f.blank.map ∙ sym (ap (λ (x : Half). x.window) f.side)
  once In.SynSent s e f = f.map
  once other s e f = f.map

  opening_same : t.opening ≡ u.opening
  opening_same = ap (λ (p : Past). p.opening) p ∙ sym (ap (λ (p : Past). p.opening) r)

  closed :
      IsUnopened (core_of w) (unsent t) ⊎ IsEnded (core_of w) (unsent t) → IsUnopened (core_of w) (unsent u) ⊎ IsEnded (core_of w) (unsent u)
      → t.window ≡ u.window
  closed (inl a) (inl b) = ap (λ (x : Half). x.window) a.side ∙ sym (ap (λ (x : Half). x.window) b.side)
  closed (inl a) (inr b) = absurd (b.once (sym opening_same ∙ ap (λ (x : Half). x.opening) a.side))
  closed (inr a) (inl b) = absurd (a.once (opening_same ∙ ap (λ (x : Half). x.opening) b.side))
  closed (inr a) (inr b) = sym a.map ∙ b.map

  by : (state : State) → FitsIn state (core_of w) (unsent t) → FitsIn state (core_of w) (unsent u) → t.window ≡ u.window
  by In.Closed f g = closed f g
  by In.Listen f g = sym (once In.Listen t refl f) ∙ once In.Listen u refl g
  by In.SynSent f g = sym (once In.SynSent t refl f) ∙ once In.SynSent u refl g
  by other f g = sym f.map ∙ g.map

-- what a side took shows in its socket
same_took :
    (w : TcpValue) (t u s r : Half) (q : Past) (written : List ℕ) (closed : Bool) → past_of t ≡ q → past_of u ≡ q → IsSideOf w t → IsSideOf w u
    → HoldsBetween t s → HoldsBetween u r → Took t written closed → Took u written closed
same_took w t u s r q written closed p e f g h i k = record {
  received = subst (λ (xs : List ℕ). Begins xs written) bytes k.received;
  held =
      subst (λ (map : List (Option ℕ)). AgreesWith map (drop (length (taken_in u)) written)) (window_of_side w t u q p e f g)
      (subst (λ (xs : List ℕ). AgreesWith t.window (drop (length xs) written)) bytes k.held);
  fin = λ fin. let it = k.fin (sym a.took_fin ∙ (b.took_fin ∙ fin)) in (it.0, sym bytes ∙ it.1);
}
  where
    a : Shows (core_of w) t
    a = shows (core_of w) t s h f

    b : Shows (core_of w) u
    b = shows (core_of w) u r i g

    read : t.read ≡ u.read
    read = ap (λ (p : Past). p.read) p ∙ sym (ap (λ (p : Past). p.read) e)

    bytes : taken_in t ≡ taken_in u
    bytes = ap (λ (xs : List ℕ). xs ++ t.waiting) read ∙ ap (λ (xs : List ℕ). u.read ++ xs) (sym a.waiting ∙ b.waiting)

-- WHAT WAS SENT, IN POSITIONS

-- a socket and its side
pub record IsSent (v : TcpValue) (s : Half) : Type 0 where
  pub una : s.una + v.tcb.sender.snd_max ≡ s.iss + sent_in v (past_of s)
  pub number : end_in v ≡ wire (s.iss + sent_in v (past_of s))
  pub few : sent_in v (past_of s) ≤ 2 ^ 30
  pub within : s.una ≤ s.iss + sent_in v (past_of s)

pub is_sent : (v : TcpValue) (s t : Half) → IsSideOf v s → HoldsBetween s t → is_synchronized v.tcb.state ≡ true → IsSent v s
is_sent v s t fits holds on = record {
  una = una;
  number = number s.una v.tcb.sender.una.0 v.tcb.sender.snd_max (s.iss + sent_in v (past_of s)) at.una una;
  few = few (length s.written) (one_if s.closed) (unsent_in v) holds.0.well_formed.short (at_most_one s.closed);
  within = low s.una v.tcb.sender.snd_max (s.iss + sent_in v (past_of s)) una;
}
  where
    at : IsPlaced v s
    at = placed v s fits holds.0.well_formed on

    at_most_one : (b : Bool) → one_if b ≤ 1
    at_most_one true = omega arith
    at_most_one false = omega arith

    sum : (una snd_max all iss written closed one : ℕ) → una + all ≡ suc iss + written + one → one ≡ closed → snd_max ≤ all → iss ≤ una
        → una + snd_max ≡ iss + (suc written + closed - (all - snd_max))
    sum una snd_max all iss written closed one a b c d = omega arith

    una : s.una + v.tcb.sender.snd_max ≡ s.iss + sent_in v (past_of s)
    una =
        sum s.una v.tcb.sender.snd_max (unacked v.tcb (queued_in v)) s.iss (length s.written) (one_if s.closed) (one_in s.closed) at.end
        (same_one s.closed) at.snd_max holds.0.well_formed.una_low

    number : (una una_number snd_max sent : ℕ) → una_number ≡ una % 2 ^ 32 → una + snd_max ≡ sent → (una_number + snd_max) % 2 ^ 32 ≡ sent % 2 ^ 32
    number una una_number snd_max sent a b = omega arith

    few : (written closed unsent : ℕ) → written < 2 ^ 29 → closed ≤ 1 → suc written + closed - unsent ≤ 2 ^ 30
    few written closed unsent a b = omega arith

    low : (una snd_max sent : ℕ) → una + snd_max ≡ sent → una ≤ sent
    low una snd_max sent a = omega arith

-- THE SOCKET BEHIND WHICH NO MORE WAS WRITTEN

shaded :
    (v w : TcpValue) (s t : Half) (q : Past) → IsSideOf v s → IsSideOf w t → HoldsBetween s t → past_of t ≡ q → is_synchronized v.tcb.state ≡ true
    → Took t (sent_past v (past_of s)).written (sent_past v (past_of s)).closed
    → AllByRecursion (IsWithin (sent_in v (past_of s)) (end_in v)) s.sent → KeepsSent v (past_of s) w q
shaded v w s t q fits peer_side_fits holds past on took all = record { socket = shade; keeps = keeps } where
  at : IsSent v s
  at = is_sent v s t fits holds on

  f : IsConnectedAs (core_of v) (unsent s)
  f = fits_connected v.tcb.state (core_of v) (unsent s) (connected_in v.tcb.state on) fits

  c : Half
  c = cut s (sent_past v (past_of s)).written (sent_past v (past_of s)).closed

  shade : TcpValue
  shade = record v { tcb = record v.tcb { state = In.Closed }; queued = record v.queued { queue = send_queue c } }

  ended : IsEnded (core_of shade) (unsent c)
  ended = record { once = f.once; phase = refl; took_fin = f.finished ∙ sym f.side_finished; queue = refl; waiting = f.waiting; map = f.map }

  keeps : Keeps w q shade (sent_past v (past_of s))
  keeps = record {
    side = t;
    peer_side = c;
    past = past;
    peer_side_past = refl;
    fits = peer_side_fits;
    peer_side_fits = inr ended;
    holds = holds_cut s t (sent_in v (past_of s)) (end_in v) at.number at.few holds.0.well_formed.short holds at.within took all;
  }

-- of two sockets that keep the invariant
pub shade_of :
    (v w : TcpValue) (p q : Past) (k : Keeps v p w q) → is_synchronized v.tcb.state ≡ true
    → Took k.peer_side (sent_past v p).written (sent_past v p).closed → AllByRecursion (IsWithin (sent_in v p) (end_in v)) p.sent → KeepsSent v p w q
shade_of v w p q k on =
    subst (λ (p : Past). Took k.peer_side (sent_past v p).written (sent_past v p).closed → AllByRecursion (IsWithin (sent_in v p) (end_in v)) p.sent →
    KeepsSent v p w q) k.past (shaded v w k.side k.peer_side q k.fits k.peer_side_fits k.holds k.peer_side_past on)

-- what it says of the peer
took_of : (v w : TcpValue) (p q : Past) (k : KeepsSent v p w q) → Took k.keeps.side (sent_past v p).written (sent_past v p).closed
took_of v w p q k =
    subst (λ (past : Past). Took k.keeps.side past.written past.closed) k.keeps.peer_side_past
    (record { received = out.received; held = out.held; fin = λ e. let f = out.fin e in (f.closed, f.whole) })
  where
    out : OneWay k.keeps.peer_side k.keeps.side
    out = k.keeps.holds.1

pub took_sent : (v w : TcpValue) (p q : Past) (k : Keeps v p w q) → KeepsSent v p w q → Took k.peer_side (sent_past v p).written (sent_past v p).closed
took_sent v w p q k sent =
    same_took w sent.keeps.side k.peer_side sent.keeps.peer_side k.side q (sent_past v p).written (sent_past v p).closed sent.keeps.past k.peer_side_past
    sent.keeps.fits k.peer_side_fits sent.keeps.holds (k.holds.1, k.holds.0) (took_of v w p q sent)

-- AN EVENT

abbrev pub OfOne : (Segment → Type 0) → Option Segment → Type 0
OfOne P None = Unit {0}
OfOne P (Some x) = P x

abbrev pub and_one : List Segment → Option Segment → List Segment
and_one sent None = sent
and_one sent (Some x) = sent ++ x ∷ []

-- more is sent, or as much, and what goes lies within it
pub record Proceeds (v : TcpValue) (p : Past) (new : TcpValue) (after : Past) (gone : Option Segment) : Type 0 where
  pub more : ℕ
  pub sent : sent_in new after ≡ sent_in v p + more
  pub ends : end_in new ≡ (end_in v + more) % 2 ^ 32
  pub written : (rest : List ℕ) × (after.written ≡ p.written ++ rest)
  pub closed : p.closed ≡ true → (after.closed ≡ true) × (after.written ≡ p.written)
  pub lies : OfOne (IsWithin (sent_in new after) (end_in new)) gone

-- what an event of the side does
pub record Moves (v : TcpValue) (p : Past) (new : TcpValue) (after : Past) : Type 0 where
  pub gone : Option Segment
  pub sent : after.sent ≡ and_one p.sent gone
  pub opening : after.opening ≡ NotYet → p.opening ≡ NotYet
  pub early : is_early new.tcb.state ≡ true → (is_early v.tcb.state ≡ true) ⊎ (p.opening ≡ NotYet)
  pub dead : is_closed v.tcb.state ≡ true → is_synchronized new.tcb.state ≡ true → ⊥
  pub bare : is_synchronized v.tcb.state ≡ false → OfOne IsBare gone
  pub written : is_synchronized v.tcb.state ≡ false → after.written ≡ p.written
  pub goes : is_synchronized v.tcb.state ≡ true → is_synchronized new.tcb.state ≡ true → Proceeds v p new after gone

all_with : (P : Segment → Type 0) (sent : List Segment) (gone : Option Segment) → AllByRecursion P sent → OfOne P gone → AllByRecursion P (and_one sent gone)
all_with P sent None all one = all
all_with P sent (Some x) all one = AllByRecursion-push P sent x all one

bare_within : (sent end : ℕ) (gone : Option Segment) → OfOne IsBare gone → OfOne (IsWithin sent end) gone
bare_within sent end None b = tt
bare_within sent end (Some x) b = inl b

further_on :
    (seq offset sent end more : ℕ) → offset ≤ sent → (seq + (sent - offset)) % 2 ^ 32 ≡ end
    → (seq + (sent + more - offset)) % 2 ^ 32 ≡ (end + more) % 2 ^ 32
further_on seq offset sent end more a b = omega arith

-- what lies within less lies within more
still_within : (sent end more : ℕ) (x : Segment) → IsWithin sent end x → IsWithin (sent + more) ((end + more) % 2 ^ 32) x
still_within sent end more x (inl bare) = inl bare
still_within sent end more x (inr l) = inr (record {
  at = l.at;
  within = longer l.at (size_of x) l.within;
  number = further_on x.seq l.at sent end more (first l.at (size_of x) l.within) l.number;
})
  where
    longer : (a b : ℕ) → a + b ≤ sent → a + b ≤ sent + more
    longer a b e = omega arith

    first : (a b : ℕ) → a + b ≤ sent → a ≤ sent
    first a b e = omega arith

-- so is what was taken of it
still_took :
    (t : Half) (sent more : ℕ) (written after : List ℕ) (closed closes : Bool) → ((rest : List ℕ) × (after ≡ written ++ rest))
    → (closed ≡ true → (closes ≡ true) × (after ≡ written))
    → Took t (payload_sent sent written) (fin_sent sent written closed) → Took t (payload_sent (sent + more) after) (fin_sent (sent + more) after closes)
still_took t sent more written after closed closes grown stays k = record {
  received = subst (λ (xs : List ℕ). Begins (taken_in t) xs) (sym longer.1) (Begins-grow (taken_in t) (payload_sent sent written) longer.0 k.received);
  held =
      subst (λ (xs : List ℕ). AgreesWith t.window (drop (length (taken_in t)) xs)) (sym longer.1)
      (AgreesWith-drop-grow (length (taken_in t)) t.window (payload_sent sent written) longer.0 k.held);
  fin = λ e.
      let f = k.fin e in
      let both = and_parts closed (nat_lt (suc (length written)) sent) f.0 in
      let s = stays both.0 in
      let past = ltb-true (suc (length written)) sent both.1 in (
        ap (λ (t : Bool). t && nat_lt (suc (length after)) (sent + more)) s.0
            ∙ lt-ltb (suc (length after)) (sent + more) (subst (λ (xs : List ℕ). suc (length xs) < sent + more) (sym s.1) (more_still (length written) past)),
        f.1
            ∙ (take_whole (sent - 1) written (whole (length written) past)
            ∙ (sym s.1
            ∙ sym (take_whole (sent + more - 1) after (subst (λ (xs : List ℕ). length xs ≤ sent + more - 1) (sym s.1) (whole_still (length written) past))))),
      );
}
  where
    less : (a b : ℕ) → a - 1 ≤ a + b - 1
    less a b = omega arith

    longer : (rest : List ℕ) × (payload_sent (sent + more) after ≡ payload_sent sent written ++ rest)
    longer =
        let it = take_more (sent - 1) (sent + more - 1) written grown.0 (less sent more) in
        (it.0, ap (λ (xs : List ℕ). take (sent + more - 1) xs) grown.1 ∙ it.1)

    more_still : (n : ℕ) → suc n < sent → suc n < sent + more
    more_still n e = omega arith

    whole : (n : ℕ) → suc n < sent → n ≤ sent - 1
    whole n e = omega arith

    whole_still : (n : ℕ) → suc n < sent → n ≤ sent + more - 1
    whole_still n e = omega arith

module _ (v new w : TcpValue) (p after q : Past) (k : Keeps v p w q) (l : Keeps new after w q) (m : Moves v p new after) (old : SendsAll v p w q) where
  all_bare : AllByRecursion IsBare p.sent → is_synchronized v.tcb.state ≡ false → AllByRecursion IsBare after.sent
  all_bare all off = subst (λ (xs : List Segment). AllByRecursion IsBare xs) (sym m.sent) (all_with IsBare p.sent m.gone all (m.bare off))

  off_at_first : p.opening ≡ NotYet → is_synchronized v.tcb.state ≡ false
  off_at_first first = by (is_synchronized v.tcb.state) refl where
    by : (on : Bool) → is_synchronized v.tcb.state ≡ on → on ≡ false
    by true e = unopened_off v w p q k first e
    by false e = refl

  -- where the connection is there just now
  began : is_synchronized v.tcb.state ≡ false → is_synchronized new.tcb.state ≡ true → is_early v.tcb.state ≡ true
  began off on = not_early v.tcb.state (by (is_closed v.tcb.state) refl) off where
    by : (closed : Bool) → is_closed v.tcb.state ≡ closed → closed ≡ false
    by true e = absurd (m.dead e on)
    by false e = refl

  within : is_synchronized new.tcb.state ≡ true → AllByRecursion (IsWithin (sent_in new after) (end_in new)) after.sent
  within on = by (is_synchronized v.tcb.state) refl where
    by : (was : Bool) → is_synchronized v.tcb.state ≡ was → AllByRecursion (IsWithin (sent_in new after) (end_in new)) after.sent
    by true was =
        let g = m.goes was on in
        subst (λ (xs : List Segment). AllByRecursion (IsWithin (sent_in new after) (end_in new)) xs) (sym m.sent)
        (all_with (IsWithin (sent_in new after) (end_in new)) p.sent m.gone
        (AllByRecursion-map (IsWithin (sent_in v p) (end_in v)) (IsWithin (sent_in new after) (end_in new))
        (λ x in_old.
        subst (λ (n : ℕ). IsWithin n (end_in new) x) (sym g.sent)
        (subst (λ (n : ℕ). IsWithin (sent_in v p + g.more) n x) (sym g.ends) (still_within (sent_in v p) (end_in v) g.more x in_old)))
        p.sent (old.within was))
        g.lies)
    by false was =
        AllByRecursion-map IsBare (IsWithin (sent_in new after) (end_in new)) (λ x bare. inl bare) after.sent
        (all_bare (old.early (began was on)) was)

  -- then nothing was taken
  took_nothing : is_synchronized v.tcb.state ≡ false → is_synchronized new.tcb.state ≡ true →
      Took l.peer_side (sent_past new after).written (sent_past new after).closed
  took_nothing was on = record {
    received = subst (λ (xs : List ℕ). Begins (taken_in l.peer_side) xs) (unwritten ∙ sym none) l.holds.0.received;
    held = subst (λ (xs : List ℕ). AgreesWith l.peer_side.window (drop (length (taken_in l.peer_side)) xs)) (unwritten ∙ sym none) l.holds.0.held;
    fin = λ e. absurd (no_fin (sym before.took_fin ∙ (now.took_fin ∙ e)));
  }
    where
      stream : HasNoStream k.side
      stream = early_stream v w p q k (began was on)

      before : Shows (core_of w) k.peer_side
      before = shows (core_of w) k.peer_side k.side (k.holds.1, k.holds.0) k.peer_side_fits

      now : Shows (core_of w) l.peer_side
      now = shows (core_of w) l.peer_side l.side (l.holds.1, l.holds.0) l.peer_side_fits

      no_fin : k.peer_side.took_fin ≡ true → ⊥
      no_fin e = absurd (let clashes : true ≡ false = sym (k.holds.0.fin e).closed ∙ stream.2 in cc)

      empty : after.written ≡ []
      empty = m.written was ∙ (sym (ap (λ (p : Past). p.written) k.past) ∙ stream.0)

      unwritten : l.side.written ≡ []
      unwritten = ap (λ (p : Past). p.written) l.past ∙ empty

      none : (sent_past new after).written ≡ []
      none = take_nothing (sent_in new after - 1) after.written empty

  took : is_synchronized new.tcb.state ≡ true → Took l.peer_side (sent_past new after).written (sent_past new after).closed
  took on = by (is_synchronized v.tcb.state) refl where
    by : (was : Bool) → is_synchronized v.tcb.state ≡ was → Took l.peer_side (sent_past new after).written (sent_past new after).closed
    by true was =
        let g = m.goes was on in
        let t = old.keeps was in
        same_took w t.keeps.side l.peer_side t.keeps.peer_side l.side q (sent_past new after).written (sent_past new after).closed t.keeps.past l.peer_side_past
        t.keeps.fits l.peer_side_fits t.keeps.holds (l.holds.1, l.holds.0)
        (subst (λ (n : ℕ). Took t.keeps.side (payload_sent n after.written) (fin_sent n after.written after.closed)) (sym g.sent)
        (still_took t.keeps.side (sent_in v p) g.more p.written after.written p.closed after.closed g.written g.closed (took_of v w p q t)))
    by false was = took_nothing was on

  pub own_step : SendsAll new after w q
  own_step = record {
    unopened = λ first. let it = m.opening first in all_bare (old.unopened it) (off_at_first it);
    early = λ e. by (m.early e);
    within = within;
    keeps = λ on. shade_of new w after q l on (took on) (within on);
  }
    where
      by : (is_early v.tcb.state ≡ true) ⊎ (p.opening ≡ NotYet) → AllByRecursion IsBare after.sent
      by (inl e) = all_bare (old.early e) (early_not v.tcb.state e)
      by (inr first) = all_bare (old.unopened first) (off_at_first first)
