-- Two sides, each honest to the other since what came was sent by the other: by induction over the joint history.
use Rattle.std.proofs.Common.{◌≡◌, ◌⊎◌, inl, inr, ℕ, suc, ◌+◌, ◌^◌, ◌<◌, ◌≤◌, nat_lt, Bool, true, false, List, [], ◌∷◌, ◌++◌, length, Some, None}
use Rattle.std.proofs.Common.{slice_get, refl, sym, ap, ◌∙◌, subst, arith, length-append}
use Rattle.std.specs.List.{AllByRecursion}
use Rattle.tcp_theory.specs.Alone.{AreResets, unopened}
use Rattle.tcp_theory.specs.Numbers.{IsFirst}
use Rattle.tcp_theory.specs.Segment.{Segment, IsNoReset}
use Rattle.tcp_theory.specs.Side.{Side, taken_in, rcv_next, one_if, freed}
use Rattle.tcp_theory.specs.Side.Opening.{NotYet, Passive}
use Rattle.tcp_theory.specs.Move.{Move, May, after}
use Rattle.tcp_theory.specs.Safe.{IsSafe}
use Rattle.tcp_theory.specs.Invariant.{HasReached}
use Rattle.tcp_theory.proofs.Lists.{AllByRecursion-at, AllByRecursion-map, AllByRecursion-push}
use Rattle.tcp_theory.proofs.Grows.{Grows}
use Rattle.tcp_theory.proofs.Calls.{one_if-small}
use Rattle.tcp_peer.specs.Peer.{IsEnd, IsAcknowledged, HasAckedTo, counted, IsHonest, as_end}
use Rattle.tcp_peer.specs.Run.{Scene, Event, IsRun, run, start, happens}
use Rattle.tcp_peer.specs.Run.Event.{Comes, Does}
use Rattle.tcp_peer.specs.Safe.{IsSafeBeside}
use Rattle.tcp_peer.proofs.Converts.{counted-wire}
use Rattle.tcp_peer.proofs.Learns.{test_lt, test_ge}
use Rattle.tcp_peer.proofs.Safety.{runs_safe}
use Rattle.tcp_net.specs.Joint.{Joint, Step, WasSent, MayDo, MayStep, steps, IsHistory, play, begin}
use Rattle.tcp_net.specs.Joint.Step.{A, B}
use Rattle.tcp_net.proofs.Oneself.{IsLocal, IsOneself}
use Rattle.tcp_net.specs.Peers.{ArePeers}
use Rattle.tcp_net.proofs.OneselfRuns.{own_run}
use Rattle.tcp_net.proofs.Grown.{Hears, sent_is_local, grows_move, hears_move, hears_peer, sent_move}
use Rattle.tcp_net.proofs.Honest.{end_with, Heard, honest_grows, honest_heard, honest_same, honest_unheard, another}
use Rattle.tcp_net.proofs.Runs.{run-last, IsRun-last, AllCome, AllCome-map, AllCome-does, AllCome-comes, IsRun-map}

-- one side's part of a joint history, beside what its peer is by now: the run is one beside an honest peer, from whichever SYN that
-- counts as long as it took none
pub record IsHalf (room : ℕ) (resets : List Segment) (s : Scene) (t : Side) : Type 0 where
  pub events : List Event
  pub here : run (start room resets) events ≡ s
  pub honest : (heard : ℕ) → IsFirst heard → Heard t heard → IsRun (end_with t heard) (start room resets) events
  pub coming : AllCome (WasSent t) events
  pub came : AllByRecursion (WasSent t) s.came
  pub own : IsOneself s.side
  pub hears : Hears s.side t

is_end : (t : Side) (heard : ℕ) → IsOneself t → IsFirst heard → IsEnd (end_with t heard)
is_end t heard own first = record { first = own.well_formed.iss; heard = first; short = own.well_formed.short }

-- a SYN that it counts from
pub record IsHeard (t : Side) : Type 0 where
  pub heard : ℕ
  pub first : IsFirst heard
  pub fits : Heard t heard

heard_low : (t : Side) (n : ℕ) → (t.irs < 2 ^ 32) ⊎ (2 ^ 32 ≤ t.irs)
heard_low t n = by (nat_lt t.irs (2 ^ 32)) refl where
  by : (b : Bool) → nat_lt t.irs (2 ^ 32) ≡ b → (t.irs < 2 ^ 32) ⊎ (2 ^ 32 ≤ t.irs)
  by true e = inl (test_lt t.irs (2 ^ 32) e)
  by false e = inr (test_ge t.irs (2 ^ 32) e)

is_heard : (t : Side) → IsOneself t → IsHeard t
is_heard t own = by (heard_low t 0) where
  by : (t.irs < 2 ^ 32) ⊎ (2 ^ 32 ≤ t.irs) → IsHeard t
  by (inl none) = record { heard = 2 ^ 32; first = (omega arith, omega arith); fits = inl none }
  by (inr low) = record { heard = t.irs; first = (low, own.well_formed.irs); fits = inr refl }

module _ (room : ℕ) (resets : List Segment) (are_resets : AreResets resets) where
  -- THE ONE-SIDED THEOREM

  safe_at : (s : Scene) (t : Side) → IsOneself t → IsHalf room resets s t → (heard : ℕ) → IsFirst heard → Heard t heard → IsSafeBeside (end_with t heard) s
  safe_at s t own half heard first fits =
      subst (IsSafeBeside (end_with t heard)) half.here
      (runs_safe (end_with t heard) room resets half.events (is_end t heard own first) are_resets (half.honest heard first fits))

  own_at : (s : Scene) (t : Side) → IsOneself t → (events : List Event) → run (start room resets) events ≡ s →
      ((heard : ℕ) → IsFirst heard → Heard t heard → IsRun (end_with t heard) (start room resets) events)
      → IsOneself s.side
  own_at s t own events here honest =
      let h = is_heard t own in
      subst (λ (w : Scene). IsOneself w.side) here (own_run (end_with t h.heard) room resets events (is_end t h.heard own h.first) are_resets (honest h.heard h.first h.fits))

  -- A MOVE OF THIS SIDE

  half_moves : (s : Scene) (t : Side) (move : Move) → IsOneself t → IsHalf room resets s t → May s.side (unopened 0 s.came) move →
      IsHalf room resets (happens s (Does move)) t
  half_moves s t move own half may = record {
    events = half.events ++ Does move ∷ [];
    here = here;
    honest = honest;
    coming = AllCome-does (WasSent t) half.events move half.coming;
    came = half.came;
    own = own_at (happens s (Does move)) t own (half.events ++ Does move ∷ []) here honest;
    hears = hears_move s.side t s.came half.own.well_formed half.hears half.came own move may;
  } where
    here : run (start room resets) (half.events ++ Does move ∷ []) ≡ happens s (Does move)
    here = run-last (start room resets) half.events (Does move) ∙ ap (λ (w : Scene). happens w (Does move)) half.here

    honest : (heard : ℕ) → IsFirst heard → Heard t heard → IsRun (end_with t heard) (start room resets) (half.events ++ Does move ∷ [])
    honest heard first fits =
        IsRun-last (end_with t heard) (start room resets) half.events (Does move) (half.honest heard first fits)
        (subst (λ (w : Scene). May w.side (unopened 0 w.came) move) (sym half.here) may)

  -- A MOVE OF ITS PARTNER

  still_heard : (t t' : Side) (heard : ℕ) → Grows t t' → Heard t' heard → Heard t heard
  still_heard t t' heard grows fits = by (heard_low t 0) fits where
    by : (t.irs < 2 ^ 32) ⊎ (2 ^ 32 ≤ t.irs) → (t'.irs < 2 ^ 32) ⊎ (heard ≡ t'.irs) → (t.irs < 2 ^ 32) ⊎ (heard ≡ t.irs)
    by (inl none) fits = inl none
    by (inr low) (inr same) = inr (same ∙ (grows.taken low).0)
    by (inr low) (inl none) = absurd (let stays = (grows.taken low).0 in omega arith)

  half_peer : (s : Scene) (t t' : Side) → IsOneself t → Grows t t' → ((x : Segment) → WasSent t x → WasSent t' x) → IsHalf room resets s t → IsHalf room resets s t'
  half_peer s t t' own grows more half = record {
    events = half.events;
    here = half.here;
    honest =
        λ heard first fits.
        IsRun-map (end_with t heard) (end_with t' heard) (WasSent t)
        (λ x sent other theirs says. honest_grows t t' heard grows own.well_formed other theirs x (sent_is_local t x own sent) says)
        (start room resets) half.events half.coming
        (half.honest heard first (still_heard t t' heard grows fits));
    coming = AllCome-map (WasSent t) (WasSent t') more half.events half.coming;
    came = AllByRecursion-map (WasSent t) (WasSent t') more s.came half.came;
    own = half.own;
    hears = hears_peer s.side t t' grows half.hears;
  }

-- WHAT COMES IS HONEST

no_ack_of : (t : Side) (x : Segment) (number : ℕ) → t.irs < 2 ^ 32 → IsNoReset x.control → x.ack ≡ Some number → IsLocal t x → ⊥
no_ack_of t x number none no_reset e (inl reset) = subst IsNoReset reset no_reset
no_ack_of t x number none no_reset e (inr own) = by own.1 where
  by : (x.ack ≡ None) ⊎ ((n : ℕ) × (x.ack ≡ Some n) × HasReached t n) → ⊥
  by (inl bare) = absurd (let clash : Some number ≡ None = sym e ∙ bare in cc)
  by (inr some) = absurd (let low = some.2.heard in omega arith)

-- an acknowledgement is of what its side has reached
reached_of : (t : Side) (x : Segment) (number : ℕ) → IsNoReset x.control → x.ack ≡ Some number → IsLocal t x → HasReached t number
reached_of t x number no_reset e (inl reset) = absurd (subst IsNoReset reset no_reset)
reached_of t x number no_reset e (inr own) = by own.1 where
  by : (x.ack ≡ None) ⊎ ((n : ℕ) × (x.ack ≡ Some n) × HasReached t n) → HasReached t number
  by (inl none) = absurd (let clash : Some number ≡ None = sym e ∙ none in cc)
  by (inr some) =
      let both : Some some.0 ≡ Some number = sym some.1 ∙ e in
      let same : some.0 ≡ number = cc in
      subst (HasReached t) same some.2

-- t's half: what it sent is honest to s, which sent what came there
module _ (room : ℕ) (resets : List Segment) (are_resets : AreResets resets) (t : Scene) (s : Side) (own_s : IsOneself s) (half : IsHalf room resets t s) where
  -- what came there acknowledges what s acknowledged
  acks_were_sent : (number : ℕ) → IsAcknowledged t.came number → IsAcknowledged s.sent number
  acks_were_sent number a = by (AllByRecursion-at (WasSent s) t.came a.offset a.segment half.came a.among) where
    by : WasSent s a.segment → IsAcknowledged s.sent number
    by (inl reset) = absurd (subst IsNoReset reset a.no_reset)
    by (inr sent) = record { offset = sent.0; segment = a.segment; among = sent.1; no_reset = a.no_reset; acks = a.acks }

  never_acked : s.irs < 2 ^ 32 → (number : ℕ) → IsAcknowledged t.came number → ⊥
  never_acked none number a =
      no_ack_of s a.segment number none a.no_reset a.acks (sent_is_local s a.segment own_s (AllByRecursion-at (WasSent s) t.came a.offset a.segment half.came a.among))

  says : (heard : ℕ) → IsFirst heard → Heard s heard → (x : Segment) → (k : ℕ) → slice_get t.side.sent k ≡ Some x →
      IsHonest (as_end t.side) (end_with s heard) t.came x
  says heard first fits x k e =
      AllByRecursion-at (IsHonest (as_end t.side) (end_with s heard) t.came) t.side.sent k x (safe_at room resets are_resets t s own_s half heard first fits).honest e

  -- to the end that s is now, with what s sent or with what came of it
  pub honest_to : (theirs : List Segment) → ((number : ℕ) → IsAcknowledged t.came number → IsAcknowledged theirs number) → (x : Segment) (k : ℕ) →
      slice_get t.side.sent k ≡ Some x → IsHonest (as_end t.side) (as_end s) theirs x
  honest_to theirs more x k e = by (heard_low s 0) where
    by : (s.irs < 2 ^ 32) ⊎ (2 ^ 32 ≤ s.irs) → IsHonest (as_end t.side) (as_end s) theirs x
    by (inr low) = honest_same (as_end t.side) s t.came theirs x more (says s.irs (low, own_s.well_formed.irs) (inr refl) x k e)
    by (inl none) =
        let h = another t.side.iss (2 ^ 32 + x.seq) in
        honest_unheard (as_end t.side) s t.came theirs x h.first h.is_first h.not_p h.not_q (never_acked none) (says h.first h.is_first (inl none) x k e)

  pub comes_honest : (heard : ℕ) → Heard t.side heard → (x : Segment) → WasSent t.side x → IsHonest (end_with t.side heard) (as_end s) s.sent x
  comes_honest heard fits x (inl reset) = inl reset
  comes_honest heard fits x (inr sent) =
      honest_heard t.side heard (as_end s) s.sent x fits (sent_is_local t.side x half.own (inr sent)) (honest_to s.sent acks_were_sent x sent.0 sent.1)

module _ (room_s room_t : ℕ) (resets_s resets_t : List Segment) (are_s : AreResets resets_s) (are_t : AreResets resets_t) where
  half_comes : (s t : Scene) (x : Segment) → IsHalf room_s resets_s s t.side → IsHalf room_t resets_t t s.side → WasSent t.side x →
      IsHalf room_s resets_s (happens s (Comes x)) t.side
  half_comes s t x half other sent = record {
    events = half.events ++ Comes x ∷ [];
    here = run-last (start room_s resets_s) half.events (Comes x) ∙ ap (λ (w : Scene). happens w (Comes x)) half.here;
    honest =
        λ heard first fits.
        IsRun-last (end_with t.side heard) (start room_s resets_s) half.events (Comes x) (half.honest heard first fits)
        (subst (λ (w : Scene). IsHonest (end_with t.side heard) (as_end w.side) w.side.sent x) (sym half.here)
        (comes_honest room_t resets_t are_t t s.side half.own other heard fits x sent));
    coming = AllCome-comes (WasSent t.side) half.events x half.coming sent;
    came = AllByRecursion-push (WasSent t.side) s.came x half.came sent;
    own = half.own;
    hears = half.hears;
  }

  pub both_event : (s t : Scene) (event : Event) → IsHalf room_s resets_s s t.side × IsHalf room_t resets_t t s.side → MayDo s t.side event →
      IsHalf room_s resets_s (happens s event) t.side × IsHalf room_t resets_t t (happens s event).side
  both_event s t (Comes x) both sent = (half_comes s t x both.0 both.1 sent, both.1)
  both_event s t (Does move) both may =
      let own_s = both.0.own in
      let own_t = both.1.own in
      let grows = grows_move s.side t.side s.came own_s.well_formed both.0.hears both.0.came own_t move may in (
        half_moves room_s resets_s are_s s t.side move own_t both.0 may,
        half_peer room_t resets_t are_t t s.side (after s.side move) own_s grows (sent_move s.side move) both.1,
      )

  -- WHAT IS PROMISED

  module _ (s t : Scene) (half : IsHalf room_s resets_s s t.side) (other : IsHalf room_t resets_t t s.side) where
    at : (heard : ℕ) → IsFirst heard → Heard t.side heard → IsSafeBeside (end_with t.side heard) s
    at = safe_at room_s resets_s are_s s t.side other.own half

    safe : IsSafeBeside (end_with t.side (is_heard t.side other.own).heard) s
    safe = let h = is_heard t.side other.own in at h.heard h.first h.fits

    each : (P : Segment → Type 0) (xs : List Segment) → ((x : Segment) (k : ℕ) → slice_get xs k ≡ Some x → P x) → AllByRecursion P xs
    each P [] holds = tt
    each P (x ∷ xs) holds = (holds x 0 refl, each P xs (λ y k e. holds y (suc k) e))

    freed_beside : (freed s.side ≡ 0) ⊎ ((t.side.irs ≡ s.side.iss) × HasAckedTo (as_end t.side) s.came (suc s.side.iss + freed s.side))
    freed_beside = by (heard_low t.side 0) where
      by : (t.side.irs < 2 ^ 32) ⊎ (2 ^ 32 ≤ t.side.irs) →
          (freed s.side ≡ 0) ⊎ ((t.side.irs ≡ s.side.iss) × HasAckedTo (as_end t.side) s.came (suc s.side.iss + freed s.side))
      by (inr low) = (at t.side.irs (low, other.own.well_formed.irs) (inr refl)).freed
      by (inl none) = let h = another s.side.iss 0 in unheard h.not_p (at h.first h.is_first (inl none)).freed where
        unheard : {h : ℕ} → (h ≡ s.side.iss → ⊥) → (freed s.side ≡ 0) ⊎ ((h ≡ s.side.iss) × HasAckedTo (end_with t.side h) s.came (suc s.side.iss + freed s.side)) →
            (freed s.side ≡ 0) ⊎ ((t.side.irs ≡ s.side.iss) × HasAckedTo (as_end t.side) s.came (suc s.side.iss + freed s.side))
        unheard not_p (inl nothing) = inl nothing
        unheard not_p (inr some) = absurd (not_p some.0)

    pub beside : IsSafeBeside (as_end t.side) s
    beside = record {
      prefix = safe.prefix;
      finished = safe.finished;
      freed = freed_beside;
      honest =
          each (IsHonest (as_end s.side) (as_end t.side) s.came) s.side.sent
          (honest_to room_s resets_s are_s s t.side other.own half s.came (λ number a. a));
    }

  -- what is freed was taken in: an acknowledgement is of what its sender has reached
  module _ (s t : Scene) (half : IsHalf room_s resets_s s t.side) (own : IsOneself t.side) (short : length s.side.written < 2 ^ 29)
      (reader : IsSafeBeside (as_end s.side) t) where
    shorter : length (taken_in t.side) ≤ length s.side.written
    shorter = let cut = ap length reader.prefix.1 in let sum = length-append (taken_in t.side) reader.prefix.0 in omega arith

    reached : (to : HasAckedTo (as_end t.side) s.came (suc s.side.iss + freed s.side)) → suc s.side.iss + freed s.side ≤ rcv_next t.side
    reached to =
        let a = to.acknowledged in
        let sent = AllByRecursion-at (WasSent t.side) s.came a.offset a.segment half.came a.among in
        let h : HasReached t.side to.number = reached_of t.side a.segment to.number a.no_reset a.acks (sent_is_local t.side a.segment own sent) in
        let past = h.after_syn in
        let high = h.high in
        let fin = one_if-small t.side.took_fin in
        let size = shorter in
        let position : counted t.side.irs to.number ≡ h.at = ap (λ (n : ℕ). counted t.side.irs n) h.same ∙ counted-wire t.side.irs h.at (omega arith) (omega arith) in
        let far = to.far in
        omega (arith, far, position, high)

    freed_taken : (freed s.side ≡ 0) ⊎ ((t.side.irs ≡ s.side.iss) × HasAckedTo (as_end t.side) s.came (suc s.side.iss + freed s.side)) →
        freed s.side ≤ length (taken_in t.side)
    freed_taken (inl none) = omega arith
    freed_taken (inr some) = by t.side.took_fin refl where
      by : (fin : Bool) → t.side.took_fin ≡ fin → freed s.side ≤ length (taken_in t.side)
      by true e = let same = ap length (reader.finished e).1 in omega arith
      by false e = let counts = some.0 in let none = ap one_if e in let bound = reached some.1 in omega (arith, bound)

  stream_safe : (s t : Scene) → IsHalf room_s resets_s s t.side → IsOneself t.side → length s.side.written < 2 ^ 29 → IsSafeBeside (as_end t.side) s →
      IsSafeBeside (as_end s.side) t → IsSafe s.side t.side
  stream_safe s t half own short writer reader =
      record { prefix = reader.prefix; freed = freed_taken s t half own short reader writer.freed; finished = reader.finished }

-- a side that isn't opened, beside any
pub half_begins : (room : ℕ) (resets : List Segment) → AreResets resets → (t : Side) → IsHalf room resets (start room resets) t
half_begins room resets are t = record {
  events = [];
  here = refl;
  honest = λ heard first fits. tt;
  coming = tt;
  came = tt;
  own = own_run (record { first = 2 ^ 32; stream = []; ends = false; heard = 2 ^ 32 }) room resets []
      (record { first = (omega arith, omega arith); heard = (omega arith, omega arith); short = omega arith }) are tt;
  hears = λ (e : NotYet ≡ Passive). absurd (cc);
}

-- a side that is its own peer
pub half_self : (room : ℕ) (resets : List Segment) → AreResets resets → (s : Scene) (event : Event) → IsHalf room resets s s.side → MayDo s s.side event →
    IsHalf room resets (happens s event) (happens s event).side
half_self room resets are s (Comes x) half sent = half_comes room room resets resets are are s s x half half sent
half_self room resets are s (Does move) half may =
    let grows = grows_move s.side s.side s.came half.own.well_formed half.hears half.came half.own move may in
    half_peer room resets are (happens s (Does move)) s.side (after s.side move) half.own grows (sent_move s.side move)
    (half_moves room resets are s s.side move half.own half may)

-- THE HISTORY

module _ (room_a room_b : ℕ) (resets_a resets_b : List Segment) (are_a : AreResets resets_a) (are_b : AreResets resets_b) where
  halves_step : (w : Joint) (step : Step) → IsHalf room_a resets_a w.a w.b.side × IsHalf room_b resets_b w.b w.a.side → MayStep w step →
      IsHalf room_a resets_a (steps w step).a (steps w step).b.side × IsHalf room_b resets_b (steps w step).b (steps w step).a.side
  halves_step w (A event) both may = both_event room_a room_b resets_a resets_b are_a are_b w.a w.b event both may
  halves_step w (B event) both may =
      let swapped = both_event room_b room_a resets_b resets_a are_b are_a w.b w.a event (both.1, both.0) may in (swapped.1, swapped.0)

  halves_play : (w : Joint) (history : List Step) → IsHalf room_a resets_a w.a w.b.side × IsHalf room_b resets_b w.b w.a.side → IsHistory w history →
      IsHalf room_a resets_a (play w history).a (play w history).b.side × IsHalf room_b resets_b (play w history).b (play w history).a.side
  halves_play w [] both is = both
  halves_play w (step ∷ rest) both is = halves_play (steps w step) rest (halves_step w step both is.0) is.1

  pub peers : (w : Joint) → IsHalf room_a resets_a w.a w.b.side × IsHalf room_b resets_b w.b w.a.side → ArePeers w
  peers w both =
      let own_a = both.0.own in
      let own_b = both.1.own in
      let a = beside room_a room_b resets_a resets_b are_a are_b w.a w.b both.0 both.1 in
      let b = beside room_b room_a resets_b resets_a are_b are_a w.b w.a both.1 both.0 in
      record {
        a = a;
        b = b;
        streams = (
          stream_safe room_a room_b resets_a resets_b are_a are_b w.a w.b both.0 own_b own_a.well_formed.short a b,
          stream_safe room_b room_a resets_b resets_a are_b are_a w.b w.a both.1 own_a own_b.well_formed.short b a,
        );
      }

  pub peers_play : (history : List Step) → IsHistory (begin room_a room_b resets_a resets_b) history → ArePeers (play (begin room_a room_b resets_a resets_b) history)
  peers_play history is =
      let w = begin room_a room_b resets_a resets_b in
      peers (play w history)
      (halves_play w history (half_begins room_a resets_a are_a (start room_b resets_b).side, half_begins room_b resets_b are_b (start room_a resets_a).side) is)
