-- The invariant between two sockets after each call of a user.
use Rattle.std.proofs.Common.{◌≡◌, ◌⊎◌, inl, inr, ℕ, zero, suc, ◌^◌, ◌<◌, Bool, true, false, if◌then◌else◌, List, [], ◌∷◌, ◌++◌, Option, is_some, length, take}
use Rattle.std.proofs.Common.{drop, refl, sym, ap, ◌∙◌, subst, arith, append-nil}
use Rattle.std.proofs.lemmas.Bool.{cond_both}
use Rattle.ip_wire.specs.IpListenEndpoint.{IpListenEndpoint}
use Rattle.tcp_theory.specs.Invariant.{HoldsBetween}
use Rattle.tcp_theory.specs.ReceiveMap.{space}
use Rattle.tcp_theory.specs.Side.{Side, initial, one_if}
use Rattle.tcp_theory.specs.Side.Phase.{SynSent}
use Rattle.tcp_theory.specs.Side.Opening.{NotYet}
use Rattle.tcp_theory.proofs.Lists as lists
use Rattle.tcp_block.specs.FourTuple.{FourTuple}
use Rattle.tcp_block.specs.State.{State}
use Rattle.tcp_block.specs.State.TheVariants as In
use Rattle.tcp_block.specs.Calls.{listening, connecting, recv_after, close_after, abort_after}
use Rattle.tcp_block.specs.States.{is_closed, is_time_wait, is_opening, after_close, owes_fin, sends_syn}
use Rattle.tcp_block.specs.Value.{TcpValue, room_of, unoffered, ended, with_tcb}
use Rattle.tcp_refinement.specs.Tie.{Core, Past, past_of, unsent, FitsIn, IsUnopened, IsEnded, Keeps, IsSideOf, core_of, is_closed_in, is_finished_in}
use Rattle.tcp_refinement.specs.History.{listened, called, with_read, closes_in, closed_by}
use Rattle.tcp_refinement.proofs.Tied.{Tied, stays, is_connected, no_stream, keeps_by}
use Rattle.tcp_refinement.proofs.CallMoves.{with_taken_out, reads_connected, reads_ended, in_core_state, closes_with, connects, listens, Kept, kept_connected}
use Rattle.tcp_refinement.proofs.CallMoves.{kept_listening, kept_asking, ends}

pub closed_state : (state : State) → is_closed state ≡ true → state ≡ In.Closed
closed_state In.Closed e = refl
closed_state other e = absurd (cc)

-- CLOSED, and never opened
pub unopened_of : (c : Core) (s : Side) → is_closed c.state ≡ true → s.opening ≡ NotYet → FitsIn c.state c (unsent s) → IsUnopened c (unsent s)
unopened_of c s e first fits = by (subst (λ (state : State). FitsIn state c (unsent s)) (closed_state c.state e) fits) where
  by : IsUnopened c (unsent s) ⊎ IsEnded c (unsent s) → IsUnopened c (unsent s)
  by (inl u) = u
  by (inr k) = absurd (k.once first)

pub room_free : (v : TcpValue) → v.received.waiting ≡ [] → room_of v.received ≡ length v.received.map
room_free v e = let none = ap length e in omega arith

pub opening_by : (s : Side) (p : Past) → past_of s ≡ p → p.opening ≡ NotYet → s.opening ≡ NotYet
opening_by s p past first = ap (λ (p : Past). p.opening) past ∙ first

pub keeps_listening :
    (v w : TcpValue) (p q : Past) (endpoint : IpListenEndpoint) → Keeps v p w q → is_closed v.tcb.state ≡ true → p.opening ≡ NotYet
    → Keeps (listening v endpoint) (listened p) w q
keeps_listening v w p q endpoint k e first =
    keeps_by v (listening v endpoint) w p (listened p) q k (λ s t past _ fits holds.
    let u = unopened_of (core_of v) s e (opening_by s p past first) fits in
    subst (λ (p : Past). Tied (core_of (listening v endpoint)) (listened p) t) past
    (listens (core_of v) s t endpoint.port (room_of v.received) (room_free v u.waiting) u holds))

pub keeps_connecting :
    (v w : TcpValue) (p q : Past) (pair : FourTuple) (number : ℕ) → Keeps v p w q → is_closed v.tcb.state ≡ true → p.opening ≡ NotYet → number < 2 ^ 32
    → Keeps (connecting v pair number) (called p) w q
keeps_connecting v w p q pair number k e first small =
    keeps_by v (connecting v pair number) w p (called p) q k (λ s t past _ fits holds.
    let u = unopened_of (core_of v) s e (opening_by s p past first) fits in
    subst (λ (p : Past). Tied (core_of (connecting v pair number)) (called p) t) past
    (connects (core_of v) s t number (room_of v.received) pair small (room_free v u.waiting) u holds))

-- nothing that the tie reads changes
pub keeps_same : (v v' w : TcpValue) (p q : Past) → core_of v' ≡ core_of v → Keeps v p w q → Keeps v' p w q
keeps_same v v' w p q e k =
    keeps_by v v' w p p q k (λ s t past _ fits holds. stays (core_of v') p s t holds past (subst (λ (c : Core). FitsIn c.state c (unsent s)) (sym e) fits))

-- RECEIVE

pub nothing_taken_out : (c : Core) (count : ℕ) → c.waiting ≡ [] → c ≡ with_taken_out c count
nothing_taken_out c count e =
    ap (λ (waiting : List ℕ). record c { waiting = waiting }) (e ∙ sym (ap (λ (bytes : List ℕ). drop count bytes) e ∙ lists.drop-nothing count))
    ∙ ap (λ (map : List (Option ℕ)). record c { waiting = drop count c.waiting; map = map })
    (sym (append-nil c.map) ∙ ap (λ (bytes : List ℕ). c.map ++ space (length bytes)) (sym (taken_none c.waiting count e)))
  where
    take-nothing : (n : ℕ) → ◌≡◌ {A = List ℕ} (take n []) []
    take-nothing zero = refl
    take-nothing (suc n) = refl

    taken_none : (w : List ℕ) (count : ℕ) → w ≡ [] → take count w ≡ []
    taken_none w count e = ap (λ (bytes : List ℕ). take count bytes) e ∙ take-nothing count

pub take-empty : (n : ℕ) (xs : List ℕ) → xs ≡ [] → take n xs ≡ []
take-empty zero xs e = refl
take-empty (suc n) xs e = ap (λ (bytes : List ℕ). take (suc n) bytes) e

-- a user that has nothing to read reads nothing
pub reads_none :
    (c : Core) (s t : Side) (count : ℕ) → c.waiting ≡ [] → FitsIn c.state c (unsent s) → HoldsBetween s t
    → Tied (with_taken_out c count) (with_read (past_of s) (take count c.waiting)) t
reads_none c s t count e fits holds =
    stays _ _ s t holds
    (ap (λ (bytes : List ℕ). record (past_of s) { read = bytes }) (sym (append-nil s.read) ∙
    ap (λ (bytes : List ℕ). s.read ++ bytes) (sym (take-empty count c.waiting e))))
    (subst (λ (c : Core). FitsIn c.state c (unsent s)) (nothing_taken_out c count e) fits)

pub same_read : (c : Core) (s t : Side) (count : ℕ) → c.waiting ≡ s.waiting → Tied (with_taken_out c count) (with_read (past_of s) (take count s.waiting)) t →
    Tied (with_taken_out c count) (with_read (past_of s) (take count c.waiting)) t
same_read c s t count e led = subst (λ (bytes : List ℕ). Tied (with_taken_out c count) (with_read (past_of s) (take count bytes)) t) (sym e) led

pub reads_in :
    (state : State) (c : Core) (s t : Side) (count : ℕ) → c.state ≡ state → FitsIn state c (unsent s) → HoldsBetween s t
    → Tied (with_taken_out c count) (with_read (past_of s) (take count c.waiting)) t
reads_in In.Closed c s t count e (inl u) holds = reads_none c s t count u.waiting (subst (λ (state : State). FitsIn state c (unsent s)) (sym e) (inl u)) holds
reads_in In.Closed c s t count e (inr k) holds = same_read c s t count k.waiting (reads_ended c s t count e k holds)
reads_in In.Listen c s t count e l holds = reads_none c s t count l.blank.waiting (subst (λ (state : State). FitsIn state c (unsent s)) (sym e) l) holds
reads_in In.SynSent c s t count e k holds =
    let nothing = (no_stream s t SynSent holds k.phase tt).1 in
    reads_none c s t count (k.waiting ∙ no_waiting s.read s.waiting nothing) (subst (λ (state : State). FitsIn state c (unsent s)) (sym e) k) holds
  where
    no_waiting : (xs ys : List ℕ) → xs ++ ys ≡ [] → ys ≡ []
    no_waiting [] ys e = e
    no_waiting (x ∷ xs) ys e = absurd (cc)
reads_in other c s t count e k holds =
    same_read c s t count k.waiting
    (reads_connected c s t count (ap is_connected e) (subst (λ (state : State). FitsIn state c (unsent s)) (sym e) k) holds)

pub keeps_read : (v w : TcpValue) (p q : Past) (count : ℕ) → Keeps v p w q → Keeps (recv_after v count) (with_read p (take count v.received.waiting)) w q
keeps_read v w p q count k =
    keeps_by v (recv_after v count) w p (with_read p (take count v.received.waiting)) q k (λ s t past _ fits holds.
    subst (λ (p : Past). Tied (core_of (recv_after v count)) (with_read p (take count v.received.waiting)) t) past
    (reads_in v.tcb.state (core_of v) s t count refl fits holds))

-- ABORT

-- what CLOSED keeps of a socket in another state
pub kept_in : (state : State) (c : Core) (s t : Side) → is_closed state ≡ false → HoldsBetween s t → FitsIn state c (unsent s) → Kept c s
kept_in In.Closed c s t e holds f = absurd (cc)
kept_in In.Listen c s t e holds f = kept_listening c s f
kept_in In.SynSent c s t e holds f = kept_asking c s t holds f
kept_in other c s t e holds f = kept_connected c s f

-- CLOSED stays, whatever names it has
pub closed_still : (c new : Core) (s t : Side) (p : Past) → IsUnopened c (unsent s) ⊎ IsEnded c (unsent s) → new.state ≡ In.Closed → new.took_fin ≡ c.took_fin →
    new.queue ≡ c.queue → new.waiting ≡ c.waiting → new.map ≡ c.map
    → past_of s ≡ p → HoldsBetween s t → Tied new p t
closed_still c new s t p (inl u) closed took_fin queue waiting map past holds =
    let u' : IsUnopened new (unsent s) = record {
      side = u.side ∙ ap (λ (map : List (Option ℕ)). initial (length map)) (sym map);
      waiting = waiting ∙ u.waiting;
      queue = queue ∙ u.queue;
      unfinished = took_fin ∙ u.unfinished;
    } in
    stays new p s t holds past (subst (λ (state : State). FitsIn state new (unsent s)) (sym closed) (inl u'))
closed_still c new s t p (inr k) closed took_fin queue waiting map past holds =
    let k' : IsEnded new (unsent s) = record {
      once = k.once;
      phase = k.phase;
      took_fin = took_fin ∙ k.took_fin;
      queue = queue ∙ k.queue;
      waiting = waiting ∙ k.waiting;
      map = map ∙ k.map;
    } in
    stays new p s t holds past (subst (λ (state : State). FitsIn state new (unsent s)) (sym closed) (inr k'))

-- to CLOSED from wherever it is
pub to_closed :
    (c new : Core) (s t : Side) → new.state ≡ In.Closed → new.took_fin ≡ c.took_fin → new.queue ≡ c.queue → new.waiting ≡ c.waiting → new.map ≡ c.map
    → FitsIn c.state c (unsent s) → HoldsBetween s t → Tied new (past_of s) t
to_closed c new s t closed took_fin queue waiting map fits holds = by (is_closed c.state) refl where
  by : (test : Bool) → is_closed c.state ≡ test → Tied new (past_of s) t
  by true e = closed_still c new s t (past_of s) (subst (λ (state : State). FitsIn state c (unsent s)) (closed_state c.state e) fits) closed took_fin queue
      waiting map refl holds
  by false e = ends c new s t (kept_in c.state c s t e holds fits) closed took_fin queue waiting map holds

pub keeps_abort : (v w : TcpValue) (p q : Past) → Keeps v p w q → Keeps (abort_after v) p w q
keeps_abort v w p q k =
    keeps_by v (abort_after v) w p p q k (λ s t past _ fits holds.
    subst (λ (p : Past). Tied (core_of (abort_after v)) p t) past
    (cond_both (is_time_wait v.tcb.state) (ended (unoffered v))
    (with_tcb (unoffered v) (record v.tcb { state = In.Closed; sender = record v.tcb.sender { reset_due = is_some v.tcb.names.pair } }))
    (λ (w : TcpValue). Tied (core_of w) (past_of s) t)
    (λ _. to_closed (core_of v) (core_of (ended (unoffered v))) s t refl refl refl refl refl fits holds)
    (λ _.
    to_closed (core_of v)
    (core_of (with_tcb (unoffered v) (record v.tcb { state = In.Closed; sender = record v.tcb.sender { reset_due = is_some v.tcb.names.pair } })))
    s t refl refl refl refl refl fits holds)))

-- CLOSE

pub closes_in_state :
    (state : State) (c : Core) (s t : Side) → c.state ≡ state → is_opening state ≡ false → FitsIn state c (unsent s) → HoldsBetween s t
    → Tied (in_core_state c (after_close state)) (closed_by (closes_in state) (past_of s)) t
closes_in_state In.Closed c s t e other_state f holds = stays _ _ s t holds refl (by f) where
  by : IsUnopened c (unsent s) ⊎ IsEnded c (unsent s) → IsUnopened (in_core_state c In.Closed) (unsent s) ⊎ IsEnded (in_core_state c In.Closed) (unsent s)
  by (inl u) = inl (record { side = u.side; waiting = u.waiting; queue = u.queue; unfinished = u.unfinished })
  by (inr k) = inr (record { once = k.once; phase = k.phase; took_fin = k.took_fin; queue = k.queue; waiting = k.waiting; map = k.map })
closes_in_state In.Listen c s t e other_state f holds = ends c (in_core_state c In.Closed) s t (kept_listening c s f) refl refl refl refl refl holds
closes_in_state In.SynSent c s t e other_state f holds = absurd (cc)
closes_in_state In.SynReceived c s t e other_state f holds =
    closes_with c s t In.FinWait1 (ap is_connected e) refl refl (ap is_closed_in e) refl (sym (ap is_finished_in e)) refl
    (ap (λ (state : State). one_if (owes_fin state)) e) (inr refl) f holds
closes_in_state In.Established c s t e other_state f holds =
    closes_with c s t In.FinWait1 (ap is_connected e) refl refl (ap is_closed_in e) refl (sym (ap is_finished_in e)) refl
    (ap (λ (state : State). one_if (owes_fin state)) e) (inr refl) f holds
closes_in_state In.CloseWait c s t e other_state f holds =
    closes_with c s t In.LastAck (ap is_connected e) refl refl (ap is_closed_in e) refl (sym (ap is_finished_in e)) refl
    (ap (λ (state : State). one_if (owes_fin state)) e) (acked f.opened) f holds
  where
    acked : (c.syn_unacked ≡ false) ⊎ (sends_syn c.state ≡ true) → (c.syn_unacked ≡ false) ⊎ (sends_syn In.LastAck ≡ true)
    acked (inl none) = inl none
    acked (inr sends) = absurd (let clash : false ≡ true = sym (ap sends_syn e) ∙ sends in cc)
closes_in_state state c s t e other_state f holds = stays _ _ s t holds refl (subst (λ (st : State). FitsIn state (in_core_state c st) (unsent s)) e f)

pub keeps_close : (v w : TcpValue) (p q : Past) → Keeps v p w q → Keeps (close_after v) (closed_by (closes_in v.tcb.state) p) w q
keeps_close v w p q k =
    keeps_by v (close_after v) w p (closed_by (closes_in v.tcb.state) p) q k (λ s t past _ fits holds.
    subst (λ (p : Past). Tied (core_of (close_after v)) (closed_by (closes_in v.tcb.state) p) t) past (by s t fits holds (is_opening v.tcb.state) refl))
  where
    opening_state : (state : State) → is_opening state ≡ true → state ≡ In.SynSent
    opening_state In.SynSent e = refl
    opening_state other e = absurd (cc)

    by :
        (s t : Side) → IsSideOf v s → HoldsBetween s t → (test : Bool) → is_opening v.tcb.state ≡ test
        → Tied (core_of (if test then ended (unoffered v) else with_tcb (unoffered v) (record v.tcb { state = after_close v.tcb.state })))
        (closed_by (closes_in v.tcb.state) (past_of s)) t
    by s t fits holds true e =
        subst (λ (state : State). Tied (core_of (ended (unoffered v))) (closed_by (closes_in state) (past_of s)) t) (sym (opening_state v.tcb.state e))
        (to_closed (core_of v) (core_of (ended (unoffered v))) s t refl refl refl refl refl fits holds)
    by s t fits holds false e = closes_in_state v.tcb.state (core_of v) s t refl e fits holds
