-- Two new sockets keep the invariant, and it gives what is promised of both streams.
use Rattle.std.proofs.Common.{◌≡◌, ◌⊎◌, inl, inr, ℕ, Bool, true, false, List, [], ◌++◌, length, refl, sym, ap, ◌∙◌, subst, arith}
use Rattle.tcp_theory.specs.Alone.{AreResets, unopened}
use Rattle.tcp_theory.specs.Invariant.{HoldsBetween}
use Rattle.tcp_theory.specs.ReceiveMap.{space}
use Rattle.tcp_theory.specs.Safe.{IsSafe, IsPrefixOf}
use Rattle.tcp_theory.specs.Segment.{Segment}
use Rattle.tcp_theory.specs.Segment.Control.{Rst}
use Rattle.tcp_theory.specs.Move.Move.{SendsReset}
use Rattle.tcp_theory.specs.Side.Phase.{Unopened}
use Rattle.tcp_theory.specs.Side.Opening.{NotYet}
use Rattle.tcp_theory.specs.Alone.{HasNothing}
use Rattle.tcp_theory.specs.Side.{Side, initial, send_queue, taken_in}
use Rattle.tcp_theory.proofs.AloneLemmas as alone
use Rattle.tcp_theory.proofs.Lists as lists
use Rattle.tcp_theory.proofs.Theorem as law
use Rattle.tcp_block.specs.State.{State}
use Rattle.tcp_block.specs.States.{is_closed}
use Rattle.tcp_block.specs.Value.{TcpValue}
use Rattle.tcp_refinement.specs.Tie.{Core, Past, past_of, no_past, unsent, FitsIn, IsUnopened, IsEnded, Keeps, IsSideOf, core_of}
use Rattle.tcp_refinement.specs.History.{with_sent}
use Rattle.tcp_refinement.specs.Promises.{IsInitial, AreSafeSockets, KeepsAlone, HasTakenNothing, read_or_waiting}
use Rattle.tcp_refinement.proofs.CallLaws.{kept_in, closed_state, unopened_of, opening_by}
use Rattle.tcp_refinement.proofs.Tied.{tied_by, keeps_by}

pub unopened_way : (m n : ℕ) (resets others : List Segment) → AreResets resets → AreResets others → HoldsBetween (unopened m resets) (unopened n others)
unopened_way m n resets others a b = (
  law.OneWay-from_unopened m resets (unopened n others) a refl refl (lists.AgreesWith-space n []),
  law.OneWay-from_unopened n others (unopened m resets) b refl refl (lists.AgreesWith-space m []),
)

pub initial_fits : (v : TcpValue) (resets : List Segment) → IsInitial v → IsSideOf v (unopened (length v.received.map) resets)
initial_fits v resets f =
    let u : IsUnopened (core_of v) (unsent (unopened (length v.received.map) resets)) = record {
      side = refl;
      waiting = f.waiting;
      queue = f.queue;
      unfinished = f.unfinished;
    } in
    subst (λ (state : State). FitsIn state (core_of v) (unsent (unopened (length v.received.map) resets))) (sym f.state) (inl u)

pub keeps_initial : (v w : TcpValue) (resets others : List Segment) → IsInitial v → IsInitial w → AreResets resets → AreResets others →
    Keeps v (no_past resets) w (no_past others)
keeps_initial v w resets others f g a b = record {
  side = unopened (length v.received.map) resets;
  peer_side = unopened (length w.received.map) others;
  past = refl;
  peer_side_past = refl;
  fits = initial_fits v resets f;
  peer_side_fits = initial_fits w others g;
  holds = unopened_way (length v.received.map) (length w.received.map) resets others a b;
}

pub keeps_turned : (v w : TcpValue) (p q : Past) → Keeps v p w q → Keeps w q v p
keeps_turned v w p q k = record {
  side = k.peer_side;
  peer_side = k.side;
  past = k.peer_side_past;
  peer_side_past = k.past;
  fits = k.peer_side_fits;
  peer_side_fits = k.fits;
  holds = (k.holds.1, k.holds.0);
}

-- what a socket shows of its side
pub record Shows (c : Core) (s : Side) : Type 0 where
  pub took_fin : c.took_fin ≡ s.took_fin
  pub queue : c.queue ≡ send_queue s
  pub waiting : c.waiting ≡ s.waiting

pub shows_closed : (c : Core) (s : Side) → IsUnopened c (unsent s) ⊎ IsEnded c (unsent s) → Shows c s
shows_closed c s (inl u) = record {
  took_fin = u.unfinished ∙ sym (ap (λ (x : Side). x.took_fin) u.side);
  queue = u.queue ∙ sym (ap send_queue u.side);
  waiting = u.waiting ∙ sym (ap (λ (x : Side). x.waiting) u.side);
}
shows_closed c s (inr k) = record { took_fin = k.took_fin; queue = k.queue; waiting = k.waiting }

pub shows : (c : Core) (s t : Side) → HoldsBetween s t → FitsIn c.state c (unsent s) → Shows c s
shows c s t holds fits = by (is_closed c.state) refl where
  by : (test : Bool) → is_closed c.state ≡ test → Shows c s
  by true e = shows_closed c s (subst (λ (state : State). FitsIn state c (unsent s)) (closed_state c.state e) fits)
  by false e = let k = kept_in c.state c s t e holds fits in record { took_fin = k.took_fin; queue = k.queue; waiting = k.waiting }

pub safe_between : (v w : TcpValue) (s t : Side) → IsSafe s t → Shows (core_of v) s → Shows (core_of w) t → AreSafeSockets v (past_of s) w (past_of t)
safe_between v w s t safe a b =
    let same : read_or_waiting (past_of t) w ≡ taken_in t = ap (λ (bytes : List ℕ). t.read ++ bytes) b.waiting in
    let size = ap length same in
    let left = ap length a.queue in
    let freed = safe.freed in
    record {
      prefix = subst (λ (bytes : List ℕ). IsPrefixOf bytes s.written) (sym same) safe.prefix;
      freed = omega arith;
      finished = λ e. let end = safe.finished (sym b.took_fin ∙ e) in (end.0, same ∙ end.1);
    }

pub safe_sockets : (v w : TcpValue) (p q : Past) → Keeps v p w q → AreSafeSockets v p w q
safe_sockets v w p q k =
    subst (λ (p : Past). AreSafeSockets v p w q) k.past (subst (λ (q : Past). AreSafeSockets v (past_of k.side) w q) k.peer_side_past
    (safe_between v w k.side k.peer_side (law.IsSafe-one_way k.side k.peer_side k.holds.0)
    (shows (core_of v) k.side k.peer_side k.holds k.fits) (shows (core_of w) k.peer_side k.side (k.holds.1, k.holds.0) k.peer_side_fits)))

-- RESETS

-- a host may send any reset for a socket
pub keeps_reset : (v w : TcpValue) (p q : Past) (x : Segment) → x.control ≡ Rst → Keeps v p w q → Keeps v (with_sent p x) w q
keeps_reset v w p q x e k =
    keeps_by v v w p (with_sent p x) q k (λ s t past _ fits holds.
    tied_by (core_of v) (with_sent p x) s t (SendsReset x) holds e (ap (λ (p : Past). with_sent p x) past) fits)

-- WITHOUT A PARTNER

-- a peer that isn't opened may be exchanged
pub exchanged : (s t : Side) (space : ℕ) (resets : List Segment) → HoldsBetween s t → t.phase ≡ Unopened → AreResets resets →
    HoldsBetween s (unopened space resets)
exchanged s t space resets holds phase a = (
  alone.OneWay-to_unopened s t holds.0 holds.1 phase space resets a,
  alone.OneWay-unopened_to s t holds.0 holds.1 phase space resets a,
)

pub alone_initial : (v : TcpValue) (resets : List Segment) → IsInitial v → AreResets resets → KeepsAlone v (no_past resets)
alone_initial v resets f a = record {
  side = unopened (length v.received.map) resets;
  past = refl;
  fits = initial_fits v resets f;
  holds = unopened_way (length v.received.map) 0 resets [] a tt;
}

-- a peer comes
pub peer_side_comes : (v w : TcpValue) (p : Past) (resets : List Segment) → KeepsAlone v p → IsInitial w → AreResets resets → Keeps v p w (no_past resets)
peer_side_comes v w p resets k f a = record {
  side = k.side;
  peer_side = unopened (length w.received.map) resets;
  past = k.past;
  peer_side_past = refl;
  fits = k.fits;
  peer_side_fits = initial_fits w resets f;
  holds = exchanged k.side (initial 0) (length w.received.map) resets k.holds refl a;
}

-- a peer that wasn't opened goes
pub peer_side_goes : (v w : TcpValue) (p q : Past) → Keeps v p w q → is_closed w.tcb.state ≡ true → q.opening ≡ NotYet → KeepsAlone v p
peer_side_goes v w p q k e first =
    let u = unopened_of (core_of w) k.peer_side e (opening_by k.peer_side q k.peer_side_past first) k.peer_side_fits in
    record { side = k.side; past = k.past; fits = k.fits; holds = exchanged k.side k.peer_side 0 [] k.holds (ap (λ (x : Side). x.phase) u.side) tt }

pub nothing_shown : (v : TcpValue) (s : Side) → HasNothing s → Shows (core_of v) s → HasTakenNothing v (past_of s)
nothing_shown v s n a =
    let left = ap length a.queue in
    let freed = n.freed in
    record { read = ap (λ (bytes : List ℕ). s.read ++ bytes) a.waiting ∙ n.read; freed = omega arith; unfinished = a.took_fin ∙ n.unfinished }

pub alone_nothing : (v : TcpValue) (p : Past) → KeepsAlone v p → HasTakenNothing v p
alone_nothing v p k =
    subst (λ (p : Past). HasTakenNothing v p) k.past
    (nothing_shown v k.side (alone.HasNothing-unopened k.side (initial 0) k.holds.0 k.holds.1 refl) (shows (core_of v) k.side (initial 0) k.holds k.fits))

pub ruleset peer_side_promises = (alone_initial, peer_side_comes, peer_side_goes, alone_nothing)
