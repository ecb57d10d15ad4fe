-- Each move keeps the invariant, the invariant is safe, and so is each run from two new sides.
use Rattle.std.proofs.Common.{◌≡◌, ◌⊎◌, inl, inr, ℕ, suc, ◌-◌, ◌≤◌, Bool, true, false, List, [], ◌∷◌, length, drop, refl, sym, ap, ◌∙◌, subst, arith, le_refl}
use Rattle.std.proofs.Common.{length-drop}
use Rattle.tcp_theory.specs.Side.{Side, taken_in, freed, initial, one_if}
use Rattle.tcp_theory.specs.Side.Phase.{Unopened, Synchronized}
use Rattle.tcp_theory.specs.Side.Opening.{NotYet, Passive}
use Rattle.tcp_theory.specs.Move.{Move, May, after, MayAll, after_all}
use Rattle.tcp_theory.specs.Move.Move.{Listens, Connects, Writes, Reads, Closes, Ends, FallsBack, SendsSyn, SendsSynAck, SendsAck, SendsData, SendsKeepAlive}
use Rattle.tcp_theory.specs.Move.Move.{SendsReset, TakesSyn, TakesCrossedSyn, TakesSynAck, TakesAck, TakesBytes, TakesFin}
use Rattle.tcp_theory.specs.Run.{World, Event, MayHappen, happens, IsRun, run, start}
use Rattle.tcp_theory.specs.Run.Event.{A, B}
use Rattle.tcp_theory.specs.Safe.{IsSafe, AreSafe}
use Rattle.tcp_theory.specs.Alone.{AreResets, unopened}
use Rattle.tcp_theory.specs.ReceiveMap.{Begins, AgreesWith}
use Rattle.tcp_theory.specs.Segment.{Segment}
use Rattle.tcp_theory.specs.Segment.Control.{Rst}
use Rattle.tcp_theory.specs.Invariant.{IsHonest, IsInStep, IsSilent, OneWay, Kept, HoldsBetween}
use Rattle.tcp_theory.proofs.Lists.{Begins-prefix, AgreesWith-space, AllByRecursion-map}
use Rattle.tcp_theory.proofs.Calls.{Keeps, keeps_listens, keeps_connects, keeps_writes, keeps_reads, keeps_closes, keeps_ends, keeps_falls_back}
use Rattle.tcp_theory.proofs.Sends.{keeps_sends_syn, keeps_sends_syn_ack, keeps_sends_ack, keeps_sends_data, keeps_sends_keep_alive, keeps_sends_reset}
use Rattle.tcp_theory.proofs.Opening.{keeps_takes_syn, keeps_takes_crossed_syn, keeps_takes_syn_ack, keeps_takes_ack}
use Rattle.tcp_theory.proofs.Taking.{keeps_takes_bytes, keeps_takes_fin}

keeps : (s t : Side) (move : Move) → Keeps s t move
keeps s t Listens = keeps_listens s t
keeps s t (Connects iss) = keeps_connects s t iss
keeps s t (Writes bytes) = keeps_writes s t bytes
keeps s t (Reads count) = keeps_reads s t count
keeps s t Closes = keeps_closes s t
keeps s t Ends = keeps_ends s t
keeps s t FallsBack = keeps_falls_back s t
keeps s t SendsSyn = keeps_sends_syn s t
keeps s t SendsSynAck = keeps_sends_syn_ack s t
keeps s t (SendsAck at) = keeps_sends_ack s t at
keeps s t (SendsData at count fin) = keeps_sends_data s t at count fin
keeps s t SendsKeepAlive = keeps_sends_keep_alive s t
keeps s t (SendsReset x) = keeps_sends_reset s t x
keeps s t (TakesSyn x iss) = keeps_takes_syn s t x iss
keeps s t (TakesCrossedSyn x) = keeps_takes_crossed_syn s t x
keeps s t (TakesSynAck x) = keeps_takes_syn_ack s t x
keeps s t (TakesAck x at) = keeps_takes_ack s t x at
keeps s t (TakesBytes x at) = keeps_takes_bytes s t x at
keeps s t (TakesFin x) = keeps_takes_fin s t x

pub HoldsBetween-after : (s t : Side) (move : Move) → HoldsBetween s t → May s t move → HoldsBetween (after s move) t
HoldsBetween-after s t move holds may = keeps s t move holds.0 holds.1 may

pub HoldsBetween-after_all : (s t : Side) (moves : List Move) → HoldsBetween s t → MayAll s t moves → HoldsBetween (after_all s moves) t
HoldsBetween-after_all s t [] holds may = holds
HoldsBetween-after_all s t (move ∷ moves) holds may = HoldsBetween-after_all (after s move) t moves (HoldsBetween-after s t move holds may.0) may.1

pub Kept-happens : (w : World) (event : Event) → Kept w → MayHappen w event → Kept (happens w event)
Kept-happens w (A move) kept may = let both = keeps w.a w.b move kept.0 kept.1 may in (both.0, both.1)
Kept-happens w (B move) kept may = let both = keeps w.b w.a move kept.1 kept.0 may in (both.1, both.0)

-- an unopened side, whose host may have sent resets, towards one that took nothing in
pub OneWay-from_unopened :
    (capacity : ℕ) (resets : List Segment) (t : Side) → AreResets resets → taken_in t ≡ [] → t.took_fin ≡ false
    → AgreesWith t.window (drop (length (taken_in t)) [])
    → OneWay (unopened capacity resets) t
OneWay-from_unopened capacity resets t are_resets nothing unfinished held = record {
  well_formed =
      record {
        phase = (refl, refl);
        early = λ _. (refl, refl, refl, refl);
        iss = (omega arith, omega arith);
        una_low = le_refl _;
        una_high = omega arith;
        short = omega arith;
        irs = omega arith;
      };
  sync = inr (record { unwritten = refl; closed = λ (e : Unopened ≡ Synchronized). absurd (cc); una = inl refl });
  received = subst (λ (bytes : List ℕ). Begins bytes []) (sym nothing) tt;
  held = held;
  fin = λ e. absurd (let clash : false ≡ true = sym unfinished ∙ e in cc);
  listener = λ (e : NotYet ≡ Passive). absurd (cc);
  sent = AllByRecursion-map (λ x. x.control ≡ Rst) (IsHonest (unopened capacity resets) t) (λ x reset. inl reset) resets are_resets;
}

initial_one_way : (m n : ℕ) → OneWay (initial m) (initial n)
initial_one_way m n = OneWay-from_unopened m [] (initial n) tt refl refl (AgreesWith-space n [])

pub HoldsBetween-initial : (m n : ℕ) → HoldsBetween (initial m) (initial n)
HoldsBetween-initial m n = (initial_one_way m n, initial_one_way n m)

pub Kept-start : (m n : ℕ) → Kept (start m n)
Kept-start m n = (initial_one_way m n, initial_one_way n m)

pub Kept-run : (w : World) (events : List Event) → Kept w → IsRun w events → Kept (run w events)
Kept-run w [] kept is_run = kept
Kept-run w (event ∷ events) kept is_run = Kept-run (happens w event) events (Kept-happens w event kept is_run.0) is_run.1

pub freed-reached : (s t : Side) → OneWay s t → freed s ≤ length (taken_in t)
freed-reached s t out = by t.took_fin refl out.sync where
  cut : length (drop (s.una - suc s.iss) s.written) ≡ length s.written - (s.una - suc s.iss)
  cut = length-drop (s.una - suc s.iss) s.written

  by : (b : Bool) → t.took_fin ≡ b → IsInStep s t ⊎ IsSilent s t → freed s ≤ length (taken_in t)
  by true e sync = let f = out.fin e in let same = ap length f.whole in let rest = cut in omega arith
  by false e (inl in_step) =
      let none = ap one_if e in
      let counts = in_step.counts in
      let reached = in_step.reached in
      let rest = cut in
      omega arith
  by false e (inr silent) = let nothing = ap length silent.unwritten in omega arith

pub IsSafe-one_way : (s t : Side) → OneWay s t → IsSafe s t
IsSafe-one_way s t out = record {
  prefix = Begins-prefix (taken_in t) s.written out.received;
  freed = freed-reached s t out;
  finished = λ e. let f = out.fin e in (f.closed, f.whole);
}

pub AreSafe-kept : (w : World) → Kept w → AreSafe w
AreSafe-kept w kept = (IsSafe-one_way w.a w.b kept.0, IsSafe-one_way w.b w.a kept.1)

pub AreSafe-run : (m n : ℕ) (events : List Event) → IsRun (start m n) events → AreSafe (run (start m n) events)
AreSafe-run m n events is_run = AreSafe-kept (run (start m n) events) (Kept-run (start m n) events (Kept-start m n) is_run)
