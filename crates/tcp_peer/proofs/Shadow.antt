-- The peer as a peer of the machine: a side that has said what came, and has taken in what it acknowledged.
use Rattle.std.proofs.Common.{◌≡◌, ◌⊎◌, inl, inr, ℕ, suc, ◌+◌, ◌^◌, ◌≤◌, Bool, true, false, List, [], length, refl, arith, le_refl}
use Rattle.tcp_theory.specs.Alone.{AreResets, unopened}
use Rattle.tcp_theory.specs.Invariant.{HoldsBetween, IsInStep, IsSilent, IsWellFormed, OneWay}
use Rattle.tcp_theory.specs.Invariant as law
use Rattle.tcp_theory.specs.Move.{Move, May, after, sends, MayTakeSyn, MayTakeCrossedSyn, MayTakeSynAck, MayTakeAck, MayTakeBytes, MayTakeFin}
use Rattle.tcp_theory.specs.Move.Move.{Listens, Connects, Writes, Reads, Closes, Ends, FallsBack, SendsSyn, SendsSynAck, SendsAck, SendsData, SendsKeepAlive}
use Rattle.tcp_theory.specs.Move.Move.{SendsReset, TakesSyn, TakesCrossedSyn, TakesSynAck, TakesAck, TakesBytes, TakesFin}
use Rattle.tcp_theory.specs.Numbers.{wire}
use Rattle.tcp_theory.specs.Segment.{Segment}
use Rattle.tcp_theory.specs.Side.{Side, one_if}
use Rattle.tcp_theory.specs.Side.Phase.{Synchronized, Ended}
use Rattle.tcp_theory.specs.Side.Opening.{Passive, Active}
use Rattle.tcp_theory.proofs.Lists.{AllByRecursion-push, AgreesWith-space}
use Rattle.tcp_theory.proofs.Grows.{Grows-same, IsWellFormed-same, IsHonest-own, OneWay-own, OneWay-same}
use Rattle.tcp_theory.proofs.Calls.{same_sync}
use Rattle.tcp_theory.proofs.Theorem.{HoldsBetween-after, OneWay-from_unopened}
use Rattle.tcp_peer.specs.Peer.{End, IsEnd, IsAcknowledged}

abbrev pub shadow : End → List ℕ → Bool → ℕ → List ℕ → Bool → List Segment → Side
shadow peer written closed una took fin came =
    record {
      phase = Ended;
      opening = Active;
      iss = peer.first;
      una = una;
      written = written;
      closed = closed;
      irs = peer.heard;
      read = [];
      waiting = took;
      window = [];
      took_fin = fin;
      sent = came;
    }

-- it has taken in nothing, or what it acknowledged
abbrev pub HasTaken : End → List ℕ → Bool → List Segment → Type 0
HasTaken peer took fin came =
    ((took ≡ []) × (fin ≡ false)) ⊎ IsAcknowledged came (wire (suc peer.heard + length took + one_if fin))

-- a side alongside such a peer that has written this
pub record IsBeside (peer : End) (written : List ℕ) (closed : Bool) (s : Side) (came : List Segment) : Type 0 where
  pub una : ℕ
  pub took : List ℕ
  pub fin : Bool
  pub taken : HasTaken peer took fin came
  pub holds : HoldsBetween s (shadow peer written closed una took fin came)

-- a side alongside the peer, which has sent nothing of its stream so far, or some of it
abbrev pub Meets : End → Side → List Segment → Type 0
Meets peer s came = IsBeside peer [] false s came ⊎ IsBeside peer peer.stream peer.ends s came

-- of a peer a move sees what it sent
pub may_beside : (s t : Side) (move : Move) → May s (unopened 0 t.sent) move → May s t move
may_beside s t (TakesSyn x iss) may =
    let m : MayTakeSyn s (unopened 0 t.sent) x iss = may in
    record { listening = m.listening; comes = m.comes; syn = m.syn; bare = m.bare; first = m.first }
may_beside s t (TakesCrossedSyn x) may =
    let m : MayTakeCrossedSyn s (unopened 0 t.sent) x = may in
    record { asking = m.asking; comes = m.comes; syn = m.syn; bare = m.bare }
may_beside s t (TakesSynAck x) may =
    let m : MayTakeSynAck s (unopened 0 t.sent) x = may in
    record { asking = m.asking; comes = m.comes; syn = m.syn; acks_syn = m.acks_syn }
may_beside s t (TakesAck x at) may =
    let m : MayTakeAck s (unopened 0 t.sent) x at = may in
    record { connected = m.connected; comes = m.comes; no_reset = m.no_reset; number = m.number; opens = m.opens; low = m.low; high = m.high }
may_beside s t (TakesBytes x at) may =
    let m : MayTakeBytes s (unopened 0 t.sent) x at = may in
    record { running = m.running; unfinished = m.unfinished; comes = m.comes; kind = m.kind; number = m.number; near = m.near }
may_beside s t (TakesFin x) may =
    let m : MayTakeFin s (unopened 0 t.sent) x = may in
    record { running = m.running; unfinished = m.unfinished; comes = m.comes; fin = m.fin; next = m.next }
may_beside s t Listens may = may
may_beside s t (Connects iss) may = may
may_beside s t (Writes bytes) may = may
may_beside s t (Reads count) may = may
may_beside s t Closes may = may
may_beside s t Ends may = may
may_beside s t FallsBack may = may
may_beside s t SendsSyn may = may
may_beside s t SendsSynAck may = may
may_beside s t (SendsAck at) may = may
may_beside s t (SendsData at count fin) may = may
may_beside s t SendsKeepAlive may = may
may_beside s t (SendsReset x) may = may

moves_beside :
    (peer : End) (written : List ℕ) (closed : Bool) (s : Side) (came : List Segment) (move : Move) → IsBeside peer written closed s came
    → May s (unopened 0 came) move → IsBeside peer written closed (after s move) came
moves_beside peer written closed s came move b may =
    let t = shadow peer written closed b.una b.took b.fin came in
    record { una = b.una; took = b.took; fin = b.fin; taken = b.taken; holds = HoldsBetween-after s t move b.holds (may_beside s t move may) }

pub meets_move : (peer : End) (s : Side) (came : List Segment) (move : Move) → Meets peer s came → May s (unopened 0 came) move → Meets peer (after s move) came
meets_move peer s came move (inl b) may = inl (moves_beside peer [] false s came move b may)
meets_move peer s came move (inr b) may = inr (moves_beside peer peer.stream peer.ends s came move b may)

pub meets_start : (peer : End) (room : ℕ) (resets : List Segment) → IsEnd peer → AreResets resets → Meets peer (unopened room resets) []
meets_start peer room resets e are_resets =
    inl (record {
      una = peer.first;
      took = [];
      fin = false;
      taken = inl (refl, refl);
      holds = (OneWay-from_unopened room resets (shadow peer [] false peer.first [] false []) are_resets refl refl tt, back);
    })
  where
    first_low : 2 ^ 32 ≤ peer.first
    first_low = e.first.0

    back : OneWay (shadow peer [] false peer.first [] false []) (unopened room resets)
    back = record {
      well_formed =
          record {
            phase = tt;
            early = λ early. absurd early;
            iss = e.first;
            una_low = le_refl _;
            una_high = omega arith;
            short = omega arith;
            irs = e.heard.1;
          };
      sync = inr (record { unwritten = refl; closed = λ (e : Ended ≡ Synchronized). absurd (cc); una = inl refl });
      received = tt;
      held = AgreesWith-space room [];
      fin = λ (e : false ≡ true). absurd (cc);
      listener = λ (e : Active ≡ Passive). absurd (cc);
      sent = tt;
    }

-- the peer says one more honest segment
pub says : (s t : Side) (x : Segment) → HoldsBetween s t → t.phase ≡ Ended → t.opening ≡ Active → law.IsHonest t s x → HoldsBetween s (sends t x)
says s t x holds phase opening honest =
    let new = sends t x in
    let well = holds.1.well_formed in
    let grows = Grows-same t new (λ late. late) refl refl (λ e. e) refl (λ _. (refl, le_refl _)) in
    let well' = IsWellFormed-same t new well refl refl refl (le_refl _) refl well.phase well.early in (
      OneWay-same t new grows s holds.0 refl refl refl refl,
      OneWay-own t new grows s holds.1 well' (same_sync t new s refl refl refl (λ h. h) holds.1.sync) holds.1.listener
          (λ sent. AllByRecursion-push (law.IsHonest new s) t.sent x sent (IsHonest-own t new grows s x honest)),
    )
