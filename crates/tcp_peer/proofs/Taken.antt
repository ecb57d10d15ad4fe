-- Honest where it counts is enough.
use Rattle.std.proofs.Common.{◌≡◌, ◌⊎◌, inl, inr, ℕ, zero, suc, ◌+◌, ◌≤◌, List, [], ◌∷◌, ◌++◌, length, Some, slice_get, subst}
use Rattle.tcp_theory.specs.Alone.{AreResets, unopened}
use Rattle.tcp_theory.specs.Segment.{Segment}
use Rattle.tcp_theory.specs.Side.{Side, freed}
use Rattle.tcp_theory.specs.Move.{Move, May, after, MayTakeSyn, MayTakeCrossedSyn, MayTakeSynAck, MayTakeAck, MayTakeBytes, MayTakeFin}
use Rattle.tcp_theory.specs.Move.Move.{Listens, Connects, Writes, Reads, Closes, Ends, FallsBack, SendsSyn, SendsSynAck, SendsAck, SendsData, SendsKeepAlive}
use Rattle.tcp_theory.specs.Move.Move.{SendsReset, TakesSyn, TakesCrossedSyn, TakesSynAck, TakesAck, TakesBytes, TakesFin}
use Rattle.tcp_theory.specs.Move as machine
use Rattle.tcp_theory.proofs.Lists.{AllByRecursion-map}
use Rattle.tcp_peer.specs.Peer.{End, IsEnd, IsAcknowledged, HasAckedTo, IsHonest, SaysOfItself, as_end}
use Rattle.tcp_peer.specs.Run.{Scene, Event, run, start, happens}
use Rattle.tcp_peer.specs.Run.Event.{Comes, Does}
use Rattle.tcp_peer.specs.Safe.{IsSafeBeside}
use Rattle.tcp_peer.proofs.Among.{slice_get-more, slice_get-last}
use Rattle.tcp_peer.proofs.Maps.{IsInSecond, slice_get-append}
use Rattle.tcp_peer.proofs.Shadow.{Meets, meets_start, meets_move}
use Rattle.tcp_peer.proofs.Comes.{meets_honest}
use Rattle.tcp_peer.proofs.Safety.{meets_safe}
use Rattle.tcp_peer.specs.Taken.{MayTake, IsTakenRun}

-- of all that came, so much counted
pub record Counts (peer : End) (s : Side) (came : List Segment) : Type 0 where
  pub counted : List Segment
  pub among : (k : ℕ) (x : Segment) → slice_get counted k ≡ Some x → machine.Comes (unopened 0 came) x
  pub meets : Meets peer s counted

last_of : (x y : Segment) (k : ℕ) → slice_get (x ∷ []) k ≡ Some y → x ≡ y
last_of x y zero e = let same : x ≡ y = cc in same
last_of x y (suc k) e = absurd (cc)

-- one more counts
one_more : (counted came : List Segment) (x : Segment) → ((k : ℕ) (y : Segment) → slice_get counted k ≡ Some y → machine.Comes (unopened 0 came) y) →
    machine.Comes (unopened 0 came) x → (k : ℕ) (y : Segment) → slice_get (counted ++ x ∷ []) k ≡ Some y → machine.Comes (unopened 0 came) y
one_more counted came x among comes k y e = by (slice_get-append counted (x ∷ []) k y e) where
  by : (slice_get counted k ≡ Some y) ⊎ IsInSecond counted (x ∷ []) k y → machine.Comes (unopened 0 came) y
  by (inl first) = among k y first
  by (inr second) = subst (λ (z : Segment). machine.Comes (unopened 0 came) z) (last_of x y second.offset second.stands) comes

counts_taken : (peer : End) (s : Side) (came : List Segment) (move : Move) (x : Segment) → IsEnd peer → (c : Counts peer s came) → machine.Comes (unopened 0 came) x →
    IsHonest peer (as_end s) s.sent x → May s (unopened 0 (c.counted ++ x ∷ [])) move
    → Counts peer (after s move) came
counts_taken peer s came move x e c comes honest may = record {
  counted = c.counted ++ x ∷ [];
  among = one_more c.counted came x c.among comes;
  meets = meets_move peer s (c.counted ++ x ∷ []) move (meets_honest peer s c.counted x e honest c.meets) may;
}

counts_other : (peer : End) (s : Side) (came : List Segment) (move : Move) → (c : Counts peer s came) → May s (unopened 0 c.counted) move → Counts peer (after s move) came
counts_other peer s came move c may = record { counted = c.counted; among = c.among; meets = meets_move peer s c.counted move c.meets may }

counts_move : (peer : End) (w : Scene) (move : Move) → IsEnd peer → Counts peer w.side w.came → MayTake peer w (Does move) → Counts peer (after w.side move) w.came
counts_move peer w (TakesSyn x iss) e c may =
    let m : MayTakeSyn w.side (unopened 0 w.came) x iss = may.0 in
    let here : machine.Comes (unopened 0 (c.counted ++ x ∷ [])) x = (length c.counted, slice_get-last c.counted x) in
    let now : MayTakeSyn w.side (unopened 0 (c.counted ++ x ∷ [])) x iss = record { listening = m.listening; comes = here; syn = m.syn; bare = m.bare; first = m.first } in
    counts_taken peer w.side w.came (TakesSyn x iss) x e c m.comes may.1.0 now
counts_move peer w (TakesCrossedSyn x) e c may =
    let m : MayTakeCrossedSyn w.side (unopened 0 w.came) x = may.0 in
    let here : machine.Comes (unopened 0 (c.counted ++ x ∷ [])) x = (length c.counted, slice_get-last c.counted x) in
    let now : MayTakeCrossedSyn w.side (unopened 0 (c.counted ++ x ∷ [])) x = record { asking = m.asking; comes = here; syn = m.syn; bare = m.bare } in
    counts_taken peer w.side w.came (TakesCrossedSyn x) x e c m.comes may.1.0 now
counts_move peer w (TakesSynAck x) e c may =
    let m : MayTakeSynAck w.side (unopened 0 w.came) x = may.0 in
    let here : machine.Comes (unopened 0 (c.counted ++ x ∷ [])) x = (length c.counted, slice_get-last c.counted x) in
    let now : MayTakeSynAck w.side (unopened 0 (c.counted ++ x ∷ [])) x = record { asking = m.asking; comes = here; syn = m.syn; acks_syn = m.acks_syn } in
    counts_taken peer w.side w.came (TakesSynAck x) x e c m.comes may.1.0 now
counts_move peer w (TakesAck x at) e c may =
    let m : MayTakeAck w.side (unopened 0 w.came) x at = may.0 in
    let here : machine.Comes (unopened 0 (c.counted ++ x ∷ [])) x = (length c.counted, slice_get-last c.counted x) in
    let now : MayTakeAck w.side (unopened 0 (c.counted ++ x ∷ [])) x at = record { connected = m.connected; comes = here; no_reset = m.no_reset; number = m.number; opens = m.opens; low = m.low; high = m.high } in
    counts_taken peer w.side w.came (TakesAck x at) x e c m.comes may.1.0 now
counts_move peer w (TakesBytes x at) e c may =
    let m : MayTakeBytes w.side (unopened 0 w.came) x at = may.0 in
    let here : machine.Comes (unopened 0 (c.counted ++ x ∷ [])) x = (length c.counted, slice_get-last c.counted x) in
    let now : MayTakeBytes w.side (unopened 0 (c.counted ++ x ∷ [])) x at = record { running = m.running; unfinished = m.unfinished; comes = here; kind = m.kind; number = m.number; near = m.near } in
    counts_taken peer w.side w.came (TakesBytes x at) x e c m.comes may.1.0 now
counts_move peer w (TakesFin x) e c may =
    let m : MayTakeFin w.side (unopened 0 w.came) x = may.0 in
    let here : machine.Comes (unopened 0 (c.counted ++ x ∷ [])) x = (length c.counted, slice_get-last c.counted x) in
    let now : MayTakeFin w.side (unopened 0 (c.counted ++ x ∷ [])) x = record { running = m.running; unfinished = m.unfinished; comes = here; fin = m.fin; next = m.next } in
    counts_taken peer w.side w.came (TakesFin x) x e c m.comes may.1.0 now
counts_move peer w Listens e c may = counts_other peer w.side w.came Listens c may.0
counts_move peer w (Connects iss) e c may = counts_other peer w.side w.came (Connects iss) c may.0
counts_move peer w (Writes bytes) e c may = counts_other peer w.side w.came (Writes bytes) c may.0
counts_move peer w (Reads count) e c may = counts_other peer w.side w.came (Reads count) c may.0
counts_move peer w Closes e c may = counts_other peer w.side w.came Closes c may.0
counts_move peer w Ends e c may = counts_other peer w.side w.came Ends c may.0
counts_move peer w FallsBack e c may = counts_other peer w.side w.came FallsBack c may.0
counts_move peer w SendsSyn e c may = counts_other peer w.side w.came SendsSyn c may.0
counts_move peer w SendsSynAck e c may = counts_other peer w.side w.came SendsSynAck c may.0
counts_move peer w (SendsAck at) e c may = counts_other peer w.side w.came (SendsAck at) c may.0
counts_move peer w (SendsData at count fin) e c may = counts_other peer w.side w.came (SendsData at count fin) c may.0
counts_move peer w SendsKeepAlive e c may = counts_other peer w.side w.came SendsKeepAlive c may.0
counts_move peer w (SendsReset x) e c may = counts_other peer w.side w.came (SendsReset x) c may.0

counts_event : (peer : End) (w : Scene) (event : Event) → IsEnd peer → Counts peer w.side w.came → MayTake peer w event →
    Counts peer (happens w event).side (happens w event).came
counts_event peer w (Comes x) e c may = record {
  counted = c.counted;
  among = λ k y at. let comes = c.among k y at in (comes.0, slice_get-more w.came (x ∷ []) comes.0 y comes.1);
  meets = c.meets;
}
counts_event peer w (Does move) e c may = counts_move peer w move e c may

counts_run : (peer : End) (w : Scene) (events : List Event) → IsEnd peer → Counts peer w.side w.came → IsTakenRun peer w events →
    Counts peer (run w events).side (run w events).came
counts_run peer w [] e c is = c
counts_run peer w (event ∷ events) e c is = counts_run peer (happens w event) events e (counts_event peer w event e c is.0) is.1

-- what is promised with less is promised with all that came
module _ (theirs theirs' : List Segment) (more : (number : ℕ) → IsAcknowledged theirs number → IsAcknowledged theirs' number) where
  acked_more : (other : End) (position : ℕ) → HasAckedTo other theirs position → HasAckedTo other theirs' position
  acked_more other position to = record { number = to.number; acknowledged = more to.number to.acknowledged; far = to.far }

  honest_more : (me other : End) (x : Segment) → IsHonest me other theirs x → IsHonest me other theirs' x
  honest_more me other x (inl reset) = inl reset
  honest_more me other x (inr said) = inr (itself said.0, said.1) where
    far : (position : ℕ) → (position ≤ suc other.heard) ⊎ HasAckedTo other theirs position → (position ≤ suc other.heard) ⊎ HasAckedTo other theirs' position
    far position (inl syn) = inl syn
    far position (inr to) = inr (acked_more other position to)

    itself : SaysOfItself me other theirs x → SaysOfItself me other theirs' x
    itself (inl p) = inl p
    itself (inr (inl bare)) = inr (inl bare)
    itself (inr (inr (inl old))) = inr (inr (inl (record {
      plain = old.plain;
      at = old.at;
      number = old.number;
      heard = old.heard;
      low = old.low;
      high = far (old.at + length x.bytes) old.high;
    })))
    itself (inr (inr (inr p))) = inr (inr (inr p))

  safe_more : (peer : End) (s : Side) → IsSafeBeside peer (record { side = s; came = theirs }) → IsSafeBeside peer (record { side = s; came = theirs' })
  safe_more peer s safe = record {
    prefix = safe.prefix;
    finished = safe.finished;
    freed = by safe.freed;
    honest = AllByRecursion-map (IsHonest (as_end s) peer theirs) (IsHonest (as_end s) peer theirs') (honest_more (as_end s) peer) s.sent safe.honest;
  } where
    by : (freed s ≡ 0) ⊎ ((peer.heard ≡ s.iss) × HasAckedTo peer theirs (suc s.iss + freed s)) →
        (freed s ≡ 0) ⊎ ((peer.heard ≡ s.iss) × HasAckedTo peer theirs' (suc s.iss + freed s))
    by (inl none) = inl none
    by (inr to) = inr (to.0, acked_more peer (suc s.iss + freed s) to.1)

pub taken_safe : (peer : End) (room : ℕ) (resets : List Segment) (events : List Event) → IsEnd peer → AreResets resets →
    IsTakenRun peer (start room resets) events → IsSafeBeside peer (run (start room resets) events)
taken_safe peer room resets events e are is =
    let end = run (start room resets) events in
    let begun : Counts peer (unopened room resets) [] =
    record { counted = []; among = λ k y (at : slice_get {X = Segment} [] k ≡ Some y). absurd (cc); meets = meets_start peer room resets e are } in
    let c = counts_run peer (start room resets) events e begun is in
    safe_more c.counted end.came (acks c.counted end.came c.among) peer end.side (meets_safe peer end.side c.counted e c.meets)
  where
    acks : (counted came : List Segment) → ((k : ℕ) (x : Segment) → slice_get counted k ≡ Some x → machine.Comes (unopened 0 came) x) → (number : ℕ) →
        IsAcknowledged counted number → IsAcknowledged came number
    acks counted came among number a =
        let at = among a.offset a.segment a.among in
        record { offset = at.0; segment = a.segment; among = at.1; no_reset = a.no_reset; acks = a.acks }
