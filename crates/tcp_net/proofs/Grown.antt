-- What of a side only grows by a move, where what came was sent by its peer.
use Rattle.std.proofs.Common.{◌≡◌, ◌⊎◌, inl, inr, ℕ, ◌+◌, ◌^◌, ◌≤◌, true, false, List, [], ◌∷◌, ◌++◌, length, take, drop, Some, None, slice_get, refl, sym, ap}
use Rattle.std.proofs.Common.{◌∙◌, arith, le_refl, length-append, append_assoc, take-append-drop}
use Rattle.std.specs.List.{AllByRecursion}
use Rattle.tcp_theory.specs.ReceiveMap.{front}
use Rattle.tcp_theory.specs.Segment.{Segment}
use Rattle.tcp_theory.specs.Segment.Control.{Syn, Rst}
use Rattle.tcp_theory.specs.Side.{Side, taken_in, rcv_next, one_if}
use Rattle.tcp_theory.specs.Side.Phase.{Unopened, Listen, SynSent, SynReceived}
use Rattle.tcp_theory.specs.Side.Opening.{NotYet, Passive, Active}
use Rattle.tcp_theory.specs.Move.{Move, May, after, laid}
use Rattle.tcp_theory.specs.Move.Move.{Listens, Connects, Writes, Reads, Closes, Ends, FallsBack, SendsSyn, SendsSynAck, SendsAck, SendsData, SendsKeepAlive}
use Rattle.tcp_theory.specs.Move.Move.{SendsReset, TakesSyn, TakesCrossedSyn, TakesSynAck, TakesAck, TakesBytes, TakesFin}
use Rattle.tcp_theory.specs.Move as machine
use Rattle.tcp_theory.specs.Alone.{unopened}
use Rattle.tcp_theory.specs.Invariant.{IsWellFormed}
use Rattle.tcp_theory.proofs.Lists.{AllByRecursion-at}
use Rattle.tcp_theory.proofs.Grows.{Grows, Grows-same}
use Rattle.tcp_theory.proofs.Calls.{same_bytes, fits_at, early_at, not_late}
use Rattle.tcp_peer.proofs.Among.{slice_get-more}
use Rattle.tcp_net.specs.Joint.{WasSent}
use Rattle.tcp_net.proofs.Oneself.{IsLocal, IsOneself}

-- a listener takes its peer's SYN, and always the same
abbrev pub Hears : Side → Side → Type 0
Hears s t = s.opening ≡ Passive → (s.irs ≡ 0) ⊎ ((s.irs ≡ t.iss) × (t.opening ≡ Active))

pub grows_self : (s : Side) → Grows s s
grows_self s = Grows-same s s (λ late. late) refl refl (λ e. e) refl (λ _. (refl, le_refl _))

pub sent_is_local : (t : Side) (x : Segment) → IsOneself t → WasSent t x → IsLocal t x
sent_is_local t x own (inl reset) = inl reset
sent_is_local t x own (inr sent) = AllByRecursion-at (IsLocal t) t.sent sent.0 x own.sent sent.1

-- the SYN that a listener takes
took_syn : (t : Side) (x : Segment) → IsOneself t → WasSent t x → x.control ≡ Syn → x.ack ≡ None → (2 ^ 32 + x.seq ≡ t.iss) × (t.opening ≡ Active)
took_syn t x own sent syn bare = by (sent_is_local t x own sent) where
  by : IsLocal t x → (2 ^ 32 + x.seq ≡ t.iss) × (t.opening ≡ Active)
  by (inl reset) = absurd (let clash : Syn ≡ Rst = sym syn ∙ reset in cc)
  by (inr h) =
      let says = h.0 syn bare in
      let number = says.0 in
      let low = own.well_formed.iss.0 in
      let high = own.well_formed.iss.1 in
      (omega arith, says.1)

module _ (s t : Side) (came : List Segment) (well : IsWellFormed s) (hears : Hears s t) (all : AllByRecursion (WasSent t) came) (own : IsOneself t) where
  sends_grows : (x : Segment) → Grows s (machine.sends s x)
  sends_grows x = Grows-same s (machine.sends s x) (λ late. late) refl refl (λ e. e) refl (λ _. (refl, le_refl _))

  received_grows : (new : Side) → new.phase ≡ s.phase → new.iss ≡ s.iss → new.written ≡ s.written → new.closed ≡ s.closed → new.opening ≡ s.opening →
      new.irs ≡ s.irs → rcv_next s ≤ rcv_next new → Grows s new
  received_grows new phase iss written closed opening irs further =
      Grows-same s new (λ late. rw phase late) iss written (λ e. closed ∙ e) opening (λ _. (irs, further))

  took : (x : Segment) (k : ℕ) → slice_get came k ≡ Some x → WasSent t x
  took x k e = AllByRecursion-at (WasSent t) came k x all e

  listens_grows : s.phase ≡ Unopened → Grows s (after s Listens)
  listens_grows may =
      let unset = (fits_at s Unopened well may).0 in
      record {
        late = not_late s Unopened may (λ late. late);
        written = same_bytes s.written;
        closed = λ e. (e, refl);
        active = λ e. absurd (let clash : NotYet ≡ Active = sym unset ∙ e in cc);
        taken = λ _. (refl, le_refl _);
      }

  connects_grows : (iss : ℕ) → s.phase ≡ Unopened → Grows s (after s (Connects iss))
  connects_grows iss may =
      let unset = (fits_at s Unopened well may).0 in
      record {
        late = not_late s Unopened may (λ late. late);
        written = same_bytes s.written;
        closed = λ e. (e, refl);
        active = λ e. absurd (let clash : NotYet ≡ Active = sym unset ∙ e in cc);
        taken = λ _. (refl, le_refl _);
      }

  falls_back_grows : (s.phase ≡ SynReceived) × (s.opening ≡ Passive) → Grows s (after s FallsBack)
  falls_back_grows may =
      let no_stream = well.early (early_at s SynReceived may.0 tt) in
      let nothing = ap length no_stream.1 in
      let is_open = no_stream.2 in
      record {
        late = not_late s SynReceived may.0 (λ late. late);
        written = ([], sym (ap (λ (bytes : List ℕ). bytes ++ []) no_stream.0));
        closed = λ e. absurd (let clash : false ≡ true = sym is_open ∙ e in cc);
        active = λ e. absurd (let clash : Passive ≡ Active = sym may.1 ∙ e in cc);
        taken = λ _. (refl, (let no_fin = ap one_if no_stream.3 in omega arith));
      }

  takes_syn_grows : (x : Segment) (iss : ℕ) → machine.MayTakeSyn s (unopened 0 came) x iss → Grows s (after s (TakesSyn x iss))
  takes_syn_grows x iss may =
      let passive : s.opening ≡ Passive = fits_at s Listen well may.listening in
      let counts = (took_syn t x own (took x may.comes.0 may.comes.1) may.syn may.bare).0 in
      record {
        late = not_late s Listen may.listening (λ late. late);
        written = same_bytes s.written;
        closed = λ e. (e, refl);
        active = λ e. absurd (let clash : Passive ≡ Active = sym passive ∙ e in cc);
        taken = λ low. again counts low (hears passive);
      }
    where
      again :
          2 ^ 32 + x.seq ≡ t.iss → 2 ^ 32 ≤ s.irs → (s.irs ≡ 0) ⊎ ((s.irs ≡ t.iss) × (t.opening ≡ Active))
          → (2 ^ 32 + x.seq ≡ s.irs) × (rcv_next s ≤ rcv_next (after s (TakesSyn x iss)))
      again counts low (inl none) = absurd (omega arith)
      again counts low (inr same) = let before = same.0 in (omega arith, omega arith)

  -- in SYN-SENT no SYN was taken before
  asking_grows : (new : Side) → s.phase ≡ SynSent → new.iss ≡ s.iss → new.written ≡ s.written → new.closed ≡ s.closed → new.opening ≡ s.opening →
      Grows s new
  asking_grows new asking iss written closed opening =
      let none = (fits_at s SynSent well asking).1 in
      Grows-same s new (not_late s SynSent asking (λ late. late)) iss written (λ e. closed ∙ e) opening (λ low. absurd (omega arith))

  pub grows_move : (move : Move) → May s (unopened 0 came) move → Grows s (after s move)
  grows_move Listens may = listens_grows may
  grows_move (Connects iss) may = connects_grows iss may.0
  grows_move (Writes bytes) may =
      let is_open = may.unclosed in
      record {
        late = λ late. (late, refl);
        written = (bytes, refl);
        closed = λ e. absurd (let clash : false ≡ true = sym is_open ∙ e in cc);
        active = λ e. (e, refl);
        taken = λ _. (refl, le_refl _);
      }
  grows_move (Reads count) may =
      let same : taken_in (after s (Reads count)) ≡ taken_in s =
      append_assoc s.read (take count s.waiting) (drop count s.waiting) ∙ ap (λ (bytes : List ℕ). s.read ++ bytes) (take-append-drop count s.waiting) in
      let same_length = ap length same in
      received_grows (after s (Reads count)) refl refl refl refl refl refl (omega arith)
  grows_move Closes may = Grows-same s (after s Closes) (λ _. tt) refl refl (λ _. refl) refl (λ _. (refl, le_refl _))
  grows_move Ends may = Grows-same s (after s Ends) (λ _. tt) refl refl (λ e. e) refl (λ _. (refl, le_refl _))
  grows_move FallsBack may = falls_back_grows may
  grows_move SendsSyn may = sends_grows (machine.syn s)
  grows_move SendsSynAck may = sends_grows (machine.syn_ack s)
  grows_move (SendsAck at) may = sends_grows (machine.bare_ack s at)
  grows_move (SendsData at count fin) may = sends_grows (machine.data_segment s at count fin)
  grows_move SendsKeepAlive may = sends_grows (machine.keep_alive s)
  grows_move (SendsReset x) may = sends_grows x
  grows_move (TakesSyn x iss) may = takes_syn_grows x iss may
  grows_move (TakesCrossedSyn x) may = asking_grows (after s (TakesCrossedSyn x)) may.asking refl refl refl refl
  grows_move (TakesSynAck x) may = asking_grows (after s (TakesSynAck x)) may.asking refl refl refl refl
  grows_move (TakesAck x at) may = Grows-same s (after s (TakesAck x at)) (λ _. tt) refl refl (λ e. e) refl (λ _. (refl, le_refl _))
  grows_move (TakesBytes x at) may =
      let new = front (laid s at x.bytes) in
      let all_of_them = length-append s.read s.waiting in
      let with_new = length-append s.read (s.waiting ++ new) in
      let longer = length-append s.waiting new in
      received_grows (after s (TakesBytes x at)) refl refl refl refl refl refl (omega arith)
  grows_move (TakesFin x) may =
      let fin = ap one_if may.unfinished in
      received_grows (after s (TakesFin x)) refl refl refl refl refl refl (omega arith)

  pub hears_move : (move : Move) → May s (unopened 0 came) move → Hears (after s move) t
  hears_move Listens may = λ _. inl (fits_at s Unopened well may).1
  hears_move (Connects iss) may = λ (e : Active ≡ Passive). absurd (cc)
  hears_move (TakesSyn x iss) may = λ _. inr (took_syn t x own (took x may.comes.0 may.comes.1) may.syn may.bare)
  hears_move (TakesCrossedSyn x) may =
      λ e. let active = (fits_at s SynSent well may.asking).0 in absurd (let clash : Active ≡ Passive = sym active ∙ e in cc)
  hears_move (TakesSynAck x) may =
      λ e. let active = (fits_at s SynSent well may.asking).0 in absurd (let clash : Active ≡ Passive = sym active ∙ e in cc)
  hears_move FallsBack may = λ _. hears may.1
  hears_move (Writes bytes) may = hears
  hears_move (Reads count) may = hears
  hears_move Closes may = hears
  hears_move Ends may = hears
  hears_move SendsSyn may = hears
  hears_move SendsSynAck may = hears
  hears_move (SendsAck at) may = hears
  hears_move (SendsData at count fin) may = hears
  hears_move SendsKeepAlive may = hears
  hears_move (SendsReset x) may = hears
  hears_move (TakesAck x at) may = hears
  hears_move (TakesBytes x at) may = hears
  hears_move (TakesFin x) may = hears

pub hears_peer : (s t t' : Side) → Grows t t' → Hears s t → Hears s t'
hears_peer s t t' grows hears passive = by (hears passive) where
  by : (s.irs ≡ 0) ⊎ ((s.irs ≡ t.iss) × (t.opening ≡ Active)) → (s.irs ≡ 0) ⊎ ((s.irs ≡ t'.iss) × (t'.opening ≡ Active))
  by (inl none) = inl none
  by (inr same) = let stays = grows.active same.1 in inr (same.0 ∙ sym stays.1, stays.0)

-- what was sent stays sent
sent_more : (s : Side) (x y : Segment) → WasSent s x → WasSent (machine.sends s y) x
sent_more s x y (inl reset) = inl reset
sent_more s x y (inr sent) = inr (sent.0, slice_get-more s.sent (y ∷ []) sent.0 x sent.1)

pub sent_move : (s : Side) (move : Move) (x : Segment) → WasSent s x → WasSent (after s move) x
sent_move s SendsSyn x sent = sent_more s x (machine.syn s) sent
sent_move s SendsSynAck x sent = sent_more s x (machine.syn_ack s) sent
sent_move s (SendsAck at) x sent = sent_more s x (machine.bare_ack s at) sent
sent_move s (SendsData at count fin) x sent = sent_more s x (machine.data_segment s at count fin) sent
sent_move s SendsKeepAlive x sent = sent_more s x (machine.keep_alive s) sent
sent_move s (SendsReset y) x sent = sent_more s x y sent
sent_move s Listens x sent = sent
sent_move s (Connects iss) x sent = sent
sent_move s (Writes bytes) x sent = sent
sent_move s (Reads count) x sent = sent
sent_move s Closes x sent = sent
sent_move s Ends x sent = sent
sent_move s FallsBack x sent = sent
sent_move s (TakesSyn y iss) x sent = sent
sent_move s (TakesCrossedSyn y) x sent = sent
sent_move s (TakesSynAck y) x sent = sent
sent_move s (TakesAck y at) x sent = sent
sent_move s (TakesBytes y at) x sent = sent
sent_move s (TakesFin y) x sent = sent
