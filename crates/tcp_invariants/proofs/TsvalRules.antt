-- TS.Recent, and segments with timestamps that are too old.
use Rattle.std.proofs.Common.{◌≡◌, ◌⊎◌, inl, inr, ℕ, ◌==◌, ◌&&◌, ◌||◌, not, ℤ, Bool, true, false, if◌then◌else◌, List, length, Option, Some, None, is_some}
use Rattle.std.proofs.Common.{refl, sym, ◌∙◌}
use Rattle.std.proofs.lemmas.Bool.{cond_both}
use Rattle.ip_wire.specs.IpRepr.{IpRepr}
use Rattle.ip_wire.specs.TcpHeader.{TcpHeader}
use Rattle.ip_wire.specs.TcpTimestampRepr.{TcpTimestampRepr}
use Rattle.tcp_state.specs.Controls.{is_rst, or_recent}
use Rattle.tcp_state.specs.Offsets.{distance_after}
use Rattle.tcp_state.specs.declared.state.State.{State}
use Rattle.tcp_state.specs.declared.state.State.TheVariants as In
use Rattle.tcp_block.specs.Answers.{drawn, may_challenge, with_draw, acked}
use Rattle.tcp_block.specs.Arrival.{reset_arrives, challenges_first, challenges_syn, checked, received, arrives_in, arrives, is_void_syn}
use Rattle.tcp_block.specs.Checks.{acknowledgement_check}
use Rattle.tcp_block.specs.Context.{ContextValue}
use Rattle.tcp_block.specs.Segments.{no_ranges}
use Rattle.tcp_block.specs.Timestamps.{is_older, is_recent_valid, arrives_older, names_recent, tsval_taken, is_stale}
use Rattle.tcp_block.specs.Value.{TcpValue, Arrived, dropped, unoffered}
use Rattle.tcp_block.specs.declared.tcb.Tcb.{Tcb}
use Rattle.tcp_invariants.specs.Events.{is_past}
use Rattle.tcp_invariants.specs.Forged.{IsUntouched}
use Rattle.tcp_invariants.specs.Stamps.{IsTooOld, RisesRecent, RisesOrListens}
use Rattle.tcp_invariants.proofs.AckRules.{is_in}
use Rattle.tcp_invariants.proofs.ArrivalCases.{by_arrival, Received, Opening, Content, Drawing}
use Rattle.tcp_invariants.proofs.ForgedRules.{Left, stays, answers}
use Rattle.tcp_invariants.proofs.OrderSteps.{clash}

-- WHAT SETS TS.RECENT

abbrev Rises : ℕ → Bool → ℕ → Type 0
Rises old believes new = (new ≡ old) ⊎ ((is_older new old ≡ false) ⊎ (believes ≡ false))

named : (tsval : Option TcpTimestampRepr) (recent : ℕ) (believes within : Bool)
    → (is_some tsval && (within && not (believes && arrives_older tsval recent))) ≡ true → Rises recent believes (or_recent tsval recent)
named None recent believes within e = clash (sym e)
named (Some tsval) recent believes false e = clash (sym e)
named (Some tsval) recent false true e = inr (inr refl)
named (Some tsval) recent true true e = inr (inl (untrue (is_older tsval.tsval recent) e)) where
  untrue : (a : Bool) → not a ≡ true → a ≡ false
  untrue true e = clash (sym e)
  untrue false e = refl

taken_rises : (b : Tcb) (header : TcpHeader) (now : ℤ) → RisesRecent b (tsval_taken b header now) now
taken_rises b header now =
    cond_both (names_recent b header now) (or_recent header.options.timestamp b.peer.recent) b.peer.recent (Rises b.peer.recent (is_recent_valid b now))
    (λ names. named header.options.timestamp b.peer.recent (is_recent_valid b now) (distance_after b.receiver.last_ack header.seq_number == 0) names)
    (λ _. inl refl)

module _ (cx : ContextValue) (v : TcpValue) (ip : IpRepr) (header : TcpHeader) (bytes : List ℕ) (past : is_past v.tcb.state ≡ true) where
  abbrev Kept : Arrived → Type 0
  Kept a = RisesOrListens v.tcb a.socket.tcb cx.instant

  content : (x : TcpValue) → RisesRecent v.tcb x.tcb cx.instant → Content cx ip header bytes Kept x
  content x r = record {
    plain = (λ _. inr r, inr r);
    fin = λ _ _. (λ _. inr r, inr r);
    ordered = λ _ _ _ _. (λ _. inr r, inr r);
    ordered_fin = λ _ _ _ _. (λ _. inr r, inr r);
    early = λ _ _ _ _. inr r;
  }

  drawing : (x : TcpValue) → RisesRecent v.tcb x.tcb cx.instant → Drawing cx ip header bytes Kept x
  drawing x r = record { answers = λ _. inr r; at_once = inr r; pauses = inr r }

  on_arrival : Received cx ip header bytes Kept (unoffered v)
  on_arrival = record {
    stays = inr (inl refl);
    refuses = inr (inl refl);
    draws = drawing _ (inl refl);
    falls = λ _ _ _. inl refl;
    ends = λ _ _ _. inr (inl refl);
    closes = λ by _ _. inr (inl refl);
    taken = λ by _ _. content _ (taken_rises v.tcb header cx.instant);
    taken_window = λ by _ _. content _ (taken_rises v.tcb header cx.instant);
    news = λ by _ _. drawing _ (inl refl);
    outside = drawing _ (inl refl);
    old = λ _. content _ (taken_rises v.tcb header cx.instant);
  }

  not_opening : Opening cx ip header bytes Kept (unoffered v)
  not_opening = record {
    opens = λ at _. absurd ((is_in v.tcb.state past).0 at);
    refuses = inr (inl refl);
    ends = λ at. absurd ((is_in v.tcb.state past).1 at);
    connects = λ at _. absurd ((is_in v.tcb.state past).1 at);
    crosses = λ at _. absurd ((is_in v.tcb.state past).1 at);
  }

  kept_arrival : Kept (arrives cx v ip header bytes)
  kept_arrival = by_arrival cx ip header bytes Kept v (inr (inl refl)) (λ _. not_opening) (λ _. on_arrival)

pub recent_rises : (cx : ContextValue) (v : TcpValue) (ip : IpRepr) (header : TcpHeader) (bytes : List ℕ) → is_past v.tcb.state ≡ true
    → RisesOrListens v.tcb (arrives cx v ip header bytes).socket.tcb cx.instant
recent_rises cx v ip header bytes past = kept_arrival cx v ip header bytes past

-- WHAT IS TOO OLD

module _ (cx : ContextValue) (ip : IpRepr) (header : TcpHeader) (bytes : List ℕ) (v : TcpValue) where
  either : (a b : Bool) → a ≡ true → (a || b) ≡ true
  either true b e = refl
  either false b e = clash (sym e)

  by_stale : is_rst header.control ≡ false → is_stale v.tcb header cx.instant ≡ true → Left v (received cx (unoffered v) ip header bytes)
  by_stale no_rst stale =
      cond_both (is_rst header.control) (reset_arrives cx (unoffered v) ip header (length bytes))
      (if challenges_first v.tcb header cx.instant then drawn cx (unoffered v) ip header
      else checked (acknowledgement_check v.tcb header.ack_number) cx (unoffered v) ip header bytes)
      (Left v)
      (λ rst. clash (sym rst ∙ no_rst))
      (λ _.
      cond_both (challenges_first v.tcb header cx.instant) (drawn cx (unoffered v) ip header)
      (checked (acknowledgement_check v.tcb header.ack_number) cx (unoffered v) ip header bytes) (Left v)
      (λ _.
      cond_both (may_challenge cx.instant v.tcb.timers.challenges_from) (acked cx (with_draw (unoffered v) cx.instant) ip header no_ranges)
      (dropped (unoffered v)) (Left v)
      (λ _. answers cx ip header bytes v)
      (λ _. stays cx ip header bytes v))
      (λ not_drawn. clash (sym (either (is_stale v.tcb header cx.instant) (challenges_syn v.tcb header) stale) ∙ not_drawn)))

  by_state : (state : State) → is_past state ≡ true → is_rst header.control ≡ false → is_stale v.tcb header cx.instant ≡ true
      → Left v (arrives_in state cx (unoffered v) ip header bytes)
  by_state In.Closed past no_rst stale = clash (sym past)
  by_state In.Listen past no_rst stale = clash (sym past)
  by_state In.SynSent past no_rst stale = clash (sym past)
  by_state other past no_rst stale = by_stale no_rst stale

  left : is_past v.tcb.state ≡ true → is_rst header.control ≡ false → is_stale v.tcb header cx.instant ≡ true → Left v (arrives cx v ip header bytes)
  left past no_rst stale =
      cond_both (is_void_syn header) (dropped (unoffered v)) (arrives_in v.tcb.state cx (unoffered v) ip header bytes) (Left v)
      (λ _. stays cx ip header bytes v)
      (λ _. by_state v.tcb.state past no_rst stale)

pub stale_untouched : (cx : ContextValue) (v : TcpValue) (ip : IpRepr) (header : TcpHeader) (bytes : List ℕ) → is_past v.tcb.state ≡ true
    → is_rst header.control ≡ false → is_stale v.tcb header cx.instant ≡ true → IsUntouched v (arrives cx v ip header bytes).socket
stale_untouched cx v ip header bytes past no_rst stale = (left cx ip header bytes v past no_rst stale).0

pub stale_ignored : (cx : ContextValue) (v : TcpValue) (ip : IpRepr) (header : TcpHeader) (bytes : List ℕ) → is_past v.tcb.state ≡ true
    → is_rst header.control ≡ false → is_stale v.tcb header cx.instant ≡ true → (arrives cx v ip header bytes).answer ≡ None
    → (arrives cx v ip header bytes).socket ≡ unoffered v
stale_ignored cx v ip header bytes past no_rst stale = (left cx ip header bytes v past no_rst stale).1

stale : (b : Tcb) (header : TcpHeader) (now : ℤ) → IsTooOld b header now → is_stale b header now ≡ true
stale b header now old = rw (old.uses, old.believed, old.has, old.older) refl

pub old_untouched : (cx : ContextValue) (v : TcpValue) (ip : IpRepr) (header : TcpHeader) (bytes : List ℕ) → is_past v.tcb.state ≡ true
    → is_rst header.control ≡ false → IsTooOld v.tcb header cx.instant → IsUntouched v (arrives cx v ip header bytes).socket
old_untouched cx v ip header bytes past no_rst old = stale_untouched cx v ip header bytes past no_rst (stale v.tcb header cx.instant old)

pub old_ignored : (cx : ContextValue) (v : TcpValue) (ip : IpRepr) (header : TcpHeader) (bytes : List ℕ) → is_past v.tcb.state ≡ true
    → is_rst header.control ≡ false → IsTooOld v.tcb header cx.instant → (arrives cx v ip header bytes).answer ≡ None
    → (arrives cx v ip header bytes).socket ≡ unoffered v
old_ignored cx v ip header bytes past no_rst old = stale_ignored cx v ip header bytes past no_rst (stale v.tcb header cx.instant old)
