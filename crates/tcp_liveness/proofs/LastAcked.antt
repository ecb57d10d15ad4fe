-- Whatever segment ends LAST-ACK, but a reset: the other has taken the FIN.
use Rattle.std.proofs.Common.{◌≡◌, inl, inr, ℕ, suc, ◌+◌, ◌-◌, ◌%◌, ◌^◌, ◌<◌, ◌≤◌, Bool, true, false, List, length, Option, Some, option_map, slice_get}
use Rattle.std.proofs.Common.{refl, sym, ap, ◌∙◌, subst, arith}
use Rattle.std.proofs.lemmas.Bool.{cond_both}
use Rattle.std.proofs.lemmas.Option.{slice_get-map}
use Rattle.ip_wire.specs.IpRepr.{IpRepr}
use Rattle.ip_wire.specs.TcpHeader.{TcpHeader}
use Rattle.tcp_theory.specs.Invariant.{HasReached, IsHonest, IsInStep}
use Rattle.tcp_theory.specs.Side.{one_if as one_in, send_end, taken_in as bytes_in}
use Rattle.tcp_theory.proofs.Lists.{Begins-length}
use Rattle.tcp_refinement.specs.Context.{ContextValue}
use Rattle.tcp_refinement.specs.Tie.{IsConnectedAs, Keeps, Past, ack_of, core_of, is_closed_in, segment_of, unsent}
use Rattle.tcp_refinement.proofs.PromiseLemmas.{Shows, shows}
use Rattle.tcp_refinement.proofs.Tied.{fits_connected}
use Rattle.tcp_invariants.specs.Controls.{is_rst}
use Rattle.tcp_invariants.specs.State.TheVariants as In
use Rattle.tcp_invariants.specs.States.{is_closed}
use Rattle.tcp_invariants.proofs.OrderSteps.{clash}
use Rattle.tcp_block.specs.Arrival.{arrives}
use Rattle.tcp_block.specs.Names.{accepts}
use Rattle.tcp_refinement.specs.Pair.Sides.{other}
use Rattle.tcp_refinement.specs.Pair.Steps.{handed, taken_at}
use Rattle.tcp_block.specs.Value.{TcpValue}
use Rattle.tcp_refinement.specs.Pair.Values.{PairSide, PairValue, context_at, past_at, seen_of}
use Rattle.tcp_refinement.specs.declared.pair.event.SentSegment.{SentSegment}
use Rattle.tcp_refinement.specs.declared.pair.event.Side.{Side}
use Rattle.tcp_refinement.specs.declared.pair.event.Side.TheVariants.{A, B}
use Rattle.tcp_liveness.specs.Arrivals.{is_synchronized}
use Rattle.tcp_liveness.specs.Exchange.{left_of}
use Rattle.tcp_liveness.specs.LastAck.{EndsAt}
use Rattle.tcp_liveness.specs.Pair.{socket_of}
use Rattle.tcp_liveness.specs.Reached.{IsReached}
use Rattle.tcp_liveness.proofs.Closes.{closes_last}
use Rattle.tcp_liveness.proofs.EndsTold.{AcksAll, closes_all}
use Rattle.tcp_liveness.proofs.Kept.{reached_keeps}
use Rattle.tcp_liveness.proofs.LateAnswers.{no_number, no_rst, one_of, same_number}
use Rattle.tcp_liveness.proofs.Pair.{in_step, late_in, not_closed}
use Rattle.tcp_liveness.proofs.Positions.{IsPlaced, connected_in, placed}

-- OF TWO SOCKETS

module _ (cx : ContextValue) (v w : TcpValue) (p q : Past) (k : Keeps v p w q) (ip : IpRepr) (header : TcpHeader) (bytes : List ℕ)
    (mine : is_synchronized v.tcb.state ≡ true) (step : IsInStep k.side k.peer_side) (no_reset : is_rst header.control ≡ false) (n : ℕ)
    (gone : slice_get q.sent n ≡ Some (segment_of header bytes)) (over : is_closed (arrives cx v ip header bytes).socket.tcb.state ≡ true) where
  in_last_ack : v.tcb.state ≡ In.LastAck
  in_last_ack = (closes_last cx ip header bytes v (late_in v.tcb.state mine) (not_closed v.tcb.state mine) no_reset over).0

  all : AcksAll v header
  all = closes_all cx ip header bytes v (late_in v.tcb.state mine) (not_closed v.tcb.state mine) no_reset over

  -- the peer has reached its number
  reached : HasReached k.peer_side all.number.0
  reached =
      by
      (one_of (IsHonest k.peer_side k.side) k.peer_side.sent n (segment_of header bytes) k.holds.1.sent
      (ap (λ (past : Past). slice_get past.sent n) k.peer_side_past ∙ gone))
    where
      by : IsHonest k.peer_side k.side (segment_of header bytes) → HasReached k.peer_side all.number.0
      by (inl rst) = no_rst header.control no_reset rst
      by (inr (what, inl none)) = no_number all.number.0 (sym (ap ack_of all.acknowledges) ∙ none)
      by (inr (what, inr (m, is, it))) =
          subst (HasReached k.peer_side) (same_number m all.number.0 (sym is ∙ ap ack_of all.acknowledges)) it

  at_most_one : (t : Bool) → one_in t ≤ 1
  at_most_one true = omega arith
  at_most_one false = omega arith

  a : IsPlaced v k.side
  a = placed v k.side k.fits k.holds.0.well_formed mine

  -- and with it the end
  end : send_end k.side ≤ reached.at
  end =
      by k.side.iss k.peer_side.irs k.side.una (left_of v) (length k.side.written) (one_in k.side.closed) reached.at v.tcb.sender.una.0 all.number.0 a.end
      step.counts reached.after_syn k.holds.0.well_formed.short (at_most_one k.side.closed) a.una reached.same all.far
    where
      by :
          (iss irs una left written closed at una_number number : ℕ) → una + left ≡ suc iss + written + closed → irs ≡ iss → irs < at
          → written < 2 ^ 29 → closed ≤ 1 → una_number ≡ una % 2 ^ 32 → number ≡ at % 2 ^ 32 → (number + (2 ^ 32 - una_number)) % 2 ^ 32 ≡ left
          → suc iss + written + closed ≤ at
      by iss irs una left written closed at una_number number b c d e f g h i = omega arith

  closed : k.side.closed ≡ true
  closed = f.closed ∙ ap is_closed_in in_last_ack where
    f : IsConnectedAs (core_of v) (unsent k.side)
    f = fits_connected v.tcb.state (core_of v) (unsent k.side) (connected_in v.tcb.state mine) k.fits

  fin : w.tcb.receiver.took_fin ≡ true
  fin =
      shown.took_fin
      ∙ some k.peer_side.took_fin
      (by k.side.iss k.peer_side.irs (length k.side.written) (one_in k.side.closed) (length (bytes_in k.peer_side)) (one_in k.peer_side.took_fin) reached.at end
      reached.high step.counts (Begins-length (bytes_in k.peer_side) k.side.written k.holds.0.received) (ap one_in closed))
    where
      shown : Shows (core_of w) k.peer_side
      shown = shows (core_of w) k.peer_side k.side (k.holds.1, k.holds.0) k.peer_side_fits

      some : (t : Bool) → 1 ≤ one_in t → t ≡ true
      some true e = refl
      some false e = absurd (omega arith)

      by :
          (iss irs written closed bytes fin at : ℕ) → suc iss + written + closed ≤ at → at ≤ suc irs + bytes + fin → irs ≡ iss → bytes ≤ written
          → closed ≡ 1 → 1 ≤ fin
      by iss irs written closed bytes fin at b c d e f = omega arith

-- OF A PAIR

-- it came to the side, which accepted it
came : (side : Side) (s : PairSide) (sent : Option SentSegment) (x : SentSegment) → sent ≡ Some x → is_closed s.socket.tcb.state ≡ false
    → is_closed (handed side s sent).socket.tcb.state ≡ true
    → is_closed (arrives (context_at side s) s.socket x.header x.segment x.bytes).socket.tcb.state ≡ true
came side s sent x it alive over =
    cond_both (accepts s.socket.tcb x.header x.segment) (taken_at s (arrives (context_at side s) s.socket x.header x.segment x.bytes)) s
    (λ (t : PairSide). is_closed t.socket.tcb.state ≡ true
    → is_closed (arrives (context_at side s) s.socket x.header x.segment x.bytes).socket.tcb.state ≡ true)
    (λ _ e. e) (λ _ e. clash (sym e ∙ alive))
    (sym (ap (λ (sent : Option SentSegment). is_closed (handed side s sent).socket.tcb.state) it) ∙ over)

module _ (p : PairValue) (k : ℕ) (x : SentSegment) (r : IsReached p) where
  keeps_a : Keeps p.sides.a.socket (past_at p A) p.sides.b.socket (past_at p B)
  keeps_a = reached_keeps p A r

  keeps_b : Keeps p.sides.b.socket (past_at p B) p.sides.a.socket (past_at p A)
  keeps_b = reached_keeps p B r

  came_a : EndsAt p A k x → is_closed (arrives (context_at A p.sides.a) p.sides.a.socket x.header x.segment x.bytes).socket.tcb.state ≡ true
  came_a e = came A p.sides.a (slice_get p.sides.b.sent k) x e.sent (not_closed p.sides.a.socket.tcb.state e.there) e.over

  came_b : EndsAt p B k x → is_closed (arrives (context_at B p.sides.b) p.sides.b.socket x.header x.segment x.bytes).socket.tcb.state ≡ true
  came_b e = came B p.sides.b (slice_get p.sides.a.sent k) x e.sent (not_closed p.sides.b.socket.tcb.state e.there) e.over

  pub ends_last : (side : Side) → EndsAt p side k x → (socket_of p side).tcb.state ≡ In.LastAck
  ends_last A e =
      (closes_last (context_at A p.sides.a) x.header x.segment x.bytes p.sides.a.socket (late_in p.sides.a.socket.tcb.state e.there)
      (not_closed p.sides.a.socket.tcb.state e.there) e.no_reset (came_a e)).0
  ends_last B e =
      (closes_last (context_at B p.sides.b) x.header x.segment x.bytes p.sides.b.socket (late_in p.sides.b.socket.tcb.state e.there)
      (not_closed p.sides.b.socket.tcb.state e.there) e.no_reset (came_b e)).0

  pub ends_taken : (side : Side) → EndsAt p side k x → (socket_of p (other side)).tcb.receiver.took_fin ≡ true
  ends_taken A e =
      fin (context_at A p.sides.a) p.sides.a.socket p.sides.b.socket (past_at p A) (past_at p B) keeps_a x.header x.segment x.bytes e.there
      (in_step p.sides.a.socket p.sides.b.socket (past_at p A) (past_at p B) keeps_a e.there e.stream) e.no_reset k
      (slice_get-map seen_of p.sides.b.sent k ∙ ap (option_map seen_of) e.sent) (came_a e)
  ends_taken B e =
      fin (context_at B p.sides.b) p.sides.b.socket p.sides.a.socket (past_at p B) (past_at p A) keeps_b x.header x.segment x.bytes e.there
      (in_step p.sides.b.socket p.sides.a.socket (past_at p B) (past_at p A) keeps_b e.there e.stream) e.no_reset k
      (slice_get-map seen_of p.sides.a.sent k ∙ ap (option_map seen_of) e.sent) (came_b e)
