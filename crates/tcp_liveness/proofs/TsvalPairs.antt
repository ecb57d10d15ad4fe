-- Of each pair that events led to: TS.Recent is what the peer's clock showed, and within 24 days nothing that goes is older.
use Rattle.std.proofs.Common.{◌≡◌, ◌⊎◌, inl, inr, ℕ, ◌&&◌, ℤ, pos, ◌≤ℤ◌, Bool, true, false, List, [], ◌∷◌, Option, Some, None, refl, sym, ap, ◌∙◌, subst, arith}
use Rattle.std.proofs.lemmas.Int.{ints}
use Rattle.ip_wire.specs.IpRepr.{IpRepr}
use Rattle.ip_wire.specs.TcpHeader.{TcpHeader}
use Rattle.ip_wire.specs.TcpTimestampGenerator.{TcpTimestampGenerator}
use Rattle.ip_wire.specs.TcpTimestampRepr.{TcpTimestampRepr}
use Rattle.ip_wire.specs.Timestamp.{value_at}
use Rattle.tcp_refinement.specs.Tie.{Past}
use Rattle.tcp_theory.specs.Side.Opening.{NotYet}
use Rattle.tcp_invariants.specs.Moments.{tsval_end_from}
use Rattle.tcp_invariants.specs.OpenOffer.{OpenOffer}
use Rattle.tcp_invariants.specs.Reply.{Reply}
use Rattle.tcp_invariants.specs.States.{is_closed}
use Rattle.tcp_invariants.proofs.OrderSteps.{clash}
use Rattle.tcp_block.specs.Arrival.{arrives}
use Rattle.tcp_block.specs.declared.tcb.Tcb.{Tcb}
use Rattle.tcp_refinement.specs.Pair.History.{adds, pasts, side_of}
use Rattle.tcp_block.specs.Offers.{offer_of}
use Rattle.tcp_refinement.specs.Pair.Sides.{Both, at, other, put}
use Rattle.tcp_refinement.specs.Pair.Steps.{Steps, acts, happens, refusal}
use Rattle.tcp_block.specs.Timestamps.{is_older}
use Rattle.tcp_refinement.specs.Pair.Values.{PairSide, PairValue, context_at, past_at}
use Rattle.tcp_refinement.specs.declared.pair.event.PairEvent.{PairEvent}
use Rattle.tcp_refinement.specs.declared.pair.event.PairEvent.TheVariants.{Offer}
use Rattle.tcp_refinement.specs.declared.pair.event.Side.{Side}
use Rattle.tcp_refinement.specs.declared.pair.event.Side.TheVariants.{A, B}
use Rattle.tcp_refinement.proofs.SideLaws.{IsAllowed}
use Rattle.tcp_liveness.specs.Clocks.{HasDays, IsTimed, KeepsTime, WasShown, arrives_stale}
use Rattle.tcp_liveness.specs.Pair.{context_of, socket_of}
use Rattle.tcp_liveness.specs.Reached.{IsReached, Start, both_started}
use Rattle.tcp_liveness.proofs.Halfway.{not_older}
use Rattle.tcp_liveness.proofs.Kept.{reached_by, reached_keeps}
use Rattle.tcp_liveness.proofs.Moments.{Proceeds, comes_later, proceeds, le_of}
use Rattle.tcp_liveness.proofs.SentPairs.{is_allowed}
use Rattle.tcp_liveness.proofs.TsvalCases.{IsOwn, arrival_hears, goes_of, offer_asks}
use Rattle.tcp_liveness.proofs.TsvalEvents.{Way, answered_set, goes_set, own_event, peer_side_event, unopened}
use Rattle.tcp_liveness.proofs.Stampless.{stale_none, tsval_in}

-- A PAIR

abbrev pub Ingress : ℤ → Both PairSide → Both Past → Side → Type 0
Ingress since sides ps side = Way since (at sides side) (at sides (other side)) (at ps side).opening

put_own :
    (since : ℤ) (side : Side) (sides : Both PairSide) (ps : Both Past) (x : PairSide) (q : Past) → Way since x (at sides (other side)) q.opening
    → Ingress since (put sides side x) (put ps side q) side
put_own since A sides ps x q w = w
put_own since B sides ps x q w = w

put_peer_side :
    (since : ℤ) (side : Side) (sides : Both PairSide) (ps : Both Past) (x : PairSide) (q : Past) → Way since (at sides side) x (at ps side).opening
    → Ingress since (put sides (other side) x) (put ps (other side) q) side
put_peer_side since A sides ps x q w = w
put_peer_side since B sides ps x q w = w

pub twice : (side : Side) → other (other side) ≡ side
twice A = refl
twice B = refl

which : (of side : Side) → (of ≡ side) ⊎ (of ≡ other side)
which A A = inl refl
which A B = inr refl
which B A = inr refl
which B B = inl refl

-- what an event leads to, where it is for this side
abbrev LedTo : ℤ → PairValue → PairEvent → Side → Side → Type 0
LedTo since p event side of =
    Ingress since (put p.sides of (acts (at p.sides of) (at p.sides (other of)).sent event).side)
    (put (pasts p.history) of
    (adds event (acts (at p.sides of) (at p.sides (other of)).sent event).answer (at p.sides of).socket.tcb.state (at (pasts p.history) of)))
    side

event_way :
    (since : ℤ) (side : Side) (p : PairValue) (event : PairEvent) → IsReached p → refusal p event ≡ None
    → (side_of event ≡ side → KeepsTime since event (at (pasts p.history) side).opening) → Ingress since p.sides (pasts p.history) side
    → Ingress since (happens p event).pair.sides (pasts (happens p event).pair.history) side
event_way since side p event r taken keeps w = by (which (side_of event) side) where
  closed : (at (pasts p.history) side).opening ≡ NotYet → is_closed (at p.sides side).socket.tcb.state ≡ true
  closed first = unopened (socket_of p side) (socket_of p (other side)) (past_at p side) (past_at p (other side)) (reached_keeps p side r) first

  by : (side_of event ≡ side) ⊎ (side_of event ≡ other side) → LedTo since p event side (side_of event)
  by (inl same) =
      subst (LedTo since p event side) (sym same)
      (put_own since side p.sides (pasts p.history) (acts (at p.sides side) (at p.sides (other side)).sent event).side
      (adds event (acts (at p.sides side) (at p.sides (other side)).sent event).answer (at p.sides side).socket.tcb.state (at (pasts p.history) side))
      (own_event since (at p.sides side) (at p.sides (other side)) (at (pasts p.history) side) w (at p.sides (other side)).sent event closed
      (subst (λ (of : Side). IsAllowed event (at (pasts p.history) of)) same (is_allowed p event taken))
      (subst (λ (of : Side). Proceeds (at p.sides of) event) same (proceeds p event taken)) (keeps same)))
  by (inr apart) =
      subst (LedTo since p event side) (sym apart)
      (put_peer_side since side p.sides (pasts p.history) (acts (at p.sides (other side)) (at p.sides (other (other side))).sent event).side
      (adds event (acts (at p.sides (other side)) (at p.sides (other (other side))).sent event).answer (at p.sides (other side)).socket.tcb.state
      (at (pasts p.history) (other side)))
      (subst (λ (of : Side). Way since (at p.sides side) (acts (at p.sides (other side)) (at p.sides of).sent event).side (at (pasts p.history) side).opening)
      (sym (twice side))
      (peer_side_event since (at p.sides side) (at p.sides (other side)) (at (pasts p.history) side).opening w event)))

-- what was so at the end was so before
pub earlier : (since : ℤ) (side : Side) (p : PairValue) (events : List PairEvent) (new : PairValue) → Steps p events new → IsTimed since side new.history →
    IsTimed since side p.history
earlier since side p [] new s t = subst (λ (p : PairValue). IsTimed since side p.history) s t
earlier since side p (event ∷ events) new s t = (earlier since side (happens p event).pair events new s.1 t).1

steps_way :
    (since : ℤ) (side : Side) (p : PairValue) (events : List PairEvent) (new : PairValue) → IsReached p → Steps p events new
    → IsTimed since side new.history → Ingress since p.sides (pasts p.history) side → Ingress since new.sides (pasts new.history) side
steps_way since side p [] new r s t w = subst (λ (p : PairValue). Ingress since p.sides (pasts p.history) side) (sym s) w
steps_way since side p (event ∷ events) new r s t w =
    steps_way since side (happens p event).pair events new (reached_by p (happens p event).pair (event ∷ []) r (s.0, refl)) s.1 t
    (event_way since side p event r s.0 (earlier since side (happens p event).pair events new s.1 t).0 w)

new_way : (since : ℤ) (side : Side) (a b : Start) → Ingress since (both_started a b).sides (pasts []) side
new_way since A a b = record {
  clock = inl refl;
  sent = tt;
  heard = λ agreed. clash (sym agreed);
  silent = λ _. record { clock = refl; sent = tt; unheard = refl };
}
new_way since B a b = record {
  clock = inl refl;
  sent = tt;
  heard = λ agreed. clash (sym agreed);
  silent = λ _. record { clock = refl; sent = tt; unheard = refl };
}

pub reached_way : (since : ℤ) (side : Side) (p : PairValue) → IsReached p → IsTimed since side p.history → Ingress since p.sides (pasts p.history) side
reached_way since side p r t =
    steps_way since side (both_started r.a r.b) r.events p
    (record { a = r.a; b = r.b; events = []; steps = refl }) r.steps t
    (new_way since side r.a r.b)

pub was_shown :
    (p : PairValue) (side : Side) (since : ℤ) → IsReached p → IsTimed since side p.history → (socket_of p (other side)).tcb.peer.timestamps ≡ true
    → WasShown (socket_of p side).tcb.settings.timestamps since (at p.sides side).instant (socket_of p (other side)).tcb.peer.recent
was_shown p side since r t agreed = (reached_way since side p r t).heard agreed

-- A CLOCK OF MILLISECONDS

upto : (a b c : ℤ) → a ≤ℤ b → b ≤ℤ c → a ≤ℤ c
upto a b c e f = grind arith

one_clock : (a b : TcpTimestampGenerator) → Some a ≡ Some b → a ≡ b
one_clock a b e = cc

later_end : (a b : ℤ) → a ≤ℤ b → tsval_end_from a ≤ℤ tsval_end_from b
later_end a b e = first_of (omega (arith, ints), grind (arith, ints))

-- what a clock shows isn't older than what it showed within 24 days
pub initial_by :
    (b : Tcb) (set : Option TcpTimestampGenerator) (since last now : ℤ) (tsval : Option TcpTimestampRepr) → pos 0 ≤ℤ since → last ≤ℤ now
    → now ≤ℤ tsval_end_from since → (b.peer.timestamps ≡ true → WasShown set since last b.peer.recent) → IsOwn set now tsval
    → arrives_stale b tsval ≡ false
initial_by b set since last now None begun later near shown own = stale_none b None refl
initial_by b set since last now (Some tsval) begun later near shown own = by b.peer.timestamps refl where
  by : (agreed : Bool) → b.peer.timestamps ≡ agreed → (agreed && is_older tsval.tsval b.peer.recent) ≡ false
  by true e =
      let it = shown e in
      ap (λ (n : ℕ). is_older n b.peer.recent) own.shows
      ∙ (ap (λ (g : TcpTimestampGenerator). is_older (value_at g now) b.peer.recent) (one_clock own.generator it.generator (sym own.of ∙ it.of))
      ∙ (ap (λ (n : ℕ). is_older (value_at it.generator now) n) it.shows
      ∙ not_older it.generator now it.instant (upto (pos 0) since it.instant begun it.after) (upto it.instant last now it.before later)
      (upto now (tsval_end_from since) (tsval_end_from it.instant) near (later_end since it.instant it.after))))
  by false e = refl

-- WHAT GOES

pub offer_initial :
    (p : PairValue) (side : Side) (instant : ℤ) (o : OpenOffer) → IsReached p → HasDays p side instant → (at p.sides side).instant ≤ℤ instant
    → (offer_of (context_of p side instant) (socket_of p side)).socket.offered ≡ Some o
    → arrives_stale (socket_of p (other side)).tcb o.segment.options.timestamp ≡ false
offer_initial p side instant o r d later offered =
    initial_by (socket_of p (other side)).tcb (socket_of p side).tcb.settings.timestamps d.since (at p.sides side).instant instant
    o.segment.options.timestamp d.begun later d.within w.heard
    (goes_set d.since (at p.sides side) (at p.sides (other side)) (at (pasts p.history) side) w (context_of p side instant) o.segment.options.timestamp
    (goes_of (context_of p side instant) (socket_of p side) (offer_of (context_of p side instant) (socket_of p side)).socket.offered o offered
    (offer_asks (context_of p side instant) (socket_of p side)).2))
  where
    w : Ingress d.since p.sides (pasts p.history) side
    w = reached_way d.since side p r d.timed

pub offer_of_pair_initial :
    (p : PairValue) (side : Side) (instant : ℤ) (o : OpenOffer) → IsReached p → HasDays p side instant → refusal p (Offer side instant true) ≡ None
    → (offer_of (context_of p side instant) (socket_of p side)).socket.offered ≡ Some o
    → arrives_stale (socket_of p (other side)).tcb o.segment.options.timestamp ≡ false
offer_of_pair_initial p side instant o r d asked offered =
    offer_initial p side instant o r d (le_of (at p.sides side).instant instant (comes_later (at p.sides side).instant instant asked)) offered

itself : (a : ℤ) → a ≤ℤ a
itself a = grind arith

-- what answers a segment goes at the last instant
pub answer_initial :
    (p : PairValue) (side : Side) (ip : IpRepr) (header : TcpHeader) (bytes : List ℕ) (reply : Reply) → IsReached p
    → HasDays p (other side) (at p.sides (other side)).instant
    → (arrives (context_at (other side) (at p.sides (other side))) (socket_of p (other side)) ip header bytes).answer ≡ Some reply
    → arrives_stale (socket_of p side).tcb reply.segment.options.timestamp ≡ false
answer_initial p side ip header bytes reply r d answer =
    initial_by (socket_of p side).tcb (socket_of p (other side)).tcb.settings.timestamps d.since now now reply.segment.options.timestamp d.begun (itself now)
    d.within w.heard
    (answered_set d.since (at p.sides (other side)) (at p.sides side) (at (pasts p.history) (other side)) w now reply.segment.options.timestamp
    (subst (λ (x : Option Reply). IsOwn (socket_of p (other side)).tcb.stamps.generator now (tsval_in x)) answer
    (arrival_hears (context_at (other side) (at p.sides (other side))) ip header bytes (socket_of p (other side))).1))
  where
    now : ℤ
    now = (at p.sides (other side)).instant

    w : Way d.since (at p.sides (other side)) (at p.sides side) (at (pasts p.history) (other side)).opening
    w =
        subst (λ (of : Side). Way d.since (at p.sides (other side)) (at p.sides of) (at (pasts p.history) (other side)).opening) (twice side)
        (reached_way d.since (other side) p r d.timed)
