-- A segment that nothing overtook which its side sent later isn't older than TS.Recent.
use Rattle.std.proofs.Common.{◌≡◌, inl, inr, ℕ, zero, suc, ◌<◌, ◌≤◌, nat_lt, ℤ, ◌≤ℤ◌, Bool, true, false, List, [], ◌∷◌, ◌++◌, length}
use Rattle.std.proofs.Common.{Option, Some, None, Result, Ok, Err, slice_get, refl, sym, ap, ◌∙◌, subst, arith}
use Rattle.std.proofs.lemmas.Bool.{cond_both, ltb-false, ltb-true}
use Rattle.std.proofs.lemmas.Option.{slice_get_past, slice_get_within}
use Rattle.ip_wire.specs.TcpTimestampGenerator.{TcpTimestampGenerator}
use Rattle.tcp_theory.specs.Side.{Opening}
use Rattle.tcp_refinement.specs.Context.{ContextValue}
use Rattle.tcp_refinement.specs.Tie.{Past}
use Rattle.tcp_invariants.specs.OpenOffer.{OpenOffer}
use Rattle.tcp_invariants.specs.RecvError.{RecvError}
use Rattle.tcp_invariants.specs.Reply.{Reply}
use Rattle.tcp_block.specs.Arrival.{arrives}
use Rattle.tcp_block.specs.Calls.{recv_answer}
use Rattle.tcp_refinement.specs.Pair.History.{pasts, side_of}
use Rattle.tcp_block.specs.Names.{accepts}
use Rattle.tcp_block.specs.Offers.{offer_of, payload_of}
use Rattle.tcp_block.specs.Value.{Arrived}
use Rattle.tcp_refinement.specs.Pair.Sides.{at, other}
use Rattle.tcp_refinement.specs.Pair.Steps.{Steps, acting, acts, handed, reads, refusal, taken_at}
use Rattle.tcp_refinement.specs.Pair.Values.{PairSide, PairValue, and_offer, and_reply, context_at}
use Rattle.tcp_refinement.specs.declared.pair.event.PairEvent.{PairEvent}
use Rattle.tcp_refinement.specs.declared.pair.event.PairEvent.TheVariants.{Listen, Connect, Send, Recv, Close, Abort, TcpSetting, Clock, Offer, Deliver}
use Rattle.tcp_refinement.specs.declared.pair.event.SentSegment.{SentSegment}
use Rattle.tcp_refinement.specs.declared.pair.event.Side.{Side}
use Rattle.tcp_liveness.specs.Clocks.{HasDays, IsOvertakenAmong, IsTimed, Overtakes, arrives_stale}
use Rattle.tcp_liveness.specs.Pair.{next_sent, socket_of}
use Rattle.tcp_liveness.specs.Reached.{IsReached}
use Rattle.tcp_liveness.specs.Rounds.{takes}
use Rattle.tcp_liveness.proofs.CourseExchange.{Keeps, by_put, sent_by}
use Rattle.tcp_liveness.proofs.Kept.{reached_by}
use Rattle.tcp_liveness.proofs.TsvalCases.{IsOwn, Leaves, OfOffered, arrival_hears, offer_asks, stamping_of}
use Rattle.tcp_liveness.proofs.TsvalEvents.{Way, answered_set, goes_set, peer_side_event}
use Rattle.tcp_liveness.proofs.TsvalPairs.{Ingress, initial_by, reached_way, twice}
use Rattle.tcp_liveness.proofs.Stampless.{tsval_in}

-- THE SEGMENT THAT AN EVENT SENDS

last_is : (xs : List SentSegment) (y : SentSegment) (k : ℕ) (x : SentSegment) → length xs ≤ k → slice_get (xs ++ y ∷ []) k ≡ Some x → y ≡ x
last_is [] y zero x e f = cc
last_is [] y (suc k) x e f = absurd (cc)
last_is (z ∷ xs) y zero x e f = absurd (never (length xs) e) where
  never : (n : ℕ) → suc n ≤ 0 → ⊥
  never n e = absurd (omega arith)
last_is (z ∷ xs) y (suc k) x e f = last_is xs y k x (less (length xs) k e) f where
  less : (a b : ℕ) → suc a ≤ suc b → a ≤ b
  less a b e = omega arith

pub some_at : (xs : List SentSegment) (n : ℕ) → n < length xs → (y : SentSegment) × (slice_get xs n ≡ Some y)
some_at [] n e = absurd (none n e) where
  none : (n : ℕ) → n < 0 → ⊥
  none n e = absurd (omega arith)
some_at (y ∷ xs) zero e = (y, refl)
some_at (y ∷ xs) (suc n) e = some_at xs n (back n (length xs) e) where
  back : (a b : ℕ) → suc a < suc b → a < b
  back a b e = omega arith

-- it has the timestamp that the side's clock shows then
module _ (since : ℤ) (s r : PairSide) (p : Past) (w : Way since s r p.opening) (k : ℕ) (x : SentSegment) (later : length s.sent ≤ k) where
  abbrev set : Option TcpTimestampGenerator
  set = s.socket.tcb.settings.timestamps

  abbrev Stamped : PairSide → Type 0
  Stamped new = IsOwn new.socket.tcb.settings.timestamps new.instant x.segment.options.timestamp

  nothing : {X : Type 0} → slice_get s.sent k ≡ Some x → X
  nothing e = absurd (let none = slice_get_past s.sent k later in cc)

  offered : (cx : ContextValue) (o : Option OpenOffer) (queue : List ℕ) → OfOffered cx s.socket o → slice_get (and_offer s.sent o queue) k ≡ Some x →
      IsOwn set cx.instant x.segment.options.timestamp
  offered cx None queue goes e = nothing e
  offered cx (Some o) queue goes e =
      subst (λ (y : SentSegment). IsOwn set cx.instant y.segment.options.timestamp)
      (last_is s.sent (record { header = o.header; segment = o.segment; bytes = payload_of o o.kind queue }) k x later e)
      (goes_set since s r p w cx o.segment.options.timestamp goes)

  answered : (answer : Option Reply) → IsOwn s.socket.tcb.stamps.generator s.instant (tsval_in answer) → slice_get (and_reply s.sent answer) k ≡ Some x →
      IsOwn set s.instant x.segment.options.timestamp
  answered None own e = nothing e
  answered (Some reply) own e =
      subst (λ (y : SentSegment). IsOwn set s.instant y.segment.options.timestamp)
      (last_is s.sent (record { header = reply.header; segment = reply.segment; bytes = [] }) k x later e)
      (answered_set since s r p w s.instant reply.segment.options.timestamp own)

  came : (side : Side) (found : Option SentSegment) → slice_get (handed side s found).sent k ≡ Some x → Stamped (handed side s found)
  came side None e = nothing e
  came side (Some y) e =
      cond_both (accepts s.socket.tcb y.header y.segment) (taken_at s a) s (λ (new : PairSide). slice_get new.sent k ≡ Some x → Stamped new)
      (λ _ e.
      subst (λ (clock : Option TcpTimestampGenerator). IsOwn clock s.instant x.segment.options.timestamp) (sym it.0.set) (answered a.answer it.1 e))
      (λ _ e. nothing e) e
    where
      a : Arrived
      a = arrives (context_at side s) s.socket y.header y.segment y.bytes

      it : Leaves ⊥ y.segment.options.timestamp (stamping_of s.socket.tcb) (stamping_of a.socket.tcb)
          × IsOwn s.socket.tcb.stamps.generator s.instant (tsval_in a.answer)
      it = arrival_hears (context_at side s) y.header y.segment y.bytes s.socket

  read : (got : Result ℕ RecvError) → slice_get (reads s got).side.sent k ≡ Some x → Stamped (reads s got).side
  read (Ok n) e = nothing e
  read (Err fault) e = nothing e

  stamped : (others : List SentSegment) (event : PairEvent) → slice_get (acts s others event).side.sent k ≡ Some x → Stamped (acts s others event).side
  stamped others (Listen side endpoint) e = nothing e
  stamped others (Connect side remote local) e = nothing e
  stamped others (Send side bytes) e = nothing e
  stamped others (Recv side count) e = read (recv_answer s.socket count) e
  stamped others (Close side) e = nothing e
  stamped others (Abort side) e = nothing e
  stamped others (TcpSetting side setting) e = nothing e
  stamped others (Clock side instant) e = nothing e
  stamped others (Offer side instant true) e =
      let cx = context_at side (record s { instant = instant }) in
      let it = offer_asks cx s.socket in
      subst (λ (clock : Option TcpTimestampGenerator). IsOwn clock instant x.segment.options.timestamp) (sym it.0.set)
      (offered cx (offer_of cx s.socket).socket.offered (offer_of cx s.socket).socket.queued.queue it.2 e)
  stamped others (Offer side instant false) e = nothing e
  stamped others (Deliver from n) e = came (other from) (slice_get others n) e

-- WHAT THE PARTNER HAS OF THE SIDE'S TIMESTAMPS

-- the side as it was then, with all that it had sent by then, and its peer
module _ (since : ℤ) (s : PairSide) (opening : Opening) (side : Side) (k : ℕ) where
  abbrev pub Shown : PairSide → Type 0
  Shown r = Way since s r opening

  abbrev pub HasSame : List SentSegment → Type 0
  HasSame others = (j : ℕ) → j ≤ k → slice_get s.sent j ≡ slice_get others j

  from_it : (from : Side) → other from ≡ other side → from ≡ side
  from_it from e = sym (twice from) ∙ (ap other e ∙ twice side)

  not_later : (j : ℕ) → (k < j → ⊥) → j ≤ k
  not_later j never = by (nat_lt k j) refl where
    by : (test : Bool) → nat_lt k j ≡ test → j ≤ k
    by true e = absurd (never (ltb-true k j e))
    by false e = ltb-false k j e

  peer_side_led :
      (r : PairSide) (others : List SentSegment) (event : PairEvent) → Shown r → HasSame others → side_of event ≡ other side
      → (Overtakes side k event → ⊥) → Shown (acts r others event).side
  peer_side_led r others (Listen of endpoint) w same own not = peer_side_event since s r opening w (Listen of endpoint)
  peer_side_led r others (Connect of remote local) w same own not = peer_side_event since s r opening w (Connect of remote local)
  peer_side_led r others (Send of bytes) w same own not = peer_side_event since s r opening w (Send of bytes)
  peer_side_led r others (Recv of count) w same own not = peer_side_event since s r opening w (Recv of count)
  peer_side_led r others (Close of) w same own not = peer_side_event since s r opening w (Close of)
  peer_side_led r others (Abort of) w same own not = peer_side_event since s r opening w (Abort of)
  peer_side_led r others (TcpSetting of setting) w same own not = peer_side_event since s r opening w (TcpSetting of setting)
  peer_side_led r others (Clock of instant) w same own not = peer_side_event since s r opening w (Clock of instant)
  peer_side_led r others (Offer of instant sent) w same own not = offers sent where
    offers : (sent : Bool) → Shown (acts r others (Offer of instant sent)).side
    offers true = peer_side_event since s r opening w (Offer of instant true)
    offers false = peer_side_event since s r opening w (Offer of instant false)
  peer_side_led r others (Deliver from j) w same own not =
      subst (λ (found : Option SentSegment). Shown (handed (other from) r found)) (same j (not_later j (λ e. not (from_it from own, e))))
      (peer_side_event since s r opening w (Deliver from j))

  -- with each event
  pub shown_after :
      (q : PairValue) (event : PairEvent) → Shown (at q.sides (other side)) → HasSame (at q.sides side).sent → (Overtakes side k event → ⊥)
      → Shown (at (takes q event).sides (other side))
  shown_after q event w same not =
      by_put Shown q.sides (side_of event) (other side) (acting q event).side
      (λ own.
      subst (λ (of : Side). Shown (acts (at q.sides of) (at q.sides (other of)).sent event).side) (sym own)
      (peer_side_led (at q.sides (other side)) (at q.sides (other (other side))).sent event w
      (subst (λ (of : Side). HasSame (at q.sides of).sent) (sym (twice side)) same) own not))
      w

  abbrev pub Has : PairValue → Type 0
  Has q = Keeps s.sent (at q.sides side).sent

  pub same_in : (q : PairValue) → k < length s.sent → Has q → HasSame (at q.sides side).sent
  same_in q some keeps j within = by (slice_get s.sent j) refl where
    less : (a b c : ℕ) → a ≤ b → b < c → a < c
    less a b c e f = omega arith

    by : (found : Option SentSegment) → slice_get s.sent j ≡ found → slice_get s.sent j ≡ slice_get (at q.sides side).sent j
    by None e = absurd (never (some_at s.sent j (less j k (length s.sent) within some)) e) where
      never : (y : SentSegment) × (slice_get s.sent j ≡ Some y) → slice_get s.sent j ≡ None → ⊥
      never it e = absurd (let some = it.1 in cc)
    by (Some y) e = e ∙ sym (keeps j y e)

  shown_then :
      (q : PairValue) (events : List PairEvent) (new : PairValue) → k < length s.sent → Steps q events new → (IsOvertakenAmong side k events → ⊥)
      → Has q → Shown (at q.sides (other side)) → Shown (at new.sides (other side))
  shown_then q [] new some steps not has w = subst (λ (q : PairValue). Shown (at q.sides (other side))) (sym steps) w
  shown_then q (event ∷ events) new some steps not has w =
      shown_then (takes q event) events new some steps.1 (λ e. not (inr e)) (λ j y e. sent_by q event side j y (has j y e))
      (shown_after q event w (same_in q some has) (λ e. not (inl e)))

-- OF A PAIR

pub own_in :
    (p : PairValue) (side : Side) (event : PairEvent) (k : ℕ) (x : SentSegment) (since : ℤ) → IsReached p → IsTimed since side p.history
    → next_sent p side ≤ k → slice_get (at (takes p event).sides side).sent k ≡ Some x
    → IsOwn (at (takes p event).sides side).socket.tcb.settings.timestamps (at (takes p event).sides side).instant x.segment.options.timestamp
own_in p side event k x since r timed later sent =
    by_put IsOwnIn p.sides (side_of event) side (acting p event).side
    (λ same.
    subst (λ (of : Side). IsOwnIn (acts (at p.sides of) (at p.sides (other of)).sent event).side) (sym same)
    (stamped since (at p.sides side) (at p.sides (other side)) (at (pasts p.history) side) before k x later (at p.sides (other side)).sent event))
    (λ e. absurd (let none = slice_get_past (at p.sides side).sent k later in cc)) sent
  where
    before : Ingress since p.sides (pasts p.history) side
    before = reached_way since side p r timed

    IsOwnIn : PairSide → Type 0
    IsOwnIn new =
        slice_get new.sent k ≡ Some x → IsOwn new.socket.tcb.settings.timestamps new.instant x.segment.options.timestamp

pub initial_unless_overtaken :
    (p q : PairValue) (side : Side) (event : PairEvent) (events : List PairEvent) (k : ℕ) (x : SentSegment) → IsReached p → refusal p event ≡ None
    → next_sent p side ≤ k → slice_get (at (takes p event).sides side).sent k ≡ Some x
    → HasDays (takes p event) side (at (takes p event).sides side).instant → Steps (takes p event) events q → (IsOvertakenAmong side k events → ⊥)
    → arrives_stale (socket_of q (other side)).tcb x.segment.options.timestamp ≡ false
initial_unless_overtaken p q side event events k x r allowed later sent d steps not =
    initial_by (socket_of q (other side)).tcb (at m.sides side).socket.tcb.settings.timestamps d.since (at m.sides side).instant (at m.sides side).instant
    x.segment.options.timestamp d.begun (itself (at m.sides side).instant) d.within shown.heard
    (own_in p side event k x d.since r d.timed.1 later sent)
  where
    itself : (a : ℤ) → a ≤ℤ a
    itself a = grind arith

    m : PairValue
    m = takes p event

    shown : Way d.since (at m.sides side) (at q.sides (other side)) (at (pasts m.history) side).opening
    shown =
        shown_then d.since (at m.sides side) (at (pasts m.history) side).opening side k m events q (slice_get_within (at m.sides side).sent k x sent) steps not
        (λ j y e. e) (reached_way d.since side m (reached_by p m (event ∷ []) r (allowed, refl)) d.timed)
