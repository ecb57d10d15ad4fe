-- A pair shows a net after a step of one host.
use Rattle.std.proofs.Common.{◌≡◌, ℤ, Bool, true, false, if◌then◌else◌, List, [], ◌∷◌, ◌++◌, Some, None, refl, sym, ap, ◌∙◌, subst, arith}
use Rattle.std.proofs.lemmas.Int.{ints}
use Rattle.std.specs.Prelude.{◌≤ℤ◌, pos, int_le, not, ◌&&◌}
use Rattle.std.specs.List.{AllByRecursion}
use Rattle.net_base.specs.Time.{IsMoment, last_instant}
use Rattle.tcp_refinement.specs.Pair.History.{pasts, side_of, adds}
use Rattle.tcp_refinement.specs.Pair.Sides.{Both, at, put}
use Rattle.tcp_refinement.specs.Pair.Steps.{acting, happens, if_so, may_come, refusal}
use Rattle.tcp_refinement.specs.Pair.Values.{PairSide, PairValue}
use Rattle.tcp_refinement.specs.Tie.{Past}
use Rattle.tcp_refinement.specs.declared.pair.event.PairEvent.{PairEvent}
use Rattle.tcp_refinement.specs.declared.pair.event.PairEvent.TheVariants.{Clock}
use Rattle.tcp_refinement.specs.declared.pair.event.PairRefused.TheVariants as Why
use Rattle.sockets.specs.Context.{ContextValue}
use Rattle.lan.specs.declared.at_link.history.event.Side.{Side}
use Rattle.lan.specs.Worlds.AtLink.Kinds.{other}
use Rattle.lan.specs.Worlds.AtLink.History.{opening}
use Rattle.lan.specs.Worlds.AtLink.Parties.{Net, Party, party, socket_at}
use Rattle.lan.specs.Worlds.AtLink.Parties.Socket.{Tcp}
use Rattle.lan.specs.Worlds.AtLink.Happening.{ProceedsBy, clock_to}
use Rattle.lan.specs.Worlds.AtLink.Paired.{HasSent, IsOf, IsOfSocket, Seat, Shows, side_in, told}
use Rattle.lan.proofs.Worlds.Moves.Nets.{either_side}
use Rattle.lan.proofs.Worlds.AtLink.Paired.Parts.{at_put, at_put_other, put_same}

no_le : (a b : ℤ) → int_le a b ≡ false → a ≤ℤ b → ⊥
no_le a b so is = first_of (omega (arith, ints), grind (arith, ints))

no_later : (last instant : ℤ) → last ≤ℤ instant → int_le instant last ≡ true → last ≡ instant
no_later last instant is e = first_of (omega (arith, ints), grind (arith, ints))

-- an instant that isn't before the last one
pub may_be : (last instant : ℤ) → IsMoment instant → last ≤ℤ instant → may_come last instant ≡ true
may_be last instant is later = by (int_le (pos 0) instant) (int_le instant (pos last_instant)) (int_le last instant) refl refl refl where
  by : (a b c : Bool) → int_le (pos 0) instant ≡ a → int_le instant (pos last_instant) ≡ b → int_le last instant ≡ c → (a && (b && c)) ≡ true
  by true true true f g h = refl
  by false b c f g h = absurd (no_le (pos 0) instant f is.0)
  by true false c f g h = absurd (no_le instant (pos last_instant) g is.1)
  by true true false f g h = absurd (no_le last instant h later)

module _ (seats : Side → Seat) (net net' : Net) (side : Side) (clocks clocks' : Side → ℤ) where
  -- what the other side is left
  pub record Far : Type 0 where
    pub same : party net' (other side) ≡ party net (other side)
    pub opened : opening net'.history (other side) (seats (other side)).slot ≡ opening net.history (other side) (seats (other side)).slot
    pub past : told net'.history (other side) (seats (other side)).slot ≡ told net.history (other side) (seats (other side)).slot
    pub made : AllByRecursion (IsOfSocket net'.history (other side)) (party net' (other side)).segments
    pub clock : clocks' (other side) ≡ clocks (other side)

  -- the side itself
  pub record Near (s : PairSide) (past : Past) : Type 0 where
    pub socket : socket_at (party net' side) (seats side).slot ≡ Some (Tcp s.socket)
    pub host : s.host ≡ (seats side).host
    pub clock : s.instant ≡ clocks' side
    pub is_past : past ≡ told net'.history side (seats side).slot
    pub sent : HasSent (opening net'.history side (seats side).slot) (party net' side).segments s.sent
    pub made : AllByRecursion (IsOfSocket net'.history side) (party net' side).segments

  module _ (p q : PairValue) (sh : Shows seats clocks net p) (s : PairSide) (past : Past) (sides : q.sides ≡ put p.sides (side_in side) s)
      (told_is : pasts q.history ≡ put (pasts p.history) (side_in side) past) (near : Near s past) (far : Far) where
    near_side : at q.sides (side_in side) ≡ s
    near_side = ap (λ (b : Both PairSide). at b (side_in side)) sides ∙ at_put p.sides (side_in side) s

    far_side : at q.sides (side_in (other side)) ≡ at p.sides (side_in (other side))
    far_side = ap (λ (b : Both PairSide). at b (side_in (other side))) sides ∙ at_put_other p.sides side s

    near_past : at (pasts q.history) (side_in side) ≡ past
    near_past = ap (λ (b : Both Past). at b (side_in side)) told_is ∙ at_put (pasts p.history) (side_in side) past

    far_past : at (pasts q.history) (side_in (other side)) ≡ at (pasts p.history) (side_in (other side))
    far_past = ap (λ (b : Both Past). at b (side_in (other side))) told_is ∙ at_put_other (pasts p.history) side past

    pub shows_put : Shows seats clocks' net' q
    shows_put = record {
      socket = either_side side (λ d. socket_at (party net' d) (seats d).slot ≡ Some (Tcp (at q.sides (side_in d)).socket))
          (near.socket ∙ ap (λ (x : PairSide). Some (Tcp x.socket)) (sym near_side))
          (ap (λ (x : Party). socket_at x (seats (other side)).slot) far.same ∙ sh.socket (other side) ∙
          ap (λ (x : PairSide). Some (Tcp x.socket)) (sym far_side));
      host = either_side side (λ d. (at q.sides (side_in d)).host ≡ (seats d).host)
          (ap (λ (x : PairSide). x.host) near_side ∙ near.host) (ap (λ (x : PairSide). x.host) far_side ∙ sh.host (other side));
      clock = either_side side (λ d. (at q.sides (side_in d)).instant ≡ clocks' d)
          (ap (λ (x : PairSide). x.instant) near_side ∙ near.clock)
          (ap (λ (x : PairSide). x.instant) far_side ∙ sh.clock (other side) ∙ sym far.clock);
      past = either_side side (λ d. at (pasts q.history) (side_in d) ≡ told net'.history d (seats d).slot)
          (near_past ∙ near.is_past) (far_past ∙ sh.past (other side) ∙ sym far.past);
      sent = either_side side (λ d. HasSent (opening net'.history d (seats d).slot) (party net' d).segments (at q.sides (side_in d)).sent)
          (subst (λ (x : PairSide). HasSent (opening net'.history side (seats side).slot) (party net' side).segments x.sent) (sym near_side) near.sent)
          (subst (λ (x : PairSide). HasSent (opening net'.history (other side) (seats (other side)).slot) (party net' (other side)).segments x.sent)
          (sym far_side) far_sent);
      made = either_side side (λ d. AllByRecursion (IsOfSocket net'.history d) (party net' d).segments) near.made far.made;
    } where
      far_sent : HasSent (opening net'.history (other side) (seats (other side)).slot) (party net' (other side)).segments
          (at p.sides (side_in (other side))).sent
      far_sent =
          let before = sh.sent (other side) in
          subst (λ (x : Party). HasSent (opening net'.history (other side) (seats (other side)).slot) x.segments (at p.sides (side_in (other side))).sent)
          (sym far.same)
          (subst (λ o. HasSent o (party net (other side)).segments (at p.sides (side_in (other side))).sent) (sym far.opened) before)

  module _ (p : PairValue) (sh : Shows seats clocks net p) (far : Far) where
    -- an event of this side
    pub shows_event : (event : PairEvent) → side_of event ≡ side_in side
        → Near (acting p event).side (adds event (acting p event).answer (at p.sides (side_of event)).socket.tcb.state (at (pasts p.history) (side_of event)))
        → Shows seats clocks' net' (happens p event).pair
    shows_event event of near =
        shows_put p (happens p event).pair sh (acting p event).side
        (adds event (acting p event).answer (at p.sides (side_of event)).socket.tcb.state (at (pasts p.history) (side_of event)))
        (λ k. put p.sides (of k) (acting p event).side)
        (λ k. put (pasts p.history) (of k)
        (adds event (acting p event).answer (at p.sides (side_of event)).socket.tcb.state (at (pasts p.history) (side_of event))))
        near far

    -- none
    pub shows_still : Near (at p.sides (side_in side)) (at (pasts p.history) (side_in side)) → Shows seats clocks' net' p
    shows_still near =
        shows_put p p sh (at p.sides (side_in side)) (at (pasts p.history) (side_in side)) (put_same p.sides (side_in side))
        (put_same (pasts p.history) (side_in side)) near far

-- THE CLOCK OF A HOST

module _ (seats : Side → Seat) (net : Net) (side : Side) (clocks clocks' : Side → ℤ) (p : PairValue) (sh : Shows seats clocks net p) (cx : ContextValue)
    (of : IsOf (seats side) (clocks side) cx) (now : clocks' side ≡ cx.instant) (rest : clocks' (other side) ≡ clocks (other side)) where
  abbrev pub clock_event : PairEvent
  clock_event = Clock (side_in side) cx.instant

  pub clock_allowed : refusal p clock_event ≡ None
  clock_allowed =
      ap (λ (t : Bool). if_so (not t) Why.Moment)
      (may_be (at p.sides (side_in side)).instant cx.instant of.instant (subst (λ (m : ℤ). m ≤ℤ cx.instant) (sym (sh.clock side)) of.later))

  pub clock_shows : Shows seats clocks' net (happens p clock_event).pair
  clock_shows =
      shows_event seats net net side clocks clocks' p sh
      (record { same = refl; opened = refl; past = refl; made = sh.made (other side); clock = rest })
      clock_event refl
      (record {
        socket = sh.socket side;
        host = sh.host side;
        clock = sym now;
        is_past = sh.past side;
        sent = sh.sent side;
        made = sh.made side;
      })

  -- where it shows the instant already
  pub same_clock : clocks side ≡ cx.instant → Shows seats clocks' net p
  same_clock is = record {
    socket = sh.socket;
    host = sh.host;
    clock = either_side side (λ d. (at p.sides (side_in d)).instant ≡ clocks' d) (sh.clock side ∙ is ∙ sym now) (sh.clock (other side) ∙ sym rest);
    past = sh.past;
    sent = sh.sent;
    made = sh.made;
  }

  -- the clock goes on to the instant of a move, or shows it already, and further events follow
  pub goes_clocked : (net' : Net) (events : List PairEvent) → ((p1 : PairValue) → Shows seats clocks' net p1 → ProceedsBy seats clocks' net' p1 events)
      → ProceedsBy seats clocks' net' p (clock_to (side_in side) (clocks side) cx.instant ++ events)
  goes_clocked net' events onward = by (int_le cx.instant (clocks side)) refl where
    still : int_le cx.instant (clocks side) ≡ true → clocks side ≡ cx.instant
    still e = no_later (clocks side) cx.instant of.later e

    by : (t : Bool) → int_le cx.instant (clocks side) ≡ t → ProceedsBy seats clocks' net' p ((if t then [] else clock_event ∷ []) ++ events)
    by true e = onward p (same_clock (still e))
    by false e =
        let goes = onward (happens p clock_event).pair clock_shows in
        record { next = goes.next; steps = (clock_allowed, goes.steps); shows = goes.shows }
