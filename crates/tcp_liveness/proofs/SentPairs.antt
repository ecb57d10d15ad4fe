-- Of each pair that events led to, each side took no more than the other sent.
use Rattle.std.proofs.Common.{◌≡◌, ◌⊎◌, inl, inr, ℕ, suc, ◌+◌, ◌-◌, ◌%◌, ◌^◌, ◌<◌, ◌≤◌, nat_le, nat_lt, min, Bool, true, false, List, [], ◌∷◌, ◌++◌}
use Rattle.std.proofs.Common.{length, slice_get, ℤ, None, refl, sym, ap, ◌∙◌, subst, arith, length-take}
use Rattle.std.proofs.lemmas.Bool.{and_parts, ltb-true}
use Rattle.std.proofs.lemmas.Bool.Decides.{nat_tests}
use Rattle.ip_wire.specs.Seq.{distance_of}
use Rattle.tcp_theory.specs.Invariant.{IsInStep, IsSilent, HasReached}
use Rattle.tcp_theory.specs.Numbers.{wire}
use Rattle.tcp_theory.specs.ReceiveMap.{Begins}
use Rattle.tcp_theory.specs.Side.{Side as Half, taken_in as bytes_in, rcv_next, one_if as one_in}
use Rattle.tcp_theory.specs.Side.Opening.{NotYet, Passive, Active}
use Rattle.tcp_theory.proofs.Lists.{Begins-length, Begins-nothing}
use Rattle.tcp_refinement.specs.Side.{Opening}
use Rattle.tcp_refinement.specs.Tie.{Past, Keeps, IsConnectedAs, core_of, unsent}
use Rattle.tcp_refinement.proofs.PromiseLemmas.{Shows, keeps_turned, shows}
use Rattle.tcp_refinement.proofs.Tied.{fits_connected}
use Rattle.tcp_invariants.proofs.OrderSteps.{clash}
use Rattle.tcp_block.specs.TcbRules.{one_if}
use Rattle.tcp_refinement.specs.Pair.History.{pasts, side_of, adds}
use Rattle.tcp_refinement.specs.Pair.Safe.{IsKept}
use Rattle.tcp_refinement.specs.Pair.Sides.{Both, at, put, other}
use Rattle.tcp_refinement.specs.Pair.Steps.{Steps, refusal, happens, acting, handed, offered_at, was_opened, if_so}
use Rattle.tcp_block.specs.Value.{TcpValue, room_of}
use Rattle.tcp_refinement.specs.Pair.Values.{PairSide, PairValue, past_at, with_segments}
use Rattle.tcp_refinement.specs.declared.pair.event.PairEvent.{PairEvent}
use Rattle.tcp_refinement.specs.declared.pair.event.PairEvent.TheVariants.{Listen, Connect, Send, Recv, Close, Abort, TcpSetting, Clock, Offer, Deliver}
use Rattle.tcp_refinement.specs.declared.pair.event.PairAnswer.TheVariants.{Done}
use Rattle.tcp_refinement.specs.declared.pair.event.PairRefused.TheVariants.{OpenedTwice, TooManyBytes}
use Rattle.tcp_refinement.specs.declared.pair.event.Side.{Side}
use Rattle.tcp_refinement.specs.declared.pair.event.Side.TheVariants.{A, B}
use Rattle.tcp_refinement.proofs.PairLaws.{kept_after}
use Rattle.tcp_refinement.proofs.SideLaws.{IsAllowed, led}
use Rattle.tcp_liveness.specs.Arrivals.{is_synchronized}
use Rattle.tcp_liveness.specs.Exchange.{IsOpen, TookWhatWasSent}
use Rattle.tcp_liveness.specs.Pair.{socket_of}
use Rattle.tcp_liveness.specs.Reached.{IsReached, Start, both_started}
use Rattle.tcp_liveness.specs.Sent.{sent_in, sent_past, KeepsSent, SendsAll, taken_in}
use Rattle.tcp_liveness.proofs.Kept.{keeps_of, reached_keeps, started_kept}
use Rattle.tcp_liveness.proofs.Positions.{IsPlaced, placed, connected_in, lies_within, far}
use Rattle.tcp_liveness.proofs.SentEvents.{own, peer_sides}
use Rattle.tcp_liveness.proofs.SentSteps.{is_sent, took_sent}
use Rattle.tcp_liveness.proofs.Shade.{Took}

-- A PAIR

pub record BothSend (sides : Both PairSide) (ps : Both Past) : Type 0 where
  pub a : SendsAll sides.a.socket (with_segments ps.a sides.a.sent) sides.b.socket (with_segments ps.b sides.b.sent)
  pub b : SendsAll sides.b.socket (with_segments ps.b sides.b.sent) sides.a.socket (with_segments ps.a sides.a.sent)

abbrev pub SendsIn : Both PairSide → Both Past → Side → Side → Type 0
SendsIn sides ps side peer_side =
    SendsAll (at sides side).socket (with_segments (at ps side) (at sides side).sent) (at sides peer_side).socket
    (with_segments (at ps peer_side) (at sides peer_side).sent)

pub side_sends : (sides : Both PairSide) (ps : Both Past) (side : Side) → BothSend sides ps → SendsIn sides ps side (other side)
side_sends sides ps A b = b.a
side_sends sides ps B b = b.b

peer_side_sends : (sides : Both PairSide) (ps : Both Past) (side : Side) → BothSend sides ps → SendsIn sides ps (other side) side
peer_side_sends sides ps A b = b.b
peer_side_sends sides ps B b = b.a

put_both :
    (side : Side) (sides : Both PairSide) (ps : Both Past) (x : PairSide) (p : Past)
    → SendsAll x.socket (with_segments p x.sent) (at sides (other side)).socket (with_segments (at ps (other side)) (at sides (other side)).sent)
    → SendsAll (at sides (other side)).socket (with_segments (at ps (other side)) (at sides (other side)).sent) x.socket (with_segments p x.sent)
    → BothSend (put sides side x) (put ps side p)
put_both A sides ps x p own theirs = record { a = own; b = theirs }
put_both B sides ps x p own theirs = record { a = theirs; b = own }

-- what isn't refused
unopened_yet : (opening : Opening) → if_so (was_opened opening) OpenedTwice ≡ None → opening ≡ NotYet
unopened_yet NotYet e = refl
unopened_yet Passive e = absurd (cc)
unopened_yet Active e = absurd (cc)

short_yet : (count : ℕ) → if_so (nat_le (2 ^ 29) count) TooManyBytes ≡ None → count < 2 ^ 29
short_yet count e = by (nat_le (2 ^ 29) count) refl e where
  by : (test : Bool) → nat_le (2 ^ 29) count ≡ test → if_so test TooManyBytes ≡ None → count < 2 ^ 29
  by true is_so e = absurd (cc)
  by false is_not e = grind (arith, nat_tests)

pub is_allowed : (p : PairValue) (event : PairEvent) → refusal p event ≡ None → IsAllowed event (at (pasts p.history) (side_of event))
is_allowed p (Listen side endpoint) e = unopened_yet (at (pasts p.history) side).opening e
is_allowed p (Connect side remote local) e = unopened_yet (at (pasts p.history) side).opening e
is_allowed p (Send side bytes) e = short_yet (length (at (pasts p.history) side).written + length bytes) e
is_allowed p (Recv side count) e = tt
is_allowed p (Close side) e = tt
is_allowed p (Abort side) e = tt
is_allowed p (TcpSetting side setting) e = tt
is_allowed p (Clock side instant) e = tt
is_allowed p (Offer side instant sent) e = tt
is_allowed p (Deliver from k) e = tt

both_after : (p : PairValue) (event : PairEvent) → IsKept p → refusal p event ≡ None → BothSend p.sides (pasts p.history) →
    BothSend (happens p event).pair.sides (pasts (happens p event).pair.history)
both_after p event k allowed b =
    put_both side p.sides (pasts p.history) (acting p event).side
    (adds event (acting p event).answer (at p.sides side).socket.tcb.state (at (pasts p.history) side))
    (own (at p.sides side) (at p.sides (other side)).socket (at (pasts p.history) side) (at (pasts p.history) (other side)) (at p.sides (other side)).sent
    (keeps_of p side k) event (is_allowed p event allowed) (side_sends p.sides (pasts p.history) side b))
    (peer_sides (at p.sides side) (at p.sides (other side)).socket (at (pasts p.history) side) (at (pasts p.history) (other side))
    (at p.sides (other side)).sent (keeps_of p side k) event (is_allowed p event allowed) (peer_side_sends p.sides (pasts p.history) side b))
  where
    side : Side
    side = side_of event

pub both_steps : (p : PairValue) (events : List PairEvent) (new : PairValue) → IsKept p → BothSend p.sides (pasts p.history) → Steps p events new →
    BothSend new.sides (pasts new.history)
both_steps p [] new k b steps = subst (λ (p : PairValue). BothSend p.sides (pasts p.history)) (sym steps) b
both_steps p (event ∷ events) new k b steps =
    both_steps (happens p event).pair events new (kept_after p event k steps.0) (both_after p event k steps.0 b) steps.1

new_sends : (a b : Start) → BothSend (both_started a b).sides (pasts [])
new_sends a b = record {
  a = record { unopened = λ _. tt; early = λ _. tt; within = λ on. clash (sym on); keeps = λ on. clash (sym on) };
  b = record { unopened = λ _. tt; early = λ _. tt; within = λ on. clash (sym on); keeps = λ on. clash (sym on) };
}

pub reached_sends : (p : PairValue) (side : Side) → IsReached p →
    SendsAll (socket_of p side) (past_at p side) (socket_of p (other side)) (past_at p (other side))
reached_sends p side r =
    side_sends p.sides (pasts p.history) side
    (both_steps (both_started r.a r.b) r.events p (started_kept r.a r.b) (new_sends r.a r.b) r.steps)

-- WHAT WAS TAKEN

module _ (v w : TcpValue) (p q : Past) (k : Keeps v p w q) (sent : KeepsSent v p w q) (mine : is_synchronized v.tcb.state ≡ true) where
  abbrev s : Half
  s = k.side

  abbrev t : Half
  t = k.peer_side

  took : Took k.peer_side (sent_past v p).written (sent_past v p).closed
  took = took_sent v w p q k sent

  -- the payload and the FIN that the peer took, of all that was sent but the SYN
  taken_few : length (bytes_in k.peer_side) + one_in k.peer_side.took_fin ≤ sent_in v p - 1
  taken_few = by k.peer_side.took_fin refl where
    payload : length (bytes_in k.peer_side) ≤ min (sent_in v p - 1) (length p.written)
    payload =
        subst (λ (n : ℕ). length (bytes_in k.peer_side) ≤ n) (length-take (sent_in v p - 1) p.written)
        (Begins-length (bytes_in k.peer_side) (sent_past v p).written took.received)

    with_fin : (taken fin written sent : ℕ) → taken ≤ min (sent - 1) written → fin ≡ 1 → suc written < sent → taken + fin ≤ sent - 1
    with_fin taken fin written sent a b c = omega arith

    without : (taken fin written sent : ℕ) → taken ≤ min (sent - 1) written → fin ≡ 0 → taken + fin ≤ sent - 1
    without taken fin written sent a b = omega arith

    by : (fin : Bool) → k.peer_side.took_fin ≡ fin → length (bytes_in k.peer_side) + one_in k.peer_side.took_fin ≤ sent_in v p - 1
    by true e =
        let both = and_parts p.closed (nat_lt (suc (length p.written)) (sent_in v p)) (took.fin e).0 in
        with_fin (length (bytes_in k.peer_side)) (one_in k.peer_side.took_fin) (length p.written) (sent_in v p) payload (ap one_in e)
        (ltb-true (suc (length p.written)) (sent_in v p) both.1)
    by false e = without (length (bytes_in k.peer_side)) (one_in k.peer_side.took_fin) (length p.written) (sent_in v p) payload (ap one_in e)

  pub taken_shown : length (q.read ++ w.received.waiting) + one_if w.tcb.receiver.took_fin ≤ sent_in v p - 1
  taken_shown =
      subst (λ (xs : List ℕ). length xs + one_if w.tcb.receiver.took_fin ≤ sent_in v p - 1) bytes
      (subst (λ (n : ℕ). length (bytes_in k.peer_side) + n ≤ sent_in v p - 1) fin taken_few)
    where
      shown : Shows (core_of w) k.peer_side
      shown = shows (core_of w) k.peer_side k.side (k.holds.1, k.holds.0) k.peer_side_fits

      bytes : bytes_in k.peer_side ≡ q.read ++ w.received.waiting
      bytes =
          ap (λ (xs : List ℕ). xs ++ k.peer_side.waiting) (ap (λ (p : Past). p.read) k.peer_side_past)
          ∙ ap (λ (xs : List ℕ). q.read ++ xs) (sym shown.waiting)

      one : (t : Bool) → one_in t ≡ one_if t
      one true = refl
      one false = refl

      fin : one_in k.peer_side.took_fin ≡ one_if w.tcb.receiver.took_fin
      fin = ap one_in (sym shown.took_fin) ∙ one w.tcb.receiver.took_fin

  in_positions :
      (una dist irs taken fin iss snd_max sent : ℕ) → una + dist ≡ suc irs + taken + fin → irs ≡ iss → taken + fin ≤ sent - 1 → una + snd_max ≡ iss + sent
      → suc iss ≤ una → dist ≤ snd_max
  in_positions una dist irs taken fin iss snd_max sent a b c d e = omega arith

  one_number : (una at next irs una_number next_number : ℕ) → una_number ≡ una % 2 ^ 32 → next_number ≡ next % 2 ^ 32 → una % 2 ^ 32 ≡ at % 2 ^ 32
      → irs < at → at ≤ next → next ≡ suc irs → (next_number + (2 ^ 32 - una_number)) % 2 ^ 32 ≡ 0
  one_number una at next irs una_number next_number a b c d e f = omega arith

  -- RCV.NXT of the peer lies within what was sent
  pub took_what : is_synchronized w.tcb.state ≡ true → v.tcb.sender.syn_unacked ≡ false → TookWhatWasSent v w
  took_what theirs acked = by k.holds.0.sync where
    f : IsConnectedAs (core_of v) (unsent s)
    f = fits_connected v.tcb.state (core_of v) (unsent s) (connected_in v.tcb.state mine) k.fits

    a : IsPlaced v s
    a = placed v s k.fits k.holds.0.well_formed mine

    b : IsPlaced w t
    b = placed w t k.peer_side_fits k.holds.1.well_formed theirs

    all : s.una + v.tcb.sender.snd_max ≡ s.iss + sent_in v p
    all = subst (λ (p : Past). s.una + v.tcb.sender.snd_max ≡ s.iss + sent_in v p) k.past (is_sent v s t k.fits k.holds mine).una

    opened : suc s.iss ≤ s.una
    opened = past (one_in v.tcb.sender.syn_unacked) s.iss s.una f.syn (ap one_in acked) where
      past : (syn iss una : ℕ) → syn ≡ suc iss - una → syn ≡ 0 → suc iss ≤ una
      past syn iss una a b = omega arith

    silently : IsSilent s t → TookWhatWasSent v w
    silently silent = by silent.una where
      nothing : length (bytes_in t) ≡ 0
      nothing = ap length (Begins-nothing (bytes_in t) (subst (λ (xs : List ℕ). Begins (bytes_in t) xs) silent.unwritten k.holds.0.received))

      not_first : (una iss : ℕ) → suc iss ≤ una → una ≡ iss → ⊥
      not_first una iss a b = absurd (omega arith)

      none : (d snd_max : ℕ) → d ≡ 0 → d ≤ snd_max
      none d snd_max e = omega arith

      first_next : (irs taken fin : ℕ) → taken ≡ 0 → fin ≡ 0 → suc irs + taken + fin ≡ suc irs
      first_next irs taken fin a b = omega arith

      low : (una iss written closed irs taken fin : ℕ) → una ≤ suc iss + written + closed → written ≡ 0 → closed ≤ 1 → irs ≡ iss → taken ≡ 0 → fin ≡ 1
          → una ≤ suc irs + taken + fin
      low una iss written closed irs taken fin a b c d e f = omega arith

      high : (una iss irs taken fin : ℕ) → suc iss ≤ una → irs ≡ iss → taken ≡ 0 → fin ≡ 1 → suc irs + taken + fin ≤ una + 2
      high una iss irs taken fin a b c d = omega arith

      at_most_one : (t : Bool) → one_in t ≤ 1
      at_most_one true = omega arith
      at_most_one false = omega arith

      two : 2 < 2 ^ 30
      two = omega arith

      at_next : HasReached t (wire s.una) → (fin : Bool) → t.took_fin ≡ fin → TookWhatWasSent v w
      at_next r false e =
          none (distance_of v.tcb.sender.una w.tcb.receiver.next) v.tcb.sender.snd_max
          (one_number s.una r.at (rcv_next t) t.irs v.tcb.sender.una.0 w.tcb.receiver.next.0 a.una b.next r.same r.after_syn r.high
          (first_next t.irs (length (bytes_in t)) (one_in t.took_fin) nothing (ap one_in e)))
      at_next r true e =
          let g = k.holds.0.fin e in
          let one = ap one_in e in
          in_positions s.una (distance_of v.tcb.sender.una w.tcb.receiver.next) t.irs (length (bytes_in t)) (one_in t.took_fin) s.iss v.tcb.sender.snd_max
          (sent_in v p)
          (far s.una (rcv_next t) 2 v.tcb.sender.una.0 w.tcb.receiver.next.0
          (low s.una s.iss (length s.written) (one_in s.closed) t.irs (length (bytes_in t)) (one_in t.took_fin) k.holds.0.well_formed.una_high
          (ap length silent.unwritten) (at_most_one s.closed) g.counts nothing one)
          (high s.una s.iss t.irs (length (bytes_in t)) (one_in t.took_fin) opened g.counts nothing one) two a.una b.next)
          g.counts taken_few all opened

      by : (s.una ≡ s.iss) ⊎ HasReached t (wire s.una) → TookWhatWasSent v w
      by (inl first) = absurd (not_first s.una s.iss opened first)
      by (inr r) = at_next r t.took_fin refl

    by : IsInStep s t ⊎ IsSilent s t → TookWhatWasSent v w
    by (inl step) =
        in_positions s.una (distance_of v.tcb.sender.una w.tcb.receiver.next) t.irs (length (bytes_in t)) (one_in t.took_fin) s.iss v.tcb.sender.snd_max
        (sent_in v p) (lies_within v w p q k mine theirs step).position step.counts taken_few all opened
    by (inr silent) = silently silent

-- OF A PAIR

pub reached_taken : (p : PairValue) (side : Side) → IsReached p → is_synchronized (socket_of p side).tcb.state ≡ true →
    taken_in p (other side) ≤ sent_in (socket_of p side) (past_at p side) - 1
reached_taken p side r on =
    taken_shown (socket_of p side) (socket_of p (other side)) (past_at p side) (past_at p (other side)) (reached_keeps p side r)
    ((reached_sends p side r).keeps on) on

pub reached_sent :
    (p : PairValue) (side : Side) → IsReached p → IsOpen (socket_of p side).tcb → is_synchronized (socket_of p (other side)).tcb.state ≡ true
    → TookWhatWasSent (socket_of p side) (socket_of p (other side))
reached_sent p side r mine theirs =
    took_what (socket_of p side) (socket_of p (other side)) (past_at p side) (past_at p (other side)) (reached_keeps p side r)
    ((reached_sends p side r).keeps mine.synchronized) mine.synchronized theirs mine.acknowledged

pub reached_near :
    (p : PairValue) (side : Side) → IsReached p → IsOpen (socket_of p side).tcb → is_synchronized (socket_of p (other side)).tcb.state ≡ true
    → (socket_of p side).tcb.sender.snd_max ≤ room_of (socket_of p (other side)).received + 2
    → distance_of (socket_of p side).tcb.sender.una (socket_of p (other side)).tcb.receiver.next ≤ room_of (socket_of p (other side)).received + 2
reached_near p side r mine theirs fits = upto _ _ _ (reached_sent p side r mine theirs) fits where
  upto : (a b c : ℕ) → a ≤ b → b ≤ c → a ≤ c
  upto a b c e f = omega arith

pub record TookEach (p : PairValue) (side : Side) : Type 0 where
  pub sent : TookWhatWasSent (socket_of p side) (socket_of p (other side))
  pub heard : TookWhatWasSent (socket_of p (other side)) (socket_of p side)

pub reached_took : (p : PairValue) (side : Side) → IsReached p → IsOpen (socket_of p side).tcb → IsOpen (socket_of p (other side)).tcb → TookEach p side
reached_took p A r mine theirs = record { sent = reached_sent p A r mine theirs.synchronized; heard = reached_sent p B r theirs mine.synchronized }
reached_took p B r mine theirs = record { sent = reached_sent p B r mine theirs.synchronized; heard = reached_sent p A r theirs mine.synchronized }

-- AN OFFER THAT COMES

-- what the peer took of it lies within what was sent
pub offered_took :
    (side : Side) (s r : PairSide) (instant : ℤ) (p q : Past) (k : Keeps s.socket (with_segments p s.sent) r.socket (with_segments q r.sent))
    → SendsAll s.socket (with_segments p s.sent) r.socket (with_segments q r.sent)
    → is_synchronized (offered_at side (record s { instant = instant }) true).socket.tcb.state ≡ true
    → (offered_at side (record s { instant = instant }) true).socket.tcb.sender.syn_unacked ≡ false
    → is_synchronized (handed (other side) r (slice_get (offered_at side (record s { instant = instant }) true).sent (length s.sent))).socket.tcb.state ≡ true
    → TookWhatWasSent (offered_at side (record s { instant = instant }) true).socket
    (handed (other side) r (slice_get (offered_at side (record s { instant = instant }) true).sent (length s.sent))).socket
offered_took side s r instant p q k sends on acked theirs =
    took_what gone.socket there.socket (with_segments mine gone.sent) (with_segments others there.sent)
    (keeps_turned there.socket gone.socket (with_segments others there.sent) (with_segments mine gone.sent)
    (led r gone.socket q mine gone.sent kept (Deliver side (length s.sent)) tt))
    ((peer_sides r gone.socket q mine gone.sent kept (Deliver side (length s.sent)) tt
    (own s r.socket p q r.sent k (Offer side instant true) tt sends)).keeps on)
    on theirs acked
  where
    gone : PairSide
    gone = offered_at side (record s { instant = instant }) true

    there : PairSide
    there = handed (other side) r (slice_get gone.sent (length s.sent))

    mine : Past
    mine = adds (Offer side instant true) Done s.socket.tcb.state p

    others : Past
    others = adds (Deliver side (length s.sent)) Done r.socket.tcb.state q

    kept : Keeps r.socket (with_segments q r.sent) gone.socket (with_segments mine gone.sent)
    kept =
        keeps_turned gone.socket r.socket (with_segments mine gone.sent) (with_segments q r.sent) (led s r.socket p q r.sent k (Offer side instant true) tt)
