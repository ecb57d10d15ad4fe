-- Payload that opens a connection, of a pair that events led to.
use Rattle.std.proofs.Common.{◌≡◌, inl, inr, ℕ, ◌^◌, ◌<◌, ◌≤◌, ◌&&◌, min, ℤ, Bool, true, false, if◌then◌else◌, length, Option, Some, is_some}
use Rattle.std.proofs.Common.{sym, ap, ◌∙◌, subst, arith}
use Rattle.std.proofs.lemmas.Bool.{ne_eqb}
use Rattle.net_base.specs.Ring.{Ring}
use Rattle.ip_wire.specs.Seq.{distance_of}
use Rattle.ip_wire.specs.SeqNumber.{SeqNumber}
use Rattle.ip_wire.specs.TcpHeader.{TcpHeader}
use Rattle.ip_wire.specs.TcpTimestampGenerator.{TcpTimestampGenerator}
use Rattle.tcp_refinement.specs.Context.{ContextValue}
use Rattle.tcp_invariants.specs.Ends.{is_over}
use Rattle.tcp_invariants.specs.Offsets.{advanced_by}
use Rattle.tcp_invariants.specs.OpenOffer.{OpenOffer}
use Rattle.tcp_invariants.specs.State.TheVariants as In
use Rattle.tcp_invariants.specs.States.{is_closed, is_listening}
use Rattle.tcp_invariants.specs.Timing.{carries}
use Rattle.tcp_block.specs.Arrival.{arrives}
use Rattle.tcp_block.specs.Offers.{offer_of, payload_of}
use Rattle.tcp_block.specs.Segments.{segment_len}
use Rattle.tcp_refinement.specs.Pair.Sides.{other}
use Rattle.tcp_block.specs.Timestamps.{generator_of, is_outdated, is_stale}
use Rattle.tcp_block.specs.Value.{TcpValue, free_in}
use Rattle.tcp_refinement.specs.Pair.Values.{PairSide, PairValue, context_at}
use Rattle.tcp_refinement.specs.declared.pair.event.Side.{Side}
use Rattle.tcp_refinement.specs.declared.pair.event.Side.TheVariants.{A, B}
use Rattle.tcp_liveness.specs.StartsOver.{StartsOver}
use Rattle.tcp_liveness.specs.Arrivals.{is_synchronized}
use Rattle.tcp_liveness.specs.Clocks.{IsTimely, has_stamps}
use Rattle.tcp_liveness.specs.Exchange.{GoesFromUna, data_of}
use Rattle.tcp_liveness.specs.HandshakeOn.{AnswersOn, AreTold, IsUnconfirmed, MayTell}
use Rattle.tcp_liveness.specs.Pair.{AreMirrored, has_heard, offered_in, socket_of}
use Rattle.tcp_liveness.specs.Reached.{IsReached}
use Rattle.tcp_liveness.proofs.Mirrored.{connected_mirrored, reached_mirrored}
use Rattle.tcp_liveness.proofs.Offered.{IsTransmitted, goes_from_una, is_transmitted_of}
use Rattle.tcp_liveness.proofs.Opened.{is_open}
use Rattle.tcp_liveness.proofs.Pair.{asked_side, peer_side_after}
use Rattle.tcp_liveness.proofs.ShakeSteps.{later_takes, one_past}
use Rattle.tcp_liveness.proofs.Shaken.{Comes, acked, comes_over, reach, una_of}
use Rattle.tcp_liveness.proofs.Timely.{offer_timely}
use Rattle.tcp_liveness.proofs.Told.{Speaks, speaks}

-- what the payload leaves
pub record Told (side : Side) (s r : PairSide) (instant : ℤ) (o : OpenOffer) : Type 0 where
  pub state : (asked_side side s r instant).socket.tcb.state ≡ In.Established
  pub acked : (asked_side side s r instant).socket.tcb.sender.syn_unacked ≡ false
  pub their_state : is_synchronized (peer_side_after side s r instant).socket.tcb.state ≡ true
  pub they_acked : (peer_side_after side s r instant).socket.tcb.sender.syn_unacked ≡ false
  pub una : (peer_side_after side s r instant).socket.tcb.sender.una ≡ (asked_side side s r instant).socket.tcb.receiver.next
  pub by : ℕ
  pub next : (peer_side_after side s r instant).socket.tcb.receiver.next ≡ advanced_by r.socket.tcb.receiver.next by
  pub some : 1 ≤ by
  pub all : min (length (data_of s.socket o)) (free_in r.socket) ≤ by

-- `s` is the side that tells
module _ (side : Side) (s r : PairSide) (instant : ℤ) (o : OpenOffer) (mirrored : AreMirrored s.socket.tcb r.socket.tcb)
    (opened : s.socket.tcb.state ≡ In.Established) (knows : s.socket.tcb.sender.syn_unacked ≡ false) (on : AnswersOn r.socket.tcb)
    (una : s.socket.tcb.sender.una ≡ r.socket.tcb.receiver.next) (took : s.socket.tcb.receiver.next ≡ advanced_by r.socket.tcb.sender.una 1)
    (small : s.socket.tcb.sender.una.0 < 2 ^ 32) (their_small : r.socket.tcb.sender.una.0 < 2 ^ 32)
    (over : StartsOver (context_at side (record s { instant = instant })) s.socket)
    (offered : (offer_of (context_at side (record s { instant = instant })) s.socket).socket.offered ≡ Some o) (kind : carries o.kind ≡ true)
    (some : 1 ≤ segment_len o.segment (length (data_of s.socket o))) (room : 1 ≤ free_in r.socket)
    (timely : is_stale r.socket.tcb o.segment (context_at (other side) r).instant ≡ false) where
  abbrev tx : ContextValue
  tx = context_at side (record s { instant = instant })

  pub is_transmitted : IsTransmitted s.socket (offer_of tx s.socket).socket o
  is_transmitted = is_transmitted_of tx s.socket o knows offered kind

  goes : GoesFromUna s.socket o
  goes = goes_from_una tx s.socket o small knows over offered kind

  pub tells : Comes side s r instant o (data_of s.socket o)
  tells =
      comes_over side s r instant o (data_of s.socket o) offered (ap (λ (queued : Ring ℕ). payload_of o o.kind queued.queue) is_transmitted.queued)
      (later_takes tx s.socket r.socket.tcb o mirrored (ap is_closed on.answers) (ap is_listening on.answers) offered)

  came_so : Speaks r.socket o.segment (length (data_of s.socket o))
      (arrives (context_at (other side) r) r.socket o.header o.segment (data_of s.socket o))
  came_so =
      speaks (context_at (other side) r) r.socket o.header o.segment (data_of s.socket o) s.socket.tcb.receiver.next on.answers is_transmitted.no_syn
      is_transmitted.no_reset (goes.number ∙ una) (subst (λ (n : SeqNumber). n.0 < 2 ^ 32) una small) some room goes.acknowledges
      (ap (distance_of r.socket.tcb.sender.una) took ∙ one_past r.socket.tcb.sender.una.0 their_small) timely

  pub told : Told side s r instant o
  told = record {
    state = is_transmitted.sent.state ∙ opened;
    acked = is_transmitted.sent.syn_unacked ∙ knows;
    their_state = ap (λ (v : TcpValue). is_synchronized v.tcb.state) tells.socket ∙ came_so.state;
    they_acked = ap (λ (v : TcpValue). v.tcb.sender.syn_unacked) tells.socket ∙ came_so.syn_unacked;
    una = ap (λ (v : TcpValue). v.tcb.sender.una) tells.socket ∙ (came_so.una ∙ (sym took ∙ sym is_transmitted.sent.next));
    by = came_so.by;
    next = ap (λ (v : TcpValue). v.tcb.receiver.next) tells.socket ∙ came_so.next;
    some = came_so.some;
    all = came_so.all;
  }

are_told :
    (p q : PairValue) (side : Side) (o : OpenOffer) → IsReached q → (socket_of q side).tcb.state ≡ In.Established
    → (socket_of q side).tcb.sender.syn_unacked ≡ false → is_synchronized (socket_of q (other side)).tcb.state ≡ true
    → (socket_of q (other side)).tcb.sender.syn_unacked ≡ false
    → (socket_of q (other side)).tcb.sender.una ≡ (socket_of q side).tcb.receiver.next → (by : ℕ)
    → (socket_of q (other side)).tcb.receiver.next ≡ advanced_by (socket_of p (other side)).tcb.receiver.next by → 1 ≤ by
    → min (length (data_of (socket_of p side) o)) (free_in (socket_of p (other side))) ≤ by → AreTold p q side o
are_told p q side o r opened acked theirs they_acked una by next some all = record {
  leads = r;
  own = is_open q side r (ap is_synchronized opened) acked;
  theirs = is_open q (other side) r theirs they_acked;
  mirrored = connected_mirrored q side r (ap is_synchronized opened) theirs;
  peer_side_una = una;
  by = by;
  next = next;
  some = some;
  all = all;
}

-- where its SYN went without timestamps, nothing is too old
unused : (v : TcpValue) (header : TcpHeader) (now : ℤ) → has_stamps v.tcb ≡ false → 1 ≤ v.tcb.sender.snd_max → is_stale v.tcb header now ≡ false
unused v header now none was_sent =
    ap (λ (t : Bool). t && is_outdated v.tcb header now)
    (ap (λ (g : Option TcpTimestampGenerator). v.tcb.peer.timestamps && is_some g) (sym generator) ∙ none)
  where
    never : (n : ℕ) → 1 ≤ n → n ≡ 0 → ⊥
    never n e f = absurd (omega arith)

    generator : generator_of v.tcb ≡ v.tcb.stamps.generator
    generator =
        ap (λ (t : Bool). if t then v.tcb.settings.timestamps else v.tcb.stamps.generator)
        (ne_eqb v.tcb.sender.snd_max 0 (never v.tcb.sender.snd_max was_sent))

pub tells_on : (p : PairValue) (side : Side) (instant : ℤ) (o : OpenOffer) → IsReached p → MayTell p side instant o → AreTold p (offered_in p side instant) side o
tells_on p A instant o r m =
    are_told p (offered_in p A instant) A o (reach p A instant _ r m.at_instant comes.sent) x.state x.acked x.their_state x.they_acked x.una x.by x.next
    x.some x.all
  where
    s : PairSide
    s = p.sides.a

    t : PairSide
    t = p.sides.b

    u : IsUnconfirmed p A
    u = m.unconfirmed

    mirrored : AreMirrored s.socket.tcb t.socket.tcb
    mirrored = reached_mirrored p A r (ap has_heard u.opened) (ap is_over u.answerer.answers)

    own_acked : s.socket.tcb.sender.syn_unacked ≡ false
    own_acked = acked p A r u.opened

    timely : is_stale t.socket.tcb o.segment t.instant ≡ false
    timely = by m.stamps where
      by : IsTimely p A instant → is_stale t.socket.tcb o.segment t.instant ≡ false
      by (inl none) = unused t.socket o.segment t.instant none m.was_sent
      by (inr days) = offer_timely p A instant t.instant o r m.at_instant days m.offered

    comes : Comes A s t instant o (data_of s.socket o)
    comes =
        tells A s t instant o mirrored u.opened own_acked u.answerer u.una u.took (una_of p A r) (una_of p B r) m.over m.offered m.kind m.some m.room timely

    x : Told A s t instant o
    x =
        told A s t instant o mirrored u.opened own_acked u.answerer u.una u.took (una_of p A r) (una_of p B r) m.over m.offered m.kind m.some m.room timely
tells_on p B instant o r m =
    are_told p (offered_in p B instant) B o (reach p B instant _ r m.at_instant comes.sent) x.state x.acked x.their_state x.they_acked x.una x.by x.next
    x.some x.all
  where
    s : PairSide
    s = p.sides.b

    t : PairSide
    t = p.sides.a

    u : IsUnconfirmed p B
    u = m.unconfirmed

    mirrored : AreMirrored s.socket.tcb t.socket.tcb
    mirrored = reached_mirrored p B r (ap has_heard u.opened) (ap is_over u.answerer.answers)

    own_acked : s.socket.tcb.sender.syn_unacked ≡ false
    own_acked = acked p B r u.opened

    timely : is_stale t.socket.tcb o.segment t.instant ≡ false
    timely = by m.stamps where
      by : IsTimely p B instant → is_stale t.socket.tcb o.segment t.instant ≡ false
      by (inl none) = unused t.socket o.segment t.instant none m.was_sent
      by (inr days) = offer_timely p B instant t.instant o r m.at_instant days m.offered

    comes : Comes B s t instant o (data_of s.socket o)
    comes =
        tells B s t instant o mirrored u.opened own_acked u.answerer u.una u.took (una_of p B r) (una_of p A r) m.over m.offered m.kind m.some m.room timely

    x : Told B s t instant o
    x =
        told B s t instant o mirrored u.opened own_acked u.answerer u.una u.took (una_of p B r) (una_of p A r) m.over m.offered m.kind m.some m.room timely
