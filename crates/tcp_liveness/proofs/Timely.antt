-- An acknowledgement that opens the other's connection isn't too old to it.
use Rattle.std.proofs.Common.{◌≡◌, ◌&&◌, ℤ, Bool, true, false, List, ℕ, Some, refl}
use Rattle.tcp_refinement.specs.declared.pair.event.Side.TheVariants.{A, B}
use Rattle.ip_wire.specs.IpRepr.{IpRepr}
use Rattle.ip_wire.specs.TcpHeader.{TcpHeader}
use Rattle.tcp_invariants.specs.OpenOffer.{OpenOffer}
use Rattle.tcp_invariants.specs.Reply.{Reply}
use Rattle.tcp_block.specs.Arrival.{arrives}
use Rattle.tcp_block.specs.declared.tcb.Tcb.{Tcb}
use Rattle.tcp_block.specs.Offers.{offer_of}
use Rattle.tcp_refinement.specs.Pair.Sides.{at, other}
use Rattle.tcp_refinement.specs.Pair.Steps.{refusal}
use Rattle.tcp_block.specs.Timestamps.{arrives_older, is_recent_valid, is_stale}
use Rattle.tcp_refinement.specs.Pair.Values.{PairValue, context_at}
use Rattle.tcp_refinement.specs.declared.pair.event.PairEvent.TheVariants.{Offer}
use Rattle.tcp_refinement.specs.declared.pair.event.Side.{Side}
use Rattle.std.proofs.Common.{[], ◌∷◌, None, is_some}
use Rattle.tcp_liveness.specs.Clocks.{HasDays, arrives_stale}
use Rattle.tcp_liveness.specs.Pair.{context_of, offered_in, socket_of}
use Rattle.tcp_liveness.specs.Reached.{IsReached}
use Rattle.tcp_liveness.specs.Rounds.{takes}
use Rattle.tcp_liveness.proofs.Kept.{reached_by}
use Rattle.tcp_liveness.proofs.Moments.{asked_days, offered_days}
use Rattle.tcp_liveness.proofs.TsvalPairs.{answer_initial, offer_of_pair_initial}

-- what isn't older than TS.Recent isn't too old, however long that counts
not_stale : (b : Tcb) (header : TcpHeader) (now : ℤ) → arrives_stale b header.options.timestamp ≡ false → is_stale b header now ≡ false
not_stale b header now initial =
    by b.peer.timestamps (is_some b.stamps.generator) (is_recent_valid b now) (arrives_older header.options.timestamp b.peer.recent) initial
  where
    by : (has some believed older : Bool) → (has && older) ≡ false → ((has && some) && (believed && older)) ≡ false
    by true true true older e = e
    by true true false older e = refl
    by true false believed older e = refl
    by false some believed older e = refl

-- of a side that is asked for it
pub offer_timely :
    (p : PairValue) (side : Side) (instant now : ℤ) (o : OpenOffer) → IsReached p → refusal p (Offer side instant true) ≡ None → HasDays p side instant
    → (offer_of (context_of p side instant) (socket_of p side)).socket.offered ≡ Some o → is_stale (socket_of p (other side)).tcb o.segment now ≡ false
offer_timely p side instant now o r asked d offered =
    not_stale (socket_of p (other side)).tcb o.segment now (offer_of_pair_initial p side instant o r d asked offered)

-- of a side that is asked after the other
pub ack_timely :
    (p : PairValue) (side : Side) (second third now : ℤ) (o : OpenOffer) → IsReached (offered_in p (other side) second)
    → refusal (offered_in p (other side) second) (Offer side third true) ≡ None → HasDays p side third
    → (offer_of (context_of (offered_in p (other side) second) side third) (socket_of (offered_in p (other side) second) side)).socket.offered ≡ Some o
    → is_stale (socket_of (offered_in p (other side) second) (other side)).tcb o.segment now ≡ false
ack_timely p side second third now o r asked d offered =
    not_stale (socket_of (offered_in p (other side) second) (other side)).tcb o.segment now
    (offer_of_pair_initial (offered_in p (other side) second) side third o r (offered_days p side second third d) asked offered)

-- of a side that answers what the other is asked for
pub reply_timely :
    (p : PairValue) (side : Side) (instant now : ℤ) (ip : IpRepr) (header : TcpHeader) (bytes : List ℕ) (reply : Reply) → IsReached p
    → refusal p (Offer side instant true) ≡ None → HasDays p (other side) (at p.sides (other side)).instant
    → (arrives (context_at (other side) (at p.sides (other side))) (socket_of p (other side)) ip header bytes).answer ≡ Some reply
    → is_stale (socket_of (takes p (Offer side instant true)) side).tcb reply.segment now ≡ false
reply_timely p A instant now ip header bytes reply r asked d answer =
    let q = takes p (Offer A instant true) in
    not_stale (socket_of q A).tcb reply.segment now
    (answer_initial q A ip header bytes reply (reached_by p q (Offer A instant true ∷ []) r (asked, refl))
    (asked_days p B instant p.sides.b.instant d) answer)
reply_timely p B instant now ip header bytes reply r asked d answer =
    let q = takes p (Offer B instant true) in
    not_stale (socket_of q B).tcb reply.segment now
    (answer_initial q B ip header bytes reply (reached_by p q (Offer B instant true ∷ []) r (asked, refl))
    (asked_days p A instant p.sides.a.instant d) answer)
