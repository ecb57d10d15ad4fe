-- What is retransmitted from SND.UNA on while the retransmission timer runs, and how long that can be put off.
use Rattle.std.specs.Prelude.{◌≡◌, ◌⊎◌, ℕ, ◌+◌, ◌*◌, max, true, List, [], ◌∷◌, Some}
use Rattle.tcp_invariants.specs.OfferKind.TheVariants as Kind
use Rattle.tcp_invariants.specs.OpenOffer.{OpenOffer}
use Rattle.tcp_block.specs.Offers.{offer_of}
use Rattle.tcp_refinement.specs.Pair.Sides.{other}
use Rattle.tcp_block.specs.Value.{TcpValue, room_of}
use Rattle.tcp_refinement.specs.Pair.Values.{PairValue}
use Rattle.tcp_refinement.specs.declared.pair.event.PairEvent.{PairEvent}
use Rattle.tcp_refinement.specs.declared.pair.event.PairEvent.TheVariants.{Offer}
use Rattle.tcp_refinement.specs.declared.pair.event.Side.{Side}
use Rattle.tcp_liveness.specs.Pair.{context_of, socket_of}
use Rattle.tcp_liveness.specs.Rounds.{takes}

-- Of a socket with an open offer: something is retransmitted, from SND.UNA on.
pub record BeginsAnew (v : TcpValue) : Type 0 where
  pub o : OpenOffer
  pub offered : v.offered ≡ Some o
  pub kind : o.kind ≡ Kind.FastRetransmission
  pub number : o.segment.seq_number ≡ v.tcb.sender.una

-- this event is such an offer of the side, and the segment goes
abbrev pub BeginsAnewIn : PairValue → Side → PairEvent → Type 0
BeginsAnewIn p side (Offer of instant true) = (of ≡ side) × BeginsAnew (offer_of (context_of p of instant) (socket_of p of)).socket
BeginsAnewIn p side other = ⊥

-- one of these events, which are taken from this pair on, is
abbrev pub BeginsAnewAmong : PairValue → Side → List PairEvent → Type 0
BeginsAnewAmong p side [] = ⊥
BeginsAnewAmong p side (event ∷ events) = BeginsAnewIn p side event ⊎ BeginsAnewAmong (takes p event) side events

-- how many positions a side may have sent past SND.UNA: the other's buffer, or a byte that probes it, a SYN and a FIN
abbrev pub most_sent : PairValue → Side → ℕ
most_sent p side = max 1 (room_of (socket_of p (other side)).received) + 2

-- a minute for each of them, and two more, in microseconds
abbrev pub put_off_in : PairValue → Side → ℕ
put_off_in p side = (most_sent p side + 2) * 60_000_000
