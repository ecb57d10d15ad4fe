-- What the sockets of `Examples` do.
use Rattle.std.specs.Prelude.{ℕ, ℤ, pos, false, List, [], ◌∷◌, Option, Some, None}
use Rattle.tcp_state.specs.declared.offer.OpenOffer.{OpenOffer}
use Rattle.tcp_state.specs.declared.offer.OfferKind.{OfferKind}
use Rattle.tcp_state.specs.declared.offer.Reply.{Reply}
use Rattle.tcp_block.specs.Calls.{send_after, recv_after, close_after}
use Rattle.tcp_block.specs.Examples.{Two, two, at, caller_a, caller_b, listener, sends, packet_at, delivered, hands_over, turned}
use Rattle.tcp_block.specs.Offers.{offer_of}
use Rattle.tcp_block.specs.Settings.{set_nagle_enabled}
use Rattle.tcp_block.specs.Value.{TcpValue, Arrived}

-- the three segments that open a connection (RFC 9293, 3.5, figure 6)
abbrev pub handshake : Two
handshake = hands_over (pos 0) (turned (hands_over (pos 0) (turned (hands_over (pos 0) (two caller_a listener)))))

-- both first SYNs are on their way at once (figure 7): none of them is delivered before both are sent
abbrev pub syns_crossed : Two
syns_crossed =
    two
    (delivered (at (pos 0)) (sends (pos 0) caller_a) (packet_at (pos 0) caller_b)).socket
    (delivered (at (pos 0)) (sends (pos 0) caller_b) (packet_at (pos 0) caller_a)).socket

-- the retransmission timers make both answer, and each answer is acknowledged
abbrev pub crossed : Two
crossed = hands_over (pos 1_000_000) (turned (hands_over (pos 1_000_000) syns_crossed))

-- socket a of the handshake, which doesn't wait to fill its segments
abbrev pub dupthresh_one : TcpValue
dupthresh_one = set_nagle_enabled handshake.one false

-- after its first two bytes were sent and lost
abbrev pub lost_two : TcpValue
lost_two = sends (pos 0) (send_after dupthresh_one (1 ∷ 2 ∷ []))

-- the third byte comes early, and then a fourth and a fifth
abbrev pub early : Arrived
early = delivered (at (pos 0)) handshake.other (packet_at (pos 0) (send_after lost_two (3 ∷ [])))

abbrev pub one_early : Two
one_early = hands_over (pos 0) (two (send_after lost_two (3 ∷ [])) handshake.other)

abbrev pub two_early : Two
two_early = hands_over (pos 0) (two (send_after one_early.one (4 ∷ [])) one_early.other)

abbrev pub three_early : Two
three_early = hands_over (pos 0) (two (send_after two_early.one (5 ∷ [])) two_early.other)

-- the first two bytes are retransmitted
abbrev pub repaired : Two
repaired = hands_over (pos 0) three_early

-- the kind of the open offer
abbrev pub kind_of : Option OpenOffer → Option OfferKind
kind_of None = None
kind_of (Some o) = Some o.kind

abbrev pub kind_at : ℤ → TcpValue → Option OfferKind
kind_at now v = kind_of (offer_of (at now) v).socket.offered

-- the range that the answer tells of
abbrev pub ranges_in : Option Reply → List (Option (ℕ × ℕ))
ranges_in None = []
ranges_in (Some reply) = reply.segment.options.sack_ranges

-- eight bytes fill the receive buffer of b, whose user reads nothing, and a has one more
abbrev pub filled : Two
filled = hands_over (pos 0) (two (send_after dupthresh_one (1 ∷ 2 ∷ 3 ∷ 4 ∷ 5 ∷ 6 ∷ 7 ∷ 8 ∷ [])) handshake.other)

abbrev pub blocked : Two
blocked = let s : Two = turned (hands_over (pos 10_000) (turned filled)) in two (send_after s.one (9 ∷ [])) s.other

-- the offer that sets the probe's instant
abbrev pub waits_to_probe : TcpValue
waits_to_probe = sends (pos 10_000) blocked.one

-- a second later, which is the timeout, the ninth byte goes as a probe
abbrev pub probe_arrives : Arrived
probe_arrives = delivered (at (pos 1_010_000)) blocked.other (packet_at (pos 1_010_000) waits_to_probe)

abbrev pub probed : Two
probed = hands_over (pos 1_010_000) (two waits_to_probe blocked.other)

-- the user of b reads all, b tells its window, and a sends
abbrev pub relieved : Two
relieved = hands_over (pos 1_020_000) (turned (hands_over (pos 1_020_000) (two (recv_after probed.other 8) probed.one)))

-- a closes, then b
abbrev pub closed : Two
closed =
    let fin : Two = turned (hands_over (pos 0) (turned (hands_over (pos 0) (two (close_after handshake.one) handshake.other)))) in
    let both : Two = hands_over (pos 0) (turned (two fin.one (close_after fin.other))) in
    turned (hands_over (pos 0) (turned both))
