-- The text of a line says the line: a row a line.
use Rattle.std.proofs.Common.{◌≡◌, ℕ, List, [], ◌∷◌, map, refl, sym, subst}
use Rattle.ip_wire.specs.IpCidr.{IpCidr}
use Rattle.ip_wire.specs.Text.{cidr_text}
use Rattle.sim_link.specs.declared.line.Line.{Line}
use Rattle.sim_link.specs.declared.line.Line.TheVariants.{World, Socket, Start, Listen, Connect, Send, Recv, Close, Abort, State, Bind, Ident, SendTo}
use Rattle.sim_link.specs.declared.line.Line.TheVariants.{SendIcmp, SendRaw, RecvFrom, Addrs, Hw, Route, Poll, PollAt, Deliver, Damage, Noise, Room, Cut}
use Rattle.sim_link.specs.declared.kinds.QueueSizes.{QueueSizes}
use Rattle.sim_link.specs.declared.kinds.SocketSpec.{SocketSpec}
use Rattle.sim_link.specs.declared.kinds.SocketSpec.TheVariants.{Udp, Icmp, Raw, Tcp}
use Rattle.sim_link.specs.Lines.{SaysWords, SaysLine}
use Rattle.sim_link.specs.Text.{side_text, queue_words, socket_words, line_words, line_text, AreIpBlocks, AreSizes, IsSpec, HasText}
use Rattle.sim_link.proofs.Graphic.{IsGraphic, side_graphic, medium_graphic, version_graphic, protocol_graphic, decimal_graphic, short_graphic}
use Rattle.sim_link.proofs.Graphic.{instant_graphic, hex_graphic, four_digits_graphic, endpoint_graphic, ip_graphic, ethernet_graphic, cidr_graphic}
use Rattle.sim_link.proofs.JoinedLemmas.{AreGraphic, joined_splits, joined_ascii}
use Rattle.sim_link.proofs.ReadBack.{says_words}

-- a word before CIDR blocks
blocks_graphic : (word : List ℕ) (blocks : List IpCidr) → IsGraphic word → AreIpBlocks blocks → AreGraphic (word ∷ map cidr_text blocks)
blocks_graphic word [] h all = h
blocks_graphic word (cidr ∷ blocks) h all = (h, blocks_graphic (cidr_text cidr) blocks (cidr_graphic cidr all.0) all.1)

queues_graphic : (q : QueueSizes) → AreSizes q → AreGraphic (queue_words q)
queues_graphic q f =
    (decimal_graphic q.receive_packets f.0, (decimal_graphic q.receive_bytes f.1, (decimal_graphic q.send_packets f.2, decimal_graphic q.send_bytes f.3)))

spec_graphic : (s : SocketSpec) → IsSpec s → AreGraphic (socket_words s)
spec_graphic (Udp q) f = (refl, queues_graphic q f)
spec_graphic (Icmp q) f = (refl, queues_graphic q f)
spec_graphic (Raw v p q) f = (refl, (version_graphic v, (protocol_graphic p f.0, queues_graphic q f.1)))
spec_graphic (Tcp s) f = (refl, (decimal_graphic s.receive_bytes f.0, decimal_graphic s.send_bytes f.1))

-- a word before those of a socket
before_spec : (word : List ℕ) (s : SocketSpec) → IsGraphic word → IsSpec s → AreGraphic (word ∷ socket_words s)
before_spec word (Udp q) h f = (h, spec_graphic (Udp q) f)
before_spec word (Icmp q) h f = (h, spec_graphic (Icmp q) f)
before_spec word (Raw v p q) h f = (h, spec_graphic (Raw v p q) f)
before_spec word (Tcp s) h f = (h, spec_graphic (Tcp s) f)

words_graphic : (line : Line) → HasText line → AreGraphic (line_words line)
words_graphic (World m n) f = (refl, (medium_graphic m, decimal_graphic n f))
words_graphic (Socket h s) f = (refl, before_spec (side_text h) s (side_graphic h) f)
words_graphic Start f = refl
words_graphic (Listen h s p) f = (refl, (side_graphic h, (decimal_graphic s f.0, short_graphic p f.1)))
words_graphic (Connect h s e p) f = (refl, (side_graphic h, (decimal_graphic s f.0, (endpoint_graphic e f.1, short_graphic p f.2))))
words_graphic (Send h s x) f = (refl, (side_graphic h, (decimal_graphic s f.0, hex_graphic x f.1)))
words_graphic (Recv h s n) f = (refl, (side_graphic h, (decimal_graphic s f.0, decimal_graphic n f.1)))
words_graphic (Close h s) f = (refl, (side_graphic h, decimal_graphic s f))
words_graphic (Abort h s) f = (refl, (side_graphic h, decimal_graphic s f))
words_graphic (State h s) f = (refl, (side_graphic h, decimal_graphic s f))
words_graphic (Bind h s p) f = (refl, (side_graphic h, (decimal_graphic s f.0, short_graphic p f.1)))
words_graphic (Ident h s n) f = (refl, (side_graphic h, (decimal_graphic s f.0, short_graphic n f.1)))
words_graphic (SendTo h s e x) f = (refl, (side_graphic h, (decimal_graphic s f.0, (endpoint_graphic e f.1, hex_graphic x f.2))))
words_graphic (SendIcmp h s a x) f = (refl, (side_graphic h, (decimal_graphic s f.0, (ip_graphic a f.1, hex_graphic x f.2))))
words_graphic (SendRaw h s x) f = (refl, (side_graphic h, (decimal_graphic s f.0, hex_graphic x f.1)))
words_graphic (RecvFrom h s n) f = (refl, (side_graphic h, (decimal_graphic s f.0, decimal_graphic n f.1)))
words_graphic (Addrs h blocks) f = (refl, blocks_graphic (side_text h) blocks (side_graphic h) f.0)
words_graphic (Hw h a) f = (refl, (side_graphic h, ethernet_graphic a f))
words_graphic (Route h a) f = (refl, (side_graphic h, ip_graphic a f))
words_graphic (Poll h t n) f = (refl, (side_graphic h, (instant_graphic t f.0, short_graphic n f.1)))
words_graphic (PollAt h t) f = (refl, (side_graphic h, instant_graphic t f))
words_graphic (Deliver h k x) f = (refl, (side_graphic h, (decimal_graphic k f.0, hex_graphic x f.1)))
words_graphic (Damage h k p w x) f =
    (refl, (side_graphic h, (decimal_graphic k f.0, (decimal_graphic p f.1, (four_digits_graphic w f.2, hex_graphic x f.3)))))
words_graphic (Noise h x) f = (refl, (side_graphic h, hex_graphic x f))
words_graphic (Room h n) f = (refl, (side_graphic h, decimal_graphic n f))
words_graphic (Cut h k p) f = (refl, (side_graphic h, (decimal_graphic k f.0, decimal_graphic p f.1)))

pub says_line : (line : Line) → HasText line → SaysLine (line_text line) line
says_line line f =
    let graphic = words_graphic line f in
    (joined_ascii (line_words line) graphic, subst (λ words. SaysWords words line) (sym (joined_splits (line_words line) graphic)) (says_words line f))
