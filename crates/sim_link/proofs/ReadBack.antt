-- The words of a line say the line: a row a line.
use Rattle.std.proofs.Common.{refl}
use Rattle.wire_address.proofs.Printed.{IsIpText-printed, IsEthernetText-printed}
use Rattle.sim_link.specs.declared.line.Line.{Line}
use Rattle.sim_link.specs.declared.line.Line.TheVariants.{World, Socket, Start, Listen, Connect, Send, Recv, Close, Abort, State, Bind, Ident, SendTo}
use Rattle.sim_link.specs.declared.line.Line.TheVariants.{SendIcmp, SendRaw, RecvFrom, Addrs, Hw, Route, Poll, PollAt, Deliver, Damage, Noise, Room, Cut}
use Rattle.sim_link.specs.declared.kinds.SocketKind.TheVariants as kind
use Rattle.sim_link.specs.declared.kinds.SocketSpec.TheVariants.{Udp, Icmp, Raw, Tcp}
use Rattle.sim_link.specs.declared.verb.Verb.TheVariants as verb
use Rattle.sim_link.specs.declared.verb.StreamVerb.TheVariants as stream
use Rattle.sim_link.specs.declared.verb.DatagramVerb.TheVariants as datagram
use Rattle.sim_link.specs.declared.verb.HostVerb.TheVariants as host
use Rattle.sim_link.specs.declared.verb.LinkVerb.TheVariants as link
use Rattle.sim_link.specs.Lines.{SaysWords}
use Rattle.sim_link.specs.Text.{line_words, HasText}
use Rattle.sim_link.proofs.Backs.{side_back, medium_back, version_back, protocol_back, size_back, short_back, instant_back, hex_back, four_digits_back}
use Rattle.sim_link.proofs.Backs.{endpoint_back, blocks_back, queues_back}
use Rattle.sim_link.proofs.VerbLemmas.{verb_of_name}

pub says_words : (line : Line) → HasText line → SaysWords (line_words line) line
says_words (World m n) f =
    (verb.World, verb_of_name verb.World, (m, medium_back m, (n, size_back n f, (refl, refl))))
says_words (Socket h (Udp q)) f =
    (verb.Socket, verb_of_name verb.Socket, (h, side_back h, (kind.Udp, refl, (q, queues_back q f, (refl, refl)))))
says_words (Socket h (Icmp q)) f =
    (verb.Socket, verb_of_name verb.Socket, (h, side_back h, (kind.Icmp, refl, (q, queues_back q f, (refl, refl)))))
says_words (Socket h (Raw v p q)) f = (
  verb.Socket,
  verb_of_name verb.Socket,
  (h, side_back h, (kind.Raw, refl, (v, version_back v, (p, protocol_back p f.0, (q, queues_back q f.1, (refl, refl)))))),
)
says_words (Socket h (Tcp s)) f = (
  verb.Socket,
  verb_of_name verb.Socket,
  (h, side_back h, (kind.Tcp, refl, (s.receive_bytes, size_back s.receive_bytes f.0, (s.send_bytes, size_back s.send_bytes f.1, (refl, refl))))),
)
says_words Start f = (verb.Start, verb_of_name verb.Start, (refl, refl))
says_words (Listen h s p) f =
    (verb.Stream stream.Listen, verb_of_name (verb.Stream stream.Listen), (h, side_back h, (s, size_back s f.0, (p, short_back p f.1, (refl, refl)))))
says_words (Connect h s e p) f = (
  verb.Stream stream.Connect,
  verb_of_name (verb.Stream stream.Connect),
  (h, side_back h, (s, size_back s f.0, (e, endpoint_back e f.1, (p, short_back p f.2, (refl, refl))))),
)
says_words (Send h s x) f =
    (verb.Stream stream.Send, verb_of_name (verb.Stream stream.Send), (h, side_back h, (s, size_back s f.0, (x, hex_back x f.1, (refl, refl)))))
says_words (Recv h s n) f =
    (verb.Stream stream.Recv, verb_of_name (verb.Stream stream.Recv), (h, side_back h, (s, size_back s f.0, (n, size_back n f.1, (refl, refl)))))
says_words (Close h s) f =
    (verb.Stream stream.Close, verb_of_name (verb.Stream stream.Close), (h, side_back h, (s, size_back s f, (refl, refl))))
says_words (Abort h s) f =
    (verb.Stream stream.Abort, verb_of_name (verb.Stream stream.Abort), (h, side_back h, (s, size_back s f, (refl, refl))))
says_words (State h s) f =
    (verb.Stream stream.State, verb_of_name (verb.Stream stream.State), (h, side_back h, (s, size_back s f, (refl, refl))))
says_words (Bind h s p) f =
    (verb.Datagram datagram.Bind, verb_of_name (verb.Datagram datagram.Bind), (h, side_back h, (s, size_back s f.0, (p, short_back p f.1, (refl, refl)))))
says_words (Ident h s n) f =
    (verb.Datagram datagram.Ident, verb_of_name (verb.Datagram datagram.Ident), (h, side_back h, (s, size_back s f.0, (n, short_back n f.1, (refl, refl)))))
says_words (SendTo h s e x) f = (
  verb.Datagram datagram.SendTo,
  verb_of_name (verb.Datagram datagram.SendTo),
  (h, side_back h, (s, size_back s f.0, (e, endpoint_back e f.1, (x, hex_back x f.2, (refl, refl))))),
)
says_words (SendIcmp h s a x) f = (
  verb.Datagram datagram.SendIcmp,
  verb_of_name (verb.Datagram datagram.SendIcmp),
  (h, side_back h, (s, size_back s f.0, (a, IsIpText-printed a f.1, (x, hex_back x f.2, (refl, refl))))),
)
says_words (SendRaw h s x) f =
    (verb.Datagram datagram.SendRaw, verb_of_name (verb.Datagram datagram.SendRaw), (h, side_back h, (s, size_back s f.0, (x, hex_back x f.1, (refl, refl)))))
says_words (RecvFrom h s n) f = (
  verb.Datagram datagram.RecvFrom,
  verb_of_name (verb.Datagram datagram.RecvFrom),
  (h, side_back h, (s, size_back s f.0, (n, size_back n f.1, (refl, refl)))),
)
says_words (Addrs h blocks) f =
    (verb.Host host.Addrs, verb_of_name (verb.Host host.Addrs), (h, side_back h, (blocks, (blocks_back blocks f.0, f.1), refl)))
says_words (Hw h a) f =
    (verb.Host host.Hw, verb_of_name (verb.Host host.Hw), (h, side_back h, (a, IsEthernetText-printed a f, (refl, refl))))
says_words (Route h a) f =
    (verb.Host host.Route, verb_of_name (verb.Host host.Route), (h, side_back h, (a, IsIpText-printed a f, (refl, refl))))
says_words (Poll h t n) f =
    (verb.Host host.Poll, verb_of_name (verb.Host host.Poll), (h, side_back h, (t, instant_back t f.0, (n, short_back n f.1, (refl, refl)))))
says_words (PollAt h t) f =
    (verb.Host host.PollAt, verb_of_name (verb.Host host.PollAt), (h, side_back h, (t, instant_back t f, (refl, refl))))
says_words (Deliver h k x) f =
    (verb.Link link.Deliver, verb_of_name (verb.Link link.Deliver), (h, side_back h, (k, size_back k f.0, (x, hex_back x f.1, (refl, refl)))))
says_words (Damage h k p w x) f = (
  verb.Link link.Damage,
  verb_of_name (verb.Link link.Damage),
  (h, side_back h, (k, size_back k f.0, (p, size_back p f.1, (w, four_digits_back w f.2, (x, hex_back x f.3, (refl, refl)))))),
)
says_words (Noise h x) f =
    (verb.Link link.Noise, verb_of_name (verb.Link link.Noise), (h, side_back h, (x, hex_back x f, (refl, refl))))
says_words (Room h n) f =
    (verb.Host host.Room, verb_of_name (verb.Host host.Room), (h, side_back h, (n, size_back n f, (refl, refl))))
says_words (Cut h k p) f =
    (verb.Link link.Cut, verb_of_name (verb.Link link.Cut), (h, side_back h, (k, size_back k f.0, (p, size_back p f.1, (refl, refl)))))
