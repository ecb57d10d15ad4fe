-- No line that is read names an instant before the start: a row a line.
use Rattle.std.proofs.Common.{◌≡◌, ℕ, ℤ, pos, negsuc, List, slice_get, Option, Some, None, sym, subst}
use Rattle.std.proofs.lemmas.Option.{none-some}
use Rattle.sim_link.specs.declared.kinds.Side.{Side}
use Rattle.sim_link.specs.declared.kinds.SocketKind.{SocketKind}
use Rattle.sim_link.specs.declared.kinds.SocketKind.TheVariants as kind
use Rattle.sim_link.specs.declared.line.Line.{Line}
use Rattle.sim_link.specs.declared.line.Line.TheVariants.{Poll, PollAt}
use Rattle.sim_link.specs.declared.verb.Verb.{Verb}
use Rattle.sim_link.specs.declared.verb.Verb.TheVariants as verb
use Rattle.sim_link.specs.declared.verb.StreamVerb.{StreamVerb}
use Rattle.sim_link.specs.declared.verb.StreamVerb.TheVariants as stream
use Rattle.sim_link.specs.declared.verb.DatagramVerb.{DatagramVerb}
use Rattle.sim_link.specs.declared.verb.DatagramVerb.TheVariants as datagram
use Rattle.sim_link.specs.declared.verb.HostVerb.{HostVerb}
use Rattle.sim_link.specs.declared.verb.HostVerb.TheVariants as host
use Rattle.sim_link.specs.declared.verb.LinkVerb.{LinkVerb}
use Rattle.sim_link.specs.declared.verb.LinkVerb.TheVariants as link
use Rattle.sim_link.specs.Lines.{IsSocket, IsStream, IsDatagram, IsHost, IsLink, IsLine, SaysWords}
use Rattle.sim_link.specs.Words.{micros_of, First, ◌>>=◌}

abbrev NotBefore : ℤ → Type 0
NotBefore (pos micros) = Unit {0}
NotBefore (negsuc n) = ⊥

-- a line's instant, if it names one, isn't before the start
abbrev pub IsTimely : Line → Type 0
IsTimely (Poll h t n) = NotBefore t
IsTimely (PollAt h t) = NotBefore t
IsTimely line = Unit {0}

some_same : {X : Type 0} (x y : X) → Some x ≡ Some y → x ≡ y
some_same x y e = cc

counted : (count : Option ℕ) (t : ℤ) → (count >>= λ micros. Some (pos micros)) ≡ Some t → NotBefore t
counted None t e = absurd (none-some t e)
counted (Some micros) t e = subst NotBefore (some_same (pos micros) t e) tt

first_counted : (word : Option (List ℕ)) (t : ℤ) → (word >>= micros_of) ≡ Some t → NotBefore t
first_counted None t e = absurd (none-some t e)
first_counted (Some word) t e = counted _ t e

named : (words : List (List ℕ)) (t : ℤ) → First micros_of words t → NotBefore t
named words t e = first_counted (slice_get words 0) t e

made : (line y : Line) → y ≡ line → IsTimely line → IsTimely y
made line y e h = subst IsTimely (sym e) h

socket_timely : (h : Side) (k : SocketKind) (words : List (List ℕ)) (y : Line) → IsSocket h k words y → IsTimely y
socket_timely h kind.Udp words y says = made _ y says.2.1 tt
socket_timely h kind.Icmp words y says = made _ y says.2.1 tt
socket_timely h kind.Raw words y says = made _ y says.2.2.2.1 tt
socket_timely h kind.Tcp words y says = made _ y says.2.2.1 tt

stream_timely : (v : StreamVerb) (h : Side) (s : ℕ) (words : List (List ℕ)) (y : Line) → IsStream v h s words y → IsTimely y
stream_timely stream.Listen h s words y says = made _ y says.2.1 tt
stream_timely stream.Connect h s words y says = made _ y says.2.2.1 tt
stream_timely stream.Send h s words y says = made _ y says.2.1 tt
stream_timely stream.Recv h s words y says = made _ y says.2.1 tt
stream_timely stream.Close h s words y says = made _ y says.1 tt
stream_timely stream.Abort h s words y says = made _ y says.1 tt
stream_timely stream.State h s words y says = made _ y says.1 tt

datagram_timely : (v : DatagramVerb) (h : Side) (s : ℕ) (words : List (List ℕ)) (y : Line) → IsDatagram v h s words y → IsTimely y
datagram_timely datagram.Bind h s words y says = made _ y says.2.1 tt
datagram_timely datagram.Ident h s words y says = made _ y says.2.1 tt
datagram_timely datagram.SendTo h s words y says = made _ y says.2.2.1 tt
datagram_timely datagram.SendIcmp h s words y says = made _ y says.2.2.1 tt
datagram_timely datagram.SendRaw h s words y says = made _ y says.2.1 tt
datagram_timely datagram.RecvFrom h s words y says = made _ y says.2.1 tt

host_timely : (v : HostVerb) (h : Side) (words : List (List ℕ)) (y : Line) → IsHost v h words y → IsTimely y
host_timely host.Addrs h words y says = made _ y says.2 tt
host_timely host.Hw h words y says = made _ y says.2.1 tt
host_timely host.Route h words y says = made _ y says.2.1 tt
host_timely host.Poll h words y says = made _ y says.2.2.1 (named words says.0 says.1)
host_timely host.PollAt h words y says = made _ y says.2.1 (named words says.0 says.1)
host_timely host.Room h words y says = made _ y says.2.1 tt

link_timely : (v : LinkVerb) (h : Side) (words : List (List ℕ)) (y : Line) → IsLink v h words y → IsTimely y
link_timely link.Deliver h words y says = made _ y says.2.2.1 tt
link_timely link.Damage h words y says = made _ y says.2.2.2.2.1 tt
link_timely link.Noise h words y says = made _ y says.2.1 tt
link_timely link.Cut h words y says = made _ y says.2.2.1 tt

line_timely : (v : Verb) (words : List (List ℕ)) (y : Line) → IsLine v words y → IsTimely y
line_timely verb.World words y says = made _ y says.2.2.1 tt
line_timely verb.Socket words y says = socket_timely says.0 says.2.0 _ y says.2.2
line_timely verb.Start words y says = made _ y says.1 tt
line_timely (verb.Stream v) words y says = stream_timely v says.0 says.2.0 _ y says.2.2
line_timely (verb.Datagram v) words y says = datagram_timely v says.0 says.2.0 _ y says.2.2
line_timely (verb.Host v) words y says = host_timely v says.0 _ y says.2
line_timely (verb.Link v) words y says = link_timely v says.0 _ y says.2

pub words_timely : (words : List (List ℕ)) (line : Line) → SaysWords words line → IsTimely line
words_timely words line says = line_timely says.0 _ line says.2
