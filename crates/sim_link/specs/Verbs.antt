-- The first words of lines.
use Rattle.std.specs.Prelude.{ℕ, List, [], ◌∷◌, codes, Option}
use Rattle.std.specs.List.{find}
use Rattle.std.specs.Str.{bytes_eq}
use Rattle.sim_link.specs.declared.verb.Verb.{Verb}
use Rattle.sim_link.specs.declared.verb.Verb.TheVariants.{World, Socket, Start, Stream, Datagram, Host, Link}
use Rattle.sim_link.specs.declared.verb.StreamVerb.TheVariants.{Listen, Connect, Send, Recv, Close, Abort, State}
use Rattle.sim_link.specs.declared.verb.DatagramVerb.TheVariants.{Bind, Ident, SendTo, SendIcmp, SendRaw, RecvFrom}
use Rattle.sim_link.specs.declared.verb.HostVerb.TheVariants.{Addrs, Hw, Route, Poll, PollAt, Room}
use Rattle.sim_link.specs.declared.verb.LinkVerb.TheVariants.{Deliver, Damage, Noise, Cut}

-- the word that a verb is
abbrev pub name_of : Verb → List ℕ
name_of World = codes "world"
name_of Socket = codes "socket"
name_of Start = codes "start"
name_of (Stream Listen) = codes "listen"
name_of (Stream Connect) = codes "connect"
name_of (Stream Send) = codes "send"
name_of (Stream Recv) = codes "recv"
name_of (Stream Close) = codes "close"
name_of (Stream Abort) = codes "abort"
name_of (Stream State) = codes "state"
name_of (Datagram Bind) = codes "bind"
name_of (Datagram Ident) = codes "ident"
name_of (Datagram SendTo) = codes "sendto"
name_of (Datagram SendIcmp) = codes "sendicmp"
name_of (Datagram SendRaw) = codes "sendraw"
name_of (Datagram RecvFrom) = codes "recvfrom"
name_of (Host Addrs) = codes "addrs"
name_of (Host Hw) = codes "hw"
name_of (Host Route) = codes "route"
name_of (Host Poll) = codes "poll"
name_of (Host PollAt) = codes "pollat"
name_of (Host Room) = codes "room"
name_of (Link Deliver) = codes "deliver"
name_of (Link Damage) = codes "damage"
name_of (Link Noise) = codes "noise"
name_of (Link Cut) = codes "cut"

-- all verbs
abbrev pub verbs : List Verb
verbs =
    World ∷ Socket ∷ Start
    ∷ Stream Listen ∷ Stream Connect ∷ Stream Send ∷ Stream Recv ∷ Stream Close ∷ Stream Abort ∷ Stream State
    ∷ Datagram Bind ∷ Datagram Ident ∷ Datagram SendTo ∷ Datagram SendIcmp ∷ Datagram SendRaw ∷ Datagram RecvFrom
    ∷ Host Addrs ∷ Host Hw ∷ Host Route ∷ Host Poll ∷ Host PollAt ∷ Host Room
    ∷ Link Deliver ∷ Link Damage ∷ Link Noise ∷ Link Cut
    ∷ []

-- the verb that a word is
unfoldable pub verb_of : List ℕ → Option Verb
verb_of word = find (λ verb. bytes_eq (name_of verb) word) verbs
