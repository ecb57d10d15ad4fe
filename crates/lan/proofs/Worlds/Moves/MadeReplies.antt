-- A reply of what was made.
use Rattle.iface_ingress.specs.Arrives.{ReplyValue, Tells, Answers}
use Rattle.lan.specs.Worlds.AtLink.Parties.{Party}
use Rattle.lan.specs.Worlds.Moves.Made.{IsMade}

-- an ARP packet has neither segment nor datagram
abbrev pub IsMadeReply : Party → ReplyValue → Type 0
IsMadeReply p (Tells packet) = Unit {0}
IsMadeReply p (Answers x) = IsMade p x
