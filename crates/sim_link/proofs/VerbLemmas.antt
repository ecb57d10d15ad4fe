-- Lemmas on verbs.
use Rattle.std.proofs.Common.{◌≡◌, refl, Some}
use Rattle.sim_link.specs.Verbs.{name_of, verb_of}
use Rattle.sim_link.specs.declared.verb.Verb.{Verb}
use Rattle.sim_link.specs.declared.verb.Verb.TheVariants.{World, Socket, Start, Stream, Datagram, Host, Link}
use Rattle.sim_link.specs.declared.verb.StreamVerb.TheVariants.{Listen, Connect, Send, Recv, Close, Abort, State}
use Rattle.sim_link.specs.declared.verb.DatagramVerb.TheVariants.{Bind, Ident, SendTo, SendIcmp, SendRaw, RecvFrom}
use Rattle.sim_link.specs.declared.verb.HostVerb.TheVariants.{Addrs, Hw, Route, Poll, PollAt, Room}
use Rattle.sim_link.specs.declared.verb.LinkVerb.TheVariants.{Deliver, Damage, Noise, Cut}

-- a verb's name is read as the verb
pub verb_of_name : (verb : Verb) → verb_of (name_of verb) ≡ Some verb
unfolding verb_of
verb_of_name World = refl
verb_of_name Socket = refl
verb_of_name Start = refl
verb_of_name (Stream Listen) = refl
verb_of_name (Stream Connect) = refl
verb_of_name (Stream Send) = refl
verb_of_name (Stream Recv) = refl
verb_of_name (Stream Close) = refl
verb_of_name (Stream Abort) = refl
verb_of_name (Stream State) = refl
verb_of_name (Datagram Bind) = refl
verb_of_name (Datagram Ident) = refl
verb_of_name (Datagram SendTo) = refl
verb_of_name (Datagram SendIcmp) = refl
verb_of_name (Datagram SendRaw) = refl
verb_of_name (Datagram RecvFrom) = refl
verb_of_name (Host Addrs) = refl
verb_of_name (Host Hw) = refl
verb_of_name (Host Route) = refl
verb_of_name (Host Poll) = refl
verb_of_name (Host PollAt) = refl
verb_of_name (Host Room) = refl
verb_of_name (Link Deliver) = refl
verb_of_name (Link Damage) = refl
verb_of_name (Link Noise) = refl
verb_of_name (Link Cut) = refl
