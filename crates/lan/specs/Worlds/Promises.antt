-- What is promised of two hosts at a link that may lose, repeat, reorder, pad, damage and cut frames, and add some, wherever events led.
use Rattle.lan.specs.declared.at_link.history.event.Side.TheVariants.{A, B}
use Rattle.lan.specs.Worlds.AtLink.PacketsSafe.{IsSafe}
use Rattle.lan.specs.Worlds.AtLink.Runs.{WorldValue, WorldRun, unused_both, counts_of}
use Rattle.lan.specs.Worlds.AtLink.Safe.{first_port, net_of}
use Rattle.lan.specs.Worlds.Hosts.RequestSilence.{requests, AreApart}
use Rattle.lan.specs.Worlds.Hosts.Damage.{DamageIsHarmless}
use Rattle.lan.specs.Worlds.Hosts.HostRuns.{IsHostRun}
use Rattle.lan.specs.Worlds.Hosts.Quiet.{PollsWereQuiet}
use Rattle.lan.specs.Worlds.Hosts.Wire.{FramesAreApart}
use Rattle.lan.specs.Worlds.AtLink.Origins.{medium_of}
use Rattle.lan.specs.Worlds.ReassembledDatagram.{ReassembledWasMade}
use Rattle.lan.specs.Worlds.FragmentFacts.{ReassembledWasSent, by_side}

pub record IsSafeWorld (w : WorldValue) : Type 0 where
  -- of both hosts' sockets: what was read and what waits begins what the peer wrote, only bytes that the peer took in have left the
  -- send queue, which holds the rest, a socket without a peer has nothing, the end of a stream is true, and each datagram read was accepted
  pub sockets : IsSafe (first_port w.starts) (net_of w)
  -- the hosts and the link came here by this history, and no event was taken that had to be refused
  pub run : WorldRun w.history (unused_both w.starts) w.hosts
  -- each host is a run of its machine from what it was at first: it took the first frames of those that the link handed over, in
  -- order, and sent all that it sent, but for the link's fragments
  pub run_a : IsHostRun w A
  pub run_b : IsHostRun w B
  -- a host that was asked when to poll, and polled undisturbed before its answer, sent nothing
  pub quiet : PollsWereQuiet w.starts w.history (counts_of w.hosts)
  -- a host's own requests for neighbours are a second apart
  pub asks_a : AreApart (requests run_a.turns)
  pub asks_b : AreApart (requests run_b.turns)
  -- so are, by their bytes and whatever the host calls them, the frames on Ethernet that ask: ARP requests, and requests and neighbour
  -- solicitations together of a host whose sockets are all of TCP and UDP
  pub frames_a : FramesAreApart (medium_of w.hosts.a) w.starts.a.slots run_a.turns
  pub frames_b : FramesAreApart (medium_of w.hosts.b) w.starts.b.slots run_b.turns
  -- if a host is polled, and wherever in that poll it takes a frame that waits for it and reassembles a TCP or UDP datagram of fragments with it,
  -- what the other host's turns sent with that identification, those addresses and that protocol is its payload, all of it and nothing else
  pub reassembled : ReassembledWasSent w (by_side run_a.turns run_b.turns)
  -- and that is the payload of one packet, a segment or a datagram that the other host made
  pub made : ReassembledWasMade w
  -- a frame of which the link exchanged one aligned word of its whole TCP segment, for one of another remainder by 65535, touches no TCP
  -- and no UDP socket of whichever host takes it, and isn't answered
  pub damage : DamageIsHarmless w.hosts w.history
