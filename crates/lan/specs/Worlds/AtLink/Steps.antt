-- What an event does to the two hosts and the link.
use Rattle.std.specs.Prelude.{false, ◌≡◌, ℕ, ℤ, Bool, Option, None}
use Rattle.interface.specs.Polls.{Polls as IsPoll}
use Rattle.lan.specs.Worlds.AtLink.Kinds.{other, Kind, Act, LinkAct}
use Rattle.lan.specs.Worlds.AtLink.Kinds.Kind.{OfHost, OfLink}
use Rattle.lan.specs.Worlds.AtLink.Kinds.Act.{Calls, Sets, Opens, Asks, Polls}
use Rattle.lan.specs.Worlds.AtLink.Kinds.LinkAct.{Hands, Cuts}
use Rattle.lan.specs.declared.at_link.history.answer.Answer.{Answer}
use Rattle.lan.specs.declared.at_link.history.answer.Answer.TheVariants as To
use Rattle.lan.specs.declared.at_link.history.event.Side.{Side}
use Rattle.sim_link.specs.Port.{PortValue, PortMove}
use Rattle.tcp_block.specs.State.{State}
use Rattle.lan.specs.Worlds.AtLink.Node.{NodeValue, Nodes, node, at_port}
use Rattle.lan.specs.Worlds.AtLink.Does.{Does}
use Rattle.lan.specs.Worlds.AtLink.Sets.{Configures, with_room, instant_at, asked}
use Rattle.lan.specs.Worlds.AtLink.Origins.{handed, cut}

-- A poll of the interface over the host's port. Buffers may lie ready in the port, so that none of its sends is refused for memory, where nothing
-- is parked.
pub record PollsAt (s : NodeValue) (instant : ℤ) (budget : ℕ) (changed : Bool) (s' : NodeValue) : Type 0 where
  pub port : PortValue
  pub port_after : PortValue
  pub before : port.link ≡ s.link
  pub after : port_after.link ≡ s'.link
  pub polls : IsPoll PortMove instant budget (at_port port s) changed (at_port port_after s')
  pub none_denied : s.host.inner.host_requirements ≡ false → s'.link.refusals ≡ s.link.refusals

-- what one host does, its answer, and of a close of a TCP socket the state that it found
abbrev pub Acts : NodeValue → Act → Answer → Option State → NodeValue → Type 0
Acts s (Calls i call) answer found s' = Does s i call answer found s'
Acts s (Sets setting) answer found s' = Configures s setting answer s' × (found ≡ None)
Acts s (Opens n) answer found s' = (answer ≡ To.Done) × (found ≡ None) × (s' ≡ with_room s n)
Acts s (Asks instant) answer found s' = (answer ≡ To.At (instant_at s instant)) × (found ≡ None) × (s' ≡ asked s instant)
Acts s (Polls instant budget) answer found s' =
    (changed : Bool) × PollsAt s instant budget changed s' × (answer ≡ To.Poll changed) × (found ≡ None)

-- one host acts, and the other is left as it was
pub record ActsAt (old : Nodes) (side : Side) (act : Act) (answer : Answer) (found : Option State) (new : Nodes) : Type 0 where
  pub acts : Acts (node old side) act answer found (node new side)
  pub rests : node new (other side) ≡ node old (other side)

abbrev pub linked : Nodes → LinkAct → Nodes
linked hosts (Hands origin) = handed hosts origin
linked hosts (Cuts from k at) = cut hosts from k at

-- what an event does, and what it answers: a call, a setting and a poll are their host's, the rest is the link's
abbrev pub Happens : Nodes → Kind → Answer → Option State → Nodes → Type 0
Happens old (OfHost side act) answer found new = ActsAt old side act answer found new
Happens old (OfLink act) answer found new = (answer ≡ To.Done) × (found ≡ None) × (new ≡ linked old act)
