-- A setting and a poll of a host, from its parts.
use Rattle.std.proofs.Common.{◌≡◌, ℕ, ℤ, Bool, false, List, None, refl, sym, ap, ◌∙◌, subst}
use Rattle.sockets.specs.declared.socket.Socket.{Socket}
use Rattle.iface_egress.specs.declared.socket_set.SocketStorage.{SocketStorage}
use Rattle.interface.specs.Host.{HostValue}
use Rattle.interface.specs.Polls.{Polls}
use Rattle.interface.specs.State.{state}
use Rattle.sim_link.specs.Port.{LinkEnd, PortValue, PortMove}
use Rattle.lan.specs.Worlds.AtLink.Kinds.{Setting}
use Rattle.lan.specs.Worlds.AtLink.Kinds.Act.{Sets}
use Rattle.lan.specs.Worlds.AtLink.Acting.{ActsSo}
use Rattle.lan.specs.Worlds.AtLink.Answers.{Gives, brief}
use Rattle.lan.specs.Worlds.AtLink.Sets.{SetsTo, setting_answer}
use Rattle.lan.specs.Worlds.AtLink.Node.{NodeValue}
use Rattle.lan.specs.Worlds.AtLink.Steps.{PollsAt}
use Rattle.lan.specs.declared.at_link.answer.Brief.{Brief}
use Rattle.lan.specs.declared.at_link.answer.Taken.{Taken}

abbrev pub of_parts : HostValue → List (SocketStorage Socket) → LinkEnd → NodeValue
of_parts h ps link = record { host = h; slots = ps; link = link }

configured : (s s' : NodeValue) (setting : Setting) (t : Taken) (h : HostValue) → SetsTo s.host setting h → Gives t (setting_answer s.host setting) None →
    s' ≡ record s { host = h } → ActsSo s (Sets setting) t s'
configured s s' setting t h sets gives is = (((h, sets, gives.0, is), gives.2), gives.1 ∙ sym gives.0)

pub configured_from : (s : NodeValue) (h h' : HostValue) (ps : List (SocketStorage Socket)) (link : LinkEnd) (setting : Setting) (t : Taken)
    (short : Brief) → of_parts h ps link ≡ s
    → SetsTo h setting h' → brief short ≡ setting_answer h setting → Gives t (brief short) None → ActsSo s (Sets setting) t (of_parts h' ps link)
configured_from s h h' ps link setting t short is sets answer gives =
    subst (λ (x : NodeValue). ActsSo x (Sets setting) t (of_parts h' ps link)) is
    (configured (of_parts h ps link) (of_parts h' ps link) setting t h' sets (subst (λ a. Gives t a None) answer gives) refl)

pub polls_from : (s : NodeValue) (port port' : PortValue) (h h' : HostValue) (ps ps' : List (SocketStorage Socket)) (link : LinkEnd) (instant : ℤ)
    (budget : ℕ) (changed : Bool) → of_parts h ps link ≡ s → port.link ≡ link
    → Polls PortMove instant budget (state port h ps) changed (state port' h' ps') →
    (h.inner.host_requirements ≡ false → port'.link.refusals ≡ port.link.refusals) →
    PollsAt s instant budget changed (of_parts h' ps' port'.link)
polls_from s port port' h h' ps ps' link instant budget changed is before polls none =
    subst (λ (x : NodeValue). PollsAt x instant budget changed (of_parts h' ps' port'.link)) is
    (record { port = port; port_after = port'; before = before; after = refl; polls = polls; none_denied = λ alone. none alone ∙ ap (λ (x : LinkEnd). x.refusals) before })
