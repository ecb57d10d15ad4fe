use Rattle.std.specs.Prelude.{slice_get}
use Rattle.iface_egress.specs.Set.{slots}
use Rattle.lan.specs.Worlds.AtLink.Kinds.{kind_of}
use Rattle.lan.proofs.Worlds.AtLink.Called.{call_from}
use Rattle.lan.proofs.Worlds.AtLink.Silent.{call_silent}
use Rattle.lan.proofs.at_link.host.Host.call.Goals as goal

pub returns-clause-done : goal.returns-clause-done
returns-clause-done c =
    call_from c.args.self.now c.self.inside.interface c.call_at.new.interface (slots c.self.inside.sockets) (slots c.call_at.new.sockets)
    c.self.inside.port.link c.args.slot (kind_of c.args.event.now) c.in_ok-said.said c.in-Some.taken
    c.self.view_is c.in-Some.is c.requires c.in_ok-said.ensures.done

pub invariant_of-self-2 : goal.invariant_of-self-2
invariant_of-self-2 c =
    call_silent c.self.inside.interface (slots c.self.inside.sockets) c.args.slot (kind_of c.args.event.now)
    (slice_get (slots c.self.inside.sockets) c.args.slot) c.in_ok-said.said c.call_at.new.interface (slots c.call_at.new.sockets) c.in_ok-said.ensures.done
    c.self.invariant
