use Rattle.std.proofs.Common.{ap, ◌∙◌}
use Rattle.app_tun_services.proofs.sockets_of.server.Goals as goal
use Rattle.app_tun_services.specs.Begins.{prompt, careful}

pub returns : goal.returns
returns c = record {
  before = c.in_ok-socket.socket;
  unopened = c.in_ok-socket.ensures;
  set = c.take_care.ensures ∙ ap careful (c.hasten.ensures ∙ ap prompt c.watch.ensures);
}
