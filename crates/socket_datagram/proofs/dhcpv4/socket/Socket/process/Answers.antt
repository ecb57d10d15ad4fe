use Rattle.std.proofs.Common.{ℕ, List, None, sym, ap, ◌∙◌, subst, ℤ}
use Rattle.wire_dhcp.specs.Dhcp.{IsDhcp}
use Rattle.socket_datagram.specs.DhcpClient.Answers.{Processed}
use Rattle.socket_datagram.specs.DhcpClient.Value.{DhcpValue, unoffered}
use Rattle.socket_datagram.proofs.DhcpClient.Taken.{taken}
use Rattle.socket_datagram.proofs.dhcpv4.socket.Socket.process.Goals as goal

pub returns : goal.returns
returns g c =
    let i = c.self.inside in
    let w : DhcpValue = record {
      link_addr = i.link_addr;
      settings = i.settings;
      parameters = i.extras.parameters;
      options = i.extras.options;
      state = i.state;
      restart_at = i.restart_at;
      transaction_id = i.transaction_id;
      changed = i.changed;
      random =
          i.random;
      next_id = i.next_id;
      next_word = i.next_word;
      offered = None;
    } in
    subst (λ (now : ℤ). Processed now c.args.self.now c.args.ip_repr.now c.args.repr.now c.args.payload.now c.tell.new.self) c.now.ensures.value
    (taken c.now.result c.args.self.now w c.tell.new.self c.args.ip_repr.now c.in-Ipv4.header c.args.repr.now c.args.payload.now c.in-Ok.message
    c.cidr_of-cidr.result
    (ap unoffered c.self.view_is) (sym c.is_for.ensures ∙ c.if-not-is_for.false) c.in-Ipv4.is
    (subst (λ (bytes : List ℕ). IsDhcp bytes c.in-Ok.message) c.new_unchecked.ensures c.in-Ok.ensures.found) c.cidr_of-cidr.ensures c.tell.ensures)
