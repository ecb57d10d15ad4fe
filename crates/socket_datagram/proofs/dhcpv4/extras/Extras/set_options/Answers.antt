use Rattle.std.proofs.Common.{◌≡◌, ◌-◌, ◌++◌, ◌∙◌, sym, ap}
use Rattle.std.specs.Prelude.{Ok}
use Rattle.wire_dhcp.specs.Written.{encoded}
use Rattle.socket_datagram.specs.DhcpClient.Extras.{asked_len, verdict}
use Rattle.socket_datagram.proofs.DhcpClient.TakenOptions.{with_taken}
use Rattle.socket_datagram.proofs.dhcpv4.extras.Extras.set_options.Goals as goal

pub invariant_of-self : goal.invariant_of-self
invariant_of-self c =
    let len : c.asked_len-room.result ≡ asked_len c.self.inside.parameters.items =
    c.asked_len-room.ensures ∙ ap asked_len c.as_slice.ensures.value in
    let said : verdict (279 - asked_len c.self.inside.parameters.items) c.args.options.now ≡ Ok tt =
    ap (λ n. verdict (279 - n) c.args.options.now) (sym len) ∙ sym c.in_ok-append.ensures.verdict in
    let are : c.append.new.bytes.items ≡ encoded c.args.options.now =
    c.in_ok-append.ensures.bytes ∙ ap (λ xs. xs ++ encoded c.args.options.now) c.new-bytes.ensures in
    with_taken c.self.inside.parameters.items c.self.inside.options.items c.append.new.bytes.items c.args.options.now c.self.invariant said are
