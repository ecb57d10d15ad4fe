use Rattle.std.proofs.Common.{◌≡◌, length, ap, ◌∙◌}
use Rattle.tcp_block.specs.Value.{TcpValue}
use Rattle.tcp_block.specs.Arrival.{arrives_in}
use Rattle.tcp_block.specs.State.TheVariants as In
use Rattle.tcp_socket.specs.Answering.{answer_of}
use Rattle.tcp_socket.proofs.Steps.{later_leads, quiet_in, not_drawn}
use Rattle.tcp_socket.proofs.socket.Socket.arrive_in_state.Goals as goal

pub returns-in-SynSent-clause-drawn : goal.returns-in-SynSent-clause-drawn
returns-in-SynSent-clause-drawn g c =
    let cx = g.C.Context.context c.args.cx.now in
    let i = c.args.incoming.now in
    let v = c.args.self.now in
    let at : c.self.inside.tcb.state ≡ v.tcb.state = ap (λ (w : TcpValue). w.tcb.state) c.self.view_is in
    let opening : c.self.inside.tcb.state ≡ In.SynSent = c.in-SynSent.is in
    let not_listen : v.tcb.state ≡ In.Listen → ⊥ = λ h. absurd (cc) in
    not_drawn c.args.cx.now (g.C.Context.drawn c.args.cx.now) (arrives_in v.tcb.state cx v i.ip_repr.now i.header.now i.bytes.now).draws
    (quiet_in v.tcb.state cx v i.ip_repr.now i.header.now i.bytes.now not_listen)

pub returns-in_default : goal.returns-in_default
returns-in_default g c =
    let cx = g.C.Context.context c.args.cx.now in
    let i = c.args.incoming.now in
    let v = c.args.self.now in
    let at : c.self.inside.tcb.state ≡ v.tcb.state = ap (λ (w : TcpValue). w.tcb.state) c.self.view_is in
    let not_closed : v.tcb.state ≡ In.Closed → ⊥ = λ h. c.in_default.not-Closed (at ∙ h) in
    let not_listen : v.tcb.state ≡ In.Listen → ⊥ = λ h. c.in_default.not-Listen (at ∙ h) in
    let not_opening : v.tcb.state ≡ In.SynSent → ⊥ = λ h. c.in_default.not-SynSent (at ∙ h) in
    let leads = later_leads cx v i.ip_repr.now i.header.now i.bytes.now
    (answer_of c.receive.result cx.instant c.receive.new.self i.ip_repr.now i.header.now (length i.bytes.now)) c.receive.new.self not_closed not_listen
    not_opening c.receive.ensures.answer c.receive.ensures.socket in
    record {
      answer = leads.answer;
      socket = leads.socket;
      drawn = not_drawn c.args.cx.now (g.C.Context.drawn c.args.cx.now) (arrives_in v.tcb.state cx v i.ip_repr.now i.header.now i.bytes.now).draws
          (quiet_in v.tcb.state cx v i.ip_repr.now i.header.now i.bytes.now not_listen);
    }
