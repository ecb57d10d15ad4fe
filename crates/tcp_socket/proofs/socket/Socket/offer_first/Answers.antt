use Rattle.std.proofs.Common.{◌≡◌, ℕ, ◌&&◌, ℤ, true, false, sym, ap, ◌∙◌}
use Rattle.socket_context.specs.Offers.{Offered}
use Rattle.tcp_block.specs.declared.tcb.Tcb.{Tcb}
use Rattle.tcp_block.specs.LossRecovery.{is_sent_early}
use Rattle.tcp_block.specs.OfferKind.TheVariants as Kind
use Rattle.tcp_block.specs.Offers.{offer_choice, last_rules}
use Rattle.tcp_block.specs.Probing.{probe_started}
use Rattle.tcp_block.specs.Rules.{Choice, owes_syn, resends_beside, has_payload, payload_choice, resend_choice}
use Rattle.tcp_block.specs.States.{may_send_data}
use Rattle.tcp_block.specs.Value.{TcpValue, with_tcb, queued_in}
use Rattle.tcp_socket.proofs.Again.{goes_syn, is_retransmitted, goes_payload, goes_following, goes_no_payload}
use Rattle.tcp_socket.proofs.socket.Socket.offer_first.Goals as goal

pub returns-then-owes_syn : goal.returns-then-owes_syn
returns-then-owes_syn g c =
    let cx = g.C.Context.context c.args.cx.now in
    let v = c.args.self.now in
    let pair = c.args.pair.now in
    let syn : owes_syn v.tcb ≡ true =
    ap (λ (w : TcpValue). owes_syn w.tcb) (sym c.self.view_is) ∙ sym c.owes_syn.ensures ∙ c.if-owes_syn.true in
    let is = goes_syn cx v pair syn in
    record {
      answer = c.offer_syn.ensures.answer ∙ sym (ap (λ (o : Offered TcpValue). o.answer) is);
      socket = c.offer_syn.ensures.socket ∙ sym (ap (λ (o : Offered TcpValue). o.socket) is);
    }

pub returns-in-Some : goal.returns-in-Some
returns-in-Some g c =
    let cx = g.C.Context.context c.args.cx.now in
    let v = c.args.self.now in
    let pair = c.args.pair.now in
    let tcb : c.self.inside.tcb ≡ v.tcb = ap (λ (w : TcpValue). w.tcb) c.self.view_is in
    let no_syn : owes_syn v.tcb ≡ false = sym (ap owes_syn tcb) ∙ sym c.owes_syn.ensures ∙ c.if-owes_syn.false in
    let not_first : resends_beside v.tcb true ≡ false =
    sym (ap (λ (b : Tcb). resends_beside b true) tcb) ∙ sym c.resends_first.ensures ∙ c.if-resends_first.false
    in
    let payload : has_payload v.tcb pair.addresses cx.ip_mtu v.queued ≡ true =
    ap (λ (mtu : ℕ). has_payload v.tcb pair.addresses mtu v.queued) (sym c.ip_mtu-2.ensures) ∙ sym c.in-Some.ensures.has
    in
    let part = c.in-Some.ensures.value ∙ ap (λ (mtu : ℕ). payload_choice v.tcb pair.addresses mtu v.queued) c.ip_mtu-2.ensures in
    let is = goes_payload cx v pair no_syn not_first payload in
    record {
      answer = c.offer_part-in-Some.ensures.answer ∙ ap (λ (choice : Choice). (offer_choice Kind.Payload cx v pair choice).answer) part
          ∙ sym (ap (λ (o : Offered TcpValue). o.answer) is);
      socket = c.offer_part-in-Some.ensures.socket ∙ ap (λ (choice : Choice). (offer_choice Kind.Payload cx v pair choice).socket) part
          ∙ sym (ap (λ (o : Offered TcpValue). o.socket) is);
    }

pub returns-then-resends_first : goal.returns-then-resends_first
returns-then-resends_first g c =
    let cx = g.C.Context.context c.args.cx.now in
    let v = c.args.self.now in
    let pair = c.args.pair.now in
    let tcb : c.self.inside.tcb ≡ v.tcb = ap (λ (w : TcpValue). w.tcb) c.self.view_is in
    let no_syn : owes_syn v.tcb ≡ false = sym (ap owes_syn tcb) ∙ sym c.owes_syn.ensures ∙ c.if-owes_syn.false in
    let first : resends_beside v.tcb true ≡ true =
    sym (ap (λ (b : Tcb). resends_beside b true) tcb) ∙ sym c.resends_first.ensures ∙ c.if-resends_first.true
    in
    let part = c.resend_part-part.ensures.value ∙ ap (λ (mtu : ℕ). resend_choice v.tcb pair.addresses mtu v.queued) c.ip_mtu.ensures in
    record {
      answer = c.offer_part.ensures.answer ∙ ap (λ (choice : Choice). (offer_choice Kind.FastRetransmission cx v pair choice).answer) part
          ∙ sym (ap (λ (o : Offered TcpValue). o.answer) (is_retransmitted cx v pair no_syn first));
      socket = c.offer_part.ensures.socket ∙ ap (λ (choice : Choice). (offer_choice Kind.FastRetransmission cx v pair choice).socket) part
          ∙ sym (ap (λ (o : Offered TcpValue). o.socket) (is_retransmitted cx v pair no_syn first));
    }

pub returns-then-resends_last : goal.returns-then-resends_last
returns-then-resends_last g c =
    let cx = g.C.Context.context c.args.cx.now in
    let v = c.args.self.now in
    let pair = c.args.pair.now in
    let tcb : c.self.inside.tcb ≡ v.tcb = ap (λ (w : TcpValue). w.tcb) c.self.view_is in
    let no_syn : owes_syn v.tcb ≡ false = sym (ap owes_syn tcb) ∙ sym c.owes_syn.ensures ∙ c.if-owes_syn.false in
    let not_first : resends_beside v.tcb true ≡ false =
    sym (ap (λ (b : Tcb). resends_beside b true) tcb) ∙ sym c.resends_first.ensures ∙ c.if-resends_first.false
    in
    let no_payload : has_payload v.tcb pair.addresses cx.ip_mtu v.queued ≡ false =
    ap (λ (mtu : ℕ). has_payload v.tcb pair.addresses mtu v.queued) (sym c.ip_mtu-2.ensures) ∙ sym c.in_default.ensures.has
    in
    let early : (may_send_data v.tcb.state && is_sent_early v.tcb) ≡ true =
    sym (ap (λ (b : Tcb). may_send_data b.state && is_sent_early b) tcb) ∙ sym c.resends_last.ensures ∙ c.if-resends_last.true
    in
    let part = c.resend_part-part-then-resends_last.ensures.value ∙ ap (λ (mtu : ℕ). resend_choice v.tcb pair.addresses mtu v.queued) c.ip_mtu-then-resends_last.ensures in
    record {
      answer = c.offer_part-then-resends_last.ensures.answer ∙ ap (λ (choice : Choice). (offer_choice Kind.FastRetransmission cx v pair choice).answer) part
          ∙ sym (ap (λ (o : Offered TcpValue). o.answer) (goes_following cx v pair no_syn not_first no_payload early));
      socket = c.offer_part-then-resends_last.ensures.socket ∙ ap (λ (choice : Choice). (offer_choice Kind.FastRetransmission cx v pair choice).socket) part
          ∙ sym (ap (λ (o : Offered TcpValue). o.socket) (goes_following cx v pair no_syn not_first no_payload early));
    }

pub returns : goal.returns
returns g c =
    let cx = g.C.Context.context c.args.cx.now in
    let v = c.args.self.now in
    let pair = c.args.pair.now in
    let tcb : c.self.inside.tcb ≡ v.tcb = ap (λ (w : TcpValue). w.tcb) c.self.view_is in
    let no_syn : owes_syn v.tcb ≡ false = sym (ap owes_syn tcb) ∙ sym c.owes_syn.ensures ∙ c.if-owes_syn.false in
    let not_first : resends_beside v.tcb true ≡ false =
    sym (ap (λ (b : Tcb). resends_beside b true) tcb) ∙ sym c.resends_first.ensures ∙ c.if-resends_first.false
    in
    let no_payload : has_payload v.tcb pair.addresses cx.ip_mtu v.queued ≡ false =
    ap (λ (mtu : ℕ). has_payload v.tcb pair.addresses mtu v.queued) (sym c.ip_mtu-2.ensures) ∙ sym c.in_default.ensures.has
    in
    let none : (may_send_data v.tcb.state && is_sent_early v.tcb) ≡ false =
    sym (ap (λ (b : Tcb). may_send_data b.state && is_sent_early b) tcb) ∙ sym c.resends_last.ensures ∙ c.if-resends_last.false
    in
    let queued : c.len.result ≡ queued_in v = c.len.ensures ∙ ap queued_in c.self.view_is in
    let started : c.start_probe.new.self ≡ probe_started cx.instant (queued_in v) v.tcb =
    c.start_probe.ensures ∙ ap (λ (m : ℤ). probe_started m c.len.result c.self.inside.tcb) c.now.ensures.value
    ∙ ap (λ (n : ℕ). probe_started cx.instant n c.self.inside.tcb) queued ∙ ap (probe_started cx.instant (queued_in v)) tcb
    in
    let on : TcpValue =
    record { tcb = c.start_probe.new.self; received = c.self.inside.received; queued = c.self.inside.queued; offered = c.self.inside.offered }
    in
    let is : on ≡ with_tcb v (probe_started cx.instant (queued_in v) v.tcb) =
    ap (λ (b : Tcb). with_tcb on b) started
    ∙ ap (λ (w : TcpValue). with_tcb w (probe_started cx.instant (queued_in v) v.tcb)) c.self.view_is
    in
    record {
      answer = c.offer_last.ensures.answer ∙ ap (λ (w : TcpValue). (last_rules cx w pair).answer) is
          ∙ sym (ap (λ (o : Offered TcpValue). o.answer) (goes_no_payload cx v pair no_syn not_first no_payload none));
      socket = c.offer_last.ensures.socket ∙ ap (λ (w : TcpValue). (last_rules cx w pair).socket) is
          ∙ sym (ap (λ (o : Offered TcpValue). o.socket) (goes_no_payload cx v pair no_syn not_first no_payload none));
    }
