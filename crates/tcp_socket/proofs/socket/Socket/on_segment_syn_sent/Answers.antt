use Rattle.std.proofs.Common.{◌≡◌, ◌∙◌, true, sym}
use Rattle.tcp_block.specs.Controls.{is_syn, is_zero}
use Rattle.tcp_socket.proofs.Kept.{sized_syn}
use Rattle.tcp_socket.proofs.Steps.{refusal_leads, reset_leads, syn_leads, nothing_leads}
use Rattle.tcp_socket.proofs.socket.Socket.on_segment_syn_sent.Goals as goal

pub returns-then-is_rst : goal.returns-then-is_rst
returns-then-is_rst g c =
    let i = c.args.incoming.now in
    let leads =
    refusal_leads (g.C.Context.context c.args.cx.now) c.args.self.now c.on_reset_syn_sent.new.self i.ip_repr.now i.header.now i.bytes.now
    (sym c.is_rst.ensures ∙ c.if-is_rst.true) c.on_reset_syn_sent.ensures
    in
    record { answer = leads.answer; socket = leads.socket }

pub returns-then-acks_another : goal.returns-then-acks_another
returns-then-acks_another g c =
    let i = c.args.incoming.now in
    let leads =
    reset_leads (g.C.Context.context c.args.cx.now) c.args.self.now i.ip_repr.now i.header.now i.bytes.now
    (sym c.is_rst.ensures ∙ c.if-is_rst.false) (sym c.acks_another.ensures ∙ c.if-acks_another.true)
    in
    record { answer = leads.answer; socket = leads.socket }

pub on_syn-requires-clause-sized : goal.on_syn-requires-clause-sized
on_syn-requires-clause-sized g c =
    let header = c.args.incoming.now.header.now in
    sized_syn (is_syn header.control) (is_zero header.options.max_seg_size) c.requires.sized (sym c.is_syn.ensures ∙ c.if-is_syn.true)

pub returns-then-is_syn : goal.returns-then-is_syn
returns-then-is_syn g c =
    let i = c.args.incoming.now in
    let leads =
    syn_leads (g.C.Context.context c.args.cx.now) c.args.self.now c.on_syn.new.self c.now.result i.ip_repr.now i.header.now i.bytes.now
    (sym c.is_rst.ensures ∙ c.if-is_rst.false) (sym c.acks_another.ensures ∙ c.if-acks_another.false) (sym c.is_syn.ensures ∙ c.if-is_syn.true)
    c.now.ensures.value c.on_syn.ensures
    in
    record { answer = leads.answer; socket = leads.socket }

pub returns-else-is_syn : goal.returns-else-is_syn
returns-else-is_syn g c =
    let i = c.args.incoming.now in
    let leads =
    nothing_leads (g.C.Context.context c.args.cx.now) c.args.self.now i.ip_repr.now i.header.now i.bytes.now
    (sym c.is_rst.ensures ∙ c.if-is_rst.false) (sym c.acks_another.ensures ∙ c.if-acks_another.false) (sym c.is_syn.ensures ∙ c.if-is_syn.false)
    in
    record { answer = leads.answer; socket = leads.socket }
