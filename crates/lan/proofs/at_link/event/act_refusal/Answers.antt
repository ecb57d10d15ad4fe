use Rattle.std.proofs.Common.{ℕ, Bool, List, refl, sym, ap, ◌∙◌}
use Rattle.sim_link.specs.PacketInFrame.{names_tcp_or_udp}
use Rattle.net_base.specs.Medium.TheVariants as Medium
use Rattle.lan.specs.Worlds.AtLink.Call as Call
use Rattle.lan.specs.Worlds.AtLink.Kinds.{kind_of, calls}
use Rattle.lan.specs.Worlds.AtLink.Node.{NodeValue, kind_at}
use Rattle.lan.specs.Worlds.AtLink.Refusals.{Table}
use Rattle.lan.proofs.Worlds.AtLink.Refusing.{refused_call}
use Rattle.lan.proofs.at_link.event.act_refusal.Goals as goal

abbrev names : List ℕ → Bool
names = names_tcp_or_udp Medium.Ip

pub returns-in-Listen : goal.returns-in-Listen
returns-in-Listen c =
    refused_call c.args.host.now c.args.records.now c.kind_at.result c.as_slice-table.result.now c.in-Listen.field-0 c.in-Listen.slot
    (Call.Listen c.in-Listen.port) c.listen_refusal.result (kind_of c.args.event.now) (ap kind_of c.in-Listen.is)
    (c.kind_at.ensures ∙ ap (λ (s : NodeValue). kind_at s.slots c.in-Listen.slot) c.host.view_is)
    (c.as_slice-table.ensures.value ∙ ap (λ (x : Table). x.records) c.records.view_is)
    (c.listen_refusal.ensures names)

pub returns-in-Connect : goal.returns-in-Connect
returns-in-Connect c =
    refused_call c.args.host.now c.args.records.now c.kind_at-in-Connect.result c.as_slice-table.result.now c.in-Connect.field-0 c.in-Connect.slot
    (Call.Connect c.in-Connect.remote c.in-Connect.port) c.connect_refusal.result (kind_of c.args.event.now) (ap kind_of c.in-Connect.is)
    (c.kind_at-in-Connect.ensures ∙ ap (λ (s : NodeValue). kind_at s.slots c.in-Connect.slot) c.host.view_is)
    (c.as_slice-table.ensures.value ∙ ap (λ (x : Table). x.records) c.records.view_is)
    (c.connect_refusal.ensures names c.in-Connect.remote refl)

pub returns-in-Send : goal.returns-in-Send
returns-in-Send c =
    refused_call c.args.host.now c.args.records.now c.kind_at-in-Send.result c.as_slice-table.result.now c.in-Send.field-0 c.in-Send.slot
    (Call.Send c.as_slice.result.now) c.send_refusal.result (kind_of c.args.event.now)
    (ap kind_of c.in-Send.is ∙ ap (λ (b : List ℕ). calls c.in-Send.field-0 c.in-Send.slot (Call.Send b)) (sym c.as_slice.ensures))
    (c.kind_at-in-Send.ensures ∙ ap (λ (s : NodeValue). kind_at s.slots c.in-Send.slot) c.host.view_is)
    (c.as_slice-table.ensures.value ∙ ap (λ (x : Table). x.records) c.records.view_is)
    (c.send_refusal.ensures names)

pub returns-in-Recv : goal.returns-in-Recv
returns-in-Recv c =
    refused_call c.args.host.now c.args.records.now c.kind_at-in-Recv.result c.as_slice-table.result.now c.in-Recv.field-0 c.in-Recv.slot
    (Call.Recv c.in-Recv.field-2) c.tcp_refusal.result (kind_of c.args.event.now) (ap kind_of c.in-Recv.is)
    (c.kind_at-in-Recv.ensures ∙ ap (λ (s : NodeValue). kind_at s.slots c.in-Recv.slot) c.host.view_is)
    (c.as_slice-table.ensures.value ∙ ap (λ (x : Table). x.records) c.records.view_is)
    (c.tcp_refusal.ensures.recv names c.as_slice-table.result.now c.in-Recv.slot c.in-Recv.field-2)

pub returns-in-Abort : goal.returns-in-Abort
returns-in-Abort c =
    refused_call c.args.host.now c.args.records.now c.kind_at-in-Abort.result c.as_slice-table.result.now c.in-Abort.field-0 c.in-Abort.slot (Call.Abort)
    c.tcp_refusal-in-Abort.result (kind_of c.args.event.now) (ap kind_of c.in-Abort.is)
    (c.kind_at-in-Abort.ensures ∙ ap (λ (s : NodeValue). kind_at s.slots c.in-Abort.slot) c.host.view_is)
    (c.as_slice-table.ensures.value ∙ ap (λ (x : Table). x.records) c.records.view_is)
    (c.tcp_refusal-in-Abort.ensures.abort names c.as_slice-table.result.now c.in-Abort.slot)

pub returns-in-State : goal.returns-in-State
returns-in-State c =
    refused_call c.args.host.now c.args.records.now c.kind_at-in-State.result c.as_slice-table.result.now c.in-State.field-0 c.in-State.slot (Call.State)
    c.tcp_refusal-in-State.result (kind_of c.args.event.now) (ap kind_of c.in-State.is)
    (c.kind_at-in-State.ensures ∙ ap (λ (s : NodeValue). kind_at s.slots c.in-State.slot) c.host.view_is)
    (c.as_slice-table.ensures.value ∙ ap (λ (x : Table). x.records) c.records.view_is)
    (c.tcp_refusal-in-State.ensures.state names c.as_slice-table.result.now c.in-State.slot)

pub returns-in-TcpSetting : goal.returns-in-TcpSetting
returns-in-TcpSetting c =
    refused_call c.args.host.now c.args.records.now c.kind_at-in-TcpSetting.result c.as_slice-table.result.now c.in-TcpSetting.field-0 c.in-TcpSetting.slot
    (Call.Set c.in-TcpSetting.field-2) c.tcp_refusal-in-TcpSetting.result (kind_of c.args.event.now) (ap kind_of c.in-TcpSetting.is)
    (c.kind_at-in-TcpSetting.ensures ∙ ap (λ (s : NodeValue). kind_at s.slots c.in-TcpSetting.slot) c.host.view_is)
    (c.as_slice-table.ensures.value ∙ ap (λ (x : Table). x.records) c.records.view_is)
    (c.tcp_refusal-in-TcpSetting.ensures.set names c.as_slice-table.result.now c.in-TcpSetting.slot c.in-TcpSetting.field-2)

pub returns-in-Close : goal.returns-in-Close
returns-in-Close c =
    refused_call c.args.host.now c.args.records.now c.kind_at-in-Close.result c.as_slice-table.result.now c.in-Close.field-0 c.in-Close.slot (Call.Close)
    c.close_refusal.result (kind_of c.args.event.now) (ap kind_of c.in-Close.is)
    (c.kind_at-in-Close.ensures ∙ ap (λ (s : NodeValue). kind_at s.slots c.in-Close.slot) c.host.view_is)
    (c.as_slice-table.ensures.value ∙ ap (λ (x : Table). x.records) c.records.view_is)
    (c.close_refusal.ensures names c.as_slice-table.result.now c.in-Close.slot)

pub returns-in-Bind : goal.returns-in-Bind
returns-in-Bind c =
    refused_call c.args.host.now c.args.records.now c.kind_at-in-Bind.result c.as_slice-table.result.now c.in-Bind.field-0 c.in-Bind.slot
    (Call.Bind c.in-Bind.field-2) c.udp_refusal.result (kind_of c.args.event.now) (ap kind_of c.in-Bind.is)
    (c.kind_at-in-Bind.ensures ∙ ap (λ (s : NodeValue). kind_at s.slots c.in-Bind.slot) c.host.view_is)
    (c.as_slice-table.ensures.value ∙ ap (λ (x : Table). x.records) c.records.view_is)
    (c.udp_refusal.ensures.bind names c.as_slice-table.result.now c.in-Bind.slot c.in-Bind.field-2)

pub returns-in-SendTo : goal.returns-in-SendTo
returns-in-SendTo c =
    refused_call c.args.host.now c.args.records.now c.kind_at-in-SendTo.result c.as_slice-table.result.now c.in-SendTo.field-0 c.in-SendTo.slot
    (Call.SendTo c.in-SendTo.field-2 c.in-SendTo.field-3) c.udp_refusal-in-SendTo.result (kind_of c.args.event.now) (ap kind_of c.in-SendTo.is)
    (c.kind_at-in-SendTo.ensures ∙ ap (λ (s : NodeValue). kind_at s.slots c.in-SendTo.slot) c.host.view_is)
    (c.as_slice-table.ensures.value ∙ ap (λ (x : Table). x.records) c.records.view_is)
    (c.udp_refusal-in-SendTo.ensures.send names c.as_slice-table.result.now c.in-SendTo.slot c.in-SendTo.field-2 c.in-SendTo.field-3)

pub returns-in-Ident : goal.returns-in-Ident
returns-in-Ident c =
    refused_call c.args.host.now c.args.records.now c.kind_at-in-Ident.result c.as_slice-table.result.now c.in-Ident.field-0 c.in-Ident.slot
    (Call.Ident c.in-Ident.field-2) c.icmp_refusal.result (kind_of c.args.event.now) (ap kind_of c.in-Ident.is)
    (c.kind_at-in-Ident.ensures ∙ ap (λ (s : NodeValue). kind_at s.slots c.in-Ident.slot) c.host.view_is)
    (c.as_slice-table.ensures.value ∙ ap (λ (x : Table). x.records) c.records.view_is)
    (c.icmp_refusal.ensures.ident names c.as_slice-table.result.now c.in-Ident.slot c.in-Ident.field-2)

pub returns-in-SendIcmp : goal.returns-in-SendIcmp
returns-in-SendIcmp c =
    refused_call c.args.host.now c.args.records.now c.kind_at-in-SendIcmp.result c.as_slice-table.result.now c.in-SendIcmp.field-0 c.in-SendIcmp.slot
    (Call.SendIcmp c.in-SendIcmp.field-2 c.in-SendIcmp.field-3) c.icmp_refusal-in-SendIcmp.result (kind_of c.args.event.now) (ap kind_of c.in-SendIcmp.is)
    (c.kind_at-in-SendIcmp.ensures ∙ ap (λ (s : NodeValue). kind_at s.slots c.in-SendIcmp.slot) c.host.view_is)
    (c.as_slice-table.ensures.value ∙ ap (λ (x : Table). x.records) c.records.view_is)
    (c.icmp_refusal-in-SendIcmp.ensures.send names c.as_slice-table.result.now c.in-SendIcmp.slot c.in-SendIcmp.field-2 c.in-SendIcmp.field-3)

pub returns-in-SendRaw : goal.returns-in-SendRaw
returns-in-SendRaw c =
    refused_call c.args.host.now c.args.records.now c.kind_at-in-SendRaw.result c.as_slice-table.result.now c.in-SendRaw.field-0 c.in-SendRaw.slot
    (Call.SendRaw c.as_slice-in-SendRaw.result.now) c.raw_refusal.result (kind_of c.args.event.now)
    (ap kind_of c.in-SendRaw.is ∙ ap (λ (b : List ℕ). calls c.in-SendRaw.field-0 c.in-SendRaw.slot (Call.SendRaw b)) (sym c.as_slice-in-SendRaw.ensures))
    (c.kind_at-in-SendRaw.ensures ∙ ap (λ (s : NodeValue). kind_at s.slots c.in-SendRaw.slot) c.host.view_is)
    (c.as_slice-table.ensures.value ∙ ap (λ (x : Table). x.records) c.records.view_is)
    (c.raw_refusal.ensures c.as_slice-table.result.now c.in-SendRaw.slot)

pub returns-in-RecvFrom : goal.returns-in-RecvFrom
returns-in-RecvFrom c =
    refused_call c.args.host.now c.args.records.now c.kind_at-in-RecvFrom.result c.as_slice-table.result.now c.in-RecvFrom.field-0 c.in-RecvFrom.slot
    (Call.RecvFrom c.in-RecvFrom.field-2) c.read_refusal.result (kind_of c.args.event.now) (ap kind_of c.in-RecvFrom.is)
    (c.kind_at-in-RecvFrom.ensures ∙ ap (λ (s : NodeValue). kind_at s.slots c.in-RecvFrom.slot) c.host.view_is)
    (c.as_slice-table.ensures.value ∙ ap (λ (x : Table). x.records) c.records.view_is)
    (c.read_refusal.ensures names c.as_slice-table.result.now c.in-RecvFrom.slot c.in-RecvFrom.field-2)
