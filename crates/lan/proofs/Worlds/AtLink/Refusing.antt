-- A call's refusal, as that of its event.
use Rattle.std.proofs.Common.{◌≡◌, ℕ, List, Option, sym, ap, ◌∙◌}
use Rattle.sim_link.specs.PacketInFrame.{names_tcp_or_udp}
use Rattle.net_base.specs.Medium.TheVariants as Medium
use Rattle.lan.specs.Worlds.AtLink.Call.{SocketCall}
use Rattle.lan.specs.Worlds.AtLink.Kinds.{Kind}
use Rattle.lan.specs.Worlds.AtLink.Kinds.Act.{Calls}
use Rattle.lan.specs.Worlds.AtLink.Kinds.Kind.{OfHost}
use Rattle.lan.specs.Worlds.AtLink.Tables.{call_refusal}
use Rattle.lan.specs.declared.at_link.history.answer.Refused.{Refused}
use Rattle.lan.specs.declared.at_link.history.event.Side.{Side}
use Rattle.lan.specs.declared.at_link.history.record.SocketKind.{SocketKind}
use Rattle.lan.specs.declared.at_link.history.record.SocketRecord.{SocketRecord}
use Rattle.lan.specs.Worlds.AtLink.Acting.{act_refusal}
use Rattle.lan.specs.Worlds.AtLink.Refusals.{Table}
use Rattle.lan.specs.Worlds.AtLink.Node.{NodeValue, kind_at}

pub refused_call : (s : NodeValue) (t : Table) (kind : Option SocketKind) (records : List SocketRecord) (side : Side) (i : ℕ) (call : SocketCall)
    (result : Option Refused) (k : Kind)
    → k ≡ OfHost side (Calls i call) → kind ≡ kind_at s.slots i → records ≡ t.records →
    result ≡ call_refusal (names_tcp_or_udp Medium.Ip) kind records i call → result ≡ act_refusal s t k
refused_call s t kind records side i call result k is kinds list refused =
    refused
    ∙ ap (λ (x : Option SocketKind). call_refusal (names_tcp_or_udp Medium.Ip) x records i call) kinds
    ∙ ap (λ (x : List SocketRecord). call_refusal (names_tcp_or_udp Medium.Ip) (kind_at s.slots i) x i call) list
    ∙ ap (act_refusal s t) (sym is)
