use Rattle.std.proofs.Common.{ℕ, List, sym, ap, ◌∙◌}
use Rattle.std.specs.List.{count_by}
use Rattle.net_base.specs.Device.{frames_of}
use Rattle.net_base.specs.Medium.{Medium}
use Rattle.lan.specs.Worlds.AtLink.Kinds.{kind_of}
use Rattle.lan.specs.Worlds.AtLink.Origins.{medium_of, is_cut_of, begins_datagram}
use Rattle.lan.proofs.Worlds.AtLink.Counting.{added_else}
use Rattle.lan.proofs.at_link.records.datagrams_added.Goals as goal

pub returns-else-is_cut_of-clause-value : goal.returns-else-is_cut_of-clause-value
returns-else-is_cut_of-clause-value c =
    added_else (is_cut_of c.args.side (kind_of c.args.event.now)) c.datagrams.result _ (sym c.is_cut_of.ensures ∙ c.if-is_cut_of.false)
    (c.datagrams.ensures.value
    ∙ ap (λ (m : Medium). count_by (begins_datagram m) (frames_of c.sent_since.result.now)) c.medium.ensures
    ∙ ap (λ (xs : List (List ℕ)). count_by (begins_datagram (medium_of c.args.host.now)) xs) c.sent_since.ensures)
