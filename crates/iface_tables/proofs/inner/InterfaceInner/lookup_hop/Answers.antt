use Rattle.std.proofs.Common.{ℤ, ap, ◌∙◌}
use Rattle.iface_tables.specs.Inner.{InnerValue, silence_of}
use Rattle.iface_tables.specs.Neighbor.{lookup}
use Rattle.iface_tables.proofs.inner.InterfaceInner.lookup_hop.Goals as goal

pub returns : goal.returns
returns c =
    let s = c.self.inside in
    let hop = c.args.hop.now in
    c.lookup_silent.ensures ∙ ap (λ (silent : ℤ). lookup (record s.neighbor_cache { silent = silent }) hop s.instant) c.silence_of-silent_until.ensures
    ∙ ap (λ (i : InnerValue). lookup (record i.neighbors { silent = silence_of c.args.self.now hop }) hop i.instant) c.self.view_is
