use Rattle.std.proofs.Common.{◌≡◌, ◌∙◌, ap, sym, List, Some}
use Rattle.iface_tables.specs.Neighbor.{neighbor_index_of}
use Rattle.iface_tables.specs.declared.neighbor.Neighbor.{Neighbor}
use Rattle.iface_tables.proofs.Places.{replaced}
use Rattle.iface_tables.proofs.neighbor.Cache.fill_with_expiration.Goals as goal

pub invariant_of-self : goal.invariant_of-self
invariant_of-self c =
    let entries : List Neighbor = c.self.inside.storage.items in
    let new : Neighbor = record { protocol_addr = c.args.protocol_addr; hardware_addr = c.args.hardware_addr; expires_at = c.args.expires_at } in
    let index : neighbor_index_of entries c.args.protocol_addr ≡ Some c.in-Some.at =
    sym (c.index_in.ensures.index ∙ ap (λ (xs : List Neighbor). neighbor_index_of xs c.args.protocol_addr) c.as_slice.ensures.value) ∙ c.in-Some.is in (
      c.self.invariant.0,
      c.self.invariant.1,
      c.self.invariant.2,
      replaced entries c.self.inside.positions c.in-Some.at new c.self.invariant.3 index,
      c.self.invariant.4,
      c.self.invariant.5,
      c.self.invariant.6,
    )
