use Rattle.std.proofs.Common.{◌<◌, length, arith}
use Rattle.std.proofs.lemmas.Option.{slice_get_read, slice_get_within}
use Rattle.base_index.specs.Links.{buckets}
use Rattle.base_index.proofs.Relinked.{changed}
use Rattle.base_index.proofs.chains.Chains.change.Goals as goal

pub returns-clause-linked : goal.returns-clause-linked
returns-clause-linked c =
    let size = length c.args.self.now.first.items in
    let within : c.args.at < length c.args.self.now.links.items =
    omega (arith, c.requires.linked.each, slice_get_within (buckets size c.args.keys.now) c.args.at c.args.from c.requires.is_in) in
    let linked = changed (buckets size c.args.keys.now) c.args.self.now.first.items c.args.self.now.links.items
    c.args.at c.args.from c.args.to c.last_before-left.result c.last_before-right.result c.index-next.result.now c.link_following-following.result
    c.requires.linked c.requires.is_in c.requires.other c.requires.from c.requires.to c.last_before-left.ensures c.last_before-right.ensures
    (slice_get_read c.args.self.now.links.items (length c.args.self.now.links.items) c.args.at c.index-next.result.now (cc) within (c.index-next.ensures))
    c.link_following-following.ensures in
    rw c.lead-2.ensures.first (rw c.lead-2.ensures.links (rw c.lead.ensures.first (rw c.lead.ensures.links linked)))
