use Rattle.base_index.proofs.Walks.{pushed_key}
use Rattle.base_index.proofs.chains.Chains.push.Goals as goal

pub returns-clause-linked : goal.returns-clause-linked
returns-clause-linked c =
    let linked = pushed_key c.args.keys.now c.args.self.now.first.items c.args.self.now.links.items c.args.bucket c.last_before-last.result
    c.link_following-link.result c.requires.linked c.requires.bucket c.last_before-last.ensures c.link_following-link.ensures in
    rw c.lead.ensures.first (rw c.lead.ensures.links (rw c.in-Ok.ensures.items linked))
