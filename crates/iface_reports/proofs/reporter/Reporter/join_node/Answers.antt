use Rattle.std.proofs.Common.{◌∙◌, ap}
use Rattle.iface_reports.specs.Reports.{joined_by}
use Rattle.iface_reports.proofs.reporter.Reporter.join_node.Goals as goal

pub returns : goal.returns
returns c = c.join-refused.ensures.joined ∙ ap (λ group. joined_by c.args.inner.now group c.args.self.now) c.solicited_node.ensures
