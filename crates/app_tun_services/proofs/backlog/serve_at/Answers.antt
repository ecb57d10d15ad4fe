use Rattle.std.proofs.Common.{arith}
use Rattle.app_tun_services.proofs.Connections.{served_nowhere, served_somewhere}
use Rattle.app_tun_services.proofs.backlog.serve_at.Goals as goal

pub returns-then-at-slots : goal.returns-then-at-slots
returns-then-at-slots c = served_nowhere c.args.moment.now c.args.service c.args.slots.now c.args.at c.args.session.now (omega arith)

pub returns : goal.returns
returns c =
    let it = c.index-slots-at in
    served_somewhere c.args.moment.now c.args.service c.args.slots.now c.args.at it.result c.serve_slot.new.slot c.args.session.now c.serve_slot.new.session
    c.is_over.result (omega arith) c.serve_slot.ensures c.is_over.ensures
