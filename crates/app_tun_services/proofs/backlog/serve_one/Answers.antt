use Rattle.std.proofs.Common.{rules, arith, ◌≡◌, ◌∙◌, ap, subst, ℕ}
use Rattle.std.specs.Prelude.{slice_set}
use Rattle.std.proofs.lemmas.Grind.{common_steps}
use Rattle.app_tun_services.specs.declared.site.Session.{Session}
use Rattle.app_tun_services.specs.Backlogs.{ServesAt, session_at, session_after}
use Rattle.app_tun_services.proofs.Connections.{one_left, one_served}
use Rattle.app_tun_services.proofs.backlog.serve_one.Goals as goal

pub returns-then-not-is_accepted-clause-served : goal.returns-then-not-is_accepted-clause-served
returns-then-not-is_accepted-clause-served c =
    let es = c.args.listener.now.entries.items in
    one_left c.args.moment.now c.args.service c.args.at c.args.slots.now c.args.sessions.now es c.index.result.now c.requires.within c.index.ensures
    (first_of (search rules, grind (arith, common_steps)))

pub returns-clause-served : goal.returns-clause-served
returns-clause-served c =
    let counts = c.args.moment.now in
    let service = c.args.service in
    let ps = c.args.slots.now in
    let ss = c.args.sessions.now in
    let es = c.args.listener.now.entries.items in
    let e = c.index.result.now in
    let over = c.serve_at-over.result in
    let t = c.serve_at-over.new.session in
    let there : ServesAt counts service e.handle.0 ps c.session_at-session.result c.serve_at-over.new.slots t over =
    subst (λ (n : ℕ). ServesAt counts service n ps c.session_at-session.result c.serve_at-over.new.slots t over) c.slot.ensures c.serve_at-over.ensures in
    let served : ServesAt counts service e.handle.0 ps (session_at ss c.args.at) c.serve_at-over.new.slots t over =
    subst (λ (s : Session). ServesAt counts service e.handle.0 ps s c.serve_at-over.new.slots t over) c.session_at-session.ensures there in
    let put : c.put_session.new.sessions ≡ slice_set ss c.args.at (session_after over t) =
    c.put_session.ensures ∙ ap (slice_set ss c.args.at) c.session_after.ensures in
    one_served counts service c.args.at ps ss es e c.requires.within c.index.ensures c.serve_at-over.new.slots c.put_session.new.sessions
    c.give_back_if.new.listener.entries.items
    (first_of (search rules, grind (arith, common_steps))) (over, t, served, put, c.give_back_if.ensures.entries)
