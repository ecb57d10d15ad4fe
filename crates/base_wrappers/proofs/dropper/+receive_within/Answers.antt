use Rattle.std.proofs.Common.{rules, arith, ◌≡◌, ℕ, ◌<◌, ◌-◌, IsTrue, IsFalse, sym, subst, length}
use Rattle.base_device.specs.Device.{Took, Empty}
use Rattle.base_wrappers.specs.Course.{CourseValue, drawn, rx_counted}
use Rattle.base_wrappers.specs.Drop.{DropRules, is_lost, NoneComes, OneComes}
use Rattle.base_wrappers.proofs.Drops.{none_looked_at, none_there, one_there, none_behind, one_behind, either_way}
use Rattle.base_wrappers.proofs.dropper.+receive_within.Goals as goal

pub returns-then-most-eq0-clause-moves : goal.returns-then-most-eq0-clause-moves
returns-then-most-eq0-clause-moves g t c = none_looked_at g.D.Device.moves _ _ _ _ _ c.if-most-eq0.true

pub returns-in_default-clause-moves : goal.returns-in_default-clause-moves
returns-in_default-clause-moves g t c =
    let some : 0 < c.args.most = omega (arith, c.if-most-eq0.false) in
    let met : g.D.Device.moves c.args.inner.now (Empty c.args.timestamp) c.receive.new.self = search rules in
    none_there g.D.Device.moves c.args.state.now.rules c.args.timestamp _ _ _ _ some met

pub returns-then-is_lost_in-clause-moves : goal.returns-then-is_lost_in-clause-moves
returns-then-is_lost_in-clause-moves g t c =
    let frame = g.D.RxToken.RxToken.frame c.in-Some.frame in
    let some : 0 < c.args.most = omega (arith, c.if-most-eq0.false) in
    let met : g.D.Device.moves c.args.inner.now (Took c.args.timestamp frame) c.receive.new.self = search rules in
    let goes : IsTrue (is_lost c.args.state.now.rules c.args.state.now.course (length frame)) = search rules in
    let counted : c.is_lost_in.new.self.course ≡ rx_counted (drawn c.args.state.now.course) = search rules in
    either_way c.receive_within.result
    (λ rest. none_behind g.D.Device.moves c.args.state.now.rules c.args.timestamp c.args.most frame _ c.receive.new.self _ c.args.state.now.course _ some met goes
    (subst (λ (s : CourseValue). NoneComes g.D.Device.moves c.args.state.now.rules c.args.timestamp (c.args.most - 1) c.receive.new.self s
    c.receive_within.new.inner c.receive_within.new.state.course) counted
    (subst (λ (r : DropRules). NoneComes g.D.Device.moves r c.args.timestamp (c.args.most - 1) c.receive.new.self c.is_lost_in.new.self.course
    c.receive_within.new.inner c.receive_within.new.state.course) c.is_lost_in.ensures.rules rest)))
    (λ tokens rest. one_behind g.D.Device.moves c.args.state.now.rules c.args.timestamp c.args.most (g.D.RxToken.RxToken.frame tokens.0) frame _ c.receive.new.self _ c.args.state.now.course _ some met goes
    (subst (λ (s : CourseValue). OneComes g.D.Device.moves c.args.state.now.rules c.args.timestamp (g.D.RxToken.RxToken.frame tokens.0) (c.args.most - 1) c.receive.new.self s
    c.receive_within.new.inner c.receive_within.new.state.course) counted
    (subst (λ (r : DropRules). OneComes g.D.Device.moves r c.args.timestamp (g.D.RxToken.RxToken.frame tokens.0) (c.args.most - 1) c.receive.new.self c.is_lost_in.new.self.course
    c.receive_within.new.inner c.receive_within.new.state.course) c.is_lost_in.ensures.rules rest)))
    c.receive_within.ensures.moves

pub returns-clause-moves : goal.returns-clause-moves
returns-clause-moves g t c =
    let frame = g.D.RxToken.RxToken.frame c.in-Some.frame in
    let some : 0 < c.args.most = omega (arith, c.if-most-eq0.false) in
    let met : g.D.Device.moves c.args.inner.now (Took c.args.timestamp frame) c.receive.new.self = search rules in
    let stays : IsFalse (is_lost c.args.state.now.rules c.args.state.now.course (length frame)) = search rules in
    let kept : c.is_lost_in.new.self.course ≡ drawn c.args.state.now.course = search rules in
    subst (λ (s : CourseValue). OneComes g.D.Device.moves c.args.state.now.rules c.args.timestamp frame c.args.most c.args.inner.now c.args.state.now.course c.receive.new.self s)
    (sym kept)
    (one_there g.D.Device.moves c.args.state.now.rules c.args.timestamp _ frame _ _ _ some met stays)
