use Rattle.std.proofs.Common.{◌≡◌, ◌+◌, ◌++◌, [], ◌∷◌, take, length-drop, refl, sym, arith}
use Rattle.std.proofs.KnownBytes.{Appends-nil, Appends-trans}
use Rattle.lan.proofs.FragmentLemmas.{unbroken-take, unbroken-none, take-drop_end, none_run, line_proceeds, line_is_transmitted}
use Rattle.lan.proofs.run.Run.take_fragment.Goals as goal

pub loop-end-init : goal.loop-end-init
loop-end-init g c =
    record {
      runs = (
        [],
        [],
        Appends-nil (g.W.Write.contents c.args.writer.now),
        refl,
        none_run c.args.self.now.number c.args.self.now.session c.args.self.now.begun.items,
      );
      number = omega arith;
    }

pub begin-requires : goal.begin-requires
begin-requires g c = unbroken-take c.loop-end.rest.now c.in-Some.end (sym c.in-Some.ensures.slot)

pub begin-requires-2 : goal.begin-requires-2
begin-requires-2 g c = unbroken-none c.loop-end.rest.now (sym c.in_default.ensures.slot)

-- a line ends the run
pub returns-then-not-branch-clause-runs : goal.returns-then-not-branch-clause-runs
returns-then-not-branch-clause-runs g c =
    let before = c.loop-end.invariant.runs in
    let ran = rw c.if-not-branch.true at c.in_ok-take_line.ensures in (
      before.1 ++ ran.0,
      Appends-trans _ _ _ _ _ before.2 ran.1,
      line_is_transmitted c.args.self.now.number c.loop-end.self.number c.begin.new.self.number c.args.self.now.session c.loop-end.self.session
          c.begin.new.self.session
          c.args.self.now.begun.items c.args.fragment.now before.0 c.loop-end.rest.now before.1 c.loop-end.self.begun.items c.begin.new.self.begun.items ran.0
          c.in-Some.end ran.2.0
          before.3 before.4 (sym c.in-Some.ensures.slot) c.in_ok-begin.ensures.begun c.begin.new.self.unbroken
          c.begin.ensures.session c.begin.ensures.number ran.2.1 ran.2.2,
    )

pub loop-end-preserved : goal.loop-end-preserved
loop-end-preserved g c =
    let before = c.loop-end.invariant.runs in
    let ran = rw c.if-not-branch.false at c.in_ok-take_line.ensures in
    let step =
    line_proceeds c.args.self.now.number c.loop-end.self.number c.begin.new.self.number c.take_line.new.self.number
    c.args.self.now.session c.loop-end.self.session c.begin.new.self.session c.take_line.new.self.session
    c.args.self.now.begun.items c.args.fragment.now before.0 c.loop-end.rest.now before.1 c.loop-end.self.begun.items c.begin.new.self.begun.items ran.0
    c.take_line.new.self.begun.items c.in-Some.end
    before.3 before.4 (sym c.in-Some.ensures.slot) c.in_ok-begin.ensures.begun c.begin.new.self.unbroken
    c.begin.ensures.session c.begin.ensures.number ran.2.0 ran.2.1 ran.2.2 in
    let numbered : c.take_line.new.self.number ≡ c.begin.new.self.number + 1 = ran.2.1 in
    rw (take-drop_end c.loop-end.rest.now (c.in-Some.end + 1)) (
    record {
      runs = (
        before.0 ++ (take c.in-Some.end c.loop-end.rest.now ++ 10 ∷ []),
        before.1 ++ ran.0,
        Appends-trans _ _ _ _ _ before.2 ran.1,
        step.0,
        step.1,
      );
      number = omega (
        arith,
        numbered,
        c.begin.ensures.number,
        c.in-Some.ensures.found,
        c.loop-end.invariant.number,
        length-drop (c.in-Some.end + 1) c.loop-end.rest.now,
      );
    }
    )
