use Rattle.std.proofs.Common.{[]}
use Rattle.std.proofs.KnownBytes.{Appends-nil}
use Rattle.lan.proofs.FragmentLemmas.{nothing_left, something_left, last_leads, last_ends}
use Rattle.lan.proofs.run.Run.finish.Goals as goal

pub returns-then-is_empty : goal.returns-then-is_empty
returns-then-is_empty g c = (
  [],
  Appends-nil (g.W.Write.contents c.args.writer.now),
  nothing_left c.args.self.now.number c.args.self.now.session c.args.self.now.begun.items c.as_slice.result.now c.as_slice.ensures.value c.if-is_empty.ensures,
)

-- the line that was begun ends the run
pub returns-then-not-branch : goal.returns-then-not-branch
returns-then-not-branch g c =
    let ran = rw c.if-not-branch.true at c.in_ok-take_line.ensures in
    let some = something_left c.args.self.now.begun.items c.as_slice.result.now c.as_slice.ensures.value c.if-is_empty.ensures in (
      ran.0,
      ran.1,
      rw ran.2.2 (last_ends c.args.self.now.number c.args.self.now.session c.args.self.now.begun.items ran.2.0 c.args.self.now.unbroken some ran.2.1),
    )

-- or leads on
pub returns : goal.returns
returns g c =
    let ran = rw c.if-not-branch.false at c.in_ok-take_line.ensures in
    let some = something_left c.args.self.now.begun.items c.as_slice.result.now c.as_slice.ensures.value c.if-is_empty.ensures in (
      ran.0,
      ran.1,
      last_leads c.args.self.now.number c.args.self.now.session c.take_line.new.self.session c.args.self.now.begun.items ran.0 c.args.self.now.unbroken
          some ran.2.0,
    )
