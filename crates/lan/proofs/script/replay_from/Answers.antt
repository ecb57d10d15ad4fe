use Rattle.std.proofs.Common.{◌++◌, ◌<◌, length, refl, arith}
use Rattle.std.proofs.lemmas.List.{length-take}
use Rattle.std.proofs.KnownBytes.{Appends-trans, Appends-kept, Consumes-trans, Consumes-kept}
use Rattle.lan.specs.declared.session.Session.TheVariants.{Begun}
use Rattle.lan.proofs.RunLemmas.{all_read}
use Rattle.lan.proofs.FragmentLemmas.{script_ends, script_ends_early, fragments_run, reads_on, nothing_following, runs_so_far}
use Rattle.lan.proofs.script.replay_from.Goals as goal
use Rattle.lan.proofs.script.replay_from.Goals.{in-Ok+in_ok-led-in-Ok+in_ok-flush-in-Ok+else-not-led, in-Err}

-- a read of nothing into a buffer with room is the end
pub returns-in-Ok-eq0-clause-ended : goal.returns-in-Ok-eq0-clause-ended
returns-in-Ok-eq0-clause-ended g c =
    let before = c.loop-count.invariant.runs in
    let read = rw c.in-Ok-eq0.is at c.read.ensures.bytes in
    let none = rw c.in-Ok-eq0.field-0-test at read in
    let room : 0 < length c.read.new.buf = omega (arith, c.read.auto.buf, c.loop-count.invariant.room) in
    let last = c.in_ok-status-in-Ok-eq0.ensures in (
      before.0,
      before.1 ++ last.0,
      all_read _ _ _ _ before.2 none.0 (none.1 refl room),
      script_ends before.0 c.loop-count.run.begun.items before.1 last.0 c.loop-count.run.number c.in_ok-status-in-Ok-eq0.status c.loop-count.run.session
          before.4 last.2,
      Appends-kept _ _ _ _ (Appends-trans _ _ _ _ _ before.3 last.1) c.flush.ensures.bytes,
    )

pub returns-in-Ok-eq0-clause-reads : goal.returns-in-Ok-eq0-clause-reads
returns-in-Ok-eq0-clause-reads g c =
    let before = c.loop-count.invariant.runs in
    let read = rw c.in-Ok-eq0.is at c.read.ensures.bytes in
    let none = rw c.in-Ok-eq0.field-0-test at read in
    reads_on _ _ _ before.0 before.1 c.loop-count.run.begun.items _ c.loop-count.run.number c.loop-count.run.session before.2 none.0 before.4
    c.loop-count.run.unbroken
    (omega arith)

-- a line ended the run
pub returns-then-not-led-clause-ended : goal.returns-then-not-led-clause-ended
returns-then-not-led-clause-ended g c =
    let before = c.loop-count.invariant.runs in
    let read = rw c.in-Ok.is at c.read.ensures.bytes in
    let ran = rw c.if-not-led.true at c.in_ok-led-in-Ok.ensures.runs in
    let ended = script_ends_early (g.R.Read.remaining c.args.reader.now) (g.R.Read.remaining c.loop-count.reader) (g.R.Read.remaining c.read.new.self)
    before.0 c.loop-count.run.begun.items _ before.1 ran.0 c.loop-count.run.number c.loop-count.run.session before.2 read.0 before.4 ran.2 in (
      ended.0,
      before.1 ++ ran.0,
      ended.1,
      ended.2,
      Appends-kept _ _ _ _ (Appends-trans _ _ _ _ _ before.3 ran.1) c.flush-in-Ok.ensures.bytes,
    )

pub returns-then-not-led-clause-reads : goal.returns-then-not-led-clause-reads
returns-then-not-led-clause-reads g c =
    let before = c.loop-count.invariant.runs in
    let read = rw c.in-Ok.is at c.read.ensures.bytes in
    reads_on _ _ _ before.0 before.1 c.loop-count.run.begun.items _ c.loop-count.run.number c.loop-count.run.session before.2 read.0 before.4
    c.loop-count.run.unbroken
    (omega (arith, length-take c.in-Ok.len c.read.new.buf, c.read.auto.buf, c.loop-count.invariant.room))

-- the reader failed
pub returns-in-Err-2-clause-unended : goal.returns-in-Err-2-clause-unended
returns-in-Err-2-clause-unended g c =
    let before = c.loop-count.invariant.runs in
    let read = rw c.in-Err-2.is at c.read.ensures.bytes in (
      before.1,
      runs_so_far _ _ before.0 before.1 c.loop-count.run.begun.items c.loop-count.run.number c.loop-count.run.session (Consumes-kept _ _ _ _ before.2 read)
          before.4 c.loop-count.run.unbroken,
      before.3,
    )

pub returns-in-Err-2-clause-reads : goal.returns-in-Err-2-clause-reads
returns-in-Err-2-clause-reads g c =
    let before = c.loop-count.invariant.runs in
    let read = rw c.in-Err-2.is at c.read.ensures.bytes in
    nothing_following _ _ before.0 before.1 c.loop-count.run.begun.items c.loop-count.run.number c.loop-count.run.session (Consumes-kept _ _ _ _ before.2 read)
    before.4 c.loop-count.run.unbroken

-- or came to no end
pub returns-clause-unended : goal.returns-clause-unended
returns-clause-unended g c =
    let before = c.loop-count.invariant.runs in (
      before.1,
      runs_so_far _ _ before.0 before.1 c.loop-count.run.begun.items c.loop-count.run.number c.loop-count.run.session before.2 before.4
          c.loop-count.run.unbroken,
      before.3,
    )

pub returns-clause-reads : goal.returns-clause-reads
returns-clause-reads g c =
    let before = c.loop-count.invariant.runs in
    nothing_following _ _ before.0 before.1 c.loop-count.run.begun.items c.loop-count.run.number c.loop-count.run.session before.2 before.4
    c.loop-count.run.unbroken

-- a fragment was run, or the read is tried again
pub loop-count-preserved : goal.loop-count-preserved
loop-count-preserved g c =
    let before = c.loop-count.invariant.runs in
    elim c.match-read.branch [
      | in-Ok+in_ok-led-in-Ok+in_ok-flush-in-Ok+else-not-led w ↦
          let read = rw w.in-Ok.is at c.read.ensures.bytes in
          let ran = rw w.if-not-led.false at w.in_ok-led-in-Ok.ensures.runs in
          let number = rw w.if-not-led.false at w.in_ok-led-in-Ok.ensures.number in
          rw (w.writer-is, w.run-is) (
          record {
            runs = (
              _,
              before.1 ++ ran.0,
              Consumes-trans _ _ _ _ _ before.2 read.0,
              Appends-kept _ _ _ _ (Appends-trans _ _ _ _ _ before.3 ran.1) w.flush-in-Ok.ensures.bytes,
              fragments_run 1 w.take_fragment.new.self.number Begun w.take_fragment.new.self.session before.0 c.loop-count.run.begun.items _
                  w.take_fragment.new.self.begun.items before.1 ran.0
                  c.loop-count.run.number c.loop-count.run.session before.4 ran.2,
            );
            number = omega (arith, number, length-take w.in-Ok.len c.read.new.buf, c.read.auto.buf, c.loop-count.invariant.number, c.loop-count.invariant.room);
            room = omega (arith, c.read.auto.buf, c.loop-count.invariant.room);
          }
          )
      | in-Err w ↦
          let read = rw w.in-Err.is at c.read.ensures.bytes in
          rw (w.writer-is, w.run-is) (
          record {
            runs = (before.0, before.1, Consumes-kept _ _ _ _ before.2 read, before.3, before.4);
            number = omega (arith, c.loop-count.invariant.number);
            room = omega (arith, c.read.auto.buf, c.loop-count.invariant.room);
          }
          )
    ]
