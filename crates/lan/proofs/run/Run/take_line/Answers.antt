use Rattle.std.proofs.Common.{refl}
use Rattle.lan.specs.Ends.{end_line}
use Rattle.lan.specs.Scripts.{LineEnds}
use Rattle.lan.proofs.run.Run.take_line.Goals as goal

pub returns-in_ok-write-in-Err : goal.returns-in_ok-write-in-Err
returns-in_ok-write-in-Err g c =
    let ends : LineEnds c.args.self.now.session c.args.self.now.begun.items c.in-Err.end = rw (← c.as_slice.ensures.value) c.in-Err.ensures.ends in
    (end_line c.args.self.now.number c.in-Err.end, c.in_ok-write-in-Err.ensures.bytes, (c.in-Err.end, ends, refl))
