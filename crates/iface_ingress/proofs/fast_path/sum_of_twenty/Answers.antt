use Rattle.std.proofs.Common.{arith}
use Rattle.iface_ingress.proofs.PlainSegments.{words_of_twenty}
use Rattle.iface_ingress.proofs.fast_path.sum_of_twenty.Goals as goal

pub returns-clause-same : goal.returns-clause-same
returns-clause-same c =
    omega (
      arith,
      words_of_twenty c.args.bytes.now c.requires,
      c.read_u16.ensures,
      c.read_u16-2.ensures,
      c.read_u16-3.ensures,
      c.read_u16-4.ensures,
      c.read_u16-5.ensures,
      c.read_u16-6.ensures,
      c.read_u16-7.ensures,
      c.read_u16-8.ensures,
      c.read_u16-9.ensures,
      c.read_u16-10.ensures,
    )
