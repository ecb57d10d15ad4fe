use Rattle.std.proofs.Common.{arith, ◌≡◌, ◌∷◌, ◌++◌, []}
use Rattle.iface_tables.specs.declared.key.FragKey.{FragKey}
use Rattle.iface_tables.specs.Reassembly.{AssemblerValue, initial}
use Rattle.iface_tables.proofs.Changed.{replicate_more}
use Rattle.iface_tables.proofs.assemblers.PacketAssemblerSet.new.Goals as goal

pub loop-assemblers-preserved : goal.loop-assemblers-preserved
loop-assemblers-preserved c =
    let pushed : c.push.new.self.items ≡ c.loop-assemblers.assemblers.items ++ c.new.result ∷ [] = c.in_ok-push.ensures.items in
    let is : c.new.result ≡ initial {K = FragKey} 4096 = c.new.ensures in (
      replicate_more {X = AssemblerValue FragKey} c.loop-assemblers.assemblers.items c.push.new.self.items (initial {K = FragKey} 4096) c.new.result pushed is
          c.loop-assemblers.invariant.0,
      omega (arith, c.in_ok-push.ensures.len, c.loop-assemblers-test.true, c.len.ensures),
    )
