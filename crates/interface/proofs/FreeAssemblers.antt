-- Free slots are free.
use Rattle.std.proofs.Common.{◌≡◌, ℕ, zero, suc, true, refl}
use Rattle.std.specs.List.{AllByRecursion}
use Rattle.iface_tables.specs.Reassembly.{AssemblerValue, is_free}
use Rattle.iface_tables.specs.Assemblers.{free_assemblers}
use Rattle.iface_tables.specs.declared.key.FragKey.{FragKey}

pub all_free : (count size : ℕ) → AllByRecursion (λ (s : AssemblerValue FragKey). is_free s ≡ true) (free_assemblers {K = FragKey} count size)
all_free zero size = tt
all_free (suc n) size = (refl, all_free n size)
