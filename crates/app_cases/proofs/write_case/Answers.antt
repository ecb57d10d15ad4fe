use Rattle.std.proofs.KnownBytes.{Appends-trans}
use Rattle.app_cases.proofs.write_case.Goals as goal

pub returns : goal.returns
returns g c = (
  _,
  Appends-trans _ _ _ _ _ (Appends-trans _ _ _ _ _ (Appends-trans _ _ _ _ _ c.in_ok-write_all.ensures.bytes c.in_ok-write_all-2.ensures.bytes)
      c.in_ok-write_all-3.ensures.bytes) c.in_ok-write_all-4.ensures.bytes,
)
