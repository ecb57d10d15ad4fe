-- What several calls wrote, one after the other.
use Rattle.std.proofs.Common.{ℕ, List, ◌++◌, [], Option}
use Rattle.std.specs.Io.KnownBytes.{Appends}
use Rattle.std.proofs.KnownBytes.{Appends-nil, Appends-trans}
use Rattle.app_cases.specs.Cases.{Grows}

-- nothing
pub nothing_grows : (a : Option (List ℕ)) → Grows a a
nothing_grows a = ([], Appends-nil a)

-- these bytes after others
pub grows_by : (a b c : Option (List ℕ)) (bs : List ℕ) → Grows a b → Appends b c bs → Grows a c
grows_by a b c bs before last = (before.0 ++ bs, Appends-trans a b c before.0 bs before.1 last)

pub grows_on : (a b c : Option (List ℕ)) → Grows a b → Grows b c → Grows a c
grows_on a b c before last = grows_by a b c last.0 before last.1
