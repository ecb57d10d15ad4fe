use Rattle.std.proofs.Common.{refl}
use Rattle.iface_groups.proofs.Members.{sound-join, sound-leave, sound-query, sound-hear, sound-tell}
use Rattle.iface_groups.proofs.laws.members_are_sound.Goals as goal

pub returns : goal.returns
returns c = record { absent = λ _. refl; join = sound-join; leave = sound-leave; query = sound-query; hear = sound-hear; tell = sound-tell }
