use Rattle.tcp_ranges.proofs.Offsets.{map_from-more}
use Rattle.tcp_ranges.proofs.more_room_is_space.Goals as goal

pub returns : goal.returns
returns c = record { space = map_from-more }
