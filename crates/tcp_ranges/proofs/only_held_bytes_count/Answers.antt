use Rattle.tcp_ranges.proofs.Offsets.{is_held-iff, length-map_from}
use Rattle.tcp_ranges.proofs.Refused.{map_from-elsewhere, map_from-refused}
use Rattle.tcp_ranges.proofs.only_held_bytes_count.Goals as goal

pub returns : goal.returns
returns c = record {
  held = is_held-iff;
  length = λ rs free. length-map_from rs 0 free;
  elsewhere = map_from-elsewhere;
  refused = map_from-refused;
}
