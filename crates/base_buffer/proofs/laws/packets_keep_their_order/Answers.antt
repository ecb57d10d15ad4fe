use Rattle.base_buffer.proofs.PacketLaws.{contents-appended, first-contents, contents-without_first, contents-with_first}
use Rattle.base_buffer.proofs.laws.packets_keep_their_order.Goals as goal

pub returns : goal.returns
returns g c = record {
  appended = contents-appended;
  first = first-contents;
  without_first = contents-without_first;
  with_first = contents-with_first;
}
