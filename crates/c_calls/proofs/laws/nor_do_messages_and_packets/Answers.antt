use Rattle.c_calls.proofs.TooLong.{message_dropped, packet_dropped}
use Rattle.c_calls.proofs.laws.nor_do_messages_and_packets.Goals as goal

pub returns : goal.returns
returns c = record { messages = message_dropped; packets = packet_dropped }
