-- A part of the send queue as the choice that it stands for.
use Rattle.tcp_block.specs.Rules.{Choice}
use Rattle.tcp_block.specs.declared.tcb.rules.Part.{Part}

abbrev pub choice_of : Part → Choice
choice_of part = record { offset = part.offset; len = part.len; fin = part.fin }
