use Rattle.proof_stack.proofs.Polls.SomeRooms.{has_room, too_few_entries, too_few_bytes, first_has_room, too_short}
use Rattle.proof_stack.proofs.progress.rooms.a_queue_has_room_or_not.Goals as goal

pub returns-clause-room : goal.returns-clause-room
returns-clause-room c = has_room

pub returns-clause-entries : goal.returns-clause-entries
returns-clause-entries c = too_few_entries

pub returns-clause-bytes : goal.returns-clause-bytes
returns-clause-bytes c = too_few_bytes

pub returns-clause-first : goal.returns-clause-first
returns-clause-first c = first_has_room

pub returns-clause-short : goal.returns-clause-short
returns-clause-short c = too_short
