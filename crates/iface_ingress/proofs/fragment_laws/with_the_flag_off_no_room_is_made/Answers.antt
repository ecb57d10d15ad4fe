use Rattle.iface_ingress.proofs.Roomed.{room_with_flag_off}
use Rattle.iface_ingress.proofs.fragment_laws.with_the_flag_off_no_room_is_made.Goals as goal

pub returns : goal.returns
returns c i assemblers content off = room_with_flag_off i assemblers content off
