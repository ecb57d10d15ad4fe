use Rattle.std.proofs.Common.{◌≡◌, ◌∙◌, ap, List}
use Rattle.iface_tables.specs.Reassembly.{AssemblerValue}
use Rattle.iface_tables.specs.Room.{is_same_source, with_room_for}
use Rattle.iface_tables.specs.contracts.key.FragKeyPartialEq.TheImpl as Key
use Rattle.iface_tables.specs.declared.key.FragKey.{FragKey}
use Rattle.iface_tables.proofs.Changed.{front_is}
use Rattle.iface_tables.proofs.assemblers.PacketAssemblerSet.make_room.Goals as goal

pub returns : goal.returns
returns c =
    front_is c.make_room_in.new.assemblers _ c.self.inside.assemblers.len (c.make_room_in.ensures.len ∙ c.as_mut_slice.ensures.len)
    ∙ c.make_room_in.ensures.value
    ∙ ap (λ (slots : List (AssemblerValue FragKey)). with_room_for Key.ghosts.eq is_same_source slots c.args.key.now)
    (c.as_mut_slice.ensures.value ∙ c.self.view_is)
