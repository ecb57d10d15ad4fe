use Rattle.std.proofs.Common.{◌≡◌, ◌∙◌, ap, Option}
use Rattle.iface_ingress.specs.Reassembled.{FragmentValue, room_for, slot_of, with_fragment}
use Rattle.iface_ingress.proofs.reassemble.keep.Goals as goal

pub returns-clause-slot : goal.returns-clause-slot
returns-clause-slot c =
    c.keep_if.ensures.slot
    ∙ ap (λ (o : Option FragmentValue). slot_of (room_for c.args.inner.now c.args.assemblers.now o) o) c.part_in-part.ensures

pub returns-clause-after : goal.returns-clause-after
returns-clause-after c =
    c.keep_if.ensures.after
    ∙ ap (λ (o : Option FragmentValue). with_fragment c.args.inner.now c.args.timeout (room_for c.args.inner.now c.args.assemblers.now o) o) c.part_in-part.ensures
