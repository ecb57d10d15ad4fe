use Rattle.std.proofs.Common.{ap, ◌∙◌}
use Rattle.iface_tables.specs.Assemblers.{assembler_of}
use Rattle.iface_tables.proofs.Apart.{given_up_local, given_up_other}
use Rattle.iface_tables.proofs.Keys.{key_test}
use Rattle.iface_ingress.specs.Reassembled.{Assemblers, is_same_datagram}
use Rattle.iface_ingress.proofs.FragmentAssemblers.{kept_unfit, slot_unfit}
use Rattle.iface_ingress.proofs.fragment_laws.overlaps_give_up.Goals as goal

pub returns-clause-given_up : goal.returns-clause-given_up
returns-clause-given_up c i timeout assemblers content p apart is strict over =
    ap (λ (ss : Assemblers). assembler_of is_same_datagram ss p.key) (kept_unfit i timeout assemblers content p is strict over)
    ∙ given_up_local is_same_datagram key_test assemblers p.key apart

pub returns-clause-nothing : goal.returns-clause-nothing
returns-clause-nothing c assemblers content p is strict over = slot_unfit assemblers content p is strict over

pub returns-clause-others : goal.returns-clause-others
returns-clause-others c i timeout assemblers content p is strict over other ne =
    ap (λ (ss : Assemblers). assembler_of is_same_datagram ss other) (kept_unfit i timeout assemblers content p is strict over)
    ∙ given_up_other is_same_datagram key_test assemblers p.key other ne
