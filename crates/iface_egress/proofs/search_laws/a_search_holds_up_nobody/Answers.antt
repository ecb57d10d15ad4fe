use Rattle.std.proofs.Common.{Bool, ap, ◌∙◌}
use Rattle.std.specs.Prelude.{◌&&◌, not}
use Rattle.iface_egress.specs.Parked.{is_searched, is_segment, outcome_of, waits}
use Rattle.iface_egress.proofs.KeptOrder.{holds_nobody}
use Rattle.iface_egress.proofs.search_laws.a_search_holds_up_nobody.Goals as goal

pub returns-clause-many : goal.returns-clause-many
returns-clause-many c i p plan sent many searched none =
    ap (λ (b : Bool). waits (outcome_of (b && (waits sent && (is_searched plan && not (is_segment p.payload)))) sent)) many
    ∙ holds_nobody (is_searched plan) (is_segment p.payload) sent searched none

pub returns-clause-few : goal.returns-clause-few
returns-clause-few c i p plan sent few =
    ap (λ (b : Bool). b && (waits sent && (is_searched plan && not (is_segment p.payload)))) few
