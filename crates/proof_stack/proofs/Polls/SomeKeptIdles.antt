-- The poll in which B, to which abc came, has nothing to do yet, on numerals.
use Rattle.std.proofs.Common.{inl, inr, false, None, refl}
use Rattle.wire_address.specs.Address.{v4_number}
use Rattle.sim_link.specs.Port.{PortValue, PortMove}
use Rattle.lan.specs.Worlds.AtLink.Node.{at_port}
use Rattle.lan.specs.Worlds.AtLink.Steps.{PollsAt}
use Rattle.iface_ingress.specs.Offer.TheVariants as Offer
use Rattle.iface_ingress.specs.Socket.TheVariants as Kind
use Rattle.iface_ingress.specs.Sockets.{Offers}
use Rattle.iface_tables.specs.PathMtu.{mtu_towards}
use Rattle.iface_egress.specs.Set.{unmarked}
use Rattle.interface.specs.Egress.{EgressStep, sending}
use Rattle.interface.specs.Ingress.{IngressStep}
use Rattle.interface.specs.Remote.{context_for}
use Rattle.interface.specs.Pass.{passed}
use Rattle.interface.specs.Polls.{Polls, begun}
use Rattle.interface.specs.State.{State}
use Rattle.proof_stack.specs.Progress.SettledNumerals.{b_first, heard}
use Rattle.proof_stack.proofs.Polls.SomeNodes.{heard_b}
use Rattle.proof_stack.proofs.Polls.SomeSyns.{now, port_of, state_of}

abbrev found : State PortValue
found = begun now (begun now (state_of heard_b))

none_comes : IngressStep PortMove now (begun now (state_of heard_b)) None found
none_comes = ((refl, λ given. refl), refl)

silent : Offers (context_for b_first (Kind.Tcp heard)) (Kind.Tcp heard) (Offer.Silent false) (Kind.Tcp heard)
unfolding v4_number mtu_towards
silent = (refl, refl)

abbrev rested : State PortValue
rested = at_port (port_of heard_b) heard_b

rests : EgressStep PortMove now found None rested
rests = (
  passed (sending now found) rested.slots false,
  inr (
    sending now found,
    (refl, refl),
    inl (false, sending now found, unmarked (Kind.Tcp heard), (Offer.Silent false, Kind.Tcp heard, silent, (refl, refl, refl)), refl),
  ),
  refl,
  refl,
)

in_vain : Polls PortMove now 1 (state_of heard_b) false rested
in_vain = (found, false, inl (none_comes, refl), inl (rests, refl))

pub idles_b : PollsAt heard_b now 1 false heard_b
idles_b = record { port = port_of heard_b; port_after = port_of heard_b; before = refl; after = refl; polls = in_vain; none_denied = λ alone. refl }
