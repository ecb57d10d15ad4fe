use Rattle.std.proofs.Common.{inl, refl}
use Rattle.std.proofs.lemmas.Bool.{leb-true}
use Rattle.ip_wire.specs.IpAddress.TheVariants as Address
use Rattle.lan.specs.declared.at_link.history.event.Side.TheVariants.{B}
use Rattle.sim_link.specs.Port.{PortMove}
use Rattle.proof_stack.specs.Progress.OnEthernet.{hops, steps_of}
use Rattle.proof_stack.specs.Worlds.Hosts.{address}
use Rattle.proof_stack.proofs.Polls.Rotates.{has_its_turn}
use Rattle.proof_stack.proofs.Polls.SomeNeighbors.{are_waited_for, begins, both_wait_on, in_order, passes_over, two_steps}
use Rattle.proof_stack.proofs.progress.met.a_host_meets_what_waiting_datagrams_ask_for.Goals as goal

pub returns-clause-begins : goal.returns-clause-begins
returns-clause-begins c = begins

pub returns-clause-steps : goal.returns-clause-steps
returns-clause-steps c = two_steps

pub returns-clause-order : goal.returns-clause-order
returns-clause-order c = in_order

pub returns-clause-waited : goal.returns-clause-waited
returns-clause-waited c = are_waited_for

pub returns-clause-waits : goal.returns-clause-waits
returns-clause-waits c = both_wait_on

pub returns-clause-patient : goal.returns-clause-patient
returns-clause-patient c = refl

pub returns-clause-ours : goal.returns-clause-ours
returns-clause-ours c = inl refl

pub returns-clause-asks : goal.returns-clause-asks
returns-clause-asks c t =
    has_its_turn PortMove hops (Address.Ipv4 (address B)) (steps_of t) (in_order t) (are_waited_for t) (inl refl) (leb-true 2 2 refl)

pub returns-clause-rounds : goal.returns-clause-rounds
returns-clause-rounds c = passes_over
