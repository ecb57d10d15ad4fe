-- What a connection has come to when three bytes were read, when one side closed, and when both did.
use Rattle.std.proofs.Common.{◌≡◌, Some, None, refl, sym, ap, subst}
use Rattle.tcp_block.specs.State.TheVariants as In
use Rattle.lan.specs.declared.at_link.history.answer.Answer.TheVariants as To
use Rattle.lan.specs.declared.at_link.history.answer.Fault.TheVariants as Fault
use Rattle.lan.specs.declared.at_link.history.event.Side.TheVariants.{A, B}
use Rattle.lan.specs.Worlds.AtLink.PeerSides.{ArePartners}
use Rattle.proof_stack.specs.Worlds.Connection.{told, half_closed, closing, closed}
use Rattle.proof_stack.specs.Worlds.Hosts.{text, last_answer}
use Rattle.proof_stack.specs.Worlds.Played.{Play, played}
use Rattle.proof_stack.specs.Worlds.Streams.{tcp_at}
use Rattle.proof_stack.proofs.Runs.ConnectionRun.{closing_run, closing_leads}
use Rattle.proof_stack.proofs.Runs.Worlds as Worlds
use Rattle.proof_stack.proofs.Runs.Worlds.{told_is, half_closed_is}

pub reads : last_answer told.net ≡ To.Bytes text
reads = ap (λ (p : Play). last_answer p.net) told_is

pub finishes : last_answer half_closed.net ≡ To.Error Fault.Finished
finishes = ap (λ (p : Play). last_answer p.net) half_closed_is

closed_is : closed ≡ played Worlds.half_closed closing
closed_is = ap (λ (p : Play). played p closing) half_closed_is

pub waits : (tcp_at closed.net A 0).tcb.state ≡ In.TimeWait
waits = ap (λ (p : Play). (tcp_at p.net A 0).tcb.state) closed_is

pub is_over : (tcp_at closed.net B 0).tcb.state ≡ In.Closed
is_over = ap (λ (p : Play). (tcp_at p.net B 0).tcb.state) closed_is

peer_sides_from : ArePartners (played Worlds.half_closed closing).net.history A 0 0
peer_sides_from = record {
  one = record { local = 49_500; remote = Some 80 };
  another = record { local = 80; remote = None };
  opened = refl;
  peer_side_opened = refl;
  paired = refl;
}

pub are_peer_sides : ArePartners closed.net.history A 0 0
are_peer_sides = subst (λ (p : Play). ArePartners p.net.history A 0 0) (sym closed_is) peer_sides_from

pub ruleset closed_for_good = (closing_run, closing_leads, waits, is_over)
