-- What events led to: a pair that keeps the invariant.
use Rattle.std.proofs.Common.{List, [], ◌∷◌, ◌++◌, refl, sym, subst}
use Rattle.tcp_refinement.specs.Tie.{Keeps}
use Rattle.tcp_refinement.proofs.PromiseLemmas.{keeps_turned}
use Rattle.tcp_refinement.specs.Pair.Safe.{IsKept}
use Rattle.tcp_refinement.specs.Pair.Sides.{other}
use Rattle.tcp_refinement.specs.Pair.Steps.{Steps, happens}
use Rattle.tcp_block.specs.Value.{new_socket}
use Rattle.tcp_refinement.specs.Pair.Values.{PairValue, past_at}
use Rattle.tcp_refinement.specs.declared.pair.event.PairEvent.{PairEvent}
use Rattle.tcp_refinement.specs.declared.pair.event.Side.{Side}
use Rattle.tcp_refinement.specs.declared.pair.event.Side.TheVariants.{A, B}
use Rattle.tcp_refinement.proofs.OutcomeLaws.{proceeds as in_pieces}
use Rattle.tcp_refinement.proofs.PairLaws.{new_is_kept, kept_after}
use Rattle.tcp_liveness.specs.Pair.{socket_of}
use Rattle.tcp_liveness.specs.Reached.{IsReached, Start, both_started}

kept_steps : (p : PairValue) (events : List PairEvent) (new : PairValue) → IsKept p → Steps p events new → IsKept new
kept_steps p [] new k steps = subst IsKept (sym steps) k
kept_steps p (event ∷ events) new k steps = kept_steps (happens p event).pair events new (kept_after p event k steps.0) steps.1

pub started_kept : (a b : Start) → IsKept (both_started a b)
started_kept a b =
    new_is_kept a.host b.host a.random b.random (new_socket a.room a.ring) (new_socket b.room b.ring)
    (record { state = refl; waiting = refl; queue = refl; unfinished = refl })
    (record { state = refl; waiting = refl; queue = refl; unfinished = refl })

pub reached_kept : (p : PairValue) → IsReached p → IsKept p
reached_kept p r =
    kept_steps (both_started r.a r.b) r.events p (started_kept r.a r.b) r.steps

pub keeps_of : (p : PairValue) (side : Side) → IsKept p → Keeps (socket_of p side) (past_at p side) (socket_of p (other side)) (past_at p (other side))
keeps_of p A k = k.sockets
keeps_of p B k = keeps_turned p.sides.a.socket p.sides.b.socket (past_at p A) (past_at p B) k.sockets

-- a side of a pair that events led to, and its peer
pub reached_keeps : (p : PairValue) (side : Side) → IsReached p →
    Keeps (socket_of p side) (past_at p side) (socket_of p (other side)) (past_at p (other side))
reached_keeps p side reached = keeps_of p side (reached_kept p reached)

pub reached_by : (p new : PairValue) (more : List PairEvent) → IsReached p → Steps p more new → IsReached new
reached_by p new more r steps = record {
  a = r.a;
  b = r.b;
  events = r.events ++ more;
  steps = in_pieces (both_started r.a r.b) p new r.events more r.steps steps;
}
