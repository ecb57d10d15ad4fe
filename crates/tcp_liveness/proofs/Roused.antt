-- An offer that the link doesn't take: what it leaves of a side.
use Rattle.std.proofs.Common.{◌≡◌, ◌&&◌, ℤ, Bool, true, false}
use Rattle.std.proofs.Common.{[], ◌∷◌, None, refl, sym, ◌∙◌}
use Rattle.tcp_invariants.specs.State.{State}
use Rattle.tcp_invariants.specs.State.TheVariants as In
use Rattle.tcp_invariants.specs.FourTuple.{FourTuple}
use Rattle.tcp_invariants.specs.States.{is_answering}
use Rattle.tcp_invariants.proofs.OfferCases.{FirstRules, begun, by_rules}
use Rattle.tcp_refinement.specs.Context.{ContextValue}
use Rattle.tcp_refinement.specs.Offers.{Offered}
use Rattle.tcp_block.specs.LossRecovery.{loss_probed}
use Rattle.tcp_block.specs.Offers.{offer_of}
use Rattle.tcp_block.specs.Rules.{backed_off_now}
use Rattle.tcp_block.specs.Settled.{settled}
use Rattle.tcp_invariants.proofs.OrderSteps.{clash}
use Rattle.tcp_block.specs.declared.tcb.Tcb.{Tcb}
use Rattle.tcp_refinement.specs.Pair.Sides.{other}
use Rattle.tcp_refinement.specs.Pair.Steps.{refusal}
use Rattle.tcp_block.specs.Value.{TcpValue, unoffered, with_tcb}
use Rattle.tcp_refinement.specs.Pair.Values.{PairValue, context_at}
use Rattle.tcp_refinement.specs.declared.pair.event.PairEvent.TheVariants.{Offer}
use Rattle.tcp_refinement.specs.declared.pair.event.Side.{Side}
use Rattle.tcp_refinement.specs.declared.pair.event.Side.TheVariants.{A, B}
use Rattle.tcp_liveness.specs.BothWays.{roused_in}
use Rattle.tcp_liveness.specs.Pair.{context_of, socket_of}
use Rattle.tcp_liveness.specs.Reached.{IsReached}
use Rattle.tcp_liveness.specs.Rounds.{takes}
use Rattle.tcp_liveness.specs.Sent.{is_early}
use Rattle.tcp_liveness.specs.Settle.{read_in, restart_in}
use Rattle.tcp_liveness.proofs.Calm.{load_of, calm, refused_calm}
use Rattle.tcp_liveness.proofs.Kept.{reached_by}
use Rattle.tcp_liveness.proofs.Settles.{read_reached}
use Rattle.tcp_liveness.proofs.Ways.{BothCalm, IsLate, both_next, late_after, read_calm, side_calm}

-- it leaves what was sent and taken as it is
pub record Same (v x : TcpValue) : Type 0 where
  pub una : x.tcb.sender.una ≡ v.tcb.sender.una
  pub next : x.tcb.receiver.next ≡ v.tcb.receiver.next

pub refused_same : (cx : ContextValue) (v : TcpValue) → is_early v.tcb.state ≡ false → Same v (settled false (offer_of cx v).socket)
refused_same cx v late =
    by_rules cx v SameAs
    (record {
      nobody = λ _. record { una = refl; next = refl };
      time_wait = λ _. record { una = refl; next = refl };
      timeout = λ _. record { una = refl; next = refl };
      closed = λ _. record { una = refl; next = refl };
      reset = λ _ _ _. record { una = refl; next = refl };
      falls = λ _ _ falls. clash (sym (early_answering v.tcb.state (and_first (is_answering v.tcb.state) _ falls)) ∙ late);
      over = λ _ _ _. record { una = refl; next = refl };
      backs = λ pair _ _ _. rules pair (backed_off_now (begun cx v)) (record { una = refl; next = refl });
      probes = λ pair _ _ _ _. rules pair (loss_probed (begun cx v)) (record { una = refl; next = refl });
      goes = λ pair _ _ _. rules pair (begun cx v) (record { una = refl; next = refl });
    })
  where
    SameAs : Offered TcpValue → Type 0
    SameAs o = Same v (settled false o.socket)

    rules : (pair : FourTuple) (b : Tcb) → Same v (with_tcb (unoffered v) b) → FirstRules cx pair SameAs (with_tcb (unoffered v) b)
    rules pair b s = record {
      syn = λ _. record { una = s.una; next = s.next };
      again = λ _ _. record { una = s.una; next = s.next };
      payload = λ _ _. record { una = s.una; next = s.next };
      last = λ _.
          record {
            probe = λ _ _. record { una = s.una; next = s.next };
            window_limited = λ _ _. record { una = s.una; next = s.next };
            ack = λ _. record { una = s.una; next = s.next };
            update = λ _ _. record { una = s.una; next = s.next };
            keep_alive = λ _ _. record { una = s.una; next = s.next };
            quiet = λ _. record { una = s.una; next = s.next };
          };
    }

    and_first : (a b : Bool) → (a && b) ≡ true → a ≡ true
    and_first true b e = refl
    and_first false b e = e

    early_answering : (state : State) → is_answering state ≡ true → is_early state ≡ true
    early_answering In.SynReceived e = refl
    early_answering other e = clash (sym e)

refused : (p : PairValue) (side : Side) (instant : ℤ) → IsLate p → BothCalm p (takes p (Offer side instant false))
refused p A instant late = record {
  a =
      side_calm p (takes p (Offer A instant false)) A refl
      (refused_calm (context_at A (record p.sides.a { instant = instant })) p.sides.a.socket late.0);
  b = side_calm p (takes p (Offer A instant false)) B refl (calm (load_of p.sides.b.socket));
}
refused p B instant late = record {
  a = side_calm p (takes p (Offer B instant false)) A refl (calm (load_of p.sides.a.socket));
  b =
      side_calm p (takes p (Offer B instant false)) B refl
      (refused_calm (context_at B (record p.sides.b { instant = instant })) p.sides.b.socket late.1);
}

-- the socket that was asked, and the other
pub roused_own : (p : PairValue) (side : Side) →
    socket_of (roused_in p side) side ≡ settled false (offer_of (context_of (read_in p side) side (restart_in p side)) (socket_of (read_in p side) side)).socket
roused_own p A = refl
roused_own p B = refl

pub roused_other : (p : PairValue) (side : Side) → socket_of (roused_in p side) (other side) ≡ socket_of (read_in p side) (other side)
roused_other p A = refl
roused_other p B = refl

pub roused_reached : (p : PairValue) (side : Side) → IsReached p → refusal (read_in p side) (Offer side (restart_in p side) false) ≡ None →
    IsReached (roused_in p side)
roused_reached p side r e =
    reached_by (read_in p side) (roused_in p side) (Offer side (restart_in p side) false ∷ []) (read_reached p side r) (e, refl)

pub roused_calm : (p : PairValue) (side : Side) → IsLate p → BothCalm p (roused_in p side)
roused_calm p side late =
    both_next p (read_in p side) (roused_in p side) (read_calm p side)
    (refused (read_in p side) side (restart_in p side) (late_after p (read_in p side) (read_calm p side) late))
