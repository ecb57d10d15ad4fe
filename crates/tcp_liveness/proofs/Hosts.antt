-- What a side knows of its host stays: a packet holds payload, and is no longer or shorter than it was.
use Rattle.std.proofs.Common.{◌≡◌, ℕ, zero, suc, ◌-◌, ◌^◌, ℤ, true, false, refl, sym, ap, ◌∙◌, subst}
use Rattle.tcp_refinement.proofs.SideHosts.{event_host, steps_host}
use Rattle.tcp_refinement.specs.Pair.Sides.{at, other}
use Rattle.tcp_refinement.specs.Pair.Values.{HoldsPayload, HostContext, PairValue}
use Rattle.tcp_refinement.specs.declared.pair.event.PairEvent.TheVariants.{Deliver, Offer, Recv}
use Rattle.tcp_refinement.specs.declared.pair.event.Side.{Side}
use Rattle.tcp_refinement.specs.declared.pair.event.Side.TheVariants.{A, B}
use Rattle.tcp_liveness.specs.BothWays.{roused_in, wake_in, woken_in}
use Rattle.tcp_liveness.specs.Pair.{exchanged_in, mtu_of, next_sent, offered_in}
use Rattle.tcp_liveness.specs.Reached.{IsReached, Start, both_started}
use Rattle.tcp_liveness.specs.Rounds.{comes, takes}
use Rattle.tcp_liveness.specs.Settle.{read_in, restart_in}

started_holds : (a b : Start) (side : Side) → HoldsPayload (at (both_started a b).sides side).host
started_holds a b A = a.holds
started_holds a b B = b.holds

-- of each side of a pair that events led to
pub reached_holds : (p : PairValue) (side : Side) → IsReached p → HoldsPayload (at p.sides side).host
reached_holds p side r = subst HoldsPayload (sym (steps_host (both_started r.a r.b) r.events p r.steps side)) (started_holds r.a r.b side)

all_host : (n : ℕ) (from : Side) (k : ℕ) (p : PairValue) (side : Side) → (at (comes n from k p).sides side).host ≡ (at p.sides side).host
all_host zero from k p side = refl
all_host (suc n) from k p side = all_host n from (suc k) (takes p (Deliver from k)) side ∙ event_host p (Deliver from k) side

exchange_host : (p : PairValue) (side : Side) (instant : ℤ) (of : Side) → (at (exchanged_in p side instant).sides of).host ≡ (at p.sides of).host
exchange_host p side instant of =
    all_host (next_sent (offered_in p side instant) (other side) - next_sent p (other side)) (other side) (next_sent p (other side))
    (offered_in p side instant) of
    ∙ (event_host (takes p (Offer side instant true)) (Deliver side (next_sent p side)) of ∙ event_host p (Offer side instant true) of)

-- where the other's user read, where the side was asked then, and where it had its exchange
pub read_mtu : (p : PairValue) (side : Side) → mtu_of (read_in p side) side ≡ mtu_of p side
read_mtu p side = ap (λ (host : HostContext). host.ip_mtu) (event_host p (Recv (other side) (2 ^ 30)) side)

pub roused_mtu : (p : PairValue) (side : Side) → mtu_of (roused_in p side) side ≡ mtu_of p side
roused_mtu p side =
    ap (λ (host : HostContext). host.ip_mtu) (event_host (read_in p side) (Offer side (restart_in p side) false) side) ∙ read_mtu p side

pub woken_mtu : (p : PairValue) (side : Side) → mtu_of (woken_in p side) side ≡ mtu_of p side
woken_mtu p side =
    ap (λ (host : HostContext). host.ip_mtu) (exchange_host (roused_in p side) side (wake_in (roused_in p side) side) side) ∙ roused_mtu p side
