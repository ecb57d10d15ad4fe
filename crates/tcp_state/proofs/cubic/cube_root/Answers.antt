use Rattle.std.proofs.Common.{◌≡◌, ℕ, ◌+◌, ◌-◌, ◌/◌, refl, sym, subst, arith}
use Rattle.tcp_state.specs.Cubic.{rooted, cube_root}
use Rattle.tcp_state.proofs.CubicLaws.{proceeds}
use Rattle.tcp_state.proofs.cubic.cube_root.Goals as goal

pub loop-at-init : goal.loop-at-init
unfolding cube_root
loop-at-init c = (refl, omega arith)

pub loop-at-preserved : goal.loop-at-preserved
loop-at-preserved c =
    let it = c.stepped-root.ensures in
    let going =
    proceeds c.loop-at.at c.loop-at.step c.args.n c.loop-at.root (cube_root c.args.n) (omega (arith, c.loop-at-test.true)) c.loop-at.invariant.0 in (
      subst (λ (x : ℕ). rooted (21 - (c.loop-at.at + 1)) (c.loop-at.step / 2) c.args.n x ≡ cube_root c.args.n) (sym it.value) going,
      (let small = it.small in let large = c.loop-at.invariant.1 in omega (arith, small, large)),
    )
