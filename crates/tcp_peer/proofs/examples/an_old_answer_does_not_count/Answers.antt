use Rattle.std.proofs.Common.{◌≡◌, ◌⊎◌, inl, inr, suc, ◌<◌, ◌≤◌, false, [], ◌∷◌, Some, None, refl, arith}
use Rattle.tcp_theory.specs.Segment.Control.{Plain, Syn, Rst}
use Rattle.tcp_theory.specs.Examples.{at, bare_ack}
use Rattle.tcp_peer.specs.Peer.{End, HasReached}
use Rattle.tcp_peer.proofs.Liars.{reached_by}
use Rattle.tcp_peer.specs.Examples.{server}
use Rattle.tcp_peer.proofs.examples.an_old_answer_does_not_count.Goals as goal

pub returns-clause-counts : goal.returns-clause-counts
returns-clause-counts c = (
  ((refl, (omega arith, omega arith)), tt),
  (
    (refl, tt),
    (
      tt,
      (
        (refl, tt),
        (
          (refl, tt),
          (
            tt,
            (
              (
                record { asking = refl; comes = (1, refl); syn = refl; acks_syn = refl },
                (
                  inr (
                    inr (inr (inr (record { syn = refl; number = omega arith; bare = λ (e : Some 101 ≡ None). absurd (cc) }))),
                    inr (101, refl, record { at = at 101; same = refl; so_far = inl refl }),
                  ),
                  tt,
                ),
              ),
              ((tt, tt), tt),
            ),
          ),
        ),
      ),
    ),
  ),
)

-- this side, when the old answer comes
abbrev asking : End
asking = record { first = at 100; stream = []; ends = false; heard = 0 }

no_old : HasReached server asking 9_000 → ⊥
no_old h = by h.so_far where
  by : (h.at ≡ suc (at 100)) ⊎ ((at 100 ≡ at 100) × (at 100 < h.at) × (h.at ≤ at 101)) → ⊥
  by (inl syn) = let same = h.same in absurd (omega arith)
  by (inr far) = let same = h.same in let past = far.1 in let most = far.2 in absurd (omega arith)

pub returns-clause-before : goal.returns-clause-before
returns-clause-before c =
    λ is.
    no_old (reached_by server asking (record { control = Syn; seq = 100; ack = None; bytes = [] } ∷ []) (bare_ack 5_000 9_000) 9_000 (λ (e : Plain ≡ Rst). absurd (cc)) refl is.1.1.0)
