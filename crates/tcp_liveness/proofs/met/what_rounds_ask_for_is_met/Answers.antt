use Rattle.std.proofs.Common.{inl, inr, ◌≤◌, refl, arith}
use Rattle.std.proofs.lemmas.Bool.{leb-true}
use Rattle.tcp_refinement.specs.declared.pair.event.Side.TheVariants.{A}
use Rattle.tcp_liveness.specs.Met.{gone}
use Rattle.tcp_liveness.specs.Settle.{MayRound, resumed_in}
use Rattle.tcp_liveness.proofs.met.what_rounds_ask_for_is_met.Goals as goal

never : {X : Type 0} → 1 ≤ 0 → X
never e = absurd (omega arith)

first : MayRound gone A
first = record {
  stream = inl refl;
  proceeds =
      record {
        sends =
            record {
              own = record { synchronized = refl; acknowledged = refl; opened = leb-true _ _ refl };
              owes = leb-true _ _ refl;
              over = inr refl;
              goes = record { lasts = refl; in_time = refl; alive = refl; tries = refl };
              window = leb-true _ _ refl;
              cwnd = leb-true _ _ refl;
            };
        theirs = record { synchronized = refl; acknowledged = refl; opened = leb-true _ _ refl };
        room = leb-true _ _ refl;
        initial = refl;
        answer_initial = λ _ _ _ _. refl;
      };
  comes = refl;
  space = inl (inl refl);
}

second : MayRound (resumed_in gone A) A
second = record {
  stream = inl refl;
  proceeds =
      record {
        sends =
            record {
              own = record { synchronized = refl; acknowledged = refl; opened = leb-true _ _ refl };
              owes = leb-true _ _ refl;
              over = inr refl;
              goes = record { lasts = refl; in_time = refl; alive = refl; tries = refl };
              window = leb-true _ _ refl;
              cwnd = leb-true _ _ refl;
            };
        theirs = record { synchronized = refl; acknowledged = refl; opened = leb-true _ _ refl };
        room = leb-true _ _ refl;
        initial = refl;
        answer_initial = λ _ _ _ _. refl;
      };
  comes = refl;
  space = inl (inl refl);
}

pub returns : goal.returns
returns c = record { settles = (λ _. first, λ _. (λ _. second, λ _. (λ e. never e, λ e. never e))) }
