-- What a poll of a host without host requirements keeps, and what it costs.
use Rattle.std.proofs.Common.{◌≡◌, ℕ, ◌+◌, ◌*◌, ℤ, Bool, true, false, length, Option, Some, None, ap, ◌∙◌, subst}
use Rattle.net_base.specs.Device.{Move}
use Rattle.iface_tables.specs.Inner.{InnerValue}
use Rattle.interface.specs.Ingress.{IngressStep, Takes}
use Rattle.interface.specs.Egress.{EgressStep}
use Rattle.interface.specs.Polls.{Polls}
use Rattle.interface.specs.State.{State}
use Rattle.interface.specs.Used.{most_if, sockets_in}
use Rattle.interface.proofs.Count.{polls_count}
use Rattle.interface.proofs.Keep.{in_step_keeps, out_step_keeps, polls_keep}
use Rattle.interface.proofs.Kept.{IsCounted, IsCountedAlone, IsKept, IsKeptAlone, IsPriced, IsPricedAlone, RunsAloneAt}
use Rattle.interface.proofs.Priced.{none_added, polls_cost}
use Rattle.interface.proofs.Runs.{receives_same}
use Rattle.interface.proofs.SameHost.{same_flag, slot_same}
use Rattle.interface.proofs.Shapes.{shape}

both_flags : (b : Bool) → b ≡ true → b ≡ false → ⊥
both_flags true is not = cc
both_flags false is not = cc

module _ {D : Type 0} (moves : D → Move → D → Type 0) where
  takes_flag : (s s' : State D) (answer : Option Bool) → Takes moves s answer s' → s'.host.inner.host_requirements ≡ s.host.inner.host_requirements
  takes_flag s s' None takes = ap (λ (x : State D). x.host.inner.host_requirements) takes.1
  takes_flag s s' (Some false) takes = ap (λ (x : State D). x.host.inner.host_requirements) takes.3
  takes_flag s s' (Some true) takes =
      let reads = takes.4 in
      let same = receives_same moves reads.0 (record s { device = takes.1 }) s' reads.2 in
      same_flag reads.2.0.inner s'.host.inner same.1 ∙ same.0.host_requirements

  module _ (t : ℤ) where
    -- it holds of a host without host requirements
    record Holds (P : Type 0) (s : State D) : Type 0 where
      so : P
      alone : s.host.inner.host_requirements ≡ false

    module _ (P : State D → Type 0) (kept : IsKeptAlone moves t P) where
      kept_so : IsKept moves t (λ (s : State D). Holds (P s) s)
      kept_so = record {
        maintenance = λ s holds. record { so = kept.maintenance s holds.so; alone = holds.alone };
        arrivals = λ s s' answer runs holds takes. record {
          so = kept.arrivals s s' answer (runs.0, runs.1, holds.alone) holds.so takes;
          alone = takes_flag s s' answer takes ∙ holds.alone;
        };
        fragments = λ h ps x x' l gone runs is holds leaves same. record {
          so = kept.fragments h ps x x' l gone (runs.0, runs.1, holds.alone) is holds.so leaves same;
          alone = ap (λ (i : InnerValue). i.host_requirements) same ∙ holds.alone;
        };
        parked = λ h ps x x' all runs many holds serves. absurd (both_flags x.inner.host_requirements many holds.alone);
        turns = λ turn h before after p p' x x' turned runs holds turns. record {
          so = kept.turns turn h before after p p' x x' turned (runs.0, runs.1, holds.alone) holds.so turns;
          alone = same_flag x.inner x'.inner (slot_same moves turn x x' p p' turned turns) ∙ holds.alone;
        };
      }

      pub polls_keep_alone : (budget : ℕ) (s s' : State D) (changed : Bool) → s.host.inner.host_requirements ≡ false → P s →
          Polls moves t budget s changed s' → P s' × RunsAloneAt t s'.host.inner
      polls_keep_alone budget s s' changed alone holds polls =
          let all = polls_keep moves t (λ (x : State D). Holds (P x) x) kept_so budget s s' changed (record { so = holds; alone = alone }) polls in
          (all.0.so, (all.1.0, all.1.1, all.0.alone))

      pub out_step_keeps_alone : (s s' : State D) (answer : Option Bool) → P s → RunsAloneAt t s.host.inner → EgressStep moves t s answer s' →
          P s' × RunsAloneAt t s'.host.inner
      out_step_keeps_alone s s' answer holds runs step =
          let all = out_step_keeps moves t (λ (x : State D). Holds (P x) x) kept_so s s' answer (record { so = holds; alone = runs.2 }, (runs.0, runs.1)) step in
          (all.0.so, (all.1.0, all.1.1, all.0.alone))

      pub in_step_keeps_alone : (s s' : State D) (answer : Option Bool) → P s → s.host.inner.host_requirements ≡ false → IngressStep moves t s answer s' →
          P s' × RunsAloneAt t s'.host.inner
      in_step_keeps_alone s s' answer holds alone step =
          let all = in_step_keeps moves t (λ (x : State D). Holds (P x) x) kept_so s s' answer (record { so = holds; alone = alone }) step in
          (all.0.so, (all.1.0, all.1.1, all.0.alone))

    module _ (fragment : ℕ) (Q : ℕ → State D → Type 0) (kept : IsPricedAlone moves t fragment Q) where
      priced_so : IsPriced moves t fragment (λ (n : ℕ) (s : State D). Holds (Q n s) s)
      priced_so = record {
        more = λ n m s up holds. record { so = kept.more n m s up holds.so; alone = holds.alone };
        maintenance = λ n s holds. record { so = kept.maintenance n s holds.so; alone = holds.alone };
        arrivals = λ n s s' answer runs holds takes. record {
          so = kept.arrivals n s s' answer (runs.0, runs.1, holds.alone) holds.so takes;
          alone = takes_flag s s' answer takes ∙ holds.alone;
        };
        fragments = λ n h ps x x' l gone runs is holds leaves same. record {
          so = kept.fragments n h ps x x' l gone (runs.0, runs.1, holds.alone) is holds.so leaves same;
          alone = ap (λ (i : InnerValue). i.host_requirements) same ∙ holds.alone;
        };
        parked = λ n h ps x x' all runs many holds serves. absurd (both_flags x.inner.host_requirements many holds.alone);
        turns = λ turn n h before after p p' x x' turned used runs holds turns. record {
          so = kept.turns turn n h before after p p' x x' turned used (runs.0, runs.1, holds.alone) holds.so turns;
          alone = same_flag x.inner x'.inner (slot_same moves turn x x' p p' turned turns) ∙ holds.alone;
        };
      }

      pub polls_cost_alone : (budget n : ℕ) (s s' : State D) (changed : Bool) → s.host.inner.host_requirements ≡ false → Q n s →
          Polls moves t budget s changed s' → Q (n + budget * (1 + (fragment + sockets_in s.slots))) s' × RunsAloneAt t s'.host.inner ×
          (shape s'.slots ≡ shape s.slots)
      polls_cost_alone budget n s s' changed alone holds polls =
          let all = polls_cost moves t fragment (λ (m : ℕ) (x : State D). Holds (Q m x) x) priced_so budget n s s' changed (record { so = holds; alone = alone })
          polls in (
            subst (λ (m : ℕ). Q (n + budget * (1 + m)) s') (none_added (fragment + sockets_in s.slots))
                (subst (λ (b : Bool). Q (n + budget * (1 + (most_if b (length s.host.inner.parking.packets) + (fragment + sockets_in s.slots)))) s') alone all.0.so),
            (all.1.0, all.1.1, all.0.alone),
            all.2,
          )

    module _ (Q : ℕ → State D → Type 0) (kept : IsCountedAlone moves t Q) where
      counted_so : IsCounted moves t (λ (n : ℕ) (s : State D). Holds (Q n s) s)
      counted_so = record {
        more = λ n m s up holds. record { so = kept.more n m s up holds.so; alone = holds.alone };
        maintenance = λ n s holds. record { so = kept.maintenance n s holds.so; alone = holds.alone };
        arrivals = λ n s s' answer runs holds takes. record {
          so = kept.arrivals n s s' answer (runs.0, runs.1, holds.alone) holds.so takes;
          alone = takes_flag s s' answer takes ∙ holds.alone;
        };
        fragments = λ n h ps x x' l gone runs is holds leaves same. record {
          so = kept.fragments n h ps x x' l gone (runs.0, runs.1, holds.alone) is holds.so leaves same;
          alone = ap (λ (i : InnerValue). i.host_requirements) same ∙ holds.alone;
        };
        parked = λ n h ps x x' all runs many holds serves. absurd (both_flags x.inner.host_requirements many holds.alone);
        turns = λ turn n h before after p p' x x' turned runs holds turns. record {
          so = kept.turns turn n h before after p p' x x' turned (runs.0, runs.1, holds.alone) holds.so turns;
          alone = same_flag x.inner x'.inner (slot_same moves turn x x' p p' turned turns) ∙ holds.alone;
        };
      }

      pub polls_count_alone : (budget n : ℕ) (s s' : State D) (changed : Bool) → s.host.inner.host_requirements ≡ false → Q n s →
          Polls moves t budget s changed s' → Q (n + budget * (length s.slots + 2)) s' × RunsAloneAt t s'.host.inner × (length s'.slots ≡ length s.slots)
      polls_count_alone budget n s s' changed alone holds polls =
          let all = polls_count moves t (λ (m : ℕ) (x : State D). Holds (Q m x) x) counted_so budget n s s' changed (record { so = holds; alone = alone }) polls in (
            subst (λ (m : ℕ). Q (n + budget * m) s') (none_added (length s.slots + 2))
                (subst (λ (b : Bool). Q (n + budget * (most_if b (length s.host.inner.parking.packets) + (length s.slots + 2))) s') alone all.0.so),
            (all.1.0, all.1.1, all.0.alone),
            all.2,
          )
