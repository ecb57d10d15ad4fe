-- A poll raises a count by so many sends at most as it has slots, twice more, for each step of its budget.
use Rattle.std.proofs.Common.{◌≡◌, ℕ, ◌+◌, ◌*◌, ◌≤◌, ℤ, Bool, length, arith}
use Rattle.std.proofs.Math.Nat.{mul-le-mul_left}
use Rattle.std.proofs.lemmas.List.Sums.{count_by-le-length}
use Rattle.net_base.specs.Device.{Move}
use Rattle.interface.specs.State.{State}
use Rattle.interface.specs.Polls.{Polls}
use Rattle.interface.proofs.Kept.{RunsAt, IsCounted}
use Rattle.interface.proofs.Kept.{IsPriced}
use Rattle.interface.specs.Used.{is_used, most_parked, sockets_in}
use Rattle.interface.proofs.Priced.{polls_cost}
use Rattle.interface.proofs.Shapes.{same_length}

module _ {D : Type 0} (moves : D → Move → D → Type 0) (t : ℤ) (Q : ℕ → State D → Type 0) (kept : IsCounted moves t Q) where
  -- a fragment costs as much as a turn
  all_priced : IsPriced moves t 1 Q
  all_priced = record {
    more = kept.more;
    maintenance = kept.maintenance;
    arrivals = kept.arrivals;
    fragments = kept.fragments;
    parked = kept.parked;
    turns = λ turn n h before after p p' x x' turned used runs so turns. kept.turns turn n h before after p p' x x' turned runs so turns;
  }

  pub polls_count : (budget n : ℕ) (s s' : State D) (changed : Bool)
      → Q n s → Polls moves t budget s changed s' → Q (n + budget * (most_parked s.host.inner + (length s.slots + 2))) s' × RunsAt t s'.host.inner × (length s'.slots ≡ length s.slots)
  polls_count budget n s s' changed holds polls =
      let cost = polls_cost moves t 1 Q all_priced budget n s s' changed holds polls in
      let few = count_by-le-length is_used s.slots in
      let parked : ℕ = most_parked s.host.inner in
      let most : budget * (1 + (parked + (1 + sockets_in s.slots))) ≤ budget * (parked + (length s.slots + 2)) = mul-le-mul_left budget (omega (arith, few)) in (
        kept.more (n + budget * (1 + (parked + (1 + sockets_in s.slots)))) (n + budget * (parked + (length s.slots + 2))) s' (omega (arith, most)) cost.0,
        cost.1,
        same_length s.slots s'.slots cost.2,
      )
