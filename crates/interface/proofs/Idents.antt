-- The identifications that a poll takes.
use Rattle.std.proofs.Common.{◌≡◌, ℕ, suc, ◌+◌, ◌*◌, ◌%◌, ◌^◌, ◌≤◌, arith, Bool, true, false, cond, length, refl, ap, ◌∙◌, subst}
use Rattle.std.specs.Prelude.{ℤ}
use Rattle.std.proofs.Math.Nat.{mul-le-mul_left}
use Rattle.net_base.specs.Device.{Move}
use Rattle.ip_wire.specs.IpRepr.{IpRepr}
use Rattle.iface_tables.specs.Inner.{InnerValue, at_instant, with_packet_parked}
use Rattle.iface_egress.specs.Departing.{takes_number, ident_after}
use Rattle.iface_egress.specs.declared.plan.Plan.{Plan}
use Rattle.iface_egress.specs.declared.egress_path.Sent.{Sent}
use Rattle.iface_egress.specs.declared.egress_path.Sent.TheVariants as Outcome
use Rattle.interface.specs.Polls.{Polls}
use Rattle.interface.specs.State.{State}
use Rattle.interface.specs.Idents.{TakesIdents}
use Rattle.interface.specs.Used.{most_if, most_parked, sockets_in}
use Rattle.interface.proofs.HostCounts.{IsHostCount, hosts_priced}
use Rattle.interface.proofs.Priced.{none_added, polls_cost}

module _ (i : InnerValue) where
  abbrev Taken : ℕ → InnerValue → Type 0
  Taken n j = TakesIdents n i j

  more : (n m : ℕ) (j : InnerValue) → n ≤ m → Taken n j → Taken m j
  more n m j up taken = let few = taken.few in record { count = taken.count; few = omega (arith, up, few); next = taken.next }

  same : (n : ℕ) (j j' : InnerValue) → j'.ident ≡ j.ident → Taken n j → Taken n j'
  same n j j' is taken = record { count = taken.count; few = taken.few; next = is ∙ taken.next }

  one : (n : ℕ) (j j' : InnerValue) → j'.ident ≡ (j.ident + 1) % 2 ^ 16 → Taken n j → Taken (n + 1) j'
  one n j j' is taken =
      let few = taken.few in
      record { count = suc taken.count; few = omega (arith, few); next = is ∙ ap (λ (k : ℕ). (k + 1) % 2 ^ 16) taken.next }

  none : (n : ℕ) (j j' : InnerValue) → j'.ident ≡ j.ident → Taken n j → Taken (n + 1) j'
  none n j j' is taken = more n (n + 1) j' (omega arith) (same n j j' is taken)

  gone : (n : ℕ) (j j' : InnerValue) (takes : Bool) → j'.ident ≡ cond takes ((j.ident + 1) % 2 ^ 16) j.ident → Taken n j → Taken (n + 1) j'
  gone n j j' true is taken = one n j j' is taken
  gone n j j' false is taken = none n j j' is taken

  by_outcome : (n : ℕ) (j j' : InnerValue) (plan : Plan) (sent : Sent) (h : IpRepr) → j'.ident ≡ ident_after plan sent h j.ident → Taken n j → Taken (n + 1) j'
  by_outcome n j j' plan Outcome.Gone h is taken = gone n j j' (takes_number plan h) is taken
  by_outcome n j j' plan Outcome.Dropped h is taken = none n j j' is taken
  by_outcome n j j' plan Outcome.Waits h is taken = none n j j' is taken
  by_outcome n j j' plan Outcome.Busy h is taken = none n j j' is taken
  by_outcome n j j' plan Outcome.Refused h is taken = none n j j' is taken

  counted : (t : ℤ) → IsHostCount t Taken
  counted t = record {
    more = more;
    begins = λ n j taken. same n j (at_instant t j) refl taken;
    arrives = λ n j j' settings taken. same n j j' settings.ident taken;
    goes = λ n j j' plan sent h is taken. by_outcome n j j' plan sent h (ap (λ (x : InnerValue). x.ident) is) taken;
    parks = λ n j p many taken. same n j (with_packet_parked j p) refl taken;
  }

pub polls_take : {D : Type 0} (moves : D → Move → D → Type 0) (t : ℤ) (budget : ℕ) (s s' : State D) (changed : Bool) → Polls moves t budget s changed s'
    → TakesIdents (budget * (most_parked s.host.inner + (1 + sockets_in s.slots))) s.host.inner s'.host.inner
polls_take {D} moves t budget s s' changed polls =
    let i : InnerValue = s.host.inner in
    let start : TakesIdents 0 i i = record { count = 0; few = omega arith; next = refl } in
    let parked : ℕ = most_parked s.host.inner in
    let cost : ℕ = budget * (1 + (parked + (0 + sockets_in s.slots))) in
    let most : cost ≤ budget * (parked + (1 + sockets_in s.slots)) = mul-le-mul_left budget (omega arith) in
    more i (0 + cost) (budget * (parked + (1 + sockets_in s.slots))) s'.host.inner (omega (arith, most))
    (polls_cost moves t 0 (λ (n : ℕ) (x : State D). TakesIdents n i x.host.inner)
    (hosts_priced moves t (λ (n : ℕ) (j : InnerValue). TakesIdents n i j) (counted i t) (λ n j k taken. same i n j (record j { parking = k }) refl taken)) budget 0 s s' changed start polls).0

-- without host requirements none is parked
pub polls_take_alone : {D : Type 0} (moves : D → Move → D → Type 0) (t : ℤ) (budget : ℕ) (s s' : State D) (changed : Bool)
    → s.host.inner.host_requirements ≡ false → Polls moves t budget s changed s'
    → TakesIdents (budget * (1 + sockets_in s.slots)) s.host.inner s'.host.inner
polls_take_alone moves t budget s s' changed alone polls =
    subst (λ (n : ℕ). TakesIdents (budget * n) s.host.inner s'.host.inner) (none_added (1 + sockets_in s.slots))
    (subst (λ (many : Bool). TakesIdents (budget * (most_if many (length s.host.inner.parking.packets) + (1 + sockets_in s.slots))) s.host.inner s'.host.inner) alone
    (polls_take moves t budget s s' changed polls))
