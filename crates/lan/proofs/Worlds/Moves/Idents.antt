-- The next identification stays a number of 16 bits in a poll.
use Rattle.std.proofs.Common.{ℕ, ◌+◌, ◌%◌, ◌^◌, ◌<◌, ℤ, arith, Bool, true, false, cond, sym, ap, subst}
use Rattle.std.proofs.Math.Nat.{mod-lt}
use Rattle.ip_wire.specs.IpRepr.{IpRepr}
use Rattle.iface_tables.specs.Inner.{InnerValue}
use Rattle.iface_egress.specs.Departing.{takes_number, ident_after}
use Rattle.iface_egress.specs.declared.plan.Plan.{Plan}
use Rattle.iface_egress.specs.declared.egress_path.Sent.{Sent}
use Rattle.iface_egress.specs.declared.egress_path.Sent.TheVariants as Outcome
use Rattle.interface.proofs.HostCounts.{IsHostCount}

by_number : (n : ℕ) (takes : Bool) → n < 2 ^ 16 → cond takes ((n + 1) % 2 ^ 16) n < 2 ^ 16
by_number n true small = mod-lt (n + 1) (omega arith)
by_number n false small = small

-- after a packet's egress path
pub small_after : (n : ℕ) (plan : Plan) (sent : Sent) (h : IpRepr) → n < 2 ^ 16 → ident_after plan sent h n < 2 ^ 16
small_after n plan Outcome.Gone h small = by_number n (takes_number plan h) small
small_after n plan Outcome.Dropped h small = small
small_after n plan Outcome.Waits h small = small
small_after n plan Outcome.Busy h small = small
small_after n plan Outcome.Refused h small = small

-- it is one where it was one before the poll
abbrev pub StaysSmall : InnerValue → InnerValue → Type 0
StaysSmall i0 i = i0.ident < 2 ^ 16 → i.ident < 2 ^ 16

pub small_counted : (i0 : InnerValue) (t : ℤ) → IsHostCount t (λ n i. StaysSmall i0 i)
small_counted i0 t = record {
  more = λ n m i up small. small;
  begins = λ n i small. small;
  arrives = λ n i i' same small few. subst (λ (k : ℕ). k < 2 ^ 16) (sym same.ident) (small few);
  goes = λ n i i' plan sent h is small few.
      subst (λ (k : ℕ). k < 2 ^ 16) (sym (ap (λ (x : InnerValue). x.ident) is)) (small_after i.ident plan sent h (small few));
  parks = λ n i p many small. small;
}
