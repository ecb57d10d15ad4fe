-- What the limit on errors leaves as it is.
use Rattle.std.proofs.Common.{◌≡◌, Bool, true, false, if◌then◌else◌, Option, Some, None, refl}
use Rattle.std.specs.Prelude.{IfSome}
use Rattle.socket_context.specs.Packet.{PacketValue}
use Rattle.iface_tables.specs.Inner.{InnerValue, may_tell, with_error}
use Rattle.iface_ingress.specs.Processed.{if_it_may, let_go, counted}

-- THE ANSWER

if_it_may_so : (P : PacketValue → Type 0) (i : InnerValue) (reply : Option PacketValue) → IfSome reply P → IfSome (if_it_may i reply) P
if_it_may_so P i None so = tt
if_it_may_so P i (Some p) so = elim (may_tell i) as (λ b. IfSome (if b then Some p else None) P) [ true ↦ so | false ↦ tt ]

-- what holds of an answer holds of it where it goes
pub let_go_so : (P : PacketValue → Type 0) (unclaimed : Bool) (i : InnerValue) (reply : Option PacketValue) → IfSome reply P →
    IfSome (let_go unclaimed i reply) P
let_go_so P true i reply so = if_it_may_so P i reply so
let_go_so P false i reply so = so

-- where one more may go it goes
if_allowed : (goes : Bool) (p : PacketValue) → goes ≡ true → (if goes then Some p else None) ≡ Some p
if_allowed true p is = refl
if_allowed false p is = absurd (cc is)

pub let_go_same : (unclaimed : Bool) (i : InnerValue) (reply : Option PacketValue) → may_tell i ≡ true → let_go unclaimed i reply ≡ reply
let_go_same true i None may = refl
let_go_same true i (Some p) may = if_allowed (may_tell i) p may
let_go_same false i reply may = refl

-- what somebody takes is answered, and nothing is counted
pub let_go_claimed : (unclaimed : Bool) (i : InnerValue) (reply : Option PacketValue) (after : InnerValue) → unclaimed ≡ false →
    (let_go unclaimed i reply ≡ reply) × (counted unclaimed i reply after ≡ after)
let_go_claimed true i reply after is = absurd (cc is)
let_go_claimed false i reply after is = (refl, refl)

-- what goes is counted
if_went : (goes : Bool) (q p : PacketValue) (one other : InnerValue) → (if goes then Some q else None) ≡ Some p → (if goes then one else other) ≡ one
if_went true q p one other is = refl
if_went false q p one other is = absurd (cc is)

pub let_go_counted : (unclaimed : Bool) (i : InnerValue) (reply : Option PacketValue) (after : InnerValue) (p : PacketValue) → unclaimed ≡ true →
    let_go unclaimed i reply ≡ Some p → counted unclaimed i reply after ≡ with_error after
let_go_counted true i None after p is goes = absurd (cc goes)
let_go_counted true i (Some q) after p is goes = if_went (may_tell i) q p (with_error after) after goes
let_go_counted false i reply after p is goes = absurd (cc is)

-- where none may go none does, and nothing is counted
if_stopped : (goes : Bool) (p : PacketValue) (one other : InnerValue) → goes ≡ false →
    ((if goes then Some p else None) ≡ None) × ((if goes then one else other) ≡ other)
if_stopped true p one other is = absurd (cc is)
if_stopped false p one other is = (refl, refl)

pub let_go_nothing : (unclaimed : Bool) (i : InnerValue) (reply : Option PacketValue) (after : InnerValue) → unclaimed ≡ true → may_tell i ≡ false →
    (let_go unclaimed i reply ≡ None) × (counted unclaimed i reply after ≡ after)
let_go_nothing true i None after is not_now = (refl, refl)
let_go_nothing true i (Some p) after is not_now = if_stopped (may_tell i) p (with_error after) after not_now
let_go_nothing false i reply after is not_now = absurd (cc is)

-- THE HOST

-- what holds of a host holds of it after an error, if no error changes it
pub counted_so : (P : InnerValue → Type 0) (unclaimed : Bool) (i : InnerValue) (reply : Option PacketValue) (after : InnerValue) → P after →
    P (with_error after) → P (counted unclaimed i reply after)
counted_so P false i reply after so error = so
counted_so P true i None after so error = so
counted_so P true i (Some p) after so error = elim (may_tell i) as (λ b. P (if b then with_error after else after)) [ true ↦ error | false ↦ so ]

pub counted_neighbors : (unclaimed : Bool) (i : InnerValue) (reply : Option PacketValue) (after : InnerValue) →
    (counted unclaimed i reply after).neighbors ≡ after.neighbors
counted_neighbors unclaimed i reply after = counted_so (λ (x : InnerValue). x.neighbors ≡ after.neighbors) unclaimed i reply after refl refl
