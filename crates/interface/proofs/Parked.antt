-- Packets that wait for their next hops leave, or wait on.
use Rattle.std.proofs.Common.{◌≡◌, ℕ, ◌+◌, ◌≤◌, Bool, true, false, ◌⊎◌, inl, inr, List, [], ◌∷◌, ◌++◌, length, is_some, sym, ap, subst}
use Rattle.std.proofs.Common.{arith}
use Rattle.std.proofs.lemmas.List.{length-append}
use Rattle.net_base.specs.Device.{Move, Allowed}
use Rattle.iface_ingress.specs.Packet.{PacketValue}
use Rattle.iface_tables.specs.Parking.{ParkedValue, ParkingValue, empty_parking}
use Rattle.iface_egress.specs.IsTransmitted.{IsTransmitted}
use Rattle.iface_egress.specs.Parked.{GoesOn, LeavesBy, ServesEach, ServesParked, lent, packet_in}
use Rattle.iface_egress.specs.Parked as Parking
use Rattle.iface_egress.specs.Plan.{plan_of}
use Rattle.iface_egress.specs.declared.plan.Plan.{Plan}
use Rattle.iface_egress.specs.declared.plan.Plan.TheVariants as Way
use Rattle.iface_egress.specs.declared.egress_path.Sent.{Sent}
use Rattle.iface_egress.specs.declared.egress_path.Sent.TheVariants as Outcome
use Rattle.interface.specs.Host.{Sender}

-- a sender with other packets that wait
abbrev pub with_parking : {D : Type 0} → ParkingValue → Sender D → Sender D
with_parking k x = record x { inner = record x.inner { parking = k } }

module _ {D : Type 0} (moves : D → Move → D → Type 0) where
  -- what becomes of one: nothing, or the device gives no leave, or it goes by its plan
  abbrev pub LeftBy : Plan → Sender D → PacketValue → Sent → Sender D → Type 0
  LeftBy plan x p sent x' =
      (x' ≡ x)
      ⊎ ((moves x.device (Allowed x.inner.instant false) x'.device × (x'.inner ≡ x.inner) × (x'.left ≡ x.left) × (sent ≡ Outcome.Refused))
      ⊎ ((mid : D) × moves x.device (Allowed x.inner.instant true) mid
      × IsTransmitted moves mid x.inner x.left p plan sent x'.device x'.inner x'.left))

  pub left_by : (plan : Plan) (x : Sender D) (p : PacketValue) (sent : Sent) (x' : Sender D) → LeavesBy moves plan x p sent x' → LeftBy plan x p sent x'
  left_by Way.Wait x p sent x' leaves = inl leaves.1
  left_by Way.Busy x p sent x' leaves = inl leaves.1
  left_by Way.NoRoute x p sent x' leaves = inl leaves.1
  left_by Way.Drop x p sent x' leaves = inl leaves.1
  left_by (Way.Ask query) x p sent x' leaves = inr leaves
  left_by (Way.Go to) x p sent x' leaves = inr leaves
  left_by (Way.Cut to) x p sent x' leaves = inr leaves

  abbrev pub HasLeft : Sender D → PacketValue → Sent → Sender D → Type 0
  HasLeft x p sent x' = LeftBy (plan_of x.inner (is_some x.left) p.header) x p sent x'

-- WHAT ALL OF THEM KEEP

module _ {D : Type 0} (moves : D → Move → D → Type 0) (Q : ℕ → Sender D → Type 0) (more : (n m : ℕ) (x : Sender D) → n ≤ m → Q n x → Q m x)
    (goes : (n : ℕ) (x x' : Sender D) (p : PacketValue) (sent : Sent) → Q n x → HasLeft moves x p sent x' → Q (n + 1) x') where
  one_goes : (n : ℕ) (x x' : Sender D) (p : PacketValue) (sent : Sent) → Q n x → Parking.Leaves moves x p sent x' → Q (n + 1) x'
  one_goes n x x' p sent holds leaves = goes n x x' p sent holds (left_by moves (plan_of x.inner (is_some x.left) p.header) x p sent x' leaves)

  -- each costs one at most
  pub each_goes : (rest kept : List ParkedValue) (n : ℕ) (x : Sender D) (all : Bool) (x' : Sender D) (left : List ParkedValue) → Q n x →
      ServesEach moves rest kept x all x' left → Q (n + length rest) x'
  each_goes [] kept n x all x' left holds serves = more n (n + 0) x' (omega arith) (subst (Q n) (sym serves.1) holds)
  each_goes (k ∷ rest) kept n x all x' left holds serves =
      by serves.0 (one_goes n x serves.1 (packet_in k) serves.0 holds serves.2) serves.3
      (λ on now later. each_goes rest on (n + 1) serves.1 all x' left now later) where
        so_far : Q (n + 1 + length rest) x' → Q (n + length (k ∷ rest)) x'
        so_far so = more (n + 1 + length rest) (n + length (k ∷ rest)) x' (omega arith) so

        by : (sent : Sent) → Q (n + 1) serves.1 → GoesOn moves sent (ServesEach moves rest kept serves.1 all x' left)
            (ServesEach moves rest (kept ++ k ∷ []) serves.1 all x' left) ((all ≡ false) × (x' ≡ serves.1) × (left ≡ kept ++ k ∷ rest))
            → ((on : List ParkedValue) → Q (n + 1) serves.1 → ServesEach moves rest on serves.1 all x' left → Q (n + 1 + length rest) x')
            → Q (n + length (k ∷ rest)) x'
        by Outcome.Gone now later further = so_far (further kept now later)
        by Outcome.Dropped now later further = so_far (further kept now later)
        by Outcome.Waits now later further = so_far (further (kept ++ k ∷ []) now later)
        by Outcome.Busy now later further = so_far (further (kept ++ k ∷ []) now later)
        by Outcome.Refused now later further =
            more (n + 1) (n + length (k ∷ rest)) x' (omega arith) (subst (Q (n + 1)) (sym later.1) now)

  -- what waits isn't counted
  pub parked_go : (parking : (n : ℕ) (x : Sender D) (k : ParkingValue) → Q n x → Q n (with_parking k x)) (n : ℕ) (x x' : Sender D) (all : Bool) → Q n x →
      ServesParked moves x all x' → Q (n + length x.inner.parking.packets) x'
  parked_go parking n x x' all holds serves =
      let most : ℕ = n + length x.inner.parking.packets in
      let end : Q most serves.0 =
      each_goes x.inner.parking.packets [] n (lent moves x) all serves.0 serves.1 (parking n x (empty_parking 0) holds) serves.2 in
      subst (Q most) (sym serves.3) (parking most serves.0 (record { packets = serves.1; room = x.inner.parking.room }) end)

-- the same of what doesn't count
module _ {D : Type 0} (moves : D → Move → D → Type 0) (P : Sender D → Type 0)
    (goes : (x x' : Sender D) (p : PacketValue) (sent : Sent) → P x → HasLeft moves x p sent x' → P x')
    (parking : (x : Sender D) (k : ParkingValue) → P x → P (with_parking k x)) where
  pub parked_keep : (x x' : Sender D) (all : Bool) → P x → ServesParked moves x all x' → P x'
  parked_keep x x' all holds serves =
      parked_go moves (λ (n : ℕ) (y : Sender D). P y) (λ n m y up so. so) (λ n y y' p sent so left. goes y y' p sent so left) (λ n y k so. parking y k so)
      0 x x' all holds serves

-- no more wait than before
pub fewer_wait : {D : Type 0} (moves : D → Move → D → Type 0) (rest kept : List ParkedValue) (x : Sender D) (all : Bool) (x' : Sender D)
    (left : List ParkedValue) → ServesEach moves rest kept x all x' left → length left ≤ length kept + length rest
fewer_wait moves [] kept x all x' left serves = let same = ap (λ (ps : List ParkedValue). length ps) serves.2 in omega (arith, same)
fewer_wait {D} moves (k ∷ rest) kept x all x' left serves =
    by serves.0 serves.3 (λ on later. fewer_wait moves rest on serves.1 all x' left later)
  where
    one_more : length left ≤ length (kept ++ k ∷ []) + length rest → length left ≤ length kept + length (k ∷ rest)
    one_more few = let same = length-append kept (k ∷ []) in omega (arith, few, same)

    all_stay : left ≡ kept ++ k ∷ rest → length left ≤ length kept + length (k ∷ rest)
    all_stay is =
        let same = ap (λ (ps : List ParkedValue). length ps) is in
        let parts = length-append kept (k ∷ rest) in
        omega (arith, same, parts)

    by : (sent : Sent) → GoesOn moves sent (ServesEach moves rest kept serves.1 all x' left)
        (ServesEach moves rest (kept ++ k ∷ []) serves.1 all x' left) ((all ≡ false) × (x' ≡ serves.1) × (left ≡ kept ++ k ∷ rest))
        → ((on : List ParkedValue) → ServesEach moves rest on serves.1 all x' left → length left ≤ length on + length rest)
        → length left ≤ length kept + length (k ∷ rest)
    by Outcome.Gone later further = let few = further kept later in omega (arith, few)
    by Outcome.Dropped later further = let few = further kept later in omega (arith, few)
    by Outcome.Waits later further = one_more (further (kept ++ k ∷ []) later)
    by Outcome.Busy later further = one_more (further (kept ++ k ∷ []) later)
    by Outcome.Refused later further = all_stay later.2
