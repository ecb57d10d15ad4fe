-- One number is for one packet.
use Rattle.std.proofs.Common.{◌≡◌, inl, inr, ℕ, ◌+◌, ◌%◌, ◌^◌, ◌<◌, ◌≤◌, List, [], ◌∷◌, Option, None, Some, refl, sym, ◌∙◌, ap, subst, arith}
use Rattle.interface.specs.IpRepr.{IpRepr}
use Rattle.interface.specs.IpRepr.TheVariants as Ip
use Rattle.interface.specs.Ipv4Repr.{Ipv4Repr}
use Rattle.sockets.specs.Packet.{PacketValue}
use Rattle.lan.specs.Worlds.Link.Frames.{Outgoing, number_by, number_of, IsAmong, IsNumbered}
use Rattle.lan.specs.Worlds.Link.Numbers.{and_number, count_numbered, TakesNext, AreNumbered, AreFew}

next_of : (first count number next : ℕ) → number ≡ (first + count) % 2 ^ 16 → next ≡ (number + 1) % 2 ^ 16 → next ≡ (first + (count + 1)) % 2 ^ 16
next_of first count number next is after = omega arith

-- the next number is the first one and as many as were taken
pub next_is : (first : ℕ) (out : List Outgoing) (next : ℕ) → AreNumbered first out next → next ≡ (first + count_numbered out) % 2 ^ 16
next_is first [] next are = omega (arith, are.0, are.1)
next_is first (o ∷ out) next are =
    elim (number_of o) as (λ taken. TakesNext (AreNumbered first out) taken next → next ≡ (first + and_number taken (count_numbered out)) % 2 ^ 16) [
      | None ↦ λ takes. next_is first out next takes
      | Some n ↦ λ takes. next_of first (count_numbered out) n next (next_is first out n takes.0) takes.1
    ] are

-- the numbers before that of the head
abbrev Before : ℕ → List Outgoing → ℕ → Type 0
Before first out next = (before : ℕ) × AreNumbered first out before

takes_some : (first : ℕ) (out : List Outgoing) (next n : ℕ) (taken : Option ℕ) → taken ≡ Some n → TakesNext (AreNumbered first out) taken next →
    AreNumbered first out n
takes_some first out next n None is takes = absurd cc
takes_some first out next n (Some m) is takes = let e : m ≡ n = cc in subst (AreNumbered first out) e takes.0

takes_any : (first : ℕ) (out : List Outgoing) (next : ℕ) (taken : Option ℕ) → TakesNext (AreNumbered first out) taken next → Before first out next
takes_any first out next None takes = (next, takes)
takes_any first out next (Some n) takes = (n, takes.0)

pub more_numbers : (taken : Option ℕ) (n : ℕ) → n ≤ and_number taken n
more_numbers None n = omega arith
more_numbers (Some k) n = omega arith

one_more : (taken : Option ℕ) (k n : ℕ) → taken ≡ Some k → and_number taken n ≡ n + 1
one_more None k n is = absurd cc
one_more (Some m) k n is = refl

-- which number a packet has
pub record HasNumber (first : ℕ) (out : List Outgoing) (n : ℕ) : Type 0 where
  pub slot : ℕ
  pub below : slot < count_numbered out
  pub number : n ≡ (first + slot) % 2 ^ 16

slot_of : (first : ℕ) (out : List Outgoing) (next : ℕ) (p : PacketValue) (n : ℕ) → AreNumbered first out next → IsNumbered p n out → HasNumber first out n
slot_of first [] next p n are among = absurd among
slot_of first (o ∷ out) next p n are (inl is) =
    let before : AreNumbered first out n = takes_some first out next n (number_of o) is.1 are in
    record {
      slot = count_numbered out;
      below = omega (arith, one_more (number_of o) n (count_numbered out) is.1);
      number = next_is first out n before;
    }
slot_of first (o ∷ out) next p n are (inr older) =
    let before = takes_any first out next (number_of o) are in
    let has = slot_of first out before.0 p n before.1 older in
    record { slot = has.slot; below = omega (arith, has.below, more_numbers (number_of o) (count_numbered out)); number = has.number }

-- the newest packet's number isn't that of an older one
newest : (first : ℕ) (out : List Outgoing) (next : ℕ) (o : Outgoing) (p : PacketValue) (n : ℕ) → AreNumbered first (o ∷ out) next → AreFew (o ∷ out) →
    number_of o ≡ Some n → IsNumbered p n out → ⊥
newest first out next o p n are few is older =
    let before : AreNumbered first out n = takes_some first out next n (number_of o) is are in
    let has = slot_of first out n p n before older in
    let number = next_is first out n before in
    omega (arith, has.below, has.number, number, few, one_more (number_of o) n (count_numbered out) is)

-- packets of one number are one packet
pub one_number : (first : ℕ) (out : List Outgoing) (next : ℕ) (p q : PacketValue) (n : ℕ) → AreNumbered first out next → AreFew out →
    IsNumbered p n out → IsNumbered q n out → p ≡ q
one_number first [] next p q n are few one other = absurd one
one_number first (o ∷ out) next p q n are few (inl one) (inl other) = one.0 ∙ sym other.0
one_number first (o ∷ out) next p q n are few (inl one) (inr other) = absurd (newest first out next o q n are few one.1 other)
one_number first (o ∷ out) next p q n are few (inr one) (inl other) = absurd (newest first out next o p n are few other.1 one)
one_number first (o ∷ out) next p q n are few (inr one) (inr other) =
    let before = takes_any first out next (number_of o) are in
    one_number first out before.0 p q n before.1 (omega (arith, few, more_numbers (number_of o) (count_numbered out))) one other

-- the number of an IPv4 packet stands in its header
taken_v4 : (h : IpRepr) (v : Ipv4Repr) (cut_as : Option ℕ) → h ≡ Ip.Ipv4 v → number_by h cut_as ≡ Some v.ident
taken_v4 h v cut_as is = ap (λ (x : IpRepr). number_by x cut_as) is

pub numbered_v4 : (out : List Outgoing) (p : PacketValue) (v : Ipv4Repr) → IsAmong p out → p.header ≡ Ip.Ipv4 v → IsNumbered p v.ident out
numbered_v4 [] p v among is = absurd among
numbered_v4 (o ∷ out) p v (inl same) is = inl (same, taken_v4 o.packet.header v o.cut_as (sym (ap (λ (x : PacketValue). x.header) same) ∙ is))
numbered_v4 (o ∷ out) p v (inr older) is = inr (numbered_v4 out p v older is)

pub one_number_v4 : (first : ℕ) (out : List Outgoing) (next : ℕ) (p q : PacketValue) (v w : Ipv4Repr) → AreNumbered first out next → AreFew out →
    IsAmong p out → IsAmong q out → p.header ≡ Ip.Ipv4 v → q.header ≡ Ip.Ipv4 w → v.ident ≡ w.ident → p ≡ q
one_number_v4 first out next p q v w are few one other is_p is_q same =
    one_number first out next p q v.ident are few (numbered_v4 out p v one is_p)
    (subst (λ (n : ℕ). IsNumbered q n out) (sym same) (numbered_v4 out q w other is_q))
