-- What was announced of the window, step by step: what a field tells, the payload and the FIN that are taken.
use Rattle.std.proofs.Common.{◌≡◌, ℕ, zero, suc, ◌+◌, ◌-◌, ◌*◌, ◌/◌, ◌%◌, ◌^◌, ◌<◌, ◌≤◌, ◌==◌, ◌||◌, nat_le, min, max, Bool, true, false}
use Rattle.std.proofs.Common.{if◌then◌else◌, List, [], ◌∷◌, length, Option, Some, None, refl, sym, ap, ◌∙◌, subst, arith}
use Rattle.std.proofs.lemmas.Bool.{cond_both, leb-true, leb-false}
use Rattle.std.proofs.lemmas.Nat.{div-add-mod', pow_pos}
use Rattle.std.proofs.Math.Nat.{mod-lt, mul-le-mul_right}
use Rattle.ip_wire.specs.IpListenEndpoint.{IpListenEndpoint}
use Rattle.ip_wire.specs.IpRepr.{IpRepr}
use Rattle.ip_wire.specs.Seq.{distance_of}
use Rattle.ip_wire.specs.SeqNumber.{SeqNumber}
use Rattle.ip_wire.specs.TcpControl.TheVariants as Control
use Rattle.ip_wire.specs.TcpHeader.{TcpHeader}
use Rattle.tcp_block.specs.Context.{ContextValue}
use Rattle.tcp_state.specs.Controls.{is_syn, is_rst}
use Rattle.tcp_state.specs.Endpoints.{pair_in}
use Rattle.tcp_state.specs.Offsets.{advanced_by}
use Rattle.tcp_state.specs.States.{is_opening, accepts_data, after_fin, after_ack, after_ack_of_fin}
use Rattle.tcp_state.specs.declared.state.State.{State}
use Rattle.tcp_state.specs.declared.state.State.TheVariants as In
use Rattle.tcp_ranges.specs.ReceiveMap.{space, front, following}
use Rattle.tcp_block.specs.Acknowledged.{state_after_ack, acks_fin}
use Rattle.tcp_block.specs.Answers.{acked}
use Rattle.tcp_block.specs.TcbRules.{local_scale, shift_of, is_worth_telling}
use Rattle.tcp_block.specs.Calls.{listening}
use Rattle.tcp_block.specs.Segments.{segment, sack_segment}
use Rattle.tcp_block.specs.Value.{TcpValue, queued_in, free_in, room_of, window_of}
use Rattle.tcp_block.specs.declared.tcb.Tcb.{Tcb}
use Rattle.tcp_invariants.specs.Edges.{answer_in, risen, furthest_with, KeepsRcvAdv}
use Rattle.tcp_invariants.specs.Ends.{is_over}
use Rattle.tcp_invariants.specs.Events.{is_past}
use Rattle.tcp_invariants.proofs.OrderSteps.{clash}

pub record RcvAdv : Type 0 where
  pub state : State
  pub next : SeqNumber
  pub took_syn : Bool
  pub rcv_adv : ℕ
  pub waiting : ℕ
  pub free : ℕ
  pub scale : Option ℕ

abbrev pub rcv_adv_of : TcpValue → RcvAdv
rcv_adv_of v = record {
  state = v.tcb.state;
  next = v.tcb.receiver.next;
  took_syn = v.tcb.receiver.took_syn;
  rcv_adv = v.tcb.receiver.rcv_adv;
  waiting = length v.received.waiting;
  free = free_in v;
  scale = v.tcb.peer.scale;
}

abbrev pub unit : RcvAdv → ℕ
unit e = 2 ^ shift_of e.scale (local_scale (e.waiting + e.free))

-- the furthest edge that was announced isn't past the one that is kept, nor past what a field can tell
pub record IsRcvAdv (capacity furthest : ℕ) (e : RcvAdv) : Type 0 where
  pub room : e.waiting + e.free ≡ capacity
  pub number : e.next.0 < 2 ^ 32
  pub opening : is_opening e.state ≡ true → e.scale ≡ None
  pub below : furthest ≤ e.rcv_adv
  pub told : furthest ≤ 65_535 * unit e
  pub within : e.rcv_adv ≤ e.free

pub transitive : (a b c : ℕ) → a ≤ b → b ≤ c → a ≤ c
transitive a b c e f = omega arith

pub least : (m : ℕ) → 0 ≤ m
least m = omega arith

pub less : (capacity f g : ℕ) (e : RcvAdv) → IsRcvAdv capacity f e → g ≤ f → IsRcvAdv capacity g e
less capacity f g e p small = record {
  room = p.room;
  number = p.number;
  opening = p.opening;
  below = transitive g f e.rcv_adv small p.below;
  told = transitive g f (65_535 * unit e) small p.told;
  within = p.within;
}

-- another state
pub in_state : (capacity f : ℕ) (e : RcvAdv) (state : State) → IsRcvAdv capacity f e → (is_opening state ≡ true → is_opening e.state ≡ true) →
    IsRcvAdv capacity f (record e { state = state })
in_state capacity f e state p opens = record {
  room = p.room;
  number = p.number;
  opening = λ is. p.opening (opens is);
  below = p.below;
  told = p.told;
  within = p.within;
}

pub minus_least : (f k : ℕ) → f - k ≤ f
minus_least f k = omega arith

pub over_least : (t : Bool) (f : ℕ) → (if t then 0 else f) ≤ f
over_least true f = least f
over_least false f = omega arith

-- WHAT A FIELD TELLS

-- between the edge that is kept and the free space
pub announced_between : (t : Bool) (rcv_adv free : ℕ) → rcv_adv ≤ free → (rcv_adv ≤ (if t then free else min rcv_adv free)) × ((if t then free else min rcv_adv free) ≤ free)
announced_between true rcv_adv free within = (within, omega arith)
announced_between false rcv_adv free within = (omega (arith, within), omega (arith, within))

-- a field tells so much space, but less than a unit of it, as far as it can
pub told_near : (space u seen : ℕ) → 1 ≤ u → seen ≤ space → seen ≤ 65_535 * u
    → (min (space / u) 65_535 * u ≤ space) × (min (space / u) 65_535 * u ≤ 65_535 * u) × (seen < min (space / u) 65_535 * u + u)
told_near space u seen some below most = at (nat_le (space / u) 65_535) refl where
  parts : space / u * u + space % u ≡ space
  parts = div-add-mod' space u

  rest : space % u < u
  rest = mod-lt space some

  low : (d : ℕ) → d ≤ 65_535 → min d 65_535 ≡ d
  low d e = omega arith

  high : (d : ℕ) → 65_535 < d → min d 65_535 ≡ 65_535
  high d e = omega arith

  within : (told rest all u seen : ℕ) → told + rest ≡ all → rest < u → seen ≤ all → (told ≤ all) × (seen < told + u)
  within told rest all u seen e f g = (omega arith, omega arith)

  past : (told seen u : ℕ) → seen ≤ told → 1 ≤ u → seen < told + u
  past told seen u e f = omega arith

  shrinks : (told rest all most : ℕ) → told + rest ≡ all → most ≤ told → most ≤ all
  shrinks told rest all most e f = omega arith

  at : (t : Bool) → nat_le (space / u) 65_535 ≡ t
      → (min (space / u) 65_535 * u ≤ space) × (min (space / u) 65_535 * u ≤ 65_535 * u) × (seen < min (space / u) 65_535 * u + u)
  at true e =
      let small = leb-true (space / u) 65_535 e in
      let near = within (space / u * u) (space % u) space u seen parts rest below in
      subst (λ (d : ℕ). (d * u ≤ space) × (d * u ≤ 65_535 * u) × (seen < d * u + u)) (sym (low (space / u) small))
      (near.0, mul-le-mul_right u small, near.1)
  at false e =
      let large = leb-false (space / u) 65_535 e in
      subst (λ (d : ℕ). (d * u ≤ space) × (d * u ≤ 65_535 * u) × (seen < d * u + u)) (sym (high (space / u) large)) (
        shrinks (space / u * u) (space % u) space (65_535 * u) parts (mul-le-mul_right u (below_of (space / u) large)),
        omega arith,
        past (65_535 * u) seen u most some,
      )
    where
      below_of : (d : ℕ) → 65_535 < d → 65_535 ≤ d
      below_of d e = omega arith

-- A SEGMENT GOES

-- what is kept is no less than what was announced
pub kept_rcv_adv : (rcv_adv free told u seen : ℕ) → seen ≤ rcv_adv → rcv_adv ≤ free → told ≤ free → seen < told + u
    → (max seen told ≤ max told (min rcv_adv (told + (u - 1)))) × (max told (min rcv_adv (told + (u - 1))) ≤ free)
kept_rcv_adv rcv_adv free told u seen below within small near = (omega arith, omega arith)

pub larger : (a b c : ℕ) → a ≤ c → b ≤ c → max a b ≤ c
larger a b c e f = omega arith

-- of a segment with this field, a SYN or not, a reset or not
abbrev pub KeepsWith : ℕ → Bool → Bool → ℕ → ℕ → Type 0
KeepsWith seen syn rst window u =
    (rst ≡ false → syn ≡ false → seen < (if syn then window else window * u) + u) × (syn ≡ true → min seen 65_535 ≤ (if syn then window else window * u))

module _ (capacity seen : ℕ) (e : RcvAdv) (p : IsRcvAdv capacity seen e) (t : Bool) (state : State) (same : is_opening state ≡ true →
    is_opening e.state ≡ true) where
  abbrev space_told : ℕ
  space_told = if t then e.free else min e.rcv_adv e.free

  abbrev field : ℕ
  field = min (space_told / unit e) 65_535

  some : 1 ≤ unit e
  some = pow_pos (shift_of e.scale (local_scale (e.waiting + e.free)))

  between : (e.rcv_adv ≤ space_told) × (space_told ≤ e.free)
  between = announced_between t e.rcv_adv e.free p.within

  near : (field * unit e ≤ space_told) × (field * unit e ≤ 65_535 * unit e) × (seen < field * unit e + unit e)
  near = told_near space_told (unit e) seen some (transitive seen e.rcv_adv space_told p.below between.0) p.told

  pub plain_goes : (syn rst : Bool) → syn ≡ false
      → KeepsWith seen syn rst field (unit e)
      × IsRcvAdv capacity (if rst then seen else max seen (if syn then field else field * unit e))
      (record e { state = state; rcv_adv = if syn then e.waiting + e.free else max (field * unit e) (min e.rcv_adv (field * unit e + (unit e - 1))) })
  plain_goes true rst is = clash is
  plain_goes false rst is = (
    keeps rst,
    less capacity (max seen (field * unit e)) (if rst then seen else max seen (field * unit e))
        (record e { state = state; rcv_adv = max (field * unit e) (min e.rcv_adv (field * unit e + (unit e - 1))) })
        (record {
          room = p.room;
          number = p.number;
          opening = λ is. p.opening (same is);
          below = kept.0;
          told = larger seen (field * unit e) (65_535 * unit e) p.told near.1;
          within = kept.1;
        })
        (lesser rst seen (field * unit e)),
  )
    where
      kept : (max seen (field * unit e) ≤ max (field * unit e) (min e.rcv_adv (field * unit e + (unit e - 1)))) ×
          (max (field * unit e) (min e.rcv_adv (field * unit e + (unit e - 1))) ≤ e.free)
      kept = kept_rcv_adv e.rcv_adv e.free (field * unit e) (unit e) seen p.below p.within (transitive (field * unit e) space_told e.free near.0 between.1) near.2

      lesser : (rst : Bool) (a b : ℕ) → (if rst then a else max a b) ≤ max a b
      lesser true a b = omega arith
      lesser false a b = omega arith

      no_syn : false ≡ true → min seen 65_535 ≤ field * unit e
      no_syn e = clash (sym e)

      keeps : (rst : Bool) → KeepsWith seen false rst field (unit e)
      keeps rst = ((λ _ _. near.2), no_syn)

-- a SYN tells of an empty buffer what it can, and all of it is kept
pub syn_goes : (capacity seen : ℕ) (e : RcvAdv) → IsRcvAdv capacity seen e → e.waiting ≡ 0
    → KeepsWith seen true false (min e.free 65_535) (unit e) × IsRcvAdv capacity (max seen (min e.free 65_535)) (record e { rcv_adv = e.waiting + e.free })
syn_goes capacity seen e p none = (
  ((λ _ no. clash no), (λ _. told seen e.rcv_adv e.free p.below p.within)),
  record {
    room = p.room;
    number = p.number;
    opening = p.opening;
    below = below seen e.rcv_adv e.waiting e.free p.below p.within;
    told = larger seen (min e.free 65_535) (65_535 * unit e) p.told (field e.free (unit e) (pow_pos (shift_of e.scale (local_scale (e.waiting + e.free)))));
    within = within e.waiting e.free none;
  },
)
  where
    told : (seen rcv_adv free : ℕ) → seen ≤ rcv_adv → rcv_adv ≤ free → min seen 65_535 ≤ min free 65_535
    told seen rcv_adv free e f = omega arith

    below : (seen rcv_adv waiting free : ℕ) → seen ≤ rcv_adv → rcv_adv ≤ free → max seen (min free 65_535) ≤ waiting + free
    below seen rcv_adv waiting free e f = omega arith

    field : (free u : ℕ) → 1 ≤ u → min free 65_535 ≤ 65_535 * u
    field free u e = omega (arith, e)

    within : (waiting free : ℕ) → waiting ≡ 0 → waiting + free ≤ free
    within waiting free e = omega arith

-- THE EVENTS

pub small_number : (a : SeqNumber) (n : ℕ) → (advanced_by a n).0 < 2 ^ 32
small_number a n = omega arith

pub own_distance : (a : SeqNumber) → a.0 < 2 ^ 32 → distance_of a a ≡ 0
own_distance a small = omega (arith, small)

pub near_distance : (a : SeqNumber) (n : ℕ) → a.0 < 2 ^ 32 → n < 2 ^ 32 → distance_of a (advanced_by a n) ≡ n
near_distance a n small near = omega (arith, small, near)

-- what an event leads to and the segment that goes with it, of a socket with this furthest edge
abbrev pub Out : ℕ → ℕ → TcpValue → TcpValue → Option TcpHeader → Type 0
Out capacity f v w segment =
    KeepsRcvAdv (f - risen v.tcb w.tcb) w segment
    × IsRcvAdv capacity (if is_over w.tcb.state then 0 else furthest_with (f - risen v.tcb w.tcb) w segment) (rcv_adv_of w)

pub none_out : (capacity f : ℕ) (v w : TcpValue) → IsRcvAdv capacity (f - risen v.tcb w.tcb) (rcv_adv_of w) → Out capacity f v w None
none_out capacity f v w p = (tt, less capacity (f - risen v.tcb w.tcb) _ (rcv_adv_of w) p (over_least (is_over w.tcb.state) (f - risen v.tcb w.tcb)))

pub over_out : (capacity f : ℕ) (v w : TcpValue) → is_over w.tcb.state ≡ true → IsRcvAdv capacity 0 (rcv_adv_of w) → Out capacity f v w None
over_out capacity f v w over p = (tt, subst (λ (t : Bool). IsRcvAdv capacity (if t then 0 else f - risen v.tcb w.tcb) (rcv_adv_of w)) (sym over) p)

pub reset_out : (capacity f : ℕ) (v w : TcpValue) (segment : TcpHeader) → segment.control ≡ Control.Rst →
    IsRcvAdv capacity (f - risen v.tcb w.tcb) (rcv_adv_of w)
    → Out capacity f v w (Some segment)
reset_out capacity f v w segment rst p = (
  ((λ no _. clash (sym (ap is_rst rst) ∙ no)), (λ syn. clash (sym syn ∙ ap is_syn rst))),
  less capacity (f - risen v.tcb w.tcb) _ (rcv_adv_of w) p
      (transitive _ _ _ (over_least (is_over w.tcb.state) _) (same_or (is_rst segment.control) (f - risen v.tcb w.tcb) _ (ap is_rst rst))),
)
  where
    same_or : (t : Bool) (a b : ℕ) → t ≡ true → (if t then a else b) ≤ a
    same_or true a b e = omega arith
    same_or false a b e = clash (sym e)

pub some_out : (capacity f : ℕ) (v w : TcpValue) (segment : TcpHeader) → KeepsRcvAdv (f - risen v.tcb w.tcb) w (Some segment)
    → IsRcvAdv capacity (furthest_with (f - risen v.tcb w.tcb) w (Some segment)) (rcv_adv_of w) → Out capacity f v w (Some segment)
some_out capacity f v w segment keeps p =
    (keeps, less capacity (furthest_with (f - risen v.tcb w.tcb) w (Some segment)) _ (rcv_adv_of w) p (over_least (is_over w.tcb.state) _))

-- RCV.NXT stays
pub stays_least : (f : ℕ) (t : Bool) (a : SeqNumber) → (f - (if t then distance_of a a else 0)) ≤ f
stays_least f true a = minus_least f (distance_of a a)
stays_least f false a = minus_least f 0

-- an acknowledgement of all that came answers, of a socket that is as the event left it
pub acked_out : (capacity f : ℕ) (cx : ContextValue) (v x : TcpValue) (ip : IpRepr) (header : TcpHeader) (ranges : List (Option (ℕ × ℕ)))
    → IsRcvAdv capacity (f - risen v.tcb x.tcb) (rcv_adv_of x)
    → Out capacity f v (acked cx x ip header ranges).socket (answer_in (acked cx x ip header ranges).answer)
acked_out capacity f cx v x ip header ranges p =
    let goes =
    plain_goes capacity (f - risen v.tcb x.tcb) (rcv_adv_of x) p
    ((length x.received.waiting == 0) || is_worth_telling x.tcb (room_of x.received) (free_in x)) x.tcb.state (λ e. e) false false refl in
    some_out capacity f v (acked cx x ip header ranges).socket (sack_segment x.tcb (pair_in ip header) cx.instant (window_of x) ranges) goes.0 goes.1

pub listens_rcv_adv : (capacity : ℕ) (v : TcpValue) (endpoint : IpListenEndpoint) (f : ℕ) → IsRcvAdv capacity f (rcv_adv_of v) →
    IsRcvAdv capacity 0 (rcv_adv_of (listening v endpoint))
listens_rcv_adv capacity v endpoint f p = record {
  room = none_waits (length (space (room_of v.received))) (room_of v.received) capacity (length-space (room_of v.received)) p.room;
  number = omega arith;
  opening = λ e. clash (sym e);
  below = omega arith;
  told = least _;
  within = least _;
}
  where
    none_waits : (a b c : ℕ) → a ≡ b → b ≡ c → 0 + a ≡ c
    none_waits a b c e f = omega arith

    length-space : (n : ℕ) → length (space n) ≡ n
    length-space zero = refl
    length-space (suc n) = ap suc (length-space n)

-- TEXT AND FIN

pub front_following : (map : List (Option ℕ)) → length (front map) + length (following map) ≡ length map
front_following [] = refl
front_following (None ∷ map) = omega arith
front_following (Some byte ∷ map) = let rest = front_following map in omega (arith, rest)

-- so much payload is taken in order
pub payload_rcv_adv :
    (capacity f : ℕ) (e : RcvAdv) (a waiting free : ℕ) → IsRcvAdv capacity f e → waiting ≡ e.waiting + a → a + free ≡ e.free
    → IsRcvAdv capacity (f - a) (record e { next = advanced_by e.next a; rcv_adv = e.rcv_adv - a; waiting = waiting; free = free })
payload_rcv_adv capacity f e a waiting free p more split = record {
  room = sym same ∙ p.room;
  number = small_number e.next a;
  opening = p.opening;
  below = minus f e.rcv_adv a p.below;
  told = transitive (f - a) f _ (minus_least f a) (subst (λ (n : ℕ). f ≤ 65_535 * 2 ^ shift_of e.scale (local_scale n)) same p.told);
  within = within e.rcv_adv e.free a free p.within split;
}
  where
    same : e.waiting + e.free ≡ waiting + free
    same = sum e.waiting e.free a waiting free more split where
      sum : (w f a v g : ℕ) → v ≡ w + a → a + g ≡ f → w + f ≡ v + g
      sum w f a v g e h = omega arith

    minus : (f rcv_adv a : ℕ) → f ≤ rcv_adv → f - a ≤ rcv_adv - a
    minus f rcv_adv a e = omega arith

    within : (rcv_adv all a free : ℕ) → rcv_adv ≤ all → a + free ≡ all → rcv_adv - a ≤ free
    within rcv_adv all a free e f = omega arith

-- the FIN is taken
pub fin_rcv_adv :
    (capacity f : ℕ) (e : RcvAdv) (state : State) → IsRcvAdv capacity f e → is_opening state ≡ false
    → IsRcvAdv capacity (f - 1) (record e { state = state; next = advanced_by e.next 1; rcv_adv = e.rcv_adv - 1 })
fin_rcv_adv capacity f e state p later = record {
  room = p.room;
  number = small_number e.next 1;
  opening = λ is. clash (sym is ∙ later);
  below = minus f e.rcv_adv p.below;
  told = transitive (f - 1) f (65_535 * unit e) (minus_least f 1) p.told;
  within = within e.rcv_adv e.free p.within;
}
  where
    minus : (f rcv_adv : ℕ) → f ≤ rcv_adv → f - 1 ≤ rcv_adv - 1
    minus f rcv_adv e = omega arith

    within : (rcv_adv free : ℕ) → rcv_adv ≤ free → rcv_adv - 1 ≤ free
    within rcv_adv free e = omega arith

pub risen_is : (old new : Tcb) (n : ℕ) → old.receiver.took_syn ≡ true → old.receiver.next.0 < 2 ^ 32 → n < 2 ^ 32 →
    new.receiver.next ≡ advanced_by old.receiver.next n → risen old new ≡ n
risen_is old new n took small near is =
    ap (λ (t : Bool). if t then distance_of old.receiver.next new.receiver.next else 0) took
    ∙ ap (λ (m : SeqNumber). distance_of old.receiver.next m) is ∙ near_distance old.receiver.next n small near

pub following_twice : (a : SeqNumber) (n m : ℕ) → advanced_by (advanced_by a n) m ≡ advanced_by a (n + m)
following_twice a n m = ap (λ (k : ℕ). record { 0 = k }) (at a.0 n m) where
  at : (k n m : ℕ) → ((k + n) % 2 ^ 32 + m) % 2 ^ 32 ≡ (k + (n + m)) % 2 ^ 32
  at k n m = omega arith

pub fin_later : (state : State) → accepts_data state ≡ true → is_opening (after_fin state) ≡ false
fin_later In.Established e = refl
fin_later In.FinWait1 e = refl
fin_later In.FinWait2 e = refl
fin_later other e = clash (sym e)

-- the states after an acknowledgement
pub ack_later : (state : State) → is_past state ≡ true → is_opening (after_ack state) ≡ false
ack_later In.Closed e = clash (sym e)
ack_later In.Listen e = clash (sym e)
ack_later In.SynSent e = clash (sym e)
ack_later other e = refl

pub ack_of_fin_later : (state : State) → is_past state ≡ true → is_opening (after_ack_of_fin state) ≡ false
ack_of_fin_later In.Closed e = clash (sym e)
ack_of_fin_later In.Listen e = clash (sym e)
ack_of_fin_later In.SynSent e = clash (sym e)
ack_of_fin_later other e = refl

pub after_later : (u : TcpValue) (by : ℕ) → is_past u.tcb.state ≡ true → is_opening (state_after_ack u.tcb by (queued_in u)) ≡ false
after_later u by past =
    cond_both (acks_fin u.tcb by (queued_in u)) (after_ack_of_fin u.tcb.state) (after_ack u.tcb.state) (λ (s : State). is_opening s ≡ false)
    (λ _. ack_of_fin_later u.tcb.state past) (λ _. ack_later u.tcb.state past)
