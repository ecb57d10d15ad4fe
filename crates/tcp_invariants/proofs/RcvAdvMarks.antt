-- What is kept of the announced edge: one that each segment tells.
use Rattle.std.proofs.Common.{◌≡◌, ℕ, ◌+◌, ◌-◌, ◌*◌, ◌/◌, ◌%◌, ◌^◌, ◌<◌, ◌≤◌, ◌==◌, ◌||◌, nat_le, min, max, Bool, true, false}
use Rattle.std.proofs.Common.{if◌then◌else◌, length, Option, Some, None, refl, sym, ap, ◌∙◌, subst, arith}
use Rattle.std.proofs.lemmas.Bool.{cond_both, leb-true, eqb-true}
use Rattle.std.proofs.lemmas.Nat.{div-add-mod', pow_pos}
use Rattle.std.proofs.Math.Nat.{mul-le-mul_right}
use Rattle.ip_wire.specs.SeqNumber.{SeqNumber}
use Rattle.ip_wire.specs.TcpControl.{TcpControl}
use Rattle.ip_wire.specs.TcpControl.TheVariants as Control
use Rattle.ip_wire.specs.TcpHeader.{TcpHeader}
use Rattle.ip_wire.specs.Seq.{distance_of}
use Rattle.tcp_state.specs.Controls.{is_syn, is_rst, or_mss}
use Rattle.tcp_state.specs.States.{is_closed, is_listening, is_opening}
use Rattle.tcp_state.specs.declared.state.State.{State}
use Rattle.tcp_state.specs.declared.state.State.TheVariants as In
use Rattle.tcp_block.specs.TcbRules.{local_scale, shift_of, local_shift, rcv_adv_after, announced}
use Rattle.tcp_block.specs.Segments.{segment}
use Rattle.tcp_block.specs.Value.{TcpValue, free_in, room_of, window_of}
use Rattle.tcp_block.specs.Value as value
use Rattle.tcp_block.specs.declared.tcb.Tcb.{Tcb}
use Rattle.tcp_invariants.specs.RcvAdvMoves.{least_move, Tells, MovesTo, mss_with, unless_over}
use Rattle.tcp_invariants.specs.Edges.{unit_of, risen}
use Rattle.tcp_invariants.specs.Ends.{is_over}
use Rattle.tcp_invariants.proofs.RcvAdvSteps.{own_distance, least, transitive}
use Rattle.tcp_invariants.proofs.OrderSteps.{clash}

-- WHAT A FIELD TELLS

module _ (rcv_adv free waiting half mss named u : ℕ) (some : 1 ≤ u) (less : named ≤ mss) where
  abbrev field_for : ℕ → ℕ
  field_for space = min (space / u) 65_535

  abbrev worth : Bool
  worth = nat_le (rcv_adv + max 1 (min half mss)) (field_for free * u)

  abbrev kept_after : ℕ → ℕ
  kept_after told = max told (min rcv_adv (told + (u - 1)))

  abbrev Fine : ℕ → Type 0
  Fine space =
      let told = field_for space * u in
      (told ≤ kept_after told) × (kept_after told < told + u) × (1 ≤ waiting → rcv_adv < kept_after told → rcv_adv + min half named ≤ kept_after told)

  below : (space : ℕ) → field_for space * u ≤ space
  below space =
      transitive (field_for space * u) (space / u * u) space (mul-le-mul_right u (smaller (space / u)))
      (part (space / u * u) (space % u) space (div-add-mod' space u))
    where
      smaller : (d : ℕ) → min d 65_535 ≤ d
      smaller d = omega arith

      part : (a b c : ℕ) → a + b ≡ c → a ≤ c
      part a b c e = omega arith

  near : (told : ℕ) → (told ≤ kept_after told) × (kept_after told < told + u)
  near told = (omega arith, omega (arith, some))

  -- where it isn't worth telling the edge stays
  stays_fine : Fine (min rcv_adv free)
  stays_fine =
      let told = field_for (min rcv_adv free) * u in
      ((near told).0, (near told).1, λ _ more. past told (below (min rcv_adv free)) more)
    where
      past : (told : ℕ) → told ≤ min rcv_adv free → rcv_adv < kept_after told → rcv_adv + min half named ≤ kept_after told
      past told small more = absurd (omega arith)

  moves_fine : ((waiting == 0) || worth) ≡ true → Fine free
  moves_fine is =
      let told = field_for free * u in
      ((near told).0, (near told).1, λ wait _. by (waiting == 0) refl is wait)
    where
      far : (told : ℕ) → rcv_adv + max 1 (min half mss) ≤ told → rcv_adv + min half named ≤ kept_after told
      far told e = omega (arith, less)

      by : (none : Bool) → (waiting == 0) ≡ none → (none || worth) ≡ true → 1 ≤ waiting → rcv_adv + min half named ≤ kept_after (field_for free * u)
      by true e is wait = let nothing = eqb-true waiting 0 e in absurd (omega arith)
      by false e is wait = far (field_for free * u) (leb-true (rcv_adv + max 1 (min half mss)) (field_for free * u) is)

  pub told_fine : Fine (if (waiting == 0) || worth then free else min rcv_adv free)
  told_fine = cond_both ((waiting == 0) || worth) free (min rcv_adv free) Fine moves_fine (λ _. stays_fine)

-- WHAT IS KEPT

pub record Mark : Type 0 where
  pub state : State
  pub rcv_adv : ℕ
  pub took_syn : Bool
  pub mss : ℕ

abbrev pub mark_of : TcpValue → Mark
mark_of v = record { state = v.tcb.state; rcv_adv = v.tcb.receiver.rcv_adv; took_syn = v.tcb.receiver.took_syn; mss = v.tcb.receiver.mss }

-- the edge that is kept is this one, while there is a connection, and the payload that is kept is no less than the named one
pub record IsMark (rcv_adv named : ℕ) (k : Mark) : Type 0 where
  pub same : is_closed k.state ≡ false → k.rcv_adv ≡ rcv_adv
  pub opening : is_opening k.state ≡ true → k.took_syn ≡ false
  pub listens : is_listening k.state ≡ true → k.rcv_adv ≡ 0
  pub mss : named ≤ k.mss

pub closed_mark : (k : Mark) → is_closed k.state ≡ true → is_opening k.state ≡ false → is_listening k.state ≡ false → IsMark 0 0 k
closed_mark k closed later quiet = record {
  same = λ alive. clash (sym closed ∙ alive);
  opening = λ is. clash (sym is ∙ later);
  listens = λ is. clash (sym is ∙ quiet);
  mss = least _;
}

pub shut_mark : (k : Mark) → IsMark 0 0 (record k { state = In.Closed })
shut_mark k = closed_mark (record k { state = In.Closed }) refl refl refl

-- a connection goes on in another state
pub going_mark : (rcv_adv named : ℕ) (k : Mark) (state : State) → IsMark rcv_adv named k → is_closed k.state ≡ false → is_opening state ≡ false
    → is_listening state ≡ false → IsMark rcv_adv named (record k { state = state })
going_mark rcv_adv named k state p alive later quiet = record {
  same = λ _. p.same alive;
  opening = λ is. clash (sym is ∙ later);
  listens = λ is. clash (sym is ∙ quiet);
  mss = p.mss;
}

pub over_mark : (over : Bool) (rcv_adv named : ℕ) (k : Mark) → (is_closed k.state || is_listening k.state) ≡ over → IsMark rcv_adv named k
    → IsMark (if over then 0 else rcv_adv) (if over then 0 else named) k
over_mark false rcv_adv named k e p = p
over_mark true rcv_adv named k e p = record {
  same = λ alive. p.listens (other (is_closed k.state) (is_listening k.state) e alive);
  opening = p.opening;
  listens = p.listens;
  mss = least _;
}
  where
    other : (a b : Bool) → (a || b) ≡ true → a ≡ false → b ≡ true
    other true b e f = clash f
    other false b e f = e

-- what an event leads to and the segment that goes with it, of a socket with this edge
abbrev pub Out : ℕ → ℕ → TcpValue → TcpValue → Option TcpHeader → Type 0
Out rcv_adv named v w segment =
    (new : ℕ) × MovesTo (rcv_adv - risen v.tcb w.tcb) named new w segment
    × IsMark (unless_over w new) (unless_over w (mss_with named segment)) (mark_of w)

pub none_out : (rcv_adv named : ℕ) (v w : TcpValue) → IsMark (rcv_adv - risen v.tcb w.tcb) named (mark_of w) → Out rcv_adv named v w None
none_out rcv_adv named v w p =
    (rcv_adv - risen v.tcb w.tcb, refl, over_mark (is_over w.tcb.state) (rcv_adv - risen v.tcb w.tcb) named (mark_of w) refl p)

-- it is over, and no segment goes
pub over_out : (rcv_adv named : ℕ) (v w : TcpValue) → is_over w.tcb.state ≡ true → IsMark 0 0 (mark_of w) → Out rcv_adv named v w None
over_out rcv_adv named v w over p = (
  rcv_adv - risen v.tcb w.tcb,
  refl,
  subst (λ (t : Bool). IsMark (if t then 0 else rcv_adv - risen v.tcb w.tcb) (if t then 0 else named) (mark_of w)) (sym over) p,
)

-- a reset goes
pub reset_out : (rcv_adv named : ℕ) (v w : TcpValue) (segment : TcpHeader) → segment.control ≡ Control.Rst →
    IsMark (rcv_adv - risen v.tcb w.tcb) named (mark_of w) → Out rcv_adv named v w (Some segment)
reset_out rcv_adv named v w segment rst p = (
  rcv_adv - risen v.tcb w.tcb,
  (λ _. refl, λ no. clash (sym (ap is_rst rst) ∙ no)),
  subst (λ (n : ℕ). IsMark (unless_over w (rcv_adv - risen v.tcb w.tcb)) (unless_over w n) (mark_of w))
      (sym (ap (λ (c : TcpControl). if is_syn c then or_mss segment.options.max_seg_size else named) rst))
      (over_mark (is_over w.tcb.state) (rcv_adv - risen v.tcb w.tcb) named (mark_of w) refl p),
)

-- another segment goes, no SYN, and this is the edge after it
some_out : (rcv_adv named new : ℕ) (v w : TcpValue) (segment : TcpHeader) → is_syn segment.control ≡ false → is_rst segment.control ≡ false
    → Tells (rcv_adv - risen v.tcb w.tcb) named new w segment → IsMark new named (mark_of w) → Out rcv_adv named v w (Some segment)
some_out rcv_adv named new v w segment syn rst tells p = (
  new,
  (λ is. clash (sym is ∙ rst), λ _. tells),
  subst (λ (t : Bool). IsMark (unless_over w new) (unless_over w (if t then or_mss segment.options.max_seg_size else named)) (mark_of w)) (sym syn)
      (over_mark (is_over w.tcb.state) new named (mark_of w) refl p),
)

-- RCV.NXT stays
not_risen : (old new : Tcb) → old.receiver.next.0 < 2 ^ 32 → new.receiver.next ≡ old.receiver.next → risen old new ≡ 0
not_risen old new small same =
    ap (λ (n : SeqNumber). if old.receiver.took_syn then distance_of old.receiver.next n else 0) same
    ∙ (ap (λ (n : ℕ). if old.receiver.took_syn then n else 0) (own_distance old.receiver.next small) ∙ none old.receiver.took_syn 0)
  where
    none : (t : Bool) (n : ℕ) → (if t then n else n) ≡ n
    none true n = refl
    none false n = refl

pub minus_none : (rcv_adv n : ℕ) → n ≡ 0 → rcv_adv - n ≡ rcv_adv
minus_none rcv_adv n e = omega arith

-- before a SYN came it doesn't rise
pub unheard : (old new : Tcb) → old.receiver.took_syn ≡ false → risen old new ≡ 0
unheard old new none = ap (λ (t : Bool). if t then distance_of old.receiver.next new.receiver.next else 0) none

-- A SEGMENT WITH THE WINDOW OF THE SOCKET GOES

-- the edge after it
abbrev pub told_rcv_adv : TcpValue → ℕ
told_rcv_adv x = rcv_adv_after x.tcb (room_of x.received) (window_of x * unit_of x)

pub not_over : (state : State) → is_over state ≡ false → (is_closed state ≡ false) × (is_listening state ≡ false)
not_over In.Closed e = clash e
not_over In.Listen e = clash e
not_over other e = (refl, refl)

module _ (rcv_adv named : ℕ) (v : TcpValue) (small : v.tcb.receiver.next.0 < 2 ^ 32) where
  pub still : (w : TcpValue) → w.tcb.receiver.next ≡ v.tcb.receiver.next → rcv_adv - risen v.tcb w.tcb ≡ rcv_adv
  still w same = minus_none rcv_adv (risen v.tcb w.tcb) (not_risen v.tcb w.tcb small same)

  pub keeps : (w : TcpValue) → w.tcb.receiver.next ≡ v.tcb.receiver.next → IsMark rcv_adv named (mark_of w) → Out rcv_adv named v w None
  keeps w same p = none_out rcv_adv named v w (subst (λ (n : ℕ). IsMark n named (mark_of w)) (sym (still w same)) p)

  -- of a socket with this edge, where RCV.NXT may have risen
  module _ (x : TcpValue) (left : ℕ) (on : is_over x.tcb.state ≡ false) (p : IsMark left named (mark_of x)) where
    alive : is_closed x.tcb.state ≡ false
    alive = (not_over x.tcb.state on).0

    no_listener : is_listening x.tcb.state ≡ false
    no_listener = (not_over x.tcb.state on).1

    -- `w` is the socket after it
    pub risen_out :
        (w : TcpValue) (segment : TcpHeader) → is_syn segment.control ≡ false → is_rst segment.control ≡ false → segment.window_len ≡ window_of x
        → w.received ≡ x.received → w.tcb.peer.scale ≡ x.tcb.peer.scale → rcv_adv - risen v.tcb w.tcb ≡ left
        → mark_of w ≡ record (mark_of x) { rcv_adv = told_rcv_adv x } → Out rcv_adv named v w (Some segment)
    risen_out w segment no_syn no_rst window received scale rise mark =
        some_out rcv_adv named (told_rcv_adv x) v w segment no_syn no_rst tells (subst (λ (k : Mark). IsMark (told_rcv_adv x) named k) (sym mark) (record {
          same = λ _. refl;
          opening = p.opening;
          listens = λ is. clash (sym is ∙ no_listener);
          mss = p.mss;
        }))
      where
        units : unit_of w ≡ unit_of x
        units =
            ap (λ (s : Option ℕ). 2 ^ shift_of s (local_scale (room_of w.received))) scale
            ∙ ap (λ (r : value.Received). 2 ^ shift_of x.tcb.peer.scale (local_scale (room_of r))) received

        fine : Fine x.tcb.receiver.rcv_adv (free_in x) (length x.received.waiting) ((room_of x.received + 1) / 2) x.tcb.receiver.mss named (unit_of x)
            (pow_pos (local_shift x.tcb (room_of x.received))) p.mss (announced x.tcb (room_of x.received) (free_in x) (length x.received.waiting))
        fine = told_fine x.tcb.receiver.rcv_adv (free_in x) (length x.received.waiting) ((room_of x.received + 1) / 2) x.tcb.receiver.mss named (unit_of x)
            (pow_pos (local_shift x.tcb (room_of x.received))) p.mss

        told : (segment.window_len * unit_of w ≤ told_rcv_adv x) × (told_rcv_adv x < segment.window_len * unit_of w + unit_of w)
        told =
            subst (λ (u : ℕ). (segment.window_len * u ≤ told_rcv_adv x) × (told_rcv_adv x < segment.window_len * u + u)) (sym units)
            (subst (λ (n : ℕ). (n * unit_of x ≤ told_rcv_adv x) × (told_rcv_adv x < n * unit_of x + unit_of x)) (sym window) (fine.0, fine.1))

        moves : 1 ≤ length w.received.waiting → rcv_adv - risen v.tcb w.tcb < told_rcv_adv x →
            rcv_adv - risen v.tcb w.tcb + least_move (room_of w.received) named ≤ told_rcv_adv x
        moves =
            subst (λ (n : ℕ). 1 ≤ length w.received.waiting → n < told_rcv_adv x → n + least_move (room_of w.received) named ≤ told_rcv_adv x)
            (p.same alive ∙ sym rise)
            (subst (λ (r : value.Received). 1 ≤ length r.waiting → x.tcb.receiver.rcv_adv < told_rcv_adv x →
            x.tcb.receiver.rcv_adv + least_move (room_of r) named ≤ told_rcv_adv x) (sym received) fine.2)

        tells : Tells (rcv_adv - risen v.tcb w.tcb) named (told_rcv_adv x) w segment
        tells = record {
          plain = λ _.
              subst (λ (t : Bool). ((if t then segment.window_len else segment.window_len * unit_of w) ≤ told_rcv_adv x)
              × (told_rcv_adv x < (if t then segment.window_len else segment.window_len * unit_of w) + unit_of w)) (sym no_syn) told;
          syn = λ is. clash (sym is ∙ no_syn);
          moves = moves;
        }

  -- where RCV.NXT stays
  pub segment_out :
      (x : TcpValue) → is_over x.tcb.state ≡ false → IsMark rcv_adv named (mark_of x) → (w : TcpValue) (segment : TcpHeader)
      → is_syn segment.control ≡ false → is_rst segment.control ≡ false → segment.window_len ≡ window_of x
      → w.received ≡ x.received → w.tcb.peer.scale ≡ x.tcb.peer.scale → w.tcb.receiver.next ≡ v.tcb.receiver.next
      → mark_of w ≡ record (mark_of x) { rcv_adv = told_rcv_adv x } → Out rcv_adv named v w (Some segment)
  segment_out x on p w segment no_syn no_rst window received scale next mark =
      risen_out x rcv_adv on p w segment no_syn no_rst window received scale (still w next) mark
