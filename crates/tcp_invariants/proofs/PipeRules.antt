-- Pipe after a segment of payload.
use Rattle.std.proofs.Common.{◌≡◌, ◌⊎◌, inl, inr, ⊎_elim, ℕ, ◌+◌, ◌-◌, ◌^◌, ◌<◌, ◌≤◌, ◌==◌, ◌&&◌, nat_le, nat_lt, not, min, max, Bool, true, false}
use Rattle.std.proofs.Common.{if◌then◌else◌, List, [], ◌∷◌, Option, Some, None, refl, sym, ap, ◌∙◌, subst, arith}
use Rattle.std.specs.List.{fold}
use Rattle.std.proofs.lemmas.Bool.{cond_both, eqb-true, leb-true, leb-false, ltb-true}
use Rattle.ip_wire.specs.Control.{control_len}
use Rattle.ip_wire.specs.Seq.{distance_of}
use Rattle.ip_wire.specs.SeqNumber.{SeqNumber}
use Rattle.net_base.specs.Ring.{Ring}
use Rattle.tcp_block.specs.Context.{ContextValue}
use Rattle.tcp_block.specs.BaseOffers.{Offered}
use Rattle.tcp_state.specs.Scoreboard.{sum_of, sacked_below, missing, first_missing, lies_in, lost_end}
use Rattle.tcp_state.specs.declared.endpoints.FourTuple.{FourTuple}
use Rattle.tcp_state.specs.declared.offer.OfferKind.{OfferKind}
use Rattle.tcp_state.specs.declared.offer.OfferKind.TheVariants as Kind
use Rattle.tcp_state.specs.declared.offer.OpenOffer.{OpenOffer}
use Rattle.tcp_state.specs.declared.scoreboard.Run.{Run}
use Rattle.tcp_state.specs.declared.state.State.TheVariants as In
use Rattle.tcp_block.specs.TcbRules.{one_if}
use Rattle.tcp_block.specs.LossRecovery.{pipe, loss_probed, probe_from, probes_losses}
use Rattle.tcp_block.specs.Offers.{offer_of, number_at}
use Rattle.tcp_block.specs.Rules.{backed_off_now, control_for, next_offset, payload_choice}
use Rattle.tcp_block.specs.Settled.{end_of, past_sacked, nxt_moved, timer_started, recorded, sent_as, sent_off, settled}
use Rattle.tcp_block.specs.Undo.{undo_sent}
use Rattle.tcp_block.specs.Value.{TcpValue, with_tcb, unoffered, new_socket, queued_in, room_of}
use Rattle.tcp_block.specs.declared.tcb.Tcb.{Tcb}
use Rattle.tcp_block.specs.declared.tcb.Loss.{Loss}
use Rattle.tcp_invariants.specs.Events.{Event, after, led}
use Rattle.tcp_invariants.specs.Events.Event.{Asked}
use Rattle.tcp_invariants.specs.InOrder.{sending_of, IsInOrder}
use Rattle.tcp_invariants.specs.Room.{is_limited}
use Rattle.tcp_invariants.proofs.ApartRuns.{Fine, AllFine, ApartFrom, AreApart, Board, missing_least}
use Rattle.tcp_invariants.proofs.RcvAdvSteps.{near_distance}
use Rattle.tcp_invariants.proofs.HoleRules.{event_on, led_on, nothing_believed}
use Rattle.tcp_invariants.proofs.InsideRules.{event_in, led_in, nothing_inside}
use Rattle.tcp_invariants.proofs.OfferCases.{Rules, FirstRules, LastRules, by_rules, begun, probing}
use Rattle.tcp_invariants.proofs.OrderRules.{event_order, led_new, control_least, new_order}
use Rattle.tcp_invariants.proofs.OrderSteps.{clash, one_if_least}
use Rattle.tcp_invariants.proofs.RoomRules.{payload_fits}

-- WHAT ISN'T HELD

abbrev counts : ℕ → ℕ → Run → ℕ
counts offset count r = sum_of (min r.end offset - min r.start offset) count

through : (a b c : ℕ) → a ≤ b → b ≤ c → a ≤ c
through a b c e f = omega arith

least : (n : ℕ) → 0 ≤ n
least n = omega arith

-- the further the more is held
counts_more : (rs : List Run) (p q c d : ℕ) → p ≤ q → c ≤ d → fold (counts p) c rs ≤ fold (counts q) d rs
counts_more [] p q c d e f = f
counts_more (r ∷ rs) p q c d e f = counts_more rs p q (counts p c r) (counts q d r) e (one r.start r.end p q c d e f) where
  one : (s e p q c d : ℕ) → p ≤ q → c ≤ d → min (min e p - min s p + c) 4_294_967_295 ≤ min (min e q - min s q + d) 4_294_967_295
  one s e p q c d g h = omega arith

-- so no more isn't than lies between
missing_more : (rs : List Run) (p q : ℕ) → p ≤ q → missing rs q ≤ missing rs p + (q - p)
missing_more rs p q e = less p q (sacked_below rs p) (sacked_below rs q) e (counts_more rs p q 0 0 e (least 0)) where
  less : (p q h k : ℕ) → p ≤ q → h ≤ k → q - k ≤ p - h + (q - p)
  less p q h k e f = omega arith

-- after a run that is apart from the others no other begins
stays_following : (r : Run) → r.start < r.end → (rs : List Run) → ApartFrom r rs → first_missing rs r.end ≡ r.end
stays_following r some [] a = refl
stays_following r some (q ∷ qs) a =
    cond_both (lies_in r.end q) q.end r.end (λ (n : ℕ). first_missing qs n ≡ r.end)
    (λ inside.
    let from = leb-true q.start r.end (left_true (nat_le q.start r.end) (nat_lt r.end q.end) inside) in
    let to = ltb-true r.end q.end (right_true (nat_le q.start r.end) (nat_lt r.end q.end) inside) in
    ⊎_elim (λ below. round r.end q.start below from) (λ above. round_over q.end r.start r.end above some to) (a.0 some (wide q.start r.end q.end from to)))
    (λ _. stays_following r some qs a.1)
  where
    left_true : (a b : Bool) → (a && b) ≡ true → a ≡ true
    left_true true b e = refl
    left_true false b e = clash (sym e)

    right_true : (a b : Bool) → (a && b) ≡ true → b ≡ true
    right_true true b e = e
    right_true false b e = clash (sym e)

    wide : (a b c : ℕ) → a ≤ b → b < c → a < c
    wide a b c e f = omega arith

    round : {A : Type 0} (a b : ℕ) → a < b → b ≤ a → A
    round a b e f = absurd (omega (arith, e, f))

    round_over : {A : Type 0} (a b c : ℕ) → a < b → b < c → c < a → A
    round_over a b c e f g = absurd (omega (arith, e, f, g))

-- once so much more is held it stays so, as far as 32 bits tell
ahead_stays : (rs : List Run) (p q c d k : ℕ) → p ≤ q → min (c + k) 4_294_967_295 ≤ d
    → min (fold (counts p) c rs + k) 4_294_967_295 ≤ fold (counts q) d rs
ahead_stays [] p q c d k e f = f
ahead_stays (r ∷ rs) p q c d k e f = ahead_stays rs p q (counts p c r) (counts q d r) k e (one r.start r.end p q c d k e f) where
  one : (s e p q c d k : ℕ) → p ≤ q → min (c + k) 4_294_967_295 ≤ d
      → min (min (min e p - min s p + c) 4_294_967_295 + k) 4_294_967_295 ≤ min (min e q - min s q + d) 4_294_967_295
  one s e p q c d k g h = omega arith

-- between an offset and the first one after it that isn't held all is
all_between : (rs : List Run) → AllFine rs → AreApart rs → (offset p q c d : ℕ) → offset ≤ p → p ≤ q → q ≤ first_missing rs offset → c ≤ d
    → min (fold (counts p) c rs + (q - p)) 4_294_967_295 ≤ fold (counts q) d rs
all_between [] f a offset p q c d e g h i = none c d p q (through q offset p h e) g i where
  none : (c d p q : ℕ) → q ≤ p → p ≤ q → c ≤ d → min (c + (q - p)) 4_294_967_295 ≤ d
  none c d p q e f g = omega arith
all_between (r ∷ rs) f a offset p q c d e g h i =
    at (lies_in offset r) refl (λ h' i'. all_between rs f.1 a.1 offset p q (counts p c r) (counts q d r) e g h' i')
  where
    within : (start end offset p q c d : ℕ) → start ≤ offset → offset ≤ p → p ≤ q → q ≤ end → c ≤ d
        → min (min (min end p - min start p + c) 4_294_967_295 + (q - p)) 4_294_967_295 ≤ min (min end q - min start q + d) 4_294_967_295
    within start end offset p q c d e f g h i = omega arith

    one : (s e p q c d : ℕ) → p ≤ q → c ≤ d → min (min e p - min s p + c) 4_294_967_295 ≤ min (min e q - min s q + d) 4_294_967_295
    one s e p q c d g h = omega arith

    left_true : (a b : Bool) → (a && b) ≡ true → a ≡ true
    left_true true b e = refl
    left_true false b e = clash (sym e)

    right_true : (a b : Bool) → (a && b) ≡ true → b ≡ true
    right_true true b e = e
    right_true false b e = clash (sym e)

    some : (start offset end : ℕ) → start ≤ offset → offset < end → start < end
    some start offset end e f = omega arith

    at : (t : Bool) → lies_in offset r ≡ t
        → (q ≤ first_missing rs offset → counts p c r ≤ counts q d r
        → min (fold (counts p) (counts p c r) rs + (q - p)) 4_294_967_295 ≤ fold (counts q) (counts q d r) rs)
        → min (fold (counts p) (counts p c r) rs + (q - p)) 4_294_967_295 ≤ fold (counts q) (counts q d r) rs
    at true is rest =
        let from = leb-true r.start offset (left_true (nat_le r.start offset) (nat_lt offset r.end) is) in
        let to = ltb-true offset r.end (right_true (nat_le r.start offset) (nat_lt offset r.end) is) in
        let last = subst (λ (n : ℕ). q ≤ n) (stays_following r (some r.start offset r.end from to) rs a.0)
        (subst (λ (t : Bool). q ≤ first_missing rs (if t then r.end else offset)) is h) in
        ahead_stays rs p q (counts p c r) (counts q d r) (q - p) g (within r.start r.end offset p q c d from e g last i)
    at false is rest =
        rest
        (subst (λ (t : Bool). q ≤ first_missing rs (if t then r.end else offset)) is h) (one r.start r.end p q c d g i)

missing_near : (rs : List Run) → AllFine rs → (offset : ℕ) → first_missing rs offset ≤ max offset 2_147_483_648
missing_near [] f offset = own offset where
  own : (a : ℕ) → a ≤ max a 2_147_483_648
  own a = omega arith
missing_near (r ∷ rs) f offset =
    cond_both (lies_in offset r) r.end offset (λ (n : ℕ). first_missing rs n ≤ max offset 2_147_483_648)
    (λ _. within r.end offset (first_missing rs r.end) (near f.0) (missing_near rs f.1 r.end)) (λ _. missing_near rs f.1 offset)
  where
    near : Fine r → r.end ≤ 2_147_483_648
    near (inl none) = zero_near r.end none.1 where
      zero_near : (n : ℕ) → n ≡ 0 → n ≤ 2_147_483_648
      zero_near n e = omega arith
    near (inr real) = bound r.end real.near where
      bound : (n : ℕ) → n < 2 ^ 31 → n ≤ 2_147_483_648
      bound n e = omega (arith, e)

    within : (end offset m : ℕ) → end ≤ 2_147_483_648 → m ≤ max end 2_147_483_648 → m ≤ max offset 2_147_483_648
    within end offset m e f = omega arith

none_between : (rs : List Run) → Board rs → (offset p q : ℕ) → offset ≤ p → p ≤ q → q ≤ first_missing rs offset → missing rs q ≤ missing rs p
none_between rs board offset p q e f g =
    less p q (sacked_below rs p) (sacked_below rs q) offset f e (counts_more rs p q 0 0 f (least 0))
    (through q (first_missing rs offset) (max offset 2_147_483_648) g (missing_near rs board.fine offset))
    (all_between rs board.fine board.gaps offset p q 0 0 e f g (least 0))
  where
    less : (p q h k offset : ℕ) → p ≤ q → offset ≤ p → h ≤ k → q ≤ max offset 2_147_483_648 → min (h + (q - p)) 4_294_967_295 ≤ k → q - k ≤ p - h
    less p q h k offset e f j g i = omega arith

-- PIPE

abbrev pipe_by : Bool → ℕ → List Run → ℕ → ℕ → ℕ → ℕ
pipe_by recovers flight runs few mss resent =
    if flight == 0 then 0
    else if recovers
    then sum_of (missing runs flight - missing runs (min (lost_end runs few mss) flight)) (missing runs (min resent flight))
    else missing runs flight

-- it grows by no more than goes
pipe_grows : (recovers : Bool) (flight reach : ℕ) (runs : List Run) (few mss resent d : ℕ) → resent ≤ flight → flight ≤ reach
    → ((p : ℕ) → flight ≤ p → p ≤ reach → missing runs reach ≤ missing runs p + d)
    → pipe_by recovers reach runs few mss resent ≤ pipe_by recovers flight runs few mss resent + d
pipe_grows recovers flight reach runs few mss resent d inside far grows = at (flight == 0) (reach == 0) refl refl recovers where
  lost : ℕ
  lost = lost_end runs few mss

  none : (n d : ℕ) → 0 ≤ n + d
  none n d = omega arith

  same : (n : ℕ) → n ≤ n
  same n = omega arith

  missing_none : (n : ℕ) → n ≡ 0 → missing runs n ≡ 0
  missing_none n e = ap (λ (k : ℕ). missing runs k) e ∙ nothing (sacked_below runs 0) where
    nothing : (h : ℕ) → 0 - h ≡ 0
    nothing h = omega arith

  -- in recovery, what isn't held and isn't lost
  unlost : missing runs reach - missing runs (min lost reach) ≤ missing runs flight - missing runs (min lost flight) + d
  unlost = by (nat_le lost flight) refl where
    first : (lost n : ℕ) → lost ≤ n → min lost n ≡ lost
    first lost n e = omega arith

    second : (lost n : ℕ) → n < lost → min lost n ≡ n
    second lost n e = omega arith

    more : (m n k d : ℕ) → m ≤ n + d → m - k ≤ n - k + d
    more m n k d e = omega arith

    all : (m k n d : ℕ) → m ≤ k + d → m - k ≤ n + d
    all m k n d e = omega arith

    low : (lost flight reach : ℕ) → flight < lost → flight ≤ reach → flight ≤ min lost reach
    low lost flight reach e f = omega arith

    high : (lost reach : ℕ) → min lost reach ≤ reach
    high lost reach = omega arith

    by : (t : Bool) → nat_le lost flight ≡ t
        → missing runs reach - missing runs (min lost reach) ≤ missing runs flight - missing runs (min lost flight) + d
    by true e =
        let below = leb-true lost flight e in
        subst (λ (k : ℕ). missing runs reach - missing runs k ≤ missing runs flight - missing runs (min lost flight) + d)
        (sym (first lost reach (through lost flight reach below far)))
        (subst (λ (k : ℕ). missing runs reach - missing runs lost ≤ missing runs flight - missing runs k + d) (sym (first lost flight below))
        (more (missing runs reach) (missing runs flight) (missing runs lost) d (grows flight (same flight) far)))
    by false e =
        let above = leb-false lost flight e in
        all (missing runs reach) (missing runs (min lost reach)) (missing runs flight - missing runs (min lost flight)) d
        (grows (min lost reach) (low lost flight reach above far) (high lost reach))

  again_same : min resent reach ≡ min resent flight
  again_same = both resent flight reach inside far where
    both : (a b c : ℕ) → a ≤ b → b ≤ c → min a c ≡ min a b
    both a b c e f = omega arith

  sums : sum_of (missing runs reach - missing runs (min lost reach)) (missing runs (min resent reach))
      ≤ sum_of (missing runs flight - missing runs (min lost flight)) (missing runs (min resent flight)) + d
  sums =
      subst
      (λ (k : ℕ). sum_of (missing runs reach - missing runs (min lost reach)) (missing runs k)
      ≤ sum_of (missing runs flight - missing runs (min lost flight)) (missing runs (min resent flight)) + d)
      (sym again_same)
      (more (missing runs reach - missing runs (min lost reach)) (missing runs flight - missing runs (min lost flight))
      (missing runs (min resent flight)) d unlost)
    where
      more : (a b c d : ℕ) → a ≤ b + d → min (a + c) 4_294_967_295 ≤ min (b + c) 4_294_967_295 + d
      more a b c d e = omega arith

  inner : ℕ → Bool → ℕ
  inner n r = if r then sum_of (missing runs n - missing runs (min lost n)) (missing runs (min resent n)) else missing runs n

  inner_grows : (r : Bool) → inner reach r ≤ inner flight r + d
  inner_grows true = sums
  inner_grows false = grows flight (same flight) far

  -- with nothing in flight there is none
  inner_none : (r : Bool) → flight ≡ 0 → inner flight r ≡ 0
  inner_none true e =
      zero_sum (missing runs flight) (missing runs (min lost flight)) (missing runs (min resent flight)) (missing_none flight e)
      (missing_none (min resent flight) (small resent flight e))
    where
      zero_sum : (a b c : ℕ) → a ≡ 0 → c ≡ 0 → min (a - b + c) 4_294_967_295 ≡ 0
      zero_sum a b c e f = omega arith

      small : (a b : ℕ) → b ≡ 0 → min a b ≡ 0
      small a b e = omega arith
  inner_none false e = missing_none flight e

  at : (s t : Bool) → (flight == 0) ≡ s → (reach == 0) ≡ t → (r : Bool)
      → (if reach == 0 then 0 else inner reach r) ≤ (if flight == 0 then 0 else inner flight r) + d
  at s true e f r = subst (λ (t : Bool). (if t then 0 else inner reach r) ≤ (if flight == 0 then 0 else inner flight r) + d) (sym f) (none _ d)
  at true false e f r =
      subst (λ (t : Bool). (if t then 0 else inner reach r) ≤ (if flight == 0 then 0 else inner flight r) + d) (sym f)
      (subst (λ (t : Bool). inner reach r ≤ (if t then 0 else inner flight r) + d) (sym e)
      (subst (λ (n : ℕ). inner reach r ≤ n + d) (inner_none r (eqb-true flight 0 e)) (inner_grows r)))
  at false false e f r =
      subst (λ (t : Bool). (if t then 0 else inner reach r) ≤ (if flight == 0 then 0 else inner flight r) + d) (sym f)
      (subst (λ (t : Bool). inner reach r ≤ (if t then 0 else inner flight r) + d) (sym e) (inner_grows r))

-- A SEGMENT OF TEXT GOES

-- SND.NXT moves past it, and past what is held after it
reach_grows : (runs : List Run) → Board runs → (flight d bound p : ℕ)
    → flight ≤ p → p ≤ max (flight + d) (min (first_missing runs (flight + d)) bound)
    → missing runs (max (flight + d) (min (first_missing runs (flight + d)) bound)) ≤ missing runs p + d
reach_grows runs board flight d bound p low high = at (nat_le (flight + d) p) refl where
  reach : ℕ
  reach = max (flight + d) (min (first_missing runs (flight + d)) bound)

  from_end : (end m k : ℕ) → end ≤ max end (min m k)
  from_end end m k = omega arith

  upto_missing : (end m k : ℕ) → end ≤ m → max end (min m k) ≤ m
  upto_missing end m k e = omega arith

  to_end : reach ≤ first_missing runs (flight + d)
  to_end = upto_missing (flight + d) (first_missing runs (flight + d)) bound (missing_least runs (flight + d))

  same : (n : ℕ) → n ≤ n
  same n = omega arith

  more : (m n d : ℕ) → m ≤ n → m ≤ n + d
  more m n d e = omega arith

  less : (m n flight p d : ℕ) → flight ≤ p → m ≤ n + (flight + d - p) → m ≤ n + d
  less m n flight p d e f = omega arith

  under : (a b : ℕ) → a < b → a ≤ b
  under a b e = omega arith

  at : (t : Bool) → nat_le (flight + d) p ≡ t → missing runs reach ≤ missing runs p + d
  at true e =
      more (missing runs reach) (missing runs p) d (none_between runs board (flight + d) p reach (leb-true (flight + d) p e) high to_end)
  at false e =
      less (missing runs reach) (missing runs p) flight p d low
      (through (missing runs reach) (missing runs (flight + d)) (missing runs p + (flight + d - p))
      (none_between runs board (flight + d) (flight + d) reach (same (flight + d))
      (from_end (flight + d) (first_missing runs (flight + d)) bound) to_end)
      (missing_more runs p (flight + d) (under p (flight + d) (leb-false (flight + d) p e))))

-- SND.NXT is past the segment, and the retransmission timer runs
abbrev moved : Tcb → OpenOffer → ℕ → Tcb
moved b o queued = timer_started (nxt_moved b (end_of b o) queued o.instant) o.instant

abbrev marked : Tcb → OpenOffer → Loss
marked c o = record c.loss { undo = undo_sent c c.loss.undo o.instant }

payload_grows : (b : Tcb) (o : OpenOffer) (queued d : ℕ) → Board b.loss.board.runs → b.loss.resent ≤ b.sender.flight_size
    → end_of b o ≡ b.sender.flight_size + d → pipe (sent_as Kind.Payload b o queued) ≤ pipe b + d
payload_grows b o queued d board inside ends =
    cond_both (probes_losses c && not l.probed) (record l { probe_at = probe_from c o.instant }) l
    (λ (x : Loss). pipe_by b.reno.recovers (max b.sender.flight_size (past_sacked b (end_of b o) queued)) x.board.runs (if x.dupthresh_one then 1 else 3)
    b.reno.mss x.resent
    ≤ pipe b + d)
    (λ _. grown) (λ _. grown)
  where
    c : Tcb
    c = moved b o queued

    l : Loss
    l = marked c o

    bound : ℕ
    bound = min b.sender.snd_max (one_if b.sender.syn_unacked + queued)

    reach : ℕ → ℕ
    reach end = max end (min (first_missing b.loss.board.runs end) bound)

    second : (flight d end m k : ℕ) → end ≡ flight + d → max flight (max end (min m k)) ≡ max end (min m k)
    second flight d end m k e = omega arith

    is : max b.sender.flight_size (past_sacked b (end_of b o) queued) ≡ reach (b.sender.flight_size + d)
    is =
        second b.sender.flight_size d (end_of b o) (first_missing b.loss.board.runs (end_of b o)) bound ends
        ∙ ap (λ (n : ℕ). max n (min (first_missing b.loss.board.runs n) bound)) ends

    far : (flight d m k : ℕ) → flight ≤ max (flight + d) (min m k)
    far flight d m k = omega arith

    grown : pipe_by b.reno.recovers (max b.sender.flight_size (past_sacked b (end_of b o) queued)) b.loss.board.runs (if b.loss.dupthresh_one then 1 else 3) b.reno.mss
        b.loss.resent
        ≤ pipe b + d
    grown =
        subst
        (λ (n : ℕ). pipe_by b.reno.recovers n b.loss.board.runs (if b.loss.dupthresh_one then 1 else 3) b.reno.mss b.loss.resent ≤ pipe b + d) (sym is)
        (pipe_grows b.reno.recovers b.sender.flight_size (reach (b.sender.flight_size + d)) b.loss.board.runs (if b.loss.dupthresh_one then 1 else 3) b.reno.mss
        b.loss.resent d inside (far b.sender.flight_size d (first_missing b.loss.board.runs (b.sender.flight_size + d)) bound)
        (λ p low high. reach_grows b.loss.board.runs board b.sender.flight_size d bound p low high))

-- AN OFFER

abbrev is_payload : OfferKind → Bool
is_payload Kind.Payload = true
is_payload other = false

module _ (cx : ContextValue) (v : TcpValue) where
  -- it begins at SND.NXT, and has a FIN at most
  abbrev Shape : Tcb → OpenOffer → Type 0
  Shape b o = is_payload o.kind ≡ true → (o.segment.seq_number ≡ number_at b (next_offset b)) × (control_len o.segment.control ≤ 1)

  abbrev Shaped : Offered TcpValue → Type 0
  Shaped o = (a : OpenOffer) → o.socket.offered ≡ Some a → Shape o.socket.tcb a

  one_offer : (a b : OpenOffer) → Some a ≡ Some b → a ≡ b
  one_offer a b e = cc

  same_shape : (b : Tcb) (a c : OpenOffer) → Some a ≡ Some c → Shape b a → Shape b c
  same_shape b a c e s = subst (Shape b) (one_offer a c e) s

  nothing : {A : Type 0} (a : OpenOffer) → None ≡ Some a → A
  nothing a e = absurd (cc)

  at_most_fin : (x : TcpValue) (pair : FourTuple) → control_len (control_for (payload_choice x.tcb pair.addresses cx.ip_mtu x.queued) (queued_in x)) ≤ 1
  at_most_fin x pair =
      through _ (one_if (payload_choice x.tcb pair.addresses cx.ip_mtu x.queued).fin) 1
      (control_least (payload_choice x.tcb pair.addresses cx.ip_mtu x.queued) (queued_in x))
      (one_if_least (payload_choice x.tcb pair.addresses cx.ip_mtu x.queued).fin)

  shaped_last : (pair : FourTuple) (x : TcpValue) → x.offered ≡ None → LastRules cx pair Shaped x
  shaped_last pair x none = record {
    probe = λ _ _ a e. same_shape x.tcb _ a e (λ is. clash (sym is));
    window_limited = λ _ _ a e. same_shape x.tcb _ a e (λ _. (refl, at_most_fin x pair));
    ack = λ _ a e. same_shape x.tcb _ a e (λ is. clash (sym is));
    update = λ _ _ a e. same_shape x.tcb _ a e (λ is. clash (sym is));
    keep_alive = λ _ _ a e. same_shape x.tcb _ a e (λ is. clash (sym is));
    quiet = λ _ a e. nothing a (sym none ∙ e);
  }

  shaped_first : (pair : FourTuple) (w : TcpValue) → w.offered ≡ None → FirstRules cx pair Shaped w
  shaped_first pair w none = record {
    syn = λ _ a e. same_shape w.tcb _ a e (λ is. clash (sym is));
    again = λ _ _ a e. same_shape w.tcb _ a e (λ is. clash (sym is));
    payload = λ _ _ a e. same_shape w.tcb _ a e (λ _. (refl, at_most_fin w pair));
    last = λ _. shaped_last pair (probing cx w) none;
  }

  shaped_rules : Rules cx v Shaped
  shaped_rules = record {
    nobody = λ _ a e. nothing a e;
    time_wait = λ _ a e. nothing a e;
    timeout = λ _ a e. nothing a e;
    closed = λ _ a e. nothing a e;
    reset = λ pair _ _ a e. same_shape v.tcb _ a e (λ is. clash (sym is));
    falls = λ _ _ _ a e. nothing a e;
    over = λ _ _ _ a e. nothing a e;
    backs = λ pair _ _ _. shaped_first pair (with_tcb (unoffered v) (backed_off_now (begun cx v))) refl;
    probes = λ pair _ _ _ _. shaped_first pair (with_tcb (unoffered v) (loss_probed (begun cx v))) refl;
    goes = λ pair _ _ _. shaped_first pair (with_tcb (unoffered v) (begun cx v)) refl;
  }

  shaped_offer : Shaped (offer_of cx v)
  shaped_offer = by_rules cx v Shaped shaped_rules

-- so it ends so far after SND.NXT
payload_ends : (b : Tcb) (o : OpenOffer) → b.sender.una.0 < 2 ^ 32 → b.sender.syn_unacked ≡ false → b.sender.flight_size < 2 ^ 32
    → o.segment.seq_number ≡ number_at b (next_offset b) → end_of b o ≡ b.sender.flight_size + (o.len + control_len o.segment.control)
payload_ends b o small no_syn near seq =
    ap (λ (n : SeqNumber). distance_of b.sender.una n + (o.len + control_len o.segment.control)) seq
    ∙ ap (λ (n : ℕ). n + (o.len + control_len o.segment.control))
    (near_distance b.sender.una (one_if b.sender.syn_unacked + next_offset b) small
    (subst (λ (n : ℕ). n < 2 ^ 32) (sym offset) near) ∙ offset)
  where
    at : (flight s : ℕ) → s ≡ 0 → s + (flight - s) ≡ flight
    at flight s e = omega arith

    offset : one_if b.sender.syn_unacked + next_offset b ≡ b.sender.flight_size
    offset = at b.sender.flight_size (one_if b.sender.syn_unacked) (ap one_if no_syn)

settled_payload : (x : TcpValue) (offered : Option OpenOffer) (o : OpenOffer) (n : ℕ) → offered ≡ Some o → o.kind ≡ Kind.Payload
    → pipe (sent_as Kind.Payload (recorded x.tcb o (room_of x.received)) o (queued_in x)) ≤ n → pipe (sent_off offered x).tcb ≤ n
settled_payload x offered o n is kind e =
    subst (λ (off : Option OpenOffer). pipe (sent_off off x).tcb ≤ n) (sym is)
    (subst (λ (k : OfferKind). pipe (sent_as k (recorded x.tcb o (room_of x.received)) o (queued_in x)) ≤ n) (sym kind) e)

pub pipe_after_payload : (capacity : ℕ) (queued : Ring ℕ) (events : List Event) (cx : ContextValue) (o : OpenOffer)
    → (offer_of cx (led (new_socket capacity queued) events)).socket.offered ≡ Some o → o.kind ≡ Kind.Payload
    → (offer_of cx (led (new_socket capacity queued) events)).socket.tcb.sender.syn_unacked ≡ false
    → (offer_of cx (led (new_socket capacity queued) events)).socket.tcb.sender.flight_size < 2 ^ 32
    → (offer_of cx (led (new_socket capacity queued) events)).socket.tcb.peer.sack ≡ true
    → is_limited (offer_of cx (led (new_socket capacity queued) events)).socket.tcb.settings.congestion_control ≡ true
    → pipe (settled true (offer_of cx (led (new_socket capacity queued) events)).socket).tcb
    ≤ max (offer_of cx (led (new_socket capacity queued) events)).socket.tcb.reno.cwnd
    (pipe (offer_of cx (led (new_socket capacity queued) events)).socket.tcb)
    + 1
pipe_after_payload capacity queued events cx o offered kind no_syn near sack on =
    settled_payload (unoffered w) w.offered o _ offered kind
    (bound (pipe (sent_as Kind.Payload (recorded w.tcb o (room_of w.received)) o (queued_in w))) (pipe w.tcb) o.len (control_len o.segment.control)
    (max w.tcb.reno.cwnd (pipe w.tcb))
    (payload_grows (recorded w.tcb o (room_of w.received)) o (queued_in w) (o.len + control_len o.segment.control) board inside
    (payload_ends w.tcb o order.number no_syn near shape.0))
    ((payload_fits cx v o offered kind on).told sack) shape.1)
  where
    v : TcpValue
    v = led (new_socket capacity queued) events

    w : TcpValue
    w = (offer_of cx v).socket

    order : IsInOrder (sending_of w)
    order = event_order v (Asked cx false) (led_new capacity queued events)

    board : Board w.tcb.loss.board.runs
    board = (event_on v (Asked cx false) (led_on (new_socket capacity queued) events nothing_believed)).board

    inside : w.tcb.loss.resent ≤ w.tcb.sender.flight_size
    inside =
        (event_in v (Asked cx false) (led_new capacity queued events)
        (led_in (new_socket capacity queued) events (new_order capacity queued) (nothing_inside In.Closed 0))).inside

    shape : (o.segment.seq_number ≡ number_at w.tcb (next_offset w.tcb)) × (control_len o.segment.control ≤ 1)
    shape = shaped_offer cx v o offered (ap is_payload kind)

    bound : (after before len fin most : ℕ) → after ≤ before + (len + fin) → before + len ≤ most → fin ≤ 1 → after ≤ most + 1
    bound after before len fin most e f g = omega arith
