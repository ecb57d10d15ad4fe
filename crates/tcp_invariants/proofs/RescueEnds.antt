-- A rescue ends where what was sent of the send queue does.
use Rattle.std.proofs.Common.{◌≡◌, ℕ, ◌+◌, ◌-◌, ◌<◌, ◌≤◌, ◌==◌, nat_le, nat_lt, not, ◌&&◌, ◌||◌, min, max, Bool, true, false, if◌then◌else◌}
use Rattle.std.proofs.Common.{List, [], ◌∷◌, length, refl, sym, ap, ◌∙◌, subst, arith}
use Rattle.std.specs.List.{fold}
use Rattle.std.proofs.lemmas.Bool.{cond_both, eqb-true, leb-true, leb-false, ltb-true}
use Rattle.net_base.specs.Ring.{Ring}
use Rattle.tcp_state.specs.Scoreboard.{is_run, runs_end, gap_end}
use Rattle.tcp_state.specs.declared.endpoints.AddressPair.{AddressPair}
use Rattle.tcp_state.specs.declared.scoreboard.Run.{Run}
use Rattle.tcp_block.specs.TcbRules.{one_if}
use Rattle.tcp_block.specs.LossRecovery.{next_hole, fills_hole, fills_early, rescues, is_rescue, hole_offset, retransmit_offset, hole_len}
use Rattle.tcp_block.specs.Rules.{sent_count, size_limit, resend_choice}
use Rattle.tcp_block.specs.declared.tcb.Tcb.{Tcb}
use Rattle.tcp_invariants.proofs.EarlyRules.{InRecovery, early, rescue_parts}
use Rattle.tcp_invariants.proofs.OrderSteps.{clash}

left_true : (a b : Bool) → (a && b) ≡ true → a ≡ true
left_true true b e = refl
left_true false b e = clash (sym e)

right_true : (a b : Bool) → (a && b) ≡ true → b ≡ true
right_true true b e = e
right_true false b e = clash (sym e)

-- after all that is held no run begins
gap_whole : (rs : List Run) (end offset most : ℕ) → fold (λ (n : ℕ) (r : Run). max n r.end) end rs ≤ offset → gap_end rs offset most ≡ most
gap_whole [] end offset most e = refl
gap_whole (r ∷ rs) end offset most e =
    cond_both (is_run r && nat_lt offset r.start) (min most r.start) most (λ (n : ℕ). gap_end rs offset n ≡ most)
    (λ so.
    absurd (never r.start r.end offset (ltb-true r.start r.end (left_true (is_run r) (nat_lt offset r.start) so))
    (ltb-true offset r.start (right_true (is_run r) (nat_lt offset r.start) so)) (least rs (max end r.end) offset r.end (more end r.end) e)))
    (λ _. gap_whole rs (max end r.end) offset most e)
  where
    never : (start end offset : ℕ) → start < end → offset < start → end ≤ offset → ⊥
    never start end offset e f g = absurd (omega (arith, e, f, g))

    more : (a b : ℕ) → b ≤ max a b
    more a b = omega arith

    further : (n a b : ℕ) → n ≤ a → n ≤ max a b
    further n a b e = omega arith

    through : (a b c : ℕ) → a ≤ b → b ≤ c → a ≤ c
    through a b c e f = omega arith

    least : (rs : List Run) (end offset n : ℕ) → n ≤ end → fold (λ (n : ℕ) (r : Run). max n r.end) end rs ≤ offset → n ≤ offset
    least [] end offset n e f = through n end offset e f
    least (r ∷ rs) end offset n e f = least rs (max end r.end) offset n (further n end r.end e) f

module _ (b : Tcb) (e : is_rescue b ≡ true) (limit queued : ℕ) where
  inside : InRecovery b
  inside = early b (rescue_parts b e).may

  abbrev sent : ℕ
  sent = sent_count b

  abbrev begins : ℕ
  begins = min (max (sent - limit) (next_hole b)) (min sent queued)

  alone : (b.sender.resend ≡ false) × (b.loss.probes ≡ false)
  alone =
      neither b.sender.resend b.loss.probes (fills_hole b || fills_early b)
      (left_true (not (b.sender.resend || (b.loss.probes || (fills_hole b || fills_early b)))) (rescues b) e)
    where
      neither : (a c d : Bool) → not (a || (c || d)) ≡ true → (a ≡ false) × (c ≡ false)
      neither true c d e = clash (sym e)
      neither false true d e = clash (sym e)
      neither false false d e = (refl, refl)

  offset_is : retransmit_offset b limit sent queued ≡ begins
  offset_is =
      ap (λ (t : Bool). if t then 0 else if b.loss.probes then min (sent - limit) queued else min (hole_offset b limit sent) (min sent queued))
      (none b.sender.resend (b.sender.flight_size == 0) alone.0 (flying b.sender.flight_size (next_hole b) inside.flies))
      ∙ (ap (λ (t : Bool). if t then min (sent - limit) queued else min (hole_offset b limit sent) (min sent queued)) alone.1
      ∙ ap (λ (t : Bool). min (if t then max (sent - limit) (next_hole b) else next_hole b) (min sent queued)) e)
    where
      none : (a c : Bool) → a ≡ false → c ≡ false → (a || c) ≡ false
      none false false e f = refl
      none true c e f = clash e
      none false true e f = clash f

      flying : (flight hole : ℕ) → hole < flight → (flight == 0) ≡ false
      flying flight hole e = at (flight == 0) refl where
        at : (t : Bool) → (flight == 0) ≡ t → t ≡ false
        at true is = let zero = eqb-true flight 0 is in absurd (omega (arith, e, zero))
        at false is = refl

  len_is : (offset : ℕ) → hole_len b offset sent ≡ gap_end b.loss.board.runs offset sent - offset
  len_is offset = ap (λ (t : Bool). if t then sent - offset else gap_end b.loss.board.runs offset sent - offset) inside.opened

  flies_sent : next_hole b < sent
  flies_sent =
      near (next_hole b) b.sender.flight_size b.sender.snd_max (one_if b.sender.syn_unacked) inside.flies (rescue_parts b e).whole (ap one_if inside.opened)
    where
      near : (hole flight snd_max syn : ℕ) → hole < flight → flight ≡ snd_max → syn ≡ 0 → hole < snd_max - syn
      near hole flight snd_max syn e f g = omega arith

  ends_there : begins + min (hole_len b begins sent) (min limit (queued - begins)) ≡ min sent queued
  ends_there = at (nat_le (next_hole b) queued) refl where
    none : (far hole sent queued gap limit : ℕ) → queued < hole → hole < sent
        → min (max far hole) (min sent queued) + min gap (min limit (queued - min (max far hole) (min sent queued))) ≡ min sent queued
    none far hole sent queued gap limit e f = omega arith

    whole : (limit hole sent queued at : ℕ) → at ≡ min (max (sent - limit) hole) (min sent queued)
        → at + min (sent - at) (min limit (queued - at)) ≡ min sent queued
    whole limit hole sent queued at e = omega arith

    following : (end far hole sent queued : ℕ) → end ≤ hole → hole ≤ queued → hole < sent → end ≤ min (max far hole) (min sent queued)
    following end far hole sent queued e f g = omega arith

    at : (t : Bool) → nat_le (next_hole b) queued ≡ t → begins + min (hole_len b begins sent) (min limit (queued - begins)) ≡ min sent queued
    at true near =
        subst (λ (n : ℕ). begins + min n (min limit (queued - begins)) ≡ min sent queued)
        (sym (len_is begins
        ∙ ap (λ (n : ℕ). n - begins)
        (gap_whole b.loss.board.runs 0 begins sent
        (following (runs_end b.loss.board.runs) (sent - limit) (next_hole b) sent queued (rescue_parts b e).following (leb-true (next_hole b) queued near)
        flies_sent))))
        (whole limit (next_hole b) sent queued begins refl)
    at false far = none (sent - limit) (next_hole b) sent queued (hole_len b begins sent) limit (leb-false (next_hole b) queued far) flies_sent

pub rescue_ends : (b : Tcb) (addresses : AddressPair) (ip_mtu : ℕ) (queued : Ring ℕ) → is_rescue b ≡ true
    → (resend_choice b addresses ip_mtu queued).offset + (resend_choice b addresses ip_mtu queued).len ≡ min (sent_count b) (length queued.queue)
rescue_ends b addresses ip_mtu queued e =
    subst (λ (n : ℕ). n + min (hole_len b n (sent_count b)) (min limit (length queued.queue - n)) ≡ min (sent_count b) (length queued.queue))
    (sym (offset_is b e limit (length queued.queue))) (ends_there b e limit (length queued.queue))
  where
    limit : ℕ
    limit = size_limit b addresses ip_mtu
