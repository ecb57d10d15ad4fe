-- A block after an acknowledgement that may undo a loss.
use Rattle.std.proofs.Common.{◌≡◌, ℕ, ◌+◌, ◌==◌, not, ◌&&◌, max, min, ℤ, Bool, true, false, if◌then◌else◌, Option, Some, None}
use Rattle.std.proofs.Common.{refl, sym, ap, ◌∙◌, subst}
use Rattle.ip_wire.specs.TcpHeader.{TcpHeader}
use Rattle.tcp_state.specs.Reno as reno
use Rattle.tcp_block.specs.Acknowledged.{freed_by}
use Rattle.tcp_block.specs.TcbRules.{one_if}
use Rattle.tcp_block.specs.Undone.{answers_undo, is_needless, prior_of, arrived_early, reo_wnd_raised, undone_if, undone}
use Rattle.tcp_block.specs.declared.tcb.Tcb.{Tcb}
use Rattle.tcp_block.specs.declared.tcb.Undo.{Undo}

-- with this window before it
abbrev pub undone_by : Undo → Tcb → ℕ → Tcb
undone_by u b queued = record b {
  sender = record b.sender { flight_size = max b.sender.flight_size (min b.sender.snd_max (one_if b.sender.syn_unacked + queued)); resend = false; recover = 0 };
  loss = record b.loss { credit = 0; reo_wnd_mult = if arrived_early b then reo_wnd_raised b.loss else b.loss.reo_wnd_mult };
  reno = reno.restored b.reno u.reno;
}

and_left : (a b : Bool) → (a && b) ≡ true → a ≡ true
and_left true b e = refl
and_left false b e = absurd (cc)

and_right : (a b : Bool) → (a && b) ≡ true → b ≡ true
and_right true b e = e
and_right false b e = absurd (cc)

not_true : (a : Bool) → not a ≡ true → a ≡ false
not_true true e = absurd (cc)
not_true false e = refl

-- payload is acknowledged then
pub needless_frees : (b : Tcb) (header : TcpHeader) (by queued : ℕ) → is_needless b header by queued ≡ true
    → (freed_by b by queued == 0) ≡ false
needless_frees b header by queued e =
    not_true (freed_by b by queued == 0) (and_left (not (freed_by b by queued == 0)) (answers_undo b.loss.undo b header) e)

-- it is the block as it was, or with the window from before
pub undone_cases :
    (b : Tcb) (header : TcpHeader) (by queued : ℕ) (P : Tcb → Type 0) → P b
    → ((u : Undo) → b.loss.undo ≡ Some u → (freed_by b by queued == 0) ≡ false → P (undone_by u b queued)) → P (undone b header by queued)
undone_cases b header by queued P stays restored = at (is_needless b header by queued) refl where
  with_undo : Option Undo → Tcb
  with_undo o = record b {
    sender = record b.sender { flight_size = max b.sender.flight_size (min b.sender.snd_max (one_if b.sender.syn_unacked + queued)); resend = false; recover = 0 };
    loss = record b.loss { credit = 0; reo_wnd_mult = if arrived_early b then reo_wnd_raised b.loss else b.loss.reo_wnd_mult };
    reno = prior_of o b.reno;
  }

  answers : is_needless b header by queued ≡ true → answers_undo b.loss.undo b header ≡ true
  answers e = and_right (not (freed_by b by queued == 0)) (answers_undo b.loss.undo b header) e

  by_undo : (o : Option Undo) → b.loss.undo ≡ o → is_needless b header by queued ≡ true → P (with_undo b.loss.undo)
  by_undo None none e =
      absurd (let clash : true ≡ false = sym (answers e) ∙ ap (λ (o : Option Undo). answers_undo o b header) none in cc)
  by_undo (Some u) some e = subst (λ (o : Option Undo). P (with_undo o)) (sym some) (restored u some (needless_frees b header by queued e))

  at : (needless : Bool) → is_needless b header by queued ≡ needless → P (undone_if needless b queued)
  at true e = by_undo b.loss.undo refl e
  at false e = stays
