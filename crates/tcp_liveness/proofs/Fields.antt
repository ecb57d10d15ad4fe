-- What window fields say of a receive buffer, own or the peer's.
use Rattle.std.proofs.Common.{◌≡◌, ℕ, ◌+◌, ◌*◌, ◌^◌, ◌≤◌, ◌==◌, ◌||◌, min, false, Option, Some, sym, ap, ◌∙◌, subst, arith}
use Rattle.std.proofs.lemmas.Bool.{cond_both}
use Rattle.std.proofs.lemmas.Nat.{pow_pos}
use Rattle.ip_wire.specs.TcpControl.TheVariants as Control
use Rattle.ip_wire.specs.TcpHeader.{TcpHeader}
use Rattle.tcp_invariants.specs.Controls.{is_syn, is_rst}
use Rattle.tcp_invariants.proofs.RcvAdvSteps.{told_near}
use Rattle.tcp_invariants.proofs.OrderSteps.{clash}
use Rattle.tcp_invariants.proofs.ReadRules.{capped_own}
use Rattle.tcp_block.specs.Acknowledged.{scaled}
use Rattle.tcp_block.specs.declared.tcb.Tcb.{Tcb}
use Rattle.tcp_block.specs.TcbRules.{announced, is_worth_telling, local_scale, local_shift, shift_of, window_field}
use Rattle.tcp_liveness.specs.Windows.{Announces}

-- what a field says of a window that fits
pub heard_fits :
    (theirs : ℕ) (scale : Option ℕ) (field : ℕ) → scale ≡ Some (local_scale theirs) → field * 2 ^ local_scale theirs ≤ theirs → scaled scale field ≤ theirs
heard_fits theirs scale field is fits =
    subst (λ (s : Option ℕ). scaled s field ≤ theirs) (sym is)
    (subst (λ (n : ℕ). field * 2 ^ n ≤ theirs) (sym (capped_own theirs)) fits)

upto : (a b c : ℕ) → a ≤ b → b ≤ c → a ≤ c
upto a b c e f = omega arith

-- the field of a segment fits the own buffer
pub field_fits :
    (b : Tcb) (capacity free waiting own n : ℕ) → b.peer.scale ≡ Some n → waiting + free ≡ capacity → capacity ≡ own
    → window_field b capacity (announced b capacity free waiting) * 2 ^ local_scale own ≤ own
field_fits b capacity free waiting own n is whole same =
    subst (λ (m : ℕ). field * 2 ^ local_scale m ≤ m) same
    (subst (λ (m : ℕ). field * 2 ^ m ≤ capacity) (ap (λ (s : Option ℕ). shift_of s (local_scale capacity)) is)
    (upto (field * unit) space_told capacity (told_near space_told unit 0 (pow_pos (local_shift b capacity)) (omega arith) (omega arith)).0 within))
  where
    space_told : ℕ
    space_told = announced b capacity free waiting

    unit : ℕ
    unit = 2 ^ local_shift b capacity

    field : ℕ
    field = window_field b capacity space_told

    part : (a b c : ℕ) → a + b ≡ c → b ≤ c
    part a b c e = omega arith

    lesser : (a b c d : ℕ) → a + b ≡ c → min d b ≤ c
    lesser a b c d e = omega arith

    within : space_told ≤ capacity
    within =
        cond_both ((waiting == 0) || is_worth_telling b capacity free) free (min b.receiver.rcv_adv free) (λ (n : ℕ). n ≤ capacity)
        (λ _. part waiting free capacity whole) (λ _. lesser waiting free capacity b.receiver.rcv_adv whole)

-- a segment that isn't a SYN
pub plain_announces :
    (own : ℕ) (header : TcpHeader) → is_syn header.control ≡ false → header.window_len * 2 ^ local_scale own ≤ own → Announces own header
plain_announces own header plain fits = record { syn = λ e. clash (sym e ∙ plain); later = λ _ _. fits }

-- a reset
pub reset_announces : (own : ℕ) (header : TcpHeader) → header.control ≡ Control.Rst → Announces own header
reset_announces own header is = record {
  syn = λ e. clash (sym e ∙ ap is_syn is);
  later = λ _ e. clash (sym (ap is_rst is) ∙ e);
}
