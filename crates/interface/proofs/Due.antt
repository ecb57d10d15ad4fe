-- When a socket is due, and all of them.
use Rattle.std.proofs.Common.{◌≡◌, Bool, true, false, not, ◌&&◌, if◌then◌else◌, ℤ, pos, ◌≤ℤ◌, ◌<ℤ◌, int_lt, List, [], ◌∷◌, map, Option, Some, None, refl, sym}
use Rattle.std.proofs.Common.{ap, ◌∙◌, subst, arith}
use Rattle.std.specs.List.{fold}
use Rattle.std.proofs.lemmas.List.Folds.{fold-map}
use Rattle.iface_ingress.specs.Polling.{IsBefore}
use Rattle.iface_ingress.specs.PollAt.{PollAt}
use Rattle.iface_ingress.specs.PollAt.TheVariants as At
use Rattle.iface_tables.specs.Inner.{InnerValue}
use Rattle.iface_egress.specs.Meta.{waits_by, poll_by}
use Rattle.iface_egress.specs.declared.socket_meta.Waiting.{Waiting}
use Rattle.iface_egress.specs.declared.socket_set.SocketStorage.{SocketStorage}
use Rattle.iface_ingress.specs.Socket.{Socket}
use Rattle.interface.specs.Instant.{instant_of, earlier, slot_instant, soonest}
use Rattle.interface.specs.QuietStep.{IsEarlier}

-- ONE SOCKET

not_both : (t instant : ℤ) → t <ℤ instant → int_lt t instant ≡ false → ⊥
not_both t instant before late = grind (arith)

pub before_due : (t : ℤ) → pos 0 ≤ℤ t → (p : PollAt) → IsEarlier t (instant_of p) → IsBefore t p
before_due t instant At.Now early = absurd (negative t instant early) where
  negative : (t : ℤ) → pos 0 ≤ℤ t → t <ℤ pos 0 → ⊥
  negative t low high = grind (arith)
before_due t instant (At.Time m) early = early
before_due t instant At.Ingress early = tt

-- a marked socket that doesn't wait any more, and whose waiting hadn't ended before, is due when it says so itself
module _ (t asked_at : ℤ) (p : PollAt) where
  unwaited : (test : Bool) (until : ℤ) → int_lt t until ≡ false → IsEarlier t (instant_of (if test then At.Time until else p)) → IsEarlier t (instant_of p)
  unwaited true until late early = absurd (not_both t until early late)
  unwaited false until late early = early

  pub due_itself : (w : Option Waiting) (before now : Bool) → (before ≡ false → now ≡ false) → waits_by w now t ≡ false
      → IsEarlier t (instant_of (poll_by w p before asked_at)) → IsEarlier t (instant_of p)
  due_itself None before now stays idle early = early
  due_itself (Some w) true now stays idle early = early
  due_itself (Some w) false now stays idle early =
      unwaited (int_lt asked_at w.silent_until) w.silent_until
      (subst (λ (known : Bool). (not known && int_lt t w.silent_until) ≡ false) (stays refl) idle) early

  unwaited_same : (test : Bool) (until : ℤ) → int_lt t until ≡ false → IsEarlier t (instant_of (if test then At.Time until else p)) →
      instant_of p ≡ instant_of (if test then At.Time until else p)
  unwaited_same true until late early = absurd (not_both t until early late)
  unwaited_same false until late early = refl

  -- its mark doesn't count any more
  pub same_itself : (w : Option Waiting) (before now : Bool) → (before ≡ false → now ≡ false) → waits_by w now t ≡ false
      → IsEarlier t (instant_of (poll_by w p before asked_at)) → instant_of p ≡ instant_of (poll_by w p before asked_at)
  same_itself None before now stays idle early = refl
  same_itself (Some w) true now stays idle early = refl
  same_itself (Some w) false now stays idle early =
      unwaited_same (int_lt asked_at w.silent_until) w.silent_until
      (subst (λ (known : Bool). (not known && int_lt t w.silent_until) ≡ false) (stays refl) idle) early

-- ALL OF THEM

both_later : (t a b : ℤ) (test : Bool) → int_lt b a ≡ test → t <ℤ (if test then b else a) → (t <ℤ a) × (t <ℤ b)
both_later t a b true is below = (grind (arith), below)
both_later t a b false is below = (below, grind (arith))

pub both_early : (t : ℤ) (a b : Option ℤ) → IsEarlier t (earlier a b) → IsEarlier t a × IsEarlier t b
both_early t None b early = (tt, early)
both_early t (Some a) None early = (early, tt)
both_early t (Some a) (Some b) early = both_later t a b (int_lt b a) refl early

module _ (t : ℤ) (asked : InnerValue) where
  -- every slot is later
  abbrev pub AllLater : List (SocketStorage Socket) → Type 0
  AllLater [] = Unit {0}
  AllLater (p ∷ ps) = IsEarlier t (slot_instant asked p) × AllLater ps

  later_from : (best : Option ℤ) (ps : List (SocketStorage Socket))
      → IsEarlier t (fold (λ b p. earlier b (slot_instant asked p)) best ps) → IsEarlier t best × AllLater ps
  later_from best [] early = (early, tt)
  later_from best (p ∷ ps) early =
      let rest = later_from (earlier best (slot_instant asked p)) ps early in
      let both = both_early t best (slot_instant asked p) rest.0 in
      (both.0, (both.1, rest.1))

  pub all_later : (ps : List (SocketStorage Socket)) → IsEarlier t (soonest asked ps) → AllLater ps
  all_later ps early = (later_from None ps early).1

-- the soonest is known by the instants of the slots
pub soonest_of : (asked : InnerValue) (ps qs : List (SocketStorage Socket)) → map (slot_instant asked) ps ≡ map (slot_instant asked) qs →
    soonest asked ps ≡ soonest asked qs
soonest_of asked ps qs same =
    sym (fold-map earlier (slot_instant asked) None ps) ∙ ap (fold earlier None) same ∙ fold-map earlier (slot_instant asked) None qs
