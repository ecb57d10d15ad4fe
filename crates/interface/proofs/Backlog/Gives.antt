-- What gives way is free behind it, and was open never.
use Rattle.std.proofs.Common.{◌≡◌, ◌≢◌, ℕ, ◌<◌, List, length, sym, subst, ◌⊎◌, inl, inr}
use Rattle.std.specs.Prelude.{Option, Some, None, refl, slice_set}
use Rattle.std.proofs.lemmas.List.{get_or-set_same, get_or-set_other, length-set}
use Rattle.iface_egress.specs.declared.socket_set.SocketStorage.{SocketStorage}
use Rattle.iface_ingress.specs.Socket.{Socket}
use Rattle.interface.specs.Backlog.Entries.{entry_at, no_entry}
use Rattle.interface.specs.Backlog.GivesWay.{GivesWay, Freed, HasNone, IsHalfOpenNext, IsNext, is_at, freed}
use Rattle.interface.specs.declared.listener.entry.Entry.{Entry}
use Rattle.interface.specs.declared.listener.stage.Stage.{Stage}
use Rattle.interface.specs.declared.listener.stage.Stage.TheVariants as Is
use Rattle.ip_wire.specs.IpListenEndpoint.{IpListenEndpoint}

-- the one that gives way lies in the list, and was half open or in TIME-WAIT
next_lies : (now : ℕ) (es : List Entry) (i : ℕ) → IsNext now es (Some i) → i < length es
next_lies now es i (inl waits) = waits.0
next_lies now es i (inr half) = half.1.0.0

next_stage : (now : ℕ) (es : List Entry) (i : ℕ) → IsNext now es (Some i)
    → ((entry_at es i).stage ≡ Is.TimeWait) ⊎ ((entry_at es i).stage ≡ Is.HalfOpen)
next_stage now es i (inl waits) = inl waits.1
next_stage now es i (inr half) = inr half.1.0.1

is_free_at : (now i : ℕ) (es : List Entry) → i < length es → is_at Is.Free (slice_set es i (freed now (entry_at es i).handle)) i
is_free_at now i es lies = (
  subst (λ (n : ℕ). i < n) (sym (length-set es i (freed now (entry_at es i).handle))) lies,
  subst (λ (e : Entry). e.stage ≡ Is.Free) (sym (get_or-set_same es i (freed now (entry_at es i).handle) no_entry lies)) refl,
)

module _ (endpoint : IpListenEndpoint) (now : ℕ) (ps ps' : List (SocketStorage Socket)) (es es' : List Entry) where
  none_left : (next : Option ℕ) → IsNext now es next → Freed endpoint now next ps es ps' es' → HasNone Is.Free es' → IsNext now es' None
  none_left None which same none = subst (λ (l : List Entry). IsNext now l None) (sym same.1) which
  none_left (Some i) which set none =
      absurd (none i (subst (λ (l : List Entry). is_at Is.Free l i) (sym set.1) (is_free_at now i es (next_lies now es i which))))

  pub none_waits : GivesWay endpoint now ps es ps' es' → HasNone Is.Free es' → HasNone Is.TimeWait es' × IsHalfOpenNext now es' None
  none_waits (inl free) none =
      absurd (none free.0.0 (subst (λ (l : List Entry). is_at Is.Free l free.0.0) (sym free.2) free.0.1))
  none_waits (inr gives) none = none_left gives.1.0 gives.1.1 gives.1.2 none

  -- it is at neither stage, so it isn't the one
  is_other : (stage : Stage) → stage ≢ Is.TimeWait → stage ≢ Is.HalfOpen → (i j : ℕ) → (entry_at es i).stage ≡ stage
      → ((entry_at es j).stage ≡ Is.TimeWait) ⊎ ((entry_at es j).stage ≡ Is.HalfOpen) → i ≢ j
  is_other stage waits half i j is (inl at) same = waits (cc (is, at, same))
  is_other stage waits half i j is (inr at) same = half (cc (is, at, same))

  stays_by : (stage : Stage) → stage ≢ Is.TimeWait → stage ≢ Is.HalfOpen → (i : ℕ) → is_at stage es i → (next : Option ℕ) → IsNext now es next
      → Freed endpoint now next ps es ps' es' → entry_at es' i ≡ entry_at es i
  stays_by stage waits half i at None which same = cc (same.1)
  stays_by stage waits half i at (Some j) which set =
      let other = get_or-set_other es j i (freed now (entry_at es j).handle) no_entry (is_other stage waits half i j at.1 (next_stage now es j which))
      in cc (set.1, other)

  pub stays : (stage : Stage) → stage ≢ Is.TimeWait → stage ≢ Is.HalfOpen → (i : ℕ) → GivesWay endpoint now ps es ps' es' → is_at stage es i
      → entry_at es' i ≡ entry_at es i
  stays stage waits half i (inl free) at = cc (free.2)
  stays stage waits half i (inr gives) at = stays_by stage waits half i at gives.1.0 gives.1.1 gives.1.2

open_not_waiting : Is.Open ≢ Is.TimeWait
open_not_waiting h = cc (h)

open_not_half : Is.Open ≢ Is.HalfOpen
open_not_half h = cc (h)

accepted_not_waiting : Is.Accepted ≢ Is.TimeWait
accepted_not_waiting h = cc (h)

accepted_not_half : Is.Accepted ≢ Is.HalfOpen
accepted_not_half h = cc (h)

pub open_stays : (endpoint : IpListenEndpoint) (now i : ℕ) (ps ps' : List (SocketStorage Socket)) (es es' : List Entry)
    → GivesWay endpoint now ps es ps' es' → is_at Is.Open es i → entry_at es' i ≡ entry_at es i
open_stays endpoint now i ps ps' es es' = stays endpoint now ps ps' es es' Is.Open open_not_waiting open_not_half i

pub accepted_stays : (endpoint : IpListenEndpoint) (now i : ℕ) (ps ps' : List (SocketStorage Socket)) (es es' : List Entry)
    → GivesWay endpoint now ps es ps' es' → is_at Is.Accepted es i → entry_at es' i ≡ entry_at es i
accepted_stays endpoint now i ps ps' es es' = stays endpoint now ps ps' es es' Is.Accepted accepted_not_waiting accepted_not_half i
