-- What is told of multicast groups before a poll, in a method's words.
use Rattle.std.proofs.Common.{◌≡◌, ℤ, pos, ◌≤ℤ◌, Bool, inl, inr, List, Option, Some, None, refl, sym, ap, ◌∙◌, subst}
use Rattle.net_base.specs.Device.{Move}
use Rattle.iface_reports.specs.Reports.{ReportsValue, reports_due}
use Rattle.iface_reports.specs.Transmits.{Transmits}
use Rattle.iface_reports.proofs.Quiet.{IsBefore, quiet_reports}
use Rattle.iface_tables.specs.Inner.{InnerValue, at_instant}
use Rattle.iface_egress.specs.declared.socket_set.SocketStorage.{SocketStorage}
use Rattle.iface_ingress.specs.Socket.{Socket}
use Rattle.interface.specs.Host.{HostValue, host_at}
use Rattle.interface.specs.OwnWork.{HasBegun, TellsIf}
use Rattle.interface.specs.QuietStep.{IsEarlier}
use Rattle.interface.specs.Reports.{reports_at}
use Rattle.interface.specs.State.{state, telling}

before_so : (t : ℤ) (at : Option ℤ) → IsEarlier t at → IsBefore t at
before_so t None early = tt
before_so t (Some at) early = early

module _ {D : Type 0} (moves : D → Move → D → Type 0) (t : ℤ) (h : HostValue) (r : ReportsValue) (some : h.reports ≡ Some r) (went : Bool) (old new : D)
    (after : ReportsValue) (sent : Transmits moves (at_instant t h.inner) old r went new after) (h' : HostValue)
    (is : h' ≡ telling (host_at t h) (Some after)) where
  pub told : (slots : List (SocketStorage Socket)) → TellsIf moves t h.reports (state old h slots) (state new h' slots)
  told slots =
      subst (λ (o : Option ReportsValue). TellsIf moves t o (state old h slots) (state new h' slots)) (sym some)
      (went, new, after, sent, ap (λ (x : HostValue). state new x slots) is)

  pub quiet : pos 0 ≤ℤ t → IsEarlier t (reports_at h.reports) → (new ≡ old) × HasBegun t h h'
  quiet from early =
      let at : IsEarlier t (reports_due r) = subst (λ (o : Option ReportsValue). IsEarlier t (reports_at o)) some early in
      let none = quiet_reports moves (at_instant t h.inner) old r went new after from (before_so t (reports_due r) at) sent in
      let same : telling (host_at t h) (Some after) ≡ host_at t h =
      ap (λ (x : ReportsValue). telling (host_at t h) (Some x)) none.2 ∙ ap (λ (o : Option ReportsValue). telling (host_at t h) o) (sym some) in
      (none.1, inr (is ∙ same))
