-- What a host does of its own as a call that polls begins, in a method's words.
use Rattle.std.proofs.Common.{◌≡◌, ℤ, Bool, true, false, inl, inr, List, Option, Some, None, refl, sym, ap, ◌∙◌, subst}
use Rattle.net_base.specs.Device.{Move}
use Rattle.iface_tables.specs.Inner.{InnerValue, at_instant}
use Rattle.iface_egress.specs.Departing.{HasSettingsOf}
use Rattle.iface_egress.specs.declared.socket_set.SocketStorage.{SocketStorage}
use Rattle.iface_ingress.specs.Socket.{Socket}
use Rattle.iface_reports.specs.Reports.{ReportsValue}
use Rattle.interface.specs.BlackHoles.{checked, checked_if, paths_checked, paths_if, with_paths}
use Rattle.interface.specs.Host.{HostValue, host_at}
use Rattle.interface.specs.OwnWork.{ChecksPathsIf, HasBegun, OwnWork, TellsIf}
use Rattle.interface.specs.QuietStep.{IsEarly}
use Rattle.interface.specs.State.{State, state}
use Rattle.interface.proofs.BlackHoles.{quiet_paths}

module _ {D : Type 0} (moves : D → Move → D → Type 0) (t : ℤ) where
  checks_so : (many : Bool) (s : State D) → ChecksPathsIf moves t many s (state s.device (checked_if many t s.host s.slots) s.slots)
  checks_so true s = refl
  checks_so false s = refl

  pub begun_work : (s mid : State D) → TellsIf moves t s.host.reports s mid → HasSettingsOf s.host.inner mid.host.inner → (h : HostValue)
      → h ≡ checked_if mid.host.inner.host_requirements t mid.host mid.slots → OwnWork moves t s (state mid.device h mid.slots)
  begun_work s mid tells same h is = (
    mid,
    tells,
    subst (λ (x : HostValue). ChecksPathsIf moves t s.host.inner.host_requirements mid (state mid.device x mid.slots)) (sym is)
        (subst (λ (many : Bool). ChecksPathsIf moves t many mid
        (state mid.device (checked_if mid.host.inner.host_requirements t mid.host mid.slots) mid.slots)) same.host_requirements
        (checks_so mid.host.inner.host_requirements mid)),
  )

  -- THE HOST

  told_at : (reports : Option ReportsValue) (s s' : State D) → TellsIf moves t reports s s' → at_instant t s'.host.inner ≡ at_instant t s.host.inner
  told_at None s s' one = ap (λ (x : State D). at_instant t x.host.inner) one
  told_at (Some r) s s' one = ap (λ (x : State D). at_instant t x.host.inner) one.4

  checked_at : (many : Bool) (h : HostValue) (ps : List (SocketStorage Socket)) → h.inner.host_requirements ≡ many →
      at_instant t (checked_if many t h ps).inner ≡ paths_checked (at_instant t h.inner) ps
  checked_at true h ps is = refl
  checked_at false h ps is = ap (λ (many : Bool). with_paths (at_instant t h.inner) (paths_if many (at_instant t h.inner) ps)) (sym is)

  pub begun_host : (s mid : State D) → TellsIf moves t s.host.reports s mid → (h : HostValue) (ps : List (SocketStorage Socket))
      → h ≡ checked_if mid.host.inner.host_requirements t mid.host ps → at_instant t h.inner ≡ paths_checked (at_instant t s.host.inner) ps
  begun_host s mid tells h ps is =
      ap (λ (x : HostValue). at_instant t x.inner) is ∙ checked_at mid.host.inner.host_requirements mid.host ps refl
      ∙ ap (λ (i : InnerValue). paths_checked i ps) (told_at s.host.reports s mid tells)

-- NOTHING ELSE of the host

checked_reports : (t : ℤ) (many : Bool) (h : HostValue) (ps : List (SocketStorage Socket)) → (checked_if many t h ps).reports ≡ h.reports
checked_reports t true h ps = refl
checked_reports t false h ps = refl

pub begun_reports : (t : ℤ) (h h' : HostValue) (ps : List (SocketStorage Socket)) → h' ≡ checked_if h.inner.host_requirements t h ps → h'.reports ≡ h.reports
begun_reports t h h' ps is = ap (λ (x : HostValue). x.reports) is ∙ checked_reports t h.inner.host_requirements h ps

checked_settings : (t : ℤ) (many : Bool) (h : HostValue) (ps : List (SocketStorage Socket)) → HasSettingsOf h.inner (checked_if many t h ps).inner
checked_settings t true h ps = record {
  hardware = refl;
  mtu = refl;
  checksums = refl;
  addresses = refl;
  isn_key = refl;
  any_ip = refl;
  groups = refl;
  host_requirements = refl;
  routes = refl;
}
checked_settings t false h ps = record {
  hardware = refl;
  mtu = refl;
  checksums = refl;
  addresses = refl;
  isn_key = refl;
  any_ip = refl;
  groups = refl;
  host_requirements = refl;
  routes = refl;
}

pub begun_settings : (t : ℤ) (h h' : HostValue) (ps : List (SocketStorage Socket)) → h' ≡ checked_if h.inner.host_requirements t h ps →
    HasSettingsOf h.inner h'.inner
begun_settings t h h' ps is =
    subst (λ (x : HostValue). HasSettingsOf h.inner x.inner) (sym is) (checked_settings t h.inner.host_requirements h ps)

-- TOO EARLY

quiet_checked : (t : ℤ) (asked : InnerValue) (h mid : HostValue) (ps : List (SocketStorage Socket)) → HasBegun t h mid
    → h.inner ≡ at_instant h.inner.instant asked → IsEarly asked h.left ps t → checked t mid ps ≡ host_at t h
quiet_checked t asked h mid ps begun is early =
    by begun
  where
    still : paths_checked (at_instant t h.inner) ps ≡ at_instant t h.inner
    still =
        ap (λ (i : InnerValue). paths_checked (at_instant t i) ps) is ∙ quiet_paths asked h.left ps t early ∙ sym (ap (at_instant t) is)

    rest : checked t h ps ≡ host_at t h
    rest = ap (λ (i : InnerValue). record h { inner = i }) still

    by : HasBegun t h mid → checked t mid ps ≡ host_at t h
    by (inl same) = ap (λ (x : HostValue). checked t x ps) same ∙ rest
    by (inr now) = ap (λ (x : HostValue). checked t x ps) now ∙ rest

pub begun_quiet : (t : ℤ) (asked : InnerValue) (h mid h' : HostValue) (ps : List (SocketStorage Socket)) → HasBegun t h mid
    → h.inner ≡ at_instant h.inner.instant asked → IsEarly asked h.left ps t → h' ≡ checked_if mid.inner.host_requirements t mid ps → HasBegun t h h'
begun_quiet t asked h mid h' ps begun is early checks = by mid.inner.host_requirements checks where
  by : (many : Bool) → h' ≡ checked_if many t mid ps → HasBegun t h h'
  by true checks = inr (checks ∙ quiet_checked t asked h mid ps begun is early)
  by false checks = subst (HasBegun t h) (sym checks) begun
