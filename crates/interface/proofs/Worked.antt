-- What a host does of its own before a poll: nothing but moves of the device, and no socket is touched.
use Rattle.std.proofs.Common.{◌≡◌, ℕ, ℤ, Bool, true, false, inl, inr, List, Option, Some, None, refl, sym, ap, ◌∙◌, subst}
use Rattle.net_base.specs.Device.{Move, Allowed, Emitted, Denied}
use Rattle.ip_wire.specs.IpAddress.{IpAddress}
use Rattle.iface_egress.specs.Departing.{HasSettingsOf}
use Rattle.iface_egress.specs.Emits.{Emits}
use Rattle.iface_egress.specs.declared.socket_set.SocketStorage.{SocketStorage}
use Rattle.iface_ingress.specs.Socket.{Socket}
use Rattle.iface_reports.specs.Frames.{report_frame, report_frame_len}
use Rattle.iface_reports.specs.Reports.{ReportsValue, micros}
use Rattle.iface_reports.specs.Told.{ReportValue, first_due, report_at, v4_family, v6_family}
use Rattle.iface_reports.specs.Transmits.{GoesIf, Tells, TellsAt, Transmits}
use Rattle.iface_tables.specs.Inner.{InnerValue, at_instant}
use Rattle.interface.specs.BlackHoles.{paths_checked}
use Rattle.interface.specs.Host.{HostValue}
use Rattle.interface.specs.OwnWork.{OwnWork, TellsIf, ChecksPathsIf}
use Rattle.interface.specs.State.{State}
use Rattle.interface.proofs.Settings.{settings_then}

-- MOVES: what each keeps of a device is kept

module _ {D : Type 0} (moves : D → Move → D → Type 0) (Q : D → Type 0) (keeps : (d d' : D) (m : Move) → moves d m d' → Q d → Q d') where
  same : (d d' : D) → d' ≡ d → Q d → Q d'
  same d d' is = subst Q (sym is)

  emits : (old new : D) (frame : List ℕ) (len : ℕ) (taken : Bool) → Emits moves old frame len taken new → Q old → Q new
  emits old new frame len true goes = keeps old new (Emitted frame) goes.0
  emits old new frame len false goes = keeps old new (Denied len) goes

  goes_if : (i : InnerValue) (old new : D) (report : ReportValue) (went : Bool) → GoesIf moves i old report went new → Q old → Q new
  goes_if i old new report true one holds =
      emits one.0 new (report_frame i report) (report_frame_len i report) true one.2 (keeps old one.0 (Allowed i.instant true) one.1 holds)
  goes_if i old new report false (inl none) holds = keeps old new (Allowed i.instant false) none holds
  goes_if i old new report false (inr one) holds =
      emits one.0 new (report_frame i report) (report_frame_len i report) false one.2 (keeps old one.0 (Allowed i.instant true) one.1 holds)

  tells_at : (i : InnerValue) (family : IpAddress) (old new : D) (r after : ReportsValue) (at : Option ℕ) (went : Bool)
      → TellsAt moves i old family r at went new after → Q old → Q new
  tells_at i family old new r after None went one = same old new one.1
  tells_at i family old new r after (Some at) true one = goes_if i old new (report_at i family r at) true one.0
  tells_at i family old new r after (Some at) false one = goes_if i old new (report_at i family r at) false one.0

  tells : (i : InnerValue) (family : IpAddress) (old new : D) (r after : ReportsValue) (went : Bool) → Tells moves i old family r went new after → Q old → Q new
  tells i family old new r after went one = tells_at i family old new r after (first_due family (micros i) r.rows) went one

  transmits : (i : InnerValue) (old new : D) (r after : ReportsValue) (went : Bool) → Transmits moves i old r went new after → Q old → Q new
  transmits i old new r after went (inl one) holds = tells i v4_family old new r after false one.0 holds
  transmits i old new r after went (inr one) holds =
      tells i v6_family one.0 new one.1 after went one.3 (tells i v4_family old one.0 r one.1 true one.2 holds)

  module _ (t : ℤ) where
    tells_if : (reports : Option ReportsValue) (s s' : State D) → TellsIf moves t reports s s' → Q s.device → Q s'.device
    tells_if None s s' one holds = same s.device s'.device (ap (λ (x : State D). x.device) one) holds
    tells_if (Some r) s s' one holds =
        same one.1 s'.device (ap (λ (x : State D). x.device) one.4)
        (transmits (at_instant t s.host.inner) s.device one.1 r one.2 one.0 one.3 holds)

    checks_paths : (many : Bool) (s s' : State D) → ChecksPathsIf moves t many s s' → Q s.device → Q s'.device
    checks_paths false s s' one holds = same s.device s'.device (ap (λ (x : State D). x.device) one) holds
    checks_paths true s s' one holds = same s.device s'.device (ap (λ (x : State D). x.device) one) holds

    pub worked_keeps : (s s' : State D) → OwnWork moves t s s' → Q s.device → Q s'.device
    worked_keeps s s' one holds =
        checks_paths s.host.inner.host_requirements one.0 s' one.2 (tells_if s.host.reports s one.0 one.1 holds)

-- SOCKETS AND SETTINGS

module _ {D : Type 0} (moves : D → Move → D → Type 0) (t : ℤ) where
  told_slots : (reports : Option ReportsValue) (s s' : State D) → TellsIf moves t reports s s' → s'.slots ≡ s.slots
  told_slots None s s' one = ap (λ (x : State D). x.slots) one
  told_slots (Some r) s s' one = ap (λ (x : State D). x.slots) one.4

  checked_slots : (many : Bool) (s s' : State D) → ChecksPathsIf moves t many s s' → s'.slots ≡ s.slots
  checked_slots false s s' one = ap (λ (x : State D). x.slots) one
  checked_slots true s s' one = ap (λ (x : State D). x.slots) one

  pub worked_slots : (s s' : State D) → OwnWork moves t s s' → s'.slots ≡ s.slots
  worked_slots s s' one = checked_slots s.host.inner.host_requirements one.0 s' one.2 ∙ told_slots s.host.reports s one.0 one.1

  same_settings : (s s' : State D) → s'.host.inner ≡ s.host.inner → HasSettingsOf s.host.inner s'.host.inner
  same_settings s s' is = record {
    hardware = ap (λ (x : InnerValue). x.hardware) is;
    mtu = ap (λ (x : InnerValue). x.mtu) is;
    checksums = ap (λ (x : InnerValue). x.checksums) is;
    addresses = ap (λ (x : InnerValue). x.addresses) is;
    isn_key = ap (λ (x : InnerValue). x.isn_key) is;
    any_ip = ap (λ (x : InnerValue). x.any_ip) is;
    groups = ap (λ (x : InnerValue). x.groups) is;
    host_requirements = ap (λ (x : InnerValue). x.host_requirements) is;
    routes = ap (λ (x : InnerValue). x.routes) is;
  }

  at_other : (i i' : InnerValue) → i' ≡ at_instant t i → HasSettingsOf i i'
  at_other i i' is = record {
    hardware = ap (λ (x : InnerValue). x.hardware) is;
    mtu = ap (λ (x : InnerValue). x.mtu) is;
    checksums = ap (λ (x : InnerValue). x.checksums) is;
    addresses = ap (λ (x : InnerValue). x.addresses) is;
    isn_key = ap (λ (x : InnerValue). x.isn_key) is;
    any_ip = ap (λ (x : InnerValue). x.any_ip) is;
    groups = ap (λ (x : InnerValue). x.groups) is;
    host_requirements = ap (λ (x : InnerValue). x.host_requirements) is;
    routes = ap (λ (x : InnerValue). x.routes) is;
  }

  at_checked : (i i' : InnerValue) (ps : List (SocketStorage Socket)) → i' ≡ paths_checked (at_instant t i) ps → HasSettingsOf i i'
  at_checked i i' ps is = record {
    hardware = ap (λ (x : InnerValue). x.hardware) is;
    mtu = ap (λ (x : InnerValue). x.mtu) is;
    checksums = ap (λ (x : InnerValue). x.checksums) is;
    addresses = ap (λ (x : InnerValue). x.addresses) is;
    isn_key = ap (λ (x : InnerValue). x.isn_key) is;
    any_ip = ap (λ (x : InnerValue). x.any_ip) is;
    groups = ap (λ (x : InnerValue). x.groups) is;
    host_requirements = ap (λ (x : InnerValue). x.host_requirements) is;
    routes = ap (λ (x : InnerValue). x.routes) is;
  }

  told_settings : (reports : Option ReportsValue) (s s' : State D) → TellsIf moves t reports s s' → HasSettingsOf s.host.inner s'.host.inner
  told_settings None s s' one = same_settings s s' (ap (λ (x : State D). x.host.inner) one)
  told_settings (Some r) s s' one = at_other s.host.inner s'.host.inner (ap (λ (x : State D). x.host.inner) one.4)

  checked_settings : (many : Bool) (s s' : State D) → ChecksPathsIf moves t many s s' → HasSettingsOf s.host.inner s'.host.inner
  checked_settings false s s' one = same_settings s s' (ap (λ (x : State D). x.host.inner) one)
  checked_settings true s s' one = at_checked s.host.inner s'.host.inner s.slots (ap (λ (x : State D). x.host.inner) one)

  pub worked_settings : (s s' : State D) → OwnWork moves t s s' → HasSettingsOf s.host.inner s'.host.inner
  worked_settings s s' one =
      settings_then s.host.inner one.0.host.inner s'.host.inner (told_settings s.host.reports s one.0 one.1)
      (checked_settings s.host.inner.host_requirements one.0 s' one.2)
