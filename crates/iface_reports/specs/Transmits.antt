-- Reports that leave a host.
use Rattle.std.specs.Prelude.{◌≡◌, ◌⊎◌, ℕ, ℤ, Bool, true, false, List, length, Option, None, Some}
use Rattle.net_base.specs.Device.{Move, Allowed, Emitted, Denied}
use Rattle.ip_wire.specs.IpAddress.{IpAddress}
use Rattle.iface_tables.specs.Inner.{InnerValue}
use Rattle.iface_reports.specs.Reports.{ReportsValue, micros}
use Rattle.iface_reports.specs.Told.{ReportValue, v4_family, v6_family, first_due, report_at, after_report}
use Rattle.iface_reports.specs.Frames.{report_frame, report_frame_len}

module _ {D : Type 0} (moves : D → Move → D → Type 0) (i : InnerValue) where
  -- a frame with these bytes and of this length went, or one of this length was refused
  abbrev pub Emits : D → List ℕ → ℕ → Bool → D → Type 0
  Emits old frame len true new = moves old (Emitted frame) new × (length frame ≡ len)
  Emits old frame len false new = moves old (Denied len) new

  -- the device gives leave and takes the report's frame, or not
  abbrev pub GoesIf : D → ReportValue → Bool → D → Type 0
  GoesIf old report true new =
      (mid : D) × moves old (Allowed i.instant true) mid × Emits mid (report_frame i report) (report_frame_len i report) true new
  GoesIf old report false new =
      moves old (Allowed i.instant false) new
      ⊎ ((mid : D) × moves old (Allowed i.instant true) mid × Emits mid (report_frame i report) (report_frame_len i report) false new)

  -- What was told where it went; where it didn't, all stays due.
  abbrev pub TellsIf : D → IpAddress → ReportsValue → ℕ → Bool → D → ReportsValue → Type 0
  TellsIf old family r at true new after = GoesIf old (report_at i family r at) true new × (after ≡ after_report i family at r)
  TellsIf old family r at false new after = GoesIf old (report_at i family r at) false new × (after ≡ r)

  -- where nothing is due the device isn't asked
  abbrev pub TellsAt : D → IpAddress → ReportsValue → Option ℕ → Bool → D → ReportsValue → Type 0
  TellsAt old family r None went new after = (went ≡ true) × (new ≡ old) × (after ≡ r)
  TellsAt old family r (Some at) went new after = TellsIf old family r at went new after

  -- one report of this family, if one is due
  abbrev pub Tells : D → IpAddress → ReportsValue → Bool → D → ReportsValue → Type 0
  Tells old family r went new after = TellsAt old family r (first_due family (micros i) r.rows) went new after

  -- one report of IGMP, and where that went, or none was due, one of MLD
  abbrev pub Transmits : D → ReportsValue → Bool → D → ReportsValue → Type 0
  Transmits old r went new after =
      (Tells old v4_family r false new after × (went ≡ false))
      ⊎ ((mid : D) × (told : ReportsValue) × Tells old v4_family r true mid told × Tells mid v6_family told went new after)
