use Rattle.std.proofs.Common.{◌≡◌, ◌∙◌, true, false, ap, sym}
use Rattle.std.specs.Option.{is_some}
use Rattle.wire_address.proofs.Texts.{IsOk-ascii}
use Rattle.wire_address.proofs.text.in_hex.Goals as goal

pub returns-in_err-ok-2-clause-room : goal.returns-in_err-ok-2-clause-room
returns-in_err-ok-2-clause-room c = λ fits.
    let ok = IsOk-ascii c.colon_groups-groups.result _ _ c.from_utf8.result c.from_utf8.ensures.cases c.colon_groups-groups.ensures.ascii in
    let no : false ≡ true = sym (ap is_some c.in_err-ok-2.was) ∙ c.ok-2.ensures.variant ∙ ok in
    absurd (cc)
