use Rattle.std.proofs.Common.{arith, ◌≡◌, ◌<◌, length, ◌∙◌, ap, sym}
use Rattle.std.specs.Prelude.{slice_index_or, slice_set}
use Rattle.std.proofs.lemmas.List.{get_or_default}
use Rattle.std.proofs.lemmas.List.Edits.{map_over_more}
use Rattle.app_tun_services.specs.Site.{initial_session}
use Rattle.app_tun_services.specs.Tallies.{no_more}
use Rattle.app_tun_services.proofs.Collected.{taken_more}
use Rattle.app_tun_services.proofs.tally.Tally.collect.Goals as goal

-- one more is taken over
pub loop-i-preserved : goal.loop-i-preserved
loop-i-preserved c =
    let xs = c.args.sessions.now in
    let ys = c.loop-i.sessions in
    let i = c.loop-i.i in
    let x = slice_index_or ys i initial_session in
    let within : i < length ys = omega (arith, c.loop-i-test.true, c.loop-i.auto.sessions) in
    let read : x ≡ slice_index_or ys i x = sym (get_or_default ys i x initial_session within) in (
      c.take.ensures.tally ∙ taken_more xs ys c.args.self.now c.loop-i.self i x c.loop-i-test.true c.loop-i.invariant.0 c.loop-i.invariant.1 read,
      ap (slice_set ys i) c.take.ensures.session ∙ map_over_more no_more xs ys i x c.loop-i-test.true c.loop-i.invariant.1 read,
    )
