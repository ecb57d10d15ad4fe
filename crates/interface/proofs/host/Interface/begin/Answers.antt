use Rattle.std.proofs.Common.{◌∙◌}
use Rattle.interface.specs.State.{state}
use Rattle.interface.proofs.Begun.{begun_host, begun_quiet, begun_reports, begun_settings, begun_work}
use Rattle.interface.proofs.Settings.{settings_then}
use Rattle.interface.proofs.host.Interface.begin.Goals as goal

pub returns-clause-work : goal.returns-clause-work
returns-clause-work g c =
    begun_work g.D.Device.moves c.args.timestamp (state c.args.device.now c.args.self.now c.args.slots.now)
    (state c.tell_reports.new.device c.tell_reports.new.self c.args.slots.now) (c.tell_reports.ensures.tells c.args.slots.now)
    c.tell_reports.ensures.settings c.check_paths.new.self c.check_paths.ensures

pub returns-clause-host : goal.returns-clause-host
returns-clause-host g c =
    begun_host g.D.Device.moves c.args.timestamp (state c.args.device.now c.args.self.now c.args.slots.now)
    (state c.tell_reports.new.device c.tell_reports.new.self c.args.slots.now) (c.tell_reports.ensures.tells c.args.slots.now)
    c.check_paths.new.self c.args.slots.now c.check_paths.ensures

pub returns-clause-silent : goal.returns-clause-silent
returns-clause-silent g c = λ none.
    begun_reports c.args.timestamp c.tell_reports.new.self c.check_paths.new.self c.args.slots.now c.check_paths.ensures ∙ c.tell_reports.ensures.silent none

pub returns-clause-quiet : goal.returns-clause-quiet
returns-clause-quiet g c = λ asked is early reports.
    let begun = c.tell_reports.ensures.quiet reports in (
      begun.0,
      begun_quiet c.args.timestamp asked c.args.self.now c.tell_reports.new.self c.check_paths.new.self c.args.slots.now begun.1 is early
          c.check_paths.ensures,
    )

pub returns-clause-settings : goal.returns-clause-settings
returns-clause-settings g c =
    settings_then c.args.self.now.inner c.tell_reports.new.self.inner c.check_paths.new.self.inner c.tell_reports.ensures.settings
    (begun_settings c.args.timestamp c.tell_reports.new.self c.check_paths.new.self c.args.slots.now c.check_paths.ensures)
