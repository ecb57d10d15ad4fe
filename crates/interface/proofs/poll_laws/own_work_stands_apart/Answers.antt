use Rattle.interface.proofs.Silent.{no_work, paths_work, polls_silently, stays_silent}
use Rattle.interface.proofs.Worked.{worked_settings, worked_slots}
use Rattle.interface.proofs.poll_laws.own_work_stands_apart.Goals as goal

pub returns-clause-sockets : goal.returns-clause-sockets
returns-clause-sockets g c = worked_slots g.D.Device.moves

pub returns-clause-settings : goal.returns-clause-settings
returns-clause-settings g c = worked_settings g.D.Device.moves

pub returns-clause-none : goal.returns-clause-none
returns-clause-none g c = no_work g.D.Device.moves

pub returns-clause-paths : goal.returns-clause-paths
returns-clause-paths g c = paths_work g.D.Device.moves

pub returns-clause-silent : goal.returns-clause-silent
returns-clause-silent g c = λ t budget s s' changed none alone polls.
    let silent = polls_silently g.D.Device.moves t budget s s' changed none alone polls in
    (silent, stays_silent g.D.Device.moves t budget s s' changed none silent)
