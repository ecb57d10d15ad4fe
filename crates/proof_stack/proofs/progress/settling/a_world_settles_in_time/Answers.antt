use Rattle.std.proofs.Common.{None, refl}
use Rattle.std.specs.Prelude.{pos}
use Rattle.lan.specs.declared.at_link.history.event.Side.TheVariants.{A}
use Rattle.proof_stack.specs.Progress.KeepAliveNumerals.{answering, before, following, kept_asking, sockets}
use Rattle.proof_stack.specs.Progress.SettledNumerals.{news, slot}
use Rattle.proof_stack.proofs.Polls.SomeKeptRounds.{settles}
use Rattle.proof_stack.proofs.Polls.SomeKeptSettling.{caller, enough, proceeds, listener, may_settle}
use Rattle.proof_stack.proofs.Polls.SomeSettling.{ask_for_none}
use Rattle.proof_stack.proofs.progress.settling.a_world_settles_in_time.Goals as goal

pub returns-clause-under_way : goal.returns-clause-under_way
returns-clause-under_way c = refl

pub returns-clause-may : goal.returns-clause-may
returns-clause-may c = may_settle

pub returns-clause-none : goal.returns-clause-none
returns-clause-none c = ask_for_none

pub returns-clause-settles : goal.returns-clause-settles
returns-clause-settles c = settles

pub returns-clause-enough : goal.returns-clause-enough
returns-clause-enough c = enough

pub returns-clause-clock : goal.returns-clause-clock
returns-clause-clock c = proceeds

pub returns-clause-arrived : goal.returns-clause-arrived
returns-clause-arrived c =
    c.what_settles_arrives_in_time.ensures before following slot news sockets 1 (pos 0) 5 None A kept_asking answering may_settle ask_for_none settles proceeds
    caller listener
