use Rattle.proof_stack.proofs.Rounds.Sendings.{none_waits, sends_short, still_whole}
use Rattle.proof_stack.proofs.Rounds.Takings.{takes_few}
use Rattle.proof_stack.proofs.progress.settling.polls_take_no_more_than_their_budget.Goals as goal

pub returns-clause-taken : goal.returns-clause-taken
returns-clause-taken c s s' instant budget changed polls =
    let few = takes_few s s' instant budget changed polls in (few.frames, few.first, few.few)

pub returns-clause-sent : goal.returns-clause-sent
returns-clause-sent c s s' instant budget changed alone low high polls =
    let short = sends_short s s' instant budget changed (none_waits s.host.inner alone) low high polls in (short.gone, short.are, short.read)

pub returns-clause-sent_with : goal.returns-clause-sent_with
returns-clause-sent_with c s s' instant budget changed whole low high polls =
    let short = sends_short s s' instant budget changed whole low high polls in
    (short.gone, short.are, short.read, still_whole s s' instant budget changed whole low high polls)
