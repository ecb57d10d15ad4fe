use Rattle.lan.proofs.Worlds.Acts.{joins_grow}
use Rattle.lan.proofs.Worlds.Events.{plain_joins}
use Rattle.lan.proofs.Worlds.Settings.{setting_joins}
use Rattle.lan.proofs.laws.events_keep_the_link.Goals as goal

pub returns-clause-plain : goal.returns-clause-plain
returns-clause-plain c = λ firsts most old new net past e j plain typed leads. plain_joins firsts most old new net j past e plain typed leads

pub returns-clause-setting : goal.returns-clause-setting
returns-clause-setting c =
    λ firsts most old new net side setting answer j range is rests. setting_joins firsts most old new net side setting answer j range is rests

pub returns-clause-grows : goal.returns-clause-grows
returns-clause-grows c = λ firsts most hosts net next j grows. joins_grow firsts most hosts net next grows j
