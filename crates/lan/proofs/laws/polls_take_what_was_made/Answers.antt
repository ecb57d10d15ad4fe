use Rattle.lan.proofs.Worlds.Keeps.{is_link}
use Rattle.lan.proofs.laws.polls_take_what_was_made.Goals as goal

pub returns : goal.returns
returns c = λ q others base before first start next other. is_link q others base first before start next other
