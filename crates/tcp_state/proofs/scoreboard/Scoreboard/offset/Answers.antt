use Rattle.std.proofs.Common.{◌≡◌, ℕ, Option, ap}
use Rattle.tcp_state.specs.Scoreboard.{placed_at}
use Rattle.tcp_state.proofs.scoreboard.Scoreboard.offset.Goals as goal

pub returns-in-Some : goal.returns-in-Some
returns-in-Some c = ap (λ (o : Option ℕ). placed_at o c.args.self.now.runs c.args.run) c.in-Some.ensures

pub returns-in_default : goal.returns-in_default
returns-in_default c = ap (λ (o : Option ℕ). placed_at o c.args.self.now.runs c.args.run) c.in_default.ensures
