use Rattle.std.proofs.Common.{rules, ◌≡◌, ℕ, nat_eq, ap, ◌∙◌}
use Rattle.tcp_state.proofs.NothingHeld.{all_of, empty_by_words}
use Rattle.tcp_state.proofs.scoreboard.Scoreboard.is_empty.Goals as goal

pub returns : goal.returns
returns c =
    let all : c.fold.result ≡ all_of 0 c.args.self.now.runs = search (rules) in
    ap (λ (n : ℕ). nat_eq n 0) all ∙ empty_by_words c.args.self.now.runs
