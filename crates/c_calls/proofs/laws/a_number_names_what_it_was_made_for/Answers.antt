use Rattle.std.proofs.Common.{ap, ◌∙◌}
use Rattle.c_calls.specs.Host.{StackValue}
use Rattle.c_calls.specs.Numbers.{socket_named}
use Rattle.c_calls.proofs.Named.{named}
use Rattle.c_calls.proofs.laws.a_number_names_what_it_was_made_for.Goals as goal

pub returns : goal.returns
returns c = λ socket s s' number made.
    ap (λ (x : StackValue). socket_named x.slots number) made.1 ∙ named s.slots socket number made.0.0 made.0.1
