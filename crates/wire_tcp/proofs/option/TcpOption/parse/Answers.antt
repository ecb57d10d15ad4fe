use Rattle.std.proofs.Common.{◌∙◌, sym, refl, arith}
use Rattle.wire_tcp.proofs.Steps.{first_option-long, seen-found, seen-only}
use Rattle.wire_tcp.proofs.option.TcpOption.parse.Goals as goal

pub returns-in-len1-up-rest-clause-found : goal.returns-in-len1-up-rest-clause-found
returns-in-len1-up-rest-clause-found c =
    seen-found _ _ (c.parse_long.ensures ∙
    sym (first_option-long c.args.buffer.now _ c.in-len1-up.len_at_least refl (λ e. absurd (omega (arith, e))) (λ e. absurd (omega (arith, e)))))

pub returns-in-len1-up-rest-clause-only : goal.returns-in-len1-up-rest-clause-only
returns-in-len1-up-rest-clause-only c =
    seen-only _ _ (c.parse_long.ensures ∙
    sym (first_option-long c.args.buffer.now _ c.in-len1-up.len_at_least refl (λ e. absurd (omega (arith, e))) (λ e. absurd (omega (arith, e)))))
