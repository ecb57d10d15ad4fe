use Rattle.std.proofs.Common.{sym, ◌∙◌, arith}
use Rattle.socket_datagram.proofs.DnsClient.Aliases.{Led-begin, Led-more, Led-end, Led-eighth, not-some}
use Rattle.socket_datagram.proofs.dns.records.Records.true_name.Goals as goal

pub aliases-init : goal.aliases-init
aliases-init c = λ rs end stand all. Led-begin rs c.args.name.now

pub aliases-preserved : goal.aliases-preserved
aliases-preserved c = λ rs end stand all. Led-more _ _ _ _ _ _ (c.aliases.invariant rs end stand all) (omega arith)
    (sym (c.alias_following.ensures rs end stand all) ∙ c.in-Some.is)

pub returns-in_default : goal.returns-in_default
returns-in_default c = λ rs end stand all.
    Led-end _ _ _ _ (c.aliases.invariant rs end stand all)
    (not-some _ (λ target is. c.in_default.not-Some target (c.alias_following.ensures rs end stand all ∙ is)))

pub returns : goal.returns
returns c = λ rs end stand all. Led-eighth _ _ _ _ (c.aliases.invariant rs end stand all) (omega arith)
