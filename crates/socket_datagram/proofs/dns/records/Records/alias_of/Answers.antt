use Rattle.std.proofs.Common.{refl, arith}
use Rattle.socket_datagram.proofs.DnsClient.Aliases.{AliasLeft-none, AliasLeft-found, AliasLeft-next, AliasLeft-cut}
use Rattle.socket_datagram.proofs.dns.records.Records.alias_of.Goals as goal

pub records-init : goal.records-init
records-init c = λ rs end stand all. record { todo = rs; stand = stand; len = all; same = refl }

pub records-preserved : goal.records-preserved
records-preserved c = λ rs end stand all.
    AliasLeft-next _ _ _ _ _ _ _ _ _ _ _ (c.records.invariant rs end stand all) (omega arith) c.in-Ok.is c.parse.ensures.only c.alias_by-alias.ensures (cc)

pub returns-in_default : goal.returns-in_default
returns-in_default c = λ rs end stand all.
    absurd (AliasLeft-cut _ _ _ _ _ _ _ (c.records.invariant rs end stand all) (omega arith) c.in_default.not-Ok c.parse.ensures.only)

pub returns-then-is_some : goal.returns-then-is_some
returns-then-is_some c = λ rs end stand all.
    AliasLeft-found _ _ _ _ _ _ _ _ _ _ (c.records.invariant rs end stand all) (omega arith) c.in-Ok.is c.parse.ensures.only c.alias_by-alias.ensures (cc)

pub returns : goal.returns
returns c = λ rs end stand all. AliasLeft-none _ _ _ _ _ _ (c.records.invariant rs end stand all) (omega arith)
