use Rattle.std.proofs.Common.{refl, arith, []}
use Rattle.socket_datagram.proofs.DnsClient.Found.{FoundSo-step, FoundSo-end, FoundSo-cut}
use Rattle.socket_datagram.proofs.dns.records.Records.addresses_at.Goals as goal

pub records-init : goal.records-init
records-init c = λ rs end stand all. record { addresses = []; are = refl; counted = refl; todo = rs; stand = stand; len = all; same = refl }

pub records-preserved : goal.records-preserved
records-preserved c = λ rs end stand all.
    FoundSo-step _ _ _ _ _ _ _ _ _ _ _ _ _ _ _ (c.records.invariant rs end stand all) (omega arith) c.in-Ok.is c.parse.ensures.only c.address_by-address.ensures
    c.with_address.ensures

pub returns-in_default : goal.returns-in_default
returns-in_default c = λ rs end stand all.
    absurd (FoundSo-cut _ _ _ _ _ _ _ _ _ _ (c.records.invariant rs end stand all) (omega arith) c.in_default.not-Ok c.parse.ensures.only)

pub returns : goal.returns
returns c = λ rs end stand all. FoundSo-end _ _ _ _ _ _ _ _ _ (c.records.invariant rs end stand all) (omega arith)
