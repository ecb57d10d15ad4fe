use Rattle.std.proofs.Common.{◌≡◌, ℕ, List, Some, true, false, sym, ◌∙◌, ap, arith}
use Rattle.std.specs.Net.Addr.{octets_of}
use Rattle.std.specs.declared.net.ipv6_addr.Ipv6Addr.{Ipv6Addr}
use Rattle.std.proofs.NetLemmas.Theorems.{IsIpv6Text_unique}
use Rattle.std.proofs.lemmas.Str.Pattern.{contains_char}
use Rattle.wire_address.specs.Text.{Lacks}
use Rattle.wire_address.specs.declared.ipv6.Ipv6Address.{Ipv6Address}
use Rattle.wire_address.proofs.text.hex_groups.Goals as goal

pub returns-in-Ok-clause-found : goal.returns-in-Ok-clause-found
returns-in-Ok-clause-found c =
    let found = contains_char 46 c.args.text.now c.contains.result c.contains.ensures.cases (omega arith) in
    let lacks : Lacks c.args.text.now 46 = λ i less same. let yes : c.contains.result ≡ true = found.1 i less same in let no : c.contains.result ≡ false =
    c.if-contains.false in absurd (cc) in
    (c.in-Ok.address.segments, (lacks, c.in-Ok.ensures.value), c.octets.ensures)

pub returns-in-Ok-clause-only : goal.returns-in-Ok-clause-only
returns-in-Ok-clause-only c = λ a segments h is.
    let other : Ipv6Addr = record { segments = segments } in
    let one = IsIpv6Text_unique c.args.text.now c.in-Ok.address other c.in-Ok.ensures.value h.1 in
    let make : List ℕ → Ipv6Address = λ o. record { 0 = o } in
    ap (λ (o : List ℕ). Some (make o)) (c.octets.ensures ∙ ap (λ (x : Ipv6Addr). octets_of x.segments) one ∙ sym is)

pub returns-in-Err-clause-only : goal.returns-in-Err-clause-only
returns-in-Err-clause-only c = λ a segments h is.
    let other : Ipv6Addr = record { segments = segments } in
    absurd (c.in-Err.ensures.value other h.1)
