use Rattle.std.proofs.Common.{◌≡◌, ℕ, List, Result, Ok, Err, true, false, if◌then◌else◌, sym, ap, ◌∙◌, subst}
use Rattle.net_base.specs.Capabilities.{verifies}
use Rattle.net_base.specs.ChecksumCapabilities.{ChecksumCapabilities}
use Rattle.wire_ip.specs.declared.ip.repr.IpRepr.{IpRepr}
use Rattle.wire_ip.specs.Ip as Ip
use Rattle.wire_ip.proofs.IpLaws.{fits-ip}
use Rattle.socket_context.specs.Addresses.{is_unspecified}
use Rattle.socket_datagram.specs.Raw.{filters, passes, may_send}
use Rattle.socket_datagram.proofs.RawPackets.{only_one, none_takes}
use Rattle.socket_datagram.proofs.raw.header_to_send.Goals as goal

ok_same : {E : Type 0} (x y : IpRepr) (r : Result IpRepr E) → r ≡ Ok x → r ≡ Ok y → x ≡ y
ok_same {E} x y r one two =
    let value = λ (q : Result IpRepr E). elim q as (λ _. IpRepr) [ Ok z ↦ z | Err e ↦ x ] in sym (ap value one) ∙ ap value two

pub returns-in_default : goal.returns-in_default
returns-in_default c = λ p takes.
    c.in_default.not-Ok p.header
    (c.parse.ensures.only p.header
    (subst (λ (caps : ChecksumCapabilities). Ip.IsIp (verifies caps.ipv4) c.args.bytes.now p.header) (sym c.ignored.ensures) takes.read))

pub returns-then-passes : goal.returns-then-passes
returns-then-passes c =
    let header = c.in-Ok.header in
    let read = subst (λ (caps : ChecksumCapabilities). Ip.IsIp (verifies caps.ipv4) c.args.bytes.now header) c.ignored.ensures c.in-Ok.ensures.found in
    let only = λ (other : IpRepr) (is : Ip.IsIp false c.args.bytes.now other).
    sym (ok_same header other c.parse.result c.in-Ok.is
    (c.parse.ensures.only other (subst (λ (caps : ChecksumCapabilities). Ip.IsIp (verifies caps.ipv4) c.args.bytes.now other) (sym c.ignored.ensures) is)))
    in
    let specified : is_unspecified (Ip.destination_of header) ≡ false = ap is_unspecified (sym c.dst_addr.ensures) ∙ sym c.is_unspecified.ensures ∙
    c.if-not-is_unspecified.true in
    let may : may_send (filters c.args.version c.args.protocol) header ≡ true =
    ap (λ b. if b then false else passes c.args.version c.args.protocol header) specified ∙ sym c.passes.ensures ∙ c.if-passes.true
    in
    only_one (filters c.args.version c.args.protocol) c.args.bytes.now header (fits-ip false c.args.bytes.now header (λ i. (c.type_inv.bytes i).fits) read).0
    read only may
