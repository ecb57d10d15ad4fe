use Rattle.std.proofs.Common.{◌≡◌, sym, ap, subst}
use Rattle.std.specs.Prelude.{Ok}
use Rattle.wire_tcp.specs.Options.{Says, no_options}
use Rattle.wire_tcp.specs.declared.option.TcpOptions.{TcpOptions}
use Rattle.wire_tcp.proofs.packet.TcpPacket.selective_ack_ranges.Goals as goal

pub returns-in_err-options-clause-only : goal.returns-in_err-options-clause-only
returns-in_err-options-clause-only c = λ v has.
    let ok = c.parse.ensures.only v (subst (λ xs. Says no_options xs v) (sym c.options.ensures) has) in
    let err = c.in_err-options.was in
    absurd (cc (ok, err))

pub returns-clause-only : goal.returns-clause-only
returns-clause-only c = λ v has.
    let ok = c.parse.ensures.only v (subst (λ xs. Says no_options xs v) (sym c.options.ensures) has) in
    let was = c.in_ok-options.was in
    let same : c.in_ok-options.options ≡ v = cc (ok, was) in
    ap (λ (o : TcpOptions). Ok o.sack_ranges) same
