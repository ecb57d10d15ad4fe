use Rattle.std.proofs.Common.{sym, ◌∙◌}
use Rattle.wire_icmpv4.specs.Icmpv4.{bytes_of}
use Rattle.wire_icmpv4.proofs.Messages.{IsQuoted-error}
use Rattle.wire_icmpv4.proofs.repr.read.Goals as goal

pub returns-in_err-bytes-in-DstUnreachable-clause-only :
    goal.returns-in_err-bytes-in-DstUnreachable-clause-only
returns-in_err-bytes-in-DstUnreachable-clause-only c = λ v payload is.
    let h = IsQuoted-error (bytes_of c.args.packet.now) v payload _ (sym c.msg_type.ensures ∙ c.in-DstUnreachable.is) (λ e. cc) (λ e. cc) is in
    let ok = (c.in_err-bytes-in-DstUnreachable.ensures.only h.0 h.1).0 in
    absurd (cc ok)

pub returns-in_err-bytes-in-TimeExceeded-clause-only :
    goal.returns-in_err-bytes-in-TimeExceeded-clause-only
returns-in_err-bytes-in-TimeExceeded-clause-only c = λ v payload is.
    let h = IsQuoted-error (bytes_of c.args.packet.now) v payload _ (sym c.msg_type.ensures ∙ c.in-TimeExceeded.is) (λ e. cc) (λ e. cc) is in
    let ok = (c.in_err-bytes-in-TimeExceeded.ensures.only h.0 h.1).0 in
    absurd (cc ok)
