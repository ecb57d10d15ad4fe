use Rattle.std.proofs.Common.{rules, ◌≡◌, ◌∙◌, true, refl, sym, subst, arith}
use Rattle.std.specs.Prelude.{Some}
use Rattle.wire_tcp.specs.Options.{Says, no_options}
use Rattle.wire_tcp.specs.Tcp.{bytes_of, control_in}
use Rattle.wire_tcp.proofs.Headers.{control_of-same, header-same}
use Rattle.wire_tcp.proofs.header.TcpHeader.read.Goals as goal
use Rattle.wire_tcp.proofs.header.TcpHeader.read.Goals.{else-rx-via-then-rx+else-not-verify_checksum, else-rx-via-else-rx}

pub returns-then-not-read-clause-only : goal.returns-then-not-read-clause-only
returns-then-not-read-clause-only c = λ v is.
    let said = subst (λ xs. Says no_options xs v.options) (sym c.options.ensures) is.options in
    let on = (c.read.ensures.only v.options said).0 in
    absurd (grind (arith, on, c.if-not-read))

pub returns-clause-found : goal.returns-clause-found
returns-clause-found c =
    let flags : control_in (bytes_of c.args.packet.now) ≡ Some c.in-Some.control =
    sym (control_of-same _ _ _ _ _ _ _ _ c.syn.ensures c.fin.ensures c.rst.ensures c.psh.ensures) ∙ sym c.from_flags-flags.ensures ∙ c.in-Some.is in
    let on : c.read.result ≡ true = grind (arith, c.if-not-read) in
    λ _. record {
      whole = search rules;
      source_port = c.src_port-src_port.ensures;
      destination_port = c.dst_port-dst_port.ensures;
      source_accepted = search rules;
      destination_accepted = search rules;
      checked = λ t. elim c.else-rx.branch [
        | else-rx-via-then-rx+else-not-verify_checksum w ↦ w.verify_checksum.ensures.0 (grind (arith, w.if-not-verify_checksum))
        | else-rx-via-else-rx w ↦ absurd (let off = w.if-rx.false in let on = c.rx.ensures in cc (off, on, t))
      ];
      control = flags;
      sequence = c.seq_number-seq_number.ensures;
      acknowledgement = c.acknowledged-ack_number.ensures;
      window = c.window_len-window_len.ensures;
      options = subst (λ xs. Says no_options xs c.read.new.self) c.options.ensures (c.read.ensures.found on);
    }

pub returns-clause-only : goal.returns-clause-only
returns-clause-only c = λ v is.
    let said = subst (λ xs. Says no_options xs v.options) (sym c.options.ensures) is.options in
    let flags : control_in (bytes_of c.args.packet.now) ≡ Some c.in-Some.control =
    sym (control_of-same _ _ _ _ _ _ _ _ c.syn.ensures c.fin.ensures c.rst.ensures c.psh.ensures) ∙ sym c.from_flags-flags.ensures ∙ c.in-Some.is in
    let given = is.control in (
      refl,
      header-same c.src_port-src_port.result c.dst_port-dst_port.result c.window_len-window_len.result c.in-Some.control c.seq_number-seq_number.result
          c.acknowledged-ack_number.result c.read.new.self v
          (c.src_port-src_port.ensures ∙ sym is.source_port)
          (c.dst_port-dst_port.ensures ∙ sym is.destination_port)
          (cc (flags, given))
          (c.seq_number-seq_number.ensures ∙ sym is.sequence)
          (c.acknowledged-ack_number.ensures ∙ sym is.acknowledgement)
          (c.window_len-window_len.ensures ∙ sym is.window)
          (c.read.ensures.only v.options said).1,
    )
