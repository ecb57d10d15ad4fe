use Rattle.std.proofs.Common.{ℕ, List, refl}
use Rattle.ip_wire.specs.Fields.{IsBytes}
use Rattle.iface_ingress.specs.Arrives.{reply_of}
use Rattle.iface_ingress.proofs.PlainSegments.{short_packet, taken_packet}
use Rattle.iface_ingress.proofs.fast_path.process_segment_fast.Goals as goal

pub take_segment_fast-requires-clause-short : goal.take_segment_fast-requires-clause-short
take_segment_fast-requires-clause-short c =
    short_packet c.args.bytes.now c.split_at.result.1.now (λ i. (c.type_inv.bytes i).fits) c.if-not-is_plain_header.ensures c.split_at.ensures.back

pub returns-clause-taken : goal.returns-clause-taken
returns-clause-taken c =
    let bytes : List ℕ = c.args.bytes.now in
    let small : IsBytes bytes = λ i. (c.type_inv.bytes i).fits in
    λ yes.
    taken_packet c.args.inner.now c.refresh_sender_fast.new.inner c.args.slots.now c.take_segment_fast.new.slots c.args.link.now bytes c.split_at.result.1.now
    c.plain_header-ipv4.result (reply_of c.take_segment_fast.new.reply) small c.requires.room c.if-not-is_plain_header.ensures c.split_at.ensures.back
    c.if-not-is_plain_segment.ensures c.plain_header-ipv4.ensures (c.if-not-joins_hosts.ensures.plain refl) (c.if-not-joins_hosts.ensures.ends refl)
    (c.if-not-take_segment_fast.ensures.taken refl) c.refresh_sender_fast.ensures
