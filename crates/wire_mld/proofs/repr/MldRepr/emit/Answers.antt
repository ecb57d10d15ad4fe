use Rattle.std.proofs.Common.{◌≡◌, true, ◌∙◌, ap}
use Rattle.base_device.specs.Capabilities.{computes}
use Rattle.wire_address.specs.Fields.{put16}
use Rattle.wire_mld.specs.Mld.{checksum_of}
use Rattle.wire_mld.proofs.Written.{put-check}
use Rattle.wire_mld.proofs.repr.MldRepr.emit.Goals as goal

pub returns-then-tx-clause-bytes : goal.returns-then-tx-clause-bytes
returns-then-tx-clause-bytes c =
    let sealed : computes c.args.checksum_caps.now.icmpv6 ≡ true = cc in
    rw sealed (
    c.seal.ensures ∙ ap (λ xs. put16 xs 2 (checksum_of c.args.src_addr.now c.args.dst_addr.now xs)) c.spell.ensures
    ∙ put-check c.args.self.now c.args.carried.now _
    )
