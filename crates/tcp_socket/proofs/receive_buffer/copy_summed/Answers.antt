use Rattle.std.proofs.Common.{◌≡◌, ◌-◌, min, length, take, drop, ap, ◌∙◌, arith, length-drop}
use Rattle.std.proofs.lemmas.List.{length-take-le}
use Rattle.ip_wire.specs.Sum.{word_sum, folded}
use Rattle.net_base.specs.Ring.{contiguous}
use Rattle.tcp_socket.proofs.Copies.{second_part, take_rest, both_parts, both_sums}
use Rattle.tcp_socket.proofs.receive_buffer.copy_summed.Goals as goal

pub copy_unbroken-back-requires-clause-unbroken : goal.copy_unbroken-back-requires-clause-unbroken
copy_unbroken-back-requires-clause-unbroken c =
    let r = c.args.ring.now in
    let bytes = c.args.bytes.now in
    let first = c.min-first.result in
    let is : first ≡ min (length bytes) (contiguous r) = c.min-first.ensures ∙ ap (λ n. min (length bytes) n) c.contiguous_window.ensures in
    let size = length-take-le first bytes (omega (arith, is)) in
    let rest : length (take (length bytes - first) (drop first bytes)) ≡ length bytes - first = ap length (take_rest bytes first) ∙ length-drop first bytes in
    rw c.copy_unbroken-front.ensures.copied (second_part r (length bytes) first _ (take first bytes) c.requires.fits is size rest)

pub returns-clause-copied : goal.returns-clause-copied
returns-clause-copied c =
    both_parts c.args.ring.now c.copy_unbroken-front.new.ring c.copy_unbroken-back.new.ring c.min-first.result c.args.bytes.now
    (omega (arith, c.min-first.ensures)) c.requires.fits c.copy_unbroken-front.ensures.copied c.copy_unbroken-back.ensures.copied

pub returns-clause-sum : goal.returns-clause-sum
returns-clause-sum c =
    let bytes = c.args.bytes.now in
    let first = c.min-first.result in
    let back : c.copy_unbroken-back.result ≡ folded (word_sum (drop first bytes)) =
    c.copy_unbroken-back.ensures.sum ∙ ap (λ xs. folded (word_sum xs)) (take_rest bytes first) in
    both_sums bytes first c.join.result
    (c.join.ensures (take first bytes) (drop first bytes) (length-take-le first bytes (omega (arith, c.min-first.ensures)))
    c.copy_unbroken-front.ensures.sum back)
