use Rattle.std.proofs.Common.{◌≡◌, ◌-◌, pos, length, take, drop, ap, ◌∙◌, subst, arith, rules, take_all}
use Rattle.std.specs.Io.KnownBytes.{Consumes}
use Rattle.byteorder.specs.Endian.{little_number}
use Rattle.byteorder.specs.Numbers.{little_from-take}
use Rattle.app_tun_services.proofs.ReadTurns.{turn_taken}
use Rattle.app_tun_services.proofs.link.turn.read_turn.Goals as goal

-- the head and then the packet
pub returns-clause-turn : goal.returns-clause-turn
returns-clause-turn g c =
    let head = c.fill.new.buffer in
    let ten : length head ≡ 10 = c.fill.auto.buffer in
    let full : take c.in_ok-count.count head ≡ head = take_all _ _ (omega (arith, ten, c.if-count-lt-HEAD_LEN.false)) in
    let short : little_number 8 (take (length head - 2) (drop 2 head)) ≡ little_number 8 (drop 2 head) =
    little_from-take 0 8 (length head - 2) (drop 2 head) (omega (arith, ten)) in
    let eight : little_number 8 (take 8 (drop 2 head)) ≡ little_number 8 (drop 2 head) = little_from-take 0 8 8 (drop 2 head) (omega arith) in
    let read = c.read_u64.ensures in
    let micros : c.read_u64.result ≡ little_number 8 (drop 2 head) = first_of (omega (arith, read, short, eight), grind (arith, read, short, eight)) in
    turn_taken c.args.most c.args.last _ _ _ head _ _ (subst (Consumes _ _) full c.in_ok-count.ensures.bytes) c.in_ok-read_packet.ensures.bytes ten
    (search rules) (search rules) (c.in_ok-instant.ensures.instant.0 ∙ ap pos micros) (search rules)
