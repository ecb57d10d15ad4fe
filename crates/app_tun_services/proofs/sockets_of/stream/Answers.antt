use Rattle.std.proofs.Common.{◌≡◌, length, rules, arith}
use Rattle.std.proofs.lemmas.Grind.{common_steps}
use Rattle.app_tun_services.proofs.Beginning.{unopened}
use Rattle.app_tun_services.proofs.sockets_of.stream.Goals as goal

pub returns : goal.returns
returns c =
    let rx : length c.in_ok-vec.field-0.items ≡ c.args.room =
    first_of (search rules, first_of (grind (arith, common_steps), omega (arith, c.in_ok-vec.field-0.ok, c.in_ok-vec.ensures.len))) in
    let tx : length c.in_ok-vec-2.field-0.items ≡ c.args.room =
    first_of (search rules, first_of (grind (arith, common_steps), omega (arith, c.in_ok-vec-2.field-0.ok, c.in_ok-vec-2.ensures.len))) in
    unopened c.args.room _ _ _ _ _ c.new-rx.ensures c.new-tx.ensures rx tx c.new.ensures
