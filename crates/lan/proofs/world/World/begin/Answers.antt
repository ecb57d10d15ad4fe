use Rattle.lan.proofs.Worlds.JustMade.{begun}
use Rattle.lan.proofs.world.World.begin.Goals as goal

pub invariant_of-result : goal.invariant_of-result
invariant_of-result c =
    rw (c.of.ensures, c.of-2.ensures, c.in_ok-records_a.ensures.a, c.in_ok-records_a.ensures.b, c.new.ensures) (
    begun c.args.a c.args.b c.requires.initial c.requires.idle_a c.requires.idle_b c.requires.unknown_a c.requires.unknown_b c.host_is_typed.ensures
    c.host_is_typed-2.ensures
    )
