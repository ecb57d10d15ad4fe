use Rattle.tcp_refinement.proofs.PairLaws.{kept_is_safe}
use Rattle.tcp_pair.specs.Invariant.{pair_of}
use Rattle.tcp_pair.specs.States.{hosted}
use Rattle.tcp_pair.proofs.Kept.{new_is, new_shown}
use Rattle.tcp_pair.proofs.Led.{new_reached}
use Rattle.tcp_pair.proofs.pair.Pair.new.Goals as goal

pub invariant_of-result : goal.invariant_of-result
invariant_of-result c =
    new_shown c.args.a c.args.b c.new.result c.new-2.result c.new-3.result.items c.new-4.result.items c.new.ensures c.new-2.ensures c.new-3.ensures.items
    c.new-4.ensures.items c.requires.a
    c.requires.b

pub returns-clause-kept : goal.returns-clause-kept
returns-clause-kept c = (invariant_of-result c).kept

pub returns-clause-safe : goal.returns-clause-safe
returns-clause-safe c =
    kept_is_safe (hosted (pair_of (record { a = c.new.result; b = c.new-2.result }) c.new-3.result.items c.new-4.result.items)) (invariant_of-result c).kept

pub returns-clause-reached : goal.returns-clause-reached
returns-clause-reached c =
    new_reached (hosted (pair_of (record { a = c.new.result; b = c.new-2.result }) c.new-3.result.items c.new-4.result.items)) c.args.a c.args.b
    (new_is c.args.a c.args.b c.new.result c.new-2.result c.new-3.result.items c.new-4.result.items c.new.ensures c.new-2.ensures c.new-3.ensures.items)
