use Rattle.std.proofs.Common.{◌∙◌}
use Rattle.lan.proofs.Worlds.Goings.{agrees, few, has_come, has_stepped}
use Rattle.lan.proofs.world.World.take_event.Goals as goal

pub take-requires-clause-allowed : goal.take-requires-clause-allowed
take-requires-clause-allowed c =
    agrees c.self.inside.start_a.value c.self.inside.start_b.value c.self.inside.a c.self.inside.b c.self.inside.records_a c.self.inside.records_b
    c.self.inside.history.entries c.args.event c.args.self.now c.self.invariant c.self.view_is ∙ c.requires

pub take-requires-clause-few_a : goal.take-requires-clause-few_a
take-requires-clause-few_a c =
    (few c.self.inside.start_a.value c.self.inside.start_b.value c.self.inside.a c.self.inside.b c.self.inside.records_a c.self.inside.records_b
    c.self.inside.history.entries c.numbers_are_few.ensures c.self.invariant).0

pub take-requires-clause-few_b : goal.take-requires-clause-few_b
take-requires-clause-few_b c =
    (few c.self.inside.start_a.value c.self.inside.start_b.value c.self.inside.a c.self.inside.b c.self.inside.records_a c.self.inside.records_b
    c.self.inside.history.entries c.numbers_are_few.ensures c.self.invariant).1

pub invariant_of-self-2 : goal.invariant_of-self-2
invariant_of-self-2 c =
    has_come c.self.inside.start_a.value c.self.inside.start_b.value c.self.inside.a c.self.inside.b c.take.new.a c.take.new.b
    c.self.inside.records_a c.self.inside.records_b c.take.new.records_a c.take.new.records_b
    c.self.inside.history.entries c.make_room.new.self.entries c.push.new.self.entries
    c.args.event (record { before = c.of-before.result; found = c.in_ok-taken.taken.found }) c.in_ok-taken.taken.kept c.in_ok-taken.taken.answer
    c.self.invariant
    (agrees c.self.inside.start_a.value c.self.inside.start_b.value c.self.inside.a c.self.inside.b c.self.inside.records_a c.self.inside.records_b
    c.self.inside.history.entries c.args.event c.args.self.now c.self.invariant c.self.view_is ∙ c.requires)
    c.of-before.ensures c.in_ok-taken.ensures.happens c.push.ensures c.in_ok-make_room.ensures.same c.in_ok-taken.ensures.kept
    c.tables_proceed.ensures c.event_is_typed.ensures c.in_ok-taken.ensures.table_a c.in_ok-taken.ensures.table_b

pub returns-clause-step : goal.returns-clause-step
returns-clause-step c =
    has_stepped c.self.inside.start_a.value c.self.inside.start_b.value c.self.inside.a c.self.inside.b c.take.new.a c.take.new.b
    c.self.inside.records_a c.self.inside.records_b c.take.new.records_a c.take.new.records_b
    c.self.inside.history.entries c.make_room.new.self.entries c.push.new.self.entries
    c.args.event (record { before = c.of-before.result; found = c.in_ok-taken.taken.found }) c.in_ok-taken.taken.kept c.in_ok-taken.taken.answer
    c.self.invariant
    (agrees c.self.inside.start_a.value c.self.inside.start_b.value c.self.inside.a c.self.inside.b c.self.inside.records_a c.self.inside.records_b
    c.self.inside.history.entries c.args.event c.args.self.now c.self.invariant c.self.view_is ∙ c.requires)
    c.of-before.ensures c.in_ok-taken.ensures.happens c.push.ensures c.in_ok-make_room.ensures.same c.in_ok-taken.ensures.kept
    c.args.self.now c.self.view_is
