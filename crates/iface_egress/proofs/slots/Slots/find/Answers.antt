use Rattle.std.proofs.Common.{◌≡◌, ◌⊎◌, ◌<◌, ℕ, Bool, true, List, Option, Some, None, length, ap, sym, ◌∙◌, subst}
use Rattle.std.specs.Prelude.{position}
use Rattle.iface_egress.specs.KeyIndex.{AreFiled, IsFirstAmong, IsLoose, IsUnder, has, nearer}
use Rattle.iface_egress.specs.declared.socket_set.SocketStorage.{SocketStorage}
use Rattle.iface_egress.proofs.Filing.{found_of_one, found_of_two, position_within}
use Rattle.iface_egress.proofs.slots.Slots.find.Goals as goal

pub returns-in-Some-clause-slot : goal.returns-in-Some-clause-slot
returns-in-Some-clause-slot g c =
    let found : c.nearer.result ≡ position (has (g.W.Wanted.wants c.args.wanted.now)) c.as_slice-slots.result.now =
    found_of_two g.T.Idle.key c.self.inside.loose c.self.inside.index c.as_slice-slots.result.now
    (subst (λ (xs : List (SocketStorage g.row.T.Denot)). AreFiled g.T.Idle.key c.self.inside.loose c.self.inside.index xs) (sym c.as_slice-slots.ensures.value) c.self.invariant.1)
    (g.W.Wanted.wants c.args.wanted.now) c.args.other c.args.key c.requires c.in-Some.other c.first_loose.result c.first_with.result c.first_with-in-Some.result
    c.nearer.result c.in-Some.is c.first_loose.ensures c.first_with.ensures c.first_with-in-Some.ensures
    (c.nearer.ensures ∙ ap (λ (o : Option ℕ). nearer o c.first_with-in-Some.result) c.nearer-found.ensures) in
    rw (← c.self.view_is) (rw (← c.as_slice-slots.ensures.value) found)

pub returns-in-Some-clause-in_range : goal.returns-in-Some-clause-in_range
returns-in-Some-clause-in_range g c = position_within (has (g.W.Wanted.wants c.args.wanted.now)) c.args.self.now c.nearer.result
    (returns-in-Some-clause-slot g c)

pub returns-in-None-clause-slot : goal.returns-in-None-clause-slot
returns-in-None-clause-slot g c =
    let found : c.nearer-found.result ≡ position (has (g.W.Wanted.wants c.args.wanted.now)) c.as_slice-slots.result.now =
    found_of_one g.T.Idle.key c.self.inside.loose c.self.inside.index c.as_slice-slots.result.now
    (subst (λ (xs : List (SocketStorage g.row.T.Denot)). AreFiled g.T.Idle.key c.self.inside.loose c.self.inside.index xs) (sym c.as_slice-slots.ensures.value) c.self.invariant.1)
    (g.W.Wanted.wants c.args.wanted.now) c.args.other c.args.key c.requires c.first_loose.result c.first_with.result
    c.nearer-found.result c.in-None.is c.first_loose.ensures c.first_with.ensures c.nearer-found.ensures in
    rw (← c.self.view_is) (rw (← c.as_slice-slots.ensures.value) found)

pub returns-in-None-clause-in_range : goal.returns-in-None-clause-in_range
returns-in-None-clause-in_range g c = position_within (has (g.W.Wanted.wants c.args.wanted.now)) c.args.self.now c.nearer-found.result
    (returns-in-None-clause-slot g c)
