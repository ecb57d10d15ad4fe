use Rattle.std.proofs.Common.{None, Some, refl, ◌∙◌}
use Rattle.c_calls.proofs.Lent.{same_at, found_kind, found, left_at, copied, copied_none}
use Rattle.c_calls.proofs.kinds.lent.Goals as goal

pub returns-in-Some-downcast_mut : goal.returns-in-Some-downcast_mut
returns-in-Some-downcast_mut g c =
    let ps = c.args.sockets.now in let n = c.args.number in let any = c.in-Some.socket in let own = c.in-Some-downcast_mut.socket in
    let has = found ps n c.get_mut.result any c.in-Some.is c.get_mut.ensures.value in
    let is = copied c.downcast_mut.result own (g.K.AnySocket.downcast_of any.now) c.in-Some-downcast_mut.is c.downcast_mut.ensures.value in (
      (
        refl,
        λ w ok. left_at ps n c.get_mut.result any c.in-Some.is
            (c.get_mut.follows.lender (g.K.AnySocket.upcast_of w)) (g.K.AnySocket.upcast_of w) (c.get_mut.follows.holds (g.K.AnySocket.upcast_of w)),
        tt,
      ),
      record { lends = tt; value = found_kind g.K.AnySocket.downcast_of ps n any.now has (Some own.now) is },
    )

pub returns-in-None-downcast_mut : goal.returns-in-None-downcast_mut
returns-in-None-downcast_mut g c =
    let ps = c.args.sockets.now in let n = c.args.number in let any = c.in-Some.socket in
    let has = found ps n c.get_mut.result any c.in-Some.is c.get_mut.ensures.value in
    let is = copied_none c.downcast_mut.result (g.K.AnySocket.downcast_of any.now) c.in-None-downcast_mut.is c.downcast_mut.ensures.value in
    let kept = left_at ps n c.get_mut.result any c.in-Some.is (c.get_mut.follows.lender any.now) any.now (c.get_mut.follows.holds any.now) in (
      (refl, λ w no. (cc), kept ∙ same_at ps n any.now has),
      record { lends = tt; value = found_kind g.K.AnySocket.downcast_of ps n any.now has None is },
    )
