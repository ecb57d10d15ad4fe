use Rattle.std.proofs.Common.{◌≡◌, true, refl, sym, ap, ◌∙◌}
use Rattle.c_calls.specs.Numbers.{is_current}
use Rattle.c_calls.specs.SlotsValue.{SlotsValue}
use Rattle.c_calls.proofs.Lent.{there, lent_at, unfixed}
use Rattle.c_calls.proofs.slots.Slots.get_mut.Goals as goal

pub invariant_of-self-lent : goal.invariant_of-self-lent
invariant_of-self-lent c =
    λ w. unfixed c.self.inside.set c.at.result.0 c.get_mut.result c.in-Some.socket c.in-Some.is c.self.invariant (c.get_mut.follows.lender w) w
    (c.get_mut.follows.holds w)

pub returns-in-Some : goal.returns-in-Some
returns-in-Some c =
    let tags : c.self.inside.tags.items ≡ c.args.self.now.tags = ap (λ (s : SlotsValue). s.tags) c.self.view_is in
    let current : is_current c.args.self.now.tags c.args.number ≡ true = cc in (
      (
        refl,
        λ w. lent_at c.self.inside.set c.self.inside.tags.items c.args.self.now c.self.view_is c.at.result.0 c.args.number
            (c.at.ensures ∙ c.slot_of.ensures) current c.get_mut.result c.in-Some.socket c.in-Some.is (c.get_mut.follows.lender w) w
            (c.get_mut.follows.holds w),
        refl,
      ),
      record {
        lends = tt;
        value = sym (there c.self.inside.set c.self.inside.tags.items c.args.self.now c.self.view_is c.at.result.0 c.args.number
            (c.at.ensures ∙ c.slot_of.ensures) current c.get_mut.result c.in-Some.socket c.in-Some.is c.get_mut.ensures.value);
      },
    )
