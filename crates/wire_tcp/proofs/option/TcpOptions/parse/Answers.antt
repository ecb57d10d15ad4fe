use Rattle.std.proofs.Common.{◌≢◌, ◌∙◌, sym, ap, [], length, arith}
use Rattle.std.proofs.lemmas.Bool.{eqb-true}
use Rattle.wire_tcp.specs.Seen.{seen_first}
use Rattle.wire_tcp.proofs.Steps.{found-seen, Spells-none, Says-end, Says-empty, Says-nothing, Says-next, first_option-shorter}
use Rattle.wire_tcp.proofs.option.TcpOptions.parse.Goals as goal

pub returns-in_err-following-clause-only : goal.returns-in_err-following-clause-only
returns-in_err-following-clause-only c = λ v says.
    let here = (c.loop-rest.invariant v).1 says in
    let some : c.loop-rest.rest.now ≢ [] = λ e. let n = ap length e in absurd (grind (arith, n)) in
    absurd (Spells-none here.0 c.loop-rest.rest.now some (sym (found-seen _ _ c.parse.ensures.found c.parse.ensures.only) ∙
    ap seen_first c.in_err-following.was) here.1)

pub returns-then-is_end-clause-found : goal.returns-then-is_end-clause-found
returns-then-is_end-clause-found c =
    (c.loop-rest.invariant c.loop-rest.options).0
    (Says-end c.loop-rest.options c.loop-rest.options c.loop-rest.rest.now _ _ (sym (found-seen _ _ c.parse.ensures.found c.parse.ensures.only) ∙
    ap seen_first c.in_ok-following.was) (sym c.is_end.ensures ∙ c.if-is_end.true)).0

pub returns-then-is_end-clause-only : goal.returns-then-is_end-clause-only
returns-then-is_end-clause-only c = λ v says.
    let here = (c.loop-rest.invariant v).1 says in
    let same = (Says-end c.loop-rest.options v c.loop-rest.rest.now _ _ (sym (found-seen _ _ c.parse.ensures.found c.parse.ensures.only) ∙
    ap seen_first c.in_ok-following.was) (sym c.is_end.ensures ∙ c.if-is_end.true)).1 here in
    cc same

pub loop-rest-smaller : goal.loop-rest-smaller
loop-rest-smaller c = first_option-shorter _ _ (sym (found-seen _ _ c.parse.ensures.found c.parse.ensures.only) ∙ ap seen_first c.in_ok-following.was)

pub loop-rest-preserved : goal.loop-rest-preserved
loop-rest-preserved c = λ v.
    let next = Says-next c.loop-rest.options c.with-options.result v c.loop-rest.rest.now _ _ (sym (found-seen _ _ c.parse.ensures.found c.parse.ensures.only) ∙
    ap seen_first c.in_ok-following.was) (sym c.is_end.ensures ∙ c.if-is_end.false) c.with-options.ensures in
    (λ says. (c.loop-rest.invariant v).0 (next.0 says), λ says. next.1 ((c.loop-rest.invariant v).1 says))

pub returns-clause-found : goal.returns-clause-found
returns-clause-found c =
    (c.loop-rest.invariant c.loop-rest.options).0
    (Says-nothing c.loop-rest.options c.loop-rest.rest.now (eqb-true (length c.loop-rest.rest.now) 0 (sym c.is_empty.ensures ∙ c.loop-rest-test.false)))

pub returns-clause-only : goal.returns-clause-only
returns-clause-only c = λ v says.
    let here = (c.loop-rest.invariant v).1 says in
    let same = Says-empty c.loop-rest.options v c.loop-rest.rest.now
    (eqb-true (length c.loop-rest.rest.now) 0 (sym c.is_empty.ensures ∙ c.loop-rest-test.false)) here in
    cc same
