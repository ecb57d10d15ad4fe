use Rattle.std.proofs.Common.{◌<◌, ◌∙◌, refl, sym, length, arith}
use Rattle.std.proofs.lemmas.Bool.{eqb-true}
use Rattle.wire_icmpv6.proofs.NdiscSteps.{HasLink-none, HasLink-six, HasLink-this, HasLink-other, HasLink-nothing, HasLink-empty}
use Rattle.wire_icmpv6.proofs.ndisc_option.parse_link_layer_addr.Goals as goal

pub returns-in_err-option-clause-only : goal.returns-in_err-option-clause-only
returns-in_err-option-clause-only c = λ link has.
    let some : 0 < length c.loop-rest.rest.now = grind arith in
    absurd (HasLink-none c.args.option_type _ link c.loop-rest.rest.now some (λ o r begins. let no = (c.in_err-option.ensures.only o r begins).0 in
    absurd (cc no)) ((c.loop-rest.invariant link).1 has))

pub returns-in_err-link_layer_addr-clause-only : goal.returns-in_err-link_layer_addr-clause-only
returns-in_err-link_layer_addr-clause-only c = λ link has.
    let six = HasLink-six c.args.option_type _ link c.loop-rest.rest.now _ _ c.in_ok-option.ensures.found c.if-option-option_type.true
    ((c.loop-rest.invariant link).1 has) in
    let no = c.in_err-link_layer_addr.ensures.only.1 six in
    absurd (cc no)

pub loop-rest-preserved-in_ok-link_layer_addr : goal.loop-rest-preserved-in_ok-link_layer_addr
loop-rest-preserved-in_ok-link_layer_addr c = λ link.
    let step = HasLink-this c.args.option_type _ link c.loop-rest.rest.now _ c.in_ok-option.following.now _ c.in_ok-option.ensures.found
    c.if-option-option_type.true c.in_ok-link_layer_addr.ensures.found (c.in_ok-link_layer_addr.ensures.only.0 refl) in
    (λ has. (c.loop-rest.invariant link).0 (step.0 has), λ has. step.1 ((c.loop-rest.invariant link).1 has))

pub loop-rest-preserved : goal.loop-rest-preserved
loop-rest-preserved c = λ link.
    let step = HasLink-other c.args.option_type _ link c.loop-rest.rest.now _ c.in_ok-option.following.now c.in_ok-option.ensures.found
    c.if-option-option_type.false in
    (λ has. (c.loop-rest.invariant link).0 (step.0 has), λ has. step.1 ((c.loop-rest.invariant link).1 has))

pub returns-clause-found : goal.returns-clause-found
returns-clause-found c =
    (c.loop-rest.invariant _).0
    (HasLink-nothing c.args.option_type _ c.loop-rest.rest.now (eqb-true (length c.loop-rest.rest.now) 0 (sym c.is_empty.ensures ∙ c.loop-rest-test.false)))

pub returns-clause-only : goal.returns-clause-only
returns-clause-only c = λ link has.
    let here = (c.loop-rest.invariant link).1 has in
    let same = HasLink-empty c.args.option_type _ link c.loop-rest.rest.now
    (eqb-true (length c.loop-rest.rest.now) 0 (sym c.is_empty.ensures ∙ c.loop-rest-test.false)) here in
    (cc, same)
