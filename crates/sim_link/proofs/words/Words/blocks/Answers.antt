use Rattle.std.proofs.Common.{◌≡◌, sym}
use Rattle.ip_wire.specs.IpCidr.{IpCidr}
use Rattle.sim_link.specs.Words.{IsCidrText}
use Rattle.sim_link.proofs.CidrLemmas.{next_found, next_only, all_found}
use Rattle.sim_link.proofs.words.Words.blocks.Goals as goal

pub loop-word-preserved : goal.loop-word-preserved
loop-word-preserved c =
    let pushed = c.push.ensures.room c.if-not-push.false in
    let one : (b : IpCidr) → IsCidrText c.in-Some.word.now b → c.in_ok-cidr.cidr ≡ b = λ b is. let e = c.in_ok-cidr.ensures.only b is in cc in (
      pushed.1,
      rw (pushed.0, c.word.ensures.rest)
          (next_found c.loop-word.self c.args.self.now c.loop-word.found c.in-Some.word.now c.in_ok-cidr.cidr (sym c.in-Some.ensures.word)
          c.in_ok-cidr.ensures.found c.loop-word.invariant.1),
      rw (pushed.0, c.word.ensures.rest)
          (next_only c.loop-word.self c.args.self.now c.loop-word.found c.in-Some.word.now c.in_ok-cidr.cidr (sym c.in-Some.ensures.word) one
          c.loop-word.invariant.2),
    )

pub returns-clause-found : goal.returns-clause-found
returns-clause-found c =
    (all_found c.loop-word.self c.args.self.now c.loop-word.found (sym c.in_default.ensures.word) c.loop-word.invariant.1, c.loop-word.invariant.0)
