use Rattle.std.proofs.Common.{◌≡◌, ◌≤◌, ℕ, length, arith}
use Rattle.tcp_state.specs.SipHash.{initial}
use Rattle.tcp_state.proofs.SipSteps.{goes_in, all_in}
use Rattle.tcp_state.proofs.sip.sip_hash.Goals as goal

pub loop-word-preserved : goal.loop-word-preserved
loop-word-preserved c =
    goes_in c.args.words.now c.loop-word.word-index c.loop-word.state c.with_word-state.result (initial c.args.key) c.loop-word-test.true
    c.with_word-state.ensures c.loop-word.invariant

pub returns : goal.returns
returns c =
    all_in c.args.words.now c.loop-word.word-index c.loop-word.state (initial c.args.key) c.finish.result c.loop-word-test.false c.loop-word.invariant
    c.finish.ensures
