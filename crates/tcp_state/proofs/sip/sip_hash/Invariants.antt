use Rattle.std.proofs.Common.{◌≡◌, drop}
use Rattle.tcp_state.specs.SipHash.{initial, compressed}
use Rattle.tcp_state.proofs.sip.sip_hash.Given as goal

-- what is left of the words makes of the state what all of them make of the first
abbrev pub invariant-loop-word : goal.invariant-loop-word
invariant-loop-word l = compressed l.state (drop l.word-index l.words) ≡ compressed (initial l.fn.key) l.words
