use Rattle.std.proofs.Common.{◌≡◌, ◌≤◌, List, ◌++◌, length}
use Rattle.ip_wire.specs.IpCidr.{IpCidr}
use Rattle.sim_link.specs.Words.{AreCidrTexts}
use Rattle.sim_link.proofs.words.Words.blocks.Given as goal

-- the blocks so far are those of the words before, whatever the words left say
abbrev pub invariant-loop-word : goal.invariant-loop-word
invariant-loop-word l =
    (length l.found ≤ 4)
    × ((x : List IpCidr) → AreCidrTexts l.self x → AreCidrTexts l.initial.self (l.found ++ x))
    × ((x : List IpCidr) → AreCidrTexts l.initial.self x → (rest : List IpCidr) × AreCidrTexts l.self rest × (x ≡ l.found ++ rest))

abbrev pub decreases-loop-word : goal.decreases-loop-word
decreases-loop-word l = length l.self
