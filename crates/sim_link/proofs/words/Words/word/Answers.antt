-- The word ends at the first separator.
use Rattle.std.proofs.Common.{refl}
use Rattle.sim_link.proofs.WordLemmas.{first_word_ends, last_word}
use Rattle.sim_link.proofs.words.Words.word.Goals as goal

pub returns-in-Some-clause-word : goal.returns-in-Some-clause-word
returns-in-Some-clause-word c =
    rw (first_word_ends _ _ _ _ _ _ c.self.view_is c.in_ok-rest.was (c.in-Some.ensures.byte c.self.invariant (λ w o found. found))) refl

pub returns-in-Some-clause-rest : goal.returns-in-Some-clause-rest
returns-in-Some-clause-rest c =
    rw (first_word_ends _ _ _ _ _ _ c.self.view_is c.in_ok-rest.was (c.in-Some.ensures.byte c.self.invariant (λ w o found. found))) refl

pub returns-in-None-clause-word : goal.returns-in-None-clause-word
returns-in-None-clause-word c =
    rw (last_word _ _ _ _ c.self.view_is c.in_ok-rest.was (c.in-None.ensures.byte c.self.invariant (λ w o found. found))) refl

pub returns-in-None-clause-rest : goal.returns-in-None-clause-rest
returns-in-None-clause-rest c =
    rw (last_word _ _ _ _ c.self.view_is c.in_ok-rest.was (c.in-None.ensures.byte c.self.invariant (λ w o found. found))) refl
