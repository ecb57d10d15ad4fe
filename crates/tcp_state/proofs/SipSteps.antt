-- A word goes into the hash, and the words that are left.
use Rattle.std.proofs.Common.{◌≡◌, ℕ, suc, ◌+◌, ◌<◌, ◌≤◌, List, length, drop, get_or, sym, ap, ◌∙◌, arith, drop-cons}
use Rattle.std.proofs.lemmas.List.{drop_all}
use Rattle.tcp_state.specs.SipHash.{with_word, compressed, finalized}
use Rattle.tcp_state.specs.declared.sip.SipState.{SipState}

pub goes_in : (words : List ℕ) (at : ℕ) (s t first : SipState) → at < length words → t ≡ with_word s (get_or words at 0)
    → compressed s (drop at words) ≡ compressed first words → compressed t (drop (at + 1) words) ≡ compressed first words
goes_in words at s t first less goes so =
    let next : at + 1 ≡ suc at = omega arith in
    let step : compressed (with_word s (get_or words at 0)) (drop (suc at) words) ≡ compressed s (drop at words) =
    sym (ap (compressed s) (drop-cons words at 0 less)) in
    ap (λ (x : SipState). compressed x (drop (at + 1) words)) goes
    ∙ (ap (λ (n : ℕ). compressed (with_word s (get_or words at 0)) (drop n words)) next ∙ (step ∙ so))

pub all_in : (words : List ℕ) (at : ℕ) (s first : SipState) (hash : ℕ) → length words ≤ at → compressed s (drop at words) ≡ compressed first words
    → hash ≡ finalized s → hash ≡ finalized (compressed first words)
all_in words at s first hash most so is = is ∙ ap finalized (sym (ap (compressed s) (drop_all at words most)) ∙ so)
