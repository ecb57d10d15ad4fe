-- The third round: B acknowledges abc.
use Rattle.std.proofs.Common.{◌≡◌, true, false, List, [], ◌∷◌, ◌++◌, ℕ, refl, sym, ap}
use Rattle.std.proofs.lemmas.List.{append-nil}
use Rattle.net_base.specs.Medium.TheVariants as Medium
use Rattle.lan.specs.declared.at_link.history.answer.Answer.TheVariants as To
use Rattle.lan.specs.declared.at_link.history.event.Event.TheVariants as E
use Rattle.lan.specs.declared.at_link.history.event.Side.TheVariants.{A, B}
use Rattle.lan.specs.Worlds.AtLink.History.{Entry}
use Rattle.lan.specs.Worlds.AtLink.Origins.{begins_datagram}
use Rattle.lan.specs.Worlds.AtLink.Runs.{Leads}
use Rattle.lan.specs.Worlds.Still.{StillRun}
use Rattle.proof_stack.specs.Progress.KeepAliveNumerals.{second_round, third_round}
use Rattle.proof_stack.specs.Progress.SettledNumerals.{counts, entry, last_frame, later, starts, syn_ack_frame, through_b}
use Rattle.proof_stack.proofs.Polls.SomeKept.{both, kept_idle_a, kept_waiting_a}
use Rattle.proof_stack.proofs.Polls.SomeKeptSends.{waits}
use Rattle.proof_stack.proofs.Polls.SomeStarts.{both_stay}
use Rattle.proof_stack.proofs.Polls.SomeNodes.{heard_b}
use Rattle.proof_stack.proofs.Polls.SomeTells.{tells}
use Rattle.proof_stack.proofs.Polls.SomeWorld.{a_at_last, b_at_last, b_following_one, few}
use Rattle.proof_stack.proofs.Polls.SomeKeptSecond.{second_still}

abbrev pub waits_so : Entry
waits_so = entry (E.Poll A later 1) (To.Poll false) (counts 3 1 0 0)

pub a_waits : Leads second_round (both kept_idle_a heard_b) waits_so (both (kept_waiting_a []) heard_b)
a_waits = record { allowed = refl; counted = refl; alone = (refl, refl); happens = record { acts = (false, waits, refl, refl); rests = refl } }

abbrev pub told_back : Entry
told_back = entry (E.Poll B later 1) (To.Poll true) (counts 3 1 0 0)

pub b_tells : Leads (waits_so ∷ second_round) (both (kept_waiting_a []) heard_b) told_back (both (kept_waiting_a []) through_b)
b_tells =
    record { allowed = few (begins_datagram Medium.Ip) syn_ack_frame; counted = refl; alone = (refl, refl); happens = record { acts = (true, tells, refl, refl); rests = refl } }

abbrev pub brought_back : Entry
brought_back = entry (E.Deliver B 1 []) To.Done (counts 3 2 0 0)

last_came : both (kept_waiting_a (last_frame ∷ [])) through_b ≡ both (kept_waiting_a ((last_frame ++ []) ∷ [])) through_b
last_came = ap (λ (frame : List ℕ). both (kept_waiting_a (frame ∷ [])) through_b) (sym (append-nil last_frame))

pub last_comes : Leads (told_back ∷ waits_so ∷ second_round) (both (kept_waiting_a []) through_b) brought_back
    (both (kept_waiting_a (last_frame ∷ [])) through_b)
last_comes = record { allowed = refl; counted = refl; alone = (refl, refl); happens = (refl, refl, last_came) }

pub third_still : StillRun starts third_round (both (kept_waiting_a (last_frame ∷ [])) through_b)
third_still = (both (kept_waiting_a []) through_b, told, last_comes, both_stay (kept_waiting_a (last_frame ∷ [])) through_b a_at_last b_at_last) where
  waited : StillRun starts (waits_so ∷ second_round) (both (kept_waiting_a []) heard_b)
  waited = (both kept_idle_a heard_b, second_still, a_waits, both_stay (kept_waiting_a []) heard_b a_at_last b_following_one)

  told : StillRun starts (told_back ∷ waits_so ∷ second_round) (both (kept_waiting_a []) through_b)
  told = (both (kept_waiting_a []) heard_b, waited, b_tells, both_stay (kept_waiting_a []) through_b a_at_last b_at_last)
