-- The first round on numerals, where A's user asked for keep-alives: abc goes, and comes.
use Rattle.std.proofs.Common.{◌≡◌, true, List, [], ◌∷◌, ◌++◌, ℕ, refl, sym, ap}
use Rattle.std.specs.Prelude.{pos}
use Rattle.std.proofs.lemmas.List.{append-nil}
use Rattle.net_base.specs.Medium.TheVariants as Medium
use Rattle.lan.specs.declared.at_link.history.answer.Answer.TheVariants as To
use Rattle.lan.specs.declared.at_link.history.event.Event.TheVariants as E
use Rattle.lan.specs.declared.at_link.history.event.Side.TheVariants.{A, B}
use Rattle.lan.specs.Worlds.AtLink.History.{Entry}
use Rattle.lan.specs.Worlds.AtLink.Origins.{begins_datagram}
use Rattle.lan.specs.Worlds.AtLink.Runs.{Leads}
use Rattle.lan.specs.Worlds.Still.{StillRun}
use Rattle.proof_stack.specs.Progress.KeepAliveNumerals.{first_round, kept_a, told_to_keep}
use Rattle.proof_stack.specs.Progress.SettledNumerals.{counts, entry, push_frame, starts, syn_ack_frame}
use Rattle.proof_stack.proofs.Polls.SomeHears.{hears}
use Rattle.proof_stack.proofs.Polls.SomeKept.{both, kept_written_a}
use Rattle.proof_stack.proofs.Polls.SomeKeptSends.{may_send_data}
use Rattle.proof_stack.proofs.Polls.SomeStarts.{both_stay}
use Rattle.proof_stack.proofs.Polls.SomeNodes.{heard_b, open_b}
use Rattle.proof_stack.proofs.Polls.SomeWorld.{a_following_three, b_following_one, few}
use Rattle.proof_stack.proofs.Polls.SomeKeptWorld.{kept_still}

abbrev pub goes_text : Entry
goes_text = entry (E.Poll A (pos 0) 1) (To.Poll true) (counts 2 1 0 0)

pub text_goes : Leads told_to_keep (both kept_a (open_b [])) goes_text (both kept_written_a (open_b []))
text_goes = record { allowed = refl; counted = refl; alone = (refl, refl); happens = record { acts = (true, may_send_data, refl, refl); rests = refl } }

abbrev pub brought_text : Entry
brought_text = entry (E.Deliver A 2 []) To.Done (counts 3 1 0 0)

text_came : both kept_written_a (open_b (push_frame ∷ [])) ≡ both kept_written_a (open_b ((push_frame ++ []) ∷ []))
text_came = ap (λ (frame : List ℕ). both kept_written_a (open_b (frame ∷ []))) (sym (append-nil push_frame))

pub text_comes : Leads (goes_text ∷ told_to_keep) (both kept_written_a (open_b [])) brought_text (both kept_written_a (open_b (push_frame ∷ [])))
text_comes = record { allowed = refl; counted = refl; alone = (refl, refl); happens = (refl, refl, text_came) }

abbrev pub read_text : Entry
read_text = entry (E.Poll B (pos 0) 1) (To.Poll true) (counts 3 1 0 1)

pub text_is_read : Leads (brought_text ∷ goes_text ∷ told_to_keep) (both kept_written_a (open_b (push_frame ∷ []))) read_text (both kept_written_a heard_b)
text_is_read =
    record { allowed = few (begins_datagram Medium.Ip) syn_ack_frame; counted = refl; alone = (refl, refl); happens = record { acts = (true, hears, refl, refl); rests = refl } }

pub first_still : StillRun starts first_round (both kept_written_a heard_b)
first_still =
    (both kept_written_a (open_b (push_frame ∷ [])), brought, text_is_read, both_stay kept_written_a heard_b a_following_three b_following_one) where
      sent : StillRun starts (goes_text ∷ told_to_keep) (both kept_written_a (open_b []))
      sent = (both kept_a (open_b []), kept_still, text_goes, both_stay kept_written_a (open_b []) a_following_three b_following_one)

      brought : StillRun starts (brought_text ∷ goes_text ∷ told_to_keep) (both kept_written_a (open_b (push_frame ∷ [])))
      brought = (both kept_written_a (open_b []), sent, text_comes, both_stay kept_written_a (open_b (push_frame ∷ [])) a_following_three b_following_one)
