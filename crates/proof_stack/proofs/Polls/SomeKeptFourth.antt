-- The fourth round: A learns of that.
use Rattle.std.proofs.Common.{◌≡◌, true, false, [], ◌∷◌, Some, None, refl}
use Rattle.wire_address.specs.Address.{v4_number}
use Rattle.iface_tables.specs.PathMtu.{end_towards, mtu_towards}
use Rattle.lan.specs.declared.at_link.history.answer.Answer.TheVariants as To
use Rattle.lan.specs.declared.at_link.history.event.Event.TheVariants as E
use Rattle.lan.specs.declared.at_link.history.event.Side.TheVariants.{A, B}
use Rattle.lan.specs.Worlds.AtLink.History.{Entry}
use Rattle.lan.specs.Worlds.AtLink.Runs.{Leads}
use Rattle.lan.specs.Worlds.Still.{AreStill, StillRun}
use Rattle.proof_stack.specs.Progress.KeepAliveNumerals.{late, third_round, fourth_round}
use Rattle.proof_stack.specs.Progress.SettledNumerals.{counts, entry, last_frame, later, starts, through_b}
use Rattle.proof_stack.proofs.Polls.SomeKept.{acknowledging_b, both, kept_through_a, kept_waiting_a}
use Rattle.proof_stack.proofs.Polls.SomeKeptLearns.{learns}
use Rattle.proof_stack.proofs.Polls.SomeRests.{quiet_b}
use Rattle.proof_stack.proofs.Polls.SomeStarts.{both_stay}
use Rattle.proof_stack.proofs.Polls.SomeWorld.{a_at_last, b_at_last}
use Rattle.proof_stack.proofs.Polls.SomeKeptThird.{third_still}

abbrev pub learned_so : Entry
learned_so = entry (E.Poll A later 1) (To.Poll true) (counts 3 2 1 0)

pub a_learns : Leads third_round (both (kept_waiting_a (last_frame ∷ [])) through_b) learned_so (both kept_through_a through_b)
a_learns = record { allowed = refl; counted = refl; alone = (refl, refl); happens = record { acts = (true, learns, refl, refl); rests = refl } }

abbrev pub rests_so : Entry
rests_so = entry (E.Poll B later 1) (To.Poll false) (counts 3 2 0 0)

-- A isn't touched as B is polled
a_stays : kept_through_a ≡ kept_through_a
a_stays = refl

pub b_rests : Leads (learned_so ∷ third_round) (both kept_through_a through_b) rests_so (both kept_through_a (acknowledging_b []))
b_rests = record { allowed = refl; counted = refl; alone = (refl, refl); happens = record { acts = (false, quiet_b, refl, refl); rests = a_stays } }

abbrev pub asked_a_then : Entry
asked_a_then = entry (E.PollAt A later) (To.At (Some late)) (counts 3 2 0 0)

pub a_is_asked_then : Leads (rests_so ∷ learned_so ∷ third_round) (both kept_through_a (acknowledging_b [])) asked_a_then
    (both kept_through_a (acknowledging_b []))
unfolding v4_number mtu_towards end_towards
a_is_asked_then = record { allowed = refl; counted = refl; alone = (refl, refl); happens = record { acts = (refl, refl, refl); rests = refl } }

abbrev pub asked_b_then : Entry
asked_b_then = entry (E.PollAt B later) (To.At None) (counts 3 2 0 0)

pub b_is_asked_then : Leads (asked_a_then ∷ rests_so ∷ learned_so ∷ third_round) (both kept_through_a (acknowledging_b [])) asked_b_then
    (both kept_through_a (acknowledging_b []))
unfolding v4_number mtu_towards end_towards
b_is_asked_then = record { allowed = refl; counted = refl; alone = (refl, refl); happens = record { acts = (refl, refl, refl); rests = refl } }

pub fourth_still : StillRun starts fourth_round (both kept_through_a (acknowledging_b []))
fourth_still = (both kept_through_a (acknowledging_b []), asked, b_is_asked_then, then_stays) where
  then_stays : AreStill starts (both kept_through_a (acknowledging_b []))
  then_stays = both_stay kept_through_a (acknowledging_b []) a_at_last b_at_last

  learned : StillRun starts (learned_so ∷ third_round) (both kept_through_a through_b)
  learned = (both (kept_waiting_a (last_frame ∷ [])) through_b, third_still, a_learns, both_stay kept_through_a through_b a_at_last b_at_last)

  rested : StillRun starts (rests_so ∷ learned_so ∷ third_round) (both kept_through_a (acknowledging_b []))
  rested = (both kept_through_a through_b, learned, b_rests, then_stays)

  asked : StillRun starts (asked_a_then ∷ rests_so ∷ learned_so ∷ third_round) (both kept_through_a (acknowledging_b []))
  asked = (both kept_through_a (acknowledging_b []), rested, a_is_asked_then, then_stays)
