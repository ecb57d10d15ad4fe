-- The second round: neither host has anything to do, and both say when they want to be polled.
use Rattle.std.proofs.Common.{false, ◌∷◌, Some, refl}
use Rattle.std.specs.Prelude.{pos}
use Rattle.wire_address.specs.Address.{v4_number}
use Rattle.net_base.specs.Medium.TheVariants as Medium
use Rattle.iface_tables.specs.PathMtu.{end_towards, mtu_towards}
use Rattle.lan.specs.declared.at_link.history.answer.Answer.TheVariants as To
use Rattle.lan.specs.declared.at_link.history.event.Event.TheVariants as E
use Rattle.lan.specs.declared.at_link.history.event.Side.TheVariants.{A, B}
use Rattle.lan.specs.Worlds.AtLink.History.{Entry}
use Rattle.lan.specs.Worlds.AtLink.Origins.{begins_datagram}
use Rattle.lan.specs.Worlds.AtLink.Runs.{Leads}
use Rattle.lan.specs.Worlds.Still.{AreStill, StillRun}
use Rattle.proof_stack.specs.Progress.KeepAliveNumerals.{first_round, second_round}
use Rattle.proof_stack.specs.Progress.SettledNumerals.{counts, entry, later, starts, syn_ack_frame}
use Rattle.proof_stack.proofs.Polls.SomeKept.{both, kept_idle_a, kept_written_a}
use Rattle.proof_stack.proofs.Polls.SomeKeptFirst.{first_still}
use Rattle.proof_stack.proofs.Polls.SomeKeptIdles.{idles_b}
use Rattle.proof_stack.proofs.Polls.SomeKeptSends.{idles}
use Rattle.proof_stack.proofs.Polls.SomeStarts.{both_stay}
use Rattle.proof_stack.proofs.Polls.SomeNodes.{heard_b}
use Rattle.proof_stack.proofs.Polls.SomeWorld.{a_following_three, b_following_one, few}

abbrev pub idle_so : Entry
idle_so = entry (E.Poll A (pos 0) 1) (To.Poll false) (counts 3 1 0 0)

pub a_idles : Leads first_round (both kept_written_a heard_b) idle_so (both kept_idle_a heard_b)
a_idles = record { allowed = refl; counted = refl; alone = (refl, refl); happens = record { acts = (false, idles, refl, refl); rests = refl } }

abbrev pub idle_too : Entry
idle_too = entry (E.Poll B (pos 0) 1) (To.Poll false) (counts 3 1 0 0)

pub b_idles : Leads (idle_so ∷ first_round) (both kept_idle_a heard_b) idle_too (both kept_idle_a heard_b)
b_idles =
    record { allowed = few (begins_datagram Medium.Ip) syn_ack_frame; counted = refl; alone = (refl, refl); happens = record { acts = (false, idles_b, refl, refl); rests = refl } }

abbrev pub asked_a_first : Entry
asked_a_first = entry (E.PollAt A (pos 0)) (To.At (Some (pos 1_000_000))) (counts 3 1 0 0)

pub a_is_asked : Leads (idle_too ∷ idle_so ∷ first_round) (both kept_idle_a heard_b) asked_a_first (both kept_idle_a heard_b)
unfolding v4_number mtu_towards end_towards
a_is_asked = record { allowed = refl; counted = refl; alone = (refl, refl); happens = record { acts = (refl, refl, refl); rests = refl } }

abbrev pub asked_b_first : Entry
asked_b_first = entry (E.PollAt B (pos 0)) (To.At (Some later)) (counts 3 1 0 0)

pub b_is_asked : Leads (asked_a_first ∷ idle_too ∷ idle_so ∷ first_round) (both kept_idle_a heard_b) asked_b_first (both kept_idle_a heard_b)
unfolding v4_number mtu_towards end_towards
b_is_asked = record { allowed = refl; counted = refl; alone = (refl, refl); happens = record { acts = (refl, refl, refl); rests = refl } }

pub second_still : StillRun starts second_round (both kept_idle_a heard_b)
second_still = (both kept_idle_a heard_b, asked, b_is_asked, then_stays) where
  then_stays : AreStill starts (both kept_idle_a heard_b)
  then_stays = both_stay kept_idle_a heard_b a_following_three b_following_one

  idle : StillRun starts (idle_so ∷ first_round) (both kept_idle_a heard_b)
  idle = (both kept_written_a heard_b, first_still, a_idles, then_stays)

  both_idle : StillRun starts (idle_too ∷ idle_so ∷ first_round) (both kept_idle_a heard_b)
  both_idle = (both kept_idle_a heard_b, idle, b_idles, then_stays)

  asked : StillRun starts (asked_a_first ∷ idle_too ∷ idle_so ∷ first_round) (both kept_idle_a heard_b)
  asked = (both kept_idle_a heard_b, both_idle, a_is_asked, then_stays)
