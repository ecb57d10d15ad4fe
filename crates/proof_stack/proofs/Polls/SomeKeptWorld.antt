-- A world on numerals whose user asked for keep-alives, as rounds begin in it.
use Rattle.std.proofs.Common.{[], Some, refl}
use Rattle.wire_address.specs.Address.{v4_number}
use Rattle.iface_tables.specs.PathMtu.{mtu_towards}
use Rattle.lan.specs.declared.at_link.history.answer.Answer.TheVariants as To
use Rattle.lan.specs.declared.at_link.history.event.Event.TheVariants as E
use Rattle.lan.specs.declared.at_link.history.event.Side.TheVariants.{A}
use Rattle.lan.specs.declared.at_link.history.event.TcpSetting.TheVariants as Changed
use Rattle.lan.specs.Worlds.AtLink.History.{Entry}
use Rattle.lan.specs.Worlds.AtLink.Runs.{Leads}
use Rattle.lan.specs.Worlds.Still.{StillRun}
use Rattle.proof_stack.specs.Progress.KeepAliveNumerals.{interval, kept_a, told_to_keep}
use Rattle.proof_stack.specs.Progress.SettledNumerals.{counts, entry, starts, told_to_send}
use Rattle.proof_stack.proofs.Polls.SomeKept.{both}
use Rattle.proof_stack.proofs.Polls.SomeStarts.{both_stay}
use Rattle.proof_stack.proofs.Polls.SomeNodes.{open_b, writing_a}
use Rattle.proof_stack.proofs.Polls.SomeWorld.{a_following_two, b_following_one, wrote}

abbrev pub kept_so : Entry
kept_so = entry (E.TcpSetting A 0 (Changed.KeepAlive (Some interval))) To.Done (counts 2 1 0 0)

keeps : Leads told_to_send (both writing_a (open_b [])) kept_so (both kept_a (open_b []))
unfolding v4_number mtu_towards
keeps = record { allowed = refl; counted = refl; alone = (refl, refl); happens = record { acts = (refl, refl, refl); rests = refl } }

pub kept_still : StillRun starts told_to_keep (both kept_a (open_b []))
kept_still = (both writing_a (open_b []), wrote, keeps, both_stay kept_a (open_b []) a_following_two b_following_one)
