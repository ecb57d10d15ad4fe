-- A world on numerals in which rounds may begin, and the one after its events.
use Rattle.std.proofs.Common.{◌≡◌, inl, leb-true, ltb-true, false, [], None, Some, refl, arith}
use Rattle.std.specs.Prelude.{◌+ℤ◌, ◌≤ℤ◌, IsTrue, pos}
use Rattle.std.proofs.lemmas.Int.{ints}
use Rattle.tcp_block.specs.Value.{TcpValue}
use Rattle.tcp_liveness.specs.Exchange.{IsOpen}
use Rattle.tcp_liveness.specs.Pair.{HasStream}
use Rattle.iface_tables.specs.PathMtu.{mtu_towards}
use Rattle.wire_address.specs.Address.{v4_number}
use Rattle.lan.specs.declared.at_link.history.event.Side.{Side}
use Rattle.lan.specs.declared.at_link.history.event.Side.TheVariants.{A, B}
use Rattle.lan.specs.Worlds.AtLink.PacketsSafe.{IsTcpAt}
use Rattle.lan.specs.Worlds.AtLink.Paired.{told}
use Rattle.lan.specs.Worlds.AtLink.PeerSides.{ArePartners}
use Rattle.lan.specs.Worlds.AtLink.Runs.{WorldValue, start}
use Rattle.lan.specs.Worlds.AtLink.Safe.{net_of}
use Rattle.lan.specs.Worlds.AtLink.Node.{node}
use Rattle.lan.proofs.Worlds.StillOnward.{ran}
use Rattle.sim_link.specs.Port.{has_tx_token}
use Rattle.proof_stack.specs.Progress.AtOnce.{AreUnmarked}
use Rattle.proof_stack.specs.Progress.Days.{HasDays, KeepsTime}
use Rattle.proof_stack.specs.Progress.Events.{clock_in, shown_in}
use Rattle.proof_stack.specs.Progress.SettledNumerals.{history, hosts, news, opened, slot, starts, told_to_send, writing}
use Rattle.proof_stack.specs.Progress.Unread.{HasRoomForAll}
use Rattle.proof_stack.specs.Progress.Within.{AskForNone, MayBegin, MaySettle}
use Rattle.proof_stack.proofs.Polls.SomeLinked.{both_stay}
use Rattle.proof_stack.proofs.Polls.SomeStarts.{are_new, have_keys, hold_text, is_fresh}
use Rattle.proof_stack.proofs.Polls.SomeNodes.{open_b, writing_a}
use Rattle.proof_stack.proofs.Polls.SomeWorld.{are_typed, stays, wrote}

-- as A's user has written
abbrev pub before : WorldValue
before = record { hosts = record { a = writing_a; b = open_b [] }; starts = starts; history = told_to_send }

abbrev pub following : WorldValue
following = record { hosts = hosts; starts = starts; history = history }

abbrev pub sockets : Side → TcpValue
sockets A = writing
sockets B = opened B

now : pos 0 ≤ℤ pos 0
now = omega (arith, ints)

unmarked : (side : Side) → AreUnmarked (start starts side).slots
unmarked A = (refl, tt)
unmarked B = (refl, tt)

pub ask_for_none : AskForNone starts
ask_for_none = record { medium = refl; unmarked = unmarked }

may_begin : MayBegin slot (pos 0) before
may_begin = record {
  initial = is_fresh;
  typed = are_typed.1.1.1.1.1.1.1.1;
  run = ran starts told_to_send (record { a = writing_a; b = open_b [] }) wrote;
  clock = now;
  in_time = λ side due up wants. up;
}

peer_sides : ArePartners told_to_send A (slot A) (slot B)
peer_sides = record {
  one = record { local = 49_500; remote = Some 80 };
  another = record { local = 80; remote = None };
  opened = refl;
  peer_side_opened = refl;
  paired = refl;
}

are : (side : Side) → IsTcpAt (net_of before) side (slot side) (sockets side)
are A = refl
are B = refl

open_now : (side : Side) → IsOpen (sockets side).tcb
unfolding v4_number mtu_towards
open_now A = record { synchronized = refl; acknowledged = refl; opened = leb-true 1 (sockets A).tcb.sender.past_iss refl }
open_now B = record { synchronized = refl; acknowledged = refl; opened = leb-true 1 (sockets B).tcb.sender.past_iss refl }

no_stamps : (side : Side) → (sockets side).tcb.peer.timestamps ≡ false
unfolding v4_number mtu_towards
no_stamps A = refl
no_stamps B = refl

streams : (side : Side) → HasStream (told told_to_send side (slot side))
streams A = inl refl
streams B = inl refl

rooms : (side : Side) → HasRoomForAll told_to_send slot side (sockets side)
unfolding v4_number mtu_towards
rooms A = (refl, ltb-true 0 8 refl)
rooms B = (refl, ltb-true 3 8 refl)

clocks : (side : Side) → shown_in starts told_to_send side ≤ℤ clock_in told_to_send
clocks A = now
clocks B = now

leaves : (side : Side) → IsTrue (has_tx_token (node hosts side).link)
leaves A = refl
leaves B = refl

pub may_settle : MaySettle slot news (pos 0) sockets before following
may_settle = record {
  begins = may_begin;
  keys = have_keys;
  text = hold_text;
  new_sockets = are_new;
  peer_sides = peer_sides;
  are = are;
  opened = open_now;
  stamps = inl no_stamps;
  streams = streams;
  rooms = rooms;
  clocks = clocks;
  still = stays;
  stay = both_stay;
  leave = leaves;
}

-- 24 DAYS aren't over since either host was first polled

later_on : pos 0 ≤ℤ pos 10_000
later_on = omega (arith, ints)

in_days : pos 10_000 ≤ℤ (pos 0 +ℤ pos 2_073_600_000_000)
in_days = first_of (omega (arith, ints), grind (arith, ints))

keeps : (side : Side) → KeepsTime (pos 0) side (slot side) history
keeps side =
    (tt, (tt, (λ own. later_on, (tt, (λ own. later_on, (λ own. now, (tt, (λ own. now, (λ own here. tt, (λ own. now, (tt, (λ own. now, (tt, (λ own. now, (tt, (λ own. now, (λ own here. tt, (λ own here. tt, tt))))))))))))))))))

pub has_days : (side : Side) → HasDays history (slot side) side
has_days side = record { since = pos 0; begun = now; timed = keeps side; within = in_days }
