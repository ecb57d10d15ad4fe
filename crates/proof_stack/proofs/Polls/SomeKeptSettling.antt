-- Rounds on numerals meet all that is asked, where A's user asked for keep-alives, and go on past what is enough.
use Rattle.std.proofs.Common.{◌≡◌, inl, leb-true, ltb-true, true, false, ℕ, [], None, Some, refl, arith}
use Rattle.std.specs.Prelude.{◌≤ℤ◌, ◌<ℤ◌, ◌+ℤ◌, IsTrue, pos}
use Rattle.std.proofs.lemmas.Int.{ints}
use Rattle.tcp_liveness.specs.Arrivals.{is_synchronized}
use Rattle.tcp_liveness.specs.Exchange.{IsOpen}
use Rattle.tcp_liveness.specs.Pair.{HasStream}
use Rattle.iface_tables.specs.PathMtu.{mtu_towards}
use Rattle.wire_address.specs.Address.{v4_number}
use Rattle.lan.specs.declared.at_link.history.event.Side.{Side}
use Rattle.lan.specs.declared.at_link.history.event.Side.TheVariants.{A, B}
use Rattle.lan.specs.Worlds.AtLink.PacketsSafe.{IsTcpAt}
use Rattle.lan.specs.Worlds.AtLink.Paired.{told}
use Rattle.lan.specs.Worlds.AtLink.PeerSides.{ArePartners}
use Rattle.lan.specs.Worlds.AtLink.Safe.{net_of}
use Rattle.lan.specs.Worlds.AtLink.Node.{node}
use Rattle.lan.proofs.Worlds.StillOnward.{ran}
use Rattle.sim_link.specs.Port.{has_tx_token}
use Rattle.proof_stack.specs.Progress.Ends.{AreBoth}
use Rattle.proof_stack.specs.Progress.Events.{clock_in, shown_in}
use Rattle.proof_stack.specs.Progress.KeepAliveNumerals.{answering, before, following, kept_a, kept_asking, late_a, late_b, sockets, told_to_keep}
use Rattle.proof_stack.specs.Progress.SettledNumerals.{news, slot, starts}
use Rattle.proof_stack.specs.Progress.Unread.{HasRoomForAll}
use Rattle.proof_stack.specs.Progress.Within.{MayBegin, MaySettle, enough_for}
use Rattle.proof_stack.proofs.Polls.SomeKept.{both}
use Rattle.proof_stack.proofs.Polls.SomeKeptWorld.{kept_still}
use Rattle.proof_stack.proofs.Polls.SomeKeptFifth.{fifth_still}
use Rattle.proof_stack.proofs.Polls.SomeLinked.{both_are}
use Rattle.proof_stack.proofs.Polls.SomeStarts.{are_new, have_keys, hold_text, is_fresh}
use Rattle.proof_stack.proofs.Polls.SomeNodes.{open_b}
use Rattle.proof_stack.proofs.Polls.SomeWorld.{are_typed}

now : pos 0 ≤ℤ pos 0
now = omega (arith, ints)

may_begin : MayBegin slot (pos 0) before
may_begin = record {
  initial = is_fresh;
  typed = (tt, are_typed.1.1.1.1.1.1.1.1);
  run = ran starts told_to_keep (both kept_a (open_b [])) kept_still;
  clock = now;
  in_time = λ side due up wants. up;
}

peer_sides : ArePartners told_to_keep A (slot A) (slot B)
peer_sides = record {
  one = record { local = 49_500; remote = Some 80 };
  another = record { local = 80; remote = None };
  opened = refl;
  peer_side_opened = refl;
  paired = refl;
}

are : (side : Side) → IsTcpAt (net_of before) side (slot side) (sockets side)
are A = refl
are B = refl

open_now : (side : Side) → IsOpen (sockets side).tcb
unfolding v4_number mtu_towards
open_now A = record { synchronized = refl; acknowledged = refl; opened = leb-true 1 (sockets A).tcb.sender.past_iss refl }
open_now B = record { synchronized = refl; acknowledged = refl; opened = leb-true 1 (sockets B).tcb.sender.past_iss refl }

no_stamps : (side : Side) → (sockets side).tcb.peer.timestamps ≡ false
unfolding v4_number mtu_towards
no_stamps A = refl
no_stamps B = refl

streams : (side : Side) → HasStream (told told_to_keep side (slot side))
streams A = inl refl
streams B = inl refl

rooms : (side : Side) → HasRoomForAll told_to_keep slot side (sockets side)
unfolding v4_number mtu_towards
rooms A = (refl, ltb-true 0 8 refl)
rooms B = (refl, ltb-true 3 8 refl)

clocks : (side : Side) → shown_in starts told_to_keep side ≤ℤ clock_in told_to_keep
clocks A = now
clocks B = now

leaves : (side : Side) → IsTrue (has_tx_token (node following.hosts side).link)
leaves A = refl
leaves B = refl

stay : AreBoth (λ side v. is_synchronized v.tcb.state ≡ true) slot following.hosts
unfolding v4_number mtu_towards
stay = both_are (λ side v. is_synchronized v.tcb.state ≡ true) late_a late_b refl refl

pub may_settle : MaySettle slot news (pos 0) sockets before following
may_settle = record {
  begins = may_begin;
  keys = have_keys;
  text = hold_text;
  new_sockets = are_new;
  peer_sides = peer_sides;
  are = are;
  opened = open_now;
  stamps = inl no_stamps;
  streams = streams;
  rooms = rooms;
  clocks = clocks;
  still = fifth_still;
  stay = stay;
  leave = leaves;
}

-- WHAT IS ENOUGH

pub enough : enough_for told_to_keep slot sockets ≡ 21_840_000_000
enough = refl

long : (count : ℕ) → count ≡ 21_840_000_000 → (pos 0 +ℤ pos count) <ℤ pos 25_200_000_000
long count is = omega (is, arith, ints)

pub proceeds : (clock_in before.history +ℤ pos (enough_for before.history slot sockets)) <ℤ clock_in following.history
proceeds = long (enough_for told_to_keep slot sockets) enough

-- WHO IS THERE

pub caller : IsTcpAt (net_of following) A (slot A) kept_asking
caller = refl

pub listener : IsTcpAt (net_of following) B (slot B) answering
listener = refl
