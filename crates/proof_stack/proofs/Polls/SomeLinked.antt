-- A world on numerals whose link brings what is sent at once.
use Rattle.std.proofs.Common.{◌≡◌, ◌≢◌, ◌⊎◌, inl, inr, ℕ, leb-true, ltb-true, Bool, true, false, ◌||◌, None, ℤ, List, [], ◌∷◌, ◌++◌, refl, sym, ap, ◌∙◌, subst, arith}
use Rattle.std.specs.Prelude.{◌≤ℤ◌, pos}
use Rattle.std.specs.List.{AllByRecursion}
use Rattle.std.proofs.lemmas.Int.{ints}
use Rattle.std.proofs.lemmas.List.{append-nil}
use Rattle.wire_address.specs.Address.{v4_number}
use Rattle.wire_ip.specs.Ip.{destination_of, source_of}
use Rattle.wire_ip.specs.declared.ip.repr.IpRepr.{IpRepr}
use Rattle.ip_wire.specs.AddressTests.{is_multicast, is_unspecified}
use Rattle.ip_wire.specs.HardwareAddress.TheVariants as Hardware
use Rattle.ip_wire.specs.IpAddress.{IpAddress}
use Rattle.ip_wire.specs.IpAddress.TheVariants as Address
use Rattle.interface.specs.Ingress.{is_read}
use Rattle.iface_egress.specs.Plan.{never_leaves, stays}
use Rattle.iface_ingress.specs.Reassembled.{is_astray}
use Rattle.iface_tables.specs.Inner.{is_for_us, is_local_broadcast, may_be_source}
use Rattle.iface_tables.specs.PathMtu.{mtu_towards}
use Rattle.tcp_state.specs.Endpoints.{local_of, remote_of}
use Rattle.tcp_state.specs.declared.endpoints.AddressPair.TheVariants as Pair
use Rattle.tcp_state.specs.declared.endpoints.FourTuple.{FourTuple}
use Rattle.tcp_block.specs.Value.{TcpValue}
use Rattle.tcp_liveness.specs.Arrivals.{is_synchronized}
use Rattle.tcp_liveness.specs.Exchange.{IsOpen}
use Rattle.lan.specs.declared.at_link.history.event.Side.{Side}
use Rattle.lan.specs.declared.at_link.history.event.Side.TheVariants.{A, B}
use Rattle.lan.specs.declared.at_link.history.answer.Answer.TheVariants as To
use Rattle.lan.specs.declared.at_link.history.event.Event.TheVariants as E
use Rattle.lan.specs.Worlds.AtLink.History.{Entry}
use Rattle.lan.specs.Worlds.AtLink.Kinds.{other}
use Rattle.lan.specs.Worlds.AtLink.Kinds.Act.{Polls}
use Rattle.lan.specs.Worlds.AtLink.Kinds.Kind.{OfHost}
use Rattle.lan.specs.Worlds.AtLink.Runs.{start}
use Rattle.lan.specs.Worlds.AtLink.Node.{NodeValue, Nodes}
use Rattle.lan.specs.Worlds.Still.{StillRun}
use Rattle.proof_stack.specs.Progress.FramesInTransit.{AreCarried, IsOnItsWay, SendsIn, TakesIn}
use Rattle.proof_stack.specs.Progress.Delivered.{may_be_sender}
use Rattle.proof_stack.specs.Progress.Ends.{AreBoth, AreConnected, AreEnds, AreThroughout, AreUnstamped, GoesAlong, IsConnected}
use Rattle.proof_stack.specs.Progress.Leave.{LiesAmong}
use Rattle.proof_stack.specs.Progress.Linked.{AreLinked}
use Rattle.proof_stack.specs.Progress.Reach.{AreInReach, hosts_before}
use Rattle.proof_stack.specs.Progress.Serving.{GiveTxToken, IsAtHost}
use Rattle.proof_stack.specs.Progress.SettledNumerals.{ack_frame, both_open, counts, entry, first_host, heard, hosts, last_frame, later, slot, push_frame, since_open, starts, syn_ack_frame}
use Rattle.proof_stack.specs.Progress.SettledNumerals.{opened, syn_frame, through, through_a, through_b, writing, written}
use Rattle.proof_stack.specs.Progress.Takings.{IsForHost}
use Rattle.proof_stack.specs.Worlds.Hosts.{address, text}
use Rattle.proof_stack.proofs.Polls.SomeNodes.{heard_b, open_a, open_b, writing_a, written_a}
use Rattle.proof_stack.proofs.Polls.SomeWorld.{asked, handed, handed_back, learned, read, sent, stays as stayed, told, wrote}

-- THE ENDS

abbrev pair : Side → FourTuple
pair A = record { addresses = Pair.Ipv4 (address A) (address B); local_port = 49_500; remote_port = 80 }
pair B = record { addresses = Pair.Ipv4 (address B) (address A); local_port = 80; remote_port = 49_500 }

-- what holds between the two addresses holds of each header that has them
module _ (side : Side) (ip : IpRepr) (along : GoesAlong (pair side) ip) where
  abbrev from : IpAddress
  from = Address.Ipv4 (address side)

  abbrev to : IpAddress
  to = Address.Ipv4 (address (other side))

  source : source_of ip ≡ from
  source = along.source ∙ by side where
    by : (s : Side) → local_of (pair s).addresses ≡ Address.Ipv4 (address s)
    by A = refl
    by B = refl

  destination : destination_of ip ≡ to
  destination = along.destination ∙ by side where
    by : (s : Side) → remote_of (pair s).addresses ≡ Address.Ipv4 (address (other s))
    by A = refl
    by B = refl

lets_go : (side : Side) (ip : IpRepr) → GoesAlong (pair side) ip → never_leaves (first_host side).inner ip ≡ false
unfolding v4_number
lets_go side ip along =
    (λ k. stays (first_host side).inner (may_be_source (first_host side).inner (source side ip along k) (destination side ip along k)) (destination side ip along k))
    ∙ by side
  where
    by : (s : Side) → stays (first_host s).inner (may_be_source (first_host s).inner (Address.Ipv4 (address s)) (Address.Ipv4 (address (other s))))
        (Address.Ipv4 (address (other s))) ≡ false
    by A = refl
    by B = refl

abbrev nobody : Side → IpAddress → IpAddress → Bool
nobody s a b = is_unspecified a || (is_unspecified b || (is_local_broadcast (first_host s).inner b || is_multicast b))

takes_in : (side : Side) (ip : IpRepr) → GoesAlong (pair side) ip → IsForHost (first_host (other side)).inner Hardware.Ip ip
unfolding v4_number
takes_in side ip along = record {
  heard = refl;
  framed = refl;
  sender = ap (may_be_sender (first_host (other side)).inner) (source side ip along) ∙ sent side;
  here = (λ k. is_astray (first_host (other side)).inner (source side ip along k) (destination side ip along k)) ∙ astray side;
  ours = ap (is_for_us (first_host (other side)).inner) (destination side ip along) ∙ ours side;
  named = (λ k. nobody (other side) (source side ip along k) (destination side ip along k)) ∙ named side;
} where
  sent : (s : Side) → may_be_sender (first_host (other s)).inner (Address.Ipv4 (address s)) ≡ true
  sent A = refl
  sent B = refl

  astray : (s : Side) → is_astray (first_host (other s)).inner (Address.Ipv4 (address s)) (Address.Ipv4 (address (other s))) ≡ false
  astray A = refl
  astray B = refl

  ours : (s : Side) → is_for_us (first_host (other s)).inner (Address.Ipv4 (address (other s))) ≡ true
  ours A = refl
  ours B = refl

  named : (s : Side) → nobody (other s) (Address.Ipv4 (address s)) (Address.Ipv4 (address (other s))) ≡ false
  named A = refl
  named B = refl

are_ends : AreEnds starts pair
are_ends = record { addresses = addresses; ports = ports; named = named; let_go = let_go; taken_in = taken_in } where
  addresses : (side : Side) → remote_of (pair side).addresses ≡
      local_of (pair (other side)).addresses
  addresses A = refl
  addresses B = refl

  ports : (side : Side) → (pair side).remote_port ≡ (pair (other side)).local_port
  ports A = refl
  ports B = refl

  named : (side : Side) → (pair side).local_port ≢ 0
  named A = λ zero. omega (arith, zero)
  named B = λ zero. omega (arith, zero)

  let_go : (side : Side) (ip : IpRepr) → GoesAlong (pair side) ip → never_leaves (start starts side).host.inner ip ≡ false
  let_go A = lets_go A
  let_go B = lets_go B

  taken_in : (side : Side) (ip : IpRepr) → GoesAlong (pair side) ip →
      IsForHost (start starts (other side)).host.inner Hardware.Ip ip
  taken_in A = takes_in A
  taken_in B = takes_in B

-- WHAT IS SENT

abbrev Frames : Type 0
Frames = List (List ℕ)

one_more : (a b c : List ℕ) (frames : Frames) → a ∷ b ∷ c ∷ [] ≡ (a ∷ b ∷ []) ++ frames → frames ≡ c ∷ []
one_more a b c frames is = cc

then_one : (a b : List ℕ) (frames : Frames) → a ∷ b ∷ [] ≡ (a ∷ []) ++ frames → frames ≡ b ∷ []
then_one a b frames is = cc

none_of_one : (a : List ℕ) (frames : Frames) → a ∷ [] ≡ (a ∷ []) ++ frames → frames ≡ []
none_of_one a frames is = cc

none_of_three : (a b c : List ℕ) (frames : Frames) → a ∷ b ∷ c ∷ [] ≡ (a ∷ b ∷ c ∷ []) ++ frames → frames ≡ []
none_of_three a b c frames is = cc

apart_ab : {X : Type 0} → A ≡ B → X
apart_ab {X} e = absurd cc

apart_ba : {X : Type 0} → B ≡ A → X
apart_ba {X} e = absurd cc

-- a frame that waits alone
waits : (frame : List ℕ) → is_read frame ≡ true → LiesAmong (frame ∷ []) 1 frame
waits frame short = record {
  padding = [];
  before = [];
  following = [];
  frames = ap (λ (f : List ℕ). f ∷ []) (sym (append-nil frame));
  few = ltb-true 0 1 refl;
  short = ap is_read (append-nil frame) ∙ short;
}

now : pos 0 ≤ℤ pos 0
now = omega (arith, ints)

soon : later ≤ℤ later
soon = omega (arith, ints)

-- THE CONNECTION, which has no timestamps

abbrev Unstamped : Side → TcpValue → Type 0
Unstamped side v = (is_synchronized v.tcb.state ≡ true) × (v.tcb.peer.timestamps ≡ false)

-- both sockets, wherever their hosts are
module _ (IsSo : Side → TcpValue → Type 0) where
  pub both_are : (a b : NodeValue) → IsAtHost 0 a (IsSo A) → IsAtHost 0 b (IsSo B) → AreBoth IsSo slot (record { a = a; b = b })
  both_are a b is_a is_b A = is_a
  both_are a b is_a is_b B = is_b

  -- through all events, where so is each socket
  throughout : IsSo A (opened A) → IsSo A writing → IsSo A written → IsSo A (through A) → IsSo B (opened B) → IsSo B heard → IsSo B (through B)
      → AreThroughout IsSo starts slot both_open since_open hosts stayed
  unfolding stayed asked learned handed_back told read handed sent wrote
  throughout a_open a_writing a_written a_through b_open b_heard b_through = (
    (
      (
        (
          (
            (
              (
                (
                  (both_are open_a (open_b []) a_open b_open, both_are writing_a (open_b []) a_writing b_open),
                  both_are (written_a []) (open_b []) a_written b_open,
                ),
                both_are (written_a []) (open_b (push_frame ∷ [])) a_written b_open,
              ),
              both_are (written_a []) heard_b a_written b_heard,
            ),
            both_are (written_a []) through_b a_written b_through,
          ),
          both_are (written_a (last_frame ∷ [])) through_b a_written b_through,
        ),
        both_are through_a through_b a_through b_through,
      ),
      both_are through_a through_b a_through b_through,
    ),
    both_are through_a through_b a_through b_through,
  )

are_connected : AreConnected starts slot pair both_open since_open hosts stayed
unfolding v4_number mtu_towards
are_connected =
    throughout (λ side. IsConnected (pair side)) (refl, refl) (refl, refl) (refl, refl) (refl, refl) (refl, refl) (refl, refl) (refl, refl)

are_unstamped : AreUnstamped starts slot both_open since_open hosts stayed
unfolding v4_number mtu_towards
are_unstamped = throughout Unstamped (refl, refl) (refl, refl) (refl, refl) (refl, refl) (refl, refl) (refl, refl) (refl, refl)

leaves : GiveTxToken starts both_open since_open hosts stayed
unfolding stayed asked learned handed_back told read handed sent wrote
leaves = (((((((((tt, tt), refl), tt), refl), refl), tt), refl), tt), tt)

-- THE FRAMES

abbrev OnWay : Type 0
OnWay = Side → List (ℤ × List ℕ)

abbrev none : OnWay
none side = []

-- the text, and what acknowledges it
abbrev text_on_way : OnWay
text_on_way A = (pos 0, push_frame) ∷ []
text_on_way B = []

abbrev last_on_way : OnWay
last_on_way A = []
last_on_way B = (later, last_frame) ∷ []

short_text : is_read push_frame ≡ true
unfolding v4_number
short_text = refl

short_last : is_read last_frame ≡ true
unfolding v4_number
short_last = refl

-- the later events up to each of them
abbrev e1 : List Entry
e1 = entry (E.Send A 0 text) (To.Count 3) (counts 2 1 0 0) ∷ []

abbrev e2 : List Entry
e2 = entry (E.Poll A (pos 0) 1) (To.Poll true) (counts 2 1 0 0) ∷ e1

abbrev e3 : List Entry
e3 = entry (E.Deliver A 2 []) To.Done (counts 3 1 0 0) ∷ e2

abbrev e4 : List Entry
e4 = entry (E.Poll B (pos 0) 1) (To.Poll true) (counts 3 1 0 1) ∷ e3

abbrev e5 : List Entry
e5 = entry (E.Poll B later 1) (To.Poll true) (counts 3 1 0 0) ∷ e4

abbrev e6 : List Entry
e6 = entry (E.Deliver B 1 []) To.Done (counts 3 2 0 0) ∷ e5

abbrev e7 : List Entry
e7 = entry (E.Poll A later 1) (To.Poll true) (counts 3 2 1 0) ∷ e6

abbrev e8 : List Entry
e8 = entry (E.PollAt A later) (To.At None) (counts 3 2 0 0) ∷ e7

abbrev both : NodeValue → NodeValue → Nodes
both a b = record { a = a; b = b }

abbrev Carried : (more : List Entry) (hosts : Nodes) → StillRun starts (more ++ both_open) hosts → OnWay → Type 0
Carried more hosts still on_way = AreCarried starts 0 both_open more hosts still on_way

carried1 : Carried e1 (both writing_a (open_b [])) wrote none
unfolding wrote
carried1 = (none, (λ side. refl), (λ side. tt), (λ side frames sends. absurd sends))

carried2 : Carried e2 (both (written_a []) (open_b [])) sent text_on_way
unfolding sent
carried2 = (none, carried1, (λ side. tt), sends) where
  sends : (side : Side) (frames : Frames) → SendsIn (OfHost A (Polls (pos 0) 1)) (both writing_a (open_b [])) (both (written_a []) (open_b [])) side frames
      → AllByRecursion (λ frame. IsOnItsWay (text_on_way side) (pos 0) frame) frames
  sends A frames (same, is) =
      subst (AllByRecursion (λ frame. IsOnItsWay (text_on_way A) (pos 0) frame)) (sym (one_more syn_frame ack_frame push_frame frames is)) (inl refl, tt)
  sends B frames (same, is) = apart_ab same

carried3 : Carried e3 (both (written_a []) (open_b (push_frame ∷ []))) handed text_on_way
unfolding handed
carried3 = (text_on_way, carried2, kept, (λ side frames sends. absurd sends)) where
  kept : (side : Side) → AllByRecursion (λ x. (pos 0 ≤ℤ x.0) × (IsOnItsWay (text_on_way side) x.0 x.1 ⊎ ⊥)) (text_on_way side)
  kept A = ((now, inl (inl refl)), tt)
  kept B = tt

carried4 : Carried e4 (both (written_a []) heard_b) read none
unfolding read
carried4 = (text_on_way, carried3, kept, sends) where
  kept : (side : Side) → AllByRecursion (λ x. (pos 0 ≤ℤ x.0)
      × (IsOnItsWay (none side) x.0 x.1 ⊎ TakesIn (OfHost B (Polls (pos 0) 1)) (both (written_a []) (open_b (push_frame ∷ []))) (other side) x.1)) (text_on_way side)
  kept A = ((now, inr (refl, waits push_frame short_text)), tt)
  kept B = tt

  sends : (side : Side) (frames : Frames)
      → SendsIn (OfHost B (Polls (pos 0) 1)) (both (written_a []) (open_b (push_frame ∷ []))) (both (written_a []) heard_b) side frames
      → AllByRecursion (λ frame. IsOnItsWay (none side) (pos 0) frame) frames
  sends A frames (same, is) = apart_ba same
  sends B frames (same, is) = subst (AllByRecursion (λ frame. IsOnItsWay (none B) (pos 0) frame)) (sym (none_of_one syn_ack_frame frames is)) tt

carried5 : Carried e5 (both (written_a []) through_b) told last_on_way
unfolding told
carried5 = (none, carried4, (λ side. tt), sends) where
  sends : (side : Side) (frames : Frames) → SendsIn (OfHost B (Polls later 1)) (both (written_a []) heard_b) (both (written_a []) through_b) side frames
      → AllByRecursion (λ frame. IsOnItsWay (last_on_way side) later frame) frames
  sends A frames (same, is) = apart_ba same
  sends B frames (same, is) =
      subst (AllByRecursion (λ frame. IsOnItsWay (last_on_way B) later frame)) (sym (then_one syn_ack_frame last_frame frames is)) (inl refl, tt)

carried6 : Carried e6 (both (written_a (last_frame ∷ [])) through_b) handed_back last_on_way
unfolding handed_back
carried6 = (last_on_way, carried5, kept, (λ side frames sends. absurd sends)) where
  kept : (side : Side) → AllByRecursion (λ x. (later ≤ℤ x.0) × (IsOnItsWay (last_on_way side) x.0 x.1 ⊎ ⊥)) (last_on_way side)
  kept A = tt
  kept B = ((soon, inl (inl refl)), tt)

carried7 : Carried e7 (both through_a through_b) learned none
unfolding learned
carried7 = (last_on_way, carried6, kept, sends) where
  kept : (side : Side) → AllByRecursion (λ x. (later ≤ℤ x.0)
      × (IsOnItsWay (none side) x.0 x.1 ⊎ TakesIn (OfHost A (Polls later 1)) (both (written_a (last_frame ∷ [])) through_b) (other side) x.1)) (last_on_way side)
  kept A = tt
  kept B = ((soon, inr (refl, waits last_frame short_last)), tt)

  sends : (side : Side) (frames : Frames)
      → SendsIn (OfHost A (Polls later 1)) (both (written_a (last_frame ∷ [])) through_b) (both through_a through_b) side frames
      → AllByRecursion (λ frame. IsOnItsWay (none side) later frame) frames
  sends A frames (same, is) =
      subst (AllByRecursion (λ frame. IsOnItsWay (none A) later frame)) (sym (none_of_three syn_frame ack_frame push_frame frames is)) tt
  sends B frames (same, is) = apart_ab same

carried8 : Carried e8 (both through_a through_b) asked none
unfolding asked
carried8 = (none, carried7, (λ side. tt), (λ side frames sends. absurd sends))

are_carried : Carried since_open hosts stayed none
unfolding stayed
are_carried = (none, carried8, (λ side. tt), (λ side frames sends. absurd sends))

pub are_linked : (still : StillRun starts (since_open ++ both_open) hosts) × AreLinked starts slot 0 both_open since_open hosts still
    × AreUnstamped starts slot both_open since_open hosts still
are_linked = (
  stayed,
  record {
    medium = refl;
    pairs = pair;
    ends = are_ends;
    connected = are_connected;
    leave = leaves;
    on_way = none;
    carried = are_carried;
  },
  are_unstamped,
)

-- IN REACH

open_here : IsOpen (opened A).tcb
unfolding v4_number mtu_towards
open_here = record { synchronized = refl; acknowledged = refl; opened = leb-true 1 (opened A).tcb.sender.past_iss refl }

open_there : IsOpen (opened B).tcb
unfolding v4_number mtu_towards
open_there = record { synchronized = refl; acknowledged = refl; opened = leb-true 1 (opened B).tcb.sender.past_iss refl }

both_opened : AreBoth (λ side v. IsOpen v.tcb) slot (hosts_before starts both_open since_open hosts stayed)
unfolding stayed asked learned handed_back told read handed sent wrote
both_opened = both_are (λ side v. IsOpen v.tcb) open_a (open_b []) open_here open_there

pub both_stay : AreBoth (λ side v. is_synchronized v.tcb.state ≡ true) slot hosts
unfolding v4_number mtu_towards
both_stay = both_are (λ side v. is_synchronized v.tcb.state ≡ true) through_a through_b refl refl

pub are_in_reach : (still : StillRun starts (since_open ++ both_open) hosts)
    × AreBoth (λ side v. IsOpen v.tcb) slot (hosts_before starts both_open since_open hosts still)
    × AreBoth (λ side v. is_synchronized v.tcb.state ≡ true) slot hosts × AreInReach starts 0 both_open since_open hosts still
are_in_reach = (
  stayed,
  both_opened,
  both_stay,
  record { medium = refl; leave = leaves; on_way = none; carried = are_carried },
)
