-- Two hosts on numerals on one Ethernet, the steps in which the one asks for neighbours, and the exchange with the one that answers.
use Rattle.std.proofs.Common.{◌≡◌, inl, inr, true, false, ℤ, pos, ◌≤ℤ◌, int_le, List, [], ◌∷◌, length, Option, Some, None, refl, sym, ap, ◌∙◌, subst}
use Rattle.std.proofs.lemmas.Bool.{ltb-true}
use Rattle.std.specs.List.{AllByRecursion}
use Rattle.wire_address.specs.Address.{v4_number}
use Rattle.ip_wire.specs.Address.{IsEthernetAddress, IsIpv4Address}
use Rattle.ip_wire.specs.AddressTests.{is_same_address}
use Rattle.ip_wire.specs.IpAddress.{IpAddress}
use Rattle.ip_wire.specs.IpAddress.TheVariants as Address
use Rattle.ip_wire.specs.Ipv4Address.{Ipv4Address}
use Rattle.sim_link.specs.Port.{PortValue, PortMove}
use Rattle.lan.specs.declared.at_link.history.event.Side.{Side}
use Rattle.lan.specs.declared.at_link.history.event.Side.TheVariants.{A, B}
use Rattle.socket_context.specs.WellFormed.{IsWellFormed}
use Rattle.socket_datagram.specs.Udp.{UdpValue, header_for}
use Rattle.socket_datagram.proofs.UdpPackets.{found}
use Rattle.iface_ingress.specs.Offer.TheVariants as Offer
use Rattle.iface_ingress.specs.Packet.{PacketValue}
use Rattle.iface_ingress.specs.Socket.TheVariants as Kind
use Rattle.iface_ingress.specs.Sockets.{Offers}
use Rattle.iface_tables.specs.Inner.{InnerValue, at_instant}
use Rattle.iface_tables.specs.PathMtu.{mtu_towards}
use Rattle.iface_egress.specs.Set.{unmarked}
use Rattle.iface_egress.specs.declared.socket_meta.Meta.{Meta}
use Rattle.iface_egress.specs.declared.egress_path.Sent.TheVariants as Outcome
use Rattle.interface.specs.Awaited.{awaited_in}
use Rattle.interface.specs.declared.awaited.Awaited.{Awaited}
use Rattle.interface.specs.Egress.{EgressStep, sending}
use Rattle.interface.specs.Host as Host
use Rattle.interface.specs.Pass.{passed}
use Rattle.interface.specs.Remote.{context_for}
use Rattle.interface.specs.State.{State}
use Rattle.interface.specs.Serve.{ServesSlot}
use Rattle.interface.specs.declared.serve.Served.TheVariants as Turn
use Rattle.interface.proofs.Arrives.{all-bytes}
use Rattle.tcp_liveness.proofs.Moments.{le_of}
use Rattle.proof_stack.specs.Progress.NeighborResolution.{HasToAsk}
use Rattle.proof_stack.specs.Progress.OnEthernet.{TwoSteps, asked_again, datagram_to, for_b, for_nobody}
use Rattle.proof_stack.specs.Progress.OnEthernet.{hops, in_vain, knowing_nobody, nobodys, packet, packet_from, passed_over}
use Rattle.proof_stack.specs.Progress.OnEthernet.{second, node, steps_of, waits_for}
use Rattle.proof_stack.specs.Progress.Rounds.{AreRounds, IsOneOf, PassesOver, Round}
use Rattle.proof_stack.specs.Progress.Served.{WaitsForHop}
use Rattle.proof_stack.specs.Progress.EgressSteps.{AreInOrder, AsksThen, IsWaitedFor, OutStep, StillNeeds, WaitsOn}
use Rattle.proof_stack.specs.Worlds.Hosts.{address, text}
use Rattle.proof_stack.proofs.Polls.Inboxes.{refuse_nothing}
use Rattle.proof_stack.proofs.Polls.Served.{waited_for}
use Rattle.proof_stack.proofs.Polls.SomeHosts.{is_address}
use Rattle.proof_stack.proofs.Polls.StillNeeded.{still_needed}
use Rattle.proof_stack.proofs.Polls.Waited.{step_asks_in_turn}

-- WHAT IS SENT

pub is_unicast_hardware : (side : Side) → IsEthernetAddress (node side)
is_unicast_hardware A =
    (refl, all-bytes (node A).0 (ltb-true _ _ refl, (ltb-true _ _ refl, (ltb-true _ _ refl, (ltb-true _ _ refl, (ltb-true _ _ refl, (ltb-true _ _ refl, tt)))))))
is_unicast_hardware B =
    (refl, all-bytes (node B).0 (ltb-true _ _ refl, (ltb-true _ _ refl, (ltb-true _ _ refl, (ltb-true _ _ refl, (ltb-true _ _ refl, (ltb-true _ _ refl, tt)))))))

nobodys_is : IsIpv4Address nobodys
nobodys_is = (refl, all-bytes nobodys.0 (ltb-true _ _ refl, (ltb-true _ _ refl, (ltb-true _ _ refl, (ltb-true _ _ refl, tt)))))

pub formed : IsWellFormed packet
formed = record {
  sendable = record { header = ltb-true _ _ refl; payload = record { len = ltb-true _ _ refl; family = refl }; len = refl };
  header =
      record {
        source = is_address A;
        destination = is_address B;
        identification = ltb-true _ _ refl;
        protocol = ltb-true _ _ refl;
        hop_limit = ltb-true _ _ refl;
      };
  payload = record { source_port = ltb-true _ _ refl; destination_port = ltb-true _ _ refl };
}

abbrev packet_9 : PacketValue
packet_9 = packet_from for_nobody nobodys

formed_9 : IsWellFormed packet_9
formed_9 = record {
  sendable = record { header = ltb-true _ _ refl; payload = record { len = ltb-true _ _ refl; family = refl }; len = refl };
  header =
      record {
        source = is_address A;
        destination = nobodys_is;
        identification = ltb-true _ _ refl;
        protocol = ltb-true _ _ refl;
        hop_limit = ltb-true _ _ refl;
      };
  payload = record { source_port = ltb-true _ _ refl; destination_port = ltb-true _ _ refl };
}

-- OFFERS

abbrev pub offered_b : UdpValue
offered_b = record for_b { offered = Some packet }

abbrev offered_9 : UdpValue
offered_9 = record for_nobody { offered = Some packet_9 }

module _ (i : InnerValue) where
  pub offers_b : Some packet.header ≡ header_for (context_for i (Kind.Udp for_b)) for_b.settings (datagram_to (address B)).0 (length text)
      → Offers (context_for i (Kind.Udp for_b)) (Kind.Udp for_b) (Offer.Packet false) (Kind.Udp offered_b)
  offers_b is = (found (context_for i (Kind.Udp for_b)) for_b.settings (datagram_to (address B)).0 text (Some packet.header) is, refl, refl)

  offers_9 : Some packet_9.header ≡ header_for (context_for i (Kind.Udp for_nobody)) for_nobody.settings (datagram_to nobodys).0 (length text)
      → Offers (context_for i (Kind.Udp for_nobody)) (Kind.Udp for_nobody) (Offer.Packet false) (Kind.Udp offered_9)
  offers_9 is = (found (context_for i (Kind.Udp for_nobody)) for_nobody.settings (datagram_to nobodys).0 text (Some packet_9.header) is, refl, refl)

-- A's STEPS

abbrev pub following : State PortValue → Host.Sender PortValue
following s = Host.sender s.device s.host.inner None

abbrev turn_b : Option IpAddress
turn_b = Some (Address.Ipv4 (address B))

abbrev turn_9 : Option IpAddress
turn_9 = Some (Address.Ipv4 nobodys)

-- nobody's turn: B is asked for, and the other waits
b_first : ServesSlot PortMove None (sending (second 0) knowing_nobody) (unmarked (Kind.Udp for_b)) (Turn.Next false) (following in_vain) (waits_for (address B) 1 for_b)
unfolding v4_number mtu_towards
b_first = (
  Offer.Packet false,
  Kind.Udp offered_b,
  offers_b (sending (second 0) knowing_nobody).inner refl,
  (
    packet,
    refl,
    formed,
    (Outcome.Waits, inr (knowing_nobody.device, (refl, refl), (((refl, refl), refl), refl), refl), refl, refl, formed),
  ),
)

nobody_first : ServesSlot PortMove None (following in_vain) (unmarked (Kind.Udp for_nobody)) (Turn.Next false) (following in_vain) (waits_for nobodys 1 for_nobody)
unfolding v4_number mtu_towards
nobody_first = (
  Offer.Packet false,
  Kind.Udp offered_9,
  offers_9 in_vain.host.inner refl,
  (packet_9, refl, formed_9, (Outcome.Waits, inr (in_vain.device, (refl, refl), (refl, (refl, refl, refl)), refl), refl, refl, formed_9)),
)

pub begins : EgressStep PortMove (second 0) knowing_nobody None in_vain
begins = (
  passed (following in_vain) in_vain.slots false,
  inr (
    sending (second 0) knowing_nobody,
    (refl, refl),
    inl (
      false,
      following in_vain,
      waits_for (address B) 1 for_b,
      b_first,
      inl (false, following in_vain, waits_for nobodys 1 for_nobody, nobody_first, refl),
    ),
  ),
  refl,
  refl,
)

-- the turn of the other: B's socket waits, and the other is asked for
b_waits :
    ServesSlot PortMove turn_9 (sending (second 1) in_vain) (waits_for (address B) 1 for_b) (Turn.Next false) (sending (second 1) in_vain) (waits_for (address B) 2 for_b)
unfolding v4_number mtu_towards
b_waits = (
  Offer.Packet false,
  Kind.Udp offered_b,
  offers_b (sending (second 1) in_vain).inner refl,
  (packet, refl, formed, (Outcome.Waits, inl (true, (refl, refl), refl, refl, refl), refl, refl, formed)),
)

nobody_asked :
    ServesSlot PortMove turn_9 (sending (second 1) in_vain) (waits_for nobodys 1 for_nobody) (Turn.Next false) (following passed_over) (waits_for nobodys 2 for_nobody)
unfolding v4_number mtu_towards
nobody_asked = (
  Offer.Packet false,
  Kind.Udp offered_9,
  offers_9 (sending (second 1) in_vain).inner refl,
  (
    packet_9,
    refl,
    formed_9,
    (Outcome.Waits, inr (in_vain.device, (refl, refl), (((refl, refl), refl), refl), refl), refl, refl, formed_9),
  ),
)

first_step : EgressStep PortMove (second 1) in_vain None passed_over
unfolding v4_number
first_step = (
  passed (following passed_over) passed_over.slots false,
  inr (
    sending (second 1) in_vain,
    (refl, refl),
    inl (
      false,
      sending (second 1) in_vain,
      waits_for (address B) 2 for_b,
      b_waits,
      inl (false, following passed_over, waits_for nobodys 2 for_nobody, nobody_asked, refl),
    ),
  ),
  refl,
  refl,
)

-- B's turn again
b_asked :
    ServesSlot PortMove turn_b (sending (second 2) passed_over) (waits_for (address B) 2 for_b) (Turn.Next false) (following asked_again) (waits_for (address B) 3 for_b)
unfolding v4_number mtu_towards
b_asked = (
  Offer.Packet false,
  Kind.Udp offered_b,
  offers_b (sending (second 2) passed_over).inner refl,
  (
    packet,
    refl,
    formed,
    (Outcome.Waits, inr (passed_over.device, (refl, refl), (((refl, refl), refl), refl), refl), refl, refl, formed),
  ),
)

nobody_waits : ServesSlot PortMove turn_b (following asked_again) (waits_for nobodys 2 for_nobody) (Turn.Next false) (following asked_again) (waits_for nobodys 3 for_nobody)
unfolding v4_number mtu_towards
nobody_waits = (
  Offer.Packet false,
  Kind.Udp offered_9,
  offers_9 asked_again.host.inner refl,
  (packet_9, refl, formed_9, (Outcome.Waits, inr (asked_again.device, (refl, refl), (refl, (refl, refl, refl)), refl), refl, refl, formed_9)),
)

pub second_step : EgressStep PortMove (second 2) passed_over None asked_again
unfolding v4_number
second_step = (
  passed (following asked_again) asked_again.slots false,
  inr (
    sending (second 2) passed_over,
    (refl, refl),
    inl (
      false,
      following asked_again,
      waits_for (address B) 3 for_b,
      b_asked,
      inl (false, following asked_again, waits_for nobodys 3 for_nobody, nobody_waits, refl),
    ),
  ),
  refl,
  refl,
)

pub two_steps : TwoSteps
two_steps = record { first = first_step; later = second_step }

-- WHO WAITS IN THEM

abbrev none_awaited : Option Awaited
none_awaited = None

same_awaited : (a b : Awaited) → Some a ≡ Some b → a ≡ b
same_awaited a b is = cc

by_awaited : (P : Awaited → Type 0) (o : Option Awaited) (this : Awaited) → o ≡ Some this → P this → (a : Awaited) → o ≡ Some a → P a
by_awaited P o this e holds a is = subst P (same_awaited this a (sym e ∙ is)) holds

abbrev first_host : InnerValue
first_host = at_instant (second 1) in_vain.host.inner

abbrev second_host : InnerValue
second_host = at_instant (second 2) passed_over.host.inner

needs_b_first : HasToAsk first_host for_b.settings (datagram_to (address B)) (Address.Ipv4 (address B)) packet
unfolding v4_number
needs_b_first = record { takes = (refl, refl); may = refl; unknown = refl; asks = refl; alone = refl; room = refl }

needs_9_first : HasToAsk first_host for_nobody.settings (datagram_to nobodys) (Address.Ipv4 nobodys) packet_9
unfolding v4_number
needs_9_first = record { takes = (refl, refl); may = refl; unknown = refl; asks = refl; alone = refl; room = refl }

needs_b_then : HasToAsk second_host for_b.settings (datagram_to (address B)) (Address.Ipv4 (address B)) packet
unfolding v4_number
needs_b_then = record { takes = (refl, refl); may = refl; unknown = refl; asks = refl; alone = refl; room = refl }

needs_9_then : HasToAsk second_host for_nobody.settings (datagram_to nobodys) (Address.Ipv4 nobodys) packet_9
unfolding v4_number
needs_9_then = record { takes = (refl, refl); may = refl; unknown = refl; asks = refl; alone = refl; room = refl }

abbrev pub mark : Ipv4Address → ℤ → Meta
mark a until = record { waiting = Some (record { neighbor = Address.Ipv4 a; since = pos 0; silent_until = until }) }

b_waits_first : WaitsOn first_host hops (waits_for (address B) 1 for_b)
unfolding v4_number
b_waits_first =
    by_awaited (λ (a : Awaited). IsOneOf a.hop hops × StillNeeds first_host a.hop (waits_for (address B) 1 for_b).inner)
    (awaited_in first_host (waits_for (address B) 1 for_b)) (record { hop = Address.Ipv4 (address B); last_request = Some (second 1); since = pos 0 }) refl (
      inl refl,
      still_needed first_host for_b (datagram_to (address B)) [] (Address.Ipv4 (address B)) packet refl needs_b_first (mark (address B) (second 1)) refl,
    )

nobody_waits_first : WaitsOn first_host hops (waits_for nobodys 1 for_nobody)
unfolding v4_number
nobody_waits_first =
    by_awaited (λ (a : Awaited). IsOneOf a.hop hops × StillNeeds first_host a.hop (waits_for nobodys 1 for_nobody).inner)
    (awaited_in first_host (waits_for nobodys 1 for_nobody)) (record { hop = Address.Ipv4 nobodys; last_request = None; since = pos 0 }) refl (
      inr (inl refl),
      still_needed first_host for_nobody (datagram_to nobodys) [] (Address.Ipv4 nobodys) packet_9 refl needs_9_first (mark nobodys (second 1)) refl,
    )

b_waits_then : WaitsOn second_host hops (waits_for (address B) 2 for_b)
unfolding v4_number
b_waits_then =
    by_awaited (λ (a : Awaited). IsOneOf a.hop hops × StillNeeds second_host a.hop (waits_for (address B) 2 for_b).inner)
    (awaited_in second_host (waits_for (address B) 2 for_b)) (record { hop = Address.Ipv4 (address B); last_request = Some (second 1); since = pos 0 }) refl (
      inl refl,
      still_needed second_host for_b (datagram_to (address B)) [] (Address.Ipv4 (address B)) packet refl needs_b_then (mark (address B) (second 2)) refl,
    )

nobody_waits_then : WaitsOn second_host hops (waits_for nobodys 2 for_nobody)
unfolding v4_number
nobody_waits_then =
    by_awaited (λ (a : Awaited). IsOneOf a.hop hops × StillNeeds second_host a.hop (waits_for nobodys 2 for_nobody).inner)
    (awaited_in second_host (waits_for nobodys 2 for_nobody)) (record { hop = Address.Ipv4 nobodys; last_request = Some (second 2); since = pos 0 }) refl (
      inr (inl refl),
      still_needed second_host for_nobody (datagram_to nobodys) [] (Address.Ipv4 nobodys) packet_9 refl needs_9_then (mark nobodys (second 2)) refl,
    )

same_instant : (a b : ℤ) → Some a ≡ Some b → a ≡ b
same_instant a b is = cc

no_later : (o : Option ℤ) (at now : ℤ) → o ≡ Some at → int_le at now ≡ true → (when : ℤ) → o ≡ Some when → when ≤ℤ now
no_later o at now e less when is = subst (λ (m : ℤ). m ≤ℤ now) (same_instant at when (sym e ∙ is)) (le_of at now less)

abbrev Waits : OutStep PortMove → Type 0
Waits x = WaitsForHop PortMove hops 0 for_b (datagram_to (address B)) (Address.Ipv4 (address B)) packet x

module _ (t : TwoSteps) where
  abbrev x : OutStep PortMove
  x = record { instant = second 1; old = in_vain; answer = None; new = passed_over; goes = t.first }

  abbrev y : OutStep PortMove
  y = record { instant = second 2; old = passed_over; answer = None; new = asked_again; goes = t.later }

  pub in_order : AreInOrder PortMove (steps_of t)
  in_order = ((le_of (second 1) (second 2) refl, refl), (tt, tt))

  first_waits : Waits x
  unfolding v4_number
  first_waits = record {
    freely = record { free = refuse_nothing in_vain.device passed_over.device refl refl; alone = refl; room = refl; waiting = (b_waits_first, (nobody_waits_first, tt)) };
    first = record { meta = mark (address B) (second 1); value = for_b; more = []; stands = refl; settings = refl; first = refl; mark = refl };
    waits = refl;
    needs = needs_b_first;
    over = no_later (Some (second 1)) (second 1) (second 1) refl refl;
    spared = refl;
  }

  pub then_waits : Waits y
  unfolding v4_number
  then_waits = record {
    freely = record { free = refuse_nothing passed_over.device asked_again.device refl refl; alone = refl; room = refl; waiting = (b_waits_then, (nobody_waits_then, tt)) };
    first = record { meta = mark (address B) (second 2); value = for_b; more = []; stands = refl; settings = refl; first = refl; mark = refl };
    waits = refl;
    needs = needs_b_then;
    over = no_later (Some (second 1)) (second 1) (second 2) refl refl;
    spared = refl;
  }

  pub both_wait_on : AllByRecursion Waits (steps_of t)
  both_wait_on = (first_waits, (then_waits, tt))

  pub are_waited_for : AllByRecursion (IsWaitedFor PortMove (Address.Ipv4 (address B)) hops) (steps_of t)
  are_waited_for = (
    waited_for PortMove hops 0 for_b (datagram_to (address B)) (Address.Ipv4 (address B)) packet x first_waits,
    (waited_for PortMove hops 0 for_b (datagram_to (address B)) (Address.Ipv4 (address B)) packet y then_waits, tt),
  )

  -- the second of them asks for B
  pub asks_b : AsksThen PortMove y (Address.Ipv4 (address B))
  unfolding v4_number
  asks_b = step_asks_in_turn PortMove hops y (record { hop = Address.Ipv4 (address B); last_request = Some (second 1); since = pos 0 }) then_waits.freely refl

-- ITS ROUNDS

pub passes_over : (rounds : List Round) × (length rounds ≡ 1) × AreRounds rounds
    × AllByRecursion (PassesOver (Address.Ipv4 (address B)) (Some (second 1)) hops) rounds
unfolding v4_number
passes_over = (round ∷ [], refl, (tt, tt), (passed_by, tt)) where
  round : Round
  round = record {
    host = first_host;
    slots = in_vain.slots;
    asked = record { hop = Address.Ipv4 nobodys; last_request = None; since = pos 0 };
    turn = refl;
  }

  passed_by : PassesOver (Address.Ipv4 (address B)) (Some (second 1)) hops round
  passed_by = record {
    n = 0;
    slot = waits_for (address B) 1 for_b;
    awaited = record { hop = Address.Ipv4 (address B); last_request = Some (second 1); since = pos 0 };
    stands = refl;
    waits = refl;
    whom = refl;
    since = refl;
    due = no_later (Some (second 1)) (second 1) (second 1) refl refl;
    other = λ same. absurd (let clash : true ≡ false = ap (is_same_address (Address.Ipv4 nobodys)) same in cc);
    another = inr (inl refl);
  }
