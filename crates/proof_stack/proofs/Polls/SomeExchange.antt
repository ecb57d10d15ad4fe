-- On numerals on one Ethernet: the exchange with the neighbour that answers.
use Rattle.std.proofs.Common.{◌≡◌, ◌≢◌, ℕ, inl, inr, true, false, List, [], ◌∷◌, ◌++◌, length, Some, None, refl, subst}
use Rattle.std.proofs.lemmas.Bool.{leb-true, ltb-true}
use Rattle.std.specs.List.{AllByRecursion}
use Rattle.wire_address.specs.Address.{v4_number}
use Rattle.wire_ip.specs.Ip.{source_of}
use Rattle.ip_wire.specs.Arp as Arps
use Rattle.ip_wire.specs.HardwareAddress.TheVariants as Hardware
use Rattle.ip_wire.specs.IpAddress.TheVariants as Address
use Rattle.sim_link.specs.Port.{PortMove}
use Rattle.lan.specs.declared.at_link.history.event.Side.TheVariants.{A, B}
use Rattle.socket_datagram.specs.SocketValue.{settled}
use Rattle.iface_ingress.specs.Arrives as Replies
use Rattle.iface_ingress.specs.Arrives.{arrived}
use Rattle.iface_ingress.specs.Datagrams.{IsDelivered}
use Rattle.iface_ingress.specs.Incoming.{IsContent}
use Rattle.iface_ingress.specs.Packet.{PacketValue, Datagram}
use Rattle.iface_ingress.specs.Sent.{AreSealed}
use Rattle.iface_ingress.specs.Socket.TheVariants as Kind
use Rattle.iface_ingress.specs.Offer.TheVariants as Offer
use Rattle.iface_tables.specs.Inner.{at_instant, context_of}
use Rattle.iface_tables.specs.PathMtu.{mtu_towards}
use Rattle.iface_egress.specs.Departure.{Asks, Tells, Whole}
use Rattle.iface_egress.specs.IsTransmitted.{numbered}
use Rattle.iface_egress.specs.Set.{unmarked}
use Rattle.iface_egress.specs.declared.frame.NeighborQuery.TheVariants as Query
use Rattle.iface_egress.specs.declared.socket_meta.Meta.{Meta}
use Rattle.iface_egress.specs.declared.egress_path.Sent.TheVariants as Outcome
use Rattle.interface.specs.Delivered.{read_of}
use Rattle.interface.specs.Egress.{EgressStep, sending}
use Rattle.interface.specs.Ingress.{IngressStep}
use Rattle.interface.specs.Pass.{passed}
use Rattle.interface.specs.Polls.{Polls}
use Rattle.interface.specs.TransmittedFrame.{CanRead, HasWidths}
use Rattle.interface.specs.Serve.{ServesSlot}
use Rattle.interface.specs.declared.serve.Served.TheVariants as Turn
use Rattle.interface.proofs.Arrives.{arrives}
use Rattle.proof_stack.specs.Progress.NeighborResolution.{arp_reply}
use Rattle.proof_stack.specs.Progress.Delivered.{WaitsFollowing, as_received, reader_of}
use Rattle.proof_stack.specs.Progress.Exchanged.{AreNeighbors, IsServed}
use Rattle.proof_stack.specs.Progress.Inbox.{WaitsAmongThem}
use Rattle.proof_stack.specs.Progress.Leave.{BringsWhatWent, LiesAmong}
use Rattle.proof_stack.specs.Progress.OnEthernet.{FourSteps, TwoSteps, answer, answered, asked, asked_again, datagram_to, exchange_of, expecting, for_b, for_nobody}
use Rattle.proof_stack.specs.Progress.OnEthernet.{frame, hops, knowing_b, nobodys, packet, passed_over, question, reached, relieved, second, node, taken}
use Rattle.proof_stack.specs.Progress.OnEthernet.{tenth, told, waits_for}
use Rattle.proof_stack.specs.Progress.Queued.{CanGo, FindsDatagram, HasTurn, ports_of}
use Rattle.proof_stack.specs.Progress.Ready.{HasRoomFollowing, IsExpectedThroughout}
use Rattle.proof_stack.specs.Progress.Served.{CanDeliver}
use Rattle.proof_stack.specs.Worlds.Datagrams.{bound_b, waiting_b}
use Rattle.proof_stack.specs.Worlds.Hosts.{address, text}
use Rattle.proof_stack.proofs.Polls.BetweenPorts.{arrives_between}
use Rattle.proof_stack.proofs.Polls.Inboxes.{refuse_nothing}
use Rattle.proof_stack.proofs.Polls.NextAtPorts.{brought_next, next_at}
use Rattle.proof_stack.proofs.Polls.Readers.{finds, is_read}
use Rattle.proof_stack.proofs.Polls.Served.{delivered}
use Rattle.proof_stack.proofs.Polls.SomeHosts.{is_address}
use Rattle.proof_stack.proofs.Polls.SomeNeighbors.{asks_b, following, formed, is_unicast_hardware, mark, offered_b, offers_b, then_waits, two_steps}

-- what is after three frames
following_three : (a b c : List ℕ) (xs ys : List (List ℕ)) → a ∷ b ∷ c ∷ xs ≡ a ∷ b ∷ c ∷ ys → xs ≡ ys
following_three a b c xs ys is = cc

-- each tests the checksums that the other writes
sealed : AreSealed passed_over.host.inner.checksums asked.host.inner.checksums
sealed = record { ipv4 = λ is. is; icmpv4 = λ is. is; icmpv6 = λ is. is; udp = λ is. is; tcp = λ is. is }

-- B READS THE QUESTION, AND ANSWERS

question_read : IsContent asked.host.inner.hardware asked.host.inner.checksums (question (address B))
    (Some (read_of passed_over.host.inner (Asks (Query.Arp (node A) (address A) (address B)))))
question_read =
    arrives passed_over.host.inner asked.host.inner.hardware asked.host.inner.checksums (Asks (Query.Arp (node A) (address A) (address B))) [] sealed
    (tt, (is_unicast_hardware A, is_address A, is_address B))

answers : IngressStep PortMove (tenth 1) asked (Some true) answered
unfolding v4_number
answers = (
  question (address B),
  taken asked,
  (refl, refl),
  refl,
  (
    Some (read_of passed_over.host.inner (Asks (Query.Arp (node A) (address A) (address B)))),
    question_read,
    (
      arrived answered.host.inner asked.slots (Some (Replies.Tells (arp_reply (node B) (address B) (node A) (address A)))),
      (refl, record { inner = refl; slots_are = refl; reply = refl }),
      refl,
      (true, (refl, refl), refl, refl),
      refl,
    ),
    refl,
  ),
)

-- A READS THE ANSWER, AND SENDS

reply_is : Arps.IsValue (arp_reply (node B) (address B) (node A) (address A))
reply_is = (ltb-true _ _ refl, is_unicast_hardware B, is_address B, is_unicast_hardware A, is_address A)

answer_read : IsContent told.host.inner.hardware told.host.inner.checksums answer
    (Some (read_of asked.host.inner (Tells (arp_reply (node B) (address B) (node A) (address A)))))
answer_read =
    arrives asked.host.inner told.host.inner.hardware told.host.inner.checksums (Tells (arp_reply (node B) (address B) (node A) (address A))) [] sealed
    (tt, reply_is)

hears : IngressStep PortMove (tenth 2) told (Some true) knowing_b
unfolding v4_number
hears = (
  answer,
  taken told,
  (refl, refl),
  refl,
  (
    Some (read_of asked.host.inner (Tells (arp_reply (node B) (address B) (node A) (address A)))),
    answer_read,
    (
      arrived knowing_b.host.inner told.slots None,
      (refl, record { inner = refl; slots_are = refl; reply = refl }),
      refl,
      refl,
      refl,
    ),
    refl,
  ),
)

goes_to_b : ServesSlot PortMove (Some (Address.Ipv4 nobodys)) (sending (tenth 2) knowing_b) (waits_for (address B) 3 for_b) (Turn.Next true) (following relieved)
    (unmarked (Kind.Udp (settled true offered_b)))
unfolding v4_number mtu_towards
goes_to_b = (
  Offer.Packet false,
  Kind.Udp offered_b,
  offers_b (sending (tenth 2) knowing_b).inner refl,
  (packet, refl, formed, (Outcome.Gone, inr (knowing_b.device, (refl, refl), (((refl, refl), refl), refl), refl), refl, refl, formed)),
)

sends : EgressStep PortMove (tenth 2) knowing_b (Some true) relieved
unfolding v4_number
sends = (
  passed (following relieved) relieved.slots true,
  inr (
    sending (tenth 2) knowing_b,
    (refl, refl),
    inl (
      true,
      following relieved,
      unmarked (Kind.Udp (settled true offered_b)),
      goes_to_b,
      inl (false, following relieved, waits_for nobodys 3 for_nobody, (refl, refl, refl), refl),
    ),
  ),
  refl,
  refl,
)

-- B READS THE PACKET

pub widths : HasWidths knowing_b.host.inner
widths = record { mtu = leb-true _ _ refl; ident = ltb-true _ _ refl }

pub goes : CanGo knowing_b.host.inner for_b.settings (datagram_to (address B)) (Hardware.Ethernet (node B)) packet
unfolding v4_number mtu_towards
goes = record { takes = (refl, refl); may = refl; known = refl; short = leb-true _ _ refl }

pub can_read : CanRead knowing_b.host.inner (Hardware.Ethernet (node B)) (reader_of expecting.host.inner)
can_read = record { medium = record { from = is_unicast_hardware A; receiver = is_unicast_hardware B }; sealed = sealed }

abbrev numbered_packet : PacketValue
numbered_packet = numbered knowing_b.host.inner packet

pub some_port : (datagram_to (address B)).0.endpoint.port ≢ 0
some_port is = absurd (cc)

is_content : IsContent expecting.host.inner.hardware expecting.host.inner.checksums frame
    (Some (read_of knowing_b.host.inner (Whole (Hardware.Ethernet (node B)) numbered_packet)))
is_content =
    is_read knowing_b.host.inner knowing_b.host.inner.ident for_b.settings (datagram_to (address B)) (Hardware.Ethernet (node B)) packet
    (reader_of expecting.host.inner) widths goes formed can_read []

is_datagram : FindsDatagram knowing_b.host.inner for_b.settings (datagram_to (address B)) numbered_packet (reader_of expecting.host.inner)
is_datagram =
    finds knowing_b.host.inner knowing_b.host.inner.ident for_b.settings (datagram_to (address B)) (Hardware.Ethernet (node B)) packet
    (reader_of expecting.host.inner) widths goes formed can_read some_port

given : IsDelivered (context_of reached.host.inner) numbered_packet.header (ports_of for_b.settings (datagram_to (address B))) text expecting.slots reached.slots
unfolding v4_number
given = (unmarked (Kind.Udp waiting_b), (Kind.Udp waiting_b, refl, refl), refl)

reads : IngressStep PortMove (tenth 3) expecting (Some true) reached
unfolding v4_number
reads = (
  frame,
  taken expecting,
  (refl, refl),
  refl,
  (
    Some (read_of knowing_b.host.inner (Whole (Hardware.Ethernet (node B)) numbered_packet)),
    is_content,
    (
      arrived reached.host.inner reached.slots None,
      (
        refl,
        (
          Some (Datagram (ports_of for_b.settings (datagram_to (address B))) text),
          is_datagram,
          record { inner = refl; slots_are = given; reply = refl },
        ),
      ),
      refl,
      refl,
      refl,
    ),
    refl,
  ),
)

pub four_steps : FourSteps
four_steps = record { answers = answers; hears = hears; sends = sends; reads = reads }

-- THE LINK

pub brings : BringsWhatWent knowing_b.device relieved.device expecting.device 1
brings gone is = subst (AllByRecursion (LiesAmong (frame ∷ []) 1)) (same_rest gone is) (lies, tt) where
  lies : LiesAmong (frame ∷ []) 1 frame
  lies = record { padding = []; before = []; following = []; frames = refl; few = ltb-true _ _ refl; short = refl }

  -- three questions went before
  same_rest : (gone : List (List ℕ)) → relieved.device.link.sent ≡ knowing_b.device.link.sent ++ gone → frame ∷ [] ≡ gone
  same_rest gone is = following_three (question (address B)) (question nobodys) (question (address B)) (frame ∷ []) gone is

abbrev nobody : Meta
nobody = record { waiting = None }

module _ (t : TwoSteps) (f : FourSteps) where
  neighbors : AreNeighbors passed_over.host.inner asked.host.inner (node A) (node B) (address A) (address B)
  unfolding v4_number
  neighbors = record {
    here = refl;
    there = refl;
    source = refl;
    ours = refl;
    theirs = refl;
    seen = record { one = refl; sound = refl; near = refl };
    sees = record { one = refl; sound = refl; near = refl };
    own_is = is_unicast_hardware A;
    node_is = is_unicast_hardware B;
    a_is = is_address A;
    asked_is = is_address B;
    sealed_there = sealed;
    sealed_here = sealed;
  }

  served : IsServed (exchange_of t f) (node A) (node B) (address A) (address B) packet
  served = record {
    asks_freely = refuse_nothing passed_over.device asked_again.device refl refl;
    answers_freely = refuse_nothing asked.device answered.device refl refl;
    sends_freely = refuse_nothing knowing_b.device relieved.device refl refl;
    question_comes = λ all are went. ([], next_at (tenth 1) asked.device (question (address B)) [] refl);
    answer_arrives = λ all are went. ([], next_at (tenth 2) told.device answer [] refl);
    packet_comes = brought_next knowing_b.host.inner (Hardware.Ethernet (node B)) packet knowing_b.device relieved.device (tenth 3) expecting.device brings;
  }

  pub can_deliver : CanDeliver (exchange_of t f) (node A) (node B) (address A) (address B) packet for_b.settings (datagram_to (address B)) 0 nobody bound_b
  unfolding v4_number mtu_towards
  can_deliver = record {
    wide = record { mtu = leb-true _ _ refl; ident = ltb-true _ _ refl };
    both = neighbors;
    via = refl;
    short = leb-true _ _ refl;
    expected = record { heard = refl; framed = refl; sender = refl; here = refl; ours = refl; slot = refl; stands = refl };
    room = refl;
    served = served;
  }

-- WHAT THE LAW SAYS OF IT

pub arrives_there : WaitsFollowing reached.slots 0 nobody bound_b (as_received (source_of packet.header) for_b.settings (datagram_to (address B)))
arrives_there =
    delivered PortMove PortMove hops 0 for_b (datagram_to (address B)) (node A) (node B) (address A) (address B) packet some_port
    (exchange_of two_steps four_steps) 0 nobody bound_b (then_waits two_steps) (asks_b two_steps) (can_deliver two_steps four_steps)

-- BOTH AS POLLS, of hosts that know each other

pub turn : HasTurn knowing_b.host.inner knowing_b.slots 0 for_b
unfolding v4_number
turn = record { meta = mark (address B) (second 3); stands = refl; ready = refl }

pub polls : Polls PortMove (tenth 2) 1 knowing_b true relieved
polls = (knowing_b, false, inl (((refl, λ _. refl), refl), refl), inr (true, relieved, sends, (refl, refl)))

pub expects :
    IsExpectedThroughout (at_instant (tenth 3) expecting.host.inner) expecting.slots (Hardware.Ethernet (node B)) packet.header
    (ports_of for_b.settings (datagram_to (address B))) 0 nobody bound_b
unfolding v4_number
expects = record {
  expected = record { heard = refl; framed = refl; sender = refl; here = refl; ours = refl; slot = refl; stands = refl };
  no_answer = refl;
}

pub has_room : HasRoomFollowing expecting.device.link.waiting expecting.host.assemblers bound_b.received 1 (length (datagram_to (address B)).1)
has_room = inl (refl, refl)

b_rests : EgressStep PortMove (tenth 3) reached None reached
b_rests = (
  passed (following reached) reached.slots false,
  inr (
    following reached,
    (refl, refl),
    inl (
      false,
      following reached,
      unmarked (Kind.Udp waiting_b),
      (Offer.Silent false, Kind.Udp waiting_b, (refl, refl), (refl, refl, refl)),
      refl,
    ),
  ),
  refl,
  refl,
)

pub reads_it : Polls PortMove (tenth 3) 1 expecting true reached
reads_it = (reached, true, inr (true, reached, reads, (refl, refl)), inl (b_rests, refl))

pub arrives_known : WaitsAmongThem reached.slots 0 bound_b (as_received (source_of packet.header) for_b.settings (datagram_to (address B)))
arrives_known =
    arrives_between (tenth 2) (tenth 3) 1 1 1 knowing_b relieved expecting reached true true 0 0 nobody for_b bound_b [] (datagram_to (address B)) []
    (Hardware.Ethernet (node B)) packet widths turn refl (ltb-true _ _ refl) tt some_port goes refl polls refl refl brings (leb-true _ _ refl) can_read
    expects has_room reads_it refl
