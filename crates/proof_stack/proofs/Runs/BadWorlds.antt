-- Why no events lead to these worlds.
use Rattle.std.proofs.Common.{◌≡◌, ◌≢◌, ℕ, ◌+◌, ◌<◌, ◌≤◌, ℤ, pos, Bool, true, false, if◌then◌else◌, List, [], ◌∷◌, ◌++◌, length, map, take, drop, Some}
use Rattle.std.proofs.Common.{None, inl}
use Rattle.std.proofs.Common.{refl, sym}
use Rattle.std.proofs.Common.{◌∙◌, ap, subst, arith}
use Rattle.std.specs.Prelude.{slice_get, ◌≤ℤ◌, ◌<ℤ◌}
use Rattle.std.proofs.lemmas.Int.{ints}
use Rattle.lan.specs.Worlds.FragKey.{FragKey}
use Rattle.lan.specs.Worlds.IpProtocol.TheVariants as Protocol
use Rattle.net_base.specs.Medium.{Medium}
use Rattle.lan.specs.Worlds.Address.{IsEthernetAddress, IsIpv6Address}
use Rattle.lan.specs.Worlds.EthernetAddress.{EthernetAddress}
use Rattle.lan.specs.Worlds.HardwareAddress.{HardwareAddress}
use Rattle.lan.specs.Worlds.HardwareAddress.TheVariants as Hardware
use Rattle.lan.specs.Worlds.Ipv4Address.{Ipv4Address}
use Rattle.lan.specs.Worlds.Ipv6Address.{Ipv6Address}
use Rattle.lan.specs.Worlds.NeighborQuery.{NeighborQuery}
use Rattle.lan.specs.Worlds.NeighborQuery.TheVariants as Query
use Rattle.lan.specs.Worlds.AtLink.Departure as Leaves
use Rattle.lan.specs.Worlds.AtLink.Departure.{Tells, Whole, arp_frame, arp_request, packet_frame, solicitation_frame, solicitation, solicited_hardware_addr}
use Rattle.lan.specs.Worlds.AtLink.Arrives.{Arrived, ReplyValue, whole_after, whole_arrived}
use Rattle.lan.specs.Worlds.AtLink.Delivered.{Slots}
use Rattle.lan.specs.Worlds.FragmentStored.{with_ports}
use Rattle.iface_ingress.specs.Incoming.{IncomingValue}
use Rattle.iface_ingress.proofs.Roomed.{room_with_flag_off}
use Rattle.lan.specs.Worlds.AtLink.Reassembled.{Assemblers, is_taken_in, with_room}
use Rattle.lan.specs.Worlds.AtLink.Inner.{InnerValue}
use Rattle.lan.specs.Worlds.Route.{Route}
use Rattle.lan.specs.Worlds.Touches.{second_after}
use Rattle.lan.specs.Worlds.AtLink.History.{Entry, Counts}
use Rattle.lan.specs.Worlds.AtLink.Kinds.{other, Kind, Act, Delivered, Damaged, kind_of}
use Rattle.lan.specs.Worlds.AtLink.Kinds.Act.{Opens, Asks}
use Rattle.lan.specs.Worlds.AtLink.Kinds.Kind.{OfHost, OfLink}
use Rattle.lan.specs.Worlds.AtLink.Kinds.LinkAct.{Hands}
use Rattle.lan.specs.declared.at_link.history.answer.Answer.TheVariants as To
use Rattle.lan.specs.declared.at_link.history.answer.Refused.TheVariants as For
use Rattle.lan.specs.declared.at_link.history.event.Side.{Side}
use Rattle.lan.specs.declared.at_link.history.event.Side.TheVariants.{A}
use Rattle.lan.specs.Worlds.AtLink.Origins.{medium_of, frame_of_origin, is_cut_of, own_frames}
use Rattle.lan.specs.Worlds.AtLink.Refusals.{is_no_frame, refusal}
use Rattle.lan.specs.Worlds.AtLink.Runs.{Starts, WorldValue, WorldRun, unused, unused_both, tables_in}
use Rattle.lan.specs.Worlds.AtLink.Node.{NodeValue, Nodes, node}
use Rattle.lan.specs.Worlds.AtLink.Steps.{Acts, Happens}
use Rattle.lan.specs.Worlds.Hosts.RequestSilence.{requests, AreApart}
use Rattle.lan.specs.Worlds.Hosts.Damage.{DamageIsHarmless, IsHarmless, IsHarmlessBy}
use Rattle.lan.specs.Worlds.Hosts.HostRuns.{Deed, deed_of, deed_in, IsHostRun, frames_sent, frames_taken}
use Rattle.lan.specs.Worlds.Hosts.Machine.{Turn, Machine, HostRun, HostStep, at_link, machine_of}
use Rattle.lan.specs.Worlds.Hosts.Quiet.{PollsWereQuiet, NoneExpires}
use Rattle.lan.specs.Worlds.Hosts.Wire.{FramesAreApart, HasPorts, asks, is_request}
use Rattle.lan.specs.Worlds.Moves.Raws.{OfEach}
use Rattle.lan.specs.Worlds.ReassembledDatagram.{Rebuilds, ReassembledWasMade, protocol_in, room_before}
use Rattle.lan.specs.Worlds.FragmentFacts.{Fact, ByteAt, EndsAt, IsSaid, ReassembledWasSent}
use Rattle.lan.proofs.Worlds.Hosts.WireQuestions.{request_passes, solicitation_passes}
use Rattle.lan.proofs.Worlds.LinkActs.{passed, below}
use Rattle.lan.proofs.Worlds.Moves.Makers.{made_long, made_segment_long}
use Rattle.sim_link.specs.Port.{LinkEnd, PortValue}
use Rattle.proof_stack.specs.Worlds.BadWorlds.{after, Delivers, Damages, IsAsked, GetsRoom, sent_by_a, asked, polled, asking, leaving, AreOfOther, IsRebuilt, IsTaken}

-- RUNS

pub run_unbidden : (starts : Starts) (hosts : Nodes) (frame : List ℕ) (more : List (List ℕ)) → hosts.a.link.sent ≡ frame ∷ more →
    WorldRun [] (unused_both starts) hosts → ⊥
run_unbidden starts hosts frame more is ran = let e : frame ∷ more ≡ [] = sym is ∙ ap (λ (x : Nodes). x.a.link.sent) ran in cc

pub run_not_sent_yet : (starts : Starts) (hosts : Nodes) (past : List Entry) (e : Entry) (k : ℕ) (padding : List ℕ) → Delivers k padding e →
    e.before.sent_a ≤ k → WorldRun (e ∷ past) (unused_both starts) hosts → ⊥
run_not_sent_yet starts hosts past e k padding is few ran =
    let before : Nodes = ran.0 in
    let allowed : refusal before (tables_in past before) (OfLink (Hands (Delivered A k padding))) ≡ None =
    subst (λ (x : Kind). refusal before (tables_in past before) x ≡ None) is ran.2.allowed in
    let there : k < length before.a.link.sent = below k (length before.a.link.sent) (passed (is_no_frame before.a k) For.NoFrame None allowed).0 in
    let counted : e.before.sent_a ≡ length before.a.link.sent = ap (λ (c : Counts). c.sent_a) ran.2.counted in
    absurd (omega (arith, there, counted, few))

pub run_other_answer : (starts : Starts) (hosts : Nodes) (past : List Entry) (e : Entry) (instant : ℤ) → IsAsked instant e → e.answer ≡ To.Done →
    WorldRun (e ∷ past) (unused_both starts) hosts → ⊥
run_other_answer starts hosts past e instant is done ran =
    let happens : Happens ran.0 (OfHost A (Asks instant)) e.answer e.found hosts =
    subst (λ (x : Kind). Happens ran.0 x e.answer e.found hosts) is ran.2.happens in
    let clash = sym done ∙ happens.acts.0 in
    cc

-- HOSTS

no_turns : (turns : List Turn) → map deed_of turns ≡ [] → turns ≡ []
no_turns [] none = refl
no_turns (t ∷ turns) none = absurd cc

module _ (starts : Starts) (hosts : Nodes) (h : IsHostRun (after starts [] hosts) A) where
  none : h.turns ≡ []
  none = no_turns h.turns h.deeds_are

  pub host_unbidden : (frame : List ℕ) (more : List (List ℕ)) → hosts.a.link.sent ≡ frame ∷ more → ⊥
  host_unbidden frame more is = let e : frame ∷ more ≡ [] = sym is ∙ h.sent ∙ ap frames_sent none in cc

  pub host_not_handed : (frame : List ℕ) (more : List (List ℕ)) → hosts.a.link.waiting ≡ frame ∷ more → ⊥
  host_not_handed frame more is =
      let e : frame ∷ more ≡ [] = sym is ∙ sym (ap (λ (ts : List Turn). frames_taken ts ++ hosts.a.link.waiting) none) ∙ h.taken in
      cc

  pub host_other : hosts.a.host.timeout ≢ starts.a.host.timeout → ⊥
  host_other differs =
      let same : machine_of hosts.a ≡ machine_of (unused starts.a) =
      subst (λ (ts : List Turn). HostRun (machine_of (unused starts.a)) (unused starts.a).link.room ts (machine_of hosts.a)) none h.run in
      differs (ap (λ (m : Machine). m.host.timeout) same)

nothing_more : (xs ys : List (List ℕ)) → xs ++ ys ≡ xs → ys ≡ []
nothing_more [] ys same = same
nothing_more (x ∷ xs) ys same = nothing_more xs ys (let e : xs ++ ys ≡ xs = cc in e)

-- a turn that gives room sends nothing
room_sends : (m m' : Machine) (t : Turn) (room : ℕ) → t.act ≡ Opens room → HostStep m t m' → t.sent ≡ []
room_sends m m' t room is step =
    let acts : Acts (at_link m step.link) (Opens room) t.answer t.found (at_link m' step.link_after) =
    subst (λ (act : Act). Acts (at_link m step.link) act t.answer t.found (at_link m' step.link_after)) is step.acts in
    nothing_more step.link.sent t.sent (sym step.joins ∙ ap (λ (s : NodeValue). s.link.sent) acts.2)

room_alone : (m m' : Machine) (first : ℕ) (turns : List Turn) (d : Deed) (room : ℕ) → d.act ≡ Opens room → map deed_of turns ≡ d ∷ [] →
    HostRun m first turns m' → frames_sent turns ≡ []
room_alone m m' first [] d room is same run = refl
room_alone m m' first (t ∷ []) d room is same run =
    let e : deed_of t ≡ d = cc in
    room_sends run.0 m' t room (ap (λ (x : Deed). x.act) e ∙ is) run.3
room_alone m m' first (t ∷ u ∷ turns) d room is same run = absurd (let e : deed_of u ∷ map deed_of turns ≡ [] = cc in cc)

pub host_without_poll : (starts : Starts) (hosts : Nodes) (e : Entry) (room : ℕ) (frame : List ℕ) (more : List (List ℕ)) → GetsRoom room e →
    e.before.sent_a ≡ 0 → hosts.a.link.sent ≡ frame ∷ more → IsHostRun (after starts (e ∷ []) hosts) A → ⊥
host_without_poll starts hosts e room frame more is zero sent h =
    let frames : List (List ℕ) = hosts.a.link.sent in
    let d : Deed = record { act = Opens room; answer = e.answer; found = e.found } in
    let one : map deed_of h.turns ≡ d ∷ [] = h.deeds_are ∙ ap (λ (x : Kind). deed_in A x e ++ []) is in
    let own : own_frames A (e ∷ []) frames ≡ frames =
    ap (λ (n : ℕ). take n frames ++ (if is_cut_of A (kind_of e.event) then [] else drop n frames)) zero
    ∙ ap (λ (x : Kind). take 0 frames ++ (if is_cut_of A x then [] else drop 0 frames)) is in
    let none : frames_sent h.turns ≡ [] =
    room_alone (machine_of (unused starts.a)) (machine_of hosts.a) (unused starts.a).link.room h.turns d room refl one h.run in
    let clash : frame ∷ more ≡ [] = sym sent ∙ sym own ∙ h.sent ∙ none in
    cc

-- POLLS

no_routes : (routes : List Route) (from until : ℤ) → routes ≡ [] → NoneExpires from until routes
no_routes routes from until none = subst (NoneExpires from until) (sym none) tt

sooner : pos 5 <ℤ pos 10
sooner = omega (arith, ints)

pub quiet_before : (starts : Starts) → starts.a.host.inner.routes ≡ [] → PollsWereQuiet starts (polled ∷ asked (Some (pos 10)) ∷ []) (sent_by_a 1) → ⊥
quiet_before starts none quiet =
    let same : ◌≡◌ {A = ℕ} 1 0 =
    quiet.0 (pos 0) (Some (pos 10)) (inl (record { event = refl; answered = refl; waiting = refl })) sooner
    (no_routes starts.a.host.inner.routes (pos 0) (pos 5) none) in
    absurd (omega (arith, same))

pub quiet_never : (starts : Starts) → starts.a.host.inner.routes ≡ [] → PollsWereQuiet starts (polled ∷ asked None ∷ []) (sent_by_a 1) → ⊥
quiet_never starts none quiet =
    let same : ◌≡◌ {A = ℕ} 1 0 =
    quiet.0 (pos 0) None (inl (record { event = refl; answered = refl; waiting = refl })) tt (no_routes starts.a.host.inner.routes (pos 0) (pos 5) none) in
    absurd (omega (arith, same))

-- QUESTIONS

not_at_once : second_after (pos 0) ≤ℤ pos 0 → ⊥
not_at_once late = omega (arith, ints)

not_before : second_after (pos 0) ≤ℤ pos 999_999 → ⊥
not_before late = omega (arith, ints)

pub asks_in_turn : (q r : NeighborQuery) → AreApart (requests (asking (pos 0) (q ∷ r ∷ []) ∷ [])) → ⊥
asks_in_turn q r apart = not_at_once apart.0.0

pub asks_in_turns : (q r : NeighborQuery) → AreApart (requests (asking (pos 0) (q ∷ []) ∷ asking (pos 0) (r ∷ []) ∷ [])) → ⊥
asks_in_turns q r apart = not_at_once apart.0.0

pub asks_too_early : (q r : NeighborQuery) → AreApart (requests (asking (pos 999_999) (q ∷ []) ∷ asking (pos 0) (r ∷ []) ∷ [])) → ⊥
asks_too_early q r apart = not_before apart.0.0

-- FRAMES

abbrev if_asked : Bool → ℤ → List ℤ
if_asked b t = if b then t ∷ [] else []

not_half_a_second : second_after (pos 0) ≤ℤ pos 500_000 → ⊥
not_half_a_second late = omega (arith, ints)

-- two frames that pass, half a second apart
half_a_second : (a b : Bool) → a ≡ true → b ≡ true → AreApart (if_asked a (pos 500_000) ++ (if_asked b (pos 0) ++ [])) → ⊥
half_a_second true true one two apart = not_half_a_second apart.0.0
half_a_second true false one two apart = absurd cc
half_a_second false b one two apart = absurd cc

pub frames_told : (i : InnerValue) (slots : Slots) (own : EthernetAddress) (source target : Ipv4Address) → IsEthernetAddress own →
    FramesAreApart Medium.Ethernet slots
    (leaving (pos 500_000) i (Tells (arp_request own source target)) ∷ leaving (pos 0) i (Leaves.Asks (Query.Arp own source target)) ∷ [])
    → ⊥
frames_told i slots own source target is apart =
    let passes = request_passes own source target is.0 in
    half_a_second (is_request (arp_frame (arp_request own source target))) (is_request (arp_frame (arp_request own source target))) passes passes
    apart.requests

pub frames_whole : (i : InnerValue) (slots : Slots) (own : EthernetAddress) (source target : Ipv6Address) → i.hardware ≡ Hardware.Ethernet own →
    IsEthernetAddress own → IsIpv6Address source → IsIpv6Address target → OfEach HasPorts slots
    → FramesAreApart Medium.Ethernet slots
    (leaving (pos 500_000) i (Whole (Hardware.Ethernet (solicited_hardware_addr target)) (solicitation own source target))
    ∷ leaving (pos 0) i (Leaves.Asks (Query.Neighbor own source target)) ∷ [])
    → ⊥
frames_whole i slots own source target from is source_is target_is ports apart =
    let passes = solicitation_passes i.checksums own source target is.0 source_is.0 target_is.0 in
    let to : HardwareAddress = Hardware.Ethernet (solicited_hardware_addr target) in
    half_a_second (asks (packet_frame i.checksums i.hardware to (solicitation own source target)))
    (asks (solicitation_frame i.checksums (Query.Neighbor own source target)))
    (ap (λ (h : HardwareAddress). asks (packet_frame i.checksums h to (solicitation own source target))) from ∙ passes) passes (apart.all ports)

pub frames_labelled : (i : InnerValue) (own : EthernetAddress) (source target : Ipv4Address) → AreApart (requests
    (leaving (pos 500_000) i (Tells (arp_request own source target)) ∷ leaving (pos 0) i (Leaves.Asks (Query.Arp own source target)) ∷ []))
frames_labelled i own source target = (tt, tt)

-- PAYLOADS

module _ (w : WorldValue) (turns : Side → List Turn) (side : Side) (key : FragKey) (bytes : List ℕ) (r : Rebuilds (node w.hosts side) key bytes)
    (sent : ReassembledWasSent w turns) where
  abbrev Said : Fact → Type 0
  Said fact = IsSaid (medium_of (node w.hosts (other side))) (frames_sent (turns (other side))) key fact

  -- the end was said
  end_said : Said (EndsAt (length bytes))
  end_said = (sent side key bytes r (EndsAt (length bytes))).1 refl

  pub payload_never : frames_sent (turns (other side)) ≡ [] → ⊥
  payload_never none =
      let there = ap (λ (frames : List (List ℕ)). slice_get frames end_said.slot) (sym none) ∙ end_said.frame_is in
      cc

  pub payload_other_identification : AreOfOther (medium_of (node w.hosts (other side))) (frames_sent (turns (other side))) key → ⊥
  payload_other_identification others =
      others end_said.slot end_said.frame key (EndsAt (length bytes)) end_said.frame_is end_said.carries refl

  pub payload_other_byte : (slot byte : ℕ) → Said (ByteAt slot byte) → slice_get bytes slot ≢ Some byte → ⊥
  payload_other_byte slot byte said differs = differs ((sent side key bytes r (ByteAt slot byte)).0 said)

  pub payload_other_end : (slot : ℕ) → Said (EndsAt slot) → slot ≢ length bytes → ⊥
  payload_other_end slot said differs = differs ((sent side key bytes r (EndsAt slot)).0 said)

-- IN A POLL

-- where room is made for none, what is whole with a content that is taken in, or isn't
taken_whole : (i : InnerValue) (timeout : ℕ) (assemblers : Assemblers) (v d : IncomingValue) → i.host_requirements ≡ false →
    whole_arrived i timeout assemblers (Some v) ≡ Some d → whole_after i timeout assemblers (Some v) ≡ Some d
taken_whole i timeout assemblers v d alone whole = by (is_taken_in i v) refl where
  Arrived_ : Bool → Type 0
  Arrived_ b = whole_after i timeout (with_room i assemblers (if b then Some v else None)) (if b then Some v else None) ≡ Some d

  by : (b : Bool) → is_taken_in i v ≡ b → whole_after i timeout assemblers (Some v) ≡ Some d
  by true is =
      subst (λ (ss : Assemblers). whole_after i timeout ss (Some v) ≡ Some d) (room_with_flag_off i assemblers (Some v) alone) (subst Arrived_ is whole)
  by false is = absurd (let none : None ≡ Some d = subst Arrived_ is whole in cc)

-- what a host rebuilds in a poll is what `reassembled` and `made` speak of
pub rebuilt_in_a_poll : (s : NodeValue) (key : FragKey) (bytes : List ℕ) → IsRebuilt s key bytes → Rebuilds s key bytes
rebuilt_in_a_poll s key bytes r = record {
  now = r.now;
  polled = r.reached;
  slot = 0;
  frame = r.frame;
  waits = ap (λ (e : LinkEnd). slice_get e.waiting 0) (sym r.reached.after) ∙ ap (λ (p : PortValue). slice_get p.link.waiting 0) r.took.1;
  content = r.content;
  read = r.read;
  fragment = r.fragment;
  cut = r.cut;
  key_is = r.key_is;
  datagram = r.datagram;
  whole = taken_whole r.now.host.inner r.now.host.timeout r.now.host.assemblers r.content r.datagram r.alone r.whole;
  ports = r.ports;
  bytes_are = r.bytes_are;
}

pub payload_other_byte_in_a_poll : (w : WorldValue) (turns : Side → List Turn) (side : Side) (key : FragKey) (bytes : List ℕ) (slot byte : ℕ)
    → IsRebuilt (node w.hosts side) key bytes
    → IsSaid (medium_of (node w.hosts (other side))) (frames_sent (turns (other side))) key (ByteAt slot byte)
    → slice_get bytes slot ≢ Some byte → ReassembledWasSent w turns → ⊥
payload_other_byte_in_a_poll w turns side key bytes slot byte r said differs sent =
    payload_other_byte w turns side key bytes (rebuilt_in_a_poll (node w.hosts side) key bytes r) sent slot byte said differs

-- MAKERS

pub maker_too_short : (w : WorldValue) (side : Side) (key : FragKey) (bytes : List ℕ) → Rebuilds (node w.hosts side) key bytes →
    length bytes < room_before key + 8 → ReassembledWasMade w → ⊥
maker_too_short w side key bytes r short made =
    let enough = made_long _ key bytes (made.reassembled side key bytes r) in
    absurd (omega (arith, short, enough))

pub maker_no_segment : (w : WorldValue) (side : Side) (key : FragKey) (bytes : List ℕ) → Rebuilds (node w.hosts side) key bytes →
    protocol_in key bytes ≡ Protocol.Tcp → length bytes < room_before key + 20 → ReassembledWasMade w → ⊥
maker_no_segment w side key bytes r tcp short made =
    let enough = made_segment_long _ key bytes (made.reassembled side key bytes r) tcp in
    absurd (omega (arith, short, enough))

-- DAMAGE

module _ (hosts : Nodes) (past : List Entry) (e : Entry) (k slot word : ℕ) (padding : List ℕ) (i : InnerValue) (timeout : ℕ) (assemblers after_assemblers : Assemblers)
    (slots : Slots) (a : Arrived)
    (is : Damages k slot word padding e) (t : IsTaken hosts k slot word padding i timeout assemblers after_assemblers slots a)
    (harmless : DamageIsHarmless hosts (e ∷ past)) where
  harm : (with_ports a.slots ≡ with_ports slots) × (a.reply ≡ None)
  harm =
      let frame : IsHarmless (medium_of hosts.a) (frame_of_origin hosts (Damaged A k slot word padding)) = subst (IsHarmlessBy hosts) is harmless.0 in
      frame i timeout assemblers after_assemblers slots a t.medium t.checksums t.arrives

  pub damage_answered : (reply : ReplyValue) → a.reply ≡ Some reply → ⊥
  damage_answered reply answered = let clash = sym answered ∙ harm.1 in cc

  pub damage_heard : with_ports a.slots ≢ with_ports slots → ⊥
  damage_heard differs = differs harm.0
