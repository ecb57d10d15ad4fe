-- Where the link gives leave after a poll, each segment that a socket offers in it goes in a frame, if the host knows throughout where.
use Rattle.std.proofs.Common.{◌≡◌, ℕ, ◌≤◌, ◌||◌, ◌&&◌, not, ℤ, Bool, true, false, if◌then◌else◌, IsTrue, List, [], ◌∷◌, ◌++◌, Option, Some, None, IfSome, inl}
use Rattle.std.proofs.Common.{arith, le-leb, refl, sym, ap, ◌∙◌, subst}
use Rattle.std.specs.List.{AllByRecursion}
use Rattle.wire_ip.specs.declared.ip.repr.IpRepr.{IpRepr}
use Rattle.ip_wire.specs.HardwareAddress.{HardwareAddress}
use Rattle.ip_wire.specs.HardwareAddress.TheVariants as Hardware
use Rattle.ip_wire.specs.AddressTests.{is_loopback, is_unspecified}
use Rattle.ip_wire.specs.Ip.{destination_of, source_of}
use Rattle.ip_wire.specs.IpAddress.{IpAddress}
use Rattle.ip_wire.specs.TcpHeader.{TcpHeader}
use Rattle.sockets.specs.Context.{ContextValue}
use Rattle.tcp_state.specs.declared.offer.OpenOffer.{OpenOffer}
use Rattle.tcp_block.specs.Offers.{offer_of, offered_packet, packet_with}
use Rattle.tcp_block.specs.Value.{TcpValue}
use Rattle.interface.specs.TransmittedFrame.{HasWidths}
use Rattle.interface.specs.Serve.{sourced, with_source}
use Rattle.iface_egress.specs.Plan.{comes_from_here, long_plan, never_leaves, plan_by, plan_of, total_len}
use Rattle.iface_egress.specs.declared.plan.Plan.TheVariants as Way
use Rattle.iface_ingress.specs.Packet.{PacketValue, Segment, packet_of}
use Rattle.iface_ingress.specs.Socket.TheVariants as Kind
use Rattle.iface_tables.specs.Inner.{InnerValue, is_foreign_loopback, is_loopback_of, link_address, may_be_source, mtu_to}
use Rattle.iface_tables.specs.PathMtu.{mtu_towards}
use Rattle.iface_tables.specs.Settings.{is_mtu}
use Rattle.iface_tables.specs.Source.{source_for}
use Rattle.iface_tables.specs.declared.link.LinkAddress.{LinkAddress}
use Rattle.iface_tables.specs.declared.link.LinkAddress.TheVariants as Link
use Rattle.iface_tables.specs.declared.path_mtu.Path.{Path}
use Rattle.std.specs.List.{list_any}
use Rattle.lan.specs.declared.at_link.history.event.Side.{Side}
use Rattle.lan.specs.declared.at_link.history.event.Side.TheVariants.{A, B}
use Rattle.lan.specs.Worlds.AtLink.Initial.{IsInitialWorld}
use Rattle.lan.specs.Worlds.AtLink.History.{Entry}
use Rattle.lan.specs.Worlds.AtLink.Kinds.{Kind, kind_of}
use Rattle.lan.specs.Worlds.AtLink.Kinds.Act.{Polls}
use Rattle.lan.specs.Worlds.AtLink.Kinds.Kind.{OfHost}
use Rattle.lan.specs.Worlds.AtLink.Moves.{Step}
use Rattle.lan.specs.Worlds.AtLink.Moves.Move.{Offers}
use Rattle.lan.specs.Worlds.AtLink.Parties.{Net}
use Rattle.lan.specs.Worlds.AtLink.Runs.{Starts, start}
use Rattle.lan.specs.Worlds.AtLink.Node.{Nodes, node}
use Rattle.lan.specs.Worlds.Events.{AreTyped}
use Rattle.lan.specs.Worlds.Moves.WasSent.{HasLeft, LeftFrom, WasSentBy}
use Rattle.lan.specs.Worlds.Still.{StillRun}
use Rattle.lan.proofs.Worlds.Moves.Held.{may_come, seen_of, whole_path}
use Rattle.lan.proofs.Worlds.Moves.Nets.{step_of}
use Rattle.lan.proofs.Worlds.Moves.Offering.{some_so}
use Rattle.lan.proofs.Worlds.Runs.{has_come}
use Rattle.lan.proofs.Worlds.StillOnward.{ran, seen_in_run}
use Rattle.sim_link.specs.Medium.TheVariants as Medium
use Rattle.sim_link.specs.Port.{has_tx_token}
use Rattle.proof_stack.specs.Progress.Events.{AreGone, HappensBy}
use Rattle.proof_stack.specs.Progress.TransmittedSegment.{GoesInFrame}
use Rattle.proof_stack.specs.Progress.KnownHopLimit.{AreSentTo, IsSentTo, KnowsThroughout}
use Rattle.proof_stack.specs.Progress.Segments.{CanTransmit, OffersSegment}
use Rattle.proof_stack.proofs.EventLeave.{on_ip, same_link}
use Rattle.proof_stack.proofs.Polls.SegmentSizes.{fits_path}
use Rattle.proof_stack.proofs.SentOff.{is_ip, mtu_least}

-- ONE OF THE MOVES

there_of : (P : Step → Type 0) (before : List Step) (step : Step) (following : List Step) → AllByRecursion P (before ++ step ∷ following) → P step
there_of P [] step following all = all.0
there_of P (x ∷ before) step following all = there_of P before step following all.1

-- A PACKET THAT MAY LEAVE

comes_from : (nowhere foreign here : Bool) → (nowhere || (foreign || not here)) ≡ false → here ≡ true
comes_from nowhere foreign true is = refl
comes_from true foreign false is = absurd cc
comes_from false true false is = absurd cc
comes_from false false false is = absurd cc

module _ (i0 i : InnerValue) (same : i.addresses ≡ i0.addresses) (comes : (source destination : IpAddress) →
    may_be_source i source destination ≡ may_be_source i0 source destination) where
  never_same : (h : IpRepr) → never_leaves i h ≡ never_leaves i0 h
  never_same h = λ k. is_unspecified (destination_of h)
      || ((is_loopback (destination_of h) && not (list_any (is_loopback_of (destination_of h)) (same k))) || not (comes (source_of h) (destination_of h) k))

-- THE HOST, as it was asked

module _ (i0 : InnerValue) (t : ℤ) (K : Type 0) (N : IpAddress → HardwareAddress → Type 0) (gone : List (List ℕ)) (cx : ContextValue) (v : TcpValue)
    (from : IpAddress) (ip : IpRepr) (header : TcpHeader) (bytes : List ℕ) (hop : HardwareAddress) (none_known : K) (knows : N (destination_of ip) hop)
    (enough : 80 ≤ i0.mtu) (leaves : never_leaves i0 ip ≡ false)
    (offered : offered_packet (offer_of cx v).socket ≡ Some (packet_of ip (Segment header bytes)))
    (l : LeftFrom i0 t K N gone cx (Kind.Tcp v) from (packet_of ip (Segment header bytes))) where
  abbrev i : InnerValue
  i = l.i

  abbrev p : PacketValue
  p = packet_of ip (Segment header bytes)

  abbrev to : IpAddress
  to = destination_of ip

  offers : OffersSegment i v ip header bytes
  offers = record {
    offers = subst (λ (c : ContextValue). offered_packet (offer_of c v).socket ≡ Some p) l.shown offered;
    source_port = l.wide.fits.1.source_accepted;
    destination_port = l.wide.fits.1.destination_accepted;
  }

  known : link_address i to ≡ Link.Known hop
  known = l.hop_limit to hop knows

  whole : mtu_to i to ≡ i.mtu
  whole = ap (λ (ps : List Path). mtu_towards ps to i.instant i.mtu) (l.paths none_known) ∙ whole_path to i.instant i.mtu

  short : total_len ip ≤ mtu_to i to
  short = fits_path i v ip header bytes offers (let mtu = l.settings.mtu in omega (arith, whole, mtu, enough))

  may : never_leaves i ip ≡ false
  may = never_same i0 i l.settings.addresses (may_come i0 i (seen_of i0 i l.settings)) ip ∙ leaves

  here : may_be_source i (source_of ip) to ≡ true
  here = comes_from (is_unspecified to) (is_foreign_loopback i to) (comes_from_here i ip) may

  -- its source stays
  keeps : sourced i p ≡ p
  keeps = ap (λ (b : Bool). packet_of (if b then ip else with_source ip (source_for i.addresses to)) (Segment header bytes)) here

  goes_whole : plan_of i l.busy ip ≡ Way.Go hop
  goes_whole =
      ap (λ (b : Bool). if b then Way.Drop else plan_by (link_address i to) i l.busy ip) may
      ∙ ap (λ (a : LinkAddress). plan_by a i l.busy ip) known
      ∙ ap (λ (b : Bool). if b then Way.Go hop else long_plan l.busy hop ip) (le-leb (total_len ip) (mtu_to i to) short)

  pub can_leave : CanTransmit i hop p
  can_leave = record { may = may; known = known; short = short }

  pub offers_it : OffersSegment i v ip header bytes
  offers_it = offers

  pub in_frame : WasSentBy gone i p (Way.Go hop)
  in_frame =
      subst (WasSentBy gone i p) goes_whole (subst (λ (q : PacketValue). WasSentBy gone i q (plan_of i l.busy q.header)) keeps l.was_sent)

-- SO IN A WORLD

first_enough : (starts : Starts) → IsInitialWorld starts → (s : Side) → is_mtu (start starts s).host.inner.mtu ≡ true
first_enough starts initial A = initial.a.mtu
first_enough starts initial B = initial.b.mtu

-- what was offered to a known hop was told so
told_to : (o : Option OpenOffer) (queue : List ℕ) (sent : Bool) (ip : IpRepr) (header : TcpHeader) (bytes : List ℕ) (N : IpAddress → HardwareAddress → Type 0)
    (hop : HardwareAddress) → packet_with o queue ≡ Some (packet_of ip (Segment header bytes)) → N (destination_of ip) hop
    → IfSome o (λ (x : OpenOffer). (to : HardwareAddress) → N (destination_of x.header) to → sent ≡ true) → sent ≡ true
told_to None queue sent ip header bytes N hop p knows so = absurd (let never : (let none : Option PacketValue = None in none) ≡ Some (packet_of ip (Segment header bytes)) = p in cc)
told_to (Some o) queue sent ip header bytes N hop p knows so =
    so hop (subst (λ (q : Option PacketValue). IfSome q (λ (x : PacketValue). N (destination_of x.header) hop)) (sym p) knows)

pub goes_to_a_hop : (starts : Starts) (past : List Entry) (e : Entry) (hosts : Nodes) (net : Net) (before following : List Step) (side : Side) (t : ℤ)
    (budget slot : ℕ) (cx : ContextValue) (v : TcpValue) (from : IpAddress) (sent : Bool) (ip : IpRepr) (header : TcpHeader) (bytes : List ℕ)
    (hop : HardwareAddress)
    → IsInitialWorld starts → AreTyped past → (still : StillRun starts (e ∷ past) hosts)
    → HappensBy starts past e still.0 hosts net (before ++ step_of side (Offers slot cx v from sent) ∷ following)
    → kind_of e.event ≡ OfHost side (Polls t budget) → IsTrue (has_tx_token (node hosts side).link)
    → KnowsThroughout t (node still.0 side) (node hosts side) (destination_of ip) hop
    → offered_packet (offer_of cx v).socket ≡ Some (packet_of ip (Segment header bytes)) → never_leaves (node still.0 side).host.inner ip ≡ false
    → (frame : GoesInFrame (node still.0 side).host.inner (node still.0 side).link (node hosts side).link v ip header bytes) × (frame.to ≡ hop)
goes_to_a_hop starts past e hosts net before following side t budget slot cx v from sent ip header bytes hop initial typed still by is given knows offered leaves =
    let old : Nodes = still.0 in
    let i0 : InnerValue = (node old side).host.inner in
    let K : Type 0 = (node hosts side).host.inner.paths ≡ [] in
    let N : IpAddress → HardwareAddress → Type 0 = KnowsThroughout t (node old side) (node hosts side) in
    let step : Step = step_of side (Offers slot cx v from sent) in
    let steps : List Step = before ++ step ∷ following in
    let p : PacketValue = packet_of ip (Segment header bytes) in
    let off : AreSentTo (OfHost side (Polls t budget)) old hosts steps = subst (λ (k : Kind). AreSentTo k old hosts steps) is by.sent_to in
    let went : AreGone (OfHost side (Polls t budget)) old hosts steps = subst (λ (k : Kind). AreGone k old hosts steps) is by.went in
    let one_off : IsSentTo N (Offers slot cx v from sent) = there_of (λ s. IsSentTo N s.move) before step following (off given) in
    let told : sent ≡ true = told_to (offer_of cx v).socket.offered (offer_of cx v).socket.queued.queue sent ip header bytes N hop offered knows one_off in
    let left : HasLeft i0 t K N went.0 (Offers slot cx v from sent) = there_of (λ s. HasLeft i0 t K N went.0 s.move) before step following went.2 in
    let left_true : HasLeft i0 t K N went.0 (Offers slot cx v from true) =
    subst (λ (b : Bool). HasLeft i0 t K N went.0 (Offers slot cx v from b)) told left in
    let l : LeftFrom i0 t K N went.0 cx (Kind.Tcp v) from p =
    some_so (offered_packet (offer_of cx v).socket) (LeftFrom i0 t K N went.0 cx (Kind.Tcp v) from) p offered left_true in
    let was_still = still.1 in
    let well = (has_come starts past old initial typed (ran starts past old was_still)).joined in
    let first_mtu = (seen_in_run starts past old was_still side).mtu in
    let least = mtu_least (start starts side).host.inner.mtu (first_enough starts initial side) in
    let enough : 80 ≤ i0.mtu = omega (arith, first_mtu, least) in
    let widths : HasWidths i0 = (well.joined.sends side).sound.widths in
    let frame = in_frame i0 t K N went.0 cx v from ip header bytes hop (still.3 side).paths knows enough leaves offered l in (
      record {
        i = l.i;
        settings = l.settings;
        to = hop;
        ident = l.i.ident;
        wide = record { mtu = (let same = l.settings.mtu in let most = widths.mtu in omega (arith, same, most)); ident = l.ident widths.ident };
        offers = offers_it i0 t K N went.0 cx v from ip header bytes hop (still.3 side).paths knows enough leaves offered l;
        can = can_leave i0 t K N went.0 cx v from ip header bytes hop (still.3 side).paths knows enough leaves offered l;
        formed = l.formed;
        gone = went.0;
        sent = went.1;
        slot = frame.0;
        frame = frame.1;
      },
      refl,
    )

-- on a medium that has no hardware addresses each hop is known
pub bare_knows : (starts : Starts) (past : List Entry) (old : Nodes) → IsInitialWorld starts → starts.a.capabilities.medium ≡ Medium.Ip → AreTyped past
    → StillRun starts past old → (side : Side) → (node old side).host.inner.hardware ≡ Hardware.Ip
bare_knows starts past old initial medium typed still side =
    let well = (has_come starts past old initial typed (ran starts past old still)).joined in
    is_ip (node old side).host.inner.hardware
    (sym (well.joined.device side) ∙ ap (λ c. c.medium) (same_link starts past old still side) ∙ on_ip starts initial medium side)

pub goes_in_a_frame : (starts : Starts) (past : List Entry) (e : Entry) (hosts : Nodes) (net : Net) (before following : List Step) (side : Side) (t : ℤ)
    (budget slot : ℕ) (cx : ContextValue) (v : TcpValue) (from : IpAddress) (sent : Bool) (ip : IpRepr) (header : TcpHeader) (bytes : List ℕ)
    → IsInitialWorld starts → starts.a.capabilities.medium ≡ Medium.Ip → AreTyped past → (still : StillRun starts (e ∷ past) hosts)
    → HappensBy starts past e still.0 hosts net (before ++ step_of side (Offers slot cx v from sent) ∷ following)
    → kind_of e.event ≡ OfHost side (Polls t budget) → IsTrue (has_tx_token (node hosts side).link)
    → offered_packet (offer_of cx v).socket ≡ Some (packet_of ip (Segment header bytes)) → never_leaves (node still.0 side).host.inner ip ≡ false
    → GoesInFrame (node still.0 side).host.inner (node still.0 side).link (node hosts side).link v ip header bytes
goes_in_a_frame starts past e hosts net before following side t budget slot cx v from sent ip header bytes initial medium typed still by is given offered leaves =
    (goes_to_a_hop starts past e hosts net before following side t budget slot cx v from sent ip header bytes Hardware.Ip initial typed still by is given
    (λ frames waited. inl (bare_knows starts past still.0 initial medium typed still.1 side, refl)) offered leaves).0
