-- Each segment that the socket of an end sends in a poll goes in a frame, and a frame that the other host takes brings it to the other end.
use Rattle.std.proofs.Common.{◌≡◌, ◌≢◌, ◌⊎◌, inl, inr, ℕ, ◌≤◌, Bool, true, false, if◌then◌else◌, ◌||◌, not, ℤ, List, [], Option, Some}
use Rattle.std.proofs.Common.{refl, sym, ap, ◌∙◌, subst, arith}
use Rattle.std.specs.Prelude.{slice_get}
use Rattle.wire_ip.specs.Ip.{destination_of, header_len_in, source_of}
use Rattle.wire_ip.specs.declared.ip.repr.IpRepr.{IpRepr}
use Rattle.wire_ip.specs.declared.ip.repr.IpRepr.TheVariants as Ip
use Rattle.ip_wire.specs.HardwareAddress.{HardwareAddress}
use Rattle.ip_wire.specs.IpAddress.{IpAddress}
use Rattle.ip_wire.specs.TcpHeader.{TcpHeader}
use Rattle.sockets.specs.Context.{ContextValue}
use Rattle.tcp_state.specs.Endpoints.{remote_of}
use Rattle.tcp_state.specs.States.{is_listening}
use Rattle.tcp_state.specs.declared.endpoints.FourTuple.{FourTuple}
use Rattle.tcp_state.specs.declared.offer.OpenOffer.{OpenOffer}
use Rattle.tcp_block.specs.Arrival.{arrives}
use Rattle.tcp_block.specs.Names.{accepts}
use Rattle.tcp_block.specs.Offers.{offer_of, offered_packet, payload_of, packet_with}
use Rattle.tcp_block.specs.Reply.{Reply}
use Rattle.tcp_block.specs.Value.{TcpValue}
use Rattle.tcp_refinement.specs.Endpoints.{CameBetween, GoesBack, GoesBetween}
use Rattle.tcp_refinement.specs.Host.{Made, made_by, made_of}
use Rattle.tcp_refinement.proofs.NameLaws.{answer_back, offer_between_ends}
use Rattle.tcp_refinement.proofs.NameLaws.{accepted as accepted_for}
use Rattle.tcp_invariants.proofs.ReadRules.{answers_read}
use Rattle.interface.specs.Ingress.{is_solicitation}
use Rattle.interface.specs.TransmittedFrame.{HasWidths}
use Rattle.interface.specs.Serve.{sourced, with_source}
use Rattle.iface_egress.specs.Departure.{Whole}
use Rattle.iface_egress.specs.IsTransmitted.{frame_of, numbered}
use Rattle.iface_egress.specs.Plan.{comes_from_here, never_leaves, plan_of, total_len}
use Rattle.iface_ingress.specs.Packet.{PacketValue, Segment, packet_of}
use Rattle.iface_ingress.specs.Socket.TheVariants as Kind
use Rattle.iface_tables.specs.Inner.{InnerValue, is_foreign_loopback, link_address, mtu_to}
use Rattle.iface_tables.specs.declared.link.LinkAddress.TheVariants as Link
use Rattle.ip_wire.specs.AddressTests.{is_unspecified}
use Rattle.iface_tables.specs.Source.{source_for}
use Rattle.lan.specs.Worlds.Link.Made.{sealed}
use Rattle.lan.specs.Worlds.Moves.Answered.{AnswerLeft, WasSentAsPlanned}
use Rattle.lan.specs.Worlds.Moves.WasSent.{LeftFrom, WasSentBy}
use Rattle.proof_stack.specs.Progress.Ends.{GoesAlong}
use Rattle.proof_stack.specs.Progress.Segments.{OffersSegment}
use Rattle.proof_stack.proofs.EventFrames.{IsFrameOf, frame_made, goes_whole, never_asks, never_same, path_enough}
use Rattle.proof_stack.proofs.Polls.Segments.{as_written, can_be_read}
use Rattle.proof_stack.proofs.Polls.SegmentSizes.{fits_path}

pub one_pair : (x y : FourTuple) → Some x ≡ Some y → x ≡ y
one_pair x y e = cc

-- A HOST, before a poll

-- it has this hardware address, seals all it sends, and lets go what goes along this connection
pub record IsReadyHost (i0 : InnerValue) (pair : FourTuple) (own : HardwareAddress) : Type 0 where
  pub hardware : i0.hardware ≡ own
  pub seals : i0.checksums ≡ sealed
  pub enough : 576 ≤ i0.mtu
  pub widths : HasWidths i0
  pub never : (ip : IpRepr) → GoesAlong pair ip → never_leaves i0 ip ≡ false

comes_from : (nowhere foreign here : Bool) → (nowhere || (foreign || not here)) ≡ false → here ≡ true
comes_from nowhere foreign true is = refl
comes_from true foreign false is = absurd cc
comes_from false true false is = absurd cc
comes_from false false false is = absurd cc

small_header : (ip : IpRepr) → header_len_in ip ≤ 40
small_header (Ip.Ipv4 v) = omega arith
small_header (Ip.Ipv6 v) = omega arith

-- the frames for the remote address go to the other one throughout the poll, as N says
module _ (i0 : InnerValue) (t : ℤ) (K : Type 0) (N : IpAddress → HardwareAddress → Type 0) (gone : List (List ℕ)) (pair : FourTuple) (own to : HardwareAddress)
    (knows : N (remote_of pair.addresses) to) (ready : IsReadyHost i0 pair own) (local : pair.local_port ≢ 0) (remote : pair.remote_port ≢ 0) where
  -- the segment goes in one of the frames
  abbrev pub GoesIn : Made → Type 0
  GoesIn x = (frame : List ℕ) × IsFrameOf pair own to x frame × ((n : ℕ) × (slice_get gone n ≡ Some frame))

  -- WHAT A SOCKET OFFERS

  module _ (cx : ContextValue) (v : TcpValue) (from : IpAddress) (o : OpenOffer) (offered : (offer_of cx v).socket.offered ≡ Some o)
      (named : v.tcb.names.pair ≡ Some pair) where
    abbrev pub text : List ℕ
    text = payload_of o o.kind (offer_of cx v).socket.queued.queue

    abbrev pub p : PacketValue
    p = packet_of o.header (Segment o.segment text)

    between : GoesBetween pair o
    between =
        let ends = offer_between_ends cx v o offered in
        subst (λ (q : FourTuple). GoesBetween q o) (one_pair ends.0 pair (sym ends.1 ∙ named)) ends.2

    along : GoesAlong pair o.header
    along = record { source = between.source; destination = between.destination }

    pub packet_is : offered_packet (offer_of cx v).socket ≡ Some p
    packet_is = ap (λ (x : Option OpenOffer). packet_with x (offer_of cx v).socket.queued.queue) offered

    module _ (l : LeftFrom i0 t K N gone cx (Kind.Tcp v) from p) where
      offers : OffersSegment l.i v o.header o.segment text
      offers = record {
        offers = subst (λ (c : ContextValue). offered_packet (offer_of c v).socket ≡ Some p) l.shown packet_is;
        source_port = λ zero. local (sym between.source_port ∙ zero);
        destination_port = λ zero. remote (sym between.destination_port ∙ zero);
      }

      enough : 576 ≤ mtu_to l.i (destination_of o.header)
      enough = path_enough l.i.paths (destination_of o.header) l.i.instant l.i.mtu (subst (λ (n : ℕ). 576 ≤ n) (sym l.settings.mtu) ready.enough)

      short : total_len o.header ≤ mtu_to l.i (destination_of o.header)
      short = fits_path l.i v o.header o.segment text offers (omega (arith, enough))

      known : link_address l.i (destination_of o.header) ≡ Link.Known to
      known = ap (λ (a : IpAddress). link_address l.i a) along.destination ∙ l.hop_limit (remote_of pair.addresses) to knows

      -- its source stays
      keeps : sourced l.i p ≡ p
      keeps =
          let may = never_same i0 l.i l.settings o.header ∙ ready.never o.header along in
          let here = comes_from (is_unspecified (destination_of o.header)) (is_foreign_loopback l.i (destination_of o.header)) (comes_from_here l.i o.header) may in
          ap (λ (b : Bool). packet_of (if b then o.header else with_source o.header (source_for l.i.addresses (destination_of o.header))) (Segment o.segment text))
          here

      pub offer_goes : (x : Made) → x ≡ made_of from (destination_of o.header) o.segment text → GoesIn x
      offer_goes x is =
          let source : from ≡ source_of o.header = l.source ∙ ap (λ (q : PacketValue). source_of q.header) keeps in
          let went : WasSentBy gone l.i p (plan_of l.i l.busy o.header) =
          subst (λ (q : PacketValue). WasSentBy gone l.i q (plan_of l.i l.busy q.header)) keeps l.was_sent in
          let whole = goes_whole i0 l.i l.settings own to ready.hardware o.header known (ready.never o.header along) short l.busy in (
            frame_of l.i (Whole to (numbered l.i p)),
            frame_made i0 l.i l.settings own to ready.hardware o.header known (ready.never o.header along) short pair o.segment text x
                (is ∙ ap (λ (a : IpAddress). made_of a (destination_of o.header) o.segment text) source) ready.seals ready.widths l.ident
                (as_written l.i v o.header o.segment text offers) (can_be_read l.i v o.header o.segment text offers l.formed) l.formed along
                between.source_port between.destination_port,
            subst (WasSentBy gone l.i p) whole went,
          )

  -- WHAT IT ANSWERS

  module _ (cx : ContextValue) (v : TcpValue) (ip : IpRepr) (header : TcpHeader) (bytes : List ℕ) (reply : Reply)
      (answers : (arrives cx v ip header bytes).answer ≡ Some reply) (named : v.tcb.names.pair ≡ Some pair) (late : is_listening v.tcb.state ≡ false)
      (accepted : accepts v.tcb ip header ≡ true) where
    abbrev pub answer : PacketValue
    answer = packet_of reply.header (Segment reply.segment [])

    came : CameBetween pair ip header
    came =
        let it = (accepted_for v.tcb ip header accepted).connected late in
        subst (λ (q : FourTuple). CameBetween q ip header) (one_pair it.0 pair (sym it.1 ∙ named)) it.2

    back : GoesBack ip header reply
    back = answer_back cx v ip header bytes reply answers

    answer_along : GoesAlong pair reply.header
    answer_along = record { source = back.source ∙ came.destination; destination = back.destination ∙ came.source }

    module _ (l : AnswerLeft i0 N gone answer) (w : WasSentAsPlanned i0 N gone l.i answer (plan_of l.i l.busy reply.header)) where
      short_answer : total_len reply.header ≤ mtu_to l.i (destination_of reply.header)
      short_answer =
          let len = w.formed.sendable.len in
          let small = w.formed.sendable.payload.header in
          let head = small_header reply.header in
          let enough = path_enough l.i.paths (destination_of reply.header) l.i.instant l.i.mtu (subst (λ (n : ℕ). 576 ≤ n) (sym l.settings.mtu) ready.enough) in
          omega (arith, len, small, head, enough)

      known_answer : link_address l.i (destination_of reply.header) ≡ Link.Known to
      known_answer = ap (λ (a : IpAddress). link_address l.i a) answer_along.destination ∙ l.hop_limit (remote_of pair.addresses) to knows

      goes_so : (x : Made) → x ≡ made_by reply → GoesIn x
      goes_so x is =
          let whole = goes_whole i0 l.i l.settings own to ready.hardware reply.header known_answer (ready.never reply.header answer_along) short_answer l.busy in (
            frame_of l.i (Whole to (numbered l.i answer)),
            frame_made i0 l.i l.settings own to ready.hardware reply.header known_answer (ready.never reply.header answer_along) short_answer pair reply.segment [] x is ready.seals
                ready.widths l.ident (answers_read cx v ip header bytes reply answers) w.wide.fits w.formed answer_along
                (back.source_port ∙ came.destination_port) (back.destination_port ∙ came.source_port),
            w.was_sent to whole,
          )

    pub answer_goes : AnswerLeft i0 N gone answer → (x : Made) → x ≡ made_by reply → GoesIn x
    answer_goes l x is = by l.what where
      there : link_address l.i (destination_of reply.header) ≡ Link.Known to
      there = ap (λ (a : IpAddress). link_address l.i a) answer_along.destination ∙ l.hop_limit (remote_of pair.addresses) to knows

      by : (is_solicitation (plan_of l.i l.busy reply.header) ≡ true) ⊎ WasSentAsPlanned i0 N gone l.i answer (plan_of l.i l.busy reply.header) → GoesIn x
      by (inl asks) = absurd (let both : true ≡ false = sym asks ∙ never_asks l.i reply.header l.busy to there in cc)
      by (inr went) = goes_so l went x is
