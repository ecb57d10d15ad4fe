-- A datagram that is queued at a host at one port arrives at the host at another; and a segment that is offered does.
use Rattle.std.proofs.Common.{◌≡◌, ◌≢◌, inl, inr, ℕ, suc, ◌<◌, ◌≤◌, ℤ, Bool, IsTrue, List, [], ◌∷◌, ◌++◌, length, sym, ap, ◌∙◌, subst, append_assoc, append-nil}
use Rattle.std.specs.List.{AllByRecursion}
use Rattle.net_base.specs.Device.{Move, Took, Empty, Allowed, Emitted, Denied}
use Rattle.net_base.specs.Packets.{contents}
use Rattle.wire_ip.specs.Ip.{source_of}
use Rattle.wire_ip.specs.declared.ip.repr.IpRepr.{IpRepr}
use Rattle.ip_wire.specs.HardwareAddress.{HardwareAddress}
use Rattle.ip_wire.specs.TcpHeader.{TcpHeader}
use Rattle.sim_link.specs.Port.{PortValue, PortMove}
use Rattle.socket_datagram.specs.Udp.{UdpValue}
use Rattle.socket_datagram.specs.declared.udp.UdpMetadata.{UdpMetadata}
use Rattle.tcp_block.specs.Value.{TcpValue}
use Rattle.iface_ingress.specs.Packet.{PacketValue, Segment, packet_of}
use Rattle.iface_ingress.specs.Socket.TheVariants as Kind
use Rattle.iface_tables.specs.Inner.{InnerValue, at_instant}
use Rattle.iface_egress.specs.declared.socket_meta.Meta.{Meta}
use Rattle.interface.specs.Polls.{Polls}
use Rattle.interface.specs.State.{State}
use Rattle.interface.specs.TransmittedFrame.{CanRead, HasWidths}
use Rattle.proof_stack.specs.Progress.Delivered.{as_received, reader_of}
use Rattle.proof_stack.specs.Progress.Inbox.{BringsAmong, WaitsAmongThem}
use Rattle.proof_stack.specs.Progress.Leave.{BringsWhatWent, LiesAmong}
use Rattle.proof_stack.specs.Progress.Moves.{AreMoves}
use Rattle.proof_stack.specs.Progress.Queued.{CanGo, HasTurn, HasWay, Sends, frame_under, ports_of}
use Rattle.proof_stack.specs.Progress.Ready.{HasRoomFollowing, IsExpectedThroughout}
use Rattle.proof_stack.specs.Progress.Segments.{CanTransmit, ComesAmong, HasConnection, IsAwaitedThroughout, IsItsTurn, OffersSegment}
use Rattle.proof_stack.proofs.Polls.Inboxes.{Frames, leave, ports, ports_are_bare, refuse_nothing, waiting}
use Rattle.proof_stack.proofs.Polls.Leave.{arrives_with_leave}
use Rattle.proof_stack.proofs.Polls.SegmentPolls.{arrives_in_a_poll}

-- the frames that went
abbrev emitted : List Move → Frames
emitted [] = []
emitted (Took t frame ∷ more) = emitted more
emitted (Empty t ∷ more) = emitted more
emitted (Allowed t given ∷ more) = emitted more
emitted (Emitted frame ∷ more) = frame ∷ emitted more
emitted (Denied len ∷ more) = emitted more

abbrev sent_by : PortValue → Frames
sent_by p = p.link.sent

following : (old mid new : PortValue) (front rest : Frames) → sent_by mid ≡ sent_by old ++ front → sent_by new ≡ sent_by mid ++ rest
    → sent_by new ≡ sent_by old ++ (front ++ rest)
following old mid new front rest first later = later ∙ ap (λ (fs : Frames). fs ++ rest) first ∙ append_assoc (sent_by old) front rest

same : (old mid new : PortValue) (rest : Frames) → sent_by mid ≡ sent_by old → sent_by new ≡ sent_by mid ++ rest → sent_by new ≡ sent_by old ++ rest
same old mid new rest first later = later ∙ ap (λ (fs : Frames). fs ++ rest) first

went_following : (all : List Move) (old new : PortValue) → AreMoves PortMove all old new → sent_by new ≡ sent_by old ++ emitted all
went_following [] old new goes = ap sent_by goes ∙ sym (append-nil (sent_by old))
went_following (Took t frame ∷ more) old new goes =
    same old goes.0 new (emitted more) (sym (ap sent_by goes.1.1)) (went_following more goes.0 new goes.2)
went_following (Empty t ∷ more) old new goes = same old goes.0 new (emitted more) (ap sent_by goes.1.0) (went_following more goes.0 new goes.2)
went_following (Allowed t given ∷ more) old new goes = same old goes.0 new (emitted more) (ap sent_by goes.1.0) (went_following more goes.0 new goes.2)
went_following (Emitted frame ∷ more) old new goes =
    following old goes.0 new (frame ∷ []) (emitted more) (ap sent_by goes.1) (went_following more goes.0 new goes.2)
went_following (Denied len ∷ more) old new goes = same old goes.0 new (emitted more) (ap sent_by goes.1.0) (went_following more goes.0 new goes.2)

module _ (P : List ℕ → Type 0) where
  later : (m : Move) (more : List Move) → AllByRecursion P (emitted (m ∷ more)) → AllByRecursion P (emitted more)
  later (Took t frame) more all = all
  later (Empty t) more all = all
  later (Allowed t given) more all = all
  later (Emitted frame) more all = all.1
  later (Denied len) more all = all

  of_sent : (frame : List ℕ) (moves : List Move) → Sends frame moves → AllByRecursion P (emitted moves) → P frame
  of_sent frame [] goes all = absurd goes
  of_sent frame (m ∷ more) (inl is) all = (subst (λ (x : Move). AllByRecursion P (emitted (x ∷ more))) is all).0
  of_sent frame (m ∷ more) (inr goes) all = of_sent frame more goes (later m more all)

pub brought : (i : InnerValue) (to : HardwareAddress) (p : PacketValue) (old new other : PortValue) (count : ℕ) → BringsWhatWent old new other count
    → BringsAmong PortMove waiting i to p old new other count
brought i to p old new other count brings all goes went = record {
  went = went;
  padding = lies.padding;
  before = lies.before;
  following = lies.following;
  frames = lies.frames;
  few = lies.few;
  short = lies.short;
}
  where
    lies : LiesAmong (waiting other) count (frame_under i went.ident to p)
    lies =
        of_sent (LiesAmong (waiting other) count) (frame_under i went.ident to p) all went.sent (brings (emitted all) (went_following all old new goes))

pub arrives_between : (t u : ℤ) (budget count steps : ℕ) (s s' r r' : State PortValue) (changed changed' : Bool) (n m : ℕ) (meta : Meta) (v w : UdpValue)
    (before : List (UdpMetadata × List ℕ)) (d : UdpMetadata × List ℕ) (more : List (UdpMetadata × List ℕ)) (to : HardwareAddress) (p : PacketValue)
    → HasWidths (at_instant t s.host.inner) → HasTurn (at_instant t s.host.inner) s.slots n v → contents v.queued ≡ before ++ d ∷ more
    → length before < budget → AllByRecursion (HasWay (at_instant t s.host.inner) v.settings) before → d.0.endpoint.port ≢ 0
    → CanGo (at_instant t s.host.inner) v.settings d to p → waiting s.device ≡ [] → Polls PortMove t budget s changed s'
    → s'.device.link.refusals ≡ s.device.link.refusals → IsTrue (leave s'.device) → BringsWhatWent s.device s'.device r.device count
    → count ≤ steps → CanRead (at_instant t s.host.inner) to (reader_of r.host.inner)
    → IsExpectedThroughout (at_instant u r.host.inner) r.slots to p.header (ports_of v.settings d) m meta w
    → HasRoomFollowing (waiting r.device) r.host.assemblers w.received count (length d.1) → Polls PortMove u steps r changed' r' → IsTrue (leave r'.device)
    → WaitsAmongThem r'.slots m w (as_received (source_of p.header) v.settings d)
arrives_between t u budget count steps s s' r r' changed changed' n m meta v w before d more to p wide turn queued short ways some can none polls same_count given
    brings within reads is room polled leaves =
    arrives_with_leave PortMove PortMove leave waiting t u budget count steps s s' r r' changed changed' n m meta v w before d more to p ports leaves wide turn
    queued short ways some can (ports_are_bare t s.device none) polls (refuse_nothing s.device s'.device same_count given)
    (brought (at_instant t s.host.inner) to p s.device s'.device r.device count brings) within reads is room polled

-- so does a segment
pub segment_between : (t u : ℤ) (budget count steps : ℕ) (s s' r r' : State PortValue) (changed changed' : Bool) (n m : ℕ) (meta : Meta) (v w : TcpValue)
    (ip : IpRepr) (header : TcpHeader) (bytes : List ℕ) (to : HardwareAddress) → HasWidths (at_instant t s.host.inner)
    → IsItsTurn (at_instant t s.host.inner) s.slots n (Kind.Tcp v) → OffersSegment (at_instant t s.host.inner) v ip header bytes
    → CanTransmit (at_instant t s.host.inner) to (packet_of ip (Segment header bytes)) → waiting s.device ≡ []
    → Polls PortMove t (suc budget) s changed s' → s'.device.link.refusals ≡ s.device.link.refusals → IsTrue (leave s'.device)
    → BringsWhatWent s.device s'.device r.device count → count ≤ steps → CanRead (at_instant t s.host.inner) to (reader_of r.host.inner)
    → IsAwaitedThroughout (at_instant u r.host.inner) r.slots to ip header m meta w → Polls PortMove u steps r changed' r' → IsTrue (leave r'.device)
    → HasConnection r'.slots m → ComesAmong PortMove u r r' ip header bytes m w
segment_between t u budget count steps s s' r r' changed changed' n m meta v w ip header bytes to wide turn offers can none polls same_count given brings
    within reads is polled leaves ends =
    arrives_in_a_poll PortMove PortMove leave waiting t u budget count steps s s' r r' changed changed' n m meta v w ip header bytes to ports leaves wide turn offers
    can (ports_are_bare t s.device none) polls (refuse_nothing s.device s'.device same_count given)
    (brought (at_instant t s.host.inner) to (packet_of ip (Segment header bytes)) s.device s'.device r.device count brings) within reads is polled ends
