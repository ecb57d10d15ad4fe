-- A poll that ends at a device which gives leave is one of the moves of a device that always gives it.
use Rattle.std.proofs.Common.{◌≡◌, ◌≢◌, ℕ, ◌<◌, ◌≤◌, ℤ, Bool, IsTrue, List, ◌∷◌, ◌++◌, length}
use Rattle.std.specs.List.{AllByRecursion}
use Rattle.net_base.specs.Device.{Move}
use Rattle.net_base.specs.Packets.{contents}
use Rattle.wire_ip.specs.Ip.{source_of}
use Rattle.ip_wire.specs.HardwareAddress.{HardwareAddress}
use Rattle.socket_datagram.specs.Udp.{UdpValue}
use Rattle.socket_datagram.specs.declared.udp.UdpMetadata.{UdpMetadata}
use Rattle.iface_ingress.specs.Packet.{PacketValue}
use Rattle.iface_tables.specs.Inner.{at_instant}
use Rattle.iface_egress.specs.declared.socket_meta.Meta.{Meta}
use Rattle.interface.specs.Polls.{Polls}
use Rattle.interface.specs.QuietPoll.{HasNoFrame}
use Rattle.interface.specs.State.{State}
use Rattle.interface.specs.TransmittedFrame.{CanRead, HasWidths}
use Rattle.interface.proofs.Mapping.{IsMapped, polls_there}
use Rattle.proof_stack.specs.Progress.Delivered.{RefusesNothing, as_received, reader_of}
use Rattle.proof_stack.specs.Progress.Inbox.{BringsAmong, IsInbox, WaitsAmongThem}
use Rattle.proof_stack.specs.Progress.Leave.{IsInboxWhile}
use Rattle.proof_stack.specs.Progress.Queued.{CanGo, HasTurn, HasWay, ports_of}
use Rattle.proof_stack.specs.Progress.Ready.{HasRoomFollowing, IsExpectedThroughout}
use Rattle.proof_stack.proofs.Polls.Ready.{arrives_with_room}

module _ {E : Type 0} (moves : E → Move → E → Type 0) (gives_tx_token : E → Bool) (frames_at : E → List (List ℕ))
    (inbox : IsInboxWhile moves gives_tx_token frames_at) where
  -- the moves of a device that gives leave
  abbrev Free : E → Move → E → Type 0
  Free old m new = IsTrue (gives_tx_token old) × moves old m new

  is_inbox : IsInbox Free frames_at
  is_inbox = record {
    first = λ old new t frame other more wait goes. inbox.first old new t frame other more wait goes.1;
    found = λ old new t frame more wait goes. inbox.found old new t frame more goes.0 wait goes.1;
    out = λ old new m is goes. inbox.out old new m is goes.1;
  }

  mapped : IsMapped (λ (d : E). d) moves Free (λ d. Unit {0}) (λ d. IsTrue (gives_tx_token d))
  mapped = record {
    up = λ old new m goes before. before;
    down = inbox.had;
    there = λ old new m goes before after. (inbox.had old new m goes after, goes);
  }

  free : (u : ℤ) (budget : ℕ) (r r' : State E) (changed : Bool) → IsTrue (gives_tx_token r'.device) → Polls moves u budget r changed r'
      → Polls Free u budget r changed r'
  free u budget r r' changed leave polls =
      polls_there (λ (d : E). d) moves Free (λ d. Unit {0}) (λ d. IsTrue (gives_tx_token d)) mapped u budget r r' changed polls tt leave

pub arrives_with_leave : {D E : Type 0} (out : D → Move → D → Type 0) (moves : E → Move → E → Type 0) (gives_tx_token : E → Bool)
    (frames_at : E → List (List ℕ)) (t u : ℤ) (budget count steps : ℕ) (s s' : State D) (r r' : State E) (changed changed' : Bool) (n m : ℕ)
    (meta : Meta) (v w : UdpValue) (before : List (UdpMetadata × List ℕ)) (d : UdpMetadata × List ℕ) (more : List (UdpMetadata × List ℕ))
    (to : HardwareAddress) (p : PacketValue)
    → IsInboxWhile moves gives_tx_token frames_at → IsTrue (gives_tx_token r'.device)
    → HasWidths (at_instant t s.host.inner) → HasTurn (at_instant t s.host.inner) s.slots n v → contents v.queued ≡ before ++ d ∷ more
    → length before < budget → AllByRecursion (HasWay (at_instant t s.host.inner) v.settings) before → d.0.endpoint.port ≢ 0
    → CanGo (at_instant t s.host.inner) v.settings d to p → HasNoFrame out t s.device → Polls out t budget s changed s'
    → RefusesNothing out s.device s'.device → BringsAmong out frames_at (at_instant t s.host.inner) to p s.device s'.device r.device count
    → count ≤ steps → CanRead (at_instant t s.host.inner) to (reader_of r.host.inner)
    → IsExpectedThroughout (at_instant u r.host.inner) r.slots to p.header (ports_of v.settings d) m meta w
    → HasRoomFollowing (frames_at r.device) r.host.assemblers w.received count (length d.1) → Polls moves u steps r changed' r'
    → WaitsAmongThem r'.slots m w (as_received (source_of p.header) v.settings d)
arrives_with_leave {D} {E} out moves gives_tx_token frames_at t u budget count steps s s' r r' changed changed' n m meta v w before d more to p inbox leave wide turn
    queued short ways some can none polls freely brings within reads is room polled =
    arrives_with_room out (Free moves gives_tx_token frames_at inbox) frames_at t u budget count steps s s' r r' changed changed' n m meta v w before d more to p
    (is_inbox moves gives_tx_token frames_at inbox) wide turn queued short ways some can none polls freely brings within reads is room
    (free moves gives_tx_token frames_at inbox u steps r r' changed' leave polled)
