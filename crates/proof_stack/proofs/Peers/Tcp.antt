-- A TCP socket through a poll.
use Rattle.std.proofs.Common.{◌≡◌, ℕ, ℤ, Bool, true, List, [], ◌∷◌, ◌++◌, Some, refl, sym, ap, ◌∙◌, subst}
use Rattle.net_base.specs.Device.{Move}
use Rattle.net_base.specs.ChecksumCapabilities.{ChecksumCapabilities}
use Rattle.ip_wire.specs.IpRepr.{IpRepr}
use Rattle.ip_wire.specs.TcpHeader.{TcpHeader}
use Rattle.sockets.specs.Context.{ContextValue}
use Rattle.sockets.specs.Offer as Answer
use Rattle.sockets.specs.Socket.{Offers, settled, accepts_segment}
use Rattle.sockets.specs.declared.socket.Socket.{Socket}
use Rattle.sockets.specs.declared.socket.Socket.TheVariants as Is
use Rattle.tcp_block.specs.Names.{accepts}
use Rattle.tcp_block.specs.Offers.{offer_of}
use Rattle.tcp_block.specs.Value.{TcpValue}
use Rattle.interface.specs.Polls.{Polls}
use Rattle.interface.specs.State.{State}
use Rattle.iface_ingress.specs.UpperLayer.{IsSegment}
use Rattle.iface_ingress.specs.Upper.{upper_header, upper_payload}
use Rattle.iface_ingress.specs.Datagrams.{TakesDatagram}
use Rattle.iface_ingress.specs.Delivered.{with_packet, with_icmpv4, with_icmpv6, with_segment}
use Rattle.tcp_refinement.specs.Run.Event.{Offers as IsAsked}
use Rattle.proof_stack.specs.PeerHost.SocketRun.{Event}
use Rattle.proof_stack.specs.PeerHost.SocketRun.Event.{Comes, Does}
use Rattle.proof_stack.specs.PeerHost.ReachedSocket.{after, after_all}
use Rattle.proof_stack.proofs.Peers.Going.{all_proceed}
use Rattle.proof_stack.specs.PeerHost.ReceivedPackets.{Came}
use Rattle.proof_stack.specs.PeerHost.Streams.{IsTcpAt, IsOfPoll, AreOfPoll, StreamProceeds}
use Rattle.proof_stack.proofs.Peers.Place.{Found, found_holds, holds_found}
use Rattle.proof_stack.proofs.Peers.Arrivals.{IsOfPolls}
use Rattle.proof_stack.proofs.Peers.Taken.{polled_holds}

module _ {D : Type 0} (moves : D → Move → D → Type 0) (t : ℤ) (from : State D) (v : TcpValue) where
  -- events of the poll led the socket here
  pub record LedTo (s : Socket) : Type 0 where
    pub events : List Event
    pub are : AreOfPoll moves t from v events
    pub is : s ≡ Is.Tcp (after_all v events)

  and_one : (u : TcpValue) (events : List Event) (event : Event) → AreOfPoll moves t from u events → IsOfPoll moves t from (after_all u events) event →
      AreOfPoll moves t from u (events ++ event ∷ [])
  and_one u [] event are is = (is, tt)
  and_one u (first ∷ events) event are is = (are.0, and_one (after u first) events event are.1 is)

  after_one : (u : TcpValue) (events : List Event) (event : Event) → after_all u (events ++ event ∷ []) ≡ after (after_all u events) event
  after_one u [] event = refl
  after_one u (first ∷ events) event = after_one (after u first) events event

  one_more : (s s' : Socket) (led : LedTo s) (event : Event) → IsOfPoll moves t from (after_all v led.events) event →
      s' ≡ Is.Tcp (after (after_all v led.events) event)
      → LedTo s'
  one_more s s' led event is so = record {
    events = led.events ++ event ∷ [];
    are = and_one v led.events event led.are is;
    is = so ∙ ap Is.Tcp (sym (after_one v led.events event));
  }

  -- what is for sockets of other kinds
  same_for : (change : Socket → Socket) → ((u : TcpValue) → change (Is.Tcp u) ≡ Is.Tcp u) → (s : Socket) → LedTo s → LedTo (change s)
  same_for change same s led = record {
    events = led.events;
    are = led.are;
    is = ap change led.is ∙ same (after_all v led.events);
  }

  is_offered : (cx : ContextValue) (u : TcpValue) (offered : Socket) (answer : Answer.Offer) → Offers cx (Is.Tcp u) answer offered →
      offered ≡ Is.Tcp (offer_of cx u).socket
  is_offered cx u (Is.Raw w) answer offers = absurd offers
  is_offered cx u (Is.Icmp w) answer offers = absurd offers
  is_offered cx u (Is.Udp w) answer offers = absurd offers
  is_offered cx u (Is.Dhcpv4 w) answer offers = absurd offers
  is_offered cx u (Is.Dns w) answer offers = absurd offers
  is_offered cx u (Is.Tcp w) answer offers = ap Is.Tcp offers.1

  offer_led : (cx : ContextValue) (s offered : Socket) (answer : Answer.Offer) (sent : Bool) → Offers cx s answer offered → LedTo s
      → LedTo (settled sent offered)
  offer_led cx s offered answer sent offers led =
      let u = after_all v led.events in
      let is = is_offered cx u offered answer (subst (λ (x : Socket). Offers cx x answer offered) led.is offers) in
      one_more s (settled sent offered) led (Does (IsAsked cx sent)) tt (ap (settled sent) is)

  segment_led : (caps : ChecksumCapabilities) (cx : ContextValue) (ip : IpRepr) (payload : List ℕ) (header : TcpHeader) (bytes : List ℕ) (s : Socket)
      → Came moves t from caps ip payload → IsSegment caps (upper_header ip payload) (upper_payload ip payload) header bytes
      → accepts_segment s ip header ≡ true → LedTo s
      → LedTo (with_segment cx ip header bytes s)
  segment_led caps cx ip payload header bytes s came is accepts led =
      one_more s (with_segment cx ip header bytes s) led (Comes cx ip header bytes) (
        ap (λ (x : Socket). accepts_segment x ip header) (sym led.is) ∙ accepts,
        record { caps = caps; payload = payload; came = came; carries = is },
      ) (ap (with_segment cx ip header bytes) led.is)

  pub led_law : IsOfPolls (Came moves t from) LedTo
  led_law = record {
    offers = offer_led;
    arrives = record {
      same = λ s led. led;
      packet = λ ip payload s led. same_for (with_packet ip payload) (λ u. refl) s led;
      icmpv4 = λ ip message bytes s led. same_for (with_icmpv4 ip message bytes) (λ u. refl) s led;
      icmpv6 = λ ip message bytes s led. same_for (with_icmpv6 ip message bytes) (λ u. refl) s led;
      datagram = λ caps cx ip payload udp bytes s s' came is accepts takes led. record {
        events = led.events;
        are = led.are;
        is = subst (λ (x : Socket). TakesDatagram cx ip udp bytes x s') led.is takes;
      };
      segment = segment_led;
    };
  }

  pub stream_proceeds : (budget n : ℕ) (s' : State D) (changed : Bool) → IsTcpAt from.slots n v → Polls moves t budget from changed s' →
      StreamProceeds moves t from n v s'
  stream_proceeds budget n s' changed is polls =
      let start : LedTo (Is.Tcp v) = record { events = []; are = tt; is = refl } in
      let end : Found LedTo s'.slots n =
      holds_found LedTo s'.slots n
      (polled_holds moves t from LedTo led_law n budget s' changed (found_holds LedTo from.slots n (Is.Tcp v) is start) polls) in
      record {
        events = end.holds.events;
        are = end.holds.are;
        stays = end.is ∙ ap Some end.holds.is;
        on = all_proceed v end.holds.events;
      }
