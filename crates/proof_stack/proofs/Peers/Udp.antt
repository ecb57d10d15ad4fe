-- A UDP socket through a poll.
use Rattle.std.proofs.Common.{◌≡◌, ℕ, ℤ, Bool, true, false, if◌then◌else◌, ◌&&◌, List, [], ◌∷◌, ◌++◌, length, Option, Some, None, refl, sym, ap, ◌∙◌, subst}
use Rattle.std.proofs.Common.{append-nil, append_assoc}
use Rattle.std.specs.List.{AllByRecursion}
use Rattle.std.proofs.lemmas.Bool.{eqb-true}
use Rattle.std.proofs.lemmas.List.{map-append}
use Rattle.net_base.specs.Device.{Move}
use Rattle.net_base.specs.ChecksumCapabilities.{ChecksumCapabilities}
use Rattle.net_base.specs.Packets.{Packets, QueuedPacket, contents, is_full_for, appended}
use Rattle.ip_wire.specs.IpRepr.{IpRepr}
use Rattle.ip_wire.specs.UdpRepr.{UdpRepr}
use Rattle.sockets.specs.Context.{ContextValue}
use Rattle.sockets.specs.Offer as Answer
use Rattle.socket_datagram.specs.Offers.{OffersFirst, left_with}
use Rattle.sockets.specs.Packet.{PacketValue}
use Rattle.sockets.specs.Socket.{Offers, settled, accepts_datagram}
use Rattle.socket_datagram.specs.SocketValue as Datagrams
use Rattle.socket_datagram.specs.Udp as Udps
use Rattle.socket_datagram.specs.Udp.{UdpValue, UdpSettings, TakesDatagram, metadata_of, is_open}
use Rattle.socket_datagram.specs.declared.udp.UdpMetadata.{UdpMetadata}
use Rattle.sockets.specs.declared.socket.Socket.{Socket}
use Rattle.sockets.specs.declared.socket.Socket.TheVariants as Is
use Rattle.interface.specs.Polls.{Polls}
use Rattle.interface.specs.State.{State}
use Rattle.iface_ingress.specs.UpperLayer.{IsDatagram}
use Rattle.iface_ingress.specs.Upper.{upper_header, upper_payload}
use Rattle.iface_ingress.specs.Datagrams as Given
use Rattle.iface_ingress.specs.Delivered.{with_packet, with_icmpv4, with_icmpv6, with_segment}
use Rattle.proof_stack.specs.PeerHost.ReceivedPackets.{Came}
use Rattle.proof_stack.specs.PeerHost.Datagrams.{IsUdpAt, WasReceived, DatagramsProceed}
use Rattle.proof_stack.proofs.Peers.Place.{Found, found_holds, holds_found}
use Rattle.proof_stack.proofs.Peers.Arrivals.{IsOfPolls}
use Rattle.proof_stack.proofs.Peers.Taken.{polled_holds}

-- a datagram after the others, or none
contents_appended : (q : Packets UdpMetadata) (size : ℕ) (header : UdpMetadata) (bytes : List ℕ) →
    contents (appended q size header bytes) ≡ contents q ++ (header, bytes) ∷ []
contents_appended q size header bytes = map-append (λ (p : QueuedPacket UdpMetadata). (p.header, p.bytes)) q.packets _

second : (a b : Bool) → (a && b) ≡ true → b ≡ true
second true b both = both
second false b both = absurd (cc)

first_of : (a b : Bool) → (a && b) ≡ true → a ≡ true
first_of true b both = refl
first_of false b both = absurd (cc)

bound_to : (cx : ContextValue) (u : UdpValue) (ip : IpRepr) (udp : UdpRepr) → Udps.accepts cx u ip udp ≡ true → udp.dst_port ≡ u.settings.endpoint.port
bound_to cx u ip udp accepts = sym (eqb-true u.settings.endpoint.port udp.dst_port (first_of _ _ (second (is_open u) _ accepts)))

-- what an offer leaves as it was
pub record SameIn (u w : UdpValue) : Type 0 where
  pub settings : w.settings ≡ u.settings
  pub received : w.received ≡ u.received

same_left : (u w : UdpValue) (p : Option PacketValue) → w ≡ left_with p u → SameIn u w
same_left u w None is = record { settings = ap (λ (x : UdpValue). x.settings) is; received = ap (λ (x : UdpValue). x.received) is }
same_left u w (Some p) is = record { settings = ap (λ (x : UdpValue). x.settings) is; received = ap (λ (x : UdpValue). x.received) is }

pub same_offered : (cx : ContextValue) (u w : UdpValue) (answer : Answer.Offer) (o : Option (UdpMetadata × List ℕ)) →
    OffersFirst (TakesDatagram cx) u o answer w → SameIn u w
same_offered cx u w answer None is = record { settings = ap (λ (x : UdpValue). x.settings) is.1; received = ap (λ (x : UdpValue). x.received) is.1 }
same_offered cx u w answer (Some q) is = same_left u w w.offered is.2

module _ {D : Type 0} (moves : D → Move → D → Type 0) (t : ℤ) (from : State D) (v : UdpValue) where
  abbrev Were : List (UdpMetadata × List ℕ) → Type 0
  Were more = AllByRecursion (WasReceived moves t from v.settings.endpoint.port) more

  -- what the poll took in stands after what waited
  pub record GotMore (s : Socket) : Type 0 where
    pub new : UdpValue
    pub more : List (UdpMetadata × List ℕ)
    pub is : s ≡ Is.Udp new
    pub bound : new.settings ≡ v.settings
    pub following : contents new.received ≡ contents v.received ++ more
    pub were : Were more

  were_more : (more : List (UdpMetadata × List ℕ)) (d : UdpMetadata × List ℕ) → Were more → WasReceived moves t from v.settings.endpoint.port d
      → Were (more ++ d ∷ [])
  were_more [] d were was = (was, tt)
  were_more (x ∷ more) d were was = (were.0, were_more more d were.1 was)

  same_for : (change : Socket → Socket) → ((u : UdpValue) → change (Is.Udp u) ≡ Is.Udp u) → (s : Socket) → GotMore s → GotMore (change s)
  same_for change same s got = record {
    new = got.new;
    more = got.more;
    is = ap change got.is ∙ same got.new;
    bound = got.bound;
    following = got.following;
    were = got.were;
  }

  same_in : (s : Socket) (u w : UdpValue) (got : GotMore s) → got.new ≡ u → SameIn u w → GotMore (Is.Udp w)
  same_in s u w got is same = record {
    new = w;
    more = got.more;
    is = refl;
    bound = same.settings ∙ ap (λ (x : UdpValue). x.settings) (sym is) ∙ got.bound;
    following = ap contents (same.received ∙ ap (λ (x : UdpValue). x.received) (sym is)) ∙ got.following;
    were = got.were;
  }

  offer_got : (cx : ContextValue) (s offered : Socket) (answer : Answer.Offer) (sent : Bool) → Offers cx s answer offered → GotMore s
      → GotMore (settled sent offered)
  offer_got cx s offered answer sent offers got =
      by offered (subst (λ (x : Socket). Offers cx x answer offered) got.is offers) where
        by : (offered : Socket) → Offers cx (Is.Udp got.new) answer offered → GotMore (settled sent offered)
        by (Is.Udp w) is =
            let same = same_offered cx got.new w answer _ is in
            same_in s got.new (Datagrams.settled sent w) got refl (record { settings = same.settings; received = same.received })
        by (Is.Raw w) is = absurd is
        by (Is.Icmp w) is = absurd is
        by (Is.Tcp w) is = absurd is
        by (Is.Dhcpv4 w) is = absurd is
        by (Is.Dns w) is = absurd is

  datagram_got : (caps : ChecksumCapabilities) (cx : ContextValue) (ip : IpRepr) (payload : List ℕ) (udp : UdpRepr) (bytes : List ℕ) (s s' : Socket)
      → Came moves t from caps ip payload → IsDatagram caps (upper_header ip payload) (upper_payload ip payload) udp bytes → accepts_datagram cx s ip udp ≡ true
      → Given.TakesDatagram cx ip udp bytes s s' → GotMore s → GotMore s'
  datagram_got caps cx ip payload udp bytes s s' came is accepts takes got =
      by (is_full_for got.new.received (length bytes)) refl where
        accepted : Udps.accepts cx got.new ip udp ≡ true
        accepted = ap (λ (x : Socket). accepts_datagram cx x ip udp) (sym got.is) ∙ accepts

        was : WasReceived moves t from v.settings.endpoint.port (metadata_of ip udp, bytes)
        was = record {
          ip = ip;
          udp = udp;
          came = record { caps = caps; payload = payload; came = came; carries = is };
          told = refl;
          to_port = bound_to cx got.new ip udp accepted ∙ ap (λ (x : UdpSettings). x.endpoint.port) got.bound;
        }

        new : UdpValue
        new = Udps.process_after got.new ip udp bytes

        taken : s' ≡ Is.Udp new
        taken = subst (λ (x : Socket). Given.TakesDatagram cx ip udp bytes x s') got.is takes

        by : (full : Bool) → is_full_for got.new.received (length bytes) ≡ full → GotMore s'
        by true at = record {
          new = new;
          more = got.more;
          is = taken;
          bound = got.bound;
          following =
              ap (λ (b : Bool). contents (if b then got.new.received else appended got.new.received (length bytes) (metadata_of ip udp) bytes)) at
              ∙ got.following;
          were = got.were;
        }
        by false at = record {
          new = new;
          more = got.more ++ (metadata_of ip udp, bytes) ∷ [];
          is = taken;
          bound = got.bound;
          following =
              ap (λ (b : Bool). contents (if b then got.new.received else appended got.new.received (length bytes) (metadata_of ip udp) bytes)) at
              ∙ contents_appended got.new.received (length bytes) (metadata_of ip udp) bytes
              ∙ ap (λ (ds : List (UdpMetadata × List ℕ)). ds ++ (metadata_of ip udp, bytes) ∷ []) got.following
              ∙ append_assoc (contents v.received) got.more ((metadata_of ip udp, bytes) ∷ []);
          were = were_more got.more (metadata_of ip udp, bytes) got.were was;
        }

  pub got_law : IsOfPolls (Came moves t from) GotMore
  got_law = record {
    offers = offer_got;
    arrives = record {
      same = λ s got. got;
      packet = λ ip payload s got. same_for (with_packet ip payload) (λ u. refl) s got;
      icmpv4 = λ ip message bytes s got. same_for (with_icmpv4 ip message bytes) (λ u. refl) s got;
      icmpv6 = λ ip message bytes s got. same_for (with_icmpv6 ip message bytes) (λ u. refl) s got;
      datagram = datagram_got;
      segment = λ caps cx ip payload header bytes s came is accepts got. same_for (with_segment cx ip header bytes) (λ u. refl) s got;
    };
  }

  -- none yet
  pub got_first : GotMore (Is.Udp v)
  got_first = record { new = v; more = []; is = refl; bound = refl; following = sym (append-nil (contents v.received)); were = tt }

  pub datagrams_proceed : (budget n : ℕ) (s' : State D) (changed : Bool) → IsUdpAt from.slots n v → Polls moves t budget from changed s' →
      DatagramsProceed moves t from n v s'
  datagrams_proceed budget n s' changed is polls =
      let end : Found GotMore s'.slots n =
      holds_found GotMore s'.slots n
      (polled_holds moves t from GotMore got_law n budget s' changed (found_holds GotMore from.slots n (Is.Udp v) is got_first) polls) in
      record {
        new = end.holds.new;
        more = end.holds.more;
        stays = end.is ∙ ap Some end.holds.is;
        bound = end.holds.bound;
        following = end.holds.following;
        were = end.holds.were;
      }
