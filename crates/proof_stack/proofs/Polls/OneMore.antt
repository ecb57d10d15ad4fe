-- What a step of the ingress path leaves at a UDP socket: one datagram more at most.
use Rattle.std.proofs.Common.{◌≡◌, inl, inr, ℕ, Bool, true, false, if◌then◌else◌, ℤ, List, length, Option, Some, None, refl, sym, ap, ◌∙◌}
use Rattle.std.proofs.Common.{subst}
use Rattle.net_base.specs.ChecksumCapabilities.{ChecksumCapabilities}
use Rattle.net_base.specs.Device.{Move}
use Rattle.net_base.specs.Packets.{is_full_for, appended}
use Rattle.base_buffer.proofs.PacketLaws.{contents-appended}
use Rattle.ip_wire.specs.IpRepr.{IpRepr}
use Rattle.ip_wire.specs.UdpRepr.{UdpRepr}
use Rattle.sockets.specs.Context.{ContextValue}
use Rattle.socket_datagram.specs.Udp.{UdpValue, metadata_of, process_after}
use Rattle.sockets.specs.declared.socket.Socket.{Socket}
use Rattle.sockets.specs.declared.socket.Socket.TheVariants as Kind
use Rattle.iface_ingress.specs.Datagrams.{TakesDatagram}
use Rattle.iface_ingress.specs.Delivered.{Slots, with_icmpv4, with_icmpv6, with_packet, with_segment}
use Rattle.interface.specs.Ingress.{IngressStep, Takes}
use Rattle.interface.specs.Polls.{begun}
use Rattle.interface.specs.State.{State}
use Rattle.proof_stack.specs.PeerHost.Datagrams.{IsUdpAt}
use Rattle.proof_stack.specs.Progress.Ready.{AddsAtMostOne, HasOneMoreAtMost}
use Rattle.proof_stack.proofs.Peers.Arrivals.{IsOfArrivals, brings_holds}
use Rattle.proof_stack.proofs.Peers.Place.{Found, HoldsAt, at_so, found_holds, holds_found}

module _ (w : UdpValue) where
  abbrev Was : Socket → Type 0
  Was s = s ≡ Kind.Udp w

  record IsThen (s : Socket) : Type 0 where
    new : UdpValue
    is : s ≡ Kind.Udp new
    settings : new.settings ≡ w.settings
    received : AddsAtMostOne w new

  unchanged : (s : Socket) → Was s → IsThen s
  unchanged s was = record { new = w; is = was; settings = refl; received = inl refl }

  same_for : (change : Socket → Socket) → ((v : UdpValue) → change (Kind.Udp v) ≡ Kind.Udp v) → (s : Socket) → Was s → Was (change s)
  same_for change same s was = ap change was ∙ same w

  gets : (cx : ContextValue) (ip : IpRepr) (udp : UdpRepr) (bytes : List ℕ) (s s' : Socket) → TakesDatagram cx ip udp bytes s s' → Was s → IsThen s'
  gets cx ip udp bytes s s' takes was = record {
    new = process_after w ip udp bytes;
    is = subst (λ (x : Socket). TakesDatagram cx ip udp bytes x s') was takes;
    settings = refl;
    received = by (is_full_for w.received (length bytes));
  } where
    by : (full : Bool) → AddsAtMostOne w (record w {
      received = if full then w.received else appended w.received (length bytes) (metadata_of ip udp) bytes;
      offered = None;
    })
    by true = inl refl
    by false = inr ((metadata_of ip udp, bytes), contents-appended w.received (length bytes) (metadata_of ip udp) bytes)

  abbrev Came : ChecksumCapabilities → IpRepr → List ℕ → Type 0
  Came caps ip payload = Unit {0}

  arrivals : IsOfArrivals Came Was IsThen
  arrivals = record {
    same = unchanged;
    packet = λ ip payload s was. same_for (with_packet ip payload) (λ v. refl) s was;
    icmpv4 = λ ip message bytes s was. unchanged (with_icmpv4 ip message bytes s) (same_for (with_icmpv4 ip message bytes) (λ v. refl) s was);
    icmpv6 = λ ip message bytes s was. unchanged (with_icmpv6 ip message bytes s) (same_for (with_icmpv6 ip message bytes) (λ v. refl) s was);
    datagram = λ caps cx ip payload udp bytes s s' came is accepts takes was. gets cx ip udp bytes s s' takes was;
    segment = λ caps cx ip payload tcp bytes s came is accepts was.
        unchanged (with_segment cx ip tcp bytes s) (same_for (with_segment cx ip tcp bytes) (λ v. refl) s was);
  }

  module _ {E : Type 0} (moves : E → Move → E → Type 0) (m : ℕ) where
    stays : (s s' : State E) → s'.slots ≡ s.slots → HoldsAt Was s.slots m → HoldsAt IsThen s'.slots m
    stays s s' same was = at_so ⊥ Was IsThen unchanged s'.slots m (subst (λ (slots : Slots). HoldsAt Was slots m) (sym same) was)

    takes_one : (s s' : State E) (answer : Option Bool) → Takes moves s answer s' → HoldsAt Was s.slots m → HoldsAt IsThen s'.slots m
    takes_one s s' None is was = stays s s' (ap (λ (x : State E). x.slots) is.1) was
    takes_one s s' (Some false) is was = stays s s' (ap (λ (x : State E). x.slots) is.3) was
    takes_one s s' (Some true) (frame, mid, taken, read, (content, is, receives, hears)) was =
        subst (λ (slots : Slots). HoldsAt IsThen slots m) (sym receives.2)
        (brings_holds Came ⊥ Was IsThen arrivals m s.host.inner s.slots _ receives.0 (λ ip payload packet ours. tt) receives.1.1 was)

    pub one_at_most : (u : ℤ) (r r' : State E) (answer : Option Bool) → IsUdpAt r.slots m w → IngressStep moves u r answer r' → HasOneMoreAtMost r'.slots m w
    one_at_most u r r' answer is step =
        let end : Found IsThen r'.slots m =
        holds_found IsThen r'.slots m (takes_one (begun u r) r' answer step (found_holds Was r.slots m (Kind.Udp w) is refl)) in
        record {
          new = end.holds.new;
          stands = end.is ∙ ap (λ (s : Socket). Some s) end.holds.is;
          settings = end.holds.settings;
          received = end.holds.received;
        }
