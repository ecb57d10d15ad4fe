-- What a datagram asks of its packet by the host's settings alone stays wherever a poll has come.
use Rattle.std.proofs.Common.{◌≡◌, ℕ, Bool, not, ◌&&◌, ◌||◌, ℤ, List, Option, Some, None, refl, sym, ap, ◌∙◌, subst}
use Rattle.net_base.specs.Device.{Move}
use Rattle.ip_wire.specs.AddressTests.{is_loopback, is_multicast, is_unspecified}
use Rattle.ip_wire.specs.Ip.{destination_of, source_of}
use Rattle.ip_wire.specs.IpAddress.{IpAddress}
use Rattle.ip_wire.specs.IpCidr.{IpCidr}
use Rattle.ip_wire.specs.IpRepr.{IpRepr}
use Rattle.socket_datagram.specs.Udp.{UdpSettings, TakesDatagram}
use Rattle.socket_datagram.specs.declared.udp.UdpMetadata.{UdpMetadata}
use Rattle.iface_ingress.specs.Packet.{PacketValue}
use Rattle.iface_tables.specs.Inner.{InnerValue, at_instant, context_of, is_foreign_loopback, is_limited_broadcast, may_be_source}
use Rattle.iface_tables.specs.Source.{source_for}
use Rattle.iface_egress.specs.Departing.{HasSettingsOf}
use Rattle.iface_egress.specs.Plan.{may_solicit, may_be_source_on, never_leaves}
use Rattle.interface.specs.State.{State}
use Rattle.lan.specs.Worlds.PollSteps.{Reaches}
use Rattle.proof_stack.specs.Progress.NeighborResolution.{MayAsk}
use Rattle.proof_stack.proofs.Polls.Stays.{broadcast, foreign, steps_same}

module _ (i j : InnerValue) (same : HasSettingsOf i j) where
  comes : (source destination : IpAddress) → may_be_source j source destination ≡ may_be_source i source destination
  comes source destination = λ k.
      not (broadcast i j same source k || (is_multicast source
      || (is_unspecified source && (same.host_requirements k && not (is_limited_broadcast destination)))))
      && (not (is_loopback source) || is_loopback destination)

  stays_here : (header : IpRepr) → never_leaves j header ≡ never_leaves i header
  stays_here header =
      ap (λ (b : Bool). is_unspecified (destination_of header) || (b || not (may_be_source j (source_of header) (destination_of header))))
      (foreign i j same (destination_of header))
      ∙ ap (λ (b : Bool). is_unspecified (destination_of header)
      || (is_foreign_loopback i (destination_of header) || not b)) (comes (source_of header) (destination_of header))

  asks_by : (o : Option IpAddress) (hop : IpAddress) → may_be_source_on o j hop ≡ may_be_source_on o i hop
  asks_by None hop = refl
  asks_by (Some source) hop = comes source hop

  asks_so : (hop : IpAddress) → may_solicit j hop ≡ may_solicit i hop
  asks_so hop =
      ap (λ (bs : List IpCidr). may_be_source_on (source_for bs hop) j hop) same.addresses ∙ asks_by (source_for i.addresses hop) hop

  still_may_ask : (settings : UdpSettings) (d : UdpMetadata × List ℕ) (hop : IpAddress) (p : PacketValue) → MayAsk i settings d hop p → MayAsk j settings d hop p
  still_may_ask settings d hop p may = record {
    takes = subst (λ (bs : List IpCidr). TakesDatagram (context_of (record i { addresses = bs })) settings d p) (sym same.addresses) may.takes;
    may = stays_here p.header ∙ may.may;
    asks = asks_so hop ∙ may.asks;
  }

pub may_ask_throughout : {E : Type 0} (moves : E → Move → E → Type 0) (t u now : ℤ) (s x : State E) (settings : UdpSettings) (d : UdpMetadata × List ℕ)
    (hop : IpAddress) (p : PacketValue) → MayAsk (at_instant t s.host.inner) settings d hop p → Reaches moves u s x
    → MayAsk (at_instant now x.host.inner) settings d hop p
may_ask_throughout {E} moves t u now s x settings d hop p may reaches =
    let same : HasSettingsOf s.host.inner x.host.inner = steps_same moves u reaches.count s x reaches.steps in
    still_may_ask (at_instant t s.host.inner) (at_instant now x.host.inner) (record {
      hardware = same.hardware;
      mtu = same.mtu;
      checksums = same.checksums;
      addresses = same.addresses;
      isn_key = same.isn_key;
      any_ip = same.any_ip;
      groups = same.groups;
      host_requirements = same.host_requirements;
      routes = same.routes;
    }) settings d hop p may
