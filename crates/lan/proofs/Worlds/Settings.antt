-- A setting keeps what is said of a host's frames.
use Rattle.std.proofs.Common.{◌≡◌, ℕ, Bool, true, false, cond, List, length, replicate, ◌≤◌, Option, Some, None, IfSome, refl, sym, ap, subst, arith}
use Rattle.std.specs.List.{AllByRecursion, list_any}
use Rattle.iface_ingress.specs.AddressTests.{is_ethernet_unicast}
use Rattle.iface_ingress.specs.EthernetAddress.{EthernetAddress}
use Rattle.iface_ingress.specs.HardwareAddress.{HardwareAddress}
use Rattle.iface_ingress.specs.HardwareAddress.TheVariants as Hardware
use Rattle.iface_ingress.specs.Address.{IsIpAddress}
use Rattle.iface_ingress.specs.IpAddress.{IpAddress}
use Rattle.iface_ingress.specs.IpAddress.TheVariants as Address
use Rattle.wire_address.specs.declared.ip.IpCidr.{IpCidr}
use Rattle.iface_tables.specs.Inner.{InnerValue}
use Rattle.iface_tables.specs.Neighbor.{flushed}
use Rattle.iface_tables.specs.Route.{is_gateway_v4, is_gateway_v6, IsGateway, IsAdded}
use Rattle.iface_tables.specs.declared.route.Route.{Route}
use Rattle.iface_tables.specs.Settings.{hardware_refusal, if_none, is_stranger, with_addresses, with_any_ip, routes_of, with_routes, used}
use Rattle.iface_tables.specs.declared.config.HardwareAddrError.TheVariants as Set
use Rattle.iface_egress.specs.Fragments.{LeftValue}
use Rattle.interface.specs.Host.{HostValue}
use Rattle.interface.specs.Made.{with_inner, with_timeout}
use Rattle.lan.specs.Worlds.AtLink.Kinds.{Setting, other}
use Rattle.lan.specs.Worlds.AtLink.Kinds as Settings
use Rattle.lan.specs.Worlds.AtLink.Answer.{Answer}
use Rattle.lan.specs.Worlds.AtLink.Side.{Side}
use Rattle.lan.specs.Worlds.AtLink.Parties.{Party, Net, party}
use Rattle.lan.specs.Worlds.AtLink.Sets.{SetsTo, Configures, RoutedIf, has_route_room}
use Rattle.lan.specs.Worlds.AtLink.Node.{NodeValue, Nodes, node}
use Rattle.lan.specs.Worlds.Moves.Made.{MadeBy}
use Rattle.lan.specs.Worlds.Link.Frames.{Outgoing, medium_on, BringsFrom}
use Rattle.lan.specs.Worlds.Link.Numbers.{count_numbered}
use Rattle.lan.proofs.Worlds.Link.Routers.{added_routers}
use Rattle.lan.specs.Worlds.Link.Sides.{RoutersAre, IsSound, IsSameKind, IsLeft, IsHostFrame}
use Rattle.lan.specs.Worlds.Events.{HasRange}
use Rattle.lan.specs.Worlds.Joins.{Sends, Receives, AreJoined}
use Rattle.lan.proofs.Worlds.Acts.{IsSettled, HasActed, settled_acts, acted_joins}
use Rattle.lan.proofs.Worlds.Link.Grown.{same_out}

-- SETTINGS THAT LEAVE THE HARDWARE ADDRESS

inner_settled : (s : NodeValue) (i : InnerValue) → i.hardware ≡ s.host.inner.hardware → i.ident ≡ s.host.inner.ident → (IsSound s.host.inner → IsSound i) →
    IsSettled s (record s { host = record s.host { inner = i } })
inner_settled s i hardware ident sound =
    record { sent = refl; waiting = refl; device = refl; left = refl; assemblers = refl; hardware = hardware; ident = ident; sound = sound }

pub flushed_sound : (i : InnerValue) (blocks : List IpCidr) → IsSound i → IsSound (record i { addresses = blocks; neighbors = flushed i.neighbors })
flushed_sound i blocks s =
    record { own = s.own; neighbors = tt; routers = s.routers; widths = record { mtu = s.widths.mtu; ident = s.widths.ident }; checksums = s.checksums }

pub any_sound : (i : InnerValue) (any : Bool) → IsSound i → IsSound (with_any_ip i any)
any_sound i any s = record {
  own = s.own;
  neighbors = s.neighbors;
  routers = s.routers;
  widths = record { mtu = s.widths.mtu; ident = s.widths.ident };
  checksums = s.checksums;
}

pub used_sound : (i : InnerValue) → IsSound i → IsSound (used i)
used_sound i s = record {
  own = s.own;
  neighbors = s.neighbors;
  routers = s.routers;
  widths = record { mtu = s.widths.mtu; ident = s.widths.ident };
  checksums =
      s.checksums;
}

addresses_settled : (s : NodeValue) (blocks : List IpCidr) → IsSettled s (record s { host = with_inner s.host (with_addresses s.host.inner blocks) })
addresses_settled s blocks =
    elim (list_any is_stranger blocks) as
    (λ b. IsSettled s (record s {
      host =
          with_inner s.host (cond b s.host.inner (record s.host.inner { addresses = blocks; neighbors = flushed s.host.inner.neighbors }));
    })) [
      | true ↦ inner_settled s s.host.inner refl refl (λ is. is)
      | false ↦ inner_settled s (record s.host.inner { addresses = blocks; neighbors = flushed s.host.inner.neighbors }) refl refl
          (flushed_sound s.host.inner blocks)
    ]

-- A ROUTE

-- the router of an added route is an address
gateway_router : (r : Route) (any : List ℕ) (router : IpAddress) → IsGateway r any router → IsIpAddress router → IsIpAddress r.via_router
gateway_router r any router is to = subst IsIpAddress (sym is.via) to

added_are : (test : Route → Bool) (any : List ℕ) (router : IpAddress) (old new : List Route) → RoutersAre old → IsIpAddress router →
    IsAdded test (λ r. IsGateway r any router) old new → RoutersAre new
added_are test any router old new are to added =
    subst RoutersAre (sym added.2) (added_routers test old added.0 are (gateway_router added.0 any router added.1 to))

routed_are : (router : IpAddress) (room : Bool) (old new : List Route) → RoutersAre old → IsIpAddress router → RoutedIf room router old new → RoutersAre new
routed_are router false old new are to is = subst RoutersAre (sym is) are
routed_are (Address.Ipv4 router) true old new are to is = added_are is_gateway_v4 (replicate 4 0) (Address.Ipv4 router) old new are to is
routed_are (Address.Ipv6 router) true old new are to is = added_are is_gateway_v6 (replicate 16 0) (Address.Ipv6 router) old new are to is

pub routed_sound : (i : InnerValue) (routes : List Route) (router : IpAddress) (room : Bool) → IsIpAddress router → RoutedIf room router i.routes routes →
    IsSound i → IsSound (with_routes i routes)
routed_sound i routes router room to is s =
    record {
      own = s.own;
      neighbors = s.neighbors;
      routers = routed_are router room i.routes routes s.routers to is;
      widths =
          record { mtu = s.widths.mtu; ident = s.widths.ident };
      checksums = s.checksums;
    }

-- A TIME

timeout_settled : (s : NodeValue) (timeout : ℕ) → IsSettled s (record s { host = with_timeout s.host timeout })
timeout_settled s timeout =
    record { sent = refl; waiting = refl; device = refl; left = refl; assemblers = refl; hardware = refl; ident = refl; sound = used_sound s.host.inner }

-- A HARDWARE ADDRESS

pub node_sound : (i : InnerValue) (own address : EthernetAddress) → i.hardware ≡ Hardware.Ethernet own → length address.0 ≡ 6 → IsSound i →
    IsSound (record i { hardware = Hardware.Ethernet address })
node_sound i own address is six s =
    record { own = six; neighbors = s.neighbors; routers = s.routers; widths = record { mtu = s.widths.mtu; ident = s.widths.ident }; checksums = s.checksums }

same_kind : (own address : EthernetAddress) (to : HardwareAddress) → IsSameKind (Hardware.Ethernet own) to → IsSameKind (Hardware.Ethernet address) to
same_kind own address (Hardware.Ethernet to) is = tt
same_kind own address Hardware.Ip is = absurd is

left_kind : (own address : EthernetAddress) (out : List Outgoing) (l : Option LeftValue) → IfSome l (IsLeft (Hardware.Ethernet own) out) →
    IfSome l (IsLeft (Hardware.Ethernet address) out)
left_kind own address out None is = tt
left_kind own address out (Some l) is = record { sent = is.sent; half = is.half; to = same_kind own address l.to is.to }

module _ (p q : Party) (first most : ℕ) (out others : List Outgoing) (s : NodeValue) (sends : Sends p first s out) (receives : Receives q others s)
    (few : count_numbered out ≤ most) where
  abbrev with_node_address : EthernetAddress → NodeValue
  with_node_address address = record s { host = with_inner s.host (record s.host.inner { hardware = Hardware.Ethernet address }) }

  address_acts : (own address : EthernetAddress) → s.host.inner.hardware ≡ Hardware.Ethernet own → length address.0 ≡ 6 →
      HasActed p q first most out others s (with_node_address address)
  address_acts own address is six = record {
    out_after = out;
    more = same_out _;
    medium = ap medium_on (sym is);
    device = refl;
    sends = record {
      sound = node_sound s.host.inner own address is six sends.sound;
      are_sent = sends.are_sent;
      left_is = left_kind own address out s.host.left (subst (λ (h : HardwareAddress). IfSome s.host.left (IsLeft h out)) is sends.left_is);
      frames = subst (λ (h : HardwareAddress). AllByRecursion (IsHostFrame (medium_on h) out) s.link.sent) is sends.frames;
    };
    receives = record {
      checksums = receives.checksums;
      assemblers_are = receives.assemblers_are;
      waits = subst (λ (h : HardwareAddress). AllByRecursion (BringsFrom (MadeBy q) others h) s.link.waiting) is receives.waits;
    };
    counted = few;
  }

  nothing : HasActed p q first most out others s s
  nothing = settled_acts p q first most out others s s (record {
    sent = refl;
    waiting = refl;
    device = refl;
    left = refl;
    assemblers = refl;
    hardware = refl;
    ident =
        refl;
    sound = λ is. is;
  }) sends receives few

  hardware_by : (hardware : HardwareAddress) (address : EthernetAddress) → s.host.inner.hardware ≡ hardware → length address.0 ≡ 6
      → HasActed p q first most out others s
      (record s {
        host = with_inner s.host
            (if_none (hardware_refusal hardware (Hardware.Ethernet address)) (record s.host.inner { hardware = Hardware.Ethernet address }) s.host.inner);
      })
  hardware_by Hardware.Ip address is six = nothing
  hardware_by (Hardware.Ethernet own) address is six =
      elim (is_ethernet_unicast address) as
      (λ b. HasActed p q first most out others s
      (record s {
        host = with_inner s.host
            (if_none (cond b None (Some Set.NotUnicast)) (record s.host.inner { hardware = Hardware.Ethernet address }) s.host.inner);
      })) [
        | true ↦ address_acts own address is six
        | false ↦ nothing
      ]

  -- EACH SETTING

  set_acts : (setting : Setting) (h : HostValue) → HasRange setting → SetsTo s.host setting h → HasActed p q first most out others s (record s { host = h })
  set_acts (Settings.HardwareAddr address) h six is =
      subst (λ (x : HostValue). HasActed p q first most out others s (record s { host = x })) (sym is) (hardware_by s.host.inner.hardware address refl six.0)
  set_acts (Settings.Addrs blocks) h range is =
      subst (λ (x : HostValue). HasActed p q first most out others s (record s { host = x })) (sym is)
      (settled_acts p q first most out others s (record s { host = with_inner s.host (with_addresses s.host.inner blocks) }) (addresses_settled s blocks)
      sends receives few)
  set_acts (Settings.Route router) h range is =
      subst (λ (x : HostValue). HasActed p q first most out others s (record s { host = x })) (sym is.2)
      (settled_acts p q first most out others s (record s { host = with_inner s.host (with_routes s.host.inner is.0) })
      (inner_settled s (with_routes s.host.inner is.0) refl refl (routed_sound s.host.inner is.0 router (has_route_room router (routes_of s.host.inner)) range is.1))
      sends receives few)
  set_acts (Settings.AnyIp any) h range is =
      subst (λ (x : HostValue). HasActed p q first most out others s (record s { host = x })) (sym is)
      (settled_acts p q first most out others s (record s { host = with_inner s.host (with_any_ip s.host.inner any) })
      (inner_settled s (with_any_ip s.host.inner any) refl refl (any_sound s.host.inner any)) sends receives few)
  set_acts (Settings.ReassemblyTimeout timeout) h range is =
      subst (λ (x : HostValue). HasActed p q first most out others s (record s { host = x })) (sym is)
      (settled_acts p q first most out others s (record s { host = with_timeout s.host timeout }) (timeout_settled s timeout) sends receives few)

-- a setting of one host
pub setting_joins : (firsts most : Side → ℕ) (old new : Nodes) (net : Net) (side : Side) (setting : Setting) (answer : Answer) →
    AreJoined firsts most old net → HasRange setting → Configures (node old side) setting answer (node new side)
    → node new (other side) ≡ node old (other side) → AreJoined firsts most new net
setting_joins firsts most old new net side setting answer j range is rests =
    acted_joins firsts most most old new net j side rests (omega arith)
    (subst (λ (x : NodeValue). HasActed (party net side) (party net (other side)) (firsts side) (most side) (j.out side) (j.out (other side))
    (node old side) x) (sym is.3)
    (set_acts (party net side) (party net (other side)) (firsts side) (most side) (j.out side) (j.out (other side)) (node old side) (j.sends side)
    (j.receives side) (j.counted side) setting is.0 range is.1))
