-- What calls and settings leave of a host.
use Rattle.std.proofs.Common.{◌≡◌, ℕ, Bool, true, false, if◌then◌else◌, List, length, Option, Some, None, refl, sym, ap, ◌∙◌, subst}
use Rattle.std.specs.Prelude.{slice_get}
use Rattle.std.specs.List.{list_any}
use Rattle.std.proofs.lemmas.List.{length-set}
use Rattle.iface_ingress.specs.EthernetAddress.{EthernetAddress}
use Rattle.iface_ingress.specs.HardwareAddress.{HardwareAddress}
use Rattle.iface_ingress.specs.HardwareAddress.TheVariants as Hardware
use Rattle.wire_address.specs.declared.ip.IpCidr.{IpCidr}
use Rattle.interface.specs.Host.{HostValue}
use Rattle.interface.specs.Made.{with_inner, with_timeout}
use Rattle.iface_egress.specs.Set.{with_socket}
use Rattle.iface_egress.specs.declared.socket_set.Item.{Item}
use Rattle.iface_egress.specs.declared.socket_set.SocketStorage.{SocketStorage}
use Rattle.iface_tables.specs.Inner.{InnerValue, context_of, drawn}
use Rattle.iface_tables.specs.Settings.{hardware_refusal, if_none, with_hardware, with_addresses, is_stranger}
use Rattle.iface_tables.specs.declared.config.HardwareAddrError.{HardwareAddrError}
use Rattle.lan.specs.Worlds.AtLink.Call.{SocketCall}
use Rattle.lan.specs.Worlds.AtLink.Kinds.{Setting}
use Rattle.lan.specs.Worlds.AtLink.Kinds as Sets
use Rattle.lan.specs.Worlds.AtLink.Answer.{Answer}
use Rattle.lan.specs.Worlds.AtLink.Calls.{Did}
use Rattle.lan.specs.Worlds.AtLink.Node.{NodeValue}
use Rattle.lan.specs.Worlds.AtLink.Does.{does, draws, host_after, DidAt, ItemDoes, SlotDoes, Does}
use Rattle.lan.specs.Worlds.AtLink.Sets.{SetsTo, Configures}
use Rattle.sockets.specs.declared.socket.Socket.{Socket}
use Rattle.tcp_block.specs.State.{State}
use Rattle.lan.specs.Worlds.Hosts.Proceeds.{has_addresses}

-- the same host, as far as time, medium, MTU, checksums and silence go
pub record IsSameClock (i i' : InnerValue) : Type 0 where
  pub instant : i'.instant ≡ i.instant
  pub mtu : i'.mtu ≡ i.mtu
  pub checksums : i'.checksums ≡ i.checksums
  pub medium : has_addresses i'.hardware ≡ has_addresses i.hardware
  pub silent : i'.neighbors.silent ≡ i.neighbors.silent

pub same_clock : (i : InnerValue) → IsSameClock i i
same_clock i = record { instant = refl; mtu = refl; checksums = refl; medium = refl; silent = refl }

clock_where : (i j k : InnerValue) → k ≡ j → IsSameClock i j → IsSameClock i k
clock_where i j k is same = subst (IsSameClock i) (sym is) same

-- the link stays, and there are as many slots as before
pub record IsQuietAct (s s' : NodeValue) : Type 0 where
  pub clock : IsSameClock s.host.inner s'.host.inner
  pub slots : length s'.slots ≡ length s.slots
  pub link : s'.link ≡ s.link

-- CALLS

drawn_same : (draw : Bool) (h : HostValue) → IsSameClock h.inner (if draw then record h { inner = drawn h.inner } else h).inner
drawn_same true h = record { instant = refl; mtu = refl; checksums = refl; medium = refl; silent = refl }
drawn_same false h = same_clock h.inner

module _ (s s' : NodeValue) (i : ℕ) (call : SocketCall) (answer : Answer) (found : Option State) where
  did_quiet : (item : Item Socket) (d : Option (Did Socket)) → DidAt s i item call d answer found s' → IsQuietAct s s'
  did_quiet item None at = absurd at
  did_quiet item (Some d) at = record {
    clock = clock_where s.host.inner (host_after s.host item.socket call).inner s'.host.inner (ap (λ (x : NodeValue). x.host.inner) at.2)
        (drawn_same (draws (context_of s.host.inner) item.socket call) s.host);
    slots = ap (λ (x : NodeValue). length x.slots) at.2 ∙ length-set s.slots i (with_socket item d.socket);
    link = ap (λ (x : NodeValue). x.link) at.2;
  }

  item_quiet : (o : Option (Item Socket)) → ItemDoes s i o call answer found s' → IsQuietAct s s'
  item_quiet None at = absurd at
  item_quiet (Some item) at = did_quiet item (does (context_of s.host.inner) item.socket call) at

  slot_quiet : (o : Option (SocketStorage Socket)) → SlotDoes s i o call answer found s' → IsQuietAct s s'
  slot_quiet None at = absurd at
  slot_quiet (Some slot) at = item_quiet slot.inner at

  pub call_quiet : Does s i call answer found s' → IsQuietAct s s'
  call_quiet at = slot_quiet (slice_get s.slots i) at

-- SETTINGS

refused_same : (i : InnerValue) (a : EthernetAddress) (own : HardwareAddress) (refusal : Option HardwareAddrError)
    → i.hardware ≡ own → hardware_refusal own (Hardware.Ethernet a) ≡ refusal → IsSameClock i (if_none refusal (record i { hardware = Hardware.Ethernet a }) i)
refused_same i a own (Some e) own_is is = same_clock i
refused_same i a (Hardware.Ethernet own) None own_is is =
    record { instant = refl; mtu = refl; checksums = refl; medium = sym (ap has_addresses own_is); silent = refl }
refused_same i a Hardware.Ip None own_is is = absurd (cc)

hardware_same : (i : InnerValue) (a : EthernetAddress) → IsSameClock i (with_hardware i (Hardware.Ethernet a))
hardware_same i a = refused_same i a i.hardware (hardware_refusal i.hardware (Hardware.Ethernet a)) refl refl

addresses_by : (strange : Bool) (i : InnerValue) (blocks : List IpCidr)
    → IsSameClock i (if strange then i else record i { addresses = blocks; neighbors = Rattle.iface_tables.specs.Neighbor.flushed i.neighbors })
addresses_by true i blocks = same_clock i
addresses_by false i blocks = record { instant = refl; mtu = refl; checksums = refl; medium = refl; silent = refl }

pub setting_same : (h h' : HostValue) (setting : Setting) → SetsTo h setting h' → IsSameClock h.inner h'.inner
setting_same h h' (Sets.HardwareAddr address) is =
    clock_where h.inner (with_hardware h.inner (Hardware.Ethernet address)) h'.inner (ap (λ (x : HostValue). x.inner) is) (hardware_same h.inner address)
setting_same h h' (Sets.Addrs blocks) is =
    clock_where h.inner (with_addresses h.inner blocks) h'.inner (ap (λ (x : HostValue). x.inner) is)
    (addresses_by (list_any is_stranger blocks) h.inner blocks)
setting_same h h' (Sets.Route router) is =
    let same : h'.inner ≡ record h.inner { routes = is.0 } = ap (λ (x : HostValue). x.inner) is.2 in
    clock_where h.inner (record h.inner { routes = is.0 }) h'.inner same (record { instant = refl; mtu = refl; checksums = refl; medium = refl; silent = refl })
setting_same h h' (Sets.AnyIp any) is =
    clock_where h.inner (with_inner h (Rattle.iface_tables.specs.Settings.with_any_ip h.inner any)).inner h'.inner (ap (λ (x : HostValue). x.inner) is)
    (record { instant = refl; mtu = refl; checksums = refl; medium = refl; silent = refl })
setting_same h h' (Sets.ReassemblyTimeout timeout) is =
    clock_where h.inner (with_timeout h timeout).inner h'.inner (ap (λ (x : HostValue). x.inner) is)
    (record { instant = refl; mtu = refl; checksums = refl; medium = refl; silent = refl })

pub setting_quiet : (s s' : NodeValue) (setting : Setting) (answer : Answer) → Configures s setting answer s' → IsQuietAct s s'
setting_quiet s s' setting answer at =
    let is = at.3 in
    record {
      clock = clock_where s.host.inner at.0.inner s'.host.inner (ap (λ (x : NodeValue). x.host.inner) is) (setting_same s.host at.0 setting at.1);
      slots = ap (λ (x : NodeValue). length x.slots) is;
      link = ap (λ (x : NodeValue). x.link) is;
    }
