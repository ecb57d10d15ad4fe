-- A host without host requirements that tells nothing of multicast groups stays one in a call and a setting.
use Rattle.std.proofs.Common.{◌≡◌, ℕ, Bool, true, false, if◌then◌else◌, List, Option, None, Some, refl, sym, ap, ◌∙◌}
use Rattle.std.specs.List.{list_any}
use Rattle.ip_wire.specs.HardwareAddress.{HardwareAddress}
use Rattle.ip_wire.specs.HardwareAddress.TheVariants as Hardware
use Rattle.ip_wire.specs.IpCidr.{IpCidr}
use Rattle.interface.specs.Host.{HostValue, ReportsValue}
use Rattle.interface.specs.Made.{with_inner}
use Rattle.interface.specs.Reports.{followed_if, with_followed, with_own_addresses}
use Rattle.interface.specs.HardwareAddrError.{HardwareAddrError}
use Rattle.interface.specs.Settings.{hardware_refusal, if_none, is_stranger, with_addresses}
use Rattle.iface_tables.specs.Neighbor.{flushed}
use Rattle.iface_egress.specs.Inner.{InnerValue, context_of, drawn}
use Rattle.iface_egress.specs.declared.socket_set.Item.{Item}
use Rattle.iface_egress.specs.declared.socket_set.SocketStorage.{SocketStorage}
use Rattle.sockets.specs.declared.socket.Socket.{Socket}
use Rattle.lan.specs.Worlds.AtLink.Calling.{ItemCalls, SlotCalls, draws_by}
use Rattle.lan.specs.Worlds.AtLink.Kinds.{Kind, Setting}
use Rattle.lan.specs.Worlds.AtLink.Kinds as Sets
use Rattle.lan.specs.Worlds.AtLink.Sets.{SetsTo}
use Rattle.lan.specs.declared.at_link.answer.Taken.{Taken}

abbrev IsSilent : HostValue → Type 0
IsSilent h = (h.reports ≡ None) × (h.inner.host_requirements ≡ false)

silent_as : (h h' : HostValue) → h'.reports ≡ h.reports → h'.inner.host_requirements ≡ h.inner.host_requirements → IsSilent h → IsSilent h'
silent_as h h' same alone is = (same ∙ is.0, alone ∙ is.1)

-- CALLS

drawn_so : (draws : Bool) (h : HostValue) → (if draws then with_inner h (drawn h.inner) else h).reports ≡ h.reports
drawn_so true h = refl
drawn_so false h = refl

drawn_alone : (draws : Bool) (h : HostValue) → (if draws then with_inner h (drawn h.inner) else h).inner.host_requirements ≡ h.inner.host_requirements
drawn_alone true h = refl
drawn_alone false h = refl

item_silent : (h : HostValue) (ps : List (SocketStorage Socket)) (i : ℕ) (kind : Kind) (o : Option (Item Socket)) (said : Option Taken) (h' : HostValue)
    (ps' : List (SocketStorage Socket)) → ItemCalls h ps i kind o said h' ps' → IsSilent h → IsSilent h'
item_silent h ps i kind None said h' ps' is = silent_as h h' (ap (λ (x : HostValue). x.reports) is.1) (ap (λ (x : HostValue). x.inner.host_requirements) is.1)
item_silent h ps i kind (Some item) said h' ps' is =
    silent_as h h' (ap (λ (x : HostValue). x.reports) is.2 ∙ drawn_so (draws_by (context_of h.inner) item.socket kind) h)
    (ap (λ (x : HostValue). x.inner.host_requirements) is.2 ∙ drawn_alone (draws_by (context_of h.inner) item.socket kind) h)

pub call_silent : (h : HostValue) (ps : List (SocketStorage Socket)) (i : ℕ) (kind : Kind) (o : Option (SocketStorage Socket)) (said : Option Taken)
    (h' : HostValue) (ps' : List (SocketStorage Socket)) → SlotCalls h ps i kind o said h' ps' → IsSilent h → IsSilent h'
call_silent h ps i kind None said h' ps' is = silent_as h h' (ap (λ (x : HostValue). x.reports) is.1) (ap (λ (x : HostValue). x.inner.host_requirements) is.1)
call_silent h ps i kind (Some slot) said h' ps' is = item_silent h ps i kind slot.inner said h' ps' is

-- SETTINGS

hardware_alone : (refusal : Option HardwareAddrError) (i : InnerValue) (address : HardwareAddress)
    → (if_none refusal (record i { hardware = address }) i).host_requirements ≡ i.host_requirements
hardware_alone None i address = refl
hardware_alone (Some e) i address = refl

addresses_alone : (strange : Bool) (i : InnerValue) (blocks : List IpCidr)
    → (if strange then i else record i { addresses = blocks; neighbors = flushed i.neighbors }).host_requirements ≡ i.host_requirements
addresses_alone true i blocks = refl
addresses_alone false i blocks = refl

pub set_silent : (h h' : HostValue) (setting : Setting) → SetsTo h setting h' → IsSilent h → IsSilent h'
set_silent h h' (Sets.HardwareAddr address) is =
    silent_as h h' (ap (λ (x : HostValue). x.reports) is)
    (ap (λ (x : HostValue). x.inner.host_requirements) is
    ∙ hardware_alone (hardware_refusal h.inner.hardware (Hardware.Ethernet address)) h.inner (Hardware.Ethernet address))
set_silent h h' (Sets.Addrs blocks) is =
    silent_as h h' (ap (λ (x : HostValue). x.reports) is)
    (ap (λ (x : HostValue). x.inner.host_requirements) is ∙ addresses_alone (list_any is_stranger blocks) h.inner blocks)
set_silent h h' (Sets.Route router) is = silent_as h h' (ap (λ (x : HostValue). x.reports) is.2) (ap (λ (x : HostValue). x.inner.host_requirements) is.2)
set_silent h h' (Sets.AnyIp any) is = silent_as h h' (ap (λ (x : HostValue). x.reports) is) (ap (λ (x : HostValue). x.inner.host_requirements) is)
set_silent h h' (Sets.ReassemblyTimeout timeout) is =
    silent_as h h' (ap (λ (x : HostValue). x.reports) is) (ap (λ (x : HostValue). x.inner.host_requirements) is)

-- its addresses are set, and nothing else
pub own_silently : (h : HostValue) (blocks : List IpCidr) → h.reports ≡ None → with_own_addresses h blocks ≡ with_inner h (with_addresses h.inner blocks)
own_silently h blocks none =
    by (record h.inner { addresses = blocks; neighbors = flushed h.inner.neighbors }) (list_any is_stranger blocks)
  where
    followed : (i : InnerValue) → with_followed h i ≡ with_inner h i
    followed i = ap (λ (r : Option ReportsValue). record h { inner = i; reports = r }) (ap (followed_if i) none ∙ sym none)

    by : (moved : InnerValue) (strange : Bool)
        → (if strange then h else with_followed h (if strange then h.inner else moved)) ≡ with_inner h (if strange then h.inner else moved)
    by moved true = refl
    by moved false = followed moved
