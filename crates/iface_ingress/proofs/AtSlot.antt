-- A slot that is changed where it stands.
use Rattle.std.proofs.Common.{◌≡◌, ℕ, Bool, List, Option, None, Some, refl, sym, ap, subst}
use Rattle.std.specs.Prelude.{slice_get, slice_set}
use Rattle.std.proofs.Common.{◌∙◌}
use Rattle.std.proofs.lemmas.List.{set-get_or}
use Rattle.std.proofs.lemmas.Option.{get_or_from_slice_get}
use Rattle.ip_wire.specs.IpRepr.{IpRepr}
use Rattle.ip_wire.specs.UdpRepr.{UdpRepr}
use Rattle.sockets.specs.Context.{ContextValue}
use Rattle.sockets.specs.declared.socket.Socket.{Socket}
use Rattle.sockets.specs.Packet.{PacketValue}
use Rattle.iface_egress.specs.declared.socket_set.SocketStorage.{SocketStorage}
use Rattle.iface_ingress.specs.Datagrams.{SlotTakes, GivenIn, GivenAt, IsDelivered}
use Rattle.iface_ingress.specs.Delivered.{Slots, datagram_slot, with_change, changed_in, changed_at, answer_in, answer_by, answer_at, passes}
use Rattle.iface_ingress.specs.Delivered.{passes_by, passes_at}

pub changed_here : (f : Socket → Socket) (slots : Slots) (at : ℕ) (slot : SocketStorage Socket) → slice_get slots at ≡ Some slot →
    changed_at f (Some at) slots ≡ slice_set slots at (with_change f slot)
changed_here f slots at slot got = ap (λ o. changed_in f (Some at) o slots) got

pub answer_here : (f : Socket → Option PacketValue) (slots : Slots) (at : ℕ) (slot : SocketStorage Socket) → slice_get slots at ≡ Some slot →
    answer_at f (Some at) slots ≡ answer_in f slot.inner
answer_here f slots at slot got = ap (λ o. answer_by f o) got

pub passes_here : (f : Socket → Bool) (slots : Slots) (at : ℕ) (slot : SocketStorage Socket) → slice_get slots at ≡ Some slot →
    passes_at f (Some at) slots ≡ passes f slot
passes_here f slots at slot got = ap (λ o. passes_by f o) got

-- a slot that is put back as it was
pub same_here : (slots : Slots) (at : ℕ) (slot other : SocketStorage Socket) → slice_get slots at ≡ Some slot → other ≡ slot →
    slice_set slots at other ≡ slots
same_here slots at slot other got same =
    ap (λ (x : SocketStorage Socket). slice_set slots at x) same ∙
    subst (λ (x : SocketStorage Socket). slice_set slots at x ≡ slots) (get_or_from_slice_get slots at slot slot got) (set-get_or slots at slot)

pub given_here : (cx : ContextValue) (ip : IpRepr) (udp : UdpRepr) (bytes : List ℕ) (slots : Slots) (at : ℕ) (slot slot' : SocketStorage Socket) →
    slice_get slots at ≡ Some slot → SlotTakes cx ip udp bytes slot slot' → GivenAt cx ip udp bytes (Some at) slots (slice_set slots at slot')
given_here cx ip udp bytes slots at slot slot' got takes =
    subst (λ (o : Option (SocketStorage Socket)). GivenIn cx ip udp bytes at o slots (slice_set slots at slot')) (sym got) (slot', takes, refl)

pub delivered_at : (cx : ContextValue) (ip : IpRepr) (udp : UdpRepr) (bytes : List ℕ) (slots qs : Slots) (at : ℕ) →
    datagram_slot cx ip udp slots ≡ Some at → GivenAt cx ip udp bytes (Some at) slots qs → IsDelivered cx ip udp bytes slots qs
delivered_at cx ip udp bytes slots qs at is given =
    subst (λ (o : Option ℕ). GivenAt cx ip udp bytes o slots qs) (sym is) given

pub delivered_nowhere : (cx : ContextValue) (ip : IpRepr) (udp : UdpRepr) (bytes : List ℕ) (slots : Slots) → datagram_slot cx ip udp slots ≡ None →
    IsDelivered cx ip udp bytes slots slots
delivered_nowhere cx ip udp bytes slots is = subst (λ (o : Option ℕ). GivenAt cx ip udp bytes o slots slots) (sym is) refl
