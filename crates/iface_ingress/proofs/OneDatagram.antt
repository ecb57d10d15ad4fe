-- What a datagram leaves at the sockets is determined.
use Rattle.std.proofs.Common.{◌≡◌, ℕ, List, Option, Some, None, sym, ap, ◌∙◌}
use Rattle.std.specs.Prelude.{slice_set}
use Rattle.ip_wire.specs.IpRepr.{IpRepr}
use Rattle.ip_wire.specs.UdpRepr.{UdpRepr}
use Rattle.sockets.specs.Context.{ContextValue}
use Rattle.sockets.specs.declared.socket.Socket.{Socket}
use Rattle.sockets.specs.declared.socket.Socket.TheVariants as Kind
use Rattle.sockets.proofs.DhcpOneMessage as Dhcps
use Rattle.sockets.specs.DhcpValue.{DhcpValue}
use Rattle.sockets.proofs.DnsOneVerdict as Dnss
use Rattle.sockets.specs.DnsValue.{DnsValue}
use Rattle.iface_egress.specs.declared.socket_set.Item.{Item}
use Rattle.iface_egress.specs.declared.socket_set.SocketStorage.{SocketStorage}
use Rattle.iface_tables.specs.Best.{at_index}
use Rattle.iface_ingress.specs.Datagrams.{TakesDatagram, ItemTakes, SlotTakes, GivenIn, GivenAt, IsDelivered}
use Rattle.iface_ingress.specs.Delivered.{Slots, datagram_slot}

module _ (cx : ContextValue) (ip : IpRepr) (udp : UdpRepr) (bytes : List ℕ) where
  one_socket : (s p q : Socket) → TakesDatagram cx ip udp bytes s p → TakesDatagram cx ip udp bytes s q → p ≡ q
  one_socket (Kind.Raw v) p q one other = one ∙ sym other
  one_socket (Kind.Icmp v) p q one other = one ∙ sym other
  one_socket (Kind.Udp v) p q one other = one ∙ sym other
  one_socket (Kind.Tcp v) p q one other = one ∙ sym other
  one_socket (Kind.Dhcpv4 v) p q one other =
      one.1 ∙ ap (λ (w : DhcpValue). Kind.Dhcpv4 w) (Dhcps.one_processed cx.instant v one.0 other.0 ip udp bytes one.2 other.2) ∙ sym other.1
  one_socket (Kind.Dns v) p q one other =
      one.1 ∙ ap (λ (w : DnsValue). Kind.Dns w) (Dnss.one_processed cx.instant v one.0 other.0 ip udp bytes one.2 other.2) ∙ sym other.1

  one_item : (o p q : Option (Item Socket)) → ItemTakes cx ip udp bytes o p → ItemTakes cx ip udp bytes o q → p ≡ q
  one_item None p q one other = one ∙ sym other
  one_item (Some item) p q one other =
      one.2 ∙ ap (λ (s : Socket). Some (record item { socket = s })) (one_socket item.socket one.0 other.0 one.1 other.1) ∙ sym other.2

  one_slot : (p q r : SocketStorage Socket) → SlotTakes cx ip udp bytes p q → SlotTakes cx ip udp bytes p r → q ≡ r
  one_slot p q r one other = let same = one_item p.inner q.inner r.inner one other in λ k. record { inner = same k }

  one_in : (at : ℕ) (o : Option (SocketStorage Socket)) (slots p q : Slots) → GivenIn cx ip udp bytes at o slots p → GivenIn cx ip udp bytes at o slots q →
      p ≡ q
  one_in at None slots p q one other = one ∙ sym other
  one_in at (Some slot) slots p q one other =
      one.2 ∙ ap (λ (x : SocketStorage Socket). slice_set slots at x) (one_slot slot one.0 other.0 one.1 other.1) ∙ sym other.2

  one_at : (at : Option ℕ) (slots p q : Slots) → GivenAt cx ip udp bytes at slots p → GivenAt cx ip udp bytes at slots q → p ≡ q
  one_at None slots p q one other = one ∙ sym other
  one_at (Some at) slots p q one other = one_in at (at_index (Some at) slots) slots p q one other

  pub one_delivered : (slots p q : Slots) → IsDelivered cx ip udp bytes slots p → IsDelivered cx ip udp bytes slots q → p ≡ q
  one_delivered slots p q one other = one_at (datagram_slot cx ip udp slots) slots p q one other
