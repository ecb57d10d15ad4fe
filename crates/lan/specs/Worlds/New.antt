-- Why two hosts make no world. The first test that holds says why.
use Rattle.std.specs.Prelude.{ℕ, codes, ◌≡◌, ◌⊎◌, ◌+◌, ◌==◌, not, ◌&&◌, Bool, true, false, if◌then◌else◌, List, [], ◌∷◌, length, Option, None, Some, is_some}
use Rattle.std.specs.List.{list_all}
use Rattle.socket_datagram.specs.SocketValue.{has_packets, due}
use Rattle.iface_egress.specs.declared.socket_set.SocketStorage.{SocketStorage}
use Rattle.iface_egress.specs.declared.socket_set.Item.{Item}
use Rattle.iface_tables.specs.Settings.{is_of_medium, is_mtu}
use Rattle.net_base.specs.Capabilities.{ip_mtu}
use Rattle.net_base.specs.Checksum.{Checksum}
use Rattle.net_base.specs.Checksum.TheVariants as On
use Rattle.net_base.specs.ChecksumCapabilities.{ChecksumCapabilities}
use Rattle.sockets.specs.PollAt.{PollAt}
use Rattle.sockets.specs.PollAt.TheVariants as At
use Rattle.sockets.specs.declared.socket.Socket.{Socket}
use Rattle.sockets.specs.declared.socket.Socket.TheVariants as Is
use Rattle.tcp_block.specs.RecvError.{RecvError}
use Rattle.tcp_block.specs.RecvError.TheVariants as Recv
use Rattle.tcp_block.specs.Calls.{recv_refusal}
use Rattle.tcp_block.specs.Value.{TcpValue, room_of}
use Rattle.sockets.specs.TcpStates.{is_closed}
use Rattle.lan.specs.Worlds.AtLink.Socket.{local_in}
use Rattle.lan.specs.Worlds.AtLink.Node.{NodeValue}
use Rattle.lan.specs.declared.error.WorldError.{WorldError}
use Rattle.lan.specs.declared.error.WorldError.TheVariants as Since

-- each host's hardware address is of either device's medium, so there is one medium
abbrev pub has_one_medium : NodeValue → NodeValue → Bool
has_one_medium a b =
    is_of_medium a.host.inner.hardware a.link.capabilities.medium && is_of_medium a.host.inner.hardware b.link.capabilities.medium
    && is_of_medium b.host.inner.hardware b.link.capabilities.medium

abbrev pub is_both : Checksum → Bool
is_both On.Both = true
is_both On.Rx = false
is_both On.Tx = false
is_both On.None = false

-- every checksum is computed in what is sent and verified in what is received
abbrev pub are_on : ChecksumCapabilities → Bool
are_on c = is_both c.ipv4 && is_both c.udp && is_both c.tcp && is_both c.icmpv4 && is_both c.icmpv6

abbrev pub has_checksums : NodeValue → Bool
has_checksums s = are_on s.link.capabilities.checksum && are_on s.host.inner.checksums

abbrev pub has_mtu : NodeValue → Bool
has_mtu s = is_mtu (ip_mtu s.link.capabilities) && (s.host.inner.mtu == ip_mtu s.link.capabilities)

-- both buffers of a TCP socket have room
abbrev pub has_buffers : Socket → Bool
has_buffers (Is.Tcp v) = not (room_of v.received == 0) && not (length v.queued.queue + length v.queued.free == 0)
has_buffers (Is.Raw v) = true
has_buffers (Is.Icmp v) = true
has_buffers (Is.Udp v) = true
has_buffers (Is.Dhcpv4 v) = true
has_buffers (Is.Dns v) = true

abbrev pub is_no_socket : Option RecvError → Bool
is_no_socket (Some Recv.InvalidState) = true
is_no_socket (Some Recv.Finished) = false
is_no_socket None = false

-- CLOSED and without endpoints, with nothing queued; a look for bytes answers that there is no connection
abbrev pub is_unopened : TcpValue → Bool
is_unopened v =
    is_closed v.tcb.state && (v.tcb.names.listen.port == 0) && not (is_some (local_in v.tcb.names.pair))
    && (length v.queued.queue == 0) && is_no_socket (recv_refusal v)

-- it has nothing to send
abbrev pub is_ingress : PollAt → Bool
is_ingress At.Ingress = true
is_ingress At.Now = false
is_ingress (At.Time instant) = false

-- nothing came or is queued; a client of DHCP or DNS counts as used, since it sends by itself
abbrev pub is_unused : Socket → Bool
is_unused (Is.Raw v) = not (has_packets v.received) && is_ingress (due v.queued)
is_unused (Is.Icmp v) = not (has_packets v.received) && is_ingress (due v.queued)
is_unused (Is.Udp v) = not (has_packets v.received) && is_ingress (due v.queued)
is_unused (Is.Tcp v) = is_unopened v
is_unused (Is.Dhcpv4 v) = false
is_unused (Is.Dns v) = false

-- what holds of the socket at a slot, if there is one
abbrev pub of_item : (Socket → Bool) → Option (Item Socket) → Bool
of_item test None = true
of_item test (Some item) = test item.socket

abbrev pub of_slot : (Socket → Bool) → SocketStorage Socket → Bool
of_slot test slot = of_item test slot.inner

abbrev pub of_each : (Socket → Bool) → NodeValue → Bool
of_each test s = list_all (of_slot test) s.slots

abbrev pub is_empty : {X : Type 0} → List X → Bool
is_empty xs = length xs == 0

-- Nothing ran at the host, no frame was sent or waits, and no socket was used. One that does what is asked of a host on a network of many makes
-- no world: in it two are alone at a link.
abbrev pub is_fresh : NodeValue → Bool
is_fresh s =
    s.host.inner.initial && is_empty s.link.sent && is_empty s.link.waiting && of_each is_unused s && not s.host.inner.host_requirements

abbrev pub first_error : List (Bool × WorldError) → Option WorldError
first_error [] = None
first_error (test ∷ tests) = if test.0 then Some test.1 else first_error tests

-- but for lack of memory
abbrev pub new_error : NodeValue → NodeValue → Option WorldError
new_error a b =
    first_error (
    (not (has_one_medium a b), Since.Media)
    ∷ (not (has_checksums a && has_checksums b), Since.Checksums)
    ∷ (not (has_mtu a && has_mtu b), Since.Mtu)
    ∷ (not (of_each has_buffers a && of_each has_buffers b), Since.Buffers)
    ∷ (not (is_fresh a && is_fresh b), Since.NotFresh)
    ∷ []
    )

-- an error is that which there must be, or lack of memory where there must be none
abbrev pub MayFail : NodeValue → NodeValue → WorldError → Type 0
MayFail a b error = (new_error a b ≡ Some error) ⊎ ((new_error a b ≡ None) × (error ≡ Since.Memory))

-- what each says
abbrev pub world_error_text : WorldError → List ℕ
world_error_text Since.Media = codes "two media"
world_error_text Since.Checksums = codes "a checksum is off"
world_error_text Since.Mtu = codes "an IP MTU is out of 576 to 65535 bytes"
world_error_text Since.Buffers = codes "a TCP buffer of no bytes"
world_error_text Since.NotFresh = codes "a host was used before, has a client of DHCP or DNS, or host requirements"
world_error_text Since.Memory = codes "out of memory"
