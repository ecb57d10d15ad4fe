-- Whoever something arrived for is found by the keys that it tells.
use Rattle.std.proofs.Common.{◌≡◌, ◌⊎◌, inl, inr, ℕ, not, nat_lt, if◌then◌else◌, Bool, true, false, List, [], ◌∷◌, length, Some, None, is_some, position, refl, sym, ap, ◌∙◌, arith}
use Rattle.std.specs.List.{list_any, position_or_len}
use Rattle.std.proofs.lemmas.Bool.{and_parts}
use Rattle.ip_wire.specs.IpRepr.{IpRepr}
use Rattle.ip_wire.specs.TcpHeader.{TcpHeader}
use Rattle.ip_wire.specs.UdpRepr.{UdpRepr}
use Rattle.sockets.specs.Context.{ContextValue}
use Rattle.sockets.specs.Keys.{key_of, of_clients, of_listeners, of_port, of_ports}
use Rattle.sockets.specs.Socket.{accepts_datagram, accepts_segment}
use Rattle.sockets.specs.TcpStates.{is_listening}
use Rattle.sockets.specs.declared.socket.Socket.{Socket}
use Rattle.sockets.specs.declared.socket.Socket.TheVariants as Kind
use Rattle.sockets.proofs.Found.{of_connection, of_datagram, of_segment}
use Rattle.iface_ingress.specs.Delivered.{is_connected}

either : (a b k : ℕ) → (k ≡ a) ⊎ (k ≡ b) → (k ≡ a) ⊎ (Some b ≡ Some k)
either a b k (inl one) = inl one
either a b k (inr other) = inr (ap Some (sym other))

pub of_readers : (cx : ContextValue) (s : Socket) (ip : IpRepr) (udp : UdpRepr) → accepts_datagram cx s ip udp ≡ true
    → (key_of s ≡ of_port udp.dst_port) ⊎ (Some of_clients ≡ Some (key_of s))
of_readers cx s ip udp so = either (of_port udp.dst_port) of_clients (key_of s) (of_datagram cx s ip udp so)

pub of_acceptors : (s : Socket) (ip : IpRepr) (header : TcpHeader) → accepts_segment s ip header ≡ true
    → (key_of s ≡ of_ports header.dst_port header.src_port) ⊎ (Some (of_listeners header.dst_port) ≡ Some (key_of s))
of_acceptors s ip header so = either (of_ports header.dst_port header.src_port) (of_listeners header.dst_port) (key_of s) (of_segment s ip header so)

off : (b : Bool) → not b ≡ true → b ≡ false
off true so = absurd cc
off false so = refl

pub of_connected : (s : Socket) (ip : IpRepr) (header : TcpHeader) → is_connected s ip header ≡ true
    → (key_of s ≡ of_ports header.dst_port header.src_port) ⊎ (None ≡ Some (key_of s))
of_connected (Kind.Tcp v) ip header so = inl (of_connection v ip header (off (is_listening v.tcb.state)
    (and_parts (not (is_listening v.tcb.state)) (accepts_segment (Kind.Tcp v) ip header) so).0)
    (and_parts (not (is_listening v.tcb.state)) (accepts_segment (Kind.Tcp v) ip header) so).1)
of_connected other ip header so = absurd cc

-- one that passes is found where any does
module _ {X : Type 0} (test : X → Bool) where
  within_where_any : (xs : List X) → nat_lt (position_or_len test xs) (length xs) ≡ list_any test xs
  within_where_any [] = refl
  within_where_any (x ∷ xs) = by (test x) refl (within_where_any xs) where
    by : (b : Bool) → test x ≡ b → nat_lt (position_or_len test xs) (length xs) ≡ list_any test xs
        → nat_lt (position_or_len test (x ∷ xs)) (length (x ∷ xs)) ≡ list_any test (x ∷ xs)
    by true so rest = grind (arith, so)
    by false so rest = grind (arith, so, rest)

  some_if : (b : Bool) (n : ℕ) → is_some (if b then Some n else None) ≡ b
  some_if true n = refl
  some_if false n = refl

  pub found_any : (xs : List X) → is_some (position test xs) ≡ list_any test xs
  found_any xs = some_if (nat_lt (position_or_len test xs) (length xs)) (position_or_len test xs) ∙ within_where_any xs
