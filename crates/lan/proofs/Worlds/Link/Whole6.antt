-- IPv6 packets that are no fragments of a datagram are whole.
use Rattle.std.proofs.Common.{◌≡◌, ℕ, Bool, true, false, if◌then◌else◌, List, Option, Some, ap}
use Rattle.iface_ingress.specs.EthernetRepr.{EthernetRepr}
use Rattle.interface.specs.Ipv6Repr.{Ipv6Repr}
use Rattle.iface_ingress.specs.Processed.{is_known_v6}
use Rattle.iface_ingress.specs.Headers as Headers
use Rattle.iface_ingress.specs.Incoming.{Ip6}
use Rattle.iface_ingress.specs.Reassembled.{Assemblers, bytes_at, reassembled_v6, is_fragment_v6, whole_of}
use Rattle.iface_ingress.proofs.Bare.{known_at_once}

-- right after the header stands a protocol that is no extension header
pub known_whole : (h : Ipv6Repr) (x : List ℕ) → is_known_v6 h.next_header ≡ true → is_fragment_v6 h x ≡ false
known_whole h x known = ap Headers.is_fragment (known_at_once h.next_header x known)

module _ (link : Option EthernetRepr) (h : Ipv6Repr) (x : List ℕ) (whole : is_fragment_v6 h x ≡ false) where
  pub whole_is : (assemblers : Assemblers) (at : Option ℕ) → whole_of assemblers at (Some (Ip6 link h x)) ≡ Some (Ip6 link h x)
  whole_is assemblers at = ap (λ (fragment : Bool). if fragment then reassembled_v6 link h (bytes_at at assemblers) else Some (Ip6 link h x)) whole
