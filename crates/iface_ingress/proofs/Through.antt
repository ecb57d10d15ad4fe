-- What stands after extension headers is what counts of a packet.
use Rattle.std.proofs.Common.{◌≡◌, ℕ, Bool, List, ap, sym, ◌∙◌, subst}
use Rattle.ip_wire.specs.IpRepr.{IpRepr}
use Rattle.ip_wire.specs.IpRepr.TheVariants as Ip
use Rattle.ip_wire.specs.Ipv6Repr.{Ipv6Repr}
use Rattle.wire_ipv6_headers.specs.Headers.{go_through, upper_of, upper_bytes_of}
use Rattle.wire_ipv6_headers.specs.declared.headers.Following.{Following}
use Rattle.iface_tables.specs.Inner.{InnerValue}
use Rattle.iface_ingress.specs.Arrives.{Arrived, Hands, HandsUpper}
use Rattle.iface_ingress.specs.Delivered.{Slots}
use Rattle.iface_ingress.specs.Upper.{upper_header, upper_payload}
use Rattle.iface_ingress.proofs.Bare.{IsBare}

hands_along : (i : InnerValue) (slots : Slots) (ip : IpRepr) (payload : List ℕ) (taken : Bool) (upper other : IpRepr) (bytes more : List ℕ) (a : Arrived) →
    upper ≡ other → bytes ≡ more → HandsUpper i slots ip payload taken upper bytes a → HandsUpper i slots ip payload taken other more a
hands_along i slots ip payload taken upper other bytes more a headers payloads is =
    subst (λ (h : IpRepr). HandsUpper i slots ip payload taken h more a) headers
    (subst (λ (b : List ℕ). HandsUpper i slots ip payload taken upper b a) payloads is)

pub hands_through : (i : InnerValue) (slots : Slots) (h : Ipv6Repr) (payload : List ℕ) (taken : Bool) (b : Following) (upper : IpRepr) (bytes : List ℕ)
    (a : Arrived) → b ≡ go_through h.next_header payload → upper ≡ Ip.Ipv6 (record h { next_header = upper_of b }) → bytes ≡ upper_bytes_of payload b →
    HandsUpper i slots (Ip.Ipv6 h) payload taken upper bytes a → Hands i slots (Ip.Ipv6 h) payload taken a
hands_through i slots h payload taken b upper bytes a following header_is bytes_are is =
    hands_along i slots (Ip.Ipv6 h) payload taken upper (upper_header (Ip.Ipv6 h) payload) bytes (upper_payload (Ip.Ipv6 h) payload) a
    (header_is ∙ ap (λ (e : Following). Ip.Ipv6 (record h { next_header = upper_of e })) following) (bytes_are ∙ ap (upper_bytes_of payload) following) is

pub hands_bare : (i : InnerValue) (slots : Slots) (ip : IpRepr) (payload : List ℕ) (taken : Bool) (a : Arrived) → IsBare ip payload →
    HandsUpper i slots ip payload taken ip payload a → Hands i slots ip payload taken a
hands_bare i slots ip payload taken a direct is =
    hands_along i slots ip payload taken ip (upper_header ip payload) payload (upper_payload ip payload) a (sym direct.0) (sym direct.1) is
