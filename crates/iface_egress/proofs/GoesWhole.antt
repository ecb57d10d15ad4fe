-- What is seen at once of a packet that goes whole is what its plan says.
use Rattle.std.proofs.Common.{◌≡◌, Bool, true, false, ◌&&◌, ◌||◌, not, Option, Some, None, refl, ap, ◌∙◌}
use Rattle.std.specs.Prelude.{if◌then◌else◌, nat_le, IfSome}
use Rattle.std.specs.List.{list_any}
use Rattle.ip_wire.specs.AddressTests.{is_loopback_v4, is_multicast_v4, is_unspecified_v4}
use Rattle.ip_wire.specs.HardwareAddress.{HardwareAddress}
use Rattle.ip_wire.specs.IpAddress.TheVariants as Address
use Rattle.ip_wire.specs.IpRepr.TheVariants as Ip
use Rattle.ip_wire.specs.Ipv4Repr.{Ipv4Repr}
use Rattle.iface_tables.specs.Inner.{InnerValue, is_limited_broadcast, is_local_broadcast, is_loopback_of, link_address, mtu_to}
use Rattle.iface_tables.specs.declared.link.LinkAddress.{LinkAddress}
use Rattle.iface_tables.specs.declared.link.LinkAddress.TheVariants as Link
use Rattle.iface_egress.specs.Plan.{total_len, long_plan, plan_by, comes_from_here, is_ordinary, GoesDirect}
use Rattle.iface_egress.specs.declared.plan.Plan.TheVariants as Way

record IsOut (ls ld u b m n : Bool) : Type 0 where
  source : ls ≡ false
  loopback : ld ≡ false
  specified : u ≡ false
  broadcast : b ≡ false
  group : m ≡ false
  named : n ≡ false

out_by : (ls ld u b m n : Bool) → (not (ls || ld) && not u && not (b || (m || n))) ≡ true → IsOut ls ld u b m n
out_by false false false false false false is =
    record { source = refl; loopback = refl; specified = refl; broadcast = refl; group = refl; named = refl }
out_by true ld u b m n is = absurd cc
out_by false true u b m n is = absurd cc
out_by false false true b m n is = absurd cc
out_by false false false true m n is = absurd cc
out_by false false false false true n is = absurd cc
out_by false false false false false true is = absurd cc

here_by : (b m n x ls ld : Bool) → b ≡ false → m ≡ false → n ≡ false → ls ≡ false → (not (b || (m || (n && x))) && (not ls || ld)) ≡ true
here_by false false false x false ld _ _ _ _ = refl
here_by true m n x ls ld is _ _ _ = absurd cc
here_by false true n x ls ld _ is _ _ = absurd cc
here_by false false true x ls ld _ _ is _ = absurd cc
here_by false false false x true ld _ _ _ is = absurd cc

stays_by : (u ld x here : Bool) → u ≡ false → ld ≡ false → here ≡ true → (u || ((ld && x) || not here)) ≡ false
stays_by false false x true _ _ _ = refl
stays_by true ld x here is _ _ = absurd cc
stays_by false true x here _ is _ = absurd cc
stays_by false false x false _ _ is = absurd cc

pub direct : (i : InnerValue) (v : Ipv4Repr) (to : HardwareAddress) → is_ordinary i v ≡ true →
    nat_le (total_len (Ip.Ipv4 v)) (mtu_to i (Address.Ipv4 v.dst_addr)) ≡ true → link_address i (Address.Ipv4 v.dst_addr) ≡ Link.Known to →
    GoesDirect i (Ip.Ipv4 v) to
direct i v to ordinary short link =
    let out =
    out_by (is_loopback_v4 v.src_addr) (is_loopback_v4 v.dst_addr) (is_unspecified_v4 v.dst_addr)
    (is_local_broadcast i (Address.Ipv4 v.src_addr)) (is_multicast_v4 v.src_addr) (is_unspecified_v4 v.src_addr) ordinary in
    let here : comes_from_here i (Ip.Ipv4 v) ≡ true =
    here_by (is_local_broadcast i (Address.Ipv4 v.src_addr)) (is_multicast_v4 v.src_addr) (is_unspecified_v4 v.src_addr)
    (i.host_requirements && not (is_limited_broadcast (Address.Ipv4 v.dst_addr))) (is_loopback_v4 v.src_addr) (is_loopback_v4 v.dst_addr)
    out.broadcast out.group out.named out.source in
    let leaves =
    stays_by (is_unspecified_v4 v.dst_addr) (is_loopback_v4 v.dst_addr)
    (not (list_any (is_loopback_of (Address.Ipv4 v.dst_addr)) i.addresses)) (comes_from_here i (Ip.Ipv4 v)) out.specified out.loopback here in
    record {
      here = here;
      plan = λ busy.
          ap (λ (b : Bool). if b then Way.Drop else plan_by (link_address i (Address.Ipv4 v.dst_addr)) i busy (Ip.Ipv4 v)) leaves
          ∙ ap (λ (l : LinkAddress). plan_by l i busy (Ip.Ipv4 v)) link
          ∙ ap (λ (b : Bool). if b then Way.Go to else long_plan busy to (Ip.Ipv4 v)) short;
    }

pub direct_if : (i : InnerValue) (v : Ipv4Repr) (o : Option HardwareAddress) → is_ordinary i v ≡ true →
    nat_le (total_len (Ip.Ipv4 v)) (mtu_to i (Address.Ipv4 v.dst_addr)) ≡ true →
    IfSome o (λ to. link_address i (Address.Ipv4 v.dst_addr) ≡ Link.Known to) → IfSome o (λ to. GoesDirect i (Ip.Ipv4 v) to)
direct_if i v None ordinary short known = tt
direct_if i v (Some to) ordinary short known = direct i v to ordinary short known
