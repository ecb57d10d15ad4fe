-- A datagram that no frame carries, nor fragments.
use Rattle.std.proofs.Common.{◌≡◌, ℕ, ◌+◌, ◌-◌, ◌<◌, ◌≤◌, Bool, true, false, List, refl, sym, ap, subst, ◌∙◌, arith}
use Rattle.std.specs.Prelude.{◌&&◌, not, nat_le, max, if◌then◌else◌}
use Rattle.iface_egress.specs.Plan.{cut_if_idle, has_extensions, long_plan, longest_cut, plan_to, total_len}
use Rattle.iface_egress.specs.declared.plan.Plan.{Plan}
use Rattle.iface_egress.specs.declared.plan.Plan.TheVariants as Way
use Rattle.ip_wire.specs.HardwareAddress.{HardwareAddress}
use Rattle.ip_wire.specs.Ip.{destination_of}
use Rattle.ip_wire.specs.IpRepr.{IpRepr}
use Rattle.c_calls.specs.Controls.{header_len, message_room}
use Rattle.c_calls.specs.Datagrams.{datagram_room, headers_len}
use Rattle.c_calls.specs.Host.{StackValue}
use Rattle.c_calls.specs.RawPackets.{packet_len, packet_room}

not_below : (a b : ℕ) → b < a → nat_le a b ≡ false
not_below a b less = grind (arith, less)

-- with its headers it is longer than a frame, and than what goes in fragments
pub long_dropped : (s : StackValue) (to : HardwareAddress) (mtu : ℕ) (busy : Bool) (header : IpRepr)
    → max s.host.inner.mtu 4096 < total_len header → mtu ≤ s.host.inner.mtu → plan_to to mtu busy header ≡ Way.Drop
long_dropped s to mtu busy header more less =
    let frame : nat_le (total_len header) mtu ≡ false = not_below (total_len header) mtu (omega (arith, more, less)) in
    let whole : nat_le (total_len header) 4096 ≡ false = not_below (total_len header) 4096 (omega (arith, more)) in
    ap (λ b. if b then Way.Go to else long_plan busy to header) frame
    ∙ ap (λ b. if b && not (has_extensions header) then cut_if_idle busy to else Way.Drop) whole

pub dropped : (s : StackValue) (to : HardwareAddress) (mtu : ℕ) (busy : Bool) (header : IpRepr) (length : ℕ)
    → datagram_room s (destination_of header) < length → total_len header ≡ headers_len (destination_of header) + length → mtu ≤ s.host.inner.mtu
    → plan_to to mtu busy header ≡ Way.Drop
dropped s to mtu busy header length long sum less =
    let more : max s.host.inner.mtu 4096 < total_len header = omega (arith, long, sum) in
    long_dropped s to mtu busy header more less

pub message_dropped : (s : StackValue) (to : HardwareAddress) (mtu : ℕ) (busy : Bool) (header : IpRepr) (length : ℕ)
    → message_room s (destination_of header) < length → total_len header ≡ header_len (destination_of header) + length → mtu ≤ s.host.inner.mtu
    → plan_to to mtu busy header ≡ Way.Drop
message_dropped s to mtu busy header length long sum less =
    let more : max s.host.inner.mtu 4096 < total_len header = omega (arith, long, sum) in
    long_dropped s to mtu busy header more less

pub packet_dropped : (s : StackValue) (to : HardwareAddress) (mtu : ℕ) (busy : Bool) (header : IpRepr) (bytes : List ℕ)
    → packet_room s < packet_len bytes → total_len header ≡ packet_len bytes → mtu ≤ s.host.inner.mtu → plan_to to mtu busy header ≡ Way.Drop
packet_dropped s to mtu busy header bytes long same less =
    let more : max s.host.inner.mtu 4096 < total_len header = subst (λ n. max s.host.inner.mtu 4096 < n) (sym same) long in
    long_dropped s to mtu busy header more less
