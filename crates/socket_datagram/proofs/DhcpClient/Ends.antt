-- What is told of a lease, and when.
use Rattle.std.proofs.Common.{◌≡◌, Bool, true, false, is_some, ◌||◌, if◌then◌else◌, ℤ, ◌<ℤ◌, ◌≤ℤ◌, int_le, Option, Some, None, refl, ap, ◌∙◌, arith}
use Rattle.socket_datagram.specs.DhcpClient.Events.{is_over, initial, event_with, event_of}
use Rattle.socket_datagram.specs.DhcpClient.States.{lease_of}
use Rattle.socket_datagram.specs.DhcpClient.Value.{DhcpValue, begun, unoffered}
use Rattle.socket_datagram.specs.declared.dhcpv4.config.Config.{Config}
use Rattle.socket_datagram.specs.declared.dhcpv4.config.Event.{Event}
use Rattle.socket_datagram.specs.declared.dhcpv4.config.Event.TheVariants.{Configured, Deconfigured}
use Rattle.socket_datagram.specs.declared.dhcpv4.lease.Lease.{Lease}
use Rattle.socket_datagram.proofs.DhcpClient.Turns.{over}

abbrev told_where : Bool → Option Event
told_where changed = if changed then Some Deconfigured else None

pub told_at_end : (now : ℤ) (v : DhcpValue) (lease : Lease) → lease_of v.state ≡ Some lease → lease.expires_at ≤ℤ now →
    event_of (initial now v) ≡ Some Deconfigured
told_at_end now v lease has h =
    let ended : is_over now (lease_of v.state) ≡ true = ap (is_over now) has ∙ over now lease.expires_at h in
    ap (λ (t : Bool). event_of (if t then begun v else unoffered v)) ended
    ∙ ap (λ (o : Option Lease). told_where (is_some o || v.changed)) has

still : (now instant : ℤ) → int_le instant now ≡ false → now <ℤ instant
still now instant e = grind (arith)

-- what is told of a lease
pub record IsTold (now : ℤ) (held : Option Lease) (config : Config) : Type 0 where
  pub lease : Lease
  pub has : held ≡ Some lease
  pub is : lease.config ≡ config
  pub lasts : now <ℤ lease.expires_at

told_with : (now : ℤ) (held : Option Lease) (config : Config) → is_over now held ≡ false → Some (event_with held) ≡ Some (Configured config) →
    IsTold now held config
told_with now None config e told = absurd (cc)
told_with now (Some lease) config e told = record { lease = lease; has = refl; is = (cc); lasts = still now lease.expires_at e }

told_by : (now : ℤ) (v : DhcpValue) (config : Config) (ended changed : Bool) → is_over now (lease_of v.state) ≡ ended
    → (if ended then told_where (is_some (lease_of v.state) || v.changed) else if changed then Some (event_with (lease_of v.state)) else None) ≡
    Some (Configured config) → IsTold now (lease_of v.state) config
told_by now v config true changed e told = by (is_some (lease_of v.state) || v.changed) told where
  by : (t : Bool) → told_where t ≡ Some (Configured config) → IsTold now (lease_of v.state) config
  by true told = absurd (cc)
  by false told = absurd (cc)
told_by now v config false true e told = told_with now (lease_of v.state) config e told
told_by now v config false false e told = absurd (cc)

by_end : (now : ℤ) (v : DhcpValue) (config : Config) (ended : Bool) → is_over now (lease_of v.state) ≡ ended →
    event_of (if ended then begun v else unoffered v) ≡ Some (Configured config) → IsTold now (lease_of v.state) config
by_end now v config true e told = told_by now v config true v.changed e told
by_end now v config false e told = told_by now v config false v.changed e told

pub told_lasts : (now : ℤ) (v : DhcpValue) (config : Config) → event_of (initial now v) ≡ Some (Configured config) → (lease : Lease) ×
    (lease_of v.state ≡ Some lease) × (lease.config ≡ config) × (now <ℤ lease.expires_at)
told_lasts now v config told =
    let t = by_end now v config (is_over now (lease_of v.state)) refl told in
    (t.lease, t.has, t.is, t.lasts)
