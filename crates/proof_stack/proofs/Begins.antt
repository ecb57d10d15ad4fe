-- What holds of an interface that was made, and where none is.
use Rattle.std.proofs.Common.{rules, ◌≡◌, ℕ, ℤ, ◌<◌, Bool, true, false, if◌then◌else◌, is_some, Option, Some, None, Result, Ok, Err, IfOk, IsErr, refl, sym}
use Rattle.std.proofs.Common.{subst}
use Rattle.net_base.specs.Capabilities.{ip_mtu}
use Rattle.net_base.specs.DeviceCapabilities.{DeviceCapabilities}
use Rattle.iface_tables.specs.Settings.{MadeUnless, is_of_medium, is_unicast_hardware, is_mtu, is_moment, refusal}
use Rattle.iface_tables.specs.declared.config.Config.{Config}
use Rattle.iface_tables.specs.declared.config.NewError.{NewError}
use Rattle.iface_tables.specs.declared.config.NewError.TheVariants as New
use Rattle.interface.specs.Host.{HostValue}
use Rattle.interface.specs.Made.{Makes, new_host}

unless : (o : Option NewError) (h : HostValue) (r : Result HostValue NewError) (P : HostValue → Type 0) → MadeUnless o h r → P h → IfOk r P
unless (Some e) h r P is holds = subst (λ x. IfOk x P) (sym is) tt
unless None h (Ok made) P is holds = subst P (sym is) holds
unless None h (Err e) P is holds = tt

pub made-has : (config : Config) (device : DeviceCapabilities) (instant : ℤ) (r : Result HostValue NewError) (P : HostValue → Type 0)
    → Makes config device instant r → P (new_host config device instant) → IfOk r P
made-has config device instant r P = unless (refusal config device instant) (new_host config device instant) r P

refused : (o : Option NewError) (h : HostValue) (r : Result HostValue NewError) → is_some o ≡ true → MadeUnless o h r → IsErr r
refused (Some e) h r some is = subst IsErr (sym is) refl
refused None h r some is = absurd (cc)

-- where one test fails, there is a reason
tested : (medium node mtu instant : Bool) → mtu ≡ false
    → is_some (if medium then (if node then (if mtu then (if instant then None else Some New.Moment) else Some New.Mtu) else Some New.NotUnicast) else Some
    New.Medium) ≡ true
tested false node mtu instant e = refl
tested true false mtu instant e = refl
tested true true false instant e = refl
tested true true true instant e = absurd (cc)

short : (n : ℕ) → n < 576 → is_mtu n ≡ false
short n less = search rules

long : (n : ℕ) → 65535 < n → is_mtu n ≡ false
long n more = search rules

pub refused-short : (config : Config) (device : DeviceCapabilities) (instant : ℤ) (r : Result HostValue NewError)
    → Makes config device instant r → ip_mtu device < 576 → IsErr r
refused-short config device instant r makes less =
    refused (refusal config device instant) (new_host config device instant) r
    (tested (is_of_medium config.hardware_addr device.medium) (is_unicast_hardware config.hardware_addr) (is_mtu (ip_mtu device)) (is_moment instant)
    (short (ip_mtu device) less)) makes

pub refused-long : (config : Config) (device : DeviceCapabilities) (instant : ℤ) (r : Result HostValue NewError)
    → Makes config device instant r → 65535 < ip_mtu device → IsErr r
refused-long config device instant r makes more =
    refused (refusal config device instant) (new_host config device instant) r
    (tested (is_of_medium config.hardware_addr device.medium) (is_unicast_hardware config.hardware_addr) (is_mtu (ip_mtu device)) (is_moment instant)
    (long (ip_mtu device) more)) makes
