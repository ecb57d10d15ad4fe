-- A host that is refused, or made.
use Rattle.std.proofs.Common.{◌≡◌, ℤ, [], Option, None, Some, Result, Ok, Err, ap, sym, subst}
use Rattle.net_base.specs.DeviceCapabilities.{DeviceCapabilities}
use Rattle.interface.specs.Host.{HostValue}
use Rattle.interface.specs.Made.{Makes, new_host}
use Rattle.interface.specs.Settings.{MadeUnless, refusal}
use Rattle.interface.specs.Config.{Config}
use Rattle.interface.specs.NewError.{NewError}
use Rattle.c_calls.specs.declared.code.Code.{Code}
use Rattle.c_calls.specs.Calls.{NewHost, NewHostUnless, config_of, device_of, initial_host, none_counted}
use Rattle.c_calls.specs.Codes.{of_new}
use Rattle.c_calls.specs.Host.{StackValue}
use Rattle.c_calls.specs.Link.{unused}
use Rattle.c_calls.specs.Numbers.{no_slots}
use Rattle.c_calls.specs.declared.host.Settings.{Settings}

same_error : {e e' : NewError} → ◌≡◌ {A = Result HostValue NewError} (Err e) (Err e') → e ≡ e'
same_error is = cc

pub refused : (r : Option NewError) (h : HostValue) (e : NewError) (s : StackValue) → MadeUnless r h (Err e) → NewHostUnless r s (Err (of_new e))
refused (Some error) h e s is = ap (λ (x : NewError). Err (of_new x)) (same_error is)
refused None h e s is = ap of_new is

pub refused_by : (settings : Settings) (now : ℤ) (config : Config) (device : DeviceCapabilities) (r : Result HostValue NewError) (e : NewError) (code : Code)
    → config ≡ config_of settings → device ≡ device_of settings → r ≡ Err e → code ≡ of_new e
    → Makes config device now r → NewHost settings now (Err code)
refused_by settings now config device r e code configured described is coded h =
    let given : Makes (config_of settings) (device_of settings) now (Err e) =
    subst (λ x. Makes x (device_of settings) now (Err e)) configured
    (subst (λ x. Makes config x now (Err e)) described (subst (λ x. Makes config device now x) is h)) in
    subst (λ x. NewHost settings now (Err x)) (sym coded)
    (refused (refusal (config_of settings) (device_of settings) now) (new_host (config_of settings) (device_of settings) now) e (initial_host settings now) given)

pub made : (r : Option NewError) (h h' : HostValue) (s s' : StackValue) → MadeUnless r h (Ok h') → (h' ≡ h → s' ≡ s) → NewHostUnless r s (Ok s')
made (Some error) h h' s s' is same = absurd (cc)
made None h h' s s' is same = same is

pub made_by : (settings : Settings) (now : ℤ) (config : Config) (device : DeviceCapabilities) (r : Result HostValue NewError) (h : HostValue)
    (s : StackValue) → config ≡ config_of settings → device ≡ device_of settings → r ≡ Ok h → Makes config device now r
    → (h ≡ new_host (config_of settings) (device_of settings) now → s ≡ initial_host settings now) → NewHost settings now (Ok s)
made_by settings now config device r h s configured described is made_so same =
    let given : Makes (config_of settings) (device_of settings) now (Ok h) =
    subst (λ x. Makes x (device_of settings) now (Ok h)) configured
    (subst (λ x. Makes config x now (Ok h)) described (subst (λ x. Makes config device now x) is made_so)) in
    made (refusal (config_of settings) (device_of settings) now) (new_host (config_of settings) (device_of settings) now) h (initial_host settings now) s
    given same

pub is_fresh : (settings : Settings) (now : ℤ) (s : StackValue) → s.link ≡ unused (device_of settings) settings.frames
    → s.host ≡ new_host (config_of settings) (device_of settings) now → s.slots ≡ no_slots → s.listeners ≡ [] → s.dhcp ≡ None → s.dns ≡ None
    → s.counters ≡ none_counted → s ≡ initial_host settings now
is_fresh settings now s link host slots listeners dhcp dns counters =
    λ k. record { link = link k; host = host k; slots = slots k; listeners = listeners k; dhcp = dhcp k; dns = dns k; counters = counters k }
