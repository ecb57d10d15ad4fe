-- What is said of a host's addresses and tables alone, and what every poll keeps of it.
use Rattle.std.proofs.Common.{ℕ, ℤ, Bool, true, false, Option, Some, None, refl, sym, ap, ◌∙◌, subst}
use Rattle.net_base.specs.Device.{Move}
use Rattle.iface_tables.specs.Inner.{InnerValue, at_instant}
use Rattle.iface_egress.specs.Departing.{HasSettingsOf}
use Rattle.iface_ingress.specs.FragmentStored.{HasSameSettings}
use Rattle.interface.specs.SameHost.{IsSameHost}
use Rattle.interface.proofs.SameHost.{serves_same, slot_same}
use Rattle.interface.specs.State.{State}
use Rattle.interface.specs.Ingress.{Takes}
use Rattle.interface.specs.Polls.{Polls}
use Rattle.interface.proofs.Kept.{IsKept}
use Rattle.interface.proofs.Runs.{receives_same}
use Rattle.interface.proofs.Keep.{polls_keep}

module _ {D : Type 0} (moves : D → Move → D → Type 0) (t : ℤ) (Q : InnerValue → Type 0) where
  module _ (arrives : (i i' : InnerValue) → HasSameSettings i i' → Q i → Q i') (sends : (i i' : InnerValue) → IsSameHost i i' → Q i → Q i') where
    takes_keep : (s s' : State D) (answer : Option Bool) → Q s.host.inner → Takes moves s answer s' → Q s'.host.inner
    takes_keep s s' None holds takes = subst Q (sym (ap (λ (x : State D). x.host.inner) takes.1)) holds
    takes_keep s s' (Some false) holds takes = subst Q (sym (ap (λ (x : State D). x.host.inner) takes.3)) holds
    takes_keep s s' (Some true) holds takes =
        let reads = takes.4 in
        let same = receives_same moves reads.0 (record s { device = takes.1 }) s' reads.2 in
        sends reads.2.0.inner s'.host.inner same.1 (arrives s.host.inner reads.2.0.inner same.0 holds)

    pub hosts_keep : (begins : (i : InnerValue) → Q i → Q (at_instant t i)) → IsKept moves t (λ s. Q s.host.inner)
    hosts_keep begins = record {
      maintenance = λ s holds. begins s.host.inner holds;
      arrivals = λ s s' answer runs holds takes. takes_keep s s' answer holds takes;
      fragments = λ h ps x x' l gone runs is holds leaves same. subst Q (sym same) holds;
      parked = λ h ps x x' all runs many holds serves. sends x.inner x'.inner (serves_same moves x x' all many serves) holds;
      turns = λ turn h before after p p' x x' turned runs holds turns. sends x.inner x'.inner (slot_same moves turn x x' p p' turned turns) holds;
    }

-- SETTINGS

begins_so : (t : ℤ) (old i : InnerValue) → HasSettingsOf old i → HasSettingsOf old (at_instant t i)
begins_so t old i has = record {
  hardware = has.hardware;
  mtu = has.mtu;
  checksums = has.checksums;
  addresses = has.addresses;
  isn_key = has.isn_key;
  any_ip = has.any_ip;
  groups = has.groups;
  host_requirements = has.host_requirements;
  routes =
      has.routes;
}

arrives_so : (old i i' : InnerValue) → HasSameSettings i i' → HasSettingsOf old i → HasSettingsOf old i'
arrives_so old i i' same has = record {
  hardware = same.hardware ∙ has.hardware;
  mtu = same.mtu ∙ has.mtu;
  checksums = same.checksums ∙ has.checksums;
  addresses = same.addresses ∙ has.addresses;
  isn_key = same.isn_key ∙ has.isn_key;
  any_ip = same.any_ip ∙ has.any_ip;
  groups = same.groups ∙ has.groups;
  host_requirements = same.host_requirements ∙ has.host_requirements;
  routes = same.routes ∙ has.routes;
}

sends_so : (old i i' : InnerValue) → IsSameHost i i' → HasSettingsOf old i → HasSettingsOf old i'
sends_so old i i' same has = record {
  hardware = ap (λ (x : InnerValue). x.hardware) same ∙ has.hardware;
  mtu = ap (λ (x : InnerValue). x.mtu) same ∙ has.mtu;
  checksums = ap (λ (x : InnerValue). x.checksums) same ∙ has.checksums;
  addresses = ap (λ (x : InnerValue). x.addresses) same ∙ has.addresses;
  isn_key = ap (λ (x : InnerValue). x.isn_key) same ∙ has.isn_key;
  any_ip = ap (λ (x : InnerValue). x.any_ip) same ∙ has.any_ip;
  groups = ap (λ (x : InnerValue). x.groups) same ∙ has.groups;
  host_requirements = ap (λ (x : InnerValue). x.host_requirements) same ∙ has.host_requirements;
  routes = ap (λ (x : InnerValue). x.routes) same ∙ has.routes;
}

pub settings_so : {D : Type 0} (moves : D → Move → D → Type 0) (t : ℤ) (budget : ℕ) (s s' : State D) (changed : Bool) → Polls moves t budget s changed s' →
    HasSettingsOf s.host.inner s'.host.inner
settings_so {D} moves t budget s s' changed polls =
    let old : InnerValue = s.host.inner in
    let kept = hosts_keep moves t (HasSettingsOf old) (arrives_so old) (sends_so old) (begins_so t old) in
    let start : HasSettingsOf old old = record {
      hardware = refl;
      mtu = refl;
      checksums = refl;
      isn_key = refl;
      addresses = refl;
      any_ip = refl;
      groups = refl;
      host_requirements = refl;
      routes = refl;
    } in
    (polls_keep moves t (λ (x : State D). HasSettingsOf old x.host.inner) kept budget s s' changed start polls).0
