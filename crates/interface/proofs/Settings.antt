-- A poll leaves the host's settings.
use Rattle.std.proofs.Common.{◌≡◌, Bool, true, false, if◌then◌else◌, refl, sym, ap, ◌∙◌, subst}
use Rattle.std.specs.Prelude.{ℤ}
use Rattle.iface_tables.specs.Inner.{InnerValue, at_instant}
use Rattle.iface_egress.specs.Departing.{HasSettingsOf}
use Rattle.iface_ingress.specs.FragmentStored.{HasSameSettings}
use Rattle.iface_tables.specs.Parking.{ParkingValue}
use Rattle.interface.specs.SameHost.{IsSameHost, parking_from}
use Rattle.interface.specs.State.{KeepsSettings}
use Rattle.interface.proofs.SameHost.{parked_so, two_parked}

abbrev kept_but : InnerValue → InnerValue → ParkingValue → InnerValue
kept_but old new parking = record old {
  random = new.random;
  neighbors = new.neighbors;
  ident = new.ident;
  errors_until = new.errors_until;
  paths = new.paths;
  parking = parking;
}

pub keeps_itself : (i : InnerValue) → KeepsSettings i i
keeps_itself i = ap (kept_but i i) (parked_so i.host_requirements i.parking i.parking refl)

pub keeps_where : (i i' : InnerValue) → i' ≡ i → KeepsSettings i i'
keeps_where i i' is = subst (λ (x : InnerValue). KeepsSettings i x) (sym is) (keeps_itself i)

pub keeps_then : (a b c : InnerValue) → KeepsSettings a b → KeepsSettings b c → KeepsSettings a c
keeps_then a b c first second =
    second
    ∙ ap (λ (x : InnerValue). kept_but x c (if b.host_requirements then c.parking else b.parking)) first
    ∙ ap (λ (many : Bool). kept_but a c (if many then c.parking else b.parking)) (ap (λ (x : InnerValue). x.host_requirements) first)
    ∙ ap (kept_but a c) (two_parked a.host_requirements a.parking b.parking c.parking (ap (λ (x : InnerValue). x.parking) first))

twice : (many : Bool) (k l : ParkingValue) → (if many then k else l) ≡ (if many then (if many then k else l) else l)
twice true k l = refl
twice false k l = refl

pub keeps_out : (i i' : InnerValue) → IsSameHost i i' → KeepsSettings i i'
keeps_out i i' is = subst (λ (x : InnerValue). KeepsSettings i x) (sym is) (ap (kept_but i as_sent) (twice i.host_requirements i'.parking i.parking)) where
  as_sent : InnerValue
  as_sent = record i {
    ident = i'.ident;
    neighbors = record i.neighbors { silent = i'.neighbors.silent; searches = i'.neighbors.searches };
    parking = parking_from i i';
  }

-- what arrives leaves them
pub keeps_in : (i i' : InnerValue) → HasSameSettings i i' → KeepsSettings i i'
keeps_in i i' same =
    ap (λ x. record i' { instant = x }) same.instant
    ∙ ap (λ x. record i' { instant = i.instant; hardware = x }) same.hardware
    ∙ ap (λ x. record i' { instant = i.instant; hardware = i.hardware; mtu = x }) same.mtu
    ∙ ap (λ x. record i' { instant = i.instant; hardware = i.hardware; mtu = i.mtu; checksums = x }) same.checksums
    ∙ ap (λ x. record i' { instant = i.instant; hardware = i.hardware; mtu = i.mtu; checksums = i.checksums; isn_key = x }) same.isn_key
    ∙ ap (λ x. record i' { instant = i.instant; hardware = i.hardware; mtu = i.mtu; checksums = i.checksums; isn_key = i.isn_key; addresses = x })
    same.addresses
    ∙ ap (λ x. record i' {
      instant = i.instant;
      hardware = i.hardware;
      mtu = i.mtu;
      checksums = i.checksums;
      isn_key = i.isn_key;
      addresses = i.addresses;
      any_ip = x;
    }) same.any_ip
    ∙ ap (λ x. record i' {
      instant = i.instant;
      hardware = i.hardware;
      mtu = i.mtu;
      checksums = i.checksums;
      isn_key = i.isn_key;
      addresses = i.addresses;
      any_ip = i.any_ip;
      groups = x;
    }) same.groups
    ∙ ap (λ x. record i' {
      instant = i.instant;
      hardware = i.hardware;
      mtu = i.mtu;
      checksums = i.checksums;
      isn_key = i.isn_key;
      addresses = i.addresses;
      any_ip = i.any_ip;
      groups = i.groups;
      routes =
          x;
    }) same.routes
    ∙ ap (λ x. record i' {
      instant = i.instant;
      hardware = i.hardware;
      mtu = i.mtu;
      checksums = i.checksums;
      isn_key = i.isn_key;
      addresses = i.addresses;
      any_ip = i.any_ip;
      groups = i.groups;
      routes =
          i.routes;
      route_room = x;
    }) same.route_room
    ∙ ap (λ x. record i' {
      instant = i.instant;
      hardware = i.hardware;
      mtu = i.mtu;
      checksums = i.checksums;
      isn_key = i.isn_key;
      addresses = i.addresses;
      any_ip = i.any_ip;
      groups = i.groups;
      routes =
          i.routes;
      route_room = i.route_room;
      initial = x;
    }) same.initial
    ∙ ap (λ x. record i' {
      instant = i.instant;
      hardware = i.hardware;
      mtu = i.mtu;
      checksums = i.checksums;
      isn_key = i.isn_key;
      addresses = i.addresses;
      any_ip = i.any_ip;
      groups = i.groups;
      routes =
          i.routes;
      route_room = i.route_room;
      initial = i.initial;
      host_requirements = x;
    }) same.host_requirements
    ∙ ap (λ x. record i' {
      instant = i.instant;
      hardware = i.hardware;
      mtu = i.mtu;
      checksums = i.checksums;
      isn_key = i.isn_key;
      addresses = i.addresses;
      any_ip = i.any_ip;
      groups = i.groups;
      routes = i.routes;
      route_room = i.route_room;
      initial = i.initial;
      host_requirements = i.host_requirements;
      parking = x;
    }) (parked_so i.host_requirements i'.parking i.parking same.parking)

pub settings_kept : (t : ℤ) (i i' : InnerValue) → KeepsSettings (at_instant t i) i' → HasSettingsOf i i'
settings_kept t i i' keeps = record {
  hardware = ap (λ (x : InnerValue). x.hardware) keeps;
  mtu = ap (λ (x : InnerValue). x.mtu) keeps;
  checksums = ap (λ (x : InnerValue). x.checksums) keeps;
  addresses = ap (λ (x : InnerValue). x.addresses) keeps;
  isn_key = ap (λ (x : InnerValue). x.isn_key) keeps;
  any_ip = ap (λ (x : InnerValue). x.any_ip) keeps;
  groups = ap (λ (x : InnerValue). x.groups) keeps;
  host_requirements = ap (λ (x : InnerValue). x.host_requirements) keeps;
  routes = ap (λ (x : InnerValue). x.routes) keeps;
}

pub settings_then : (a b c : InnerValue) → HasSettingsOf a b → HasSettingsOf b c → HasSettingsOf a c
settings_then a b c first second = record {
  hardware = second.hardware ∙ first.hardware;
  mtu = second.mtu ∙ first.mtu;
  checksums = second.checksums ∙ first.checksums;
  addresses = second.addresses ∙ first.addresses;
  isn_key = second.isn_key ∙ first.isn_key;
  any_ip = second.any_ip ∙ first.any_ip;
  groups = second.groups ∙ first.groups;
  host_requirements = second.host_requirements ∙ first.host_requirements;
  routes = second.routes ∙ first.routes;
}
