-- A host that begins.
use Rattle.std.proofs.Common.{◌≡◌, ℕ, zero, suc, get_or, ◌+◌, ◌-◌, not, ◌||◌, ◌&&◌, if◌then◌else◌, sym, ap, ap₂, ◌∙◌, ◌++◌, ◌∷◌, take, drop, length-append}
use Rattle.std.proofs.Common.{length-drop, length-take, ℤ, pos, ◌≤ℤ◌, Bool, true, false, List, [], length, Result, Ok, Err, Option, None, Some, IsOk, OnOk}
use Rattle.std.proofs.Common.{◌<◌, ◌≤◌, IsTrue, ◌↔◌, refl, subst, arith}
use Rattle.std.specs.Prelude.{int_lt, nat_lt, position, is_some}
use Rattle.std.proofs.lemmas.Bool.{false≢true}
use Rattle.std.proofs.lemmas.Bool.Decides.{nat_tests}
use Rattle.std.proofs.lemmas.List.Quantifiers.{position-Some}
use Rattle.std.specs.List.{list_any}
use Rattle.net_base.specs.Ring.{Ring, ring}
use Rattle.iface_tables.specs.ReceiveMap.{space}
use Rattle.sockets.specs.TcpValue.{TcpValue, new_socket, received_of}
use Rattle.interface.specs.Host.{HostValue}
use Rattle.interface.specs.Reports.{with_followed, with_own_addresses}
use Rattle.interface.specs.Made.{new_host, with_inner, Makes}
use Rattle.iface_tables.specs.Inner.{InnerValue}
use Rattle.iface_tables.specs.Neighbor.{flushed}
use Rattle.ip_wire.specs.AddressTests.{are_of_one_family}
use Rattle.ip_wire.specs.Cidr.{cidr_address, cidr_prefix_len}
use Rattle.ip_wire.specs.IpAddress.{IpAddress}
use Rattle.ip_wire.specs.HardwareAddress.{HardwareAddress}
use Rattle.ip_wire.specs.HardwareAddress.TheVariants as Hardware
use Rattle.ip_wire.specs.IpCidr.{IpCidr}
use Rattle.ip_wire.specs.IpCidr.TheVariants as Tcb
use Rattle.net_base.specs.Time.{IsMoment, last_instant}
use Rattle.ip_wire.specs.IpAddress.TheVariants as Ip
use Rattle.ip_wire.specs.Ipv4Address.{Ipv4Address}
use Rattle.ip_wire.specs.Ipv6Address.{Ipv6Address}
use Rattle.iface_tables.specs.Route.{RoutesValue, no_routes, is_all_v6, is_gateway_v4, is_gateway_v6, IsGateway, IsAdded, has_room, without, without_at}
use Rattle.iface_tables.specs.Settings.{MadeUnless, network_config, table_room, refusal, is_unicast_hardware, is_stranger, made, with_addresses, routes_of, with_routes, with_route_table}
use Rattle.iface_tables.proofs.RouteTable.{same_room}
use Rattle.iface_tables.specs.declared.config.NewError.{NewError}
use Rattle.iface_tables.specs.declared.config.NewError.TheVariants as New
use Rattle.iface_tables.specs.declared.route.Route.{Route}
use Rattle.iface_tables.specs.declared.route.RouteTableFull.{RouteTableFull}
use Rattle.std.proofs.Math.ListN.{replicate}
use Rattle.app_tun_services.specs.Begins.{capabilities_of, config_of, is_host_address, IsBlockOf, AddsRouters, AreDefaults, IsInterface, IsUnopened}
use Rattle.app_tun_services.specs.declared.settings.Settings.{Settings}

not_below : (a b : ℤ) → b ≤ℤ a → int_lt a b ≡ false
not_below a b is = grind (arith)

-- at an instant of the stack an interface is refused for a hardware address that is no hardware address's alone
pub refusal_is : (hardware : HardwareAddress) (seed : ℕ) (key : Option (List ℕ)) (instant : ℤ) → IsMoment instant
    → refusal (record (network_config hardware) { random_seed = seed; isn_key = key }) (capabilities_of hardware) instant ≡
    (if is_unicast_hardware hardware then None else Some New.NotUnicast)
refusal_is Hardware.Ip seed key instant is = rw (not_below instant (pos 0) is.0, not_below (pos last_instant) instant is.1) refl
refusal_is (Hardware.Ethernet a) seed key instant is = rw (not_below instant (pos 0) is.0, not_below (pos last_instant) instant is.1) refl

made_by : (b : Bool) (h made : HostValue) → MadeUnless (if b then None else Some New.NotUnicast) h (Ok made) → made ≡ h
made_by true h made is = is
made_by false h made is = absurd (cc)

not_made_by : (b : Bool) (h : HostValue) → MadeUnless (if b then None else Some New.NotUnicast) h (Err New.NotUnicast) → b ≡ false
not_made_by true h is = absurd (cc)
not_made_by false h is = refl

module _ (s : Settings) (instant : ℤ) (is : IsMoment instant) where
  pub made_is : (made : HostValue) → Makes (config_of s) (capabilities_of s.hardware) instant (Ok made) →
      made ≡ new_host (config_of s) (capabilities_of s.hardware) instant
  made_is made makes =
      let h = new_host (config_of s) (capabilities_of s.hardware) instant in
      made_by (is_unicast_hardware s.hardware) h made
      (subst (λ (o : Option NewError). MadeUnless o h (Ok made)) (refusal_is s.hardware s.seed s.isn_key instant is) makes)

  pub no_hardware_addr : Makes (config_of s) (capabilities_of s.hardware) instant (Err New.NotUnicast) → is_unicast_hardware s.hardware ≡ false
  no_hardware_addr makes =
      let h = new_host (config_of s) (capabilities_of s.hardware) instant in
      not_made_by (is_unicast_hardware s.hardware) h
      (subst (λ (o : Option NewError). MadeUnless o h (Err New.NotUnicast)) (refusal_is s.hardware s.seed s.isn_key instant is) makes)

-- ROUTES

first_v4 : (result : Result (Option Route) RouteTableFull) (new : List Route) (router : Ipv4Address)
    → IsOk result → OnOk result (IsAdded is_gateway_v4 (λ r. IsGateway r (replicate 4 0) (Ip.Ipv4 router)) [] new)
    → (r : Route) × IsGateway r (replicate 4 0) (Ip.Ipv4 router) × (new ≡ r ∷ [])
first_v4 (Ok o) new router ok added = added
first_v4 (Err e) new router ok added = absurd (cc)

-- a route of all IPv4 packets isn't one of all IPv6 packets
not_v6_by : (tcb : IpCidr) (router : Ipv4Address) → are_of_one_family (cidr_address tcb) (Ip.Ipv4 router) ≡ true → is_all_v6 tcb ≡ false
not_v6_by (Tcb.Ipv4 b) router is = refl
not_v6_by (Tcb.Ipv6 b) router is = absurd (cc)

not_v6 : (r : Route) (router : Ipv4Address) → IsGateway r (replicate 4 0) (Ip.Ipv4 router) → is_gateway_v6 r ≡ false
not_v6 r router is = not_v6_by r.cidr router is.family

no_slot : (r : Route) (o : Option ℕ) → position is_gateway_v6 (r ∷ []) ≡ o → is_gateway_v6 r ≡ false → position is_gateway_v6 (r ∷ []) ≡ None
no_slot r None is off = is
no_slot r (Some i) is off =
    let found = position-Some is_gateway_v6 (r ∷ []) i r is in
    let first : i ≡ 0 = omega (arith, found.0) in
    let on : is_gateway_v6 r ≡ true = subst (λ (k : ℕ). is_gateway_v6 (get_or (r ∷ []) k r) ≡ true) first found.1 in
    absurd (false≢true (sym off ∙ on))

added_following : (r r6 : Route) (new : List Route) → is_gateway_v6 r ≡ false → new ≡ without is_gateway_v6 (r ∷ []) ++ r6 ∷ [] → new ≡ r ∷ r6 ∷ []
added_following r r6 new off added =
    added ∙ ap (λ (o : Option ℕ). without_at o (r ∷ []) ++ r6 ∷ []) (no_slot r (position is_gateway_v6 (r ∷ [])) refl off)

or_true : (b : Bool) → b || true ≡ true
or_true true = refl
or_true false = refl

room_for : (k n : ℕ) → k < n → nat_lt k n ≡ true
room_for k n less = grind (arith, nat_tests)

room_of_one : (r : Route) (n : ℕ) → 2 ≤ n → has_room n is_gateway_v6 (r ∷ []) ≡ true
room_of_one r n fits =
    ap (λ (b : Bool). is_some (position is_gateway_v6 (r ∷ [])) || b) (room_for 1 n (omega (arith, fits))) ∙ or_true (is_some (position is_gateway_v6 (r ∷ [])))

second_v6 : (result : Result (Option Route) RouteTableFull) (r : Route) (new : List Route) (ipv4 : Ipv4Address) (ipv6 : Ipv6Address)
    → IsGateway r (replicate 4 0) (Ip.Ipv4 ipv4) → IsOk result
    → OnOk result (IsAdded is_gateway_v6 (λ r. IsGateway r (replicate 16 0) (Ip.Ipv6 ipv6)) (r ∷ []) new) → AreDefaults ipv4 ipv6 new
second_v6 (Ok o) r new ipv4 ipv6 first ok (r6, is, added) = (r, (r6, (first, is, added_following r r6 new (not_v6 r ipv4 first) added)))
second_v6 (Err e) r new ipv4 ipv6 first ok added = absurd (cc)

module _ (ipv4 : Ipv4Address) (ipv6 : Ipv6Address) where
  -- the first routes of an empty table that has room for two
  pub defaults_of : (one two : Result (Option Route) RouteTableFull) (old mid new : RoutesValue)
      → (IsOk one ↔ IsTrue (has_room old.room is_gateway_v4 old.entries))
      → OnOk one (IsAdded is_gateway_v4 (λ r. IsGateway r (replicate 4 0) (Ip.Ipv4 ipv4)) old.entries mid.entries) → mid.room ≡ old.room
      → (IsOk two ↔ IsTrue (has_room mid.room is_gateway_v6 mid.entries))
      → OnOk two (IsAdded is_gateway_v6 (λ r. IsGateway r (replicate 16 0) (Ip.Ipv6 ipv6)) mid.entries new.entries)
      → old.entries ≡ [] → 2 ≤ old.room → AreDefaults ipv4 ipv6 new.entries
  defaults_of one two old mid new ok added same ok2 added2 none fits =
      let room : IsOk one ↔ IsTrue (has_room old.room is_gateway_v4 []) =
      subst (λ (o : List Route). IsOk one ↔ IsTrue (has_room old.room is_gateway_v4 o)) none ok in
      let first : (r : Route) × IsGateway r (replicate 4 0) (Ip.Ipv4 ipv4) × (mid.entries ≡ r ∷ []) =
      first_v4 one mid.entries ipv4 (room.1 (room_for 0 old.room (omega (arith, fits))))
      (subst (λ (o : List Route). OnOk one (IsAdded is_gateway_v4 (λ r. IsGateway r (replicate 4 0) (Ip.Ipv4 ipv4)) o mid.entries)) none added) in
      let r : Route = first.0 in
      let room2 : IsOk two ↔ IsTrue (has_room mid.room is_gateway_v6 (r ∷ [])) =
      subst (λ (o : List Route). IsOk two ↔ IsTrue (has_room mid.room is_gateway_v6 o)) first.2 ok2 in
      second_v6 two r new.entries ipv4 ipv6 first.1 (room2.1 (room_of_one r mid.room (subst (λ (n : ℕ). 2 ≤ n) (sym same) fits)))
      (subst (λ (o : List Route). OnOk two (IsAdded is_gateway_v6 (λ r. IsGateway r (replicate 16 0) (Ip.Ipv6 ipv6)) o new.entries)) first.2 added2)

-- THE INTERFACE

-- the routes of a host, set where there were none
pub routed : (h h' : HostValue) (ipv4 : Ipv4Address) (ipv6 : Ipv6Address) (before after : RoutesValue) → before ≡ routes_of h.inner →
    AddsRouters ipv4 ipv6 before after
    → h' ≡ with_inner h (with_route_table h.inner after) → h.inner.routes ≡ [] → 2 ≤ h.inner.route_room
    → (routes : List Route) × AreDefaults ipv4 ipv6 routes × (h' ≡ with_inner h (with_routes h.inner routes))
routed h h' ipv4 ipv6 before after is adds set none fits =
    let room : before.room ≡ h.inner.route_room = ap (λ (rs : RoutesValue). rs.room) is in (
      after.entries,
      adds.first (ap (λ (rs : RoutesValue). rs.entries) is ∙ none) (subst (λ (n : ℕ). 2 ≤ n) (sym room) fits),
      set ∙ ap (with_inner h) (same_room h.inner after (adds.room ∙ room)),
    )

host_by : (b : Bool) (h k : HostValue) (table : RoutesValue) → routes_of h.inner ≡ table → routes_of k.inner ≡ table
    → routes_of (if b then h else k).inner ≡ table
host_by true h k table p q = p
host_by false h k table p q = q

kept_by : (b : Bool) (i j : InnerValue) (table : RoutesValue) → routes_of i ≡ table → routes_of j ≡ table → routes_of (if b then i else j) ≡ table
kept_by true i j table p q = p
kept_by false i j table p q = q

both_known : (a b : Bool) → true ≡ not (not a || (not b || false)) → (a ≡ true) × (b ≡ true)
both_known true true is = (refl, refl)
both_known true false is = absurd (cc)
both_known false b is = absurd (cc)

not_both : (a b : Bool) → false ≡ not (not a || (not b || false)) → a && b ≡ false
not_both true true is = absurd (cc)
not_both true false is = refl
not_both false b is = refl

module _ (s : Settings) (instant : ℤ) (ipv4 ipv6 : IpCidr) (own_ipv4 : IsBlockOf (Ip.Ipv4 s.ipv4) s.ipv4_prefix_len ipv4)
    (own_ipv6 : IsBlockOf (Ip.Ipv6 s.ipv6) s.ipv6_prefix_len ipv6) where
  are_hosts : true ≡ not (list_any is_stranger (ipv4 ∷ ipv6 ∷ [])) → (is_host_address (Ip.Ipv4 s.ipv4) ≡ true) × (is_host_address (Ip.Ipv6 s.ipv6) ≡ true)
  are_hosts known =
      let both = both_known (is_host_address (cidr_address ipv4)) (is_host_address (cidr_address ipv6)) known in
      (ap is_host_address (sym own_ipv4.0) ∙ both.0, ap is_host_address (sym own_ipv6.0) ∙ both.1)

  pub are_not_hosts : false ≡ not (list_any is_stranger (ipv4 ∷ ipv6 ∷ [])) → is_host_address (Ip.Ipv4 s.ipv4) && is_host_address (Ip.Ipv6 s.ipv6) ≡ false
  are_not_hosts unknown =
      ap₂ (λ (a b : IpAddress). is_host_address a && is_host_address b) (sym own_ipv4.0) (sym own_ipv6.0)
      ∙ not_both (is_host_address (cidr_address ipv4)) (is_host_address (cidr_address ipv6)) unknown

  initial_with : HostValue
  initial_with = with_own_addresses (new_host (config_of s) (capabilities_of s.hardware) instant) (ipv4 ∷ ipv6 ∷ [])

  unused_table : routes_of initial_with.inner ≡ no_routes table_room
  unfolding initial_with
  unused_table =
      let h = new_host (config_of s) (capabilities_of s.hardware) instant in
      let i = h.inner in
      let strange = list_any is_stranger (ipv4 ∷ ipv6 ∷ []) in
      host_by strange h (with_followed h (with_addresses i (ipv4 ∷ ipv6 ∷ []))) (no_routes table_room) refl
      (kept_by strange i (record i { addresses = ipv4 ∷ ipv6 ∷ []; neighbors = flushed i.neighbors }) (no_routes table_room) refl refl)

  pub interface_begun : (first addressed last : HostValue) → first ≡ new_host (config_of s) (capabilities_of s.hardware) instant
      → addressed ≡ with_own_addresses first (ipv4 ∷ ipv6 ∷ []) → true ≡ not (list_any is_stranger (ipv4 ∷ ipv6 ∷ []))
      → (addressed.inner.routes ≡ [] → 2 ≤ addressed.inner.route_room → (routes : List Route) × AreDefaults s.ipv4_router s.ipv6_router routes ×
      (last ≡ with_inner addressed (with_routes addressed.inner routes)))
      → IsInterface s instant last
  unfolding initial_with
  interface_begun first addressed last first_is addressed_is known set =
      let whole : addressed ≡ initial_with = addressed_is ∙ ap (λ (h : HostValue). with_own_addresses h (ipv4 ∷ ipv6 ∷ [])) first_is in
      let table : routes_of addressed.inner ≡ no_routes table_room = ap (λ (h : HostValue). routes_of h.inner) whole ∙ unused_table in
      let room : addressed.inner.route_room ≡ 4 = ap (λ (rs : RoutesValue). rs.room) table in
      let routed = set (ap (λ (rs : RoutesValue). rs.entries) table) (omega (arith, room)) in
      let routes : List Route = routed.0 in
      let hosts = are_hosts known in
      record {
        ipv4 = ipv4;
        ipv6 = ipv6;
        routes = routes;
        own_ipv4 = own_ipv4;
        own_ipv6 = own_ipv6;
        ipv4_is_host = hosts.0;
        ipv6_is_host = hosts.1;
        routers = routed.1;
        host = routed.2 ∙ ap (λ (h : HostValue). with_inner h (with_routes h.inner routes)) whole;
      }

-- STREAMS

length_space : (n : ℕ) → length (space n) ≡ n
length_space zero = refl
length_space (suc n) = ap suc (length_space n)

unopened_at : (room : ℕ) (ys : List ℕ) → length ys ≡ room → IsUnopened room (new_socket room (ring [] ys 0))
unopened_at room ys long =
    let n = (0 + length ys) - 0 in
    let all : length (drop n ys ++ take n ys) ≡ length (drop n ys) + length (take n ys) = length-append (drop n ys) (take n ys) in
    record {
      tcb = refl;
      received = ap (λ (k : ℕ). received_of [] (space k) 0) (omega (arith, length_space room));
      queue = refl;
      offered = refl;
      receive_room = omega (arith, length_space room);
      send_room = omega (arith, all, length-drop n ys, length-take n ys, long);
    }

-- a socket with empty rings of this room
pub unopened : (room : ℕ) (xs ys : List ℕ) (rx tx : Ring ℕ) (v : TcpValue) → rx ≡ ring [] xs 0 → tx ≡ ring [] ys 0 → length xs ≡ room → length ys ≡ room
    → v ≡ new_socket (length rx.queue + length rx.free) tx → IsUnopened room v
unopened room xs ys rx tx v rx_is tx_is xs_long ys_long is =
    let size : length rx.queue + length rx.free ≡ room = ap (λ (r : Ring ℕ). length r.queue + length r.free) rx_is ∙ omega (arith, xs_long) in
    let whole : v ≡ new_socket room (ring [] ys 0) = is ∙ ap₂ (λ (k : ℕ) (r : Ring ℕ). new_socket k r) size tx_is in
    subst (IsUnopened room) (sym whole) (unopened_at room ys ys_long)
