-- Steps in which a host shows itself as it was, takes what came whole, and makes no reset.
use Rattle.std.proofs.Common.{◌≡◌, ℕ, ◌^◌, ◌<◌, ℤ, ◌≤ℤ◌, Bool, true, false, not, ◌&&◌, if◌then◌else◌, List, [], ◌∷◌, ◌++◌, IfSome, Option, Some, None, refl, sym, ap, ◌∙◌}
use Rattle.std.specs.Prelude.{◌||◌}
use Rattle.std.specs.List.{list_any}
use Rattle.iface_egress.specs.Departing.{HasSettingsOf}
use Rattle.iface_ingress.specs.AddressTests.{is_broadcast_v4, is_loopback, is_multicast, is_unspecified}
use Rattle.iface_ingress.specs.IpAddress.TheVariants as Address
use Rattle.ip_wire.specs.IpCidr.{IpCidr}
use Rattle.sockets.specs.Context.{ContextValue}
use Rattle.interface.specs.Ip.{source_of, destination_of}
use Rattle.interface.specs.IpRepr.{IpRepr}
use Rattle.interface.specs.Serve.{with_source}
use Rattle.iface_ingress.specs.IpAddress.{IpAddress}
use Rattle.iface_ingress.specs.Processed.{is_for_many, names_no_endpoint}
use Rattle.iface_ingress.specs.Reassembled.{is_astray}
use Rattle.iface_tables.specs.Groups.{is_joined}
use Rattle.iface_tables.specs.Inner.{InnerValue, context_of, context_towards, is_address_of, is_all_nodes, is_all_systems, is_broadcast_of, is_for_us, is_local_broadcast, is_loopback_in}
use Rattle.iface_tables.specs.Inner.{is_limited_broadcast, is_loopback_of, is_mapped, is_member_of, is_local, may_be_source, mtu_by_destination, solicits_cidr}
use Rattle.iface_tables.specs.PathMtu.{mtu_towards}
use Rattle.iface_tables.specs.declared.path_mtu.Path.{Path}
use Rattle.interface.specs.SameHost.{IsSameHost}
use Rattle.iface_tables.specs.Source.{source_for}
use Rattle.tcp_block.specs.Offers.{offer_of}
use Rattle.tcp_block.specs.OpenOffer.{OpenOffer}
use Rattle.tcp_refinement.specs.Host.{MayCome}
use Rattle.tcp_refinement.specs.Pair.Values.{context_on}
use Rattle.lan.specs.Worlds.AtLink.Kinds.{other}
use Rattle.lan.specs.Worlds.AtLink.Moves.{Move, Step, after, run}
use Rattle.lan.specs.Worlds.AtLink.Moves.Move.{Invokes, Passes, Offers, Gives, Takes, Receives, Resets, Changes}
use Rattle.lan.specs.Worlds.AtLink.Parties.{Net, party}
use Rattle.lan.specs.Worlds.AtLink.Side.{Side}
use Rattle.lan.specs.Worlds.Still.{host_in}

-- WHAT A HOST SHOWS, at an instant
abbrev pub IsShownAt : InnerValue → ℤ → ContextValue → Type 0
IsShownAt i t cx = cx ≡ context_on (host_in i) t cx.random

-- the source that a segment with this header leaves from
abbrev pub source_by : InnerValue → IpRepr → IpAddress
source_by i h = source_of (if may_be_source i (source_of h) (destination_of h) then h else with_source h (source_for i.addresses (destination_of h)))

-- a packet goes between two hosts, of which this is the second, and no loopback address is in it but an own one
pub record IsBetweenHosts (i : InnerValue) (ip : IpRepr) : Type 0 where
  pub somebody : names_no_endpoint i ip ≡ false
  pub one : is_for_many i (source_of ip) ≡ false
  pub ours : is_for_us i (destination_of ip) ≡ true
  pub here : is_astray i (source_of ip) (destination_of ip) ≡ false

abbrev pub IsHeld : InnerValue → ℤ → Net → Side → Move → Type 0
IsHeld i t net side (Invokes at cx old entry call new) = IsShownAt i t cx
IsHeld i t net side (Offers at cx v from sent) = IsShownAt i t cx × IfSome (offer_of cx v).socket.offered (λ o. from ≡ source_by i o.header)
IsHeld i t net side (Takes at cx v ip header bytes) =
    IsShownAt i t cx × MayCome (party net (other side)).segments (source_of ip) (destination_of ip) header bytes × IsBetweenHosts i ip
IsHeld i t net side (Resets x) = ⊥
IsHeld i t net side (Changes at old new) = ⊥
IsHeld i t net side move = Unit {0}

-- the step is this host's
abbrev pub IsHeldStep : InnerValue → ℤ → Side → Net → Step → Type 0
IsHeldStep i t side net step = (step.side ≡ side) × IsHeld i t net side step.move

-- ALL STEPS

abbrev pub AreHeld : InnerValue → ℤ → Side → Net → List Step → Type 0
AreHeld i t side net [] = Unit {0}
AreHeld i t side net (step ∷ steps) = IsHeldStep i t side net step × AreHeld i t side (after net step) steps

pub held-append : (i : InnerValue) (t : ℤ) (side : Side) (net : Net) (steps more : List Step) → AreHeld i t side net steps →
    AreHeld i t side (run net steps) more → AreHeld i t side net (steps ++ more)
held-append i t side net [] more first second = second
held-append i t side net (step ∷ steps) more first second = (first.0, held-append i t side (after net step) steps more first.1 second)

-- STILL

-- no path is known to carry less, and nothing was answered that no socket takes
abbrev pub Stays : InnerValue → InnerValue → Type 0
Stays first i = (i.paths ≡ []) × (i.errors_until ≡ first.errors_until)

-- where nothing is known of paths a packet may be as long as a frame carries
pub whole_path : (a : IpAddress) (now : ℤ) (whole : ℕ) → mtu_towards [] a now whole ≡ whole
unfolding mtu_towards
whole_path a now whole = refl

-- A HOST THAT STAYED as sockets are shown it, but for its clock and its random words
pub record IsSeenAs (i0 i : InnerValue) : Type 0 where
  pub addresses : i.addresses ≡ i0.addresses
  pub any_ip : i.any_ip ≡ i0.any_ip
  pub groups : i.groups ≡ i0.groups
  pub mtu : i.mtu ≡ i0.mtu
  pub checksums : i.checksums ≡ i0.checksums
  pub isn_key : i.isn_key ≡ i0.isn_key
  pub host_requirements : i.host_requirements ≡ i0.host_requirements

pub seen_of : (i0 i : InnerValue) → HasSettingsOf i0 i → IsSeenAs i0 i
seen_of i0 i has = record {
  addresses = has.addresses;
  any_ip = has.any_ip;
  groups = has.groups;
  mtu = has.mtu;
  checksums = has.checksums;
  isn_key = has.isn_key;
  host_requirements = has.host_requirements;
}

module _ (i0 i : InnerValue) (seen : IsSeenAs i0 i) where
  broadcasts : (a : IpAddress) → is_local_broadcast i a ≡ is_local_broadcast i0 a
  broadcasts (Address.Ipv4 a) = ap (λ (bs : List IpCidr). is_broadcast_v4 a || list_any (is_broadcast_of a) bs) seen.addresses
  broadcasts (Address.Ipv6 a) = refl

  pub hosts_same : host_in i ≡ host_in i0
  hosts_same = λ k. record {
    has_ip_addr = λ a. seen.any_ip k || list_any (is_address_of a) (seen.addresses k);
    source_for = source_for (seen.addresses k);
    is_broadcast = λ a. broadcasts a k;
    ip_mtu = seen.mtu k;
    checksums = seen.checksums k;
    isn_key = seen.isn_key k;
  }

  pub nobodies : (ip : IpRepr) → names_no_endpoint i ip ≡ names_no_endpoint i0 ip
  nobodies ip =
      ap (λ (all : Bool). is_unspecified (source_of ip) || (is_unspecified (destination_of ip) || (all || is_multicast (destination_of ip))))
      (broadcasts (destination_of ip))

  pub many : (a : IpAddress) → is_for_many i a ≡ is_for_many i0 a
  many a = ap (λ (all : Bool). all || is_multicast a) (broadcasts a)

  owns : (a : IpAddress) → is_local i a ≡ is_local i0 a
  owns a = λ k. seen.any_ip k || list_any (is_address_of a) (seen.addresses k)

  members : (a : IpAddress) → is_member_of i a ≡ is_member_of i0 a
  members (Address.Ipv4 a) = λ k. is_all_systems a || is_joined (seen.groups k) (Address.Ipv4 a)
  members (Address.Ipv6 a) = λ k. is_all_nodes a || list_any (solicits_cidr a) (seen.addresses k) || is_joined (seen.groups k) (Address.Ipv6 a)

  pub for_us : (a : IpAddress) → is_for_us i a ≡ is_for_us i0 a
  for_us a = λ k. owns a k || members a k || broadcasts a k || is_loopback_in a

  pub strays : (source destination : IpAddress) → is_astray i source destination ≡ is_astray i0 source destination
  strays source destination = λ k.
      (is_loopback source && not (list_any (is_loopback_of source) (seen.addresses k)))
      || ((is_loopback destination && not (list_any (is_loopback_of destination) (seen.addresses k)))
      || (seen.host_requirements k
      && ((not (is_unspecified source) && list_any (is_address_of source) (seen.addresses k)) || (is_mapped source || is_mapped destination))))

  pub may_come : (source destination : IpAddress) → may_be_source i source destination ≡ may_be_source i0 source destination
  may_come source destination = λ k.
      not (broadcasts source k || (is_multicast source
      || (is_unspecified source && (seen.host_requirements k && not (is_limited_broadcast destination)))))
      && (not (is_loopback source) || is_loopback destination)

  pub sources : (h : IpRepr) → source_by i h ≡ source_by i0 h
  sources h = λ k. source_of (if may_come (source_of h) (destination_of h) k then h
      else with_source h (source_for (seen.addresses k) (destination_of h)))

  between_so : (ip : IpRepr) → IsBetweenHosts i ip → IsBetweenHosts i0 ip
  between_so ip is = record {
    somebody = sym (nobodies ip) ∙ is.somebody;
    one = sym (many (source_of ip)) ∙ is.one;
    ours = sym (for_us (destination_of ip)) ∙ is.ours;
    here = sym (strays (source_of ip) (destination_of ip)) ∙ is.here;
  }

  left_so : (o : Option OpenOffer) (from : IpAddress) → IfSome o (λ o. from ≡ source_by i o.header) → IfSome o (λ o. from ≡ source_by i0 o.header)
  left_so None from is = tt
  left_so (Some o) from is = is ∙ sources o.header

  shown_so : (t : ℤ) (cx : ContextValue) → IsShownAt i t cx → IsShownAt i0 t cx
  shown_so t cx is = is ∙ (λ k. context_on (hosts_same k) t cx.random)

  -- so a move that the one makes is held by the other
  held_so : (t : ℤ) (net : Net) (side : Side) (move : Move) → IsHeld i t net side move → IsHeld i0 t net side move
  held_so t net side (Invokes at cx old entry call new) held = shown_so t cx held
  held_so t net side (Passes entry) held = tt
  held_so t net side (Offers at cx v from sent) held = (shown_so t cx held.0, left_so (offer_of cx v).socket.offered from held.1)
  held_so t net side (Gives at cx v answer new sent) held = tt
  held_so t net side (Takes at cx v ip header bytes) held = (shown_so t cx held.0, held.1, between_so ip held.2)
  held_so t net side (Receives at cx v ip udp bytes) held = tt
  held_so t net side (Resets x) held = held
  held_so t net side (Changes at old new) held = held

  pub all_so : (t : ℤ) (side : Side) (net : Net) (steps : List Step) → AreHeld i t side net steps → AreHeld i0 t side net steps
  all_so t side net [] held = tt
  all_so t side net (step ∷ steps) held = ((held.0.0, held_so t net side step.move held.0.1), all_so t side (after net step) steps held.1)

-- THE HOST IN A POLL, at this instant: its settings are those that it had, errors are counted up to no earlier instant, and its next identification is a
-- number of 16 bits where it was one
pub record IsAsAt (i0 : InnerValue) (t : ℤ) (i : InnerValue) : Type 0 where
  pub settings : HasSettingsOf i0 i
  pub instant : i.instant ≡ t
  pub low : i0.errors_until ≤ℤ i.errors_until
  pub ident : i0.ident < 2 ^ 16 → i.ident < 2 ^ 16

module _ (i0 i : InnerValue) (t : ℤ) (like : IsAsAt i0 t i) where
  pub seen_at : IsSeenAs i0 i
  seen_at = seen_of i0 i like.settings

  -- what a socket is shown to which a segment comes
  pub shows : IsShownAt i0 t (context_of i)
  shows = λ k. context_on (hosts_same i0 i seen_at k) (like.instant k) i.random

  -- what a socket is shown that is asked, where no path is known to carry less
  mtus : (d : Option IpAddress) → i.paths ≡ [] → mtu_by_destination i d ≡ i.mtu
  mtus None none = refl
  mtus (Some a) none = ap (λ (ps : List Path). mtu_towards ps a i.instant i.mtu) none ∙ whole_path a i.instant i.mtu

  pub shows_towards : (d : Option IpAddress) → i.paths ≡ [] → IsShownAt i0 t (context_towards i d)
  shows_towards d none =
      (λ k. record (context_of i) { ip_mtu = mtus d none k; random = 0 }) ∙ (λ k. context_on (hosts_same i0 i seen_at k) (like.instant k) 0)

-- the egress path leaves what is asked of a host
pub stays_before : (i0 i i' : InnerValue) → IsSameHost i i' → Stays i0 i' → Stays i0 i
stays_before i0 i i' same still =
    (sym (ap (λ (x : InnerValue). x.paths) same) ∙ still.0, sym (ap (λ (x : InnerValue). x.errors_until) same) ∙ still.1)
