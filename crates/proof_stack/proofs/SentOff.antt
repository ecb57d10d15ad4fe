-- In a poll after which the device gives leave, what TCP sockets offer goes where the next hop is known.
use Rattle.std.proofs.Common.{◌≡◌, ◌⊎◌, inl, inr, ℕ, ◌≤◌, ℤ, Bool, true, false, nat_le, if◌then◌else◌, List, [], ◌∷◌, Option, Some, None, IfSome, refl, sym, ap, ◌∙◌, subst}
use Rattle.std.proofs.Common.{arith, le-leb}
use Rattle.std.specs.List.{AllByRecursion}
use Rattle.ip_wire.specs.HardwareAddress.{HardwareAddress}
use Rattle.ip_wire.specs.HardwareAddress.TheVariants as Hardware
use Rattle.ip_wire.specs.IpAddress.{IpAddress}
use Rattle.ip_wire.specs.IpAddress.TheVariants as Address
use Rattle.ip_wire.specs.IpRepr.{IpRepr}
use Rattle.ip_wire.specs.IpRepr.TheVariants as Ip
use Rattle.ip_wire.specs.Ip.{destination_of, source_of}
use Rattle.interface.specs.Serve.{with_source}
use Rattle.iface_egress.specs.Plan.{comes_from_here, long_plan, plan_by, plan_of, stays, total_len}
use Rattle.iface_egress.specs.declared.plan.Plan.TheVariants as Way
use Rattle.iface_tables.specs.Inner.{InnerValue, link_address, may_be_source, mtu_to}
use Rattle.iface_tables.specs.PathMtu.{mtu_towards}
use Rattle.iface_tables.specs.Settings.{is_mtu}
use Rattle.iface_tables.specs.Source.{source_for}
use Rattle.iface_tables.specs.declared.link.LinkAddress.{LinkAddress}
use Rattle.iface_tables.specs.declared.link.LinkAddress.TheVariants as Link
use Rattle.iface_tables.specs.declared.path_mtu.Path.{Path}
use Rattle.lan.specs.Worlds.AtLink.Happening.{goes}
use Rattle.lan.specs.Worlds.AtLink.Moves.{Move, Step, after}
use Rattle.lan.specs.Worlds.AtLink.Moves.Move.{Invokes, Passes, Offers, Gives, Takes, Receives, Resets, Changes}
use Rattle.lan.specs.Worlds.AtLink.Parties.{Net}
use Rattle.lan.specs.Worlds.Link.Frames.{medium_on}
use Rattle.lan.specs.declared.at_link.history.event.Side.{Side}
use Rattle.lan.proofs.Worlds.Moves.Held.{AreHeld, IsHeld, whole_path}
use Rattle.lan.proofs.Worlds.Moves.Leave.{AreLet, IsHindered, IsHindrance, IsLet, leaving_by}
use Rattle.sim_link.specs.Medium.TheVariants as Media
use Rattle.sockets.specs.Context.{ContextValue}
use Rattle.tcp_state.specs.declared.offer.OpenOffer.{OpenOffer}
use Rattle.tcp_block.specs.Offers.{offer_of}
use Rattle.proof_stack.proofs.OfferLengths.{offer_fits}
use Rattle.proof_stack.specs.Progress.Events.{IsSentOff}
use Rattle.proof_stack.specs.Progress.KnownHopLimit.{IsSentTo}

pub mtu_least : (mtu : ℕ) → is_mtu mtu ≡ true → 80 ≤ mtu
mtu_least mtu is = grind (arith, is)

pub is_ip : (h : HardwareAddress) → medium_on h ≡ Media.Ip → h ≡ Hardware.Ip
is_ip Hardware.Ip is = refl
is_ip (Hardware.Ethernet own) is = absurd (cc)

-- another source leaves the length
source_len : (h : IpRepr) (o : Option IpAddress) → total_len (with_source h o) ≡ total_len h
source_len (Ip.Ipv4 v) None = refl
source_len (Ip.Ipv4 v) (Some (Address.Ipv4 a)) = refl
source_len (Ip.Ipv4 v) (Some (Address.Ipv6 a)) = refl
source_len (Ip.Ipv6 v) None = refl
source_len (Ip.Ipv6 v) (Some (Address.Ipv4 a)) = refl
source_len (Ip.Ipv6 v) (Some (Address.Ipv6 a)) = refl

leaving_len : (i : InnerValue) (h : IpRepr) → total_len (leaving_by i h) ≡ total_len h
leaving_len i h = by (may_be_source i (source_of h) (destination_of h)) where
  by : (here : Bool) → total_len (if here then h else with_source h (source_for i.addresses (destination_of h))) ≡ total_len h
  by true = refl
  by false = source_len h (source_for i.addresses (destination_of h))

-- it leaves the destination
pub source_destination : (h : IpRepr) (o : Option IpAddress) → destination_of (with_source h o) ≡ destination_of h
source_destination (Ip.Ipv4 v) None = refl
source_destination (Ip.Ipv4 v) (Some (Address.Ipv4 a)) = refl
source_destination (Ip.Ipv4 v) (Some (Address.Ipv6 a)) = refl
source_destination (Ip.Ipv6 v) None = refl
source_destination (Ip.Ipv6 v) (Some (Address.Ipv4 a)) = refl
source_destination (Ip.Ipv6 v) (Some (Address.Ipv6 a)) = refl

leaving_destination : (i : InnerValue) (h : IpRepr) → destination_of (leaving_by i h) ≡ destination_of h
leaving_destination i h = by (may_be_source i (source_of h) (destination_of h)) where
  by : (here : Bool) → destination_of (if here then h else with_source h (source_for i.addresses (destination_of h))) ≡ destination_of h
  by true = refl
  by false = source_destination h (source_for i.addresses (destination_of h))

-- a packet that fits a frame goes, or is dropped
no_hindrance : (i : InnerValue) (h : IpRepr) (busy : Bool) (to : HardwareAddress) → link_address i (destination_of h) ≡ Link.Known to → i.paths ≡ []
    → total_len h ≤ i.mtu → IsHindrance (plan_of i busy h) → ⊥
no_hindrance i h busy to here none short hinders = by (stays i (comes_from_here i h) (destination_of h)) hinders where
  whole : mtu_to i (destination_of h) ≡ i.mtu
  whole = ap (λ (ps : List Path). mtu_towards ps (destination_of h) i.instant i.mtu) none ∙ whole_path (destination_of h) i.instant i.mtu

  fits : nat_le (total_len h) (mtu_to i (destination_of h)) ≡ true
  fits = ap (nat_le (total_len h)) whole ∙ le-leb (total_len h) i.mtu short

  goes_whole : plan_by (link_address i (destination_of h)) i busy h ≡ Way.Go to
  goes_whole =
      ap (λ (a : LinkAddress). plan_by a i busy h) here
      ∙ ap (λ (b : Bool). if b then Way.Go to else long_plan busy to h) fits

  by : (out : Bool) → IsHindrance (if out then Way.Drop else plan_by (link_address i (destination_of h)) i busy h) → ⊥
  by true so = so
  by false so = subst IsHindrance goes_whole so

module _ (i0 : InnerValue) (t : ℤ) (N : IpAddress → HardwareAddress → Type 0) (enough : 80 ≤ i0.mtu) where
  never : (h : IpRepr) (to : HardwareAddress) → N (destination_of h) to → total_len h ≤ i0.mtu → IsHindered i0 t N (λ i. leaving_by i h) → ⊥
  never h to knows short so =
      let len = leaving_len so.i h in
      let mtu = so.like.settings.mtu in
      let there : link_address so.i (destination_of (leaving_by so.i h)) ≡ Link.Known to =
      ap (λ (a : IpAddress). link_address so.i a) (leaving_destination so.i h) ∙ so.hop_limit (destination_of h) to knows in
      no_hindrance so.i (leaving_by so.i h) so.busy to there so.paths (omega (arith, short, len, mtu)) so.plan

  offer_goes : (o : Option OpenOffer) (sent : Bool) → IfSome o (λ (x : OpenOffer). total_len x.header ≤ i0.mtu)
      → IfSome o (λ (x : OpenOffer). (sent ≡ true) ⊎ IsHindered i0 t N (λ i. leaving_by i x.header))
      → IfSome o (λ (x : OpenOffer). (to : HardwareAddress) → N (destination_of x.header) to → sent ≡ true)
  offer_goes None sent short let_go = tt
  offer_goes (Some o) sent short (inl gone) = λ to knows. gone
  offer_goes (Some o) sent short (inr so) = λ to knows. absurd (never o.header to knows short so)

  move_goes : (net : Net) (side : Side) (move : Move) → IsHeld i0 t net side move → IsLet i0 t N move → IsSentTo N move
  move_goes net side (Offers at cx v from sent) held let_go =
      let mtu : cx.ip_mtu ≡ i0.mtu = ap (λ (c : ContextValue). c.ip_mtu) held.0 in
      let short : IfSome (offer_of cx v).socket.offered (λ (x : OpenOffer). total_len x.header ≤ i0.mtu) =
      subst (λ (n : ℕ). IfSome (offer_of cx v).socket.offered (λ (x : OpenOffer). total_len x.header ≤ n)) mtu
      (offer_fits cx (subst (λ (n : ℕ). 80 ≤ n) (sym mtu) enough) v) in
      offer_goes (offer_of cx v).socket.offered sent short let_go
  move_goes net side (Invokes at cx old entry call new) held let_go = tt
  move_goes net side (Passes entry) held let_go = tt
  move_goes net side (Gives at cx v answer new sent) held let_go = tt
  move_goes net side (Takes at cx v ip header bytes) held let_go = tt
  move_goes net side (Receives at cx v ip udp bytes) held let_go = tt
  move_goes net side (Resets x) held let_go = tt
  move_goes net side (Changes at old new) held let_go = tt

  pub all_sent_to : (side : Side) (net : Net) (steps : List Step) → AreHeld i0 t side net steps → AreLet i0 t N steps →
      AllByRecursion (λ step. IsSentTo N step.move) steps
  all_sent_to side net [] held let_go = tt
  all_sent_to side net (step ∷ steps) held let_go =
      (move_goes net side step.move held.0.1 let_go.0, all_sent_to side (after net step) steps held.1 let_go.1)

-- WHERE EACH HOP IS KNOWN

module _ (N : IpAddress → HardwareAddress → Type 0) (to : HardwareAddress) (all_known : (remote : IpAddress) → N remote to) where
  off_by : (o : Option OpenOffer) (sent : Bool) → IfSome o (λ (x : OpenOffer). (to : HardwareAddress) → N (destination_of x.header) to → sent ≡ true)
      → goes o sent ≡ true
  off_by None sent so = refl
  off_by (Some o) sent so = so to (all_known (destination_of o.header))

  is_off : (move : Move) → IsSentTo N move → IsSentOff move
  is_off (Offers at cx v from sent) so = off_by (offer_of cx v).socket.offered sent so
  is_off (Invokes at cx old entry call new) so = tt
  is_off (Passes entry) so = tt
  is_off (Gives at cx v answer new sent) so = tt
  is_off (Takes at cx v ip header bytes) so = tt
  is_off (Receives at cx v ip udp bytes) so = tt
  is_off (Resets x) so = tt
  is_off (Changes at old new) so = tt

  pub all_sent_off : (steps : List Step) → AllByRecursion (λ step. IsSentTo N step.move) steps → AllByRecursion (λ step. IsSentOff step.move) steps
  all_sent_off [] so = tt
  all_sent_off (step ∷ steps) so = (is_off step.move so.0, all_sent_off steps so.1)
