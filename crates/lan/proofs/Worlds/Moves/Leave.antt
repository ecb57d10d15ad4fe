-- What a socket offers in a poll goes, where its device gives leave after the poll, and there is a way.
use Rattle.std.proofs.Common.{◌≡◌, ◌⊎◌, inl, inr, ℕ, ℤ, Bool, true, false, if◌then◌else◌, List, [], ◌∷◌, ◌++◌, Option, Some, None, IfSome, refl, sym, ap}
use Rattle.interface.specs.Host.{Sender}
use Rattle.interface.specs.Ip.{source_of, destination_of}
use Rattle.interface.specs.IpRepr.{IpRepr}
use Rattle.interface.specs.Serve.{Leaves, is_done, is_given_up, is_out_of_turn, plan_at, with_source}
use Rattle.iface_ingress.specs.HardwareAddress.{HardwareAddress}
use Rattle.iface_ingress.specs.IpAddress.{IpAddress}
use Rattle.iface_egress.specs.Fragments.{LeftValue}
use Rattle.iface_egress.specs.IsTransmitted.{IsTransmitted, WasCut, WasSent, cut_of, numbered}
use Rattle.iface_egress.specs.Departure.{Departure, Whole}
use Rattle.iface_egress.specs.Plan.{plan_of}
use Rattle.iface_egress.specs.declared.plan.Plan.{Plan}
use Rattle.iface_egress.specs.declared.plan.Plan.TheVariants as Way
use Rattle.iface_egress.specs.declared.socket_meta.Meta.{Meta}
use Rattle.iface_egress.specs.declared.egress_path.Sent.{Sent}
use Rattle.iface_egress.specs.declared.egress_path.Sent.TheVariants as Outcome
use Rattle.iface_tables.specs.Inner.{InnerValue, link_address, may_be_source}
use Rattle.iface_tables.specs.Source.{source_for}
use Rattle.iface_tables.specs.declared.link.LinkAddress.TheVariants as Link
use Rattle.sim_link.specs.Device.{Move, Allowed, Denied}
use Rattle.sockets.specs.Packet.{PacketValue}
use Rattle.tcp_block.specs.OpenOffer.{OpenOffer}
use Rattle.tcp_block.specs.Offers.{offer_of}
use Rattle.lan.specs.Worlds.AtLink.Moves as Moves
use Rattle.lan.specs.Worlds.AtLink.Moves.{Step}
use Rattle.lan.specs.Worlds.AtLink.Moves.Move.{Invokes, Passes, Offers, Gives, Takes, Receives, Resets, Changes}
use Rattle.lan.proofs.Worlds.Moves.Held.{IsAsAt}

-- DEVICES: what holds of one since a poll began, and of one that gave leave and refused nothing up to now

pub record IsGiving {D : Type 0} (moves : D → Move → D → Type 0) (Since Gives : D → Type 0) : Type 0 where
  pub since : (old new : D) (m : Move) → moves old m new → Since old → Since new
  pub had : (old new : D) (m : Move) → moves old m new → Gives new → Gives old
  pub leave : (old new : D) (t : ℤ) → moves old (Allowed t false) new → Since old → Gives new → ⊥
  pub takes : (old new : D) (len : ℕ) → moves old (Denied len) new → Since old → Gives new → ⊥

-- WHAT KEEPS A PACKET

-- a packet with this plan stays with its socket
abbrev pub IsHindrance : Plan → Type 0
IsHindrance Way.NoRoute = Unit {0}
IsHindrance Way.Wait = Unit {0}
IsHindrance Way.Busy = Unit {0}
IsHindrance (Way.Ask question) = Unit {0}
IsHindrance plan = ⊥

-- the header that a segment leaves with
abbrev pub leaving_by : InnerValue → IpRepr → IpRepr
leaving_by i h = if may_be_source i (source_of h) (destination_of h) then h else with_source h (source_for i.addresses (destination_of h))

-- So was the host in the poll when a packet that left it with this header had to stay, though it knew, as N says, where frames for a destination go.
pub record IsHindered (i0 : InnerValue) (t : ℤ) (N : IpAddress → HardwareAddress → Type 0) (leaving : InnerValue → IpRepr) : Type 0 where
  pub i : InnerValue
  pub like : IsAsAt i0 t i
  pub paths : i.paths ≡ []
  pub hop_limit : (remote : IpAddress) (to : HardwareAddress) → N remote to → link_address i remote ≡ Link.Known to
  pub busy : Bool
  pub plan : IsHindrance (plan_of i busy (leaving i))

-- what a TCP socket offers goes, or has to stay
abbrev pub IsLet : InnerValue → ℤ → (IpAddress → HardwareAddress → Type 0) → Moves.Move → Type 0
IsLet i0 t N (Offers at cx v from sent) = IfSome (offer_of cx v).socket.offered (λ o. (sent ≡ true) ⊎ IsHindered i0 t N (λ i. leaving_by i o.header))
IsLet i0 t N move = Unit {0}

abbrev pub AreLet : InnerValue → ℤ → (IpAddress → HardwareAddress → Type 0) → List Step → Type 0
AreLet i0 t N [] = Unit {0}
AreLet i0 t N (step ∷ steps) = IsLet i0 t N step.move × AreLet i0 t N steps

pub let-append : (i0 : InnerValue) (t : ℤ) (N : IpAddress → HardwareAddress → Type 0) (steps more : List Step) → AreLet i0 t N steps → AreLet i0 t N more →
    AreLet i0 t N (steps ++ more)
let-append i0 t N [] more first second = second
let-append i0 t N (step ∷ steps) more first second = (first.0, let-append i0 t N steps more first.1 second)

-- under a narrower condition
module _ (i0 : InnerValue) (t : ℤ) (N N' : IpAddress → HardwareAddress → Type 0) (knew : (remote : IpAddress) (to : HardwareAddress) → N' remote to → N remote to) where
  still_hindered : (leaving : InnerValue → IpRepr) → IsHindered i0 t N leaving → IsHindered i0 t N' leaving
  still_hindered leaving h = record {
    i = h.i;
    like = h.like;
    paths = h.paths;
    hop_limit = λ remote to n. h.hop_limit remote to (knew remote to n);
    busy = h.busy;
    plan = h.plan;
  }

  still_or : (leaving : InnerValue → IpRepr) (sent : Bool) → (sent ≡ true) ⊎ IsHindered i0 t N leaving → (sent ≡ true) ⊎ IsHindered i0 t N' leaving
  still_or leaving sent (inl gone) = inl gone
  still_or leaving sent (inr h) = inr (still_hindered leaving h)

  still_offer : (o : Option OpenOffer) (sent : Bool) → IfSome o (λ o. (sent ≡ true) ⊎ IsHindered i0 t N (λ i. leaving_by i o.header))
      → IfSome o (λ o. (sent ≡ true) ⊎ IsHindered i0 t N' (λ i. leaving_by i o.header))
  still_offer None sent so = tt
  still_offer (Some o) sent so = still_or (λ i. leaving_by i o.header) sent so

  still_let : (move : Moves.Move) → IsLet i0 t N move → IsLet i0 t N' move
  still_let (Offers at cx v from sent) so = still_offer (offer_of cx v).socket.offered sent so
  still_let (Invokes at cx old entry call new) so = tt
  still_let (Passes entry) so = tt
  still_let (Gives at cx v answer new sent) so = tt
  still_let (Takes at cx v ip header bytes) so = tt
  still_let (Receives at cx v ip udp bytes) so = tt
  still_let (Resets x) so = tt
  still_let (Changes at old new) so = tt

  pub let_narrowed : (steps : List Step) → AreLet i0 t N steps → AreLet i0 t N' steps
  let_narrowed [] so = tt
  let_narrowed (step ∷ steps) so = (still_let step.move so.0, let_narrowed steps so.1)

-- A PACKET'S TURN

abbrev Ends : Sent → Plan → Type 0
Ends sent plan = (is_done sent ≡ true) ⊎ IsHindrance plan

-- one that is held back is given up, or would ask out of turn
held_so : (up : Bool) (turn : Option IpAddress) (plan : Plan) (sent : Sent)
    → (let r : Option Sent = if up then Some Outcome.Dropped else if is_out_of_turn turn plan then Some Outcome.Waits else None in r) ≡ Some sent →
    Ends sent plan
held_so true turn plan sent is = inl (let same : Outcome.Dropped ≡ sent = cc in ap is_done (sym same))
held_so false turn (Way.Ask question) sent is = inr tt
held_so false turn Way.NoRoute sent is = inr tt
held_so false turn Way.Wait sent is = inr tt
held_so false turn Way.Busy sent is = inr tt
held_so false turn Way.Drop sent is = absurd (cc)
held_so false turn (Way.Go to) sent is = absurd (cc)
held_so false turn (Way.Cut to) sent is = absurd (cc)

module _ {D : Type 0} (moves : D → Move → D → Type 0) (Since Gives : D → Type 0) (giving : IsGiving moves Since Gives) where
  was_sent_so : (plan : Plan) (d d' : D) (i i' : InnerValue) (h : IpRepr) (p : Departure) (sent : Sent) → WasSent moves d i h p sent d' i' → Since d → Gives d' →
      Ends sent plan
  was_sent_so plan d d' i i' h p Outcome.Gone goes since gives = inl refl
  was_sent_so plan d d' i i' h p Outcome.Refused goes since gives = absurd (giving.takes d d' _ goes.0 since gives)
  was_sent_so plan d d' i i' h p Outcome.Waits goes since gives = absurd goes
  was_sent_so plan d d' i i' h p Outcome.Dropped goes since gives = absurd goes
  was_sent_so plan d d' i i' h p Outcome.Busy goes since gives = absurd goes

  cut_so : (plan : Plan) (d d' : D) (i i' : InnerValue) (l l' : Option LeftValue) (c : LeftValue) (sent : Sent) → WasCut moves d i l c sent d' i' l' →
      Since d → Gives d' → Ends sent plan
  cut_so plan d d' i i' l l' c Outcome.Gone goes since gives = inl refl
  cut_so plan d d' i i' l l' c Outcome.Refused goes since gives = absurd (giving.takes d d' _ goes.0 since gives)
  cut_so plan d d' i i' l l' c Outcome.Waits goes since gives = absurd goes
  cut_so plan d d' i i' l l' c Outcome.Dropped goes since gives = absurd goes
  cut_so plan d d' i i' l l' c Outcome.Busy goes since gives = absurd goes

  out_so : (d d' : D) (i i' : InnerValue) (l l' : Option LeftValue) (p : PacketValue) (plan : Plan) (sent : Sent) →
      IsTransmitted moves d i l p plan sent d' i' l' → Since d → Gives d' → Ends sent plan
  out_so d d' i i' l l' p Way.Drop sent goes since gives = inl (ap is_done goes.0)
  out_so d d' i i' l l' p Way.NoRoute sent goes since gives = inr tt
  out_so d d' i i' l l' p Way.Wait sent goes since gives = inr tt
  out_so d d' i i' l l' p Way.Busy sent goes since gives = inr tt
  out_so d d' i i' l l' p (Way.Ask question) sent goes since gives = inr tt
  out_so d d' i i' l l' p (Way.Go to) sent goes since gives =
      was_sent_so (Way.Go to) d d' i i' p.header (Whole to (numbered i p)) sent goes.0 since gives
  out_so d d' i i' l l' p (Way.Cut to) sent goes since gives = cut_so (Way.Cut to) d d' i i' l l' (cut_of i to p) sent goes since gives

  -- where the device gives leave after it, it is done with, or has to stay
  pub leaves_so : (turn : Option IpAddress) (x x' : Sender D) (m : Meta) (p : PacketValue) (sent : Sent) → Leaves moves turn x m p sent x' → Since x.device →
      Gives x'.device → (is_done sent ≡ true) ⊎ IsHindrance (plan_at x p)
  leaves_so turn x x' m p sent (inl (false, refused, inner, left, so)) since gives =
      absurd (giving.leave x.device x'.device x.inner.instant refused since gives)
  leaves_so turn x x' m p sent (inl (true, allowed, inner, left, so)) since gives =
      held_so (is_given_up m x.inner (destination_of p.header) (plan_at x p)) turn (plan_at x p) sent so
  leaves_so turn x x' m p sent (inr (mid, allowed, goes, free)) since gives =
      out_so mid x'.device x.inner x'.inner x.left x'.left p (plan_at x p) sent goes
      (giving.since x.device mid (Allowed x.inner.instant true) allowed since) gives
