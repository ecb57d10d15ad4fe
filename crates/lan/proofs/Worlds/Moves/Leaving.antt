-- A packet whose host is done with it went in a frame that was sent, or was dropped.
use Rattle.std.proofs.Common.{◌≡◌, inl, inr, ℕ, Bool, true, false, if◌then◌else◌, List, [], ◌∷◌, ◌++◌, Option, Some, None, refl, sym, ap, ◌∙◌, subst}
use Rattle.ip_wire.specs.HardwareAddress.{HardwareAddress}
use Rattle.interface.specs.Host.{Sender}
use Rattle.interface.specs.Ip.{destination_of}
use Rattle.interface.specs.Serve.{Leaves, is_done, is_given_up, is_out_of_turn, plan_at}
use Rattle.iface_ingress.specs.IpAddress.{IpAddress}
use Rattle.iface_egress.specs.Departure.{Asks, Whole}
use Rattle.iface_egress.specs.Fragments.{LeftValue, departure_from}
use Rattle.iface_egress.specs.IsTransmitted.{IsTransmitted, Asked, WasCut, WasSent, cut_of, frame_len_of, frame_of, numbered}
use Rattle.iface_egress.specs.declared.frame.NeighborQuery.{NeighborQuery}
use Rattle.iface_egress.specs.declared.plan.Plan.{Plan}
use Rattle.iface_egress.specs.declared.plan.Plan.TheVariants as Way
use Rattle.iface_egress.specs.declared.socket_meta.Meta.{Meta}
use Rattle.iface_egress.specs.declared.egress_path.Sent.{Sent}
use Rattle.iface_egress.specs.declared.egress_path.Sent.TheVariants as Outcome
use Rattle.iface_tables.specs.Inner.{InnerValue}
use Rattle.sim_link.specs.Device.{Move, Allowed, Denied, Emitted}
use Rattle.sockets.specs.Packet.{PacketValue}
use Rattle.lan.specs.Worlds.Moves.WasSent.{WasSentBy}
use Rattle.lan.proofs.Worlds.Moves.Frames as Frames
use Rattle.lan.proofs.Worlds.Moves.Frames.{Frames, IsTaking, and_gone, none_sent}
use Rattle.lan.proofs.Worlds.Moves.Slots.{get_last}

-- one that waits, and isn't given up, isn't done with
no_turn : (out : Bool) (sent : Sent) → (let r : Option Sent = if out then Some Outcome.Waits else None in r) ≡ Some sent → is_done sent ≡ true → ⊥
no_turn true sent is done = let same : Outcome.Waits ≡ sent = cc in let both : false ≡ true = ap is_done same ∙ done in absurd cc
no_turn false sent is done = absurd cc

module _ (gone : List (List ℕ)) (i : InnerValue) (p : PacketValue) (m : Meta) where
  given_up : (plan : Plan) → is_given_up m i (destination_of p.header) plan ≡ true → WasSentBy gone i p plan
  given_up Way.NoRoute up = (m, up)
  given_up Way.Wait up = (m, up)
  given_up Way.Busy up = (m, up)
  given_up (Way.Ask question) up = (m, up)
  given_up Way.Drop up = tt
  given_up (Way.Go to) up = absurd cc
  given_up (Way.Cut to) up = absurd cc

  held_by : (up : Bool) (turn : Option IpAddress) (plan : Plan) (sent : Sent) → is_given_up m i (destination_of p.header) plan ≡ up
      → (let r : Option Sent = if up then Some Outcome.Dropped else if is_out_of_turn turn plan then Some Outcome.Waits else None in r) ≡ Some sent
      → is_done sent ≡ true → WasSentBy gone i p plan
  held_by true turn plan sent so is done = given_up plan so
  held_by false turn plan sent so is done = absurd (no_turn (is_out_of_turn turn plan) sent is done)

module _ {D : Type 0} (moves : D → Move → D → Type 0) (Taken : Frames → D → Type 0) (taking : IsTaking moves Taken) (F : Frames) where
  -- so many frames more were sent, and a packet that is done with went as planned
  pub record Left (i : InnerValue) (p : PacketValue) (plan : Plan) (sent : Sent) (d : D) : Type 0 where
    pub out : Frames.Sent Taken F d
    pub was_sent : is_done sent ≡ true → WasSentBy (F.gone ++ out.more) i p plan

  -- it stays
  waits : (i : InnerValue) (p : PacketValue) (plan : Plan) (sent : Sent) (d : D) → is_done sent ≡ false → Taken F d → Left i p plan sent d
  waits i p plan sent d stays taken = record {
    out = none_sent moves Taken taking F d taken;
    was_sent = λ done. (let both : false ≡ true = sym stays ∙ done in absurd cc);
  }

  kept : (d d' : D) → d' ≡ d → Taken F d → Taken F d'
  kept d d' same taken = subst (λ (x : D). Taken F x) (sym same) taken

  refused : (i : InnerValue) (p : PacketValue) (plan : Plan) (d d' : D) (len : ℕ) → moves d (Denied len) d' → Taken F d → Left i p plan Outcome.Refused d'
  refused i p plan d d' len denied taken = waits i p plan Outcome.Refused d' refl (taking.rests d d' (Denied len) F tt denied taken)

  emitted : (d d' : D) (frame : List ℕ) → moves d (Emitted frame) d' → Taken F d → Taken (and_gone F (frame ∷ [])) d'
  emitted d d' frame goes taken = taking.sends d d' frame F goes taken

  asked : (d d' : D) (i i' : InnerValue) (p : PacketValue) (q : NeighborQuery) (sent : Sent) → Asked moves d i q sent d' i' → Taken F d →
      Left i p (Way.Ask q) sent d'
  asked d d' i i' p q Outcome.Waits goes taken = record {
    out = record { more = frame_of i (Asks q) ∷ []; taken = emitted d d' (frame_of i (Asks q)) goes.0.0 taken };
    was_sent = λ done. absurd cc;
  }
  asked d d' i i' p q Outcome.Refused goes taken = refused i p (Way.Ask q) d d' (frame_len_of i (Asks q)) goes.0 taken
  asked d d' i i' p q Outcome.Gone goes taken = absurd goes
  asked d d' i i' p q Outcome.Dropped goes taken = absurd goes
  asked d d' i i' p q Outcome.Busy goes taken = absurd goes

  whole : (d d' : D) (i i' : InnerValue) (p : PacketValue) (to : HardwareAddress) (sent : Sent) → WasSent moves d i p.header (Whole to (numbered i p)) sent d' i'
      → Taken F d → Left i p (Way.Go to) sent d'
  whole d d' i i' p to Outcome.Gone goes taken =
      let frame : List ℕ = frame_of i (Whole to (numbered i p)) in
      record { out = record { more = frame ∷ []; taken = emitted d d' frame goes.0.0 taken }; was_sent = λ done. get_last F.gone frame [] }
  whole d d' i i' p to Outcome.Refused goes taken = refused i p (Way.Go to) d d' (frame_len_of i (Whole to (numbered i p))) goes.0 taken
  whole d d' i i' p to Outcome.Waits goes taken = absurd goes
  whole d d' i i' p to Outcome.Dropped goes taken = absurd goes
  whole d d' i i' p to Outcome.Busy goes taken = absurd goes

  cut : (d d' : D) (i i' : InnerValue) (l l' : Option LeftValue) (p : PacketValue) (to : HardwareAddress) (sent : Sent)
      → WasCut moves d i l (cut_of i to p) sent d' i' l' → Taken F d → Left i p (Way.Cut to) sent d'
  cut d d' i i' l l' p to Outcome.Gone goes taken =
      let frame : List ℕ = frame_of i (departure_from i (cut_of i to p)) in
      record { out = record { more = frame ∷ []; taken = emitted d d' frame goes.0.0 taken }; was_sent = λ done. get_last F.gone frame [] }
  cut d d' i i' l l' p to Outcome.Refused goes taken = refused i p (Way.Cut to) d d' (frame_len_of i (departure_from i (cut_of i to p))) goes.0 taken
  cut d d' i i' l l' p to Outcome.Waits goes taken = absurd goes
  cut d d' i i' l l' p to Outcome.Dropped goes taken = absurd goes
  cut d d' i i' l l' p to Outcome.Busy goes taken = absurd goes

  pub out_by : (d d' : D) (i i' : InnerValue) (l l' : Option LeftValue) (p : PacketValue) (plan : Plan) (sent : Sent) →
      IsTransmitted moves d i l p plan sent d' i' l' → Taken F d → Left i p plan sent d'
  out_by d d' i i' l l' p Way.Drop sent goes taken =
      record { out = none_sent moves Taken taking F d' (kept d d' goes.1.0 taken); was_sent = λ done. tt }
  out_by d d' i i' l l' p Way.NoRoute sent goes taken = waits i p Way.NoRoute sent d' (ap is_done goes.0) (kept d d' goes.1.0 taken)
  out_by d d' i i' l l' p Way.Wait sent goes taken = waits i p Way.Wait sent d' (ap is_done goes.0) (kept d d' goes.1.0 taken)
  out_by d d' i i' l l' p Way.Busy sent goes taken = waits i p Way.Busy sent d' (ap is_done goes.0) (kept d d' goes.1.0 taken)
  out_by d d' i i' l l' p (Way.Ask q) sent goes taken = asked d d' i i' p q sent goes.0 taken
  out_by d d' i i' l l' p (Way.Go to) sent goes taken = whole d d' i i' p to sent goes.0 taken
  out_by d d' i i' l l' p (Way.Cut to) sent goes taken = cut d d' i i' l l' p to sent goes taken

  pub left_by : (turn : Option IpAddress) (x x' : Sender D) (m : Meta) (p : PacketValue) (sent : Sent) → Leaves moves turn x m p sent x' → Taken F x.device →
      Left x.inner p (plan_at x p) sent x'.device
  left_by turn x x' m p sent (inl (false, rests, inner, left, so)) taken =
      let none : Outcome.Refused ≡ sent = cc in
      waits x.inner p (plan_at x p) sent x'.device (ap is_done (sym none)) (taking.rests x.device x'.device (Allowed x.inner.instant false) F tt rests taken)
  left_by turn x x' m p sent (inl (true, rests, inner, left, so)) taken =
      let out = none_sent moves Taken taking F x'.device (taking.rests x.device x'.device (Allowed x.inner.instant true) F tt rests taken) in
      record {
        out = out;
        was_sent = λ done. held_by (F.gone ++ out.more) x.inner p m (is_given_up m x.inner (destination_of p.header) (plan_at x p)) turn (plan_at x p) sent refl so
            done;
      }
  left_by turn x x' m p sent (inr (mid, allowed, goes, free)) taken =
      out_by mid x'.device x.inner x'.inner x.left x'.left p (plan_at x p) sent goes (taking.rests x.device mid (Allowed x.inner.instant true) F tt allowed taken)
