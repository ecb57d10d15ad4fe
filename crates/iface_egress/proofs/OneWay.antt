-- At a device whose moves are determined a packet's egress path has one outcome.
use Rattle.std.proofs.Common.{◌≡◌, ◌≤◌, ℕ, Bool, true, false, cond, Option, Some, refl, ap, ◌∙◌, sym, subst}
use Rattle.net_base.specs.Device.{Move, Emitted, Denied}
use Rattle.socket_context.specs.Packet.{PacketValue}
use Rattle.iface_tables.specs.Inner.{InnerValue, with_next_ident, with_request}
use Rattle.iface_egress.specs.Departure.{Departure, Asks, Whole, target_of}
use Rattle.iface_egress.specs.Departing.{departure_by}
use Rattle.iface_egress.specs.Determined.{IsDetermined}
use Rattle.iface_egress.specs.Fragments.{LeftValue, departure_from, left_from}
use Rattle.iface_egress.specs.IsTransmitted.{IsTransmitted, FragmentIsTransmitted, Departs, Stays, Asked, WasSent, WasCut, frame_of, frame_len_of, numbered, cut_of, after_header}
use Rattle.iface_egress.specs.declared.frame.NeighborQuery.{NeighborQuery}
use Rattle.iface_egress.specs.declared.egress_path.Sent.{Sent}
use Rattle.iface_egress.specs.declared.egress_path.Sent.TheVariants as Outcome
use Rattle.iface_egress.specs.declared.plan.Plan.{Plan}
use Rattle.iface_egress.specs.declared.plan.Plan.TheVariants as Way

module _ {D : Type 0} (moves : D → Move → D → Type 0) (longest : ℕ) (old : D) (is : IsDetermined moves longest old) (i : InnerValue) where
  differ : (d : Departure) → frame_len_of i d ≤ longest → (new other : D) → Departs moves old i d true new → Departs moves old i d false other → ⊥
  differ d short new other was_sent denied =
      is.takes new other (frame_of i d) (subst (λ (n : ℕ). n ≤ longest) (sym was_sent.1) short) was_sent.0
      (subst (λ (n : ℕ). moves old (Denied n) other) (sym was_sent.1) denied)

  one_send : (d : Departure) → frame_len_of i d ≤ longest → (x y : Bool) (new other : D) → Departs moves old i d x new → Departs moves old i d y other →
      (x ≡ y) × (new ≡ other)
  one_send d short true true new other was_sent again = (refl, is.one_end new other (Emitted (frame_of i d)) was_sent.0 again.0)
  one_send d short false false new other was_sent again = (refl, is.one_end new other (Denied (frame_len_of i d)) was_sent again)
  one_send d short true false new other was_sent again = absurd (differ d short new other was_sent again)
  one_send d short false true new other was_sent again = absurd (differ d short other new again was_sent)

  module _ (l : Option LeftValue) where
    abbrev Same : Sent → D → InnerValue → Option LeftValue → Sent → D → InnerValue → Option LeftValue → Type 0
    Same s new j k t other j' k' = (s ≡ t) × (new ≡ other) × (j ≡ j') × (k ≡ k')

    -- one send, and what follows where the device took it
    abbrev Sends : Departure → Sent → InnerValue → Option LeftValue → Sent → D → InnerValue → Option LeftValue → Type 0
    Sends d good inner left sent new j k =
        (taken : Bool) × (sent ≡ cond taken good Outcome.Refused) × Departs moves old i d taken new × (j ≡ cond taken inner i) × (k ≡ cond taken left l)

    same_sends : (d : Departure) → frame_len_of i d ≤ longest →
        (good : Sent) (inner : InnerValue) (left : Option LeftValue) (s t : Sent) (new other : D) (j j' : InnerValue) (k k' : Option LeftValue)
        → Sends d good inner left s new j k → Sends d good inner left t other j' k' → Same s new j k t other j' k'
    same_sends d short good inner left s t new other j j' k k' was_sent again =
        let one = one_send d short was_sent.0 again.0 new other was_sent.2 again.2 in (
          was_sent.1 ∙ ap (λ (b : Bool). cond b good Outcome.Refused) one.0 ∙ sym again.1,
          one.1,
          was_sent.3 ∙ ap (λ (b : Bool). cond b inner i) one.0 ∙ sym again.3,
          was_sent.4 ∙ ap (λ (b : Bool). cond b left l) one.0 ∙ sym again.4,
        )

    asked : (q : NeighborQuery) (sent : Sent) (new : D) (j : InnerValue) (k : Option LeftValue) → Asked moves old i q sent new j → k ≡ l →
        Sends (Asks q) Outcome.Waits (with_request i (target_of q)) l sent new j k
    asked q Outcome.Waits new j k goes same = (true, refl, goes.0, goes.1, same)
    asked q Outcome.Refused new j k goes same = (false, refl, goes.0, goes.1, same)
    asked q Outcome.Gone new j k goes same = absurd goes
    asked q Outcome.Dropped new j k goes same = absurd goes
    asked q Outcome.Busy new j k goes same = absurd goes

    was_sent : (p : PacketValue) (d : Departure) (sent : Sent) (new : D) (j : InnerValue) (k : Option LeftValue) → WasSent moves old i p.header d sent new j → k ≡ l →
        Sends d Outcome.Gone (after_header p.header i) l sent new j k
    was_sent p d Outcome.Gone new j k goes same = (true, refl, goes.0, goes.1, same)
    was_sent p d Outcome.Refused new j k goes same = (false, refl, goes.0, goes.1, same)
    was_sent p d Outcome.Waits new j k goes same = absurd goes
    was_sent p d Outcome.Dropped new j k goes same = absurd goes
    was_sent p d Outcome.Busy new j k goes same = absurd goes

    was_cut : (c : LeftValue) (sent : Sent) (new : D) (j : InnerValue) (k : Option LeftValue) → WasCut moves old i l c sent new j k →
        Sends (departure_from i c) Outcome.Gone (with_next_ident i) (left_from i c) sent new j k
    was_cut c Outcome.Gone new j k goes = (true, refl, goes.0, goes.1, goes.2)
    was_cut c Outcome.Refused new j k goes = (false, refl, goes.0, goes.1, goes.2)
    was_cut c Outcome.Waits new j k goes = absurd goes
    was_cut c Outcome.Dropped new j k goes = absurd goes
    was_cut c Outcome.Busy new j k goes = absurd goes

    same_stays : (answer s t : Sent) (new other : D) (j j' : InnerValue) (k k' : Option LeftValue)
        → (s ≡ answer) × Stays old i l new j k → (t ≡ answer) × Stays old i l other j' k' → Same s new j k t other j' k'
    same_stays answer s t new other j j' k k' one two =
        (one.0 ∙ sym two.0, one.1.0 ∙ sym two.1.0, one.1.1 ∙ sym two.1.1, one.1.2 ∙ sym two.1.2)

    pub one_way : (p : PacketValue) (plan : Plan) → ((d : Departure) → departure_by i p plan ≡ Some d → frame_len_of i d ≤ longest) →
        (s t : Sent) (new other : D) (j j' : InnerValue) (k k' : Option LeftValue)
        → IsTransmitted moves old i l p plan s new j k → IsTransmitted moves old i l p plan t other j' k' → (s ≡ t) × (new ≡ other) × (j ≡ j') × (k ≡ k')
    one_way p Way.Drop short s t new other j j' k k' one two = same_stays Outcome.Dropped s t new other j j' k k' one two
    one_way p Way.NoRoute short s t new other j j' k k' one two = same_stays Outcome.Waits s t new other j j' k k' one two
    one_way p Way.Wait short s t new other j j' k k' one two = same_stays Outcome.Waits s t new other j j' k k' one two
    one_way p Way.Busy short s t new other j j' k k' one two = same_stays Outcome.Busy s t new other j j' k k' one two
    one_way p (Way.Ask q) short s t new other j j' k k' one two =
        same_sends (Asks q) (short (Asks q) refl) Outcome.Waits (with_request i (target_of q)) l s t new other j j' k k' (asked q s new j k one.0 one.1)
        (asked q t other j' k' two.0 two.1)
    one_way p (Way.Go to) short s t new other j j' k k' one two =
        let d : Departure = Whole to (numbered i p) in
        same_sends d (short d refl) Outcome.Gone (after_header p.header i) l s t new other j j' k k' (was_sent p d s new j k one.0 one.1)
        (was_sent p d t other j' k' two.0 two.1)
    one_way p (Way.Cut to) short s t new other j j' k k' one two =
        let c : LeftValue = cut_of i to p in
        same_sends (departure_from i c) (short (departure_from i c) refl) Outcome.Gone (with_next_ident i) (left_from i c) s t new other j j' k k'
        (was_cut c s new j k one) (was_cut c t other j' k' two)

  abbrev FragmentSends : LeftValue → Bool → D → Option LeftValue → Type 0
  FragmentSends c taken new k = Departs moves old i (departure_from i c) taken new × (k ≡ cond taken (left_from i c) (Some c))

  fragment : (c : LeftValue) (taken : Bool) (new : D) (k : Option LeftValue) → FragmentIsTransmitted moves old i c taken new k → FragmentSends c taken new k
  fragment c true new k goes = goes
  fragment c false new k goes = goes

  pub one_fragment : (c : LeftValue) → frame_len_of i (departure_from i c) ≤ longest → (x y : Bool) (new other : D) (k k' : Option LeftValue)
      → FragmentIsTransmitted moves old i c x new k → FragmentIsTransmitted moves old i c y other k' → (x ≡ y) × (new ≡ other) × (k ≡ k')
  one_fragment c short x y new other k k' one two =
      let was_sent = fragment c x new k one in
      let again = fragment c y other k' two in
      let same = one_send (departure_from i c) short x y new other was_sent.0 again.0 in
      (same.0, same.1, was_sent.1 ∙ ap (λ (b : Bool). cond b (left_from i c) (Some c)) same.0 ∙ sym again.1)
