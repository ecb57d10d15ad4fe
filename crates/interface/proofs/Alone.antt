-- What isn't parked: a packet whose next hop isn't searched for; and without host requirements none is.
use Rattle.std.proofs.Common.{◌≡◌, Bool, true, false, ◌&&◌, not, ◌⊎◌, List, [], Option, None, is_some, refl, sym, ap, ◌∙◌, subst, if◌then◌else◌}
use Rattle.net_base.specs.Device.{Move}
use Rattle.ip_wire.specs.IpAddress.{IpAddress}
use Rattle.iface_ingress.specs.Packet.{PacketValue}
use Rattle.iface_ingress.specs.Socket.{Socket}
use Rattle.iface_ingress.specs.WellFormed.{IsWellFormed}
use Rattle.iface_tables.specs.Inner.{InnerValue, asked_of}
use Rattle.iface_tables.specs.Neighbor.{last_request, own_silence}
use Rattle.iface_egress.specs.IsTransmitted.{IsTransmitted}
use Rattle.iface_egress.specs.Parked.{is_searched, is_segment, outcome_of, parks, sender_after, waits}
use Rattle.iface_egress.specs.Plan.{plan_of}
use Rattle.iface_egress.specs.declared.plan.Plan.{Plan}
use Rattle.iface_egress.specs.declared.egress_path.Sent.{Sent}
use Rattle.iface_egress.specs.declared.socket_meta.Meta.{Meta}
use Rattle.iface_egress.specs.declared.socket_set.SocketStorage.{SocketStorage}
use Rattle.interface.specs.Awaited.{hop_of, next_awaited, turn_of}
use Rattle.interface.specs.EgressPath.{Clears, ClearsAll, ClearsIf, Egress}
use Rattle.interface.specs.Host.{Sender}
use Rattle.interface.specs.Ingress.{AnswerGoes}
use Rattle.interface.specs.Instant.{earlier, poll_instant, soonest, soonest_if}
use Rattle.interface.specs.Pass.{Pass, Passed, passed}
use Rattle.interface.specs.SameHost.{IsSameHost}
use Rattle.interface.specs.Serve.{Leaves, LeavesIf, LeavesOrParks, plan_at}
use Rattle.interface.proofs.SameHost.{leaves_same, same_flag}

-- WITHOUT HOST REQUIREMENTS

pub asked_alone : (i : InnerValue) (a : IpAddress) → i.host_requirements ≡ false → asked_of i a ≡ i.neighbors
asked_alone i a alone =
    ap (λ (many : Bool). record i.neighbors { silent = if many then own_silence (last_request i.neighbors a) i.neighbors else i.neighbors.silent }) alone

pub turn_alone : (i : InnerValue) (ps : List (SocketStorage Socket)) → i.host_requirements ≡ false → turn_of i ps ≡ hop_of (next_awaited i ps)
turn_alone i ps alone = ap (λ (many : Bool). if many then None else hop_of (next_awaited i ps)) alone

pub due_alone : (i : InnerValue) (ps : List (SocketStorage Socket)) → i.host_requirements ≡ false → poll_instant i None ps ≡ soonest i ps
due_alone i ps alone = ap (λ (many : Bool). earlier (soonest_if many i) (soonest i ps)) alone

pub same_alone : (i i' : InnerValue) → i.host_requirements ≡ false → IsSameHost i i' →
    i' ≡ record i { ident = i'.ident; neighbors = record i.neighbors { silent = i'.neighbors.silent; searches = i'.neighbors.searches } }
same_alone i i' alone same =
    same ∙ ap (λ (many : Bool). record i {
      ident = i'.ident;
      neighbors = record i.neighbors { silent = i'.neighbors.silent; searches = i'.neighbors.searches };
      parking = if many then i'.parking else i.parking;
    }) alone

module _ {D : Type 0} (moves : D → Move → D → Type 0) where
  pub leaves_alone : (turn : Option IpAddress) (x x' : Sender D) (m : Meta) (p : PacketValue) (sent : Sent) → x.inner.host_requirements ≡ false →
      LeavesOrParks moves turn x m p sent x' → Leaves moves turn x m p sent x'
  leaves_alone turn x x' m p sent alone leaves = subst (λ (many : Bool). LeavesIf moves turn many x m p sent x') alone leaves

  pub clears_alone : (x x' : Sender D) (clear : Bool) → x.inner.host_requirements ≡ false → ClearsAll moves x clear x' → Clears moves x.left x clear x'
  clears_alone x x' clear alone clears = subst (λ (many : Bool). ClearsIf moves many x clear x') alone clears

  -- a step of the egress path
  abbrev pub EgressAlone : Sender D → List (SocketStorage Socket) → Passed D → Type 0
  EgressAlone s ps e =
      ((mid : Sender D) × Clears moves s.left s false mid × (e ≡ passed mid ps false))
      ⊎ ((mid : Sender D) × Clears moves s.left s true mid × Pass moves (turn_of mid.inner ps) mid [] false ps e)

  pub egress_alone : (s : Sender D) (ps : List (SocketStorage Socket)) (e : Passed D) → s.inner.host_requirements ≡ false → Egress moves s ps e →
      EgressAlone s ps e
  egress_alone s ps e alone goes = subst (λ (many : Bool).
      ((mid : Sender D) × ClearsIf moves many s false mid × (e ≡ passed mid ps false))
      ⊎ ((mid : Sender D) × ClearsIf moves many s true mid × Pass moves (turn_of mid.inner ps) mid [] false ps e)) alone goes

  abbrev pub AnswersAlone : PacketValue → Bool → Sender D → Sender D → Type 0
  AnswersAlone p kept_back x x' =
      (sent : Sent) × IsTransmitted moves x.device x.inner x.left p (plan_of x.inner (is_some x.left) p.header) sent x'.device x'.inner x'.left
      × IsWellFormed p × (kept_back ≡ false)

  pub answers_alone : (p : PacketValue) (kept_back : Bool) (x x' : Sender D) → x.inner.host_requirements ≡ false →
      AnswerGoes moves x.inner.host_requirements p kept_back x x' → AnswersAlone p kept_back x x'
  answers_alone p kept_back x x' alone goes = subst (λ (many : Bool). AnswerGoes moves many p kept_back x x') alone goes

-- WITH THEM

unsearched : (many waits segment searched : Bool) → searched ≡ false → (many && (waits && (searched && not segment))) ≡ false
unsearched true true segment false is = refl
unsearched true false segment false is = refl
unsearched false waits segment false is = refl
unsearched many waits segment true is = absurd cc

not_parked : (i : InnerValue) (p : PacketValue) (plan : Plan) (sent : Sent) → is_searched plan ≡ false → parks i p plan sent ≡ false
not_parked i p plan sent is = unsearched i.host_requirements (waits sent) (is_segment p.payload) (is_searched plan) is

few_parked : (i : InnerValue) (p : PacketValue) (plan : Plan) (sent : Sent) → i.host_requirements ≡ false → parks i p plan sent ≡ false
few_parked i p plan sent alone = ap (λ (many : Bool). many && (waits sent && (is_searched plan && not (is_segment p.payload)))) alone

module _ {D : Type 0} (moves : D → Move → D → Type 0) (turn : Option IpAddress) (x : Sender D) (m : Meta) (p : PacketValue) where
  -- a packet that leaves, or stays, and is parked where that is asked for
  pub leaves_or_parks : (came sent : Sent) (mid x' : Sender D) → Leaves moves turn x m p came mid
      → sent ≡ outcome_of (parks mid.inner p (plan_at x p) came) came → x' ≡ sender_after (parks mid.inner p (plan_at x p) came) p mid
      → LeavesOrParks moves turn x m p sent x'
  leaves_or_parks came sent mid x' leaves outcome after = by x.inner.host_requirements refl where
    by : (many : Bool) → x.inner.host_requirements ≡ many → LeavesIf moves turn many x m p sent x'
    by true is = (came, mid, leaves, outcome, after)
    by false is =
        let none : parks mid.inner p (plan_at x p) came ≡ false =
        few_parked mid.inner p (plan_at x p) came (same_flag x.inner mid.inner (leaves_same moves turn x mid m p came leaves) ∙ is) in
        subst (λ (s : Sent). Leaves moves turn x m p s x') (sym (outcome ∙ ap (λ (b : Bool). outcome_of b came) none))
        (subst (λ (y : Sender D). Leaves moves turn x m p came y) (sym (after ∙ ap (λ (b : Bool). sender_after b p mid) none)) leaves)

  -- a packet whose next hop isn't searched for
  pub leaves_unsearched : (sent : Sent) (x' : Sender D) → is_searched (plan_at x p) ≡ false → LeavesOrParks moves turn x m p sent x' →
      Leaves moves turn x m p sent x'
  leaves_unsearched sent x' off leaves = by x.inner.host_requirements leaves where
    by : (many : Bool) → LeavesIf moves turn many x m p sent x' → Leaves moves turn x m p sent x'
    by false goes = goes
    by true goes =
        let none : parks goes.1.inner p (plan_at x p) goes.0 ≡ false = not_parked goes.1.inner p (plan_at x p) goes.0 off in
        subst (λ (s : Sent). Leaves moves turn x m p s x') (sym (goes.3 ∙ ap (λ (b : Bool). outcome_of b goes.0) none))
        (subst (λ (y : Sender D). Leaves moves turn x m p goes.0 y) (sym (goes.4 ∙ ap (λ (b : Bool). sender_after b p goes.1) none)) goes.2)

  pub unsearched_leaves : (sent : Sent) (x' : Sender D) → is_searched (plan_at x p) ≡ false → Leaves moves turn x m p sent x' →
      LeavesOrParks moves turn x m p sent x'
  unsearched_leaves sent x' off leaves =
      let none : parks x'.inner p (plan_at x p) sent ≡ false = not_parked x'.inner p (plan_at x p) sent off in
      leaves_or_parks sent sent x' x' leaves (sym (ap (λ (b : Bool). outcome_of b sent) none)) (sym (ap (λ (b : Bool). sender_after b p x') none))

module _ {D : Type 0} (moves : D → Move → D → Type 0) (p : PacketValue) (kept_back : Bool) (x : Sender D) (formed : IsWellFormed p) (goes : kept_back ≡ false) where
  abbrev plan : Plan
  plan = plan_of x.inner (is_some x.left) p.header

  -- an answer that goes by its plan, and is parked where that is asked for
  pub answer_or_parks : (sent : Sent) (mid x' : Sender D)
      → IsTransmitted moves x.device x.inner x.left p (plan_of x.inner (is_some x.left) p.header) sent mid.device mid.inner mid.left
      → IsSameHost x.inner mid.inner
      → x' ≡ sender_after (parks mid.inner p (plan_of x.inner (is_some x.left) p.header) sent) p mid
      → AnswerGoes moves x.inner.host_requirements p kept_back x x'
  answer_or_parks sent mid x' went same after = by x.inner.host_requirements refl where
    by : (many : Bool) → x.inner.host_requirements ≡ many → AnswerGoes moves many p kept_back x x'
    by true is = (sent, mid, went, after, formed, goes)
    by false is =
        let none : parks mid.inner p plan sent ≡ false = few_parked mid.inner p plan sent (same_flag x.inner mid.inner same ∙ is) in (
          sent,
          subst (λ (y : Sender D). IsTransmitted moves x.device x.inner x.left p plan sent y.device y.inner y.left)
              (sym (after ∙ ap (λ (b : Bool). sender_after b p mid) none)) went,
          formed,
          goes,
        )

  pub answer_unsearched : (sent : Sent) (x' : Sender D) → is_searched (plan_of x.inner (is_some x.left) p.header) ≡ false
      → IsTransmitted moves x.device x.inner x.left p (plan_of x.inner (is_some x.left) p.header) sent x'.device x'.inner x'.left
      → IsSameHost x.inner x'.inner → AnswerGoes moves x.inner.host_requirements p kept_back x x'
  answer_unsearched sent x' off went same =
      answer_or_parks sent x' x' went same
      (sym (ap (λ (b : Bool). sender_after b p x') (not_parked x'.inner p plan sent off)))
