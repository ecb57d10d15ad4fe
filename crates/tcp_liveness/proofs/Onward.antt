-- What a segment that comes and an offer leave of a connection: SND.UNA and RCV.NXT stay, or less isn't acknowledged and more came.
use Rattle.std.proofs.Common.{◌≡◌, ◌⊎◌, inl, inr, ℕ, ◌+◌, ◌-◌, ◌%◌, ◌^◌, ◌<◌, ◌≤◌, ◌==◌, ◌&&◌, nat_le, nat_lt, max, ℤ, Bool, true, false, if◌then◌else◌}
use Rattle.std.proofs.Common.{List, ◌++◌, length, drop, Option, Some, None, refl, sym, ap, ◌∙◌, subst, arith, length-append, length-drop}
use Rattle.std.proofs.lemmas.Bool.{cond_both, eqb-true, eqb-false, ltb-false}
use Rattle.ip_wire.specs.IpRepr.{IpRepr}
use Rattle.ip_wire.specs.Seq.{distance_of}
use Rattle.ip_wire.specs.SeqNumber.{SeqNumber}
use Rattle.ip_wire.specs.Tcp.{header_len}
use Rattle.ip_wire.specs.TcpHeader.{TcpHeader}
use Rattle.tcp_theory.specs.ReceiveMap.{front}
use Rattle.tcp_refinement.specs.Context.{ContextValue}
use Rattle.tcp_refinement.specs.Offers.{Offered}
use Rattle.tcp_refinement.specs.Tie.{is_finished_in}
use Rattle.tcp_refinement.proofs.Tied.{if_not}
use Rattle.tcp_invariants.specs.FourTuple.{FourTuple}
use Rattle.tcp_invariants.specs.Endpoints.{header_for}
use Rattle.tcp_invariants.specs.Moments.{is_over, timeout_from}
use Rattle.tcp_invariants.specs.Offsets.{distance_before, advanced_by, distance_after}
use Rattle.tcp_invariants.specs.OfferKind.{OfferKind}
use Rattle.tcp_invariants.specs.OfferKind.TheVariants as Kind
use Rattle.tcp_invariants.specs.OpenOffer.{OpenOffer}
use Rattle.tcp_invariants.specs.State.{State}
use Rattle.tcp_invariants.specs.State.TheVariants as In
use Rattle.tcp_invariants.specs.States.{is_answering, is_closed, owes_fin, accepts_data, after_ack, after_ack_of_fin, after_fin}
use Rattle.tcp_invariants.proofs.ArrivalCases.{by_arrival, Received, Opening, Content, Drawing, acked_open, heeded, timed}
use Rattle.tcp_invariants.proofs.OfferCases.{FirstRules, by_rules, begun, probing}
use Rattle.tcp_invariants.proofs.OrderSteps.{clash}
use Rattle.tcp_block.specs.Acknowledged.{acks_fin, freed_by, state_after_ack, windowed}
use Rattle.tcp_block.specs.Arrival.{arrives, waiting_anew}
use Rattle.tcp_block.specs.declared.tcb.Tcb.{Tcb}
use Rattle.tcp_block.specs.TcbRules.{one_if}
use Rattle.tcp_block.specs.Checks.{acknowledgement_check, opening_check, synchronized_check}
use Rattle.tcp_block.specs.Checks.Check.{Passes, Old, Drops, Draws}
use Rattle.tcp_block.specs.LossRecovery.{loss_probed}
use Rattle.tcp_block.specs.Offers.{number_at, offer_choice, offer_of, offer_segment}
use Rattle.tcp_block.specs.Retries.{asked, heard, one_more}
use Rattle.tcp_block.specs.Rules.{Choice, backed_off_now, control_for, probe_choice, resend_choice, payload_choice}
use Rattle.tcp_block.specs.Segments.{ack_segment, hop_limit_of, keep_alive_segment, reset_segment, segment, syn_segment}
use Rattle.tcp_block.specs.Settled.{end_of, probed, recorded, sent_as, settled}
use Rattle.tcp_block.specs.Payload.{taken_in_order}
use Rattle.tcp_block.specs.Timestamps.{tsval_taken}
use Rattle.tcp_block.specs.Value.{TcpValue, Arrived, with_tcb, unoffered, free_in, queued_in, room_of, window_of}
use Rattle.tcp_liveness.specs.Arrivals.{is_synchronized}
use Rattle.tcp_liveness.specs.Exchange.{left_of}
use Rattle.tcp_liveness.specs.Sent.{is_early}
use Rattle.tcp_liveness.proofs.Left.{fell}
use Rattle.tcp_liveness.proofs.Pair.{late_in, not_closed}

-- where a connection stands: its numbers, what isn't acknowledged, and what came
pub record Stand : Type 0 where
  pub una : SeqNumber
  pub snd_max : ℕ
  pub left : ℕ
  pub next : SeqNumber
  pub came : ℕ
  pub takes : Bool
  pub over : Bool

abbrev pub stand_of : TcpValue → Stand
stand_of v = record {
  una = v.tcb.sender.una;
  snd_max = v.tcb.sender.snd_max;
  left = left_of v;
  next = v.tcb.receiver.next;
  came = length v.received.waiting + one_if v.tcb.receiver.took_fin;
  takes = accepts_data v.tcb.state;
  over = is_closed v.tcb.state;
}

-- No more waits for the other, and no less came. As long as the connection is there, SND.UNA stays, and with it what was sent past it, or less
-- waits; RCV.NXT stays, or more came; and so does whether payload is taken.
pub record IsOn (x y : Stand) : Type 0 where
  pub less : y.left ≤ x.left
  pub more : x.came ≤ y.came
  pub una : y.over ≡ false → ((y.una ≡ x.una) × (x.snd_max ≤ y.snd_max)) ⊎ (y.left < x.left)
  pub next : (y.next ≡ x.next) ⊎ (x.came < y.came)
  pub takes : y.over ≡ false → x.takes ≡ true → (y.takes ≡ true) ⊎ (x.came < y.came)

same : (n : ℕ) → n ≤ n
same n = omega arith

upto : (a b c : ℕ) → a ≤ b → b ≤ c → a ≤ c
upto a b c e f = omega arith

-- nothing of it changes
pub stays_on : (x : Stand) → IsOn x x
stays_on x = record { less = same x.left; more = same x.came; una = λ _. inl (refl, same x.snd_max); next = inl refl; takes = λ _ e. inl e }

-- the connection is over
ends_on : (x : Stand) (left : ℕ) → left ≤ x.left → IsOn x (record x { left = left; takes = false; over = true })
ends_on x left e = record { less = e; more = same x.came; una = λ on. clash on; next = inl refl; takes = λ on _. clash on }

-- more was sent
sends_on : (x : Stand) (snd_max : ℕ) → x.snd_max ≤ snd_max → IsOn x (record x { snd_max = snd_max })
sends_on x snd_max e = record { less = same x.left; more = same x.came; una = λ _. inl (refl, e); next = inl refl; takes = λ _ t. inl t }

-- one step after the other, the second of which closes nothing
then_on : (x y z : Stand) → (z.over ≡ false → y.over ≡ false) → IsOn x y → IsOn y z → IsOn x z
then_on x y z back c d = record {
  less = upto z.left y.left x.left d.less c.less;
  more = upto x.came y.came z.came c.more d.more;
  una = λ on. una (c.una (back on)) (d.una on);
  next = next c.next d.next;
  takes = λ on t. takes (c.takes (back on) t) on;
}
  where
    first : (a b c : ℕ) → a < b → b ≤ c → a < c
    first a b c e f = omega arith

    second : (a b c : ℕ) → a ≤ b → b < c → a < c
    second a b c e f = omega arith

    una :
        ((y.una ≡ x.una) × (x.snd_max ≤ y.snd_max)) ⊎ (y.left < x.left) → ((z.una ≡ y.una) × (y.snd_max ≤ z.snd_max)) ⊎ (z.left < y.left)
        → ((z.una ≡ x.una) × (x.snd_max ≤ z.snd_max)) ⊎ (z.left < x.left)
    una (inl e) (inl f) = inl (f.0 ∙ e.0, upto x.snd_max y.snd_max z.snd_max e.1 f.1)
    una e (inr f) = inr (first z.left y.left x.left f c.less)
    una (inr e) (inl f) = inr (second z.left y.left x.left d.less e)

    next : (y.next ≡ x.next) ⊎ (x.came < y.came) → (z.next ≡ y.next) ⊎ (y.came < z.came) → (z.next ≡ x.next) ⊎ (x.came < z.came)
    next (inl e) (inl f) = inl (f ∙ e)
    next e (inr f) = inr (second x.came y.came z.came c.more f)
    next (inr e) (inl f) = inr (first x.came y.came z.came e d.more)

    takes : (y.takes ≡ true) ⊎ (x.came < y.came) → z.over ≡ false → (z.takes ≡ true) ⊎ (x.came < z.came)
    takes (inr e) on = inr (first x.came y.came z.came e d.more)
    takes (inl e) on = by (d.takes on e) where
      by : (z.takes ≡ true) ⊎ (y.came < z.came) → (z.takes ≡ true) ⊎ (x.came < z.came)
      by (inl f) = inl f
      by (inr f) = inr (second x.came y.came z.came c.more f)

-- A socket with its connection, as events lead to it.
pub record IsSound (v : TcpValue) : Type 0 where
  pub synchronized : is_synchronized v.tcb.state ≡ true
  pub acked : v.tcb.sender.syn_unacked ≡ false
  pub una : v.tcb.sender.una.0 < 2 ^ 32
  pub next : v.tcb.receiver.next.0 < 2 ^ 32
  pub snd_max : v.tcb.sender.snd_max ≤ left_of v
  pub finished : v.tcb.receiver.took_fin ≡ is_finished_in v.tcb.state

-- STATES

takes_on : (state : State) → accepts_data state ≡ true → accepts_data (after_ack state) ≡ true
takes_on In.Established e = e
takes_on In.FinWait1 e = e
takes_on In.FinWait2 e = e
takes_on other e = clash (sym e)

takes_on_fin : (state : State) → accepts_data state ≡ true → accepts_data (after_ack_of_fin state) ≡ true
takes_on_fin In.Established e = e
takes_on_fin In.FinWait1 e = refl
takes_on_fin In.FinWait2 e = e
takes_on_fin other e = clash (sym e)

unfinished : (state : State) → is_early state ≡ false → accepts_data (after_ack state) ≡ true → is_finished_in state ≡ false
unfinished In.SynReceived late e = clash late
unfinished In.Established late e = refl
unfinished In.FinWait1 late e = refl
unfinished In.FinWait2 late e = refl
unfinished other late e = clash (sym e)

unfinished_fin : (state : State) → accepts_data (after_ack_of_fin state) ≡ true → is_finished_in state ≡ false
unfinished_fin In.Established e = refl
unfinished_fin In.FinWait1 e = refl
unfinished_fin In.FinWait2 e = refl
unfinished_fin other e = clash (sym e)

unfinished_now : (state : State) → accepts_data state ≡ true → is_finished_in state ≡ false
unfinished_now In.Established e = refl
unfinished_now In.FinWait1 e = refl
unfinished_now In.FinWait2 e = refl
unfinished_now other e = clash (sym e)

answering_early : (state : State) → is_answering state ≡ true → is_early state ≡ true
answering_early In.SynReceived e = refl
answering_early other e = clash (sym e)

fin_owes : (state : State) → one_if (owes_fin (after_fin state)) ≤ one_if (owes_fin state)
fin_owes In.Established = omega arith
fin_owes In.FinWait1 = omega arith
fin_owes In.FinWait2 = omega arith
fin_owes other = same _

and_first : (a b : Bool) → (a && b) ≡ true → a ≡ true
and_first true b e = refl
and_first false b e = e

not_answering : (state : State) → is_synchronized state ≡ true → is_answering state ≡ false
not_answering In.SynReceived e = clash (sym e)
not_answering other e = refl

pub positive : (n : ℕ) → (n == 0) ≡ false → 1 ≤ n
positive n e = some (eqb-false n 0 e) where
  some : (n ≡ 0 → ⊥) → 1 ≤ n
  some f = omega (arith, f)

no_further : (n : SeqNumber) (by : ℕ) → n.0 < 2 ^ 32 → by ≡ 0 → advanced_by n by ≡ n
no_further n by small none = ap (λ (k : ℕ). record { 0 = k }) (stays n.0 by small none) where
  stays : (n by : ℕ) → n < 2 ^ 32 → by ≡ 0 → (n + by) % 2 ^ 32 ≡ n
  stays n by small none = omega arith

-- no more is acknowledged than was sent
passes_later : (b : Tcb) (past before by : ℕ) → synchronized_check b past before ≡ Passes by → by ≤ b.sender.snd_max
passes_later b past before by =
    tested (nat_lt b.sender.snd_max past) refl ((past == 0) && nat_le b.sender.past_iss before) (before == 0) (nat_lt b.peer.largest_window before)
  where
    one : (past by : ℕ) → Passes past ≡ Passes by → past ≡ by
    one past by e = cc

    tested :
        (more : Bool) → nat_lt b.sender.snd_max past ≡ more → (none first far : Bool)
        → (if more then Draws else if none then Drops else if first then Passes past else if far then Draws else Old) ≡ Passes by → by ≤ b.sender.snd_max
    tested true is none first far e = absurd (cc)
    tested false is true first far e = absurd (cc)
    tested false is false true far e = subst (λ (n : ℕ). n ≤ b.sender.snd_max) (one past by e) (ltb-false b.sender.snd_max past is)
    tested false is false false true e = absurd (cc)
    tested false is false false false e = absurd (cc)

passes_sent : (b : Tcb) (ack : Option SeqNumber) (by : ℕ) → is_answering b.state ≡ false → acknowledgement_check b ack ≡ Passes by → by ≤ b.sender.snd_max
passes_sent b None by past e = absurd (cc)
passes_sent b (Some n) by past e =
    passes_later b (distance_after b.sender.una n) (distance_before b.sender.una n) by
    (sym
    (if_not (is_answering b.state) (opening_check (distance_of b.sender.una n))
    (synchronized_check b (distance_after b.sender.una n) (distance_before b.sender.una n)) past)
    ∙ e)

-- A SEGMENT COMES

module _ (cx : ContextValue) (ip : IpRepr) (header : TcpHeader) (bytes : List ℕ) (v : TcpValue) (sound : IsSound v) where
  abbrev On : Arrived → Type 0
  On a = IsOn (stand_of v) (stand_of a.socket)

  late : is_early v.tcb.state ≡ false
  late = late_in v.tcb.state sound.synchronized

  alive : is_closed v.tcb.state ≡ false
  alive = not_closed v.tcb.state sound.synchronized

  on_drawing : (x : TcpValue) → IsOn (stand_of v) (stand_of x) → Drawing cx ip header bytes On x
  on_drawing x c = record { answers = λ _. c; at_once = c; pauses = c }

  -- what payload is taken of
  record Open (x : TcpValue) : Type 0 where
    on : IsOn (stand_of v) (stand_of x)
    alive : is_closed x.tcb.state ≡ false
    next : x.tcb.receiver.next.0 < 2 ^ 32
    unfinished : accepts_data x.tcb.state ≡ true → x.tcb.receiver.took_fin ≡ false

  -- more came, and no more waits
  came_on : (x y : Stand) → y.left ≤ x.left → y.una ≡ x.una → y.snd_max ≡ x.snd_max → x.came < y.came → IsOn x y
  came_on x y left una snd_max more = record {
    less = left;
    more = below x.came y.came more;
    una = λ _. inl (una, equal x.snd_max y.snd_max snd_max);
    next = inr more;
    takes = λ _ _. inr more;
  }
    where
      below : (a b : ℕ) → a < b → a ≤ b
      below a b e = omega arith

      equal : (a b : ℕ) → b ≡ a → a ≤ b
      equal a b e = omega arith

  fin_on : (x : TcpValue) (next : SeqNumber) → x.tcb.receiver.took_fin ≡ false → IsOn (stand_of x)
      (record (stand_of x) {
        left = one_if x.tcb.sender.syn_unacked + queued_in x + one_if (owes_fin (after_fin x.tcb.state));
        next = next;
        came = length x.received.waiting + 1;
        takes = accepts_data (after_fin x.tcb.state);
        over = is_closed (after_fin x.tcb.state);
      })
  fin_on x next none =
      came_on (stand_of x) _
      (less (one_if x.tcb.sender.syn_unacked) (queued_in x) (one_if (owes_fin (after_fin x.tcb.state))) (one_if (owes_fin x.tcb.state))
      (fin_owes x.tcb.state))
      refl refl (one_more (length x.received.waiting) (one_if x.tcb.receiver.took_fin) (ap one_if none))
    where
      less : (a b c d : ℕ) → c ≤ d → a + b + c ≤ a + b + d
      less a b c d e = omega arith

      one_more : (a b : ℕ) → b ≡ 0 → a + b < a + 1
      one_more a b e = omega arith

  payload_on : (x : TcpValue) (bytes : List ℕ) → x.tcb.receiver.next.0 < 2 ^ 32 → IsOn (stand_of x)
      (record (stand_of x) {
        next = advanced_by x.tcb.receiver.next (length bytes);
        came = length (x.received.waiting ++ bytes) + one_if x.tcb.receiver.took_fin;
      })
  payload_on x bytes small = by (length bytes == 0) refl where
    more : (a b c : ℕ) {d : ℕ} → d ≡ a + b → a + c ≤ d + c
    more a b c e = omega arith

    some : (a b c : ℕ) {d : ℕ} → d ≡ a + b → 1 ≤ b → a + c < d + c
    some a b c e f = omega arith

    by : (none : Bool) → (length bytes == 0) ≡ none → IsOn (stand_of x)
        (record (stand_of x) {
          next = advanced_by x.tcb.receiver.next (length bytes);
          came = length (x.received.waiting ++ bytes) + one_if x.tcb.receiver.took_fin;
        })
    by true e = record {
      less = same (left_of x);
      more = more (length x.received.waiting) (length bytes) (one_if x.tcb.receiver.took_fin) (length-append x.received.waiting bytes);
      una = λ _. inl (refl, same x.tcb.sender.snd_max);
      next = inl (no_further x.tcb.receiver.next (length bytes) small (eqb-true (length bytes) 0 e));
      takes = λ _ t. inl t;
    }
    by false e =
        came_on (stand_of x) _ (same (left_of x)) refl refl
        (some (length x.received.waiting) (length bytes) (one_if x.tcb.receiver.took_fin) (length-append x.received.waiting bytes)
        (positive (length bytes) e))

  on_content : (x : TcpValue) → Open x → Content cx ip header bytes On x
  on_content x o = record {
    plain = (λ _. o.on, o.on);
    fin = λ _ takes.
        let it = then_on (stand_of v) (stand_of x) _ (λ _. o.alive) o.on (fin_on x (advanced_by x.tcb.receiver.next 1) (o.unfinished takes)) in
        (λ _. it, it);
    ordered = λ map _ _ _. let it = then_on (stand_of v) (stand_of x) _ (λ on. on) o.on (payload_on x (front map) o.next) in (λ _. it, it);
    ordered_fin = λ map _ _ takes.
        let it =
        then_on (stand_of v) (stand_of (taken_in_order x map).socket) _ (λ _. o.alive)
        (then_on (stand_of v) (stand_of x) _ (λ on. on) o.on (payload_on x (front map) o.next))
        (fin_on (taken_in_order x map).socket (advanced_by (taken_in_order x map).socket.tcb.receiver.next 1) (o.unfinished takes))
        in
        (λ _. it, it);
    early = λ _ _ _ _. o.on;
  }

  -- what is acknowledged, of what was sent
  within : (by : ℕ) → acknowledgement_check v.tcb header.ack_number ≡ Passes by → by ≤ v.tcb.sender.snd_max
  within by passes = passes_sent v.tcb header.ack_number by (not_answering v.tcb.state sound.synchronized) passes

  -- so much less isn't acknowledged
  fewer :
      (by : ℕ) → by ≤ v.tcb.sender.snd_max
      → one_if (v.tcb.sender.syn_unacked && (by == 0)) + length (drop (freed_by v.tcb by (queued_in v)) v.queued.queue)
      + one_if (owes_fin (state_after_ack v.tcb by (queued_in v))) + by ≡ left_of v
  fewer by e =
      ap (λ (t : Bool). one_if t + length (drop (freed_by v.tcb by (queued_in v)) v.queued.queue)
      + one_if (owes_fin (state_after_ack v.tcb by (queued_in v))) + by) (no_syn v.tcb.sender.syn_unacked (by == 0) sound.acked)
      ∙ fell v.tcb (queued_in v) (length (drop (freed_by v.tcb by (queued_in v)) v.queued.queue)) by sound.acked
      (upto by v.tcb.sender.snd_max (left_of v) e sound.snd_max) (length-drop (freed_by v.tcb by (queued_in v)) v.queued.queue)
    where
      no_syn : (syn none : Bool) → syn ≡ false → (syn && none) ≡ syn
      no_syn syn none e = ap (λ (t : Bool). t && none) e ∙ sym e

  still_takes : (by : ℕ) → accepts_data v.tcb.state ≡ true → accepts_data (state_after_ack v.tcb by (queued_in v)) ≡ true
  still_takes by e =
      cond_both (acks_fin v.tcb by (queued_in v)) (after_ack_of_fin v.tcb.state) (after_ack v.tcb.state)
      (λ (state : State). accepts_data state ≡ true) (λ _. takes_on_fin v.tcb.state e) (λ _. takes_on v.tcb.state e)

  not_finished : (by : ℕ) → accepts_data (state_after_ack v.tcb by (queued_in v)) ≡ true → v.tcb.receiver.took_fin ≡ false
  not_finished by e =
      sound.finished
      ∙ cond_both (acks_fin v.tcb by (queued_in v)) (after_ack_of_fin v.tcb.state) (after_ack v.tcb.state)
      (λ (state : State). accepts_data state ≡ true → is_finished_in v.tcb.state ≡ false) (λ _. unfinished_fin v.tcb.state)
      (λ _. unfinished v.tcb.state late) e

  acked_on : (by : ℕ) → by ≤ v.tcb.sender.snd_max → IsOn (stand_of v) (stand_of (acked_open (timed cx.instant header (unoffered v) by) by cx.instant))
  acked_on by e = moved (by == 0) refl where
    y : Stand
    y = stand_of (acked_open (timed cx.instant header (unoffered v) by) by cx.instant)

    sum : (left by all : ℕ) → left + by ≡ all → left ≤ all
    sum left by all e = omega arith

    less : (left by all : ℕ) → left + by ≡ all → 1 ≤ by → left < all
    less left by all e f = omega arith

    kept : (snd_max by : ℕ) → by ≡ 0 → snd_max ≤ snd_max - by
    kept snd_max by e = omega arith

    una : (none : Bool) → (by == 0) ≡ none → ((y.una ≡ v.tcb.sender.una) × (v.tcb.sender.snd_max ≤ y.snd_max)) ⊎ (y.left < left_of v)
    una true f =
        let none = eqb-true by 0 f in inl (no_further v.tcb.sender.una by sound.una none, kept v.tcb.sender.snd_max by none)
    una false f = inr (less y.left by (left_of v) (fewer by e) (positive by f))

    moved : (none : Bool) → (by == 0) ≡ none → IsOn (stand_of v) y
    moved none f = record {
      less = sum y.left by (left_of v) (fewer by e);
      more = same _;
      una = λ _. una none f;
      next = inl refl;
      takes = λ _ t. inl (still_takes by t);
    }

  on_received : Received cx ip header bytes On (unoffered v)
  on_received = record {
    stays = stays_on _;
    refuses = stays_on _;
    draws = on_drawing (unoffered v) (stays_on _);
    falls = λ _ _ falls. clash (sym (answering_early v.tcb.state (and_first (is_answering v.tcb.state) _ falls)) ∙ late);
    ends = λ _ _ _.
        ends_on (stand_of v) (one_if v.tcb.sender.syn_unacked + queued_in v + one_if (owes_fin In.Closed))
        (no_fin (one_if v.tcb.sender.syn_unacked) (queued_in v) (one_if (owes_fin v.tcb.state)));
    closes = λ by passes _.
        let x = stand_of (acked_open (timed cx.instant header (unoffered v) by) by cx.instant) in
        then_closes (acked_open (timed cx.instant header (unoffered v) by) by cx.instant) (acked_on by (within by passes));
    taken = λ by passes on.
        on_content
        (heeded cx.instant header (length bytes) (unoffered v) by (acked_open (timed cx.instant header (unoffered v) by) by cx.instant).tcb)
        (record { on = acked_on by (within by passes); alive = on; next = sound.next; unfinished = not_finished by });
    taken_window = λ by passes on.
        on_content
        (heeded cx.instant header (length bytes) (unoffered v) by
        (windowed (acked_open (timed cx.instant header (unoffered v) by) by cx.instant).tcb header))
        (record { on = acked_on by (within by passes); alive = on; next = sound.next; unfinished = not_finished by });
    news = λ by passes _.
        on_drawing (waiting_anew (acked_open (timed cx.instant header (unoffered v) by) by cx.instant) header cx.instant)
        (acked_on by (within by passes));
    outside = on_drawing (waiting_anew (unoffered v) header cx.instant) (stays_on _);
    old = λ _.
        on_content (with_tcb (unoffered v) (tsval_taken (heard v.tcb) header cx.instant))
        (record {
          on = stays_on _;
          alive = alive;
          next = sound.next;
          unfinished = λ takes. sound.finished ∙ unfinished_now v.tcb.state takes;
        });
  }
    where
      no_fin : (a b c : ℕ) → a + b + 0 ≤ a + b + c
      no_fin a b c = omega arith

      then_closes : (x : TcpValue) → IsOn (stand_of v) (stand_of x) → IsOn (stand_of v)
          (record (stand_of x) {
            left = one_if x.tcb.sender.syn_unacked + queued_in x + one_if (owes_fin In.Closed);
            takes = false;
            over = true;
          })
      then_closes x c = record {
        less =
            upto (one_if x.tcb.sender.syn_unacked + queued_in x + 0) (left_of x) (left_of v)
            (no_fin (one_if x.tcb.sender.syn_unacked) (queued_in x) (one_if (owes_fin x.tcb.state))) c.less;
        more = c.more;
        una = λ on. clash on;
        next = c.next;
        takes = λ on _. clash on;
      }

  on_opening : Opening cx ip header bytes On (unoffered v)
  on_opening = record {
    opens = λ at _. clash (sym (ap is_early at) ∙ late);
    refuses = stays_on _;
    ends = λ at. clash (sym (ap is_early at) ∙ late);
    connects = λ at _. clash (sym (ap is_early at) ∙ late);
    crosses = λ at _. clash (sym (ap is_early at) ∙ late);
  }

  pub arrival_on : IsOn (stand_of v) (stand_of (arrives cx v ip header bytes).socket)
  arrival_on = by_arrival cx ip header bytes On v (stays_on _) (λ _. on_opening) (λ _. on_received)

-- AN OFFER

module _ (cx : ContextValue) (v : TcpValue) (there : is_synchronized v.tcb.state ≡ true) where
  abbrev Onward : TcpValue → Type 0
  Onward x = IsOn (stand_of v) (stand_of x)

  -- settled either way
  abbrev Either : Offered TcpValue → Type 0
  Either o = Onward (settled true o.socket) × Onward o.socket

  highest : (a b : ℕ) → a ≤ max a b
  highest a b = omega arith

  over_on : (x : TcpValue) → Onward x → IsOn (stand_of v)
      (record (stand_of x) {
        left = one_if x.tcb.sender.syn_unacked + queued_in x + one_if (owes_fin In.Closed);
        takes = false;
        over = true;
      })
  over_on x c = record {
    less =
        upto (one_if x.tcb.sender.syn_unacked + queued_in x + 0) (left_of x) (left_of v)
        (no_fin (one_if x.tcb.sender.syn_unacked) (queued_in x) (one_if (owes_fin x.tcb.state))) c.less;
    more = c.more;
    una = λ on. clash on;
    next = c.next;
    takes = λ on _. clash on;
  }
    where
      no_fin : (a b c : ℕ) → a + b + 0 ≤ a + b + c
      no_fin a b c = omega arith

  asked_on : (x : TcpValue) (b : Tcb) (instant : ℤ) → Onward (with_tcb x b) → Onward (with_tcb x (asked b instant))
  asked_on x b instant c =
      cond_both (is_over instant b.timers.counts_from)
      (record b {
        sender = record b.sender { unanswered = one_more b.sender.unanswered };
        timers = record b.timers { counts_from = Some (timeout_from instant b.round_trip) };
      })
      b (λ (b : Tcb). Onward (with_tcb x b)) (λ _. c) (λ _. c)

  abbrev opened_by : OfferKind → TcpValue → FourTuple → TcpHeader → ℕ → ℕ → OpenOffer
  opened_by kind x pair header offset len = record {
    kind = kind;
    instant = cx.instant;
    header = header_for pair.addresses (hop_limit_of x.tcb.settings.hop_limit) (header_len header + len);
    segment = header;
    offset = offset;
    len = len;
  }

  -- with more sent
  more_on : (x : TcpValue) (snd_max : ℕ) → Onward x → x.tcb.sender.snd_max ≤ snd_max → IsOn (stand_of v) (record (stand_of x) { snd_max = snd_max })
  more_on x snd_max c e = then_on (stand_of v) (stand_of x) _ (λ on. on) c (sends_on (stand_of x) snd_max e)

  abbrev Goes : OfferKind → Type 0
  Goes kind = (x : TcpValue) (o : OpenOffer) → Onward x → Onward (with_tcb x (sent_as kind (recorded x.tcb o (room_of x.received)) o (queued_in x)))

  reset_goes : Goes Kind.Reset
  reset_goes x o c = over_on x c

  syn_goes : Goes Kind.Syn
  syn_goes x o c = more_on x _ c (highest x.tcb.sender.snd_max _)

  again_goes : Goes Kind.FastRetransmission
  again_goes x o c = more_on x _ c (highest x.tcb.sender.snd_max _)

  payload_goes : Goes Kind.Payload
  payload_goes x o c = more_on x _ c (highest x.tcb.sender.snd_max _)

  probe_goes : Goes Kind.Probe
  probe_goes x o c =
      let b = recorded x.tcb o (room_of x.received) in
      asked_on x (probed b (end_of b o) o.instant) o.instant (more_on x _ c (highest x.tcb.sender.snd_max _))

  keep_alive_goes : Goes Kind.KeepAlive
  keep_alive_goes x o c = asked_on x (recorded x.tcb o (room_of x.received)) o.instant c

  ack_goes : Goes Kind.Ack
  ack_goes x o c = c

  update_goes : Goes Kind.WindowUpdate
  update_goes x o c = c

  by_segment :
      (kind : OfferKind) → Goes kind → (x : TcpValue) (pair : FourTuple) (header : TcpHeader) (offset len : ℕ) → Onward x
      → Either (offer_segment kind cx x pair header offset len)
  by_segment kind goes x pair header offset len c = (goes x (opened_by kind x pair header offset len) c, c)

  by_choice : (kind : OfferKind) → Goes kind → (x : TcpValue) (pair : FourTuple) (c : Choice) → Onward x → Either (offer_choice kind cx x pair c)
  by_choice kind goes x pair c on =
      by_segment kind goes x pair (segment x.tcb pair cx.instant (window_of x) (control_for c (queued_in x)) (number_at x.tcb c.offset)) c.offset c.len on

  on_first : (pair : FourTuple) (b : Tcb) → Onward (with_tcb (unoffered v) b) → FirstRules cx pair Either (with_tcb (unoffered v) b)
  on_first pair b c = record {
    syn = λ _. by_segment Kind.Syn syn_goes w pair (syn_segment b pair cx.instant cx.ip_mtu (room_of v.received) (free_in v)) 0 0 c;
    again = λ _ _. by_choice Kind.FastRetransmission again_goes w pair (resend_choice b pair.addresses cx.ip_mtu v.queued) c;
    payload = λ _ _. by_choice Kind.Payload payload_goes w pair (payload_choice b pair.addresses cx.ip_mtu v.queued) c;
    last = λ _.
        record {
          probe = λ _ _. by_choice Kind.Probe probe_goes x pair probe_choice c;
          window_limited = λ _ _. by_choice Kind.Payload payload_goes x pair (payload_choice x.tcb pair.addresses cx.ip_mtu v.queued) c;
          ack = λ _. by_segment Kind.Ack ack_goes x pair (ack_segment x.tcb pair cx.instant (window_of x)) 0 0 c;
          update = λ _ _. by_segment Kind.WindowUpdate update_goes x pair (ack_segment x.tcb pair cx.instant (window_of x)) 0 0 c;
          keep_alive = λ _ _. by_segment Kind.KeepAlive keep_alive_goes x pair (keep_alive_segment x.tcb pair cx.instant (window_of x)) 0 1 c;
          quiet = λ _. (c, c);
        };
  }
    where
      w : TcpValue
      w = with_tcb (unoffered v) b

      x : TcpValue
      x = probing cx w

  over : Onward (with_tcb (unoffered v) (record v.tcb { state = In.Closed }))
  over = over_on v (stays_on _)

  pub offer_on : Either (offer_of cx v)
  offer_on =
      by_rules cx v Either
      (record {
        nobody = λ _. (stays_on _, stays_on _);
        time_wait = λ _. (over, over);
        timeout = λ _. (over, over);
        closed = λ _. (stays_on _, stays_on _);
        reset = λ pair _ _.
            by_segment Kind.Reset reset_goes (unoffered v) pair (reset_segment v.tcb pair cx.instant (window_of v)) 0 0 (stays_on _);
        falls = λ _ _ falls.
            clash
            (sym (answering_early v.tcb.state (and_first (is_answering v.tcb.state) _ falls))
            ∙ late_in v.tcb.state there);
        over = λ _ _ _. (over, over);
        backs = λ pair _ _ _. on_first pair (backed_off_now (begun cx v)) (stays_on _);
        probes = λ pair _ _ _ _. on_first pair (loss_probed (begun cx v)) (stays_on _);
        goes = λ pair _ _ _. on_first pair (begun cx v) (stays_on _);
      })
