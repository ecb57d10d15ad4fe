-- What goes from SND.UNA on: its numbers, its length, and what the offer leaves as it is once it is settled as sent.
use Rattle.std.proofs.Common.{◌≡◌, ℕ, ◌+◌, ◌-◌, ◌^◌, ◌<◌, ◌≤◌, ◌==◌, ◌&&◌, min, max, not, ℤ, Bool, true, false, if◌then◌else◌, List, length, take, drop}
use Rattle.std.proofs.Common.{Some, None, refl, sym, ap, ◌∙◌, subst, arith, length-take, length-drop}
use Rattle.std.proofs.lemmas.Bool.{cond_both}
use Rattle.ip_wire.specs.Control.{control_len}
use Rattle.ip_wire.specs.SeqNumber.{SeqNumber}
use Rattle.ip_wire.specs.Tcp.{header_len}
use Rattle.ip_wire.specs.TcpControl.{TcpControl}
use Rattle.ip_wire.specs.TcpControl.TheVariants as Control
use Rattle.ip_wire.specs.TcpHeader.{TcpHeader}
use Rattle.tcp_refinement.specs.Context.{ContextValue}
use Rattle.tcp_refinement.specs.Offers.{Offered}
use Rattle.tcp_invariants.specs.Controls.{is_syn, is_rst}
use Rattle.tcp_invariants.specs.Endpoints.{header_for}
use Rattle.tcp_invariants.specs.FourTuple.{FourTuple}
use Rattle.tcp_invariants.specs.Moments.{is_over, timeout_from}
use Rattle.tcp_invariants.specs.OfferKind.{OfferKind}
use Rattle.tcp_invariants.specs.OfferKind.TheVariants as Kind
use Rattle.tcp_invariants.specs.OpenOffer.{OpenOffer}
use Rattle.tcp_invariants.specs.State.{State}
use Rattle.tcp_invariants.specs.States.{is_answering, owes_fin, sends_syn}
use Rattle.tcp_invariants.specs.Timing.{carries}
use Rattle.tcp_block.specs.declared.tcb.Tcb.{Tcb}
use Rattle.tcp_block.specs.TcbRules.{one_if, unacked}
use Rattle.tcp_block.specs.LossRecovery.{loss_probed}
use Rattle.tcp_block.specs.Offers.{offer_of, offer_segment, offer_choice, number_at, payload_of}
use Rattle.tcp_block.specs.Retries.{asked, one_more}
use Rattle.tcp_block.specs.Rules.{Choice, payload_choice, resend_choice, probe_choice, control_for, backed_off_now, owes_syn, fin_is_sent}
use Rattle.tcp_block.specs.Segments.{hop_limit_of, segment, segment_len, ack_segment, reset_segment, keep_alive_segment}
use Rattle.tcp_block.specs.Settled.{settled, sent_as, recorded, probed, end_of}
use Rattle.tcp_block.specs.Value.{TcpValue, with_tcb, unoffered, queued_in, room_of, window_of}
use Rattle.tcp_invariants.proofs.OfferCases.{FirstRules, by_rules, begun, probing}
use Rattle.tcp_invariants.proofs.OrderSteps.{clash}
use Rattle.tcp_liveness.proofs.Again.{again_at_una}
use Rattle.tcp_liveness.specs.StartsOver.{StartsOver}
use Rattle.tcp_liveness.specs.Exchange.{GoesFromUna, data_of}

-- WHAT STAYS

-- what an exchange reads of a block is the same, but that more was sent
pub record StaysBut (old new : Tcb) : Type 0 where
  pub state : new.state ≡ old.state
  pub una : new.sender.una ≡ old.sender.una
  pub syn_unacked : new.sender.syn_unacked ≡ old.sender.syn_unacked
  pub past_iss : new.sender.past_iss ≡ old.sender.past_iss
  pub snd_max : old.sender.snd_max ≤ new.sender.snd_max
  pub next : new.receiver.next ≡ old.receiver.next
  pub peer : new.peer ≡ old.peer

raised : (a b : ℕ) → a ≤ max a b
raised a b = omega arith

pub asked_stays : (old b : Tcb) (now : ℤ) → StaysBut old b → StaysBut old (asked b now)
asked_stays old b now s =
    cond_both (is_over now b.timers.counts_from)
    (record b {
      sender = record b.sender { unanswered = one_more b.sender.unanswered };
      timers = record b.timers { counts_from = Some (timeout_from now b.round_trip) };
    })
    b (StaysBut old)
    (λ _.
    record {
      state = s.state;
      una = s.una;
      syn_unacked = s.syn_unacked;
      past_iss = s.past_iss;
      snd_max = s.snd_max;
      next = s.next;
      peer = s.peer;
    })
    (λ _. s)

abbrev pub Sends : OfferKind → Type 0
Sends kind = (b : Tcb) (o : OpenOffer) (queued : ℕ) → StaysBut b (sent_as kind b o queued)

pub payload_stays : Sends Kind.Payload
payload_stays b o queued = record {
  state = refl;
  una = refl;
  syn_unacked = refl;
  past_iss = refl;
  snd_max = raised b.sender.snd_max (end_of b o);
  next = refl;
  peer = refl;
}

pub again_stays : Sends Kind.FastRetransmission
again_stays b o queued = record {
  state = refl;
  una = refl;
  syn_unacked = refl;
  past_iss = refl;
  snd_max = raised b.sender.snd_max (end_of b o);
  next = refl;
  peer = refl;
}

pub probe_stays : Sends Kind.Probe
probe_stays b o queued =
    asked_stays b (probed b (end_of b o) o.instant) o.instant
    (record {
      state = refl;
      una = refl;
      syn_unacked = refl;
      past_iss = refl;
      snd_max = raised b.sender.snd_max (end_of b o);
      next = refl;
      peer = refl;
    })

-- WHAT GOES

part_of : (len offset : ℕ) (queue : List ℕ) → length (take len (drop offset queue)) ≤ length queue
part_of len offset queue = less (length (take len (drop offset queue))) len (length (drop offset queue)) offset (length queue)
    (length-take len (drop offset queue)) (length-drop offset queue)
  where
    less : (a len b offset whole : ℕ) → a ≡ min len b → b ≡ whole - offset → a ≤ whole
    less a len b offset whole e f = omega arith

fin_counts : (state : State) → owes_fin state ≡ true → 1 ≤ one_if (owes_fin state)
fin_counts state owes = subst (λ (t : Bool). 1 ≤ one_if t) (sym owes) one where
  one : 1 ≤ 1
  one = omega arith

-- a FIN takes a position, and nothing else that goes does but its payload
control_fits : (c : Choice) (queued : ℕ) (state : State) → (c.fin ≡ true → owes_fin state ≡ true) → control_len (control_for c queued) ≤ one_if (owes_fin state)
control_fits c queued state fin =
    cond_both c.fin Control.Fin (if not (c.len == 0) && (c.offset + c.len == queued) then Control.Psh else Control.None)
    (λ (control : TcpControl). control_len control ≤ one_if (owes_fin state))
    (λ goes. fin_counts state (fin goes))
    (λ _. cond_both (not (c.len == 0) && (c.offset + c.len == queued)) Control.Psh Control.None
    (λ (control : TcpControl). control_len control ≤ one_if (owes_fin state)) (λ _. none) (λ _. none))
  where
    none : 0 ≤ one_if (owes_fin state)
    none = omega arith

pub plain_control : (c : Choice) (queued : ℕ) → (is_syn (control_for c queued) ≡ false) × (is_rst (control_for c queued) ≡ false)
plain_control c queued =
    cond_both c.fin Control.Fin (if not (c.len == 0) && (c.offset + c.len == queued) then Control.Psh else Control.None)
    (λ (control : TcpControl). (is_syn control ≡ false) × (is_rst control ≡ false))
    (λ _. (refl, refl))
    (λ _. cond_both (not (c.len == 0) && (c.offset + c.len == queued)) Control.Psh Control.None
    (λ (control : TcpControl). (is_syn control ≡ false) × (is_rst control ≡ false)) (λ _. (refl, refl)) (λ _. (refl, refl)))

together : (payload whole control fin all syn : ℕ) → payload ≤ whole → control ≤ fin → all ≡ syn + whole + fin → payload + control ≤ all
together payload whole control fin all syn a b c = omega arith

-- of an offer of `v`, which the socket `x` holds: it goes from SND.UNA on, and once it is sent all else stays
pub record IsTransmitted (v x : TcpValue) (o : OpenOffer) : Type 0 where
  pub acknowledges : o.segment.ack_number ≡ Some v.tcb.receiver.next
  pub ends : segment_len o.segment (length (data_of v o)) ≤ unacked v.tcb (queued_in v)
  pub no_syn : is_syn o.segment.control ≡ false
  pub no_reset : is_rst o.segment.control ≡ false
  pub sent : StaysBut v.tcb (settled true x).tcb
  pub received : (settled true x).received ≡ v.received
  pub queued : x.queued ≡ v.queued
  pub sent_queued : (settled true x).queued ≡ v.queued

same_unacked : (old b : Tcb) (queued : ℕ) → StaysBut old b → unacked old queued ≡ unacked b queued
same_unacked old b queued s =
    ap (λ (t : Bool). one_if t + queued + one_if (owes_fin old.state)) (sym s.syn_unacked)
    ∙ ap (λ (state : State). one_if b.sender.syn_unacked + queued + one_if (owes_fin state)) (sym s.state)

then_stays : (old mid new : Tcb) → StaysBut old mid → StaysBut mid new → StaysBut old new
then_stays old mid new s t = record {
  state = t.state ∙ s.state;
  una = t.una ∙ s.una;
  syn_unacked = t.syn_unacked ∙ s.syn_unacked;
  past_iss = t.past_iss ∙ s.past_iss;
  snd_max = up old.sender.snd_max mid.sender.snd_max new.sender.snd_max s.snd_max t.snd_max;
  next = t.next ∙ s.next;
  peer = t.peer ∙ s.peer;
}
  where
    up : (a b c : ℕ) → a ≤ b → b ≤ c → a ≤ c
    up a b c e f = omega arith

one_offer : (mine k : OpenOffer) → Some mine ≡ Some k → mine ≡ k
one_offer mine k e = cc

none_offered : {A : Type 0} → (k : OpenOffer) → None ≡ Some k → A
none_offered k e = absurd (cc)

module _ (cx : ContextValue) (v : TcpValue) (syn : v.tcb.sender.syn_unacked ≡ false) where
  abbrev Out : Offered TcpValue → Type 0
  Out o = (k : OpenOffer) → o.socket.offered ≡ Some k → carries k.kind ≡ true → IsTransmitted v o.socket k

  -- a part of the send queue
  by_choice :
      (kind : OfferKind) (pair : FourTuple) (b : Tcb) (c : Choice) → StaysBut v.tcb b → Sends kind
      → ((o : OpenOffer) (queue : List ℕ) → payload_of o kind queue ≡ take o.len (drop o.offset queue)) → (c.fin ≡ true → owes_fin b.state ≡ true)
      → Out (offer_choice kind cx (with_tcb (unoffered v) b) pair c)
  by_choice kind pair b c stays sends pays fin k e _ = subst (IsTransmitted v (offer_choice kind cx x pair c).socket) (one_offer mine k e) out where
    x : TcpValue
    x = with_tcb (unoffered v) b

    header : TcpHeader
    header = segment b pair cx.instant (window_of x) (control_for c (queued_in v)) (number_at b c.offset)

    mine : OpenOffer
    mine = record {
      kind = kind;
      instant = cx.instant;
      header = header_for pair.addresses (hop_limit_of b.settings.hop_limit) (header_len header + c.len);
      segment = header;
      offset = c.offset;
      len = c.len;
    }

    plain : (is_syn (control_for c (queued_in v)) ≡ false) × (is_rst (control_for c (queued_in v)) ≡ false)
    plain = plain_control c (queued_in v)

    payload : length (data_of v mine) ≤ queued_in v
    payload = subst (λ (bytes : List ℕ). length bytes ≤ queued_in v) (sym (pays mine v.queued.queue)) (part_of c.len c.offset v.queued.queue)

    recorded_stays : StaysBut b (recorded b mine (room_of v.received))
    recorded_stays = record { state = refl; una = refl; syn_unacked = refl; past_iss = refl; snd_max = same b.sender.snd_max; next = refl; peer = refl } where
      same : (n : ℕ) → n ≤ n
      same n = omega arith

    out : IsTransmitted v (offer_choice kind cx x pair c).socket mine
    out = record {
      acknowledges = ap Some stays.next;
      ends =
          together (length (data_of v mine)) (queued_in v) (control_len (control_for c (queued_in v))) (one_if (owes_fin b.state))
          (unacked v.tcb (queued_in v)) (one_if b.sender.syn_unacked) payload (control_fits c (queued_in v) b.state fin)
          (same_unacked v.tcb b (queued_in v) stays);
      no_syn = plain.0;
      no_reset = plain.1;
      sent =
          then_stays v.tcb b (sent_as kind (recorded b mine (room_of v.received)) mine (queued_in v)) stays
          (then_stays b (recorded b mine (room_of v.received)) (sent_as kind (recorded b mine (room_of v.received)) mine (queued_in v)) recorded_stays
          (sends (recorded b mine (room_of v.received)) mine (queued_in v)));
      received = refl;
      queued = refl;
      sent_queued = refl;
    }

  -- it carries nothing
  by_bare :
      (kind : OfferKind) (x : TcpValue) (pair : FourTuple) (header : TcpHeader) (offset len : ℕ) → carries kind ≡ false
      → Out (offer_segment kind cx x pair header offset len)
  by_bare kind x pair header offset len bare k e some = clash (sym some ∙ (ap (λ (o : OpenOffer). carries o.kind) (sym (one_offer mine k e)) ∙ bare)) where
    mine : OpenOffer
    mine = record {
      kind = kind;
      instant = cx.instant;
      header = header_for pair.addresses (hop_limit_of x.tcb.settings.hop_limit) (header_len header + len);
      segment = header;
      offset = offset;
      len = len;
    }

  no_syn_due : (b : Tcb) → b.sender.syn_unacked ≡ v.tcb.sender.syn_unacked → owes_syn b ≡ false
  no_syn_due b same =
      last (sends_syn b.state && not (is_answering b.state && b.settings.synack_paused)) b.sender.syn_unacked (b.sender.flight_size == 0) (same ∙ syn)
    where
      last : (first unacked none : Bool) → unacked ≡ false → (first && (unacked && none)) ≡ false
      last true unacked none e = ap (λ (t : Bool). t && none) e
      last false unacked none e = refl

  first_of_two : (a b : Bool) → (a && b) ≡ true → a ≡ true
  first_of_two true b e = refl
  first_of_two false b e = e

  owes_where : (b : Tcb) (queued end : ℕ) → fin_is_sent b queued end ≡ true → owes_fin b.state ≡ true
  owes_where b queued end goes = first_of_two (owes_fin b.state) (end == queued) goes

  by_first : (pair : FourTuple) (b : Tcb) → StaysBut v.tcb b → FirstRules cx pair Out (with_tcb (unoffered v) b)
  by_first pair b stays = record {
    syn = λ due. clash (sym due ∙ no_syn_due b stays.syn_unacked);
    again = λ _ _.
        let c = resend_choice b pair.addresses cx.ip_mtu v.queued in
        by_choice Kind.FastRetransmission pair b c stays again_stays (λ o queue. refl)
        (λ goes. owes_where b (queued_in v) (c.offset + c.len) (first_of_two (fin_is_sent b (queued_in v) (c.offset + c.len)) _ goes));
    payload = λ _ _.
        let c = payload_choice b pair.addresses cx.ip_mtu v.queued in
        by_choice Kind.Payload pair b c stays payload_stays (λ o queue. refl) (λ goes. owes_where b (queued_in v) (c.offset + c.len) goes);
    last = λ _.
        record {
          probe = λ _ _. by_choice Kind.Probe pair x.tcb probe_choice more probe_stays (λ o queue. refl) (λ goes. clash (sym goes));
          window_limited = λ _ _.
              let c = payload_choice x.tcb pair.addresses cx.ip_mtu v.queued in
              by_choice Kind.Payload pair x.tcb c more payload_stays (λ o queue. refl) (λ goes. owes_where x.tcb (queued_in v) (c.offset + c.len) goes);
          ack = λ _. by_bare Kind.Ack x pair (ack_segment x.tcb pair cx.instant (window_of x)) 0 0 refl;
          update = λ _ _. by_bare Kind.WindowUpdate x pair (ack_segment x.tcb pair cx.instant (window_of x)) 0 0 refl;
          keep_alive = λ _ _. by_bare Kind.KeepAlive x pair (keep_alive_segment x.tcb pair cx.instant (window_of x)) 0 1 refl;
          quiet = λ _ k e _. none_offered k e;
        };
  }
    where
      x : TcpValue
      x = probing cx (with_tcb (unoffered v) b)

      more : StaysBut v.tcb x.tcb
      more = record {
        state = stays.state;
        una = stays.una;
        syn_unacked = stays.syn_unacked;
        past_iss = stays.past_iss;
        snd_max = stays.snd_max;
        next = stays.next;
        peer = stays.peer;
      }

  same_snd_max : v.tcb.sender.snd_max ≤ v.tcb.sender.snd_max
  same_snd_max = omega arith

  is_transmitted : Out (offer_of cx v)
  is_transmitted =
      by_rules cx v Out
      (record {
        nobody = λ _ k e _. none_offered k e;
        time_wait = λ _ k e _. none_offered k e;
        timeout = λ _ k e _. none_offered k e;
        closed = λ _ k e _. none_offered k e;
        reset = λ pair _ _. by_bare Kind.Reset (unoffered v) pair (reset_segment v.tcb pair cx.instant (window_of v)) 0 0 refl;
        falls = λ _ _ _ k e _. none_offered k e;
        over = λ _ _ _ k e _. none_offered k e;
        backs = λ pair _ _ _.
            by_first pair (backed_off_now (begun cx v))
            (record { state = refl; una = refl; syn_unacked = refl; past_iss = refl; snd_max = same_snd_max; next = refl; peer = refl });
        probes = λ pair _ _ _ _.
            by_first pair (loss_probed (begun cx v))
            (record { state = refl; una = refl; syn_unacked = refl; past_iss = refl; snd_max = same_snd_max; next = refl; peer = refl });
        goes = λ pair _ _ _.
            by_first pair (begun cx v)
            (record { state = refl; una = refl; syn_unacked = refl; past_iss = refl; snd_max = same_snd_max; next = refl; peer = refl });
      })

pub is_transmitted_of :
    (cx : ContextValue) (v : TcpValue) (o : OpenOffer) → v.tcb.sender.syn_unacked ≡ false → (offer_of cx v).socket.offered ≡ Some o
    → carries o.kind ≡ true → IsTransmitted v (offer_of cx v).socket o
is_transmitted_of cx v o syn e some = is_transmitted cx v syn o e some

number_is : (a b : SeqNumber) → a.0 ≡ b.0 → a ≡ b
number_is a b e = ap (λ (n : ℕ). same n) e where
  same : ℕ → SeqNumber
  same n = record { 0 = n }

-- all that is said of what goes from SND.UNA on
pub goes_from_una :
    (cx : ContextValue) (v : TcpValue) (o : OpenOffer) → v.tcb.sender.una.0 < 2 ^ 32 → v.tcb.sender.syn_unacked ≡ false → StartsOver cx v
    → (offer_of cx v).socket.offered ≡ Some o → carries o.kind ≡ true → GoesFromUna v o
goes_from_una cx v o small syn over e some =
    let out = is_transmitted_of cx v o syn e some in
    record {
      number = number_is o.segment.seq_number v.tcb.sender.una (again_at_una cx v o small syn over e some);
      acknowledges = out.acknowledges;
      ends = out.ends;
    }
