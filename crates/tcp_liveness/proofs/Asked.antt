-- What an offer leaves of what was sent: more, and the segment lies within it.
use Rattle.std.proofs.Common.{◌≡◌, ◌⊎◌, inl, inr, ℕ, ◌+◌, ◌-◌, ◌%◌, ◌^◌, ◌<◌, ◌≤◌, ◌==◌, ◌&&◌, min, max, ℤ, Bool, true, false, if◌then◌else◌, List, length}
use Rattle.std.proofs.Common.{take, drop, Option, Some, None, refl, sym, ap, ◌∙◌, subst, arith, length-take}
use Rattle.std.proofs.lemmas.Bool.{cond_both}
use Rattle.ip_wire.specs.Control.{control_len}
use Rattle.ip_wire.specs.Seq.{distance_of}
use Rattle.ip_wire.specs.SeqNumber.{SeqNumber}
use Rattle.ip_wire.specs.Tcp.{header_len}
use Rattle.ip_wire.specs.TcpControl.{TcpControl}
use Rattle.ip_wire.specs.TcpControl.TheVariants as Bits
use Rattle.ip_wire.specs.TcpHeader.{TcpHeader}
use Rattle.tcp_refinement.specs.Context.{ContextValue}
use Rattle.tcp_refinement.specs.Offers.{Offered}
use Rattle.tcp_refinement.specs.Segment.{Segment}
use Rattle.tcp_refinement.specs.Tie.{control_of, segment_of}
use Rattle.tcp_invariants.specs.Endpoints.{header_for}
use Rattle.tcp_invariants.specs.FourTuple.{FourTuple}
use Rattle.tcp_invariants.specs.Moments.{is_due, is_over, timeout_from}
use Rattle.tcp_invariants.specs.OfferKind.{OfferKind}
use Rattle.tcp_invariants.specs.OfferKind.TheVariants as Kind
use Rattle.tcp_invariants.specs.OpenOffer.{OpenOffer}
use Rattle.tcp_invariants.specs.State.{State}
use Rattle.tcp_invariants.specs.State.TheVariants as In
use Rattle.tcp_invariants.specs.States.{is_closed, keeps_alive, owes_fin, may_send_data}
use Rattle.tcp_invariants.proofs.OfferCases.{LastRules, FirstRules, by_rules, begun, probing}
use Rattle.tcp_invariants.proofs.OrderSteps.{clash}
use Rattle.tcp_block.specs.declared.tcb.Tcb.{Tcb}
use Rattle.tcp_block.specs.TcbRules.{one_if, unacked}
use Rattle.tcp_block.specs.LossRecovery.{loss_probed}
use Rattle.tcp_block.specs.Offers.{offer_of, offer_segment, offer_choice, offer_syn, offer_ack, offer_keep_alive, silent, number_at, payload_of}
use Rattle.tcp_block.specs.Probing.{is_probing}
use Rattle.tcp_block.specs.Retries.{one_more}
use Rattle.tcp_block.specs.Rules.{Choice, payload_choice, resend_choice, probe_choice, control_for, backed_off_now}
use Rattle.tcp_block.specs.Segments.{hop_limit_of, segment, syn_segment, ack_segment, keep_alive_segment}
use Rattle.tcp_block.specs.Settled.{settled, sent_as, recorded, probed, end_of, syn_was_sent}
use Rattle.tcp_block.specs.Value.{TcpValue, with_tcb, unoffered, queued_in, free_in, room_of, window_of}
use Rattle.tcp_liveness.specs.Arrivals.{is_synchronized}
use Rattle.tcp_liveness.specs.Sent.{is_early, size_in, size_of, IsBare}
use Rattle.tcp_liveness.proofs.Comes.{Counted, early_answering}
use Rattle.tcp_liveness.proofs.Offered.{StaysBut, Sends, asked_stays, payload_stays, again_stays, probe_stays}

-- WHERE A SEGMENT ENDS

-- it begins so far past SND.UNA, and ends within so much
pub record Ahead (una snd_max : ℕ) (x : Segment) : Type 0 where
  pub far : ℕ
  pub number : x.seq ≡ (una + far) % 2 ^ 32
  pub ends : far + size_of x ≤ snd_max

-- a keep-alive: a byte below SND.UNA
pub record Below (state : State) (una : ℕ) (x : Segment) : Type 0 where
  pub number : x.seq ≡ (una + (2 ^ 32 - 1)) % 2 ^ 32
  pub one : size_of x ≡ 1
  pub alive : keeps_alive state ≡ true

abbrev pub Reaches : TcpValue → ℕ → Segment → Type 0
Reaches v snd_max x = IsBare x ⊎ (Ahead v.tcb.sender.una.0 snd_max x ⊎ Below v.tcb.state v.tcb.sender.una.0 x)

abbrev pub segment_in : OpenOffer → List ℕ → Segment
segment_in o queue = segment_of o.segment (payload_of o o.kind queue)

-- what holds of the segment of an offer
abbrev pub OfOffer : (Segment → Type 0) → Option OpenOffer → List ℕ → Type 0
OfOffer P None queue = Unit {0}
OfOffer P (Some o) queue = P (segment_in o queue)

payload_on : (state : State) → may_send_data state ≡ true → is_synchronized state ≡ true
payload_on In.Established e = refl
payload_on In.CloseWait e = refl
payload_on In.FinWait1 e = refl
payload_on In.Closing e = refl
payload_on In.LastAck e = refl
payload_on other e = clash (sym e)

alive_on : (state : State) → keeps_alive state ≡ true → is_synchronized state ≡ true
alive_on In.Established e = refl
alive_on In.FinWait2 e = refl
alive_on In.CloseWait e = refl
alive_on other e = clash (sym e)

size_at_most : (control : TcpControl) (bytes : List ℕ) (len : ℕ) → length bytes ≤ len → size_in (control_of control) bytes ≤ len + control_len control
size_at_most Bits.None bytes len e = omega arith
size_at_most Bits.Psh bytes len e = omega arith
size_at_most Bits.Syn bytes len e = omega arith
size_at_most Bits.Fin bytes len e = omega arith
size_at_most Bits.Rst bytes len e = omega arith

taken_at_most : (len : ℕ) (bytes : List ℕ) → length (take len bytes) ≤ len
taken_at_most len bytes = less (length (take len bytes)) (length bytes) (length-take len bytes) where
  less : (a b : ℕ) → a ≡ min len b → a ≤ len
  less a b e = omega arith

number_back : (una seq : ℕ) → una < 2 ^ 32 → seq < 2 ^ 32 → seq ≡ (una + (seq + (2 ^ 32 - una)) % 2 ^ 32) % 2 ^ 32
number_back una seq a b = omega arith

small_number : (n : ℕ) → n % 2 ^ 32 < 2 ^ 32
small_number n = omega arith

within : (far size len snd_max : ℕ) → size ≤ len → far + len ≤ snd_max → far + size ≤ snd_max
within far size len snd_max a b = omega arith

raised : (a b : ℕ) → b ≤ max a b
raised a b = omega arith

same : (n : ℕ) → n ≤ n
same n = omega arith

upto : (a b c : ℕ) → a ≤ b → b ≤ c → a ≤ c
upto a b c e f = omega arith

-- its end was sent
abbrev Ends : OfferKind → Type 0
Ends kind = (b : Tcb) (o : OpenOffer) (queued : ℕ) → end_of b o ≤ (sent_as kind b o queued).sender.snd_max

payload_ends : Ends Kind.Payload
payload_ends b o queued = raised b.sender.snd_max (end_of b o)

again_ends : Ends Kind.FastRetransmission
again_ends b o queued = raised b.sender.snd_max (end_of b o)

probe_ends : Ends Kind.Probe
probe_ends b o queued =
    cond_both (is_over o.instant (probed b (end_of b o) o.instant).timers.counts_from)
    (record (probed b (end_of b o) o.instant) {
      sender = record (probed b (end_of b o) o.instant).sender { unanswered = one_more b.sender.unanswered };
      timers =
          record (probed b (end_of b o) o.instant).timers {
            counts_from = Some (timeout_from o.instant (probed b (end_of b o) o.instant).round_trip);
          };
    })
    (probed b (end_of b o) o.instant) (λ (new : Tcb). end_of b o ≤ new.sender.snd_max) (λ _. raised b.sender.snd_max (end_of b o))
    (λ _. raised b.sender.snd_max (end_of b o))

-- a SYN
syn_stays : Sends Kind.Syn
syn_stays b o queued = record {
  state = refl;
  una = refl;
  syn_unacked = refl;
  past_iss = refl;
  snd_max = least b.sender.snd_max (end_of (syn_was_sent b o) o);
  next = refl;
  peer = refl;
}
  where
    least : (a b : ℕ) → a ≤ max a b
    least a b = omega arith

-- THE OFFER

-- what was sent is as it was, or more
record IsSame (old new : Tcb) : Type 0 where
  state : new.state ≡ old.state
  una : new.sender.una ≡ old.sender.una
  syn_unacked : new.sender.syn_unacked ≡ old.sender.syn_unacked
  snd_max : new.sender.snd_max ≡ old.sender.snd_max

same_all : (b new : Tcb) (queued : ℕ) → new.state ≡ b.state → new.sender.syn_unacked ≡ b.sender.syn_unacked → unacked new queued ≡ unacked b queued
same_all b new queued state syn =
    ap (λ (t : Bool). one_if t + queued + one_if (owes_fin new.state)) syn
    ∙ ap (λ (s : State). one_if b.sender.syn_unacked + queued + one_if (owes_fin s)) state

module _ (cx : ContextValue) (v : TcpValue) (small : is_synchronized v.tcb.state ≡ true → v.tcb.sender.una.0 < 2 ^ 32) where
  -- once the offer is settled as sent
  pub record IsFurther (y : TcpValue) (offered : Option OpenOffer) (queue : List ℕ) : Type 0 where
    pub una : y.tcb.sender.una.0 ≡ v.tcb.sender.una.0
    pub all : unacked y.tcb (queued_in y) ≡ unacked v.tcb (queued_in v)
    pub snd_max : v.tcb.sender.snd_max ≤ y.tcb.sender.snd_max
    pub ends : OfOffer (Reaches v y.tcb.sender.snd_max) offered queue

  pub record After (o : Offered TcpValue) : Type 0 where
    -- settled as sent
    pub early : is_early (settled true o.socket).tcb.state ≡ true → is_early v.tcb.state ≡ true
    pub dead : is_closed v.tcb.state ≡ true → is_closed (settled true o.socket).tcb.state ≡ true
    pub bare : is_synchronized v.tcb.state ≡ false → OfOffer IsBare o.socket.offered o.socket.queued.queue
    pub further :
        is_synchronized v.tcb.state ≡ true → is_synchronized (settled true o.socket).tcb.state ≡ true
        → IsFurther (settled true o.socket) o.socket.offered o.socket.queued.queue
    -- settled as not sent
    pub kept_early : is_early o.socket.tcb.state ≡ true → is_early v.tcb.state ≡ true
    pub kept_dead : is_closed v.tcb.state ≡ true → is_closed o.socket.tcb.state ≡ true
    pub kept : is_synchronized v.tcb.state ≡ true → is_synchronized o.socket.tcb.state ≡ true → Counted v o.socket

  counted : (b : Tcb) → IsSame v.tcb b → Counted v (with_tcb (unoffered v) b)
  counted b s = (
    ap (λ (n : ℕ). n - b.sender.snd_max) (same_all v.tcb b (queued_in v) s.state s.syn_unacked)
        ∙ ap (λ (n : ℕ). unacked v.tcb (queued_in v) - n) s.snd_max,
    ap (λ (n : SeqNumber). (n.0 + b.sender.snd_max) % 2 ^ 32) s.una ∙ ap (λ (n : ℕ). (v.tcb.sender.una.0 + n) % 2 ^ 32) s.snd_max,
  )

  -- an offer of a socket with this block, where the connection goes on
  module _ (alive : is_closed v.tcb.state ≡ false) (b : Tcb) (s : IsSame v.tcb b) where
    abbrev x : TcpValue
    x = with_tcb (unoffered v) b

    module _ (kind : OfferKind) (pair : FourTuple) (header : TcpHeader) (offset len : ℕ) where
      abbrev mine : OpenOffer
      mine = record {
        kind = kind;
        instant = cx.instant;
        header = header_for pair.addresses (hop_limit_of b.settings.hop_limit) (header_len header + len);
        segment = header;
        offset = offset;
        len = len;
      }

      abbrev new : Tcb
      new = sent_as kind (recorded b mine (room_of v.received)) mine (queued_in v)

      abbrev gone : Segment
      gone = segment_of header (payload_of mine kind v.queued.queue)

      by_offer :
          StaysBut (recorded b mine (room_of v.received)) new → (is_synchronized v.tcb.state ≡ false → IsBare gone)
          → (is_synchronized v.tcb.state ≡ true → Reaches v new.sender.snd_max gone) → After (offer_segment kind cx x pair header offset len)
      by_offer stays bare reaches = record {
        early = λ e. sym (ap is_early (stays.state ∙ s.state)) ∙ e;
        dead = λ closed. clash (sym closed ∙ alive);
        bare = bare;
        further = λ now _. record {
          una = ap (λ (n : SeqNumber). n.0) (stays.una ∙ s.una);
          all = same_all v.tcb new (queued_in v) (stays.state ∙ s.state) (stays.syn_unacked ∙ s.syn_unacked);
          snd_max = subst (λ (n : ℕ). n ≤ new.sender.snd_max) s.snd_max stays.snd_max;
          ends = reaches now;
        };
        kept_early = λ e. sym (ap is_early s.state) ∙ e;
        kept_dead = λ closed. clash (sym closed ∙ alive);
        kept = λ _ _. counted b s;
      }

    same_una : v.tcb.sender.una.0 ≡ b.sender.una.0
    same_una = ap (λ (n : SeqNumber). n.0) (sym s.una)

    -- a part of the send queue
    by_choice :
        (kind : OfferKind) (pair : FourTuple) (c : Choice) → Sends kind → Ends kind
        → ((o : OpenOffer) (queue : List ℕ) → payload_of o kind queue ≡ take o.len (drop o.offset queue)) → may_send_data b.state ≡ true
        → After (offer_choice kind cx x pair c)
    by_choice kind pair c sends ends pays payload =
        by_offer kind pair header c.offset c.len (sends recorded_b o (queued_in v))
        (λ early. clash (sym (payload_on b.state payload) ∙ (ap is_synchronized s.state ∙ early)))
        (λ now. inr (inl (ahead now)))
      where
        header : TcpHeader
        header = segment b pair cx.instant (window_of x) (control_for c (queued_in v)) (number_at b c.offset)

        o : OpenOffer
        o = mine kind pair header c.offset c.len

        recorded_b : Tcb
        recorded_b = recorded b o (room_of v.received)

        bytes : List ℕ
        bytes = payload_of o kind v.queued.queue

        short : length bytes ≤ c.len
        short = subst (λ (xs : List ℕ). length xs ≤ c.len) (sym (pays o v.queued.queue)) (taken_at_most c.len (drop c.offset v.queued.queue))

        ahead : is_synchronized v.tcb.state ≡ true → Ahead v.tcb.sender.una.0 (new kind pair header c.offset c.len).sender.snd_max (segment_of header bytes)
        ahead now = record {
          far = distance_of v.tcb.sender.una (number_at b c.offset);
          number =
              number_back v.tcb.sender.una.0 (number_at b c.offset).0 (small now)
              (small_number (b.sender.una.0 + (one_if b.sender.syn_unacked + c.offset)));
          ends =
              within (distance_of v.tcb.sender.una (number_at b c.offset)) (size_of (segment_of header bytes))
              (c.len + control_len (control_for c (queued_in v)))
              (new kind pair header c.offset c.len).sender.snd_max
              (size_at_most (control_for c (queued_in v)) bytes c.len short)
              (subst (λ (n : SeqNumber). distance_of n (number_at b c.offset) + (c.len + control_len (control_for c (queued_in v))) ≤
              (new kind pair header c.offset c.len).sender.snd_max) s.una (ends recorded_b o (queued_in v)));
        }

    by_syn : (pair : FourTuple) → After (offer_syn cx x pair)
    by_syn pair =
        by_offer Kind.Syn pair header 0 0 (syn_stays (recorded b o (room_of v.received)) o (queued_in v)) (λ _. refl) (λ _. inl refl)
      where
        header : TcpHeader
        header = syn_segment b pair cx.instant cx.ip_mtu (room_of v.received) (free_in v)

        o : OpenOffer
        o = mine Kind.Syn pair header 0 0

    recorded_stays : (o : OpenOffer) → StaysBut (recorded b o (room_of v.received)) (recorded b o (room_of v.received))
    recorded_stays o = record { state = refl; una = refl; syn_unacked = refl; past_iss = refl; snd_max = same b.sender.snd_max; next = refl; peer = refl }

    by_ack : (pair : FourTuple) → After (offer_ack Kind.Ack cx x pair)
    by_ack pair =
        let header = ack_segment b pair cx.instant (window_of x) in
        by_offer Kind.Ack pair header 0 0 (recorded_stays (mine Kind.Ack pair header 0 0)) (λ _. refl) (λ _. inl refl)

    by_update : (pair : FourTuple) → After (offer_ack Kind.WindowUpdate cx x pair)
    by_update pair =
        let header = ack_segment b pair cx.instant (window_of x) in
        by_offer Kind.WindowUpdate pair header 0 0 (recorded_stays (mine Kind.WindowUpdate pair header 0 0)) (λ _. refl) (λ _. inl refl)

    by_keep_alive : (pair : FourTuple) → keeps_alive b.state ≡ true → After (offer_keep_alive cx x pair)
    by_keep_alive pair lasts =
        let header = keep_alive_segment b pair cx.instant (window_of x) in
        let o = mine Kind.KeepAlive pair header 0 1 in
        by_offer Kind.KeepAlive pair header 0 1
        (asked_stays (recorded b o (room_of v.received)) (recorded b o (room_of v.received)) cx.instant (recorded_stays o))
        (λ early. clash (sym (alive_on b.state lasts) ∙ (ap is_synchronized s.state ∙ early)))
        (λ _.
        inr (inr (record {
          number = ap (λ (n : ℕ). (n + (2 ^ 32 - 1)) % 2 ^ 32) (sym same_una);
          one = refl;
          alive = sym (ap keeps_alive s.state) ∙ lasts;
        })))

    by_quiet : After (silent false x)
    by_quiet = record {
      early = λ e. sym (ap is_early s.state) ∙ e;
      dead = λ closed. clash (sym closed ∙ alive);
      bare = λ _. tt;
      further = λ _ _. record {
        una = ap (λ (n : SeqNumber). n.0) s.una;
        all = same_all v.tcb b (queued_in v) s.state s.syn_unacked;
        snd_max = subst (λ (n : ℕ). v.tcb.sender.snd_max ≤ n) (sym s.snd_max) (same v.tcb.sender.snd_max);
        ends = tt;
      };
      kept_early = λ e. sym (ap is_early s.state) ∙ e;
      kept_dead = λ closed. clash (sym closed ∙ alive);
      kept = λ _ _. counted b s;
    }

  first_of : (a b : Bool) → (a && b) ≡ true → a ≡ true
  first_of true b e = refl
  first_of false b e = e

  -- an instant that is due is set
  unset : (test : Bool) (at : Option ℤ) → is_due cx.instant (if test then at else None) ≡ true → test ≡ true
  unset true at e = refl
  unset false at e = clash (sym e)

  by_last : (pair : FourTuple) → is_closed v.tcb.state ≡ false → (b : Tcb) → IsSame v.tcb b → LastRules cx pair After (with_tcb (unoffered v) b)
  by_last pair alive b s = record {
    probe = λ due _.
        by_choice alive b s Kind.Probe pair probe_choice probe_stays probe_ends (λ o queue. refl)
        (first_of _ _ (unset (is_probing b (queued_in v)) b.timers.probe_at due));
    window_limited = λ due _.
        by_choice alive b s Kind.Payload pair (payload_choice b pair.addresses cx.ip_mtu v.queued) payload_stays payload_ends (λ o queue. refl)
        (first_of _ _ (unset (is_probing b (queued_in v)) b.timers.probe_at due));
    ack = λ _. by_ack alive b s pair;
    update = λ _ _. by_update alive b s pair;
    keep_alive = λ _ due.
        by_keep_alive alive b s pair
        (first_of _ _ (unset (keeps_alive b.state && (b.sender.flight_size == 0)) b.settings.keep_alive_at due));
    quiet = λ _. by_quiet alive b s;
  }

  by_first : (pair : FourTuple) → is_closed v.tcb.state ≡ false → (b : Tcb) → IsSame v.tcb b → FirstRules cx pair After (with_tcb (unoffered v) b)
  by_first pair alive b s = record {
    syn = λ _. by_syn alive b s pair;
    again = λ _ due.
        by_choice alive b s Kind.FastRetransmission pair (resend_choice b pair.addresses cx.ip_mtu v.queued) again_stays again_ends (λ o queue. refl)
        (first_of _ _ due);
    payload = λ _ due.
        by_choice alive b s Kind.Payload pair (payload_choice b pair.addresses cx.ip_mtu v.queued) payload_stays payload_ends (λ o queue. refl) (first_of _ _ due);
    last = λ _.
        by_last pair alive (probing cx (with_tcb (unoffered v) b)).tcb
        (record { state = s.state; una = s.una; syn_unacked = s.syn_unacked; snd_max = s.snd_max });
  }

  -- nothing is offered, and it is as it was, or CLOSED
  by_nothing : After (silent false (unoffered v))
  by_nothing = record {
    early = λ e. e;
    dead = λ e. e;
    bare = λ _. tt;
    further = λ _ _. record { una = refl; all = refl; snd_max = same v.tcb.sender.snd_max; ends = tt };
    kept_early = λ e. e;
    kept_dead = λ e. e;
    kept = λ _ _. (refl, refl);
  }

  by_closed : (b : Tcb) → b.state ≡ In.Closed → After (silent true (with_tcb (unoffered v) b))
  by_closed b closed = record {
    early = λ e. clash (sym e ∙ ap is_early closed);
    dead = λ _. ap is_closed closed;
    bare = λ _. tt;
    further = λ _ now. clash (sym now ∙ ap is_synchronized closed);
    kept_early = λ e. clash (sym e ∙ ap is_early closed);
    kept_dead = λ _. ap is_closed closed;
    kept = λ _ now. clash (sym now ∙ ap is_synchronized closed);
  }

  pub asked_after : After (offer_of cx v)
  asked_after =
      by_rules cx v After
      (record {
        nobody = λ _. by_nothing;
        time_wait = λ _. by_closed _ refl;
        timeout = λ _. by_closed _ refl;
        closed = λ _. by_nothing;
        reset = λ pair closed _. record {
          early = λ e. clash (sym e);
          dead = λ _. refl;
          bare = λ _. refl;
          further = λ _ now. clash (sym now);
          kept_early = λ e. e;
          kept_dead = λ e. e;
          kept = λ _ _. (refl, refl);
        };
        falls = λ alive _ falls. record {
          early = λ _. early_answering v.tcb.state (first_of _ _ falls);
          dead = λ closed. clash (sym closed ∙ alive);
          bare = λ _. tt;
          further = λ _ now. clash (sym now);
          kept_early = λ _. early_answering v.tcb.state (first_of _ _ falls);
          kept_dead = λ closed. clash (sym closed ∙ alive);
          kept = λ _ now. clash (sym now);
        };
        over = λ _ _ _. by_closed _ refl;
        backs = λ pair _ on _.
            by_first pair on.alive (backed_off_now (begun cx v)) (record { state = refl; una = refl; syn_unacked = refl; snd_max = refl });
        probes = λ pair _ on _ _.
            by_first pair on.alive (loss_probed (begun cx v)) (record { state = refl; una = refl; syn_unacked = refl; snd_max = refl });
        goes = λ pair _ on _. by_first pair on.alive (begun cx v) (record { state = refl; una = refl; syn_unacked = refl; snd_max = refl });
      })
