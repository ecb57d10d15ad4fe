-- A SYN that is to go is offered, with the acknowledgement of the other's SYN if that came.
use Rattle.std.proofs.Common.{◌≡◌, inl, inr, ℕ, ◌+◌, ◌-◌, ◌%◌, ◌^◌, ◌<◌, ◌≤◌, ◌==◌, ◌&&◌, ◌||◌, max, not, ℤ, Bool, true, false, if◌then◌else◌, List, [], Option, Some, None}
use Rattle.std.proofs.Common.{is_some, refl, sym, ap, ◌∙◌, arith}
use Rattle.std.proofs.lemmas.Bool.{eq-eqb, ne_eqb}
use Rattle.ip_wire.specs.Seq.{distance_of}
use Rattle.ip_wire.specs.SeqNumber.{SeqNumber}
use Rattle.ip_wire.specs.Tcp.{header_len}
use Rattle.ip_wire.specs.TcpControl.TheVariants as Control
use Rattle.ip_wire.specs.TcpHeader.{TcpHeader}
use Rattle.ip_wire.specs.TcpTimestampGenerator.{TcpTimestampGenerator}
use Rattle.tcp_block.specs.AddressPair.{AddressPair}
use Rattle.tcp_block.specs.AddressPair.TheVariants as Pair
use Rattle.tcp_refinement.specs.Context.{ContextValue}
use Rattle.tcp_refinement.specs.Offers.{Offered}
use Rattle.tcp_invariants.specs.Controls.{is_zero}
use Rattle.tcp_invariants.specs.FourTuple.{FourTuple}
use Rattle.tcp_invariants.specs.Endpoints.{header_for, ip_header_len}
use Rattle.tcp_invariants.specs.Ends.{Proceeds}
use Rattle.tcp_invariants.specs.Moments.{is_due}
use Rattle.tcp_invariants.specs.OfferKind.TheVariants as Kind
use Rattle.tcp_invariants.specs.OpenOffer.{OpenOffer}
use Rattle.tcp_invariants.specs.State.{State}
use Rattle.tcp_invariants.specs.States.{is_answering, sends_syn}
use Rattle.tcp_block.specs.declared.tcb.Tcb.{Tcb}
use Rattle.tcp_block.specs.LossRecovery.{loss_probed}
use Rattle.tcp_block.specs.Offers.{offer_of, offer_syn, payload_of}
use Rattle.tcp_block.specs.Rules.{owes_syn, backed_off_now}
use Rattle.tcp_block.specs.Segments.{hop_limit_of, mss_for, next_if_heard, tsval_by, syn_segment}
use Rattle.tcp_block.specs.Settled.{recorded, settled}
use Rattle.tcp_block.specs.Timestamps.{generator_of, stamps_begun, value_by}
use Rattle.tcp_block.specs.Value.{TcpValue, with_tcb, unoffered, free_in, room_of}
use Rattle.tcp_invariants.proofs.OfferCases.{FirstRules, by_rules, begun}
use Rattle.tcp_invariants.proofs.OrderSteps.{clash}
use Rattle.tcp_liveness.specs.StartsOver.{StartsOver}
use Rattle.tcp_liveness.specs.Clocks.{has_stamps}

-- the SYN of a socket, and the socket once it has gone
pub record SynGoes (v : TcpValue) (o : Offered TcpValue) : Type 0 where
  pub k : OpenOffer
  pub offered : o.socket.offered ≡ Some k
  pub control : k.segment.control ≡ Control.Syn
  pub number : k.segment.seq_number ≡ v.tcb.sender.una
  pub acknowledges : k.segment.ack_number ≡ next_if_heard v.tcb
  pub named : is_zero k.segment.options.max_seg_size ≡ false
  pub bare : (queue : List ℕ) → payload_of k k.kind queue ≡ []
  pub state : (settled true o.socket).tcb.state ≡ v.tcb.state
  pub names : (settled true o.socket).tcb.names ≡ v.tcb.names
  pub una : (settled true o.socket).tcb.sender.una ≡ v.tcb.sender.una
  pub syn_unacked : (settled true o.socket).tcb.sender.syn_unacked ≡ v.tcb.sender.syn_unacked
  pub next : (settled true o.socket).tcb.receiver.next ≡ v.tcb.receiver.next
  pub took_syn : (settled true o.socket).tcb.receiver.took_syn ≡ v.tcb.receiver.took_syn
  pub timeout : (settled true o.socket).tcb.settings.timeout ≡ v.tcb.settings.timeout
  pub retries : (settled true o.socket).tcb.settings.retries ≡ v.tcb.settings.retries
  pub queued : (settled true o.socket).queued ≡ v.queued
  pub received : (settled true o.socket).received ≡ v.received
  pub paused : (settled true o.socket).tcb.settings.synack_paused ≡ v.tcb.settings.synack_paused
  pub opening : (settled true o.socket).tcb.settings.opening_retries ≡ v.tcb.settings.opening_retries
  pub undrawn : (settled true o.socket).tcb.timers.challenges_from ≡ v.tcb.timers.challenges_from
  pub agreed : (settled true o.socket).tcb.peer.timestamps ≡ v.tcb.peer.timestamps
  -- SND.UNA is a number of 32 bits, and the SYN is the first that is sent from there
  pub snd_max : v.tcb.sender.una.0 < 2 ^ 32 → v.tcb.sender.snd_max ≤ 1 → (settled true o.socket).tcb.sender.snd_max ≡ 1
  -- the first SYN begins the timestamps that are set
  pub generator : (settled true o.socket).tcb.stamps.generator ≡ generator_of v.tcb
  -- where none are begun, or the other's SYN has none, it has none
  pub tsval : generator_of v.tcb ≡ None → k.segment.options.timestamp ≡ None
  pub unagreed : v.tcb.receiver.took_syn ≡ true → has_stamps v.tcb ≡ false → k.segment.options.timestamp ≡ None

-- what the rules for a SYN read of a block
record Alike (old b : Tcb) : Type 0 where
  state : b.state ≡ old.state
  names : b.names ≡ old.names
  una : b.sender.una ≡ old.sender.una
  syn_unacked : b.sender.syn_unacked ≡ old.sender.syn_unacked
  snd_max : b.sender.snd_max ≡ old.sender.snd_max
  next : b.receiver.next ≡ old.receiver.next
  took_syn : b.receiver.took_syn ≡ old.receiver.took_syn
  paused : b.settings.synack_paused ≡ old.settings.synack_paused
  opening : b.settings.opening_retries ≡ old.settings.opening_retries
  undrawn : b.timers.challenges_from ≡ old.timers.challenges_from
  agreed : b.peer.timestamps ≡ old.peer.timestamps
  stamps : b.settings.timestamps ≡ old.settings.timestamps
  generator : b.stamps.generator ≡ old.stamps.generator
  timeout : b.settings.timeout ≡ old.settings.timeout
  retries : b.settings.retries ≡ old.settings.retries
  none : b.sender.flight_size ≡ 0

all_three : (a b c : Bool) → a ≡ true → b ≡ true → c ≡ true → (a && (b && c)) ≡ true
all_three a b c e f g = ap (λ (t : Bool). t && (b && c)) e ∙ (ap (λ (t : Bool). t && c) f ∙ g)

-- such a packet has room for payload, whatever its addresses
some_payload : (mtu : ℕ) (addresses : AddressPair) → 60 < mtu → (mss_for mtu (ip_header_len addresses) == 0) ≡ false
some_payload mtu addresses e = ne_eqb (mss_for mtu (ip_header_len addresses)) 0 (by addresses) where
  by : (addresses : AddressPair) → mss_for mtu (ip_header_len addresses) ≡ 0 → ⊥
  by (Pair.Ipv4 local remote) f = absurd (omega (arith, e, f))
  by (Pair.Ipv6 local remote) f = absurd (omega (arith, e, f))

-- the first SYN begins the timestamps that are set
begun_stamps : (b : Tcb) (now : ℤ) → (stamps_begun b now).generator ≡ generator_of b
begun_stamps b now =
    by
    (b.sender.snd_max == 0)
  where
    by : (t : Bool) →
        (if t then record b.stamps { generator = b.settings.timestamps; first = value_by b.settings.timestamps now } else b.stamps).generator
        ≡ (if t then b.settings.timestamps else b.stamps.generator)
    by true = refl
    by false = refl

-- where the SYN goes to, of a side that sent at most that
first_snd_max : (una snd_max : ℕ) → una < 2 ^ 32 → snd_max ≤ 1 → max snd_max ((una + (2 ^ 32 - una)) % 2 ^ 32 + (0 + 1)) ≡ 1
first_snd_max una snd_max e f = omega arith

-- the answer to a SYN has timestamps if that has, and its own are set
no_tsval :
    (took agreed : Bool) (generator : Option TcpTimestampGenerator) (now : ℤ) (recent : ℕ) → took ≡ true → (agreed && is_some generator) ≡ false
    → (if not took || agreed then tsval_by generator now recent else None) ≡ None
no_tsval true true None now recent e f = refl
no_tsval true true (Some generator) now recent e f = clash f
no_tsval true false generator now recent e f = refl
no_tsval false agreed generator now recent e f = clash (sym e)

bare_tsval :
    (t : Bool) (generator : Option TcpTimestampGenerator) (now : ℤ) (recent : ℕ) → generator ≡ None → (if t then tsval_by generator now recent else None) ≡ None
bare_tsval t generator now recent e = ap (λ (g : Option TcpTimestampGenerator). if t then tsval_by g now recent else None) e ∙ by t where
  by : (t : Bool) → (if t then tsval_by None now recent else None) ≡ None
  by true = refl
  by false = refl

module _ (cx : ContextValue) (v : TcpValue) (mtu : 60 < cx.ip_mtu) (on : Proceeds cx v)
    (sends : (sends_syn v.tcb.state && not (is_answering v.tcb.state && v.tcb.settings.synack_paused)) ≡ true)
    (syn : v.tcb.sender.syn_unacked ≡ true) (over : StartsOver cx v) where
  no_pair : (pair : FourTuple) → None ≡ Some pair → ⊥
  no_pair pair e = absurd (cc)

  owes : (b : Tcb) → Alike v.tcb b → owes_syn b ≡ true
  owes b same =
      all_three (sends_syn b.state && not (is_answering b.state && b.settings.synack_paused)) b.sender.syn_unacked (b.sender.flight_size == 0)
      (ap (λ (state : State). sends_syn state && not (is_answering state && b.settings.synack_paused)) same.state
      ∙ (ap (λ (paused : Bool). sends_syn v.tcb.state && not (is_answering v.tcb.state && paused)) same.paused ∙ sends))
      (same.syn_unacked ∙ syn) (eq-eqb b.sender.flight_size 0 same.none)

  same_generator : (b : Tcb) → Alike v.tcb b → generator_of b ≡ generator_of v.tcb
  same_generator b same =
      ap (λ (n : ℕ). if n == 0 then b.settings.timestamps else b.stamps.generator) same.snd_max
      ∙ (ap (λ (g : Option TcpTimestampGenerator). if v.tcb.sender.snd_max == 0 then g else b.stamps.generator) same.stamps
      ∙ ap (λ (g : Option TcpTimestampGenerator). if v.tcb.sender.snd_max == 0 then v.tcb.settings.timestamps else g) same.generator)

  abbrev mine : FourTuple → Tcb → TcpHeader
  mine pair b = syn_segment b pair cx.instant cx.ip_mtu (room_of v.received) (free_in v)

  abbrev opened_by : FourTuple → Tcb → OpenOffer
  opened_by pair b = record {
    kind = Kind.Syn;
    instant = cx.instant;
    header = header_for pair.addresses (hop_limit_of b.settings.hop_limit) (header_len (mine pair b) + 0);
    segment = mine pair b;
    offset = 0;
    len = 0;
  }

  goes : (pair : FourTuple) (b : Tcb) → Alike v.tcb b → SynGoes v (offer_syn cx (with_tcb (unoffered v) b) pair)
  goes pair b same = record {
    k = opened_by pair b;
    offered = refl;
    control = refl;
    number = same.una;
    acknowledges =
        ap (λ (took : Bool). if took then Some b.receiver.next else None) same.took_syn
        ∙ ap (λ (next : SeqNumber). if v.tcb.receiver.took_syn then Some next else None) same.next;
    named = some_payload cx.ip_mtu pair.addresses mtu;
    bare = λ queue. refl;
    state = same.state;
    names = same.names;
    una = same.una;
    syn_unacked = same.syn_unacked;
    next = same.next;
    took_syn = same.took_syn;
    timeout = same.timeout;
    retries = same.retries;
    queued = refl;
    received = refl;
    paused = same.paused;
    opening = same.opening;
    undrawn = same.undrawn;
    agreed = same.agreed;
    snd_max = λ small few.
        ap (λ (n : ℕ). max n (distance_of b.sender.una b.sender.una + (0 + 1))) same.snd_max
        ∙ (ap (λ (n : SeqNumber). max v.tcb.sender.snd_max (distance_of n n + (0 + 1))) same.una
        ∙ first_snd_max v.tcb.sender.una.0 v.tcb.sender.snd_max small few);
    generator = begun_stamps (recorded b (opened_by pair b) (room_of v.received)) cx.instant ∙ same_generator b same;
    unagreed = λ took none.
        no_tsval b.receiver.took_syn b.peer.timestamps (generator_of b) cx.instant b.peer.recent (same.took_syn ∙ took)
        (ap (λ (t : Bool). t && is_some (generator_of b)) same.agreed
        ∙ (ap (λ (g : Option TcpTimestampGenerator). v.tcb.peer.timestamps && is_some g) (same_generator b same) ∙ none));
    tsval = λ none. bare_tsval (not b.receiver.took_syn || b.peer.timestamps) (generator_of b) cx.instant b.peer.recent (same_generator b same ∙ none);
  }

  first : (pair : FourTuple) (b : Tcb) → Alike v.tcb b → FirstRules cx pair (SynGoes v) (with_tcb (unoffered v) b)
  first pair b same = record {
    syn = λ _. goes pair b same;
    again = λ not _. clash (sym (owes b same) ∙ not);
    payload = λ not _. clash (sym (owes b same) ∙ not);
    last = λ not. clash (sym (owes b same) ∙ not);
  }

  not_due : is_due cx.instant v.tcb.timers.retransmit_at ≡ false → v.tcb.sender.flight_size ≡ 0
  not_due not = by over where
    by : StartsOver cx v → v.tcb.sender.flight_size ≡ 0
    by (inl none) = none
    by (inr due) = clash (sym due ∙ not)

  pub syn_goes : (pair : FourTuple) → v.tcb.names.pair ≡ Some pair → SynGoes v (offer_of cx v)
  syn_goes own named =
      by_rules cx v (SynGoes v)
      (record {
        nobody = λ none. absurd (no_pair own (sym none ∙ named));
        time_wait = λ due. clash (sym due ∙ on.lasts);
        timeout = λ due. clash (sym due ∙ on.in_time);
        closed = λ closed. clash (sym closed ∙ on.alive);
        reset = λ pair closed _. clash (sym closed ∙ on.alive);
        falls = λ _ over _. clash (sym over ∙ on.tries);
        over = λ _ over _. clash (sym over ∙ on.tries);
        backs = λ pair _ _ _.
            first pair (backed_off_now (begun cx v))
            (record {
              state = refl;
              names = refl;
              una = refl;
              syn_unacked = refl;
              snd_max = refl;
              next = refl;
              took_syn = refl;
              paused = refl;
              opening = refl;
              undrawn = refl;
              agreed = refl;
              stamps = refl;
              generator = refl;
              timeout = refl;
              retries = refl;
              none = refl;
            });
        probes = λ pair _ _ not _.
            first pair (loss_probed (begun cx v))
            (record {
              state = refl;
              names = refl;
              una = refl;
              syn_unacked = refl;
              snd_max = refl;
              next = refl;
              took_syn = refl;
              paused = refl;
              opening = refl;
              undrawn = refl;
              agreed = refl;
              stamps = refl;
              generator = refl;
              timeout = refl;
              retries = refl;
              none = not_due not;
            });
        goes = λ pair _ _ not.
            first pair (begun cx v)
            (record {
              state = refl;
              names = refl;
              una = refl;
              syn_unacked = refl;
              snd_max = refl;
              next = refl;
              took_syn = refl;
              paused = refl;
              opening = refl;
              undrawn = refl;
              agreed = refl;
              stamps = refl;
              generator = refl;
              timeout = refl;
              retries = refl;
              none = not_due not;
            });
      })
