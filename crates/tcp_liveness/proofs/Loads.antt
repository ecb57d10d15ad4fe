-- What an offer leaves of a socket: what was set, what was agreed on, and how much is unanswered.
use Rattle.std.proofs.Common.{◌≡◌, ℕ, ◌+◌, ◌≤◌, min, Bool, true, false}
use Rattle.std.proofs.Common.{Option, Some, refl, sym, ◌∙◌, arith}
use Rattle.std.proofs.lemmas.Bool.{cond_both}
use Rattle.ip_wire.specs.Tcp.{header_len}
use Rattle.ip_wire.specs.TcpHeader.{TcpHeader}
use Rattle.tcp_refinement.specs.Context.{ContextValue}
use Rattle.tcp_refinement.specs.Offers.{Offered}
use Rattle.tcp_invariants.specs.FourTuple.{FourTuple}
use Rattle.tcp_invariants.specs.Endpoints.{header_for}
use Rattle.tcp_invariants.specs.Moments.{is_over, timeout_from}
use Rattle.tcp_invariants.specs.OfferKind.{OfferKind}
use Rattle.tcp_invariants.specs.OfferKind.TheVariants as Kind
use Rattle.tcp_invariants.specs.OpenOffer.{OpenOffer}
use Rattle.tcp_invariants.proofs.OfferCases.{FirstRules, by_rules, begun, probing}
use Rattle.tcp_invariants.proofs.OrderSteps.{clash}
use Rattle.tcp_block.specs.declared.tcb.Tcb.{Tcb}
use Rattle.tcp_block.specs.LossRecovery.{loss_probed}
use Rattle.tcp_block.specs.Offers.{number_at, offer_of}
use Rattle.tcp_block.specs.Retries.{asked, gives_up, one_more}
use Rattle.tcp_block.specs.Rules.{backed_off_now, control_for, probe_choice}
use Rattle.tcp_block.specs.Segments.{hop_limit_of, keep_alive_segment, segment}
use Rattle.tcp_block.specs.Settled.{end_of, probed, recorded, settled}
use Rattle.tcp_block.specs.Value.{TcpValue, queued_in, room_of, unoffered, window_of, with_tcb}

-- what was set, what was agreed on, and how much is unanswered
pub record Load : Type 0 where
  pub room : ℕ
  pub timeout : Option ℕ
  pub limit : Option ℕ
  pub stamps : Bool
  pub timeouts : ℕ
  pub questions : ℕ

abbrev pub load_of : TcpValue → Load
load_of v = record {
  room = room_of v.received;
  timeout = v.tcb.settings.timeout;
  limit = v.tcb.settings.retries;
  stamps = v.tcb.peer.timestamps;
  timeouts = v.tcb.sender.timeouts;
  questions = v.tcb.sender.unanswered;
}

-- what was set stays, and there is at most a timeout more, and a question
pub record IsAsSet (old new : Load) : Type 0 where
  pub room : new.room ≡ old.room
  pub timeout : new.timeout ≡ old.timeout
  pub limit : new.limit ≡ old.limit
  pub stamps : new.stamps ≡ old.stamps
  pub timeouts : new.timeouts ≤ old.timeouts + 1
  pub questions : new.questions ≤ old.questions + 1

capped : (n : ℕ) → min (n + 1) 255 ≤ n + 1
capped n = omega arith

one_above : (n : ℕ) → n ≤ n + 1
one_above n = omega arith

upto : (a b c : ℕ) → a ≤ b → b ≤ c → a ≤ c
upto a b c e f = omega arith

still : (x : Load) → IsAsSet x x
still x = record { room = refl; timeout = refl; limit = refl; stamps = refl; timeouts = one_above x.timeouts; questions = one_above x.questions }

-- a timeout more, and a question
timed : (x : Load) → IsAsSet x (record x { timeouts = min (x.timeouts + 1) 255 })
timed x = record { room = refl; timeout = refl; limit = refl; stamps = refl; timeouts = capped x.timeouts; questions = one_above x.questions }

asking : (x y : Load) → y.questions ≡ x.questions → IsAsSet x y → IsAsSet x (record y { questions = min (y.questions + 1) 255 })
asking x y same g = record {
  room = g.room;
  timeout = g.timeout;
  limit = g.limit;
  stamps = g.stamps;
  timeouts = g.timeouts;
  questions = by y.questions x.questions same;
}
  where
    by : (n m : ℕ) → n ≡ m → min (n + 1) 255 ≤ m + 1
    by n m e = omega arith

module _ (cx : ContextValue) (v : TcpValue) (tries : gives_up cx.instant v.tcb (queued_in v) ≡ false) where
  abbrev pub Set : Offered TcpValue → Type 0
  Set o = IsAsSet (load_of v) (load_of (settled true o.socket))

  asked_set :
      (x : TcpValue) (b : Tcb) → b.sender.unanswered ≡ v.tcb.sender.unanswered → IsAsSet (load_of v) (load_of (with_tcb x b))
      → IsAsSet (load_of v) (load_of (with_tcb x (asked b cx.instant)))
  asked_set x b same g =
      cond_both (is_over cx.instant b.timers.counts_from)
      (record b {
        sender = record b.sender { unanswered = one_more b.sender.unanswered };
        timers = record b.timers { counts_from = Some (timeout_from cx.instant b.round_trip) };
      })
      b (λ (b : Tcb). IsAsSet (load_of v) (load_of (with_tcb x b))) (λ _. asking (load_of v) (load_of (with_tcb x b)) same g) (λ _. g)

  abbrev opened_by : OfferKind → TcpValue → FourTuple → TcpHeader → ℕ → ℕ → OpenOffer
  opened_by kind x pair header offset len = record {
    kind = kind;
    instant = cx.instant;
    header = header_for pair.addresses (hop_limit_of x.tcb.settings.hop_limit) (header_len header + len);
    segment = header;
    offset = offset;
    len = len;
  }

  set_first :
      (pair : FourTuple) (b : Tcb) → b.sender.unanswered ≡ v.tcb.sender.unanswered → IsAsSet (load_of v) (load_of (with_tcb (unoffered v) b))
      → FirstRules cx pair Set (with_tcb (unoffered v) b)
  set_first pair b same g = record {
    syn = λ _. g;
    again = λ _ _. g;
    payload = λ _ _. g;
    last = λ _.
        record {
          probe = λ _ _.
              let o = opened_by Kind.Probe x pair
              (segment x.tcb pair cx.instant (window_of x) (control_for probe_choice (queued_in x)) (number_at x.tcb 0)) 0 1 in
              asked_set x (probed (recorded x.tcb o (room_of x.received)) (end_of (recorded x.tcb o (room_of x.received)) o) cx.instant) same g;
          window_limited = λ _ _. g;
          ack = λ _. g;
          update = λ _ _. g;
          keep_alive = λ _ _.
              let o = opened_by Kind.KeepAlive x pair (keep_alive_segment x.tcb pair cx.instant (window_of x)) 0 1 in
              asked_set x (recorded x.tcb o (room_of x.received)) same g;
          quiet = λ _. g;
        };
  }
    where
      x : TcpValue
      x = probing cx (with_tcb (unoffered v) b)

  pub offered_set : IsAsSet (load_of v) (load_of (settled true (offer_of cx v).socket))
  offered_set =
      by_rules cx v Set
      (record {
        nobody = λ _. still (load_of v);
        time_wait = λ _. still (load_of v);
        timeout = λ _. still (load_of v);
        closed = λ _. still (load_of v);
        reset = λ _ _ _. still (load_of v);
        falls = λ _ over _. clash (sym over ∙ tries);
        over = λ _ over _. clash (sym over ∙ tries);
        backs = λ pair _ _ _. set_first pair (backed_off_now (begun cx v)) refl (timed (load_of v));
        probes = λ pair _ _ _ _. set_first pair (loss_probed (begun cx v)) refl (still (load_of v));
        goes = λ pair _ _ _. set_first pair (begun cx v) refl (still (load_of v));
      })
