-- What an arrival and an offer make of the timestamps of a socket: the clock stays that of the first SYN, and TS.Recent is what came.
use Rattle.std.proofs.Common.{◌≡◌, ◌⊎◌, inl, inr, ℕ, ◌+◌, ◌==◌, ◌||◌, not, ℤ, Bool, true, false, if◌then◌else◌, List, length}
use Rattle.std.proofs.Common.{Option, Some, None, is_some, refl, subst}
use Rattle.std.proofs.lemmas.Bool.{cond_both}
use Rattle.ip_wire.specs.IpRepr.{IpRepr}
use Rattle.ip_wire.specs.Tcp.{header_len}
use Rattle.ip_wire.specs.TcpHeader.{TcpHeader}
use Rattle.ip_wire.specs.TcpTimestampGenerator.{TcpTimestampGenerator}
use Rattle.ip_wire.specs.TcpTimestampRepr.{TcpTimestampRepr}
use Rattle.ip_wire.specs.Timestamp.{value_at}
use Rattle.tcp_block.specs.declared.tcb.Stamps.{Stamps}
use Rattle.tcp_refinement.specs.Context.{ContextValue}
use Rattle.tcp_refinement.specs.Offers.{Offered}
use Rattle.tcp_invariants.specs.Controls.{or_recent}
use Rattle.tcp_invariants.specs.FourTuple.{FourTuple}
use Rattle.tcp_invariants.specs.Endpoints.{header_for}
use Rattle.tcp_invariants.specs.Moments.{is_over, timeout_from}
use Rattle.tcp_invariants.specs.OfferKind.{OfferKind}
use Rattle.tcp_invariants.specs.OfferKind.TheVariants as Kind
use Rattle.tcp_invariants.specs.OpenOffer.{OpenOffer}
use Rattle.tcp_invariants.specs.States.{is_closed}
use Rattle.tcp_invariants.proofs.ArrivalCases.{by_arrival, Received, Opening, Content, Drawing, acked_open, heeded, timed}
use Rattle.tcp_invariants.proofs.OfferCases.{FirstRules, by_rules, begun, probing}
use Rattle.tcp_block.specs.Acknowledged.{windowed}
use Rattle.tcp_block.specs.Arrival.{arrives, waiting_anew}
use Rattle.tcp_block.specs.declared.tcb.Tcb.{Tcb}
use Rattle.tcp_block.specs.LossRecovery.{loss_probed}
use Rattle.tcp_block.specs.Offers.{number_at, offer_of}
use Rattle.tcp_block.specs.Retries.{asked, heard, one_more}
use Rattle.tcp_block.specs.Rules.{backed_off_now, control_for, probe_choice}
use Rattle.tcp_block.specs.Segments.{hop_limit_of, keep_alive_segment, segment, tsval_by, tsval_of}
use Rattle.tcp_block.specs.Settled.{end_of, probed, recorded, settled}
use Rattle.tcp_block.specs.Timestamps.{generator_of, names_recent, tsval_taken, stamps_begun, value_by}
use Rattle.tcp_block.specs.Value.{TcpValue, Arrived, queued_in, room_of, unoffered, window_of, with_tcb}
use Rattle.tcp_liveness.proofs.Stampless.{tsval_in}

-- WHAT A SOCKET HAS OF TIMESTAMPS

-- the clock that is set, that of the first SYN, whether the remote has timestamps, and TS.Recent
pub record Stamping : Type 0 where
  pub set : Option TcpTimestampGenerator
  pub clock : Option TcpTimestampGenerator
  pub agreed : Bool
  pub recent : ℕ

abbrev pub stamping_of : Tcb → Stamping
stamping_of b = record {
  set = b.settings.timestamps;
  clock = b.stamps.generator;
  agreed = b.peer.timestamps;
  recent = b.peer.recent;
}

-- a clock shows this now
pub record Shows (clock : Option TcpTimestampGenerator) (now : ℤ) (tsval : ℕ) : Type 0 where
  pub generator : TcpTimestampGenerator
  pub of : clock ≡ Some generator
  pub shows : tsval ≡ value_at generator now

abbrev pub IsOwn : Option TcpTimestampGenerator → ℤ → Option TcpTimestampRepr → Type 0
IsOwn clock now None = Unit {0}
IsOwn clock now (Some tsval) = Shows clock now tsval.tsval

own_tsval :
    (t : Bool) (clock : Option TcpTimestampGenerator) (now : ℤ) (recent : ℕ) → IsOwn clock now (if t then tsval_by clock now recent else None)
own_tsval true None now recent = tt
own_tsval true (Some generator) now recent = record { generator = generator; of = refl; shows = refl }
own_tsval false clock now recent = tt

own_of : (b : Tcb) (now : ℤ) → IsOwn b.stamps.generator now (tsval_of b now)
own_of b now = own_tsval b.peer.timestamps b.stamps.generator now b.peer.recent

-- TS.Recent is the timestamp of the segment that came
pub record Names (tsval : Option TcpTimestampRepr) (recent : ℕ) : Type 0 where
  pub it : TcpTimestampRepr
  pub has : tsval ≡ Some it
  pub is : recent ≡ it.tsval

abbrev pub Recent : Option TcpTimestampRepr → Stamping → Stamping → Type 0
Recent came old new = (new.agreed ≡ false) ⊎ (((new.agreed ≡ old.agreed) × (new.recent ≡ old.recent)) ⊎ Names came new.recent)

-- what is set stays; the clock stays, ends, or is set where this may be; and TS.Recent stays or is what came
pub record Leaves (begins : Type 0) (came : Option TcpTimestampRepr) (old new : Stamping) : Type 0 where
  pub set : new.set ≡ old.set
  pub clock : (new.clock ≡ None) ⊎ ((new.clock ≡ old.clock) ⊎ ((new.clock ≡ old.set) × begins))
  pub recent : Recent came old new

pub still : (begins : Type 0) (came : Option TcpTimestampRepr) (x : Stamping) → Leaves begins came x x
still begins came x = record { set = refl; clock = inr (inl refl); recent = inr (inl (refl, refl)) }

-- nothing is left of a connection
pub anew : (begins : Type 0) (came : Option TcpTimestampRepr) (x : Stamping) → Leaves begins came x (record x { clock = None; agreed = false; recent = 0 })
anew begins came x = record { set = refl; clock = inl refl; recent = inl refl }

-- A SEGMENT COMES

taken_leaves : (b : Tcb) (header : TcpHeader) (now : ℤ) →
    Leaves ⊥ header.options.timestamp (stamping_of b) (stamping_of (tsval_taken b header now))
taken_leaves b header now = record {
  set = refl;
  clock = inr (inl refl);
  recent =
      cond_both (names_recent b header now) (or_recent header.options.timestamp b.peer.recent) b.peer.recent
      (λ (n : ℕ). Recent header.options.timestamp (stamping_of b) (record (stamping_of b) { recent = n }))
      (λ _. by header.options.timestamp) (λ _. inr (inl (refl, refl)));
}
  where
    by : (tsval : Option TcpTimestampRepr) → Recent tsval (stamping_of b) (record (stamping_of b) { recent = or_recent tsval b.peer.recent })
    by None = inr (inl (refl, refl))
    by (Some it) = inr (inr (record { it = it; has = refl; is = refl }))

syn_leaves : (x : Stamping) (tsval : Option TcpTimestampRepr) → Leaves ⊥ tsval x (record x { agreed = is_some tsval; recent = or_recent tsval 0 })
syn_leaves x tsval = record { set = refl; clock = inr (inl refl); recent = by tsval } where
  by : (tsval : Option TcpTimestampRepr) → Recent tsval x (record x { agreed = is_some tsval; recent = or_recent tsval 0 })
  by None = inl refl
  by (Some it) = inr (inr (record { it = it; has = refl; is = refl }))

module _ (cx : ContextValue) (ip : IpRepr) (header : TcpHeader) (bytes : List ℕ) (v : TcpValue) where
  abbrev Since : Tcb → Type 0
  Since b = Leaves ⊥ header.options.timestamp (stamping_of v.tcb) (stamping_of b)

  -- and what answers it has the time of the socket's clock
  abbrev Hears : Arrived → Type 0
  Hears a = Since a.socket.tcb × IsOwn v.tcb.stamps.generator cx.instant (tsval_in a.answer)

  same : Since v.tcb
  same = still ⊥ header.options.timestamp (stamping_of v.tcb)

  own : (x : TcpValue) → x.tcb.stamps.generator ≡ v.tcb.stamps.generator → IsOwn v.tcb.stamps.generator cx.instant (tsval_of x.tcb cx.instant)
  own x e = subst (λ (clock : Option TcpTimestampGenerator). IsOwn clock cx.instant (tsval_of x.tcb cx.instant)) e (own_of x.tcb cx.instant)

  hears_drawing : (x : TcpValue) → Since x.tcb → x.tcb.stamps.generator ≡ v.tcb.stamps.generator → Drawing cx ip header bytes Hears x
  hears_drawing x l e = record { answers = λ _. (l, own x e); at_once = (l, own x e); pauses = (l, tt) }

  hears_content : (x : TcpValue) → Since x.tcb → x.tcb.stamps.generator ≡ v.tcb.stamps.generator → Content cx ip header bytes Hears x
  hears_content x l e = record {
    plain = (λ _. (l, tt), (l, own x e));
    fin = λ _ _. (λ _. (l, tt), (l, own x e));
    ordered = λ _ _ _ _. (λ _. (l, tt), (l, own x e));
    ordered_fin = λ _ _ _ _. (λ _. (l, tt), (l, own x e));
    early = λ _ _ _ _. (l, own x e);
  }

  hears_received : Received cx ip header bytes Hears (unoffered v)
  hears_received = record {
    stays = (same, tt);
    refuses = (same, tt);
    draws = hears_drawing (unoffered v) same refl;
    falls = λ _ _ _. (anew ⊥ header.options.timestamp (stamping_of v.tcb), tt);
    ends = λ _ _ _. (same, tt);
    closes = λ _ _ _. (same, tt);
    taken = λ by _ _.
        hears_content (heeded cx.instant header (length bytes) (unoffered v) by (acked_open (timed cx.instant header (unoffered v) by) by cx.instant).tcb)
        (taken_leaves v.tcb header cx.instant) refl;
    taken_window = λ by _ _.
        hears_content
        (heeded cx.instant header (length bytes) (unoffered v) by
        (windowed (acked_open (timed cx.instant header (unoffered v) by) by cx.instant).tcb header))
        (taken_leaves v.tcb header cx.instant) refl;
    news = λ by _ _. hears_drawing (waiting_anew (acked_open (timed cx.instant header (unoffered v) by) by cx.instant) header cx.instant) same refl;
    outside = hears_drawing (waiting_anew (unoffered v) header cx.instant) same refl;
    old = λ _. hears_content (with_tcb (unoffered v) (tsval_taken (heard v.tcb) header cx.instant)) (taken_leaves v.tcb header cx.instant) refl;
  }

  hears_opening : Opening cx ip header bytes Hears (unoffered v)
  hears_opening = record {
    opens = λ _ _. (syn_leaves (stamping_of v.tcb) header.options.timestamp, tt);
    refuses = (same, tt);
    ends = λ _. (same, tt);
    connects = λ _ _. (syn_leaves (stamping_of v.tcb) header.options.timestamp, tt);
    crosses = λ _ _. (syn_leaves (stamping_of v.tcb) header.options.timestamp, tt);
  }

  pub arrival_hears : Hears (arrives cx v ip header bytes)
  arrival_hears = by_arrival cx ip header bytes Hears v (same, tt) (λ _. hears_opening) (λ _. hears_received)

-- A SOCKET IS ASKED

module _ (cx : ContextValue) (v : TcpValue) where
  abbrev pub IsAlive : Type 0
  IsAlive = is_closed v.tcb.state ≡ false

  -- what goes has the time of the clock, and the first SYN that of the clock that is set
  abbrev pub Goes : Stamping → Option TcpTimestampRepr → Type 0
  Goes s tsval = IsOwn s.clock cx.instant tsval ⊎ (IsOwn s.set cx.instant tsval × IsAlive)

  abbrev pub OfOffered : Option OpenOffer → Type 0
  OfOffered None = Unit {0}
  OfOffered (Some o) = Goes (stamping_of v.tcb) o.segment.options.timestamp

  abbrev After : Tcb → Type 0
  After b = Leaves IsAlive None (stamping_of v.tcb) (stamping_of b)

  -- once it is settled as sent, and as not sent
  abbrev Asks : Offered TcpValue → Type 0
  Asks o = After (settled true o.socket).tcb × After (settled false o.socket).tcb × OfOffered o.socket.offered

  quiet : After v.tcb
  quiet = still IsAlive None (stamping_of v.tcb)

  fell : Leaves IsAlive None (stamping_of v.tcb) (record (stamping_of v.tcb) { clock = None; agreed = false; recent = 0 })
  fell = anew IsAlive None (stamping_of v.tcb)

  abbrev opened_by : OfferKind → TcpValue → FourTuple → TcpHeader → ℕ → ℕ → OpenOffer
  opened_by kind x pair header offset len = record {
    kind = kind;
    instant = cx.instant;
    header = header_for pair.addresses (hop_limit_of x.tcb.settings.hop_limit) (header_len header + len);
    segment = header;
    offset = offset;
    len = len;
  }

  asked_after : (b : Tcb) → After b → After (asked b cx.instant)
  asked_after b l =
      cond_both (is_over cx.instant b.timers.counts_from)
      (record b {
        sender = record b.sender { unanswered = one_more b.sender.unanswered };
        timers = record b.timers { counts_from = Some (timeout_from cx.instant b.round_trip) };
      })
      b After (λ _. l) (λ _. l)

  -- a SYN goes
  syn_after : (b : Tcb) → stamping_of b ≡ stamping_of v.tcb → IsAlive →
      Leaves IsAlive None (stamping_of v.tcb) (record (stamping_of b) { clock = (stamps_begun b cx.instant).generator })
  syn_after b e alive =
      subst (λ (s : Stamping). Leaves IsAlive None s (record (stamping_of b) { clock = (stamps_begun b cx.instant).generator })) e
      (cond_both (b.sender.snd_max == 0)
      (record b.stamps { generator = b.settings.timestamps; first = value_by b.settings.timestamps cx.instant }) b.stamps
      (λ (s : Stamps). Leaves IsAlive None (stamping_of b) (record (stamping_of b) { clock = s.generator }))
      (λ _. record { set = refl; clock = inr (inr (refl, alive)); recent = inr (inl (refl, refl)) })
      (λ _. still IsAlive None (stamping_of b)))

  syn_goes : (b : Tcb) (t : Bool) → stamping_of b ≡ stamping_of v.tcb → IsAlive →
      Goes (stamping_of v.tcb) (if t then tsval_by (generator_of b) cx.instant b.peer.recent else None)
  syn_goes b t e alive =
      subst (λ (s : Stamping). Goes s (if t then tsval_by (generator_of b) cx.instant b.peer.recent else None)) e
      (cond_both (b.sender.snd_max == 0) b.settings.timestamps b.stamps.generator
      (λ (clock : Option TcpTimestampGenerator). Goes (stamping_of b) (if t then tsval_by clock cx.instant b.peer.recent else None))
      (λ _. inr (own_tsval t b.settings.timestamps cx.instant b.peer.recent, alive))
      (λ _. inl (own_tsval t b.stamps.generator cx.instant b.peer.recent)))

  asks_first : (pair : FourTuple) (b : Tcb) → stamping_of b ≡ stamping_of v.tcb → IsAlive → FirstRules cx pair Asks (with_tcb (unoffered v) b)
  asks_first pair b e alive = record {
    syn = λ _. (syn_after b e alive, left, syn_goes b (not b.receiver.took_syn || b.peer.timestamps) e alive);
    again = λ _ _. (left, left, goes);
    payload = λ _ _. (left, left, goes);
    last = λ _.
        record {
          probe = λ _ _.
              let o = opened_by Kind.Probe x pair
              (segment x.tcb pair cx.instant (window_of x) (control_for probe_choice (queued_in x)) (number_at x.tcb 0)) 0 1 in (
                asked_after (probed (recorded x.tcb o (room_of x.received)) (end_of (recorded x.tcb o (room_of x.received)) o) cx.instant) left,
                left,
                goes,
              );
          window_limited = λ _ _. (left, left, goes);
          ack = λ _. (left, left, goes);
          update = λ _ _. (left, left, goes);
          keep_alive = λ _ _.
              let o = opened_by Kind.KeepAlive x pair (keep_alive_segment x.tcb pair cx.instant (window_of x)) 0 1 in
              (asked_after (recorded x.tcb o (room_of x.received)) left, left, goes);
          quiet = λ _. (left, left, tt);
        };
  }
    where
      x : TcpValue
      x = probing cx (with_tcb (unoffered v) b)

      left : After b
      left = subst (λ (s : Stamping). Leaves IsAlive None s (stamping_of b)) e (still IsAlive None (stamping_of b))

      goes : Goes (stamping_of v.tcb) (tsval_of b cx.instant)
      goes = subst (λ (s : Stamping). Goes s (tsval_of b cx.instant)) e (inl (own_of b cx.instant))

  pub offer_asks : Asks (offer_of cx v)
  offer_asks =
      by_rules cx v Asks
      (record {
        nobody = λ _. (quiet, quiet, tt);
        time_wait = λ _. (quiet, quiet, tt);
        timeout = λ _. (quiet, quiet, tt);
        closed = λ _. (quiet, quiet, tt);
        reset = λ _ _ _. (quiet, quiet, inl (own_of v.tcb cx.instant));
        falls = λ _ _ _. (fell, fell, tt);
        over = λ _ _ _. (quiet, quiet, tt);
        backs = λ pair _ on _. asks_first pair (backed_off_now (begun cx v)) refl on.alive;
        probes = λ pair _ on _ _. asks_first pair (loss_probed (begun cx v)) refl on.alive;
        goes = λ pair _ on _. asks_first pair (begun cx v) refl on.alive;
      })

-- of the offer that is there
pub goes_of :
    (cx : ContextValue) (v : TcpValue) (offered : Option OpenOffer) (o : OpenOffer) → offered ≡ Some o → OfOffered cx v offered
    → Goes cx v (stamping_of v.tcb) o.segment.options.timestamp
goes_of cx v offered o e goes = subst (OfOffered cx v) e goes
