-- A connection that nobody answers ends.
use Rattle.std.proofs.Common.{◌≡◌, ◌⊎◌, inl, inr, ⊎_elim, ℕ, ◌+◌, ◌≤◌, ◌<◌, nat_le, min, ◌&&◌, ◌||◌, ℤ, Bool, true, false, if◌then◌else◌, List, [], ◌∷◌, Option}
use Rattle.std.proofs.Common.{Some, None, refl, sym, ap, ◌∙◌, subst, arith}
use Rattle.std.proofs.lemmas.Bool.{cond_both, leb-false, le-leb}
use Rattle.tcp_block.specs.Context.{ContextValue}
use Rattle.tcp_block.specs.BaseOffers.{Offered}
use Rattle.tcp_state.specs.Moments.{is_due, is_over as is_past_pause, timeout_from}
use Rattle.tcp_state.specs.States.{is_closed, is_listening, is_opening, is_answering}
use Rattle.tcp_state.specs.declared.endpoints.FourTuple.{FourTuple}
use Rattle.tcp_state.specs.declared.offer.OfferKind.{OfferKind}
use Rattle.tcp_state.specs.declared.offer.OfferKind.TheVariants as Kind
use Rattle.tcp_state.specs.declared.offer.OpenOffer.{OpenOffer}
use Rattle.tcp_state.specs.declared.state.State.{State}
use Rattle.tcp_block.specs.TcbRules.{one_if}
use Rattle.tcp_block.specs.Offers.{offer_of}
use Rattle.tcp_block.specs.Probing.{probe_deadline}
use Rattle.tcp_block.specs.LossRecovery.{loss_probed}
use Rattle.tcp_block.specs.Retries.{asked, one_more, reaches, retries_of, is_last_timeout, is_last_probe, gives_up}
use Rattle.tcp_block.specs.Rules.{keep_alive_deadline, backed_off_now}
use Rattle.tcp_block.specs.Settled.{settled, sent_off, sent_as, recorded, probed, end_of}
use Rattle.tcp_block.specs.Value.{TcpValue, with_tcb, unoffered, queued_in, room_of}
use Rattle.tcp_block.specs.declared.tcb.Tcb.{Tcb}
use Rattle.tcp_block.specs.declared.tcb.Names.{Names}
use Rattle.tcp_invariants.specs.Ends.{Proceeds, is_over}
use Rattle.tcp_invariants.specs.GivingUp.{Poll, after_poll, polled, timeouts_in}
use Rattle.tcp_invariants.proofs.OfferCases.{Rules, FirstRules, LastRules, by_rules, begun, probing}

-- the connection goes on as it was, with so many timeouts
record ProceedsBy (old new : Tcb) (many : ℕ) : Type 0 where
  state : new.state ≡ old.state
  names : new.names ≡ old.names
  opening : new.settings.opening_retries ≡ old.settings.opening_retries
  retries : new.settings.retries ≡ old.settings.retries
  timeouts : new.sender.timeouts ≡ many

asked_goes : (old b : Tcb) (n : ℕ) (now : ℤ) → ProceedsBy old b n → ProceedsBy old (asked b now) n
asked_goes old b n now goes =
    cond_both (is_past_pause now b.timers.counts_from)
    (record b {
      sender = record b.sender { unanswered = one_more b.sender.unanswered };
      timers = record b.timers { counts_from = Some (timeout_from now b.round_trip) };
    })
    b (λ (c : Tcb). ProceedsBy old c n)
    (λ _. record { state = goes.state; names = goes.names; opening = goes.opening; retries = goes.retries; timeouts = goes.timeouts })
    (λ _. goes)

abbrev Ends : Tcb → ℕ → Tcb → Type 0
Ends old n new = (is_over new.state ≡ true) ⊎ ProceedsBy old new n

sent_goes : (kind : OfferKind) (old b : Tcb) (n : ℕ) (o : OpenOffer) (queued : ℕ) → ProceedsBy old b n → Ends old n (sent_as kind b o queued)
sent_goes Kind.Reset old b n o queued goes = inl refl
sent_goes Kind.Probe old b n o queued goes =
    inr (asked_goes old (probed b (end_of b o) o.instant) n o.instant
    (record { state = goes.state; names = goes.names; opening = goes.opening; retries = goes.retries; timeouts = goes.timeouts }))
sent_goes Kind.KeepAlive old b n o queued goes = inr (asked_goes old b n o.instant goes)
sent_goes other old b n o queued goes =
    inr (record { state = goes.state; names = goes.names; opening = goes.opening; retries = goes.retries; timeouts = goes.timeouts })

asked_over : (b : Tcb) (now : ℤ) → is_over b.state ≡ true → is_over (asked b now).state ≡ true
asked_over b now over =
    cond_both (is_past_pause now b.timers.counts_from)
    (record b {
      sender = record b.sender { unanswered = one_more b.sender.unanswered };
      timers = record b.timers { counts_from = Some (timeout_from now b.round_trip) };
    })
    b (λ (c : Tcb). is_over c.state ≡ true) (λ _. over) (λ _. over)

sent_over : (kind : OfferKind) (b : Tcb) (o : OpenOffer) (queued : ℕ) → is_over b.state ≡ true → is_over (sent_as kind b o queued).state ≡ true
sent_over Kind.Reset b o queued over = refl
sent_over Kind.Probe b o queued over = asked_over (probed b (end_of b o) o.instant) o.instant over
sent_over Kind.KeepAlive b o queued over = asked_over b o.instant over
sent_over other b o queued over = over

-- settling it as sent leaves what is over, and ends nothing but by a reset
settled_over : (offered : Option OpenOffer) (x : TcpValue) → is_over x.tcb.state ≡ true → is_over (sent_off offered x).tcb.state ≡ true
settled_over None x over = over
settled_over (Some o) x over = sent_over o.kind (recorded x.tcb o (room_of x.received)) o (queued_in x) over

settled_goes : (old : Tcb) (n : ℕ) (offered : Option OpenOffer) (x : TcpValue) → ProceedsBy old x.tcb n → Ends old n (sent_off offered x).tcb
settled_goes old n None x goes = inr goes
settled_goes old n (Some o) x goes =
    sent_goes o.kind old (recorded x.tcb o (room_of x.received)) n o (queued_in x)
    (record { state = goes.state; names = goes.names; opening = goes.opening; retries = goes.retries; timeouts = goes.timeouts })

module _ (cx : ContextValue) (v : TcpValue) where
  -- the count of timeouts after this poll
  abbrev count : ℕ
  count = if is_due cx.instant v.tcb.timers.retransmit_at then min (v.tcb.sender.timeouts + 1) 255 else v.tcb.sender.timeouts

  -- what the poll leads to; where the timer has run out and it goes on, it wasn't for the last time
  abbrev Steps : Offered TcpValue → Type 0
  Steps o =
      (is_over o.socket.tcb.state ≡ true)
      ⊎ (ProceedsBy v.tcb o.socket.tcb count
      × (is_due cx.instant v.tcb.timers.retransmit_at ≡ true → reaches (retries_of v.tcb) (v.tcb.sender.timeouts + 1) ≡ false))

  abbrev Tries : Type 0
  Tries = is_due cx.instant v.tcb.timers.retransmit_at ≡ true → reaches (retries_of v.tcb) (v.tcb.sender.timeouts + 1) ≡ false

  steps_last : (pair : FourTuple) (x : TcpValue) → ProceedsBy v.tcb x.tcb count → Tries → LastRules cx pair Steps x
  steps_last pair x goes tries = record {
    probe = λ _ _. inr (goes, tries);
    window_limited = λ _ _. inr (goes, tries);
    ack = λ _. inr (goes, tries);
    update = λ _ _. inr (goes, tries);
    keep_alive = λ _ _. inr (goes, tries);
    quiet = λ _. inr (goes, tries);
  }

  steps_first : (pair : FourTuple) (w : TcpValue) → ProceedsBy v.tcb w.tcb count → Tries → FirstRules cx pair Steps w
  steps_first pair w goes tries = record {
    syn = λ _. inr (goes, tries);
    again = λ _ _. inr (goes, tries);
    payload = λ _ _. inr (goes, tries);
    last = λ _. steps_last pair (probing cx w) (record {
      state = goes.state;
      names = goes.names;
      opening = goes.opening;
      retries = goes.retries;
      timeouts =
          goes.timeouts;
    }) tries;
  }

  -- the timer hasn't run out
  unchanged : is_due cx.instant v.tcb.timers.retransmit_at ≡ false → v.tcb.sender.timeouts ≡ count
  unchanged not = sym (ap (λ (due : Bool). if due then min (v.tcb.sender.timeouts + 1) 255 else v.tcb.sender.timeouts) not)

  -- it has
  one_later : is_due cx.instant v.tcb.timers.retransmit_at ≡ true → min (v.tcb.sender.timeouts + 1) 255 ≡ count
  one_later due = sym (ap (λ (out : Bool). if out then min (v.tcb.sender.timeouts + 1) 255 else v.tcb.sender.timeouts) due)

  or_first : (a b : Bool) → (a || b) ≡ false → a ≡ false
  or_first true b e = e
  or_first false b e = refl

  both_true : (a b : Bool) → (a && b) ≡ false → a ≡ true → b ≡ false
  both_true true b e t = e
  both_true false b e t = absurd (cc)

  tries_on : Proceeds cx v → Tries
  tries_on on due =
      both_true (is_due cx.instant v.tcb.timers.retransmit_at) (reaches (retries_of v.tcb) (v.tcb.sender.timeouts + 1))
      (or_first (is_last_timeout cx.instant v.tcb) (is_last_probe cx.instant v.tcb (queued_in v)) on.tries) due

  steps_rules : (pair : FourTuple) → v.tcb.names.pair ≡ Some pair → Rules cx v Steps
  steps_rules pair named = record {
    nobody = λ none. absurd (let clash = sym none ∙ named in cc);
    time_wait = λ _. inl refl;
    timeout = λ _. inl refl;
    closed = λ closed. inl (over_by v.tcb.state closed);
    reset = λ _ closed _. inl (over_by v.tcb.state closed);
    falls = λ _ _ _. inl refl;
    over = λ _ _ _. inl refl;
    backs = λ pair _ on due.
        steps_first pair (with_tcb (unoffered v) (backed_off_now (begun cx v)))
        (record { state = refl; names = refl; opening = refl; retries = refl; timeouts = one_later due }) (tries_on on);
    probes = λ pair _ on not _.
        steps_first pair (with_tcb (unoffered v) (loss_probed (begun cx v)))
        (record { state = refl; names = refl; opening = refl; retries = refl; timeouts = unchanged not }) (tries_on on);
    goes = λ pair _ on not.
        steps_first pair (with_tcb (unoffered v) (begun cx v)) (record {
          state = refl;
          names = refl;
          opening = refl;
          retries = refl;
          timeouts =
              unchanged not;
        })
        (tries_on on);
  }
    where
      over_by : (state : State) → is_closed state ≡ true → is_over state ≡ true
      over_by state closed = ap (λ (c : Bool). c || is_listening state) closed

  steps : (pair : FourTuple) → v.tcb.names.pair ≡ Some pair → Steps (offer_of cx v)
  steps pair named = by_rules cx v Steps (steps_rules pair named)

-- one poll
module _ (v : TcpValue) (p : Poll) (pair : FourTuple) (named : v.tcb.names.pair ≡ Some pair) where
  poll_steps :
      (is_over (after_poll v p).tcb.state ≡ true)
      ⊎ (ProceedsBy v.tcb (after_poll v p).tcb (count p.cx v)
      × (is_due p.cx.instant v.tcb.timers.retransmit_at ≡ true → reaches (retries_of v.tcb) (v.tcb.sender.timeouts + 1) ≡ false))
  poll_steps = at p.sent where
    s : TcpValue
    s = (offer_of p.cx v).socket

    at :
        (sent : Bool) → (is_over (settled sent s).tcb.state ≡ true)
        ⊎ (ProceedsBy v.tcb (settled sent s).tcb (count p.cx v)
        × (is_due p.cx.instant v.tcb.timers.retransmit_at ≡ true → reaches (retries_of v.tcb) (v.tcb.sender.timeouts + 1) ≡ false))
    at false = steps p.cx v pair named
    at true =
        ⊎_elim (λ over. inl (settled_over s.offered (unoffered s) over))
        (λ both. ⊎_elim (λ over. inl over) (λ goes. inr (goes, both.1)) (settled_goes v.tcb (count p.cx v) s.offered (unoffered s) both.0))
        (steps p.cx v pair named)

-- WHAT IS OVER STAYS SO

module _ (cx : ContextValue) (v : TcpValue) (over : is_over v.tcb.state ≡ true) where
  abbrev StaysOver : Offered TcpValue → Type 0
  StaysOver o = is_over o.socket.tcb.state ≡ true

  over_last : (pair : FourTuple) (x : TcpValue) → is_over x.tcb.state ≡ true → LastRules cx pair StaysOver x
  over_last pair x it = record { probe = λ _ _. it; window_limited = λ _ _. it; ack = λ _. it; update = λ _ _. it; keep_alive = λ _ _. it; quiet = λ _. it }

  over_first : (pair : FourTuple) (w : TcpValue) → is_over w.tcb.state ≡ true → FirstRules cx pair StaysOver w
  over_first pair w it = record { syn = λ _. it; again = λ _ _. it; payload = λ _ _. it; last = λ _. over_last pair (probing cx w) it }

  over_rules : Rules cx v StaysOver
  over_rules = record {
    nobody = λ _. over;
    time_wait = λ _. refl;
    timeout = λ _. refl;
    closed = λ _. over;
    reset = λ _ _ _. over;
    falls = λ _ _ _. refl;
    over = λ _ _ _. refl;
    backs = λ pair _ _ _. over_first pair (with_tcb (unoffered v) (backed_off_now (begun cx v))) over;
    probes = λ pair _ _ _ _. over_first pair (with_tcb (unoffered v) (loss_probed (begun cx v))) over;
    goes = λ pair _ _ _. over_first pair (with_tcb (unoffered v) (begun cx v)) over;
  }

  offer_over : is_over (offer_of cx v).socket.tcb.state ≡ true
  offer_over = by_rules cx v StaysOver over_rules

poll_over : (v : TcpValue) (p : Poll) → is_over v.tcb.state ≡ true → is_over (after_poll v p).tcb.state ≡ true
poll_over v p over = at p.sent where
  at : (sent : Bool) → is_over (settled sent (offer_of p.cx v).socket).tcb.state ≡ true
  at false = offer_over p.cx v over
  at true = settled_over (offer_of p.cx v).socket.offered (unoffered (offer_of p.cx v).socket) (offer_over p.cx v over)

run_over : (v : TcpValue) (polls : List Poll) → is_over v.tcb.state ≡ true → is_over (polled v polls).tcb.state ≡ true
run_over v [] over = over
run_over v (p ∷ more) over = run_over (after_poll v p) more (poll_over v p over)

-- THE RUN

abbrev limit_by : State → Option ℕ → Option ℕ → Option ℕ
limit_by state opening later = if is_opening state || is_answering state then opening else later

same_limit : (old new : Tcb) (n : ℕ) → ProceedsBy old new n → retries_of new ≡ retries_of old
same_limit old new n goes =
    let e : limit_by new.state new.settings.opening_retries new.settings.retries ≡ limit_by old.state new.settings.opening_retries new.settings.retries =
    ap (λ (s : State). limit_by s new.settings.opening_retries new.settings.retries) goes.state in
    let f : limit_by old.state new.settings.opening_retries new.settings.retries ≡ limit_by old.state old.settings.opening_retries new.settings.retries =
    ap (λ (n : Option ℕ). limit_by old.state n new.settings.retries) goes.opening in
    let g : limit_by old.state old.settings.opening_retries new.settings.retries ≡ limit_by old.state old.settings.opening_retries old.settings.retries =
    ap (λ (n : Option ℕ). limit_by old.state old.settings.opening_retries n) goes.retries in
    e ∙ (f ∙ g)

never : 1 ≤ 0 → ⊥
never e = absurd (omega arith)

more_due : (t c limit one now : ℕ) → one ≡ 1 → t + 1 < limit → limit ≤ 255 → limit ≤ t + (one + c) → now ≡ min (t + 1) 255 → (1 ≤ c) × (limit ≤ now + c)
more_due t c limit one now a b d e f = (omega arith, omega arith)

more_not : (t c limit one now : ℕ) → one ≡ 0 → 1 ≤ one + c → limit ≤ t + (one + c) → now ≡ t → (1 ≤ c) × (limit ≤ now + c)
more_not t c limit one now a b d e = (omega arith, omega arith)

-- what is left of the limit after a poll
left_of :
    (v : TcpValue) (p : Poll) (more : List Poll) (limit : ℕ) → retries_of v.tcb ≡ Some limit → limit ≤ 255 → 1 ≤ timeouts_in v (p ∷ more)
    → limit ≤ v.tcb.sender.timeouts + timeouts_in v (p ∷ more) → ProceedsBy v.tcb (after_poll v p).tcb (count p.cx v)
    → (is_due p.cx.instant v.tcb.timers.retransmit_at ≡ true → reaches (retries_of v.tcb) (v.tcb.sender.timeouts + 1) ≡ false)
    → (1 ≤ timeouts_in (after_poll v p) more) × (limit ≤ (after_poll v p).tcb.sender.timeouts + timeouts_in (after_poll v p) more)
left_of v p more limit by small some enough goes last = at (is_due p.cx.instant v.tcb.timers.retransmit_at) refl where
  at :
      (due : Bool) → is_due p.cx.instant v.tcb.timers.retransmit_at ≡ due
      → (1 ≤ timeouts_in (after_poll v p) more) × (limit ≤ (after_poll v p).tcb.sender.timeouts + timeouts_in (after_poll v p) more)
  at true e =
      let least : nat_le limit (v.tcb.sender.timeouts + 1) ≡ false = subst (λ (r : Option ℕ). reaches r (v.tcb.sender.timeouts + 1) ≡ false) by (last e) in
      more_due v.tcb.sender.timeouts (timeouts_in (after_poll v p) more) limit (one_if (is_due p.cx.instant v.tcb.timers.retransmit_at))
      (after_poll v p).tcb.sender.timeouts (ap one_if e)
      (leb-false limit (v.tcb.sender.timeouts + 1) least) small enough (goes.timeouts ∙ sym (one_later p.cx v e))
  at false e =
      more_not v.tcb.sender.timeouts (timeouts_in (after_poll v p) more) limit (one_if (is_due p.cx.instant v.tcb.timers.retransmit_at))
      (after_poll v p).tcb.sender.timeouts (ap one_if e)
      some enough (goes.timeouts ∙ sym (unchanged p.cx v e))

pub ends_by_timeouts :
    (v : TcpValue) (polls : List Poll) (pair : FourTuple) (limit : ℕ) → v.tcb.names.pair ≡ Some pair → retries_of v.tcb ≡ Some limit → limit ≤ 255
    → 1 ≤ timeouts_in v polls → limit ≤ v.tcb.sender.timeouts + timeouts_in v polls → is_over (polled v polls).tcb.state ≡ true
ends_by_timeouts v [] pair limit named by small some enough = absurd (never some)
ends_by_timeouts v (p ∷ more) pair limit named by small some enough =
    ⊎_elim (λ over. run_over (after_poll v p) more over)
    (λ both.
    let goes = both.0 in
    let left = left_of v p more limit by small some enough goes both.1 in
    ends_by_timeouts (after_poll v p) more pair limit (ap (λ (n : Names). n.pair) goes.names ∙
    named) (same_limit v.tcb (after_poll v p).tcb (count p.cx v) goes ∙ by) small left.0
    left.1)
    (poll_steps v p pair named)

-- QUESTIONS

module _ (cx : ContextValue) (v : TcpValue) (limit : ℕ) (by : v.tcb.settings.retries ≡ Some limit) (enough : limit ≤ v.tcb.sender.unanswered) where
  or_second : (a b : Bool) → b ≡ true → (a || b) ≡ true
  or_second true b e = refl
  or_second false b e = e

  both : (a b : Bool) → a ≡ true → b ≡ true → (a && b) ≡ true
  both true b e f = f
  both false b e f = absurd (cc)

  gives :
      (is_due cx.instant (probe_deadline v.tcb (queued_in v)) || is_due cx.instant (keep_alive_deadline v.tcb)) ≡ true
      → is_due cx.instant v.tcb.timers.counts_from ≡ true → gives_up cx.instant v.tcb (queued_in v) ≡ true
  gives asks counts =
      let reached : reaches v.tcb.settings.retries v.tcb.sender.unanswered ≡ true =
      subst (λ (r : Option ℕ). reaches r v.tcb.sender.unanswered ≡ true) (sym by) (le-leb limit v.tcb.sender.unanswered enough) in
      or_second (is_last_timeout cx.instant v.tcb) (is_last_probe cx.instant v.tcb (queued_in v))
      (both (is_due cx.instant (probe_deadline v.tcb (queued_in v)) || is_due cx.instant (keep_alive_deadline v.tcb))
      (is_due cx.instant v.tcb.timers.counts_from && reaches v.tcb.settings.retries v.tcb.sender.unanswered) asks
      (both (is_due cx.instant v.tcb.timers.counts_from) (reaches v.tcb.settings.retries v.tcb.sender.unanswered) counts reached))

  over_by_question : (pair : FourTuple) → v.tcb.names.pair ≡ Some pair → gives_up cx.instant v.tcb (queued_in v) ≡ true →
      Rules cx v (λ (o : Offered TcpValue). is_over o.socket.tcb.state ≡ true)
  over_by_question pair named over = record {
    nobody = λ none. absurd (let clash = sym none ∙ named in cc);
    time_wait = λ _. refl;
    timeout = λ _. refl;
    closed = λ closed. ap (λ (c : Bool). c || is_listening v.tcb.state) closed;
    reset = λ _ closed _. ap (λ (c : Bool). c || is_listening v.tcb.state) closed;
    falls = λ _ _ _. refl;
    over = λ _ _ _. refl;
    backs = λ _ _ on _. absurd (let clash : true ≡ false = sym over ∙ on.tries in cc);
    probes = λ _ _ on _ _. absurd (let clash : true ≡ false = sym over ∙ on.tries in cc);
    goes = λ _ _ on _. absurd (let clash : true ≡ false = sym over ∙ on.tries in cc);
  }

pub ends_by_questions :
    (cx : ContextValue) (v : TcpValue) (pair : FourTuple) (limit : ℕ) → v.tcb.names.pair ≡ Some pair → v.tcb.settings.retries ≡ Some limit
    → limit ≤ v.tcb.sender.unanswered
    → (is_due cx.instant (probe_deadline v.tcb (queued_in v)) || is_due cx.instant (keep_alive_deadline v.tcb)) ≡ true
    → is_due cx.instant v.tcb.timers.counts_from ≡ true → is_over (offer_of cx v).socket.tcb.state ≡ true
ends_by_questions cx v pair limit named by enough asks counts =
    by_rules cx v (λ (o : Offered TcpValue). is_over o.socket.tcb.state ≡
    true) (over_by_question cx v limit by enough pair named (gives cx v limit by enough asks counts))
