-- What the client does before its due instant, and what becomes of a lease by what it offers.
use Rattle.std.proofs.Common.{◌≡◌, ℕ, Bool, true, false, if◌then◌else◌, ℤ, ◌<ℤ◌, ◌≤ℤ◌, int_lt, int_le, Option, Some, None, refl, sym, ap, ◌∙◌, subst, arith}
use Rattle.std.specs.Prelude.{nat_le}
use Rattle.socket_context.specs.Context.{ContextValue}
use Rattle.socket_context.specs.Offers.{IsBefore}
use Rattle.socket_context.specs.declared.offer.Offer.{Offer}
use Rattle.socket_context.specs.declared.offer.Offer.TheVariants as Answer
use Rattle.socket_datagram.specs.DhcpClient.Laws.{IsKept}
use Rattle.socket_datagram.specs.DhcpClient.Moments.{earlier}
use Rattle.socket_datagram.specs.DhcpClient.Offers.{Offers, OffersAs, next_of}
use Rattle.socket_datagram.specs.DhcpClient.States.{lease_of, turn_before, turn_of, turn_with, poll_before, poll_of}
use Rattle.socket_datagram.specs.DhcpClient.Value.{DhcpValue, begun, settled, sent_from}
use Rattle.socket_datagram.specs.declared.dhcpv4.lease.Lease.{Lease}
use Rattle.socket_datagram.specs.declared.dhcpv4.request.Kind.{Kind}
use Rattle.socket_datagram.specs.declared.dhcpv4.request.Kind.TheVariants.{Discover, Request, Renew, Rebind}
use Rattle.socket_datagram.specs.declared.dhcpv4.state.ClientState.{ClientState}
use Rattle.socket_datagram.specs.declared.dhcpv4.state.ClientState.TheVariants.{Init, Selecting, Requesting, Bound, Renewing, Rebinding}
use Rattle.socket_datagram.specs.declared.dhcpv4.state.Turn.{Turn}
use Rattle.socket_datagram.specs.declared.dhcpv4.state.Turn.TheVariants.{Wait, GiveUp, Send}

not_over : (now instant : ℤ) → now <ℤ instant → int_le instant now ≡ false
not_over now instant h = grind (arith)

pub over : (now instant : ℤ) → instant ≤ℤ now → int_le instant now ≡ true
over now instant h = grind (arith)

soon : (now instant : ℤ) → now <ℤ instant → int_lt now instant ≡ true
soon now instant h = grind (arith)

both_later : (now a b : ℤ) → now <ℤ earlier a b → (now <ℤ a) × (now <ℤ b)
both_later now a b h = by (int_lt b a) refl where
  by : (t : Bool) → int_lt b a ≡ t → (now <ℤ a) × (now <ℤ b)
  by true e = let below = subst (λ (t : Bool). now <ℤ (if t then b else a)) e h in (grind (arith), below)
  by false e = let below = subst (λ (t : Bool). now <ℤ (if t then b else a)) e h in (below, grind (arith))

-- the turn of a lease, told of its tests
abbrev chosen : Bool → Bool → Bool → Lease → Turn
chosen ended early first lease = if ended then GiveUp else if early then Wait else if first then Send (Renew lease) else Send (Rebind lease)

with_waits : (now : ℤ) (lease : Lease) (ask_at : ℤ) → now <ℤ earlier lease.expires_at ask_at → turn_with now lease ask_at ≡ Wait
with_waits now lease ask_at h =
    let both = both_later now lease.expires_at ask_at h in
    ap (λ t. chosen t (int_lt now ask_at) (int_lt now lease.rebind_at) lease) (not_over now lease.expires_at both.0)
    ∙ ap (λ t. chosen false t (int_lt now lease.rebind_at) lease) (soon now ask_at both.1)

before_waits : (now : ℤ) (begins_at : Option ℤ) → IsBefore now (poll_before begins_at) → turn_before now begins_at ≡ Wait
before_waits now None h = absurd h
before_waits now (Some begins_at) h = ap (λ (t : Bool). if t then Wait else Send Discover) (soon now begins_at h)

waits : (now : ℤ) (retries : ℕ) (s : ClientState) → IsBefore now (poll_of s) → turn_of now retries s ≡ Wait
waits now retries (Init begins_at) h = before_waits now begins_at h
waits now retries (Selecting s) h = ap (λ (t : Bool). if t then Wait else Send Discover) (soon now s.retry_at h)
waits now retries (Requesting s) h = ap (λ (t : Bool). if t then Wait else if nat_le retries s.retry then GiveUp else Send (Request s)) (soon now s.retry_at h)
waits now retries (Bound lease) h = with_waits now lease lease.refresh_at h
waits now retries (Renewing lease retry_at) h = with_waits now lease retry_at h
waits now retries (Rebinding lease retry_at) h = with_waits now lease retry_at h

pub silent : (cx : ContextValue) (v v' : DhcpValue) (answer : Offer) → IsBefore cx.instant (poll_of v.state) → Offers cx v answer v' →
    (answer ≡ Answer.Silent false) × (v' ≡ settled false v)
silent cx v v' answer before offers =
    subst (λ (t : Turn). OffersAs t cx v answer v') (waits cx.instant v.settings.retry.request_retries v.state before) offers

-- a lease that is over is given up
with_over : (now : ℤ) (lease : Lease) (ask_at : ℤ) → lease.expires_at ≤ℤ now → turn_with now lease ask_at ≡ GiveUp
with_over now lease ask_at h = ap (λ t. chosen t (int_lt now ask_at) (int_lt now lease.rebind_at) lease) (over now lease.expires_at h)

same_end : (now : ℤ) (lease other : Lease) → lease ≡ other → other.expires_at ≤ℤ now → lease.expires_at ≤ℤ now
same_end now lease other same h = subst (λ (l : Lease). l.expires_at ≤ℤ now) (sym same) h

given_up : (now : ℤ) (retries : ℕ) (s : ClientState) (lease : Lease) → lease_of s ≡ Some lease → lease.expires_at ≤ℤ now → turn_of now retries s ≡ GiveUp
given_up now retries (Init begins_at) lease has h = absurd (cc)
given_up now retries (Selecting s) lease has h = absurd (cc)
given_up now retries (Requesting s) lease has h = absurd (cc)
given_up now retries (Bound l) lease has h = with_over now l l.refresh_at (same_end now l lease (cc) h)
given_up now retries (Renewing l retry_at) lease has h = with_over now l retry_at (same_end now l lease (cc) h)
given_up now retries (Rebinding l retry_at) lease has h = with_over now l retry_at (same_end now l lease (cc) h)

pub offers_end : (cx : ContextValue) (v v' : DhcpValue) (answer : Offer) (lease : Lease) → lease_of v.state ≡ Some lease → lease.expires_at ≤ℤ cx.instant →
    Offers cx v answer v' → v' ≡ begun v
offers_end cx v v' answer lease has h offers =
    let done = subst (λ (t : Turn). OffersAs t cx v answer v') (given_up cx.instant v.settings.retry.request_retries v.state lease has h) offers in
    done.1

-- no offer gives a lease
pub same_state : (v v' : DhcpValue) → v'.state ≡ v.state → IsKept v v'
same_state v v' same = λ lease has. sym (ap lease_of same) ∙ has

kept_by : (t : Turn) (cx : ContextValue) (v v' : DhcpValue) (answer : Offer) → OffersAs t cx v answer v' → IsKept v v'
kept_by Wait cx v v' answer offers = same_state v v' (ap (λ (w : DhcpValue). w.state) offers.1)
kept_by GiveUp cx v v' answer offers = λ lease has. let none : None ≡ Some lease = sym (ap (λ (w : DhcpValue). lease_of w.state) offers.1) ∙ has in absurd (cc)
kept_by (Send kind) cx v v' answer offers = same_state v v' (ap (λ (w : DhcpValue). w.state) offers.1.offers)

pub offers_kept : (cx : ContextValue) (v v' : DhcpValue) (answer : Offer) → Offers cx v answer v' → IsKept v v'
offers_kept cx v v' answer offers = kept_by (turn_of cx.instant v.settings.retry.request_retries v.state) cx v v' answer offers

-- a message that is sent keeps the lease
chosen_kept : (now : ℤ) (v : DhcpValue) (ended early first : Bool) (lease : Lease) (kind : Kind) → chosen ended early first lease ≡ Send kind →
    lease_of (next_of now v kind) ≡ Some lease
chosen_kept now v true early first lease kind e = absurd (cc)
chosen_kept now v false true first lease kind e = absurd (cc)
chosen_kept now v false false true lease kind e = let same : Renew lease ≡ kind =
    (cc) in subst (λ (k : Kind). lease_of (next_of now v k) ≡ Some lease) same refl
chosen_kept now v false false false lease kind e = let same : Rebind lease ≡ kind =
    (cc) in subst (λ (k : Kind). lease_of (next_of now v k) ≡ Some lease) same refl

discover_kept : (now : ℤ) (v : DhcpValue) (early : Bool) (kind : Kind) → (if early then Wait else Send Discover) ≡ Send kind →
    lease_of (next_of now v kind) ≡ None
discover_kept now v true kind e = absurd (cc)
discover_kept now v false kind e = let same : Discover ≡ kind = (cc) in subst (λ (k : Kind). lease_of (next_of now v k) ≡ None) same refl

before_kept : (now : ℤ) (v : DhcpValue) (begins_at : Option ℤ) (kind : Kind) → turn_before now begins_at ≡ Send kind → lease_of (next_of now v kind) ≡ None
before_kept now v None kind e = discover_kept now v false kind e
before_kept now v (Some begins_at) kind e = discover_kept now v (int_lt now begins_at) kind e

turn_kept : (now : ℤ) (retries : ℕ) (v : DhcpValue) (s : ClientState) (kind : Kind) → turn_of now retries s ≡ Send kind →
    lease_of (next_of now v kind) ≡ lease_of s
turn_kept now retries v (Init begins_at) kind e = before_kept now v begins_at kind e
turn_kept now retries v (Selecting s) kind e = discover_kept now v (int_lt now s.retry_at) kind e
turn_kept now retries v (Requesting s) kind e = by (int_lt now s.retry_at) (nat_le retries s.retry) e where
  by : (early spent : Bool) → (if early then Wait else if spent then GiveUp else Send (Request s)) ≡ Send kind → lease_of (next_of now v kind) ≡ None
  by true spent e = absurd (cc)
  by false true e = absurd (cc)
  by false false e = let same : Request s ≡ kind = (cc) in subst (λ (k : Kind). lease_of (next_of now v k) ≡ None) same refl
turn_kept now retries v (Bound lease) kind e =
    chosen_kept now v (int_le lease.expires_at now) (int_lt now lease.refresh_at) (int_lt now lease.rebind_at) lease kind e
turn_kept now retries v (Renewing lease retry_at) kind e =
    chosen_kept now v (int_le lease.expires_at now) (int_lt now retry_at) (int_lt now lease.rebind_at) lease kind e
turn_kept now retries v (Rebinding lease retry_at) kind e =
    chosen_kept now v (int_le lease.expires_at now) (int_lt now retry_at) (int_lt now lease.rebind_at) lease kind e

sent_kept : (cx : ContextValue) (v v' : DhcpValue) (answer : Offer) (t : Turn) → turn_of cx.instant v.settings.retry.request_retries v.state ≡ t →
    OffersAs t cx v answer v' → lease_of (sent_from v' v'.offered).state ≡ lease_of v'.state
sent_kept cx v v' answer Wait is offers = subst (λ (w : DhcpValue). lease_of (sent_from w w.offered).state ≡ lease_of w.state) (sym offers.1) refl
sent_kept cx v v' answer GiveUp is offers = subst (λ (w : DhcpValue). lease_of (sent_from w w.offered).state ≡ lease_of w.state) (sym offers.1) refl
sent_kept cx v v' answer (Send kind) is offers =
    subst (λ (w : DhcpValue). lease_of (sent_from w w.offered).state ≡ lease_of w.state) (sym offers.1.offers)
    (turn_kept cx.instant v.settings.retry.request_retries v v.state kind is)

pub settled_kept : (cx : ContextValue) (v v' : DhcpValue) (answer : Offer) (sent : Bool) → Offers cx v answer v' →
    lease_of (settled sent v').state ≡ lease_of v'.state
settled_kept cx v v' answer false offers = refl
settled_kept cx v v' answer true offers = sent_kept cx v v' answer (turn_of cx.instant v.settings.retry.request_retries v.state) refl offers
