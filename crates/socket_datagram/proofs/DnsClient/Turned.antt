-- What the client does before its due instant, and that no offer gives addresses.
use Rattle.std.proofs.Common.{◌≡◌, Bool, true, false, if◌then◌else◌, ℤ, ◌<ℤ◌, int_lt, int_le, List, Option, Some, None, refl, sym, ap, ◌∙◌, subst, arith}
use Rattle.ip_wire.specs.IpAddress.{IpAddress}
use Rattle.socket_context.specs.Context.{ContextValue}
use Rattle.socket_context.specs.Offers.{IsBefore}
use Rattle.socket_context.specs.declared.offer.Offer.{Offer}
use Rattle.socket_context.specs.declared.offer.Offer.TheVariants as Answer
use Rattle.socket_datagram.specs.DnsClient.Offers.{Offers, OffersAs, turn_in, sent_to}
use Rattle.socket_datagram.specs.DnsClient.Turns.{poll_of, due_at}
use Rattle.socket_datagram.specs.DnsClient.Value.{DnsValue, Open, settled, sent_by, sent_state, server_at, has_next, ask_next, unanswered, next_state}
use Rattle.socket_datagram.specs.declared.dns.query.Query.{Query}
use Rattle.socket_datagram.specs.declared.dns.query.Sending.{Sending}
use Rattle.socket_datagram.specs.declared.dns.state.State.{State}
use Rattle.socket_datagram.specs.declared.dns.state.State.TheVariants as S
use Rattle.socket_datagram.specs.declared.dns.query.Turn.{Turn}
use Rattle.socket_datagram.specs.declared.dns.query.Turn.TheVariants.{Wait, Next, Send}

soon : (now instant : ℤ) → now <ℤ instant → int_lt now instant ≡ true
soon now instant h = grind (arith)

abbrev turn_where : Bool → ContextValue → DnsValue → Query → Turn
turn_where early cx v q = if early then Wait else if int_le q.next_at cx.instant then Next else sent_to (server_at v.servers q.server) cx v q

waits : (cx : ContextValue) (v : DnsValue) (s : State) → IsBefore cx.instant (poll_of s) → turn_in s cx v ≡ Wait
waits cx v S.Idle h = refl
waits cx v (S.Pending q) h = ap (λ t. turn_where t cx v q) (soon cx.instant (due_at q) h)
waits cx v (S.Completed found) h = refl
waits cx v S.Failed h = refl
waits cx v S.Unanswered h = refl

pub silent : (cx : ContextValue) (v v' : DnsValue) (answer : Offer) → IsBefore cx.instant (poll_of v.state) → Offers cx v answer v' →
    (answer ≡ Answer.Silent false) × (v' ≡ settled false v)
silent cx v v' answer before offers = subst (λ (t : Turn). OffersAs t cx v answer v') (waits cx v v.state before) offers

-- no addresses come of a turn to the next server
asked-kept : (now : ℤ) (s : State) (found : List (Option IpAddress)) → ask_next now s ≡ S.Completed found → s ≡ S.Completed found
asked-kept now S.Idle found e = e
asked-kept now (S.Pending q) found e = absurd (cc)
asked-kept now (S.Completed f) found e = e
asked-kept now S.Failed found e = e
asked-kept now S.Unanswered found e = e

-- nor of what is left where there is none
pub none-left : (told : Bool) (found : List (Option IpAddress)) → unanswered told ≡ S.Completed found → ⊥
none-left true found e = cc
none-left false found e = cc

next-kept : (now : ℤ) (servers : List (Option IpAddress)) (told : Bool) (s : State) (found : List (Option IpAddress)) →
    next_state now servers told s ≡ S.Completed found → s ≡ S.Completed found
next-kept now servers told s found e = by (has_next servers s) e where
  by : (t : Bool) → (if t then ask_next now s else unanswered told) ≡ S.Completed found → s ≡ S.Completed found
  by true e = asked-kept now s found e
  by false e = absurd (none-left told found e)

as-kept : (cx : ContextValue) (v v' : DnsValue) (answer : Offer) (found : List (Option IpAddress)) (t : Turn) → OffersAs t cx v answer v' →
    v'.state ≡ S.Completed found → v.state ≡ S.Completed found
as-kept cx v v' answer found Wait offers is = sym (ap (λ (w : DnsValue). w.state) offers.1) ∙ is
as-kept cx v v' answer found Next offers is = next-kept cx.instant v.servers v.host_requirements v.state found (sym (ap (λ (w : DnsValue). w.state) offers.1) ∙ is)
as-kept cx v v' answer found (Send s) offers is = sym (ap (λ (w : DnsValue). w.state) offers.1) ∙ is

pub offers_kept : (cx : ContextValue) (v v' : DnsValue) (answer : Offer) (found : List (Option IpAddress)) → Offers cx v answer v' →
    v'.state ≡ S.Completed found → v.state ≡ S.Completed found
offers_kept cx v v' answer found offers is = as-kept cx v v' answer found (turn_in v.state cx v) offers is

sent_by-kept : (s : State) (sending : Sending) (found : List (Option IpAddress)) → sent_by s sending ≡ S.Completed found → s ≡ S.Completed found
sent_by-kept S.Idle sending found e = e
sent_by-kept (S.Pending q) sending found e = absurd (cc)
sent_by-kept (S.Completed f) sending found e = e
sent_by-kept S.Failed sending found e = e
sent_by-kept S.Unanswered sending found e = e

sent-kept : (s : State) (o : Option Open) (found : List (Option IpAddress)) → sent_state s o ≡ S.Completed found → s ≡ S.Completed found
sent-kept s None found e = e
sent-kept s (Some o) found e = sent_by-kept s o.sending found e

pub settled_kept : (v : DnsValue) (sent : Bool) (found : List (Option IpAddress)) → (settled sent v).state ≡ S.Completed found → v.state ≡ S.Completed found
settled_kept v true found e = sent-kept v.state v.offered found e
settled_kept v false found e = e
