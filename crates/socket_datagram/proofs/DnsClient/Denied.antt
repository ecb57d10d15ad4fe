-- Under the host requirements a query fails by an answer alone.
use Rattle.std.proofs.Common.{◌≡◌, ◌⊎◌, inl, inr, ℕ, Bool, true, false, if◌then◌else◌, ℤ, List, Option, Some, None, refl, sym, ap, ◌∙◌, subst}
use Rattle.std.specs.Prelude.{slice_index, ◌%◌, ◌==◌, ◌&&◌}
use Rattle.std.proofs.lemmas.Bool.{and_parts}
use Rattle.ip_wire.specs.AddressTests.{is_same_address}
use Rattle.ip_wire.specs.Fields.{be16}
use Rattle.ip_wire.specs.Ip.{source_of}
use Rattle.ip_wire.specs.IpAddress.{IpAddress}
use Rattle.ip_wire.specs.IpRepr.{IpRepr}
use Rattle.ip_wire.specs.UdpRepr.{UdpRepr}
use Rattle.socket_context.specs.Context.{ContextValue}
use Rattle.socket_context.specs.declared.offer.Offer.{Offer}
use Rattle.wire_dns.specs.Codes.{flags_of, rcode_of}
use Rattle.wire_dns.specs.declared.codes.DnsRcode.{DnsRcode}
use Rattle.wire_dns.specs.declared.codes.DnsRcode.TheVariants as Code
use Rattle.socket_datagram.specs.DnsClient.Laws.{IsDenied, AreDenied}
use Rattle.socket_datagram.specs.DnsClient.Offers.{Offers, OffersAs, turn_in}
use Rattle.socket_datagram.specs.DnsClient.Processed.{is_from, is_for, accepts, judged, ProcessedIf, Processed}
use Rattle.socket_datagram.specs.DnsClient.Replies.{IsFound, IsJudgedBy, IsReply, IsVerdict, IsVerdictIn}
use Rattle.socket_datagram.specs.DnsClient.Value.{DnsValue, unoffered, has_next, ask_next, unanswered, next_state}
use Rattle.socket_datagram.specs.declared.dns.answer.Verdict.{Verdict}
use Rattle.socket_datagram.specs.declared.dns.answer.Verdict.TheVariants as V
use Rattle.socket_datagram.specs.declared.dns.query.Query.{Query}
use Rattle.socket_datagram.specs.declared.dns.query.Turn.{Turn}
use Rattle.socket_datagram.specs.declared.dns.query.Turn.TheVariants.{Wait, Next, Send}
use Rattle.socket_datagram.specs.declared.dns.state.State.{State}
use Rattle.socket_datagram.specs.declared.dns.state.State.TheVariants as S

-- a query that turns to the next server doesn't fail
asked-fails : (now : ℤ) (s : State) → ask_next now s ≡ S.Failed → s ≡ S.Failed
asked-fails now S.Idle e = absurd (cc)
asked-fails now (S.Pending q) e = absurd (cc)
asked-fails now (S.Completed found) e = absurd (cc)
asked-fails now S.Failed e = refl
asked-fails now S.Unanswered e = absurd (cc)

left-fails : (told : Bool) → told ≡ true → unanswered told ≡ S.Failed → ⊥
left-fails true kept e = cc
left-fails false kept e = cc

next-fails : (now : ℤ) (servers : List (Option IpAddress)) (told : Bool) (s : State) → told ≡ true → next_state now servers told s ≡ S.Failed → s ≡ S.Failed
next-fails now servers told s kept e = by (has_next servers s) e where
  by : (t : Bool) → (if t then ask_next now s else unanswered told) ≡ S.Failed → s ≡ S.Failed
  by true e = asked-fails now s e
  by false e = absurd (left-fails told kept e)

as-fails : (cx : ContextValue) (v v' : DnsValue) (answer : Offer) (t : Turn) → v.host_requirements ≡ true → OffersAs t cx v answer v' →
    v'.state ≡ S.Failed → v.state ≡ S.Failed
as-fails cx v v' answer Wait kept offers is = sym (ap (λ (w : DnsValue). w.state) offers.1) ∙ is
as-fails cx v v' answer Next kept offers is =
    next-fails cx.instant v.servers v.host_requirements v.state kept (sym (ap (λ (w : DnsValue). w.state) offers.1) ∙ is)
as-fails cx v v' answer (Send s) kept offers is = sym (ap (λ (w : DnsValue). w.state) offers.1) ∙ is

pub offers_fail : (cx : ContextValue) (v v' : DnsValue) (answer : Offer) → v.host_requirements ≡ true → Offers cx v answer v' →
    v'.state ≡ S.Failed → v.state ≡ S.Failed
offers_fail cx v v' answer kept offers is = as-fails cx v v' answer (turn_in v.state cx v) kept offers is

-- a datagram is from the server that was asked
record IsFrom (q : Query) (ip : IpRepr) : Type 0 where
  server : IpAddress
  asked : q.asked ≡ Some server
  source : is_same_address server (source_of ip) ≡ true

from : (q : Query) (ip : IpRepr) (repr : UdpRepr) → is_for q ip repr ≡ true → IsFrom q ip
from q ip repr accepted = by q.asked refl accepted where
  by : (asked : Option IpAddress) → q.asked ≡ asked → is_from asked q ip repr ≡ true → IsFrom q ip
  by None asked e = absurd (cc)
  by (Some server) asked e =
      let parts = and_parts ((repr.src_port == 53) && (repr.dst_port == q.port)) (is_same_address server (source_of ip)) e in
      record { server = server; asked = asked; source = parts.1 }

-- what an answer says that denies
record Says (q : Query) (message : List ℕ) (at : ℕ) (truncated : Bool) (code : DnsRcode) : Type 0 where
  whole : truncated ≡ false
  says : (code ≡ Code.NXDomain) ⊎ ((code ≡ Code.NoError) × IsFound q message at (be16 message 6) V.Missing)

refused-missing : V.Missing ≡ V.Refused → ⊥
refused-missing e = cc

says : (truncated : Bool) (code : DnsRcode) (q : Query) (message : List ℕ) (at : ℕ) → IsJudgedBy truncated code q message at V.Missing →
    Says q message at truncated code
says true code q message at e = absurd (refused-missing e)
says false Code.NoError q message at e = record { whole = refl; says = inr (refl, e) }
says false Code.NXDomain q message at e = record { whole = refl; says = inl refl }
says false Code.FormErr q message at e = absurd (refused-missing e)
says false Code.ServFail q message at e = absurd (refused-missing e)
says false Code.NotImp q message at e = absurd (refused-missing e)
says false Code.Refused q message at e = absurd (refused-missing e)
says false (Code.Unknown n) q message at e = absurd (refused-missing e)

denied : (v : DnsValue) (ip : IpRepr) (repr : UdpRepr) (payload : List ℕ) (q : Query) → v.state ≡ S.Pending q → IsFrom q ip →
    IsVerdict q payload V.Missing → IsDenied v ip repr payload
denied v ip repr payload q pending f (inl replied) =
    let said = says (flags_of (slice_index payload 2) (slice_index payload 3)).truncated (rcode_of (slice_index payload 3 % 16)) q payload replied.at
    replied.judged in
    record {
      query = q;
      pending = pending;
      server = f.server;
      asked = f.asked;
      source = f.source;
      at = replied.at;
      reply = replied.reply;
      whole = said.whole;
      says = said.says;
    }
denied v ip repr payload q pending f (inr none) = absurd (cc none.1)

abbrev IsEither : DnsValue → IpRepr → UdpRepr → List ℕ → Type 0
IsEither v ip repr payload = (v.state ≡ S.Failed) ⊎ IsDenied v ip repr payload

verdict-denied : (now : ℤ) (v : DnsValue) (ip : IpRepr) (repr : UdpRepr) (payload : List ℕ) (q : Query) (verdict : Verdict) → v.host_requirements ≡ true →
    v.state ≡ S.Pending q → IsFrom q ip → IsVerdict q payload verdict → (judged now v verdict).state ≡ S.Failed → IsEither v ip repr payload
verdict-denied now v ip repr payload q V.Unrelated kept pending f is e = inl e
verdict-denied now v ip repr payload q (V.Found found) kept pending f is e = absurd (cc)
verdict-denied now v ip repr payload q V.Missing kept pending f is e = inr (denied v ip repr payload q pending f is)
verdict-denied now v ip repr payload q V.Refused kept pending f is e = inl (next-fails now v.servers v.host_requirements v.state kept e)

in-denied : (now : ℤ) (v : DnsValue) (ip : IpRepr) (repr : UdpRepr) (payload : List ℕ) (verdict : Verdict) (s : State) → v.host_requirements ≡ true →
    v.state ≡ s → accepts s ip repr ≡ true → IsVerdictIn s payload verdict → (judged now v verdict).state ≡ S.Failed → IsEither v ip repr payload
in-denied now v ip repr payload verdict S.Idle kept is accepted read e = absurd (cc)
in-denied now v ip repr payload verdict (S.Pending q) kept is accepted read e =
    verdict-denied now v ip repr payload q verdict kept is (from q ip repr accepted) read e
in-denied now v ip repr payload verdict (S.Completed f) kept is accepted read e = absurd (cc)
in-denied now v ip repr payload verdict S.Failed kept is accepted read e = absurd (cc)
in-denied now v ip repr payload verdict S.Unanswered kept is accepted read e = absurd (cc)

if-denied : (now : ℤ) (v v' : DnsValue) (ip : IpRepr) (repr : UdpRepr) (payload : List ℕ) (t : Bool) → accepts v.state ip repr ≡ t →
    ProcessedIf t now v payload v' → AreDenied v ip repr payload v'
if-denied now v v' ip repr payload true accepted takes = λ kept e.
    in-denied now v ip repr payload takes.verdict v.state kept refl accepted takes.is (sym (ap (λ (w : DnsValue). w.state) takes.taken) ∙ e)
if-denied now v v' ip repr payload false accepted same = λ kept e. inl (sym (ap (λ (w : DnsValue). w.state) same) ∙ e)

pub arrivals_fail : (now : ℤ) (v v' : DnsValue) (ip : IpRepr) (repr : UdpRepr) (payload : List ℕ) → Processed now v ip repr payload v' →
    AreDenied v ip repr payload v'
arrivals_fail now v v' ip repr payload done = if-denied now v v' ip repr payload (accepts v.state ip repr) refl done
