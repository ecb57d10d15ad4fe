-- A datagram that is for the query is taken.
use Rattle.std.proofs.Common.{◌≡◌, ℕ, Bool, true, ℤ, List, refl, sym, ap, ◌∙◌, subst}
use Rattle.ip_wire.specs.IpRepr.{IpRepr}
use Rattle.ip_wire.specs.UdpRepr.{UdpRepr}
use Rattle.socket_datagram.specs.DnsClient.Processed.{accepts, judged, ProcessedIf, Processed}
use Rattle.socket_datagram.specs.DnsClient.Replies.{IsVerdictIn}
use Rattle.socket_datagram.specs.DnsClient.Value.{DnsValue, unoffered}
use Rattle.socket_datagram.specs.declared.dns.answer.Verdict.{Verdict}
use Rattle.socket_datagram.specs.declared.dns.answer.Verdict.TheVariants as V
use Rattle.socket_datagram.specs.declared.dns.state.State.{State}

judged-unoffered : (now : ℤ) (v : DnsValue) (verdict : Verdict) → judged now (unoffered v) verdict ≡ judged now v verdict
judged-unoffered now v V.Unrelated = refl
judged-unoffered now v (V.Found found) = refl
judged-unoffered now v V.Missing = refl
judged-unoffered now v V.Refused = refl

pub taken : (now : ℤ) (v w v' : DnsValue) (ip : IpRepr) (repr : UdpRepr) (payload : List ℕ) (verdict : Verdict) → w ≡ unoffered v →
    accepts w.state ip repr ≡ true → IsVerdictIn w.state payload verdict → v' ≡ judged now w verdict
    → Processed now v ip repr payload v'
taken now v w v' ip repr payload verdict same accepted is done =
    let state : w.state ≡ v.state = ap (λ (u : DnsValue). u.state) same in
    let here : accepts v.state ip repr ≡ true = subst (λ (s : State). accepts s ip repr ≡ true) state accepted in
    subst (λ (t : Bool). ProcessedIf t now v payload v') (sym here)
    (record {
      verdict = verdict;
      is = subst (λ (s : State). IsVerdictIn s payload verdict) state is;
      taken = done ∙ ap (λ (u : DnsValue). judged now u verdict) same ∙ judged-unoffered now v verdict;
    })
