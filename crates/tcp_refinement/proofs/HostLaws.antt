-- The invariant between two sockets, where what each of them sent is told by the segments of its host.
use Rattle.std.proofs.Common.{◌≡◌, ◌≢◌, ℕ, zero, suc, ◌==◌, Bool, true, false, if◌then◌else◌, List, [], ◌∷◌, ◌++◌, Option, Some, None, slice_get, refl, sym, ap}
use Rattle.std.proofs.Common.{◌∙◌, subst, arith}
use Rattle.std.proofs.lemmas.Bool.{cond_both, eqb-true}
use Rattle.std.proofs.lemmas.Bool.Decides.{nat_tests}
use Rattle.std.specs.List.{AllByRecursion}
use Rattle.ip_wire.specs.Ip.{destination_of}
use Rattle.ip_wire.specs.IpAddress.{IpAddress}
use Rattle.ip_wire.specs.IpRepr.{IpRepr}
use Rattle.ip_wire.specs.TcpHeader.{TcpHeader}
use Rattle.socket_context.specs.Context.{ContextValue}
use Rattle.tcp_theory.specs.Alone.{AreResets}
use Rattle.tcp_theory.specs.Segment.{Segment}
use Rattle.tcp_theory.specs.Segment.Control.{Rst}
use Rattle.tcp_block.specs.OpenOffer.{OpenOffer}
use Rattle.tcp_block.specs.Reply.{Reply}
use Rattle.tcp_block.specs.Arrival.{arrives}
use Rattle.tcp_block.specs.Offers.{offer_of, payload_of}
use Rattle.tcp_block.specs.Settled.{settled}
use Rattle.tcp_block.specs.Value.{TcpValue}
use Rattle.tcp_refinement.specs.Endpoints.{Ports, HasPorts}
use Rattle.tcp_refinement.specs.History.{with_sent, with_answer, with_offer}
use Rattle.tcp_refinement.specs.Host.{Made, made_of, made_by, source_port, seen_of, sent_from, past_at, IsAmong, MayCome, IsSeenAmong, and_answer, and_offer}
use Rattle.tcp_refinement.specs.Promises.{KeepsAlone}
use Rattle.tcp_refinement.specs.Tie.{Past, Keeps, segment_of}
use Rattle.tcp_refinement.proofs.AloneLaws.{reset_arrives}
use Rattle.tcp_refinement.proofs.ArrivalLaws.{keeps_arrival}
use Rattle.tcp_refinement.proofs.NameLaws.{answer_back, offer_between_ends}
use Rattle.tcp_refinement.proofs.OfferLaws.{keeps_sent_offer}
use Rattle.tcp_refinement.proofs.PromiseLemmas.{keeps_reset}

-- SEGMENTS FROM ONE PORT

pub one_more : (port : ℕ) (made : List Made) (x : Made) →
    sent_from port (made ++ x ∷ []) ≡ (if source_port x == port then sent_from port made ++ seen_of x ∷ [] else sent_from port made)
one_more port [] x = refl
one_more port (y ∷ made) x = by (source_port y == port) (source_port x == port) (one_more port made x) where
  by :
      (here there : Bool) → sent_from port (made ++ x ∷ []) ≡ (if there then sent_from port made ++ seen_of x ∷ [] else sent_from port made)
      → (if here then seen_of y ∷ sent_from port (made ++ x ∷ []) else sent_from port (made ++ x ∷ []))
      ≡ (if there then (if here then seen_of y ∷ sent_from port made else sent_from port made) ++
      seen_of x ∷ [] else (if here then seen_of y ∷ sent_from port made else sent_from port made))
  by true true e = ap (λ (more : List Segment). seen_of y ∷ more) e
  by true false e = ap (λ (more : List Segment). seen_of y ∷ more) e
  by false true e = e
  by false false e = e

test_same : (a b : ℕ) → a ≡ b → (a == b) ≡ true
test_same a b e = grind (arith, nat_tests)

test_other : (a b : ℕ) → a ≢ b → (a == b) ≡ false
test_other a b e = by (a == b) refl where
  by : (test : Bool) → (a == b) ≡ test → (a == b) ≡ false
  by true same = absurd (e (eqb-true a b same))
  by false other = other

more_from : (port : ℕ) (made : List Made) (x : Made) → source_port x ≡ port → sent_from port (made ++ x ∷ []) ≡ sent_from port made ++ seen_of x ∷ []
more_from port made x e =
    one_more port made x ∙ ap (λ (test : Bool). if test then sent_from port made ++ seen_of x ∷ [] else sent_from port made) (test_same (source_port x) port e)

none_from : (port : ℕ) (made : List Made) (x : Made) → source_port x ≢ port → sent_from port (made ++ x ∷ []) ≡ sent_from port made
none_from port made x e =
    one_more port made x ∙ ap (λ (test : Bool). if test then sent_from port made ++ seen_of x ∷ [] else sent_from port made) (test_other (source_port x) port e)

among_at : (port : ℕ) (made : List Made) (x : Made) (k : ℕ) → slice_get made k ≡ Some x → source_port x ≡ port →
    (j : ℕ) × (slice_get (sent_from port made) j ≡ Some (seen_of x))
among_at port [] x k e source = absurd (nothing k e) where
  nothing : (k : ℕ) → slice_get {X = Made} [] k ≡ Some x → ⊥
  nothing zero e = absurd (cc)
  nothing (suc k) e = absurd (cc)
among_at port (y ∷ made) x zero e source =
    let same : y ≡ x = cc in
    let here : (source_port y == port) ≡ true = test_same (source_port y) port (ap (λ (m : Made). source_port m) same ∙ source) in
    let first : sent_from port (y ∷ made) ≡ seen_of y ∷ sent_from port made =
    ap (λ (test : Bool). if test then seen_of y ∷ sent_from port made else sent_from port made) here in
    (zero, ap (λ (sent : List Segment). slice_get sent zero) first ∙ ap (λ (m : Made). Some (seen_of m)) same)
among_at port (y ∷ made) x (suc k) e source = by (source_port y == port) (among_at port made x k e source) where
  by :
      (here : Bool) → (j : ℕ) × (slice_get (sent_from port made) j ≡ Some (seen_of x))
      → (j : ℕ) × (slice_get (if here then seen_of y ∷ sent_from port made else sent_from port made) j ≡ Some (seen_of x))
  by true at = (suc at.0, at.1)
  by false at = at

pub among_sent : (port : ℕ) (made : List Made) (x : Made) → IsAmong made x → source_port x ≡ port →
    (k : ℕ) × (slice_get (sent_from port made) k ≡ Some (seen_of x))
among_sent port made x among source = among_at port made x among.0 among.1 source

pub resets_from : (port : ℕ) (made : List Made) → AllByRecursion (λ x. source_port x ≡ port → (seen_of x).control ≡ Rst) made → AreResets (sent_from port made)
resets_from port [] all = tt
resets_from port (y ∷ made) all =
    cond_both (source_port y == port) (seen_of y ∷ sent_from port made) (sent_from port made) (λ (sent : List Segment). AreResets sent)
    (λ here. (all.0 (eqb-true (source_port y) port here), resets_from port made all.1))
    (λ _. resets_from port made all.1)

-- THE INVARIANT

pub past_of_sent : (port : ℕ) (made : List Made) (p : Past) (x : Made) → source_port x ≡ port →
    with_sent (past_at port made p) (seen_of x) ≡ past_at port (made ++ x ∷ []) p
past_of_sent port made p x source = ap (λ (sent : List Segment). record p { sent = sent }) (sym (more_from port made x source))

pub past_of_answer :
    (port : ℕ) (made : List Made) (p : Past) (answer : Option Reply) → ((reply : Reply) → answer ≡ Some reply → reply.segment.src_port ≡ port)
    → with_answer (past_at port made p) answer ≡ past_at port (and_answer made answer) p
past_of_answer port made p None from = refl
past_of_answer port made p (Some reply) from = past_of_sent port made p (made_by reply) (from reply refl)

pub past_of_offer :
    (port : ℕ) (made : List Made) (p : Past) (source : IpAddress) (offer : Option OpenOffer) (queue : List ℕ)
    → ((o : OpenOffer) → offer ≡ Some o → o.segment.src_port ≡ port)
    → with_offer (past_at port made p) offer queue ≡ past_at port (and_offer made source offer queue) p
past_of_offer port made p source None queue from = refl
past_of_offer port made p source (Some o) queue from =
    past_of_sent port made p (made_of source (destination_of o.header) o.segment (payload_of o o.kind queue)) (from o refl)

-- WHAT COMES

-- it is seen as it was made
pub comes_as_made : (made : List Made) (from to : IpAddress) (header : TcpHeader) (bytes : List ℕ) → MayCome made from to header bytes →
    IsSeenAmong made header bytes
comes_as_made made from to header bytes come = record {
  segment = made_of from to come.written bytes;
  among = come.among;
  source = sym (ap (λ (h : TcpHeader). h.src_port) come.read);
  destination = sym (ap (λ (h : TcpHeader). h.dst_port) come.read);
  seen = sym (ap (λ (h : TcpHeader). segment_of h bytes) come.read);
}

pub keeps_hosted_arrival :
    (cx : ContextValue) (v w : TcpValue) (p q : Past) (ip : IpRepr) (header : TcpHeader) (bytes : List ℕ) (made theirs : List Made)
    → Keeps v (past_at header.dst_port made p) w (past_at header.src_port theirs q)
    → IsSeenAmong theirs header bytes
    → Keeps (arrives cx v ip header bytes).socket (past_at header.dst_port (and_answer made (arrives cx v ip header bytes).answer) p) w
    (past_at header.src_port theirs q)
keeps_hosted_arrival cx v w p q ip header bytes made theirs k come =
    let at = among_sent header.src_port theirs come.segment come.among come.source in
    let seen : slice_get (sent_from header.src_port theirs) at.0 ≡ Some (segment_of header bytes) = at.1 ∙ ap (λ (s : Segment). Some s) come.seen in
    subst (λ (p : Past). Keeps (arrives cx v ip header bytes).socket p w (past_at header.src_port theirs q))
    (past_of_answer header.dst_port made p (arrives cx v ip header bytes).answer (λ reply e. (answer_back cx v ip header bytes reply e).source_port))
    (keeps_arrival cx v w (past_at header.dst_port made p) (past_at header.src_port theirs q) ip header bytes at.0 k seen)

pub keeps_hosted_offer :
    (cx : ContextValue) (v w : TcpValue) (p q : Past) (o : Ports) (made : List Made) (source : IpAddress)
    → Keeps v (past_at o.local made p) w q → HasPorts o v.tcb
    → Keeps (settled true (offer_of cx v).socket)
    (past_at o.local (and_offer made source (offer_of cx v).socket.offered (offer_of cx v).socket.queued.queue) p) w q
keeps_hosted_offer cx v w p q o made source k has =
    subst (λ (p : Past). Keeps (settled true (offer_of cx v).socket) p w q)
    (past_of_offer o.local made p source (offer_of cx v).socket.offered (offer_of cx v).socket.queued.queue from)
    (keeps_sent_offer cx v w (past_at o.local made p) q k)
  where
    from : (x : OpenOffer) → (offer_of cx v).socket.offered ≡ Some x → x.segment.src_port ≡ o.local
    from x e = let ends = offer_between_ends cx v x e in ends.2.source_port ∙ (has.pair ends.0 ends.1).0

pub keeps_made_elsewhere : (v w : TcpValue) (p q : Past) (port : ℕ) (made : List Made) (x : Made) → Keeps v (past_at port made p) w q → source_port x ≢ port →
    Keeps v (past_at port (made ++ x ∷ []) p) w q
keeps_made_elsewhere v w p q port made x k other =
    subst (λ (sent : List Segment). Keeps v (record p { sent = sent }) w q) (sym (none_from port made x other)) k

pub keeps_made_reset : (v w : TcpValue) (p q : Past) (port : ℕ) (made : List Made) (x : Made) → Keeps v (past_at port made p) w q → (seen_of x).control ≡ Rst →
    Keeps v (past_at port (made ++ x ∷ []) p) w q
keeps_made_reset v w p q port made x k reset = by (source_port x == port) refl where
  by : (test : Bool) → (source_port x == port) ≡ test → Keeps v (past_at port (made ++ x ∷ []) p) w q
  by true here = subst (λ (p : Past). Keeps v p w q) (past_of_sent port made p x (eqb-true (source_port x) port here))
      (keeps_reset v w (past_at port made p) q (seen_of x) reset k)
  by false there = keeps_made_elsewhere v w p q port made x k (λ same.
      let clash : true ≡ false = sym (test_same (source_port x) port same) ∙ there in absurd (cc))

-- WITHOUT A PARTNER

pub hosted_reset_arrives :
    (cx : ContextValue) (v : TcpValue) (p : Past) (ip : IpRepr) (header : TcpHeader) (bytes : List ℕ) (made : List Made)
    → KeepsAlone v (past_at header.dst_port made p) → (segment_of header bytes).control ≡ Rst
    → KeepsAlone (arrives cx v ip header bytes).socket (past_at header.dst_port (and_answer made (arrives cx v ip header bytes).answer) p)
hosted_reset_arrives cx v p ip header bytes made k reset =
    subst (λ (p : Past). KeepsAlone (arrives cx v ip header bytes).socket p)
    (past_of_answer header.dst_port made p (arrives cx v ip header bytes).answer (λ reply e. (answer_back cx v ip header bytes reply e).source_port))
    (reset_arrives cx v (past_at header.dst_port made p) ip header bytes k reset)

pub ruleset hosted = (keeps_hosted_arrival, keeps_hosted_offer, keeps_made_reset, keeps_made_elsewhere)
