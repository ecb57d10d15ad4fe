-- A segment that came, and one that was sent, as they show in what a pair keeps of a socket.
use Rattle.std.proofs.Common.{◌≡◌, ℕ, ℤ, Bool, true, false, List, if◌then◌else◌, refl, sym, ap, ◌∙◌}
use Rattle.net_base.specs.RandomWords.{next_state}
use Rattle.ip_wire.specs.TcpHeader.{TcpHeader}
use Rattle.tcp_block.specs.Arrival.{arrives}
use Rattle.tcp_block.specs.Names.{accepts}
use Rattle.tcp_block.specs.Offers.{offer_of}
use Rattle.tcp_block.specs.Settled.{settled}
use Rattle.tcp_block.specs.Value.{TcpValue, Arrived}
use Rattle.tcp_refinement.specs.declared.pair.event.SentSegment.{SentSegment}
use Rattle.tcp_refinement.specs.Pair.Steps.{comes_to, offered_at, taken_at}
use Rattle.tcp_refinement.specs.Pair.Values.{PairSide, and_offer, and_reply, host_of}
use Rattle.tcp_pair.specs.Context.{PairContextValue, context_of, drawn}
use Rattle.tcp_pair.specs.Ends.{EndValue, with_own}
use Rattle.tcp_pair.specs.States.{bare}

abbrev own_of : PairContextValue → TcpValue → List SentSegment → PairSide
own_of k v sent = record { socket = v; host = host_of k.side; sent = sent; instant = k.instant; random = k.random }

abbrev end_of : PairContextValue → TcpValue → List SentSegment → Bool → ℕ → EndValue
end_of k v sent opened accepted = record { side = k.side; own = bare (own_of k v sent); opened = opened; accepted = accepted }

when : {X : Type 0} (t : Bool) (a b : X) → t ≡ true → (if t then a else b) ≡ a
when true a b e = refl
when false a b e = absurd (cc)

drawn_if : (t : Bool) (k : PairContextValue) → (if t then drawn k else k) ≡ record k { random = if t then next_state k.random else k.random }
drawn_if true k = refl
drawn_if false k = refl

module _ (k : PairContextValue) (v : TcpValue) (sent : List SentSegment) (opened : Bool) (accepted : ℕ) (x : SentSegment) (header : TcpHeader) (bytes : List ℕ)
    (same_header : header ≡ x.segment) (same_bytes : bytes ≡ x.bytes) where
  abbrev found : Arrived
  found = arrives (context_of k) v x.header header bytes

  abbrev wanted : Arrived
  wanted = arrives (context_of k) v x.header x.segment x.bytes

  same : found ≡ wanted
  same = cc

  pub came :
      (test : Bool) (v' : TcpValue) (k' : PairContextValue) (sent' : List SentSegment) → test ≡ accepts v.tcb x.header header → test ≡ true →
      v' ≡ found.socket
      → k' ≡ (if found.draws then drawn k else k) → sent' ≡ and_reply sent found.answer
      → end_of k' v' sent' opened accepted ≡ with_own (end_of k v sent opened accepted) (comes_to k.side (own_of k v sent) x)
  came test v' k' sent' tested passes socket context joined =
      let accepted_it : accepts v.tcb x.header x.segment ≡ true = cc in
      let random = ap (λ (a : Arrived). if a.draws then drawn k else k) same ∙ drawn_if wanted.draws k in
      ap (λ (k : PairContextValue). end_of k v' sent' opened accepted) (context ∙ random)
      ∙ ap (λ (v : TcpValue). end_of (record k { random = if wanted.draws then next_state k.random else k.random }) v sent' opened accepted) (socket ∙
      ap (λ (a : Arrived). a.socket) same)
      ∙ ap (λ (sent : List SentSegment). end_of (record k { random = if wanted.draws then next_state k.random else k.random }) wanted.socket sent opened
      accepted) (joined ∙ ap (λ (a : Arrived). and_reply sent a.answer) same)
      ∙ sym (ap (λ (own : PairSide). with_own (end_of k v sent opened accepted) own)
      (when (accepts v.tcb x.header x.segment) (taken_at (own_of k v sent) wanted) (own_of k v sent) accepted_it))

-- an offer is made at an instant, joins what was sent, and is settled
pub went :
    (k k' : PairContextValue) (v w v' : TcpValue) (sent room sent' : List SentSegment) (opened : Bool) (accepted : ℕ) (instant : ℤ) →
    k' ≡ record k { instant = instant }
    → w ≡ (offer_of (context_of k') v).socket → room ≡ sent → sent' ≡ and_offer room w.offered w.queued.queue → v' ≡ settled true w
    → end_of k' v' sent' opened accepted ≡ with_own (end_of k v sent opened accepted) (offered_at k.side (record (own_of k v sent) { instant = instant }) true)
went k k' v w v' sent room sent' opened accepted instant context offered same joined recorded =
    ap (λ (x : TcpValue). end_of k' x sent' opened accepted) recorded
    ∙ ap (λ (xs : List SentSegment). end_of k' (settled true w) xs opened accepted) (joined ∙
    ap (λ (xs : List SentSegment). and_offer xs w.offered w.queued.queue) same)
    ∙ ap (λ (x : TcpValue). end_of k' (settled true x) (and_offer sent x.offered x.queued.queue) opened accepted) offered
    ∙ ap (λ (c : PairContextValue).
    end_of c (settled true (offer_of (context_of c) v).socket)
    (and_offer sent (offer_of (context_of c) v).socket.offered (offer_of (context_of c) v).socket.queued.queue) opened accepted) context

-- an offer is made at an instant, and isn't sent
pub stayed : (k k' : PairContextValue) (v w v' : TcpValue) (sent : List SentSegment) (opened : Bool) (accepted : ℕ) (instant : ℤ) →
    k' ≡ record k { instant = instant }
    → w ≡ (offer_of (context_of k') v).socket → v' ≡ settled false w
    → end_of k' v' sent opened accepted ≡ with_own (end_of k v sent opened accepted) (offered_at k.side (record (own_of k v sent) { instant = instant }) false)
stayed k k' v w v' sent opened accepted instant context offered dropped =
    ap (λ (x : TcpValue). end_of k' x sent opened accepted) dropped
    ∙ ap (λ (x : TcpValue). end_of k' (settled false x) sent opened accepted) offered
    ∙ ap (λ (c : PairContextValue). end_of c (settled false (offer_of (context_of c) v).socket) sent opened accepted) context
