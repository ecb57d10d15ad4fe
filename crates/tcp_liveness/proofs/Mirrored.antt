-- Each side of a pair sends between its endpoints; a listener's are those of a segment that its peer sent: so the two mirror each other.
use Rattle.std.proofs.Common.{◌≡◌, ◌⊎◌, inl, inr, ℕ, zero, suc, ◌==◌, ◌&&◌, ◌||◌, not, Bool, true, false, if◌then◌else◌, List, [], ◌∷◌, ◌++◌}
use Rattle.std.proofs.Common.{length, Option, Some, None, Result, Ok, Err, slice_get, refl, sym, ap, ◌∙◌, subst, append-nil}
use Rattle.std.proofs.lemmas.Bool.{cond_both}
use Rattle.std.specs.List.{AllByRecursion}
use Rattle.ip_wire.specs.Ip.{source_of, destination_of}
use Rattle.ip_wire.specs.IpEndpoint.{IpEndpoint}
use Rattle.ip_wire.specs.IpListenEndpoint.{IpListenEndpoint}
use Rattle.ip_wire.specs.IpRepr.{IpRepr}
use Rattle.ip_wire.specs.IpRepr.TheVariants as Ip
use Rattle.ip_wire.specs.TcpHeader.{TcpHeader}
use Rattle.tcp_theory.specs.Invariant.{FitsPhase}
use Rattle.tcp_theory.specs.Side.{Side as Half, Phase}
use Rattle.tcp_theory.specs.Side.Phase.{SynSent}
use Rattle.tcp_theory.specs.Side.Opening.{NotYet, Passive, Active}
use Rattle.tcp_theory.proofs.Lists.{AllByRecursion-map, AllByRecursion-push}
use Rattle.tcp_refinement.specs.Context.{ContextValue}
use Rattle.tcp_refinement.specs.Endpoints.{GoesBetween, GoesBack, CameBetween, IsFor, KeepsOrForgets, IsLeftBy, IsRenamed}
use Rattle.tcp_refinement.specs.History.{closed_by, closes_in}
use Rattle.tcp_refinement.specs.Side.{Opening}
use Rattle.tcp_refinement.specs.Tie.{Past, Keeps, IsListening, FitsIn, core_of, unsent}
use Rattle.tcp_refinement.proofs.NameLaws.{accepted, arrival_names, answer_back, offer_between_ends, sent_names, withheld_names, close_names, abort_names}
use Rattle.tcp_refinement.proofs.Tied.{if_so}
use Rattle.tcp_invariants.specs.FourTuple.{FourTuple}
use Rattle.tcp_invariants.specs.Endpoints.{local_of, remote_of, pair_in}
use Rattle.tcp_invariants.specs.Ends.{is_over}
use Rattle.tcp_invariants.specs.Events.{is_past}
use Rattle.tcp_invariants.specs.Names.{Names}
use Rattle.tcp_invariants.specs.OpenOffer.{OpenOffer}
use Rattle.tcp_invariants.specs.Reply.{Reply}
use Rattle.tcp_invariants.specs.RecvError.{RecvError}
use Rattle.tcp_invariants.specs.State.{State}
use Rattle.tcp_invariants.specs.State.TheVariants as In
use Rattle.tcp_invariants.specs.States.{is_closed, is_listening, takes_writes}
use Rattle.tcp_invariants.proofs.OrderSteps.{clash}
use Rattle.tcp_block.specs.Arrival.{arrives}
use Rattle.tcp_block.specs.declared.tcb.Tcb.{Tcb}
use Rattle.tcp_block.specs.Calls.{listening, connected_by, four_tuple_for, found_answer, recv_answer, listen_after, connect_answer}
use Rattle.tcp_block.specs.Calls.{connect_after, send_answer, send_after, close_after, abort_after}
use Rattle.tcp_block.specs.Isn.{number_for}
use Rattle.tcp_refinement.specs.Pair.History.{pasts, side_of, adds, connect_adds, send_adds, recv_adds}
use Rattle.tcp_block.specs.Names.{accepts}
use Rattle.tcp_block.specs.Offers.{offer_of, payload_of}
use Rattle.tcp_refinement.specs.Pair.Safe.{IsKept}
use Rattle.tcp_block.specs.Settled.{settled}
use Rattle.tcp_refinement.specs.Pair.Sides.{Both, at, put, other}
use Rattle.tcp_refinement.specs.Pair.Steps.{Steps, refusal, happens, acts, acting, reads, set_by, handed, taken_at, connect_says, send_says}
use Rattle.tcp_block.specs.Value.{TcpValue, new_socket, unoffered}
use Rattle.tcp_refinement.specs.Pair.Values.{PairSide, PairValue, context_at, and_offer, and_reply, with_segments}
use Rattle.tcp_refinement.specs.declared.pair.event.PairAnswer.{PairAnswer}
use Rattle.tcp_refinement.specs.declared.pair.event.PairAnswer.TheVariants.{Done, Count, Bytes, Error}
use Rattle.tcp_refinement.specs.declared.pair.event.PairEvent.{PairEvent}
use Rattle.tcp_refinement.specs.declared.pair.event.PairEvent.TheVariants.{Listen, Connect, Send, Recv, Close, Abort, TcpSetting, Clock, Offer, Deliver}
use Rattle.tcp_refinement.specs.declared.pair.event.SentSegment.{SentSegment}
use Rattle.tcp_refinement.specs.declared.pair.event.Side.{Side}
use Rattle.tcp_refinement.specs.declared.pair.event.Side.TheVariants.{A, B}
use Rattle.tcp_refinement.specs.declared.pair.event.TcpSetting.{TcpSetting as Setting}
use Rattle.tcp_refinement.specs.declared.pair.event.TcpSetting.TheVariants as Set
use Rattle.tcp_refinement.proofs.PairLaws.{kept_after}
use Rattle.tcp_refinement.proofs.SideLaws.{IsAllowed}
use Rattle.tcp_liveness.specs.Arrivals.{is_synchronized}
use Rattle.tcp_liveness.specs.Pair.{AreMirrored, has_heard, socket_of}
use Rattle.tcp_liveness.specs.Reached.{IsReached, both_started}
use Rattle.tcp_liveness.proofs.Kept.{keeps_of, started_kept}
use Rattle.tcp_liveness.proofs.Past.{abort_past, close_past, sent_past, withheld_past}
use Rattle.tcp_liveness.proofs.Ready.{ready_side, some_pair}
use Rattle.tcp_liveness.proofs.SentPairs.{is_allowed}

-- LISTS

abbrev Among : SentSegment → List SentSegment → Type 0
Among x [] = ⊥
Among x (y ∷ ys) = (y ≡ x) ⊎ Among x ys

among_more : (x : SentSegment) (xs ys : List SentSegment) → Among x xs → Among x (xs ++ ys)
among_more x [] ys a = absurd a
among_more x (y ∷ xs) ys (inl e) = inl e
among_more x (y ∷ xs) ys (inr a) = inr (among_more x xs ys a)

among_at : (xs : List SentSegment) (k : ℕ) (x : SentSegment) → slice_get xs k ≡ Some x → Among x xs
among_at [] k x e = absurd (cc)
among_at (y ∷ xs) zero x e = inl (let same : y ≡ x = cc in same)
among_at (y ∷ xs) (suc k) x e = inr (among_at xs k x e)

all_among : (P : SentSegment → Type 0) (xs : List SentSegment) (x : SentSegment) → AllByRecursion P xs → Among x xs → P x
all_among P [] x all a = absurd a
all_among P (y ∷ xs) x all (inl e) = subst P e all.0
all_among P (y ∷ xs) x all (inr a) = all_among P xs x all.1 a

none_among : {A : Type 0} → (xs : List SentSegment) (x : SentSegment) → xs ≡ [] → Among x xs → A
none_among [] x e a = absurd a
none_among (y ∷ xs) x e a = absurd (cc)

no_pair : (pair : FourTuple) → None ≡ Some pair → ⊥
no_pair pair e = absurd (cc)

one_pair : (a b : FourTuple) → Some a ≡ Some b → a ≡ b
one_pair a b e = cc

-- WHERE SEGMENTS GO

record GoesFrom (pair : FourTuple) (x : SentSegment) : Type 0 where
  source : source_of x.header ≡ local_of pair.addresses
  destination : destination_of x.header ≡ remote_of pair.addresses
  source_port : x.segment.src_port ≡ pair.local_port
  destination_port : x.segment.dst_port ≡ pair.remote_port

-- a segment that the other side sent came between its endpoints
record Comes (pair : FourTuple) (others : List SentSegment) : Type 0 where
  x : SentSegment
  among : Among x others
  came : CameBetween pair x.header x.segment

-- a segment goes back to where one of the other side came from
record GoesBackIn (others : List SentSegment) (x : SentSegment) : Type 0 where
  to : SentSegment
  among : Among to others
  source : source_of x.header ≡ destination_of to.header
  destination : destination_of x.header ≡ source_of to.header
  source_port : x.segment.src_port ≡ to.segment.dst_port
  destination_port : x.segment.dst_port ≡ to.segment.src_port

-- A socket, with what was seen of it and what it sent, and how its peer was opened and what that sent: before it is opened it sends
-- nothing; one that called sends between its endpoints, and past SYN-SENT a segment of its peer came between them; one that listened has
-- those of a segment of a peer that called, and whatever it sent goes back to one; and where none called nothing is sent.
pub record IsDirected (v : TcpValue) (mine : Opening) (sent : List SentSegment) (theirs : Opening) (others : List SentSegment) : Type 0 where
  unopened : mine ≡ NotYet → (sent ≡ []) × (v.tcb.names.pair ≡ None)
  active : mine ≡ Active → (pair : FourTuple) → v.tcb.names.pair ≡ Some pair → AllByRecursion (GoesFrom pair) sent
  passive : mine ≡ Passive → (pair : FourTuple) → v.tcb.names.pair ≡ Some pair → (theirs ≡ Active) × Comes pair others
  returns : mine ≡ Passive → AllByRecursion (GoesBackIn others) sent
  heard : mine ≡ Active → is_past v.tcb.state ≡ true → (pair : FourTuple) → v.tcb.names.pair ≡ Some pair → Comes pair others
  none : (mine ≡ Active → ⊥) → (theirs ≡ Active → ⊥) → sent ≡ []

-- what an event of the side does, alongside its peer
record Directs (v : TcpValue) (mine : Opening) (sent : List SentSegment) (new : TcpValue) (after : Opening) (gone : List SentSegment) (theirs : Opening)
    (others : List SentSegment) : Type 0 where
  own : IsDirected v mine sent theirs others → ((theirs ≡ Active → ⊥) → (mine ≡ Active → ⊥) → others ≡ []) → IsDirected new after gone theirs others
  more : List SentSegment
  grown : gone ≡ sent ++ more
  stays : mine ≡ Active → after ≡ Active

-- it sends nothing, and its endpoints stay or are forgotten
still :
    (v new : TcpValue) (mine after : Opening) (sent : List SentSegment) (theirs : Opening) (others : List SentSegment) → after ≡ mine
    → (is_past new.tcb.state ≡ true → is_past v.tcb.state ≡ true)
    → (new.tcb.names.pair ≡ v.tcb.names.pair) ⊎ (new.tcb.names.pair ≡ None) → Directs v mine sent new after sent theirs others
still v new mine after sent theirs others same past names = record {
  own = λ d _. record {
    unopened = λ first. let it = d.unopened (sym same ∙ first) in (it.0, unnamed names it.1);
    active = λ called pair e. by names (λ old. d.active (sym same ∙ called) pair old) e;
    passive = λ listened pair e. by names (λ old. d.passive (sym same ∙ listened) pair old) e;
    returns = λ listened. d.returns (sym same ∙ listened);
    heard = λ called on pair e. by names (λ old. d.heard (sym same ∙ called) (past on) pair old) e;
    none = λ not theirs_not. d.none (λ e. not (same ∙ e)) theirs_not;
  };
  more = [];
  grown = sym (append-nil sent);
  stays = λ e. same ∙ e;
}
  where
    unnamed : (new.tcb.names.pair ≡ v.tcb.names.pair) ⊎ (new.tcb.names.pair ≡ None) → v.tcb.names.pair ≡ None → new.tcb.names.pair ≡ None
    unnamed (inl stay) e = stay ∙ e
    unnamed (inr gone) e = gone

    by :
        {P : Type 0} {pair : FourTuple} → (new.tcb.names.pair ≡ v.tcb.names.pair) ⊎ (new.tcb.names.pair ≡ None)
        → (v.tcb.names.pair ≡ Some pair → P) → new.tcb.names.pair ≡ Some pair → P
    by (inl stay) old e = old (sym stay ∙ e)
    by {P} {pair} (inr gone) old e = absurd (no_pair pair (sym gone ∙ e))

pairs_kept : (old new : Tcb) → KeepsOrForgets old new → (new.names.pair ≡ old.names.pair) ⊎ (new.names.pair ≡ None)
pairs_kept old new (inl keeps) = inl (ap (λ (n : Names). n.pair) keeps.names)
pairs_kept old new (inr forgets) = inr (ap (λ (n : Names). n.pair) forgets.names)

pairs_left : (old new : Tcb) → IsLeftBy old new → (new.names.pair ≡ old.names.pair) ⊎ (new.names.pair ≡ None)
pairs_left old new (inl falls) = inr (ap (λ (n : Names). n.pair) falls.names)
pairs_left old new (inr rest) = pairs_kept old new rest

-- a socket that called never listens
not_listening : (state : State) (v w : TcpValue) (p q : Past) (k : Keeps v p w q) → v.tcb.state ≡ state → is_listening state ≡ true → p.opening ≡ Active → ⊥
not_listening In.Listen v w p q k at e called =
    absurd
    (let f : IsListening (core_of v) (unsent k.side) = subst (λ (state : State). FitsIn state (core_of v) (unsent k.side)) at k.fits in
    let passive : k.side.opening ≡ Passive = ap (λ (x : Half). x.opening) f.side in
    let clashes : Passive ≡ Active = sym passive ∙ (ap (λ (p : Past). p.opening) k.past ∙ called) in cc)
not_listening other v w p q k at e called = clash (sym e)

-- a socket that wasn't opened is CLOSED
unopened_closed : (v w : TcpValue) (p q : Past) → Keeps v p w q → p.opening ≡ NotYet → is_closed v.tcb.state ≡ true
unopened_closed v w p q k first = by v.tcb.state k.fits where
  none : k.side.opening ≡ NotYet
  none = ap (λ (p : Past). p.opening) k.past ∙ first

  by : (state : State) → FitsIn state (core_of v) (unsent k.side) → is_closed state ≡ true
  by In.Closed f = refl
  by In.Listen f =
      absurd (let passive : k.side.opening ≡ Passive = ap (λ (x : Half). x.opening) f.side in let clashes : NotYet ≡ Passive = sym none ∙ passive in cc)
  by In.SynSent f =
      let asking : FitsPhase SynSent k.side.opening k.side.irs =
      subst (λ (phase : Phase). FitsPhase phase k.side.opening k.side.irs) f.phase k.holds.0.well_formed.phase in
      absurd (let clashes : NotYet ≡ Active = sym none ∙ asking.0 in cc)
  by other f = absurd (f.once none)

-- an offer goes between the endpoints
offered :
    (cx : ContextValue) (v : TcpValue) (mine theirs : Opening) (sent others : List SentSegment) (x : Option OpenOffer) (queue : List ℕ)
    → (offer_of cx v).socket.offered ≡ x
    → Directs v mine sent (settled true (offer_of cx v).socket) mine (and_offer sent x queue) theirs others
offered cx v mine theirs sent others None queue e =
    still v (settled true (offer_of cx v).socket) mine mine sent theirs others refl (sent_past cx v)
    (pairs_left v.tcb (settled true (offer_of cx v).socket).tcb (sent_names cx v))
offered cx v mine theirs sent others (Some o) queue e = record {
  own = λ d back. record {
    unopened = λ first. absurd (no_pair it.0 (sym (d.unopened first).1 ∙ it.1));
    active = λ called pair named.
        AllByRecursion-push (GoesFrom pair) sent gone (d.active called pair (before pair named)) (goes pair (before pair named));
    passive = λ listened pair named. d.passive listened pair (before pair named);
    returns = λ listened.
        AllByRecursion-push (GoesBackIn others) sent gone (d.returns listened) (goes_back (d.passive listened it.0 it.1).1);
    heard = λ called on pair named. d.heard called (sent_past cx v on) pair (before pair named);
    none = λ not theirs_not. absurd (nobody d not theirs_not);
  };
  more = gone ∷ [];
  grown = refl;
  stays = λ e. e;
}
  where
    gone : SentSegment
    gone = record { header = o.header; segment = o.segment; bytes = payload_of o o.kind queue }

    it : (pair : FourTuple) × (v.tcb.names.pair ≡ Some pair) × GoesBetween pair o
    it = offer_between_ends cx v o e

    new : TcpValue
    new = settled true (offer_of cx v).socket

    before : (pair : FourTuple) → new.tcb.names.pair ≡ Some pair → v.tcb.names.pair ≡ Some pair
    before pair named = by (pairs_left v.tcb new.tcb (sent_names cx v)) where
      by : (new.tcb.names.pair ≡ v.tcb.names.pair) ⊎ (new.tcb.names.pair ≡ None) → v.tcb.names.pair ≡ Some pair
      by (inl stay) = sym stay ∙ named
      by (inr gone) = absurd (no_pair pair (sym gone ∙ named))

    goes : (pair : FourTuple) → v.tcb.names.pair ≡ Some pair → GoesFrom pair gone
    goes pair named =
        let g = subst (λ (pair : FourTuple). GoesBetween pair o) (one_pair it.0 pair (sym it.1 ∙ named)) it.2 in
        record { source = g.source; destination = g.destination; source_port = g.source_port; destination_port = g.destination_port }

    goes_back : Comes it.0 others → GoesBackIn others gone
    goes_back c = record {
      to = c.x;
      among = c.among;
      source = it.2.source ∙ sym c.came.destination;
      destination = it.2.destination ∙ sym c.came.source;
      source_port = it.2.source_port ∙ sym c.came.destination_port;
      destination_port = it.2.destination_port ∙ sym c.came.source_port;
    }

    nobody : IsDirected v mine sent theirs others → (mine ≡ Active → ⊥) → (theirs ≡ Active → ⊥) → ⊥
    nobody d not theirs_not = by mine refl where
      by : (opening : Opening) → mine ≡ opening → ⊥
      by NotYet at = no_pair it.0 (sym (d.unopened at).1 ∙ it.1)
      by Passive at = theirs_not (d.passive at it.0 it.1).0
      by Active at = not at

-- a segment of the peer comes
came_in : (ip : IpRepr) (header : TcpHeader) → CameBetween (pair_in ip header) ip header
came_in (Ip.Ipv4 v) header = record { source = refl; destination = refl; source_port = refl; destination_port = refl }
came_in (Ip.Ipv6 v) header = record { source = refl; destination = refl; source_port = refl; destination_port = refl }

arrived :
    (cx : ContextValue) (v w : TcpValue) (p q : Past) (k : Keeps v p w q) (mine theirs : Opening) (sent others : List SentSegment) (x : SentSegment)
    (answer : Option Reply) → p.opening ≡ mine → Among x others → accepts v.tcb x.header x.segment ≡ true
    → (arrives cx v x.header x.segment x.bytes).answer ≡ answer
    → Directs v mine sent (arrives cx v x.header x.segment x.bytes).socket mine (and_reply sent answer) theirs others
arrived cx v w p q k mine theirs sent others x answer first among accepts_it replied = record {
  own = λ d back. record {
    unopened = λ at. absurd (not_closed d back at);
    active = λ called pair named. all answer refl d called pair (pair_before pair named called);
    passive = λ listened pair named. by_names d back listened pair named renamed;
    returns = λ listened. all_back answer refl (d.returns listened);
    heard = λ called _ pair named. came_between called pair (pair_before pair named called) (is_for.connected (listens_not called));
    none = λ not theirs_not. none_among others x (back theirs_not not) among;
  };
  more = reply_list answer;
  grown = grows answer;
  stays = λ e. e;
}
  where
    new : TcpValue
    new = (arrives cx v x.header x.segment x.bytes).socket

    is_for : IsFor v.tcb x.header x.segment
    is_for = accepted v.tcb x.header x.segment accepts_it

    renamed : IsRenamed x.header x.segment v.tcb new.tcb
    renamed = arrival_names cx v x.header x.segment x.bytes

    reply_list : Option Reply → List SentSegment
    reply_list None = []
    reply_list (Some reply) = record { header = reply.header; segment = reply.segment; bytes = [] } ∷ []

    grows : (answer : Option Reply) → and_reply sent answer ≡ sent ++ reply_list answer
    grows None = sym (append-nil sent)
    grows (Some reply) = refl

    -- where neither called nothing was sent to it
    not_closed : IsDirected v mine sent theirs others → ((theirs ≡ Active → ⊥) → (mine ≡ Active → ⊥) → others ≡ []) → mine ≡ NotYet → ⊥
    not_closed d back at = clash (sym (unopened_closed v w p q k (first ∙ at)) ∙ is_for.opened)

    listens_not : mine ≡ Active → is_listening v.tcb.state ≡ false
    listens_not called = by (is_listening v.tcb.state) refl where
      by : (test : Bool) → is_listening v.tcb.state ≡ test → test ≡ false
      by true e = absurd (not_listening v.tcb.state v w p q k refl e (first ∙ called))
      by false e = refl

    pair_before : (pair : FourTuple) → new.tcb.names.pair ≡ Some pair → mine ≡ Active → v.tcb.names.pair ≡ Some pair
    pair_before pair named called = by renamed where
      by : IsRenamed x.header x.segment v.tcb new.tcb → v.tcb.names.pair ≡ Some pair
      by (inl opened) = clash (sym opened.listening ∙ listens_not called)
      by (inr (inl falls)) = absurd (no_pair pair (sym (ap (λ (n : Names). n.pair) falls.names) ∙ named))
      by (inr (inr (inl keeps))) = sym (ap (λ (n : Names). n.pair) keeps.names) ∙ named
      by (inr (inr (inr forgets))) = absurd (no_pair pair (sym (ap (λ (n : Names). n.pair) forgets.names) ∙ named))

    came_between :
        mine ≡ Active → (pair : FourTuple) → v.tcb.names.pair ≡ Some pair
        → (it : FourTuple) × (v.tcb.names.pair ≡ Some it) × CameBetween it x.header x.segment → Comes pair others
    came_between called pair named it = record {
      x = x;
      among = among;
      came = subst (λ (pair : FourTuple). CameBetween pair x.header x.segment) (one_pair it.0 pair (sym it.1 ∙ named)) it.2;
    }

    all :
        (a : Option Reply) → answer ≡ a → IsDirected v mine sent theirs others → mine ≡ Active → (pair : FourTuple) → v.tcb.names.pair ≡ Some pair
        → AllByRecursion (GoesFrom pair) (and_reply sent a)
    all None e d called pair named = d.active called pair named
    all (Some reply) e d called pair named =
        AllByRecursion-push (GoesFrom pair) sent (record { header = reply.header; segment = reply.segment; bytes = [] }) (d.active called pair named)
        (goes_back (is_for.connected (listens_not called)))
      where
        back : GoesBack x.header x.segment reply
        back = answer_back cx v x.header x.segment x.bytes reply (replied ∙ e)

        goes_back :
            (it : FourTuple) × (v.tcb.names.pair ≡ Some it) × CameBetween it x.header x.segment
            → GoesFrom pair (record { header = reply.header; segment = reply.segment; bytes = [] })
        goes_back it =
            let c = subst (λ (pair : FourTuple). CameBetween pair x.header x.segment) (one_pair it.0 pair (sym it.1 ∙ named)) it.2 in
            record {
              source = back.source ∙ c.destination;
              destination = back.destination ∙ c.source;
              source_port = back.source_port ∙ c.destination_port;
              destination_port = back.destination_port ∙ c.source_port;
            }

    all_back : (a : Option Reply) → answer ≡ a → AllByRecursion (GoesBackIn others) sent → AllByRecursion (GoesBackIn others) (and_reply sent a)
    all_back None e all = all
    all_back (Some reply) e all =
        AllByRecursion-push (GoesBackIn others) sent (record { header = reply.header; segment = reply.segment; bytes = [] }) all
        (record {
          to = x;
          among = among;
          source = back.source;
          destination = back.destination;
          source_port = back.source_port;
          destination_port = back.destination_port;
        })
      where
        back : GoesBack x.header x.segment reply
        back = answer_back cx v x.header x.segment x.bytes reply (replied ∙ e)

    -- a listener is opened by a peer that called
    by_names :
        IsDirected v mine sent theirs others → ((theirs ≡ Active → ⊥) → (mine ≡ Active → ⊥) → others ≡ []) → mine ≡ Passive → (pair : FourTuple)
        → new.tcb.names.pair ≡ Some pair → IsRenamed x.header x.segment v.tcb new.tcb → (theirs ≡ Active) × Comes pair others
    by_names d back listened pair named (inl opened) = (
      called theirs refl,
      record {
        x = x;
        among = among;
        came =
            subst (λ (pair : FourTuple). CameBetween pair x.header x.segment)
            (one_pair (pair_in x.header x.segment) pair (sym (ap (λ (n : Names). n.pair) opened.names) ∙ named)) (came_in x.header x.segment);
      },
    )
      where
        not_mine : mine ≡ Active → ⊥
        not_mine e = absurd (let clashes : Passive ≡ Active = sym listened ∙ e in cc)

        called : (opening : Opening) → theirs ≡ opening → theirs ≡ Active
        called Active e = e
        called NotYet e = none_among others x (back (λ (a : theirs ≡ Active). absurd (let clashes : NotYet ≡ Active = sym e ∙ a in cc)) not_mine) among
        called Passive e = none_among others x (back (λ (a : theirs ≡ Active). absurd (let clashes : Passive ≡ Active = sym e ∙ a in cc)) not_mine) among
    by_names d back listened pair named (inr (inl falls)) = absurd (no_pair pair (sym (ap (λ (n : Names). n.pair) falls.names) ∙ named))
    by_names d back listened pair named (inr (inr (inl keeps))) = d.passive listened pair (sym (ap (λ (n : Names). n.pair) keeps.names) ∙ named)
    by_names d back listened pair named (inr (inr (inr forgets))) = absurd (no_pair pair (sym (ap (λ (n : Names). n.pair) forgets.names) ∙ named))

-- EACH EVENT

send_opening : (bytes : List ℕ) (answer : PairAnswer) (p : Past) → (send_adds bytes answer p).opening ≡ p.opening
send_opening bytes Done p = refl
send_opening bytes (Count n) p = refl
send_opening bytes (Bytes more) p = refl
send_opening bytes (Error fault) p = refl

recv_opening : (answer : PairAnswer) (p : Past) → (recv_adds answer p).opening ≡ p.opening
recv_opening Done p = refl
recv_opening (Count n) p = refl
recv_opening (Bytes bytes) p = refl
recv_opening (Error fault) p = refl

close_opening : (closes : Bool) (p : Past) → (closed_by closes p).opening ≡ p.opening
close_opening true p = refl
close_opening false p = refl

module _ (s : PairSide) (w : TcpValue) (p q : Past) (others : List SentSegment) (k : Keeps s.socket (with_segments p s.sent) w (with_segments q others)) where
  abbrev DirectsTo : PairSide → Opening → Type 0
  DirectsTo new after = Directs s.socket p.opening s.sent new.socket after new.sent q.opening others

  kept : (new : TcpValue) (after : Opening) → after ≡ p.opening → (is_past new.tcb.state ≡ true → is_past s.socket.tcb.state ≡ true) →
      (new.tcb.names.pair ≡ s.socket.tcb.names.pair) ⊎ (new.tcb.names.pair ≡ None) →
      Directs s.socket p.opening s.sent new after s.sent q.opening others
  kept new after same past names = still s.socket new p.opening after s.sent q.opening others same past names

  called_not : p.opening ≡ NotYet → p.opening ≡ Active → ⊥
  called_not first called = absurd (let clashes : NotYet ≡ Active = sym first ∙ called in cc)

  listens : (endpoint : IpListenEndpoint) (after : Opening) → p.opening ≡ NotYet →
      Directs s.socket p.opening s.sent (listen_after s.socket endpoint) after s.sent q.opening others
  listens endpoint after first = record {
    own = λ d _.
        let unnamed = none (d.unopened first).1 in
        record {
          unopened = λ _. ((d.unopened first).0, unnamed);
          active = λ _ pair named. absurd (no_pair pair (sym unnamed ∙ named));
          passive = λ _ pair named. absurd (no_pair pair (sym unnamed ∙ named));
          returns = λ _. subst (λ (xs : List SentSegment). AllByRecursion (GoesBackIn others) xs) (sym (d.unopened first).0) tt;
          heard = λ _ _ pair named. absurd (no_pair pair (sym unnamed ∙ named));
          none = λ _ _. (d.unopened first).0;
        };
    more = [];
    grown = sym (append-nil s.sent);
    stays = λ called. absurd (called_not first called);
  }
    where
      none : s.socket.tcb.names.pair ≡ None → (listen_after s.socket endpoint).tcb.names.pair ≡ None
      none e =
          cond_both (is_closed s.socket.tcb.state && not (endpoint.port == 0)) (listening s.socket endpoint) (unoffered s.socket)
          (λ (new : TcpValue). new.tcb.names.pair ≡ None) (λ _. refl) (λ _. e)

  connected : (names : Option FourTuple) (number : ℕ) → p.opening ≡ NotYet →
      Directs s.socket p.opening s.sent (connected_by s.socket names number) (connect_adds (connect_says (found_answer names)) p).opening s.sent q.opening
      others
  connected None number first = kept (unoffered s.socket) p.opening refl (λ e. e) (inl refl)
  connected (Some pair) number first = record {
    own = λ d _. record {
      unopened = λ (e : Active ≡ NotYet). absurd (cc);
      active = λ _ it _. subst (λ (xs : List SentSegment). AllByRecursion (GoesFrom it) xs) (sym (d.unopened first).0) tt;
      passive = λ (e : Active ≡ Passive). absurd (cc);
      returns = λ (e : Active ≡ Passive). absurd (cc);
      heard = λ _ (e : false ≡ true). clash (sym e);
      none = λ not _. absurd (not refl);
    };
    more = [];
    grown = sym (append-nil s.sent);
    stays = λ _. refl;
  }

  connects : (cx : ContextValue) (remote : IpEndpoint) (local : IpListenEndpoint) → p.opening ≡ NotYet →
      Directs s.socket p.opening s.sent (connect_after cx s.socket remote local)
      (connect_adds (connect_says (connect_answer cx s.socket remote local)) p).opening s.sent q.opening others
  connects cx remote local first =
      subst (λ new. Directs s.socket p.opening s.sent new (connect_adds (connect_says (connect_answer cx s.socket remote local)) p).opening s.sent q.opening
      others)
      (sym (if_so (is_closed s.socket.tcb.state) (connected_by s.socket (four_tuple_for cx remote local) (number_for cx (four_tuple_for cx remote local)))
      (unoffered s.socket) closed))
      (subst (λ r. Directs s.socket p.opening s.sent (connected_by s.socket (four_tuple_for cx remote local) (number_for cx (four_tuple_for cx remote local)))
      (connect_adds (connect_says r) p).opening s.sent q.opening others)
      (sym (if_so (is_closed s.socket.tcb.state) (found_answer (four_tuple_for cx remote local)) _ closed))
      (connected (four_tuple_for cx remote local) (number_for cx (four_tuple_for cx remote local)) first))
    where
      closed : is_closed s.socket.tcb.state ≡ true
      closed = unopened_closed s.socket w (with_segments p s.sent) (with_segments q others) k first

  sends : (bytes : List ℕ) → Directs s.socket p.opening s.sent (send_after s.socket bytes)
      (send_adds bytes (send_says (send_answer s.socket (length bytes))) p).opening s.sent q.opening others
  sends bytes =
      kept (send_after s.socket bytes) (send_adds bytes (send_says (send_answer s.socket (length bytes))) p).opening
      (send_opening bytes (send_says (send_answer s.socket (length bytes))) p)
      (cond_both (takes_writes s.socket.tcb.state) _ (unoffered s.socket)
      (λ (new : TcpValue). is_past new.tcb.state ≡ true → is_past s.socket.tcb.state ≡ true) (λ _ e. e) (λ _ e. e))
      (inl (cond_both (takes_writes s.socket.tcb.state) _ (unoffered s.socket) (λ (new : TcpValue). new.tcb.names.pair ≡ s.socket.tcb.names.pair)
      (λ _. refl) (λ _. refl)))

  reads_on : (r : Result ℕ RecvError) → DirectsTo (reads s r).side (recv_adds (reads s r).answer p).opening
  reads_on (Ok n) = kept (reads s (Ok n)).side.socket _ (recv_opening (reads s (Ok n)).answer p) (λ e. e) (inl refl)
  reads_on (Err fault) = kept (unoffered s.socket) _ (recv_opening (reads s (Err fault)).answer p) (λ e. e) (inl refl)

  sets : (setting : Setting) → Directs s.socket p.opening s.sent (set_by setting s.socket) p.opening s.sent q.opening others
  sets (Set.Timeout duration) = kept (set_by (Set.Timeout duration) s.socket) p.opening refl (λ e. e) (inl refl)
  sets (Set.AckDelay duration) = kept (set_by (Set.AckDelay duration) s.socket) p.opening refl (λ e. e) (inl refl)
  sets (Set.KeepAlive interval) = kept (set_by (Set.KeepAlive interval) s.socket) p.opening refl (λ e. e) (inl refl)
  sets (Set.NagleEnabled enabled) = kept (set_by (Set.NagleEnabled enabled) s.socket) p.opening refl (λ e. e) (inl refl)
  sets (Set.HopLimit limit) = kept (set_by (Set.HopLimit limit) s.socket) p.opening refl (λ e. e) (inl refl)
  sets (Set.TsvalGenerator generator) = kept (set_by (Set.TsvalGenerator generator) s.socket) p.opening refl (λ e. e) (inl refl)
  sets (Set.CongestionControl control) = kept (set_by (Set.CongestionControl control) s.socket) p.opening refl (λ e. e) (inl refl)
  sets (Set.PauseSynack paused) = kept (set_by (Set.PauseSynack paused) s.socket) p.opening refl (λ e. e) (inl refl)
  sets (Set.Retries limit) = kept (set_by (Set.Retries limit) s.socket) p.opening refl (λ e. e) (inl refl)
  sets (Set.MinRto duration) = kept (set_by (Set.MinRto duration) s.socket) p.opening refl (λ e. e) (inl refl)
  sets (Set.FineTimer fine) = kept (set_by (Set.FineTimer fine) s.socket) p.opening refl (λ e. e) (inl refl)

  comes_to_it : (side : Side) (n : ℕ) (x : Option SentSegment) → slice_get others n ≡ x → DirectsTo (handed side s x) p.opening
  comes_to_it side n None e = kept s.socket p.opening refl (λ e. e) (inl refl)
  comes_to_it side n (Some x) e =
      at (accepts s.socket.tcb x.header x.segment) refl
    where
      at : (test : Bool) → accepts s.socket.tcb x.header x.segment ≡ test →
          DirectsTo (if test then taken_at s (arrives (context_at side s) s.socket x.header x.segment x.bytes) else s) p.opening
      at true takes =
          arrived (context_at side s) s.socket w (with_segments p s.sent) (with_segments q others) k p.opening q.opening s.sent others x
          (arrives (context_at side s) s.socket x.header x.segment x.bytes).answer refl (among_at others n x e) takes refl
      at false not = kept s.socket p.opening refl (λ e. e) (inl refl)

  directs : (event : PairEvent) → IsAllowed event p →
      DirectsTo (acts s others event).side (adds event (acts s others event).answer s.socket.tcb.state p).opening
  directs (Listen side endpoint) allowed = listens endpoint _ allowed
  directs (Connect side remote local) allowed = connects (context_at side s) remote local allowed
  directs (Send side bytes) allowed = sends bytes
  directs (Recv side count) allowed = reads_on (recv_answer s.socket count)
  directs (Close side) allowed =
      kept (close_after s.socket) _ (close_opening (closes_in s.socket.tcb.state) p) (close_past s.socket)
      (pairs_kept s.socket.tcb (close_after s.socket).tcb (close_names s.socket))
  directs (Abort side) allowed =
      kept (abort_after s.socket) p.opening refl (abort_past s.socket) (pairs_kept s.socket.tcb (abort_after s.socket).tcb (abort_names s.socket))
  directs (TcpSetting side setting) allowed = sets setting
  directs (Clock side instant) allowed = kept s.socket p.opening refl (λ e. e) (inl refl)
  directs (Offer side instant true) allowed =
      let cx = context_at side (record s { instant = instant }) in
      offered cx s.socket p.opening q.opening s.sent others (offer_of cx s.socket).socket.offered (offer_of cx s.socket).socket.queued.queue refl
  directs (Offer side instant false) allowed =
      let cx = context_at side (record s { instant = instant }) in
      kept (settled false (offer_of cx s.socket).socket) p.opening refl (withheld_past cx s.socket)
      (pairs_left s.socket.tcb (settled false (offer_of cx s.socket).socket).tcb (withheld_names cx s.socket))
  directs (Deliver from n) allowed = comes_to_it (other from) n (slice_get others n) refl

-- and its peer
beside :
    (v new w : TcpValue) (mine after theirs : Opening) (sent gone others : List SentSegment) → Directs v mine sent new after gone theirs others
    → IsDirected w theirs others mine sent → IsDirected w theirs others after gone
beside v new w mine after theirs sent gone others m d = record {
  unopened = d.unopened;
  active = d.active;
  passive = λ listened pair named.
      let it = d.passive listened pair named in (m.stays it.0, comes_still pair it.1);
  returns = λ listened. AllByRecursion-map (GoesBackIn sent) (GoesBackIn gone) back_still others (d.returns listened);
  heard = λ called on pair named. comes_still pair (d.heard called on pair named);
  none = λ not theirs_not. d.none not (λ called. theirs_not (m.stays called));
}
  where
    among_still : (x : SentSegment) → Among x sent → Among x gone
    among_still x among = subst (λ (xs : List SentSegment). Among x xs) (sym m.grown) (among_more x sent m.more among)

    comes_still : (pair : FourTuple) → Comes pair sent → Comes pair gone
    comes_still pair it = record { x = it.x; among = among_still it.x it.among; came = it.came }

    back_still : (x : SentSegment) → GoesBackIn sent x → GoesBackIn gone x
    back_still x it = record {
      to = it.to;
      among = among_still it.to it.among;
      source = it.source;
      destination = it.destination;
      source_port = it.source_port;
      destination_port = it.destination_port;
    }

-- A PAIR

record BothDirected (sides : Both PairSide) (ps : Both Past) : Type 0 where
  a : IsDirected sides.a.socket ps.a.opening sides.a.sent ps.b.opening sides.b.sent
  b : IsDirected sides.b.socket ps.b.opening sides.b.sent ps.a.opening sides.a.sent

abbrev DirectedIn : Both PairSide → Both Past → Side → Side → Type 0
DirectedIn sides ps side peer_side =
    IsDirected (at sides side).socket (at ps side).opening (at sides side).sent (at ps peer_side).opening (at sides peer_side).sent

side_directed : (sides : Both PairSide) (ps : Both Past) (side : Side) → BothDirected sides ps → DirectedIn sides ps side (other side)
side_directed sides ps A b = b.a
side_directed sides ps B b = b.b

peer_side_directed : (sides : Both PairSide) (ps : Both Past) (side : Side) → BothDirected sides ps → DirectedIn sides ps (other side) side
peer_side_directed sides ps A b = b.b
peer_side_directed sides ps B b = b.a

put_directed :
    (side : Side) (sides : Both PairSide) (ps : Both Past) (x : PairSide) (p : Past)
    → IsDirected x.socket p.opening x.sent (at ps (other side)).opening (at sides (other side)).sent
    → IsDirected (at sides (other side)).socket (at ps (other side)).opening (at sides (other side)).sent p.opening x.sent
    → BothDirected (put sides side x) (put ps side p)
put_directed A sides ps x p own theirs = record { a = own; b = theirs }
put_directed B sides ps x p own theirs = record { a = theirs; b = own }

directed_after : (p : PairValue) (event : PairEvent) → IsKept p → refusal p event ≡ None → BothDirected p.sides (pasts p.history) →
    BothDirected (happens p event).pair.sides (pasts (happens p event).pair.history)
directed_after p event k allowed b =
    put_directed side p.sides (pasts p.history) (acting p event).side
    (adds event (acting p event).answer (at p.sides side).socket.tcb.state (at (pasts p.history) side))
    (m.own mine theirs.none)
    (beside _ _ _ _ _ _ _ _ _ m theirs)
  where
    side : Side
    side = side_of event

    mine : DirectedIn p.sides (pasts p.history) side (other side)
    mine = side_directed p.sides (pasts p.history) side b

    theirs : DirectedIn p.sides (pasts p.history) (other side) side
    theirs = peer_side_directed p.sides (pasts p.history) side b

    m : Directs (at p.sides side).socket (at (pasts p.history) side).opening (at p.sides side).sent (acting p event).side.socket
        (adds event (acting p event).answer (at p.sides side).socket.tcb.state (at (pasts p.history) side)).opening (acting p event).side.sent
        (at (pasts p.history) (other side)).opening (at p.sides (other side)).sent
    m =
        directs (at p.sides side) (at p.sides (other side)).socket (at (pasts p.history) side) (at (pasts p.history) (other side))
        (at p.sides (other side)).sent (keeps_of p side k) event (is_allowed p event allowed)

directed_steps : (p : PairValue) (events : List PairEvent) (new : PairValue) → IsKept p → BothDirected p.sides (pasts p.history) → Steps p events new →
    BothDirected new.sides (pasts new.history)
directed_steps p [] new k b steps = subst (λ (p : PairValue). BothDirected p.sides (pasts p.history)) (sym steps) b
directed_steps p (event ∷ events) new k b steps =
    directed_steps (happens p event).pair events new (kept_after p event k steps.0) (directed_after p event k steps.0 b) steps.1

new_directed : (v : TcpValue) → v.tcb.names.pair ≡ None → IsDirected v NotYet [] NotYet []
new_directed v unnamed = record {
  unopened = λ _. (refl, unnamed);
  active = λ (e : NotYet ≡ Active). absurd (cc);
  passive = λ (e : NotYet ≡ Passive). absurd (cc);
  returns = λ (e : NotYet ≡ Passive). absurd (cc);
  heard = λ (e : NotYet ≡ Active). absurd (cc);
  none = λ _ _. refl;
}

reached_directed : (p : PairValue) → IsReached p → BothDirected p.sides (pasts p.history)
reached_directed p r =
    directed_steps (both_started r.a r.b) r.events p (started_kept r.a r.b)
    (record { a = new_directed (new_socket r.a.room r.a.ring) refl; b = new_directed (new_socket r.b.room r.b.ring) refl }) r.steps

-- THE ENDPOINTS MIRROR EACH OTHER

-- a segment came between the endpoints of one, and the other sends between its own
mirrored_by :
    (v w : TcpValue) (sent : List SentSegment) (own far : FourTuple) → v.tcb.names.pair ≡ Some own → w.tcb.names.pair ≡ Some far
    → Comes own sent → AllByRecursion (GoesFrom far) sent → AreMirrored v.tcb w.tcb
mirrored_by v w sent own far named peer_side_named it goes =
    let c = it.came in
    let g = all_among (GoesFrom far) sent it.x goes it.among in
    record {
      own = own;
      theirs = far;
      named = named;
      peer_side_named = peer_side_named;
      local = sym c.destination ∙ g.destination;
      remote = sym c.source ∙ g.source;
      local_port = sym c.destination_port ∙ g.destination_port;
      remote_port = sym c.source_port ∙ g.source_port;
    }

pub turned : (a b : Tcb) → AreMirrored a b → AreMirrored b a
turned a b m = record {
  own = m.theirs;
  theirs = m.own;
  named = m.peer_side_named;
  peer_side_named = m.named;
  local = sym m.remote;
  remote = sym m.local;
  local_port = sym m.remote_port;
  remote_port = sym m.local_port;
}

-- past SYN-SENT, whichever of the two called
mirrored_past :
    (v w : TcpValue) (mine theirs : Opening) (sent others : List SentSegment) (own far : FourTuple) → IsDirected v mine sent theirs others
    → IsDirected w theirs others mine sent → is_past v.tcb.state ≡ true → v.tcb.names.pair ≡ Some own → w.tcb.names.pair ≡ Some far
    → AreMirrored v.tcb w.tcb
mirrored_past v w mine theirs sent others own far d e on named peer_side_named = by mine theirs refl refl where
  by : (a b : Opening) → mine ≡ a → theirs ≡ b → AreMirrored v.tcb w.tcb
  by NotYet b first second = absurd (no_pair own (sym (d.unopened first).1 ∙ named))
  by Passive b first second =
      let it = d.passive first own named in mirrored_by v w others own far named peer_side_named it.1 (e.active it.0 far peer_side_named)
  by Active NotYet first second = absurd (no_pair far (sym (e.unopened second).1 ∙ peer_side_named))
  by Active Passive first second =
      turned w.tcb v.tcb
      (mirrored_by w v sent far own peer_side_named named (e.passive second far peer_side_named).1 (d.active first own named))
  by Active Active first second =
      mirrored_by v w others own far named peer_side_named (d.heard first on own named) (e.active second far peer_side_named)

named_there : (p : PairValue) (side : Side) → IsReached p → is_over (socket_of p side).tcb.state ≡ false →
    (pair : FourTuple) × ((socket_of p side).tcb.names.pair ≡ Some pair)
named_there p side r on =
    some_pair (socket_of p side).tcb.names.pair
    ((ready_side p side r).named (neither (is_closed (socket_of p side).tcb.state) (is_listening (socket_of p side).tcb.state) on).0
    (neither (is_closed (socket_of p side).tcb.state) (is_listening (socket_of p side).tcb.state) on).1)
  where
    neither : (a b : Bool) → (a || b) ≡ false → (a ≡ false) × (b ≡ false)
    neither true b e = clash e
    neither false b e = (refl, e)

heard_past : (state : State) → has_heard state ≡ true → is_past state ≡ true
heard_past In.Closed e = clash (sym e)
heard_past In.Listen e = clash (sym e)
heard_past In.SynSent e = clash (sym e)
heard_past other e = refl

past_there : (state : State) → is_past state ≡ true → is_over state ≡ false
past_there In.Closed e = clash (sym e)
past_there In.Listen e = clash (sym e)
past_there other e = refl

-- one side is past SYN-SENT, and the other has endpoints
pub reached_mirrored :
    (p : PairValue) (side : Side) → IsReached p → has_heard (socket_of p side).tcb.state ≡ true
    → is_over (socket_of p (other side)).tcb.state ≡ false → AreMirrored (socket_of p side).tcb (socket_of p (other side)).tcb
reached_mirrored p side r mine theirs =
    let b = reached_directed p r in
    let on = heard_past (socket_of p side).tcb.state mine in
    let own = named_there p side r (past_there (socket_of p side).tcb.state on) in
    let far = named_there p (other side) r theirs in
    mirrored_past (socket_of p side) (socket_of p (other side)) _ _ _ _ own.0 far.0 (side_directed p.sides (pasts p.history) side b)
    (peer_side_directed p.sides (pasts p.history) side b) on own.1 far.1

-- or the other is past SYN-SENT, and this one has endpoints
pub mirrored_back :
    (p : PairValue) (side : Side) → IsReached p → has_heard (socket_of p (other side)).tcb.state ≡ true
    → is_over (socket_of p side).tcb.state ≡ false → AreMirrored (socket_of p side).tcb (socket_of p (other side)).tcb
mirrored_back p A r theirs mine = turned p.sides.b.socket.tcb p.sides.a.socket.tcb (reached_mirrored p B r theirs mine)
mirrored_back p B r theirs mine = turned p.sides.a.socket.tcb p.sides.b.socket.tcb (reached_mirrored p A r theirs mine)

later_heard : (state : State) → is_synchronized state ≡ true → has_heard state ≡ true
later_heard In.Closed e = clash (sym e)
later_heard In.Listen e = clash (sym e)
later_heard In.SynSent e = clash (sym e)
later_heard other e = refl

later_past : (state : State) → is_synchronized state ≡ true → is_past state ≡ true
later_past In.Closed e = clash (sym e)
later_past In.Listen e = clash (sym e)
later_past In.SynSent e = clash (sym e)
later_past other e = refl

-- of a connection
pub named_in : (p : PairValue) (side : Side) → IsReached p → is_synchronized (socket_of p side).tcb.state ≡ true →
    (pair : FourTuple) × ((socket_of p side).tcb.names.pair ≡ Some pair)
named_in p side r on =
    named_there p side r (past_there (socket_of p side).tcb.state (later_past (socket_of p side).tcb.state on))

-- two connections
pub connected_mirrored :
    (p : PairValue) (side : Side) → IsReached p → is_synchronized (socket_of p side).tcb.state ≡ true
    → is_synchronized (socket_of p (other side)).tcb.state ≡ true
    → AreMirrored (socket_of p side).tcb (socket_of p (other side)).tcb
connected_mirrored p side r mine theirs =
    reached_mirrored p side r (later_heard (socket_of p side).tcb.state mine)
    (past_there (socket_of p (other side)).tcb.state (later_past (socket_of p (other side)).tcb.state theirs))

-- WHATEVER A SIDE EVER SENT

-- goes between the endpoints of the other
came_by :
    (v w : TcpValue) (mine theirs : Opening) (sent others : List SentSegment) (x : SentSegment) (m : AreMirrored v.tcb w.tcb)
    → IsDirected v mine sent theirs others → IsDirected w theirs others mine sent → Among x sent → CameBetween m.theirs x.header x.segment
came_by v w mine theirs sent others x m d e among = by mine refl where
  by : (a : Opening) → mine ≡ a → CameBetween m.theirs x.header x.segment
  by NotYet first = none_among sent x (d.unopened first).0 among
  by Passive first =
      let back = all_among (GoesBackIn others) sent x (d.returns first) among in
      let g = all_among (GoesFrom m.theirs) others back.to (e.active (d.passive first m.own m.named).0 m.theirs m.peer_side_named) back.among in
      record {
        source = back.source ∙ g.destination;
        destination = back.destination ∙ g.source;
        source_port = back.source_port ∙ g.destination_port;
        destination_port = back.destination_port ∙ g.source_port;
      }
  by Active first =
      let g = all_among (GoesFrom m.own) sent x (d.active first m.own m.named) among in
      record {
        source = g.source ∙ m.local;
        destination = g.destination ∙ m.remote;
        source_port = g.source_port ∙ m.local_port;
        destination_port = g.destination_port ∙ m.remote_port;
      }

pub came_between_theirs :
    (p : PairValue) (side : Side) (k : ℕ) (x : SentSegment) (m : AreMirrored (socket_of p side).tcb (socket_of p (other side)).tcb) → IsReached p
    → slice_get (at p.sides side).sent k ≡ Some x → CameBetween m.theirs x.header x.segment
came_between_theirs p side k x m r sent =
    let b = reached_directed p r in
    came_by (socket_of p side) (socket_of p (other side)) _ _ _ _ x m (side_directed p.sides (pasts p.history) side b)
    (peer_side_directed p.sides (pasts p.history) side b) (among_at (at p.sides side).sent k x sent)
