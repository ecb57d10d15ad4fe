-- What is kept of both hosts, and that each move keeps it.
use Rattle.std.proofs.Common.{◌≡◌, ◌≢◌, ◌⊎◌, inl, inr, ℕ, List, ◌∷◌, map, Option, Some, None, Result, Ok, Err, refl}
use Rattle.std.proofs.Common.{sym, ap, ◌∙◌, subst}
use Rattle.std.specs.Prelude.{slice_set, slice_index_or}
use Rattle.std.proofs.lemmas.Bool.{ne_eqb}
use Rattle.std.proofs.Math.Seq.{map-set_same}
use Rattle.std.proofs.Math.ListN.{get_or-map}
use Rattle.sockets.specs.Context.{ContextValue}
use Rattle.socket_datagram.specs.Udp.{UdpValue}
use Rattle.tcp_refinement.specs.Host.{past_at}
use Rattle.tcp_refinement.proofs.AnsweredLaws.{read_to_the_end}
use Rattle.tcp_refinement.proofs.PromiseLemmas.{keeps_turned, alone_nothing}
use Rattle.tcp_block.specs.RecvError.{RecvError}
use Rattle.tcp_block.specs.RecvError.TheVariants as Recv
use Rattle.tcp_block.specs.Calls.{recv_answer}
use Rattle.tcp_block.specs.Value.{TcpValue}
use Rattle.lan.specs.declared.at_link.history.answer.Answer.{Answer}
use Rattle.lan.specs.declared.at_link.history.answer.Answer.TheVariants as To
use Rattle.lan.specs.declared.at_link.history.event.Side.{Side}
use Rattle.lan.specs.declared.at_link.history.event.Side.TheVariants.{A, B}
use Rattle.lan.specs.declared.at_link.history.record.Opening.{Opening}
use Rattle.lan.specs.declared.at_link.history.record.SocketKind.{SocketKind}
use Rattle.lan.specs.declared.at_link.history.record.SocketKind.TheVariants as Of
use Rattle.lan.specs.Worlds.AtLink.Call as Call
use Rattle.lan.specs.Worlds.AtLink.Call.{SocketCall}
use Rattle.lan.specs.Worlds.AtLink.Kinds.{other, Kind, kind_of, calls}
use Rattle.lan.specs.Worlds.AtLink.Kinds.Act.{Calls}
use Rattle.lan.specs.Worlds.AtLink.Kinds.Kind.{OfHost}
use Rattle.lan.specs.Worlds.AtLink.History.{Entry, call_of, call_in, opening}
use Rattle.lan.specs.Worlds.AtLink.PeerSides.{ArePartners}
use Rattle.lan.specs.Worlds.AtLink.Reads.{ReadWasAccepted, ReadsWereAccepted, HasEnded, EndWasTrue, EndsWereTrue}
use Rattle.lan.specs.Worlds.AtLink.Tables.{Slots, kinds, IsAllowed, AreAllowed}
use Rattle.lan.proofs.Worlds.AtLink.PeerSideLemmas.{paired_turned}
use Rattle.lan.proofs.Worlds.AtLink.PeerSideLemmas.{opening_stays}
use Rattle.lan.proofs.Worlds.AtLink.CallLemmas.{call_at_other_side, call_at_other_slot}
use Rattle.lan.specs.Worlds.AtLink.Calls.{bytes_or, tcp_does, udp_does}
use Rattle.lan.specs.Worlds.AtLink.Moves.{DoneBy, Does, IsOfOthers, IsNoCall, with_socket}
use Rattle.lan.proofs.Worlds.AtLink.Found.{opened_tcp, find_peer_side}
use Rattle.lan.specs.Worlds.AtLink.Parties.{Socket, Party, kind_in, kind_of_socket, socket_at}
use Rattle.lan.specs.Worlds.AtLink.Parties.Socket.{Tcp, Udp, Icmp, Raw}
use Rattle.lan.specs.Worlds.AtLink.Paired.{told}
use Rattle.lan.proofs.Worlds.AtLink.StreamInvariant.{StreamsOk, PairsOk}
use Rattle.lan.proofs.Worlds.AtLink.DatagramInvariant.{UdpOk, DatagramsOk}
use Rattle.lan.proofs.Worlds.AtLink.DatagramCalls.{udp_called}
use Rattle.lan.proofs.Worlds.AtLink.DatagramMoves.{datagrams_called, datagrams_grown}
use Rattle.lan.proofs.Worlds.AtLink.HostSteps.{HostSteps, streams_step, streams_far, pairs_step, segments_stay, told_left, opening_left}
use Rattle.lan.proofs.Worlds.AtLink.Exchange.{exchange_other, all_kept}
use Rattle.lan.proofs.Worlds.AtLink.CallSteps.{leaves_call}
use Rattle.lan.proofs.Worlds.AtLink.StreamCalls.{tcp_called, nothing_to_read, not_finished}

-- one host's own parts
pub record HostOk (starts : Side → ℕ → ℕ) (slots : Slots) (h : List Entry) (side : Side) (p : Party) : Type 0 where
  pub of_kinds : map kind_in p.sockets ≡ kinds slots side
  pub datagrams : DatagramsOk starts h side p
  pub streams : StreamsOk h side p

-- what is kept, seen from one of the hosts
pub record KeptFrom (starts : Side → ℕ → ℕ) (slots : Slots) (h : List Entry) (side : Side) (p q : Party) : Type 0 where
  pub allowed : AreAllowed slots h
  pub mine : HostOk starts slots h side p
  pub theirs : HostOk starts slots h (other side) q
  pub pairs : PairsOk h side p q
  pub reads : ReadsWereAccepted starts h
  pub ends : EndsWereTrue h

pairs_turned : (h : List Entry) (side : Side) (p q : Party) → PairsOk h side p q → PairsOk h (other side) q p
pairs_turned h A p q k = λ j i w v a is_w is_v.
    let b : ArePartners h A i j =
    record { one = a.another; another = a.one; opened = a.peer_side_opened; peer_side_opened = a.opened; paired = paired_turned a.one a.another a.paired } in
    keeps_turned v w (past_at a.another.local p.segments (told h A i)) (past_at a.one.local q.segments (told h B j)) (k i j v w b is_v is_w)
pairs_turned h B p q k = λ j i w v a is_w is_v.
    let b : ArePartners h B i j =
    record { one = a.another; another = a.one; opened = a.peer_side_opened; peer_side_opened = a.opened; paired = paired_turned a.one a.another a.paired } in
    keeps_turned v w (past_at a.another.local p.segments (told h B i)) (past_at a.one.local q.segments (told h A j)) (k i j v w b is_v is_w)

-- and from the other
pub kept_turned : (starts : Side → ℕ → ℕ) (slots : Slots) (h : List Entry) (side : Side) (p q : Party) → KeptFrom starts slots h side p q →
    KeptFrom starts slots h (other side) q p
kept_turned starts slots h A p q k =
    record { allowed = k.allowed; mine = k.theirs; theirs = k.mine; pairs = pairs_turned h A p q k.pairs; reads = k.reads; ends = k.ends }
kept_turned starts slots h B p q k =
    record { allowed = k.allowed; mine = k.theirs; theirs = k.mine; pairs = pairs_turned h B p q k.pairs; reads = k.reads; ends = k.ends }

-- THE KINDS OF SOCKETS

-- a socket is exchanged for one of its kind
pub kinds_set : (p : Party) (at : ℕ) (old new : Socket) → socket_at p at ≡ Some old → kind_of_socket new ≡ kind_of_socket old →
    map kind_in (slice_set p.sockets at (Some new)) ≡ map kind_in p.sockets
kinds_set p at old new is same =
    map-set_same kind_in p.sockets at (Some new) None (ap (λ (k : SocketKind). Some k) same ∙ ap kind_in (sym is))

kind_here : (sockets : List (Option Socket)) (i : ℕ) → slice_index_or (map kind_in sockets) i None ≡ kind_in (slice_index_or sockets i None)
kind_here sockets i = get_or-map kind_in sockets i None

is_tcp : (s : Option Socket) → kind_in s ≡ Some Of.Tcp → (v : TcpValue) × (s ≡ Some (Tcp v))
is_tcp None e = absurd (cc)
is_tcp (Some (Tcp v)) e = (v, refl)
is_tcp (Some (Udp v)) e = absurd (cc)
is_tcp (Some Icmp) e = absurd (cc)
is_tcp (Some Raw) e = absurd (cc)

-- at an opened slot there is a TCP socket
pub opened_there :
    (starts : Side → ℕ → ℕ) (slots : Slots) (h : List Entry) (side : Side) (p : Party) (i : ℕ) (o : Opening) → AreAllowed slots h →
    HostOk starts slots h side p
    → opening h side i ≡ Some o → (v : TcpValue) × (socket_at p i ≡ Some (Tcp v))
opened_there starts slots h side p i o allowed k opened =
    is_tcp (socket_at p i)
    (sym (kind_here p.sockets i) ∙ ap (λ (all : List (Option SocketKind)). slice_index_or all i None) k.of_kinds ∙ opened_tcp slots h side i o allowed opened)

-- A STEP, put together

pub kept_step :
    (starts : Side → ℕ → ℕ) (slots : Slots) (h h' : List Entry) (side : Side) (p p' q : Party) → KeptFrom starts slots h side p q
    → AreAllowed slots h' → map kind_in p'.sockets ≡ map kind_in p.sockets → DatagramsOk starts h' side p' → DatagramsOk starts h' (other side) q →
    HostSteps h h' side p p' q
    → ReadsWereAccepted starts h' → EndsWereTrue h' → KeptFrom starts slots h' side p' q
kept_step starts slots h h' side p p' q k allowed same datagrams far steps reads ends = record {
  allowed = allowed;
  mine = record { of_kinds = same ∙ k.mine.of_kinds; datagrams = datagrams; streams = streams_step h h' side p p' q steps k.mine.streams };
  theirs = record { of_kinds = k.theirs.of_kinds; datagrams = far; streams = streams_far h h' side p p' q steps k.theirs.streams };
  pairs = pairs_step h h' side p p' q steps k.pairs;
  reads = reads;
  ends = ends;
}

-- with the history as it was
pub kept_still :
    (starts : Side → ℕ → ℕ) (slots : Slots) (h : List Entry) (side : Side) (p p' q : Party) → KeptFrom starts slots h side p q
    → map kind_in p'.sockets ≡ map kind_in p.sockets → DatagramsOk starts h side p' → HostSteps h h side p p' q → KeptFrom starts slots h side p' q
kept_still starts slots h side p p' q k same datagrams steps =
    kept_step starts slots h h side p p' q k k.allowed same datagrams k.theirs.datagrams steps k.reads k.ends

-- THE END OF A STREAM

pub finished :
    (starts : Side → ℕ → ℕ) (slots : Slots) (h : List Entry) (side : Side) (p q : Party) (at : ℕ) (v : TcpValue) (limit : ℕ) →
    KeptFrom starts slots h side p q
    → socket_at p at ≡ Some (Tcp v) → recv_answer v limit ≡ Err Recv.Finished → HasEnded h side at
finished starts slots h side p q at v limit k is end = by (opening h side at) refl where
  with_peer_side : (j : ℕ) → ArePartners h side at j → HasEnded h side at
  with_peer_side j a =
      let there = opened_there starts slots h (other side) q j a.another k.allowed k.theirs a.peer_side_opened in
      let keeps = k.pairs at j v there.0 a is there.1 in
      let all = read_to_the_end v there.0 (past_at a.one.local p.segments (told h side at)) (past_at a.another.local q.segments (told h (other side) j)) limit
      keeps end in
      record { peer_side = j; peer_sides = a; closed = all.0; complete = all.1 }

  found : (o : Opening) → opening h side at ≡ Some o → ((j : ℕ) × ArePartners h side at j) ⊎ ((j : ℕ) → ¬ (ArePartners h side at j)) → HasEnded h side at
  found o opened (inl peer_side) = with_peer_side peer_side.0 peer_side.1
  found o opened (inr lone) =
      let nothing = alone_nothing v (past_at o.local p.segments (told h side at)) ((k.mine.streams.sockets at v is).alone o opened lone) in
      absurd (not_finished v limit nothing.unfinished end)

  by : (o : Option Opening) → opening h side at ≡ o → HasEnded h side at
  by None none =
      let u = (k.mine.streams.sockets at v is).untouched none in
      absurd (let clash : Err Recv.InvalidState ≡ Err Recv.Finished = sym (nothing_to_read h side at v limit u) ∙ end in cc)
  by (Some o) opened = found o opened (find_peer_side slots h side at o k.allowed opened)

-- CALLS

module _ (starts : Side → ℕ → ℕ) (slots : Slots) (h : List Entry) (e : Entry) (side : Side) (p q : Party) (at : ℕ) (call : SocketCall)
    (kind : kind_of e.event ≡ calls side at call)
    (k : KeptFrom starts slots h side p q) (allowed : IsAllowed slots h (kind_of e.event)) where
  others_none : (i : ℕ) → i ≢ at → call_of e side i ≡ None
  others_none i apart = call_at_other_slot e side at i call kind (ne_eqb at i (λ same. apart (sym same)))

  far_grown : DatagramsOk starts (e ∷ h) (other side) q
  far_grown = datagrams_grown starts h e (other side) q (λ j. call_at_other_side e side at j call kind) k.theirs.datagrams

  reads_now : ReadWasAccepted starts h (calls side at call) e.answer → ReadsWereAccepted starts (e ∷ h)
  reads_now now = (subst (λ (kind : Kind). ReadWasAccepted starts h kind e.answer) (sym kind) now, k.reads)

  ends_now : EndWasTrue h (calls side at call) e.answer → EndsWereTrue (e ∷ h)
  ends_now now = (subst (λ (kind : Kind). EndWasTrue h kind e.answer) (sym kind) now, k.ends)

  tcp_reads : (cx : ContextValue) (v new : TcpValue) (c : SocketCall) → DoneBy (tcp_does cx v c) e.answer e.found new →
      ReadWasAccepted starts h (calls side at c) e.answer
  tcp_reads cx v new (Call.RecvFrom limit) done = absurd (done)
  tcp_reads cx v new c done = tt

  end_by : (v : TcpValue) (limit : ℕ) (r : Result ℕ RecvError) → socket_at p at ≡ Some (Tcp v) → recv_answer v limit ≡ r →
      EndWasTrue h (calls side at (Call.Recv limit)) (bytes_or v r)
  end_by v limit (Ok n) is e = tt
  end_by v limit (Err Recv.InvalidState) is e = tt
  end_by v limit (Err Recv.Finished) is e = finished starts slots h side p q at v limit k is e

  tcp_ends : (cx : ContextValue) (v new : TcpValue) (c : SocketCall) → socket_at p at ≡ Some (Tcp v) → DoneBy (tcp_does cx v c) e.answer e.found new →
      EndWasTrue h (calls side at c) e.answer
  tcp_ends cx v new (Call.Recv limit) is done =
      subst (EndWasTrue h (calls side at (Call.Recv limit))) (sym done.0) (end_by v limit (recv_answer v limit) is refl)
  tcp_ends cx v new c is done = tt

  tcp_invoked : (cx : ContextValue) (v new : TcpValue) → socket_at p at ≡ Some (Tcp v) → DoneBy (tcp_does cx v call) e.answer e.found new →
      KeptFrom starts slots (e ∷ h) side (with_socket p at (Tcp new)) q
  tcp_invoked cx v new is done =
      kept_step starts slots h (e ∷ h) side p (with_socket p at (Tcp new)) q k (allowed, k.allowed) (kinds_set p at (Tcp v) (Tcp new) is refl)
      (datagrams_called starts h e side p at (Tcp new) others_none (λ v e. absurd (cc)) k.mine.datagrams) far_grown
      (tcp_called slots h e side p q at v new (allowed, k.allowed) is k.mine.streams k.theirs.streams k.pairs cx call kind done)
      (reads_now (tcp_reads cx v new call done)) (ends_now (tcp_ends cx v new call is done))

  other_steps : (new : Socket) → ((v : TcpValue) → new ≢ Tcp v) → HostSteps h (e ∷ h) side p (with_socket p at new) q
  other_steps new no_tcp =
      exchange_other h (e ∷ h) side p q at (leaves_call h e side at call kind)
      (segments_stay h (e ∷ h) side p.segments (leaves_call h e side at call kind).stay k.mine.streams.made) p.datagrams new no_tcp

  udp_ends : (v new : UdpValue) (c : SocketCall) → DoneBy (udp_does v c) e.answer e.found new → EndWasTrue h (calls side at c) e.answer
  udp_ends v new (Call.Recv limit) done = absurd (done)
  udp_ends v new c done = tt

  udp_invoked : (v new : UdpValue) → socket_at p at ≡ Some (Udp v) → DoneBy (udp_does v call) e.answer e.found new →
      KeptFrom starts slots (e ∷ h) side (with_socket p at (Udp new)) q
  udp_invoked v new is done =
      let called = udp_called starts h e side at v new call kind done (k.mine.datagrams.sockets at v is) in
      kept_step starts slots h (e ∷ h) side p (with_socket p at (Udp new)) q k (allowed, k.allowed) (kinds_set p at (Udp v) (Udp new) is refl)
      (datagrams_called starts h e side p at (Udp new) others_none (λ v' same. subst (UdpOk starts (e ∷ h) side at) (same_udp new v' same) called.ok)
      k.mine.datagrams) far_grown
      (other_steps (Udp new) (λ v e. absurd (cc))) (reads_now called.read) (ends_now (udp_ends v new call done))
    where
      same_udp : (v w : UdpValue) → Udp v ≡ Udp w → v ≡ w
      same_udp v w e = cc

  others_reads : (c : SocketCall) (answer : Answer) → IsOfOthers c answer → ReadWasAccepted starts h (calls side at c) answer
  others_reads (Call.RecvFrom limit) (To.FromEndpoint remote bytes) of = absurd (of)
  others_reads (Call.RecvFrom limit) answer of = tt
  others_reads c answer of = tt

  others_ends : (c : SocketCall) (answer : Answer) → IsOfOthers c answer → EndWasTrue h (calls side at c) answer
  others_ends (Call.Recv limit) answer of = absurd (of)
  others_ends c answer of = tt

  -- a socket of another kind
  other_invoked : (new : Socket) → ((v : TcpValue) → new ≢ Tcp v) → ((v : UdpValue) → new ≢ Udp v) → socket_at p at ≡ Some new → IsOfOthers call e.answer →
      KeptFrom starts slots (e ∷ h) side (with_socket p at new) q
  other_invoked new no_tcp no_udp is of =
      kept_step starts slots h (e ∷ h) side p (with_socket p at new) q k (allowed, k.allowed) (kinds_set p at new new is refl)
      (datagrams_called starts h e side p at new others_none (λ v same. absurd (no_udp v same)) k.mine.datagrams) far_grown
      (other_steps new no_tcp) (reads_now (others_reads call e.answer of)) (ends_now (others_ends call e.answer of))

  pub invoked : (cx : ContextValue) (old new : Socket) → socket_at p at ≡ Some old → Does cx old call e.answer e.found new →
      KeptFrom starts slots (e ∷ h) side (with_socket p at new) q
  invoked cx (Tcp v) (Tcp new) is does = tcp_invoked cx v new is does
  invoked cx (Udp v) (Udp new) is does = udp_invoked v new is does
  invoked cx Icmp Icmp is does = other_invoked Icmp (λ v e. absurd (cc)) (λ v e. absurd (cc)) is does.0
  invoked cx Raw Raw is does = other_invoked Raw (λ v e. absurd (cc)) (λ v e. absurd (cc)) is does.0
  invoked cx old new is does = absurd (does)

-- AN EVENT THAT IS NO CALL

pub no_call : (kind : Kind) (side : Side) (i : ℕ) → IsNoCall kind → call_in kind side i ≡ None
no_call (OfHost s (Calls slot call)) side i none = absurd (none)
no_call kind side i none = refl

no_read : (starts : Side → ℕ → ℕ) (h : List Entry) (kind : Kind) (answer : Answer) → IsNoCall kind → ReadWasAccepted starts h kind answer
no_read starts h (OfHost s (Calls slot call)) answer none = absurd (none)
no_read starts h kind answer none = tt

no_end : (h : List Entry) (kind : Kind) (answer : Answer) → IsNoCall kind → EndWasTrue h kind answer
no_end h (OfHost s (Calls slot call)) answer none = absurd (none)
no_end h kind answer none = tt

no_refusal : (slots : Slots) (h : List Entry) (kind : Kind) → IsNoCall kind → IsAllowed slots h kind
no_refusal slots h (OfHost s (Calls slot call)) none = absurd (none)
no_refusal slots h kind none = tt

pub passes : (starts : Side → ℕ → ℕ) (slots : Slots) (h : List Entry) (e : Entry) (side : Side) (p q : Party) → KeptFrom starts slots h side p q →
    IsNoCall (kind_of e.event) → KeptFrom starts slots (e ∷ h) side p q
passes starts slots h e side p q k none =
    let stay = λ (s : Side) (i : ℕ) (o : Opening) (opened : opening h s i ≡ Some o). opening_stays h e s i o opened in
    kept_step starts slots h (e ∷ h) side p p q k (no_refusal slots h (kind_of e.event) none, k.allowed) refl
    (datagrams_grown starts h e side p (λ i. no_call (kind_of e.event) side i none) k.mine.datagrams)
    (datagrams_grown starts h e (other side) q (λ i. no_call (kind_of e.event) (other side) i none) k.theirs.datagrams)
    (all_kept h (e ∷ h) side p q p.segments stay
    (λ s i. (opening_left h e s i (no_call (kind_of e.event) s i none), told_left h e s i (no_call (kind_of e.event) s i none)))
    (segments_stay h (e ∷ h) side p.segments stay k.mine.streams.made) (λ port v w past other_past keeps. keeps))
    (no_read starts h (kind_of e.event) e.answer none, k.reads) (no_end h (kind_of e.event) e.answer none, k.ends)
