-- What a host does besides leaves the pair as it is.
use Rattle.std.proofs.Common.{◌≡◌, ◌≢◌, ◌⊎◌, inl, inr, ℕ, ℤ, Bool, true, false, List, [], ◌∷◌, ◌++◌, Option, Some, None, refl, sym, ap, ◌∙◌, subst}
use Rattle.std.proofs.lemmas.List.{get_or-set_other}
use Rattle.std.specs.List.{AllByRecursion}
use Rattle.ip_wire.specs.Ip.{source_of, destination_of}
use Rattle.ip_wire.specs.IpAddress.{IpAddress}
use Rattle.ip_wire.specs.IpRepr.{IpRepr}
use Rattle.ip_wire.specs.TcpHeader.{TcpHeader}
use Rattle.sockets.specs.Context.{ContextValue}
use Rattle.sockets.specs.Polling.{Offered}
use Rattle.tcp_refinement.specs.Host.{Made, made_of, source_port, IsSeenAmong, and_answer, and_offer}
use Rattle.tcp_refinement.specs.Pair.Sides.{at}
use Rattle.tcp_refinement.specs.Pair.Values.{PairValue}
use Rattle.tcp_refinement.specs.declared.pair.event.SentSegment.{SentSegment}
use Rattle.tcp_refinement.proofs.NameLaws.{answer_back, offer_between_ends}
use Rattle.tcp_refinement.proofs.NameLaws.{accepted as accepted_for}
use Rattle.tcp_refinement.proofs.PortLaws.{nameless_refuses, nameless_silent}
use Rattle.ip_wire.specs.Tcp.{normal}
use Rattle.tcp_invariants.proofs.ReadRules.{answers_read, offers_read}
use Rattle.tcp_block.specs.Arrival.{arrives}
use Rattle.tcp_block.specs.Names.{accepts}
use Rattle.tcp_block.specs.Offers.{offer_of, payload_of}
use Rattle.tcp_block.specs.OpenOffer.{OpenOffer}
use Rattle.tcp_block.specs.Reply.{Reply}
use Rattle.tcp_block.specs.Value.{TcpValue}
use Rattle.lan.specs.declared.at_link.history.event.Side.{Side}
use Rattle.lan.specs.declared.at_link.history.record.Opening.{Opening}
use Rattle.lan.specs.Worlds.AtLink.Kinds.{other}
use Rattle.lan.specs.Worlds.AtLink.History.{Entry, opening}
use Rattle.lan.specs.Worlds.AtLink.Moves.{with_socket, offered_segments}
use Rattle.lan.specs.Worlds.AtLink.Parties.{Net, Party, Socket, party, socket_at}
use Rattle.lan.specs.Worlds.AtLink.Parties.Socket.{Tcp}
use Rattle.lan.specs.Worlds.AtLink.Tables.{Slots, AreAllowed}
use Rattle.lan.specs.Worlds.AtLink.Paired.{HasSent, IsOfSocket, Seat, Shows, from_port, side_in, told}
use Rattle.lan.proofs.Worlds.AtLink.HostSteps.{Stay}
use Rattle.lan.proofs.Worlds.AtLink.Kept.{KeptFrom}
use Rattle.lan.proofs.Worlds.AtLink.PeerSideLemmas.{AreApart, opened_apart}
use Rattle.lan.proofs.Worlds.AtLink.Speaking.{accepted_speaks}
use Rattle.lan.proofs.Worlds.AtLink.StreamInvariant.{TcpOk, SpeaksWith}
use Rattle.lan.proofs.Worlds.AtLink.WireMoves.{seen_ok}
use Rattle.lan.proofs.Worlds.AtLink.Paired.Parts.{from_apart}
use Rattle.lan.proofs.Worlds.AtLink.Paired.Shown.{shows_still}

-- EACH OF A LIST

pub all_append : {X : Type 0} (P : X → Type 0) (xs : List X) (x : X) → AllByRecursion P xs → P x → AllByRecursion P (xs ++ x ∷ [])
all_append P [] x all one = (one, tt)
all_append P (y ∷ ys) x all one = (all.0, all_append P ys x all.1 one)

pub of_socket_stays : (h h' : List Entry) (side : Side) → Stay h h' → (xs : List Made) → AllByRecursion (IsOfSocket h side) xs →
    AllByRecursion (IsOfSocket h' side) xs
of_socket_stays h h' side stay [] all = tt
of_socket_stays h h' side stay (x ∷ xs) all = (
  record { slot = all.0.slot; by = all.0.by; opened = stay side all.0.slot all.0.by all.0.opened; from = all.0.from; as_made = all.0.as_made },
  of_socket_stays h h' side stay xs all.1,
)

-- one segment more from the port of the socket at a slot, or none
abbrev pub IsMoreOf : List Entry → Side → ℕ → List Made → List Made → Type 0
IsMoreOf h side slot made made' =
    (made' ≡ made) ⊎ ((o : Opening) × (x : Made) × (opening h side slot ≡ Some o) × (made' ≡ made ++ x ∷ []) × (source_port x ≡ o.local)
    × (normal x.header ≡ x.header))

pub more_of_socket : (h : List Entry) (side : Side) (slot : ℕ) (made made' : List Made) → IsMoreOf h side slot made made' →
    AllByRecursion (IsOfSocket h side) made → AllByRecursion (IsOfSocket h side) made'
more_of_socket h side slot made made' (inl same) all = subst (AllByRecursion (IsOfSocket h side)) (sym same) all
more_of_socket h side slot made made' (inr more) all =
    subst (AllByRecursion (IsOfSocket h side)) (sym more.3)
    (all_append (IsOfSocket h side) made more.1 all (record { slot = slot; by = more.0; opened = more.2; from = sym more.4; as_made = more.5 }))

-- it isn't of the socket at another slot
pub more_elsewhere : (slots : Slots) (h : List Entry) (side : Side) (here slot : ℕ) (made made' : List Made) (o : Option Opening)
    (sent : List SentSegment) → AreAllowed slots h → opening h side here ≡ o → here ≢ slot → IsMoreOf h side slot made made' → HasSent o made sent →
    HasSent o made' sent
more_elsewhere slots h side here slot made made' None sent allowed is apart more has = has
more_elsewhere slots h side here slot made made' (Some o) sent allowed is apart (inl same) has = ap (from_port o.local) same ∙ has
more_elsewhere slots h side here slot made made' (Some o) sent allowed is apart (inr more) has =
    ap (from_port o.local) more.3 ∙ from_apart o.local made more.1 (λ same. differ (opened_apart slots h side here slot o more.0 allowed is more.2)
    (sym same ∙ more.4)) ∙ has
  where
    differ : (here ≡ slot) ⊎ AreApart o more.0 → o.local ≡ more.0.local → ⊥
    differ (inl same) e = apart same
    differ (inr a) e = a.local e

-- the other sockets stay
pub socket_stays : (p : Party) (here slot : ℕ) (new : Socket) → here ≢ slot → socket_at (with_socket p slot new) here ≡ socket_at p here
socket_stays p here slot new apart = get_or-set_other p.sockets slot here (Some new) None apart

-- A PAIR IS LEFT

module _ (seats : Side → Seat) (net net' : Net) (side : Side) (clocks clocks' : Side → ℤ) (p : PairValue) (sh : Shows seats clocks net p) where
  pub left : Stay net.history net'.history
      → opening net'.history side (seats side).slot ≡ opening net.history side (seats side).slot
      → told net'.history side (seats side).slot ≡ told net.history side (seats side).slot
      → opening net'.history (other side) (seats (other side)).slot ≡ opening net.history (other side) (seats (other side)).slot
      → told net'.history (other side) (seats (other side)).slot ≡ told net.history (other side) (seats (other side)).slot
      → party net' (other side) ≡ party net (other side)
      → socket_at (party net' side) (seats side).slot ≡ socket_at (party net side) (seats side).slot
      → HasSent (opening net.history side (seats side).slot) (party net' side).segments (at p.sides (side_in side)).sent
      → AllByRecursion (IsOfSocket net'.history side) (party net' side).segments
      → clocks' side ≡ clocks side → clocks' (other side) ≡ clocks (other side) → Shows seats clocks' net' p
  left stay opened past far_opened far_past same socket sent made clock far_clock =
      shows_still seats net net' side clocks clocks' p sh
      (record {
        same = same;
        opened = far_opened;
        past = far_past;
        made = subst (λ (x : Party). AllByRecursion (IsOfSocket net'.history (other side)) x.segments) (sym same)
            (of_socket_stays net.history net'.history (other side) stay (party net (other side)).segments (sh.made (other side)));
        clock = far_clock;
      })
      (record {
        socket = socket ∙ sh.socket side;
        host = sh.host side;
        clock = sh.clock side ∙ sym clock;
        is_past = sh.past side ∙ sym past;
        sent = subst (λ o. HasSent o (party net' side).segments (at p.sides (side_in side)).sent) (sym opened) sent;
        made = made;
      })

-- WHAT A SOCKET MAKES

module _ (starts : Side → ℕ → ℕ) (slots : Slots) (h : List Entry) (side : Side) (p q : Party) (k : KeptFrom starts slots h side p q) (slot : ℕ) (v : TcpValue)
    (is : socket_at p slot ≡ Some (Tcp v)) where
  ok : TcpOk h side p.segments slot v
  ok = k.mine.streams.sockets slot v is

  -- a socket that wasn't opened offers nothing
  pub unopened_silent : (cx : ContextValue) → opening h side slot ≡ None → (offer_of cx v).socket.offered ≡ None
  unopened_silent cx none = ap (λ (o : Offered TcpValue). o.socket.offered) (nameless_silent cx v (ok.untouched none).nameless)

  pub offer_port : (cx : ContextValue) (o : Opening) (x : OpenOffer) → opening h side slot ≡ Some o → (offer_of cx v).socket.offered ≡ Some x →
      x.segment.src_port ≡ o.local
  offer_port cx o x opened e =
      let ends = offer_between_ends cx v x e in
      let has = (ok.ports o opened).pair ends.0 ends.1 in
      ends.2.source_port ∙ has.0

  pub offers_more : (cx : ContextValue) (from : IpAddress) (sent : Bool) → IsMoreOf h side slot p.segments
      (offered_segments sent p from (offer_of cx v).socket)
  offers_more cx from false = inl refl
  offers_more cx from true = by (offer_of cx v).socket.offered (opening h side slot) refl refl where
    by : (offered : Option OpenOffer) (o : Option Opening) → (offer_of cx v).socket.offered ≡ offered → opening h side slot ≡ o →
        IsMoreOf h side slot p.segments (and_offer p.segments from offered (offer_of cx v).socket.queued.queue)
    by None o e opened = inl refl
    by (Some x) None e none = absurd (let clash : None ≡ Some x = sym (unopened_silent cx none) ∙ e in cc)
    by (Some x) (Some o) e opened =
        inr (
          o,
          made_of from (destination_of x.header) x.segment (payload_of x x.kind (offer_of cx v).socket.queued.queue),
          opened,
          refl,
          offer_port cx o x opened e,
          offers_read cx v x e,
        )

  module _ (cx : ContextValue) (ip : IpRepr) (header : TcpHeader) (bytes : List ℕ) (accepted : accepts v.tcb ip header ≡ true)
      (comes : IsSeenAmong q.segments header bytes) where
    -- a socket that accepts was opened
    pub accepting_opened : opening h side slot ≡ None → ⊥
    accepting_opened none =
        let refused = nameless_refuses v.tcb ip header (ok.untouched none).nameless in
        let clash : false ≡ true = sym refused ∙ accepted in
        cc

    pub spoken : (o : Opening) → opening h side slot ≡ Some o → (header.dst_port ≡ o.local) × SpeaksWith h side o header.src_port
    spoken o opened =
        accepted_speaks h side slot o opened slots k.allowed p.segments v ip header bytes ok (accepted_for v.tcb ip header accepted)
        (seen_ok h (other side) q.segments (source_of ip) (destination_of ip) header bytes comes k.theirs.streams.made)

    pub answer_port : (o : Opening) (reply : Reply) → opening h side slot ≡ Some o → (arrives cx v ip header bytes).answer ≡ Some reply →
        reply.segment.src_port ≡ o.local
    answer_port o reply opened e = (answer_back cx v ip header bytes reply e).source_port ∙ (spoken o opened).0

    pub answers_more : IsMoreOf h side slot p.segments (and_answer p.segments (arrives cx v ip header bytes).answer)
    answers_more = by (arrives cx v ip header bytes).answer (opening h side slot) refl refl where
      by : (answer : Option Reply) (o : Option Opening) → (arrives cx v ip header bytes).answer ≡ answer → opening h side slot ≡ o →
          IsMoreOf h side slot p.segments (and_answer p.segments answer)
      by None o e opened = inl refl
      by (Some reply) None e none = absurd (accepting_opened none)
      by (Some reply) (Some o) e opened =
          inr (o, made_of (source_of reply.header) (destination_of reply.header) reply.segment [], opened, refl, answer_port o reply opened e, answers_read cx v ip header bytes reply e)
