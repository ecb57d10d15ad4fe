-- An offer of a socket of the pair, and a segment that comes to one, are events of the pair.
use Rattle.std.proofs.Common.{◌≡◌, ◌⊎◌, inl, inr, ℕ, zero, suc, ℤ, ◌<◌, ◌≤◌, Bool, true, false, if◌then◌else◌, not, List, [], ◌∷◌, ◌++◌, length, map, Option, Some, None, IfSome}
use Rattle.std.proofs.Common.{refl, sym, ap, ◌∙◌, subst, arith}
use Rattle.std.proofs.lemmas.Bool.{cases_lt}
use Rattle.std.proofs.lemmas.Bool.Decides.{nat_tests}
use Rattle.std.proofs.lemmas.List.{get_or-set_same, get_or_past, map-append}
use Rattle.std.specs.List.{AllByRecursion}
use Rattle.std.specs.Prelude.{◌≤ℤ◌, slice_get, nat_lt}
use Rattle.ip_wire.specs.Ip.{source_of, destination_of}
use Rattle.ip_wire.specs.IpAddress.{IpAddress}
use Rattle.ip_wire.specs.IpRepr.{IpRepr}
use Rattle.ip_wire.specs.TcpHeader.{TcpHeader}
use Rattle.sockets.specs.Context.{ContextValue}
use Rattle.tcp_refinement.specs.Host.{Made, made_of, MayCome, IsSeenAmong, and_answer, and_offer}
use Rattle.tcp_refinement.proofs.HostLaws.{comes_as_made}
use Rattle.tcp_refinement.specs.Pair.History.{pasts}
use Rattle.tcp_refinement.specs.Pair.Sides.{at}
use Rattle.tcp_refinement.specs.Pair.Sides as Sides
use Rattle.tcp_refinement.specs.Pair.Steps.{acting, at_clock, handed, happens, if_so, offered_at, refusal, taken_at, with_random}
use Rattle.tcp_refinement.specs.Pair.Values.{PairSide, PairValue, and_reply, context_at, context_on}
use Rattle.tcp_refinement.specs.Pair.Values as Values
use Rattle.tcp_refinement.specs.declared.pair.event.PairEvent.{PairEvent}
use Rattle.tcp_refinement.specs.declared.pair.event.PairEvent.TheVariants.{Deliver, Offer}
use Rattle.tcp_refinement.specs.declared.pair.event.PairRefused.TheVariants as Why
use Rattle.tcp_refinement.specs.declared.pair.event.SentSegment.{SentSegment}
use Rattle.tcp_refinement.specs.declared.pair.event.Side as Pairs
use Rattle.tcp_refinement.proofs.AddressLaws.{accepts_same, arrives_same, keyed_draws}
use Rattle.tcp_block.specs.Arrival.{arrives}
use Rattle.tcp_block.specs.Names.{accepts}
use Rattle.tcp_block.specs.BaseOffers.{Offered}
use Rattle.tcp_block.specs.Offers.{offer_of, payload_of}
use Rattle.tcp_block.specs.OpenOffer.{OpenOffer}
use Rattle.tcp_block.specs.Reply.{Reply}
use Rattle.tcp_block.specs.Settled.{settled}
use Rattle.tcp_block.specs.Value.{Arrived, TcpValue}
use Rattle.lan.specs.declared.at_link.history.event.Side.{Side}
use Rattle.lan.specs.declared.at_link.history.record.Opening.{Opening}
use Rattle.lan.specs.Worlds.AtLink.Kinds.{other}
use Rattle.lan.specs.Worlds.AtLink.History.{Entry, opening}
use Rattle.lan.specs.Worlds.AtLink.Moves.{with_socket, offered_segments}
use Rattle.lan.specs.Worlds.AtLink.Parties.{Net, Party, Socket, party, socket_at}
use Rattle.lan.specs.Worlds.AtLink.Parties.Socket.{Tcp}
use Rattle.lan.specs.Worlds.AtLink.PeerSides.{ArePartners}
use Rattle.lan.specs.Worlds.AtLink.Tables.{Slots, AreAllowed}
use Rattle.lan.specs.Worlds.AtLink.Happening.{sent_by, sent_in}
use Rattle.lan.specs.Worlds.AtLink.Paired.{HasSent, IsOf, IsOfSocket, Seat, Shows, from_port, made_by, side_in, told}
use Rattle.lan.proofs.Worlds.AtLink.Exchange.{same_tcp}
use Rattle.lan.proofs.Worlds.AtLink.HostSteps.{Stay, speaks_stay}
use Rattle.lan.proofs.Worlds.AtLink.Kept.{KeptFrom}
use Rattle.lan.proofs.Worlds.AtLink.PeerSideLemmas.{AreApart, opened_apart}
use Rattle.lan.proofs.Worlds.AtLink.Slots.{some_is}
use Rattle.lan.proofs.Worlds.AtLink.Speaking.{peer_side_port}
use Rattle.lan.proofs.Worlds.AtLink.StreamInvariant.{SpeaksWith}
use Rattle.lan.proofs.Worlds.AtLink.Paired.Elsewhere.{accepting_opened, answer_port, answers_more, more_of_socket, offer_port, offers_more, spoken}
use Rattle.lan.proofs.Worlds.AtLink.Paired.Elsewhere.{unopened_silent}
use Rattle.lan.proofs.Worlds.AtLink.Paired.Parts.{back_in, from_get, from_more, get_below, map_get, other_in}
use Rattle.lan.proofs.Worlds.AtLink.Paired.Shown.{Far, may_be, shows_event}
use Rattle.lan.proofs.Worlds.AtLink.Paired.Words.{offers_same}

-- the exchanged socket is there
pub socket_set : (p : Party) (slot : ℕ) (old new : Socket) → socket_at p slot ≡ Some old → socket_at (with_socket p slot new) slot ≡ Some new
socket_set p slot old new is = by (cases_lt slot (length p.sockets)) where
  by : (slot < length p.sockets) ⊎ (length p.sockets ≤ slot) → socket_at (with_socket p slot new) slot ≡ Some new
  by (inl below) = get_or-set_same p.sockets slot (Some new) None below
  by (inr past) = absurd (let clash : None ≡ Some old = sym (get_or_past p.sockets slot None past) ∙ is in cc)

pub all_get : {X : Type 0} (P : X → Type 0) (xs : List X) (k : ℕ) (x : X) → AllByRecursion P xs → slice_get xs k ≡ Some x → P x
all_get P [] zero x all e = absurd (cc)
all_get P [] (suc k) x all e = absurd (cc)
all_get P (y ∷ ys) zero x all e = let same : y ≡ x = cc in subst P same all.0
all_get P (y ∷ ys) (suc k) x all e = all_get P ys k x all.1 e

below_is : (j n : ℕ) → j < n → nat_lt j n ≡ true
below_is j n less = grind (arith, nat_tests)

-- what a socket sent, as its host made it
pub sent_same : (o : Option Opening) (made : List Made) (sent : List SentSegment) → HasSent o made sent → sent_by o made ≡ map made_by sent
sent_same None made sent has = sym (ap (map made_by) has)
sent_same (Some o) made sent has = has

pub get_mapped : {X Y : Type 0} (f : X → Y) (xs : List X) (j : ℕ) (x : X) → slice_get xs j ≡ Some x → slice_get (map f xs) j ≡ Some (f x)
get_mapped f [] zero x e = absurd (cc)
get_mapped f [] (suc j) x e = absurd (cc)
get_mapped {X = X} f (y ∷ ys) zero x e = let same : y ≡ x = cc in ap (λ (z : X). Some (f z)) same
get_mapped f (y ∷ ys) (suc j) x e = get_mapped f ys j x e

-- one segment more of the socket, from its port, joins those of the pair
sent_more : (o : Opening) (made : List Made) (sent : List SentSegment) (x : SentSegment) → x.segment.src_port ≡ o.local → from_port o.local made ≡ map made_by sent
    → from_port o.local (made ++ made_by x ∷ []) ≡ map made_by (sent ++ x ∷ [])
sent_more o made sent x port has =
    from_more o.local made (made_by x) port ∙ ap (λ (xs : List Made). xs ++ made_by x ∷ []) has ∙ sym (map-append made_by sent (x ∷ []))

module _ (starts : Side → ℕ → ℕ) (slots : Slots) (seats : Side → Seat) (net net' : Net) (side : Side) (clocks clocks' : Side → ℤ) (p : PairValue)
    (k : KeptFrom starts slots net.history side (party net side) (party net (other side))) (sh : Shows seats clocks net p) (v : TcpValue)
    (is : socket_at (party net side) (seats side).slot ≡ Some (Tcp v)) (far_same : party net' (other side) ≡ party net (other side))
    (far_clock : clocks' (other side) ≡ clocks (other side)) (history : net'.history ≡ net.history) where
  abbrev own : PairSide
  own = at p.sides (side_in side)

  abbrev here : ℕ
  here = (seats side).slot

  socket_is : own.socket ≡ v
  socket_is = same_tcp own.socket v (some_is (Tcp own.socket) (Tcp v) (sym (sh.socket side) ∙ is))

  far : Far seats net net' side clocks clocks'
  far = record {
    same = far_same;
    opened = ap (λ (h : List Entry). opening h (other side) (seats (other side)).slot) history;
    past = ap (λ (h : List Entry). told h (other side) (seats (other side)).slot) history;
    made = subst (λ (h : List Entry). AllByRecursion (IsOfSocket h (other side)) (party net' (other side)).segments) (sym history)
        (subst (λ (x : Party). AllByRecursion (IsOfSocket net.history (other side)) x.segments) (sym far_same) (sh.made (other side)));
    clock = far_clock;
  }

  -- THE SOCKET IS ASKED

  module _ (cx : ContextValue) (from : IpAddress) (sent : Bool) (of : IsOf (seats side) (clocks side) cx) (now : clocks' side ≡ cx.instant)
      (plain : IfSome (offer_of cx v).socket.offered (λ o. from ≡ source_of o.header))
      (mine : party net' side ≡ record (with_socket (party net side) here (Tcp (settled sent (offer_of cx v).socket))) {
        segments =
            offered_segments sent (party net side) from (offer_of cx v).socket;
      }) where
    abbrev asked : PairEvent
    asked = Offer (side_in side) cx.instant sent

    pub offer_allowed : refusal p asked ≡ None
    offer_allowed =
        ap (λ (t : Bool). if_so (not t) Why.Moment)
        (may_be own.instant cx.instant of.instant (subst (λ (m : ℤ). m ≤ℤ cx.instant) (sym (sh.clock side)) of.later))

    abbrev offered_by : ContextValue → TcpValue → TcpValue
    offered_by c w = (offer_of c w).socket

    turn_is : offered_by (context_at (side_in side) (at_clock own cx.instant)) own.socket ≡ offered_by cx v
    turn_is =
        (λ i. offered_by (context_on (sh.host side i) cx.instant own.random) (socket_is i))
        ∙ ap (λ (o : Offered TcpValue). o.socket) (offers_same (seats side).host cx.instant own.random cx.random v)
        ∙ ap (λ (c : ContextValue). offered_by c v) (sym of.host)

    -- what goes of an offer
    goes : (o : Option Opening) (offered : Option OpenOffer) (queue : List ℕ) → opening net.history side here ≡ o → (offered_by cx v).offered ≡ offered
        → IfSome offered (λ x. from ≡ source_of x.header) → HasSent o (party net side).segments own.sent
        → HasSent o (and_offer (party net side).segments from offered queue) (Values.and_offer own.sent offered queue)
    goes o None queue opened e from_is has = has
    goes None (Some x) queue none e from_is has =
        absurd (let clash : None ≡ Some x = sym (unopened_silent starts slots net.history side (party net side) (party net (other side)) k here v is cx none) ∙ e in cc)
    goes (Some o) (Some x) queue opened e from_is has =
        let y : SentSegment = record { header = x.header; segment = x.segment; bytes = payload_of x x.kind queue } in
        subst (λ (a : IpAddress). from_port o.local ((party net side).segments ++ made_of a (destination_of x.header) x.segment (payload_of x x.kind queue) ∷ []) ≡
        map made_by (own.sent ++ y ∷ [])) (sym from_is)
        (sent_more o (party net side).segments own.sent y
        (offer_port starts slots net.history side (party net side) (party net (other side)) k here v is cx o x opened e) has)

    abbrev Sent : List Made → List SentSegment → Type 0
    Sent made xs = HasSent (opening net.history side here) made xs

    sent_after : (sent : Bool) → Sent (offered_segments sent (party net side) from (offered_by cx v)) (offered_at (side_in side) (at_clock own cx.instant) sent).sent
    sent_after false = sh.sent side
    sent_after true =
        subst (λ (w : TcpValue). Sent (and_offer (party net side).segments from (offered_by cx v).offered (offered_by cx v).queued.queue)
        (Values.and_offer own.sent w.offered w.queued.queue)) (sym turn_is)
        (goes (opening net.history side here) (offered_by cx v).offered (offered_by cx v).queued.queue refl refl plain (sh.sent side))

    socket_after : (sent : Bool) → (offered_at (side_in side) (at_clock own cx.instant) sent).socket ≡ settled sent (offered_by cx v)
    socket_after false = ap (settled false) turn_is
    socket_after true = ap (settled true) turn_is

    rest_after : (sent : Bool) → ((offered_at (side_in side) (at_clock own cx.instant) sent).host ≡ own.host)
        × ((offered_at (side_in side) (at_clock own cx.instant) sent).instant ≡ cx.instant)
    rest_after false = (refl, refl)
    rest_after true = (refl, refl)

    pub offer_shows : Shows seats clocks' net' (happens p asked).pair
    offer_shows =
        shows_event seats net net' side clocks clocks' p sh far asked refl
        (record {
          socket = ap (λ (x : Party). socket_at x here) mine
              ∙ socket_set (party net side) here (Tcp v) (Tcp (settled sent (offered_by cx v))) is
              ∙ ap (λ (w : TcpValue). Some (Tcp w)) (sym (socket_after sent));
          host = (rest_after sent).0 ∙ sh.host side;
          clock = (rest_after sent).1 ∙ sym now;
          is_past = sh.past side ∙ sym (ap (λ (h : List Entry). told h side here) history);
          sent = subst (λ (h : List Entry). HasSent (opening h side here) (party net' side).segments (offered_at (side_in side) (at_clock own cx.instant) sent).sent)
              (sym history)
              (subst (λ (x : Party). Sent x.segments (offered_at (side_in side) (at_clock own cx.instant) sent).sent) (sym mine) (sent_after sent));
          made = subst (λ (h : List Entry). AllByRecursion (IsOfSocket h side) (party net' side).segments) (sym history)
              (subst (λ (x : Party). AllByRecursion (IsOfSocket net.history side) x.segments) (sym mine)
              (more_of_socket net.history side here (party net side).segments (offered_segments sent (party net side) from (offered_by cx v))
              (offers_more starts slots net.history side (party net side) (party net (other side)) k here v is cx from sent) (sh.made side)));
        })

  -- A SEGMENT COMES, at the instant that the host's clock shows

  module _ (cx : ContextValue) (ip : IpRepr) (header : TcpHeader) (bytes : List ℕ) (key : List ℕ) (keyed : (seats side).host.isn_key ≡ Some key)
      (of : cx ≡ context_on (seats side).host cx.instant cx.random) (now : own.instant ≡ cx.instant) (clock : clocks' side ≡ clocks side)
      (accepted : accepts v.tcb ip header ≡ true)
      (comes : MayCome (party net (other side)).segments (source_of ip) (destination_of ip) header bytes)
      (later : List Entry) (stay : Stay net.history later) (all_allowed : AreAllowed slots later)
      (peer_sides : ArePartners later side here (seats (other side)).slot)
      (mine : party net' side ≡ record (with_socket (party net side) here (Tcp (arrives cx v ip header bytes).socket)) {
        segments =
            and_answer (party net side).segments (arrives cx v ip header bytes).answer;
      }) where
    abbrev theirs : PairSide
    theirs = at p.sides (side_in (other side))

    seen : IsSeenAmong (party net (other side)).segments header bytes
    seen = comes_as_made (party net (other side)).segments (source_of ip) (destination_of ip) header bytes comes

    abbrev x : Made
    x = made_of (source_of ip) (destination_of ip) comes.written bytes

    abbrev arrived : Arrived
    arrived = arrives cx v ip header bytes

    pub of_x : IsOfSocket net.history (other side) x
    of_x = all_get (IsOfSocket net.history (other side)) (party net (other side)).segments comes.among.0 x (sh.made (other side)) comes.among.1

    pub header_is : header ≡ comes.written
    header_is = comes.read ∙ of_x.as_made

    -- it was sent by the peer
    pub from_peer_side : (o : Opening) → opening net.history side here ≡ Some o → opening net.history (other side) (seats (other side)).slot ≡ Some of_x.by
    from_peer_side o opened =
        by (opened_apart slots later (other side) of_x.slot (seats (other side)).slot of_x.by peer_sides.another all_allowed
        (stay (other side) of_x.slot of_x.by of_x.opened) peer_sides.peer_side_opened)
      where
        says : (header.dst_port ≡ o.local) × SpeaksWith net.history side o header.src_port
        says = spoken starts slots net.history side (party net side) (party net (other side)) k here v is cx ip header bytes accepted seen o opened

        port : peer_sides.another.local ≡ header.src_port
        port =
            peer_side_port later side here o (stay side here o opened) slots all_allowed (seats (other side)).slot header.src_port peer_sides
            (speaks_stay net.history later side o header.src_port stay says.1)

        by : (of_x.slot ≡ (seats (other side)).slot) ⊎ AreApart of_x.by peer_sides.another → opening net.history (other side) (seats (other side)).slot ≡ Some of_x.by
        by (inl same) = ap (λ (i : ℕ). opening net.history (other side) i) (sym same) ∙ of_x.opened
        by (inr apart) = absurd (apart.local (of_x.from ∙ ap (λ (h : TcpHeader). h.src_port) (sym header_is) ∙ sym port))

    -- the segment of this number, in the pair
    pub record Found (number : ℕ) : Type 0 where
      pub segment : SentSegment
      pub there : slice_get theirs.sent number ≡ Some segment
      pub found : made_by segment ≡ x

    found_by : opening net.history (other side) (seats (other side)).slot ≡ Some of_x.by → (number : ℕ) × Found number
    found_by opened =
        let has : from_port of_x.by.local (party net (other side)).segments ≡ map made_by theirs.sent =
        subst (λ o. HasSent o (party net (other side)).segments theirs.sent) opened (sh.sent (other side)) in
        let got = from_get of_x.by.local (party net (other side)).segments comes.among.0 x comes.among.1 (sym of_x.from) in
        let one = map_get made_by theirs.sent got.0 x (ap (λ (xs : List Made). slice_get xs got.0) (sym has) ∙ got.1) in
        (got.0, record { segment = one.0; there = one.1; found = one.2 })

    -- what came
    abbrev came : Made
    came = made_of (source_of ip) (destination_of ip) header bytes

    came_is : came ≡ x
    came_is = ap (λ (w : TcpHeader). made_of (source_of ip) (destination_of ip) w bytes) header_is

    sent_there : sent_in seats net (other side) ≡ map made_by theirs.sent
    sent_there =
        sent_same (opening net.history (other side) (seats (other side)).slot) (party net (other side)).segments theirs.sent (sh.sent (other side))

    -- a number that fits is that of a segment in the pair
    pub found_at : (number : ℕ) → slice_get (sent_in seats net (other side)) number ≡ Some came → Found number
    found_at number is =
        let one = map_get made_by theirs.sent number came (ap (λ (xs : List Made). slice_get xs number) (sym sent_there) ∙ is) in
        record { segment = one.0; there = one.1; found = one.2 ∙ came_is }

    -- one fits
    pub fits : (o : Opening) → opening net.history side here ≡ Some o → (number : ℕ) × (slice_get (sent_in seats net (other side)) number ≡ Some came)
    fits o opened =
        let f = found_by (from_peer_side o opened) in (
          f.0,
          ap (λ (xs : List Made). slice_get xs f.0) sent_there ∙ get_mapped made_by theirs.sent f.0 f.1.segment f.1.there
              ∙ ap (λ (m : Made). Some m) (f.1.found ∙ sym came_is),
        )

    module _ (number : ℕ) (f : Found number) (o : Opening) (opened : opening net.history side here ≡ Some o) where
      abbrev y : SentSegment
      y = f.segment

      segment_is : y.segment ≡ header
      segment_is = ap (λ (m : Made). m.header) f.found ∙ sym header_is

      bytes_are : y.bytes ≡ bytes
      bytes_are = ap (λ (m : Made). m.bytes) f.found

      source_is : source_of y.header ≡ source_of ip
      source_is = ap (λ (m : Made). m.from) f.found

      destination_is : destination_of y.header ≡ destination_of ip
      destination_is = ap (λ (m : Made). m.to) f.found

      abbrev pub comes_event : PairEvent
      comes_event = Deliver (side_in (other side)) number

      pub comes_allowed : refusal p comes_event ≡ None
      comes_allowed = ap (λ (t : Bool). if_so (not t) Why.NoSegment) (below_is number (length theirs.sent) (get_below theirs.sent number y f.there))

      takes_it : accepts own.socket.tcb y.header y.segment ≡ true
      takes_it =
          (λ i. accepts (socket_is i).tcb y.header (segment_is i)) ∙ accepts_same v.tcb y.header ip header source_is destination_is ∙ accepted

      arrives_so : arrives (context_at (side_in side) own) own.socket y.header y.segment y.bytes ≡ arrived
      arrives_so =
          (λ i. arrives (context_on (sh.host side i) (now i) own.random) (socket_is i) y.header (segment_is i) (bytes_are i))
          ∙ arrives_same (seats side).host key cx.instant own.random cx.random v y.header ip header bytes keyed source_is destination_is
          ∙ ap (λ (c : ContextValue). arrives c v ip header bytes) (sym of)

      draws_none : arrived.draws ≡ false
      draws_none =
          ap (λ (c : ContextValue). (arrives c v ip header bytes).draws) of
          ∙ keyed_draws (seats side).host key cx.instant cx.random v ip header bytes keyed

      abbrev taken : PairSide
      taken = record own { socket = arrived.socket; sent = and_reply own.sent arrived.answer }

      handed_so : handed (side_in side) own (slice_get theirs.sent number) ≡ taken
      handed_so =
          ap (handed (side_in side) own) f.there
          ∙ (λ i. if takes_it i then taken_at own (arrives_so i) else own)
          ∙ ap (λ (d : Bool). with_random d taken) draws_none

      acting_is : (acting p comes_event).side ≡ taken
      acting_is =
          (λ i. handed (back_in side i) (at p.sides (back_in side i)) (slice_get (at p.sides (Sides.other (back_in side i))).sent number))
          ∙ ap (λ (d : Pairs.Side). handed (side_in side) own (slice_get (at p.sides d).sent number)) (sym (other_in side))
          ∙ handed_so

      answered : (answer : Option Reply) → arrived.answer ≡ answer
          → from_port o.local (and_answer (party net side).segments answer) ≡ map made_by (and_reply own.sent answer)
      answered None e = subst (λ oo. HasSent oo (party net side).segments own.sent) opened (sh.sent side)
      answered (Some reply) e =
          sent_more o (party net side).segments own.sent (record { header = reply.header; segment = reply.segment; bytes = [] })
          (answer_port starts slots net.history side (party net side) (party net (other side)) k here v is cx ip header bytes accepted seen o reply opened e)
          (subst (λ oo. HasSent oo (party net side).segments own.sent) opened (sh.sent side))

      pub comes_shows : Shows seats clocks' net' (happens p comes_event).pair
      comes_shows =
          shows_event seats net net' side clocks clocks' p sh far comes_event (back_in side)
          (record {
            socket = ap (λ (q : Party). socket_at q here) mine ∙ socket_set (party net side) here (Tcp v) (Tcp arrived.socket) is
                ∙ ap (λ (s : PairSide). Some (Tcp s.socket)) (sym acting_is);
            host = ap (λ (s : PairSide). s.host) acting_is ∙ sh.host side;
            clock = ap (λ (s : PairSide). s.instant) acting_is ∙ sh.clock side ∙ sym clock;
            is_past = (λ i. at (pasts p.history) (back_in side i)) ∙ sh.past side ∙ sym (ap (λ (h : List Entry). told h side here) history);
            sent = subst (λ (oo : Option Opening). HasSent oo (party net' side).segments (acting p comes_event).side.sent)
                (sym opened ∙ ap (λ (h : List Entry). opening h side here) (sym history))
                (ap (λ (q : Party). from_port o.local q.segments) mine ∙ answered arrived.answer refl ∙ ap (λ (s : PairSide). map made_by s.sent) (sym acting_is));
            made = subst (λ (h : List Entry). AllByRecursion (IsOfSocket h side) (party net' side).segments) (sym history)
                (subst (λ (q : Party). AllByRecursion (IsOfSocket net.history side) q.segments) (sym mine)
                (more_of_socket net.history side here (party net side).segments (and_answer (party net side).segments arrived.answer)
                (answers_more starts slots net.history side (party net side) (party net (other side)) k here v is cx ip header bytes accepted seen)
                (sh.made side)));
          })

    -- the socket was opened
    pub was_opened : (o : Opening) × (opening net.history side here ≡ Some o)
    was_opened = by (opening net.history side here) refl where
      by : (oo : Option Opening) → opening net.history side here ≡ oo → (o : Opening) × (opening net.history side here ≡ Some o)
      by None none =
          absurd (accepting_opened starts slots net.history side (party net side) (party net (other side)) k here v is cx ip header bytes accepted seen none)
      by (Some o) opened = (o, opened)
