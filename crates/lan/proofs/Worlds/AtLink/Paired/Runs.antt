-- Each step of a plain run is none, one or two events of the pair.
use Rattle.std.proofs.Common.{◌≡◌, ◌≢◌, ◌⊎◌, inl, inr, ℕ, ◌==◌, ℤ, Bool, true, false, if◌then◌else◌, List, [], ◌∷◌, ◌++◌, Option, Some, None, refl, sym, ap, ◌∙◌}
use Rattle.std.proofs.Common.{subst, eq-eqb}
use Rattle.std.proofs.lemmas.Bool.Decides.{eqb_tells}
use Rattle.std.specs.Prelude.{slice_get}
use Rattle.std.specs.List.{AllByRecursion}
use Rattle.ip_wire.specs.Ip.{source_of, destination_of}
use Rattle.ip_wire.specs.IpAddress.{IpAddress}
use Rattle.ip_wire.specs.IpRepr.{IpRepr}
use Rattle.ip_wire.specs.TcpHeader.{TcpHeader}
use Rattle.sockets.specs.Context.{ContextValue}
use Rattle.tcp_refinement.specs.Pair.Sides.{at}
use Rattle.tcp_refinement.specs.Pair.Steps.{Steps, happens}
use Rattle.tcp_refinement.specs.Pair.Values.{PairValue}
use Rattle.tcp_refinement.specs.declared.pair.event.PairEvent.{PairEvent}
use Rattle.tcp_refinement.specs.declared.pair.event.PairEvent.TheVariants.{Deliver, Offer}
use Rattle.tcp_refinement.specs.Host.{and_offer, made_of}
use Rattle.tcp_block.specs.Offers.{offer_of}
use Rattle.tcp_block.specs.OpenOffer.{OpenOffer}
use Rattle.tcp_block.specs.Settled.{sent_off, settled}
use Rattle.tcp_block.specs.Value.{TcpValue, unoffered}
use Rattle.lan.specs.declared.at_link.history.event.Side.{Side}
use Rattle.lan.specs.declared.at_link.history.event.Side.TheVariants.{A, B}
use Rattle.lan.specs.Worlds.AtLink.Call.{SocketCall}
use Rattle.lan.specs.Worlds.AtLink.Kinds.{kind_of, other}
use Rattle.lan.specs.Worlds.AtLink.History.{Entry, opening}
use Rattle.lan.specs.Worlds.AtLink.Moves.{IsNoCall, IsRun, May, Move, Step, after, history_after, offered_segments, party_after, run, with_socket}
use Rattle.lan.specs.Worlds.AtLink.Moves.Move.{Invokes, Passes, Offers, Gives, Takes, Receives, Resets, Changes}
use Rattle.lan.specs.Worlds.AtLink.PacketsSafe.{IsInitialNet}
use Rattle.lan.specs.Worlds.AtLink.Parties.{Net, Party, Socket, party, slots_of, socket_at}
use Rattle.lan.specs.Worlds.AtLink.Parties.Socket.{Tcp, Udp, Icmp, Raw}
use Rattle.lan.specs.Worlds.AtLink.PeerSides.{ArePartners}
use Rattle.lan.specs.Worlds.AtLink.Tables.{AreAllowed, Slots}
use Rattle.lan.specs.Worlds.AtLink.Happening.{AreNumbered, ProceedsBy, Happening, HaveNumbers, IsNumbered, called_by, clock_to, events_of_move, events_of_moves}
use Rattle.lan.specs.Worlds.AtLink.Happening.{goes as goes_off, events_of_one, if_here, sent_in, steps_of}
use Rattle.lan.specs.Worlds.AtLink.Paired.{AreHosted, Proceeds, HasSent, HaveKeys, IsOf, IsOfSocket, IsPlain, IsShown, Seat, Shows, clock_after, clocks_after, clocks_in}
use Rattle.lan.specs.Worlds.AtLink.Paired.{if_at, shown_to, side_in, told}
use Rattle.lan.proofs.Worlds.AtLink.CallLemmas.{call_at_other_slot, call_at_other_side, same_side_other, same_side_refl}
use Rattle.lan.proofs.Worlds.AtLink.HostSteps.{Stay, opening_left, told_left}
use Rattle.lan.proofs.Worlds.AtLink.Kept.{KeptFrom, kept_turned, no_call}
use Rattle.lan.proofs.Worlds.AtLink.PeerSideLemmas.{opening_stays, peer_sides_turned}
use Rattle.lan.proofs.Worlds.AtLink.Slots.{some_is}
use Rattle.lan.proofs.Worlds.AtLink.Runs.{Kept, MayFrom, initial_kept, kept_run, may_a, may_b, step_by}
use Rattle.lan.proofs.Worlds.Moves.Nets.{mine, step_of, theirs}
use Rattle.lan.proofs.Worlds.AtLink.Paired.Calls.{called}
use Rattle.lan.proofs.Worlds.AtLink.Paired.Elsewhere.{answers_more, left, more_elsewhere, more_of_socket, of_socket_stays, offers_more, socket_stays}
use Rattle.lan.proofs.Worlds.AtLink.Paired.Shown.{clock_event, clock_shows, goes_clocked}
use Rattle.lan.proofs.Worlds.AtLink.Paired.Wires.{comes_allowed, comes_shows, fits, found_at, offer_allowed, offer_shows, was_opened}

-- OPENINGS STAY

after_stays : (h : List Entry) (move : Move) → Stay h (history_after h move)
after_stays h (Invokes slot cx old entry call new) = λ s i o. opening_stays h entry s i o
after_stays h (Passes entry) = λ s i o. opening_stays h entry s i o
after_stays h move = λ s i o e. e

run_stays : (net : Net) (steps : List Step) → Stay net.history (run net steps).history
run_stays net [] = λ s i o e. e
run_stays net (step ∷ steps) = λ s i o e. run_stays (after net step) steps s i o (after_stays net.history step.move s i o e)

-- MORE EVENTS

pub steps_append : (p q r : PairValue) (events more : List PairEvent) → Steps p events q → Steps q more r → Steps p (events ++ more) r
steps_append p q r [] more first second = subst (λ (x : PairValue). Steps x more r) first second
steps_append p q r (event ∷ events) more first second = (first.0, steps_append (happens p event).pair q r events more first.1 second)

-- the pair after these events
abbrev pub after_events : PairValue → List PairEvent → PairValue
after_events p [] = p
after_events p (event ∷ events) = after_events (happens p event).pair events

steps_lead : (p next : PairValue) (events : List PairEvent) → Steps p events next → next ≡ after_events p events
steps_lead p next [] steps = steps
steps_lead p next (event ∷ events) steps = steps_lead (happens p event).pair next events steps.1

-- the pair shows each net on the way
abbrev pub ShowsAlong : (Side → Seat) → (Side → ℤ) → Net → PairValue → List Happening → Type 0
ShowsAlong seats clocks net p [] = Shows seats clocks net p
ShowsAlong seats clocks net p (x ∷ moves) =
    Shows seats clocks net p
    × ShowsAlong seats (clocks_after seats clocks x.step) (after net x.step) (after_events p (events_of_one seats clocks x)) moves

-- SEEN FROM ONE SIDE

from_side : (starts : Side → ℕ → ℕ) (slots : Slots) (net : Net) (side : Side) → Kept starts slots net →
    KeptFrom starts slots net.history side (party net side) (party net (other side))
from_side starts slots net A k = k
from_side starts slots net B k = kept_turned starts slots net.history A net.a net.b k

from_may : (starts : Side → ℕ → ℕ) (slots : Slots) (net : Net) (side : Side) (move : Move) → Kept starts slots net → May slots.names net side move →
    MayFrom slots net.history side (party net side) (party net (other side)) move
from_may starts slots net A move k may = may_a starts slots net move k may
from_may starts slots net B move k may = may_b starts slots net move k may

module _ (starts : Side → ℕ → ℕ) (slots : Slots) (seats : Side → Seat) (net : Net) (side : Side) (clocks : Side → ℤ) (p : PairValue)
    (k : KeptFrom starts slots net.history side (party net side) (party net (other side))) (sh : Shows seats clocks net p) (keys : HaveKeys seats)
    (later : List Entry) (stay : Stay net.history later) (all_allowed : AreAllowed slots later)
    (peer_sides : ArePartners later side (seats side).slot (seats (other side)).slot) (number : ℕ) where
  abbrev here : ℕ
  here = (seats side).slot

  abbrev h : List Entry
  h = net.history

  abbrev P : Party
  P = party net side

  abbrev Q : Party
  Q = party net (other side)

  abbrev next : Move → Net
  next move = after net (step_of side move)

  abbrev clocks' : Move → Side → ℤ
  clocks' move = clocks_after seats clocks (step_of side move)

  -- by the events of the move
  abbrev Goes : Move → Type 0
  Goes move = ProceedsBy seats (clocks' move) (next move) p (events_of_move here (clocks side) side number move)

  abbrev Numbered : Move → Type 0
  Numbered move = IsNumbered here (sent_in seats net (other side)) number move

  -- CLOCKS

  own_clock : (move : Move) → clocks' move side ≡ clock_after (clocks side) (shown_to here move)
  own_clock move = ap (λ (t : Bool). if t then clock_after (clocks side) (shown_to here move) else clocks side) (same_side_refl side)

  far_clock : (move : Move) → clocks' move (other side) ≡ clocks (other side)
  far_clock move =
      ap (λ (t : Bool). if t then clock_after (clocks (other side)) (shown_to (seats (other side)).slot move) else clocks (other side)) (same_side_other side)

  shown_here : (cx : ContextValue) → if_at here here cx ≡ Some cx
  shown_here cx = ap (λ (t : Bool). if t then Some cx else None) (eq-eqb here here refl)

  shown_there : (at : ℕ) (cx : ContextValue) → (at == here) ≡ false → if_at at here cx ≡ None
  shown_there at cx apart = ap (λ (t : Bool). if t then Some cx else None) apart

  is_of : (cx : ContextValue) → IsShown (seats side) (clocks side) (if_at here here cx) → IsOf (seats side) (clocks side) cx
  is_of cx shown = subst (IsShown (seats side) (clocks side)) (shown_here cx) shown

  -- EVENTS

  events_here : (events : List PairEvent) → if_here here here events ≡ events
  events_here events = ap (λ (t : Bool). if t then events else []) (eq-eqb here here refl)

  events_there : (at : ℕ) (events : List PairEvent) → (at == here) ≡ false → if_here at here events ≡ []
  events_there at events apart = ap (λ (t : Bool). if t then events else []) apart

  own_events : (move : Move) (events : List PairEvent) → ProceedsBy seats (clocks' move) (next move) p events
      → ProceedsBy seats (clocks' move) (next move) p (if_here here here events)
  own_events move events on = subst (ProceedsBy seats (clocks' move) (next move) p) (sym (events_here events)) on

  none_of : (events : List PairEvent) → events ≡ [] → Steps p events p
  none_of events none = subst (λ (xs : List PairEvent). Steps p xs p) (sym none) refl

  -- ELSEWHERE

  -- a socket of another slot moves, or none, and the history stays
  elsewhere : (move : Move) → history_after h move ≡ h → shown_to here move ≡ None → socket_at (party_after P move) here ≡ socket_at P here →
      HasSent (opening h side here) (party_after P move).segments (at p.sides (side_in side)).sent
      → AllByRecursion (IsOfSocket h side) (party_after P move).segments → events_of_move here (clocks side) side number move ≡ [] → Goes move
  elsewhere move same shown socket sent made none = record {
    next = p;
    steps = none_of (events_of_move here (clocks side) side number move) none;
    shows =
        left seats net (next move) side clocks (clocks' move) p sh (λ s i o e. ap (λ (x : List Entry). opening x s i) same ∙ e)
        (ap (λ (x : List Entry). opening x side here) same) (told_same side here) (ap (λ (x : List Entry). opening x (other side) (seats (other side)).slot) same)
        (told_same (other side) (seats (other side)).slot) (theirs net side move)
        (ap (λ (x : Party). socket_at x here) (mine net side move) ∙ socket)
        (subst (λ (x : Party). HasSent (opening h side here) x.segments (at p.sides (side_in side)).sent) (sym (mine net side move)) sent)
        (subst (λ (x : List Entry). AllByRecursion (IsOfSocket x side) (party (next move) side).segments) (sym same)
        (subst (λ (x : Party). AllByRecursion (IsOfSocket h side) x.segments) (sym (mine net side move)) made))
        (own_clock move ∙ ap (clock_after (clocks side)) shown) (far_clock move);
  } where
    told_same : (s : Side) (i : ℕ) → told (history_after h move) s i ≡ told h s i
    told_same s i = ap (λ (x : List Entry). told x s i) same

  -- the history has one entry more, which is no call of the two
  besides : (move : Move) (e : Entry) → history_after h move ≡ e ∷ h → shown_to here move ≡ None → socket_at (party_after P move) here ≡ socket_at P here →
      (party_after P move).segments ≡ P.segments → opening (e ∷ h) side here ≡ opening h side here → told (e ∷ h) side here ≡ told h side here
      → opening (e ∷ h) (other side) (seats (other side)).slot ≡ opening h (other side) (seats (other side)).slot
      → told (e ∷ h) (other side) (seats (other side)).slot ≡ told h (other side) (seats (other side)).slot
      → events_of_move here (clocks side) side number move ≡ [] → Goes move
  besides move e grown shown socket segments opened past far_opened far_past none = record {
    next = p;
    steps = none_of (events_of_move here (clocks side) side number move) none;
    shows =
        left seats net (next move) side clocks (clocks' move) p sh
        (λ s i o is. ap (λ (x : List Entry). opening x s i) grown ∙ opening_stays h e s i o is)
        (ap (λ (x : List Entry). opening x side here) grown ∙ opened) (ap (λ (x : List Entry). told x side here) grown ∙ past)
        (ap (λ (x : List Entry). opening x (other side) (seats (other side)).slot) grown ∙ far_opened)
        (ap (λ (x : List Entry). told x (other side) (seats (other side)).slot) grown ∙ far_past) (theirs net side move)
        (ap (λ (x : Party). socket_at x here) (mine net side move) ∙ socket)
        (subst (λ xs. HasSent (opening h side here) xs (at p.sides (side_in side)).sent) (sym same_segments) (sh.sent side))
        (subst (AllByRecursion (IsOfSocket (next move).history side)) (sym same_segments)
        (subst (λ (x : List Entry). AllByRecursion (IsOfSocket x side) P.segments) (sym grown)
        (of_socket_stays h (e ∷ h) side (λ s i o. opening_stays h e s i o) P.segments (sh.made side))))
        (own_clock move ∙ ap (clock_after (clocks side)) shown) (far_clock move);
  } where
    same_segments : (party (next move) side).segments ≡ P.segments
    same_segments = ap (λ (x : Party). x.segments) (mine net side move) ∙ segments

  -- a slot with a socket of another kind is another slot
  no_udp : (slot : ℕ) (s : Socket) → ((v : TcpValue) → s ≢ Tcp v) → socket_at P slot ≡ Some s → here ≢ slot
  no_udp slot s other_kind is same =
      other_kind (at p.sides (side_in side)).socket
      (some_is s (Tcp (at p.sides (side_in side)).socket) (sym is ∙ ap (socket_at P) (sym same) ∙ sh.socket side))

  -- OFFERS

  -- of nothing, it leaves the same after whether or not it goes
  abbrev let_go_by : TcpValue → IpAddress → Bool → Party
  let_go_by w from sent = record (with_socket P here (Tcp (settled sent w))) { segments = offered_segments sent P from w }

  let_go : (w : TcpValue) (from : IpAddress) (o : Option OpenOffer) → w.offered ≡ o → (sent : Bool) → let_go_by w from sent ≡ let_go_by w from (goes_off o sent)
  let_go w from (Some o) e sent = refl
  let_go w from None e true = refl
  let_go w from None e false =
      λ i. record (with_socket P here (Tcp (sent_off (sym e i) (unoffered w)))) { segments = and_offer P.segments from (sym e i) w.queued.queue }

  offer_here : (cx : ContextValue) (v : TcpValue) (from : IpAddress) (sent : Bool) → MayFrom slots h side P Q (Offers here cx v from sent)
      → IsPlain here net side (Offers here cx v from sent) → IsShown (seats side) (clocks side) (shown_to here (Offers here cx v from sent))
      → Goes (Offers here cx v from sent)
  offer_here cx v from sent may plain shown =
      let move : Move = Offers here cx v from sent in
      let now = own_clock move ∙ ap (clock_after (clocks side)) (shown_here cx) in
      let so : Bool = goes_off (offer_of cx v).socket.offered sent in
      own_events move (Offer (side_in side) cx.instant so ∷ [])
      (record {
        next = _;
        steps = (
          offer_allowed starts slots seats net (next move) side clocks (clocks' move) p k sh v may.0 (theirs net side move) (far_clock move) refl cx from so
              (is_of cx shown) now (plain refl)
              (mine net side move ∙ let_go (offer_of cx v).socket from (offer_of cx v).socket.offered refl sent),
          refl,
        );
        shows =
            offer_shows starts slots seats net (next move) side clocks (clocks' move) p k sh v may.0 (theirs net side move) (far_clock move) refl cx from so
            (is_of cx shown) now (plain refl)
            (mine net side move ∙ let_go (offer_of cx v).socket from (offer_of cx v).socket.offered refl sent);
      })

  offer_there : (at : ℕ) (cx : ContextValue) (v : TcpValue) (from : IpAddress) (sent : Bool) → MayFrom slots h side P Q (Offers at cx v from sent)
      → (at == here) ≡ false → here ≢ at → Goes (Offers at cx v from sent)
  offer_there at cx v from sent may other_slot apart =
      let move : Move = Offers at cx v from sent in
      let more = offers_more starts slots h side P Q k at v may.0 cx from sent in
      elsewhere move refl (shown_there at cx other_slot) (socket_stays P here at _ apart)
      (more_elsewhere slots h side here at P.segments (party_after P move).segments (opening h side here) _ k.allowed refl apart more (sh.sent side))
      (more_of_socket h side at P.segments (party_after P move).segments more (sh.made side)) (events_there at _ other_slot)

  -- ARRIVALS

  arrival_here : (cx : ContextValue) (v : TcpValue) (ip : IpRepr) (header : TcpHeader) (bytes : List ℕ) → MayFrom slots h side P Q (Takes here cx v ip header bytes)
      → IsPlain here net side (Takes here cx v ip header bytes) → IsShown (seats side) (clocks side) (shown_to here (Takes here cx v ip header bytes))
      → Numbered (Takes here cx v ip header bytes) → Goes (Takes here cx v ip header bytes)
  arrival_here cx v ip header bytes may plain shown numbered =
      let move : Move = Takes here cx v ip header bytes in
      let now = own_clock move ∙ ap (clock_after (clocks side)) (shown_here cx) in
      let of = is_of cx shown in
      own_events move (clock_to (side_in side) (clocks side) cx.instant ++ Deliver (side_in (other side)) number ∷ [])
      (goes_clocked seats net side clocks (clocks' move) p sh cx of now (far_clock move) (next move) (Deliver (side_in (other side)) number ∷ [])
      (λ p1 sh1.
      let o = was_opened starts slots seats net (next move) side (clocks' move) (clocks' move) p1 k sh1 v may.0 (theirs net side move) refl refl cx ip header bytes
      (keys side).0 (keys side).1 of.host (sh1.clock side ∙ now) refl may.1 (plain refl) later stay all_allowed peer_sides (mine net side move) in
      let f = found_at starts slots seats net (next move) side (clocks' move) (clocks' move) p1 k sh1 v may.0 (theirs net side move) refl refl cx ip header bytes
      (keys side).0 (keys side).1 of.host (sh1.clock side ∙ now) refl may.1 (plain refl) later stay all_allowed peer_sides (mine net side move) number (numbered refl) in
      record {
        next = _;
        steps = (
          comes_allowed starts slots seats net (next move) side (clocks' move) (clocks' move) p1 k sh1 v may.0 (theirs net side move) refl refl cx ip header bytes
              (keys side).0 (keys side).1 of.host (sh1.clock side ∙ now) refl may.1 (plain refl) later stay all_allowed peer_sides (mine net side move) number f o.0 o.1,
          refl,
        );
        shows =
            comes_shows starts slots seats net (next move) side (clocks' move) (clocks' move) p1 k sh1 v may.0 (theirs net side move) refl refl cx ip header bytes
            (keys side).0 (keys side).1 of.host (sh1.clock side ∙ now) refl may.1 (plain refl) later stay all_allowed peer_sides (mine net side move) number f o.0 o.1;
      }))

  -- a number fits
  arrival_number : (cx : ContextValue) (v : TcpValue) (ip : IpRepr) (header : TcpHeader) (bytes : List ℕ) → MayFrom slots h side P Q (Takes here cx v ip header bytes)
      → IsPlain here net side (Takes here cx v ip header bytes) → IsShown (seats side) (clocks side) (shown_to here (Takes here cx v ip header bytes))
      → (n : ℕ) × (slice_get (sent_in seats net (other side)) n ≡ Some (made_of (source_of ip) (destination_of ip) header bytes))
  arrival_number cx v ip header bytes may plain shown =
      let move : Move = Takes here cx v ip header bytes in
      let now = own_clock move ∙ ap (clock_after (clocks side)) (shown_here cx) in
      let of = is_of cx shown in
      let p1 : PairValue = (happens p (clock_event seats net side clocks (clocks' move) p sh cx of now (far_clock move))).pair in
      let sh1 : Shows seats (clocks' move) net p1 = clock_shows seats net side clocks (clocks' move) p sh cx of now (far_clock move) in
      let o = was_opened starts slots seats net (next move) side (clocks' move) (clocks' move) p1 k sh1 v may.0 (theirs net side move) refl refl cx ip header bytes
      (keys side).0 (keys side).1 of.host (sh1.clock side ∙ now) refl may.1 (plain refl) later stay all_allowed peer_sides (mine net side move) in
      fits starts slots seats net (next move) side (clocks' move) (clocks' move) p1 k sh1 v may.0 (theirs net side move) refl refl cx ip header bytes
      (keys side).0 (keys side).1 of.host (sh1.clock side ∙ now) refl may.1 (plain refl) later stay all_allowed peer_sides (mine net side move) o.0 o.1

  arrival_there : (at : ℕ) (cx : ContextValue) (v : TcpValue) (ip : IpRepr) (header : TcpHeader) (bytes : List ℕ)
      → MayFrom slots h side P Q (Takes at cx v ip header bytes) → (at == here) ≡ false → here ≢ at → Goes (Takes at cx v ip header bytes)
  arrival_there at cx v ip header bytes may other_slot apart =
      let move : Move = Takes at cx v ip header bytes in
      let more = answers_more starts slots h side P Q k at v may.0 cx ip header bytes may.1 may.2 in
      elsewhere move refl (shown_there at cx other_slot) (socket_stays P here at _ apart)
      (more_elsewhere slots h side here at P.segments (party_after P move).segments (opening h side here) _ k.allowed refl apart more (sh.sent side))
      (more_of_socket h side at P.segments (party_after P move).segments more (sh.made side)) (events_there at _ other_slot)

  -- CALLS

  call_here : (cx : ContextValue) (old new : Socket) (entry : Entry) (call : SocketCall) → MayFrom slots h side P Q (Invokes here cx old entry call new)
      → IsShown (seats side) (clocks side) (shown_to here (Invokes here cx old entry call new)) → Goes (Invokes here cx old entry call new)
  call_here cx (Tcp v) (Tcp new) entry call may shown =
      let move : Move = Invokes here cx (Tcp v) entry call (Tcp new) in
      let now = own_clock move ∙ ap (clock_after (clocks side)) (shown_here cx) in
      let of = is_of cx shown in
      own_events move (clock_to (side_in side) (clocks side) cx.instant ++ called_by (side_in side) call)
      (goes_clocked seats net side clocks (clocks' move) p sh cx of now (far_clock move) (next move) (called_by (side_in side) call)
      (λ p1 sh1.
      called starts slots seats net (next move) side (clocks' move) p1 k sh1 v new entry may.0 (may.2, k.allowed) (theirs net side move) refl (mine net side move) cx
      (keys side).0 (keys side).1 of.host (sh1.clock side ∙ now) call may.1 may.3))
  call_here cx (Udp v) new entry call may shown = absurd (no_udp here (Udp v) (λ w e. absurd (cc)) may.0 refl)
  call_here cx Icmp new entry call may shown = absurd (no_udp here Icmp (λ w e. absurd (cc)) may.0 refl)
  call_here cx Raw new entry call may shown = absurd (no_udp here Raw (λ w e. absurd (cc)) may.0 refl)
  call_here cx (Tcp v) new entry call may shown = absurd (may.3)

  call_there : (at : ℕ) (cx : ContextValue) (old new : Socket) (entry : Entry) (call : SocketCall) → MayFrom slots h side P Q (Invokes at cx old entry call new)
      → (at == here) ≡ false → here ≢ at → Goes (Invokes at cx old entry call new)
  call_there at cx old new entry call may other_slot apart =
      let mine_none = call_at_other_slot entry side at here call may.1 other_slot in
      let far_none = call_at_other_side entry side at (seats (other side)).slot call may.1 in
      besides (Invokes at cx old entry call new) entry refl (shown_there at cx other_slot) (socket_stays P here at new apart) refl
      (opening_left h entry side here mine_none) (told_left h entry side here mine_none) (opening_left h entry (other side) (seats (other side)).slot far_none)
      (told_left h entry (other side) (seats (other side)).slot far_none) (events_there at _ other_slot)

  passes : (entry : Entry) → IsNoCall (kind_of entry.event) → Goes (Passes entry)
  passes entry none =
      let mine_none = no_call (kind_of entry.event) side here none in
      let far_none = no_call (kind_of entry.event) (other side) (seats (other side)).slot none in
      besides (Passes entry) entry refl refl refl refl (opening_left h entry side here mine_none) (told_left h entry side here mine_none)
      (opening_left h entry (other side) (seats (other side)).slot far_none) (told_left h entry (other side) (seats (other side)).slot far_none) refl

  -- EACH MOVE

  -- at the socket's own slot, or at another
  by_slot : (at : ℕ) (X : ℕ → Type 0) → X here → ((at == here) ≡ false → here ≢ at → X at) → X at
  by_slot at X own there = by (eqb_tells at here) where
    by : (((at == here) ≡ true) × (at ≡ here)) ⊎ (((at == here) ≡ false) × (at ≢ here)) → X at
    by (inl same) = subst X (sym same.1) own
    by (inr apart) = there apart.0 (λ same. apart.1 (sym same))

  goes : (move : Move) → MayFrom slots h side P Q move → IsPlain here net side move → IsShown (seats side) (clocks side) (shown_to here move) → Numbered move →
      Goes move
  goes (Invokes at cx old entry call new) may plain shown numbered =
      by_slot at
      (λ i. MayFrom slots h side P Q (Invokes i cx old entry call new) → IsShown (seats side) (clocks side) (shown_to here (Invokes i cx old entry call new)) →
      Goes (Invokes i cx old entry call new))
      (λ m s. call_here cx old new entry call m s) (λ off apart m s. call_there at cx old new entry call m off apart) may shown
  goes (Passes entry) may plain shown numbered = passes entry may
  goes (Offers at cx v from sent) may plain shown numbered =
      by_slot at
      (λ i. MayFrom slots h side P Q (Offers i cx v from sent) → IsPlain here net side (Offers i cx v from sent)
      → IsShown (seats side) (clocks side) (shown_to here (Offers i cx v from sent)) → Goes (Offers i cx v from sent))
      (λ m own s. offer_here cx v from sent m own s) (λ off apart m own s. offer_there at cx v from sent m off apart) may plain shown
  goes (Gives at cx v answer v' sent) may plain shown numbered =
      let apart = no_udp at (Udp v) (λ w e. absurd (cc)) may.0 in
      elsewhere (Gives at cx v answer v' sent) refl refl (socket_stays P here at _ apart) (sh.sent side) (sh.made side) refl
  goes (Takes at cx v ip header bytes) may plain shown numbered =
      by_slot at
      (λ i. MayFrom slots h side P Q (Takes i cx v ip header bytes) → IsPlain here net side (Takes i cx v ip header bytes)
      → IsShown (seats side) (clocks side) (shown_to here (Takes i cx v ip header bytes)) → Numbered (Takes i cx v ip header bytes)
      → Goes (Takes i cx v ip header bytes))
      (λ m own s n. arrival_here cx v ip header bytes m own s n) (λ off apart m own s n. arrival_there at cx v ip header bytes m off apart) may plain shown numbered
  goes (Receives at cx v ip udp bytes) may plain shown numbered =
      let apart = no_udp at (Udp v) (λ w e. absurd (cc)) may.0 in
      elsewhere (Receives at cx v ip udp bytes) refl refl (socket_stays P here at _ apart) (sh.sent side) (sh.made side) refl
  goes (Resets x) may plain shown numbered = absurd plain
  goes (Changes at old new) may plain shown numbered = absurd plain

  -- a number that fits a move
  abbrev HasNumber : Move → Type 0
  HasNumber move = (n : ℕ) × IsNumbered here (sent_in seats net (other side)) n move

  has_number : (move : Move) → MayFrom slots h side P Q move → IsPlain here net side move → IsShown (seats side) (clocks side) (shown_to here move) → HasNumber move
  has_number (Takes at cx v ip header bytes) may plain shown =
      by_slot at
      (λ i. MayFrom slots h side P Q (Takes i cx v ip header bytes) → IsPlain here net side (Takes i cx v ip header bytes)
      → IsShown (seats side) (clocks side) (shown_to here (Takes i cx v ip header bytes)) → HasNumber (Takes i cx v ip header bytes))
      (λ m own s. let n = arrival_number cx v ip header bytes m own s in (n.0, λ same. n.1))
      (λ off apart m own s. (0, λ same. absurd (apart (sym same)))) may plain shown
  has_number (Invokes at cx old entry call new) may plain shown = (0, tt)
  has_number (Passes entry) may plain shown = (0, tt)
  has_number (Offers at cx v from sent) may plain shown = (0, tt)
  has_number (Gives at cx v answer v' sent) may plain shown = (0, tt)
  has_number (Receives at cx v ip udp bytes) may plain shown = (0, tt)
  has_number (Resets x) may plain shown = (0, tt)
  has_number (Changes at old new) may plain shown = (0, tt)

-- RUNS

turned : (history : List Entry) (seats : Side → Seat) (side : Side) → ArePartners history A (seats A).slot (seats B).slot →
    ArePartners history side (seats side).slot (seats (other side)).slot
turned history seats A a = a
turned history seats B a = peer_sides_turned history A (seats A).slot (seats B).slot a

module _ (starts : Side → ℕ → ℕ) (slots : Slots) (seats : Side → Seat) (keys : HaveKeys seats) where
  -- what one step of a run needs
  module _ (net : Net) (step : Step) (steps : List Step) (clocks : Side → ℤ) (p : PairValue) (k : Kept starts slots net) (is : IsRun slots.names net (step ∷ steps))
      (hosted : AreHosted seats clocks net (step ∷ steps)) (peer_sides : ArePartners (run net (step ∷ steps)).history A (seats A).slot (seats B).slot)
      (sh : Shows seats clocks net p) where
    step_goes : (number : ℕ) → IsNumbered (seats step.side).slot (sent_in seats net (other step.side)) number step.move
        → ProceedsBy seats (clocks_after seats clocks step) (after net step) p (events_of_one seats clocks (record { step = step; number = number }))
    step_goes number numbered =
        let last = kept_run starts slots net (step ∷ steps) k is in
        goes starts slots seats net step.side clocks p (from_side starts slots net step.side k) sh keys (run net (step ∷ steps)).history (run_stays net (step ∷ steps))
        last.allowed (turned (run net (step ∷ steps)).history seats step.side peer_sides) number step.move (from_may starts slots net step.side step.move k is.0)
        hosted.0 hosted.1 numbered

    step_number : (n : ℕ) × IsNumbered (seats step.side).slot (sent_in seats net (other step.side)) n step.move
    step_number =
        let last = kept_run starts slots net (step ∷ steps) k is in
        has_number starts slots seats net step.side clocks p (from_side starts slots net step.side k) sh keys (run net (step ∷ steps)).history
        (run_stays net (step ∷ steps)) last.allowed (turned (run net (step ∷ steps)).history seats step.side peer_sides) 0 step.move
        (from_may starts slots net step.side step.move k is.0) hosted.0 hosted.1

  run_goes : (net : Net) (moves : List Happening) (clocks : Side → ℤ) (p : PairValue) → Kept starts slots net → IsRun slots.names net (steps_of moves)
      → AreHosted seats clocks net (steps_of moves) → ArePartners (run net (steps_of moves)).history A (seats A).slot (seats B).slot → AreNumbered seats net moves
      → Shows seats clocks net p → ProceedsBy seats (clocks_in seats clocks (steps_of moves)) (run net (steps_of moves)) p (events_of_moves seats clocks moves)
  run_goes net [] clocks p k is hosted peer_sides numbered sh = record { next = p; steps = refl; shows = sh }
  run_goes net (x ∷ moves) clocks p k is hosted peer_sides numbered sh =
      let one = step_goes net x.step (steps_of moves) clocks p k is hosted peer_sides sh x.number numbered.0 in
      let rest =
      run_goes (after net x.step) moves (clocks_after seats clocks x.step) one.next (step_by starts slots net x.step.side x.step.move k is.0) is.1 hosted.2
      peer_sides numbered.1 one.shows in
      record {
        next = rest.next;
        steps = steps_append p one.next rest.next (events_of_one seats clocks x) (events_of_moves seats (clocks_after seats clocks x.step) moves) one.steps rest.steps;
        shows = rest.shows;
      }

  run_shows : (net : Net) (moves : List Happening) (clocks : Side → ℤ) (p : PairValue) → Kept starts slots net → IsRun slots.names net (steps_of moves)
      → AreHosted seats clocks net (steps_of moves) → ArePartners (run net (steps_of moves)).history A (seats A).slot (seats B).slot → AreNumbered seats net moves
      → Shows seats clocks net p → ShowsAlong seats clocks net p moves
  run_shows net [] clocks p k is hosted peer_sides numbered sh = sh
  run_shows net (x ∷ moves) clocks p k is hosted peer_sides numbered sh =
      let one = step_goes net x.step (steps_of moves) clocks p k is hosted peer_sides sh x.number numbered.0 in (
        sh,
        run_shows (after net x.step) moves (clocks_after seats clocks x.step) (after_events p (events_of_one seats clocks x))
            (step_by starts slots net x.step.side x.step.move k is.0) is.1 hosted.2 peer_sides numbered.1
            (subst (λ (q : PairValue). Shows seats (clocks_after seats clocks x.step) (after net x.step) q)
            (steps_lead p one.next (events_of_one seats clocks x) one.steps) one.shows),
      )

  run_numbers : (net : Net) (steps : List Step) (clocks : Side → ℤ) (p : PairValue) → Kept starts slots net → IsRun slots.names net steps
      → AreHosted seats clocks net steps → ArePartners (run net steps).history A (seats A).slot (seats B).slot → Shows seats clocks net p
      → HaveNumbers seats net steps
  run_numbers net [] clocks p k is hosted peer_sides sh = record { moves = []; are_these = refl; numbered = tt }
  run_numbers net (step ∷ steps) clocks p k is hosted peer_sides sh =
      let n = step_number net step steps clocks p k is hosted peer_sides sh in
      let one = step_goes net step steps clocks p k is hosted peer_sides sh n.0 n.1 in
      let rest =
      run_numbers (after net step) steps (clocks_after seats clocks step) one.next (step_by starts slots net step.side step.move k is.0) is.1 hosted.2 peer_sides
      one.shows in
      record {
        moves = record { step = step; number = n.0 } ∷ rest.moves;
        are_these = ap (λ (xs : List Step). step ∷ xs) rest.are_these;
        numbered = (n.1, rest.numbered);
      }

pub peer_sides_have_numbers : (starts : Side → ℕ → ℕ) (names : List ℕ → Bool) (first : Net) (before steps : List Step) (seats : Side → Seat) (clocks : Side → ℤ)
    (p : PairValue) → IsInitialNet starts first → IsRun names first before → IsRun names (run first before) steps → AreHosted seats clocks (run first before) steps
    → HaveKeys seats → ArePartners (run (run first before) steps).history A (seats A).slot (seats B).slot → Shows seats clocks (run first before) p
    → HaveNumbers seats (run first before) steps
peer_sides_have_numbers starts names first before steps seats clocks p initial was is hosted keys peer_sides sh =
    let slots = slots_of names first in
    run_numbers starts slots seats keys (run first before) steps clocks p (kept_run starts slots first before (initial_kept starts names first initial) was) is hosted
    peer_sides sh

pub peer_sides_proceed_by : (starts : Side → ℕ → ℕ) (names : List ℕ → Bool) (first : Net) (before : List Step) (moves : List Happening) (seats : Side → Seat)
    (clocks : Side → ℤ) (p : PairValue) → IsInitialNet starts first → IsRun names first before → IsRun names (run first before) (steps_of moves)
    → AreHosted seats clocks (run first before) (steps_of moves) → HaveKeys seats
    → ArePartners (run (run first before) (steps_of moves)).history A (seats A).slot (seats B).slot → AreNumbered seats (run first before) moves
    → Shows seats clocks (run first before) p
    → ProceedsBy seats (clocks_in seats clocks (steps_of moves)) (run (run first before) (steps_of moves)) p (events_of_moves seats clocks moves)
peer_sides_proceed_by starts names first before moves seats clocks p initial was is hosted keys peer_sides numbered sh =
    let slots = slots_of names first in
    run_goes starts slots seats keys (run first before) moves clocks p (kept_run starts slots first before (initial_kept starts names first initial) was) is hosted
    peer_sides numbered sh

pub peer_sides_show_along : (starts : Side → ℕ → ℕ) (names : List ℕ → Bool) (first : Net) (before : List Step) (moves : List Happening) (seats : Side → Seat)
    (clocks : Side → ℤ) (p : PairValue) → IsInitialNet starts first → IsRun names first before → IsRun names (run first before) (steps_of moves)
    → AreHosted seats clocks (run first before) (steps_of moves) → HaveKeys seats
    → ArePartners (run (run first before) (steps_of moves)).history A (seats A).slot (seats B).slot → AreNumbered seats (run first before) moves
    → Shows seats clocks (run first before) p → ShowsAlong seats clocks (run first before) p moves
peer_sides_show_along starts names first before moves seats clocks p initial was is hosted keys peer_sides numbered sh =
    let slots = slots_of names first in
    run_shows starts slots seats keys (run first before) moves clocks p (kept_run starts slots first before (initial_kept starts names first initial) was) is hosted
    peer_sides numbered sh

-- with whatever numbers
whatever : (seats : Side → Seat) (net : Net) (clocks : Side → ℤ) (p : PairValue) (moves : List Happening)
    → ProceedsBy seats (clocks_in seats clocks (steps_of moves)) (run net (steps_of moves)) p (events_of_moves seats clocks moves)
    → Proceeds seats (clocks_in seats clocks (steps_of moves)) (run net (steps_of moves)) p
whatever seats net clocks p moves on = record { events = events_of_moves seats clocks moves; next = on.next; steps = on.steps; shows = on.shows }

pub peer_sides_proceed : (starts : Side → ℕ → ℕ) (names : List ℕ → Bool) (first : Net) (before steps : List Step) (seats : Side → Seat) (clocks : Side → ℤ) (p : PairValue)
    → IsInitialNet starts first → IsRun names first before → IsRun names (run first before) steps → AreHosted seats clocks (run first before) steps → HaveKeys seats
    → ArePartners (run (run first before) steps).history A (seats A).slot (seats B).slot → Shows seats clocks (run first before) p
    → Proceeds seats (clocks_in seats clocks steps) (run (run first before) steps) p
peer_sides_proceed starts names first before steps seats clocks p initial was is hosted keys peer_sides sh =
    let slots = slots_of names first in
    let net : Net = run first before in
    let k = kept_run starts slots first before (initial_kept starts names first initial) was in
    let n = run_numbers starts slots seats keys net steps clocks p k is hosted peer_sides sh in
    subst (λ (xs : List Step). Proceeds seats (clocks_in seats clocks xs) (run net xs) p) n.are_these
    (whatever seats net clocks p n.moves
    (run_goes starts slots seats keys net n.moves clocks p k (subst (λ (xs : List Step). IsRun names net xs) (sym n.are_these) is)
    (subst (λ (xs : List Step). AreHosted seats clocks net xs) (sym n.are_these) hosted)
    (subst (λ (xs : List Step). ArePartners (run net xs).history A (seats A).slot (seats B).slot) (sym n.are_these) peer_sides) n.numbered sh))
