-- What a move says of its events.
use Rattle.std.proofs.Common.{◌≡◌, ◌≢◌, ◌⊎◌, inl, inr, ℕ, ◌==◌, ℤ, int_le, Bool, true, false, if◌then◌else◌, List, [], ◌∷◌, ◌++◌, length}
use Rattle.std.proofs.Common.{map, Some, slice_get, refl, sym, ap, ◌∙◌, subst, eq-eqb, arith}
use Rattle.std.proofs.lemmas.Bool.Decides.{eqb_tells}
use Rattle.std.proofs.lemmas.Int.{ints}
use Rattle.std.proofs.lemmas.List.{length-map}
use Rattle.ip_wire.specs.Ip.{source_of, destination_of}
use Rattle.ip_wire.specs.IpRepr.{IpRepr}
use Rattle.ip_wire.specs.TcpHeader.{TcpHeader}
use Rattle.sockets.specs.Context.{ContextValue}
use Rattle.tcp_block.specs.Offers.{offer_of}
use Rattle.tcp_block.specs.Value.{TcpValue}
use Rattle.tcp_refinement.specs.Host.{Made, made_of}
use Rattle.tcp_refinement.specs.Pair.History.{pasts}
use Rattle.tcp_refinement.specs.Pair.Sides.{at}
use Rattle.tcp_refinement.specs.Pair.Sides as Sides
use Rattle.tcp_refinement.specs.Pair.Values.{PairValue}
use Rattle.tcp_refinement.specs.declared.pair.event.PairEvent.{PairEvent}
use Rattle.tcp_refinement.specs.declared.pair.event.PairEvent.TheVariants as Ev
use Rattle.tcp_refinement.specs.declared.pair.event.SentSegment.{SentSegment}
use Rattle.tcp_refinement.specs.declared.pair.event.Side as Pairs
use Rattle.tcp_refinement.specs.declared.pair.event.Side.TheVariants as Of
use Rattle.tcp_liveness.specs.Course.{AreEqual, Asks, IsAt, IsHeard, IsTaken}
use Rattle.tcp_liveness.specs.Pair.{mtu_of, next_sent, socket_of}
use Rattle.tcp_liveness.specs.Readers.{Reads}
use Rattle.tcp_liveness.specs.Rounds.{takes}
use Rattle.lan.specs.declared.at_link.history.event.Side.{Side}
use Rattle.lan.specs.Worlds.AtLink.Call as Call
use Rattle.lan.specs.Worlds.AtLink.Call.{SocketCall}
use Rattle.lan.specs.Worlds.AtLink.Happening.{IsNumbered, called_by, clock_to, events_of_move, goes, if_here, sent_in}
use Rattle.lan.specs.Worlds.AtLink.History.{opening}
use Rattle.lan.specs.Worlds.AtLink.Kinds.{other}
use Rattle.lan.specs.Worlds.AtLink.Moves.{May, Move}
use Rattle.lan.specs.Worlds.AtLink.Moves.Move.{Invokes, Passes, Offers, Gives, Takes, Receives, Resets, Changes}
use Rattle.lan.specs.Worlds.AtLink.Paired.{Seat, Shows, made_by, side_in}
use Rattle.lan.specs.Worlds.AtLink.Parties.{Net, party, socket_at}
use Rattle.lan.specs.Worlds.AtLink.Parties.Socket.{Tcp}
use Rattle.lan.proofs.Worlds.AtLink.Exchange.{same_tcp}
use Rattle.lan.proofs.Worlds.AtLink.Slots.{some_is}
use Rattle.lan.proofs.Worlds.AtLink.Paired.Parts.{back_in, map_get}
use Rattle.lan.proofs.Worlds.AtLink.Paired.Wires.{get_mapped, sent_same}
use Rattle.proof_stack.proofs.Blocks.{AllAre, AreQuiet, ComesSo, IsQuiet, OfLast}
use Rattle.proof_stack.specs.Progress.Moving.{BringsAt, IsAtInstant, IsHeardBy, IsLetGo, IsReadAt, IsAskedAt}

-- A CLOCK THAT GOES ON

pub clock_socket : (p : PairValue) (side d : Pairs.Side) (m : ℤ) → socket_of (takes p (Ev.Clock side m)) d ≡ socket_of p d
clock_socket p Of.A Of.A m = refl
clock_socket p Of.A Of.B m = refl
clock_socket p Of.B Of.A m = refl
clock_socket p Of.B Of.B m = refl

clock_mtu : (p : PairValue) (side d : Pairs.Side) (m : ℤ) → mtu_of (takes p (Ev.Clock side m)) d ≡ mtu_of p d
clock_mtu p Of.A Of.A m = refl
clock_mtu p Of.A Of.B m = refl
clock_mtu p Of.B Of.A m = refl
clock_mtu p Of.B Of.B m = refl

pub clock_sent : (p : PairValue) (side d : Pairs.Side) (m : ℤ) → (at (takes p (Ev.Clock side m)).sides d).sent ≡ (at p.sides d).sent
clock_sent p Of.A Of.A m = refl
clock_sent p Of.A Of.B m = refl
clock_sent p Of.B Of.A m = refl
clock_sent p Of.B Of.B m = refl

pub clock_past : (p : PairValue) (side d : Pairs.Side) (m : ℤ) → at (pasts (takes p (Ev.Clock side m)).history) d ≡ at (pasts p.history) d
clock_past p Of.A Of.A m = refl
clock_past p Of.A Of.B m = refl
clock_past p Of.B Of.A m = refl
clock_past p Of.B Of.B m = refl

pub clock_quiet : (p : PairValue) (side : Pairs.Side) (m : ℤ) → IsQuiet p (Ev.Clock side m)
clock_quiet p side m = record {
  socket = λ d. clock_socket p side d m;
  mtu = λ d. clock_mtu p side d m;
  sent = λ d. ap (λ (xs : List SentSegment). length xs) (clock_sent p side d m);
  past = λ d. clock_past p side d m;
  asks = λ d never. never;
  reads = λ d never. never;
}

-- THE EVENTS OF A MOVE

-- one event, or none
abbrev IsShort : List PairEvent → Type 0
IsShort events = (events ≡ []) ⊎ ((event : PairEvent) × (events ≡ event ∷ []))

called_short : (side : Pairs.Side) (call : SocketCall) → IsShort (called_by side call)
called_short side (Call.Listen port) = inr (_, refl)
called_short side (Call.Connect remote port) = inr (_, refl)
called_short side (Call.Send bytes) = inr (_, refl)
called_short side (Call.Recv limit) = inr (_, refl)
called_short side Call.Close = inr (_, refl)
called_short side Call.Abort = inr (_, refl)
called_short side (Call.Set setting) = inr (_, refl)
called_short side Call.State = inl refl
called_short side (Call.Bind port) = inl refl
called_short side (Call.Ident ident) = inl refl
called_short side (Call.SendTo remote bytes) = inl refl
called_short side (Call.SendIcmp remote bytes) = inl refl
called_short side (Call.SendRaw bytes) = inl refl
called_short side (Call.RecvFrom limit) = inl refl

led_quiet : (p : PairValue) (side : Pairs.Side) (m : ℤ) (t : Bool) (events : List PairEvent) → IsShort events
    → AreQuiet p ((if t then [] else Ev.Clock side m ∷ []) ++ events)
led_quiet p side m t events (inl none) =
    subst (λ (xs : List PairEvent). AreQuiet p ((if t then [] else Ev.Clock side m ∷ []) ++ xs)) (sym none) (by t) where
      by : (u : Bool) → AreQuiet p ((if u then [] else Ev.Clock side m ∷ []) ++ [])
      by true = tt
      by false = tt
led_quiet p side m t events (inr one) =
    subst (λ (xs : List PairEvent). AreQuiet p ((if t then [] else Ev.Clock side m ∷ []) ++ xs)) (sym one.1) (by t) where
      by : (u : Bool) → AreQuiet p ((if u then [] else Ev.Clock side m ∷ []) ++ one.0 ∷ [])
      by true = tt
      by false = (clock_quiet p side m, tt)

here_quiet : (p : PairValue) (at slot : ℕ) (events : List PairEvent) → AreQuiet p events → AreQuiet p (if_here at slot events)
here_quiet p at slot events quiet = by (at == slot) where
  by : (t : Bool) → AreQuiet p (if t then events else [])
  by true = quiet
  by false = tt

pub move_quiet : (p : PairValue) (slot : ℕ) (last : ℤ) (side : Side) (number : ℕ) (move : Move) → AreQuiet p (events_of_move slot last side number move)
move_quiet p slot last side number (Invokes at cx old entry call new) =
    here_quiet p at slot (clock_to (side_in side) last cx.instant ++ called_by (side_in side) call)
    (led_quiet p (side_in side) cx.instant (int_le cx.instant last) (called_by (side_in side) call) (called_short (side_in side) call))
move_quiet p slot last side number (Passes entry) = tt
move_quiet p slot last side number (Offers at cx v from sent) = here_quiet p at slot (Ev.Offer (side_in side) cx.instant (goes (offer_of cx v).socket.offered sent) ∷ []) tt
move_quiet p slot last side number (Gives at cx v answer v' sent) = tt
move_quiet p slot last side number (Takes at cx v ip header bytes) =
    here_quiet p at slot (clock_to (side_in side) last cx.instant ++ Ev.Deliver (side_in (other side)) number ∷ [])
    (led_quiet p (side_in side) cx.instant (int_le cx.instant last) (Ev.Deliver (side_in (other side)) number ∷ []) (inr (_, refl)))
move_quiet p slot last side number (Receives at cx v ip udp bytes) = tt
move_quiet p slot last side number (Resets x) = tt
move_quiet p slot last side number (Changes at old new) = tt

-- MOMENTS

all_append : (IsSo : PairEvent → Type 0) (xs ys : List PairEvent) → AllAre IsSo xs → AllAre IsSo ys → AllAre IsSo (xs ++ ys)
all_append IsSo [] ys some more = more
all_append IsSo (x ∷ xs) ys some more = (some.0, all_append IsSo xs ys some.1 more)

all_here : (IsSo : PairEvent → Type 0) (at slot : ℕ) (events : List PairEvent) → (at ≡ slot → AllAre IsSo events) → AllAre IsSo (if_here at slot events)
all_here IsSo at slot events all = by (eqb_tells at slot) where
  by : (((at == slot) ≡ true) × (at ≡ slot)) ⊎ (((at == slot) ≡ false) × (at ≢ slot)) → AllAre IsSo (if_here at slot events)
  by (inl same) = subst (λ (t : Bool). AllAre IsSo (if t then events else [])) (sym same.0) (all same.1)
  by (inr apart) = subst (λ (t : Bool). AllAre IsSo (if t then events else [])) (sym apart.0) tt

no_later : (m last : ℤ) → m ≡ last → int_le m last ≡ false → ⊥
no_later m last same e = first_of (omega (arith, ints, same), grind (arith, ints))

clock_at : (now last m : ℤ) (side : Pairs.Side) → (m ≡ last) ⊎ (m ≡ now) → AllAre (IsAt now) (clock_to side last m)
clock_at now last m side is = by (int_le m last) refl is where
  by : (t : Bool) → int_le m last ≡ t → (m ≡ last) ⊎ (m ≡ now) → AllAre (IsAt now) (if t then [] else Ev.Clock side m ∷ [])
  by true e is = tt
  by false e (inl same) = absurd (no_later m last same e)
  by false e (inr now_is) = (now_is, tt)

-- a call has no instant, and isn't an offer
called_all : (IsSo : PairEvent → Type 0) (side : Pairs.Side) (call : SocketCall) → ((endpoint : _) → IsSo (Ev.Listen side endpoint))
    → ((remote local : _) → IsSo (Ev.Connect side remote local)) → ((bytes : _) → IsSo (Ev.Send side bytes)) → ((n : _) → IsSo (Ev.Recv side n))
    → IsSo (Ev.Close side) → IsSo (Ev.Abort side) → ((setting : _) → IsSo (Ev.TcpSetting side setting)) → AllAre IsSo (called_by side call)
called_all IsSo side (Call.Listen port) listen connect send recv close abort set = (listen _, tt)
called_all IsSo side (Call.Connect remote port) listen connect send recv close abort set = (connect _ _, tt)
called_all IsSo side (Call.Send bytes) listen connect send recv close abort set = (send _, tt)
called_all IsSo side (Call.Recv limit) listen connect send recv close abort set = (recv _, tt)
called_all IsSo side Call.Close listen connect send recv close abort set = (close, tt)
called_all IsSo side Call.Abort listen connect send recv close abort set = (abort, tt)
called_all IsSo side (Call.Set setting) listen connect send recv close abort set = (set _, tt)
called_all IsSo side Call.State listen connect send recv close abort set = tt
called_all IsSo side (Call.Bind port) listen connect send recv close abort set = tt
called_all IsSo side (Call.Ident ident) listen connect send recv close abort set = tt
called_all IsSo side (Call.SendTo remote bytes) listen connect send recv close abort set = tt
called_all IsSo side (Call.SendIcmp remote bytes) listen connect send recv close abort set = tt
called_all IsSo side (Call.SendRaw bytes) listen connect send recv close abort set = tt
called_all IsSo side (Call.RecvFrom limit) listen connect send recv close abort set = tt

pub move_at : (now last : ℤ) (slot : ℕ) (side : Side) (number : ℕ) (move : Move) → IsAtInstant now last slot move
    → AllAre (IsAt now) (events_of_move slot last side number move)
move_at now last slot side number (Invokes at cx old entry call new) is =
    all_here (IsAt now) at slot (clock_to (side_in side) last cx.instant ++ called_by (side_in side) call)
    (λ same.
    all_append (IsAt now) (clock_to (side_in side) last cx.instant) (called_by (side_in side) call) (clock_at now last cx.instant (side_in side) (is same))
    (called_all (IsAt now) (side_in side) call (λ _. tt) (λ _ _. tt) (λ _. tt) (λ _. tt) tt tt (λ _. tt)))
move_at now last slot side number (Passes entry) is = tt
move_at now last slot side number (Offers at cx v from sent) is =
    all_here (IsAt now) at slot (Ev.Offer (side_in side) cx.instant (goes (offer_of cx v).socket.offered sent) ∷ []) (λ same. (is same, tt))
move_at now last slot side number (Gives at cx v answer v' sent) is = tt
move_at now last slot side number (Takes at cx v ip header bytes) is =
    all_here (IsAt now) at slot (clock_to (side_in side) last cx.instant ++ Ev.Deliver (side_in (other side)) number ∷ [])
    (λ same.
    all_append (IsAt now) (clock_to (side_in side) last cx.instant) (Ev.Deliver (side_in (other side)) number ∷ [])
    (clock_at now last cx.instant (side_in side) (inr (is same))) (tt, tt))
move_at now last slot side number (Receives at cx v ip udp bytes) is = tt
move_at now last slot side number (Resets x) is = tt
move_at now last slot side number (Changes at old new) is = tt

clock_taken : (t : Bool) (side : Pairs.Side) (m : ℤ) → AllAre IsTaken (if t then [] else Ev.Clock side m ∷ [])
clock_taken true side m = tt
clock_taken false side m = (tt, tt)

pub move_taken : (last : ℤ) (slot : ℕ) (side : Side) (number : ℕ) (move : Move) → IsLetGo slot move
    → AllAre IsTaken (events_of_move slot last side number move)
move_taken last slot side number (Invokes at cx old entry call new) is =
    all_here IsTaken at slot (clock_to (side_in side) last cx.instant ++ called_by (side_in side) call)
    (λ same.
    all_append IsTaken (clock_to (side_in side) last cx.instant) (called_by (side_in side) call) (clock_taken (int_le cx.instant last) (side_in side) cx.instant)
    (called_all IsTaken (side_in side) call (λ _. tt) (λ _ _. tt) (λ _. tt) (λ _. tt) tt tt (λ _. tt)))
move_taken last slot side number (Passes entry) is = tt
move_taken last slot side number (Offers at cx v from sent) is =
    all_here IsTaken at slot (Ev.Offer (side_in side) cx.instant (goes (offer_of cx v).socket.offered sent) ∷ []) (λ same. (is same, tt))
move_taken last slot side number (Gives at cx v answer v' sent) is = tt
move_taken last slot side number (Takes at cx v ip header bytes) is =
    all_here IsTaken at slot (clock_to (side_in side) last cx.instant ++ Ev.Deliver (side_in (other side)) number ∷ [])
    (λ same.
    all_append IsTaken (clock_to (side_in side) last cx.instant) (Ev.Deliver (side_in (other side)) number ∷ [])
    (clock_taken (int_le cx.instant last) (side_in side) cx.instant) (tt, tt))
move_taken last slot side number (Receives at cx v ip udp bytes) is = tt
move_taken last slot side number (Resets x) is = tt
move_taken last slot side number (Changes at old new) is = tt

-- THE LAST EVENT

last_here : (IsSo : PairValue → PairEvent → Type 0) (p : PairValue) (at slot : ℕ) (events : List PairEvent) → at ≡ slot → OfLast IsSo p events
    → OfLast IsSo p (if_here at slot events)
last_here IsSo p at slot events same is = subst (λ (t : Bool). OfLast IsSo p (if t then events else [])) (sym (eq-eqb at slot same)) is

last_led : (IsSo : PairValue → PairEvent → Type 0) (p : PairValue) (side : Pairs.Side) (m : ℤ) (event : PairEvent) (t : Bool) → IsSo p event
    → IsSo (takes p (Ev.Clock side m)) event → OfLast IsSo p ((if t then [] else Ev.Clock side m ∷ []) ++ event ∷ [])
last_led IsSo p side m event true now later = now
last_led IsSo p side m event false now later = later

pub move_asks : (p : PairValue) (slot : ℕ) (last : ℤ) (side : Side) (number : ℕ) (move : Move) → IsAskedAt slot move
    → OfLast (λ q e. Asks (side_in side) e) p (events_of_move slot last side number move)
move_asks p slot last side number (Offers at cx v from sent) is =
    last_here (λ q e. Asks (side_in side) e) p at slot (Ev.Offer (side_in side) cx.instant (goes (offer_of cx v).socket.offered sent) ∷ []) is.0
    (subst (λ (b : Bool). Asks (side_in side) (Ev.Offer (side_in side) cx.instant b)) (sym is.1) refl)
move_asks p slot last side number move is = absurd is

pub move_reads : (p : PairValue) (slot : ℕ) (last : ℤ) (side : Side) (number : ℕ) (move : Move) → IsReadAt slot move
    → OfLast (λ q e. Reads (side_in side) e) p (events_of_move slot last side number move)
move_reads p slot last side number (Invokes at cx old entry (Call.Recv limit) new) is =
    last_here (λ q e. Reads (side_in side) e) p at slot (clock_to (side_in side) last cx.instant ++ Ev.Recv (side_in side) limit ∷ []) is.0
    (last_led (λ q e. Reads (side_in side) e) p (side_in side) cx.instant (Ev.Recv (side_in side) limit) (int_le cx.instant last) (refl, is.1) (refl, is.1))
move_reads p slot last side number move is = absurd is

module _ (names : List ℕ → Bool) (seats : Side → Seat) (clocks : Side → ℤ) (net : Net) (p : PairValue) (sh : Shows seats clocks net p) (r : Side) where
  -- what the other socket sent, as its host made it
  pub sent_there : (side : Side) → sent_in seats net side ≡ map made_by (at p.sides (side_in side)).sent
  sent_there side =
      sent_same (opening net.history side (seats side).slot) (party net side).segments (at p.sides (side_in side)).sent (sh.sent side)

  pub next_same : (side : Side) → length (sent_in seats net side) ≡ next_sent p (side_in side)
  next_same side =
      ap (λ (xs : List Made). length xs) (sent_there side) ∙ length-map (at p.sides (side_in side)).sent made_by

  -- What a socket finds so of a segment by its header and bytes, holds of the segment in the pair.
  module _ (IsSo : TcpValue → TcpHeader → List ℕ → Type 0) (Then : PairValue → Pairs.Side → SentSegment → Type 0)
      (follows : (q : PairValue) (d : Pairs.Side) (x : SentSegment) → IsSo (socket_of q (Sides.other d)) x.segment x.bytes → Then q d x) where
    module _ (cx : ContextValue) (v : TcpValue) (ip : IpRepr) (header : TcpHeader) (bytes : List ℕ) (number k : ℕ)
        (is : socket_at (party net r) (seats r).slot ≡ Some (Tcp v))
        (numbered : slice_get (sent_in seats net (other r)) number ≡ Some (made_of (source_of ip) (destination_of ip) header bytes))
        (one : slice_get (sent_in seats net (other r)) k ≡ Some (made_of (source_of ip) (destination_of ip) header bytes)) (so : IsSo v header bytes) where
      abbrev theirs : List SentSegment
      theirs = (at p.sides (side_in (other r))).sent

      abbrev made : Made
      made = made_of (source_of ip) (destination_of ip) header bytes

      socket_is : socket_of p (side_in r) ≡ v
      socket_is = same_tcp (socket_of p (side_in r)) v (some_is (Tcp (socket_of p (side_in r))) (Tcp v) (sym (sh.socket r) ∙ is))

      -- the segment of the move's own number
      own : (y : SentSegment) × (slice_get theirs number ≡ Some y) × (made_by y ≡ made)
      own = map_get made_by theirs number made (ap (λ (xs : List Made). slice_get xs number) (sym (sent_there (other r))) ∙ numbered)

      -- what came is the segment that was asked for, as far as one can tell
      came : (x : SentSegment) → slice_get theirs k ≡ Some x → made_by x ≡ made
      came x got =
          some_is (made_by x) made
          (sym (get_mapped made_by theirs k x got) ∙ ap (λ (xs : List Made). slice_get xs k) (sym (sent_there (other r))) ∙ one)

      equal : (x y : SentSegment) → made_by x ≡ made → made_by y ≡ made → AreEqual x y
      equal x y x_is y_is = record {
        source = ap (λ (m : Made). m.from) (y_is ∙ sym x_is);
        destination = ap (λ (m : Made). m.to) (y_is ∙ sym x_is);
        segment = ap (λ (m : Made). m.header) (y_is ∙ sym x_is);
        bytes = ap (λ (m : Made). m.bytes) (y_is ∙ sym x_is);
      }

      comes_with : (q : PairValue) → (at q.sides (side_in (other r))).sent ≡ theirs → socket_of q (side_in r) ≡ socket_of p (side_in r)
          → ComesSo Then q (side_in (other r)) k (Ev.Deliver (side_in (other r)) number)
      comes_with q sent socket = (
        (
          number,
          refl,
          λ x got.
              (own.0, ap (λ (xs : List SentSegment). slice_get xs number) sent ∙ own.1, equal x own.0 (came x (there x got)) own.2),
        ),
        λ x got. follows q (side_in (other r)) x (so_there x (came x (there x got))),
      )
        where
          there : (x : SentSegment) → slice_get (at q.sides (side_in (other r))).sent k ≡ Some x → slice_get theirs k ≡ Some x
          there x got = ap (λ (xs : List SentSegment). slice_get xs k) (sym sent) ∙ got

          so_there : (x : SentSegment) → made_by x ≡ made → IsSo (socket_of q (Sides.other (side_in (other r)))) x.segment x.bytes
          so_there x x_is =
              let head : header ≡ x.segment = ap (λ (m : Made). m.header) (sym x_is) in
              let text : bytes ≡ x.bytes = ap (λ (m : Made). m.bytes) (sym x_is) in
              let here : v ≡ socket_of q (Sides.other (side_in (other r))) =
              sym (ap (λ (d : Pairs.Side). socket_of q d) (back_in r) ∙ socket ∙ socket_is) in
              subst (λ (w : TcpValue). IsSo w x.segment x.bytes) here
              (subst (λ (h : TcpHeader). IsSo v h x.bytes) head (subst (λ (b : List ℕ). IsSo v header b) text so))

      pub comes_last : (last : ℤ) → OfLast (λ q e. ComesSo Then q (side_in (other r)) k e) p
          (clock_to (side_in r) last cx.instant ++ Ev.Deliver (side_in (other r)) number ∷ [])
      comes_last last =
          last_led (λ q e. ComesSo Then q (side_in (other r)) k e) p (side_in r) cx.instant (Ev.Deliver (side_in (other r)) number) (int_le cx.instant last)
          (comes_with p refl refl)
          (comes_with (takes p (Ev.Clock (side_in r) cx.instant)) (clock_sent p (side_in r) (side_in (other r)) cx.instant)
          (clock_socket p (side_in r) (side_in r) cx.instant))

    pub move_brings : (number k : ℕ) (last : ℤ) (move : Move) → May names net r move → IsNumbered (seats r).slot (sent_in seats net (other r)) number move
        → BringsAt IsSo (seats r).slot (sent_in seats net (other r)) k move
        → OfLast (λ q e. ComesSo Then q (side_in (other r)) k e) p (events_of_move (seats r).slot last r number move)
    move_brings number k last (Takes at cx v ip header bytes) may numbered brings =
        last_here (λ q e. ComesSo Then q (side_in (other r)) k e) p at (seats r).slot
        (clock_to (side_in r) last cx.instant ++ Ev.Deliver (side_in (other r)) number ∷ []) brings.0
        (comes_last cx v ip header bytes number k (subst (λ (i : ℕ). socket_at (party net r) i ≡ Some (Tcp v)) brings.0 may.0) (numbered brings.0) brings.1
        brings.2 last)
    move_brings number k last move may numbered brings = absurd brings

-- what is heard by a socket is heard by that of the pair
pub heard_follows : (q : PairValue) (d : Pairs.Side) (x : SentSegment) → IsHeardBy (socket_of q (Sides.other d)) x.segment x.bytes → IsHeard q d x
heard_follows q d x heard = record { initial = heard.initial; inside = heard.inside }
