-- A run of two hosts that stay is plain, and shows the sockets of any two slots their hosts.
use Rattle.std.proofs.Common.{◌≡◌, ◌⊎◌, inl, inr, ℕ, zero, suc, ℤ, ◌≤ℤ◌, Bool, true, false, if◌then◌else◌, List, [], ◌∷◌, Option, Some, None, refl, sym, ap, ◌∙◌, subst}
use Rattle.std.proofs.Common.{arith}
use Rattle.std.specs.Prelude.{◌==◌, slice_set, slice_index_or}
use Rattle.std.specs.List.{list_any}
use Rattle.std.proofs.lemmas.Int.{ints}
use Rattle.ip_wire.specs.Cidr.{cidr_address}
use Rattle.net_base.specs.Time.{IsMoment}
use Rattle.iface_ingress.specs.AddressTests.{is_loopback}
use Rattle.iface_tables.specs.Inner.{InnerValue}
use Rattle.sockets.specs.Context.{ContextValue}
use Rattle.tcp_block.specs.Arrival.{arrives}
use Rattle.tcp_block.specs.Offers.{offer_of}
use Rattle.tcp_block.specs.Settled.{settled}
use Rattle.tcp_block.specs.State as States
use Rattle.tcp_block.specs.Value.{TcpValue}
use Rattle.tcp_refinement.specs.Pair.Values.{context_on}
use Rattle.lan.specs.Worlds.AtLink.Answer.{Answer}
use Rattle.lan.specs.Worlds.AtLink.Call.{SocketCall}
use Rattle.lan.specs.Worlds.AtLink.Kinds.{other}
use Rattle.lan.specs.Worlds.AtLink.Moves.{Does, IsRun, May, Move, Step, after, party_after, with_socket}
use Rattle.lan.specs.Worlds.AtLink.Moves.Move.{Invokes, Passes, Offers, Gives, Takes, Receives, Resets, Changes}
use Rattle.lan.specs.Worlds.AtLink.Paired.{AreHosted, IsOf, IsPlain, IsShown, Seat, clock_after, clocks_after, if_at, shown_to}
use Rattle.lan.specs.Worlds.AtLink.Parties.{Net, Party, Socket, party, socket_at}
use Rattle.lan.specs.Worlds.AtLink.Parties.Socket.{Tcp, Udp, Icmp, Raw}
use Rattle.lan.specs.Worlds.AtLink.Side.{Side}
use Rattle.lan.specs.Worlds.AtLink.Side.TheVariants.{A, B}
use Rattle.lan.specs.Worlds.Still.{host_in}
use Rattle.lan.proofs.Worlds.Moves.Held.{IsHeld, IsShownAt}
use Rattle.lan.proofs.Worlds.Moves.Nets.{either_side, step_of, theirs, there}
use Rattle.lan.proofs.Worlds.StillSources.{TcpKeeps, arrival_keeps, call_keeps, offers_plainly, settled_keeps}
use Rattle.lan.proofs.Worlds.StillSteps.{AreAllHeld, raised}

-- SOURCES STAY

abbrev pub PartyKeeps : InnerValue → Party → Type 0
PartyKeeps i p = (at : ℕ) (v : TcpValue) → socket_at p at ≡ Some (Tcp v) → TcpKeeps i v

abbrev IfTcp : InnerValue → Socket → Type 0
IfTcp i s = (v : TcpValue) → s ≡ Tcp v → TcpKeeps i v

found_set : (xs : List (Option Socket)) (at i : ℕ) (x : Option Socket) (y : Socket) → slice_index_or (slice_set xs at x) i None ≡ Some y →
    (x ≡ Some y) ⊎ (slice_index_or xs i None ≡ Some y)
found_set [] zero i x y is = inr is
found_set [] (suc at) i x y is = inr is
found_set (o ∷ os) zero zero x y is = inl is
found_set (o ∷ os) zero (suc i) x y is = inr is
found_set (o ∷ os) (suc at) zero x y is = inr is
found_set (o ∷ os) (suc at) (suc i) x y is = found_set os at i x y is

with_keeps : (i : InnerValue) (p : Party) (slot : ℕ) (s : Socket) → IfTcp i s → PartyKeeps i p → PartyKeeps i (with_socket p slot s)
with_keeps i p slot s new holds at v is = by (found_set p.sockets slot at (Some s) (Tcp v) is) where
  by : (Some s ≡ Some (Tcp v)) ⊎ (slice_index_or p.sockets at None ≡ Some (Tcp v)) → TcpKeeps i v
  by (inl same) = let is : s ≡ Tcp v = cc in new v is
  by (inr old) = holds at v old

tcp_same : (i : InnerValue) (w : TcpValue) → TcpKeeps i w → IfTcp i (Tcp w)
tcp_same i w keeps v is = let same : w ≡ v = cc in subst (TcpKeeps i) same keeps

udp_none : (i : InnerValue) (s : Socket) → ((v : TcpValue) → s ≡ Tcp v → ⊥) → IfTcp i s
udp_none i s never v is = absurd (never v is)

module _ (i : InnerValue) (outward : list_any (λ b. is_loopback (cidr_address b)) i.addresses ≡ false) (t : ℤ) where
  does_keeps : (cx : ContextValue) (old new : Socket) (call : SocketCall) (answer : Answer) (found : Option States.State) → IsShownAt i t cx →
      Does cx old call answer found new → IfTcp i old → IfTcp i new
  does_keeps cx (Tcp v) (Tcp w) call answer found shown does holds =
      tcp_same i w (call_keeps i outward cx (ap (λ (c : ContextValue). c.source_for) shown) v w call answer found does (holds v refl))
  does_keeps cx (Udp v) (Tcp w) call answer found shown does holds = absurd does
  does_keeps cx Icmp (Tcp w) call answer found shown does holds = absurd does
  does_keeps cx Raw (Tcp w) call answer found shown does holds = absurd does
  does_keeps cx old (Udp w) call answer found shown does holds = λ v is. absurd cc
  does_keeps cx old Icmp call answer found shown does holds = λ v is. absurd cc
  does_keeps cx old Raw call answer found shown does holds = λ v is. absurd cc

  moved_keeps : (names : List ℕ → Bool) (net : Net) (side : Side) (move : Move) → May names net side move → IsHeld i t net side move →
      PartyKeeps i (party net side) → PartyKeeps i (party_after (party net side) move)
  moved_keeps names net side (Invokes slot cx old entry call new) may held holds =
      with_keeps i (party net side) slot new (does_keeps cx old new call entry.answer entry.found held may.3
      (λ v is. holds slot v (may.0 ∙ ap (λ (s : Socket). Some s) is))) holds
  moved_keeps names net side (Passes entry) may held holds = holds
  moved_keeps names net side (Offers slot cx v from sent) may held holds =
      with_keeps i (party net side) slot (Tcp (settled sent (offer_of cx v).socket))
      (tcp_same i (settled sent (offer_of cx v).socket) (settled_keeps i outward cx v sent (holds slot v may.0))) holds
  moved_keeps names net side (Gives slot cx v answer new sent) may held holds =
      with_keeps i (party net side) slot (Udp _) (λ v is. absurd cc) holds
  moved_keeps names net side (Takes slot cx v ip header bytes) may held holds =
      with_keeps i (party net side) slot (Tcp (arrives cx v ip header bytes).socket)
      (tcp_same i (arrives cx v ip header bytes).socket (arrival_keeps i outward cx v ip header bytes held.2 (holds slot v may.0))) holds
  moved_keeps names net side (Receives slot cx v ip udp bytes) may held holds =
      with_keeps i (party net side) slot (Udp _) (λ v is. absurd cc) holds
  moved_keeps names net side (Resets x) may held holds = absurd held
  moved_keeps names net side (Changes slot old new) may held holds = absurd held

  plainly : (names : List ℕ → Bool) (slot : ℕ) (net : Net) (side : Side) (move : Move) → May names net side move → IsHeld i t net side move →
      PartyKeeps i (party net side) → IsPlain slot net side move
  plainly names slot net side (Invokes at cx old entry call new) may held holds = tt
  plainly names slot net side (Passes entry) may held holds = tt
  plainly names slot net side (Offers at cx v from sent) may held holds = λ here. offers_plainly i cx v from (holds at v may.0) held.1
  plainly names slot net side (Gives at cx v answer new sent) may held holds = tt
  plainly names slot net side (Takes at cx v ip header bytes) may held holds = λ here. held.1
  plainly names slot net side (Receives at cx v ip udp bytes) may held holds = tt
  plainly names slot net side (Resets x) may held holds = held
  plainly names slot net side (Changes at old new) may held holds = held

-- WHAT IS SHOWN

in_turn : (a b c : ℤ) → a ≤ℤ b → b ≤ℤ c → a ≤ℤ c
in_turn a b c one other = omega (arith, ints, one, other)

no_later : (a b : ℤ) → a ≡ b → a ≤ℤ b
no_later a b is = omega (arith, ints, is)

module _ (i : InnerValue) (t : ℤ) (instant : IsMoment t) (seat : Seat) (host : seat.host ≡ host_in i) (clock : ℤ) (later : clock ≤ℤ t) where
  is_of : (cx : ContextValue) → IsShownAt i t cx → IsOf seat clock cx
  is_of cx shown =
      let now : cx.instant ≡ t = ap (λ (c : ContextValue). c.instant) shown in
      record {
        host = shown ∙ (λ k. context_on (sym host k) (sym now k) cx.random);
        instant = subst IsMoment (sym now) instant;
        later = subst (λ (u : ℤ). clock ≤ℤ u) (sym now) later;
      }

  shows_it : (at : ℕ) (cx : ContextValue) → IsShownAt i t cx → IsShown seat clock (if_at at seat.slot cx) × (clock_after clock (if_at at seat.slot cx) ≤ℤ t)
  shows_it at cx shown = by (at == seat.slot) where
    by : (b : Bool) → IsShown seat clock (if b then Some cx else None) × (clock_after clock (if b then Some cx else None) ≤ℤ t)
    by true = (is_of cx shown, no_later cx.instant t (ap (λ (c : ContextValue). c.instant) shown))
    by false = (tt, later)

  shown_so : (net : Net) (side : Side) (move : Move) → IsHeld i t net side move →
      IsShown seat clock (shown_to seat.slot move) × (clock_after clock (shown_to seat.slot move) ≤ℤ t)
  shown_so net side (Invokes at cx old entry call new) held = shows_it at cx held
  shown_so net side (Passes entry) held = (tt, later)
  shown_so net side (Offers at cx v from sent) held = shows_it at cx held.0
  shown_so net side (Gives at cx v answer new sent) held = (tt, later)
  shown_so net side (Takes at cx v ip header bytes) held = shows_it at cx held.0
  shown_so net side (Receives at cx v ip udp bytes) held = (tt, later)
  shown_so net side (Resets x) held = absurd held
  shown_so net side (Changes at old new) held = absurd held

-- ALL STEPS

module _ (firsts : Side → InnerValue) (outward : (side : Side) → list_any (λ b. is_loopback (cidr_address b)) (firsts side).addresses ≡ false)
    (names : List ℕ → Bool) (seats : Side → Seat) (are : (side : Side) → (seats side).host ≡ host_in (firsts side)) where
  abbrev pub NetKeeps : Net → Type 0
  NetKeeps net = (side : Side) → PartyKeeps (firsts side) (party net side)

  next_keeps : (net : Net) (step : Step) (t : ℤ) → May names net step.side step.move → IsHeld (firsts step.side) t net step.side step.move → NetKeeps net →
      NetKeeps (after net step)
  next_keeps net step t may held holds =
      either_side step.side (λ s. PartyKeeps (firsts s) (party (after net step) s))
      (there net step.side step.move (PartyKeeps (firsts step.side)) (moved_keeps (firsts step.side) (outward step.side) t names net step.side step.move may held
      (holds step.side)))
      (subst (PartyKeeps (firsts (other step.side))) (sym (theirs net step.side step.move)) (holds (other step.side)))

  clocks_up : (clocks floors : Side → ℤ) (side : Side) (move : Move) (t : ℤ) → clock_after (clocks side) (shown_to (seats side).slot move) ≤ℤ t →
      ((s : Side) → clocks s ≤ℤ floors s) → (s : Side) → clocks_after seats clocks (step_of side move) s ≤ℤ raised floors side t s
  clocks_up clocks floors A move t here all A = here
  clocks_up clocks floors A move t here all B = all B
  clocks_up clocks floors B move t here all A = all A
  clocks_up clocks floors B move t here all B = here

  pub plain_run : (clocks floors : Side → ℤ) (net : Net) (steps : List Step) (ends : Side → ℤ) → IsRun names net steps →
      AreAllHeld firsts floors net steps ends → NetKeeps net → ((s : Side) → clocks s ≤ℤ floors s) → AreHosted seats clocks net steps
  plain_run clocks floors net [] ends may held holds low = tt
  plain_run clocks floors net (step ∷ steps) ends may (t, instant, later, held, rest) holds low =
      let shown = shown_so (firsts step.side) t instant (seats step.side) (are step.side) (clocks step.side)
      (in_turn (clocks step.side) (floors step.side) t (low step.side) later) net step.side step.move held in (
        plainly (firsts step.side) (outward step.side) t names (seats step.side).slot net step.side step.move may.0 held (holds step.side),
        shown.0,
        plain_run (clocks_after seats clocks step) (raised floors step.side t) (after net step) steps ends may.1 rest (next_keeps net step t may.0 held holds)
            (clocks_up clocks floors step.side step.move t shown.1 low),
      )
