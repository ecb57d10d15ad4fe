-- Which segments of the sockets of two seats are new after a step.
use Rattle.std.proofs.Common.{◌≡◌, ◌≢◌, ◌⊎◌, inl, inr, ℕ, zero, suc, ◌+◌, ◌==◌, ◌<◌, ◌≤◌, Bool, true, false, List, [], ◌∷◌, ◌++◌, length, Option, Some, None}
use Rattle.std.proofs.Common.{refl, sym, ap, ◌∙◌, subst, arith, length-append}
use Rattle.std.specs.Prelude.{slice_get}
use Rattle.std.proofs.lemmas.Bool.Decides.{eqb_tells}
use Rattle.ip_wire.specs.Ip.{destination_of}
use Rattle.tcp_block.specs.Arrival.{arrives}
use Rattle.tcp_block.specs.Offers.{offer_of, payload_of}
use Rattle.tcp_block.specs.OpenOffer.{OpenOffer}
use Rattle.tcp_block.specs.Reply.{Reply}
use Rattle.tcp_refinement.specs.Host.{IsSeenAmong, Made, and_answer, and_offer, made_by, made_of}
use Rattle.lan.specs.declared.at_link.history.event.Side.{Side}
use Rattle.lan.specs.declared.at_link.history.record.Opening.{Opening}
use Rattle.lan.specs.Worlds.AtLink.Happening.{sent_by, sent_in}
use Rattle.lan.specs.Worlds.AtLink.History.{Entry, opening}
use Rattle.lan.specs.Worlds.AtLink.Kinds.{other}
use Rattle.lan.specs.Worlds.AtLink.Moves.{May, Move, after, history_after, offered_segments, party_after}
use Rattle.lan.specs.Worlds.AtLink.Moves.Move.{Invokes, Passes, Offers, Gives, Takes, Receives, Resets, Changes}
use Rattle.lan.specs.Worlds.AtLink.Paired.{Seat, from_port}
use Rattle.lan.specs.Worlds.AtLink.Parties.{Net, Party, party, socket_at}
use Rattle.lan.specs.Worlds.AtLink.Parties.Socket.{Tcp}
use Rattle.lan.specs.Worlds.AtLink.Tables.{Slots}
use Rattle.lan.proofs.Worlds.AtLink.Kept.{KeptFrom}
use Rattle.lan.proofs.Worlds.AtLink.PeerSideLemmas.{AreApart, opened_apart, opening_stays}
use Rattle.lan.proofs.Worlds.AtLink.Paired.Elsewhere.{IsMoreOf, answer_port, answers_more, offer_port, offers_more}
use Rattle.lan.proofs.Worlds.AtLink.Paired.Parts.{from_apart, from_more}
use Rattle.lan.proofs.Worlds.AtLink.Runs.{Kept, kept_at}
use Rattle.lan.proofs.Worlds.Moves.Slots.{get_more}
use Rattle.lan.proofs.Worlds.Moves.Nets.{either_side, mine, step_of, theirs}

-- THE MOVE THAT MAKES A SEGMENT

-- no host makes a reset itself
abbrev pub IsNoReset : Move → Type 0
IsNoReset (Resets x) = ⊥
IsNoReset move = Unit {0}

-- it is what the socket at a place offers and its host sends, from an address, or what it answers
abbrev pub Makes : ℕ → Made → Move → Type 0
Makes slot x (Offers at cx v from true) =
    (at ≡ slot) × (o : OpenOffer) × ((offer_of cx v).socket.offered ≡ Some o)
    × (x ≡ made_of from (destination_of o.header) o.segment (payload_of o o.kind (offer_of cx v).socket.queued.queue))
Makes slot x (Takes at cx v ip header bytes) = (at ≡ slot) × (reply : Reply) × ((arrives cx v ip header bytes).answer ≡ Some reply) × (x ≡ made_by reply)
Makes slot x move = ⊥

-- none more, or this one
abbrev IsMore : ℕ → Move → List Made → List Made → Type 0
IsMore slot move before after = (after ≡ before) ⊎ ((x : Made) × (after ≡ before ++ x ∷ []) × Makes slot x move)

last_of : (xs : List Made) (x : Made) (k : ℕ) → length xs ≤ k → k < length (xs ++ x ∷ []) → slice_get (xs ++ x ∷ []) k ≡ Some x
last_of xs x k least most = at xs k least (let len = length-append xs (x ∷ []) in omega (arith, len, most)) where
  at : (ys : List Made) (n : ℕ) → length ys ≤ n → n < length ys + 1 → slice_get (ys ++ x ∷ []) n ≡ Some x
  at [] zero low high = refl
  at [] (suc n) low high = absurd (omega (arith, high))
  at (y ∷ ys) zero low high = absurd (omega (arith, low))
  at (y ∷ ys) (suc n) low high = at ys n (omega (arith, low)) (omega (arith, high))

module _ (starts : Side → ℕ → ℕ) (slots : Slots) (h : List Entry) (side : Side) (p q : Party) (k : KeptFrom starts slots h side p q) (slot : ℕ) (o : Opening)
    (opened : opening h side slot ≡ Some o) where
  -- what another socket of the host sends isn't from its port
  elsewhere : (at : ℕ) (made : List Made) → slot ≢ at → IsMoreOf h side at p.segments made → from_port o.local made ≡ from_port o.local p.segments
  elsewhere at made apart (inl same) = ap (from_port o.local) same
  elsewhere at made apart (inr more) =
      ap (from_port o.local) more.3
      ∙ from_apart o.local p.segments more.1 (λ same. differ (opened_apart slots h side slot at o more.0 k.allowed opened more.2) (sym same ∙ more.4))
    where
      differ : (slot ≡ at) ⊎ AreApart o more.0 → o.local ≡ more.0.local → ⊥
      differ (inl same) e = apart same
      differ (inr a) e = a.local e

  abbrev Its : Move → Type 0
  Its move = IsMore slot move (from_port o.local p.segments) (from_port o.local (party_after p move).segments)

  at_or_not : (at : ℕ) → (slot ≡ at) ⊎ (slot ≢ at)
  at_or_not at = by (eqb_tells slot at) where
    by : (((slot == at) ≡ true) × (slot ≡ at)) ⊎ (((slot == at) ≡ false) × (slot ≢ at)) → (slot ≡ at) ⊎ (slot ≢ at)
    by (inl same) = inl same.1
    by (inr apart) = inr apart.1

  here : (at : ℕ) → slot ≡ at → opening h side at ≡ Some o
  here at same = subst (λ (n : ℕ). opening h side n ≡ Some o) same opened

  -- SEEN FROM ITS HOST

  move_makes : (names : List ℕ → Bool) (net : Net) → party net side ≡ p → party net (other side) ≡ q → (move : Move) → May names net side move →
      IsNoReset move → Its move
  move_makes names net is_p is_q (Offers at cx v from false) may quiet = inl refl
  move_makes names net is_p is_q (Offers at cx v from true) may quiet = by (at_or_not at) where
    is : socket_at p at ≡ Some (Tcp v)
    is = subst (λ (x : Party). socket_at x at ≡ Some (Tcp v)) is_p may.0

    offers : (slot ≡ at) → (offered : Option OpenOffer) → (offer_of cx v).socket.offered ≡ offered → Its (Offers at cx v from true)
    offers same None e = inl (ap (λ (x : Option OpenOffer). from_port o.local
        (and_offer p.segments from x (offer_of cx v).socket.queued.queue)) e)
    offers same (Some x) e = inr (
      made_of from (destination_of x.header) x.segment (payload_of x x.kind (offer_of cx v).socket.queued.queue),
      ap (λ (y : Option OpenOffer). from_port o.local
          (and_offer p.segments from y (offer_of cx v).socket.queued.queue)) e
          ∙ from_more o.local p.segments (made_of from (destination_of x.header) x.segment (payload_of x x.kind (offer_of cx v).socket.queued.queue))
          (offer_port starts slots h side p q k at v is cx o x (here at same) e),
      (sym same, x, e, refl),
    )

    by : (slot ≡ at) ⊎ (slot ≢ at) → Its (Offers at cx v from true)
    by (inl same) = offers same (offer_of cx v).socket.offered refl
    by (inr apart) =
        inl (elsewhere at (offered_segments true p from (offer_of cx v).socket) apart
        (offers_more starts slots h side p q k at v is cx from true))
  move_makes names net is_p is_q (Takes at cx v ip header bytes) may quiet = by (at_or_not at) where
    is : socket_at p at ≡ Some (Tcp v)
    is = subst (λ (x : Party). socket_at x at ≡ Some (Tcp v)) is_p may.0

    comes : IsSeenAmong q.segments header bytes
    comes = subst (λ (x : Party). IsSeenAmong x.segments header bytes) is_q may.2

    answers : (slot ≡ at) → (answer : Option Reply) → (arrives cx v ip header bytes).answer ≡ answer → Its (Takes at cx v ip header bytes)
    answers same None e = inl (ap (λ (x : Option Reply). from_port o.local (and_answer p.segments x)) e)
    answers same (Some reply) e = inr (
      made_by reply,
      ap (λ (x : Option Reply). from_port o.local (and_answer p.segments x)) e
          ∙ from_more o.local p.segments (made_by reply)
          (answer_port starts slots h side p q k at v is cx ip header bytes may.1 comes o reply (here at same) e),
      (sym same, reply, e, refl),
    )

    by : (slot ≡ at) ⊎ (slot ≢ at) → Its (Takes at cx v ip header bytes)
    by (inl same) = answers same (arrives cx v ip header bytes).answer refl
    by (inr apart) =
        inl (elsewhere at (and_answer p.segments (arrives cx v ip header bytes).answer) apart
        (answers_more starts slots h side p q k at v is cx ip header bytes may.1 comes))
  move_makes names net is_p is_q (Invokes at cx old entry call new) may quiet = inl refl
  move_makes names net is_p is_q (Passes entry) may quiet = inl refl
  move_makes names net is_p is_q (Gives at cx v answer new sent) may quiet = inl refl
  move_makes names net is_p is_q (Receives at cx v ip udp bytes) may quiet = inl refl
  move_makes names net is_p is_q (Changes at old new) may quiet = inl refl
  move_makes names net is_p is_q (Resets x) may quiet = absurd quiet

-- THE OPENING OF A SOCKET stays

opened_still : (h : List Entry) (move : Move) (side : Side) (i : ℕ) (o : Opening) → opening h side i ≡ Some o → opening (history_after h move) side i ≡ Some o
opened_still h (Invokes at cx old entry call new) side i o is = opening_stays h entry side i o is
opened_still h (Passes entry) side i o is = opening_stays h entry side i o is
opened_still h (Offers at cx v from sent) side i o is = is
opened_still h (Gives at cx v answer new sent) side i o is = is
opened_still h (Takes at cx v ip header bytes) side i o is = is
opened_still h (Receives at cx v ip udp bytes) side i o is = is
opened_still h (Resets x) side i o is = is
opened_still h (Changes at old new) side i o is = is

module _ (ports : Side → ℕ → ℕ) (slots : Slots) (seats : Side → Seat) where
  -- the sockets at both seats were opened
  abbrev pub AreOpened : Net → Type 0
  AreOpened net = (side : Side) → (o : Opening) × (opening net.history side (seats side).slot ≡ Some o)

  module _ (net : Net) (kept : Kept ports slots net) (opened : AreOpened net) (s : Side) (move : Move) (may : May slots.names net s move) (quiet : IsNoReset move) where
    abbrev then_net : Net
    then_net = after net (step_of s move)

    opened_then : (side : Side) → opening then_net.history side (seats side).slot ≡ Some (opened side).0
    opened_then side = opened_still net.history move side (seats side).slot (opened side).0 (opened side).1

    pub are_opened_then : AreOpened then_net
    are_opened_then side = ((opened side).0, opened_then side)

    was_sent : (side : Side) → sent_in seats net side ≡ from_port (opened side).0.local (party net side).segments
    was_sent side = ap (λ (o : Option Opening). sent_by o (party net side).segments) (opened side).1

    is_sent : (side : Side) → sent_in seats then_net side ≡ from_port (opened side).0.local (party then_net side).segments
    is_sent side = ap (λ (o : Option Opening). sent_by o (party then_net side).segments) (opened_then side)

    -- none more of a side, or one that the move makes
    abbrev pub MoreOf : Side → Type 0
    MoreOf side =
        (sent_in seats then_net side ≡ sent_in seats net side)
        ⊎ ((side ≡ s) × (x : Made) × (sent_in seats then_net side ≡ sent_in seats net side ++ x ∷ []) × Makes (seats s).slot x move)

    by_this : IsMore (seats s).slot move (from_port (opened s).0.local (party net s).segments)
        (from_port (opened s).0.local (party_after (party net s) move).segments) → MoreOf s
    by_this (inl same) =
        inl (is_sent s ∙ ap (λ (p : Party). from_port (opened s).0.local p.segments) (mine net s move) ∙ same ∙ sym (was_sent s))
    by_this (inr (x, is, makes)) =
        inr (
          refl,
          x,
          is_sent s ∙ ap (λ (p : Party). from_port (opened s).0.local p.segments) (mine net s move) ∙ is
              ∙ ap (λ (xs : List Made). xs ++ x ∷ []) (sym (was_sent s)),
          makes,
        )

    pub more_of : (side : Side) → MoreOf side
    more_of =
        either_side s MoreOf
        (by_this (move_makes ports slots net.history s (party net s) (party net (other s)) (kept_at ports slots net s kept) (seats s).slot (opened s).0
        (opened s).1 slots.names net refl refl move may quiet))
        (inl (is_sent (other s) ∙ ap (λ (p : Party). from_port (opened (other s)).0.local p.segments) (theirs net s move) ∙ sym (was_sent (other s))))

    -- a number that is new
    pub new_of : (side : Side) (k : ℕ) → length (sent_in seats net side) ≤ k → k < length (sent_in seats then_net side)
        → (side ≡ s) × (x : Made) × (slice_get (sent_in seats then_net side) k ≡ Some x) × Makes (seats s).slot x move
    new_of side k least most = by (more_of side) where
      by : MoreOf side → (side ≡ s) × (x : Made) × (slice_get (sent_in seats then_net side) k ≡ Some x) × Makes (seats s).slot x move
      by (inl same) = absurd (let len = ap (λ (xs : List Made). length xs) same in omega (arith, len, least, most))
      by (inr (its, x, is, makes)) = (
        its,
        x,
        ap (λ (xs : List Made). slice_get xs k) is
            ∙ last_of (sent_in seats net side) x k least (subst (λ (xs : List Made). k < length xs) is most),
        makes,
      )

    -- one that was sent stays
    pub stays_sent : (side : Side) (k : ℕ) (x : Made) → slice_get (sent_in seats net side) k ≡ Some x → slice_get (sent_in seats then_net side) k ≡ Some x
    stays_sent side k x is = by (more_of side) where
      by : MoreOf side → slice_get (sent_in seats then_net side) k ≡ Some x
      by (inl same) = ap (λ (xs : List Made). slice_get xs k) same ∙ is
      by (inr (its, y, more, makes)) = ap (λ (xs : List Made). slice_get xs k) more ∙ get_more (sent_in seats net side) (y ∷ []) k x is
