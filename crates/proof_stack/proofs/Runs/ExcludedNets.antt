-- Why no two hosts come to these histories.
use Rattle.std.proofs.Common.{◌≡◌, inl, inr, ℕ, ◌+◌, true, false, List, [], ◌∷◌, ◌++◌, length, get_or, length-append, Some, None, refl, sym, ap, ◌∙◌, subst}
use Rattle.std.proofs.Common.{arith}
use Rattle.std.specs.Prelude.{◌==◌, ◌||◌, Bool, if◌then◌else◌}
use Rattle.lan.specs.declared.at_link.history.event.Side.{Side}
use Rattle.lan.specs.declared.at_link.history.event.Side.TheVariants.{A, B}
use Rattle.lan.specs.declared.at_link.history.answer.Answer.TheVariants as To
use Rattle.lan.specs.Worlds.AtLink.Call as Call
use Rattle.lan.specs.Worlds.AtLink.History.{Entry, closes, is_closed_by, bound_port}
use Rattle.lan.specs.Worlds.AtLink.PeerSides.{ArePartners}
use Rattle.lan.specs.Worlds.AtLink.Reads.{Accepts, Accepted}
use Rattle.proof_stack.specs.Worlds.Hosts.{endpoint, text, unbound}
use Rattle.proof_stack.specs.Worlds.Streams.{initial}
use Rattle.proof_stack.specs.Worlds.Excluded.{Cannot, had, listened, spoken, lonely, ended, waits, queues, with_sockets, bound, and_sent, and_read, only}

peer_sides : ArePartners spoken A 0 0
peer_sides = record {
  one = record { local = 80; remote = None };
  another = record { local = 49_500; remote = Some 80 };
  opened = refl;
  peer_side_opened = refl;
  paired = refl;
}

peer_sides_back : ArePartners spoken B 0 0
peer_sides_back = record {
  one = record { local = 49_500; remote = Some 80 };
  another = record { local = 80; remote = None };
  opened = refl;
  peer_side_opened = refl;
  paired = refl;
}

pub other_byte : Cannot (with_sockets (waits (97 ∷ 98 ∷ 100 ∷ [])) (queues text) spoken)
other_byte safe =
    let p = safe.prefix A 0 0 (waits (97 ∷ 98 ∷ 100 ∷ [])) peer_sides refl in
    let third : ◌≡◌ {A = ℕ} 100 99 = ap (λ (xs : List ℕ). get_or xs 2 0) p.1 in
    omega arith

pub swapped : Cannot (with_sockets (waits (98 ∷ 97 ∷ [])) (queues text) spoken)
swapped safe =
    let p = safe.prefix A 0 0 (waits (98 ∷ 97 ∷ [])) peer_sides refl in
    let first : ◌≡◌ {A = ℕ} 98 97 = ap (λ (xs : List ℕ). get_or xs 0 0) p.1 in
    omega arith

pub one_more : Cannot (with_sockets (waits (97 ∷ 98 ∷ 99 ∷ 100 ∷ [])) (queues text) spoken)
one_more safe =
    let p = safe.prefix A 0 0 (waits (97 ∷ 98 ∷ 99 ∷ 100 ∷ [])) peer_sides refl in
    let fourth : ◌≡◌ {A = ℕ} 100 0 = ap (λ (xs : List ℕ). get_or xs 3 0) p.1 in
    omega arith

empty : (xs : List ℕ) → length xs ≡ 0 → xs ≡ []
empty [] none = refl
empty (x ∷ xs) none = absurd (omega (arith, none))

pub freed_early : Cannot (with_sockets (waits (97 ∷ [])) (queues (99 ∷ [])) spoken)
freed_early safe =
    let holds = safe.freed B 0 0 (queues (99 ∷ [])) (waits (97 ∷ [])) peer_sides_back refl refl in
    let all : length holds.gone + 1 ≡ 3 = sym (length-append holds.gone (99 ∷ [])) ∙ ap length holds.rest in
    let part : length holds.gone + length holds.was_taken.0 ≡ 1 = sym (length-append holds.gone holds.was_taken.0) ∙ ap length holds.was_taken.1 in
    omega arith

-- the last byte of what is queued is that of what was written
pub queued_otherwise : Cannot (with_sockets initial (queues (97 ∷ 98 ∷ 100 ∷ [])) spoken)
queued_otherwise safe =
    let holds = safe.freed B 0 0 (queues (97 ∷ 98 ∷ 100 ∷ [])) initial peer_sides_back refl refl in
    let size : length holds.gone + 3 ≡ 3 = sym (length-append holds.gone (97 ∷ 98 ∷ 100 ∷ [])) ∙ ap length holds.rest in
    let none : holds.gone ≡ [] = empty holds.gone (omega arith) in
    let same : 97 ∷ 98 ∷ 100 ∷ [] ≡ text = ap (λ (xs : List ℕ). xs ++ 97 ∷ 98 ∷ 100 ∷ []) (sym none) ∙ holds.rest in
    let third : ◌≡◌ {A = ℕ} 100 99 = ap (λ (xs : List ℕ). get_or xs 2 0) same in
    omega arith

-- nothing closes B's socket, whichever it is
open_yet : (j : ℕ) → is_closed_by spoken B j ≡ false
open_yet j = by (0 == j) where
  by : (b : Bool) → (closes (if b then Some (Call.Connect (endpoint A 80) 49_500) else None) None || closes (if b then Some (Call.Send text) else None)
      None) ≡ false
  by true = refl
  by false = refl

pub ended_early : Cannot (with_sockets initial (queues text) ended)
ended_early safe =
    let h = safe.ends.0 in
    let clash : false ≡ true = sym (open_yet h.peer_side) ∙ h.closed in
    absurd (cc)

-- B wrote to a socket that nobody listens for
no_peer_side : (j : ℕ) → ¬ (ArePartners lonely B 0 j)
no_peer_side j p = let none = p.peer_side_opened in absurd (cc)

pub queued_otherwise_alone : Cannot (with_sockets initial (queues (97 ∷ 98 ∷ 100 ∷ [])) lonely)
queued_otherwise_alone safe =
    let has = safe.alone B 0 (queues (97 ∷ 98 ∷ 100 ∷ [])) no_peer_side refl in
    let third : ◌≡◌ {A = ℕ} 100 99 = ap (λ (xs : List ℕ). get_or xs 2 0) has.queued in
    absurd (omega arith)

pub alone : Cannot (with_sockets (waits (97 ∷ [])) initial listened)
alone safe =
    let has = safe.alone A 0 (waits (97 ∷ [])) (λ j p. let none = p.peer_side_opened in absurd (cc)) refl in
    let size : ◌≡◌ {A = ℕ} 1 0 = ap length has.taken in
    absurd (omega arith)

-- DATAGRAMS

-- binding a socket accepts no datagram
no_bind : (past : List Entry) (side : Side) (i port source : ℕ) (bytes : List ℕ) →
    Accepts unbound past (had side i (Call.Bind port) To.Done) A source 53 bytes → ⊥
no_bind past A i port source bytes a = let clash = a.was_sent in absurd (cc)
no_bind past B i port source bytes a = let clash = a.was_sent in absurd (cc)

not_bound : (source : ℕ) (bytes : List ℕ) → Accepted unbound bound A source 53 bytes → ⊥
not_bound source bytes (inl a) = no_bind (had A 0 (Call.Bind 48_896) To.Done ∷ []) B 0 53 source bytes a
not_bound source bytes (inr (inl a)) = no_bind [] A 0 48_896 source bytes a
not_bound source bytes (inr (inr a)) = a

pub never_sent : Cannot (only (and_read 48_896 text bound))
never_sent safe = not_bound 48_896 text safe.reads.0

pub sent_later : Cannot (only (and_sent (and_read 48_896 text bound)))
sent_later safe = not_bound 48_896 text safe.reads.1.0

pub cut_short : Cannot (only (and_read 48_896 (97 ∷ 98 ∷ []) (and_sent bound)))
cut_short safe = by safe.reads.0 where
  by : Accepted unbound (and_sent bound) A 48_896 53 (97 ∷ 98 ∷ []) → ⊥
  by (inr a) = not_bound 48_896 (97 ∷ 98 ∷ []) a
  by (inl a) =
      let was = a.was_sent in
      let same : text ≡ 97 ∷ 98 ∷ [] = cc in
      let size : ◌≡◌ {A = ℕ} 3 2 = ap length same in
      absurd (omega arith)

pub other_port : Cannot (only (and_read 7 text (and_sent bound)))
other_port safe = by safe.reads.0 where
  by : Accepted unbound (and_sent bound) A 7 53 text → ⊥
  by (inr a) = not_bound 7 text a
  by (inl a) =
      let was = a.was_sent in
      let slot : ◌≡◌ {A = ℕ} 0 a.socket = cc in
      let port = subst (λ (i : ℕ). bound_port unbound bound A i ≡ 7) (sym slot) a.from_port in
      absurd (omega arith)
