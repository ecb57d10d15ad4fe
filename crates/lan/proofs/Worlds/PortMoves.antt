-- The moves of a port.
use Rattle.std.proofs.Common.{◌≡◌, ℕ, ◌+◌, ◌-◌, ◌^◌, ◌<◌, ◌≤◌, ℤ, Bool, true, false, cond, ltb, IsTrue, List, [], ◌∷◌, ◌++◌, append_assoc, length, sym, ap, ◌∙◌, arith}
use Rattle.std.proofs.lemmas.Bool.{and_from, and_parts, lt-ltb, ltb-true}
use Rattle.std.specs.Prelude.{nat_le, drop}
use Rattle.sim_link.specs.Device.{Move, Took, Empty, Allowed, Emitted, Denied, gives_tokens}
use Rattle.lan.specs.Worlds.AtLink.Port.{PortValue, PortMove, has_tx_token}
use Rattle.iface_egress.specs.Determined.{IsDetermined}
use Rattle.interface.proofs.Unrefused.{IsCounting, head_is, none_waits, given_or_not}
use Rattle.lan.proofs.Worlds.Moves.Frames.{Frames, IsNoFrame, IsTaking}
use Rattle.lan.proofs.Worlds.Moves.Leave.{IsGiving}

-- a port before a frame was taken
abbrev before : List ℕ → PortValue → PortValue
before frame p = record p { link = record p.link { waiting = frame ∷ p.link.waiting } }

-- and after it
abbrev following : PortValue → PortValue
following p = record p { link = record p.link { waiting = drop 1 p.link.waiting } }

one_end : (here one other : PortValue) (m : Move) → PortMove here m one → PortMove here m other → one ≡ other
one_end here one other (Took t frame) a b = ap following (sym a.1 ∙ b.1)
one_end here one other (Empty t) a b = a.0 ∙ sym b.0
one_end here one other (Allowed t leave) a b = a.0 ∙ sym b.0
one_end here one other (Emitted frame) a b = a ∙ sym b
one_end here one other (Denied len) a b = a.0 ∙ sym b.0

one_frame : (here : PortValue) (t : ℤ) (one other : PortValue) (frame again : List ℕ) → PortMove here (Took t frame) one →
    PortMove here (Took t again) other → frame ≡ again
one_frame here t one other frame again a b =
    head_is frame again one.link.waiting other.link.waiting (ap (λ (p : PortValue). p.link.waiting) (sym a.1 ∙ b.1))

looks : (here : PortValue) (t : ℤ) (one other : PortValue) (frame : List ℕ) → PortMove here (Took t frame) one → PortMove here (Empty t) other → ⊥
looks here t one other frame a b =
    none_waits frame one.link.waiting (ap (λ (p : PortValue). p.link.waiting) (sym a.1) ∙ b.1 a.0)

gives : (here : PortValue) (t : ℤ) (one other : PortValue) → PortMove here (Allowed t true) one → PortMove here (Allowed t false) other → ⊥
gives here t one other a b = given_or_not (has_tx_token here.link) a.1 b.1

pub takes : (here new : PortValue) (len : ℕ) → 0 < here.ready → len ≤ here.size → PortMove here (Denied len) new → ⊥
takes here new len some short denied = let none : here.ready ≡ 0 = denied.1 short in absurd (omega (arith, none))

pub determined : (port : PortValue) (longest : ℕ) → 0 < port.ready → longest ≤ port.size → IsDetermined PortMove longest port
determined port longest some fits = record {
  one_end = one_end port;
  one_frame = one_frame port;
  looks = looks port;
  gives = gives port;
  takes = λ one other frame short a b. takes port other (length frame) some (omega arith) b;
}

left_by : (b : Bool) (count : ℕ) → count - 1 ≤ cond b (count - 1) count
left_by true count = omega arith
left_by false count = omega arith

pub ready : (port new : PortValue) (frame : List ℕ) → PortMove port (Emitted frame) new → (port.ready - 1 ≤ new.ready) × (new.size ≡ port.size)
ready port new frame emitted = (rw emitted (left_by (nat_le (length frame) port.size) port.ready), ap (λ (p : PortValue). p.size) emitted)

-- REFUSALS ARE COUNTED

abbrev refusals : PortValue → ℕ
refusals p = p.link.refusals

kept : (old new : PortValue) (m : Move) → PortMove old m new → refusals old ≤ refusals new
kept old new (Took t frame) goes = let same = ap refusals goes.1 in omega (arith, same)
kept old new (Empty t) goes = let same = ap refusals goes.0 in omega (arith, same)
kept old new (Allowed t given) goes = let same = ap refusals goes.0 in omega (arith, same)
kept old new (Emitted frame) goes = let same = ap refusals goes in omega (arith, same)
kept old new (Denied len) goes = let more = ap refusals goes.0 in omega (arith, more)

denied : (old new : PortValue) (len : ℕ) → PortMove old (Denied len) new → refusals old < refusals new
denied old new len goes = let more = ap refusals goes.0 in omega (arith, more)

pub counting_ports : IsCounting PortMove (λ (p : PortValue). p.link.refusals)
counting_ports = record { one_end = one_end; one_frame = one_frame; looks = looks; gives = gives; kept = kept; denied = denied }

-- LEAVE IS ONLY LOST

abbrev leave : PortValue → Bool
leave p = has_tx_token p.link

room_before : (room : ℕ) → ltb 0 (room - 1) ≡ true → ltb 0 room ≡ true
room_before room some = let more : 0 < room - 1 = ltb-true 0 (room - 1) some in lt-ltb 0 room (omega (arith, more))

pub fewer_refused : (n : ℕ) → IsTrue (gives_tokens (n + 1)) → IsTrue (gives_tokens n)
fewer_refused n gives = below (2 ^ 64) (ltb-true (n + 1 + 1) (2 ^ 64) gives)
  where
    below : (snd_max : ℕ) → n + 1 + 1 < snd_max → ltb (n + 1) snd_max ≡ true
    below snd_max less = lt-ltb (n + 1) snd_max (omega (arith, less))

pub had_leave : (old new : PortValue) (m : Move) → PortMove old m new → IsTrue (has_tx_token new.link) → IsTrue (has_tx_token old.link)
had_leave old new (Took t frame) goes has = goes.0
had_leave old new (Empty t) goes has = sym (ap leave goes.0) ∙ has
had_leave old new (Allowed t given) goes has = sym (ap leave goes.0) ∙ has
had_leave old new (Emitted frame) goes has =
    let parts = and_parts (ltb 0 (old.link.room - 1)) (gives_tokens old.link.refusals) (sym (ap leave goes) ∙ has) in
    and_from (ltb 0 old.link.room) (gives_tokens old.link.refusals) (room_before old.link.room parts.0) parts.1
had_leave old new (Denied len) goes has =
    let parts = and_parts (ltb 0 old.link.room) (gives_tokens (old.link.refusals + 1)) (sym (ap leave goes.0) ∙ has) in
    and_from (ltb 0 old.link.room) (gives_tokens old.link.refusals) parts.0 (fewer_refused old.link.refusals parts.1)

-- one that gives leave, and refused no more than so many
abbrev pub GivesTxToken : ℕ → PortValue → Type 0
GivesTxToken refused p = IsTrue (has_tx_token p.link) × (p.link.refusals ≤ refused)

pub giving_ports : (refused : ℕ) → IsGiving PortMove (λ p. refused ≤ p.link.refusals) (GivesTxToken refused)
giving_ports refused = record {
  since = λ old new m moved since. (let more = kept old new m moved in omega (arith, more, since));
  had = λ old new m moved gives. (had_leave old new m moved gives.0, (let more = kept old new m moved in let few = gives.1 in omega (arith, more, few)));
  leave = λ old new t moved since gives. given_or_not (has_tx_token old.link) (sym (had_leave old new (Allowed t false) moved gives.0)) moved.1;
  takes = λ old new len moved since gives. (let more = denied old new len moved in let few = gives.1 in absurd (omega (arith, more, since, few)));
}

-- FRAMES THAT WERE TAKEN, of those that waited, and frames that were sent after those before

-- the others wait still
abbrev pub TookOf : List (List ℕ) → List (List ℕ) → Frames → PortValue → Type 0
TookOf waits sent F p = (waits ≡ F.taken ++ p.link.waiting) × (p.link.sent ≡ sent ++ F.gone)

same_end : (waits sent : List (List ℕ)) (F : Frames) (old new : PortValue) → new.link.waiting ≡ old.link.waiting → new.link.sent ≡ old.link.sent →
    TookOf waits sent F old → TookOf waits sent F new
same_end waits sent F old new waiting out took = (took.0 ∙ ap (λ (xs : List (List ℕ)). F.taken ++ xs) (sym waiting), out ∙ took.1)

rests : (waits sent : List (List ℕ)) (old new : PortValue) (m : Move) (F : Frames) → IsNoFrame m → PortMove old m new → TookOf waits sent F old →
    TookOf waits sent F new
rests waits sent old new (Took t frame) F none goes took = absurd none
rests waits sent old new (Empty t) F none goes took =
    same_end waits sent F old new (ap (λ (p : PortValue). p.link.waiting) goes.0) (ap (λ (p : PortValue). p.link.sent) goes.0) took
rests waits sent old new (Allowed t given) F none goes took =
    same_end waits sent F old new (ap (λ (p : PortValue). p.link.waiting) goes.0) (ap (λ (p : PortValue). p.link.sent) goes.0) took
rests waits sent old new (Emitted frame) F none goes took = absurd none
rests waits sent old new (Denied len) F none goes took =
    same_end waits sent F old new (ap (λ (p : PortValue). p.link.waiting) goes.0) (ap (λ (p : PortValue). p.link.sent) goes.0) took

pub taking_ports : (waits sent : List (List ℕ)) → IsTaking PortMove (TookOf waits sent)
taking_ports waits sent = record {
  takes = λ old new t frame F goes took. (
    took.0 ∙ ap (λ (p : PortValue). F.taken ++ p.link.waiting) goes.1 ∙ sym (append_assoc F.taken (frame ∷ []) new.link.waiting),
    sym (ap (λ (p : PortValue). p.link.sent) goes.1) ∙ took.1,
  );
  sends = λ old new frame F goes took. (
    took.0 ∙ ap (λ (p : PortValue). F.taken ++ p.link.waiting) (sym goes),
    ap (λ (p : PortValue). p.link.sent) goes ∙ ap (λ (xs : List (List ℕ)). xs ++ frame ∷ []) took.1 ∙ append_assoc sent F.gone (frame ∷ []),
  );
  rests = rests waits sent;
}
