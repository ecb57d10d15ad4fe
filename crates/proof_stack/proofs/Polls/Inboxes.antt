-- Devices at which frames wait in order.
use Rattle.std.proofs.Common.{◌≡◌, ℕ, zero, suc, ◌-◌, ◌<◌, ◌≤◌, Bool, true, false, not, ◌||◌, ltb, IsTrue, ℤ, pos, List, [], ◌∷◌, ◌++◌, Option, Some, None, option_to_list}
use Rattle.std.proofs.Common.{refl, sym, ap, ◌∙◌, arith}
use Rattle.std.proofs.lemmas.Bool.{and_parts, ltb-true}
use Rattle.std.specs.List.{list_any}
use Rattle.net_base.specs.Device.{Move, Took, Empty, Allowed, Emitted, Denied, gives_tokens}
use Rattle.net_base.specs.Loopback.{LoopbackValue, LoopbackMove}
use Rattle.net_base.specs.Medium.TheVariants as Medium
use Rattle.sim_link.specs.Port.{PortValue, PortMove, has_tx_token, ready_after}
use Rattle.app_tun_services.specs.Link.Drain.{DrainValue, DrainMove}
use Rattle.interface.specs.QuietPoll.{HasNoFrame}
use Rattle.lan.proofs.Worlds.PortMoves.{counting_ports, fewer_refused, had_leave}
use Rattle.proof_stack.specs.Progress.Delivered.{RefusesNothing}
use Rattle.proof_stack.specs.Progress.Inbox.{IsInbox}
use Rattle.proof_stack.specs.Progress.Leave.{IsInboxWhile}
use Rattle.proof_stack.specs.Progress.Numerals.{QueueMove}
use Rattle.proof_stack.specs.Progress.Moves.{AreMoves, is_transmitted, is_refused}

abbrev pub Frames : Type 0
Frames = List (List ℕ)

parts_are : (a b : List ℕ) (xs ys : Frames) → a ∷ xs ≡ b ∷ ys → (a ≡ b) × (xs ≡ ys)
parts_are a b xs ys is = (cc, cc)

none_waits : (f : List ℕ) (more : Frames) → f ∷ more ≡ [] → ⊥
none_waits f more is = absurd cc

-- A QUEUE

queue_out : (old new : Frames) (m : Move) → is_transmitted m ≡ true → QueueMove old m new → new ≡ old
queue_out old new (Took t frame) is goes = absurd cc
queue_out old new (Empty t) is goes = absurd cc
queue_out old new (Allowed t leave) is goes = goes.1
queue_out old new (Emitted frame) is goes = goes
queue_out old new (Denied len) is goes = goes

pub queue_is : IsInbox QueueMove (λ (frames : Frames). frames)
queue_is = record {
  first = λ old new t frame other more waits goes. parts_are other frame new more (sym goes ∙ waits);
  found = λ old new t frame more waits goes. none_waits frame more (sym waits ∙ goes.0);
  out = queue_out;
}

-- PORTS

abbrev pub waiting : PortValue → Frames
waiting p = p.link.waiting

abbrev pub leave : PortValue → Bool
leave p = has_tx_token p.link

port_out : (old new : PortValue) (m : Move) → is_transmitted m ≡ true → PortMove old m new → waiting new ≡ waiting old
port_out old new (Took t frame) is goes = absurd cc
port_out old new (Empty t) is goes = absurd cc
port_out old new (Allowed t given) is goes = ap waiting goes.0
port_out old new (Emitted frame) is goes = ap waiting goes
port_out old new (Denied len) is goes = ap waiting goes.0

pub ports : IsInboxWhile PortMove leave waiting
ports = record {
  first = λ old new t frame other more wait goes. parts_are other frame (waiting new) more (sym (ap waiting goes.1) ∙ wait);
  found = λ old new t frame more has wait goes. none_waits frame more (sym wait ∙ goes.1 has);
  out = port_out;
  had = had_leave;
}

pub ports_are_bare : (t : ℤ) (p : PortValue) → waiting p ≡ [] → HasNoFrame PortMove t p
ports_are_bare t p none frame other goes = none_waits frame (waiting other) (sym (ap waiting goes.1) ∙ none)

-- A PORT REFUSES NOTHING WHILE IT GIVES LEAVE

abbrev refusals : PortValue → ℕ
refusals p = p.link.refusals

record Between (old new : PortValue) : Type 0 where
  counted : refusals old ≤ refusals new
  has : IsTrue (leave new) → IsTrue (leave old)

between : (all : List Move) (old new : PortValue) → AreMoves PortMove all old new → Between old new
between [] old new goes = record { counted = let same = ap refusals goes in omega (arith, same); has = λ given. sym (ap leave goes) ∙ given }
between (m ∷ more) old new goes =
    let rest : Between goes.0 new = between more goes.0 new goes.2 in
    record {
      counted =
          let first = counting_ports.kept old goes.0 m goes.1 in
          let then_ = rest.counted in
          omega (arith, first, then_);
      has = λ given. had_leave old goes.0 m goes.1 (rest.has given);
    }

one_taken : (old new : PortValue) (m : Move) → PortMove old m new → refusals new ≤ refusals old → IsTrue (leave old) → is_refused m ≡ false
one_taken old new (Took t frame) goes none has = refl
one_taken old new (Empty t) goes none has = refl
one_taken old new (Allowed t given) goes none has = ap not (goes.1 ∙ has)
one_taken old new (Emitted frame) goes none has = refl
one_taken old new (Denied len) goes none has = let more = counting_ports.denied old new len goes in absurd (omega (arith, more, none))

all_taken : (all : List Move) (old new : PortValue) → refusals new ≤ refusals old → IsTrue (leave new) → AreMoves PortMove all old new
    → list_any is_refused all ≡ false
all_taken [] old new none given goes = refl
all_taken (m ∷ more) old new none given goes =
    let rest : Between goes.0 new = between more goes.0 new goes.2 in
    let first = counting_ports.kept old goes.0 m goes.1 in
    let later = rest.counted in
    ap (λ (b : Bool). b || list_any is_refused more)
    (one_taken old goes.0 m goes.1 (omega (arith, later, none)) (had_leave old goes.0 m goes.1 (rest.has given)))
    ∙ all_taken more goes.0 new (omega (arith, first, none)) given goes.2

pub refuse_nothing : (old new : PortValue) → refusals new ≡ refusals old → IsTrue (leave new) → RefusesNothing PortMove old new
refuse_nothing old new same given all goes = all_taken all old new (omega (arith, same)) given goes

-- WITHOUT LEAVE

-- a port that took a frame of no bytes
abbrev sent : PortValue → PortValue
sent p = record p { link = record p.link { sent = p.link.sent ++ [] ∷ []; room = p.link.room - 1 }; ready = ready_after p 0 }

module _ (frames_at : PortValue → Frames) (inbox : IsInbox PortMove frames_at) where
  without_room : (p : PortValue) → p.link.room ≡ zero → IsTrue (leave p) → waiting p ≡ []
  without_room p none has =
      let some : 0 < p.link.room = ltb-true 0 p.link.room (and_parts (ltb 0 p.link.room) (gives_tokens p.link.refusals) has).0 in
      absurd (omega (arith, none, some))

  none_found : (p : PortValue) → p.link.room ≡ zero → (frames : Frames) → frames_at p ≡ frames → frames ≡ []
  none_found p none [] is = refl
  none_found p none (f ∷ more) is = absurd (inbox.found p p (pos 0) f more is (refl, without_room p none))

  pub none_by : (room : ℕ) (p : PortValue) → p.link.room ≡ room → frames_at p ≡ []
  none_by zero p is = none_found p is (frames_at p) refl
  none_by (suc room) p is = sym (inbox.out p (sent p) (Emitted []) refl refl) ∙ none_by room (sent p) (omega (arith, is))

-- DRAINS

abbrev held : DrainValue → Frames
held d = option_to_list d.waiting

abbrev gives : DrainValue → Bool
gives d = gives_tokens d.refusals

drain_had : (old new : DrainValue) (m : Move) → DrainMove old m new → IsTrue (gives new) → IsTrue (gives old)
drain_had old new (Took t packet) goes has = sym (ap gives goes.2) ∙ has
drain_had old new (Empty t) goes has = sym (ap gives goes.0) ∙ has
drain_had old new (Allowed t given) goes has = sym (ap gives goes.0) ∙ has
drain_had old new (Emitted packet) goes has = sym (ap gives goes) ∙ has
drain_had old new (Denied len) goes has = fewer_refused old.refusals (sym (ap gives goes) ∙ has)

drain_out : (old new : DrainValue) (m : Move) → is_transmitted m ≡ true → DrainMove old m new → held new ≡ held old
drain_out old new (Took t packet) is goes = absurd cc
drain_out old new (Empty t) is goes = absurd cc
drain_out old new (Allowed t given) is goes = ap held goes.0
drain_out old new (Emitted packet) is goes = ap held goes
drain_out old new (Denied len) is goes = ap held goes

one_held : (waits : Option (List ℕ)) (frame other : List ℕ) (more : Frames) → option_to_list waits ≡ frame ∷ more → waits ≡ Some other
    → (other ≡ frame) × ([] ≡ more)
one_held (Some packet) frame other more is same =
    let both = parts_are packet frame [] more is in (let at : packet ≡ other = cc in sym at ∙ both.0, both.1)
one_held None frame other more is same = absurd cc

drain_first : (old new : DrainValue) (t : ℤ) (frame other : List ℕ) (more : Frames) → held old ≡ frame ∷ more → DrainMove old (Took t other) new
    → (other ≡ frame) × (held new ≡ more)
drain_first old new t frame other more wait goes =
    let both = one_held old.waiting frame other more wait goes.1 in (both.0, ap held goes.2 ∙ both.1)

pub drains : IsInboxWhile DrainMove gives held
drains = record {
  first = drain_first;
  found = λ old new t frame more has wait goes. none_waits frame more (sym wait ∙ ap option_to_list (goes.1 has));
  out = drain_out;
  had = drain_had;
}

-- LOOPBACKS

-- a loopback with these frames on their way
abbrev loopback : Frames → LoopbackValue
loopback frames = record { queue = frames; refusals = 0; medium = Medium.Ip }

pub no_loopback : (gives_tx_token : LoopbackValue → Bool) → IsInboxWhile LoopbackMove gives_tx_token (λ (l : LoopbackValue). l.queue) → ⊥
no_loopback gives_tx_token inbox = none_waits [] [] (inbox.out (loopback []) (loopback ([] ∷ [])) (Emitted []) refl refl)
