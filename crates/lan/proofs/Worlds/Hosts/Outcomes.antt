-- Polls of one host have one end, whatever buffers lie ready.
use Rattle.std.proofs.Common.{◌≡◌, ◌≤◌, ◌+◌, ◌-◌, ℕ, ℤ, Bool, true, false, List, [], ◌∷◌, ◌++◌, length, refl, sym, ap, ◌∙◌, subst, arith}
use Rattle.std.specs.Prelude.{IsTrue, drop}
use Rattle.sim_link.specs.Device.{Move, Took, Empty, Allowed, Emitted, Denied}
use Rattle.interface.specs.Polls.{Polls}
use Rattle.interface.specs.State.{State, state}
use Rattle.iface_egress.specs.Determined.{IsDetermined}
use Rattle.interface.specs.Steady.{IsSteady}
use Rattle.interface.proofs.OneEnd.{OneOffer, one_poll}
use Rattle.lan.specs.Worlds.AtLink.Port.{LinkEnd, PortValue, PortMove, has_tx_token}
use Rattle.lan.specs.Worlds.AtLink.Node.{NodeValue, at_port}
use Rattle.lan.specs.Worlds.AtLink.Steps.{PollsAt}
use Rattle.interface.proofs.Mapping.{IsMapped, polls_there}

-- AN END OF THE LINK AS A DEVICE

-- the moves of a port that denies nothing, and takes frames of at most this length
abbrev pub LinkMove : ℕ → LinkEnd → Move → LinkEnd → Type 0
LinkMove longest old (Took t frame) new = IsTrue (has_tx_token old) × (old ≡ record new { waiting = frame ∷ new.waiting })
LinkMove longest old (Empty t) new = (new ≡ old) × (IsTrue (has_tx_token old) → old.waiting ≡ [])
LinkMove longest old (Allowed t leave) new = (new ≡ old) × (leave ≡ has_tx_token old)
LinkMove longest old (Emitted frame) new = (new ≡ record old { sent = old.sent ++ frame ∷ []; room = old.room - 1 }) × (length frame ≤ longest)
LinkMove longest old (Denied len) new = ⊥

module _ (longest : ℕ) where
  link_end : (here one other : LinkEnd) (m : Move) → LinkMove longest here m one → LinkMove longest here m other → one ≡ other
  link_end here one other (Took t frame) a b = ap (λ (l : LinkEnd). record l { waiting = drop 1 l.waiting }) (sym a.1 ∙ b.1)
  link_end here one other (Empty t) a b = a.0 ∙ sym b.0
  link_end here one other (Allowed t leave) a b = a.0 ∙ sym b.0
  link_end here one other (Emitted frame) a b = a.0 ∙ sym b.0
  link_end here one other (Denied len) a b = absurd a

  head_is : (x y : List ℕ) (xs ys : List (List ℕ)) → x ∷ xs ≡ y ∷ ys → x ≡ y
  head_is x y xs ys is = cc

  some_none : (x : List ℕ) (xs : List (List ℕ)) → x ∷ xs ≡ [] → ⊥
  some_none x xs is = absurd (cc)

  on_off : (b : Bool) → true ≡ b → false ≡ b → ⊥
  on_off b on off = absurd (cc)

  link_determined : (here : LinkEnd) → IsDetermined (LinkMove longest) longest here
  link_determined here = record {
    one_end = link_end here;
    one_frame = λ t one other frame again a b. head_is frame again one.waiting other.waiting (ap (λ (l : LinkEnd). l.waiting) (sym a.1 ∙ b.1));
    looks = λ t one other frame a b. some_none frame one.waiting (ap (λ (l : LinkEnd). l.waiting) (sym a.1) ∙ b.1 a.0);
    gives = λ t one other a b. on_off (has_tx_token here) a.1 b.1;
    takes = λ one other frame short a b. b;
  }

  link_steady : IsSteady (LinkMove longest) longest
  link_steady = record { stays = λ old new m det goes. link_determined new; clear = λ here one other frame det a b. b }

-- A PORT THAT DENIES NOTHING

-- the length of all frames together
abbrev total : List (List ℕ) → ℕ
total [] = 0
total (f ∷ fs) = length f + total fs

total_more : (fs : List (List ℕ)) (f : List ℕ) → total (fs ++ f ∷ []) ≡ total fs + length f
total_more [] f = omega arith
total_more (g ∷ fs) f = let more = total_more fs f in omega (arith, more)

module _ (refusals longest : ℕ) where
  -- so many were refused before, and no more after, where all frames together aren't longer than this
  abbrev Before : PortValue → Type 0
  Before p = refusals ≤ p.link.refusals

  abbrev After : PortValue → Type 0
  After p = (p.link.refusals ≤ refusals) × (total p.link.sent ≤ longest)

  up : (old new : PortValue) (m : Move) → PortMove old m new → Before old → Before new
  up old new (Took t frame) goes before = subst (λ (n : ℕ). refusals ≤ n) (ap (λ (x : PortValue). x.link.refusals) goes.1) before
  up old new (Empty t) goes before = subst (λ (n : ℕ). refusals ≤ n) (sym (ap (λ (x : PortValue). x.link.refusals) goes.0)) before
  up old new (Allowed t leave) goes before = subst (λ (n : ℕ). refusals ≤ n) (sym (ap (λ (x : PortValue). x.link.refusals) goes.0)) before
  up old new (Emitted frame) goes before = subst (λ (n : ℕ). refusals ≤ n) (sym (ap (λ (x : PortValue). x.link.refusals) goes)) before
  up old new (Denied len) goes before =
      let more : new.link.refusals ≡ old.link.refusals + 1 = ap (λ (x : PortValue). x.link.refusals) goes.0 in
      omega (arith, more, before)

  after_same : (old new : PortValue) → old.link.refusals ≡ new.link.refusals → old.link.sent ≡ new.link.sent → After new → After old
  after_same old new refused sent after =
      (subst (λ (n : ℕ). n ≤ refusals) (sym refused) after.0, subst (λ (fs : List (List ℕ)). total fs ≤ longest) (sym sent) after.1)

  down : (old new : PortValue) (m : Move) → PortMove old m new → After new → After old
  down old new (Took t frame) goes after = after_same old new (ap (λ (x : PortValue). x.link.refusals) goes.1)
      (ap (λ (x : PortValue). x.link.sent) goes.1) after
  down old new (Empty t) goes after =
      after_same old new (sym (ap (λ (x : PortValue). x.link.refusals) goes.0)) (sym (ap (λ (x : PortValue). x.link.sent) goes.0)) after
  down old new (Allowed t leave) goes after =
      after_same old new (sym (ap (λ (x : PortValue). x.link.refusals) goes.0)) (sym (ap (λ (x : PortValue). x.link.sent) goes.0)) after
  down old new (Emitted frame) goes after =
      let sent : total new.link.sent ≡ total old.link.sent + length frame = ap (λ (x : PortValue). total x.link.sent) goes ∙ total_more old.link.sent frame in
      let low = after.1 in
      (subst (λ (n : ℕ). n ≤ refusals) (ap (λ (x : PortValue). x.link.refusals) goes) after.0, omega (arith, sent, low))
  down old new (Denied len) goes after =
      let more : new.link.refusals ≡ old.link.refusals + 1 = ap (λ (x : PortValue). x.link.refusals) goes.0 in
      let low = after.0 in
      (omega (arith, more, low), subst (λ (fs : List (List ℕ)). total fs ≤ longest) (ap (λ (x : PortValue). x.link.sent) goes.0) after.1)

  there : (old new : PortValue) (m : Move) → PortMove old m new → Before old → After new → LinkMove longest old.link m new.link
  there old new (Took t frame) goes before after = (goes.0, ap (λ (x : PortValue). x.link) goes.1)
  there old new (Empty t) goes before after = (ap (λ (x : PortValue). x.link) goes.0, goes.1)
  there old new (Allowed t leave) goes before after = (ap (λ (x : PortValue). x.link) goes.0, goes.1)
  there old new (Emitted frame) goes before after =
      let sent : total new.link.sent ≡ total old.link.sent + length frame = ap (λ (x : PortValue). total x.link.sent) goes ∙ total_more old.link.sent frame in
      let low = after.1 in
      (ap (λ (x : PortValue). x.link) goes, omega (arith, sent, low))
  there old new (Denied len) goes before after =
      let more : new.link.refusals ≡ old.link.refusals + 1 = ap (λ (x : PortValue). x.link.refusals) goes.0 in
      let low = after.0 in
      absurd (omega (arith, more, low, before))

  mapped : IsMapped (λ (p : PortValue). p.link) PortMove (LinkMove longest) Before After
  mapped = record { up = up; down = down; there = there }

  link_polls : (s s' : NodeValue) (t : ℤ) (budget : ℕ) (changed : Bool) → refusals ≡ s.link.refusals → total s'.link.sent ≤ longest →
      s.host.inner.host_requirements ≡ false → PollsAt s t budget changed s'
      → Polls (LinkMove longest) t budget (state s.link s.host s.slots) changed (state s'.link s'.host s'.slots)
  link_polls s s' t budget changed is short alone at =
      let before : Before at.port = subst (λ (l : LinkEnd). refusals ≤ l.refusals) (sym at.before) (omega (arith, is)) in
      let none = at.none_denied alone in
      let after : After at.port_after = (
        subst (λ (l : LinkEnd). l.refusals ≤ refusals) (sym at.after) (omega (arith, is, none)),
        subst (λ (l : LinkEnd). total l.sent ≤ longest) (sym at.after) short,
      ) in
      subst (λ (l : LinkEnd). Polls (LinkMove longest) t budget (state l s.host s.slots) changed (state s'.link s'.host s'.slots)) at.before
      (subst (λ (l : LinkEnd). Polls (LinkMove longest) t budget (state at.port.link s.host s.slots) changed (state l s'.host s'.slots)) at.after
      (polls_there (λ (p : PortValue). p.link) PortMove (LinkMove longest) Before After mapped t budget (at_port at.port s) (at_port at.port_after s') changed
      at.polls before after))

abbrev node_of : State LinkEnd → NodeValue
node_of s = record { host = s.host; slots = s.slots; link = s.device }

pub polls_once : OneOffer → (s one other : NodeValue) (t : ℤ) (budget : ℕ) (a b : Bool) → s.host.inner.host_requirements ≡ false →
    PollsAt s t budget a one → PollsAt s t budget b other → (a ≡ b) × (one ≡ other)
polls_once one_offer s one other t budget a b alone first second =
    let longest : ℕ = total one.link.sent + total other.link.sent in
    let left = link_polls s.link.refusals longest s one t budget a refl (omega arith) alone first in
    let right = link_polls s.link.refusals longest s other t budget b refl (omega arith) alone second in
    let same = one_poll one_offer (LinkMove longest) longest (link_steady longest) t budget (state s.link s.host s.slots) (state one.link one.host one.slots)
    (state other.link other.host other.slots) a b (link_determined longest s.link) left right in
    (same.1, ap node_of same.0)
