-- But for lack of memory a loopback's moves are determined.
use Rattle.std.proofs.Common.{◌≡◌, ◌<◌, ◌≤◌, ℕ, ℤ, true, false, List, sym, ap, ◌∙◌, arith}
use Rattle.std.specs.Prelude.{drop}
use Rattle.net_base.specs.Device.{Move, Took, Empty, Allowed, Emitted, Denied, gives_tokens}
use Rattle.net_base.specs.Loopback.{LoopbackValue, LoopbackMove}
use Rattle.interface.proofs.Unrefused.{IsCounting, head_is, none_waits, given_or_not}

abbrev following : LoopbackValue → LoopbackValue
following l = record l { queue = drop 1 l.queue }

one_end : (here one other : LoopbackValue) (m : Move) → LoopbackMove here m one → LoopbackMove here m other → one ≡ other
one_end here one other (Took t frame) a b = ap following (sym a.1 ∙ b.1)
one_end here one other (Empty t) a b = a.0 ∙ sym b.0
one_end here one other (Allowed t given) a b = a.0 ∙ sym b.0
one_end here one other (Emitted frame) a b = a ∙ sym b
one_end here one other (Denied len) a b = a ∙ sym b

one_frame : (here : LoopbackValue) (t : ℤ) (one other : LoopbackValue) (frame again : List ℕ) → LoopbackMove here (Took t frame) one →
    LoopbackMove here (Took t again) other →
    frame ≡ again
one_frame here t one other frame again a b = head_is frame again one.queue other.queue (ap (λ (l : LoopbackValue). l.queue) (sym a.1 ∙ b.1))

looks : (here : LoopbackValue) (t : ℤ) (one other : LoopbackValue) (frame : List ℕ) → LoopbackMove here (Took t frame) one →
    LoopbackMove here (Empty t) other → ⊥
looks here t one other frame a b = none_waits frame one.queue (ap (λ (l : LoopbackValue). l.queue) (sym a.1) ∙ b.1 a.0)

gives : (here : LoopbackValue) (t : ℤ) (one other : LoopbackValue) → LoopbackMove here (Allowed t true) one → LoopbackMove here (Allowed t false) other → ⊥
gives here t one other a b = given_or_not (gives_tokens here.refusals) a.1 b.1

kept : (old new : LoopbackValue) (m : Move) → LoopbackMove old m new → old.refusals ≤ new.refusals
kept old new (Took t frame) goes = let same = ap (λ (l : LoopbackValue). l.refusals) goes.1 in omega (arith, same)
kept old new (Empty t) goes = let same = ap (λ (l : LoopbackValue). l.refusals) goes.0 in omega (arith, same)
kept old new (Allowed t given) goes = let same = ap (λ (l : LoopbackValue). l.refusals) goes.0 in omega (arith, same)
kept old new (Emitted frame) goes = let same = ap (λ (l : LoopbackValue). l.refusals) goes in omega (arith, same)
kept old new (Denied len) goes = let more = ap (λ (l : LoopbackValue). l.refusals) goes in omega (arith, more)

denied : (old new : LoopbackValue) (len : ℕ) → LoopbackMove old (Denied len) new → old.refusals < new.refusals
denied old new len goes = let more = ap (λ (l : LoopbackValue). l.refusals) goes in omega (arith, more)

pub counting_loopbacks : IsCounting LoopbackMove (λ (l : LoopbackValue). l.refusals)
counting_loopbacks = record { one_end = one_end; one_frame = one_frame; looks = looks; gives = gives; kept = kept; denied = denied }
