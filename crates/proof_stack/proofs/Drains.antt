-- But for lack of memory a drain's moves are determined.
use Rattle.std.proofs.Common.{◌≡◌, ◌<◌, ◌≤◌, ℕ, ℤ, true, false, List, Some, None, sym, ap, ◌∙◌, arith}
use Rattle.app_tun_services.specs.Link.Drain.{DrainValue, DrainMove}
use Rattle.net_base.specs.Device.{Move, Took, Empty, Allowed, Emitted, Denied, gives_tokens}
use Rattle.interface.proofs.Unrefused.{IsCounting, given_or_not}

same_packet : (x y : List ℕ) → Some x ≡ Some y → x ≡ y
same_packet x y is = cc

none_waits : (x : List ℕ) → Some x ≡ None → ⊥
none_waits x is = absurd cc

one_end : (here one other : DrainValue) (m : Move) → DrainMove here m one → DrainMove here m other → one ≡ other
one_end here one other (Took t packet) a b = a.2 ∙ sym b.2
one_end here one other (Empty t) a b = a.0 ∙ sym b.0
one_end here one other (Allowed t given) a b = a.0 ∙ sym b.0
one_end here one other (Emitted packet) a b = a ∙ sym b
one_end here one other (Denied len) a b = a ∙ sym b

one_frame : (here : DrainValue) (t : ℤ) (one other : DrainValue) (frame again : List ℕ) → DrainMove here (Took t frame) one →
    DrainMove here (Took t again) other → frame ≡ again
one_frame here t one other frame again a b = same_packet frame again (sym a.1 ∙ b.1)

looks : (here : DrainValue) (t : ℤ) (one other : DrainValue) (frame : List ℕ) → DrainMove here (Took t frame) one → DrainMove here (Empty t) other → ⊥
looks here t one other frame a b = none_waits frame (sym a.1 ∙ b.1 a.0)

gives : (here : DrainValue) (t : ℤ) (one other : DrainValue) → DrainMove here (Allowed t true) one → DrainMove here (Allowed t false) other → ⊥
gives here t one other a b = given_or_not (gives_tokens here.refusals) a.1 b.1

abbrev refusals : DrainValue → ℕ
refusals d = d.refusals

kept : (old new : DrainValue) (m : Move) → DrainMove old m new → refusals old ≤ refusals new
kept old new (Took t packet) goes = let same = ap refusals goes.2 in omega (arith, same)
kept old new (Empty t) goes = let same = ap refusals goes.0 in omega (arith, same)
kept old new (Allowed t given) goes = let same = ap refusals goes.0 in omega (arith, same)
kept old new (Emitted packet) goes = let same = ap refusals goes in omega (arith, same)
kept old new (Denied len) goes = let more = ap refusals goes in omega (arith, more)

denied : (old new : DrainValue) (len : ℕ) → DrainMove old (Denied len) new → refusals old < refusals new
denied old new len goes = let more = ap refusals goes in omega (arith, more)

pub counting_drains : IsCounting DrainMove (λ (d : DrainValue). d.refusals)
counting_drains = record { one_end = one_end; one_frame = one_frame; looks = looks; gives = gives; kept = kept; denied = denied }
