-- Rounds over a good link: each segment that is sent from now on comes once and in order, both sides are asked at the instants that they
-- name, and both users read all that waits. What was sent before is lost.
use Rattle.std.specs.Prelude.{ℕ, suc, zero, ◌-◌, ◌^◌, ℤ, int_lt, true, if◌then◌else◌, length, Option, Some, None}
use Rattle.tcp_refinement.specs.PollAt.{PollAt}
use Rattle.tcp_refinement.specs.PollAt.TheVariants as At
use Rattle.tcp_block.specs.Due.{poll_of}
use Rattle.tcp_refinement.specs.declared.pair.event.Side.{Side}
use Rattle.tcp_refinement.specs.declared.pair.event.Side.TheVariants.{A, B}
use Rattle.tcp_refinement.specs.declared.pair.event.PairEvent.{PairEvent}
use Rattle.tcp_refinement.specs.declared.pair.event.PairEvent.TheVariants.{Recv, Offer, Deliver}
use Rattle.tcp_refinement.specs.Pair.Steps.{happens}
use Rattle.tcp_refinement.specs.Pair.Values.{PairSide, PairValue}

-- a pair, and how many segments of each side have come or are lost
pub record Linked : Type 0 where
  pub pair : PairValue
  pub from_a : ℕ
  pub from_b : ℕ

-- the link is good from now on
abbrev pub linked : PairValue → Linked
linked p = record { pair = p; from_a = length p.sides.a.sent; from_b = length p.sides.b.sent }

abbrev pub takes : PairValue → PairEvent → PairValue
takes p event = (happens p event).pair

-- so many segments of a side come, in order, from this number on
abbrev pub comes : ℕ → Side → ℕ → PairValue → PairValue
comes zero side k p = p
comes (suc n) side k p = comes n side (suc k) (takes p (Deliver side k))

-- all that is on its way comes
abbrev pub handed : Linked → Linked
handed l = record {
  pair = comes (length l.pair.sides.b.sent - l.from_b) B l.from_b (comes (length l.pair.sides.a.sent - l.from_a) A l.from_a l.pair);
  from_a = length l.pair.sides.a.sent;
  from_b = length l.pair.sides.b.sent;
}

abbrev pub later_of : ℤ → ℤ → ℤ
later_of a b = if int_lt a b then b else a

abbrev pub now_in : PairValue → ℤ
now_in p = later_of p.sides.a.instant p.sides.b.instant

-- when a side wants to be asked, not before now
abbrev pub due_by : ℤ → PollAt → Option ℤ
due_by now At.Now = Some now
due_by now (At.Time instant) = Some (later_of now instant)
due_by now At.Ingress = None

abbrev pub sooner_of : Option ℤ → Option ℤ → Option ℤ
sooner_of None m = m
sooner_of (Some m) None = Some m
sooner_of (Some m) (Some n) = Some (if int_lt n m then n else m)

abbrev pub due_at : ℤ → PairSide → Option ℤ
due_at now s = due_by now (poll_of s.host.ip_mtu s.socket)

-- when the first of them does
abbrev pub due_in : PairValue → Option ℤ
due_in p = sooner_of (due_at (now_in p) p.sides.a) (due_at (now_in p) p.sides.b)

abbrev pub reads : PairValue → PairValue
reads p = takes (takes p (Recv A (2 ^ 30))) (Recv B (2 ^ 30))

abbrev pub with_pair : Linked → PairValue → Linked
with_pair l p = record l { pair = p }

-- both are asked, what they offer comes, then what answers it, and what answers that
abbrev pub asked_at : Option ℤ → Linked → Linked
asked_at None l = l
asked_at (Some t) l = handed (handed (handed (with_pair l (takes (takes l.pair (Offer A t true)) (Offer B t true)))))

abbrev pub round : Linked → Linked
round l = let next : Linked = asked_at (due_in l.pair) l in with_pair next (reads next.pair)

abbrev pub rounds : ℕ → Linked → Linked
rounds zero l = l
rounds (suc n) l = rounds n (round l)
