use Rattle.std.proofs.Common.{◌≡◌, ◌<◌, ◌≤◌, ℤ, pos, ◌≤ℤ◌, ◌<ℤ◌, int_lt, true, [], inl, refl, arith}
use Rattle.std.proofs.lemmas.Bool.{leb-true, ltb-true}
use Rattle.std.proofs.lemmas.Int.{ints}
use Rattle.std.specs.Prelude.{replicate}
use Rattle.net_base.specs.Ring.{ring}
use Rattle.tcp_block.specs.Value.{room_of}
use Rattle.tcp_refinement.specs.Pair.Sides.{at}
use Rattle.tcp_refinement.specs.Pair.Values.{host_of}
use Rattle.tcp_refinement.specs.declared.pair.event.Side.{Side}
use Rattle.tcp_refinement.specs.declared.pair.event.Side.TheVariants.{A, B}
use Rattle.tcp_liveness.specs.Met.{gone, mending}
use Rattle.tcp_liveness.specs.Pair.{socket_of}
use Rattle.tcp_liveness.specs.Readers.{ReadsWithin}
use Rattle.tcp_liveness.proofs.MetStarts.{held}
use Rattle.proof_stack.specs.Progress.Edges.{KeepsStream}
use Rattle.proof_stack.specs.Progress.EdgesMet.{filling, telling}
use Rattle.proof_stack.proofs.AtEdges.Whole.{arrives_within}
use Rattle.proof_stack.proofs.progress.edges.what_an_edge_asks_for_is_met.Goals as goal

before : (due t : ℤ) → int_lt due t ≡ true → due <ℤ t
before due t e = first_of (omega (arith, ints), grind (arith, ints))

-- A's buffer is empty
reads : ReadsWithin 1_000 (pos 0) gone B mending → (side : Side) → ReadsWithin 1_000 (pos 0) gone side mending
reads theirs A = ((λ full. absurd (cc)), ((λ full. absurd (cc)), ((λ full. absurd (cc)), ((λ full. absurd (cc)), ((λ full. absurd (cc)), tt)))))
reads theirs B = theirs

-- neither user closes
streams : (side : Side) → KeepsStream gone side mending
streams A = (inl refl, (inl refl, (inl refl, (inl refl, (inl refl, inl refl)))))
streams B = (inl refl, (inl refl, (inl refl, (inl refl, (inl refl, inl refl)))))

shown : (instant : ℤ) → instant ≡ pos 0 → instant ≤ℤ pos 0
shown instant e = grind arith

clocks : (side : Side) → (at gone.sides side).instant ≤ℤ pos 0
clocks A = shown (at gone.sides A).instant refl
clocks B = shown (at gone.sides B).instant refl

rooms : (side : Side) → 1 ≤ room_of (socket_of gone side).received
rooms A = leb-true _ _ refl
rooms B = leb-true _ _ refl

pub returns-clause-course : goal.returns-clause-course
returns-clause-course c =
    let met = c.what_a_course_asks_for_is_met.ensures in record {
      clocks = clocks;
      clocked = met.course.clocked;
      asks = met.course.asks;
      taken = met.course.taken;
      comes = arrives_within gone mending 1_000 met.course.delivers;
      reads = reads met.reads;
      streams = streams;
      rooms = rooms;
    }

pub returns-clause-long : goal.returns-clause-long
returns-clause-long c = before _ _ refl

pub returns-clause-reached : goal.returns-clause-reached
returns-clause-reached c = record {
  a = record { host = host_of A; holds = held; random = 1; room = 1; ring = ring [] (replicate 8 0) 0 };
  b = record { host = host_of B; holds = held; random = 2; room = 1; ring = ring [] (replicate 8 0) 0 };
  events = filling;
  steps = (refl, (refl, (refl, (refl, (refl, (refl, (refl, (refl, (refl, (refl, (refl, (refl, (refl, (refl, (refl, refl)))))))))))))));
}

pub returns-clause-rcv_adv : goal.returns-clause-rcv_adv
returns-clause-rcv_adv c = leb-true _ _ refl

pub returns-clause-more : goal.returns-clause-more
returns-clause-more c = ltb-true _ _ refl

-- B has the one byte that A sent
not_less : 1 < 1 → ⊥
not_less e = absurd (omega arith)

pub returns-clause-took : goal.returns-clause-took
returns-clause-took c = not_less

pub returns-clause-comes : goal.returns-clause-comes
returns-clause-comes c = record {
  a = record { host = host_of A; holds = held; random = 1; room = 1; ring = ring [] (replicate 8 0) 0 };
  b = record { host = host_of B; holds = held; random = 2; room = 1; ring = ring [] (replicate 8 0) 0 };
  events = telling;
  steps = (refl, (refl, (refl, (refl, (refl, (refl, (refl, (refl, (refl, (refl, (refl, (refl, (refl, (refl, (refl, (refl, refl))))))))))))))));
}

pub returns-clause-untaken : goal.returns-clause-untaken
returns-clause-untaken c = refl
