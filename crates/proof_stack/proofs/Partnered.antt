-- Peers over packets are a pair that events led to.
use Rattle.std.proofs.Common.{ℕ, ℤ, Bool, List, [], subst, sym}
use Rattle.tcp_refinement.specs.Pair.Steps.{Steps}
use Rattle.tcp_refinement.specs.Pair.Values.{PairValue}
use Rattle.tcp_liveness.proofs.CourseThrough.{through_whatever}
use Rattle.tcp_liveness.proofs.CourseWindows.{gets_on}
use Rattle.tcp_liveness.specs.Reached.{IsReached}
use Rattle.tcp_liveness.specs.Spans.{IsThroughAmong}
use Rattle.lan.specs.declared.at_link.history.event.Side.{Side}
use Rattle.lan.specs.declared.at_link.history.event.Side.TheVariants.{A, B}
use Rattle.lan.specs.Worlds.AtLink.Moves.{IsRun, Step, run}
use Rattle.lan.specs.Worlds.AtLink.PacketsSafe.{IsInitialNet}
use Rattle.lan.specs.Worlds.AtLink.Paired.{AreHosted, AreNew, HaveKeys, NewSocket, Seat, Shows, at_zero, begun, clocks_in}
use Rattle.lan.specs.Worlds.AtLink.Parties.{Net}
use Rattle.lan.specs.Worlds.AtLink.PeerSides.{ArePartners}
use Rattle.lan.proofs.Worlds.AtLink.Paired.Begins.{begins}
use Rattle.lan.proofs.Worlds.AtLink.Paired.Runs.{peer_sides_proceed}
use Rattle.proof_stack.specs.Progress.PeerSides.{ProceedsInTime, HoldText, ShowsReached}

pub reached : (starts : Side → ℕ → ℕ) (names : List ℕ → Bool) (first : Net) (steps : List Step) (seats : Side → Seat) (news : Side → NewSocket) →
    IsInitialNet starts first → AreNew seats news first → IsRun names first steps → AreHosted seats at_zero first steps → HaveKeys seats → HoldText seats →
    ArePartners (run first steps).history A (seats A).slot (seats B).slot → ShowsReached seats (clocks_in seats at_zero steps) (run first steps)
reached starts names first steps seats news initial new is hosted keys text peer_sides =
    let on = peer_sides_proceed starts names first [] steps seats at_zero (begun seats news) initial tt is hosted keys peer_sides (begins starts first seats news initial new) in
    record {
      pair = on.next;
      reached = record {
        a = record { host = (seats A).host; holds = text A; random = 0; room = (news A).room; ring = (news A).ring };
        b = record { host = (seats B).host; holds = text B; random = 0; room = (news B).room; ring = (news B).ring };
        events = on.events;
        steps = on.steps;
      };
      shows = on.shows;
    }

-- and their connection goes on
pub proceeds : (starts : Side → ℕ → ℕ) (names : List ℕ → Bool) (first : Net) (before steps : List Step) (seats : Side → Seat) (clocks : Side → ℤ)
    (p : PairValue) → IsInitialNet starts first → IsRun names first before → IsReached p → Shows seats clocks (run first before) p →
    IsRun names (run first before) steps → AreHosted seats clocks (run first before) steps → HaveKeys seats →
    ArePartners (run (run first before) steps).history A (seats A).slot (seats B).slot → ProceedsInTime seats (clocks_in seats clocks steps) (run (run first before) steps) p
proceeds starts names first before steps seats clocks p initial was reached shows is hosted keys peer_sides =
    let on = peer_sides_proceed starts names first before steps seats clocks p initial was is hosted keys peer_sides shows in
    record {
      on = on;
      rises = λ side course read wait delay now are t owes lasts.
          gets_on p on.next side course read wait delay now reached t.opened (subst (λ events. Steps p events on.next) (sym are) on.steps) t.stay owes t.goes t.reads lasts;
      through = λ side course read wait delay now are t lasts.
          subst (IsThroughAmong p side) are
          (through_whatever p on.next side course read wait delay now reached t.opened (subst (λ events. Steps p events on.next) (sym are) on.steps) t.stay t.goes t.reads
          lasts);
    }
