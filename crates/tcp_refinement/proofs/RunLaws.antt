-- Each run of two new sockets is safe, both ways.
use Rattle.std.proofs.Common.{true, false, List, [], ◌∷◌}
use Rattle.tcp_theory.specs.Alone.{AreResets}
use Rattle.tcp_theory.specs.Segment.{Segment}
use Rattle.tcp_block.specs.Value.{TcpValue}
use Rattle.tcp_refinement.specs.Promises.{IsInitial}
use Rattle.tcp_refinement.specs.Run.{Seen, Event, MayHappen, happens, Sockets, Step, May, after, IsRun, run, start, AreSafe}
use Rattle.tcp_refinement.specs.Run.Event.{Listens, Connects, Sends, Reads, Closes, Aborts, Changes, Comes, Offers, HostResets}
use Rattle.tcp_refinement.specs.Run.Step.{A, B}
use Rattle.tcp_refinement.specs.Tie.{Keeps}
use Rattle.tcp_refinement.proofs.ArrivalLaws.{keeps_arrival}
use Rattle.tcp_refinement.proofs.CallLaws.{keeps_listening, keeps_connecting, keeps_read, keeps_close, keeps_abort, keeps_same}
use Rattle.tcp_refinement.proofs.CallMoves.{keeps_writes}
use Rattle.tcp_refinement.proofs.OfferLaws.{keeps_sent_offer, keeps_unsent_offer}
use Rattle.tcp_refinement.proofs.PromiseLemmas.{keeps_initial, keeps_turned, safe_sockets, keeps_reset}

keeps_event : (s t : Seen) (event : Event) → Keeps s.socket s.past t.socket t.past → MayHappen s t event →
    Keeps (happens s event).socket (happens s event).past t.socket t.past
keeps_event s t (Listens endpoint) k may = keeps_listening s.socket t.socket s.past t.past endpoint k may.0 may.1
keeps_event s t (Connects pair number) k may = keeps_connecting s.socket t.socket s.past t.past pair number k may.0.0 may.0.1 may.1
keeps_event s t (Sends queued bytes) k may = keeps_writes s.socket t.socket s.past t.past queued bytes k may.0 may.1 may.2
keeps_event s t (Reads count) k may = keeps_read s.socket t.socket s.past t.past count k
keeps_event s t Closes k may = keeps_close s.socket t.socket s.past t.past k
keeps_event s t Aborts k may = keeps_abort s.socket t.socket s.past t.past k
keeps_event s t (Changes new) k may = keeps_same s.socket new t.socket s.past t.past may k
keeps_event s t (Comes cx ip header bytes offset) k may = keeps_arrival cx s.socket t.socket s.past t.past ip header bytes offset k may
keeps_event s t (Offers cx true) k may = keeps_sent_offer cx s.socket t.socket s.past t.past k
keeps_event s t (Offers cx false) k may = keeps_unsent_offer cx s.socket t.socket s.past t.past k
keeps_event s t (HostResets x) k may = keeps_reset s.socket t.socket s.past t.past x may k

abbrev Kept : Sockets → Type 0
Kept w = Keeps w.a.socket w.a.past w.b.socket w.b.past

kept_after : (w : Sockets) (step : Step) → Kept w → May w step → Kept (after w step)
kept_after w (A event) k may = keeps_event w.a w.b event k may
kept_after w (B event) k may =
    keeps_turned (happens w.b event).socket w.a.socket (happens w.b event).past w.a.past
    (keeps_event w.b w.a event (keeps_turned w.a.socket w.b.socket w.a.past w.b.past k) may)

kept_run : (w : Sockets) (steps : List Step) → Kept w → IsRun w steps → Kept (run w steps)
kept_run w [] k is_run = k
kept_run w (step ∷ steps) k is_run = kept_run (after w step) steps (kept_after w step k is_run.0) is_run.1

pub runs_safe :
    (v w : TcpValue) (resets others : List Segment) (steps : List Step) → IsInitial v → IsInitial w → AreResets resets → AreResets others
    → IsRun (start v w resets others) steps → AreSafe (run (start v w resets others) steps)
runs_safe v w resets others steps f g a b is_run =
    let k = kept_run (start v w resets others) steps (keeps_initial v w resets others f g a b) is_run in
    let end = run (start v w resets others) steps in (
      safe_sockets end.a.socket end.b.socket end.a.past end.b.past k,
      safe_sockets end.b.socket end.a.socket end.b.past end.a.past (keeps_turned end.a.socket end.b.socket end.a.past end.b.past k),
    )
