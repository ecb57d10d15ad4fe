-- No event changes what a side knows of its host.
use Rattle.std.proofs.Common.{◌≡◌, ℕ, true, false, List, [], ◌∷◌, Option, Some, None, Result, Ok, Err, slice_get, refl, ap, ◌∙◌}
use Rattle.std.proofs.lemmas.Bool.{cond_both}
use Rattle.tcp_block.specs.Arrival.{arrives}
use Rattle.tcp_block.specs.Calls.{recv_answer}
use Rattle.tcp_block.specs.Names.{accepts}
use Rattle.tcp_block.specs.RecvError.{RecvError}
use Rattle.tcp_refinement.specs.declared.pair.event.Side.{Side}
use Rattle.tcp_refinement.specs.declared.pair.event.Side.TheVariants.{A, B}
use Rattle.tcp_refinement.specs.declared.pair.event.SentSegment.{SentSegment}
use Rattle.tcp_refinement.specs.declared.pair.event.PairEvent.{PairEvent}
use Rattle.tcp_refinement.specs.declared.pair.event.PairEvent.TheVariants.{Listen, Connect, Send, Recv, Close, Abort, TcpSetting, Clock, Offer, Deliver}
use Rattle.tcp_refinement.specs.Pair.History.{side_of}
use Rattle.tcp_refinement.specs.Pair.Sides.{Both, at, put, other}
use Rattle.tcp_refinement.specs.Pair.Steps.{Steps, acting, acts, handed, happens, reads, taken_at}
use Rattle.tcp_refinement.specs.Pair.Values.{PairSide, PairValue, context_at}

read_host : (s : PairSide) (r : Result ℕ RecvError) → (reads s r).side.host ≡ s.host
read_host s (Ok count) = refl
read_host s (Err fault) = refl

handed_host : (side : Side) (s : PairSide) (x : Option SentSegment) → (handed side s x).host ≡ s.host
handed_host side s None = refl
handed_host side s (Some x) =
    cond_both (accepts s.socket.tcb x.header x.segment) (taken_at s (arrives (context_at side s) s.socket x.header x.segment x.bytes)) s
    (λ (new : PairSide). new.host ≡ s.host) (λ _. refl) (λ _. refl)

pub act_host : (s : PairSide) (others : List SentSegment) (event : PairEvent) → (acts s others event).side.host ≡ s.host
act_host s others (Listen side endpoint) = refl
act_host s others (Connect side remote local) = refl
act_host s others (Send side bytes) = refl
act_host s others (Recv side count) = read_host s (recv_answer s.socket count)
act_host s others (Close side) = refl
act_host s others (Abort side) = refl
act_host s others (TcpSetting side setting) = refl
act_host s others (Clock side instant) = refl
act_host s others (Offer side instant true) = refl
act_host s others (Offer side instant false) = refl
act_host s others (Deliver from k) = handed_host (other from) s (slice_get others k)

put_host : (both : Both PairSide) (side : Side) (new : PairSide) → new.host ≡ (at both side).host → (of : Side) →
    (at (put both side new) of).host ≡ (at both of).host
put_host both A new same A = same
put_host both A new same B = refl
put_host both B new same A = refl
put_host both B new same B = same

pub event_host : (p : PairValue) (event : PairEvent) (side : Side) → (at (happens p event).pair.sides side).host ≡ (at p.sides side).host
event_host p event side =
    put_host p.sides (side_of event) (acting p event).side
    (act_host (at p.sides (side_of event)) (at p.sides (other (side_of event))).sent event) side

pub steps_host :
    (old : PairValue) (events : List PairEvent) (new : PairValue) → Steps old events new → (side : Side)
    → (at new.sides side).host ≡ (at old.sides side).host
steps_host old [] new is side = ap (λ (p : PairValue). (at p.sides side).host) is
steps_host old (event ∷ events) new steps side = steps_host (happens old event).pair events new steps.1 side ∙ event_host old event side
