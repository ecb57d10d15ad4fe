-- A socket without a peer: what it does leaves it so.
use Rattle.std.proofs.Common.{◌≡◌, ℕ, List, [], ◌∷◌, refl}
use Rattle.ip_wire.specs.IpRepr.{IpRepr}
use Rattle.ip_wire.specs.TcpHeader.{TcpHeader}
use Rattle.net_base.specs.Ring.{ring}
use Rattle.socket_context.specs.Context.{ContextValue}
use Rattle.tcp_theory.specs.Segment.Control.{Rst}
use Rattle.tcp_block.specs.Arrival.{arrives}
use Rattle.tcp_block.specs.Value.{TcpValue, new_socket}
use Rattle.tcp_refinement.specs.History.{with_answer}
use Rattle.tcp_refinement.specs.Promises.{IsInitial, KeepsAlone}
use Rattle.tcp_refinement.specs.Tie.{Past, no_past, Keeps, segment_of}
use Rattle.tcp_refinement.proofs.ArrivalLaws.{keeps_arrival}
use Rattle.tcp_refinement.proofs.PromiseLemmas.{peer_side_comes, peer_side_goes}

-- any socket that isn't opened
abbrev unopened : TcpValue
unopened = new_socket 0 (ring [] [] 0)

is_unopened : IsInitial unopened
is_unopened = record { state = refl; waiting = refl; queue = refl; unfinished = refl }

pub stays_alone : (v new : TcpValue) (p after : Past) → KeepsAlone v p → ((w : TcpValue) (q : Past) → Keeps v p w q → Keeps new after w q) →
    KeepsAlone new after
stays_alone v new p after k step =
    peer_side_goes new unopened after (no_past []) (step unopened (no_past []) (peer_side_comes v unopened p [] k is_unopened tt)) refl refl

pub reset_arrives :
    (cx : ContextValue) (v : TcpValue) (p : Past) (ip : IpRepr) (header : TcpHeader) (bytes : List ℕ) → KeepsAlone v p → (segment_of header bytes).control ≡ Rst
    → KeepsAlone (arrives cx v ip header bytes).socket (with_answer p (arrives cx v ip header bytes).answer)
reset_arrives cx v p ip header bytes k reset =
    let sent = segment_of header bytes ∷ [] in
    peer_side_goes (arrives cx v ip header bytes).socket unopened (with_answer p (arrives cx v ip header bytes).answer) (no_past sent)
    (keeps_arrival cx v unopened p (no_past sent) ip header bytes 0 (peer_side_comes v unopened p sent k is_unopened (reset, tt)) refl) refl refl
