use Rattle.std.proofs.Common.{◌≡◌, ℕ, ◌+◌, List, ◌++◌, length, take, drop, sym, ap, ap₂, ◌∙◌}
use Rattle.tcp_block.specs.Value.{TcpValue}
use Rattle.tcp_socket.proofs.Offering.{two_parts}
use Rattle.tcp_socket.proofs.socket.Socket.queued_payload.Goals as goal

pub returns : goal.returns
returns c =
    let r = c.self.inside.queued in
    let one = c.get_allocated-first in
    let other = c.get_allocated-rest in
    let first = length one.result.now in
    let second = length other.result.now in
    let queue : r.queue ≡ c.args.self.now.queued.queue = ap (λ (v : TcpValue). v.queued.queue) c.self.view_is in
    let a : one.result.now ≡ take first (drop c.args.offset r.queue) =
    one.ensures.value ∙ ap (λ (n : ℕ). take n (drop c.args.offset r.queue)) (sym one.ensures.len) in
    let b : other.result.now ≡ take second (drop (c.args.offset + first) r.queue) =
    other.ensures.value ∙ ap (λ (n : ℕ). take n (drop (c.args.offset + first) r.queue)) (sym other.ensures.len) in
    ap₂ (λ (xs ys : List ℕ). xs ++ ys) a b
    ∙ two_parts r c.args.offset c.args.len first second one.ensures.len other.ensures.len
    ∙ ap (λ (q : List ℕ). take c.args.len (drop c.args.offset q)) queue
