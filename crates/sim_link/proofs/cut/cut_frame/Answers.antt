use Rattle.std.proofs.Common.{◌-◌, List, ℕ, length, take, length-drop, refl, ◌∙◌, ap, sym, arith}
use Rattle.sim_link.proofs.Cutting.{whole_packet, first_is, second_is, payload_short}
use Rattle.sim_link.proofs.cut.cut_frame.Goals as goal

pub fragment_with-requires-2-clause-fits : goal.fragment_with-requires-2-clause-fits
fragment_with-requires-2-clause-fits c =
    let is = c.new_unchecked-view.ensures ∙ c.packet_in-packet.ensures in
    let whole = whole_packet c.args.medium c.args.frame.now c.new_unchecked-view.result.buffer.now c.requires.ipv4 is in
    let short = payload_short c.args.medium c.args.frame.now c.new_unchecked-view.result.buffer.now c.payload.result.now c.type_inv.frame is c.payload.ensures
    whole.header in
    omega (arith, short, ap length c.split_at.ensures.back, length-drop c.args.at c.payload.result.now)

pub returns-clause-first : goal.returns-clause-first
returns-clause-first c =
    let is = c.new_unchecked-view.ensures ∙ c.packet_in-packet.ensures in
    let whole = whole_packet c.args.medium c.args.frame.now c.new_unchecked-view.result.buffer.now c.requires.ipv4 is in
    first_is c.args.medium c.args.frame.now c.new_unchecked-view.result.buffer.now _ c.payload.result.now c.split_at.result.0.now c.in_ok-first.first.items
    c.fragment-fragment.result c.args.at
    is whole.room (ap (λ (p : List ℕ). take (length c.args.frame.now - length p) c.args.frame.now) (sym c.new_unchecked-view.ensures))
    c.payload.ensures c.split_at.ensures.front c.fragment-fragment.ensures c.in_ok-first.ensures

pub returns-clause-second : goal.returns-clause-second
returns-clause-second c =
    let is = c.new_unchecked-view.ensures ∙ c.packet_in-packet.ensures in
    let whole = whole_packet c.args.medium c.args.frame.now c.new_unchecked-view.result.buffer.now c.requires.ipv4 is in
    second_is c.args.medium c.args.frame.now c.new_unchecked-view.result.buffer.now _ c.payload.result.now c.split_at.result.1.now c.in_ok-second.second.items
    c.fragment-fragment.result c.args.at _
    is whole.room (ap (λ (p : List ℕ). take (length c.args.frame.now - length p) c.args.frame.now) (sym c.new_unchecked-view.ensures))
    c.payload.ensures c.split_at.ensures.back c.fragment-fragment.ensures refl c.in_ok-second.ensures
