use Rattle.std.proofs.Common.{ℕ, List, ap, ◌∙◌}
use Rattle.sim_link.specs.Cuts.{first_fragment, second_fragment}
use Rattle.net_base.specs.Medium.{Medium}
use Rattle.lan.specs.Worlds.AtLink.Linking.{frame_at}
use Rattle.lan.specs.Worlds.AtLink.Origins.{medium_of}
use Rattle.lan.proofs.Worlds.AtLink.Linked.{with_fragments}
use Rattle.lan.proofs.at_link.link.cut.Goals as goal

pub returns-clause-ok : goal.returns-clause-ok
returns-clause-ok c =
    let frame : List ℕ = frame_at c.args.host.now c.args.frame in
    let medium : Medium = medium_of c.args.host.now in
    with_fragments c.add_both.result c.args.host.now c.add_both.new.self c.in_ok-first.first.items (first_fragment medium frame c.args.at) c.in_ok-first.second.items
    (second_fragment medium frame c.args.at)
    (c.in_ok-first.ensures.first ∙ ap (λ (m : Medium). first_fragment m c.sent_frame.result.now c.args.at) c.medium.ensures ∙
    ap (λ (f : List ℕ). first_fragment medium f c.args.at) c.sent_frame.ensures)
    (c.in_ok-first.ensures.second ∙ ap (λ (m : Medium). second_fragment m c.sent_frame.result.now c.args.at) c.medium.ensures ∙
    ap (λ (f : List ℕ). second_fragment medium f c.args.at) c.sent_frame.ensures)
    c.add_both.ensures.ok
