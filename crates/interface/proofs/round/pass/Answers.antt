use Rattle.std.proofs.Common.{◌+◌, List, take, drop, sym, ◌∙◌, subst}
use Rattle.std.proofs.lemmas.Option.{get_or_from_slice_get}
use Rattle.iface_egress.specs.declared.socket_set.SocketStorage.{SocketStorage}
use Rattle.iface_ingress.specs.Socket.{Socket}
use Rattle.interface.specs.Host.{sender}
use Rattle.interface.specs.Pass.{Pass, passed}
use Rattle.interface.proofs.IdleSlots.{pass_end, pass_to}
use Rattle.interface.proofs.PassStep.{pass_next, pass_stop}
use Rattle.interface.proofs.round.pass.Goals as goal

pub returns-in-Stop-clause-pass : goal.returns-in-Stop-clause-pass
returns-in-Stop-clause-pass g c =
    let s = sender c.loop-at.device c.loop-at.inner c.loop-at.fragmenter in
    let mid = sender c.serve_slot-turned.new.device c.serve_slot-turned.new.inner c.serve_slot-turned.new.fragmenter in
    let slot = c.slot_mut.result.now in
    let stopped =
    pass_stop g.D.Device.moves c.args.turn.now s mid c.loop-at.slots c.in-Some.at slot c.serve_slot-turned.new.slot c.loop-at.changed c.in-Stop.more
    c.in-Some.ensures.next.1 (sym (get_or_from_slice_get c.loop-at.slots c.in-Some.at slot slot c.slot_mut.ensures.value)) c.either.result c.either.ensures
    c.in-Stop.ensures.turn in
    c.loop-at.invariant.pass _
    (pass_to c.idle_is_at_rest.ensures.offers g.D.Device.moves c.args.turn.now s c.loop-at.from c.in-Some.at c.loop-at.slots c.loop-at.changed _
    c.in-Some.ensures.next.0 c.in-Some.ensures.next.2
    (subst (λ (ps : List (SocketStorage Socket)). Pass g.D.Device.moves c.args.turn.now s (take c.in-Some.at c.loop-at.slots) c.loop-at.changed
    (drop c.in-Some.at c.loop-at.slots) (passed mid ps c.either.result)) (sym c.let_rest.ensures) stopped))

pub loop-at-preserved : goal.loop-at-preserved
loop-at-preserved g c =
    let s = sender c.loop-at.device c.loop-at.inner c.loop-at.fragmenter in
    let mid = sender c.serve_slot-turned.new.device c.serve_slot-turned.new.inner c.serve_slot-turned.new.fragmenter in
    let slot = c.slot_mut.result.now in
    record {
      pass = λ e rest. c.loop-at.invariant.pass e
          (pass_to c.idle_is_at_rest.ensures.offers g.D.Device.moves c.args.turn.now s c.loop-at.from c.in-Some.at c.loop-at.slots c.loop-at.changed e
          c.in-Some.ensures.next.0 c.in-Some.ensures.next.2
          (pass_next g.D.Device.moves c.args.turn.now s mid c.loop-at.slots c.in-Some.at slot c.serve_slot-turned.new.slot c.loop-at.changed c.in-Next.more
          c.in-Some.ensures.next.1 (sym (get_or_from_slice_get c.loop-at.slots c.in-Some.at slot slot c.slot_mut.ensures.value)) c.either-changed.result
          c.either-changed.ensures e c.in-Next.ensures.turn
          (subst (λ (ps : List (SocketStorage Socket)). Pass g.D.Device.moves c.args.turn.now mid (take (c.in-Some.at + 1) ps) c.either-changed.result
          (drop (c.in-Some.at + 1) ps) e) c.let_rest.ensures rest)));
      capabilities = c.in-Next.ensures.capabilities ∙ c.loop-at.invariant.capabilities;
    }

pub returns-clause-pass : goal.returns-clause-pass
returns-clause-pass g c =
    c.loop-at.invariant.pass _
    (pass_end c.idle_is_at_rest.ensures.offers g.D.Device.moves c.args.turn.now (sender c.loop-at.device c.loop-at.inner c.loop-at.fragmenter) c.loop-at.from
    c.loop-at.slots c.loop-at.changed c.in_default.ensures.next)
