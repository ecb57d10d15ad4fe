use Rattle.std.proofs.Common.{rules, ◌≡◌, ◌+◌, ◌++◌, ◌∷◌, [], sym, ap, ◌∙◌, subst, drop, List, Option, None, false}
use Rattle.std.proofs.lemmas.List.{drop_more}
use Rattle.lan.specs.Worlds.Set.{slots}
use Rattle.lan.proofs.SocketLemmas.{own_next, other_next}
use Rattle.lan.proofs.own_sockets.add_own.Goals as goal
use Rattle.lan.proofs.own_sockets.add_own.Goals.{then-is_same+in_ok-add_socket, else-is_same}

pub loop-spec-preserved : goal.loop-spec-preserved
loop-spec-preserved c =
    let at = drop_more c.args.specs.now c.loop-spec.spec-index _ c.loop-spec-test.true in
    elim c.if-is_same.branch [
      | then-is_same+in_ok-add_socket w ↦
          let next = own_next c.args.side (slots c.loop-spec.sockets) c.args.specs.now c.loop-spec.spec-index _ _ at
          (sym c.is_same.ensures ∙ w.if-is_same.true) w.in_ok-add_socket.ensures.small in
          rw w.sockets-is (
          record {
            made = rw w.in_ok-add_socket.ensures.made (next.0 ∙ c.loop-spec.invariant.made);
            small = next.1 ∙ c.loop-spec.invariant.small;
            used = w.in_ok-add_socket.ensures.used;
            grows = w.in_ok-add_socket.ensures.grows;
          }
          )
      | else-is_same w ↦
          let next = other_next c.args.side (slots c.loop-spec.sockets) c.args.specs.now c.loop-spec.spec-index _ _ at
          (sym c.is_same.ensures ∙ w.if-is_same.false) in
          rw w.sockets-is (
          record {
            made = next.0 ∙ c.loop-spec.invariant.made;
            small = next.1 ∙ c.loop-spec.invariant.small;
            used = c.loop-spec.invariant.used;
            grows = c.loop-spec.invariant.grows;
          }
          )
    ]
