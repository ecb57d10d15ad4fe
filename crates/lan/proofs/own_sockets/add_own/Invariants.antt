-- The sockets so far, with the host's own of those that are left, are all of its own, and none of those so far was too large.
use Rattle.std.proofs.Common.{◌≡◌, drop, false, None}
use Rattle.lan.specs.Worlds.Set.{slots, free_slot, is_fixed}
use Rattle.lan.specs.Hosts.{with_sockets, has_large}
use Rattle.lan.proofs.own_sockets.add_own.Given as goal

abbrev pub invariant-loop-spec : goal.invariant-loop-spec
invariant-loop-spec l = record {
  made : with_sockets l.side (slots l.sockets) (drop l.spec-index l.specs) ≡ with_sockets l.side (slots l.fn.sockets) l.specs;
  small : has_large l.side (drop l.spec-index l.specs) ≡ has_large l.side l.specs;
  used : free_slot (slots l.sockets) ≡ None;
  grows : is_fixed l.sockets ≡ false;
}
