use Rattle.std.proofs.Common.{◌≡◌, ◌+◌, length, true, false, refl, sym, ◌∙◌, arith}
use Rattle.tcp_socket.proofs.Buffers.{room_at, refused_early, does_hold, err_not_ok}
use Rattle.tcp_socket.proofs.receive_buffer.ReceiveBuffer.hold.Goals as goal

pub add-requires : goal.add-requires
add-requires c = (
  omega arith,
  room_at c.self.inside.ring c.self.inside.held c.args.self.now (c.args.past + length c.args.bytes.now) c.self.view_is c.self.invariant c.requires.fits,
)

pub returns-in_err-add-clause-held : goal.returns-in_err-add-clause-held
returns-in_err-add-clause-held c =
    err_not_ok c.from_residual.result c.from_residual.ensures.0 ∙
    sym (refused_early c.self.inside.ring c.self.inside.held c.args.self.now c.args.past c.args.bytes.now c.self.view_is c.self.invariant c.requires.past
    c.requires.fits c.add.ensures.union (c.in_err-add.ensures.refused.0 refl))

pub returns-in_err-add-clause-early : goal.returns-in_err-add-clause-early
returns-in_err-add-clause-early c =
    rw (
      c.in_err-add.ensures.err,
      refused_early c.self.inside.ring c.self.inside.held c.args.self.now c.args.past c.args.bytes.now c.self.view_is c.self.invariant c.requires.past
          c.requires.fits c.add.ensures.union (c.in_err-add.ensures.refused.0 refl),
    ) c.self.view_is

pub invariant_of-self-2 : goal.invariant_of-self-2
invariant_of-self-2 c =
    (does_hold c.self.inside.ring c.self.inside.held c.args.self.now c.args.past c.args.bytes.now c.write_unallocated.result c.write_unallocated.new.self
    c.add.new.self c.self.view_is c.self.invariant c.requires.past c.requires.fits c.add.ensures.union (λ h. let clash : false ≡ true =
    c.in_ok-add.ensures.refused.1 h in absurd (cc)) c.write_unallocated.ensures.count c.write_unallocated.ensures.written c.in_ok-add.ensures.ok).kept

pub returns-clause-held : goal.returns-clause-held
returns-clause-held c =
    (does_hold c.self.inside.ring c.self.inside.held c.args.self.now c.args.past c.args.bytes.now c.write_unallocated.result c.write_unallocated.new.self
    c.add.new.self c.self.view_is c.self.invariant c.requires.past c.requires.fits c.add.ensures.union (λ h. let clash : false ≡ true =
    c.in_ok-add.ensures.refused.1 h in absurd (cc)) c.write_unallocated.ensures.count c.write_unallocated.ensures.written c.in_ok-add.ensures.ok).test

pub returns-clause-early : goal.returns-clause-early
returns-clause-early c =
    (does_hold c.self.inside.ring c.self.inside.held c.args.self.now c.args.past c.args.bytes.now c.write_unallocated.result c.write_unallocated.new.self
    c.add.new.self c.self.view_is c.self.invariant c.requires.past c.requires.fits c.add.ensures.union (λ h. let clash : false ≡ true =
    c.in_ok-add.ensures.refused.1 h in absurd (cc)) c.write_unallocated.ensures.count c.write_unallocated.ensures.written c.in_ok-add.ensures.ok).value
