use Rattle.std.proofs.Common.{length, arith}
use Rattle.tcp_socket.proofs.Buffers.{room}
use Rattle.tcp_socket.proofs.Copies.{unseen, stores_copied, count_small}
use Rattle.tcp_socket.proofs.receive_buffer.ReceiveBuffer.store_summed.Goals as goal

pub copy_summed-sum-requires-clause-fits : goal.copy_summed-sum-requires-clause-fits
copy_summed-sum-requires-clause-fits c =
    room c.self.inside.ring c.self.inside.held c.args.self.now (length c.args.bytes.now) c.self.view_is c.requires.fits

pub copy_summed-sum-requires-clause-small : goal.copy_summed-sum-requires-clause-small
copy_summed-sum-requires-clause-small c =
    let fits = room c.self.inside.ring c.self.inside.held c.args.self.now (length c.args.bytes.now) c.self.view_is c.requires.fits in
    omega (arith, fits, c.self.invariant.small)

pub invariant_of-self : goal.invariant_of-self
invariant_of-self c =
    (unseen c.self.inside.ring c.self.inside.held c.args.self.now c.args.bytes.now c.copy_summed-sum.new.ring c.self.view_is c.self.invariant c.requires.fits
    c.requires.nothing_held c.copy_summed-sum.ensures.copied).kept

pub returns-then-add-clause-refused : goal.returns-then-add-clause-refused
returns-then-add-clause-refused c =
    λ _. (unseen c.self.inside.ring c.self.inside.held c.args.self.now c.args.bytes.now c.copy_summed-sum.new.ring c.self.view_is c.self.invariant c.requires.fits
    c.requires.nothing_held c.copy_summed-sum.ensures.copied).value

pub enqueue_unallocated-requires : goal.enqueue_unallocated-requires
enqueue_unallocated-requires c =
    (stores_copied c.self.inside.ring c.self.inside.held c.args.self.now c.args.bytes.now c.copy_summed-sum.new.ring c.copy_summed-sum.new.ring
    c.add_then_remove_front.result c.add_then_remove_front.new.self c.unwrap_or-count.result c.self.view_is c.self.invariant c.requires.fits
    c.copy_summed-sum.ensures.copied c.add_then_remove_front.ensures.refused c.add_then_remove_front.ensures.ok c.unwrap_or-count.ensures).fits

pub invariant_of-self-2 : goal.invariant_of-self-2
invariant_of-self-2 c =
    (stores_copied c.self.inside.ring c.self.inside.held c.args.self.now c.args.bytes.now c.copy_summed-sum.new.ring c.enqueue_unallocated.new.self
    c.add_then_remove_front.result c.add_then_remove_front.new.self c.unwrap_or-count.result c.self.view_is c.self.invariant c.requires.fits
    c.copy_summed-sum.ensures.copied c.add_then_remove_front.ensures.refused c.add_then_remove_front.ensures.ok c.unwrap_or-count.ensures).kept c.enqueue_unallocated.ensures

pub returns-clause-count : goal.returns-clause-count
returns-clause-count c =
    (stores_copied c.self.inside.ring c.self.inside.held c.args.self.now c.args.bytes.now c.copy_summed-sum.new.ring c.enqueue_unallocated.new.self
    c.add_then_remove_front.result c.add_then_remove_front.new.self c.unwrap_or-count.result c.self.view_is c.self.invariant c.requires.fits
    c.copy_summed-sum.ensures.copied c.add_then_remove_front.ensures.refused c.add_then_remove_front.ensures.ok c.unwrap_or-count.ensures).size

pub returns-clause-stored : goal.returns-clause-stored
returns-clause-stored c =
    (stores_copied c.self.inside.ring c.self.inside.held c.args.self.now c.args.bytes.now c.copy_summed-sum.new.ring c.enqueue_unallocated.new.self
    c.add_then_remove_front.result c.add_then_remove_front.new.self c.unwrap_or-count.result c.self.view_is c.self.invariant c.requires.fits
    c.copy_summed-sum.ensures.copied c.add_then_remove_front.ensures.refused c.add_then_remove_front.ensures.ok c.unwrap_or-count.ensures).value c.enqueue_unallocated.ensures

pub returns-clause-small : goal.returns-clause-small
returns-clause-small c =
    count_small c.self.inside.ring c.self.inside.held c.args.self.now c.args.bytes.now c.copy_summed-sum.new.ring c.unwrap_or-count.result c.self.view_is
    c.self.invariant c.requires.fits c.copy_summed-sum.ensures.copied
    (stores_copied c.self.inside.ring c.self.inside.held c.args.self.now c.args.bytes.now c.copy_summed-sum.new.ring c.copy_summed-sum.new.ring
    c.add_then_remove_front.result c.add_then_remove_front.new.self c.unwrap_or-count.result c.self.view_is c.self.invariant c.requires.fits
    c.copy_summed-sum.ensures.copied c.add_then_remove_front.ensures.refused c.add_then_remove_front.ensures.ok c.unwrap_or-count.ensures).fits
