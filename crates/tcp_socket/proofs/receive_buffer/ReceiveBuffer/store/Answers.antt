use Rattle.tcp_socket.proofs.Buffers.{does_store}
use Rattle.tcp_socket.proofs.receive_buffer.ReceiveBuffer.store.Goals as goal

pub enqueue_unallocated-requires : goal.enqueue_unallocated-requires
enqueue_unallocated-requires c =
    (does_store c.self.inside.ring c.self.inside.held c.args.self.now c.args.bytes.now c.write_unallocated.result c.write_unallocated.new.self
    c.write_unallocated.new.self c.add_then_remove_front.result c.add_then_remove_front.new.self c.unwrap_or-count.result c.self.view_is c.self.invariant
    c.requires c.write_unallocated.ensures.count c.write_unallocated.ensures.written c.add_then_remove_front.ensures.refused
    c.add_then_remove_front.ensures.ok c.unwrap_or-count.ensures).fits

pub invariant_of-self : goal.invariant_of-self
invariant_of-self c =
    (does_store c.self.inside.ring c.self.inside.held c.args.self.now c.args.bytes.now c.write_unallocated.result c.write_unallocated.new.self
    c.enqueue_unallocated.new.self c.add_then_remove_front.result c.add_then_remove_front.new.self c.unwrap_or-count.result c.self.view_is c.self.invariant
    c.requires c.write_unallocated.ensures.count c.write_unallocated.ensures.written c.add_then_remove_front.ensures.refused
    c.add_then_remove_front.ensures.ok c.unwrap_or-count.ensures).kept c.enqueue_unallocated.ensures

pub returns-clause-count : goal.returns-clause-count
returns-clause-count c =
    (does_store c.self.inside.ring c.self.inside.held c.args.self.now c.args.bytes.now c.write_unallocated.result c.write_unallocated.new.self
    c.enqueue_unallocated.new.self c.add_then_remove_front.result c.add_then_remove_front.new.self c.unwrap_or-count.result c.self.view_is c.self.invariant
    c.requires c.write_unallocated.ensures.count c.write_unallocated.ensures.written c.add_then_remove_front.ensures.refused
    c.add_then_remove_front.ensures.ok c.unwrap_or-count.ensures).size

pub returns-clause-stored : goal.returns-clause-stored
returns-clause-stored c =
    (does_store c.self.inside.ring c.self.inside.held c.args.self.now c.args.bytes.now c.write_unallocated.result c.write_unallocated.new.self
    c.enqueue_unallocated.new.self c.add_then_remove_front.result c.add_then_remove_front.new.self c.unwrap_or-count.result c.self.view_is c.self.invariant
    c.requires c.write_unallocated.ensures.count c.write_unallocated.ensures.written c.add_then_remove_front.ensures.refused
    c.add_then_remove_front.ensures.ok c.unwrap_or-count.ensures).value c.enqueue_unallocated.ensures
