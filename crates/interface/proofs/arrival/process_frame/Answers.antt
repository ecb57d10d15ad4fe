use Rattle.std.proofs.Common.{List, refl, subst}
use Rattle.iface_tables.specs.Inner.{InnerValue}
use Rattle.iface_egress.specs.declared.socket_set.SocketStorage.{SocketStorage}
use Rattle.iface_ingress.specs.Arrives.{arrived, reply_of, whole_arrived}
use Rattle.iface_ingress.specs.Socket.{Socket}
use Rattle.interface.specs.Ingress.{Reads}
use Rattle.interface.specs.State.{state, host, KeepsSettings}
use Rattle.interface.proofs.Settings.{keeps_in, keeps_then}
use Rattle.interface.proofs.arrival.process_frame.Goals as goal

-- the frame went the short way
pub returns-then-process_frame_fast-clause-reads : goal.returns-then-process_frame_fast-clause-reads
returns-then-process_frame_fast-clause-reads g c =
    let a = arrived c.process_frame_fast.new.inner c.process_frame_fast.new.slots (reply_of c.process_frame_fast.new.reply) in
    let came = c.if-process_frame_fast.ensures.taken refl c.args.timeout c.args.assemblers.now in
    (came.0, came.1, (a, came.2, refl, c.answer_if_any.ensures.replied, refl), refl)

pub returns-then-process_frame_fast-clause-settings : goal.returns-then-process_frame_fast-clause-settings
returns-then-process_frame_fast-clause-settings g c =
    let i = c.args.inner.now in
    let a = arrived c.process_frame_fast.new.inner c.process_frame_fast.new.slots (reply_of c.process_frame_fast.new.reply) in
    let came = c.if-process_frame_fast.ensures.taken refl c.args.timeout c.args.assemblers.now in
    let whole = whole_arrived i c.args.timeout c.args.assemblers.now came.0 in
    keeps_then i c.process_frame_fast.new.inner c.answer_if_any.new.inner
    (keeps_in i c.process_frame_fast.new.inner (c.same_settings.ensures i c.args.slots.now whole a came.2.1)) c.answer_if_any.ensures.settings

-- it didn't, and changed nothing
pub returns-else-process_frame_fast-clause-reads : goal.returns-else-process_frame_fast-clause-reads
returns-else-process_frame_fast-clause-reads g c =
    let same = c.if-process_frame_fast.ensures.other refl in
    let s' = state c.process_any_frame.new.device (host c.process_any_frame.new.inner c.process_any_frame.new.fragmenter c.process_any_frame.new.assemblers c.args.timeout) c.process_any_frame.new.slots in
    subst (λ (i : InnerValue). Reads g.D.Device.moves c.args.frame.now
    (state c.args.device.now (host i c.args.fragmenter.now c.args.assemblers.now c.args.timeout) c.args.slots.now) s') same.0
    (subst (λ (ps : List (SocketStorage Socket)). Reads g.D.Device.moves c.args.frame.now
    (state c.args.device.now (host c.process_frame_fast.new.inner c.args.fragmenter.now c.args.assemblers.now c.args.timeout) ps) s') same.1
    c.process_any_frame.ensures.reads)

pub returns-else-process_frame_fast-clause-settings : goal.returns-else-process_frame_fast-clause-settings
returns-else-process_frame_fast-clause-settings g c =
    let same = c.if-process_frame_fast.ensures.other refl in
    subst (λ (i : InnerValue). KeepsSettings i c.process_any_frame.new.inner) same.0 c.process_any_frame.ensures.settings
