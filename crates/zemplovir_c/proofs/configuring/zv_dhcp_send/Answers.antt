use Rattle.std.proofs.Common.{◌≡◌, Some, sym, ap, ◌∙◌}
use Rattle.c_calls.specs.Configuring.{LeaseGoes}
use Rattle.c_calls.specs.Host.{StackValue}
use Rattle.zemplovir_c.specs.Configuring.{carried}
use Rattle.zemplovir_c.proofs.Carried.{carries}
use Rattle.zemplovir_c.proofs.configuring.zv_dhcp_send.Goals as goal

pub returns : goal.returns
returns c =
    let had : c.args.handle.now.inside ≡ Some c.deref_mut.result.now =
    c.in-Some.ensures.taken ∙ ap (λ (s : StackValue). Some s) (sym c.deref_mut.ensures.value)
    in
    carries LeaseGoes c.args.handle.now.inside c.put.new.self.inside c.deref_mut.result.now c.dhcp_send-answer.new.self c.sending.result
    c.dhcp_send-answer.result (carried c.args.bytes.now c.args.count.now c.args.remote.now c.args.local.now)
    (carried c.dhcp_send-answer.new.out c.sending.new.count c.sending.new.remote c.sending.new.local) had c.put.ensures c.dhcp_send-answer.ensures
    c.sending.ensures.number c.sending.ensures.count c.sending.ensures.remote c.sending.ensures.local
