use Rattle.std.proofs.Common.{refl}
use Rattle.tcp_invariants.proofs.MendRules.{first_noted, probe_stays, recovery_stays, timeout_stays}
use Rattle.tcp_invariants.proofs.losses.no_loss_is_undone_while_an_earlier_resend_is_on_its_way.Goals as goal

pub returns : goal.returns
returns c = record {
  recovery = recovery_stays;
  timeout = timeout_stays;
  probe = probe_stays;
  known = λ b header by queued. refl;
  noted = first_noted;
}
