use Rattle.proof_stack.proofs.Runs.BadWorlds as by
use Rattle.proof_stack.proofs.worlds.bad_worlds.bad_hosts_are_excluded.Goals as goal

pub returns : goal.returns
returns c = record {
  sent_unbidden = λ starts hosts frame more is h. by.host_unbidden starts hosts h frame more is;
  sent_without_a_poll = λ starts hosts e room frame more is zero sent h. by.host_without_poll starts hosts e room frame more is zero sent h;
  not_handed_over = λ starts hosts frame more is h. by.host_not_handed starts hosts h frame more is;
  other_host = λ starts hosts differs h. by.host_other starts hosts h differs;
}
