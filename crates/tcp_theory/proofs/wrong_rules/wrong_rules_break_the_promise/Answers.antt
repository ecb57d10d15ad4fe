use Rattle.std.proofs.Common.{refl, arith, rules}
use Rattle.tcp_theory.proofs.Came.{came}
use Rattle.tcp_theory.proofs.wrong_rules.wrong_rules_break_the_promise.Goals as goal

pub returns-clause-fin_taken_anywhere : goal.returns-clause-fin_taken_anywhere
returns-clause-fin_taken_anywhere c =
    (search (rules, came) fits 4000, search (rules, came), tt, λ safe. let missing = (safe.0.finished refl).1 in absurd (cc))

pub returns-clause-unread_bytes_dropped : goal.returns-clause-unread_bytes_dropped
returns-clause-unread_bytes_dropped c = search (rules, came) fits 4000

pub returns-clause-ack_for_unaccepted_segment : goal.returns-clause-ack_for_unaccepted_segment
returns-clause-ack_for_unaccepted_segment c =
    (search (rules, came) fits 4000, search (rules, came), search (rules, came), λ safe. let lost = safe.0.freed in absurd (omega arith))

pub returns-clause-reset_read_as_finished : goal.returns-clause-reset_read_as_finished
returns-clause-reset_read_as_finished c =
    (search (rules, came) fits 4000, search (rules, came), tt, λ safe. let still_open = (safe.0.finished refl).0 in absurd (cc))
