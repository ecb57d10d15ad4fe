-- The hosts between the events of rounds on numerals, where A's user asked for keep-alives.
use Rattle.std.proofs.Common.{List, [], ◌∷◌, ℕ}
use Rattle.std.specs.Prelude.{pos}
use Rattle.interface.specs.Host.{maintained}
use Rattle.iface_tables.specs.Inner.{with_next_ident}
use Rattle.tcp_block.specs.Value.{TcpValue}
use Rattle.proof_stack.specs.Progress.Segments.{asked_by}
use Rattle.lan.specs.declared.at_link.history.event.Side.TheVariants.{A, B}
use Rattle.lan.specs.Worlds.AtLink.Node.{NodeValue, Nodes}
use Rattle.proof_stack.specs.Progress.KeepAliveNumerals.{a_late, acknowledging, keep_alive_frame, kept_asking, kept_through}
use Rattle.proof_stack.specs.Progress.KeepAliveNumerals.{kept_waiting, kept_written, polled_late}
use Rattle.proof_stack.specs.Progress.SettledNumerals.{a_later, a_third, ack_frame, b_later, first_host, last_frame, polled_later, push_frame, node_with}
use Rattle.proof_stack.specs.Progress.SettledNumerals.{syn_ack_frame, syn_frame}

abbrev pub both : NodeValue → NodeValue → Nodes
both a b = record { a = a; b = b }

-- A's socket as it is polled in vain after abc
abbrev pub kept_idle : TcpValue
kept_idle = asked_by a_third kept_written

-- A as abc has gone, as it was polled in vain, and ten milliseconds later again, as abc is acknowledged, and as a keep-alive has gone
abbrev pub kept_written_a : NodeValue
kept_written_a =
    node_with (record (maintained (pos 0) (first_host A)) { inner = a_third }) kept_written [] (syn_frame ∷ ack_frame ∷ push_frame ∷ [])

abbrev pub kept_idle_a : NodeValue
kept_idle_a = node_with (record (maintained (pos 0) (first_host A)) { inner = a_third }) kept_idle [] (syn_frame ∷ ack_frame ∷ push_frame ∷ [])

abbrev pub kept_waiting_a : List (List ℕ) → NodeValue
kept_waiting_a waiting = node_with (polled_later A a_later) kept_waiting waiting (syn_frame ∷ ack_frame ∷ push_frame ∷ [])

abbrev pub kept_through_a : NodeValue
kept_through_a = node_with (polled_later A a_later) kept_through [] (syn_frame ∷ ack_frame ∷ push_frame ∷ [])

abbrev pub kept_asking_a : List (List ℕ) → NodeValue
kept_asking_a waiting =
    node_with (polled_late A (with_next_ident a_late)) kept_asking waiting (syn_frame ∷ ack_frame ∷ push_frame ∷ keep_alive_frame ∷ [])

-- B as it was polled in vain, and after the poll that reads the keep-alive
abbrev pub acknowledging_b : List (List ℕ) → NodeValue
acknowledging_b waiting = node_with (polled_later B (with_next_ident b_later)) acknowledging waiting (syn_ack_frame ∷ last_frame ∷ [])
