-- What is printed of the instant at which a socket wants to be polled.
use Rattle.std.specs.Prelude.{ℕ, List, codes, ◌++◌}
use Rattle.net_base.specs.TimeText.{signed_seconds_text}
use Rattle.socket_context.specs.declared.poll_at.PollAt.{PollAt}
use Rattle.socket_context.specs.declared.poll_at.PollAt.TheVariants.{Now, Time, Ingress}

-- what is printed of it
abbrev pub poll_at_text : PollAt → List ℕ
poll_at_text Now = codes "now"
poll_at_text (Time at) = codes "at " ++ signed_seconds_text at
poll_at_text Ingress = codes "when a packet came"
