use Rattle.std.proofs.Common.{◌≡◌, ◌∙◌, ap}
use Rattle.tcp_refinement.specs.Pair.Values.{PairValue}
use Rattle.tcp_refinement.specs.declared.pair.event.Side.TheVariants.{B}
use Rattle.tcp_refinement.proofs.PairLaws.{kept_is_safe}
use Rattle.tcp_liveness.specs.BothWays.{both_read}
use Rattle.tcp_liveness.specs.Settle.{read_in}
use Rattle.tcp_pair.specs.States.{hosted}
use Rattle.tcp_pair.proofs.Led.{led, onward, writes_nothing}
use Rattle.tcp_pair.proofs.Settles.{bound_of, ends_of, read_of, rounds_of, soon_of, through_of}
use Rattle.tcp_pair.proofs.pair.Pair.settle.Goals as goal
use Rattle.tcp_pair.proofs.pair.Pair.settle.Goals.{In_ok-read-2}

pub returns-in_err-count-clause-written : goal.returns-in_err-count-clause-written
returns-in_err-count-clause-written c = writes_nothing (hosted c.args.self.now) (hosted c.rounds.new.self) c.rounds.ensures.leads

pub returns-in_err-count-clause-reached : goal.returns-in_err-count-clause-reached
returns-in_err-count-clause-reached c = led (hosted c.args.self.now) (hosted c.rounds.new.self) c.rounds.ensures.leads

pub returns-in_err-count-clause-safe : goal.returns-in_err-count-clause-safe
returns-in_err-count-clause-safe c = kept_is_safe (hosted c.rounds.new.self) c.in_err-count.ensures.kept

pub returns-in_err-read-clause-leads : goal.returns-in_err-read-clause-leads
returns-in_err-read-clause-leads c = onward (hosted c.args.self.now) (hosted c.rounds.new.self) (hosted c.read.new.self) c.rounds.ensures.leads c.read.ensures.leads

pub returns-in_err-read-clause-written : goal.returns-in_err-read-clause-written
returns-in_err-read-clause-written c = writes_nothing (hosted c.args.self.now) (hosted c.read.new.self)
    (onward (hosted c.args.self.now) (hosted c.rounds.new.self) (hosted c.read.new.self) c.rounds.ensures.leads c.read.ensures.leads)

pub returns-in_err-read-clause-reached : goal.returns-in_err-read-clause-reached
returns-in_err-read-clause-reached c = led (hosted c.args.self.now) (hosted c.read.new.self)
    (onward (hosted c.args.self.now) (hosted c.rounds.new.self) (hosted c.read.new.self) c.rounds.ensures.leads c.read.ensures.leads)

pub returns-in_err-read-clause-safe : goal.returns-in_err-read-clause-safe
returns-in_err-read-clause-safe c = kept_is_safe (hosted c.read.new.self) c.read.ensures.kept

pub returns-in_err-read-2-clause-leads : goal.returns-in_err-read-2-clause-leads
returns-in_err-read-2-clause-leads c =
    onward (hosted c.args.self.now) (hosted c.read.new.self) (hosted c.read-2.new.self)
    (onward (hosted c.args.self.now) (hosted c.rounds.new.self) (hosted c.read.new.self) c.rounds.ensures.leads c.read.ensures.leads) c.read-2.ensures.leads

pub returns-in_err-read-2-clause-written : goal.returns-in_err-read-2-clause-written
returns-in_err-read-2-clause-written c =
    writes_nothing (hosted c.args.self.now) (hosted c.read-2.new.self)
    (onward (hosted c.args.self.now) (hosted c.read.new.self) (hosted c.read-2.new.self)
    (onward (hosted c.args.self.now) (hosted c.rounds.new.self) (hosted c.read.new.self) c.rounds.ensures.leads c.read.ensures.leads) c.read-2.ensures.leads)

pub returns-in_err-read-2-clause-reached : goal.returns-in_err-read-2-clause-reached
returns-in_err-read-2-clause-reached c =
    led (hosted c.args.self.now) (hosted c.read-2.new.self)
    (onward (hosted c.args.self.now) (hosted c.read.new.self) (hosted c.read-2.new.self)
    (onward (hosted c.args.self.now) (hosted c.rounds.new.self) (hosted c.read.new.self) c.rounds.ensures.leads c.read.ensures.leads) c.read-2.ensures.leads)

pub returns-in_err-read-2-clause-safe : goal.returns-in_err-read-2-clause-safe
returns-in_err-read-2-clause-safe c = kept_is_safe (hosted c.read-2.new.self) c.read-2.ensures.kept

pub returns-clause-leads : goal.returns-clause-leads
returns-clause-leads c =
    onward (hosted c.args.self.now) (hosted c.read.new.self) (hosted c.read-2.new.self)
    (onward (hosted c.args.self.now) (hosted c.rounds.new.self) (hosted c.read.new.self) c.rounds.ensures.leads c.read.ensures.leads) c.read-2.ensures.leads

pub returns-clause-written : goal.returns-clause-written
returns-clause-written c =
    writes_nothing (hosted c.args.self.now) (hosted c.read-2.new.self)
    (onward (hosted c.args.self.now) (hosted c.read.new.self) (hosted c.read-2.new.self)
    (onward (hosted c.args.self.now) (hosted c.rounds.new.self) (hosted c.read.new.self) c.rounds.ensures.leads c.read.ensures.leads) c.read-2.ensures.leads)

pub returns-clause-reached : goal.returns-clause-reached
returns-clause-reached c =
    led (hosted c.args.self.now) (hosted c.read-2.new.self)
    (onward (hosted c.args.self.now) (hosted c.read.new.self) (hosted c.read-2.new.self)
    (onward (hosted c.args.self.now) (hosted c.rounds.new.self) (hosted c.read.new.self) c.rounds.ensures.leads c.read.ensures.leads) c.read-2.ensures.leads)

pub returns-clause-safe : goal.returns-clause-safe
returns-clause-safe c = kept_is_safe (hosted c.read-2.new.self) c.read-2.ensures.kept

-- both have read
all_read : (c : In_ok-read-2) → hosted c.read-2.new.self ≡ both_read (hosted c.rounds.new.self)
all_read c = c.in_ok-read-2.ensures.read ∙ ap (λ (x : PairValue). read_in x B) c.in_ok-read.ensures.read

pub returns-clause-rounds : goal.returns-clause-rounds
returns-clause-rounds c =
    rounds_of (hosted c.args.self.now) (hosted c.rounds.new.self) (hosted c.read-2.new.self) c.in_ok-count.count c.in_ok-count.ensures.rounds (all_read c)
    c.in_ok-count.ensures.waited c.in_ok-count.ensures.stops

pub returns-clause-bound : goal.returns-clause-bound
returns-clause-bound c =
    bound_of (hosted c.args.self.now) (hosted c.rounds.new.self) (hosted c.read-2.new.self) c.in_ok-count.count c.in_ok-count.ensures.rounds (all_read c)
    c.in_ok-count.ensures.waited c.in_ok-count.ensures.stops

pub returns-clause-soon : goal.returns-clause-soon
returns-clause-soon c =
    soon_of (hosted c.args.self.now) (hosted c.rounds.new.self) (hosted c.read-2.new.self) c.in_ok-count.count c.in_ok-count.ensures.rounds (all_read c)
    c.in_ok-count.ensures.waited c.in_ok-count.ensures.stops

pub returns-clause-through : goal.returns-clause-through
returns-clause-through c =
    through_of (hosted c.args.self.now) (hosted c.rounds.new.self) (hosted c.read-2.new.self) c.in_ok-count.count c.in_ok-count.ensures.rounds (all_read c)
    c.in_ok-count.ensures.waited c.in_ok-count.ensures.stops

pub returns-clause-read : goal.returns-clause-read
returns-clause-read c =
    read_of (hosted c.args.self.now) (hosted c.rounds.new.self) (hosted c.read-2.new.self) c.in_ok-count.count c.in_ok-count.ensures.rounds (all_read c)
    c.in_ok-count.ensures.waited c.in_ok-count.ensures.stops

pub returns-clause-ends : goal.returns-clause-ends
returns-clause-ends c =
    ends_of (hosted c.args.self.now) (hosted c.rounds.new.self) (hosted c.read-2.new.self) c.in_ok-count.count c.in_ok-count.ensures.rounds (all_read c)
    c.in_ok-count.ensures.waited c.in_ok-count.ensures.stops
