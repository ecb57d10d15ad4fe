use Rattle.std.proofs.Common.{◌≡◌, ◌-◌, ◌∙◌, suc, sym, arith}
use Rattle.iface_reports.specs.declared.mld_in.OptionAhead.TheVariants as Ahead
use Rattle.iface_reports.proofs.Alerts.{front_counts, none_left}
use Rattle.iface_reports.proofs.mld_in.+alerts_among.Goals as goal

pub returns-then-most-eq0 : goal.returns-then-most-eq0
returns-then-most-eq0 t c = sym (none_left c.args.most c.args.options.now (omega arith))

pub returns-in-End : goal.returns-in-End
returns-in-End t c =
    let more : c.args.most ≡ suc (c.args.most - 1) = omega arith in
    sym (front_counts c.args.most (c.args.most - 1) c.args.options.now Ahead.End more c.in-End.ensures.value)

pub returns-in-Alert : goal.returns-in-Alert
returns-in-Alert t c =
    let more : c.args.most ≡ suc (c.args.most - 1) = omega arith in
    sym (front_counts c.args.most (c.args.most - 1) c.args.options.now Ahead.Alert more c.in-Alert.ensures.value)

pub returns-in-Other : goal.returns-in-Other
returns-in-Other t c =
    let more : c.args.most ≡ suc (c.args.most - 1) = omega arith in
    let step = front_counts c.args.most (c.args.most - 1) c.args.options.now (Ahead.Other c.in-Other.len) more c.in-Other.ensures.value in
    c.alerts_among.ensures ∙ rw c.split_at.ensures.back (sym step)
