use Rattle.iface_reports.proofs.mld_in.+alerts_among.Given as goal

abbrev pub decreases-alerts_among : goal.decreases-alerts_among
decreases-alerts_among l = l.most
