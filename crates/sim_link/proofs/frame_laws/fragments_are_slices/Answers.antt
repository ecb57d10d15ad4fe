use Rattle.sim_link.proofs.Slicing.{first-slice, second-slice, ipv4_part-slice, IsSliceOf-front, IsSliceOf-back}
use Rattle.sim_link.proofs.frame_laws.fragments_are_slices.Goals as goal

pub returns-clause-part : goal.returns-clause-part
returns-clause-part c = ipv4_part-slice

pub returns-clause-first : goal.returns-clause-first
returns-clause-first c medium link padding payload header s cut is_link value short slice whole within =
    (IsSliceOf-front payload s cut slice within, first-slice header payload padding s value short slice whole medium link is_link cut within)

pub returns-clause-second : goal.returns-clause-second
returns-clause-second c medium link padding payload header s cut is_link value short slice whole within =
    (IsSliceOf-back payload s cut slice within, second-slice header payload padding s value short slice whole medium link is_link cut within)
