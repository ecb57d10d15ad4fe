use Rattle.proof_stack.proofs.Polls.SegmentSizes.{fits_path}
use Rattle.proof_stack.proofs.progress.segments.offered_segments_fit_their_path.Goals as goal

pub returns : goal.returns
returns c = fits_path
