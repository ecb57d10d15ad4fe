use Rattle.tcp_state.proofs.CubicLaws.{grows, half, bounded, friendly, under_the_cube, concave, seven_tenths, converges, falls, two_segments, is_root}
use Rattle.tcp_state.proofs.cubic.cubic_laws.Goals as goal

pub returns-clause-grows : goal.returns-clause-grows
returns-clause-grows c = grows

pub returns-clause-half : goal.returns-clause-half
returns-clause-half c = half

pub returns-clause-bounded : goal.returns-clause-bounded
returns-clause-bounded c = bounded

pub returns-clause-friendly : goal.returns-clause-friendly
returns-clause-friendly c = friendly

pub returns-clause-cube : goal.returns-clause-cube
returns-clause-cube c = under_the_cube

pub returns-clause-concave : goal.returns-clause-concave
returns-clause-concave c = concave

pub returns-clause-seven_tenths : goal.returns-clause-seven_tenths
returns-clause-seven_tenths c = seven_tenths

pub returns-clause-converges : goal.returns-clause-converges
returns-clause-converges c = converges

pub returns-clause-falls : goal.returns-clause-falls
returns-clause-falls c = falls

pub returns-clause-two_segments : goal.returns-clause-two_segments
returns-clause-two_segments c = two_segments

pub returns-clause-root : goal.returns-clause-root
returns-clause-root c = is_root
