use Rattle.lan.specs.Worlds.Link.Made.{IsIn}
use Rattle.lan.proofs.Worlds.Link.HostFrames.{host_frame_brings, noise_brings, cut_is_host}
use Rattle.lan.proofs.Worlds.Link.DamagedFrames.{damaged_brings}
use Rattle.lan.proofs.link_laws.frames_bring_what_was_made.Goals as goal

pub returns-clause-sent : goal.returns-clause-sent
returns-clause-sent c = λ made hardware out frame padding all is. host_frame_brings (IsIn made) hardware out frame padding all is

pub returns-clause-cut : goal.returns-clause-cut
returns-clause-cut c = cut_is_host

pub returns-clause-damaged : goal.returns-clause-damaged
returns-clause-damaged c =
    λ made hardware out frame padding part slot word all is there damage. damaged_brings (IsIn made) hardware out all frame part slot word padding is
    there damage

pub returns-clause-noise : goal.returns-clause-noise
returns-clause-noise c = λ made hardware out bytes none. noise_brings (IsIn made) hardware out bytes none
