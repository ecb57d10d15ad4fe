use Rattle.iface_ingress.proofs.Settings.{brings_same}
use Rattle.iface_ingress.proofs.laws.same_settings.Goals as goal

pub returns : goal.returns
returns c = λ i slots content a h. brings_same i slots content a h
