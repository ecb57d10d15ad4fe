use Rattle.std.proofs.Common.{length, sym, ap, ◌∙◌}
use Rattle.base_index.proofs.Marked.{length_marks}
use Rattle.base_index.proofs.list.Agenda.len.Goals as goal

pub returns : goal.returns
returns c = sym (length_marks c.self.inside.words.items c.self.inside.len) ∙ ap length c.self.view_is
