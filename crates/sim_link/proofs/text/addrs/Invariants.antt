use Rattle.std.proofs.Common.{◌≡◌, take}
use Rattle.std.specs.String.{string_bytes}
use Rattle.sim_link.specs.Text.{line_text}
use Rattle.sim_link.specs.declared.line.Line.TheVariants.{Addrs}
use Rattle.sim_link.proofs.text.addrs.Given as goal

-- the line of the blocks so far
abbrev pub invariant-loop-cidr : goal.invariant-loop-cidr
invariant-loop-cidr l = string_bytes l.text ≡ line_text (Addrs l.fn.side (take l.cidr-index l.blocks))
