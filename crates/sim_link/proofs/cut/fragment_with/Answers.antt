use Rattle.std.proofs.Common.{◌≡◌, List, ℕ, [], ◌++◌, ◌∙◌, ap, append_assoc}
use Rattle.sim_link.proofs.cut.fragment_with.Goals as goal

joined : (link header bytes first second third written : List ℕ) → first ≡ [] ++ link → second ≡ first ++ header → third ≡ second ++ bytes → header ≡ written
    → third ≡ link ++ (written ++ bytes)
joined link header bytes first second third written one two three is =
    three ∙ ap (λ (l : List ℕ). l ++ bytes) (two ∙ ap (λ (l : List ℕ). l ++ header) one)
    ∙ append_assoc link header bytes
    ∙ ap (λ (l : List ℕ). link ++ (l ++ bytes)) is

pub returns : goal.returns
returns c =
    let one : c.extend_from_slice.new.self.items ≡ [] ++ c.args.link.now =
    c.in_ok-extend_from_slice.ensures.items ∙ ap (λ (l : List ℕ). l ++ c.args.link.now) c.new-frame.ensures.items in
    joined c.args.link.now c.header-header.result c.args.bytes.now c.extend_from_slice.new.self.items c.extend_from_slice-2.new.self.items
    c.extend_from_slice-3.new.self.items _
    one c.in_ok-extend_from_slice-2.ensures.items c.in_ok-extend_from_slice-3.ensures.items c.header-header.ensures
