-- What the link makes of a frame by a cut.
use Rattle.std.proofs.Common.{◌≡◌, ℕ, ◌+◌, ◌%◌, ◌≤◌, List, [], ◌++◌, Some, sym, ◌∙◌, ap, arith, append-nil}
use Rattle.sim_link.specs.Medium.{Medium}
use Rattle.sim_link.specs.Capabilities.{frame_header}
use Rattle.sim_link.specs.Cuts.{ipv4_part, first_fragment, second_fragment}
use Rattle.sim_link.specs.Slices.{frame_of_slice, front_of, back_of}
use Rattle.sim_link.proofs.Slicing.{first-slice, second-slice, ipv4_part-slice, IsSliceOf-front, IsSliceOf-back}
use Rattle.lan.specs.Worlds.Link.Frames.{Outgoing, IsSlice}

module _ (medium : Medium) (out : List Outgoing) (frame : List ℕ) (f : IsSlice medium out frame) where
  abbrev spelled : List ℕ
  spelled = frame_of_slice f.link f.header f.bytes f.slice ++ []

  spelled_is : frame ≡ spelled
  spelled_is = f.frame_is ∙ sym (append-nil (frame_of_slice f.link f.header f.bytes f.slice))

  -- its payload has the slice's length
  pub part_is : ipv4_part medium frame ≡ Some (record { at = frame_header medium + 20; len = f.slice.count })
  part_is = ap (ipv4_part medium) spelled_is ∙ ipv4_part-slice medium f.link [] f.bytes f.header f.slice f.is_link f.sent.value f.sent.short f.within f.unit

  pub front_is : (at : ℕ) → at ≤ f.slice.count → IsSlice medium out (first_fragment medium frame at)
  front_is at within = record {
    link = f.link;
    header = f.header;
    bytes = f.bytes;
    slice = front_of f.slice at;
    sent = f.sent;
    is_link = f.is_link;
    within = IsSliceOf-front f.bytes f.slice at f.within within;
    unit = f.unit;
    frame_is = ap (λ (b : List ℕ). first_fragment medium b at) spelled_is ∙
        first-slice f.header f.bytes [] f.slice f.sent.value f.sent.short f.within f.unit medium f.link f.is_link at within;
  }

  pub back_is : (at : ℕ) → at ≤ f.slice.count → at % 8 ≡ 0 → IsSlice medium out (second_fragment medium frame at)
  back_is at within unit = record {
    link = f.link;
    header = f.header;
    bytes = f.bytes;
    slice = back_of f.slice at;
    sent = f.sent;
    is_link = f.is_link;
    within = IsSliceOf-back f.bytes f.slice at f.within within;
    unit = let u = f.unit in omega (arith, u, unit);
    frame_is = ap (λ (b : List ℕ). second_fragment medium b at) spelled_is ∙
        second-slice f.header f.bytes [] f.slice f.sent.value f.sent.short f.within f.unit medium f.link f.is_link at within;
  }
