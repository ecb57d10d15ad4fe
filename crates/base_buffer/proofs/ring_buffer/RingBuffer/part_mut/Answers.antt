use Rattle.std.proofs.Common.{◌≡◌, ◌+◌, ◌%◌, length, refl, ◌∙◌, arith}
use Rattle.base_buffer.proofs.Rings.{sees, placed, lent_from, part_of, ends_within}
use Rattle.base_buffer.proofs.ring_buffer.RingBuffer.part_mut.Goals as goal

pub position-at-requires : goal.position-at-requires
position-at-requires g c =
    let s = c.self.inside in
    let v = sees s.storage.items s.read_at s.length _ c.self.invariant c.self.view_is in
    let n : c.len.result ≡ length s.storage.items = omega (arith, s.storage.ok.0) in
    rw n (c.self.invariant.start_within, omega (arith, v.room, c.requires.within), c.self.invariant.start_below)

pub slice_mut-requires-clause-in_bounds : goal.slice_mut-requires-clause-in_bounds
slice_mut-requires-clause-in_bounds g c =
    let s = c.self.inside in
    let v = sees s.storage.items s.read_at s.length _ c.self.invariant c.self.view_is in
    let n : c.len.result ≡ length s.storage.items = omega (arith, s.storage.ok.0) in
    let is : c.position-at.result ≡ (s.read_at + c.args.offset) % length s.storage.items = rw n at c.position-at.ensures.position in
    omega (
      arith,
      s.storage.ok.0,
      ends_within s.storage.items s.read_at s.length _ c.position-at.result c.args.offset c.args.size v is (omega (arith, c.position-at.ensures.within))
          c.requires.unbroken,
    )

pub overflow_add-at : goal.overflow_add-at
overflow_add-at g c =
    let s = c.self.inside in
    let v = sees s.storage.items s.read_at s.length _ c.self.invariant c.self.view_is in
    let n : c.len.result ≡ length s.storage.items = omega (arith, s.storage.ok.0) in
    let is : c.position-at.result ≡ (s.read_at + c.args.offset) % length s.storage.items = rw n at c.position-at.ensures.position in
    omega (
      arith,
      s.storage.ok.0,
      ends_within s.storage.items s.read_at s.length _ c.position-at.result c.args.offset c.args.size v is (omega (arith, c.position-at.ensures.within))
          c.requires.unbroken,
    )

pub returns : goal.returns
returns g c =
    let s = c.self.inside in
    let v = sees s.storage.items s.read_at s.length _ c.self.invariant c.self.view_is in
    let n : c.len.result ≡ length s.storage.items = omega (arith, s.storage.ok.0) in
    let is : c.position-at.result ≡ (s.read_at + c.args.offset) % length s.storage.items = rw n at c.position-at.ensures.position in
    let ends = ends_within s.storage.items s.read_at s.length _ c.position-at.result c.args.offset c.args.size v is (omega (arith, c.position-at.ensures.within))
    c.requires.unbroken in (
      (
        refl,
        λ w. lent_from s.storage.items s.read_at s.length _ s.storage.len c.position-at.result c.args.offset w v is s.storage.ok.0
            (omega (arith, c.position-at.ensures.within)),
      ),
      record {
        lends = tt;
        len = c.slice_mut.ensures.len ∙ omega (arith, s.storage.ok.0);
        value = c.slice_mut.ensures.value ∙
            part_of s.storage.items s.read_at s.length _ c.position-at.result c.args.offset c.args.size c.self.invariant v is
            (omega (arith, v.room, c.requires.within)) ends;
        placed = placed _ _ _ _ c.self.invariant v;
      },
    )
