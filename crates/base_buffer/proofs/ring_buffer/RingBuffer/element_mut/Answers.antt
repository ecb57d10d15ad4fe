use Rattle.std.proofs.Common.{◌≡◌, ◌+◌, ◌%◌, length, refl, arith}
use Rattle.base_buffer.proofs.Rings.{sees, placed, element_of, lent_at}
use Rattle.base_buffer.proofs.ring_buffer.RingBuffer.element_mut.Goals as goal

pub position-at-requires : goal.position-at-requires
position-at-requires g c =
    let s = c.self.inside in
    let v = sees s.storage.items s.read_at s.length _ c.self.invariant c.self.view_is in
    let n : c.len.result ≡ length s.storage.items = omega (arith, s.storage.ok.0) in
    rw n (c.self.invariant.start_within, omega (arith, v.room), c.self.invariant.start_below)

pub index_mut-requires : goal.index_mut-requires
index_mut-requires g c =
    let s = c.self.inside in
    let v = sees s.storage.items s.read_at s.length _ c.self.invariant c.self.view_is in
    let n : c.len.result ≡ length s.storage.items = omega (arith, s.storage.ok.0) in
    omega (arith, s.storage.ok.0, v.room, c.position-at.ensures.below (omega (arith, v.room)))

pub returns : goal.returns
returns g c =
    let s = c.self.inside in
    let v = sees s.storage.items s.read_at s.length _ c.self.invariant c.self.view_is in
    let n : c.len.result ≡ length s.storage.items = omega (arith, s.storage.ok.0) in
    let is : c.position-at.result ≡ (s.read_at + c.args.offset) % length s.storage.items = rw n at c.position-at.ensures.position in (
      (
        refl,
        λ w. lent_at s.storage.items s.read_at s.length _ c.position-at.result c.args.offset w v is
            (omega (arith, n, v.room, c.position-at.ensures.below (omega (arith, v.room)))),
      ),
      record {
        lends = tt;
        value = element_of s.storage.items s.read_at s.length _ c.position-at.result c.args.offset c.index_mut.result.now c.self.invariant v is
            (omega (arith, v.room)) c.index_mut.ensures.value;
        placed = placed _ _ _ _ c.self.invariant v;
      },
    )
