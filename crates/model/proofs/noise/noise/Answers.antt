-- From zeros on, disturbance by disturbance; then symmetrised.
use native.Mathlib.Omega.{arith}
use mathlib.Core.Path.{◌≡◌, refl}
use Prim.Native.Nat.{ℕ, ◌<◌, ◌*◌, ◌+◌}
use Rattle.laws.specs.Lists.{place_lt}
use Rattle.model.proofs.Disturbances as sums
use Rattle.model.proofs.noise.noise.Goals as goal

place : {r size l : ℕ} → size ≡ r * r → l < r → l * r + l < size
place {r} {size} {l} e h = omega (arith, place_lt r r l l h h)

pub clear-requires : goal.clear-requires
clear-requires c = c.requires.fits.m8

pub loop-l-init : goal.loop-l-init
loop-l-init c = (omega arith, sums.none _ _ _ _ _ c.clear.ensures)

pub overflow_mul-l : goal.overflow_mul-l
overflow_mul-l c = omega (arith, place c.requires.fits.q c.loop-l-test.true)

pub overflow_add-l : goal.overflow_add-l
overflow_add-l c = omega (arith, place c.requires.fits.q c.loop-l-test.true)

pub offset_bounds-q-l : goal.offset_bounds-q-l
offset_bounds-q-l c = omega (arith, place c.requires.fits.q c.loop-l-test.true)

pub bounds-q-l : goal.bounds-q-l
bounds-q-l c = place c.requires.fits.q c.loop-l-test.true

pub add_sized-requires : goal.add_sized-requires
add_sized-requires c = record { m8 = c.requires.fits.m8; whole = c.requires.fits.rr; column = c.loop-l-test.true }

pub loop-l-preserved : goal.loop-l-preserved
loop-l-preserved c =
    let a = c.args in
    (omega arith, sums.next a.m a.r a.rr.now a.q.now c.loop-l.l _ _ _ refl c.loop-l.invariant.1 c.add_sized.ensures)

pub symmetrize_in_place-requires : goal.symmetrize_in_place-requires
symmetrize_in_place-requires c = c.requires.fits.m8

pub returns : goal.returns
returns c = sums.whole _ _ _ _ c.loop-l.l _ _ c.requires c.loop-l.invariant.0 c.loop-l-test.false c.loop-l.invariant.1 c.symmetrize_in_place.ensures
