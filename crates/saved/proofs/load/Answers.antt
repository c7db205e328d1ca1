-- The length, the sizes, then the rest, with the floats loaded.
use mathlib.Core.Path.{◌≡◌, refl, sym, ◌∙◌}
use mathlib.Core.Bool.{Bool, true, false, ◌||◌}
use mathlib.Core.List.{List, [], ◌∷◌}
use Prim.Native.Nat.{ℕ}
use lib.ListN.{length}
use Rattle.definition.specs.Refusals.{first_of}
use Rattle.definition.specs.Saved.{widths, wrong_count, numbers_in, bad_sizes, bad_tallies, bad_floats, bad_saved}
use Rattle.saved.specs.Places.{whole}
use Rattle.saved.proofs.Refused as refused
use Rattle.saved.proofs.load.Goals as goal

told : {bad : Bool} → true ≡ bad → ◌≡◌ {A = ℕ} 15 (first_of ((15, bad) ∷ []))
unfolding first_of
told e = rw (sym e) refl

passed : {bad : Bool} → false ≡ bad → ◌≡◌ {A = ℕ} 0 (first_of ((15, bad) ∷ []))
unfolding first_of
passed e = rw (sym e) refl

pub returns-then-saved-places_of-clause-number : goal.returns-then-saved-places_of-clause-number
returns-then-saved-places_of-clause-number c =
    let a = c.args in
    told (refused.bad_length_lem a.p a.m a.r a.n a.saved.now (λ e. c.if-saved-places_of.true (e ∙ sym c.places_of.ensures.end_is)))

pub bad_sizes-requires : goal.bad_sizes-requires
bad_sizes-requires c = (c.requires.1, c.if-saved-places_of.false ∙ c.places_of.ensures.end_is)

pub returns-then-bad_sizes-clause-number : goal.returns-then-bad_sizes-clause-number
returns-then-bad_sizes-clause-number c =
    let a = c.args in told (refused.bad_sizes_lem a.p a.m a.r a.n a.saved.now (sym c.bad_sizes.ensures ∙ c.if-bad_sizes.true))

pub load_state-floats-requires : goal.load_state-floats-requires
load_state-floats-requires c = (c.requires.1, c.if-saved-places_of.false ∙ c.places_of.ensures.end_is, c.requires.2)

pub wrong_count-requires : goal.wrong_count-requires
wrong_count-requires c = (c.requires.1, c.if-saved-places_of.false ∙ c.places_of.ensures.end_is)

pub bad_tallies-requires : goal.bad_tallies-requires
bad_tallies-requires c =
    let a = c.args in (
      c.requires.0,
      c.requires.1,
      c.if-saved-places_of.false ∙ c.places_of.ensures.end_is,
      refused.early a.p a.m a.r a.n a.saved.now (sym c.bad_sizes.ensures ∙ c.if-bad_sizes.false),
    )

-- past the sizes, what the three tests say together
rest : (p m r n : ℕ) (bs : List ℕ) {a b d : Bool} → a ≡ wrong_count (widths m) bs → b ≡ bad_tallies p (numbers_in (widths m) bs) → d ≡ bad_floats (numbers_in (widths m) bs)
    → length bs ≡ whole m → bad_sizes p m r n (numbers_in (widths m) bs) ≡ false → (a || b || d) ≡ bad_saved p m r n bs
rest p m r n bs e f g l h = rw (e, f, g) (refused.bad_rest p m r n bs l h)

pub returns-then-wrong_count-bad_tallies-clause-number : goal.returns-then-wrong_count-bad_tallies-clause-number
returns-then-wrong_count-bad_tallies-clause-number c =
    let a = c.args in
    told
    (sym c.if-wrong_count-bad_tallies.true
    ∙ rest a.p a.m a.r a.n a.saved.now c.wrong_count.ensures c.bad_tallies.ensures c.load_state-floats.ensures.0 (c.if-saved-places_of.false ∙ c.places_of.ensures.end_is) (sym c.bad_sizes.ensures ∙ c.if-bad_sizes.false))

pub returns-clause-number : goal.returns-clause-number
returns-clause-number c =
    let a = c.args in
    passed
    (sym c.if-wrong_count-bad_tallies.false
    ∙ rest a.p a.m a.r a.n a.saved.now c.wrong_count.ensures c.bad_tallies.ensures c.load_state-floats.ensures.0 (c.if-saved-places_of.false ∙ c.places_of.ensures.end_is) (sym c.bad_sizes.ensures ∙ c.if-bad_sizes.false))
