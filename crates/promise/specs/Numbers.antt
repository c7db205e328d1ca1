-- No refusal's number is 0, and no two refusals have one number; so an outcome is told apart by its number and its answer.
use Rattle.std.specs.Prelude.{◌≡◌, ℕ, cond, eqb, Ok, Err, IfOk}
use Rattle.std.proofs.Math.Path.{refl, sym, ap}
use Rattle.std.proofs.Common.{◌∙◌, arith}
use Rattle.promise.specs.declared.Answer.{Answer}
use Rattle.promise.specs.declared.Refusal.{Refusal}
use Rattle.promise.specs.declared.Refusal.TheVariants.{Dimension, Length, NonFiniteSystem, NotPsd, QNotDiagonal, NonFiniteStart, StartShape, NonDiagonalH, InfiniteReading, MixedDriven, NonFiniteNoise, NoInformation, ListShort, BadSaved}
use Rattle.promise.specs.Refusals.{number}
use Rattle.promise.specs.Calls.{Outcome, refusal_of}

-- the refusal of a number
refusal_in : ℕ → Refusal
refusal_in n =
    cond (eqb n 1) Dimension
    (cond (eqb n 2) Length
    (cond (eqb n 3) NonFiniteSystem
    (cond (eqb n 4) NotPsd
    (cond (eqb n 5) QNotDiagonal
    (cond (eqb n 6) NonFiniteStart
    (cond (eqb n 7) StartShape
    (cond (eqb n 8) NonDiagonalH
    (cond (eqb n 9) InfiniteReading
    (cond (eqb n 10) MixedDriven
    (cond (eqb n 11) NonFiniteNoise
    (cond (eqb n 12) NoInformation
    (cond (eqb n 14) ListShort BadSaved))))))))))))

back : (e : Refusal) → refusal_in (number e) ≡ e
unfolding refusal_in
back Dimension = refl
back Length = refl
back NonFiniteSystem = refl
back NotPsd = refl
back QNotDiagonal = refl
back NonFiniteStart = refl
back StartShape = refl
back NonDiagonalH = refl
back InfiniteReading = refl
back MixedDriven = refl
back NonFiniteNoise = refl
back NoInformation = refl
back ListShort = refl
back BadSaved = refl

pub numbered : (e : Refusal) → number e ≡ 0 → ⊥
unfolding refusal_in
numbered e h = let n : ◌≡◌ {A = ℕ} 15 0 = ap number (sym (ap refusal_in h) ∙ back e) ∙ h in omega arith

pub one_number : {e f : Refusal} → number e ≡ number f → e ≡ f
one_number {e} {f} h = sym (back e) ∙ ap refusal_in h ∙ back f

pub one_outcome : (r s : Outcome) {a b : Answer} → refusal_of r ≡ refusal_of s → IfOk r (λ x. x ≡ a) → IfOk s (λ x. x ≡ b) → a ≡ b → r ≡ s
one_outcome (Ok x) (Ok y) e p q h = ap Ok (p ∙ h ∙ sym q)
one_outcome (Ok x) (Err j) e p q h = absurd (numbered j (sym e))
one_outcome (Err i) (Ok y) e p q h = absurd (numbered i e)
one_outcome (Err i) (Err j) e p q h = ap Err (one_number e)
