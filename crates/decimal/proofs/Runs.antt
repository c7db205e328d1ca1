-- Laws of the runs of a line: how many bytes are before the first that ends the run. Assumes nothing.
use Rattle.std.proofs.Common.{◌≡◌, refl, ap, ◌∙◌, Bool, true, false, not, cond, List, [], ◌∷◌, ℕ, suc, ◌+◌, ◌-◌, min, length, take, drop, arith}
use mathlib.Core.Bool.{beq}
use Rattle.std.specs.List.{prefix_len}
use Rattle.decimal.specs.declared.answers.Span.{Span}
use Rattle.decimal.proofs.Numbers.{all_after}
use Rattle.decimal.specs.Words.{keeps, run_of, word_at}

pub run_is : (t : Bool) (bs : List ℕ) → prefix_len (keeps t) bs ≡ run_of t bs
unfolding run_of
run_is t [] = refl
run_is t (b ∷ bs) =
    let i : 1 + prefix_len (keeps t) bs ≡ suc (run_of t bs) = let h = run_is t bs in omega arith in
    ap (λ (n : ℕ). cond (keeps t b) n 0) i

abbrev span : ℕ → ℕ → Span
span f t = record { from = f; to = t }

pub word_by : (line : List ℕ) (at start r q : ℕ) → start ≡ min at (length line)
    → r ≡ run_of true (take (length line - start) (drop start line)) → q ≡ run_of false (take (length line - (start + r)) (drop (start + r) line))
    → span (start + r) (start + r + q) ≡ word_at line at
unfolding word_at
word_by line at start r q e f g =
    let f' : r ≡ run_of true (drop start line) = f ∙ ap (run_of true) (all_after line start) in
    let g' : q ≡ run_of false (drop (start + r) line) = g ∙ ap (run_of false) (all_after line (start + r)) in
    rw (g', f', e)

pub same_is : (x y : Bool) → beq x y ≡ cond x y (not y)
same_is true true = refl
same_is true false = refl
same_is false true = refl
same_is false false = refl
