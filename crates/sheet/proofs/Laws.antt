-- Laws of bytes and words: a run as std counts it, the whole of a word, and which word is the next. Assumes nothing.
use Rattle.std.proofs.Common.{◌≡◌, ℕ, ◌+◌, ◌-◌, ◌≤◌, Bool, List, length, sym, refl, ap, ◌∙◌, subst, add-one, arith}
use Rattle.std.specs.List.{position_or_len}
use Rattle.std.proofs.lemmas.List.Recursion.{is_position_or_len}
use Rattle.std.proofs.Math.Seq.{take_all}
use Rattle.decimal.specs.declared.answers.Span.{Span}
use Rattle.decimal.specs.Reading.{stretch}
use Rattle.decimal.specs.Words.{word_at, word_is}
use Rattle.sheet.specs.Lines.{is_end, run_to}
use Rattle.sheet.specs.Tokens.{start_no, word_no}

pub run_is : (newline : Bool) (l : List ℕ) → run_to newline l ≡ position_or_len (is_end newline) l
unfolding run_to
run_is newline = is_position_or_len (run_to newline) (is_end newline) refl (λ x xs. grind arith)

pub stretch_all : (w : List ℕ) → stretch w 0 (length w) ≡ w
unfolding stretch
stretch_all w = take_all (length w - 0) w (omega arith)

-- ---- the words of a line
pub start_next : (line : List ℕ) (at i : ℕ) (w : Span) → at ≡ start_no line i → w ≡ word_at line at → w.to ≡ start_no line (i + 1)
unfolding start_no
start_next line at i w p q = ap (λ (x : Span). x.to) q ∙ ap (λ (x : ℕ). (word_at line x).to) p ∙ ap (start_no line) (sym (add-one i))

pub word_at_lem : (line : List ℕ) (k at i : ℕ) (w : Span) → i ≡ k → at ≡ start_no line i → w ≡ word_at line at → (w ≡ word_no line k) × (w.from ≤ w.to) × (w.to ≤ length line)
unfolding word_no
word_at_lem line k at i w e p q =
    let o = word_is line at in
    let z : ((word_at line at).from ≤ (word_at line at).to) × ((word_at line at).to ≤ length line) = (o.order, o.within) in
    let y : (w.from ≤ w.to) × (w.to ≤ length line) = subst (λ (x : Span). (x.from ≤ x.to) × (x.to ≤ length line)) (sym q) z in
    (q ∙ ap (word_at line) (p ∙ ap (start_no line) e), y.0, y.1)
