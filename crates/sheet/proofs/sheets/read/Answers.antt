-- Line by line: what a line brings, and where the text ends.
use Rattle.std.specs.Prelude.{Result, Ok, Err, IsErrAnd, MatchResult, refl}
use Rattle.std.proofs.lemmas.Result.{err_from_is_err_and}
use Rattle.std.proofs.Common.{◌≡◌, ◌+◌, ◌-◌, ◌<◌, length, drop, take, sym, ap, ◌∙◌, rules, arith, length-drop}
use Rattle.sheet.specs.Faults.{right, fault_of}
use Rattle.sheet.specs.Tokens.{tokens_of}
use Rattle.sheet.specs.Sheets.{line_tokens, wrong_line}
use Rattle.sheet.proofs.Walking.{end_is, none_given, first, stopped, ended, onward}
use Rattle.sheet.proofs.sheets.read.Goals as goal

pub lines-init : goal.lines-init
lines-init c =
    let a = c.args in record {
      within = omega arith;
      few_lines = omega arith;
      going = first a.table a.text.now a.y.now c.default-given.result c.requires (none_given _ c.default-given.ensures);
    }

-- what an Err was before it was mapped
was_err : {A E D : Type 0} {P : E → D → Type 0} (g : E → D) (r : Result A E) (s : Result A D) (d : D) → ((e : E) (x : D) → P e x → x ≡ g e) → MatchResult r (λ y. s ≡ Ok y) (λ e. IsErrAnd s (P e)) → s ≡ Err d → (e : E) × (r ≡ Err e) × (d ≡ g e)
was_err g (Ok y) s d k m e = cc
was_err g (Err f) (Ok y) d k m e = absurd m
was_err g (Err f) (Err x) d k m e = let q : x ≡ d = cc in (f, refl, sym q ∙ k f x m)

pub returns-in_err-map_err : goal.returns-in_err-map_err
returns-in_err-map_err c =
    let w = c.lines in
    let a = c.args in
    let end = w.at + c.run.result in
    let line = take (end - w.at) (drop w.at a.text.now) in
    let words : c.tokens-t.result ≡ line_tokens line = c.tokens-t.ensures ∙ ap tokens_of c.content.ensures.value in
    let was = was_err (wrong_line (w.lines + 1) w.at line) c.fault.result c.map_err.result _ (λ e x k. search rules) c.map_err.ensures.cases c.in_err-map_err.was in
    let gone = err_from_is_err_and c.from_residual.result c.from_residual.ensures.1 in
    let q = stopped a.table a.text.now a.y.now w.given w.periods w.lines w.at w.y end w.invariant.within (end_is a.text.now w.at c.run.result c.run.ensures.value) (omega (arith, length-drop w.at a.text.now)) w.invariant.going
    was.0 (sym (c.fault.ensures ∙ ap (fault_of a.table w.given w.periods) words) ∙ was.1) in
    record { value = gone.1 ∙ ap Err (gone.2 ∙ was.2) ∙ q.0; y_after = q.1 }

pub returns-then-end-text : goal.returns-then-end-text
returns-then-end-text c =
    let w = c.lines in
    let a = c.args in
    let end = w.at + c.run.result in
    let words : c.tokens-t.result ≡ line_tokens (take (end - w.at) (drop w.at a.text.now)) = c.tokens-t.ensures ∙ ap tokens_of c.content.ensures.value in
    let h : c.fault.result ≡ right = search rules in
    let q = ended a.table a.text.now a.y.now w.given w.periods w.lines w.at w.y end w.invariant.within (end_is a.text.now w.at c.run.result c.run.ensures.value) (omega (arith, length-drop w.at a.text.now)) w.invariant.going
    c.tokens-t.result c.after-given.result c.store-periods.result c.store-periods.new.y words (sym c.fault.ensures ∙ h) c.store-periods.ensures.value c.store-periods.ensures.laid c.after-given.ensures (omega arith) in
    record { value = c.end_of.ensures ∙ q.0; y_after = q.1 }

pub lines-preserved : goal.lines-preserved
lines-preserved c =
    let w = c.lines in
    let a = c.args in
    let end = w.at + c.run.result in
    let words : c.tokens-t.result ≡ line_tokens (take (end - w.at) (drop w.at a.text.now)) = c.tokens-t.ensures ∙ ap tokens_of c.content.ensures.value in
    let h : c.fault.result ≡ right = search rules in
    let less : end < length a.text.now = omega (arith, length-drop w.at a.text.now) in record {
      within = omega arith;
      few_lines = omega arith;
      going = onward a.table a.text.now a.y.now w.given w.periods w.lines w.at w.y end w.invariant.within (end_is a.text.now w.at c.run.result c.run.ensures.value) (omega (arith, length-drop w.at a.text.now)) w.invariant.going
          c.tokens-t.result c.after-given.result c.store-periods.result c.store-periods.new.y words (sym c.fault.ensures ∙ h) c.store-periods.ensures.value c.store-periods.ensures.laid c.after-given.ensures less;
    }
