-- What a good sheet has: at most 4096 periods with two readings each, a period of 1 to 999999999 seconds, one or two inputs, and no season, or one that
-- begins in one of the periods 2 to 4096 and keeps some of the rate. Assumes nothing.
use Rattle.std.specs.Prelude.{◌≡◌, ℕ, suc, ◌+◌, ◌*◌, ◌<◌, ◌≤◌, Bool, true, false, cond, not, List, [], ◌∷◌, ◌++◌, length, Option, Some, None, Ok, Err, IfSome, is_some, nat_lt, ◌==◌, refl}
use Rattle.std.proofs.Common.{subst, zero-add, arith, length-append, ltb-true}
use Rattle.std.proofs.lemmas.Bool.Decides.{nat_tests}
use Rattle.sheet.specs.declared.answers.Noise.{Noise}
use Rattle.sheet.specs.declared.answers.Noise.TheVariants.{One, Two}
use Rattle.sheet.specs.declared.answers.Season.{Season}
use Rattle.sheet.specs.declared.answers.Sheet.{Sheet}
use Rattle.sheet.specs.declared.answers.Wanted.{Wanted}
use Rattle.sheet.specs.declared.answers.Wanted.TheVariants.{Once, SettingsFirst, PeriodSetting, NoiseSetting, FewerPeriods}
use Rattle.sheet.specs.declared.kinds.Name.{Name}
use Rattle.sheet.specs.declared.kinds.Name.TheVariants.{Period, Noise as OfNoise, Radio, WanderOffset, WanderRate, StartOffset, StartRate, RateKeeps, Season as OfSeason}
use Rattle.sheet.specs.declared.kinds.Word.{Word}
use Rattle.sheet.specs.declared.kinds.Word.TheVariants.{End, Setting, Gap, Planned, Number, Negative, NoCheck, Sd, Variance, Unknown, Other}
use Rattle.sheet.specs.declared.parts.Given.{Given}
use Rattle.sheet.specs.declared.parts.Tokens.{Tokens}
use Rattle.sheet.specs.Kinds.{is_within, has_checks, size_of}
use Rattle.sheet.specs.Lines.{lines_of}
use Rattle.sheet.specs.Faults.{Found, right, need, ◌>>=◌, is_given, words_fault, checks_fault, fault_by, fault_of}
use Rattle.sheet.specs.Effects.{fresh, inputs_of, with, settled_by, settled, reading_of, line_readings}
use Rattle.sheet.specs.Sheets.{line_tokens, line_fault, counted, wrong_line, unless_wrong, end_by, sheet_from, readings_from, sheet_of, readings_of}

-- ---- where a test and what follows it are right
needed : (b : Bool) (wanted : Wanted) (k : ℕ) (r : Found) → (need b wanted k >>= λ _. r) ≡ right → (b ≡ true) × (r ≡ right)
needed true wanted k r e = (refl, e)
needed false wanted k r e = cc

-- a period that is right is one of the first 4096
few_checks : (table : Bool) (g : Given) (p : ℕ) (t : Tokens) → checks_fault table g p t ≡ right → p < 4096
few_checks table g p t e =
    let a = needed (is_some g.period) PeriodSetting 0 _ e in
    let b = needed (is_some g.noise) NoiseSetting 0 _ a.1 in
    ltb-true p 4096 (needed (nat_lt p 4096) FewerPeriods 0 _ b.1).0

few_by : (w : Word) (table : Bool) (g : Given) (p : ℕ) (t : Tokens) → fault_by w table g p t ≡ right → has_checks w ≡ true → p < 4096
few_by End table g p t e h = cc
few_by (Setting name) table g p t e h = cc
few_by Gap table g p t e h = few_checks table g p t e
few_by Planned table g p t e h = few_checks table g p t e
few_by (Number n) table g p t e h = few_checks table g p t e
few_by (Negative n) table g p t e h = few_checks table g p t e
few_by NoCheck table g p t e h = few_checks table g p t e
few_by Sd table g p t e h = cc
few_by Variance table g p t e h = cc
few_by Unknown table g p t e h = cc
few_by Other table g p t e h = cc

pub few_periods : (table : Bool) (g : Given) (p : ℕ) (t : Tokens) → fault_of table g p t ≡ right → has_checks t.first ≡ true → p < 4096
few_periods table g p t e h = few_by t.first table g p t e h

-- ---- what a line leaves in bounds
both : (a b : Bool) → cond a b false ≡ true → (a ≡ true) × (b ≡ true)
both true b e = (refl, e)
both false b e = cc

within : (least most : ℕ) (w : Word) → is_within least most w ≡ true → (least ≤ size_of w) × (size_of w ≤ most)
within least most w e = grind (arith, nat_tests)

-- it begins in one of the periods 2 to 4096, and keeps some of the rate
abbrev pub SeasonIn : Season → Type 0
SeasonIn s = (2 ≤ s.first) × (s.first ≤ 4096) × (0 < s.keeps)

record Bounded (g : Given) : Type 0 where
  period : IfSome g.period (λ p. (0 < p) × (p < 1000000000))
  season : IfSome g.season SeasonIn

-- a right line that names a setting has the words for it
with_bounded : (name : Name) (g : Given) (t : Tokens) → words_fault name t ≡ right → Bounded g → Bounded (with name g t)
with_bounded Period g t e b =
    let w = within 1 999999999 t.second (needed _ _ _ _ e).0 in
    record { period = (w.0, omega arith); season = b.season }
with_bounded OfNoise g t e b = record { period = b.period; season = b.season }
with_bounded Radio g t e b = record { period = b.period; season = b.season }
with_bounded WanderOffset g t e b = record { period = b.period; season = b.season }
with_bounded WanderRate g t e b = record { period = b.period; season = b.season }
with_bounded StartOffset g t e b = record { period = b.period; season = b.season }
with_bounded StartRate g t e b = record { period = b.period; season = b.season }
with_bounded RateKeeps g t e b = record { period = b.period; season = b.season }
with_bounded OfSeason g t e b =
    let a = needed _ _ _ _ e in
    let v = within 2 4096 t.second a.0 in
    let w = within 1 999999999999999 t.third (needed _ _ _ _ a.1).0 in
    record { period = b.period; season = (v.0, v.1, w.0) }

stays_by : (w : Word) (table : Bool) (g : Given) (p : ℕ) (t : Tokens) → fault_by w table g p t ≡ right → Bounded g → Bounded (settled_by w g t)
stays_by (Setting name) table g p t e b =
    let a = needed (p == 0) SettingsFirst 0 _ e in
    with_bounded name g t (needed (not (is_given g name)) Once 0 _ a.1).1 b
stays_by End table g p t e b = b
stays_by Gap table g p t e b = b
stays_by Planned table g p t e b = b
stays_by (Number n) table g p t e b = b
stays_by (Negative n) table g p t e b = b
stays_by NoCheck table g p t e b = b
stays_by Sd table g p t e b = b
stays_by Variance table g p t e b = b
stays_by Unknown table g p t e b = b
stays_by Other table g p t e b = b

stays : (table : Bool) (g : Given) (p : ℕ) (t : Tokens) → fault_of table g p t ≡ right → Bounded g → Bounded (settled g t)
stays table g p t e b = stays_by t.first table g p t e b

pub counted_few : (p : ℕ) (t : Tokens) → p ≤ 4096 → (has_checks t.first ≡ true → p < 4096) → counted p t ≤ 4096
unfolding counted
counted_few p t h k = go (has_checks t.first) refl
  where
    go : (b : Bool) → has_checks t.first ≡ b → cond b (p + 1) p ≤ 4096
    go true e = let m = k e in omega arith
    go false e = h

pub counted-length : (table : Bool) (p : ℕ) (t : Tokens) → 2 * p + length (line_readings table t) ≡ 2 * counted p t
unfolding counted line_readings
counted-length table p t = go (has_checks t.first)
  where
    go : (b : Bool) → 2 * p + length (cond b (reading_of table t.first ∷ reading_of table t.second ∷ []) []) ≡ 2 * cond b (p + 1) p
    go true = omega arith
    go false = omega arith

-- ---- of the lines that are left, and of the text
pub record IsGood (readings : ℕ) (sheet : Sheet) : Type 0 where
  pub few : sheet.periods ≤ 4096
  pub pairs : readings ≡ 2 * sheet.periods
  pub period_some : 0 < sheet.settings.period
  pub period_small : sheet.settings.period < 1000000000
  pub inputs_some : 0 < inputs_of sheet.settings.noise
  pub inputs_few : inputs_of sheet.settings.noise ≤ 2
  pub season : IfSome sheet.settings.season SeasonIn

inputs_bounds : (noise : Noise) → (0 < inputs_of noise) × (inputs_of noise ≤ 2)
inputs_bounds (One a) = (omega arith, omega arith)
inputs_bounds (Two a b) = (omega arith, omega arith)

at_end_by : (period : Option ℕ) (noise : Option Noise) (g : Given) (p lines size : ℕ) (sheet : Sheet) → p ≤ 4096 → IfSome period (λ p. (0 < p) × (p < 1000000000)) → IfSome g.season SeasonIn
    → end_by period noise g p lines size ≡ Ok sheet → IsGood (2 * p) sheet
at_end_by None noise g p lines size sheet h b c e = cc
at_end_by (Some period) None g p lines size sheet h b c e = cc
at_end_by (Some period) (Some noise) g p lines size sheet h b c e =
    let q : record { settings = record { period = period; noise = noise; radio = g.radio; wander_offset = g.wander_offset; wander_rate = g.wander_rate; offset = g.offset; rate = g.rate; rate_keeps = g.rate_keeps; season = g.season }; periods = p } ≡ sheet = cc in
    subst (IsGood (2 * p)) q (record { few = h; pairs = refl; period_some = b.0; period_small = b.1; inputs_some = (inputs_bounds noise).0; inputs_few = (inputs_bounds noise).1; season = c })

from : (table : Bool) (size : ℕ) (ls : List (List ℕ)) (g : Given) (p lines at : ℕ) (sheet : Sheet) → p ≤ 4096 → Bounded g → sheet_from table size g p lines at ls ≡ Ok sheet
    → IsGood (2 * p + length (readings_from table g p ls)) sheet
unfolding sheet_from readings_from
from table size [] g p lines at sheet h b e = subst (λ (x : ℕ). IsGood x sheet) (none p) (at_end_by g.period g.noise g p lines size sheet h b.period b.season e)
  where
    none : (p : ℕ) → 2 * p ≡ 2 * p + 0
    none p = omega arith
from table size (l ∷ ls) g p lines at sheet h b e = go (from table size ls (settled g (line_tokens l)) (counted p (line_tokens l)) (suc lines) (suc (at + length l)) sheet) (line_fault table g p l) refl e
  where
    go : (counted p (line_tokens l) ≤ 4096 → Bounded (settled g (line_tokens l)) → sheet_from table size (settled g (line_tokens l)) (counted p (line_tokens l)) (suc lines) (suc (at + length l)) ls ≡ Ok sheet
        → IsGood (2 * counted p (line_tokens l) + length (readings_from table (settled g (line_tokens l)) (counted p (line_tokens l)) ls)) sheet)
        → (k : Found) → line_fault table g p l ≡ k
        → unless_wrong k (sheet_from table size (settled g (line_tokens l)) (counted p (line_tokens l)) (suc lines) (suc (at + length l)) ls) (λ f. Err (wrong_line (suc lines) at l f)) ≡ Ok sheet
        → IsGood (2 * p + length (unless_wrong k (line_readings table (line_tokens l) ++ readings_from table (settled g (line_tokens l)) (counted p (line_tokens l)) ls) (λ f. []))) sheet
    go i (Err x) f e = cc
    go i (Ok u) f e =
        let t = line_tokens l in
        let m = readings_from table (settled g t) (counted p t) ls in
        let q : 2 * counted p t + length m ≡ 2 * p + length (line_readings table t ++ m) = omega (arith, counted-length table p t, length-append (line_readings table t) m) in
        subst (λ (x : ℕ). IsGood x sheet) q (i (counted_few p t h (few_periods table g p t f)) (stays table g p t f b) e)

pub good : (table : Bool) (text : List ℕ) (sheet : Sheet) → sheet_of table text ≡ Ok sheet → IsGood (length (readings_of table text)) sheet
unfolding sheet_of readings_of
good table text sheet e =
    subst (λ (x : ℕ). IsGood x sheet) (zero-add (length (readings_from table fresh 0 (lines_of text))))
    (from table (length text) (lines_of text) fresh 0 0 0 sheet (omega arith) (record { period = tt; season = tt }) e)
