-- A lent list afterwards, place by place. Past its end nothing is written.
use Rattle.std.specs.Prelude.{◌≡◌, ℕ, ◌+◌, ◌*◌, ◌<◌, ◌≤◌, List, length, slice_index_or, Float}
use Rattle.definition.specs.Num.{0ᶠ}
use Rattle.rows.specs.Rows.{number_of}

-- the first k places hold f, or all where there are fewer; the others are as they were. `none` is what is read past the end
pub record Filled {A : Type 0} (none : A) (f : ℕ → A) (k : ℕ) (old new : List A) : Type 0 where
  pub long : length new ≡ length old
  pub told : (i : ℕ) → i < k → i < length old → slice_index_or new i none ≡ f i
  pub kept : (i : ℕ) → k ≤ i → slice_index_or new i none ≡ slice_index_or old i none

-- place 8 t + c holds number c of period t
pub record RowsFilled (n : ℕ) (pinf : List Float) (kinds : List ℕ) (filt_mean filt_cov sm_mean sm_cov old new : List Float) : Type 0 where
  pub long : length new ≡ length old
  pub told : (t c : ℕ) → t < n → c < 8 → 8 * t + c < length old → slice_index_or new (8 * t + c) 0ᶠ ≡ number_of n pinf kinds filt_mean filt_cov sm_mean sm_cov t c
  pub kept : (i : ℕ) → 8 * n ≤ i → slice_index_or new i 0ᶠ ≡ slice_index_or old i 0ᶠ
