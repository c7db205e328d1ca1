-- What a vector, a matrix or a sum by a closure asks of the closure, and what it may be told of it: pre and post are the closure's.
use Rattle.std.specs.Prelude.{ℕ, ◌<◌, ◌≡◌, Float}

-- it may be called at each place below n; and what it gives there is f
abbrev pub ReadyBelow : ℕ → (ℕ → Type 0) → Type 0
ReadyBelow n pre = (i : ℕ) → i < n → pre i

abbrev pub GivesBelow : ℕ → (ℕ → Float → Type 0) → (ℕ → Float) → Type 0
GivesBelow n post f = (i : ℕ) (v : Float) → i < n → post i v → v ≡ f i

-- the same at each place of r rows and c columns
abbrev pub ReadyWithin : ℕ → ℕ → (ℕ → ℕ → Type 0) → Type 0
ReadyWithin r c pre = (i j : ℕ) → i < r → j < c → pre i j

abbrev pub GivesWithin : ℕ → ℕ → (ℕ → ℕ → Float → Type 0) → (ℕ → ℕ → Float) → Type 0
GivesWithin r c post f = (i j : ℕ) (v : Float) → i < r → j < c → post i j v → v ≡ f i j
