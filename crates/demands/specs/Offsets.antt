-- Request k of document 02: which calls are past refusals 1 to 11. What two of them have in common is in proofs/Offsets.antt.
use Rattle.std.specs.Prelude.{◌≡◌, ◌⊎◌, ℕ, ◌<◌}

-- past refusals 1 to 11: an answer, or a refusal with another number (so 14 too, which the filter's call tells before 3 to 11)
abbrev pub Admitted : ℕ → Type 0
Admitted k = (k ≡ 0) ⊎ (11 < k)
