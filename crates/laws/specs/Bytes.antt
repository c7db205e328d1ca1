-- Numbers as bytes and back, and sections: what is written is read, and what has the right counts and length is what would be written.
use Rattle.std.specs.Prelude.{◌≡◌, refl, ℕ, zero, suc, ◌+◌, ◌*◌, ◌%◌, ◌^◌, ◌≤◌, ◌<◌, true, false, not, length, get_or, take, drop, eqb}
use Rattle.std.proofs.Common.{sym, ap, ap₂, ◌∙◌, subst, mod-lt, div-add-mod', div-lt_iff_lt-mul, mul-le-mul_right, not-suc-le-zero, le_of_suc-le-suc, arith, length-append, length-take, length-drop, take-append-drop, take_at, drop_at, drop-drop, take-add, eq-eqb, eqb-true}
use Rattle.std.proofs.Math.Nat.{one-le-pow, pow-succ'}
use mathlib.Core.List.{List, [], ◌∷◌, ◌++◌, map, append_assoc}
use Rattle.std.proofs.Math.Arith.{digits_div, digits_mod}
use Rattle.std.proofs.lemmas.List.{length-map}
use Rattle.std.proofs.lemmas.Bool.{not-false}
use Rattle.definition.specs.Run.{chunks, join}
use Rattle.definition.specs.Saved.{bytes_of, from_bytes, section, length_of, wrong_count, numbers_in, section_at, number_at}
use Rattle.laws.specs.Lists.{length-chunks}
use Rattle.laws.specs.Any.{either_false}
use Rattle.laws.specs.Passes.{chunk_at}
use Rattle.laws.specs.ReadBack.{get_d_map_in}
use Rattle.laws.specs.All.{AllOf, all_append, all_take, all_drop}

abbrev pub Byte : ℕ → Type 0
Byte b = b < 256

-- a number that eight bytes hold
abbrev pub Wide : ℕ → Type 0
Wide v = v < 256 ^ 8

positive : (k : ℕ) → 0 < 256 ^ k
positive k = one-le-pow k 256 (omega arith)

-- ---- one number

pub bytes_length : (k v : ℕ) → length (bytes_of k v) ≡ k
unfolding bytes_of
bytes_length zero v = refl
bytes_length (suc k) v = ap suc (bytes_length k (v % 256 ^ k))

pub bytes_small : (k v : ℕ) → v < 256 ^ k → AllOf Byte (bytes_of k v)
unfolding bytes_of
bytes_small zero v h = tt
bytes_small (suc k) v h = ((div-lt_iff_lt-mul (positive k)).1 (rw pow-succ' at h), bytes_small k (v % 256 ^ k) (mod-lt v (positive k)))

pub number_bytes : (k v : ℕ) → v < 256 ^ k → from_bytes (bytes_of k v) ≡ v
unfolding bytes_of from_bytes
number_bytes zero v h = omega arith
number_bytes (suc k) v h =
    rw (bytes_length k (v % 256 ^ k), number_bytes k (v % 256 ^ k) (mod-lt v (positive k))) (div-add-mod' v (256 ^ k))

pub number_lt : (l : List ℕ) → AllOf Byte l → from_bytes l < 256 ^ length l
unfolding from_bytes
number_lt [] h = omega arith
number_lt (b ∷ l) h =
    let ih = number_lt l h.1 in
    let a : suc b * 256 ^ length l ≤ 256 * 256 ^ length l = mul-le-mul_right (256 ^ length l) h.0 in
    rw pow-succ' (omega arith)

pub bytes_number : (l : List ℕ) → AllOf Byte l → bytes_of (length l) (from_bytes l) ≡ l
unfolding bytes_of from_bytes
bytes_number [] h = refl
bytes_number (b ∷ l) h =
    let k = 256 ^ length l in
    let w = from_bytes l in
    let small : w < k = number_lt l h.1 in
    ap₂ (λ (i : ℕ) (j : ℕ). i ∷ bytes_of (length l) j) (digits_div b small) (digits_mod b small) ∙ ap (λ (i : List ℕ). b ∷ i) (bytes_number l h.1)

-- ---- eight bytes each

pub join-length : (l : List ℕ) → length (join (map (bytes_of 8) l)) ≡ length l * 8
unfolding join
join-length [] = refl
join-length (v ∷ l) = length-append (bytes_of 8 v) (join (map (bytes_of 8) l)) ∙ ap₂ ◌+◌ (bytes_length 8 v) (join-length l) ∙ omega arith

numbers_back : (l rest : List ℕ) → AllOf Wide l → map from_bytes (chunks (length l) 8 (join (map (bytes_of 8) l) ++ rest)) ≡ l
unfolding join chunks
numbers_back [] rest h = refl
numbers_back (v ∷ l) rest h =
    let b = bytes_of 8 v in
    let more = join (map (bytes_of 8) l) in
    let a : (b ++ more) ++ rest ≡ b ++ (more ++ rest) = append_assoc b more rest in
    let t : take 8 ((b ++ more) ++ rest) ≡ b = ap (take 8) a ∙ take_at b (more ++ rest) 8 (bytes_length 8 v) in
    let d : drop 8 ((b ++ more) ++ rest) ≡ more ++ rest = ap (drop 8) a ∙ drop_at b (more ++ rest) 8 (bytes_length 8 v) in
    ap₂ (λ (i : List ℕ) (j : List ℕ). from_bytes i ∷ map from_bytes (chunks (length l) 8 j)) t d
    ∙ ap₂ (λ (i : ℕ) (j : List ℕ). i ∷ j) (number_bytes 8 v h.0) (numbers_back l rest h.1)

bytes_back : (w : ℕ) (l : List ℕ) → w * 8 ≤ length l → AllOf Byte l → join (map (bytes_of 8) (map from_bytes (chunks w 8 l))) ≡ take (w * 8) l
unfolding join chunks
bytes_back zero l h g = refl
bytes_back (suc w) l h g =
    let first = take 8 l in
    let e : length first ≡ 8 = length-take 8 l ∙ omega arith in
    let one : bytes_of 8 (from_bytes first) ≡ first = subst (λ (i : ℕ). bytes_of i (from_bytes first) ≡ first) e (bytes_number first (all_take Byte 8 l g)) in
    let rest = bytes_back w (drop 8 l) (simp length-drop (omega arith)) (all_drop Byte 8 l g) in
    let e8 : suc w * 8 ≡ 8 + w * 8 = omega arith in
    ap₂ ◌++◌ one rest ∙ sym (take-add 8 (w * 8) l) ∙ ap (λ (i : ℕ). take i l) (sym e8)

-- ---- sections

module _ (l rest : List ℕ) where
  opened : section l ++ rest ≡ bytes_of 4 (length l) ++ (join (map (bytes_of 8) l) ++ rest)
  unfolding section
  opened = append_assoc (bytes_of 4 (length l)) (join (map (bytes_of 8) l)) rest

  head : take 4 (section l ++ rest) ≡ bytes_of 4 (length l)
  head = ap (take 4) opened ∙ take_at (bytes_of 4 (length l)) (join (map (bytes_of 8) l) ++ rest) 4 (bytes_length 4 (length l))

  tail : drop 4 (section l ++ rest) ≡ join (map (bytes_of 8) l) ++ rest
  tail = ap (drop 4) opened ∙ drop_at (bytes_of 4 (length l)) (join (map (bytes_of 8) l) ++ rest) 4 (bytes_length 4 (length l))

  past : drop (4 + length l * 8) (section l ++ rest) ≡ rest
  past = sym (drop-drop (length l * 8) 4 (section l ++ rest)) ∙ ap (drop (length l * 8)) tail ∙ drop_at (join (map (bytes_of 8) l)) rest (length l * 8) (join-length l)

pub section-length : (l : List ℕ) → length (section l) ≡ 4 + length l * 8
unfolding section
section-length l = length-append (bytes_of 4 (length l)) (join (map (bytes_of 8) l)) ∙ ap₂ ◌+◌ (bytes_length 4 (length l)) (join-length l)

pub sections_length : (ls : List (List ℕ)) → length (join (map section ls)) ≡ length_of (map length ls)
unfolding join length_of
sections_length [] = refl
sections_length (l ∷ ls) = length-append (section l) (join (map section ls)) ∙ ap₂ ◌+◌ (section-length l) (sections_length ls)

pub sections_counted : (ls : List (List ℕ)) → AllOf (λ l. length l < 256 ^ 4) ls → wrong_count (map length ls) (join (map section ls)) ≡ false
unfolding join wrong_count
sections_counted [] h = refl
sections_counted (l ∷ ls) h =
    let rest = join (map section ls) in
    let c : eqb (from_bytes (take 4 (section l ++ rest))) (length l) ≡ true = eq-eqb _ _ (ap from_bytes (head l rest) ∙ number_bytes 4 (length l) h.0) in
    rw (c, past l rest) (sections_counted ls h.1)

pub sections_read : (ls : List (List ℕ)) → AllOf (AllOf Wide) ls → numbers_in (map length ls) (join (map section ls)) ≡ ls
unfolding join numbers_in
sections_read [] h = refl
sections_read (l ∷ ls) h =
    let rest = join (map section ls) in
    ap₂ (λ (i : List ℕ) (j : List (List ℕ)). i ∷ j)
    (ap (λ (z : List ℕ). map from_bytes (chunks (length l) 8 z)) (tail l rest) ∙ numbers_back l rest h.0)
    (ap (numbers_in (map length ls)) (past l rest) ∙ sections_read ls h.1)

pub sections_back : (ws bs : List ℕ) → length bs ≡ length_of ws → wrong_count ws bs ≡ false → AllOf Byte bs → join (map section (numbers_in ws bs)) ≡ bs
unfolding join numbers_in length_of wrong_count section
sections_back [] [] e c h = refl
sections_back [] (b ∷ bs) e c h = absurd (omega arith)
sections_back (w ∷ ws) bs e c h =
    let f = either_false (not (eqb (from_bytes (take 4 bs)) w)) (wrong_count ws (drop (4 + w * 8) bs)) c in
    let count : from_bytes (take 4 bs) ≡ w = eqb-true _ _ (not-false (eqb (from_bytes (take 4 bs)) w) f.0) in
    let ns = map from_bytes (chunks w 8 (drop 4 bs)) in
    let many : length ns ≡ w = length-map (chunks w 8 (drop 4 bs)) from_bytes ∙ length-chunks w 8 (drop 4 bs) in
    let four : length (take 4 bs) ≡ 4 = length-take 4 bs ∙ omega arith in
    let hd : bytes_of 4 (length ns) ≡ take 4 bs =
    ap (bytes_of 4) (many ∙ sym count) ∙ subst (λ (i : ℕ). bytes_of i (from_bytes (take 4 bs)) ≡ take 4 bs) four (bytes_number (take 4 bs) (all_take Byte 4 bs h)) in
    let body : join (map (bytes_of 8) ns) ≡ take (w * 8) (drop 4 bs) = bytes_back w (drop 4 bs) (simp length-drop (omega arith)) (all_drop Byte 4 bs h) in
    let rest : join (map section (numbers_in ws (drop (4 + w * 8) bs))) ≡ drop (4 + w * 8) bs =
    sections_back ws (drop (4 + w * 8) bs) (simp length-drop (omega arith)) f.1 (all_drop Byte (4 + w * 8) bs h) in
    ap₂ ◌++◌ (ap₂ ◌++◌ hd body ∙ sym (take-add 4 (w * 8) bs)) rest ∙ take-append-drop (4 + w * 8) bs

-- every byte written is a byte
pub sections_bytes : (ls : List (List ℕ)) → AllOf (λ l. length l < 256 ^ 4) ls → AllOf (AllOf Wide) ls → AllOf Byte (join (map section ls))
unfolding join section
sections_bytes [] h g = tt
sections_bytes (l ∷ ls) h g =
    all_append Byte (section l) (join (map section ls)) (all_append Byte (bytes_of 4 (length l)) (join (map (bytes_of 8) l)) (bytes_small 4 (length l) h.0) (each l g.0)) (sections_bytes ls h.1 g.1)
  where
    each : (l : List ℕ) → AllOf Wide l → AllOf Byte (join (map (bytes_of 8) l))
    each [] h = tt
    each (v ∷ l) h = all_append Byte (bytes_of 8 v) (join (map (bytes_of 8) l)) (bytes_small 8 v h.0) (each l h.1)

-- ---- by place: section k, and its number i

pub section_from : (ws bs : List ℕ) (k : ℕ) → k < length ws → section_at (numbers_in ws bs) k ≡ map from_bytes (chunks (get_or ws k 0) 8 (drop (length_of (take k ws) + 4) bs))
unfolding numbers_in length_of
section_from [] bs k h = absurd (not-suc-le-zero h)
section_from (w ∷ ws) bs zero h = refl
section_from (w ∷ ws) bs (suc k) h =
    let e : 4 + w * 8 + (length_of (take k ws) + 4) ≡ 4 + w * 8 + length_of (take k ws) + 4 = omega arith in
    section_from ws (drop (4 + w * 8) bs) k (le_of_suc-le-suc h)
    ∙ ap (λ (l : List ℕ). map from_bytes (chunks (get_or ws k 0) 8 l)) (drop-drop (length_of (take k ws) + 4) (4 + w * 8) bs ∙ ap (λ (i : ℕ). drop i bs) e)

pub number_at_lem : (ws bs : List ℕ) (k i : ℕ) → k < length ws → i < get_or ws k 0 → number_at (numbers_in ws bs) k i ≡ from_bytes (take 8 (drop (length_of (take k ws) + 4 + i * 8) bs))
number_at_lem ws bs k i h b =
    let w = get_or ws k 0 in
    let body = drop (length_of (take k ws) + 4) bs in
    let in-chunks : i < length (chunks w 8 body) = rw (length-chunks w 8 body) b in
    ap (λ (l : List ℕ). get_or l i 0) (section_from ws bs k h)
    ∙ get_d_map_in from_bytes (chunks w 8 body) i [] 0 in-chunks
    ∙ ap from_bytes (chunk_at w 8 body i b ∙ ap (take 8) (drop-drop (i * 8) (length_of (take k ws) + 4) bs))
