-- Lists put one after the other are put as one.
use mathlib.Core.Path.{◌≡◌, refl, sym, ap, ap₂, ◌∙◌}
use Prim.Native.Nat.{ℕ, ◌+◌, ◌-◌, ◌*◌, ◌^◌, ◌≤◌, ◌<◌}
use native.Mathlib.Nat.{zero-add}
use native.Mathlib.Omega.{arith}
use native.Mathlib.Numerals.{add-one}
use mathlib.Core.List.{List, [], ◌∷◌, ◌++◌, map, append_assoc, append-nil}
use lib.ListN.{length, get_or, take, drop, set, length-append}
use lib.Seq.{take_at, drop_at, drop-drop, take_all, take-suc, length-take-le, paste, paste-zero, paste-suc}
use borrow.Rule.Slice.PartMut.{put_mid, Post-is}
use Rattle.std.specs.Int.{bytes_high_first}
use Rattle.definition.specs.Run.{join, lay}
use Rattle.definition.specs.Saved.{bytes_of, section}
use Rattle.laws.specs.Bytes.{bytes_length}
use Rattle.laws.specs.Passes.{map-append, join-append}
use Rattle.saved.specs.Places.{put_at}
use Rattle.saved.proofs.Digits.{bytes_are}

-- w, of k places, put at a place
pub record Put {A : Type 0} (at k : ℕ) (w old new : List A) : Type 0 where
  pub long : length w ≡ k
  pub is : new ≡ put_at at w old

module _ {A : Type 0} where
  put_after : (at k : ℕ) (w v old : List A) → length w ≡ k → at + k ≤ length old → put_at (at + k) v (put_at at w old) ≡ put_at at (w ++ v) old
  put_after at k w v old e h =
      let head = take at old ++ w in
      let rest = drop (at + length w) old in
      let hl : length head ≡ at + k = length-append (take at old) w ∙ ap₂ ◌+◌ (length-take-le at old (omega arith)) e in
      let n : at + length w + length v ≡ at + length (w ++ v) = omega (arith, length-append w v) in
      let t : take (at + k) (head ++ rest) ≡ head = take_at head rest (at + k) hl in
      let d : drop (at + k + length v) (head ++ rest) ≡ drop (at + length (w ++ v)) old =
      sym (drop-drop (length v) (at + k) (head ++ rest)) ∙ ap (drop (length v)) (drop_at head rest (at + k) hl) ∙ drop-drop (length v) (at + length w) old ∙ ap (λ (i : ℕ). drop i old) n in
      ap₂ (λ (x : List A) (y : List A). (x ++ v) ++ y) t d ∙ ap (λ (x : List A). x ++ drop (at + length (w ++ v)) old) (append_assoc (take at old) w v)

  pub put_first : (at : ℕ) (v old : List A) {new : List A} (k : ℕ) → length v ≡ k → new ≡ put_at at v old → Put at k v old new
  put_first at v old k l e = record { long = l; is = e }

  pub put_next : {at k : ℕ} {w old new new' : List A} (v : List A) (k' at' : ℕ) → Put at k w old new → at + k ≤ length old → at' ≡ at + k → new' ≡ put_at at' v new → k + length v ≡ k' → Put at k' (w ++ v) old new'
  put_next {at} {k} {w} {old} v k' at' u h e q l =
      record {
        long = length-append w v ∙ ap (λ (i : ℕ). i + length v) u.long ∙ l;
        is = q ∙ ap₂ (λ (i : ℕ) (z : List A). put_at i v z) e u.is ∙ put_after at k w v old u.long h;
      }

  pub put_is : {at k : ℕ} {w old new : List A} (w' : List A) → Put at k w old new → w ≡ w' → new ≡ put_at at w' old
  put_is {at} {k} {w} {old} w' u e = u.is ∙ ap (λ (z : List A). put_at at z old) e

  pub put_all : {k : ℕ} {w old new : List A} (w' : List A) → Put 0 k w old new → w ≡ w' → new ≡ lay w' old
  put_all {k} {w} {old} w' u e = put_is w' u e ∙ ap (λ (i : ℕ). w' ++ drop i old) (zero-add (length w'))

  -- ---- a loop that copies s, of k places

  pub copied : (old s : List A) (at k i : ℕ) → length s ≡ k → i ≡ k → paste old at s i ≡ put_at at s old
  copied old s at k i e q = ap₂ (λ (l : List A) (j : ℕ). take at old ++ l ++ drop (at + j) old) (take_all i s (omega arith)) (q ∙ sym e)

  pub copy_next : (old new s : List A) (at i : ℕ) (v z : A) → at + i < length old → i < length s → new ≡ paste old at s i → v ≡ get_or s i z → set new (at + i) v ≡ paste old at s (i + 1)
  copy_next old new s at i v z h g e q = rw add-one (ap₂ (λ (l : List A) (a : A). set l (at + i) a) e q ∙ paste-suc old at s i z h g)

-- ---- numbers, one after the other

abbrev pub written : List ℕ → List ℕ
written l = join (map (bytes_of 8) l)

written_next : (l : List ℕ) (v : ℕ) → written (l ++ (v ∷ [])) ≡ written l ++ bytes_of 8 v
unfolding join
written_next l v = ap join (map-append (bytes_of 8) l (v ∷ [])) ∙ join-append (map (bytes_of 8) l) (bytes_of 8 v ∷ []) ∙ ap (λ (z : List ℕ). written l ++ z) (append-nil (bytes_of 8 v))

pub numbers_none : (at : ℕ) (l : List ℕ) {old : List ℕ} → Put at (0 * 8) (written (take 0 l)) old old
unfolding join
numbers_none at l {old} = record { long = refl; is = paste-zero old at [] }

pub numbers_more : (at i : ℕ) (l old out new : List ℕ) (k : ℕ) → Put at (i * 8) (written (take i l)) old out → i < length l → at + i * 8 ≤ length old → k ≡ get_or l i 0 → new ≡ put_at (at + i * 8) (bytes_of 8 k) out → Put at ((i + 1) * 8) (written (take (i + 1) l)) old new
numbers_more at i l old out new k u h room e q =
    let n : i * 8 + length (bytes_of 8 k) ≡ (i + 1) * 8 = omega (arith, bytes_length 8 k) in
    let w : written (take i l) ++ bytes_of 8 k ≡ written (take (i + 1) l) =
    ap (λ (j : ℕ). written (take i l) ++ bytes_of 8 j) e ∙ sym (ap (λ (j : ℕ). written (take j l)) (add-one i) ∙ ap written (take-suc l i 0 h) ∙ written_next (take i l) (get_or l i 0)) in
    let v = put_next (bytes_of 8 k) ((i + 1) * 8) (at + i * 8) u room refl q n in
    record { long = ap length (sym w) ∙ v.long; is = put_is (written (take (i + 1) l)) v w }

pub numbers_all : (at i : ℕ) (l old out : List ℕ) → length l ≤ i → Put at (i * 8) (written (take i l)) old out → out ≡ put_at at (written l) old
numbers_all at i l old out e u = put_is (written l) u (ap written (take_all i l e))

-- ---- what each function puts

-- the bytes of a number, copied over k places
pub bytes_put : (at k e v : ℕ) (old bytes new : List ℕ) → v < 256 ^ k → e ≡ at + k → bytes ≡ bytes_high_first k v → new ≡ bytes → put_mid at (e - at) old new ≡ put_at at (bytes_of k v) old
bytes_put at k e v old bytes new h f g q =
    let end : e ≡ at + length (bytes_of k v) = f ∙ ap (λ (i : ℕ). at + i) (sym (bytes_length k v)) in
    let rest = Post-is at e old (omega arith) ∙ ap (λ (i : ℕ). drop i old) end in
    sym (append_assoc (take at old) new _) ∙ ap₂ (λ (x : List ℕ) (y : List ℕ). (take at old ++ x) ++ y) (q ∙ g ∙ bytes_are k v h) rest

-- a count, and the numbers after it
pub counted_put : (at k : ℕ) (l old mid new : List ℕ) → length l ≡ k → at + (4 + k * 8) ≤ length old → mid ≡ put_at at (bytes_of 4 k) old → new ≡ put_at (at + 4) (written l) mid → new ≡ put_at at (section l) old
unfolding section
counted_put at k l old mid new n room e q =
    put_is (section l) (put_next (written l) (4 + length (written l)) (at + 4) (put_first at (bytes_of 4 k) old 4 (bytes_length 4 k) e) (omega arith) refl q refl) (ap (λ (i : ℕ). bytes_of 4 i ++ written l) (sym n))
