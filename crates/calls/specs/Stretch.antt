-- The three demands and requests d, g and k, of a stretch's call, and that a run in stretches is the run. `Called` is as in Filter, with where the
-- stretch goes on from (w), whether it is the last, and the part to save in, lent as save and left as save'. That every call does so is the contract
-- of stretch::stretch. `Ready` asks that numbers are doubles and saved numbers bytes, as those of a caller always are.
use Rattle.std.specs.Prelude.{◌≡◌, refl, ◌⊎◌, ◌↔◌, ℕ, ◌+◌, ◌*◌, ◌≤◌, ◌<◌, Bool, true, false, List, [], ◌∷◌, ◌++◌, map, length, get_or, set, take, drop, T, Float}
use Rattle.std.proofs.Common.{sym, ap, ap₂, ◌∙◌, subst}
use Rattle.std.specs.Float.{nan}
use Rattle.std.specs.Float.Ieee.Bits.{is_true}
use Rattle.definition.specs.Num.{is_finite, at}
use Rattle.definition.specs.Run.{lay}
use Rattle.definition.specs.Parts.{CovPart, MeanPart}
use Rattle.definition.specs.Inputs.{Model, Offsets}
use Rattle.definition.specs.Outcome.{CovParts, MeanParts, Counts, kinds_need, cov_need, mean_need}
use Rattle.definition.specs.Saved.{saved_need}
use Rattle.definition.specs.Stretch.{From, StretchOutcome, past_in, mean_told_in, roomy_stretch, stretch_outcome}
use Rattle.laws.specs.All.{AllOf, all_map}
use Rattle.laws.specs.Bytes.{Byte}
use Rattle.laws.specs.Cut.{lasting}
use Rattle.laws.specs.Entries.{copies}
use Rattle.laws.specs.Written.{cov_unit, mean_unit}
use Rattle.laws.specs.AcceptedStretch.{Ready, resume}
use Rattle.laws.specs.AcceptedStretch as accepted
use Rattle.demands.specs.Conditions.{SomeShort, First}
use Rattle.demands.specs.Values.{Alike}
use Rattle.demands.specs.Recorded.{Recorded, recorded_stretch}
use Rattle.demands.specs.Reports as report
use Rattle.demands.specs.WholeStretch.{start}
use Rattle.demands.specs.WholeStretch as alone
use Rattle.demands.specs.CutOnce.{Lent}
use Rattle.demands.specs.CutOnce as once
use Rattle.demands.specs.Cuts.{Piece, all_long, all_readings}
use Rattle.demands.specs.Cuts as many
use Rattle.demands.specs.StretchConditions.{RoomToo, stretch_table}
use Rattle.demands.specs.StretchRefusals as refusals
use Rattle.demands.proofs.StretchRefusals as tables
use Rattle.demands.specs.StretchValues.{Akin, from}
use Rattle.demands.specs.StretchValues as blind
use Rattle.demands.specs.StretchUnheard.{SavedLess}
use Rattle.demands.specs.StretchUnheard as unheard
use Rattle.demands.proofs.StretchUnheard as quiet
use Rattle.demands.proofs.Offsets as offset
use Rattle.demands.specs.Marked.{marking}
use Rattle.demands.specs.Marked as mark
use Rattle.demands.proofs.Marked as reached
use Rattle.demands.specs.Copies.{with_t}
use Rattle.demands.proofs.Copies as copied
use Rattle.promise.specs.Calls.{Outcome, PromiseStretch}
use Rattle.calls.specs.Seen as seen
use Rattle.calls.specs.Filter as filter

abbrev pub Called : Model → Offsets → From → Bool → List Float → CovParts → MeanParts → List ℕ → Outcome → CovParts → MeanParts → List ℕ → Type 0
Called x o w last y v v' save r b b' save' = PromiseStretch (stretch_outcome x o w last y v v' save) r b b' save'

-- the part to save in too
pub record Same (r s : Outcome) (b c : CovParts) (b' c' : MeanParts) (left left' : List ℕ) : Type 0 where
  pub filter : seen.Same r s b c b' c'
  pub save : left ≡ left'

same : {u v : StretchOutcome} {r s : Outcome} {b c : CovParts} {b' c' : MeanParts} {left left' : List ℕ} → PromiseStretch u r b b' left → PromiseStretch v s c c' left' → u ≡ v → Same r s b c b' c' left left'
same p q e =
    record {
      filter = seen.same p.filter q.filter (ap (λ (z : StretchOutcome). (z.cov, z.mean)) e);
      save = p.save ∙ ap (λ (z : StretchOutcome). z.save) e ∙ sym q.save;
    }

-- the call was not turned away: it answered, or refused with 12
abbrev pub Through : Outcome → Type 0
Through r = (seen.refusal_of r ≡ 0) ⊎ (seen.refusal_of r ≡ 12)

-- demand 3, second half: as Seen's; but where a later stretch judges refusal 12, there need be no news
pub record NoNews (y : List Float) (last : Bool) (r : Outcome) (b : CovParts) (k : ℕ) : Type 0 where
  pub read : T (is_finite (at y k))
  pub answers : seen.refusal_of r ≡ 0
  pub skip : 2 < get_or b.kinds k 0
  pub news : (0 < (seen.counts_of r).news) ⊎ (last ≡ false)

module _ (x : Model) (o : Offsets) (w : From) (last : Bool) (y : List Float) (v : CovParts) (v' : MeanParts) (save : List ℕ) {r : Outcome} {b : CovParts} {b' : MeanParts} {save' : List ℕ} (call : Called x o w last y v v' save r b b' save') where
  number_is : (k : ℕ) → seen.refusal_of r ≡ k → (stretch_outcome x o w last y v v' save).cov.refused ≡ k
  number_is k e = sym (seen.refusal_is call.filter) ∙ e

  -- demand 1: the first condition of document 02's table that applies, 0 where none does
  pub refuses : (k : ℕ) → (seen.refusal_of r ≡ k) ↔ First k (stretch_table x o w last y (RoomToo x last v v' save))
  refuses k =
      subst (λ (n : ℕ). (n ≡ k) ↔ First k (stretch_table x o w last y (RoomToo x last v v' save))) (sym (seen.refusal_is call.filter)) (tables.refuses x o w last y v v' save k)

  -- all but 12 write nothing
  pub keeps : (k : ℕ) → 0 < k → (k ≡ 12 → ⊥) → seen.refusal_of r ≡ k → seen.SameParts b v b' v' × (save' ≡ save)
  keeps k l n e =
      let s = refusals.keeps x o w last y v v' save k l n (number_is k e) in (seen.parts_are call.filter s.covs s.means, call.save ∙ s.saved)

  -- and 12 blanks, but saves nothing
  pub blanked : seen.refusal_of r ≡ 12 → seen.BlankParts x v b v' b' × (save' ≡ save)
  blanked e = let s = refusals.blanked x o w last y v v' save (number_is 12 e) in (seen.blanks call.filter s.0, call.save ∙ s.1)

  -- nor does the last stretch
  pub last_keeps : last ≡ true → save' ≡ save
  last_keeps e = call.save ∙ refusals.last_keeps x o w last y v v' save e

  -- and none writes past a saved run's length
  pub tail_keeps : Ready x o w → drop (saved_need x.m) save' ≡ drop (saved_need x.m) save
  tail_keeps ready = ap (drop (saved_need x.m)) call.save ∙ refusals.tail_keeps x o w last y v v' save ready

  -- request d, over the periods done and the stretch's
  pub never : T x.repeats → seen.refusal_of r ≡ 14 → ⊥
  never marked e = mark.never_stretch x marked o y v v' w last save (number_is 14 e)

  pub void : (a : Bool) → mark.Reaches x ((past_in x w).done + x.n) → {s : Outcome} {c : CovParts} {c' : MeanParts} {save'' : List ℕ} → Called (marking a x) o w last y v v' save s c c' save'' → Same r s b c b' c' save' save''
  void a reaches other = same call other (sym (reached.void_stretch x a o y v v' w last save reaches))

  -- demand 2: no room
  pub determined : {s : Outcome} {c : CovParts} {c' : MeanParts} {save'' : List ℕ} → Called x o w last y v v' save s c c' save'' → Same r s b c b' c' save' save''
  determined other = same call other refl

  -- the kinds in the records that it left
  pub recorded : seen.refusal_of r ≡ 0 → Recorded x y b.kinds
  recorded e = subst (Recorded x y) (sym call.filter.kinds) (recorded_stretch x o w last y v v' save (number_is 0 e))

  -- the reports: what was told before stays, and else they name what stands in the parts; the periods count from the run's first
  pub reports : seen.refusal_of r ≡ 0 → seen.Reported x (past_in x w).done (past_in x w).cov_off (mean_told_in x w) r b b'
  reports e = seen.reported call.filter e (report.reports_stretch x o w last y v v' save)

  -- request k: of calls past refusals 1 to 11, the offsets, the values of finite readings, and the saved mean, likelihood and mean report reach no later
  -- refusal, no count, no report on the covariances, no decision and no covariance. The parts lent to the means, and the part to save in, may be others too
  module _ (o' : Offsets) (bs : List ℕ) (akin : Akin x.p x.m x.r x.n w.saved bs) (y' : List Float) (alike : Alike y y') (u' : MeanParts) (also : List ℕ) {s : Outcome} {c : CovParts} {c' : MeanParts} {save'' : List ℕ} (other : Called x o' (from w.begins bs) last y' v u' also s c c' save'') where
    pub offsets : seen.Admitted r → seen.Admitted s → seen.Blind r s b c
    offsets h h' =
        seen.blind call.filter other.filter
        (offset.offsets_stretch x o o' y y' alike v v' u' w.begins last w.saved bs akin save also (seen.admitted call.filter h) (seen.admitted other.filter h'))

    -- and what is saved differs in those three alone: a stretch of any length may follow
    pub offsets_saved : last ≡ false → Ready x o w → Ready x o' (from w.begins bs) → seen.refusal_of r ≡ 0 → seen.Admitted s → (n : ℕ) → Akin x.p x.m x.r n (take (saved_need x.m) save') (take (saved_need x.m) save'')
    offsets_saved z ready ready' e h n =
        rw (call.save, other.save)
        (offset.offsets_saved x o o' y y' alike v v' u' w.begins last w.saved bs akin save also z ready ready' (number_is 0 e) (seen.admitted other.filter h) n)

  -- demand 3: with the same offsets, no refusal at all
  module _ (bs : List ℕ) (akin : Akin x.p x.m x.r x.n w.saved bs) (y' : List Float) (alike : Alike y y') {s : Outcome} {c : CovParts} {c' : MeanParts} {save'' : List ℕ} (other : Called x o (from w.begins bs) last y' v v' save s c c' save'') where
    pub values : seen.Blind r s b c
    values = seen.blind call.filter other.filter (blind.values x w.begins w.saved bs akin o last y y' alike v v' save)

    pub values_saved : last ≡ false → Ready x o w → AllOf Byte bs → seen.refusal_of r ≡ 0 → (n : ℕ) → Akin x.p x.m x.r n (take (saved_need x.m) save') (take (saved_need x.m) save'')
    values_saved z ready bytes e n =
        rw (call.save, other.save)
        (blind.values_saved x w.begins w.saved bs akin o last y y' alike v v' save z ready (record { p_star = ready.p_star; a1 = ready.a1; bytes = bytes }) (number_is 0 e) n)

  -- and a finite reading judged no news changes nothing: another finite number in its place leaves all as it was, the saved bytes too
  module _ (k : ℕ) (h : NoNews y last r b k) where
    unmoved : unheard.NoNews y last (stretch_outcome x o w last y v v' save).cov k
    unmoved =
        let e = number_is 0 h.answers in
        let n : seen.counts_of r ≡ (stretch_outcome x o w last y v v' save).cov.counts =
        seen.counts_are call.filter ∙ ap (λ (n : ℕ). seen.counts_by n (stretch_outcome x o w last y v v' save).cov.counts) e in
        record {
          read = h.read;
          answers = e;
          skip = subst (λ (l : List ℕ). 2 < get_or l k 0) call.filter.kinds h.skip;
          news = subst (λ (l : Counts). (0 < l.news) ⊎ (last ≡ false)) n h.news;
        }

    pub number : (f : Float) → T (is_finite f) → {s : Outcome} {c : CovParts} {c' : MeanParts} {save'' : List ℕ} → Called x o w last (set y k f) v v' save s c c' save'' → Same r s b c b' c' save' save''
    number f t other = same call other (sym ((quiet.no_news x o w last y v v' save k unmoved).number f t))

    -- a gap there leaves all but the count heard and the cause in its record
    module _ {s : Outcome} {c : CovParts} {c' : MeanParts} {save'' : List ℕ} (other : Called x o w last (set y k nan) v v' save s c c' save'') where
      pub gap : seen.OneLess r s × seen.SameButCause k b c b' c'
      gap = let u = quiet.no_news x o w last y v v' save k unmoved in seen.one_less_of call.filter other.filter (number_is 0 h.answers) u.gap_cov u.gap_mean

      -- in what is saved too
      pub gap_saved : last ≡ false → Ready x o w → SavedLess x.m (take (saved_need x.m) save') (take (saved_need x.m) save'')
      gap_saved z ready =
          let known = quiet.gap_saved x o w last y v v' save k unmoved z ready in
          subst (λ (l : List ℕ). SavedLess x.m (take (saved_need x.m) l) (take (saved_need x.m) save'')) (sym call.save)
          (subst (λ (l : List ℕ). SavedLess x.m (take (saved_need x.m) (stretch_outcome x o w last y v v' save).save) (take (saved_need x.m) l)) (sym other.save) known)

-- ---- request g: T given once, and as a list of copies of it, as long as the periods done and the stretch's or longer. Both calls come back with the
-- same, and leave the same

pub as_constant : (x : Model) (t : List Float) → length t ≡ x.m * x.m → (o : Offsets) (w : From) (last : Bool) (y : List Float) (v : CovParts) (v' : MeanParts) (save : List ℕ) (k : ℕ)
    → 0 < k → (past_in x w).done + x.n ≤ k → k ≤ 4096
    → {r s : Outcome} {b c : CovParts} {b' c' : MeanParts} {save' save'' : List ℕ}
    → Called (with_t t [] x) o w last y v v' save r b b' save' → Called (with_t [] (copies k t) x) o w last y v v' save s c c' save'' → Same r s b c b' c' save' save''
as_constant x t whole o w last y v v' save k some reach few once listed = same once listed (sym (copied.as_constant_stretch x t whole o y v v' w last save k some reach few))

-- ---- a stretch alone: where it begins, is the last, has a period and none of its lists is short, it is the filter's call. (Of a short list both are
-- turned away, but the filter's call looks at that before 3 to 11, a stretch after 15)

pub whole : (x : Model) (o : Offsets) (y : List Float) (v : CovParts) (v' : MeanParts) (save : List ℕ) → 0 < x.n → (SomeShort x x.n → ⊥)
    → {r s : Outcome} {b c : CovParts} {b' c' : MeanParts} {save' : List ℕ}
    → Called x o start true y v v' save r b b' save' → filter.Called x o y v v' s c c' → seen.Same r s b c b' c' × (save' ≡ save)
whole x o y v v' save some reaches call other =
    let e = alone.whole x o some reaches y v v' save in (
      seen.same call.filter other (ap (λ (z : StretchOutcome). (z.cov, z.mean)) e),
      call.save ∙ ap (λ (z : StretchOutcome). z.save) e,
    )

-- ---- no periods: what is saved is what was loaded

pub again : (x : Model) (o : Offsets) (bs : List ℕ) (v : CovParts) (v' : MeanParts) (save : List ℕ) → Ready (lasting 0 x) o (resume bs)
    → {r : Outcome} {b : CovParts} {b' : MeanParts} {save' : List ℕ}
    → Called (lasting 0 x) o (resume bs) false [] v v' save r b b' save' → seen.refusal_of r ≡ 0 → take (saved_need x.m) save' ≡ bs
again x o bs v v' save ready call e =
    ap (take (saved_need x.m)) call.save ∙ accepted.again x o bs v v' save ready (sym (seen.refusal_is call.filter) ∙ e)

-- ---- a run in stretches. Of each call, what it is lent and what it leaves stand together

abbrev pub Did : Model → Offsets → From → Bool → List Float → Lent → Outcome → Lent → Type 0
Did x o w last y v r b = Called x o w last y v.cov v.mean v.save r b.cov b.mean b.save

-- what it saved, and to go on from there
abbrev pub saved_in : Model → Lent → List ℕ
saved_in x b = take (saved_need x.m) b.save

abbrev pub on_from : Model → Lent → From
on_from x b = resume (saved_in x b)

abbrev pub RoomIn : Model → Bool → Lent → Type 0
RoomIn x last v = RoomToo x last v.cov v.mean v.save

room_is : (x : Model) (last : Bool) (v : Lent) → RoomIn x last v → roomy_stretch x last v.cov v.mean v.save ≡ true
room_is x last v h = is_true _ ((refusals.says_room_too x last v.cov v.mean v.save).from h)

-- One cut. The call over y ++ y' is lent u, comes back with r and leaves b; the early one, over y, comes back with a and leaves c; the late one, over
-- y' and from what the early one saved, comes back with s and leaves d. Then the early one answers, and the late one comes back with what the uncut one
-- came back with and saves its bytes; where that is an answer, each part of the uncut one is the early one's blocks, all of the late one's, its tail
pub record Joined (x : Model) (n k : ℕ) (last : Bool) (u : Lent) (r a s : Outcome) (b c d : Lent) : Type 0 where
  pub first : seen.refusal_of a ≡ 0
  pub bytes : AllOf Byte (saved_in x c)
  pub result : s ≡ r
  pub saved : last ≡ false → saved_in x d ≡ saved_in x b
  pub kinds : seen.refusal_of r ≡ 0 → b.cov.kinds ≡ lay (take (n * x.p) c.cov.kinds ++ take (kinds_need (lasting k x)) d.cov.kinds) u.cov.kinds
  pub covs : seen.refusal_of r ≡ 0 → (q : CovPart) → b.cov.part q ≡ lay (take (n * cov_unit x.p x.m q) (c.cov.part q) ++ take (cov_need (lasting k x) q) (d.cov.part q)) (u.cov.part q)
  pub means : seen.refusal_of r ≡ 0 → (q : MeanPart) → b.mean q ≡ lay (take (n * mean_unit x.p x.m q) (c.mean q) ++ take (mean_need (lasting k x) q) (d.mean q)) (u.mean q)

module _ (x : Model) (o : Offsets) (w : From) (n k : ℕ) (last : Bool) (y y' : List Float) (u e l : Lent) {r a s : Outcome} {b c d : Lent}
    (uncut : Did (lasting (n + k) x) o w last (y ++ y') u r b) (early : Did (lasting n x) o w false y e a c) (late : Did (lasting k x) o (on_from x c) last y' l s d) where
  pub cut : length y ≡ n * x.p → Ready x o w → RoomIn (lasting n x) false e → RoomIn (lasting k x) last l → Through r → Joined x n k last u r a s b c d
  cut fits ready roomE roomL through =
      let late' : Did (lasting k x) o (resume (once.handed x o w n k last y y' u e l)) last y' l s d =
      subst (λ (z : List ℕ). Did (lasting k x) o (resume (take (saved_need x.m) z)) last y' l s d) early.save late in
      let number = seen.refusal_is uncut.filter in
      let h : once.Cuts x o w n k last y y' u e l =
      record {
        fits = fits;
        ready = ready;
        passed = subst (λ (j : ℕ). (j ≡ 0) ⊎ (j ≡ 12)) number through;
        room_early = room_is (lasting n x) false e roomE;
        room_late = room_is (lasting k x) last l roomL;
      } in
      let t = once.cut_call x o w n k last y y' u e l h in
      record {
        first = seen.refusal_is early.filter ∙ t.first;
        bytes = subst (λ (z : List ℕ). AllOf Byte (take (saved_need x.m) z)) (sym early.save) t.bytes;
        result = seen.results_are late'.filter uncut.filter t.number t.counts t.cov_off t.loglik t.mean_off;
        saved = λ z. ap (take (saved_need x.m)) late'.save ∙ sym (t.saved z) ∙ ap (take (saved_need x.m)) (sym uncut.save);
        kinds = λ z. uncut.filter.kinds ∙ t.kinds (sym number ∙ z) ∙ ap₂ (λ (f g : List ℕ). lay (take (n * x.p) f ++ take (kinds_need (lasting k x)) g) u.cov.kinds) (sym early.filter.kinds) (sym late'.filter.kinds);
        covs = λ z q. uncut.filter.cov q ∙ t.covs (sym number ∙ z) q ∙ ap₂ (λ (f g : List Float). lay (take (n * cov_unit x.p x.m q) f ++ take (cov_need (lasting k x) q) g) (u.cov.part q)) (sym (early.filter.cov q)) (sym (late'.filter.cov q));
        means = λ z q. uncut.filter.mean q ∙ t.means (sym number ∙ z) q ∙ ap₂ (λ (f g : List Float). lay (take (n * mean_unit x.p x.m q) f ++ take (mean_need (lasting k x) q) g) (u.mean q)) (sym (early.filter.mean q)) (sym (late'.filter.mean q));
      }

-- ---- any number of cuts: the calls that were made one after another, each from what the one before saved

pub record Made : Type 0 where
  pub piece : Piece
  pub came : Outcome
  pub left : Lent

abbrev pub pieces : List Made → List Piece
pieces cs = map (λ (c : Made). c.piece) cs

abbrev pub long : List Made → Made → ℕ
long cs z = all_long (pieces cs) z.piece

-- a stretch has its readings, and room
pub record Fits (x : Model) (last : Bool) (c : Made) : Type 0 where
  pub readings : length c.piece.readings ≡ c.piece.long * x.p
  pub room : RoomIn (lasting c.piece.long x) last c.piece.lent

module _ (x : Model) where
  -- what they left in each part: the blocks of each, and all of the last one's
  abbrev pub kinds_left : List Made → Made → List ℕ
  kinds_left [] z = take (kinds_need (lasting z.piece.long x)) z.left.cov.kinds
  kinds_left (c ∷ cs) z = take (c.piece.long * x.p) c.left.cov.kinds ++ kinds_left cs z

  abbrev pub covs_left : List Made → Made → CovPart → List Float
  covs_left [] z q = take (cov_need (lasting z.piece.long x) q) (z.left.cov.part q)
  covs_left (c ∷ cs) z q = take (c.piece.long * cov_unit x.p x.m q) (c.left.cov.part q) ++ covs_left cs z q

  abbrev pub means_left : List Made → Made → MeanPart → List Float
  means_left [] z q = take (mean_need (lasting z.piece.long x) q) (z.left.mean q)
  means_left (c ∷ cs) z q = take (c.piece.long * mean_unit x.p x.m q) (c.left.mean q) ++ means_left cs z q

-- one call over all their readings comes back with r and leaves b. Then each before the last answers, and the last comes back with r and saves b's
-- bytes; where r is an answer, each part of b holds what they left
pub record OneRun (x : Model) (last : Bool) (cs : List Made) (z : Made) (r : Outcome) (b : Lent) : Type 0 where
  pub firsts : AllOf (λ (c : Made). seen.refusal_of c.came ≡ 0) cs
  pub result : z.came ≡ r
  pub saved : last ≡ false → saved_in x z.left ≡ saved_in x b
  pub kinds : seen.refusal_of r ≡ 0 → take (kinds_need (lasting (long cs z) x)) b.cov.kinds ≡ kinds_left x cs z
  pub covs : seen.refusal_of r ≡ 0 → (q : CovPart) → take (cov_need (lasting (long cs z) x) q) (b.cov.part q) ≡ covs_left x cs z q
  pub means : seen.refusal_of r ≡ 0 → (q : MeanPart) → take (mean_need (lasting (long cs z) x) q) (b.mean q) ≡ means_left x cs z q

module _ (x : Model) (o : Offsets) (last : Bool) where
  abbrev one : From → Bool → Made → Type 0
  one w final c = Did (lasting c.piece.long x) o w final c.piece.readings c.piece.lent c.came c.left

  -- cs and then z were called
  abbrev pub Chain : From → List Made → Made → Type 0
  Chain w [] z = one w last z
  Chain w (c ∷ cs) z = one w false c × Chain (on_from x c.left) cs z

  -- such calls, as the definition's outcomes
  record AsRuns (w : From) (cs : List Made) (z : Made) : Type 0 where
    answers : many.AnswersIn x o w (pieces cs) → AllOf (λ (c : Made). seen.refusal_of c.came ≡ 0) cs
    final : PromiseStretch (many.runs x o w last (pieces cs) z.piece) z.came z.left.cov z.left.mean z.left.save
    kinds : many.kinds_in x o w last (pieces cs) z.piece ≡ kinds_left x cs z
    covs : (q : CovPart) → many.covs_in x o w last (pieces cs) z.piece q ≡ covs_left x cs z q
    means : (q : MeanPart) → many.means_in x o w last (pieces cs) z.piece q ≡ means_left x cs z q

  as_runs : (w : From) (cs : List Made) (z : Made) → Chain w cs z → AsRuns w cs z
  as_runs w [] z h =
      record {
        answers = λ a. tt;
        final = h;
        kinds = ap (take (kinds_need (lasting z.piece.long x))) (sym h.filter.kinds);
        covs = λ q. ap (take (cov_need (lasting z.piece.long x) q)) (sym (h.filter.cov q));
        means = λ q. ap (take (mean_need (lasting z.piece.long x) q)) (sym (h.filter.mean q));
      }
  as_runs w (c ∷ cs) z h =
      let now = h.0 in
      let hands : on_from x c.left ≡ many.hands x o w c.piece = ap (λ (l : List ℕ). resume (take (saved_need x.m) l)) now.save in
      let t = subst (λ (f : From). AsRuns f cs z) hands (as_runs (on_from x c.left) cs z h.1) in
      record {
        answers = λ a. (seen.refusal_is now.filter ∙ a.0, t.answers a.1);
        final = t.final;
        kinds = ap₂ (λ (l : List ℕ) (rest : List ℕ). take (c.piece.long * x.p) l ++ rest) (sym now.filter.kinds) t.kinds;
        covs = λ q. ap₂ (λ (l : List Float) (rest : List Float). take (c.piece.long * cov_unit x.p x.m q) l ++ rest) (sym (now.filter.cov q)) (t.covs q);
        means = λ q. ap₂ (λ (l : List Float) (rest : List Float). take (c.piece.long * mean_unit x.p x.m q) l ++ rest) (sym (now.filter.mean q)) (t.means q);
      }

  module _ (w : From) (cs : List Made) (z : Made) (u : Lent) {r : Outcome} {b : Lent} (chain : Chain w cs z) (uncut : Did (lasting (long cs z) x) o w last (all_readings (pieces cs) z.piece) u r b) where
    pub cuts : Ready x o w → AllOf (Fits x false) cs → Fits x last z → Through r → OneRun x last cs z r b
    cuts ready fits fit through =
        let fitting : (final : Bool) (c : Made) → Fits x final c → many.Fits x final c.piece =
        λ final c f. record { readings = f.readings; room = room_is (lasting c.piece.long x) final c.piece.lent f.room } in
        let number = seen.refusal_is uncut.filter in
        let through' : many.Through x o last w (pieces cs) z.piece u = subst (λ (j : ℕ). (j ≡ 0) ⊎ (j ≡ 12)) number through in
        let s = many.cuts x o last w (pieces cs) z.piece u ready (all_map (many.Fits x false) (λ (c : Made). c.piece) cs (fitting false) fits) (fitting last z fit) through' in
        let t = as_runs w cs z chain in
        let zero : seen.refusal_of r ≡ 0 → (many.runs x o w last (pieces cs) z.piece).cov.refused ≡ 0 = λ e. s.number ∙ sym number ∙ e in
        record {
          firsts = t.answers s.firsts;
          result = seen.results_are t.final.filter uncut.filter s.number s.counts s.cov_off s.loglik s.mean_off;
          saved = λ e. ap (take (saved_need x.m)) t.final.save ∙ s.saved e ∙ ap (take (saved_need x.m)) (sym uncut.save);
          kinds = λ e. ap (take (kinds_need (lasting (long cs z) x))) uncut.filter.kinds ∙ sym (s.kinds (zero e)) ∙ t.kinds;
          covs = λ e q. ap (take (cov_need (lasting (long cs z) x) q)) (uncut.filter.cov q) ∙ sym (s.covs (zero e) q) ∙ t.covs q;
          means = λ e q. ap (take (mean_need (lasting (long cs z) x) q)) (uncut.filter.mean q) ∙ sym (s.means (zero e) q) ∙ t.means q;
        }

-- ---- a run in stretches from its start to its last period is the filter's call

pub as_filter : (x : Model) (o : Offsets) (cs : List Made) (z : Made) (v : CovParts) (v' : MeanParts) {r : Outcome} {b : CovParts} {b' : MeanParts}
    → Chain x o true start cs z → filter.Called (lasting (long cs z) x) o (all_readings (pieces cs) z.piece) v v' r b b'
    → 0 < long cs z → Ready x o start → AllOf (Fits x false) cs → Fits x true z → Through r → OneRun x true cs z r (record { cov = b; mean = b'; save = [] })
as_filter x o cs z v v' {r} {b} {b'} chain call some ready fits fit through =
    let y = all_readings (pieces cs) z.piece in
    let reaches = alone.reaches (lasting (long cs z) x) o y v v' (subst (λ (j : ℕ). (j ≡ 0) ⊎ (j ≡ 12)) (seen.refusal_is call) through) in
    let e = alone.whole (lasting (long cs z) x) o some reaches y v v' [] in
    let uncut = subst (λ (u : StretchOutcome). PromiseStretch u r b b' []) (sym e) (record { filter = call; save = refl }) in
    cuts x o true start cs z (record { cov = v; mean = v'; save = [] }) chain uncut ready fits fit through
