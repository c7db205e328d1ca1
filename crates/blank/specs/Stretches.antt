-- The stretch of each lent part that a run needs, and that it holds zeros.
use Rattle.std.specs.Prelude.{◌≡◌, ℕ, ◌+◌, ◌*◌, ◌≤◌, List, replicate, Float}
use Rattle.std.proofs.Common.{mul-le-mul}
use Rattle.definition.specs.Num.{zeros}
use Rattle.definition.specs.Run.{lay}

-- the sizes, and the needed stretch of each part
pub record Sizes (p m n : ℕ) : Type 0 where
  pub p8 : p ≤ 8
  pub m8 : m ≤ 8
  pub n4096 : n ≤ 4096

-- the stretches' lengths are small
pub record Small (p m n : ℕ) : Type 0 where
  pub pm : p * m ≤ 64
  pub mm : m * m ≤ 64

pub small : {p m n : ℕ} → Sizes p m n → Small p m n
small {p} {m} {n} s =
    let pm : p * m ≤ 64 = mul-le-mul {n₁ = p} {m₁ = m} {n₂ = 8} {m₂ = 8} s.p8 s.m8 in
    let mm : m * m ≤ 64 = mul-le-mul {n₁ = m} {m₁ = m} {n₂ = 8} {m₂ = 8} s.m8 s.m8 in
    record {
      pm = pm;
      mm = mm;
    }

pub record MeanRoom (p m n : ℕ) (pm fm vs : ℕ) : Type 0 where
  pub sizes : Sizes p m n
  pub pred : n * m + m ≤ pm
  pub filt : n * m ≤ fm
  pub v : n * p ≤ vs

pub record CovRoom (p m n : ℕ) (pc pi fc : ℕ) : Type 0 where
  pub sizes : Sizes p m n
  pub pred : n * (m * m) + m * m ≤ pc
  pub pred_inf : n * (m * m) + m * m ≤ pi
  pub filt : n * (m * m) ≤ fc

pub record RecordRoom (p m n : ℕ) (ks fs fi ms mi : ℕ) : Type 0 where
  pub sizes : Sizes p m n
  pub kinds : n * p ≤ ks
  pub f_star : n * p ≤ fs
  pub f_inf : n * p ≤ fi
  pub m_star : n * (p * m) ≤ ms
  pub m_inf : n * (p * m) ≤ mi

pub record SmoothedRoom (p m n : ℕ) (sm sc : ℕ) : Type 0 where
  pub sizes : Sizes p m n
  pub mean : n * m ≤ sm
  pub cov : n * (m * m) ≤ sc

-- and that it holds zeros; the tail is as it was
pub record MeanBlank (p m n : ℕ) (pm₀ pm fm₀ fm vs₀ vs : List Float) : Type 0 where
  pub pred : pm ≡ lay (zeros (n * m + m)) pm₀
  pub filt : fm ≡ lay (zeros (n * m)) fm₀
  pub v : vs ≡ lay (zeros (n * p)) vs₀

pub record CovBlank (m n : ℕ) (pc₀ pc pi₀ pi fc₀ fc : List Float) : Type 0 where
  pub pred : pc ≡ lay (zeros (n * (m * m) + m * m)) pc₀
  pub pred_inf : pi ≡ lay (zeros (n * (m * m) + m * m)) pi₀
  pub filt : fc ≡ lay (zeros (n * (m * m))) fc₀

pub record RecordBlank (p m n : ℕ) (ks₀ ks : List ℕ) (fs₀ fs fi₀ fi ms₀ ms mi₀ mi : List Float) : Type 0 where
  pub kinds : ks ≡ lay (replicate (n * p) 0) ks₀
  pub f_star : fs ≡ lay (zeros (n * p)) fs₀
  pub f_inf : fi ≡ lay (zeros (n * p)) fi₀
  pub m_star : ms ≡ lay (zeros (n * (p * m))) ms₀
  pub m_inf : mi ≡ lay (zeros (n * (p * m))) mi₀

pub record SmoothedBlank (m n : ℕ) (sm₀ sm sc₀ sc : List Float) : Type 0 where
  pub mean : sm ≡ lay (zeros (n * m)) sm₀
  pub cov : sc ≡ lay (zeros (n * (m * m))) sc₀
