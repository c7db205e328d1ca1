-- Cases in which a test meets its tolerance exactly, so that > and ≥ part (document 01, "Easy to get wrong", 4), or in which two tests could name the
-- cause of a skip. One theorem, by computation.
-- Each row: a call's inputs, and what it must come to: a refusal before the run, or 0, and then the records' kinds, whatever the finite readings are.
use Rattle.std.specs.Prelude.{ℕ, true, false, List, [], ◌∷◌, map, length, replicate, T, Float}
use Rattle.std.specs.Float.{binary64}
use Rattle.std.specs.Float.Ieee.{neg, of_bits}
use Rattle.definition.specs.Num.{0ᶠ, 1ᶠ, half, suspect_tol, ◌⊗◌, zeros}
use Rattle.definition.specs.Run.{join}
use Rattle.definition.specs.Inputs.{Model, Offsets, Class, gap, finite}
use Rattle.definition.specs.Refusals.{refusal}
use Rattle.definition.specs.Parts.{kind_no}
use Rattle.definition.specs.Outcome.{cov_of, decisions_of}
use Rattle.definition.specs.Computed.{hold, opened}

record Edge : Type 0 where
  m : ℕ
  p : ℕ
  n : ℕ
  z : List Float
  h : List Float
  t : List Float
  p_star : List Float
  flags : List ℕ
  readings : List Class

-- one disturbance that moves nothing; no intercepts; a start mean of 0
abbrev model_of : Edge → Model
model_of e =
    record {
      p = e.p;
      m = e.m;
      r = 1;
      n = e.n;
      z_once = e.z;
      z_list = [];
      repeats = false;
      h = e.h;
      t_once = e.t;
      t_list = [];
      rr = zeros e.m;
      q = 1ᶠ ∷ [];
      flags = e.flags;
      p_star = e.p_star;
    }

abbrev came : Edge → List ℕ
came e =
    let x = model_of e in
    let o : Offsets = record { c = zeros e.m; d = zeros e.p; a1 = zeros e.m } in
    refusal x o (length e.readings) false true ∷ map kind_no (join (decisions_of (cov_of x e.readings).0))

abbrev -1ᶠ : Float
-1ᶠ = neg 1ᶠ

abbrev both : List Class
both = finite ∷ finite ∷ []

-- F* = h at 1e-10 of its scale, 4 + h: the four terms of z P* z' cancel. Too small
abbrev scaled_edge : Edge
scaled_edge =
    record {
      m = 2;
      p = 1;
      n = 1;
      z = 1ᶠ ∷ 1ᶠ ∷ [];
      h = of_bits binary64 0x3dfb7cdfd9e38c0c ∷ [];
      t = zeros 4;
      p_star = 1ᶠ ∷ -1ᶠ ∷ -1ᶠ ∷ 1ᶠ ∷ [];
      flags = 0 ∷ 0 ∷ [];
      readings = finite ∷ [];
    }

-- F∞ = g g at 1e-10 of its scale, 2 + g g: the first element resolves what the first two states have in common. Usual, not diffuse
abbrev diffuse_edge : Edge
diffuse_edge =
    record {
      m = 3;
      p = 2;
      n = 1;
      z = 1ᶠ ∷ 1ᶠ ∷ 0ᶠ ∷ 1ᶠ ∷ 1ᶠ ∷ of_bits binary64 0x3eeda88051f0e26f ∷ [];
      h = 1ᶠ ∷ 0ᶠ ∷ 0ᶠ ∷ 1ᶠ ∷ [];
      t = zeros 9;
      p_star = zeros 9;
      flags = 1 ∷ 1 ∷ 1 ∷ [];
      readings = both;
    }

-- F by the root of P∞, g g, at 1e-14 of the unresolved 1 + g g: the first element resolves the first state. Usual, not diffuse
abbrev root_edge : Edge
root_edge =
    record {
      m = 2;
      p = 2;
      n = 1;
      z = 1ᶠ ∷ 0ᶠ ∷ 1ᶠ ∷ of_bits binary64 0x3e7ad7f29abcaf6e ∷ [];
      h = 1ᶠ ∷ 0ᶠ ∷ 0ᶠ ∷ 1ᶠ ∷ [];
      t = zeros 4;
      p_star = zeros 4;
      flags = 1 ∷ 1 ∷ [];
      readings = both;
    }

-- F* = h at 1e-14 of the reference, 1 + h, in a diffuse period: the first element pins the state that both see. Below
abbrev below_edge : Edge
below_edge =
    record {
      m = 2;
      p = 2;
      n = 1;
      z = 1ᶠ ∷ 0ᶠ ∷ 1ᶠ ∷ 0ᶠ ∷ [];
      h = 0ᶠ ∷ 0ᶠ ∷ 0ᶠ ∷ of_bits binary64 0x3d06849b86a12bda ∷ [];
      t = zeros 4;
      p_star = 1ᶠ ∷ 0ᶠ ∷ 0ᶠ ∷ 0ᶠ ∷ [];
      flags = 0 ∷ 1 ∷ [];
      readings = both;
    }

-- F* = 2 b at 1e-6 of the bound's square, 1: suspect, and failed by the root, which does not see the indefinite part of P*
abbrev bound_edge : Edge
bound_edge =
    let b = half ⊗ suspect_tol in
    record {
      m = 3;
      p = 2;
      n = 1;
      z = 1ᶠ ∷ 0ᶠ ∷ 0ᶠ ∷ 1ᶠ ∷ 1ᶠ ∷ 1ᶠ ∷ [];
      h = zeros 4;
      t = zeros 9;
      p_star = 1ᶠ ∷ 0ᶠ ∷ 0ᶠ ∷ 0ᶠ ∷ 0ᶠ ∷ b ∷ 0ᶠ ∷ b ∷ 0ᶠ ∷ [];
      flags = 0 ∷ 0 ∷ 0 ∷ [];
      readings = both;
    }

-- F* = 2 b at 1e-6 of the reference, 2 + 2 b, and below that of the bound's square, 4: suspect, and failed likewise
abbrev suspect_edge : Edge
suspect_edge =
    let b = of_bits binary64 0x3eb0c6f8ba2f9811 in
    record {
      m = 4;
      p = 2;
      n = 1;
      z = 1ᶠ ∷ 1ᶠ ∷ 0ᶠ ∷ 0ᶠ ∷ replicate 4 1ᶠ;
      h = zeros 4;
      t = zeros 16;
      p_star = 1ᶠ ∷ 0ᶠ ∷ 0ᶠ ∷ 0ᶠ ∷ 0ᶠ ∷ 1ᶠ ∷ 0ᶠ ∷ 0ᶠ ∷ 0ᶠ ∷ 0ᶠ ∷ 0ᶠ ∷ b ∷ 0ᶠ ∷ 0ᶠ ∷ b ∷ 0ᶠ ∷ [];
      flags = 0 ∷ 0 ∷ 0 ∷ 0 ∷ [];
      readings = both;
    }

-- F by the replayed root, h, at 1e-14 of the reference, 1 + 2 b + h, of a suspect: failed
abbrev replay_edge : Edge
replay_edge =
    let b = of_bits binary64 0x3e10000000000000 in
    record {
      m = 3;
      p = 2;
      n = 1;
      z = 1ᶠ ∷ 0ᶠ ∷ 0ᶠ ∷ 1ᶠ ∷ 1ᶠ ∷ 1ᶠ ∷ [];
      h = 0ᶠ ∷ 0ᶠ ∷ 0ᶠ ∷ of_bits binary64 0x3d06849b875550b7 ∷ [];
      t = zeros 9;
      p_star = 1ᶠ ∷ 0ᶠ ∷ 0ᶠ ∷ 0ᶠ ∷ 0ᶠ ∷ b ∷ 0ᶠ ∷ b ∷ 0ᶠ ∷ [];
      flags = 0 ∷ 0 ∷ 0 ∷ [];
      readings = both;
    }

-- P∞'s sum of squares at 1e-10 in the second period, after a gap: no longer diffuse, so its element is usual
abbrev washed_edge : Edge
washed_edge =
    record {
      m = 2;
      p = 1;
      n = 2;
      z = 1ᶠ ∷ 1ᶠ ∷ [];
      h = 1ᶠ ∷ [];
      t = of_bits binary64 0x3f64ba5d5cd4b2cf ∷ 0ᶠ ∷ 0ᶠ ∷ of_bits binary64 0x3f66b47fcb3484ac ∷ [];
      p_star = zeros 4;
      flags = 1 ∷ 1 ∷ [];
      readings = gap ∷ finite ∷ [];
    }

-- F* = 0, after an element that pins the state: against its scale, 0, and against the reference, 1. Named for its scale
abbrev both_edge : Edge
both_edge =
    record {
      m = 1;
      p = 2;
      n = 1;
      z = 1ᶠ ∷ 1ᶠ ∷ [];
      h = zeros 4;
      t = zeros 1;
      p_star = 1ᶠ ∷ [];
      flags = 0 ∷ [];
      readings = both;
    }

-- F* and its scale overflow, and P* does not: too small
abbrev vast_edge : Edge
vast_edge =
    record {
      m = 1;
      p = 1;
      n = 1;
      z = of_bits binary64 0x7fe0000000000000 ∷ [];
      h = 1ᶠ ∷ [];
      t = zeros 1;
      p_star = 1ᶠ ∷ [];
      flags = 0 ∷ [];
      readings = finite ∷ [];
    }

abbrev rows : List (List ℕ × List ℕ)
rows =
    (came scaled_edge, 0 ∷ 3 ∷ [])
    ∷ (came diffuse_edge, 0 ∷ 2 ∷ 1 ∷ [])
    ∷ (came root_edge, 0 ∷ 2 ∷ 1 ∷ [])
    ∷ (came below_edge, 0 ∷ 1 ∷ 4 ∷ [])
    ∷ (came bound_edge, 0 ∷ 1 ∷ 5 ∷ [])
    ∷ (came suspect_edge, 0 ∷ 1 ∷ 5 ∷ [])
    ∷ (came replay_edge, 0 ∷ 1 ∷ 5 ∷ [])
    ∷ (came washed_edge, 0 ∷ 0 ∷ 1 ∷ [])
    ∷ (came both_edge, 0 ∷ 1 ∷ 3 ∷ [])
    ∷ (came vast_edge, 0 ∷ 3 ∷ [])
    ∷ []

pub edges : T (hold rows)
unfolding opened
edges = tt
