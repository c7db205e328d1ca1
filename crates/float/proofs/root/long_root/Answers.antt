-- A turn takes a digit, 1 where what is left allows it and else 0.
use mathlib.Core.Path.{◌≡◌, subst}
use Prim.Native.Nat.{ℕ}
use native.Mathlib.Omega.{arith}
use Rattle.float.proofs.Digits.{Step, start, stay, take, bound, done, moved}
use Rattle.float.proofs.root.long_root.Goals as goal
use Rattle.float.proofs.root.long_root.Goals.{then-t-r, else-t-r}

pub loop-init : goal.loop-init
loop-init c = (omega arith, start c.args.m c.requires)

pub overflow_mul-t : goal.overflow_mul-t
overflow_mul-t c = let h = bound c.args.m c.loop.q c.loop.r c.loop.w c.loop.counter c.loop.invariant.1 c.loop.invariant.0 in let s = c.loop.invariant.1 in let a = s.rest in let b = s.ahead in omega arith

pub overflow_add-t : goal.overflow_add-t
overflow_add-t c = let h = bound c.args.m c.loop.q c.loop.r c.loop.w c.loop.counter c.loop.invariant.1 c.loop.invariant.0 in let s = c.loop.invariant.1 in let a = s.rest in let b = s.ahead in omega arith

pub overflow_mul-r : goal.overflow_mul-r
overflow_mul-r c = let h = bound c.args.m c.loop.q c.loop.r c.loop.w c.loop.counter c.loop.invariant.1 c.loop.invariant.0 in let s = c.loop.invariant.1 in let a = s.rest in let b = s.ahead in omega arith

pub overflow_add-r : goal.overflow_add-r
overflow_add-r c = let h = bound c.args.m c.loop.q c.loop.r c.loop.w c.loop.counter c.loop.invariant.1 c.loop.invariant.0 in let s = c.loop.invariant.1 in let a = s.rest in let b = s.ahead in omega arith

pub overflow_mul-q : goal.overflow_mul-q
overflow_mul-q c = let h = bound c.args.m c.loop.q c.loop.r c.loop.w c.loop.counter c.loop.invariant.1 c.loop.invariant.0 in let s = c.loop.invariant.1 in let a = s.rest in let b = s.ahead in omega arith

pub overflow_add-q : goal.overflow_add-q
overflow_add-q c = let h = bound c.args.m c.loop.q c.loop.r c.loop.w c.loop.counter c.loop.invariant.1 c.loop.invariant.0 in let s = c.loop.invariant.1 in let a = s.rest in let b = s.ahead in omega arith

pub loop-preserved : goal.loop-preserved
loop-preserved c =
    let m = c.args.m in
    let w = c.loop.w in
    let q = c.loop.q in
    let r = c.loop.r in
    let i = c.loop.counter in (
      omega arith,
      elim c.if-t-r.branch [
        | then-t-r b ↦ moved b.q-is b.r-is (take m q r w i c.loop.invariant.1 b.if-t-r.true)
        | else-t-r b ↦ moved b.q-is b.r-is (stay m q r w i c.loop.invariant.1 b.if-t-r.false)
      ],
    )

pub returns : goal.returns
returns c =
    let e : c.loop.counter ≡ 54 = omega arith in
    done c.args.m c.loop.q c.loop.r c.loop.w (subst (λ (i : ℕ). Step c.args.m c.loop.q c.loop.r c.loop.w i) e c.loop.invariant.1)
