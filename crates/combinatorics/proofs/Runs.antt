-- Lists in which each element and the next are related. Assumes nothing.
use mathlib.Core.List.{List, [], ◌∷◌, ◌++◌, map}
use mathlib.Core.Path.{◌≡◌, refl}
use Prim.Native.Nat.{ℕ, zero, suc, ◌<◌}
use lib.ListN.{length, get_or}
use native.Mathlib.Omega.{arith}

-- from the first element to the last
pub data Run {A : Type 0} (next : A → A → Type 0) : A → List A → A → Type 0 where
  one : {x : A} → Run next x (x ∷ []) x
  more : {x y z : A} {ys : List A} → next x y → Run next y ys z → Run next x (x ∷ ys) z

pub run-append : {A : Type 0} (next : A → A → Type 0) {a b c d : A} {xs ys : List A} → Run next a xs b → next b c
    → Run next c ys d
    → Run next a (xs ++ ys) d
run-append next one n s = more n s
run-append next (more m r) n s = more m (run-append next r n s)

pub run-map : {A B : Type 0} (next : A → A → Type 0) (then : B → B → Type 0) (f : A → B)
    → ((x y : A) → next x y → then (f x) (f y)) → {a b : A} {xs : List A} → Run next a xs b
    → Run then (f a) (map f xs) (f b)
run-map next then f h one = one
run-map next then f h (more {x} {y} n r) = more (h x y n) (run-map next then f h r)

pub run-first : {A : Type 0} (next : A → A → Type 0) (d : A) {a b : A} {xs : List A} → Run next a xs b → get_or xs 0 d ≡ a
run-first next d one = refl
run-first next d (more n r) = refl

pub run_at : {A : Type 0} (next : A → A → Type 0) (d : A) {a b : A} {xs : List A} → Run next a xs b → (k : ℕ)
    → suc k < length xs
    → next (get_or xs k d) (get_or xs (suc k) d)
run_at next d one k h = absurd (omega arith)
run_at next d (more n one) zero h = n
run_at next d (more n (more m r)) zero h = n
run_at next d (more n r) (suc k) h = run_at next d r k (omega arith)
