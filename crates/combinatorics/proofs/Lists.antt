-- Lists as finite sets, by a test of equality; the pigeonhole law. Assumes nothing.
use mathlib.Core.Bool.{Bool, true, false, not, ◌&&◌, cond}
use mathlib.Core.List.{List, [], ◌∷◌, ◌++◌, map}
use mathlib.Core.Logic.{◌⊎◌, inl, inr, ⊎_elim}
use mathlib.Core.Path.{◌≡◌, refl, sym, ap, ◌∙◌, subst}
use Prim.Native.Nat.{ℕ, suc, ◌+◌, ◌*◌, ◌≤◌, zero, ◌<◌}
use borrow.Author.Tests.{eqb-true, eq-eqb, not-true}
use lib.Dec.{eqb}
use lib.ListN.{length, length-append, get_or, take}
use native.Mathlib.Nat.{mul-le-mul_right}
use native.Mathlib.Numerals.{add-one-le}
use native.Mathlib.Omega.{arith}
use Rattle.combinatorics.proofs.Basics.{absurd_bool, or_cases, or_right, or_left, and_left, and_right, and_both}
use Rattle.combinatorics.proofs.Basics.{false_of, true_or_false}
use Rattle.combinatorics.specs.Lists.{filter, all, concat_map, same, is_in, distinct, any, occurrences, sum}

-- a test of equality for the elements of a list
pub record Equality (A : Type 0) : Type 0 where
  pub eq : A → A → Bool
  pub sound : (x y : A) → eq x y ≡ true → x ≡ y
  pub self : (x : A) → eq x x ≡ true

pub same_sound : {A : Type 0} (eq : A → A → Bool) → ((x y : A) → eq x y ≡ true → x ≡ y) → (xs ys : List A)
    → same eq xs ys ≡ true → xs ≡ ys
same_sound eq s [] [] e = refl
same_sound eq s [] (y ∷ ys) e = absurd_bool (sym e)
same_sound eq s (x ∷ xs) [] e = absurd_bool (sym e)
same_sound eq s (x ∷ xs) (y ∷ ys) e =
    let a : x ≡ y = s x y (and_left (eq x y) (same eq xs ys) e) in
    let b : xs ≡ ys = same_sound eq s xs ys (and_right (eq x y) _ e) in
    cc

pub same_self : {A : Type 0} (eq : A → A → Bool) → ((x : A) → eq x x ≡ true) → (xs : List A) → same eq xs xs ≡ true
same_self eq s [] = refl
same_self eq s (x ∷ xs) = and_both _ _ (s x) (same_self eq s xs)

pub length-filter_le : {A : Type 0} (q : A → Bool) (xs : List A) → length (filter q xs) ≤ length xs
length-filter_le q [] = omega arith
length-filter_le q (x ∷ xs) =
    let i = length-filter_le q xs in
    ⊎_elim (λ t. rw t (omega arith)) (λ f. rw f (omega arith)) (true_or_false (q x))

pub filter-append : {A : Type 0} (q : A → Bool) (xs ys : List A) → filter q (xs ++ ys) ≡ filter q xs ++ filter q ys
filter-append q [] ys = refl
filter-append q (x ∷ xs) ys = ⊎_elim
    (λ t. rw t (ap (λ l. x ∷ l) (filter-append q xs ys)))
    (λ f. rw f (filter-append q xs ys))
    (true_or_false (q x))

pub distinct_tail : {A : Type 0} (eq : A → A → Bool) (x : A) (xs : List A) → distinct eq (x ∷ xs) ≡ true
    → distinct eq xs ≡ true
distinct_tail eq x xs d = and_right (not (is_in eq x xs)) (distinct eq xs) d

pub distinct-out : {A : Type 0} (eq : A → A → Bool) (x : A) (xs : List A) → distinct eq (x ∷ xs) ≡ true
    → is_in eq x xs ≡ false
distinct-out eq x xs d = not-true (is_in eq x xs) (and_left (not (is_in eq x xs)) (distinct eq xs) d)

abbrev drop1 : {A : Type 0} → (A → A → Bool) → A → List A → List A
drop1 eq x [] = []
drop1 eq x (y ∷ ys) = cond (eq x y) ys (y ∷ drop1 eq x ys)

module _ {A : Type 0} (E : Equality A) where
  open E use {eq, sound, self}

  pub in_here : (x : A) (xs : List A) → is_in eq x (x ∷ xs) ≡ true
  in_here x xs = or_left _ _ (self x)

  pub in_first : (x y : A) (xs : List A) → x ≡ y → is_in eq x (y ∷ xs) ≡ true
  in_first x y xs e = subst (λ (z : A). is_in eq z (y ∷ xs) ≡ true) (sym e) (in_here y xs)

  pub in_later : (x y : A) (xs : List A) → is_in eq x xs ≡ true → is_in eq x (y ∷ xs) ≡ true
  in_later x y xs m = or_right (eq x y) _ m

  pub in_cases : (x y : A) (xs : List A) → is_in eq x (y ∷ xs) ≡ true → (x ≡ y) ⊎ (is_in eq x xs ≡ true)
  in_cases x y xs m = ⊎_elim (λ q. inl (sound x y q)) (λ q. inr q) (or_cases (eq x y) _ m)

  pub all_in : (q : A → Bool) (xs : List A) → all q xs ≡ true → (z : A) → is_in eq z xs ≡ true → q z ≡ true
  all_in q [] a z m = absurd_bool (sym m)
  all_in q (x ∷ xs) a z m =
      ⊎_elim (λ e. rw e (and_left (q x) _ a)) (λ n. all_in q xs (and_right (q x) _ a) z n) (in_cases z x xs m)

  pub in_all : (q : A → Bool) (xs : List A) → ((z : A) → is_in eq z xs ≡ true → q z ≡ true) → all q xs ≡ true
  in_all q [] h = refl
  in_all q (x ∷ xs) h = and_both _ _ (h x (in_here x xs)) (in_all q xs (λ z m. h z (in_later z x xs m)))

  pub any_in : (q : A → Bool) (xs : List A) → any q xs ≡ true → (x : A) × (is_in eq x xs ≡ true) × (q x ≡ true)
  any_in q [] e = absurd_bool (sym e)
  any_in q (x ∷ xs) e = ⊎_elim
      (λ h. (x, in_here x xs, h))
      (λ h. let i = any_in q xs h in (i.0, in_later i.0 x xs i.1, i.2))
      (or_cases (q x) (any q xs) e)

  pub in_any : (q : A → Bool) (x : A) (xs : List A) → is_in eq x xs ≡ true → q x ≡ true → any q xs ≡ true
  in_any q x [] m h = absurd_bool (sym m)
  in_any q x (y ∷ xs) m h = ⊎_elim
      (λ e. or_left (q y) (any q xs) (rw (← e) h))
      (λ n. or_right (q y) (any q xs) (in_any q x xs n h))
      (in_cases x y xs m)

  pub filter_cong : {q r : A → Bool} (xs : List A) → ((x : A) → is_in eq x xs ≡ true → q x ≡ r x)
      → filter q xs ≡ filter r xs
  filter_cong [] h = refl
  filter_cong {q} {r} (x ∷ xs) h = rw (h x (in_here x xs), filter_cong xs (λ z m. h z (in_later z x xs m)))

  pub filter-all : {q : A → Bool} (xs : List A) → ((x : A) → is_in eq x xs ≡ true → q x ≡ true) → filter q xs ≡ xs
  filter-all [] h = refl
  filter-all {q} (x ∷ xs) h = rw (h x (in_here x xs), filter-all xs (λ z m. h z (in_later z x xs m)))

  pub in_filter : (q : A → Bool) (x : A) (xs : List A) → is_in eq x xs ≡ true → q x ≡ true
      → is_in eq x (filter q xs) ≡ true
  in_filter q x [] m h = m
  in_filter q x (y ∷ ys) m h = ⊎_elim
      (λ e. rw (← e, h) (in_here x (filter q ys)))
      (λ n. ⊎_elim
      (λ t. rw t (in_later x y (filter q ys) (in_filter q x ys n h)))
      (λ f. rw f (in_filter q x ys n h))
      (true_or_false (q y)))
      (in_cases x y ys m)

  pub filter_in : (q : A → Bool) (x : A) (xs : List A) → is_in eq x (filter q xs) ≡ true
      → (is_in eq x xs ≡ true) × (q x ≡ true)
  filter_in q x [] m = absurd_bool (sym m)
  filter_in q x (y ∷ ys) m =
      ⊎_elim
      (λ t. ⊎_elim (λ e. (in_first x y ys e, rw e t)) (λ n. let i = filter_in q x ys n in (in_later x y ys i.0, i.1))
      (in_cases x y (filter q ys) (rw t at m)))
      (λ f. let i = filter_in q x ys (rw f at m) in (in_later x y ys i.0, i.1))
      (true_or_false (q y))

  pub distinct_filter : (q : A → Bool) (xs : List A) → distinct eq xs ≡ true → distinct eq (filter q xs) ≡ true
  distinct_filter q [] d = refl
  distinct_filter q (x ∷ xs) d =
      let i = distinct_filter q xs (distinct_tail eq x xs d) in
      let out : is_in eq x (filter q xs) ≡ false =
      false_of _ (λ m. absurd_bool (sym (filter_in q x xs m).0 ∙ distinct-out eq x xs d)) in
      ⊎_elim (λ t. rw t (rw out i)) (λ f. rw f i) (true_or_false (q x))

  pub in_append_left : (x : A) (xs ys : List A) → is_in eq x xs ≡ true → is_in eq x (xs ++ ys) ≡ true
  in_append_left x [] ys m = absurd_bool (sym m)
  in_append_left x (y ∷ xs) ys m = ⊎_elim
      (λ e. in_first x y (xs ++ ys) e)
      (λ n. in_later x y (xs ++ ys) (in_append_left x xs ys n))
      (in_cases x y xs m)

  pub in_append_right : (x : A) (xs ys : List A) → is_in eq x ys ≡ true → is_in eq x (xs ++ ys) ≡ true
  in_append_right x [] ys m = m
  in_append_right x (y ∷ xs) ys m = in_later x y (xs ++ ys) (in_append_right x xs ys m)

  pub append_in : (x : A) (xs ys : List A) → is_in eq x (xs ++ ys) ≡ true → (is_in eq x xs ≡ true) ⊎ (is_in eq x ys ≡ true)
  append_in x [] ys m = inr m
  append_in x (y ∷ xs) ys m =
      ⊎_elim (λ e. inl (in_first x y xs e))
      (λ n. ⊎_elim (λ a. inl (in_later x y xs a)) (λ b. inr b) (append_in x xs ys n))
      (in_cases x y (xs ++ ys) m)

  pub distinct_append : (xs ys : List A) → distinct eq xs ≡ true → distinct eq ys ≡ true
      → ((z : A) → is_in eq z xs ≡ true → is_in eq z ys ≡ true → ⊥)
      → distinct eq (xs ++ ys) ≡ true
  distinct_append [] ys d e h = e
  distinct_append (x ∷ xs) ys d e h =
      let out : is_in eq x xs ≡ false = distinct-out eq x xs d in
      let n : is_in eq x (xs ++ ys) ≡ false =
      false_of _ (λ m. ⊎_elim (λ a. absurd_bool (sym a ∙ out)) (λ b. h x (in_here x xs) b) (append_in x xs ys m))
      in
      rw n (distinct_append xs ys (distinct_tail eq x xs d) e (λ z a b. h z (in_later z x xs a) b))

  len_drop1 : (x : A) (ys : List A) → is_in eq x ys ≡ true → suc (length (drop1 eq x ys)) ≡ length ys
  len_drop1 x [] e = absurd_bool (sym e)
  len_drop1 x (y ∷ ys) e = ⊎_elim (λ t. rw t) (λ f. rw f (ap suc (len_drop1 x ys (rw f at e)))) (true_or_false (eq x y))

  in_drop1 : (z x : A) (ys : List A) → eq z x ≡ false → is_in eq z ys ≡ true → is_in eq z (drop1 eq x ys) ≡ true
  in_drop1 z x [] n e = e
  in_drop1 z x (y ∷ ys) n e = ⊎_elim
      (λ t. let m : eq z y ≡ false = rw (← sound x y t) n in rw t (rw m at e))
      (λ f. rw f (⊎_elim
      (λ s. in_first z y (drop1 eq x ys) s)
      (λ p. in_later z y (drop1 eq x ys) (in_drop1 z x ys n p))
      (in_cases z y ys e)))
      (true_or_false (eq x y))

  -- a list without repeats whose elements all stand in another list is no longer than it
  pub pigeon : (xs ys : List A) → distinct eq xs ≡ true → ((z : A) → is_in eq z xs ≡ true → is_in eq z ys ≡ true)
      → length xs ≤ length ys
  pigeon [] ys d s = omega arith
  pigeon (x ∷ xs) ys d s =
      let here : is_in eq x ys ≡ true = s x (in_here x xs) in
      let out : is_in eq x xs ≡ false = distinct-out eq x xs d in
      let ih : length xs ≤ length (drop1 eq x ys) = pigeon xs (drop1 eq x ys) (distinct_tail eq x xs d)
      (λ z m. in_drop1 z x ys
      (false_of (eq z x) (λ q. absurd_bool (sym (subst (λ (w : A). is_in eq w xs ≡ true) (sound z x q) m) ∙ out)))
      (s z (in_later z x xs m))) in
      omega (arith, len_drop1 x ys here)

  -- a list of at most one element has at most one member
  pub only_member : (x y : A) (xs : List A) → length xs ≤ 1 → is_in eq x xs ≡ true → is_in eq y xs ≡ true → x ≡ y
  only_member x y [] l m n = absurd_bool (sym m)
  only_member x y (z ∷ []) l m n = ⊎_elim
      (λ e. ⊎_elim (λ f. e ∙ sym f) (λ k. absurd_bool (sym k)) (in_cases y z [] n))
      (λ k. absurd_bool (sym k))
      (in_cases x z [] m)
  only_member x y (z ∷ w ∷ zs) l m n = absurd (omega arith)

  -- and if it has one, it is that member alone
  pub only-list : (x : A) (xs : List A) → length xs ≤ 1 → is_in eq x xs ≡ true → xs ≡ x ∷ []
  only-list x [] l m = absurd_bool (sym m)
  only-list x (z ∷ []) l m = rw (only_member x z (z ∷ []) l m (in_here z []))
  only-list x (z ∷ w ∷ zs) l m = absurd (omega arith)

  -- leaving out x, which stands in a list without repeats, makes it shorter by one
  pub length_without : (x : A) (xs : List A) → distinct eq xs ≡ true → is_in eq x xs ≡ true
      → suc (length (filter (λ y. not (eq x y)) xs)) ≡ length xs
  length_without x [] d m = absurd_bool (sym m)
  length_without x (y ∷ ys) d m =
      let out : is_in eq y ys ≡ false = distinct-out eq y ys d in
      ⊎_elim
      (λ t. rw t (ap (λ l. suc (length l))
      (filter-all ys
      (λ z n. rw (false_of (eq x z) (λ k. absurd_bool (sym (rw (← sound x z k, sound x y t) at n) ∙ out)))))))
      (λ f. rw f (omega (arith, length_without x ys (distinct_tail eq y ys d) (rw f at m))))
      (true_or_false (eq x y))

  -- a list no longer than a list without repeats whose elements it all has, has no repeats either
  pub distinct-within : (b a : List A) → distinct eq a ≡ true → ((z : A) → is_in eq z a ≡ true → is_in eq z b ≡ true)
      → length b ≤ length a → distinct eq b ≡ true
  distinct-within [] a d h l = refl
  distinct-within (x ∷ b) a d h l =
      let not-in-b : ((z : A) → is_in eq z a ≡ true → is_in eq z b ≡ true) → ⊥ = λ k. omega (arith, pigeon a b d k) in
      let out : is_in eq x b ≡ false =
      false_of _ (λ m. not-in-b (λ z n. ⊎_elim (λ e. rw e m) (λ k. k) (in_cases z x b (h z n)))) in
      let here : is_in eq x a ≡ true = ⊎_elim
      (λ t. t)
      (λ f. absurd (not-in-b (λ z n. ⊎_elim (λ e. absurd_bool (sym n ∙ (rw e f))) (λ k. k) (in_cases z x b (h z n)))))
      (true_or_false (is_in eq x a)) in
      rw out (distinct-within b (filter (λ y. not (eq x y)) a) (distinct_filter (λ y. not (eq x y)) a d)
      (λ z n.
      let w = filter_in (λ y. not (eq x y)) z a n in
      ⊎_elim
      (λ (e : z ≡ x). absurd_bool (sym (self x) ∙ (rw e at (not-true (eq x z) w.1))))
      (λ k. k)
      (in_cases z x b (h z w.0)))
      (omega (arith, length_without x a d here)))

-- as many elements pass a test as do not fail it
pub length_passing : {A : Type 0} (q : A → Bool) (xs : List A)
    → length (filter q xs) + length (filter (λ x. not (q x)) xs) ≡ length xs
length_passing q [] = omega arith
length_passing q (x ∷ xs) =
    let i = length_passing q xs in ⊎_elim (λ t. rw t (omega arith)) (λ f. rw f (omega arith)) (true_or_false (q x))

-- two filters, one after the other
pub filter-twice : {A : Type 0} (q r : A → Bool) (xs : List A) → filter q (filter r xs) ≡ filter (λ x. r x && q x) xs
filter-twice q r [] = refl
filter-twice q r (x ∷ xs) =
    let i = filter-twice q r xs in
    ⊎_elim
    (λ t. rw t (⊎_elim (λ u. rw u (ap (λ l. x ∷ l) i)) (λ u. rw u i) (true_or_false (q x))))
    (λ t. rw t i)
    (true_or_false (r x))

-- row k of m numbers lies in a buffer of so many rows
pub row_room : (k rows m long : ℕ) → k < rows → rows * m ≤ long → k * m + m ≤ long
row_room k rows m long l h = omega (arith, mul-le-mul_right m (add-one-le l))

-- the first numbers of a list up to one of them have no larger sum than those up to a later one
pub sums_rise : (xs : List ℕ) (i n : ℕ) → i < n → sum (take i xs) + get_or xs i 0 ≤ sum (take n xs)
sums_rise [] zero n h = omega arith
sums_rise [] (suc i) n h = omega arith
sums_rise (x ∷ xs) i zero h = absurd (omega arith)
sums_rise (x ∷ xs) zero (suc n) h = omega arith
sums_rise (x ∷ xs) (suc i) (suc n) h = omega (arith, sums_rise xs i n (omega arith))

module _ {A B : Type 0} (E : Equality A) (F : Equality B) where
  open E use {eq, sound, self}
  open F use {eq as eq_b}

  pub in_map : (f : A → B) (x : A) (xs : List A) → is_in eq x xs ≡ true → is_in eq_b (f x) (map f xs) ≡ true
  in_map f x [] m = absurd_bool (sym m)
  in_map f x (y ∷ ys) m = ⊎_elim
      (λ e. in_first F (f x) (f y) (map f ys) (ap f e))
      (λ n. in_later F (f x) (f y) (map f ys) (in_map f x ys n))
      (in_cases E x y ys m)

  pub map_in : (f : A → B) (b : B) (xs : List A) → is_in eq_b b (map f xs) ≡ true
      → (x : A) × (is_in eq x xs ≡ true) × (b ≡ f x)
  map_in f b [] m = absurd_bool (sym m)
  map_in f b (y ∷ ys) m = ⊎_elim
      (λ e. (y, in_here E y ys, e))
      (λ n. let i = map_in f b ys n in (i.0, in_later E i.0 y ys i.1, i.2))
      (in_cases F b (f y) (map f ys) m)

  -- a map that tells the elements of the list apart
  pub distinct-map : (f : A → B) (xs : List A)
      → ((x y : A) → is_in eq x xs ≡ true → is_in eq y xs ≡ true → f x ≡ f y → x ≡ y) → distinct eq xs ≡ true
      → distinct eq_b (map f xs) ≡ true
  distinct-map f [] h d = refl
  distinct-map f (x ∷ xs) h d =
      let out : is_in eq x xs ≡ false = distinct-out eq x xs d in
      let n : is_in eq_b (f x) (map f xs) ≡ false = false_of _ (λ m.
      let i = map_in f (f x) xs m in
      absurd_bool
      (sym (subst (λ (z : A). is_in eq z xs ≡ true) (sym (h x i.0 (in_here E x xs) (in_later E i.0 x xs i.1) i.2)) i.1)
      ∙ out)) in
      rw n (distinct-map f xs (λ a b p q. h a b (in_later E a x xs p) (in_later E b x xs q)) (distinct_tail eq x xs d))

  pub in_concat_map : (f : A → List B) (x : A) (b : B) (xs : List A) → is_in eq x xs ≡ true → is_in eq_b b (f x) ≡ true
      → is_in eq_b b (concat_map f xs) ≡ true
  in_concat_map f x b [] m n = absurd_bool (sym m)
  in_concat_map f x b (y ∷ ys) m n =
      ⊎_elim (λ e. in_append_left F b (f y) (concat_map f ys) (subst (λ (z : A). is_in eq_b b (f z) ≡ true) e n))
      (λ k. in_append_right F b (f y) (concat_map f ys) (in_concat_map f x b ys k n)) (in_cases E x y ys m)

  pub concat_map_in : (f : A → List B) (b : B) (xs : List A) → is_in eq_b b (concat_map f xs) ≡ true
      → (x : A) × (is_in eq x xs ≡ true) × (is_in eq_b b (f x) ≡ true)
  concat_map_in f b [] m = absurd_bool (sym m)
  concat_map_in f b (y ∷ ys) m =
      ⊎_elim (λ n. (y, in_here E y ys, n))
      (λ n. let i = concat_map_in f b ys n in (i.0, in_later E i.0 y ys i.1, i.2))
      (append_in F b (f y) (concat_map f ys) m)

  -- groups without repeats that share nothing
  pub distinct-concat_map : (f : A → List B) (xs : List A) → distinct eq xs ≡ true
      → ((x : A) → is_in eq x xs ≡ true → distinct eq_b (f x) ≡ true)
      → ((x y : A) (b : B) → is_in eq x xs ≡ true → is_in eq y xs ≡ true → is_in eq_b b (f x) ≡ true
      → is_in eq_b b (f y) ≡ true → x ≡ y)
      → distinct eq_b (concat_map f xs) ≡ true
  distinct-concat_map f [] d e h = refl
  distinct-concat_map f (x ∷ xs) d e h =
      let out : is_in eq x xs ≡ false = distinct-out eq x xs d in
      distinct_append F (f x) (concat_map f xs) (e x (in_here E x xs))
      (distinct-concat_map f xs (distinct_tail eq x xs d)
      (λ z m. e z (in_later E z x xs m))
      (λ a b c p q. h a b c (in_later E a x xs p) (in_later E b x xs q)))
      (λ z a b.
      let i = concat_map_in f z xs b in
      absurd_bool
      (sym
      (subst (λ (w : A). is_in eq w xs ≡ true) (sym (h x i.0 z (in_here E x xs) (in_later E i.0 x xs i.1) a i.2)) i.1)
      ∙ out))

  pub length-concat_map : (k : ℕ) (f : A → List B) (xs : List A) → ((x : A) → is_in eq x xs ≡ true → length (f x) ≡ k)
      → length (concat_map f xs) ≡ length xs * k
  length-concat_map k f [] h = omega arith
  length-concat_map k f (x ∷ xs) h =
      let a : length (f x) ≡ k = h x (in_here E x xs) in
      let b : length (concat_map f xs) ≡ length xs * k = length-concat_map k f xs (λ z m. h z (in_later E z x xs m)) in
      rw length-append (omega arith)

pub eqb_self : (x : ℕ) → eqb x x ≡ true
eqb_self x = eq-eqb x x refl

abbrev pub on_numbers : Equality ℕ
on_numbers = record { eq = eqb; sound = eqb-true; self = eqb_self }

pub at_all : (q : ℕ → Bool) (l : List ℕ) (j : ℕ) → all q l ≡ true → j < length l → q (get_or l j 0) ≡ true
at_all q [] j a c = absurd (omega arith)
at_all q (x ∷ l) zero a c = and_left (q x) (all q l) a
at_all q (x ∷ l) (suc j) a c = at_all q l j (and_right (q x) (all q l) a) (omega arith)

-- each number of a list at most once
pub once-distinct : (o : List ℕ) → ((x : ℕ) → is_in eqb x o ≡ true → occurrences x o ≤ 1) → distinct eqb o ≡ true
once-distinct [] h = refl
once-distinct (x ∷ o) h =
    let c : occurrences x (x ∷ o) ≤ 1 = h x (in_here on_numbers x o) in
    let c1 : suc (occurrences x o) ≤ 1 = rw (eqb_self x) at c in
    let out : is_in eqb x o ≡ false = false_of _ (λ m. absurd (omega (arith, positive x o m))) in
    rw out (once-distinct o (λ z m. omega (arith, h z (in_later on_numbers z x o m), fewer z x o)))
  where
    positive : (x : ℕ) (o : List ℕ) → is_in eqb x o ≡ true → 0 < occurrences x o
    positive x [] m = absurd_bool (sym m)
    positive x (y ∷ o) m =
        ⊎_elim (λ t. rw t (omega arith)) (λ f. rw f (positive x o (rw f at m))) (true_or_false (eqb x y))

    fewer : (z x : ℕ) (o : List ℕ) → occurrences z o ≤ occurrences z (x ∷ o)
    fewer z x o = ⊎_elim (λ t. rw t (omega arith)) (λ f. rw f (omega arith)) (true_or_false (eqb z x))

pub all_cong : {A : Type 0} (q r : A → Bool) (xs : List A) → ((x : A) → q x ≡ r x) → all q xs ≡ all r xs
all_cong q r [] h = refl
all_cong q r (x ∷ xs) h = rw (h x, all_cong q r xs h)

-- lists of what has a test of equality have one
abbrev pub on_lists : {A : Type 0} → Equality A → Equality (List A)
on_lists E = record { eq = same E.eq; sound = same_sound E.eq E.sound; self = same_self E.eq E.self }

-- what an element of a list is mapped to
pub mapped_at : {A : Type 0} (f : A → ℕ) (d : A) (l : List A) (j : ℕ) → j < length l
    → get_or (map f l) j 0 ≡ f (get_or l j d)
mapped_at f d [] j l = absurd (omega arith)
mapped_at f d (x ∷ xs) zero l = refl
mapped_at f d (x ∷ xs) (suc j) l = mapped_at f d xs j (omega arith)
