-- The numbers of a refinement tell its answer: the facts of its levels tell these, and behind them stands no level.
-- Assumes nothing.
use mathlib.Core.List.{List, [], ◌∷◌, map}
use mathlib.Core.Logic.{⊎_elim}
use mathlib.Core.Path.{◌≡◌, refl, sym, ap, ◌∙◌}
use Prim.Native.Nat.{ℕ, zero, suc, ◌+◌, ◌≤◌}
use borrow.Author.Tests.{le-ltb, ne_eqb}
use lib.ListN.{length, take}
use lib.Seq.{length-take-le}
use native.Mathlib.Omega.{arith}
use Rattle.combinatorics.proofs.Basics.{same_or}
use Rattle.combinatorics.proofs.Fronts.{front_taken}
use Rattle.combinatorics.specs.Front.{front}
use Rattle.combinatorics.specs.Lists.{concat_map, up_from}
use Rattle.end_kinds.specs.Numbers.{kind_number}
use Rattle.finder.proofs.Numbers.{kind-tells}
use Rattle.refinement.proofs.AllRuns.{levels_long}
use Rattle.refinement.specs.Answer.{entry_of, levels_of, refine_answer, refine_refusal, refused}
use Rattle.refinement.specs.declared.Level.{Level}
use Rattle.refinement_levels.proofs.Claims.{passed}
use Rattle.refinement_levels.specs.Levels.{Refinement}
use Rattle.exports.proofs.Facts.{facts_long, facts_of}
use Rattle.exports.specs.Refine.{RefineCallsTell, level_facts}

level_told : (x y : Level) → level_facts x ≡ level_facts y → x ≡ y
level_told x y e =
    let places : x.places ≡ y.places = cc in
    let read : x.labels_read ≡ y.labels_read = cc in
    let number : kind_number x.kind ≡ kind_number y.kind = cc in
    let kind : x.kind ≡ y.kind = kind-tells x.kind y.kind number in
    let block : x.block ≡ y.block = cc in
    let vertices : x.vertices ≡ y.vertices = cc in
    rw (places, read, kind, block, vertices)

levels_told : (xs ys : List Level) → length xs ≡ length ys → concat_map level_facts xs ≡ concat_map level_facts ys
    → xs ≡ ys
levels_told [] [] l e = refl
levels_told [] (y ∷ ys) l e = absurd (omega arith)
levels_told (x ∷ xs) [] l e = absurd (omega arith)
levels_told (x ∷ xs) (y ∷ ys) l e =
    let first : level_facts x ≡ level_facts y = cc in
    let rest : concat_map level_facts xs ≡ concat_map level_facts ys = cc in
    rw (level_told x y first, levels_told xs ys (omega arith) rest)

-- two lists that begin alike and have the same values behind
alike-behind : (f e : ℕ → Level) (k b n : ℕ) → ((i : ℕ) → b + k ≤ i → f i ≡ e i)
    → take k (map f (up_from b n)) ≡ take k (map e (up_from b n))
    → map f (up_from b n) ≡ map e (up_from b n)
alike-behind f e k b zero h t = refl
alike-behind f e zero b (suc n) h t =
    rw (h b (omega arith), alike-behind f e zero (suc b) n (λ i l. h i (omega arith)) refl)
alike-behind f e (suc k) b (suc n) h t =
    let x : f b ≡ e b = cc in
    let y : take k (map f (up_from (suc b) n)) ≡ take k (map e (up_from (suc b) n)) = cc in
    rw (x, alike-behind f e k (suc b) n (λ i l. h i (omega arith)) y)

same_levels : (r s : Refinement) (levels : ℕ) → levels ≤ 8
    → facts_of levels (levels_of r levels) ≡ facts_of levels (levels_of s levels)
    → levels_of r levels ≡ levels_of s levels
unfolding levels_of
same_levels r s levels few e =
    let long : (q : Refinement) → length (take levels (levels_of q levels)) ≡ levels = λ q.
    length-take-le levels (levels_of q levels) (omega (arith, levels_long q levels)) in
    alike-behind (entry_of r levels) (entry_of s levels) levels 0 8
    (λ i l. let f = le-ltb i levels (omega arith) in rw f)
    (levels_told _ _ (long r ∙ sym (long s)) e)

pub refine_calls_tell : RefineCallsTell
unfolding refine_answer
refine_calls_tell r s levels labels others old older facts e f =
    let n : ℕ = refine_refusal r levels labels old in
    let m : ℕ = refine_refusal s levels others older in
    ⊎_elim
    (λ (z : n ≡ 0). ⊎_elim
    (λ (y : m ≡ 0).
    let few : levels ≤ 8 = (passed r levels labels (length old) z).levels_range.1 in
    let a = facts_of levels (levels_of r levels) in
    let b = facts_of levels (levels_of s levels) in
    let fronts : front a facts ≡ front b facts = rw (z, y) at f in
    let long : length a ≡ length b =
    facts_long levels (levels_of r levels) (omega (arith, levels_long r levels))
    ∙ sym (facts_long levels (levels_of s levels) (omega (arith, levels_long s levels))) in
    let same : a ≡ b =
    sym (front_taken a facts)
    ∙ ap (λ (k : ℕ). take k (front a facts)) long
    ∙ ap (take (length b)) fronts
    ∙ front_taken b facts in
    rw (z, y, same_levels r s levels few same))
    (λ (y : m ≡ 0 → ⊥). let c : ◌≡◌ {A = ℕ} 0 m = rw (z, ne_eqb m 0 y) at e in absurd (y (sym c)))
    (same_or m 0))
    (λ (z : n ≡ 0 → ⊥). ⊎_elim
    (λ (y : m ≡ 0). let c : n ≡ 0 = rw (ne_eqb n 0 z, y) at e in absurd (z c))
    (λ (y : m ≡ 0 → ⊥).
    let c : n ≡ m = rw (ne_eqb n 0 z, ne_eqb m 0 y) at e in
    rw (ne_eqb n 0 z, ne_eqb m 0 y) (ap refused c))
    (same_or m 0))
    (same_or n 0)
