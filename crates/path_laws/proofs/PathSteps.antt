-- What holds of the places of path_from, whatever the labels. In order: the ways on from a place; the course of a path;
-- its places and links; fuel beyond the last place changes nothing. Assumes nothing.
use borrow.Author.Tests.{not-true}
use mathlib.Core.Bool.{Bool, true, false, not, cond}
use mathlib.Core.List.{List, [], ◌∷◌, ◌++◌, map}
use mathlib.Core.Logic.{◌⊎◌, inl, inr, ⊎_elim}
use mathlib.Core.Option.{Option, none, some}
use mathlib.Core.Path.{◌≡◌, refl, sym, ap, ◌∙◌}
use Prim.Native.Nat.{ℕ, zero, suc, ◌≤◌, ◌<◌}
use lib.ListN.{length}
use native.Mathlib.Omega.{arith}
use Rattle.combinatorics.proofs.Basics.{absurd_bool, true_or_false}
use Rattle.combinatorics.proofs.Lists.{filter-append, filter_in, in_here}
use Rattle.combinatorics.specs.Lists.{filter, is_in, sublists}
use Rattle.grid_points.specs.Grid.{points}
use Rattle.place.specs.Ends.{End, Way, stop, link, ends, ways}
use Rattle.place.specs.Links.{linked, links}
use Rattle.place.specs.Path.{is_back, ways_on, SimplicialPath, follow, path_from, same_simplex}
use Rattle.place.specs.Places.{Simplex, is_place, places, in_order, all_labelled}
use Rattle.place.specs.Problem.{Problem}
use Rattle.path_laws.proofs.Simplices.{simplex_self, on_simplices}
use Rattle.path_laws.specs.Demand.{place_at, last_place}

-- the links on from a place
abbrev pub links_on : Problem → Option Simplex → Simplex → List Simplex
links_on p left here = filter (λ t. not (is_back left (link t))) (links p here)

keep_stops : (left : Option Simplex) (es : List End) → filter (λ w. not (is_back left w)) (map stop es) ≡ map stop es
keep_stops none [] = refl
keep_stops none (e ∷ es) = ap (λ l. stop e ∷ l) (keep_stops none es)
keep_stops (some s) [] = refl
keep_stops (some s) (e ∷ es) = ap (λ l. stop e ∷ l) (keep_stops (some s) es)

keep_links : (left : Option Simplex) (ts : List Simplex)
    → filter (λ w. not (is_back left w)) (map link ts) ≡ map link (filter (λ t. not (is_back left (link t))) ts)
keep_links left [] = refl
keep_links left (t ∷ ts) =
    let i = keep_links left ts in
    ⊎_elim (λ e. rw e i) (λ e. rw e (ap (λ l. link t ∷ l) i)) (true_or_false (is_back left (link t)))

pub ways_on_split : (p : Problem) (left : Option Simplex) (here : Simplex)
    → ways_on p left here ≡ map stop (ends p here) ++ map link (links_on p left here)
unfolding ways_on ways
ways_on_split p left here =
    filter-append (λ w. not (is_back left w)) (map stop (ends p here)) (map link (links p here))
    ∙ rw (keep_stops left (ends p here), keep_links left (links p here))

-- the course of the path from a place on
pub data Trail (p : Problem) : ℕ → Option Simplex → Simplex → List Simplex → Option End → Type 0 where
  out : {l : Option Simplex} {h : Simplex} → Trail p zero l h [] none
  stuck : {n : ℕ} {l : Option Simplex} {h : Simplex} → (all_labelled p h ≡ true → ways_on p l h ≡ [])
      → Trail p (suc n) l h (h ∷ []) none
  stops : {n : ℕ} {l : Option Simplex} {h : Simplex} {e : End} (es : List End) → all_labelled p h ≡ true
      → ends p h ≡ e ∷ es
      → Trail p (suc n) l h (h ∷ []) (some e)
  goes : {n : ℕ} {l : Option Simplex} {h : Simplex} {s : List Simplex} {e : Option End} (t : Simplex)
      → all_labelled p h ≡ true → ends p h ≡ [] → is_in same_simplex t (links_on p l h) ≡ true → Trail p n (some h) t s e
      → Trail p (suc n) l h (h ∷ s) e

pub trail : (p : Problem) (n : ℕ) (l : Option Simplex) (h : Simplex)
    → Trail p n l h (path_from p n l h).visited (path_from p n l h).end
trail p zero l h = out
trail p (suc n) l h = pick (all_labelled p h) refl (λ t. trail p n (some h) t)
  where
    split : ways_on p l h ≡ map stop (ends p h) ++ map link (links_on p l h)
    split = ways_on_split p l h

    next : SimplicialPath → Type 0
    next r = Trail p (suc n) l h r.visited r.end

    go : all_labelled p h ≡ true → (es : List End) (ts : List Simplex) → ends p h ≡ es → links_on p l h ≡ ts
        → ((t : Simplex) → Trail p n (some h) t (path_from p n (some h) t).visited (path_from p n (some h) t).end)
        → next (follow (λ t. path_from p n (some h) t) h (map stop es ++ map link ts))
    go own (e ∷ es) ts q r i = stops es own q
    go own [] [] q r i = stuck (λ w. split ∙ rw (q, r))
    go own [] (t ∷ ts) q r i = goes {l = l} t own q (rw r (in_here on_simplices t ts)) (i t)

    pick : (b : Bool) → all_labelled p h ≡ b
        → ((t : Simplex) → Trail p n (some h) t (path_from p n (some h) t).visited (path_from p n (some h) t).end)
        → next (follow (λ t. path_from p n (some h) t) h (cond b (ways_on p l h) []))
    pick true own i = rw split (go own (ends p h) (links_on p l h) refl refl i)
    pick false gap i = stuck (λ own. absurd_bool (sym own ∙ gap))

-- a link between places
pub record Link (p : Problem) (a b : Simplex) : Type 0 where
  pub from : is_place p a ≡ true
  pub to : is_place p b ≡ true
  pub by : linked p a b ≡ true

module _ (p : Problem) where
  pub places-are : (t : Simplex) → is_in same_simplex t (places p) ≡ true → is_place p t ≡ true
  unfolding places
  places-are t m = (filter_in on_simplices (is_place p) t (sublists (in_order p (points p.grid))) m).1

  pub links-are : (s t : Simplex) → is_place p s ≡ true → is_in same_simplex t (links p s) ≡ true → Link p s t
  unfolding links
  links-are s t h m =
      let i = filter_in on_simplices (linked p s) t (places p) m in
      record { from = h; to = places-are t i.0; by = i.1 }

  links_on_are : (l : Option Simplex) (s t : Simplex) → is_place p s ≡ true → is_in same_simplex t (links_on p l s) ≡ true
      → Link p s t
  links_on_are l s t h m = links-are s t h (filter_in on_simplices _ t (links p s) m).0

  pub first : {n : ℕ} {l : Option Simplex} {h : Simplex} {s : List Simplex} {e : Option End} → Trail p n l h s e
      → 0 < length s → place_at s 0 ≡ h
  first out c = absurd (omega arith)
  first (stuck q) c = refl
  first (stops es own q) c = refl
  first (goes t own q m k) c = refl

  second : {n : ℕ} {l : Option Simplex} {h : Simplex} {s : List Simplex} {e : Option End} → Trail p n l h s e
      → 1 < length s
      → is_back l (link (place_at s 1)) ≡ false
  second out c = absurd (omega arith)
  second (stuck q) c = absurd (omega arith)
  second (stops es own q) c = absurd (omega arith)
  second (goes {l = l} {h = h} t own q m k) c =
      rw (first k (omega arith)) (not-true _ (filter_in on_simplices _ t (links p h) m).1)

  pub step_links : {n : ℕ} {l : Option Simplex} {h : Simplex} {s : List Simplex} {e : Option End} → Trail p n l h s e
      → is_place p h ≡ true → (i : ℕ) → suc i < length s
      → Link p (place_at s i) (place_at s (suc i))
  step_links out a i c = absurd (omega arith)
  step_links (stuck q) a i c = absurd (omega arith)
  step_links (stops es own q) a i c = absurd (omega arith)
  step_links (goes {l = l} {h = h} t own q m k) a zero c = rw (first k (omega arith)) (links_on_are l h t a m)
  step_links (goes {l = l} {h = h} t own q m k) a (suc i) c = step_links k (links_on_are l h t a m).to i (omega arith)

  pub all-places : {n : ℕ} {l : Option Simplex} {h : Simplex} {s : List Simplex} {e : Option End} → Trail p n l h s e
      → is_place p h ≡ true → (i : ℕ) → i < length s
      → is_place p (place_at s i) ≡ true
  all-places k a zero c = rw (first k c) a
  all-places k a (suc i) c = (step_links k a i c).to

  pub onward : {n : ℕ} {l : Option Simplex} {h : Simplex} {s : List Simplex} {e : Option End} → Trail p n l h s e
      → (i : ℕ) → suc (suc i) < length s → place_at s i ≡ place_at s (suc (suc i)) → ⊥
  onward out i c r = omega arith
  onward (stuck q) i c r = omega arith
  onward (stops es own q) i c r = omega arith
  onward (goes {h = h} t own q m k) zero c r =
      absurd_bool (sym (simplex_self h) ∙ (rw (← r) at (second k (omega arith))))
  onward (goes t own q m k) (suc i) c r = onward k i (omega arith) r

  pub passes : {n : ℕ} {l : Option Simplex} {h : Simplex} {s : List Simplex} {e : Option End} → Trail p n l h s e
      → (i : ℕ) → suc i < length s
      → ends p (place_at s i) ≡ []
  passes out i c = absurd (omega arith)
  passes (stuck q) i c = absurd (omega arith)
  passes (stops es own q) i c = absurd (omega arith)
  passes (goes t own q m k) zero c = q
  passes (goes t own q m k) (suc i) c = passes k i (omega arith)

  pub known : {n : ℕ} {l : Option Simplex} {h : Simplex} {s : List Simplex} {e : Option End} → Trail p n l h s e
      → (i : ℕ) → suc i < length s
      → all_labelled p (place_at s i) ≡ true
  known out i c = absurd (omega arith)
  known (stuck q) i c = absurd (omega arith)
  known (stops es own q) i c = absurd (omega arith)
  known (goes t own q m k) zero c = own
  known (goes t own q m k) (suc i) c = known k i (omega arith)

  -- the last place of a path that ends
  pub record Finish (s : List Simplex) (f : End) : Type 0 where
    pub nonempty : 0 < length s
    pub whole : all_labelled p (last_place s) ≡ true
    pub finishes : (es : List End) × (ends p (last_place s) ≡ f ∷ es)

  pub finish : {n : ℕ} {l : Option Simplex} {h : Simplex} {s : List Simplex} {e : Option End} → Trail p n l h s e
      → (f : End) → e ≡ some f → Finish s f
  finish out f r = absurd_bool (cc)
  finish (stuck q) f r = absurd_bool (cc)
  finish (stops {e = e} es own q) f r =
      record { nonempty = omega arith; whole = own; finishes = (es, (let z : e ≡ f = cc in rw (← z) q)) }
  finish (goes {h = h} {s = s} t own q m k) f r = go s (finish k f r)
    where
      go : (s : List Simplex) → Finish s f → Finish (h ∷ s) f
      go [] i = absurd (omega (arith, i.nonempty))
      go (x ∷ r) i = record { nonempty = omega arith; whole = i.whole; finishes = i.finishes }

  -- the place just left at the i-th, from any place on
  abbrev pub left_from : Option Simplex → List Simplex → ℕ → Option Simplex
  left_from l s zero = l
  left_from l s (suc i) = some (place_at s i)

  -- a path with no end has used up its fuel, or its last place has a gap or no way on
  pub unended : {n : ℕ} {l : Option Simplex} {h : Simplex} {s : List Simplex} {e : Option End} → Trail p n l h s e
      → e ≡ none
      → (length s ≡ n)
      ⊎ ((i : ℕ) × (suc i ≡ length s)
      × (all_labelled p (place_at s i) ≡ true → ways_on p (left_from l s i) (place_at s i) ≡ []))
  unended out r = inl refl
  unended (stuck q) r = inr (0, refl, q)
  unended (stops es own q) r = absurd_bool (cc)
  unended (goes {l = l} {h = h} {s = s} t own q m k) r =
      ⊎_elim (λ z. inl (ap suc z)) (λ i. inr (suc i.0, ap suc i.1, (λ own. next i.0 (i.2 own)))) (unended k r)
    where
      next : (i : ℕ) → ways_on p (left_from (some h) s i) (place_at s i) ≡ []
          → ways_on p (some (place_at (h ∷ s) i)) (place_at s i) ≡ []
      next zero z = z
      next (suc i) z = z

-- fuel beyond the path's last place changes nothing
pub more_fuel : (p : Problem) (n : ℕ) (l : Option Simplex) (h : Simplex) → length (path_from p (suc n) l h).visited ≤ n
    → path_from p n l h ≡ path_from p (suc n) l h
more_fuel p zero l h c = absurd (go (cond (all_labelled p h) (ways_on p l h) []) c)
  where
    go : (ws : List Way) → length (follow (λ t. path_from p zero (some h) t) h ws).visited ≤ 0 → ⊥
    go [] c = omega arith
    go (stop e ∷ ws) c = omega arith
    go (link t ∷ ws) c = omega arith
more_fuel p (suc n) l h c = go (cond (all_labelled p h) (ways_on p l h) []) c (λ t. more_fuel p n (some h) t)
  where
    go : (ws : List Way) → length (follow (λ t. path_from p (suc n) (some h) t) h ws).visited ≤ suc n
        → ((t : Simplex) → length (path_from p (suc n) (some h) t).visited ≤ n
        → path_from p n (some h) t ≡ path_from p (suc n) (some h) t)
        → follow (λ t. path_from p n (some h) t) h ws ≡ follow (λ t. path_from p (suc n) (some h) t) h ws
    go [] c i = refl
    go (stop f ∷ ws) c i = refl
    go (link t ∷ ws) c i = ap
        (λ (r : SimplicialPath). let k : SimplicialPath = record { visited = h ∷ r.visited; end = r.end } in k)
        (i t (omega arith))
