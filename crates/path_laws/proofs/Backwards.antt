-- Request 14 of every path that reached an end. In order: a list reversed, by position; the links and ways of the
-- path's places; a list that goes back is the path reversed; the path reversed goes back; paths of accepted tables.
-- Assumes nothing.
use mathlib.Core.Bool.{true}
use mathlib.Core.List.{List, [], ◌∷◌, reverse, reverse_aux}
use mathlib.Core.Logic.{◌⊎◌, inl, inr, ⊎_elim}
use mathlib.Core.Option.{some}
use mathlib.Core.Path.{◌≡◌, refl, sym, ap, ◌∙◌}
use Prim.Native.Nat.{ℕ, zero, suc, pred, ◌+◌, ◌-◌, ◌≤◌, ◌<◌}
use lib.ListN.{length, length-reverse}
use lib.Seq.{ext_get_or}
use native.Mathlib.Omega.{arith}
use Rattle.combinatorics.proofs.Basics.{before_or_not}
use Rattle.combinatorics.proofs.Lists.{only-list, only_member}
use Rattle.combinatorics.specs.Lists.{is_in}
use Rattle.place.specs.Ends.{End, ends, ways}
use Rattle.place.specs.Links.{linked, links}
use Rattle.place.specs.Path.{path, same_simplex}
use Rattle.place.specs.Places.{Simplex, is_place, all_labelled}
use Rattle.place.specs.Problem.{Problem}
use Rattle.path_laws.proofs.FromTwoWays.{back, in_links, among_two, length-ways}
use Rattle.path_laws.proofs.PathSteps.{Link}
use Rattle.path_laws.proofs.Simplices.{on_simplices}
use Rattle.path_laws.proofs.Theorem.{two_ways, ended-path}
use Rattle.path_laws.specs.Backwards.{MovesFrom, Backwards}
use Rattle.path_laws.specs.Demand.{HasStart, HasTable, place_at, left_at, last_place, IsPath}

-- a list reversed, by position
behind : (l r : List Simplex) (i j : ℕ) → i ≡ length l + j → place_at (reverse_aux l r) i ≡ place_at r j
behind [] r i j e = let z : i ≡ j = omega arith in rw z
behind (x ∷ l) r i j e = behind l (x ∷ r) i (suc j) (omega arith)

opposite_aux : (l r : List Simplex) (i j : ℕ) → i + suc j ≡ length l → place_at (reverse_aux l r) i ≡ place_at l j
opposite_aux [] r i j e = absurd (omega arith)
opposite_aux (x ∷ l) r i zero e = behind l (x ∷ r) i 0 (omega arith)
opposite_aux (x ∷ l) r i (suc j) e = opposite_aux l (x ∷ r) i j (omega arith)

at-opposite : (l : List Simplex) (i j : ℕ) → i + suc j ≡ length l → place_at (reverse l) i ≡ place_at l j
at-opposite l i j e = opposite_aux l [] i j e

-- the i-th place of t is the j-th of s, as far from the end as i from the beginning, and the place just left is the one
-- after it
record Meets (s t : List Simplex) (i j : ℕ) : Type 0 where
  across : i + suc j ≡ length s
  here : place_at t i ≡ place_at s j
  left : (h : ℕ) → suc h ≡ i → place_at t h ≡ place_at s (suc j)

module _ {p : Problem} (ok : HasStart p) {s : List Simplex} {e : End} (k : IsPath p s e)
    (own : (i : ℕ) → i < length s → all_labelled p (place_at s i) ≡ true) where
  next : (i : ℕ) → suc i < length s → Link p (place_at s i) (place_at s (suc i))
  next i c = record {
    from = k.follows.places i (omega arith);
    to = k.follows.places (suc i) c;
    by = k.follows.links i c;
  }

  after_in : (i : ℕ) → suc i < length s → is_in same_simplex (place_at s (suc i)) (links p (place_at s i)) ≡ true
  after_in i c = in_links ok (next i c)

  before_in : (i : ℕ) → suc i < length s → is_in same_simplex (place_at s i) (links p (place_at s (suc i))) ≡ true
  before_in i c = in_links ok (back (place_at s i) (place_at s (suc i)) (next i c))

  -- the ways out of {v}, and of the other places
  ways-start : length (ways p (p.start ∷ [])) ≡ 1
  ways-start = (two_ways ok).start (rw k.follows.begins at (own 0 k.follows.nonempty))

  ways-first : length (ways p (place_at s 0)) ≡ 1
  ways-first = rw k.follows.begins ways-start

  last_end : (i : ℕ) → suc i ≡ length s → 0 < length (ends p (place_at s i))
  last_end i c =
      let q : pred (length s) ≡ i = omega arith in
      let w : ends p (place_at s i) ≡ e ∷ k.finishes.0 = rw q at k.finishes.1 in
      omega (arith, ap length w)

  -- a later place has a link to the place before it, and an end or a link to another place, so it is not {v}
  not_one : (i : ℕ) → suc i < length s → length (ways p (place_at s (suc i))) ≡ 1 → ⊥
  not_one i c o =
      let n = length-ways p (place_at s (suc i)) in
      let m : length (links p (place_at s (suc i))) ≤ 1 = omega arith in
      ⊎_elim
      (λ d. k.follows.onward i d
      (only_member on_simplices (place_at s i) (place_at s (suc (suc i))) (links p (place_at s (suc i))) m (before_in i c)
      (after_in (suc i) d)))
      (λ d. omega (
        arith,
        last_end (suc i) (omega arith),
        ap length (only-list on_simplices (place_at s i) (links p (place_at s (suc i))) m (before_in i c)),
      ))
      (before_or_not (suc (suc i)) (length s))

  not_start : (i : ℕ) → suc i < length s → place_at s (suc i) ≡ p.start ∷ [] → ⊥
  not_start i c q = not_one i c (rw q ways-start)

  ways-later : (i : ℕ) → suc i < length s → length (ways p (place_at s (suc i))) ≡ 2
  ways-later i c = (two_ways ok).other (place_at s (suc i)) (k.follows.places (suc i) c) (own (suc i) c) (not_start i c)

  -- a place linked to the i-th is the next or the one before
  beside : (i : ℕ) (x : Simplex) → i < length s → Link p (place_at s i) x
      → ((suc i < length s) × (x ≡ place_at s (suc i))) ⊎ ((j : ℕ) × (suc j ≡ i) × (x ≡ place_at s j))
  beside zero x c l =
      let n = length-ways p (place_at s 0) in
      let m : length (links p (place_at s 0)) ≤ 1 = omega (arith, ways-first) in
      ⊎_elim
      (λ d. inl (d, only_member on_simplices x (place_at s 1) (links p (place_at s 0)) m (in_links ok l) (after_in 0 d)))
      (λ d. absurd (omega (
        arith,
        ways-first,
        last_end 0 (omega arith),
        ap length (only-list on_simplices x (links p (place_at s 0)) m (in_links ok l)),
      )))
      (before_or_not 1 (length s))
  beside (suc i) x c l =
      let n = length-ways p (place_at s (suc i)) in
      let w = ways-later i c in
      ⊎_elim
      (λ d. ⊎_elim
      (λ q. absurd (k.follows.onward i d q))
      (λ q. ⊎_elim (λ q. inr (i, refl, sym q)) (λ q. inl (d, sym q)) q)
      (among_two (place_at s i) (place_at s (suc (suc i))) x (links p (place_at s (suc i))) (omega arith) (before_in i c)
      (after_in (suc i) d) (in_links ok l)))
      (λ d. inr (
        i,
        refl,
        only_member on_simplices x (place_at s i) (links p (place_at s (suc i)))
            (omega (arith, last_end (suc i) (omega arith))) (in_links ok l) (before_in i c),
      ))
      (before_or_not (suc (suc i)) (length s))

  -- a list that goes back meets the path's places in opposite order
  module _ {t : List Simplex} (m : MovesFrom p (last_place s) t) where
    never_forth : (i j : ℕ) → suc i < length t → Meets s t i j → suc j < length s
        → place_at t (suc i) ≡ place_at s (suc j) → ⊥
    never_forth zero j c h d q = omega arith
    never_forth (suc i) j c h d q = m.onward i c (h.left i refl ∙ sym q)

    step : (i j : ℕ) → suc i < length t → Meets s t i j → (j' : ℕ) × Meets s t (suc i) j'
    step i j c h =
        let l : Link p (place_at s j) (place_at t (suc i)) =
        record { from = k.follows.places j (omega arith); to = m.places i c; by = rw h.here at (m.links i c) } in
        ⊎_elim (λ q. absurd (never_forth i j c h q.0 q.1))
        (λ q. (
          q.0,
          record {
            across = omega (arith, q.1);
            here = q.2;
            left = λ g z. let y : g ≡ i = omega arith in rw y (h.here ∙ ap (place_at s) (sym q.1));
          },
        )) (beside j (place_at t (suc i)) (omega arith) l)

    meets : (i : ℕ) → i < length t → (j : ℕ) × Meets s t i j
    meets zero c = (
      pred (length s),
      record { across = omega (arith, k.follows.nonempty); here = m.begins; left = λ h z. absurd (omega arith) },
    )
    meets (suc i) c = let h = meets i (omega arith) in step i h.0 c h.1

    -- and does not stop before {v}
    to_start : (i j : ℕ) → i ≡ pred (length t) → Meets s t i j → j ≡ 0
    to_start i zero q h = refl
    to_start i (suc j) q h =
        let l = back (place_at s j) (place_at s (suc j)) (next j (omega arith)) in
        let r : left_at t i ≡ some (place_at s j) = rw q (m.stops (place_at s j) l.to (rw (← q) (rw h.here l.by))) in
        absurd (go i h r)
      where
        go : (i : ℕ) → Meets s t i (suc j) → left_at t i ≡ some (place_at s j) → ⊥
        go zero h r = let z : ◌≡◌ {A = ℕ} 0 1 = cc in omega arith
        go (suc i) h r =
            let z : place_at t i ≡ place_at s j = cc in
            k.follows.onward j (omega arith) (sym z ∙ h.left i refl)

    whole : (length t ≡ length s) × (last_place t ≡ p.start ∷ [])
    whole =
        let n = m.nonempty in
        let h = meets (pred (length t)) (omega arith) in
        let z = to_start (pred (length t)) h.0 refl h.1 in
        (omega (arith, h.1.across), h.1.here ∙ ap (place_at s) z ∙ k.follows.begins)

    is-opposite : t ≡ reverse s
    is-opposite =
        ext_get_or [] t (reverse s) (whole.0 ∙ sym (length-reverse s))
        (λ i c. let h = meets i c in h.1.here ∙ sym (at-opposite s i h.0 h.1.across))

  -- the path's places in opposite order are such a list
  opposite-moves : MovesFrom p (last_place s) (reverse s)
  opposite-moves = record {
    nonempty = rw len k.follows.nonempty;
    begins = at-opposite s 0 (pred (length s)) (omega (arith, k.follows.nonempty));
    places = λ i c.
        let h = rest i (omega (arith, len)) in
        rw (at-opposite s (suc i) h.0 (omega (arith, h.1))) (k.follows.places h.0 (omega (arith, h.1)));
    links = λ i c.
        let h = rest i (omega (arith, len)) in
        rw (at-opposite s (suc i) h.0 (omega (arith, h.1)), at-opposite s i (suc h.0) (omega (arith, h.1)))
        (back (place_at s h.0) (place_at s (suc h.0)) (next h.0 (omega (arith, h.1)))).by;
    onward = λ i c q.
        let h = rest (suc i) (omega (arith, len)) in
        k.follows.onward h.0 (omega (arith, h.1))
        (sym (at-opposite s (suc (suc i)) h.0 (omega (arith, h.1)))
        ∙ sym q
        ∙ at-opposite s i (suc (suc h.0)) (omega (arith, h.1)));
    stops = λ x h l. stop x h l (pred (length (reverse s))) refl;
  }
    where
      len : length (reverse s) ≡ length s
      len = length-reverse s

      rest : (i : ℕ) → suc i < length s → (j : ℕ) × (suc i + suc j ≡ length s)
      rest i c = (length s - suc (suc i), omega arith)

      stop : (x : Simplex) → is_place p x ≡ true → linked p (last_place (reverse s)) x ≡ true → (n : ℕ)
          → pred (length (reverse s)) ≡ n
          → left_at (reverse s) n ≡ some x
      stop x h l n q =
          let c = k.follows.nonempty in
          let z : place_at (reverse s) n ≡ place_at s 0 = at-opposite s n 0 (omega (arith, len)) in
          let y : linked p (place_at s 0) x ≡ true = rw z at (rw q at l) in
          ⊎_elim (λ b. go n q b.0 b.1) (λ b. absurd (omega (arith, b.1)))
          (beside 0 x c (record { from = k.follows.places 0 c; to = h; by = y }))
        where
          go : (n : ℕ) → pred (length (reverse s)) ≡ n → 1 < length s → x ≡ place_at s 1 → left_at (reverse s) n ≡ some x
          go zero q c b = absurd (omega (arith, len))
          go (suc n) q c b = ap (λ (y : Simplex). some y) (at-opposite s n 1 (omega (arith, len)) ∙ sym b)

  pub backwards : Backwards p s
  backwards = record {
    opposite = opposite-moves;
    only = λ t m. is-opposite m;
    stops = λ t m. (whole m).1;
    start = k.follows.begins;
    start_links = omega (arith, ways-start, length-ways p (p.start ∷ []));
    two = ways-later;
  }

-- the path of every accepted table that reaches an end
pub backwards_holds : {p : Problem} → HasTable p → {e : End} → (path p).end ≡ some e → Backwards p (path p).visited
backwards_holds ok q = let w = ended-path ok q in backwards ok.has_start w.0 w.1
