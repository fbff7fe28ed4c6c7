-- What a state that holds an unlabelled place describes over a table where the points of the place but one carry T.
-- Assumes nothing.
use mathlib.Core.Bool.{Bool, true}
use mathlib.Core.List.{List, [], ◌∷◌, map}
use mathlib.Core.Path.{◌≡◌, refl, sym, ap, ◌∙◌}
use Prim.Native.Nat.{ℕ, zero, suc, ◌≤◌, ◌<◌}
use borrow.Author.Tests.{le-leb}
use lib.Dec.{eqb}
use lib.ListN.{length, length-map}
use native.Mathlib.Omega.{arith}
use Rattle.combinatorics.specs.Lists.{is_in}
use Rattle.geometry.proofs.Definitions.{Carries}
use Rattle.geometry.proofs.LabelledChains.{LabelledChain, list_at}
use Rattle.geometry.proofs.Points.{nth}
use Rattle.grid_points.specs.Grid.{Point, at, num_indices}
use Rattle.place.specs.Places.{Simplex, set_t}
use Rattle.place.specs.Problem.{Problem, label, with_labels}
use Rattle.path_laws.proofs.BlocksOfGrid.{blocks_of, point_of}
use Rattle.path_laws.proofs.Meaning.{T_means}
use Rattle.path_laws.proofs.ToChain.{index_of, label_of}
use Rattle.rules.proofs.Describes.{AllMarks, Describes, labels_of, mark_at}
use Rattle.rules.proofs.Range.{nth_points_of}
use Rattle.rules.specs.Moves.{State}
use Rattle.trail.proofs.Tables.{Labelled}
use Rattle.trail_steps.specs.Shows.{Shows}
use Rattle.moves.specs.Held.{with_marks}

-- the label suc k names the index k
names : (m k : ℕ) → k < m → index_of m (suc k) ≡ k
names m k l = rw (le-leb 1 (suc k) (omega arith), le-leb (suc k) m l)

module _ {p : Problem} {a : Simplex} {s : State} (S : Shows p a s) where
  pub shows-long : length a ≡ suc S.t
  shows-long = ap length (sym S.here) ∙ length-map S.x (point_of p) ∙ S.size

  pub shows-at : (j : ℕ) → j ≤ S.t → nth a j ≡ point_of p (list_at S.x j)
  shows-at j l = ap (λ (b : Simplex). nth b j) (sym S.here) ∙ nth_points_of p S.x j (omega (arith, S.size))

  module _ {i h : ℕ} {labels : List ℕ} (L : Labelled p a i h labels) where
    abbrev q : Problem
    q = with_labels p labels

    abbrev pub labelled : State
    labelled = with_marks s (map (mark_at q) S.x)

    named : (j k : ℕ) → j ≤ S.t → k < num_indices p.grid → label q (nth a j) ≡ suc k → labels_of q S.x j ≡ k
    named j k l m e = ap (λ (y : Point). index_of (num_indices p.grid) (label q y)) (sym (shows-at j l))
        ∙ ap (index_of (num_indices p.grid)) e
        ∙ names (num_indices p.grid) k m

    -- all but point i carry T
    pub carries : Carries S.T S.t (labels_of q S.x) i
    carries k e =
        let m : is_in eqb k (set_t p a) ≡ true = ap (λ (T : ℕ → Bool). T k) S.is_t ∙ e in
        let w = L.carries k m in
        let l : w.0 ≤ S.t = omega (arith, w.1, shows-long) in
        (w.0, l, w.2, named w.0 k l ((T_means p a k).0 m).0 w.3)

    pub here_label : i ≤ S.t → h < num_indices p.grid → labels_of q S.x i ≡ h
    here_label l m = named i h l m L.here

    pub chain-over : LabelledChain (blocks_of q) (label_of q) S.T S.t S.o S.x
    chain-over = record { size = S.size; chain = S.chain; covers = λ k e. let w = carries k e in (w.0, w.1, w.3) }

    pub describes : Describes q S.T S.t S.o S.x labelled
    describes = record {
      chain = chain-over;
      round = S.round;
      order_length = S.order_length;
      order_at = S.order_at;
      first_length = S.first_length;
      first_at = S.first_at;
      coefficients_length = S.coefficients_length;
      coefficients_at = S.coefficients_at;
      in_t = S.bits_t;
      in_u = S.bits_u;
      marks_length = length-map S.x (mark_at q) ∙ S.size;
    }

    pub all-marked : AllMarks q S.t S.x labelled
    all-marked j l = mapped_at (mark_at q) S.x j (omega (arith, S.size))
      where
        mapped_at : (f : (ℕ → ℕ) → ℕ) (xs : List (ℕ → ℕ)) (j : ℕ) → j < length xs → at (map f xs) j ≡ f (list_at xs j)
        mapped_at f [] j l = absurd (omega arith)
        mapped_at f (c ∷ xs) zero l = refl
        mapped_at f (c ∷ xs) (suc j) l = mapped_at f xs j (omega arith)
