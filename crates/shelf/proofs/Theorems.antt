-- Request 13 holds of every shelf that question 21 lets pass. Assumes nothing.
use mathlib.Core.Bool.{Bool, true, false, cond}
use mathlib.Core.List.{List}
use mathlib.Core.Logic.{⊎_elim}
use mathlib.Core.Path.{◌≡◌, sym}
use Prim.Native.Nat.{ℕ}
use native.Mathlib.Omega.{arith}
use Rattle.questions.specs.Questions.{first_no}
use Rattle.shelf.proofs.Calls.{asked-on, filed-count, filed-list, filed_may}
use Rattle.shelf.proofs.Currents.{is-current, only-current, reached-filed, reached-later, reached-same}
use Rattle.shelf.proofs.Currents.{same-reached}
use Rattle.shelf.proofs.Filing.{new-answer, new-current, new_shelf}
use Rattle.shelf.proofs.Sheets.{is_shelf_lem, later, one_replaces, shelf_of}
use Rattle.shelf.specs.Calls.{OnlyFiledOn, begun, filed_on, filing}
use Rattle.shelf.specs.Demand.{AfterFiling, HasCurrent, Never21}
use Rattle.shelf.specs.Questions.{question22, question23_of_asking, question23_of_filing}
use Rattle.shelf.specs.Shelf.{OnShelf, is_shelf}
use Rattle.shelf.specs.declared.answers.Filed.TheVariants.{Filed as FiledAs}

pub has-current : (list : List ℕ) (count sheet : ℕ) → OnShelf list count sheet → HasCurrent list count sheet
has-current list count sheet on =
    let f = shelf_of list on.passes in
    let c = is-current list f sheet in
    record {
      later = λ k r. later list f r;
      once = λ j k r q. one_replaces list f r q;
      given = asked-on list count sheet f on.numbered on.filed;
      exists = c;
      only = λ last d. sym (only-current list f d);
      on_shelf = record {
        passes = on.passes;
        numbered = omega (arith, on.numbered, reached-later list f c.reached);
        filed = reached-filed list f on.filed c.reached;
      };
      not_before = reached-later list f c.reached;
      line = λ other o. (
        same-reached list f,
        λ r. ⊎_elim (λ g. reached-same list f g) (λ g. sym (reached-same list f g)) r,
      );
    }

after-filing : (list : List ℕ) (count named new : ℕ) → filing list count named ≡ FiledAs new
    → AfterFiling list count named new
after-filing list count named new filed =
    let may = filed_may list count named filed in
    let is-new = filed-count list count named filed in
    let is-list = filed-list list count named filed in
    record {
      counted = is-new;
      kept = rw (is-list, is-new) (is_shelf_lem _ (new_shelf list count named may));
      currents = λ s l h. rw (is-list, is-new) (new-current list count named may s l (omega (arith, is-new)));
      answers = λ s. rw (is-list, is-new) (new-answer list count named may s);
    }

-- a shelf begun with no sheet and only filed on
only-filed-on : {list : List ℕ} {count : ℕ} → OnlyFiledOn list count → is_shelf list count ≡ true
only-filed-on {list} begun = is_shelf_lem list (record {
  few = omega arith;
  room = omega arith;
  earlier = λ k l h. absurd (omega arith);
  once = λ j k l i h s. absurd (omega arith);
})
only-filed-on (filed_on {list = list} {count = count} named new o e) = (after-filing list count named new e).kept

later-number : (b c : Bool) → ◌≡◌ {A = ℕ} (cond b (cond c 0 23) 22) 21 → ⊥
later-number true true e = omega arith
later-number true false e = omega arith
later-number false c e = omega arith

-- never meets 21
pub never_21 : (list : List ℕ) (count : ℕ) → OnlyFiledOn list count → Never21 list count
unfolding first_no
never_21 list count o =
    let e = only-filed-on o in
    record {
      passes = e;
      files = λ named n. later-number (question22 list count).answered_yes
          (question23_of_filing list count named).answered_yes (rw e at n);
      asks = λ sheet n. later-number true (question23_of_asking count sheet).answered_yes (rw e at n);
    }
