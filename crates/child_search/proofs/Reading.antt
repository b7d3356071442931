-- What a search finds, read off: a child that there is, with the counts of those on its left, the first at which the search stops.
use mathlib.Core.Path.{◌≡◌, refl, sym, ap, ◌∙◌}
use mathlib.Core.Bool.{Bool, true, false, cond}
use mathlib.Core.List.{List, [], ◌∷◌}
use Prim.Native.Nat.{ℕ, suc, ◌+◌, ◌-◌, ◌≤◌, ◌<◌}
use native.Mathlib.Nat.{sub_self}
use native.Mathlib.Omega.{arith}
use lib.Dec.{eqb}
use lib.ListN.{length, take, get_or}
use borrow.Author.Tests.{eqb-false}
use Rattle.plain.specs.Outcome.{Outcome.value, past}
use Rattle.plain.proofs.Logic.{cut}
use Rattle.plain.proofs.Outcome.{accepted, all-accepted}
use Rattle.text_info.specs.Info.{zeros}
use Rattle.text_info.specs.declared.TextSum.{TextSum}
use Rattle.pool.specs.declared.Kid.{Kid}
use Rattle.pool.specs.Slot.{no_kid}
use Rattle.node_children.specs.Kids.{kids, list_of}
use Rattle.node_children.proofs.Lists.{kids-of}
use Rattle.child_search.specs.declared.Measure.{Measure}
use Rattle.child_search.specs.Sought.{plus_info, sum_from, total, stops_at, most_of, search_from, found_by, searched}

module _ (stops : TextSum → Bool) where
  -- r is found among ks, of which the first is the i-th child, with the sums s on its left
  pub record Read (i : ℕ) (s : TextSum) (ks : List Kid) (r : ℕ × TextSum) : Type 0 where
    pub from : i ≤ r.0
    pub child : r.0 < i + length ks
    pub left : r.1 ≡ sum_from s (take (r.0 - i) ks)
    -- the child before did not stop it
    pub passed : i < r.0 → stops r.1 ≡ false
    -- and this one does, unless it is the last
    pub stopped : r.0 + 1 < i + length ks → stops (plus_info r.1 (get_or ks (r.0 - i) no_kid).info) ≡ true

  here : (i : ℕ) (s : TextSum) (k : Kid) (ks : List Kid) → (i + 1 < i + length (k ∷ ks) → stops (plus_info s k.info) ≡ true) → Read i s (k ∷ ks) (i, s)
  unfolding sum_from
  here i s k ks h =
      record {
        from = omega arith;
        child = omega arith;
        left = sym (ap (λ (n : ℕ). sum_from s (take n (k ∷ ks))) (sub_self i));
        passed = λ g. absurd (omega arith);
        stopped = λ g. ap (λ (n : ℕ). stops (plus_info s (get_or (k ∷ ks) n no_kid).info)) (sub_self i) ∙ h g;
      }

  module _ (i : ℕ) (s : TextSum) (k : Kid) (ks : List Kid) (r : ℕ × TextSum) where
    there : stops (plus_info s k.info) ≡ false → Read (i + 1) (plus_info s k.info) ks r → Read i s (k ∷ ks) r
    unfolding sum_from
    there e h =
        let n : suc (r.0 - (i + 1)) ≡ r.0 - i = omega (arith, h.from) in
        record {
          from = omega (arith, h.from);
          child = omega (arith, h.child);
          left = h.left ∙ ap (λ (m : ℕ). sum_from s (take m (k ∷ ks))) n;
          passed =
              λ g. cut (i + 1) r.0 h.passed
              (λ l. ap stops (h.left ∙ ap (λ (m : ℕ). sum_from (plus_info s k.info) (take m ks)) (let z : r.0 - (i + 1) ≡ 0 = omega arith in z)) ∙ e);
          stopped =
              λ g. ap (λ (m : ℕ). stops (plus_info r.1 (get_or (k ∷ ks) m no_kid).info)) (sym n) ∙ h.stopped (omega arith);
        }

  pub reads : (i : ℕ) (s : TextSum) (k : Kid) (ks : List Kid) → Read i s (k ∷ ks) (search_from stops i s (k ∷ ks))
  unfolding search_from
  reads i s k [] = here i s k [] (λ g. absurd (omega arith))
  reads i s k (j ∷ ks) = go (stops (plus_info s k.info)) refl (reads (i + 1) (plus_info s k.info) j ks)
    where
      go : (t : Bool) → stops (plus_info s k.info) ≡ t → Read (i + 1) (plus_info s k.info) (j ∷ ks) (search_from stops (i + 1) (plus_info s k.info) (j ∷ ks))
          → Read i s (k ∷ j ∷ ks) (cond t (i, s) (search_from stops (i + 1) (plus_info s k.info) (j ∷ ks)))
      go true e h = here i s k (j ∷ ks) (λ g. e)
      go false e h = there i s k (j ∷ ks) (search_from stops (i + 1) (plus_info s k.info) (j ∷ ks)) e h

found-child : (by : Measure) (at : ℕ) (ks : List Kid) (i : ℕ) (l : TextSum) → 0 < length ks → found_by by at ks ≡ (i, l) → i < length ks
found-child by at [] i l h e = absurd (omega arith)
found-child by at (k ∷ ks) i l h e = omega (arith, (reads (stops_at by at) 0 zeros k ks).child, ap (λ (r : ℕ × TextSum). r.0) e)

-- THEOREM: what a search finds is a child
pub searched-child : (ks : List Kid) (by : Measure) (at i : ℕ) (l : TextSum) → searched (list_of ks) by at ≡ value (i, l) → i < length ks
unfolding searched list_of
searched-child ks by at i l e =
    let c = list_of ks in
    let a = accepted 12 (eqb (length ks) 0) ((3, past at (most_of by (total c))) ∷ (11, past (length ks) 16) ∷ []) (found_by by at (kids c)) (i, l) e in
    let b = accepted 3 (past at (most_of by (total c))) ((11, past (length ks) 16) ∷ []) (found_by by at (kids c)) (i, l) a.1 in
    let d = accepted 11 (past (length ks) 16) [] (found_by by at (kids c)) (i, l) b.1 in
    found-child by at ks i l (let z = eqb-false (length ks) 0 a.0 in cut 0 (length ks) (λ h. h) (λ h. absurd (z (omega arith))))
    (ap (found_by by at) (sym (kids-of ks)) ∙ all-accepted (found_by by at (kids c)) (i, l) d.1)
