-- A search among the children of a list, where each has the text f that its counts tell: the text parts at the child found.
use mathlib.Core.Path.{◌≡◌, refl, sym, ap, ◌∙◌}
use mathlib.Core.Bool.{Bool, true, false, not, ◌&&◌, cond}
use mathlib.Core.List.{List, [], ◌∷◌, ◌++◌, map, append-nil, append_assoc}
use Prim.Native.Nat.{ℕ, suc, ◌+◌, ◌-◌, ◌≤◌, ◌<◌}
use native.Mathlib.Nat.{sub_self}
use native.Mathlib.Omega.{arith}
use lib.ListN.{length, get_or, take, drop}
use borrow.Author.Tests.{not-true}
use Rattle.plain.specs.Utf8.{valid_utf8, decode}
use Rattle.plain.specs.Count.{cr_last, lf_first}
use Rattle.plain.proofs.Logic.{and_left, and_right}
use Rattle.plain.proofs.Utf8.{valid-append}
use Rattle.text_info.specs.declared.TextSum.{TextSum}
use Rattle.pool.specs.declared.Kid.{Kid}
use Rattle.pool.specs.Slot.{no_kid}
use Rattle.child_search.specs.Sought.{plus_info, sum_from, search_from}
use Rattle.tree.specs.Tree.{join_over, every, seamless, sum_of, plus_sum}
use Rattle.tree.proofs.Counts.{valid-nil, counts-add}
use Rattle.tree.proofs.Sound.{join-valid}
use Rattle.tree_search.proofs.Seams.{Whole, no-back, near-back, far-front, far-back}

-- a child that has a text, and tells its counts
pub record Kin (f : Kid → List ℕ) (k : Kid) : Type 0 where
  pub valid : valid_utf8 (f k) ≡ true
  pub some : f k ≡ [] → ⊥
  pub told : (s : TextSum) → plus_info s k.info ≡ plus_sum s (sum_of (decode (f k)))

-- children that pass a test which says so
module _ (f : Kid → List ℕ) (g : Kid → Bool) (kin : (k : Kid) → g k ≡ true → Kin f k) where
  joined-valid : (ks : List Kid) → every g ks ≡ true → valid_utf8 (join_over f ks) ≡ true
  joined-valid ks e = join-valid f g (λ k h. (kin k h).valid) ks e

  next-seam : (k : Kid) (ks : List Kid) → every g ks ≡ true → seamless (map f (k ∷ ks)) ≡ true → Whole (f k) (join_over f ks)
  unfolding every join_over seamless
  next-seam k [] e s = no-back (f k)
  next-seam k (j ∷ ks) e s =
      far-back (f k) (f j) (join_over f ks) (kin j (and_left (g j) (every g ks) e)).some (not-true _ (and_left (not (cr_last (f k) && lf_first (f j))) _ s))

  later : (k : Kid) (ks : List Kid) → seamless (map f (k ∷ ks)) ≡ true → seamless (map f ks) ≡ true
  unfolding seamless
  later k [] s = refl
  later k (j ∷ ks) s = and_right (not (cr_last (f k) && lf_first (f j))) _ s

  -- one child more behind a text
  step : (pre : List ℕ) (k : Kid) → g k ≡ true → valid_utf8 pre ≡ true → Whole pre (f k) → plus_info (sum_of (decode pre)) k.info ≡ sum_of (decode (pre ++ f k))
  step pre k e v w = let q = kin k e in q.told (sum_of (decode pre)) ∙ sym (counts-add pre (f k) v q.valid w)

  step-valid : (pre : List ℕ) (k : Kid) → g k ≡ true → valid_utf8 pre ≡ true → valid_utf8 (pre ++ f k) ≡ true
  step-valid pre k e v = (valid-append pre (f k) v (kin k e).valid).0

  step-seam : (pre : List ℕ) (k : Kid) (x : List ℕ) → g k ≡ true → Whole (f k) x → Whole (pre ++ f k) x
  step-seam pre k x e w = go (f k) (kin k e).some w
    where
      go : (t : List ℕ) → (t ≡ [] → ⊥) → Whole t x → Whole (pre ++ t) x
      go [] n h = absurd (n refl)
      go (y ∷ t) n h = far-front pre y t x h

  -- THEOREM: the sums of the children are the counts of their texts joined
  pub sums : (pre : List ℕ) (ks : List Kid) → valid_utf8 pre ≡ true → every g ks ≡ true → seamless (map f ks) ≡ true → Whole pre (join_over f ks)
      → sum_from (sum_of (decode pre)) ks ≡ sum_of (decode (pre ++ join_over f ks))
  unfolding every join_over sum_from
  sums pre [] v e s w = ap (λ (l : List ℕ). sum_of (decode l)) (sym (append-nil pre))
  sums pre (k ∷ ks) v e s w =
      let a = and_left (g k) (every g ks) e in
      let b = and_right (g k) (every g ks) e in
      let u = near-back pre (f k) (join_over f ks) w in
      ap (λ (x : TextSum). sum_from x ks) (step pre k a v u)
      ∙ sums (pre ++ f k) ks (step-valid pre k a v) b (later k ks s) (step-seam pre k (join_over f ks) a (next-seam k ks b s))
      ∙ ap (λ (l : List ℕ). sum_of (decode l)) (append_assoc pre (f k) (join_over f ks))

  -- ── the child that a search finds ──

  module _ (stops : TextSum → Bool) where
    -- Of the children ks, the first of which is the i-th and has the text `pre` on its left, r is found: the text of ks parts into what lies
    -- before that child, its own text, and what lies behind it.
    pub record Chosen (i : ℕ) (pre : List ℕ) (ks : List Kid) (r : ℕ × TextSum) : Type 0 where
      pub before : List ℕ
      pub kid : Kid
      pub after : List ℕ
      pub from : i ≤ r.0
      pub inside : r.0 - i < length ks
      pub is : get_or ks (r.0 - i) no_kid ≡ kid
      pub passes : g kid ≡ true
      -- the texts of the children before it, and of those behind it
      pub before-is : before ≡ join_over f (take (r.0 - i) ks)
      pub after_is : after ≡ join_over f (drop (suc (r.0 - i)) ks)
      pub whole : join_over f ks ≡ before ++ (f kid ++ after)
      pub valid-before : valid_utf8 before ≡ true
      pub valid-after : valid_utf8 after ≡ true
      pub seam-before : Whole (pre ++ before) (f kid)
      pub seam-after : Whole (f kid) after
      pub counts : r.1 ≡ sum_of (decode (pre ++ before))
      -- the search does not stop before this child, and stops at it, unless it is the first or the last
      pub passed : (before ≡ [] → ⊥) → stops r.1 ≡ false
      pub stopped : (after ≡ [] → ⊥) → stops (sum_of (decode ((pre ++ before) ++ f kid))) ≡ true

    here : (i : ℕ) (pre : List ℕ) (k : Kid) (ks : List Kid) → g k ≡ true → every g ks ≡ true → Whole pre (f k) → Whole (f k) (join_over f ks)
        → ((join_over f ks ≡ [] → ⊥) → stops (sum_of (decode (pre ++ f k))) ≡ true) → Chosen i pre (k ∷ ks) (i, sum_of (decode pre))
    unfolding join_over
    here i pre k ks a b u w h =
        let nil : pre ++ [] ≡ pre = append-nil pre in
        record {
          before = [];
          kid = k;
          after = join_over f ks;
          from = omega arith;
          inside = omega arith;
          is = ap (λ (n : ℕ). get_or (k ∷ ks) n no_kid) (sub_self i);
          passes = a;
          before-is = sym (ap (λ (n : ℕ). join_over f (take n (k ∷ ks))) (sub_self i));
          after_is = sym (ap (λ (n : ℕ). join_over f (drop (suc n) (k ∷ ks))) (sub_self i));
          whole = refl;
          valid-before = valid-nil;
          valid-after = joined-valid ks b;
          seam-before = rw nil u;
          seam-after = w;
          counts = rw nil;
          passed = λ n. absurd (n refl);
          stopped = λ n. rw nil (h n);
        }

    there : (i : ℕ) (pre : List ℕ) (k : Kid) (ks : List Kid) (r : ℕ × TextSum) → g k ≡ true → stops (sum_of (decode (pre ++ f k))) ≡ false
        → Chosen (i + 1) (pre ++ f k) ks r → Chosen i pre (k ∷ ks) r
    unfolding join_over
    there i pre k ks r a e c =
        let n : suc (r.0 - (i + 1)) ≡ r.0 - i = omega (arith, c.from) in
        let j : (pre ++ f k) ++ c.before ≡ pre ++ (f k ++ c.before) = append_assoc pre (f k) c.before in
        record {
          before = f k ++ c.before;
          kid = c.kid;
          after = c.after;
          from = omega (arith, c.from);
          inside = omega (arith, c.from, c.inside);
          is = ap (λ (x : ℕ). get_or (k ∷ ks) x no_kid) (sym n) ∙ c.is;
          passes = c.passes;
          before-is = ap (λ (l : List ℕ). f k ++ l) c.before-is ∙ ap (λ (x : ℕ). join_over f (take x (k ∷ ks))) n;
          after_is = c.after_is ∙ ap (λ (x : ℕ). join_over f (drop (suc x) (k ∷ ks))) n;
          whole = ap (λ (l : List ℕ). f k ++ l) c.whole ∙ sym (append_assoc (f k) c.before (f c.kid ++ c.after));
          valid-before = (valid-append (f k) c.before (kin k a).valid c.valid-before).0;
          valid-after = c.valid-after;
          seam-before = rw j at c.seam-before;
          seam-after = c.seam-after;
          counts = rw j at c.counts;
          passed = λ z. go c.before refl;
          stopped = λ z. rw j at (c.stopped z);
        }
      where
        go : (b : List ℕ) → c.before ≡ b → stops r.1 ≡ false
        go [] z = ap stops (c.counts ∙ ap (λ (l : List ℕ). sum_of (decode ((pre ++ f k) ++ l))) z ∙ ap (λ (l : List ℕ). sum_of (decode l)) (append-nil (pre ++ f k))) ∙ e
        go (x ∷ b) z = c.passed (λ q. let v : x ∷ b ≡ [] = sym z ∙ q in absurd (let y : ◌≡◌ {A = ℕ} 0 1 = cc in omega arith))

    -- THEOREM: the text parts at the child that a search finds
    pub chosen : (i : ℕ) (pre : List ℕ) (k : Kid) (ks : List Kid) → valid_utf8 pre ≡ true → every g (k ∷ ks) ≡ true → seamless (map f (k ∷ ks)) ≡ true
        → Whole pre (f k) → Chosen i pre (k ∷ ks) (search_from stops i (sum_of (decode pre)) (k ∷ ks))
    unfolding every search_from join_over
    chosen i pre k [] v e s u = here i pre k [] (and_left (g k) true e) refl u (no-back (f k)) (λ n. absurd (n refl))
    chosen i pre k (j ∷ ks) v e s u =
        let a = and_left (g k) (every g (j ∷ ks)) e in
        let b = and_right (g k) (every g (j ∷ ks)) e in
        let p = step pre k a v u in
        let w = next-seam k (j ∷ ks) b s in
        let near = near-back (f k) (f j) (join_over f ks) w in
        let ih = chosen (i + 1) (pre ++ f k) j ks (step-valid pre k a v) b (later k (j ∷ ks) s) (step-seam pre k (f j) a near) in
        go (plus_info (sum_of (decode pre)) k.info) p (stops (sum_of (decode (pre ++ f k)))) refl a b w ih
      where
        on : TextSum → ℕ × TextSum
        on x = search_from stops (i + 1) x (j ∷ ks)

        go : (x : TextSum) → x ≡ sum_of (decode (pre ++ f k)) → (t : Bool) → stops (sum_of (decode (pre ++ f k))) ≡ t → g k ≡ true → every g (j ∷ ks) ≡ true
            → Whole (f k) (join_over f (j ∷ ks)) → Chosen (i + 1) (pre ++ f k) (j ∷ ks) (on (sum_of (decode (pre ++ f k))))
            → Chosen i pre (k ∷ j ∷ ks) (cond (stops x) (i, sum_of (decode pre)) (on x))
        go x p true z a b w ih = rw (p, z) (here i pre k (j ∷ ks) a b u w (λ n. z))
        go x p false z a b w ih = rw (p, z) (there i pre k (j ∷ ks) (on (sum_of (decode (pre ++ f k)))) a z ih)
