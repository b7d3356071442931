-- A leaf's new text between the texts of its siblings: the seams one level down, those at the child's two ends, and that no child's text is empty.
use mathlib.Core.Path.{◌≡◌, sym, ap, subst, ◌∙◌}
use mathlib.Core.Bool.{true}
use mathlib.Core.List.{List, [], ◌∷◌, ◌++◌, append_assoc}
use Prim.Native.Nat.{ℕ, ◌≤◌}
use native.Mathlib.Omega.{arith}
use lib.ListN.{length, length-append}
use Rattle.pool.specs.declared.Kid.{Kid}
use Rattle.tree.specs.Tree.{every}
use Rattle.tree.specs.Kids.{below, fine}
use Rattle.tree.proofs.Lists.{join-cons, every-head, every-tail}
use Rattle.tree_search.proofs.Seams.{Whole, near-front, near-back, over-front, over-back}
use Rattle.list_step.proofs.Totals.{filled}
use Rattle.edit_steps.specs.Became.{bytes_all}

-- ── seams ──

-- the text `own` of a child stands between p and q, and becomes near, new and far; its end towards p and q stay
module _ (p near text far q new own : List ℕ) (whole : own ≡ near ++ (text ++ far)) (front : Whole p own) (back : Whole own q)
    (left : Whole (p ++ near) (new ++ (far ++ q))) (right : Whole new (far ++ q)) where
  abbrev pub anew : List ℕ
  anew = near ++ (new ++ far)

  behind : Whole near ((new ++ far) ++ q)
  behind = subst (Whole near) (sym (append_assoc new far q)) (near-front p near (new ++ (far ++ q)) left)

  -- inside the child
  pub inner-left : Whole near (new ++ far)
  inner-left = near-back near (new ++ far) q behind

  pub inner-right : Whole new far
  inner-right = near-back new far q right

  -- at its two ends
  pub outer-left : Whole p (anew ++ q)
  outer-left =
      let e : near ++ (new ++ (far ++ q)) ≡ anew ++ q = simp append_assoc in
      subst (Whole p) e (over-back p near (new ++ (far ++ q)) (near-back p near (text ++ far) (subst (Whole p) whole front)) left)

  pub outer-right : Whole anew q
  outer-right =
      let e : own ≡ (near ++ text) ++ far = whole ∙ sym (append_assoc near text far) in
      let end : Whole far q = near-front (near ++ text) far q (subst (λ (t : List ℕ). Whole t q) e back) in
      over-front near (new ++ far) q behind (over-front new far q right end)

  pub all-text : p ++ (anew ++ q) ≡ (p ++ near) ++ (new ++ (far ++ q))
  all-text = simp append_assoc

-- ── not empty ──

-- no child's text is empty
pub each-filled : (m : List ℕ) (g : ℕ) (ks : List Kid) → every (fine m g) ks ≡ true → length ks ≤ length (bytes_all m g ks)
each-filled m g [] e = omega arith
each-filled m g (k ∷ ks) e =
    omega (arith, ap length (join-cons (below m g) k ks), length-append (below m g k) (bytes_all m g ks), filled m g k (every-head (fine m g) k ks e), each-filled m g ks (every-tail (fine m g) k ks e))
