-- Two full leaves whose seam parts a CR from its LF cannot be mended: the left one would get 513 bytes.
use mathlib.Core.Path.{◌≡◌, refl, sym, ap, ◌∙◌}
use mathlib.Core.Bool.{Bool, true, false, ◌&&◌, ◌||◌, false≢true}
use mathlib.Core.List.{List, [], ◌∷◌, ◌++◌}
use Prim.Native.Nat.{ℕ, ◌≤◌}
use native.Mathlib.Omega.{arith}
use lib.ListN.{length, drop, length-append}
use lib.Seq.{length-take-le, take_at, drop_at}
use borrow.Author.Tests.{ne_eqb}
use Rattle.plain.specs.Utf8.{valid_utf8}
use Rattle.plain.specs.Count.{cr_last, lf_first}
use Rattle.plain.specs.Outcome.{Outcome.refused, Rule}
use Rattle.plain.proofs.Logic.{or_left, or_right, or-none}
use Rattle.plain.proofs.Outcome.{rule-passed, one-applies}
use Rattle.crlf.specs.Break.{is_break}
use Rattle.crlf.proofs.Breaks.{next-above, break-seam}
use Rattle.crlf.proofs.Near.{next-near}
use Rattle.leaf_bytes.specs.Leaf.{leaf_of, over}
use Rattle.leaf_bytes.specs.Split.{seam_split}
use Rattle.leaf_bytes.specs.Raw.{cut_at, over_sides, no_side}
use Rattle.leaf_bytes.proofs.Rules.{over_yes}
use Rattle.leaf_bytes.proofs.Split.{seam-right}
use Rattle.node_text.specs.Texts.{no_text, seam_fixed}
use Rattle.node_text.proofs.Rules.{both-texts}

-- a seam between CR and LF is no break
pub no-break : (l r : List ℕ) → (cr_last l && lf_first r) ≡ true → is_break (l ++ r) (length l) ≡ false
no-break l r e = go (is_break (l ++ r) (length l)) refl
  where
    go : (t : Bool) → is_break (l ++ r) (length l) ≡ t → t ≡ false
    go false f = refl
    go true f =
        absurd
        (false≢true
        (sym (break-seam (l ++ r) (length l) (omega (arith, length-append l r)) f)
        ∙ ap (λ (x : List ℕ). cr_last x && lf_first (drop (length l) (l ++ r))) (take_at l r (length l) refl)
        ∙ ap (λ (x : List ℕ). cr_last l && lf_first x) (drop_at l r (length l) refl)
        ∙ e))

module _ (left right : List ℕ) (h : 512 ≤ length left) (k : 512 ≤ length right) where
  abbrev l : List ℕ
  l = leaf_of left 512

  abbrev r : List ℕ
  r = leaf_of right 512

  -- THEOREM: they are refused by 11
  pub full-leaves : valid_utf8 l ≡ true → valid_utf8 r ≡ true → (cr_last l && lf_first r) ≡ true → seam_fixed left 512 right 512 ≡ refused 11
  unfolding seam_fixed
  full-leaves v w e =
      let a = length-take-le 512 left h in
      let b = length-take-le 512 right k in
      let p = seam_split l r in
      let given = over left 512 || over right 512 in
      let sides = over_sides left right (l ++ r) p in
      let long : Rule = (11, given || sides) in
      let near = next-near r 0 w (omega arith) in
      let above = next-above r 0 (omega arith) in
      let split = seam-right l r (no-break l r e) (omega arith) (omega arith) in
      rule-passed 12 (no_side l r).1 (no_text l r ∷ long ∷ []) (cut_at (l ++ r) p)
      (or-none _ _ (ne_eqb (length l) 0 (omega arith)) (ne_eqb (length r) 0 (omega arith)))
      ∙ rule-passed 5 (no_text l r).1 (long ∷ []) (cut_at (l ++ r) p) (both-texts l r v w)
      ∙ one-applies 11 (given || sides) (cut_at (l ++ r) p) (or_right given sides (or_left (over left p) _ (over_yes left p (omega arith))))
