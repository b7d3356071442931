-- What a split or a distribution of a list by value does to what lies below it: the two lists have the children of the whole in their
-- order, so the same slots and counts, and the sums of the two add up to those of the whole. No function of this crate needs it; the tree does.
use mathlib.Core.Path.{◌≡◌, refl, ap, ◌∙◌}
use mathlib.Core.List.{List, [], ◌∷◌, ◌++◌}
use Prim.Native.Nat.{ℕ, ◌+◌}
use native.Mathlib.Omega.{arith}
use lib.ListN.{take, drop, take-append-drop}
use Rattle.text_info.specs.Info.{zeros}
use Rattle.text_info.specs.declared.TextSum.{TextSum}
use Rattle.pool.specs.declared.Kid.{Kid}
use Rattle.node_children.specs.Kids.{kids, list_of}
use Rattle.node_children.specs.Calls.{cut_at}
use Rattle.node_children.proofs.Lists.{kids-of}
use Rattle.child_search.specs.Sought.{plus_info, sum_from}
use Rattle.nodes.specs.Node.{total_of}

-- THEOREM: of a list cut in two, as every split, distribution and parting leaves it, the children joined are the whole
pub parts_whole : (n : ℕ) (ks : List Kid) → kids (cut_at n ks).0 ++ kids (cut_at n ks).1 ≡ ks
parts_whole n ks =
    ap (λ (l : List Kid). l ++ kids (list_of (drop n ks))) (kids-of (take n ks)) ∙ ap (λ (l : List Kid). take n ks ++ l) (kids-of (drop n ks)) ∙ take-append-drop n ks

-- each of the four sums is that of two others together
pub record Adds (r s t : TextSum) : Type 0 where
  pub bytes : r.bytes ≡ s.bytes + t.bytes
  pub chars : r.chars ≡ s.chars + t.chars
  pub surrogates : r.utf16_surrogates ≡ s.utf16_surrogates + t.utf16_surrogates
  pub breaks : r.line_breaks ≡ s.line_breaks + t.line_breaks

-- children on top of a sum
on-top : (s : TextSum) (ks : List Kid) → Adds (sum_from s ks) s (total_of ks)
unfolding sum_from
on-top s [] = record { bytes = omega arith; chars = omega arith; surrogates = omega arith; breaks = omega arith }
on-top s (k ∷ ks) =
    let a = on-top (plus_info s k.info) ks in
    let b = on-top (plus_info zeros k.info) ks in
    record {
      bytes = omega (arith, a.bytes, b.bytes);
      chars = omega (arith, a.chars, b.chars);
      surrogates = omega (arith, a.surrogates, b.surrogates);
      breaks = omega (arith, a.breaks, b.breaks);
    }

one_by_one : (s : TextSum) (xs ys : List Kid) → sum_from s (xs ++ ys) ≡ sum_from (sum_from s xs) ys
unfolding sum_from
one_by_one s [] ys = refl
one_by_one s (x ∷ xs) ys = one_by_one (plus_info s x.info) xs ys

-- THEOREM: the sums of two lists of children add up to those of both
pub sums-add : (xs ys : List Kid) → Adds (total_of (xs ++ ys)) (total_of xs) (total_of ys)
sums-add xs ys =
    let e = one_by_one zeros xs ys in
    let a = on-top (total_of xs) ys in
    record {
      bytes = ap (λ (s : TextSum). s.bytes) e ∙ a.bytes;
      chars = ap (λ (s : TextSum). s.chars) e ∙ a.chars;
      surrogates = ap (λ (s : TextSum). s.utf16_surrogates) e ∙ a.surrogates;
      breaks = ap (λ (s : TextSum). s.line_breaks) e ∙ a.breaks;
    }
