-- The way of a search down the tree: at each list the child that it went on in, up to the leaf. An edit goes the same way.
use mathlib.Core.Path.{◌≡◌}
use mathlib.Core.List.{List, [], ◌∷◌, ◌++◌}
use Prim.Native.Nat.{ℕ, zero, suc, ◌-◌}
use lib.ListN.{length}
use Rattle.plain.specs.Outcome.{Outcome.value}
use Rattle.text_info.specs.declared.TextSum.{TextSum}
use Rattle.pool.specs.declared.Kid.{Kid}
use Rattle.child_search.specs.declared.Measure.{Measure}
use Rattle.nodes.specs.Node.{text_of, children_of}
use Rattle.tree.specs.Tree.{join_over, bytes_below}
use Rattle.tree.specs.Kids.{below}
use Rattle.tree_search.specs.Search.{count_in, branch_at}
use Rattle.tree_search.proofs.Seams.{Whole}

-- The list in slot s, whose children have height h: the search goes on in kid, below which the text parts into `near`, the leaf's text and `far`.
-- The way from there on is one of `Down`.
pub record Turn (m : List ℕ) (h s : ℕ) (by : Measure) (at leaf : ℕ) (before after : List ℕ) (Down : ℕ → ℕ → List ℕ → List ℕ → Type 0) : Type 0 where
  pub pre : List Kid
  pub kid : Kid
  pub post : List Kid
  pub left : TextSum
  pub near : List ℕ
  pub far : List ℕ
  pub is : branch_at m s by at ≡ value (length pre, (kid.slot, left))
  pub children : children_of m s ≡ pre ++ (kid ∷ post)
  pub whole : bytes_below m h kid.slot ≡ near ++ (text_of m leaf ++ far)
  pub seam-before : Whole (join_over (below m h) pre) (below m h kid)
  pub seam-after : Whole (below m h kid) (join_over (below m h) post)
  pub before-is : before ≡ join_over (below m h) pre ++ near
  pub after_is : after ≡ far ++ join_over (below m h) post
  pub down : Down kid.slot (at - count_in by left) near far

-- the way to a leaf, with the texts before and behind it
unfoldable pub Way : List ℕ → ℕ → ℕ → Measure → ℕ → ℕ → List ℕ → List ℕ → Type 0
Way m zero s by at leaf before after = (leaf ≡ s) × ((before ≡ []) × (after ≡ []))
Way m (suc h) s by at leaf before after = Turn m h s by at leaf before after (λ c i b a. Way m h c by i leaf b a)
