-- The calls of a child list by value, and the searches.
use mathlib.Core.Path.{refl}
use mathlib.Core.Bool.{◌||◌}
use mathlib.Core.List.{List, [], ◌∷◌}
use Prim.Native.Nat.{ℕ, ◌+◌}
use lib.Dec.{eqb, leb}
use Rattle.plain.specs.Outcome.{past}
use Rattle.text_info.specs.Info.{zeros}
use Rattle.pool.specs.declared.Kid.{Kid}
use Rattle.pool.specs.Calls.{outside}
use Rattle.node_children.specs.declared.NodeChildren.{NodeChildren}
use Rattle.node_children.specs.Calls.{no_child, too_long, pushed, popped, inserted, removed, split_off, pushed_split, inserted_split, distributed}
use Rattle.child_search.specs.declared.Measure.{Measure}
use Rattle.child_search.specs.declared.Measure.TheVariants.{Chars}
use Rattle.child_search.specs.Sought.{sum_from, total, first_in, most_of, combined, searched, searched_in, searched_range}
use Rattle.refusal_order.specs.Order.{InOrder}
use Rattle.refusal_order.proofs.Given.{by-rules}

module _ (c : NodeChildren) where
  -- `push`, `pop`, `insert`, `remove`, `split_off`
  pub pushed-order : (k : Kid) → InOrder (too_long (c.len + 1) ∷ []) (pushed c k)
  unfolding pushed
  pushed-order k = by-rules _ _ refl

  pub popped-order : InOrder (no_child c ∷ too_long c.len ∷ []) (popped c)
  unfolding popped
  popped-order = by-rules _ _ refl

  pub inserted-order : (i : ℕ) (k : Kid) → InOrder ((3, past i c.len) ∷ too_long (c.len + 1) ∷ []) (inserted c i k)
  unfolding inserted
  inserted-order i k = by-rules _ _ refl

  pub removed-order : (i : ℕ) → InOrder (no_child c ∷ (3, leb c.len i) ∷ too_long c.len ∷ []) (removed c i)
  unfolding removed
  removed-order i = by-rules _ _ refl

  pub split-off-order : (i : ℕ) → InOrder ((3, past i c.len) ∷ too_long c.len ∷ []) (split_off c i)
  unfolding split_off
  split-off-order i = by-rules _ _ refl

  -- `push_split`, `insert_split`, `distribute_with`
  pub pushed-split-order : (k : Kid) → InOrder (no_child c ∷ too_long c.len ∷ []) (pushed_split c k)
  unfolding pushed_split
  pushed-split-order k = by-rules _ _ refl

  pub inserted-split-order : (i : ℕ) (k : Kid) → InOrder (no_child c ∷ (3, past i c.len) ∷ too_long c.len ∷ []) (inserted_split c i k)
  unfolding inserted_split
  inserted-split-order i k = by-rules _ _ refl

  pub distributed-order : (d : NodeChildren) → InOrder ((11, past c.len 16 || past d.len 16) ∷ []) (distributed c d)
  unfolding distributed
  distributed-order d = by-rules _ _ refl

  -- `combined_info`, and the searches
  pub combined-order : InOrder (too_long c.len ∷ []) (combined c)
  unfolding combined
  combined-order = by-rules _ _ refl

  pub searched-order : (by : Measure) (at : ℕ) → InOrder (no_child c ∷ (3, past at (most_of by (total c))) ∷ too_long c.len ∷ []) (searched c by at)
  unfolding searched
  searched-order by at = by-rules _ _ refl

  pub searched-range-order : (s e : ℕ) → InOrder (no_child c ∷ (3, past s e || past e (most_of Chars (total c))) ∷ too_long c.len ∷ []) (searched_range c s e)
  unfolding searched_range
  searched-range-order s e = by-rules _ _ refl

-- `search_in`
pub searched-in-order : (m : List ℕ) (s n : ℕ) (by : Measure) (at : ℕ)
    → InOrder ((12, eqb n 0) ∷ (2, outside m s) ∷ (3, past at (most_of by (sum_from zeros (first_in m s n)))) ∷ too_long n ∷ []) (searched_in m s n by at)
unfolding searched_in
searched-in-order m s n by at = by-rules _ _ refl
