-- Two children of a list merged, or what they hold distributed: the list afterwards, and what the call comes to.
use Rattle.std.specs.Prelude.{◌≡◌, Bool, false, cond, List, ℕ, eqb}
use Rattle.plain.specs.Outcome.{Outcome, Outcome.value, mapped}
use Rattle.pool.specs.declared.Kid.{Kid}
use Rattle.node_children.specs.Kids.{list_of}
use Rattle.node_children.specs.Calls.{without}
use Rattle.nodes.specs.Node.{list_put, children_of, counts_of}
use Rattle.nodes.specs.Calls.{counted}
use Rattle.child_info.specs.Kin.{slot_in}
use Rattle.child_info.specs.Renewed.{renewed}
use Rattle.child_info.specs.Calls.{after, pair_rules}
use Rattle.merge.specs.Join.{joined}

-- the memory m when the list in slot p, which had the children ks, is brought up to date: merged, it has no child j any more
abbrev pub relisted_without : ℕ → List Kid → ℕ → List ℕ → List ℕ
relisted_without p ks j m = list_put m p (list_of (without j ks))

abbrev pub settled_memory : ℕ → List Kid → ℕ → ℕ → Bool → List ℕ → List ℕ
settled_memory p ks i j merged m = cond merged (renewed (relisted_without p ks j m) p i) (renewed (renewed m p i) p j)

abbrev pub settled : ℕ → List Kid → ℕ → ℕ → Bool × List ℕ → Bool × List ℕ
settled p ks i j (merged, m) = (merged, settled_memory p ks i j merged m)

-- what makes that possible: both are nodes that can be counted, and not the list itself
pub record Ready (m : List ℕ) (p a b : ℕ) : Type 0 where
  pub left-counts : counted m a ≡ value (counts_of m a)
  pub right-counts : counted m b ≡ value (counts_of m b)
  pub first : eqb p a ≡ false
  pub second : eqb p b ≡ false

-- the children of the list in slot p at i and j
abbrev pub merged : List ℕ → ℕ → List Kid → ℕ → ℕ → Outcome (Bool × List ℕ)
merged m p ks i j = mapped (settled p ks i j) (joined m (slot_in ks i) (slot_in ks j))

-- Of the refusals behind the rules, 2 is for lists alone and 11 for leaves alone, so that the lowest number is given.
unfoldable pub merging : List ℕ → ℕ → ℕ → ℕ → Outcome (Bool × List ℕ)
unfolding after joined
merging m p i j = after (pair_rules m p i j) (merged m p (children_of m p) i j)
